-- What a writer's return leaves as it was: all of the world but its parts, its premises, and what its call has met.
use Rattle.jc_world.proofs.Common.{◌≡◌, ℕ, List, Option, option_map, WriterFailed, Bytes, CallState, with_met_by, keys_reported, after_reports, report_for, WorldState, reported_now}
use Rattle.jc_world.proofs.Returns.{IsBeside, returned}

-- the writer of a call has returned
pub beside : (w new : WorldState) (call : ℕ) (u : CallState) (left : List Bytes) (fault : Option ℕ) → new ≡ after_reports (with_met_by w call (option_map WriterFailed fault)) call (report_for u.kind left fault) (keys_reported (reported_now w call u))
    → IsBeside (with_met_by w call (option_map WriterFailed fault)) new
beside w new call u left fault is = returned (with_met_by w call (option_map WriterFailed fault)) new call (report_for u.kind left fault) (keys_reported (reported_now w call u)) is

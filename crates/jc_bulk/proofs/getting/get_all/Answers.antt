use Rattle.jc_bulk.proofs.Common.{TellsFound, IsRoomOfCall, get_ops, Load, Bytes, Get, as_many, found_entries, key_ends, Refusal, List, inl, length, refl, sym, ap, subst, ◌∙◌, arith}
use Rattle.jc_bulk.proofs.CarriedOut.{got_of, none_failed, own_room}
use Rattle.jc_bulk.proofs.Returning.{each_asks}
use Rattle.jc_bulk.proofs.getting.get_all.Goals.{In-Ok}
use Rattle.jc_bulk.proofs.getting.get_all.Goals as goal

-- the memory is for these keys
ready : (g : _) (c : In-Ok g) → IsRoomOfCall (get_ops c.as_slice.result.now) c.args.cache.now.config.stripes c.in-Ok.room
ready g c =
    own_room Load c.len-2.result c.config.result.now.stripes c.args.cache.now.config.stripes c.in-Ok.room (get_ops c.as_slice.result.now) c.in-Ok.ensures.0
    (c.len-2.ensures.len ∙ ap length (sym c.as_slice.ensures.keys) ∙ sym (as_many (λ k. (k, Get)) c.as_slice.result.now)) (ap (λ config. config.stripes) c.config.ensures.config)
    (each_asks Load Get c.as_slice.result.now c.args.keys.now.keys (inl refl) c.as_slice.ensures.keys c.as_slice.ensures.unique)

pub carry_out-outcome-requires-clause-room : goal.carry_out-outcome-requires-clause-room
carry_out-outcome-requires-clause-room g c = ready g (goal.at.carry_out-outcome-requires-clause-room g c).In-Ok

pub add_entries-requires-clause-distinct : goal.add_entries-requires-clause-distinct
add_entries-requires-clause-distinct g c = (ready g (goal.at.add_entries-requires-clause-distinct g c).In-Ok).distinct

pub with_values-requires : goal.with_values-requires
with_values-requires g c =
    let outcome = c.carry_out-outcome in
    let call = outcome.ensures.call in
    none_failed outcome.result.cause (key_ends (get_ops c.as_slice.result.now) outcome.result.progress.items) call.carried.rounds outcome.result.failed.entries call.failed call.carried.met

pub returns-in-Ok : goal.returns-in-Ok
returns-in-Ok g c =
    let outcome = c.carry_out-outcome in
    let call = outcome.ensures.call in
    let ends = key_ends (get_ops c.as_slice.result.now) outcome.result.progress.items in
    let found = c.add_entries.ensures ∙ ap (λ ps. found_entries (key_ends (get_ops c.as_slice.result.now) ps)) c.as_slice-in-Ok.ensures.value in
    record {
      may = outcome.ensures.may;
      call = inl (
        omega (arith, c.if-len-gt-BULK_KEYS_MAX.false, c.len.ensures.len),
        inl (got_of _ c.args.cache.now c.args.session.now outcome.new.session (get_ops c.as_slice.result.now) (get_ops c.args.keys.now.keys) c.with_values.result ends outcome.result.cause
            (ap get_ops c.as_slice.ensures.keys) call.carried
            (subst (λ (z : List (Bytes × Refusal) × List (Bytes × Bytes)). TellsFound c.with_values.result outcome.result.cause z.0 z.1) (λ i. (call.failed i, found i)) c.with_values.ensures)),
      );
    }

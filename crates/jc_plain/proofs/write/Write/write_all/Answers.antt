use Rattle.std.proofs.Common.{rules, inl}
use Rattle.jc_plain.specs.Writes.{WritesOne}
use Rattle.jc_plain.proofs.Passing.{RetainsPairs-passed, when_none}
use Rattle.jc_plain.proofs.write.Write.write_all.Goals as goal

pub returns : goal.returns
returns g c = inl (
  RetainsPairs-passed (λ s. s.0.now) _ (WritesOne g.Self.Write.writes g.Self.Write.write_state) (λ s k v b w s' call. (call.0, search rules, call.2, call.3)) _ _ _ c.attempt_entries.ensures.left,
  when_none _ c.attempt_entries.new.entries.entries c.attempt_entries.ensures.ok,
)

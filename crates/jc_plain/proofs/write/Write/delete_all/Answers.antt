use Rattle.std.proofs.Common.{rules, inl}
use Rattle.jc_plain.specs.Writes.{DeletesOne}
use Rattle.jc_plain.proofs.Passing.{IsFiltered-passed, when_none}
use Rattle.jc_plain.proofs.write.Write.delete_all.Goals as goal

pub returns : goal.returns
returns g c = inl (
  IsFiltered-passed (λ s. s.0.now) _ (DeletesOne g.Self.Write.writes g.Self.Write.write_state) (λ s x b s' call. (call.0, search rules, call.2)) _ _ _ c.attempt_keys.ensures.left,
  when_none _ c.attempt_keys.new.keys.keys c.attempt_keys.ensures.ok,
)

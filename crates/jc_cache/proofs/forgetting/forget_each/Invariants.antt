use Rattle.jc_cache.proofs.Common.{◌≡◌, KeepRow}
use Rattle.jc_cache.specs.Forgetting.{HasForgottenAll}
use Rattle.jc_cache.proofs.Meetings.{HasRest}
use Rattle.jc_cache.proofs.Readings.{DoneBelow}
use Rattle.jc_cache.proofs.forgetting.forget_each.Given as goal

abbrev pub invariant-loop-i : goal.invariant-loop-i
invariant-loop-i g l = record {
  agent : l.agent ≡ l.initial.agent;
  keeps : KeepRow l.initial.seats.items l.seats.items;
  rest : HasRest l.i l.initial.seats.items l.seats.items;
  forgot : DoneBelow HasForgottenAll l.i l.initial.seats.items l.seats.items;
}

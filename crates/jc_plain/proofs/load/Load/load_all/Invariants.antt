use Rattle.std.proofs.Common.{◌≡◌, drop}
use Rattle.jc_plain.proofs.Loads.{HasLoaded}
use Rattle.jc_plain.proofs.load.Load.load_all.Given as goal

abbrev pub invariant-loop-key : goal.invariant-loop-key
invariant-loop-key g l = record {
  loads : HasLoaded g.Self.Load.loads g.Self.Load.load_state l.fn.self l.keys l.fn.answers.by_key l.self (drop l.key-index l.keys) l.answers.by_key;
  room : l.answers.room ≡ l.fn.answers.room;
}

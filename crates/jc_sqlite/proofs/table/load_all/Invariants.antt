use Rattle.std.proofs.Common.{◌≡◌, drop}
use Rattle.sqlite.specs.Held.{state}
use Rattle.sqlite.specs.State.{Survives}
use Rattle.jc_sqlite.specs.Statements.{CommitsLoading}
use Rattle.jc_sqlite.proofs.Statements.{Loading}
use Rattle.jc_sqlite.proofs.table.load_all.Given as goal

abbrev pub invariant-loop-key : goal.invariant-loop-key
invariant-loop-key g l = record {
  loads : Loading g.S.Store l.keys (drop l.key-index l.keys) l.fn.conn l.conn l.fn.answers.by_key l.answers.by_key;
  room : l.answers.room ≡ l.fn.answers.room;
  survives : Survives (state g.S.Store l.fn.conn) (state g.S.Store l.conn) (CommitsLoading g.S.Store l.keys);
}

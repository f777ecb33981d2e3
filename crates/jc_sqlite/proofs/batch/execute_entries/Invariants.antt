use Rattle.std.proofs.Common.{◌≡◌}
use Rattle.jc_sqlite.specs.Batch.{in_transaction}
use Rattle.jc_sqlite.specs.Statements.{entry_row}
use Rattle.jc_sqlite.proofs.Batches.{UnderWay}
use Rattle.jc_sqlite.proofs.batch.execute_entries.Given as goal

abbrev pub invariant-loop-key : goal.invariant-loop-key
invariant-loop-key g l =
    UnderWay g.S.Store l.sql entry_row l.entries.entries l.key-iterator (in_transaction l.fn.conn) l.transaction.conn.now × (l.transaction.conn.ghost_name ≡ l.initial.transaction.conn.ghost_name)

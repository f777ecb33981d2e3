use Rattle.std.proofs.Common.{map, subst, sym}
use Rattle.jc_sqlite.specs.Batch.{RunsAsOne}
use Rattle.jc_sqlite.specs.Statements.{entry_row, write_sql}
use Rattle.jc_sqlite.proofs.Statements.{same_error}
use Rattle.jc_sqlite.proofs.table.write_all.Goals as goal

pub returns-in_err-execute_entries-clause-batch : goal.returns-in_err-execute_entries-clause-batch
returns-in_err-execute_entries-clause-batch g c =
    subst (RunsAsOne g.S.Store write_sql (map entry_row c.args.entries.now.entries) c.args.conn.now c.execute_entries.new.conn) (sym (same_error c.from_residual.result c.in_err-execute_entries.field-0.0 c.from_residual.ensures.1))
    c.in_err-execute_entries.ensures

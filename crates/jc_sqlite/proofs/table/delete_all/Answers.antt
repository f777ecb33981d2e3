use Rattle.std.proofs.Common.{map, subst, sym}
use Rattle.jc_sqlite.specs.Batch.{RunsAsOne}
use Rattle.jc_sqlite.specs.Statements.{key_row, delete_sql}
use Rattle.jc_sqlite.proofs.Statements.{same_error}
use Rattle.jc_sqlite.proofs.table.delete_all.Goals as goal

pub returns-in_err-execute_keys-clause-batch : goal.returns-in_err-execute_keys-clause-batch
returns-in_err-execute_keys-clause-batch g c =
    subst (RunsAsOne g.S.Store delete_sql (map key_row c.args.keys.now.keys) c.args.conn.now c.execute_keys.new.conn) (sym (same_error c.from_residual.result c.in_err-execute_keys.field-0.0 c.from_residual.ensures.1))
    c.in_err-execute_keys.ensures

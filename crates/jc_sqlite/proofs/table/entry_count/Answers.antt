use Rattle.std.proofs.Common.{inl, subst, sym}
use Rattle.sqlite.specs.Held.{state}
use Rattle.jc_sqlite.specs.Statements.{Counts}
use Rattle.jc_sqlite.proofs.Statements.{same_error}
use Rattle.jc_sqlite.proofs.table.entry_count.Goals as goal

pub returns-in_err-query_row-clause-counts : goal.returns-in_err-query_row-clause-counts
returns-in_err-query_row-clause-counts g c clean =
    subst (Counts (state g.S.Store c.args.conn.now) (state g.S.Store c.query_row.new.self)) (sym (same_error c.from_residual.result c.in_err-query_row.field-0.0 c.from_residual.ensures.1))
    (inl (c.in_err-query_row.ensures.row clean))

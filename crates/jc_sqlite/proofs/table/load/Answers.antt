use Rattle.std.proofs.Common.{Result, Ok, Err, Option, List, ℕ, inl, inr, subst, sym}
use Rattle.sqlite.specs.declared.error.Error.{Error}
use Rattle.sqlite.specs.Order.{Row}
use Rattle.sqlite.specs.State.{State, Shown}
use Rattle.sqlite.specs.Held.{state}
use Rattle.jc_sqlite.specs.Statements.{load_sql, key_row, IsInFirst, Loads}
use Rattle.jc_sqlite.proofs.Statements.{same_error}
use Rattle.jc_sqlite.proofs.table.load.Goals as goal

loads_shown : (key : List ℕ) (old new : State) (rows : List Row) (r : Result (Option (List ℕ)) Error) → Shown load_sql (key_row key) old new rows → IsInFirst rows r → Loads key old new r
loads_shown key old new rows (Ok found) shown first = (rows, shown, first)
loads_shown key old new rows (Err e) shown first = inr (rows, shown, first)

pub returns-clause-loads : goal.returns-clause-loads
returns-clause-loads g c =
    let rows = c.in_ok-rows.rows.items in
    λ clean. loads_shown c.args.key.now (state g.S.Store c.args.conn.now) (state g.S.Store c.rows_at.new.conn) rows c.first_value.result (c.in_ok-rows.ensures.rows clean)
    (subst (λ it. IsInFirst it c.first_value.result) c.as_slice.ensures.value c.first_value.ensures)

pub returns-in_err-rows-clause-loads : goal.returns-in_err-rows-clause-loads
returns-in_err-rows-clause-loads g c clean =
    subst (Loads c.args.key.now (state g.S.Store c.args.conn.now) (state g.S.Store c.rows_at.new.conn)) (sym (same_error c.from_residual.result c.in_err-rows.field-0.0 c.from_residual.ensures.1))
    (inl (c.in_err-rows.ensures.cause clean))

use Rattle.sqlite.specs.Held.{state}
use Rattle.sqlite.specs.State.{FailsToQuery, Shown, Survives, CommitsShowing}
use Rattle.std.proofs.Common.{IfOk, IfErr, subst}
use Rattle.jc_sqlite.specs.Statements.{load_sql}
use Rattle.jc_sqlite.proofs.Statements.{bound_key}
use Rattle.jc_sqlite.proofs.table.rows_at.Goals as goal

pub returns-clause-rows : goal.returns-clause-rows
returns-clause-rows g c =
    let given = bound_key c.params-to_sql.result c.bytes.result.now c.args.key.now c.params-to_sql.ensures c.bytes.ensures.bytes in
    λ clean. subst (λ row. IfOk c.query_all.result (λ rows. Shown load_sql row (state g.S.Store c.args.conn.now) (state g.S.Store c.query_all.new.self) rows.items)) given (c.query_all.ensures.ok clean)

pub returns-clause-cause : goal.returns-clause-cause
returns-clause-cause g c =
    let given = bound_key c.params-to_sql.result c.bytes.result.now c.args.key.now c.params-to_sql.ensures c.bytes.ensures.bytes in
    λ clean. subst (λ row. IfErr c.query_all.result (FailsToQuery load_sql row (state g.S.Store c.args.conn.now) (state g.S.Store c.query_all.new.self))) given (c.query_all.ensures.err clean)

pub returns-clause-survives : goal.returns-clause-survives
returns-clause-survives g c =
    let given = bound_key c.params-to_sql.result c.bytes.result.now c.args.key.now c.params-to_sql.ensures c.bytes.ensures.bytes in
    subst (λ row. Survives (state g.S.Store c.args.conn.now) (state g.S.Store c.query_all.new.self) (CommitsShowing load_sql row (state g.S.Store c.args.conn.now))) given c.query_all.ensures.survives

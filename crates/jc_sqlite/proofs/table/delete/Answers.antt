use Rattle.sqlite.specs.Held.{state}
use Rattle.sqlite.specs.State.{Survives, CommitsBy}
use Rattle.std.proofs.Common.{subst}
use Rattle.jc_sqlite.specs.Statements.{delete_sql, ExecutesOnce}
use Rattle.jc_sqlite.proofs.Statements.{bound_key}
use Rattle.jc_sqlite.proofs.table.delete.Goals as goal

pub returns-clause-runs : goal.returns-clause-runs
returns-clause-runs g c =
    let given = bound_key c.params-to_sql.result c.bytes.result.now c.args.key.now c.params-to_sql.ensures c.bytes.ensures.bytes in
    λ clean. subst (λ row. ExecutesOnce delete_sql row (state g.S.Store c.args.conn.now) (state g.S.Store c.run_once.new.conn) c.run_once.result) given (c.run_once.ensures.runs clean)

pub returns-clause-survives : goal.returns-clause-survives
returns-clause-survives g c =
    let given = bound_key c.params-to_sql.result c.bytes.result.now c.args.key.now c.params-to_sql.ensures c.bytes.ensures.bytes in
    subst (λ row. Survives (state g.S.Store c.args.conn.now) (state g.S.Store c.run_once.new.conn) (CommitsBy delete_sql row (state g.S.Store c.args.conn.now))) given c.run_once.ensures.survives

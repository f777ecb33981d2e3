use Rattle.sqlite.specs.Held.{state}
use Rattle.sqlite.specs.State.{Survives, CommitsBy}
use Rattle.std.proofs.Common.{subst}
use Rattle.jc_sqlite.specs.Statements.{write_sql, ExecutesOnce}
use Rattle.jc_sqlite.proofs.Statements.{bound_entry}
use Rattle.jc_sqlite.proofs.table.write.Goals as goal

pub returns-clause-runs : goal.returns-clause-runs
returns-clause-runs g c =
    let given = bound_entry c.params-to_sql.result c.params-to_sql-2.result c.bytes.result.now c.bytes-2.result.now c.args.key.now c.args.value.now c.params-to_sql.ensures c.bytes.ensures.bytes
    c.params-to_sql-2.ensures c.bytes-2.ensures.bytes in
    λ clean. subst (λ row. ExecutesOnce write_sql row (state g.S.Store c.args.conn.now) (state g.S.Store c.run_once.new.conn) c.run_once.result) given (c.run_once.ensures.runs clean)

pub returns-clause-survives : goal.returns-clause-survives
returns-clause-survives g c =
    let given = bound_entry c.params-to_sql.result c.params-to_sql-2.result c.bytes.result.now c.bytes-2.result.now c.args.key.now c.args.value.now c.params-to_sql.ensures c.bytes.ensures.bytes
    c.params-to_sql-2.ensures c.bytes-2.ensures.bytes in
    subst (λ row. Survives (state g.S.Store c.args.conn.now) (state g.S.Store c.run_once.new.conn) (CommitsBy write_sql row (state g.S.Store c.args.conn.now))) given c.run_once.ensures.survives

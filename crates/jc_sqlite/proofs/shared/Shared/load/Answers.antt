use Rattle.std.proofs.Common.{Some}
use Rattle.jc_sqlite.specs.Statements.{Loads}
use Rattle.jc_sqlite.proofs.Answering.{answered, failed}
use Rattle.jc_sqlite.proofs.shared.Shared.load.Goals as goal

pub returns-in-Ok-clause-answers : goal.returns-in-Ok-clause-answers
returns-in-Ok-clause-answers c = answered (Some c.args.key.now) (Loads c.args.key.now) c.args.self.now.connection c.args.self.now.last_error c.in-Ok.found c.in-Some.connection c.load.new.conn c.in-Some.is c.in-Ok.ensures.loads

pub returns-in-Err-clause-answers : goal.returns-in-Err-clause-answers
returns-in-Err-clause-answers c =
    failed (Some c.args.key.now) (Loads c.args.key.now) c.args.self.now.connection c.failed.new.self.connection c.args.self.now.last_error c.failed.new.self.last_error c.failed.result c.in-Err.error c.in-Some.connection c.load.new.conn c.in-Some.is
    c.failed.ensures.same c.in-Err.ensures.loads c.failed.ensures.kept

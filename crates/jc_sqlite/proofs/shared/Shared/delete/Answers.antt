use Rattle.std.proofs.Common.{Some}
use Rattle.jc_sqlite.specs.Statements.{delete_sql, key_row, ExecutesOnce}
use Rattle.jc_sqlite.proofs.Answering.{answered}
use Rattle.jc_sqlite.proofs.shared.Shared.delete.Goals as goal

pub returns-in-Ok-clause-answers : goal.returns-in-Ok-clause-answers
returns-in-Ok-clause-answers c =
    answered (Some c.args.key.now) (ExecutesOnce delete_sql (key_row c.args.key.now)) c.args.self.now.connection c.args.self.now.last_error tt c.in-Some.connection c.delete.new.conn c.in-Some.is c.in-Ok.ensures.runs

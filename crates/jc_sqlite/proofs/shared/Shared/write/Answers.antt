use Rattle.std.proofs.Common.{Some}
use Rattle.jc_sqlite.specs.Statements.{write_sql, entry_row, ExecutesOnce}
use Rattle.jc_sqlite.proofs.Answering.{answered}
use Rattle.jc_sqlite.proofs.shared.Shared.write.Goals as goal

pub returns-in-Ok-clause-answers : goal.returns-in-Ok-clause-answers
returns-in-Ok-clause-answers c =
    answered (Some c.args.key.now) (ExecutesOnce write_sql (entry_row (c.args.key.now, c.args.value.now))) c.args.self.now.connection c.args.self.now.last_error tt c.in-Some.connection c.write.new.conn c.in-Some.is c.in-Ok.ensures.runs

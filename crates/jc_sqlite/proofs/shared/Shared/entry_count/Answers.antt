use Rattle.std.proofs.Common.{None}
use Rattle.jc_sqlite.specs.Statements.{Counts}
use Rattle.jc_sqlite.proofs.Answering.{answered, failed}
use Rattle.jc_sqlite.proofs.shared.Shared.entry_count.Goals as goal

pub returns-in-Ok-clause-answers : goal.returns-in-Ok-clause-answers
returns-in-Ok-clause-answers c = answered None Counts c.args.self.now.connection c.args.self.now.last_error c.in-Ok.count c.in-Some.connection c.entry_count.new.conn c.in-Some.is c.in-Ok.ensures.counts

pub returns-in-Err-clause-answers : goal.returns-in-Err-clause-answers
returns-in-Err-clause-answers c =
    failed None Counts c.args.self.now.connection c.failed.new.self.connection c.args.self.now.last_error c.failed.new.self.last_error c.failed.result c.in-Err.error c.in-Some.connection c.entry_count.new.conn c.in-Some.is
    c.failed.ensures.same c.in-Err.ensures.counts c.failed.ensures.kept

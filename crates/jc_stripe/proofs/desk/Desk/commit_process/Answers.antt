use Rattle.std.proofs.Common.{sym}
use Rattle.jc_stripe.proofs.DeskAnswers.{takes_process_answers}
use Rattle.jc_stripe.proofs.desk.Desk.commit_process.Goals as goal

pub commit-requires : goal.commit-requires
commit-requires c = takes_process_answers c.args.self.now.stripe c.args.number (record { load = c.args.load; write = c.args.write; process = c.args.process }) (sym c.if-not-takes_process.ensures)

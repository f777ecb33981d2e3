use Rattle.std.proofs.Common.{subst}
use Rattle.jc_stripe.specs.DeskState.{DeskState}
use Rattle.jc_stripe.specs.DeskPhases.{CommitsAtDesk}
use Rattle.jc_c.proofs.rooms.DeskRooms.commit_process.Goals as goal

pub returns-clause-commits : goal.returns-clause-commits
returns-clause-commits c = λ ok. record {
  reply = c.commit_process-done.new.reply;
  moves = c.commit_process-done.new.moves;
  commit = c.in-Some.done;
  commits = subst (λ (d : DeskState). CommitsAtDesk d c.args.number c.args.said c.commit_process-done.new.reply c.commit_process-done.new.moves c.in-Some.done c.commit_process-done.new.self) c.self.view_is c.in-Some.ensures.some;
  shown = c.show_done.ensures.shown;
  others_stay = c.show_done.ensures.others;
  call_stays = c.show_done.ensures.call;
}

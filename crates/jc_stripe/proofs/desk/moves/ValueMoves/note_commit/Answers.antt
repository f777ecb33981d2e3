use Rattle.std.proofs.Common.{◌∙◌, sym, None, cond, is_some, option_map, ap}
use Rattle.jc_stripe.specs.OrderOfUse.{next_victim}
use Rattle.jc_stripe.specs.Phases.{with_reply}
use Rattle.jc_stripe.specs.declared.ticket.Reservation.{Reservation}
use Rattle.jc_stripe.specs.ValuesMoved.{MovesMade, victim_entry}
use Rattle.jc_model.specs.Cache.{entry_at}
use Rattle.jc_stripe.specs.State.{State, is_marked}
use Rattle.jc_stripe.proofs.Ending.{ended_victim, end_others}
use Rattle.jc_stripe.proofs.ValuesMoved.{commit_next, moved, others_stay}
use Rattle.jc_stripe.proofs.desk.moves.ValueMoves.note_commit.Goals as goal

pub returns-clause-moves : goal.returns-clause-moves
returns-clause-moves c =
    let old = c.args.stripe.now in
    let new = c.commit_on-step.new.self in
    let r = c.args.reservation.value in
    let at = c.deref.result.now.key in
    let step = c.commit_on-step.result in
    let done = with_reply step c.commit_on-step.new.reply in
    let ends = c.commit_on-step.ensures in
    let mid = ends.0 in
    let commits = ends.2 in
    let victim = ended_victim old new r _ done ends in
    let before : MovesMade = record { kept = c.self.inside.is_kept; left = c.entry_into.new.entry; victim = option_map (λ key. (key, c.note_victim.new.evicted)) c.note_victim.new.victim; own = c.self.inside.own } in
    moved old new at r.key step.victim step.evicted before c.note_after.new.self (ap (λ (x : Reservation). x.key) c.deref.ensures) c.entry_into.ensures
    (c.note_victim.ensures ∙ ap (λ o. cond (is_some o) None (victim_entry old (next_victim old))) c.entry_into.ensures)
    c.note_after.ensures.kept c.note_after.ensures.left c.note_after.ensures.victim c.note_after.ensures.own
    (λ v h. commit_next old mid r v _ ends.1 c.events_len.ensures.reached commits (sym victim ∙ h))
    (λ other differs unevicted. ap (λ (s : State). entry_at s.cache other) ends.4 ∙ end_others (is_marked old r.key) mid r.key other differs
    ∙ others_stay _ mid r.caller r.key r.op _ _ ends.1 commits.1 other differs (λ is. unevicted (victim ∙ is)))

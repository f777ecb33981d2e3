use Rattle.std.proofs.Common.{◌∙◌, is_some, ap, sym}
use Rattle.jc_model.specs.Cache.{entry_at}
use Rattle.jc_stripe.specs.declared.ticket.Reservation.{Reservation}
use Rattle.jc_stripe.specs.State.{is_reserved}
use Rattle.jc_stripe.proofs.Ending.{commit_free, commit_place, ends_from}
use Rattle.jc_stripe.proofs.stripe.Stripe.commit_on.Goals as goal

pub settle-requires-clause-free : goal.settle-requires-clause-free
settle-requires-clause-free c =
    ap (λ (r : Reservation). is_reserved c.commit_step-step.new.self r.key) c.deref.ensures
    ∙ commit_free c.args.self.now c.commit_step-step.new.self c.args.reservation.value c.args.out.now _ c.commit_step-step.ensures

pub settle-requires-clause-place : goal.settle-requires-clause-place
settle-requires-clause-place c = λ there.
    commit_place c.args.self.now c.commit_step-step.new.self c.args.reservation.value c.args.out.now _ c.events_len.ensures.reached c.commit_step-step.ensures
    (ap (λ (r : Reservation). is_some (entry_at c.commit_step-step.new.self.cache r.key)) (sym c.deref.ensures) ∙ there)

pub returns : goal.returns
returns c =
    ends_from c.args.self.now c.commit_step-step.new.self c.settle.new.self c.args.reservation.value c.deref.result.now.key c.args.out.now c.commit_step-step.result c.settle.result c.commit_step-step.new.reply c.is_marked-is_marked.result
    (ap (λ (r : Reservation). r.key) c.deref.ensures) c.is_marked-is_marked.ensures c.commit_step-step.ensures c.settle.ensures.told c.settle.ensures.left

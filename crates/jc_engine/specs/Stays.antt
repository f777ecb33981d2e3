-- That the conditions of a first phase and of a commit, once true at one take of a stripe, are true at the next one. No contract of
-- a public function cites this.
--     begins-stays     the condition on a first phase
--     commits-stays    the condition on a commit
use Rattle.std.proofs.Common.{ap, sym, subst, ◌∙◌, List}
use Rattle.jc_types.specs.declared.caller.Caller.{Caller}
use Rattle.jc_types.specs.declared.config.Config.{Config}
use Rattle.jc_model.specs.Cache.{Bytes}
use Rattle.jc_model.specs.declared.event.Event.{Event}
use Rattle.jc_stripe.specs.State.{State}
use Rattle.jc_stripe.specs.Tickets.{TicketClaim}
use Rattle.jc_stripe.specs.OwnSteps.{may_come_all}
use Rattle.jc_gate.specs.Lending.{ComesAfter}
use Rattle.jc_engine.specs.Answered.{CallAnswer}
use Rattle.jc_engine.specs.Needs.{BeginsIfClear, CommitsHere, IsReported}

pub begins-stays : (caller : Caller) (key : Bytes) (a b : State) → ComesAfter caller.session a b → BeginsIfClear caller key a
    → BeginsIfClear caller key b
begins-stays caller key a b after p =
    record { live = after.same.origin ∙ p.live; may = ap (λ (es : List Event). may_come_all es caller key) after.own ∙ p.may }

pub commits-stays : (ticket : TicketClaim) (answered : CallAnswer) (a b : State) → ComesAfter ticket.reservation.caller.session a b
    → CommitsHere ticket answered a → CommitsHere ticket answered b
commits-stays ticket answered a b after p = record {
  live = after.same.origin ∙ p.live;
  is_answered = p.is_answered;
  reported = subst (λ (c : Config). IsReported c ticket.reservation answered) (sym after.same.config) p.reported;
}

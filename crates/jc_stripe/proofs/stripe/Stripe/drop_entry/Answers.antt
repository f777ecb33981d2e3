use Rattle.std.proofs.Common.{◌∙◌, true, is_some, ap}
use Rattle.jc_model.specs.Cache.{entry_at}
use Rattle.jc_history.specs.Past.{push}
use Rattle.jc_stripe.specs.State.{State, is_reserved}
use Rattle.jc_stripe.specs.Invalidating.{dropped_event, has_place, without_entry}
use Rattle.jc_stripe.proofs.Dropping.{IsDropped, state_dropped, sound_dropped, promised_place, some_promised}
use Rattle.jc_stripe.proofs.stripe.Stripe.drop_entry.Goals as goal

pub push-requires-clause-promised : goal.push-requires-clause-promised
push-requires-clause-promised c =
    some_promised c.self.inside.history c.promise.new.self
    (promised_place c.self.inside c.args.self.now c.promise.new.self c.promise.result c.self.invariant c.self.view_is c.requires.place c.promise.ensures.fits c.promise.ensures.after)

is_dropped : (c : goal.After-push) → IsDropped c.self.inside c.args.key.now c.remove.new.self c.push.new.self
is_dropped c = record {
  sound = c.self.invariant;
  laws = c.statistics_laws.ensures;
  free = ap (λ (s : State). is_reserved s c.args.key.now) c.self.view_is ∙ c.requires.free;
  there = ap (λ (s : State). is_some (entry_at s.cache c.args.key.now)) c.self.view_is ∙ c.requires.there;
  place = ap has_place c.self.view_is ∙ c.requires.place;
  removed = c.remove.ensures.after;
  pushed = c.push.ensures.after
      ∙ ap (push true (dropped_event c.args.key.now))
      (promised_place c.self.inside c.args.self.now c.promise.new.self c.promise.result c.self.invariant c.self.view_is c.requires.place c.promise.ensures.fits c.promise.ensures.after);
}

pub invariant_of-self : goal.invariant_of-self
invariant_of-self c = sound_dropped c.self.inside c.args.key.now c.remove.new.self c.push.new.self (is_dropped c)

pub returns : goal.returns
returns c = state_dropped c.self.inside c.args.key.now c.remove.new.self c.push.new.self (is_dropped c) ∙ ap (λ (s : State). without_entry s c.args.key.now) c.self.view_is

use Rattle.std.proofs.Common.{◌≡◌, ◌∙◌, arith, ◌∷◌, length, rules, true, None, Some, refl, sym, subst, ap}
use Rattle.std.specs.Option.{option_map_or}
use Rattle.std.specs.FinMap as finite
use Rattle.jc_stripe.specs.OrderOfUse.{pinned}
use Rattle.jc_types.specs.declared.limits.TheConstants.{HIT_PLACES}
use Rattle.jc_model.specs.declared.event.Op.TheVariants.{Get}
use Rattle.jc_model.specs.Cache.{key_cmp, entry_at}
use Rattle.jc_model.specs.Group.{nothing_said}
use Rattle.jc_model.specs.Listed.{others}
use Rattle.jc_entries.specs.ByUse.{ByUse}
use Rattle.jc_entries.specs.MostRecent.{most_recent}
use Rattle.jc_stripe.specs.Outcomes as begun
use Rattle.jc_stripe.specs.State.{State}
use Rattle.std.proofs.lemmas.Bool.{and_parts}
use Rattle.jc_stripe.specs.Refusals.{has_room, may_hit}
use Rattle.jc_stripe.specs.Phases.{MayBegin, Begins, hit_done}
use Rattle.jc_stripe.specs.Hitting.{IsHit}
use Rattle.jc_stripe.specs.Outcomes.{StepDone}
use Rattle.jc_model.specs.declared.event.Reply.TheVariants as reply
use Rattle.jc_history.specs.Past.{promise}
use Rattle.jc_stripe.specs.Inside.{state_of, IsStripe}
use Rattle.jc_stripe.specs.Appending.{NewGroup}
use Rattle.jc_stripe.proofs.Used.{find-entry}
use Rattle.jc_stripe.proofs.Fitting.{nobody_fits}
use Rattle.jc_stripe.proofs.Refusing.{roomy}
use Rattle.jc_stripe.proofs.Making.{room_so}
use Rattle.jc_stripe.proofs.Stepping.{made_is}
use Rattle.jc_stripe.proofs.Finishing.{IsDone, done_at, done_steps, done_sound}
use Rattle.jc_stripe.proofs.Hitting.{hit_applies, hit_asks, hit_refusal, touched_none, touched_front}
use Rattle.jc_stripe.proofs.stripe.Stripe.find_and_use.Goals as goal

-- the entry is missing: nothing was touched
pub returns-then-not-touch-clause-missing : goal.returns-then-not-touch-clause-missing
returns-then-not-touch-clause-missing c =
    let old = c.self.inside.entries in
    let key = c.args.key.now in
    let missing : finite.find key_cmp key old.list ≡ None = touched_none _ (sym c.touch.ensures.found ∙ c.if-not-touch.true) in
    let same : c.touch.new.self ≡ old = c.touch.ensures.after ∙ ap (λ o. record old { list = option_map_or (λ value. (key, value) ∷ others key old.list) o old.list }) missing in
    let P : State → Type 0 = λ s. (state_of (record c.self.inside { entries = c.touch.new.self }) ≡ s) × (entry_at s.cache key ≡ None) in
    subst P c.self.view_is (ap (λ (e : ByUse). state_of (record c.self.inside { entries = e })) same, sym (find-entry old.list key) ∙ missing)

-- the value that is in front
front : (c : goal.After-push_hit) → most_recent c.touch.new.self.list ≡ Some c.in-Some.value.now
front c = sym c.in-Some.ensures

-- the entry that was found
in_entries : (c : goal.After-push_hit) → finite.find key_cmp c.args.key.now c.self.inside.entries.list ≡ Some c.in-Some.value.now
in_entries c =
    let old = c.self.inside.entries in
    touched_front c.args.key.now _ old.list (others c.args.key.now old.list) c.in-Some.value.now (sym c.touch.ensures.found ∙ c.if-not-touch.false)
    (ap (λ (e : ByUse). most_recent e.list) (sym c.touch.ensures.after) ∙ front c)

in_cache : (c : goal.After-push_hit) → entry_at (state_of c.self.inside).cache c.args.key.now ≡ Some c.in-Some.value.now
in_cache c = sym (find-entry c.self.inside.entries.list c.args.key.now) ∙ in_entries c

-- it may be found
may : (c : goal.After-push_hit) → may_hit (state_of c.self.inside) c.args.caller.call c.args.key.now ≡ true
may c = let May : State → Type 0 = λ s. may_hit s c.args.caller.call c.args.key.now ≡ true in subst May (sym c.self.view_is) c.requires.may

-- the step that is made
group : (c : goal.After-push_hit) → NewGroup
group c = record { caller = c.args.caller; key = c.args.key.now; op = Get; out = nothing_said; reply = reply.Value (Some c.in-Some.value.now); victim = None; evicted = None; found = true }

-- what is done of it
done : (c : goal.After-push_hit) → StepDone
done c = hit_done (length c.self.inside.history.events) c.in-Some.value.now

is_done : (c : goal.After-push_hit)
    → IsDone c.self.inside c.args.caller c.args.key.now Get c.touch.new.self (promise HIT_PLACES c.self.inside.history) c.push_hit.new.self (pinned c.self.inside.reservations.held) (group c) (done c) HIT_PLACES
unfolding group done
is_done c =
    let i = c.self.inside in
    record {
      sound = c.self.invariant;
      keys_are = refl;
      is = made_is (state_of i) c.args.caller c.args.key.now Get nothing_said (Some c.in-Some.value.now) (group c) refl (sym (in_cache c));
      keeps = hit_applies i.entries c.touch.new.self (pinned i.reservations.held) c.args.key.now c.in-Some.value.now (in_entries c) c.touch.ensures.after;
      promises = refl;
      told = record { reply = refl; place = search rules; victim = refl; evicted = refl };
      put = c.push_hit.ensures.after;
      laws = c.statistics_laws.ensures;
    }

begins : (c : goal.After-push_hit) → Begins (state_of c.self.inside) c.args.caller c.args.key.now Get (begun.Done (done c)) (state_of (done_at c.self.inside c.touch.new.self c.push_hit.new.self))
begins c =
    let i = c.self.inside in
    let asks = hit_asks (state_of i) c.args.key.now c.in-Some.value.now (in_cache c) in (
      hit_refusal (state_of i) c.args.caller c.args.key.now c.in-Some.value.now (in_cache c) (may c),
      asks,
      done_steps i c.args.caller c.args.key.now Get c.touch.new.self (promise HIT_PLACES i.history) c.push_hit.new.self (pinned i.reservations.held) (group c) (done c) HIT_PLACES (is_done c)
          (nobody_fits i.config Get (entry_at (state_of i).cache c.args.key.now) asks),
    )

pub push_hit-requires : goal.push_hit-requires
push_hit-requires c =
    let May : State → Type 0 = λ s. may_hit s c.args.caller.call c.args.key.now ≡ true in
    let room = (and_parts (has_room (state_of c.self.inside) c.args.caller.call HIT_PLACES) _ (subst May (sym c.self.view_is) c.requires.may)).0 in
    let free = room_so c.self.inside HIT_PLACES c.self.invariant (roomy (state_of c.self.inside) c.args.caller.call HIT_PLACES room) in
    omega arith

-- the stripe is sound after it
sound : (c : goal.After-push_hit) → IsStripe (done_at c.self.inside c.touch.new.self c.push_hit.new.self)
sound c =
    let i = c.self.inside in
    let May : State → Type 0 = λ s. MayBegin s c.args.caller c.args.key.now in
    let b = begins c in
    done_sound i c.args.caller c.args.key.now Get c.touch.new.self (promise HIT_PLACES i.history) c.push_hit.new.self (pinned i.reservations.held) (group c) (done c) HIT_PLACES (is_done c)
    b.0 b.1 (subst May (sym c.self.view_is) c.requires.begins) b.2

pub invariant_of-self-in-Some : goal.invariant_of-self-in-Some
invariant_of-self-in-Some c = sound c

pub returns-clause-found : goal.returns-clause-found
unfolding done
returns-clause-found c =
    let new = state_of (done_at c.self.inside c.touch.new.self c.push_hit.new.self) in
    let P : State → Type 0 = λ s. IsHit s c.args.caller c.args.key.now new in
    subst P c.self.view_is (record {
      value = c.in-Some.value.now;
      recent = ap most_recent (sym (sound c).by_use) ∙ front c;
      begins = begins c;
    })

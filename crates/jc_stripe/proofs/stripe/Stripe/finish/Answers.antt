use Rattle.std.proofs.Common.{◌≡◌, ◌≤◌, ◌+◌, ◌∙◌, [], not, Option, None, length, refl, sym, subst, ap}
use Rattle.jc_model.specs.Cache.{Bytes, entry_at}
use Rattle.jc_model.specs.Group.{nothing_said}
use Rattle.jc_model.specs.Table.{reply_after}
use Rattle.jc_stripe.specs.Appending.{AppliesStep, NewGroup, group_events}
use Rattle.jc_history.specs.Past.{promise}
use Rattle.jc_stripe.specs.declared.ticket.First.TheVariants.{Nobody}
use Rattle.jc_stripe.specs.State.{State, promised}
use Rattle.jc_stripe.specs.Refusals.{answers_at_once, first_refusal, first_asked, needs_free_key, places_needed}
use Rattle.jc_stripe.specs.Phases.{MayBegin, Steps, with_reply}
use Rattle.jc_stripe.specs.Outcomes.{StepDone}
use Rattle.jc_stripe.specs.Inside.{state_of}
use Rattle.jc_stripe.proofs.Used.{find-entry}
use Rattle.jc_stripe.proofs.Inner.{entries_len}
use Rattle.jc_stripe.proofs.Fitting.{nobody_fits}
use Rattle.jc_stripe.proofs.Refusing.{alone_needs, not_refused, roomy}
use Rattle.jc_stripe.proofs.Making.{promised_so, room_so}
use Rattle.jc_stripe.proofs.Stepping.{IsMade, made_is}
use Rattle.jc_stripe.proofs.Finishing.{IsDone, done_at, done_few, done_storable, done_steps, done_sound}
use Rattle.jc_stripe.proofs.stripe.Stripe.finish.Goals as goal

pub apply_to_entries-victim-requires-clause-room : goal.apply_to_entries-victim-requires-clause-room
apply_to_entries-victim-requires-clause-room c = entries_len c.self.inside c.self.invariant

pub apply_to_entries-victim-requires-clause-entry : goal.apply_to_entries-victim-requires-clause-entry
apply_to_entries-victim-requires-clause-entry c =
    c.requires.entry
    ∙ sym (ap (λ (s : State). entry_at s.cache c.args.key.now) c.self.view_is)
    ∙ sym (find-entry c.self.inside.entries.list c.args.key.now)

-- what the call asks, in the fields' state
asked : (c : goal.After-group-1) → first_asked c.self.inside.config c.args.op.now (entry_at (state_of c.self.inside).cache c.args.key.now) ≡ Nobody
asked c = ap (λ (s : State). first_asked s.config c.args.op.now (entry_at s.cache c.args.key.now)) c.self.view_is ∙ c.requires.asks

-- the entry that it found, in the fields' state
found : (c : goal.After-group-1) → c.args.entry.now ≡ entry_at (state_of c.self.inside).cache c.args.key.now
found c = c.requires.entry ∙ sym (ap (λ (s : State). entry_at s.cache c.args.key.now) c.self.view_is)

-- the places that the call needs, in the fields' state
needed : (c : goal.After-group-1) → places_needed (needs_free_key (state_of c.self.inside) c.args.key.now c.args.op.now) ≡ c.places_needed-kept.result
needed c =
    let s = state_of c.self.inside in
    ap places_needed (
    alone_needs s c.args.key.now c.args.op.now (asked c)
    ∙ ap (λ (e : Option Bytes). not (answers_at_once s.config c.args.op.now e)) (sym (found c))
    ∙ ap not (sym c.answers_at_once.ensures)
    )
    ∙ sym c.places_needed-kept.ensures

-- they were promised
promises : (c : goal.After-group-1) → c.promise.new.self ≡ promise c.places_needed-kept.result c.self.inside.history
promises c =
    let Free : State → Type 0 = λ s. first_refusal s c.args.caller c.args.key.now c.args.op.now ≡ None in
    let free = subst Free (sym c.self.view_is) c.requires.free in
    promised_so c.places_needed-kept.result c.self.inside.history c.promise.new.self c.promise.result c.promise.ensures.fits c.promise.ensures.after
    (room_so c.self.inside c.places_needed-kept.result c.self.invariant
    (subst (λ n. length (state_of c.self.inside).history + promised (state_of c.self.inside) + n ≤ (state_of c.self.inside).config.history) (needed c)
    (roomy (state_of c.self.inside) c.args.caller.call _ (not_refused (state_of c.self.inside) c.args.caller c.args.key.now c.args.op.now free).room)))

-- what is replied
replied : (c : goal.After-group-1) → c.reply_into.new.reply ≡ reply_after c.args.op.now c.args.entry.now nothing_said
replied c = c.reply_into.ensures ∙ (λ i. reply_after c.args.op.now (c.as_ref.ensures.value i) (c.nothing_said-out.ensures i))

-- what is appended
abbrev group : (c : goal.After-group-1) → NewGroup
group c =
    record {
      caller = c.args.caller;
      key = c.args.key.now;
      op = c.args.op.now;
      out = c.nothing_said-out.result;
      reply = c.reply_into.new.reply;
      victim = c.apply_to_entries-victim.result.0;
      evicted = c.apply_to_entries-victim.result.1;
      found = c.is_some.result;
    }

made : (c : goal.After-group-1) → IsMade (state_of c.self.inside) c.args.caller c.args.key.now c.args.op.now nothing_said (group c)
made c =
    made_is (state_of c.self.inside) c.args.caller c.args.key.now c.args.op.now nothing_said c.args.entry.now (group c)
    (λ i. record (group c) { out = c.nothing_said-out.ensures i; reply = replied c i; found = c.is_some.ensures i })
    (c.requires.entry ∙ sym (ap (λ (s : State). entry_at s.cache c.args.key.now) c.self.view_is))

-- what it left of the entries
applied : (c : goal.After-group-1) → AppliesStep c.self.inside.entries c.keys-pinned.result.now c.args.key.now c.args.op.now nothing_said (group c).victim (group c).evicted c.apply_to_entries-victim.new.entries
applied c =
    let g = group c in
    subst (λ o. AppliesStep c.self.inside.entries c.keys-pinned.result.now c.args.key.now c.args.op.now o g.victim g.evicted c.apply_to_entries-victim.new.entries) c.nothing_said-out.ensures c.apply_to_entries-victim.ensures

pub append_group-requires-clause-places : goal.append_group-requires-clause-places
append_group-requires-clause-places c =
    subst (λ n. length (group_events (length c.promise.new.self.events) (group c) []) ≤ n) (needed c)
    (done_few c.self.inside c.args.caller c.args.key.now c.args.op.now c.apply_to_entries-victim.new.entries c.keys-pinned.result.now (group c) (length c.promise.new.self.events) c.self.invariant (asked c) c.keys-pinned.ensures.keys (made c)
    (applied c))

pub append_group-requires-clause-storable : goal.append_group-requires-clause-storable
append_group-requires-clause-storable c = done_storable c.self.inside c.args.caller c.args.key.now c.args.op.now (group c) (asked c) (made c)

-- the step that is done
abbrev step : (c : goal.After-append_group) → StepDone
step c = with_reply c.append_group.result c.reply_into.new.reply

is_done : (c : goal.After-append_group)
    → IsDone c.self.inside c.args.caller c.args.key.now c.args.op.now c.apply_to_entries-victim.new.entries c.promise.new.self c.append_group.new.history c.keys-pinned.result.now (group c.before) (step c) c.places_needed-kept.result
is_done c = record {
  sound = c.self.invariant;
  keys_are = c.keys-pinned.ensures.keys;
  is = made c.before;
  keeps = applied c.before;
  promises = promises c.before;
  told = record { reply = refl; place = c.append_group.ensures.place; victim = c.append_group.ensures.victim; evicted = c.append_group.ensures.evicted };
  put = c.append_group.ensures.history;
  laws = c.statistics_laws.ensures;
}

steps : (c : goal.After-append_group) → Steps (state_of c.self.inside) c.args.caller c.args.key.now c.args.op.now nothing_said [] (step c) (state_of (done_at c.self.inside c.apply_to_entries-victim.new.entries c.append_group.new.history))
steps c =
    done_steps c.self.inside c.args.caller c.args.key.now c.args.op.now c.apply_to_entries-victim.new.entries c.promise.new.self c.append_group.new.history c.keys-pinned.result.now (group c.before) (step c) c.places_needed-kept.result (is_done c)
    (nobody_fits c.self.inside.config c.args.op.now (entry_at (state_of c.self.inside).cache c.args.key.now) (asked c.before))

pub invariant_of-self : goal.invariant_of-self
invariant_of-self c =
    let back = sym c.self.view_is in
    let Free : State → Type 0 = λ s. first_refusal s c.args.caller c.args.key.now c.args.op.now ≡ None in
    let May : State → Type 0 = λ s. MayBegin s c.args.caller c.args.key.now in
    done_sound c.self.inside c.args.caller c.args.key.now c.args.op.now c.apply_to_entries-victim.new.entries c.promise.new.self c.append_group.new.history c.keys-pinned.result.now (group c.before) (step c) c.places_needed-kept.result (is_done c)
    (subst Free back c.requires.free) (asked c.before) (subst May back c.requires.begins) (steps c)

pub returns : goal.returns
returns c =
    let P : State → Type 0 = λ s. Steps s c.args.caller c.args.key.now c.args.op.now nothing_said [] (step c) (state_of (done_at c.self.inside c.apply_to_entries-victim.new.entries c.append_group.new.history)) in
    subst P c.self.view_is (steps c)

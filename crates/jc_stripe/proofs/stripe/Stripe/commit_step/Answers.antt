use Rattle.std.proofs.Common.{◌≡◌, ◌∙◌, ◌+◌, length, refl, sym, subst, ap}
use Rattle.jc_stripe.specs.declared.ticket.Reservation.{Reservation}
use Rattle.jc_stripe.specs.State.{State, IsOut}
use Rattle.jc_stripe.specs.Phases.{Commits, with_reply}
use Rattle.jc_stripe.specs.Outcomes.{StepDone}
use Rattle.jc_stripe.specs.Appending.{AnswersFirst, NewGroup}
use Rattle.jc_model.specs.Cache.{entry_at}
use Rattle.jc_model.specs.Table.{reply_after}
use Rattle.jc_stripe.specs.Inside.{state_of}
use Rattle.jc_types.specs.declared.limits.TheConstants.{STEP_PLACES}
use Rattle.jc_stripe.proofs.Used.{find-entry}
use Rattle.jc_stripe.proofs.Inner.{entries_len}
use Rattle.jc_stripe.proofs.Making.{enough_promised}
use Rattle.jc_stripe.proofs.Stepping.{IsMade, made_is}
use Rattle.jc_stripe.proofs.Finishing.{IsCommit, committed_at, commit_few, commit_storable, commit_steps, commit_sound}
use Rattle.jc_stripe.proofs.stripe.Stripe.commit_step.Goals as goal

pub apply_to_entries-victim-requires-clause-room : goal.apply_to_entries-victim-requires-clause-room
apply_to_entries-victim-requires-clause-room c = entries_len c.self.inside c.self.invariant

pub apply_to_entries-victim-requires-clause-entry : goal.apply_to_entries-victim-requires-clause-entry
apply_to_entries-victim-requires-clause-entry c =
    c.requires.entry ∙ (λ i. entry_at (sym c.self.view_is i).cache (sym c.deref-ended.ensures i).key) ∙ sym (find-entry c.self.inside.entries.list c.deref-ended.result.now.key)

-- what is appended
abbrev group : (c : goal.After-group-2-1) → NewGroup
group c =
    record {
      caller = c.deref-ended.result.now.caller;
      key = c.deref-ended.result.now.key;
      op = c.deref-ended.result.now.op;
      out = c.args.out.now;
      reply = c.reply_into.new.reply;
      victim = c.apply_to_entries-victim.result.0;
      evicted = c.apply_to_entries-victim.result.1;
      found = c.is_some.result;
    }

made : (c : goal.After-group-2-1) → IsMade (state_of c.self.inside) c.deref-ended.result.now.caller c.deref-ended.result.now.key c.deref-ended.result.now.op c.args.out.now (group c)
made c =
    let r = c.deref-ended.result.now in
    made_is (state_of c.self.inside) r.caller r.key r.op c.args.out.now c.args.entry.now (group c)
    (λ i. record (group c) { reply = (c.reply_into.ensures ∙ ap (λ o. reply_after r.op o c.args.out.now) c.as_ref.ensures.value) i; found = c.is_some.ensures i })
    (c.requires.entry ∙ (λ i. entry_at (sym c.self.view_is i).cache (sym c.deref-ended.ensures i).key))

pub append_group-done-requires-clause-kept : goal.append_group-done-requires-clause-kept
append_group-done-requires-clause-kept c =
    let Out : State × Reservation → Type 0 = λ x. IsOut x.0 x.1 in
    enough_promised c.self.inside c.deref-ended.result.now c.waiting.result c.self.invariant (subst Out (λ i. (sym c.self.view_is i, sym c.deref-ended.ensures i)) c.requires.out) c.waiting.ensures.count

pub append_group-done-requires-clause-places : goal.append_group-done-requires-clause-places
append_group-done-requires-clause-places c =
    commit_few c.deref-ended.result.now.number c.self.inside.joiners (length c.self.inside.history.events) c.waiting.result (group c) c.waiting.ensures.count

pub append_group-done-requires-clause-storable : goal.append_group-done-requires-clause-storable
append_group-done-requires-clause-storable c =
    let Out : State × Reservation → Type 0 = λ x. IsOut x.0 x.1 in
    let Said : State × Reservation → Type 0 = λ x. AnswersFirst x.0.config x.1.first c.args.out.now in
    let same : (c.args.self.now, c.args.reservation.value) ≡ (state_of c.self.inside, c.deref-ended.result.now) = λ i. (sym c.self.view_is i, sym c.deref-ended.ensures i) in
    commit_storable c.self.inside c.deref-ended.result.now c.args.out.now (group c) c.self.invariant (subst Out same c.requires.out) (subst Said same c.requires.answers)
    (made c)

-- the step that is done
abbrev step : (c : goal.After-give_back) → StepDone
step c = with_reply c.append_group-done.result c.reply_into.new.reply

is_commit : (c : goal.After-give_back)
    → IsCommit c.self.inside c.deref-ended.result.now c.args.out.now c.apply_to_entries-victim.new.entries c.release.new.self c.resolve.new.self c.append_group-done.new.history c.give_back.new.self c.remove.new.self c.keys-pinned.result.now (group c.before.before.before.before.before) (step c)
    (STEP_PLACES + c.waiting.result)
is_commit c =
    let Out : State × Reservation → Type 0 = λ x. IsOut x.0 x.1 in
    let Said : State × Reservation → Type 0 = λ x. AnswersFirst x.0.config x.1.first c.args.out.now in
    let same : (c.args.self.now, c.args.reservation.value) ≡ (state_of c.self.inside, c.deref-ended.result.now) = λ i. (sym c.self.view_is i, sym c.deref-ended.ensures i) in
    record {
      sound = c.self.invariant;
      found = subst Out same c.requires.out;
      said = subst Said same c.requires.answers;
      unmarked = c.remove.ensures;
      released = c.release.ensures.released;
      keys_are = c.keys-pinned.ensures.keys;
      is = made c.before.before.before.before.before;
      keeps = c.apply_to_entries-victim.ensures;
      told = record { reply = refl; place = c.append_group-done.ensures.place; victim = c.append_group-done.ensures.victim; evicted = c.append_group-done.ensures.evicted };
      put = c.append_group-done.ensures.history;
      laws = c.statistics_laws.ensures;
      joiners = c.resolve.ensures.resolved;
      kept_is = ap (λ m. STEP_PLACES + m) c.waiting.ensures.count;
      one_more = c.give_back.ensures;
    }

pub invariant_of-self : goal.invariant_of-self
invariant_of-self c =
    commit_sound c.self.inside c.deref-ended.result.now c.args.out.now c.apply_to_entries-victim.new.entries c.release.new.self c.resolve.new.self c.append_group-done.new.history c.give_back.new.self c.remove.new.self c.keys-pinned.result.now (group c.before.before.before.before.before) (step c)
    (STEP_PLACES + c.waiting.result) (is_commit c)

pub returns : goal.returns
returns c =
    let steps = commit_steps c.self.inside c.deref-ended.result.now c.args.out.now c.apply_to_entries-victim.new.entries c.release.new.self c.resolve.new.self c.append_group-done.new.history c.give_back.new.self c.remove.new.self c.keys-pinned.result.now (group c.before.before.before.before.before) (step c)
    (STEP_PLACES + c.waiting.result) (is_commit c) in
    let P : State × Reservation → Type 0 = λ x. Commits x.0 x.1 c.args.out.now (step c) (state_of (committed_at c.self.inside c.apply_to_entries-victim.new.entries c.release.new.self c.resolve.new.self c.append_group-done.new.history c.give_back.new.self c.remove.new.self)) in
    subst P (λ i. (c.self.view_is i, c.deref-ended.ensures i)) ((is_commit c).found, steps)

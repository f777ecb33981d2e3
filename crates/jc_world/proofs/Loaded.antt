-- A key of a `loadAll` is told at its commit, if the store still holds what the loader answered.
use Rattle.jc_world.proofs.Common.{LoadAll, ◌≡◌, ◌&&◌, ℕ, Bool, true, false, cond, is_some, Some, None, Option, sym, refl, ap, ◌∙◌, subst, inl, inr, nat_list_eq_equiv, nat_list_cmp_total, get, get-remove, get-with_entry, Bytes, Cache, entry_at, holds, load_only, entry_after, LoadAnswer, Op, callers_of, after_commit, Steps, Ends, State, Part, Stepped, Over, Shown, Outcome, WorldEvent, Step, with_commit, step_of, fault_in, out_of_part, Agrees, IsSoundWorld, WorldState, part_of, has_progress, is_misled, has_any, is_untold, with_doubt, without_foreign, is_agreed}
use Rattle.jc_world.specs.Told.{is_misled_at}
use Rattle.jc_world.proofs.Lemmas.{tied, dropped_entry}
use Rattle.jc_stripe.specs.State.{is_marked}
use Rattle.jc_stripe.specs.Invalidating.{without_entry, is_dropped, end_with}
use Rattle.jc_world.proofs.Holding.{is_part}
use Rattle.jc_world.proofs.Facts.{some_back}
use Rattle.jc_world.proofs.Kept.{agrees_own, held_at}

-- what is as the store has it passes the test
agrees_test : (entry stored : Option Bytes) → Agrees entry stored → is_agreed entry stored ≡ true
agrees_test None stored h = refl
agrees_test (Some value) stored h = ap (λ o. holds o value) h ∙ nat_list_eq_equiv.refl value

-- what a load leaves is what the loader found
loaded_entry : (op : Op) (replace : Bool) (entry : Option Bytes) (value : Bytes) → op ≡ Op.LoadAll replace → Agrees (entry_after op entry (load_only (LoadAnswer.Found value))) (Some value)
loaded_entry op replace entry value op_is = subst (λ (o : Op). Agrees (entry_after o entry (load_only (LoadAnswer.Found value))) (Some value)) (sym op_is) refl

-- a key that is forgotten is none of those in doubt
told_now : (m : Cache) (key : Bytes) (agreed : Bool) → agreed ≡ true → is_some (entry_at (without_foreign m key agreed) key) ≡ false
told_now m key true agreed = ap is_some (get-with_entry m key None key ∙ ap (λ b. cond b None (entry_at m key)) (tied key))
told_now m key false agreed = cc

-- so it is if the entry is evicted then
agreed_end : (marked : Bool) (ended : State) (key : Bytes) (stored : Option Bytes) → is_agreed (entry_at ended.cache key) stored ≡ true → is_agreed (entry_at (end_with marked ended key).cache key) stored ≡ true
agreed_end marked ended key stored h =
    elim (is_dropped marked ended key) as (λ b. is_agreed (entry_at (cond b (without_entry ended key) ended).cache key) stored ≡ true) [
      | true ↦ ap (λ o. is_agreed o stored) (dropped_entry ended key)
      | false ↦ h
    ]

pub told_loaded : (w new : WorldState) (call : ℕ) (key value : Bytes) (part : Part) (replace : Bool) (x : Stepped) (over : Option Over) → IsSoundWorld w → part_of w call key ≡ Some part
    → part.reservation.op ≡ Op.LoadAll replace → out_of_part part ≡ load_only (LoadAnswer.Found value) → entry_at w.store key ≡ Some value
    → Step w (WorldEvent.Commit call key) (record { outcome = Outcome.Stepped x; over = over }) new
    → (is_untold new key ≡ false) × (is_misled_at new key ≡ false)
told_loaded w new call key value part replace x over sound is op_is out_is stored (inr (unfit, shows, same)) =
    absurd (let bad : Outcome.Stepped x ≡ Outcome.Unfit = ap (λ (s : Shown). s.outcome) shows in cc)
told_loaded w new call key value part replace x over sound is op_is out_is stored (inl (fit, h)) =
    let same : h.0 ≡ part = some_back h.0 part (sym h.1 ∙ is) in
    let C : Part → Type 0 = λ p. Ends h.2 p.reservation (out_of_part p) (step_of x) h.4 in
    let ends : C part = subst C same h.5.0 in
    let left : new ≡ with_commit w key part h.2 h.4 call (fault_in x.reply) = h.5.2 ∙ ap (λ (p : Part). with_commit w key p h.2 h.4 call (fault_in x.reply)) same in
    let r = part.reservation in
    let there = is_part (get w.parts key) call part is in
    let key_is = (held_at w key part h.2 there h.3 sound).key_is in
    let ended = ends.0 in
    let done = ends.1 in
    let S : Bytes → Type 0 = λ k. Steps (after_commit h.2 r done.place) r.caller k r.op (out_of_part part) (callers_of r.number h.2.joiners) done ended in
    let steps = subst S key_is ends.2.1 in
    let leaves : Agrees (entry_after r.op (entry_at h.2.cache key) (out_of_part part)) (Some value) =
    subst (λ o. Agrees (entry_after r.op (entry_at h.2.cache key) o) (Some value)) (sym out_is) (loaded_entry r.op replace (entry_at h.2.cache key) value op_is)
    in
    let agrees = agrees_own key part h.2 ended done (Some value) steps leaves in
    let then : is_agreed (entry_at ended.cache key) (Some value) ≡ true = agrees_test (entry_at ended.cache key) (Some value) agrees in
    let at_end : is_agreed (entry_at h.4.cache key) (Some value) ≡ true =
    ap (λ (s : State). is_agreed (entry_at s.cache key) (Some value)) (ends.4 ∙ ap (end_with (is_marked h.2 r.key) ended) key_is) ∙ agreed_end (is_marked h.2 r.key) ended key (Some value) then
    in
    let agreed : is_agreed (entry_at h.4.cache key) (entry_at w.store key) ≡ true = ap (is_agreed (entry_at h.4.cache key)) stored ∙ at_end in
    let m : WorldState = with_commit w key part h.2 h.4 call (fault_in x.reply) in
    let U : WorldState → Type 0 = λ v. (is_untold v key ≡ false) × (is_misled_at v key ≡ false) in
    subst U (sym left) (
      ap (λ b. b && has_any m key) (told_now (with_doubt w.foreign key (is_misled part)) key (is_agreed (entry_at h.4.cache key) (entry_at w.store key)) agreed),
      ap (has_progress is_misled) (get-remove nat_list_cmp_total w.parts key key ∙ ap (λ b. cond b None (get w.parts key)) (tied key)),
    )

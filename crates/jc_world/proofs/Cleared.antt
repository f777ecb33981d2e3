-- After a clear of a key nothing from before it counts.
--     free_cleared      of what the cache has nothing of, nobody has lied
--     told_cleared      a clear that is done leaves neither an entry nor a reservation
--     forgets           what is cached then is what the groups since leave of an empty cache
use Rattle.jc_world.proofs.Common.{◌≡◌, ℕ, Bool, true, false, cond, ◌&&◌, ◌||◌, List, [], ◌∷◌, ◌++◌, is_some, IsSomeAnd, Some, None, Option, sym, refl, ap, ◌∙◌, subst, inl, inr, and_right, false_from_ne_true, nat_list_cmp_total, eq_by_cmp, empty, get-empty, get, remove, get-remove, get-with_entry, Caller, Bytes, Cache, entry_at, key_cmp, Group, nothing_said, without_victim, cache_before_step, cache_after_step, without_own, cache_after_group, cache_after_part, cache_after_parts, entry_after, Cause, Op, Clear, Begins, StepDone, Begun, State, is_reserved, first_refusal, Stepped, Shown, Outcome, Over, WorldEvent, op_at, Step, with_settled, with_phase, step_of, fault_in, Agrees, IsSoundWorld, WorldState, home, entry_in, cached_entry, has_any, is_untold, is_foreign, has_progress, is_misled, or_parts, Part}
use Rattle.jc_model.specs.Table.{seq_entry}
use Rattle.jc_model.specs.Group.{Part as HistoryPart, Made, Dropped}
use Rattle.jc_world.specs.Told.{IsClear, is_misled_at}
use Rattle.jc_world.proofs.Lemmas.{agrees_stepped, stripe_put, tied, split}
use Rattle.jc_world.proofs.Facts.{some_back}
use Rattle.jc_world.proofs.Reservations.{needs_none}
use Rattle.jc_world.proofs.Kept.{unheld}

-- 1. A first phase.

-- what agrees with nothing isn't there
pub nothing_agrees : (o : Option Bytes) → Agrees o None → o ≡ None
nothing_agrees None h = refl
nothing_agrees (Some value) h = let t : None ≡ Some value = h in cc

-- a clear that is done leaves no entry
cleared_entry : (caller : Caller) (key : Bytes) (from to : State) (done : StepDone) → Begins from caller key Clear (Begun.Done done) to → entry_at to.cache key ≡ None
cleared_entry caller key from to done h =
    nothing_agrees (entry_at to.cache key) (agrees_stepped from to caller key Clear nothing_said [] done key None h.2
    (let P : Bool → Type 0 = λ b. Agrees (cond b (entry_after Clear (entry_at from.cache key) nothing_said) (entry_at from.cache key)) None in subst P (sym (tied key)) tt))

-- its key wasn't reserved
cleared_free : (caller : Caller) (key : Bytes) (from : State) → first_refusal from caller key Clear ≡ None → is_reserved from key ≡ false
cleared_free caller key from none =
    false_from_ne_true (is_reserved from key) (λ there. let t : true ≡ false = needs_none from caller key Clear none there in cc)

-- so the cache has nothing of it
pub told_cleared : (w new : WorldState) (call : ℕ) (key : Bytes) (x : Stepped) (over : Option Over) → IsSoundWorld w → IsClear w call key → Step w (WorldEvent.Start call key) (record { outcome = Outcome.Stepped x; over = over }) new
    → (has_any new key ≡ false) × (is_untold new key ≡ false)
told_cleared w new call key x over sound clear (inr (unfit, shows, is)) =
    absurd (let bad : Outcome.Stepped x ≡ Outcome.Unfit = ap (λ (s : Shown). s.outcome) shows in cc)
told_cleared w new call key x over sound clear (inl (fit, h)) =
    let is : op_at h.0 key ≡ Some Clear = subst (λ o. IsSomeAnd o (λ u. op_at u key ≡ Some Clear)) h.2 clear in
    let op_is : h.1 ≡ Clear = some_back h.1 Clear (sym h.3 ∙ is) in
    let begins : Begins h.4 h.0.caller key Clear (Begun.Done (step_of x)) h.6 = subst (λ (op : Op). Begins h.4 h.0.caller key op (Begun.Done (step_of x)) h.6) op_is h.7.0 in
    let m : WorldState = with_settled (with_phase w key h.4 h.6) h.0.caller.call key (fault_in x.reply) in
    let entry : cached_entry m key ≡ None = ap (λ o. entry_in o key) (stripe_put w.stripes (home w key) h.4 h.6 h.5) ∙ cleared_entry h.0.caller key h.4 h.6 (step_of x) begins in
    let part : get w.parts key ≡ None = unheld w key h.4 h.5 (cleared_free h.0.caller key h.4 begins.0) sound in
    let none : has_any new key ≡ false = ap (λ (v : WorldState). has_any v key) h.7.2 ∙ (λ i. is_some (entry i) || is_some (part i)) in
    (none, ap (λ b. is_foreign new key && b) none ∙ and_right (is_foreign new key) false refl)

-- nor has anyone lied about it
pub free_cleared : (w : WorldState) (key : Bytes) → has_any w key ≡ false → is_misled_at w key ≡ false
free_cleared w key none = go (get w.parts key) (or_parts (is_some (cached_entry w key)) (is_some (get w.parts key)) none).1
  where
    go : (o : Option Part) → is_some o ≡ false → has_progress is_misled o ≡ false
    go None h = refl
    go (Some part) h = absurd (let t : true ≡ false = h in cc)

-- 2. What is cached later.

-- what two caches have of a key is the same after a group, if it was before
same_group : (c d : Cache) (g : Group) (key : Bytes) → entry_at c key ≡ entry_at d key → entry_at (cache_after_group c g) key ≡ entry_at (cache_after_group d g) key
same_group c d g key same = own g.evicted (step (before g.victim))
  where
    without : (c d : Cache) (k q : Bytes) → entry_at c q ≡ entry_at d q → entry_at (remove c k) q ≡ entry_at (remove d k) q
    without c d k q e = get-remove nat_list_cmp_total c k q ∙ ap (cond (eq_by_cmp key_cmp q k) None) e ∙ sym (get-remove nat_list_cmp_total d k q)

    before : (victim : Option Bytes) → entry_at (without_victim c victim) key ≡ entry_at (without_victim d victim) key
    before None = same
    before (Some k) = without c d k key same

    step : entry_at (cache_before_step c g) key ≡ entry_at (cache_before_step d g) key → entry_at (cache_after_step c g) key ≡ entry_at (cache_after_step d g) key
    step e =
        get-with_entry (cache_before_step c g) g.step.key (seq_entry (cache_before_step c g) g.step) key
        ∙ split key g.step.key (λ b. cond b (seq_entry (cache_before_step c g) g.step) (entry_at (cache_before_step c g) key) ≡ cond b (seq_entry (cache_before_step d g) g.step) (entry_at (cache_before_step d g) key))
        (λ same_key. let E : Bytes → Type 0 = λ k. entry_at (cache_before_step c g) k ≡ entry_at (cache_before_step d g) k in ap (λ o. entry_after g.step.op o g.step.out) (subst E same_key e))
        (λ apart. e)
        ∙ sym (get-with_entry (cache_before_step d g) g.step.key (seq_entry (cache_before_step d g) g.step) key)

    own : (cause : Option Cause) → entry_at (cache_after_step c g) key ≡ entry_at (cache_after_step d g) key → entry_at (without_own (cache_after_step c g) g.step.key cause) key ≡ entry_at (without_own (cache_after_step d g) g.step.key cause) key
    own None e = e
    own (Some cause) e = without (cache_after_step c g) (cache_after_step d g) g.step.key key e

-- and after a part
same_part : (c d : Cache) (p : HistoryPart) (key : Bytes) → entry_at c key ≡ entry_at d key → entry_at (cache_after_part c p) key ≡ entry_at (cache_after_part d p) key
same_part c d (Made g) key same = same_group c d g key same
same_part c d (Dropped k) key same = get-remove nat_list_cmp_total c k key ∙ ap (cond (eq_by_cmp key_cmp key k) None) same ∙ sym (get-remove nat_list_cmp_total d k key)

-- so it is after many
same_parts : (c d : Cache) (ps : List HistoryPart) (key : Bytes) → entry_at c key ≡ entry_at d key → entry_at (cache_after_parts c ps) key ≡ entry_at (cache_after_parts d ps) key
same_parts c d [] key same = same
same_parts c d (p ∷ ps) key same = same_parts (cache_after_part c p) (cache_after_part d p) ps key (same_part c d p key same)

-- a clear leaves nothing at its key
cleared_group : (c : Cache) (g : Group) → g.step.op ≡ Clear → g.step.out ≡ nothing_said → entry_at (cache_after_group c g) g.step.key ≡ None
cleared_group c g op_is out_is = own g.evicted
  where
    made : entry_at (cache_after_step c g) g.step.key ≡ None
    made =
        get-with_entry (cache_before_step c g) g.step.key (seq_entry (cache_before_step c g) g.step) g.step.key
        ∙ ap (λ b. cond b (seq_entry (cache_before_step c g) g.step) (entry_at (cache_before_step c g) g.step.key)) (tied g.step.key)
        ∙ (λ i. entry_after (op_is i) (entry_at (cache_before_step c g) g.step.key) (out_is i))

    own : (cause : Option Cause) → entry_at (without_own (cache_after_step c g) g.step.key cause) g.step.key ≡ None
    own None = made
    own (Some cause) = get-remove nat_list_cmp_total (cache_after_step c g) g.step.key g.step.key ∙ ap (λ b. cond b None (entry_at (cache_after_step c g) g.step.key)) (tied g.step.key)

pub forgets : (cache : Cache) (before after : List HistoryPart) (clear : Group) → clear.step.op ≡ Clear → clear.step.out ≡ nothing_said → entry_at (cache_after_parts cache (before ++ Made clear ∷ after)) clear.step.key ≡ entry_at (cache_after_parts empty after) clear.step.key
forgets cache [] after clear op_is out_is =
    same_parts (cache_after_group cache clear) empty after clear.step.key (cleared_group cache clear op_is out_is ∙ sym (get-empty key_cmp clear.step.key))
forgets cache (p ∷ ps) after clear op_is out_is = forgets (cache_after_part cache p) ps after clear op_is out_is

-- and an eviction of an invalidated key leaves nothing
pub forgets_dropped : (cache : Cache) (before after : List HistoryPart) (key : Bytes) → entry_at (cache_after_parts cache (before ++ Dropped key ∷ after)) key ≡ entry_at (cache_after_parts empty after) key
forgets_dropped cache [] after key =
    same_parts (remove cache key) empty after key (get-remove nat_list_cmp_total cache key key ∙ ap (λ b. cond b None (entry_at cache key)) (tied key) ∙ sym (get-empty key_cmp key))
forgets_dropped cache (p ∷ ps) after key = forgets_dropped (cache_after_part cache p) ps after key

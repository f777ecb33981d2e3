-- What a step moves.
--     victim_next    a step's victim is the next one, and its own key had no entry
--     commit_next    the same of a commit, in the state before it
--     others_stay    the entries of the other keys stay
--     told_victim    so the victim that was noted before is told
use Rattle.std.proofs.Common.{◌≡◌, ◌==◌, ◌&&◌, ◌||◌, ◌+◌, ◌-◌, ℕ, List, [], ◌∷◌, length, map, filter, reverse, Bool, true, false, cond, not, Option, None, Some, is_some, is_none, option_map, find, nat_lt, refl, sym, ap, ◌∙◌, arith}
use Rattle.std.proofs.lemmas.Bool.{and_parts}
use Rattle.std.proofs.lemmas.Bool.Decides.{nat_tests}
use Rattle.std.proofs.lemmas.Cmp.{nat_list_eq_equiv}
use Rattle.std.specs.Ordering.{eq_by_cmp}
use Rattle.std.specs.List.{list_any}
use Rattle.std.specs.Map.{keys_of}
use Rattle.std.specs.FinMap as finite
use Rattle.std.specs.FinMap.{len}
use Rattle.std.specs.Cmp.Lexicographic.{pointwise, same_text, texts_ties}
use Rattle.jc_types.specs.declared.caller.Caller.{Caller}
use Rattle.jc_model.specs.declared.event.Op.{Op}
use Rattle.jc_model.specs.declared.event.Out.{Out}
use Rattle.jc_model.specs.declared.event.Cause.{Cause}
use Rattle.jc_model.specs.Cache.{Bytes, Cache, entry_at, key_cmp}
use Rattle.jc_model.specs.Group.{events_of, without_victim, without_own}
use Rattle.jc_model.specs.declared.event.Op.TheVariants.{Get}
use Rattle.jc_model.specs.Group.{nothing_said}
use Rattle.jc_model.specs.Table.{NewStep, seq_cache, seq_entry, entry_after}
use Rattle.jc_model.proofs.CallerLemmas.{get-with_entry, get-without}
use Rattle.jc_entries.specs.ByUse.{is_pinned}
use Rattle.jc_stripe.specs.declared.ticket.Reservation.{Reservation}
use Rattle.jc_stripe.specs.declared.begun.Eviction.{Eviction}
use Rattle.jc_stripe.specs.Outcomes.{StepDone}
use Rattle.jc_stripe.specs.State.{State, is_key, without_key}
use Rattle.jc_stripe.specs.OrderOfUse.{by_use, pinned, least_used, next_victim}
use Rattle.jc_stripe.specs.Phases.{Steps, Commits, own_cause, inserts_here, overflows, victim, new_group, after_commit}
use Rattle.jc_stripe.specs.Reached.{IsReached}
use Rattle.jc_stripe.proofs.Used.{find-entry}
use Rattle.jc_stripe.specs.ValuesMoved.{MovesMade, MovesValues, is_new_value, value_lost, victim_entry, nothing_moved, KeepsOtherEntries}
use Rattle.jc_entries.proofs.CallerLemmas.{any_key}

-- 1. Who is evicted.

pub record IsNext (state : State) (key v : Bytes) : Type 0 where
  pub missing : is_some (entry_at state.cache key) ≡ false
  pub next : next_victim state ≡ Some v

full_has : (n m : ℕ) → (n == m) ≡ true → nat_lt n m ≡ false
full_has n m h = grind (arith, nat_tests)

not_some : (o : Option Bytes) → is_none o ≡ true → is_some o ≡ false
not_some None h = refl
not_some (Some x) h = cc

overflow_next : (state : State) (key v : Bytes) (op : Op) (out : Out) (b : Bool) → overflows state key op out ≡ b → cond b (least_used state) None ≡ Some v → IsNext state key v
overflow_next state key v op out true is h =
    let both = and_parts (inserts_here state key op out) (len state.cache == state.config.capacity) is in
    let insert = and_parts (is_none (entry_at state.cache key)) _ both.0 in
    record {
      missing = not_some (entry_at state.cache key) insert.0;
      next = ap (λ c. cond c None (least_used state)) (full_has (len state.cache) state.config.capacity both.1) ∙ h;
    }
overflow_next state key v op out false is h = cc

pub victim_next : (old new : State) (caller : Caller) (key v : Bytes) (op : Op) (out : Out) (callers : List Caller) (done : StepDone) → Steps old caller key op out callers done new
    → done.victim ≡ Some v → IsNext old key v
victim_next old new caller key v op out callers done steps h = overflow_next old key v op out (overflows old key op out) refl (sym steps.victim_is ∙ h)

-- 2. A commit frees its own key, which has no entry.

own_out : (b : Bool) (r : Reservation) (rs : List Reservation) (key x : Bytes) → is_key key r ≡ b → pointwise ◌==◌ key x ≡ false
    → list_any (λ o. pointwise ◌==◌ o x) (map (λ s. s.key) (filter (λ s. not (is_key key s)) rs)) ≡ list_any (λ o. pointwise ◌==◌ o x) (map (λ s. s.key) rs)
    → list_any (λ o. pointwise ◌==◌ o x) (map (λ s. s.key) (cond (not b) (r ∷ filter (λ s. not (is_key key s)) rs) (filter (λ s. not (is_key key s)) rs)))
    ≡ (pointwise ◌==◌ r.key x || list_any (λ o. pointwise ◌==◌ o x) (map (λ s. s.key) rs))
own_out true r rs key x is differs rest =
    let other : pointwise ◌==◌ r.key x ≡ false = ap (λ q. pointwise ◌==◌ q x) (sym (same_text key r.key (sym is))) ∙ differs in
    rest ∙ ap (λ b. b || list_any (λ o. pointwise ◌==◌ o x) (map (λ s. s.key) rs)) (sym other)
own_out false r rs key x is differs rest = ap (λ b. pointwise ◌==◌ r.key x || b) rest

any_out : (rs : List Reservation) (key x : Bytes) → pointwise ◌==◌ key x ≡ false → is_pinned (pinned (without_key key rs)) x ≡ is_pinned (pinned rs) x
any_out [] key x differs = refl
any_out (r ∷ rs) key x differs = own_out (is_key key r) r rs key x refl differs (any_out rs key x differs)

-- a search among other keys
find_out : (xs : List Bytes) (rs : List Reservation) (key : Bytes) → list_any (pointwise ◌==◌ key) xs ≡ false
    → find (λ x. not (is_pinned (pinned (without_key key rs)) x)) xs ≡ find (λ x. not (is_pinned (pinned rs) x)) xs
find_out [] rs key h = refl
find_out (x ∷ xs) rs key h = by (pointwise ◌==◌ key x) refl h (λ rest. find_out xs rs key rest)
  where
    by : (b : Bool) → pointwise ◌==◌ key x ≡ b → (b || list_any (pointwise ◌==◌ key) xs) ≡ false
        → (list_any (pointwise ◌==◌ key) xs ≡ false → find (λ y. not (is_pinned (pinned (without_key key rs)) y)) xs ≡ find (λ y. not (is_pinned (pinned rs) y)) xs)
        → find (λ y. not (is_pinned (pinned (without_key key rs)) y)) (x ∷ xs) ≡ find (λ y. not (is_pinned (pinned rs) y)) (x ∷ xs)
    by true is rest more = cc
    by false is rest more = λ i. cond (not (any_out rs key x is i)) (Some x) (more rest i)

missing_any : (key : Bytes) (entries : List (Bytes × Bytes)) → finite.find key_cmp key entries ≡ None → list_any (pointwise ◌==◌ key) (keys_of entries) ≡ false
missing_any key [] h = refl
missing_any key (e ∷ es) h = by (eq_by_cmp key_cmp key e.0) refl h (λ none. missing_any key es none)
  where
    by : (b : Bool) → eq_by_cmp key_cmp key e.0 ≡ b → cond b (Some e.1) (finite.find key_cmp key es) ≡ None
        → (finite.find key_cmp key es ≡ None → list_any (pointwise ◌==◌ key) (keys_of es) ≡ false) → (pointwise ◌==◌ key e.0 || list_any (pointwise ◌==◌ key) (keys_of es)) ≡ false
    by true is h more = cc
    by false is h more = (λ i. (texts_ties key e.0 ∙ is) i || more h i)

none_of : (o : Option Bytes) → is_some o ≡ false → o ≡ None
none_of None h = refl
none_of (Some x) h = cc

freed_least : (old : State) (r : Reservation) (place : ℕ) → IsReached old → is_some (entry_at old.cache r.key) ≡ false → least_used (after_commit old r place) ≡ least_used old
freed_least old r place reached missing =
    let entries = by_use old.opening old.history in
    let none : finite.find key_cmp r.key entries ≡ None = find-entry entries r.key ∙ ap (λ c. entry_at c r.key) (sym reached.used.cache) ∙ none_of (entry_at old.cache r.key) missing in
    find_out (keys_of (reverse entries)) old.reservations r.key (any_key (pointwise ◌==◌ r.key) entries ∙ missing_any r.key entries none)

pub commit_next : (old new : State) (r : Reservation) (v : Bytes) (out : Out) (done : StepDone) → IsReached old → Commits old r out done new → done.victim ≡ Some v → IsNext old r.key v
commit_next old new r v out done reached commits h =
    let between = after_commit old r done.place in
    let is = victim_next between new r.caller r.key v r.op out _ done commits.1 h in
    record {
      missing = is.missing;
      next = ap (λ o. cond (nat_lt (len old.cache) old.config.capacity) None o) (sym (freed_least old r done.place reached is.missing)) ∙ is.next;
    }

-- 3. The victim that was noted.

pub told_victim : (state : State) (key : Bytes) (v : Option Bytes) → ((k : Bytes) → v ≡ Some k → IsNext state key k)
    → cond (is_some v) (cond (is_some (entry_at state.cache key)) None (victim_entry state (next_victim state))) None ≡ victim_entry state v
told_victim state key None next = refl
told_victim state key (Some k) next =
    let is = next k refl in
    ap (λ b. cond b None (victim_entry state (next_victim state))) is.missing ∙ ap (victim_entry state) is.next

-- 4. The other entries.

apart : (x y : Bytes) → pointwise ◌==◌ x y ≡ false → pointwise ◌==◌ y x ≡ false
apart x y h = nat_list_eq_equiv.symm y x ∙ h

without_stays : (cache : Cache) (v : Option Bytes) (other : Bytes) → (v ≡ Some other → ⊥) → entry_at (without_victim cache v) other ≡ entry_at cache other
without_stays cache None other h = refl
without_stays cache (Some k) other h =
    elim (pointwise ◌==◌ other k) as (λ b. pointwise ◌==◌ other k ≡ b → entry_at (without_victim cache (Some k)) other ≡ entry_at cache other) [
      | true ↦ λ e. absurd (h (ap Some (sym (same_text other k (sym e)))))
      | false ↦ λ e. get-without cache k other false e
    ] refl

own_stays : (cache : Cache) (key : Bytes) (cause : Option Cause) (other : Bytes) → pointwise ◌==◌ key other ≡ false → entry_at (without_own cache key cause) other ≡ entry_at cache other
own_stays cache key None other h = refl
own_stays cache key (Some cause) other h = get-without cache key other false (apart key other h)

step_stays : (cache : Cache) (step : NewStep) (other : Bytes) → pointwise ◌==◌ step.key other ≡ false → entry_at (seq_cache cache step) other ≡ entry_at cache other
step_stays cache step other h =
    get-with_entry cache step.key (seq_entry cache step) other
    ∙ ap (λ b. cond b (seq_entry cache step) (entry_at cache other)) (sym (texts_ties other step.key) ∙ apart step.key other h)

pub others_stay : (old new : State) (caller : Caller) (key : Bytes) (op : Op) (out : Out) (callers : List Caller) (done : StepDone) → Steps old caller key op out callers done new
    → KeepsOtherEntries old key done.victim new
others_stay old new caller key op out callers done steps other differs unevicted =
    let g = new_group old caller key op out callers steps.short in
    ap (λ (s : State). entry_at s.cache other) steps.after
    ∙ own_stays (seq_cache (without_victim old.cache g.victim) g.step) key g.evicted other differs
    ∙ step_stays (without_victim old.cache g.victim) g.step other differs
    ∙ without_stays old.cache g.victim other (λ h. unevicted (steps.victim_is ∙ h))

-- 5. What was noted before and after.

pub moved : (old new : State) (at key : Bytes) (v : Option Bytes) (evicted : Option Eviction) (before after : MovesMade) → at ≡ key
    → before.left ≡ entry_at old.cache at → before.victim ≡ cond (is_some (entry_at old.cache at)) None (victim_entry old (next_victim old))
    → after.kept ≡ is_new_value before.left (entry_at new.cache at) → after.left ≡ value_lost before.left (entry_at new.cache at) → after.victim ≡ cond (is_some v) before.victim None → after.own ≡ option_map (λ e. e.cause) evicted
    → ((k : Bytes) → v ≡ Some k → IsNext old key k) → KeepsOtherEntries old key v new → MovesValues old key v evicted after new
moved old new at key v evicted before after same left victim kept left_now victim_now own next others =
    record {
      kept = kept ∙ ap (λ o. is_new_value o (entry_at new.cache at)) left ∙ ap (λ q. is_new_value (entry_at old.cache q) (entry_at new.cache q)) same;
      left = left_now ∙ ap (λ o. value_lost o (entry_at new.cache at)) left ∙ ap (λ q. value_lost (entry_at old.cache q) (entry_at new.cache q)) same;
      victim_is = victim_now ∙ ap (λ o. cond (is_some v) o None) (victim ∙ ap (λ q. cond (is_some (entry_at old.cache q)) None (victim_entry old (next_victim old))) same) ∙ told_victim old key v next;
      own_is = own;
      others = others;
    }

-- 6. A get that asks nobody moves nothing.

no_insert : (entry : Option Bytes) → (is_none entry && is_some (entry_after Get entry nothing_said)) ≡ false
no_insert None = refl
no_insert (Some value) = refl

same_after : (entry : Option Bytes) → entry_after Get entry nothing_said ≡ entry
same_after None = refl
same_after (Some value) = refl

own_value : (value : Bytes) → pointwise ◌==◌ value value ≡ true
own_value value = nat_list_eq_equiv.refl value

not_kept : (entry : Option Bytes) → is_new_value entry entry ≡ false
not_kept None = refl
not_kept (Some value) = ap not (own_value value)

none_left : (entry : Option Bytes) → value_lost entry entry ≡ None
none_left None = refl
none_left (Some value) = ap (λ b. cond b None (Some value)) (own_value value)

own_entry : (cache : Cache) (step : NewStep) → entry_at (seq_cache cache step) step.key ≡ seq_entry cache step
own_entry cache step =
    get-with_entry cache step.key (seq_entry cache step) step.key
    ∙ ap (λ b. cond b (seq_entry cache step) (entry_at cache step.key)) (sym (texts_ties step.key step.key) ∙ own_value step.key)

pub get_moves : (old new : State) (caller : Caller) (key : Bytes) (done : StepDone) → Steps old caller key Get nothing_said [] done new → MovesValues old key done.victim done.evicted nothing_moved new
get_moves old new caller key done steps =
    let entry = entry_at old.cache key in
    let g = new_group old caller key Get nothing_said [] steps.short in
    let nobody : g.victim ≡ None = ap (λ b. cond (b && (len old.cache == old.config.capacity)) (least_used old) None) (no_insert entry) in
    let stays : g.evicted ≡ None = ap (λ b. own_cause b (overflows old key Get nothing_said) (is_some (victim old key Get nothing_said)) steps.short) (no_insert entry) in
    let none : done.victim ≡ None = steps.victim_is ∙ nobody in
    let alone : done.evicted ≡ None = steps.evicted ∙ ap (λ o. option_map (λ cause. record { cause = cause; place = length old.history + (length (events_of (length old.history) g) - 1) }) o) stays in
    let after : entry_at new.cache key ≡ entry =
    ap (λ (s : State). entry_at s.cache key) steps.after
    ∙ ap (λ o. entry_at (without_own (seq_cache (without_victim old.cache g.victim) g.step) key o) key) stays
    ∙ ap (λ o. entry_at (seq_cache (without_victim old.cache o) g.step) key) nobody
    ∙ own_entry old.cache g.step ∙ same_after entry in
    record {
      kept = sym (ap (is_new_value entry) after ∙ not_kept entry);
      left = sym (ap (value_lost entry) after ∙ none_left entry);
      victim_is = sym (ap (victim_entry old) none);
      own_is = sym (ap (option_map (λ e. e.cause)) alone);
      others = others_stay old new caller key Get nothing_said [] done steps;
    }

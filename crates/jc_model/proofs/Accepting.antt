-- What a reader accepts is what can be read.
use Rattle.std.proofs.Common.{◌≡◌, ◌==◌, ◌&&◌, ◌||◌, inl, inr, IsTrue, ℕ, ◌+◌, ◌-◌, ◌≤◌, List, [], ◌∷◌, ◌++◌, length, Bool, true, false, cond, if◌then◌else◌, is_none, is_some, Option, None, Some, refl, sym, ap, ◌∙◌, subst, arith, nat_le, add-zero}
use Rattle.std.proofs.lemmas.List.{length-append}
use Rattle.std.proofs.lemmas.Bool.{leb-true, le-leb, eqb-true, and_parts, and_from, and_right, false_from_ne_true}
use Rattle.std.proofs.lemmas.Cmp.{nat_list_cmp_total, nat_list_eq_equiv}
use Rattle.std.specs.Cmp.Lexicographic.{pointwise, texts_ties}
use Rattle.std.specs.Ordering.{eq_by_cmp}
use Rattle.std.specs.FinMap.{len, insert, remove, get-remove, get-insert, len-insert, len-remove, contains_key}
use Rattle.jc_types.specs.declared.config.Config.{Config}
use Rattle.jc_types.specs.declared.caller.Caller.{Caller}
use Rattle.jc_model.specs.declared.event.Cause.{Cause}
use Rattle.jc_model.specs.declared.event.Cause.TheVariants.{Full, Memory, Invalidated}
use Rattle.jc_model.specs.declared.event.Event.{Event}
use Rattle.jc_model.specs.declared.event.Event.TheVariants.{Step, Evict}
use Rattle.jc_model.specs.declared.reader.Opened.{Opened}
use Rattle.jc_model.specs.declared.reader.Stage.{Stage}
use Rattle.jc_model.specs.declared.reader.Stage.TheVariants.{Outside, Picked, Inside}
use Rattle.jc_model.specs.Cache.{Bytes, Cache, key_cmp, entry_at, with_entry}
use Rattle.jc_model.specs.Table.{NewStep, seq_entry, seq_cache}
use Rattle.jc_model.specs.Group.{Group, events_of, step_place, shared_event, cache_after_group, without_own, without_victim, cache_before_step, cache_after_step}
use Rattle.jc_model.specs.Lawful.{inserts, is_joinable, joined_fits, evicted_fits, IsLawfulStep, IsLawful}
use Rattle.jc_model.proofs.Reading.{Phase, Between, Chosen, Open, with_joined, with_evicted, behind, Reads}
use Rattle.jc_model.specs.Reader.{read_group, opened_group, own_goes, starts_part, started_stage, started_cache, Accepts}
use Rattle.jc_model.proofs.CallerLemmas.{none_is, same_cache, same_key, shadowed}
use Rattle.jc_model.proofs.Readings.{joined_so_far, evicted_so_far}

-- 1. Sizes.

remove-with_entry : (m : Cache) (key : Bytes) (entry : Option Bytes) → remove (with_entry m key entry) key ≡ remove m key
remove-with_entry m key None = same_cache _ _ (λ q.
    get-remove nat_list_cmp_total (remove m key) key q ∙ ap (cond (eq_by_cmp key_cmp q key) None) (get-remove nat_list_cmp_total m key q)
    ∙ shadowed (eq_by_cmp key_cmp q key) None None _ ∙ sym (get-remove nat_list_cmp_total m key q))
remove-with_entry m key (Some value) = same_cache _ _ (λ q.
    get-remove nat_list_cmp_total (insert m key value) key q ∙ ap (cond (eq_by_cmp key_cmp q key) None) (get-insert nat_list_cmp_total m key value q)
    ∙ shadowed (eq_by_cmp key_cmp q key) None (Some value) _ ∙ sym (get-remove nat_list_cmp_total m key q))

cond_less : (b : Bool) (n : ℕ) → cond b (n - 1) n ≤ n
cond_less true n = omega arith
cond_less false n = omega arith

len_remove_most : (m : Cache) (key : Bytes) → len (remove m key) ≤ len m
len_remove_most m key = let h = cond_less (contains_key m key) (len m) in let P : ℕ → Type 0 = λ n. n ≤ len m in subst P (sym (len-remove nat_list_cmp_total m key)) h

len_without : (m : Cache) (victim : Option Bytes) → len (without_victim m victim) ≤ len m
len_without m None = omega arith
len_without m (Some key) = len_remove_most m key

len_with : (m : Cache) (key : Bytes) (entry : Option Bytes) → entry_at m key ≡ None → is_some entry ≡ true → len (with_entry m key entry) ≡ len m + 1
len_with m key None missing h = cc
len_with m key (Some value) missing h =
    len-insert nat_list_cmp_total m key value ∙ ap (λ (o : Option Bytes). cond (is_some o) (len m) (len m + 1)) missing

len_made : (c : Cache) (made : NewStep) → (is_none (entry_at c made.key) && is_some (seq_entry c made)) ≡ true → len (seq_cache c made) ≡ len c + 1
len_made c made h =
    let parts = and_parts (is_none (entry_at c made.key)) (is_some (seq_entry c made)) h in
    len_with c made.key (seq_entry c made) (none_is _ parts.0) parts.1

-- a step that inserts with no victim makes the cache longer
len_stepped : (c : Cache) (g : Group) → inserts c g ≡ true → g.victim ≡ None → len (cache_after_step c g) ≡ len c + 1
len_stepped c g h v =
    ap (λ victim. len (seq_cache (without_victim c victim) g.step)) v
    ∙ len_made c g.step (ap (λ victim. is_none (entry_at (without_victim c victim) g.step.key) && is_some (seq_entry (without_victim c victim) g.step)) (sym v) ∙ h)

-- what a step inserted goes, and the cache is no longer than before
len_own : (c : Cache) (g : Group) → len (remove (cache_after_step c g) g.step.key) ≤ len c
len_own c g =
    let a = len_without c g.victim in
    let b = len_remove_most (cache_before_step c g) g.step.key in
    let e = ap len (remove-with_entry (cache_before_step c g) g.step.key (seq_entry (cache_before_step c g) g.step)) in
    omega arith

-- 2. Lawfulness in parts.

left_stepped : (c : Cache) (g : Group) → g.evicted ≡ None → cache_after_group c g ≡ cache_after_step c g
left_stepped c g e = ap (without_own (cache_after_step c g) g.step.key) e

-- what ends a group leaves its step as it is
step_same : (config : Config) (c : Cache) (g : Group) (cause : Cause) → IsLawfulStep config c (with_evicted g cause) → IsLawfulStep config c g
step_same config c g cause h = record { seq = h.seq; victim = h.victim }

step_joined : (config : Config) (c : Cache) (g : Group) (caller : Caller) → IsLawfulStep config c (with_joined g caller) → IsLawfulStep config c g
step_joined config c g caller h = record { seq = h.seq; victim = h.victim }

joined_step : (config : Config) (c : Cache) (g : Group) (caller : Caller) → IsLawfulStep config c g → IsLawfulStep config c (with_joined g caller)
joined_step config c g caller h = record { seq = h.seq; victim = h.victim }

pub starts_from : (config : Config) (p : ℕ) (c : Cache) (g : Group) (es : List Event) → Reads config (Open p c g) es → IsLawfulStep config c g
starts_from config p c g [] r = r.step
starts_from config p c g (e ∷ es) (inl a) = step_joined config c g a.0 (starts_from config p c (with_joined g a.0) es a.2)
starts_from config p c g (e ∷ es) (inr (inl b)) = step_same config c g b.0 b.2.step
starts_from config p c g (e ∷ es) (inr (inr (inl d))) = d.2.step
starts_from config p c g (e ∷ es) (inr (inr (inr d))) = d.2.step

joined_last : (config : Config) (c : Cache) (g : Group) (callers : List Caller) (caller : Caller) → joined_fits config c g (callers ++ caller ∷ []) ≡ true → is_joinable config c g ≡ true
joined_last config c g [] caller h = h
joined_last config c g (other ∷ callers) caller h = h

joined_any : (config : Config) (c : Cache) (g : Group) (callers : List Caller) → is_joinable config c g ≡ true → joined_fits config c g callers ≡ true
joined_any config c g [] h = refl
joined_any config c g (caller ∷ callers) h = h

joined_before : (config : Config) (c : Cache) (g : Group) (callers : List Caller) (caller : Caller) → joined_fits config c g (callers ++ caller ∷ []) ≡ true → joined_fits config c g callers ≡ true
joined_before config c g callers caller h = joined_any config c g callers (joined_last config c g callers caller h)

joined_from : (config : Config) (p : ℕ) (c : Cache) (g : Group) (es : List Event) → Reads config (Open p c g) es → joined_fits config c g g.joined ≡ true
joined_from config p c g [] r = r.joined
joined_from config p c g (e ∷ es) (inl a) = joined_before config c g g.joined a.0 (joined_from config p c (with_joined g a.0) es a.2)
joined_from config p c g (e ∷ es) (inr (inl b)) = b.2.joined
joined_from config p c g (e ∷ es) (inr (inr (inl d))) = d.2.joined
joined_from config p c g (e ∷ es) (inr (inr (inr d))) = d.2.joined

-- 3. The reader's state in a phase.

abbrev place_now : Phase → ℕ
place_now (Between p c) = p
place_now (Chosen p c key) = p + 1
place_now (Open p c g) = behind p g

abbrev cache_now : Phase → Cache
cache_now (Between p c) = c
cache_now (Chosen p c key) = c
cache_now (Open p c g) = cache_after_step c g

abbrev stage_now : Config → Phase → Stage
stage_now config (Between p c) = Outside
stage_now config (Chosen p c key) = Picked key
stage_now config (Open p c g) = Inside (opened_group config c (step_place p g) g)

-- what was tested so far
abbrev Tested : Config → Phase → Type 0
Tested config (Between p c) = len c ≤ config.capacity
Tested config (Chosen p c key) = len c ≤ config.capacity
Tested config (Open p c g) = (len c ≤ config.capacity) × (g.evicted ≡ None) × IsLawfulStep config c g × (joined_fits config c g g.joined ≡ true)

moved : (config : Config) (p q : ℕ) (c d : Cache) (s t : Stage) (es : List Event) → p ≡ q → c ≡ d → s ≡ t → Accepts config p c s es → Accepts config q d t es
moved config p q c d s t es e f g a =
    let P : ℕ → Type 0 = λ p. Accepts config p c s es in
    let Q : Cache → Type 0 = λ c. Accepts config q c s es in
    let R : Stage → Type 0 = λ s. Accepts config q d s es in
    subst R g (subst Q f (subst P e a))

lawful_now : (config : Config) (p : ℕ) (c : Cache) (g : Group) → Tested config (Open p c g) → len (cache_after_step c g) ≤ config.capacity → IsLawful config c g
lawful_now config p c g t w =
    let P : Cache → Type 0 = λ d. len d ≤ config.capacity in
    record { step = t.2; joined = t.3; evicted = ap (evicted_fits config c g) t.1; within = subst P (sym (left_stepped c g t.1)) w }

within_now : (config : Config) (c : Cache) (g : Group) → g.evicted ≡ None → IsLawful config c g → len (cache_after_step c g) ≤ config.capacity
within_now config c g e h = let P : Cache → Type 0 = λ d. len d ≤ config.capacity in subst P (left_stepped c g e) h.within

behind_joined : (p : ℕ) (g : Group) (caller : Caller) → g.evicted ≡ None → behind p (with_joined g caller) ≡ behind p g + 1
behind_joined p g caller e =
    let h = ap length (joined_so_far p g caller e) ∙ length-append (events_of p g) (shared_event (step_place p g) g.step.key g.step.out.load caller ∷ []) in omega arith

behind_evicted : (p : ℕ) (g : Group) (cause : Cause) → g.evicted ≡ None → behind p (with_evicted g cause) ≡ behind p g + 1
behind_evicted p g cause e =
    let h = ap length (evicted_so_far p g cause e) ∙ length-append (events_of p g) (Evict g.step.key cause ∷ []) in omega arith

-- 4. The step's own eviction.

-- an invalidated key is never the step's own
not_own : (config : Config) (place : ℕ) (c : Cache) (g : Group) (key : Bytes) → own_goes (opened_group config c place g) key Invalidated ≡ false
not_own config place c g key = and_right (pointwise ◌==◌ key g.step.key && inserts c g) false refl

no_own : (config : Config) (place : ℕ) (c : Cache) (g : Group) (key : Bytes) → own_goes (opened_group config c place g) key Invalidated ≡ true → ⊥
no_own config place c g key h = let e = sym (not_own config place c g key) ∙ h in cc

own_fits : (config : Config) (place : ℕ) (c : Cache) (g : Group) (cause : Cause) → evicted_fits config c g (Some cause) ≡ true → own_goes (opened_group config c place g) g.step.key cause ≡ true
own_fits config place c g Invalidated h = cc
own_fits config place c g Memory h = and_from _ _ (and_from _ _ (nat_list_eq_equiv.refl g.step.key) h) refl
own_fits config place c g Full h =
    let a = and_parts (inserts c g && (len c == config.capacity)) (is_none g.victim) h in
    let b = and_parts (inserts c g) (len c == config.capacity) a.0 in
    and_from _ _ (and_from _ _ (nat_list_eq_equiv.refl g.step.key) b.0) (and_from _ _ b.1 a.1)

fits_own : (config : Config) (place : ℕ) (c : Cache) (g : Group) (key : Bytes) (cause : Cause) → own_goes (opened_group config c place g) key cause ≡ true → (key ≡ g.step.key) × (evicted_fits config c g (Some cause) ≡ true)
fits_own config place c g key Invalidated h = absurd (no_own config place c g key h)
fits_own config place c g key Memory h =
    let a = and_parts (pointwise ◌==◌ key g.step.key && inserts c g) true h in
    let b = and_parts (pointwise ◌==◌ key g.step.key) (inserts c g) a.0 in
    (same_key key g.step.key (sym (texts_ties key g.step.key) ∙ b.0), b.1)
fits_own config place c g key Full h =
    let a = and_parts (pointwise ◌==◌ key g.step.key && inserts c g) ((len c == config.capacity) && is_none g.victim) h in
    let b = and_parts (pointwise ◌==◌ key g.step.key) (inserts c g) a.0 in
    let d = and_parts (len c == config.capacity) (is_none g.victim) a.1 in
    (same_key key g.step.key (sym (texts_ties key g.step.key) ∙ b.0), and_from _ _ (and_from _ _ b.1 d.0) d.1)

-- where the step's key must go, the group cannot end without it
no_end : (config : Config) (place : ℕ) (c : Cache) (g : Group) (key : Bytes) → len (cache_after_step c g) ≤ config.capacity → own_goes (opened_group config c place g) key Full ≡ true → ⊥
no_end config place c g key w h =
    let f = fits_own config place c g key Full h in
    let a = and_parts (inserts c g && (len c == config.capacity)) (is_none g.victim) f.1 in
    let b = and_parts (inserts c g) (len c == config.capacity) a.0 in
    let longer = len_stepped c g b.0 (none_is _ a.1) in
    let full = eqb-true (len c) config.capacity b.1 in
    omega arith

or_false : (a b : Bool) → a ≡ false → (a || b) ≡ true → b ≡ true
or_false true b e h = cc
or_false false b e h = h

some_not : {A : Type 0} (x : A) → None ≡ Some x → ⊥
some_not x h = cc

no_true : false ≡ true → ⊥
no_true h = cc

-- 5. What can be read is accepted.

-- the reader's state behind a group's step
started : (config : Config) (p : ℕ) (c : Cache) (g : Group) (place : ℕ) (es : List Event) → place ≡ step_place p g → behind p g ≡ place + 1
    → Accepts config (behind p g) (cache_after_step c g) (Inside (opened_group config c (step_place p g) g)) es → Accepts config (place + 1) (cache_after_step c g) (Inside (opened_group config c place g)) es
started config p c g place es e b a = moved config _ _ _ _ _ _ es b refl (ap (λ q. Inside (opened_group config c q g)) (sym e)) a

unstarted : (config : Config) (p : ℕ) (c : Cache) (g : Group) (place : ℕ) (es : List Event) → place ≡ step_place p g → behind p g ≡ place + 1
    → Accepts config (place + 1) (cache_after_step c g) (Inside (opened_group config c place g)) es → Accepts config (behind p g) (cache_after_step c g) (Inside (opened_group config c (step_place p g) g)) es
unstarted config p c g place es e b a = moved config _ _ _ _ _ _ es (sym b) refl (ap (λ q. Inside (opened_group config c q g)) e) a

evicted_next : (config : Config) (place : ℕ) (c : Cache) (kept : Opened) (key : Bytes) (cause : Cause) (es : List Event) (b : Bool) → own_goes kept key cause ≡ b
    → Accepts config place (if b then remove c key else started_cache c key cause) (if b then Outside else started_stage key cause) es
    → Accepts config place (if own_goes kept key cause then remove c key else started_cache c key cause) (if own_goes kept key cause then Outside else started_stage key cause) es
evicted_next config place c kept key cause es b e a =
    let P : Bool → Type 0 = λ b. Accepts config place (if b then remove c key else started_cache c key cause) (if b then Outside else started_stage key cause) es in subst P (sym e) a

next_evicted : (config : Config) (place : ℕ) (c : Cache) (kept : Opened) (key : Bytes) (cause : Cause) (es : List Event) (b : Bool) → own_goes kept key cause ≡ b
    → Accepts config place (if own_goes kept key cause then remove c key else started_cache c key cause) (if own_goes kept key cause then Outside else started_stage key cause) es
    → Accepts config place (if b then remove c key else started_cache c key cause) (if b then Outside else started_stage key cause) es
next_evicted config place c kept key cause es b e a =
    let P : Bool → Type 0 = λ b. Accepts config place (if b then remove c key else started_cache c key cause) (if b then Outside else started_stage key cause) es in subst P e a

pub to : (config : Config) (phase : Phase) (es : List Event) → Tested config phase → Reads config phase es → Accepts config (place_now phase) (cache_now phase) (stage_now config phase) es
to config (Between p c) [] t r = refl
to config (Chosen p c key) [] t r = absurd r
to config (Open p c g) [] t r = le-leb _ _ (within_now config c g t.1 r)
to config (Between p c) (Step who op key out shared reply ∷ es) t (inr d) = let is = d.1 in cc
to config (Between p c) (Step who op key out None reply ∷ es) t (inl r) =
    let g = read_group None who op key out reply in
    let P : Phase → Type 0 = λ phase. Reads config phase es in
    let is : Some (Open p c g) ≡ Some r.0 = r.1 in
    let same : r.0 ≡ Open p c g = cc in
    let rest = subst P same r.2 in
    let starts = starts_from config p c g es rest in
    ((refl, starts), started config p c g p es (sym (add-zero p)) (omega arith) (to config (Open p c g) es (t, refl, starts, refl) rest))
to config (Between p c) (Step who op key out (Some other) reply ∷ es) t (inl r) = absurd (some_not r.0 r.1)
to config (Between p c) (Evict key Full ∷ es) t (inr d) = let is = d.1 in cc
to config (Between p c) (Evict key Full ∷ es) t (inl r) =
    let P : Phase → Type 0 = λ phase. Reads config phase es in
    let is : Some (Chosen p c key) ≡ Some r.0 = r.1 in
    let same : r.0 ≡ Chosen p c key = cc in
    (refl, to config (Chosen p c key) es t (subst P same r.2))
to config (Between p c) (Evict key Memory ∷ es) t (inl r) = absurd (some_not r.0 r.1)
to config (Between p c) (Evict key Memory ∷ es) t (inr d) = let is = d.1 in cc
to config (Between p c) (Evict key Invalidated ∷ es) t (inl r) = absurd (some_not r.0 r.1)
to config (Between p c) (Evict key Invalidated ∷ es) t (inr d) =
    let is = d.1 in
    let same : d.0 ≡ key = cc in
    let P : Bytes → Type 0 = λ k. IsTrue (is_some (entry_at c k)) in
    let Q : Bytes → Type 0 = λ k. Reads config (Between (p + 1) (remove c k)) es in
    let shorter : len (remove c key) ≤ config.capacity = let a = len_remove_most c key in omega arith in
    (subst P same d.2, to config (Between (p + 1) (remove c key)) es shorter (subst Q same d.3))
to config (Chosen p c v) (Step who op key out None reply ∷ es) t r =
    let g = read_group (Some v) who op key out reply in
    let P : Phase → Type 0 = λ phase. Reads config phase es in
    let is : Some (Open p c g) ≡ Some r.0 = r.1 in
    let same : r.0 ≡ Open p c g = cc in
    let rest = subst P same r.2 in
    let starts = starts_from config p c g es rest in
    ((refl, starts), started config p c g (p + 1) es refl (omega arith) (to config (Open p c g) es (t, refl, starts, refl) rest))
to config (Chosen p c v) (Step who op key out (Some other) reply ∷ es) t r = absurd (some_not r.0 r.1)
to config (Chosen p c v) (Evict key cause ∷ es) t r = absurd (some_not r.0 r.1)
to config (Open p c g) (Step who op key out None reply ∷ es) t (inl a) = let is = a.1 in cc
to config (Open p c g) (Step who op key out None reply ∷ es) t (inr (inl b)) = let is = b.1 in cc
to config (Open p c g) (Step who op key out None reply ∷ es) t (inr (inr (inr d))) = let is = d.1 in cc
to config (Open p c g) (Step who op key out None reply ∷ es) t (inr (inr (inl d))) =
    let h = read_group None who op key out reply in
    let q = behind p g in
    let P : Phase → Type 0 = λ phase. Reads config phase es in
    let Q : Cache → Type 0 = λ c. Reads config (Open q c h) es in
    let is : Some (Open q (cache_after_group c g) h) ≡ Some d.0 = d.1 in
    let same : d.0 ≡ Open q (cache_after_group c g) h = cc in
    let rest = subst Q (left_stepped c g t.1) (subst P same d.3) in
    let starts = starts_from config q (cache_after_step c g) h es rest in
    let within = within_now config c g t.1 d.2 in
    ((le-leb _ _ within, starts), started config q (cache_after_step c g) h q es (sym (add-zero q)) (omega arith) (to config (Open q (cache_after_step c g) h) es (within, refl, starts, refl) rest))
to config (Open p c g) (Step who op key out (Some other) reply ∷ es) t (inl a) =
    let is = a.1 in
    let caller : a.0 ≡ who = cc in
    let joins = joined_last config c g g.joined a.0 (joined_from config p c (with_joined g a.0) es a.2) in (
      (joins, a.1 ∙ ap (shared_event (step_place p g) g.step.key g.step.out.load) caller),
      moved config _ _ _ _ _ _ es (behind_joined p g a.0 t.1) refl refl
          (to config (Open p c (with_joined g a.0)) es (t.0, t.1, joined_step config c g a.0 t.2, joined_any config c g (g.joined ++ a.0 ∷ []) joins) a.2),
    )
to config (Open p c g) (Step who op key out (Some other) reply ∷ es) t (inr (inl b)) = let is = b.1 in cc
to config (Open p c g) (Step who op key out (Some other) reply ∷ es) t (inr (inr (inl d))) = absurd (some_not d.0 d.1)
to config (Open p c g) (Step who op key out (Some other) reply ∷ es) t (inr (inr (inr d))) = let is = d.1 in cc
to config (Open p c g) (Evict key cause ∷ es) t (inl a) = let is = a.1 in cc
to config (Open p c g) (Evict key cause ∷ es) t (inr (inl b)) =
    let kept = opened_group config c (step_place p g) g in
    let P : Event → Type 0 = λ e. Accepts config (behind p g) (cache_after_step c g) (Inside kept) (e ∷ es) in
    let own = own_fits config (step_place p g) c g b.0 b.2.evicted in
    let shorter : len (remove (cache_after_step c g) g.step.key) ≤ config.capacity = let a = len_own c g in let d = t.0 in omega arith in
    let rest = to config (Between (behind p (with_evicted g b.0)) (cache_after_group c (with_evicted g b.0))) es shorter b.3 in
    subst P (sym b.1) (
      ap (λ x. x || (starts_part (cache_after_step c g) g.step.key b.0 && nat_le (len (cache_after_step c g)) config.capacity)) own,
      evicted_next config (behind p g + 1) (cache_after_step c g) kept g.step.key b.0 es true own (moved config _ _ _ _ _ _ es (behind_evicted p g b.0 t.1) refl refl rest),
    )
to config (Open p c g) (Evict key Memory ∷ es) t (inr (inr (inl d))) = absurd (some_not d.0 d.1)
to config (Open p c g) (Evict key Memory ∷ es) t (inr (inr (inr d))) = let is = d.1 in cc
to config (Open p c g) (Evict key Invalidated ∷ es) t (inr (inr (inl d))) = absurd (some_not d.0 d.1)
to config (Open p c g) (Evict key Invalidated ∷ es) t (inr (inr (inr d))) =
    let kept = opened_group config c (step_place p g) g in
    let q = behind p g in
    let after = cache_after_step c g in
    let within = within_now config c g t.1 d.2 in
    let own = not_own config (step_place p g) c g key in
    let is = d.1 in
    let same : d.0 ≡ key = cc in
    let back = left_stepped c g t.1 in
    let there : is_some (entry_at after key) ≡ true = ap (λ m. is_some (entry_at m key)) (sym back) ∙ ap (λ k. is_some (entry_at (cache_after_group c g) k)) (sym same) ∙ d.3 in
    let P : Bytes → Type 0 = λ k. Reads config (Between (q + 1) (remove (cache_after_group c g) k)) es in
    let Q : Cache → Type 0 = λ m. Reads config (Between (q + 1) (remove m key)) es in
    let shorter : len (remove after key) ≤ config.capacity = let a = len_remove_most after key in omega arith in
    let rest = to config (Between (q + 1) (remove after key)) es shorter (subst Q back (subst P same d.4)) in (
      ap (λ x. x || (starts_part after key Invalidated && nat_le (len after) config.capacity)) own ∙ and_from _ _ there (le-leb _ _ within),
      evicted_next config (q + 1) after kept key Invalidated es false own rest,
    )
to config (Open p c g) (Evict key Full ∷ es) t (inr (inr (inr d))) = let is = d.1 in cc
to config (Open p c g) (Evict key Full ∷ es) t (inr (inr (inl d))) =
    let kept = opened_group config c (step_place p g) g in
    let q = behind p g in
    let within = within_now config c g t.1 d.2 in
    let own = false_from_ne_true (own_goes kept key Full) (no_end config (step_place p g) c g key within) in
    let P : Phase → Type 0 = λ phase. Reads config phase es in
    let Q : Cache → Type 0 = λ c. Reads config (Chosen q c key) es in
    let is : Some (Chosen q (cache_after_group c g) key) ≡ Some d.0 = d.1 in
    let same : d.0 ≡ Chosen q (cache_after_group c g) key = cc in
    let rest = to config (Chosen q (cache_after_step c g) key) es within (subst Q (left_stepped c g t.1) (subst P same d.3)) in (
      ap (λ x. x || nat_le (len (cache_after_step c g)) config.capacity) own ∙ le-leb _ _ within,
      evicted_next config (q + 1) (cache_after_step c g) kept key Full es false own rest,
    )

or_true : (a : Bool) → (a || false) ≡ true → a ≡ true
or_true true h = refl
or_true false h = h

-- the step's own key went
gone : (config : Config) (p : ℕ) (c : Cache) (g : Group) (key : Bytes) (cause : Cause) (es : List Event) → Tested config (Open p c g) → own_goes (opened_group config c (step_place p g) g) key cause ≡ true
    → (len (remove (cache_after_step c g) g.step.key) ≤ config.capacity → Reads config (Between (behind p (with_evicted g cause)) (cache_after_group c (with_evicted g cause))) es)
    → Reads config (Open p c g) (Evict key cause ∷ es)
gone config p c g key cause es t own rest =
    let f = fits_own config (step_place p g) c g key cause own in
    let shorter : len (remove (cache_after_step c g) g.step.key) ≤ config.capacity = let a = len_own c g in let d = t.0 in omega arith in
    inr (inl (
      cause,
      ap (λ k. Evict k cause) f.0,
      record { step = record { seq = t.2.seq; victim = t.2.victim }; joined = t.3; evicted = f.1; within = shorter },
      rest shorter,
    ))

gone_moved : (config : Config) (p : ℕ) (c : Cache) (g : Group) (key : Bytes) (cause : Cause) (es : List Event) → Tested config (Open p c g) → own_goes (opened_group config c (step_place p g) g) key cause ≡ true
    → Accepts config (behind p g + 1) (remove (cache_after_step c g) key) Outside es → Accepts config (behind p (with_evicted g cause)) (remove (cache_after_step c g) g.step.key) Outside es
gone_moved config p c g key cause es t own a =
    let f = fits_own config (step_place p g) c g key cause own in
    moved config _ _ _ _ _ _ es (sym (behind_evicted p g cause t.1)) (ap (remove (cache_after_step c g)) f.0) refl a

-- 6. What is accepted can be read.

pub from : (config : Config) (phase : Phase) (es : List Event) → Tested config phase → Accepts config (place_now phase) (cache_now phase) (stage_now config phase) es → Reads config phase es
from config (Between p c) [] t a = tt
from config (Chosen p c key) [] t a = absurd (no_true a)
from config (Open p c g) [] t a = lawful_now config p c g t (leb-true _ _ a)
from config (Between p c) (Step who op key out None reply ∷ es) t a =
    let g = read_group None who op key out reply in
    inl (Open p c g, refl, from config (Open p c g) es (t, refl, a.0.1, refl) (unstarted config p c g p es (sym (add-zero p)) (omega arith) a.1))
from config (Between p c) (Step who op key out (Some other) reply ∷ es) t a = absurd a.0
from config (Between p c) (Evict key Full ∷ es) t a = inl (Chosen p c key, refl, from config (Chosen p c key) es t a.1)
from config (Between p c) (Evict key Memory ∷ es) t a = absurd (no_true a.0)
from config (Between p c) (Evict key Invalidated ∷ es) t a =
    let shorter : len (remove c key) ≤ config.capacity = let l = len_remove_most c key in omega arith in
    inr (key, refl, a.0, from config (Between (p + 1) (remove c key)) es shorter a.1)
from config (Chosen p c v) (Step who op key out None reply ∷ es) t a =
    let g = read_group (Some v) who op key out reply in
    (Open p c g, refl, from config (Open p c g) es (t, refl, a.0.1, refl) (unstarted config p c g (p + 1) es refl (omega arith) a.1))
from config (Chosen p c v) (Step who op key out (Some other) reply ∷ es) t a = absurd a.0
from config (Chosen p c v) (Evict key cause ∷ es) t a = absurd (no_true a.0)
from config (Open p c g) (Step who op key out None reply ∷ es) t a =
    let h = read_group None who op key out reply in
    let q = behind p g in
    let within = leb-true _ _ a.0.0 in
    let back = sym (left_stepped c g t.1) in
    let Q : Cache → Type 0 = λ c. Reads config (Open q c h) es in
    let rest = from config (Open q (cache_after_step c g) h) es (within, refl, a.0.1, refl) (unstarted config q (cache_after_step c g) h q es (sym (add-zero q)) (omega arith) a.1) in
    inr (inr (inl (Open q (cache_after_group c g) h, refl, lawful_now config p c g t within, subst Q back rest)))
from config (Open p c g) (Step who op key out (Some other) reply ∷ es) t a =
    inl (
      who,
      a.0.1,
      from config (Open p c (with_joined g who)) es (t.0, t.1, joined_step config c g who t.2, joined_any config c g (g.joined ++ who ∷ []) a.0.0)
          (moved config _ _ _ _ _ _ es (sym (behind_joined p g who t.1)) refl refl a.1),
    )
from config (Open p c g) (Evict key Memory ∷ es) t a =
    let kept = opened_group config c (step_place p g) g in
    let own : own_goes kept key Memory ≡ true = or_true (own_goes kept key Memory) a.0 in
    let rest = next_evicted config (behind p g + 1) (cache_after_step c g) kept key Memory es true own a.1 in
    gone config p c g key Memory es t own (λ shorter. from config (Between (behind p (with_evicted g Memory)) (cache_after_group c (with_evicted g Memory))) es shorter (gone_moved config p c g key Memory es t own rest))
from config (Open p c g) (Evict key Invalidated ∷ es) t a =
    let kept = opened_group config c (step_place p g) g in
    let q = behind p g in
    let after = cache_after_step c g in
    let own = not_own config (step_place p g) c g key in
    let parts = and_parts (is_some (entry_at after key)) (nat_le (len after) config.capacity) (or_false (own_goes kept key Invalidated) _ own a.0) in
    let within = leb-true _ _ parts.1 in
    let rest = next_evicted config (q + 1) after kept key Invalidated es false own a.1 in
    let back = sym (left_stepped c g t.1) in
    let Q : Cache → Type 0 = λ m. Reads config (Between (q + 1) (remove m key)) es in
    let shorter : len (remove after key) ≤ config.capacity = let l = len_remove_most after key in omega arith in
    inr (inr (inr (key, refl, lawful_now config p c g t within, ap (λ m. is_some (entry_at m key)) (left_stepped c g t.1) ∙ parts.0, subst Q back (from config (Between (q + 1) (remove after key)) es shorter rest))))
from config (Open p c g) (Evict key Full ∷ es) t a =
    let kept = opened_group config c (step_place p g) g in
    elim (own_goes kept key Full) as (λ b. own_goes kept key Full ≡ b → Reads config (Open p c g) (Evict key Full ∷ es)) [
      | true ↦ λ own.
          let rest = next_evicted config (behind p g + 1) (cache_after_step c g) kept key Full es true own a.1 in
          gone config p c g key Full es t own (λ shorter. from config (Between (behind p (with_evicted g Full)) (cache_after_group c (with_evicted g Full))) es shorter (gone_moved config p c g key Full es t own rest))
      | false ↦ λ own.
          let q = behind p g in
          let within = leb-true _ _ (or_false (own_goes kept key Full) _ own a.0) in
          let rest = next_evicted config (q + 1) (cache_after_step c g) kept key Full es false own a.1 in
          let back = sym (left_stepped c g t.1) in
          let Q : Cache → Type 0 = λ c. Reads config (Chosen q c key) es in
          inr (inr (inl (Chosen q (cache_after_group c g) key, refl, lawful_now config p c g t within, subst Q back (from config (Chosen q (cache_after_step c g) key) es within rest))))
    ] refl

-- a whole history, from between two groups
pub accepts_iff : (config : Config) (c : Cache) (es : List Event) → len c ≤ config.capacity → (Accepts config 0 c Outside es → Reads config (Between 0 c) es) × (Reads config (Between 0 c) es → Accepts config 0 c Outside es)
accepts_iff config c es h = (from config (Between 0 c) es h, to config (Between 0 c) es h)

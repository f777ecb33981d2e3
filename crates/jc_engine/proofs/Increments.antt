-- What a whole history leaves of the entries, and of an entry that processors alone set.
--     reached_cache     what is cached is what the whole history leaves of the first opening
--     leaves_next       the law of the next value
--     leaves_sum        the law of sums
--     by_table          the law of events
use Rattle.jc_engine.proofs.Common.{◌≡◌, ◌==◌, ◌&&◌, ◌+◌, ⊎_elim, ℕ, zero, suc, List, [], ◌∷◌, ◌++◌, map, take, length, Bool, true, false, cond, Option, None, Some, is_none, slice_get, append-nil, append_assoc, refl, sym, ap, subst, ◌∙◌, arith, length-append, Caller, Config, Bytes, Cache, entry_at, key_cmp, Group, cache_after_group, cache_before_step, events_of, evicted_events, history_of, shared_event, step_event, step_place, victim_events, entry_after, entry_by_fault, after_effect, value_after_load, first_fault, Event, Step, Evict, LoadAnswer, Invoke, Out, Ended, Reply, State, Generation, IsChain, opening_after, past_events, whole_history, first_opening, IsReached, stands_at}
use Rattle.std.specs.Ordering.{eq_by_cmp}
use Rattle.std.specs.Cmp.{eq_by_cmp_equiv}
use Rattle.std.specs.Cmp.Lexicographic.{pointwise, same_text, texts_ties}
use Rattle.std.specs.FinMap.{find, from_entries, get-from_entries, remove}
use Rattle.std.proofs.Math.Seq.{take-append_seam}
use Rattle.std.proofs.lemmas.Cmp.{nat_list_cmp_total}
use Rattle.std.proofs.lemmas.List.Sums.{sum_by-append}
use Rattle.jc_model.specs.Group.{Part, Made, Dropped}
use Rattle.jc_model.specs.Lawful.{AreLawful, IsLawful}
use Rattle.jc_model.specs.Legal.{IsHistory, event_key}
use Rattle.jc_model.specs.Listed.{others, with_entry_first}
use Rattle.jc_model.specs.declared.event.Cause.{Cause}
use Rattle.jc_model.specs.declared.event.Cause.TheVariants.{Full}
use Rattle.jc_model.specs.declared.event.Effect.TheVariants.{Set}
use Rattle.jc_model.proofs.CallerLemmas.{find-others}
use Rattle.jc_stripe.specs.OrderOfUse.{by_use, is_use, order_after_event}
use Rattle.jc_stripe.proofs.CallerLemmas.{by_use-append}
use Rattle.jc_engine.specs.Increments.{AllSetNext, EventsByTable, IsByTable, LeavesNext, LeavesSum, SetsNext, count_at, next_times, opening_entry}

-- 1. What a whole history leaves.

-- the generations that have ended leave what the next one opens with
past_left : (config : Config) (gs : List Generation) (entries : List (Bytes × Bytes)) → IsChain config gs entries → by_use (opening_after gs entries) (past_events gs) ≡ entries
past_left config [] entries chain = refl
past_left config (g ∷ gs) entries chain =
    by_use-append g.opening g.history (past_events gs) ∙ ap (λ (es : List (Bytes × Bytes)). by_use es (past_events gs)) (sym chain.0.left_is) ∙ past_left config gs entries chain.1

pub reached_cache : (state : State) → IsReached state → state.cache ≡ from_entries (by_use (first_opening state) (whole_history state))
reached_cache state reached =
    let all = by_use-append (first_opening state) (past_events state.ended) state.history in
    let past = past_left state.config state.ended state.opening reached.chain in
    reached.used.cache ∙ ap (λ (es : List (Bytes × Bytes)). from_entries {R = key_cmp} es) (sym (all ∙ ap (λ (es : List (Bytes × Bytes)). by_use es state.history) past))

-- the entry at a key that a history leaves of an opening
abbrev entry_left : List (Bytes × Bytes) → Bytes → List Event → Option Bytes
entry_left opening key history = find key_cmp key (by_use opening history)

reached_entry : (state : State) (key : Bytes) → IsReached state → entry_at state.cache key ≡ entry_left (first_opening state) key (whole_history state)
reached_entry state key reached = ap (λ (c : Cache). entry_at c key) (reached_cache state reached) ∙ get-from_entries nat_list_cmp_total (by_use (first_opening state) (whole_history state)) key

-- 2. What one event leaves.

found_beside : (key other : Bytes) (entries : List (Bytes × Bytes)) → pointwise ◌==◌ key other ≡ false → find key_cmp key (others other entries) ≡ find key_cmp key entries
found_beside key other entries h = find-others other entries key ∙ ap (λ (b : Bool). cond b None (find key_cmp key entries)) (sym (texts_ties key other) ∙ h)

found_behind : (key other : Bytes) (entry : Option Bytes) (entries : List (Bytes × Bytes)) → pointwise ◌==◌ key other ≡ false → find key_cmp key (with_entry_first other entry entries) ≡ find key_cmp key entries
found_behind key other None entries h = found_beside key other entries h
found_behind key other (Some value) entries h =
    ap (λ (b : Bool). cond b (Some value) (find key_cmp key (others other entries))) (sym (texts_ties key other) ∙ h) ∙ found_beside key other entries h

-- an event at another key leaves the entry
other_stays : (entries : List (Bytes × Bytes)) (event : Event) (key : Bytes) → pointwise ◌==◌ key (event_key event) ≡ false → find key_cmp key (order_after_event entries event) ≡ find key_cmp key entries
other_stays entries (Evict gone cause) key h = found_beside key gone entries h
other_stays entries (Step caller op at out (Some place) reply) key h = refl
other_stays entries (Step caller op at out None reply) key h =
    elim (is_use op out) as (λ b. find key_cmp key (cond b (with_entry_first at (entry_after op (find key_cmp at entries) out) entries) entries) ≡ find key_cmp key entries) [
      | true ↦ found_behind key at (entry_after op (find key_cmp at entries) out) entries h
      | false ↦ refl
    ]

-- a processor's step without a fault sets its value
set_left : (entries : List (Bytes × Bytes)) (key : Bytes) (caller : Caller) (out : Out) (reply : Reply) (value : Bytes) (outcome : Option Bytes) → out.process ≡ Ended (Set value) outcome → first_fault out ≡ None
    → find key_cmp key (order_after_event entries (Step caller Invoke key out None reply)) ≡ Some value
set_left entries key caller out reply value outcome set no_fault =
    let entry : Option Bytes = find key_cmp key entries in
    let is : is_use Invoke out ≡ true = ap (λ fault. is_none fault && true) no_fault in
    let after : entry_after Invoke entry out ≡ Some value = λ i. entry_by_fault (no_fault i) entry (after_effect (set i) (value_after_load out.load entry)) in
    (λ i. find key_cmp key (cond (is i) (with_entry_first key (after i) entries) entries))
    ∙ ap (λ (b : Bool). cond b (Some value) (find key_cmp key (others key entries))) ((eq_by_cmp_equiv nat_list_cmp_total).refl key)

-- a key that is missing is so without another one
missing_without : (entries : List (Bytes × Bytes)) (key victim : Bytes) → find key_cmp key entries ≡ None → find key_cmp key (others victim entries) ≡ None
missing_without entries key victim none =
    find-others victim entries key ∙ ap (λ (o : Option Bytes). cond (eq_by_cmp key_cmp key victim) None o) none
    ∙ elim (eq_by_cmp key_cmp key victim) as (λ b. cond {A = Option Bytes} b None None ≡ None) [ true ↦ refl | false ↦ refl ]

-- 3. Prefixes of one history.

same_front : {A : Type 0} (xs ys more rest : List A) → xs ++ more ≡ ys ++ rest → length xs ≡ length ys → xs ≡ ys
same_front xs ys more rest is long = sym (take-append_seam xs more) ∙ (λ i. take (long i) (is i)) ∙ take-append_seam ys rest

-- the entry in a state in which a step was made next is the one that the events before the step leave
next_entry : (opening : List (Bytes × Bytes)) (key : Bytes) (before xs more : List Event) (event : Event) (ys : List Event) (victim : Bytes) → before ++ more ≡ xs ++ event ∷ ys → length xs ≡ length before + 1
    → slice_get (xs ++ event ∷ ys) (length before) ≡ Some (Evict victim Full) → entry_left opening key before ≡ None → entry_left opening key xs ≡ None
next_entry opening key before xs [] event ys victim is at there none =
    absurd (let short = ap length (sym (append-nil before) ∙ is) in let long = length-append xs (event ∷ ys) in omega (arith, short, long, at))
next_entry opening key before xs (e ∷ more) event ys victim is at there none =
    let front : xs ≡ before ++ e ∷ [] = same_front xs (before ++ e ∷ []) (event ∷ ys) more (sym is ∙ sym (append_assoc before (e ∷ []) more)) (at ∙ sym (length-append before (e ∷ []))) in
    let evicts : Some e ≡ Some (Evict victim Full) = sym (stands_at before e more) ∙ ap (λ (es : List Event). slice_get es (length before)) is ∙ there in
    let event_is : e ≡ Evict victim Full = cc in
    ap (entry_left opening key) front ∙ ap (λ (entries : List (Bytes × Bytes)). find key_cmp key entries) (by_use-append opening before (e ∷ []))
    ∙ ap (λ (x : Event). find key_cmp key (order_after_event (by_use opening before) x)) event_is ∙ missing_without (by_use opening before) key victim none

-- 4. What is so of the first opening's entry, and stays so with each value that comes next, is so of the entry in the end.

module _ (Next : Option Bytes → Bytes → Type 0) (state : State) (key : Bytes) (reached : IsReached state) (all : AllSetNext Next state key) (So : ℕ → Option Bytes → Type 0) (first : So zero (opening_entry state key))
    (step : (n : ℕ) (entry : Option Bytes) (value : Bytes) → So n entry → Next entry value → So (suc n) (Some value)) where
  -- the entry on which a step was made is the one that the events before it leave
  shown : (xs ys : List Event) (event : Event) → whole_history state ≡ xs ++ event ∷ ys → (s : SetsNext Next state key (length xs) event) → entry_at s.decided.cache key ≡ entry_left (first_opening state) key xs
  shown xs ys event is s =
      let opening : List (Bytes × Bytes) = first_opening state in
      let before : List Event = whole_history s.decided in
      let here : entry_at s.decided.cache key ≡ entry_left opening key before = reached_entry s.decided key s.reached ∙ ap (λ (o : List (Bytes × Bytes)). entry_left o key before) (sym s.same.opening) in
      let front : before ++ s.earlier.0 ≡ xs ++ event ∷ ys = s.earlier.1 ∙ is in
      ⊎_elim
      (λ at. here ∙ ap (entry_left opening key) (same_front before xs s.earlier.0 (event ∷ ys) front (sym at)))
      (λ at. at.1 ∙ sym (next_entry opening key before xs s.earlier.0 event ys at.2.0 front at.0 (ap (λ (es : List Event). slice_get es (length before)) (sym is) ∙ at.2.1) (sym here ∙ at.1)))
      s.made_in

  one_more : (xs ys : List Event) (event : Event) → whole_history state ≡ xs ++ event ∷ ys → So (count_at key xs) (entry_left (first_opening state) key xs) → (b : Bool) → pointwise ◌==◌ key (event_key event) ≡ b
      → So (count_at key (xs ++ event ∷ [])) (entry_left (first_opening state) key (xs ++ event ∷ []))
  one_more xs ys event is so false other =
      let opening : List (Bytes × Bytes) = first_opening state in
      let one : cond {A = ℕ} (pointwise ◌==◌ key (event_key event)) 1 0 ≡ 0 = ap (λ b. cond {A = ℕ} b 1 0) other in
      let counted : count_at key xs ≡ count_at key (xs ++ event ∷ []) = let more = sum_by-append (λ (e : Event). cond {A = ℕ} (pointwise ◌==◌ key (event_key e)) 1 0) xs (event ∷ []) in omega (arith, one, more) in
      let same : entry_left opening key (xs ++ event ∷ []) ≡ entry_left opening key xs = ap (λ (es : List (Bytes × Bytes)). find key_cmp key es) (by_use-append opening xs (event ∷ [])) ∙ other_stays (by_use opening xs) event key other in
      subst (λ (p : ℕ × Option Bytes). So p.0 p.1) (λ i. (counted i, sym same i)) so
  one_more xs ys event is so true here =
      let opening : List (Bytes × Bytes) = first_opening state in
      let s = all (length xs) event (ap (λ (es : List Event). slice_get es (length xs)) is ∙ stands_at xs event ys) (sym (same_text key (event_key event) (sym here))) in
      let one : cond {A = ℕ} (pointwise ◌==◌ key (event_key event)) 1 0 ≡ 1 = ap (λ b. cond {A = ℕ} b 1 0) here in
      let counted : suc (count_at key xs) ≡ count_at key (xs ++ event ∷ []) = let more = sum_by-append (λ (e : Event). cond {A = ℕ} (pointwise ◌==◌ key (event_key e)) 1 0) xs (event ∷ []) in omega (arith, one, more) in
      let same : entry_left opening key (xs ++ event ∷ []) ≡ Some s.value =
      ap (λ (es : List (Bytes × Bytes)). find key_cmp key es) (by_use-append opening xs (event ∷ []))
      ∙ ap (λ (e : Event). find key_cmp key (order_after_event (by_use opening xs) e)) s.is
      ∙ set_left (by_use opening xs) key s.caller s.out s.reply s.value s.outcome s.set s.no_fault in
      subst (λ (p : ℕ × Option Bytes). So p.0 p.1) (λ i. (counted i, sym same i))
      (step (count_at key xs) (entry_left opening key xs) s.value so (subst (λ (e : Option Bytes). Next e s.value) (shown xs ys event is s) s.next))

  walk : (xs ys : List Event) → whole_history state ≡ xs ++ ys → So (count_at key xs) (entry_left (first_opening state) key xs) → So (count_at key (whole_history state)) (entry_left (first_opening state) key (whole_history state))
  walk xs [] is so = subst (λ (es : List Event). So (count_at key es) (entry_left (first_opening state) key es)) (sym (is ∙ append-nil xs)) so
  walk xs (event ∷ ys) is so = walk (xs ++ event ∷ []) ys (is ∙ sym (append_assoc xs (event ∷ []) ys)) (one_more xs ys event is so (pointwise ◌==◌ key (event_key event)) refl)

  so_left : So (count_at key (whole_history state)) (entry_at state.cache key)
  so_left =
      subst (λ (e : Option Bytes). So (count_at key (whole_history state)) e) (sym (reached_entry state key reached))
      (walk [] (whole_history state) refl (subst (λ (e : Option Bytes). So zero e) (get-from_entries nat_list_cmp_total (first_opening state) key) first))

-- 5. The laws of increments.

pub leaves_next : LeavesNext
leaves_next next state key reached all =
    so_left (λ entry value. value ≡ next entry) state key reached all (λ n entry. entry ≡ next_times next n (opening_entry state key)) refl
    (λ n entry value so is. ap (λ (v : Bytes). Some v) is ∙ ap (λ (e : Option Bytes). Some (next e)) so)

pub leaves_sum : LeavesSum
leaves_sum number state key reached all =
    so_left (λ entry value. number (Some value) ≡ number entry + 1) state key reached all (λ n entry. number entry ≡ number (opening_entry state key) + n) (omega arith)
    (λ n entry value so is. omega (arith, so, is))

-- 6. The law of events.

abbrev AreByTable : Config → List Event → Type 0
AreByTable config [] = Unit {0}
AreByTable config (e ∷ es) = IsByTable config e × AreByTable config es

both_by : (config : Config) (xs ys : List Event) → AreByTable config xs → AreByTable config ys → AreByTable config (xs ++ ys)
both_by config [] ys x y = y
both_by config (e ∷ xs) ys x y = (x.0, both_by config xs ys x.1 y)

shared_by : (config : Config) (place : ℕ) (key : Bytes) (answer : LoadAnswer) (callers : List Caller) → AreByTable config (map (shared_event place key answer) callers)
shared_by config place key answer [] = tt
shared_by config place key answer (c ∷ cs) = (refl, shared_by config place key answer cs)

victim_by : (config : Config) (victim : Option Bytes) → AreByTable config (victim_events victim)
victim_by config None = tt
victim_by config (Some key) = (tt, tt)

evicted_by : (config : Config) (key : Bytes) (cause : Option Cause) → AreByTable config (evicted_events key cause)
evicted_by config key None = tt
evicted_by config key (Some cause) = (tt, tt)

group_by : (config : Config) (cache : Cache) (place : ℕ) (g : Group) → IsLawful config cache g → AreByTable config (events_of place g)
group_by config cache place g x =
    let shared : List Event = map (shared_event (step_place place g) g.step.key g.step.out.load) g.joined in
    let step : IsByTable config (step_event g) = (entry_at (cache_before_step cache g) g.step.key, x.step.seq.answers, x.step.seq.reply) in
    both_by config (victim_events g.victim ++ step_event g ∷ shared) (evicted_events g.step.key g.evicted)
    (both_by config (victim_events g.victim) (step_event g ∷ shared) (victim_by config g.victim) (step, shared_by config (step_place place g) g.step.key g.step.out.load g.joined))
    (evicted_by config g.step.key g.evicted)

parts_by : (config : Config) (cache : Cache) (place : ℕ) (parts : List Part) → AreLawful config cache parts → AreByTable config (history_of place parts)
parts_by config cache place [] x = tt
parts_by config cache place (Made g ∷ parts) x =
    both_by config (events_of place g) (history_of (place + length (events_of place g)) parts) (group_by config cache place g x.0) (parts_by config (cache_after_group cache g) (place + length (events_of place g)) parts x.1)
parts_by config cache place (Dropped key ∷ parts) x = (tt, parts_by config (remove cache key) (place + 1) parts x.1)

history_by : (config : Config) (cache : Cache) (events : List Event) (next : Cache) → IsHistory config cache events next → AreByTable config events
history_by config cache events next x = subst (λ (es : List Event). AreByTable config es) (sym x.spelled) (parts_by config cache 0 x.parts x.lawful)

past_by : (config : Config) (gs : List Generation) (entries : List (Bytes × Bytes)) → IsChain config gs entries → AreByTable config (past_events gs)
past_by config [] entries chain = tt
past_by config (g ∷ gs) entries chain =
    both_by config g.history (past_events gs) (history_by config (from_entries g.opening) g.history chain.0.legal.next chain.0.legal.history) (past_by config gs entries chain.1)

event_by : (config : Config) (events : List Event) (place : ℕ) (event : Event) → AreByTable config events → slice_get events place ≡ Some event → IsByTable config event
event_by config [] place event x there = cc
event_by config (e ∷ es) zero event x there = let is : e ≡ event = cc in subst (λ (y : Event). IsByTable config y) is x.0
event_by config (e ∷ es) (suc place) event x there = event_by config es place event x.1 there

pub by_table : EventsByTable
by_table state place event reached there =
    event_by state.config (whole_history state) place event
    (both_by state.config (past_events state.ended) state.history (past_by state.config state.ended state.opening reached.chain) (history_by state.config (from_entries state.opening) state.history state.cache reached.legal))
    there

-- The merge of histories by turns, when one history grows and when turns are taken one by one.
--     count_one          a turn more is one more of its stripe
--     grows_merged       a stripe that appends events and gets as many turns: they are at the end of the order
--     grows_turns        and each stripe has as many turns as events again
--     stays_merged       a stripe whose history stays: so does the order
--     merged_next        one turn more: the next event of its stripe is at the end
--     merged_length      there are as many events as turns
use Rattle.std.proofs.Common.{Fits, w64}
use Rattle.std.proofs.lemmas.List.Sums.{count_by-le-length}
use Rattle.jc_world.proofs.Common.{◌≡◌, ℕ, zero, suc, ◌+◌, ◌-◌, ◌<◌, ◌≤◌, Bool, true, false, cond, List, [], ◌∷◌, ◌++◌, length, get_or, take, drop, replicate, IsSomeAnd, ◌==◌, slice_get, slice_set, Some, Option, vec_len, Ok, sym, refl, ap, ◌∙◌, subst, append_assoc, append-nil, arith, length-append, drop-append_seam, eqb-true, nat_tests, nat_eq_equiv, take-append-drop, get_or-set_same, get_or-set_other, take_more, sum_by-cons, sum_by-append, count_by_more_yes, count_by_more_no, slice_get_read, check, Config, STRIPES_MAX, Event, Extends, PicksUp, State, JoinClaim, Polled, Inside, history_in, history_at, turns_of, after_turn, merge, OrderedStripes, IsPhase, IsQuietPhase, ordered_stripes, AreTurns, IsMergeable, fresh_stripes}
use Rattle.jc_world.proofs.Lemmas.{empty_count, stripe_put, few_stripes, within, at_index}

-- 1. Turns.

count_one : (number turn : ℕ) (turns : List ℕ) → turns_of number (turn ∷ turns) ≡ cond (turn == number) 1 0 + turns_of number turns
count_one number turn turns = sum_by-cons (λ t. cond (t == number) 1 0) turn turns

-- as many turns of one stripe
alone : (number turn n : ℕ) → turns_of number (replicate n turn) ≡ cond (turn == number) n 0
alone number turn zero = none_more (turn == number)
  where
    none_more : (b : Bool) → ◌≡◌ {A = ℕ} 0 (cond b 0 0)
    none_more true = refl
    none_more false = refl
alone number turn (suc n) = count_one number turn (replicate n turn) ∙ ap (λ m. cond (turn == number) 1 0 + m) (alone number turn n) ∙ one_more (turn == number) n
  where
    one_more : (b : Bool) (n : ℕ) → cond b 1 0 + cond b n 0 ≡ cond b (suc n) 0
    one_more true n = omega arith
    one_more false n = refl

-- 2. What is left.

abbrev all_left : (ℕ → List Event) → List ℕ → ℕ → List Event
all_left left [] = left
all_left left (turn ∷ turns) = all_left (after_turn left turn) turns

drop_one : (n : ℕ) (xs : List Event) → drop n (drop 1 xs) ≡ drop (suc n) xs
drop_one zero [] = refl
drop_one (suc n) [] = refl
drop_one n (x ∷ xs) = refl

drop_turn : (b : Bool) (n : ℕ) (xs : List Event) → drop n (cond b (drop 1 xs) xs) ≡ drop (cond b 1 0 + n) xs
drop_turn true n xs = let e : suc n ≡ 1 + n = omega arith in drop_one n xs ∙ ap (λ k. drop k xs) e
drop_turn false n xs = let e : n ≡ 0 + n = omega arith in ap (λ k. drop k xs) e

left_at : (left : ℕ → List Event) (turns : List ℕ) (number : ℕ) → all_left left turns number ≡ drop (turns_of number turns) (left number)
left_at left [] number = refl
left_at left (turn ∷ turns) number =
    left_at (after_turn left turn) turns number
    ∙ drop_turn (turn == number) (turns_of number turns) (left number)
    ∙ ap (λ n. drop n (left number)) (sym (count_one number turn turns))

merged_both : (left : ℕ → List Event) (turns more : List ℕ) → merge left (turns ++ more) ≡ merge left turns ++ merge (all_left left turns) more
merged_both left [] more = refl
merged_both left (turn ∷ turns) more =
    ap (λ xs. take 1 (left turn) ++ xs) (merged_both (after_turn left turn) turns more)
    ∙ sym (append_assoc (take 1 (left turn)) (merge (after_turn left turn) turns) (merge (all_left (after_turn left turn) turns) more))

-- what one stripe has left, with as many turns
merged_alone : (left : ℕ → List Event) (number : ℕ) (more : List Event) → left number ≡ more → merge left (replicate (length more) number) ≡ more
merged_alone left number [] is = refl
merged_alone left number (e ∷ more) is =
    let rest : after_turn left number number ≡ more = ap (λ b. cond b (drop 1 (left number)) (left number)) (nat_eq_equiv.refl number) ∙ ap (drop 1) is in
    ap (λ xs. take 1 xs ++ merge (after_turn left number) (replicate (length more) number)) is
    ∙ ap (λ xs. e ∷ xs) (merged_alone (after_turn left number) number more rest)

-- 3. Histories that are longer.

abbrev Longer : (ℕ → List Event) → (ℕ → List Event) → Type 0
Longer left left' = (number : ℕ) → (more : List Event) × (left' number ≡ left number ++ more)

first_same : (xs more : List Event) → 1 ≤ length xs → take 1 (xs ++ more) ≡ take 1 xs
first_same [] more h = absurd (omega arith)
first_same (x ∷ xs) more h = refl

others_same : (xs more : List Event) → 1 ≤ length xs → drop 1 (xs ++ more) ≡ drop 1 xs ++ more
others_same [] more h = absurd (omega arith)
others_same (x ∷ xs) more h = refl

others_length : (xs : List Event) (n : ℕ) → suc n ≤ length xs → n ≤ length (drop 1 xs)
others_length [] n h = absurd (omega arith)
others_length (x ∷ xs) n h = omega arith

-- the first turn is of a stripe that has an event left
has_first : (left : ℕ → List Event) (turn : ℕ) (turns : List ℕ) → ((number : ℕ) → turns_of number (turn ∷ turns) ≤ length (left number)) → 1 + turns_of turn turns ≤ length (left turn)
has_first left turn turns each =
    rw (count_one turn turn turns ∙ ap (λ b. cond b 1 0 + turns_of turn turns) (nat_eq_equiv.refl turn)) at (each turn)

within_turn : (b : Bool) (n : ℕ) (xs : List Event) → cond b 1 0 + n ≤ length xs → n ≤ length (cond b (drop 1 xs) xs)
within_turn true n xs h = others_length xs n (omega arith)
within_turn false n xs h = omega arith

within_after : (left : ℕ → List Event) (turn : ℕ) (turns : List ℕ) → ((number : ℕ) → turns_of number (turn ∷ turns) ≤ length (left number)) → (number : ℕ) → turns_of number turns ≤ length (after_turn left turn number)
within_after left turn turns each number =
    within_turn (turn == number) (turns_of number turns) (left number) (rw (count_one number turn turns) at (each number))

longer_after : (left left' : ℕ → List Event) (turn : ℕ) → 1 ≤ length (left turn) → Longer left left' → Longer (after_turn left turn) (after_turn left' turn)
longer_after left left' turn some longer number =
    let more = (longer number).0 in (
      more,
      elim (turn == number) as (λ b. (turn == number) ≡ b → cond b (drop 1 (left' number)) (left' number) ≡ cond b (drop 1 (left number)) (left number) ++ more) [
        | true ↦ λ e. ap (drop 1) (longer number).1 ∙ others_same (left number) more (subst (λ n. 1 ≤ length (left n)) (eqb-true turn number e) some)
        | false ↦ λ e. (longer number).1
      ] refl,
    )

merged_same : (left left' : ℕ → List Event) (turns : List ℕ) → ((number : ℕ) → turns_of number turns ≤ length (left number)) → Longer left left' → merge left' turns ≡ merge left turns
merged_same left left' [] each longer = refl
merged_same left left' (turn ∷ turns) each longer =
    let first = has_first left turn turns each in
    let some : 1 ≤ length (left turn) = omega arith in
    ap (λ xs. take 1 xs ++ merge (after_turn left' turn) turns) (longer turn).1
    ∙ ap (λ xs. xs ++ merge (after_turn left' turn) turns) (first_same (left turn) (longer turn).0 some)
    ∙ ap (λ xs. take 1 (left turn) ++ xs) (merged_same (after_turn left turn) (after_turn left' turn) turns (within_after left turn turns each) (longer_after left left' turn some longer))

-- 4. A stripe that appends.

pub other_set : (stripes : List State) (n m : ℕ) (to : State) → (n == m) ≡ false → slice_get (slice_set stripes n to) m ≡ slice_get stripes m
other_set (s ∷ ss) zero zero to h = cc
other_set (s ∷ ss) (suc n) (suc m) to h = other_set ss n m to (next n m h)
  where
    next : (n m : ℕ) → (suc n == suc m) ≡ false → (n == m) ≡ false
    next n m h = grind (arith, nat_tests)
other_set stripes n m to h = refl

-- what each history is then
history_set : (stripes : List State) (n m : ℕ) (from to : State) (more : List Event) → slice_get stripes n ≡ Some from → to.history ≡ from.history ++ more → history_at (slice_set stripes n to) m ≡ history_at stripes m ++ cond (n == m) more []
history_set stripes n m from to more at is =
    elim (n == m) as (λ b. (n == m) ≡ b → history_at (slice_set stripes n to) m ≡ history_at stripes m ++ cond b more []) [
      | true ↦ λ e.
          let same = eqb-true n m e in
          subst (λ k. history_at (slice_set stripes n to) k ≡ history_at stripes k ++ more) same
          (ap history_in (stripe_put stripes n from to at) ∙ is ∙ ap (λ o. history_in o ++ more) (sym at))
      | false ↦ λ e. ap history_in (other_set stripes n m to e) ∙ sym (append-nil (history_at stripes m))
    ] refl

-- how many it appends
appended : (from to : State) (more : List Event) → to.history ≡ from.history ++ more → length to.history - length from.history ≡ length more
appended from to more is = let l = ap length is ∙ length-append from.history more in omega arith

added_is : (from to : State) (more : List Event) → to.history ≡ from.history ++ more → drop (length from.history) to.history ≡ more
added_is from to more is = ap (drop (length from.history)) is ∙ drop-append_seam from.history more

pub at_most : (stripes : List State) (turns : List ℕ) → AreTurns stripes turns → (number : ℕ) → turns_of number turns ≤ length (history_at stripes number)
at_most stripes turns each number = let e = each number in omega arith

pub grows_merged : (stripes : List State) (turns : List ℕ) (n count : ℕ) (from to : State) (more : List Event) → AreTurns stripes turns → slice_get stripes n ≡ Some from → to.history ≡ from.history ++ more → count ≡ length from.history
    → merge (history_at (slice_set stripes n to)) (turns ++ replicate (length to.history - count) n) ≡ merge (history_at stripes) turns ++ drop (length from.history) to.history
grows_merged stripes turns n count from to more each at is counted =
    let left = history_at stripes in
    let left' = history_at (slice_set stripes n to) in
    let longer : Longer left left' = λ m. (cond (n == m) more [], history_set stripes n m from to more at is) in
    let here : left n ≡ from.history = ap history_in at in
    let there : left' n ≡ to.history = ap history_in (stripe_put stripes n from to at) in
    let rest : all_left left' turns n ≡ more =
    left_at left' turns n ∙ ap (λ k. drop k (left' n)) (each n ∙ ap length here) ∙ ap (drop (length from.history)) there ∙ added_is from to more is in
    merged_both left' turns (replicate (length to.history - count) n)
    ∙ ap (λ xs. xs ++ merge (all_left left' turns) (replicate (length to.history - count) n)) (merged_same left left' turns (at_most stripes turns each) longer)
    ∙ ap (λ k. merge left turns ++ merge (all_left left' turns) (replicate k n)) (ap (λ c. length to.history - c) counted ∙ appended from to more is)
    ∙ ap (λ xs. merge left turns ++ xs) (merged_alone (all_left left' turns) n more rest ∙ sym (added_is from to more is))

pub grows_turns : (stripes : List State) (turns : List ℕ) (n count : ℕ) (from to : State) (more : List Event) → AreTurns stripes turns → slice_get stripes n ≡ Some from → to.history ≡ from.history ++ more → count ≡ length from.history
    → AreTurns (slice_set stripes n to) (turns ++ replicate (length to.history - count) n)
grows_turns stripes turns n count from to more each at is counted m =
    sum_by-append (λ t. cond (t == m) 1 0) turns (replicate (length to.history - count) n)
    ∙ ap (λ k. turns_of m turns + turns_of m (replicate k n)) (ap (λ c. length to.history - c) counted ∙ appended from to more is)
    ∙ ap (λ k. k + turns_of m (replicate (length more) n)) (each m)
    ∙ ap (λ k. length (history_at stripes m) + k) (alone m n (length more) ∙ elim (n == m) as (λ b. cond b (length more) 0 ≡ length (cond b more [])) [ true ↦ refl | false ↦ refl ])
    ∙ sym (length-append (history_at stripes m) (cond (n == m) more []))
    ∙ ap length (sym (history_set stripes n m from to more at is))

-- 5. A stripe whose history stays.

history_stays : (stripes : List State) (n m : ℕ) (from to : State) → slice_get stripes n ≡ Some from → to.history ≡ from.history → history_at (slice_set stripes n to) m ≡ history_at stripes m
history_stays stripes n m from to at is =
    history_set stripes n m from to [] at (is ∙ sym (append-nil from.history))
    ∙ ap (λ xs. history_at stripes m ++ xs) (none (n == m))
    ∙ append-nil (history_at stripes m)
  where
    none : (b : Bool) → cond {A = List Event} b [] [] ≡ []
    none true = refl
    none false = refl

pub stays_merged : (stripes : List State) (turns : List ℕ) (n : ℕ) (from to : State) → slice_get stripes n ≡ Some from → to.history ≡ from.history → merge (history_at (slice_set stripes n to)) turns ≡ merge (history_at stripes) turns
stays_merged stripes turns n from to at is = λ i. merge (λ m. history_stays stripes n m from to at is i) turns

pub stays_turns : (stripes : List State) (turns : List ℕ) (n : ℕ) (from to : State) → AreTurns stripes turns → slice_get stripes n ≡ Some from → to.history ≡ from.history → AreTurns (slice_set stripes n to) turns
stays_turns stripes turns n from to each at is m = each m ∙ ap length (sym (history_stays stripes n m from to at is))

-- 6. A phase.

abbrev Meets : (State → Type 0) → ℕ → OrderedStripes → Type 0
Meets P number v = IsSomeAnd (slice_get v.stripes number) P

-- the stripe that was read is that of the number
pub is_at : (s : Inside) (now : OrderedStripes) (number : ℕ) (from : State) (P : State → Type 0) → ordered_stripes s ≡ now → IsSomeAnd (slice_get now.stripes number) P → from ≡ get_or s.items.items number from → slice_get s.items.items number ≡ Some from
is_at s now number from P is h read = at_index s.items.items number from P (subst (Meets P number) (sym is) h) read

-- and meets what that stripe meets
pub met_at : (s : Inside) (now : OrderedStripes) (number : ℕ) (from : State) (P : State → Type 0) → ordered_stripes s ≡ now → IsSomeAnd (slice_get now.stripes number) P → from ≡ get_or s.items.items number from → P from
met_at s now number from P is h read =
    let Q : Option State → Type 0 = λ o. IsSomeAnd o P in
    subst Q (is_at s now number from P is h read) (subst (Meets P number) (sym is) h)

-- the number is of a stripe that is there
pub number_within : (s : Inside) (now : OrderedStripes) (number : ℕ) (P : State → Type 0) → ordered_stripes s ≡ now → IsSomeAnd (slice_get now.stripes number) P → number < vec_len s.items
number_within s now number P is h = let few = within s.items.items number P (subst (Meets P number) (sym is) h) in let ok = s.items.ok in omega arith

pub number_few : (s : Inside) (now : OrderedStripes) (number : ℕ) (P : State → Type 0) → ordered_stripes s ≡ now → IsMergeable s → IsSomeAnd (slice_get now.stripes number) P → number < STRIPES_MAX
number_few s now number P is ok h = let few = within s.items.items number P (subst (Meets P number) (sym is) h) in let count = ok.count in omega arith

-- a phase that appends
pub phase_made : (s : Inside) (now : OrderedStripes) (number count : ℕ) (from to : State) (phase : State → State → Type 0) (turns : List ℕ) (next : OrderedStripes) → ordered_stripes s ≡ now → IsMergeable s → slice_get s.items.items number ≡ Some from → Extends from to → count ≡ length from.history → phase from to
    → turns ≡ s.turns.items ++ replicate (length to.history - count) number → next.stripes ≡ slice_set s.items.items number to → next.order ≡ merge (history_at (slice_set s.items.items number to)) turns → IsPhase now number phase next
phase_made s now number count from to phase turns next is ok at longer counted made given stripes_are order_are =
    subst (λ v. IsPhase v number phase next) is (record {
      from = from;
      at = at;
      to = to;
      made = made;
      stripes_are = stripes_are;
      order_is =
          order_are
          ∙ ap (merge (history_at (slice_set s.items.items number to))) given
          ∙ grows_merged s.items.items s.turns.items number count from to longer.more ok.turns at longer.history counted;
    })

-- one that appends nothing
pub quiet_made : (s : Inside) (now : OrderedStripes) (number : ℕ) (from to : State) (phase : State → State → Type 0) (next : OrderedStripes) → ordered_stripes s ≡ now → slice_get s.items.items number ≡ Some from → to.history ≡ from.history → phase from to
    → next.stripes ≡ slice_set s.items.items number to → next.order ≡ merge (history_at (slice_set s.items.items number to)) s.turns.items → IsQuietPhase now number phase next
quiet_made s now number from to phase next is at same made stripes_are order_are =
    let P : OrderedStripes → Type 0 = λ v. IsQuietPhase v number phase next in
    subst P is (record { from = from; at = at; to = to; made = made; stripes_are = stripes_are; order_is = order_are ∙ stays_merged s.items.items s.turns.items number from to at same })

-- a pick-up appends nothing
pub picked_same : (from to : State) (join : JoinClaim) (p : Polled) → PicksUp from join p to → to.history ≡ from.history
picked_same from to join Polled.Again h = ap (λ (s : State). s.history) h.2
picked_same from to join p h = ap (λ (s : State). s.history) h.3

-- 7. Empty stripes.

pub no_history : (config : Config) (number count m : ℕ) → history_at (fresh_stripes config number count) m ≡ []
no_history config number (suc count) (suc m) = no_history config (number + 1) count m
no_history config number count m = refl

pub few_empty : (config : Config) → check config ≡ Ok tt → length (fresh_stripes config 0 config.stripes) ≤ STRIPES_MAX
few_empty config fits = let count = empty_count config 0 config.stripes in let few = few_stripes config fits in omega arith

pub starts_mergeable : (s : Inside) → length s.items.items ≤ STRIPES_MAX → ((number : ℕ) → history_at s.items.items number ≡ []) → s.turns.items ≡ [] → IsMergeable s
starts_mergeable s few empty none = record { turns = λ number. ap (turns_of number) none ∙ sym (ap length (empty number)); count = few }

-- 8. One turn after another.

first_at : (xs : List Event) (k : ℕ) (e : Event) → slice_get xs k ≡ Some e → take 1 (drop k xs) ≡ e ∷ []
first_at [] k e h = cc
first_at (x ∷ xs) zero e h = let is : x ≡ e = cc in ap (λ y. y ∷ []) is
first_at (x ∷ xs) (suc k) e h = first_at xs k e h

pub merged_next : (left : ℕ → List Event) (turns : List ℕ) (i n place : ℕ) (e : Event) → i < length turns → n ≡ get_or turns i 0 → place ≡ turns_of n (take i turns) → slice_get (left n) place ≡ Some e
    → merge left (take (i + 1) turns) ≡ merge left (take i turns) ++ e ∷ []
merged_next left turns i n place e h is counted at =
    ap (merge left) (take_more turns i 0 h ∙ ap (λ t. take i turns ++ t ∷ []) (sym is))
    ∙ merged_both left (take i turns) (n ∷ [])
    ∙ ap (λ xs. merge left (take i turns) ++ xs) (append-nil (take 1 (all_left left (take i turns) n)))
    ∙ ap (λ xs. merge left (take i turns) ++ take 1 xs) (left_at left (take i turns) n ∙ ap (λ k. drop k (left n)) (sym counted))
    ∙ ap (λ xs. merge left (take i turns) ++ xs) (first_at (left n) place e at)

-- as many events as turns
pub merged_length : (left : ℕ → List Event) (turns : List ℕ) → ((number : ℕ) → turns_of number turns ≤ length (left number)) → length (merge left turns) ≡ length turns
merged_length left [] each = refl
merged_length left (turn ∷ turns) each =
    let first = has_first left turn turns each in
    let some : 1 ≤ length (left turn) = omega arith in
    length-append (take 1 (left turn)) (merge (after_turn left turn) turns)
    ∙ ap (λ n. n + length (merge (after_turn left turn) turns)) (one (left turn) some)
    ∙ (let rest = merged_length (after_turn left turn) turns (within_after left turn turns each) in omega arith)
  where
    one : (xs : List Event) → 1 ≤ length xs → length (take 1 xs) ≡ 1
    one [] h = absurd (omega arith)
    one (x ∷ xs) h = refl

-- 9. Counts of turns, one for each number.

-- a turn that is there is of a stripe that is there, which has an event for it
pub record HasNext (stripes : List State) (n place : ℕ) : Type 0 where
  pub number : n < length stripes
  pub event : (s : State) → s ≡ get_or stripes n s → place < length s.history

counted_more : (n : ℕ) (turns : List ℕ) (i : ℕ) → i < length turns → n ≡ get_or turns i 0 → turns_of n (take (i + 1) turns) ≡ turns_of n (take i turns) + 1
counted_more n turns i h is = count_by_more_yes (λ t. t == n) turns i 0 h (ap (λ t. t == n) (sym is) ∙ nat_eq_equiv.refl n)

counted_same : (n m : ℕ) (turns : List ℕ) (i : ℕ) → i < length turns → n ≡ get_or turns i 0 → (n == m) ≡ false → turns_of m (take (i + 1) turns) ≡ turns_of m (take i turns)
counted_same n m turns i h is apart = count_by_more_no (λ t. t == m) turns i 0 h (ap (λ t. t == m) (sym is) ∙ apart)

-- the first turns are at most as many as all
some_turns : (n : ℕ) (turns : List ℕ) (i : ℕ) → turns_of n (take i turns) ≤ turns_of n turns
some_turns n turns i =
    let e = ap (turns_of n) (sym (take-append-drop i turns)) ∙ sum_by-append (λ t. cond (t == n) 1 0) (take i turns) (drop i turns) in
    omega arith

-- a number of them, and one more, is a number of 64 bits, since there is room for all
pub next_place : (place n : ℕ) (turns : List ℕ) (i capacity : ℕ) → place ≡ turns_of n (take i turns) → length turns ≤ capacity → capacity < 9223372036854775808 → Fits w64 (place + 1)
next_place place n turns i capacity is room small = let some = some_turns n turns i in let all = count_by-le-length (λ t. t == n) turns in omega arith

in_list : (stripes : List State) (n : ℕ) → 1 ≤ length (history_at stripes n) → n < length stripes
in_list [] n h = absurd (omega arith)
in_list (s ∷ ss) zero h = omega arith
in_list (s ∷ ss) (suc n) h = let rest = in_list ss n h in omega arith

pub has_next : (stripes : List State) (turns : List ℕ) (i : ℕ) → AreTurns stripes turns → i < length turns → HasNext stripes (get_or turns i 0) (turns_of (get_or turns i 0) (take i turns))
has_next stripes turns i each h =
    let n = get_or turns i 0 in
    let place = turns_of n (take i turns) in
    let more = counted_more n turns i h refl in
    let all = some_turns n turns (i + 1) in
    let own = each n in
    let here : place < length (history_at stripes n) = omega arith in
    let within = in_list stripes n (omega arith) in
    record {
      number = within;
      event = λ s at. subst (λ xs. place < length xs) (ap history_in (slice_get_read stripes (length stripes) n s refl within at)) here;
    }

-- the counts continue with the turns
pub counts_more : (taken turns : List ℕ) (i n place : ℕ) → n < length taken → length taken ≡ STRIPES_MAX → i < length turns → n ≡ get_or turns i 0 → place ≡ get_or taken n 0 → ((m : ℕ) → m < STRIPES_MAX → get_or taken m 0 ≡ turns_of m (take i turns))
    → (m : ℕ) → m < STRIPES_MAX → get_or (slice_set taken n (place + 1)) m 0 ≡ turns_of m (take (i + 1) turns)
counts_more taken turns i n place within len h is read each m few =
    elim (n == m) as (λ b. (n == m) ≡ b → get_or (slice_set taken n (place + 1)) m 0 ≡ turns_of m (take (i + 1) turns)) [
      | true ↦ λ e.
          let P : ℕ → Type 0 = λ k. get_or (slice_set taken n (place + 1)) k 0 ≡ turns_of k (take (i + 1) turns) in
          subst P (eqb-true n m e) (get_or-set_same taken n (place + 1) 0 within ∙ ap (λ k. k + 1) (read ∙ each n (subst (λ k. n < k) len within)) ∙ sym (counted_more n turns i h is))
      | false ↦ λ e. get_or-set_other taken n m (place + 1) 0 (λ same. unlike n m e (sym same)) ∙ each m few ∙ sym (counted_same n m turns i h is e)
    ] refl
  where
    unlike : (n m : ℕ) → (n == m) ≡ false → n ≡ m → ⊥
    unlike n m e same = let t = sym (nat_eq_equiv.refl m) ∙ ap (λ k. k == m) (sym same) ∙ e in cc

-- A desk's stripe after a generation has ended, if it was full, and after each phase, and what is left of its joiners.
use Rattle.std.proofs.Common.{◌≡◌, ◌⊎◌, inl, inr, ⊎_elim, ◌<◌, ◌≤◌, ◌+◌, ℕ, List, [], ◌∷◌, ◌++◌, length, not, Bool, true, false, Some, refl, sym, ap, ◌∙◌, subst, arith}
use Rattle.std.specs.List.{All}
use Rattle.std.proofs.lemmas.List.{length-append}
use Rattle.std.proofs.lemmas.List.Elements.{All-push, All-filter}
use Rattle.jc_types.specs.declared.caller.Caller.{Caller}
use Rattle.jc_types.specs.declared.limits.TheConstants.{LAST_NUMBER}
use Rattle.jc_model.specs.Cache.{Bytes, entry_at}
use Rattle.std.proofs.Common.{Option, None, is_some, if◌then◌else◌, find, nat_lt, ◌==◌, ◌&&◌, ◌-◌, cond, slice_get}
use Rattle.std.proofs.lemmas.Bool.{and_parts, and_from, eqb-true}
use Rattle.std.proofs.lemmas.Bool.Decides.{nat_tests}
use Rattle.std.proofs.lemmas.List.Folds.{list_all-append}
use Rattle.std.specs.List.{list_all}
use Rattle.std.specs.Cmp.Lexicographic.{pointwise}
use Rattle.std.specs.Option.{IsSomeAnd}
use Rattle.jc_types.proofs.CallerLemmas.{all_imply, all_filter, all_found, found_test}
use Rattle.jc_inflight.specs.declared.joiner.Joiner.{Joiner}
use Rattle.jc_inflight.specs.declared.joiner.JoinState.TheVariants.{Again}
use Rattle.jc_inflight.specs.Joining.{belongs_to, waits_for}
use Rattle.jc_inflight.specs.Resolving.{with_answer, answered_from, after_resolve}
use Rattle.jc_inflight.specs.Dissolving.{after_dissolve}
use Rattle.jc_stripe.specs.Tickets.{JoinClaim}
use Rattle.jc_stripe.specs.Phases.{with_joiner, without_joiner}
use Rattle.jc_stripe.specs.declared.ticket.Reservation.{Reservation}
use Rattle.jc_stripe.specs.State.{State, IsJoined, is_key, with_reservation, without_key}
use Rattle.jc_stripe.specs.Tests.{is_clear}
use Rattle.jc_stripe.specs.Generations.{after_renewal}
use Rattle.jc_stripe.specs.Renewal.{RenewsIfFull, is_renewable}
use Rattle.jc_stripe.specs.DeskState.{DeskState, HasStepsBefore, IsDesk, is_joined_before, next_caller, may_call_next, awaits_end, renewed_if_full}
use Rattle.jc_stripe.specs.DeskPhases.{newest, hits_next}
use Rattle.jc_stripe.specs.Refusals.{may_hit}
use Rattle.jc_stripe.proofs.OwnNumbers.{below_next}

-- Joiners whose calls are before a number.

abbrev pub AreJoinedBefore : State → ℕ → Type 0
AreJoinedBefore state next = list_all (is_joined_before next) state.joiners ≡ true

later_joiner : (next more : ℕ) → next ≤ more → (j : Joiner) → is_joined_before next j ≡ true → is_joined_before more j ≡ true
later_joiner next more le j h = grind (arith, nat_tests)

later_joined : (next more : ℕ) (js : List Joiner) → next ≤ more → list_all (is_joined_before next) js ≡ true → list_all (is_joined_before more) js ≡ true
later_joined next more js le all = all_imply (is_joined_before next) (is_joined_before more) js (later_joiner next more le) all

pub same_joined : (old new : State) (next more : ℕ) → next ≤ more → new.joiners ≡ old.joiners → AreJoinedBefore old next → AreJoinedBefore new more
same_joined old new next more le same all = ap (list_all (is_joined_before more)) same ∙ later_joined next more old.joiners le all

pub one_joined : (old new : State) (join : JoinClaim) (next : ℕ) → join.caller.call ≡ next → new ≡ with_joiner old join → AreJoinedBefore old next → AreJoinedBefore new (next + 1)
one_joined old new join next is with all =
    ap (λ (s : State). list_all (is_joined_before (next + 1)) s.joiners) with
    ∙ list_all-append (is_joined_before (next + 1)) old.joiners _
    ∙ ap (λ b. b && (nat_lt join.caller.call (next + 1) && true)) (later_joined next (next + 1) old.joiners (omega arith) all)
    ∙ ap (λ n. nat_lt n (next + 1) && true) is ∙ ap (λ b. b && true) (below_next next)

pub left_joined : (old new : State) (join : JoinClaim) (next : ℕ) → new ≡ without_joiner old join → AreJoinedBefore old next → AreJoinedBefore new next
left_joined old new join next without all =
    ap (λ (s : State). list_all (is_joined_before next) s.joiners) without
    ∙ all_filter (is_joined_before next) (λ j. not (belongs_to join.caller join.key j)) old.joiners all

resolved : (load step place next : ℕ) (js : List Joiner) → list_all (is_joined_before next) js ≡ true → list_all (is_joined_before next) (answered_from load step place js) ≡ true
resolved load step place next [] all = refl
resolved load step place next (j ∷ js) all =
    let parts = and_parts (is_joined_before next j) (list_all (is_joined_before next) js) all in
    elim (waits_for load j) as (λ b. list_all (is_joined_before next) (cond b (with_answer place step j ∷ answered_from load step (place + 1) js) (j ∷ answered_from load step place js)) ≡ true) [
      | true ↦ and_from _ _ parts.0 (resolved load step (place + 1) next js parts.1)
      | false ↦ and_from _ _ parts.0 (resolved load step place next js parts.1)
    ]

pub resolved_joined : (old new : State) (load step next : ℕ) → new.joiners ≡ after_resolve load step old.joiners → AreJoinedBefore old next → AreJoinedBefore new next
resolved_joined old new load step next is all = ap (list_all (is_joined_before next)) is ∙ resolved load step (step + 1) next old.joiners all

dissolved : (load next : ℕ) (js : List Joiner) → list_all (is_joined_before next) js ≡ true → list_all (is_joined_before next) (after_dissolve load js) ≡ true
dissolved load next [] all = refl
dissolved load next (j ∷ js) all =
    let parts = and_parts (is_joined_before next j) (list_all (is_joined_before next) js) all in
    and_from _ _ (elim (waits_for load j) as (λ b. is_joined_before next (cond b (record j { state = Again }) j) ≡ true) [ true ↦ parts.0 | false ↦ parts.0 ])
    (dissolved load next js parts.1)

pub dissolved_joined : (old new : State) (load next : ℕ) → new.joiners ≡ after_dissolve load old.joiners → AreJoinedBefore old next → AreJoinedBefore new next
dissolved_joined old new load next is all = ap (list_all (is_joined_before next)) is ∙ dissolved load next old.joiners all

found_below : (o : Option Joiner) (js : List Joiner) (join : JoinClaim) (next : ℕ) → find (belongs_to join.caller join.key) js ≡ o → IsSomeAnd o (λ j. j.load ≡ join.load)
    → list_all (is_joined_before next) js ≡ true → join.caller.call < next
found_below None js join next is out all = absurd out
found_below (Some j) js join next is out all =
    let mine = and_parts ((j.caller.session == join.caller.session) && (j.caller.call == join.caller.call)) (pointwise ◌==◌ join.key j.key) (found_test (belongs_to join.caller join.key) js j is) in
    let same : j.caller.call ≡ join.caller.call = eqb-true j.caller.call join.caller.call (and_parts (j.caller.session == join.caller.session) (j.caller.call == join.caller.call) mine.0).1 in
    let low : nat_lt j.caller.call next ≡ true = all_found (belongs_to join.caller join.key) (is_joined_before next) js j is all in
    grind (arith, nat_tests)

-- so the call of a join that is out is before the next number
pub join_below : (state : State) (join : JoinClaim) (next : ℕ) → IsJoined state join → AreJoinedBefore state next → join.caller.call < next
join_below state join next out all = found_below (find (belongs_to join.caller join.key) state.joiners) state.joiners join next refl out all

pub renewed_case : (old new : State) → RenewsIfFull old new → (new ≡ old) ⊎ (new ≡ after_renewal old)
renewed_case old new r =
    elim (is_renewable old) as (λ b. is_renewable old ≡ b → (new ≡ old) ⊎ (new ≡ after_renewal old)) [
      | true ↦ λ e. inr (r.0 e).after
      | false ↦ λ e. inl (r.1 e)
    ] refl

pub renewed_clear : (old new : State) (caller : Caller) (key : Bytes) → RenewsIfFull old new → is_clear new caller key ≡ is_clear old caller key
renewed_clear old new caller key r =
    ⊎_elim (λ same. ap (λ s. is_clear s caller key) same) (λ after. ap (λ s. is_clear s caller key) after) (renewed_case old new r)

after_desk : (old : State) (tickets : List Reservation) (next : ℕ) → IsDesk old tickets next → IsDesk (after_renewal old) tickets next
after_desk old tickets next is = record { tickets_are = is.tickets_are; before = λ session. refl; below = is.below; joined_below = is.joined_below; played = is.played; lives = is.lives }

pub renewed_desk : (old new : State) (tickets : List Reservation) (next : ℕ) → RenewsIfFull old new → IsDesk old tickets next → IsDesk new tickets next
renewed_desk old new tickets next r is =
    ⊎_elim (λ same. subst (λ s. IsDesk s tickets next) (sym same) is) (λ after. subst (λ s. IsDesk s tickets next) (sym after) (after_desk old tickets next is)) (renewed_case old new r)

-- the test of a call at a desk, by its parts
other_number : (n m : ℕ) → (n ≡ m → ⊥) → not (n == m) ≡ true
other_number n m differs = elim (n == m) as (λ b. (n == m) ≡ b → not b ≡ true) [ true ↦ λ e. absurd (differs (eqb-true n m e)) | false ↦ λ e. refl ] refl

pub may_call : (desk : DeskState) (session : ℕ) (key : Bytes) → (desk.next ≡ LAST_NUMBER → ⊥) → is_clear desk.stripe (next_caller desk session) key ≡ true → may_call_next desk session key ≡ true
may_call desk session key number clear = and_from (not (desk.next == LAST_NUMBER)) (is_clear desk.stripe (next_caller desk session) key) (other_number desk.next LAST_NUMBER number) clear

pub never_both : (a b : Bool) → b ≡ false → (a && b) ≡ false
never_both true b h = h
never_both false b h = refl

-- a phase that leaves the reservations
pub desk_same : (old new : State) (tickets : List Reservation) (next more : ℕ) → next ≤ more → IsDesk old tickets next → new.reservations ≡ old.reservations → new.origin ≡ old.origin
    → new.lives ≡ old.lives → AreJoinedBefore new more → HasStepsBefore new more → IsDesk new tickets more
desk_same old new tickets next more le is rs origin lives joined before =
    record {
      tickets_are = is.tickets_are ∙ sym rs;
      before = before;
      below = subst (λ xs. All (λ r. r.caller.call < more) xs) (sym rs) (λ k d l. let h = is.below k d l in omega arith);
      joined_below = joined;
      played = origin ∙ is.played;
      lives = lives ∙ is.lives;
    }

-- one that reserves a key
pub desk_reserves : (old new : State) (tickets : List Reservation) (next : ℕ) (r : Reservation) → IsDesk old tickets next → new ≡ with_reservation old r → r.caller.call ≡ next
    → HasStepsBefore new (next + 1) → IsDesk new (tickets ++ r ∷ []) (next + 1)
desk_reserves old new tickets next r is with number before =
    record {
      tickets_are = ap (λ xs. xs ++ r ∷ []) is.tickets_are ∙ ap (λ (s : State). s.reservations) (sym with);
      before = before;
      below = subst (λ (s : State). All (λ x. x.caller.call < next + 1) s.reservations) (sym with)
          (All-push (λ x. x.caller.call < next + 1) old.reservations r (λ k d l. let h = is.below k d l in omega arith) (omega (arith, number)));
      joined_below = ap (λ (s : State). list_all (is_joined_before (next + 1)) s.joiners) with ∙ later_joined next (next + 1) old.joiners (omega arith) is.joined_below;
      played = ap (λ (s : State). s.origin) with ∙ is.played;
      lives = ap (λ (s : State). s.lives) with ∙ is.lives;
    }

-- one that ends a reservation
pub desk_ends : (old new : State) (tickets rest : List Reservation) (next : ℕ) (key : Bytes) → IsDesk old tickets next → new.reservations ≡ without_key key old.reservations → rest ≡ new.reservations
    → new.origin ≡ old.origin → new.lives ≡ old.lives → AreJoinedBefore new next → HasStepsBefore new next → IsDesk new rest next
desk_ends old new tickets rest next key is rs left origin lives joined before =
    record {
      tickets_are = left;
      before = before;
      below = subst (λ xs. All (λ r. r.caller.call < next) xs) (sym rs) (All-filter (λ r. not (is_key key r)) (λ r. r.caller.call < next) old.reservations is.below);
      joined_below = joined;
      played = origin ∙ is.played;
      lives = lives ∙ is.lives;
    }

-- the newest reservation
at_end : (xs : List Reservation) (r : Reservation) → slice_get (xs ++ r ∷ []) (length xs) ≡ Some r
at_end [] r = refl
at_end (x ∷ xs) r = at_end xs r

last_pushed : (xs : List Reservation) (r : Reservation) → slice_get (xs ++ r ∷ []) (length (xs ++ r ∷ []) - 1) ≡ Some r
last_pushed xs r =
    let long = length-append xs (r ∷ []) in
    let is : length (xs ++ r ∷ []) - 1 ≡ length xs = omega (arith, long) in
    ap (slice_get (xs ++ r ∷ [])) is ∙ at_end xs r

pub newest_reserved : (old new : State) (r : Reservation) → new ≡ with_reservation old r → newest new ≡ Some r
newest_reserved old new r with = ap newest with ∙ last_pushed old.reservations r

-- no hit where the call may not hit, or finds no entry
renewed_is : (old new : State) → RenewsIfFull old new → new ≡ renewed_if_full old
renewed_is old new r = go (is_renewable old) refl
  where
    go : (b : Bool) → is_renewable old ≡ b → new ≡ (if b then after_renewal old else old)
    go true e = (r.0 e).after
    go false e = r.1 e

same_entries : (old : State) → (renewed_if_full old).cache ≡ old.cache
same_entries old = go (is_renewable old)
  where
    go : (b : Bool) → (if b then after_renewal old else old).cache ≡ old.cache
    go true = refl
    go false = refl

third_not : (x m e : Bool) → m ≡ false → (x && m && e) ≡ false
third_not true true e h = cc
third_not true false e h = refl
third_not false m e h = refl

pub no_hit : (desk : DeskState) (session : ℕ) (key : Bytes) (new : State) → RenewsIfFull desk.stripe new → (may_hit new desk.next key ≡ false) ⊎ (entry_at new.cache key ≡ None) → false ≡ hits_next desk session key
no_hit desk session key new r (inl blocked) =
    sym (third_not (may_call_next desk session key && not (awaits_end desk)) (may_hit (renewed_if_full desk.stripe) desk.next key) (is_some (entry_at desk.stripe.cache key))
    (ap (λ s. may_hit s desk.next key) (sym (renewed_is desk.stripe new r)) ∙ blocked))
no_hit desk session key new r (inr missing) =
    sym (never_both (may_call_next desk session key && not (awaits_end desk) && may_hit (renewed_if_full desk.stripe) desk.next key) (is_some (entry_at desk.stripe.cache key))
    (ap (λ c. is_some (entry_at c key)) (sym (ap (λ (s : State). s.cache) (renewed_is desk.stripe new r) ∙ same_entries desk.stripe)) ∙ ap is_some missing))

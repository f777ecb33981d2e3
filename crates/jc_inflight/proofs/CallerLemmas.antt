-- Lemmas for the crates above.
use Rattle.std.proofs.Common.{◌≡◌, ℕ, ◌+◌, ◌==◌, ◌&&◌, List, [], ◌∷◌, Bool, true, false, cond, not, length, map, filter, count_by, Some, None, refl, ap, sym, ◌∙◌, arith}
use Rattle.std.proofs.lemmas.List.{length-map}
use Rattle.std.proofs.lemmas.List.Sums.{length-filter, sum_by-cons}
use Rattle.std.specs.Cmp.Lexicographic.{pointwise, same_text}
use Rattle.std.proofs.lemmas.Bool.{eqb-true}
use Rattle.jc_types.specs.declared.caller.Caller.{Caller}
use Rattle.jc_model.specs.Cache.{Bytes}
use Rattle.jc_inflight.specs.declared.joiner.Joiner.{Joiner}
use Rattle.jc_inflight.specs.declared.joiner.JoinState.{JoinState}
use Rattle.jc_inflight.specs.declared.joiner.JoinState.TheVariants.{Again}
use Rattle.jc_inflight.specs.Joining.{belongs_to, is_waiting, waits, waits_for, callers_of}
use Rattle.jc_inflight.specs.Resolving.{with_answer, answered_from}
use Rattle.jc_inflight.specs.Dissolving.{told_to_retry, after_dissolve}
use Rattle.jc_inflight.specs.Taking.{join_state_of, joiners_without, joiners_after_take, is_over}

-- 1. The end of a load changes no caller and no key.

abbrev pub call_of : Joiner → Caller × Bytes
call_of j = (j.caller, j.key)

pub calls-answered_from : (load step place : ℕ) (joiners : List Joiner) → map call_of (answered_from load step place joiners) ≡ map call_of joiners
calls-answered_from load step place [] = refl
calls-answered_from load step place (j ∷ js) =
    elim (waits_for load j) as (λ b. map call_of (cond b (with_answer place step j ∷ answered_from load step (place + 1) js) (j ∷ answered_from load step place js)) ≡ call_of j ∷ map call_of js) [
      | true ↦ ap (λ cs. call_of j ∷ cs) (calls-answered_from load step (place + 1) js)
      | false ↦ ap (λ cs. call_of j ∷ cs) (calls-answered_from load step place js)
    ]

call-told_to_retry : (load : ℕ) (j : Joiner) → call_of (told_to_retry load j) ≡ call_of j
call-told_to_retry load j = elim (waits_for load j) as (λ b. call_of (cond b (record j { state = Again }) j) ≡ call_of j) [ true ↦ refl | false ↦ refl ]

pub calls-after_dissolve : (load : ℕ) (joiners : List Joiner) → map call_of (after_dissolve load joiners) ≡ map call_of joiners
calls-after_dissolve load [] = refl
calls-after_dissolve load (j ∷ js) = λ i. call-told_to_retry load j i ∷ calls-after_dissolve load js i

-- 2. Who waits for a load.

pub length-callers_of : (load : ℕ) (joiners : List Joiner) → length (callers_of load joiners) ≡ count_by (waits_for load) joiners
length-callers_of load joiners = length-map (filter (waits_for load) joiners) (λ j. j.caller) ∙ length-filter (waits_for load) joiners

-- 3. What a call learns that asks.

both : (a b : Bool) → (a && b) ≡ true → (a ≡ true) × (b ≡ true)
both true b h = (refl, h)
both false b h = cc

pub belongs_to_same : (caller : Caller) (key : Bytes) (j : Joiner) → belongs_to caller key j ≡ true → (j.caller ≡ caller) × (j.key ≡ key)
belongs_to_same caller key j h =
    let outer = both ((j.caller.session == caller.session) && (j.caller.call == caller.call)) (pointwise ◌==◌ key j.key) h in
    let inner = both (j.caller.session == caller.session) (j.caller.call == caller.call) outer.0 in
    let session = eqb-true j.caller.session caller.session inner.0 in
    let call = eqb-true j.caller.call caller.call inner.1 in
    (λ i. record { session = session i; call = call i }, sym (same_text key j.key (sym outer.1)))

-- of two joiners that differ, at most one belongs to the caller
pub belongs_to_one : (caller : Caller) (key : Bytes) (j later : Joiner) → belongs_to j.caller j.key later ≡ false → belongs_to caller key j ≡ true → belongs_to caller key later ≡ false
belongs_to_one caller key j later differ h =
    let same = belongs_to_same caller key j h in
    (λ i. belongs_to (sym same.0 i) (sym same.1 i) later) ∙ differ

-- its joiner goes if the load is over, and else the table stays
pub after_take_over : (caller : Caller) (key : Bytes) (joiners : List Joiner) (state : JoinState) → join_state_of caller key joiners ≡ Some state → is_waiting state ≡ false
    → joiners_after_take caller key joiners ≡ joiners_without caller key joiners
after_take_over caller key joiners state is over =
    ap (λ o. cond (is_over o) (joiners_without caller key joiners) joiners) is ∙ ap (λ b. cond (not b) (joiners_without caller key joiners) joiners) over

pub after_take_waiting : (caller : Caller) (key : Bytes) (joiners : List Joiner) (state : JoinState) → join_state_of caller key joiners ≡ Some state → is_waiting state ≡ true
    → joiners_after_take caller key joiners ≡ joiners
after_take_waiting caller key joiners state is waiting =
    ap (λ o. cond (is_over o) (joiners_without caller key joiners) joiners) is ∙ ap (λ b. cond (not b) (joiners_without caller key joiners) joiners) waiting

pub after_take_nobody : (caller : Caller) (key : Bytes) (joiners : List Joiner) → join_state_of caller key joiners ≡ None → joiners_after_take caller key joiners ≡ joiners
after_take_nobody caller key joiners is = ap (λ o. cond (is_over o) (joiners_without caller key joiners) joiners) is

-- 4. How many joiners still wait, for any load.

pub count-cons : (p : Joiner → Bool) (j : Joiner) (js : List Joiner) → count_by p (j ∷ js) ≡ cond (p j) 1 0 + count_by p js
count-cons p j js = sum_by-cons (λ x. cond (p x) 1 0) j js

waits-from_waits_for : (load : ℕ) (j : Joiner) → waits_for load j ≡ true → waits j ≡ true
waits-from_waits_for load j h = elim (j.load == load) as (λ b. (b && waits j) ≡ true → waits j ≡ true) [ true ↦ λ h. h | false ↦ λ h. cc ] h

pub waiting-answered_from : (load step place : ℕ) (joiners : List Joiner) → count_by waits (answered_from load step place joiners) + count_by (waits_for load) joiners ≡ count_by waits joiners
waiting-answered_from load step place [] = refl
waiting-answered_from load step place (j ∷ js) =
    let for_load = count-cons (waits_for load) j js in
    let for_any = count-cons waits j js in
    elim (waits_for load j) as (λ b. waits_for load j ≡ b
    → count_by waits (cond b (with_answer place step j ∷ answered_from load step (place + 1) js) (j ∷ answered_from load step place js)) + count_by (waits_for load) (j ∷ js) ≡ count_by waits (j ∷ js)) [
      | true ↦ λ h.
          let one : cond {A = ℕ} (waits j) 1 0 ≡ 1 = ap (λ b. cond {A = ℕ} b 1 0) (waits-from_waits_for load j h) in
          let waited : cond {A = ℕ} (waits_for load j) 1 0 ≡ 1 = ap (λ b. cond {A = ℕ} b 1 0) h in
          omega (arith, count-cons waits (with_answer place step j) (answered_from load step (place + 1) js), waiting-answered_from load step (place + 1) js)
      | false ↦ λ h.
          let waited : cond {A = ℕ} (waits_for load j) 1 0 ≡ 0 = ap (λ b. cond {A = ℕ} b 1 0) h in
          omega (arith, count-cons waits j (answered_from load step place js), waiting-answered_from load step place js)
    ] refl

waits-told_to_retry : (load : ℕ) (j : Joiner) → cond {A = ℕ} (waits (told_to_retry load j)) 1 0 + cond (waits_for load j) 1 0 ≡ cond (waits j) 1 0
waits-told_to_retry load j =
    elim (waits_for load j) as (λ b. waits_for load j ≡ b → cond {A = ℕ} (waits (cond b (record j { state = Again }) j)) 1 0 + cond b 1 0 ≡ cond (waits j) 1 0) [
      | true ↦ λ h. sym (ap (λ b. cond {A = ℕ} b 1 0) (waits-from_waits_for load j h))
      | false ↦ λ h. omega arith
    ] refl

pub waiting-after_dissolve : (load : ℕ) (joiners : List Joiner) → count_by waits (after_dissolve load joiners) + count_by (waits_for load) joiners ≡ count_by waits joiners
waiting-after_dissolve load [] = refl
waiting-after_dissolve load (j ∷ js) =
    omega (arith, waits-told_to_retry load j, waiting-after_dissolve load js, count-cons waits j js, count-cons (waits_for load) j js, count-cons waits (told_to_retry load j) (after_dissolve load js))

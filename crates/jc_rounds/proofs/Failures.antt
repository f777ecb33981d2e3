-- The first failure that a bulk call meets.
--     failures_stay    what has failed stays among the failures
--     first_there      the first key that failed, at its place
--     none_failed      and if it hasn't failed
--     noted_all        all that has failed is noted
--     cause_met        so is a cause that was noted
--     met_fault        a fault of the writer is noted
--     keeps_itself, keeps_same, keeps_both, keeps_noted, keeps_or    a cause that was noted stays
use Rattle.jc_rounds.proofs.Common.{◌≡◌, ◌<◌, ◌+◌, ◌++◌, ◌⊎◌, inl, inr, ℕ, zero, suc, List, [], ◌∷◌, append-nil, length, get_or, take, Option, None, Some, Result, slice_get, refl, sym, ap, ◌∙◌, subst, arith, take_more, filter_map-append, IsAmong, cons_option, option_or, Refusal, Reply, KeyProgress, IsCauseIn, IsMet, IsNoted, KeepsCause, StayEnded, first_of, failures, failure_at, refusal_in}
use Rattle.jc_rounds.specs.declared.progress.KeyProgress.TheVariants as progress
use Rattle.jc_rounds.proofs.SoFar.{among_more}

-- 1. One more.

among_cons : (o : Option Refusal) (rs : List Refusal) (r : Refusal) → IsAmong (cons_option o rs) r → (o ≡ Some r) ⊎ IsAmong rs r
among_cons None rs r h = inr h
among_cons (Some x) rs r (zero, (lt, is)) = inl (ap Some (sym is))
among_cons (Some x) rs r (suc i, (lt, is)) = inr (i, (omega (arith, lt), is))

cons_among : (o : Option Refusal) (rs : List Refusal) (r : Refusal) → (o ≡ Some r) ⊎ IsAmong rs r → IsAmong (cons_option o rs) r
cons_among None rs r (inl e) = let bad : None ≡ Some r = e in cc
cons_among None rs r (inr h) = h
cons_among (Some x) rs r (inl e) = let same : r ≡ x = cc in (zero, (omega arith, same))
cons_among (Some x) rs r (inr h) = (suc h.0, (omega (arith, h.1.0), h.1.1))

among_none : (r : Refusal) → IsAmong [] r → ⊥
among_none r h = omega (arith, h.1.0)

-- 2. What has failed stays so.

-- the place of a key that has failed
pub ended_there : (ps : List KeyProgress) (r : Refusal) → IsAmong (failures ps) r → (place : ℕ) × (e : Result Reply Refusal) × (slice_get ps place ≡ Some (progress.Ended e)) × (refusal_in e ≡ Some r)
ended_there [] r h = absurd (among_none r h)
ended_there (p ∷ ps) r h = by p (among_cons (failure_at p) (failures ps) r h) (ended_there ps r)
  where
    by : (p : KeyProgress) → (failure_at p ≡ Some r) ⊎ IsAmong (failures ps) r → (IsAmong (failures ps) r → (place : ℕ) × (e : Result Reply Refusal) × (slice_get ps place ≡ Some (progress.Ended e)) × (refusal_in e ≡ Some r))
        → (place : ℕ) × (e : Result Reply Refusal) × (slice_get (p ∷ ps) place ≡ Some (progress.Ended e)) × (refusal_in e ≡ Some r)
    by p (inr later) rest = let found = rest later in (suc found.0, found.1, found.2, found.3)
    by progress.Waiting (inl is) rest = let bad : None ≡ Some r = is in cc
    by progress.Reserved (inl is) rest = let bad : None ≡ Some r = is in cc
    by progress.Joined (inl is) rest = let bad : None ≡ Some r = is in cc
    by (progress.Ended e) (inl is) rest = (0, e, refl, is)

pub failed_there : (ps : List KeyProgress) (place : ℕ) (e : Result Reply Refusal) (r : Refusal) → slice_get ps place ≡ Some (progress.Ended e) → refusal_in e ≡ Some r → IsAmong (failures ps) r
failed_there [] place e r at is = cc
failed_there (p ∷ ps) zero e r at is = let same : p ≡ progress.Ended e = cc in cons_among (failure_at p) (failures ps) r (inl (ap failure_at same ∙ is))
failed_there (p ∷ ps) (suc place) e r at is = cons_among (failure_at p) (failures ps) r (inr (failed_there ps place e r at is))

pub failures_stay : (ps later : List KeyProgress) (r : Refusal) → StayEnded ps later → IsAmong (failures ps) r → IsAmong (failures later) r
failures_stay ps later r stay h =
    let found = ended_there ps r h in
    failed_there later found.0 found.1 r (stay.ended found.0 found.1 found.2) found.3

-- 3. The first one.

pub first_there : (ps : List KeyProgress) (i : ℕ) (d : KeyProgress) (r : Refusal) → i < length ps → failure_at (get_or ps i d) ≡ Some r → failures (take i ps) ≡ [] → Some r ≡ first_of (failures ps)
first_there [] i d r near is none = absurd (omega (arith, near))
first_there (e ∷ ps) zero d r near is none = ap (λ (o : Option Refusal). first_of (cons_option o (failures ps))) (sym is)
first_there (e ∷ ps) (suc i) d r near is none = by (failure_at e) refl none (first_there ps i d r (omega (arith, near)) is)
  where
    by : (o : Option Refusal) → failure_at e ≡ o → cons_option o (failures (take i ps)) ≡ [] → (failures (take i ps) ≡ [] → Some r ≡ first_of (failures ps)) → Some r ≡ first_of (failures (e ∷ ps))
    by (Some x) it none later = cc
    by None it none later = later none ∙ ap (λ (o : Option Refusal). first_of (cons_option o (failures ps))) (sym it)

pub none_failed : (ps : List KeyProgress) (i : ℕ) (d : KeyProgress) → i < length ps → failure_at (get_or ps i d) ≡ None → failures (take i ps) ≡ [] → failures (take (i + 1) ps) ≡ []
none_failed ps i d near is none =
    ap failures (take_more ps i d near)
    ∙ filter_map-append failure_at (take i ps) (get_or ps i d ∷ [])
    ∙ ap (λ rs. rs ++ failures (get_or ps i d ∷ [])) none
    ∙ ap (λ o. cons_option o []) is

-- 4. The cause of a call.

pub among_after : (xs ys : List Refusal) (r : Refusal) → IsAmong ys r → IsAmong (xs ++ ys) r
among_after [] ys r is = is
among_after (x ∷ xs) ys r is = let rest = among_after xs ys r is in (suc rest.0, (let near = rest.1.0 in omega arith, rest.1.1))

pub among_either : (xs ys : List Refusal) (r : Refusal) → IsAmong (xs ++ ys) r → IsAmong xs r ⊎ IsAmong ys r
among_either [] ys r is = inr is
among_either (x ∷ xs) ys r (zero, (lt, is)) = inl (zero, (omega arith, is))
among_either (x ∷ xs) ys r (suc i, (lt, is)) = by (among_either xs ys r (i, (omega (arith, lt), is)))
  where
    by : IsAmong xs r ⊎ IsAmong ys r → IsAmong (x ∷ xs) r ⊎ IsAmong ys r
    by (inl h) = inl (suc h.0, (let near = h.1.0 in omega arith, h.1.1))
    by (inr h) = inr h

nothing_after : (xs ys : List Refusal) → xs ++ ys ≡ [] → ys ≡ []
nothing_after [] ys is = is
nothing_after (x ∷ xs) ys is = cc

first_cause : (rs : List Refusal) → IsCauseIn (first_of rs) rs
first_cause [] = refl
first_cause (r ∷ rs) = (zero, (omega arith, refl))

-- all that has failed is noted
pub noted_all : (c d : Option Refusal) (ps : List KeyProgress) (faults : List Refusal) → IsMet c ps faults → IsNoted c (failures ps) d → IsCauseIn d (failures ps ++ faults)
noted_all None d ps faults met noted = subst (λ rs. IsCauseIn d (failures ps ++ rs)) (sym met) (subst (IsCauseIn d) (sym (append-nil (failures ps))) (subst (λ o. IsCauseIn o (failures ps)) (sym noted) (first_cause (failures ps))))
noted_all (Some c) d ps faults met noted = subst (λ e. IsCauseIn e (failures ps ++ faults)) (sym noted) met

-- and so is what was noted
pub cause_met : (c : Option Refusal) (ps : List KeyProgress) (faults : List Refusal) → IsCauseIn c (failures ps ++ faults) → IsMet c ps faults
cause_met None ps faults is = nothing_after (failures ps) faults is
cause_met (Some c) ps faults is = is

-- the writer's fault is noted
pub met_fault : (c fault : Option Refusal) (ps : List KeyProgress) (faults : List Refusal) → IsMet c ps faults → IsMet (option_or c fault) ps (faults ++ cons_option fault [])
met_fault (Some c) fault ps faults met = by (among_either (failures ps) faults c met)
  where
    by : IsAmong (failures ps) c ⊎ IsAmong faults c → IsAmong (failures ps ++ (faults ++ cons_option fault [])) c
    by (inl h) = among_more (failures ps) (faults ++ cons_option fault []) c h
    by (inr h) = among_after (failures ps) (faults ++ cons_option fault []) c (among_more faults (cons_option fault []) c h)
met_fault None None ps faults met = append-nil faults ∙ met
met_fault None (Some f) ps faults met =
    among_after (failures ps) (faults ++ f ∷ []) f (among_after faults (f ∷ []) f (zero, (omega arith, refl)))

-- 5. A cause stays.

pub keeps_itself : (c : Option Refusal) → KeepsCause c c
keeps_itself None = tt
keeps_itself (Some c) = refl

pub keeps_same : (c d : Option Refusal) → d ≡ c → KeepsCause c d
keeps_same None d is = tt
keeps_same (Some c) d is = is

pub keeps_both : (a b c : Option Refusal) → KeepsCause a b → KeepsCause b c → KeepsCause a c
keeps_both None b c one two = tt
keeps_both (Some a) b c one two = subst (λ x. KeepsCause x c) one two

pub keeps_noted : (c d : Option Refusal) (rs : List Refusal) → IsNoted c rs d → KeepsCause c d
keeps_noted None d rs noted = tt
keeps_noted (Some c) d rs noted = noted

pub keeps_or : (c fault : Option Refusal) → KeepsCause c (option_or c fault)
keeps_or None fault = tt
keeps_or (Some c) fault = refl

-- A call that has just begun: whether it is then under way, and what its beginning shows.
--     opened_cases       what is so of it under way, and of no call, is so of what was opened
--     begun_cases        what is so of a begun call's showing, and of a refusal's, is so of what was shown
--     begun_shown        one that isn't refused whole has begun
use Rattle.jc_world.proofs.Common.{◌≡◌, true, false, cond, List, [], ◌∷◌, ap, TooManyKeys, Outcome, Shown, CallState, is_going, has_too_many_keys, opened, over_of, not_over, shown_begun}

pub opened_cases : (u : CallState) (P : List CallState → Type 0) → P (u ∷ []) → P [] → P (opened u)
opened_cases u P one none =
    elim (has_too_many_keys u) as (λ b. P (cond b [] (cond (is_going u) (u ∷ []) []))) [
      | true ↦ none
      | false ↦ elim (is_going u) as (λ b. P (cond b (u ∷ []) [])) [ true ↦ one | false ↦ none ]
    ]

pub begun_cases : (u : CallState) (P : Shown → Type 0) → P (record { outcome = Outcome.Begun; over = over_of u }) → P (not_over (Outcome.Refused TooManyKeys)) → P (shown_begun u)
begun_cases u P begun refused = elim (has_too_many_keys u) as (λ b. P (cond b (not_over (Outcome.Refused TooManyKeys)) (record { outcome = Outcome.Begun; over = over_of u }))) [ true ↦ refused | false ↦ begun ]

pub begun_shown : (u : CallState) → has_too_many_keys u ≡ false → (shown_begun u).outcome ≡ Outcome.Begun
begun_shown u few = ap (λ (s : Shown). s.outcome) (ap (λ b. cond b (not_over (Outcome.Refused TooManyKeys)) (record { outcome = Outcome.Begun; over = over_of u })) few)

-- What is printed of events one after another.
--     texts_over    behind the last event, or the last that was shown of one, nothing is
use Rattle.jc_text.proofs.Common.{◌≡◌, ◌<◌, ◌≤◌, ◌⊎◌, inl, inr, ℕ, List, [], ◌∷◌, length, drop, refl, ap, ◌∙◌, arith, min, cases_lt, drop_all, WorldEvent, Shown, texts}

texts_none : (events : List WorldEvent) → texts events [] ≡ []
texts_none [] = refl
texts_none (e ∷ events) = refl

pub texts_over : (place : ℕ) (events : List WorldEvent) (seen : List Shown) → min (length events) (length seen) ≤ place → texts (drop place events) (drop place seen) ≡ []
texts_over place events seen over = by (cases_lt (length events) (length seen))
  where
    by : (length events < length seen) ⊎ (length seen ≤ length events) → texts (drop place events) (drop place seen) ≡ []
    by (inl fewer) = ap (λ es. texts es (drop place seen)) (drop_all place events (omega (arith, fewer, over)))
    by (inr fewer) = ap (texts (drop place events)) (drop_all place seen (omega (arith, fewer, over))) ∙ texts_none (drop place events)

-- The stripes that a reopening makes.
--     opened_last, opened_next
--                      one stripe more
--     opened_len       as many as were asked for
--     opened_at        each stripe has its number, and what it keeps
--     opened_opens     nothing has happened in it
use Rattle.std.proofs.Common.{◌≡◌, ◌<◌, ◌+◌, ℕ, zero, suc, List, [], ◌∷◌, ◌++◌, true, length, Some, Ok, slice_get, refl, ap, ◌∙◌, arith}
use Rattle.jc_types.specs.declared.config.Config.{Config}
use Rattle.jc_types.specs.Limits.{check}
use Rattle.jc_outside.specs.declared.done.Origin.{Origin}
use Rattle.jc_model.specs.Cache.{Bytes}
use Rattle.jc_model.specs.Listed.{has_distinct_keys}
use Rattle.jc_stripe.specs.Reached.{IsOpened}
use Rattle.jc_stripe.specs.Reopening.{kept, opened_stripe, opened_stripes}
use Rattle.jc_stripe.proofs.Kept.{kept_few, kept_once, kept_own}

pub opened_last : (config : Config) (origin : Origin) (entries : List (Bytes × Bytes)) (n count : ℕ)
    → opened_stripes config origin entries n (suc count) ≡ opened_stripes config origin entries n count ++ opened_stripe config origin (n + count) (kept config (n + count) entries) ∷ []
opened_last config origin entries n zero = ap (λ m. opened_stripe config origin m (kept config m entries) ∷ []) (omega arith)
opened_last config origin entries n (suc count) =
    ap (λ l. opened_stripe config origin n (kept config n entries) ∷ l)
    (opened_last config origin entries (n + 1) count
    ∙ ap (λ m. opened_stripes config origin entries (n + 1) count ++ opened_stripe config origin m (kept config m entries) ∷ []) (omega arith))

pub opened_next : (config : Config) (origin : Origin) (entries : List (Bytes × Bytes)) (count : ℕ)
    → opened_stripes config origin entries 0 (count + 1) ≡ opened_stripes config origin entries 0 count ++ opened_stripe config origin count (kept config count entries) ∷ []
opened_next config origin entries count =
    let more : count + 1 ≡ suc count = omega arith in
    let same : 0 + count ≡ count = omega arith in
    ap (opened_stripes config origin entries 0) more ∙ opened_last config origin entries 0 count
    ∙ ap (λ m. opened_stripes config origin entries 0 count ++ opened_stripe config origin m (kept config m entries) ∷ []) same

pub opened_len : (config : Config) (origin : Origin) (entries : List (Bytes × Bytes)) (n count : ℕ) → length (opened_stripes config origin entries n count) ≡ count
opened_len config origin entries n zero = refl
opened_len config origin entries n (suc count) = ap suc (opened_len config origin entries (n + 1) count)

pub opened_at : (config : Config) (origin : Origin) (entries : List (Bytes × Bytes)) (n count i : ℕ) → i < count
    → slice_get (opened_stripes config origin entries n count) i ≡ Some (opened_stripe config origin (n + i) (kept config (n + i) entries))
opened_at config origin entries n zero i h = absurd (omega arith)
opened_at config origin entries n (suc count) zero h =
    let here : n ≡ n + 0 = omega arith in
    ap (λ m. Some (opened_stripe config origin m (kept config m entries))) here
opened_at config origin entries n (suc count) (suc i) h =
    let there : n + 1 + i ≡ n + suc i = omega arith in
    opened_at config origin entries (n + 1) count i (omega arith) ∙ ap (λ m. Some (opened_stripe config origin m (kept config m entries))) there

pub opened_opens : (config : Config) (origin : Origin) (entries : List (Bytes × Bytes)) (n : ℕ) → check config ≡ Ok tt → has_distinct_keys entries ≡ true → IsOpened (opened_stripe config origin n (kept config n entries))
opened_opens config origin entries n fits once = record {
  config_fits = fits;
  ended = refl;
  once = kept_once config n entries once;
  own = kept_own config n entries;
  few = kept_few config n entries;
  cache = refl;
  reservations = refl;
  joiners = refl;
  history = refl;
  marked = refl;
}

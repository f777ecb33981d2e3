-- The laws above the operation table.
use Rattle.std.proofs.Common.{◌≡◌, ◌≢◌, true, false, cond, Option, None, Some, is_some, refl, sym, ap, ◌∙◌}
use Rattle.std.specs.Ordering.{eq_by_cmp}
use Rattle.jc_model.specs.Cache.{Bytes, Cache, key_cmp, entry_at, with_entry}
use Rattle.jc_model.specs.Table.{NewStep, first_fault, seq_entry, seq_cache, entry_by_fault, entry_without_fault}
use Rattle.jc_model.proofs.CallerLemmas.{same_cache, same_key, get-with_entry}
use Rattle.jc_types.specs.declared.refusal.Refusal.{Refusal}

-- the entry that a cache has at a key, given to it again, leaves it
same_entry : (cache : Cache) (key : Bytes) → with_entry cache key (entry_at cache key) ≡ cache
same_entry cache key = same_cache _ _ (λ q.
    get-with_entry cache key (entry_at cache key) q
    ∙ elim (eq_by_cmp key_cmp q key) as (λ b. eq_by_cmp key_cmp q key ≡ b → cond b (entry_at cache key) (entry_at cache q) ≡ entry_at cache q) [
      | true ↦ λ same. ap (entry_at cache) (sym (same_key q key same))
      | false ↦ λ other. refl
    ] refl)

kept_entry : (fault : Option Refusal) (before after : Option Bytes) → is_some fault ≡ true → entry_by_fault fault before after ≡ before
kept_entry None before after h = cc
kept_entry (Some fault) before after h = refl

pub fault_leaves_cache : (cache : Cache) (step : NewStep) → is_some (first_fault step.out) ≡ true → seq_cache cache step ≡ cache
fault_leaves_cache cache step h =
    ap (with_entry cache step.key) (kept_entry (first_fault step.out) (entry_at cache step.key) (entry_without_fault step.op (entry_at cache step.key) step.out) h)
    ∙ same_entry cache step.key

pub other_keys_stay : (cache : Cache) (step : NewStep) (key : Bytes) → key ≢ step.key → entry_at (seq_cache cache step) key ≡ entry_at cache key
other_keys_stay cache step key other =
    get-with_entry cache step.key (seq_entry cache step) key
    ∙ elim (eq_by_cmp key_cmp key step.key) as (λ b. eq_by_cmp key_cmp key step.key ≡ b → cond b (seq_entry cache step) (entry_at cache key) ≡ entry_at cache key) [
      | true ↦ λ same. absurd (other (same_key key step.key same))
      | false ↦ λ apart. refl
    ] refl

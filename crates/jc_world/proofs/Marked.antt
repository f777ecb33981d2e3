-- A key that was marked as written by others, and forgotten, if it was new.
use Rattle.jc_world.proofs.Common.{◌≡◌, cond, [], is_some, is_none, Some, None, Option, sym, refl, ap, ◌∙◌, same_cache, get-with_entry, Bytes, Cache, entry_at, with_entry, with_foreign, without_foreign}
use Rattle.jc_world.proofs.Lemmas.{split}

pub unmarked : (m : Cache) (key : Bytes) → without_foreign (with_foreign m key) key (is_none (entry_at m key)) ≡ m
unmarked m key = go (entry_at m key) refl
  where
    go : (o : Option Bytes) → entry_at m key ≡ o → without_foreign (cond (is_some o) m (with_entry m key (Some []))) key (is_none o) ≡ m
    go (Some value) is = refl
    go None is = same_cache _ m (λ q.
        get-with_entry (with_entry m key (Some [])) key None q
        ∙ split q key (λ b. cond b None (entry_at (with_entry m key (Some [])) q) ≡ entry_at m q)
        (λ same. sym (ap (entry_at m) same ∙ is))
        (λ apart. get-with_entry m key (Some []) q ∙ ap (λ b. cond b (Some []) (entry_at m q)) apart))

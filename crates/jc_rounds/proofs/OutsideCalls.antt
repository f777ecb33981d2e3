-- One call of the loader, or one of the writer, for many asks.
--     write_keys, delete_keys     the keys of writes and of deletes
--     keys_wanted                 the keys of what is asked for
--     no_batch, full_batch        the writer isn't called for nothing, and once for something
use Rattle.jc_rounds.proofs.Common.{◌≡◌, ◌++◌, ℕ, List, [], ◌∷◌, length, map, reverse, Bool, Option, Some, Result, Ok, refl, sym, ap, subst, ◌∙◌, arith, reverse-reverse, keys_of, Bytes, changes_of, DeleteAllRelation, WriteAllRelation, WritesAllOnce, Claim, WritesBatch, asked_keys, is_delete, wanted}
use Rattle.jc_model.specs.declared.event.Change.{Change}
use Rattle.jc_model.specs.declared.event.Change.TheVariants.{Write, Delete}
use Rattle.jc_model.specs.declared.event.WriteAnswer.{WriteAnswer}
use Rattle.jc_batch.specs.declared.batch.Batch.{Batch}

pub write_keys : (entries : List (Bytes × Bytes)) → map (λ (c : Bytes × Option Change). c.0) (map (λ (entry : Bytes × Bytes). (entry.0, Some (Write entry.1))) entries) ≡ keys_of entries
write_keys [] = refl
write_keys (e ∷ es) = ap (λ ks. e.0 ∷ ks) (write_keys es)

pub delete_keys : (keys : List Bytes) → map (λ (c : Bytes × Option Change). c.0) (map (λ (key : Bytes). (key, Some Delete)) keys) ≡ keys
delete_keys [] = refl
delete_keys (k ∷ ks) = ap (λ rest. k ∷ rest) (delete_keys ks)

pub keys_wanted : (asks : List Claim) → map (λ (c : Bytes × Option Change). c.0) (wanted asks) ≡ asked_keys asks
keys_wanted [] = refl
keys_wanted (a ∷ asks) = ap (λ ks. a.key ∷ ks) (keys_wanted asks)

pub none_long : {X : Type 0} (xs : List X) → length xs ≡ 0 → xs ≡ []
none_long [] is = refl
none_long (x ∷ xs) is = absurd (omega arith)

module _ {W : Type 0} (writes_all : WriteAllRelation W) (deletes_all : DeleteAllRelation W) (write_state : W → List ℕ) where
  pub no_batch : (deletes : Bool) (asks : List Claim) (writer : Option W) (said : Bytes → WriteAnswer) → asks ≡ [] → WritesBatch writes_all deletes_all write_state deletes (wanted asks) writer (Ok tt) said writer
  no_batch deletes asks writer said none = subst (λ xs. WritesBatch writes_all deletes_all write_state deletes (wanted xs) writer (Ok tt) said writer) (sym none) (refl, refl)

  pub full_batch : (deletes : Bool) (asks : List Claim) (batch : Batch) (returned : Result (Unit {0}) ℕ) (said : Bytes → WriteAnswer) (w w' : Option W) → (asks ≡ [] → ⊥) → is_delete batch ≡ deletes → changes_of batch ≡ wanted asks
      → WritesAllOnce writes_all deletes_all write_state w batch returned said w' → WritesBatch writes_all deletes_all write_state deletes (wanted asks) w returned said w'
  full_batch deletes [] batch returned said w w' some kind are once = absurd (some refl)
  full_batch deletes (a ∷ asks) batch returned said w w' some kind are once = (batch, kind, are, once)

pub done_back : {X : Type 0} (before after result all : List X) → before ≡ [] → after ≡ before ++ all → result ≡ reverse after → reverse result ≡ all
done_back before after result all none is back = ap reverse back ∙ reverse-reverse after ∙ is ∙ ap (λ xs. xs ++ all) none

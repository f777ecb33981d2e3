-- A sound world in which no key is reserved, and that is coherent but for some keys, is sound if the premises are taken to have held so
-- far, and others to have written these.
use Rattle.jc_world.proofs.Common.{◌≡◌, ◌&&◌, Some, None, sym, ap, ◌∙◌, get, Bytes, Cache, Premises, CoherentAsTold, with_all_premises, IsSoundWorld, WorldState, has_progress, has_changed, has_any}
use Rattle.jc_world.proofs.Lemmas.{HasParts, sound, order_stored}
use Rattle.jc_world.proofs.Joins.{joins_stored}

-- without a part each cached value is the store's
parts_premised : (foreign : Cache) (w : WorldState) → ((key : Bytes) → get w.parts key ≡ None) → CoherentAsTold (with_all_premises foreign w) → IsSoundWorld w → HasParts (with_all_premises foreign w)
parts_premised foreign w none coherent old = record {
  held = λ key part there. absurd (let e : Some part ≡ None = sym there ∙ none key in cc);
  told = λ hold key f.
      rw (none key) (coherent key (ap (λ b. b && has_any w key) f) (ap (has_progress has_changed) (none key)));
  cold = old.cold;
  idle = old.idle;
}

pub sound_premised : (foreign : Cache) (w : WorldState) → ((key : Bytes) → get w.parts key ≡ None) → CoherentAsTold (with_all_premises foreign w) → IsSoundWorld w → IsSoundWorld (with_all_premises foreign w)
sound_premised foreign w none coherent old =
    let premises : Premises = (with_all_premises foreign w).premises in
    sound (with_all_premises foreign w) (order_stored w w.store foreign premises w.is_fresh old) (parts_premised foreign w none coherent old) old.due (joins_stored w w.store foreign premises w.is_fresh old) old.sweeps

use Rattle.jc_world.proofs.Common.{◌≡◌, Bool, true, false, cond, List, [], ◌∷◌, ◌++◌, Some, Option, sym, refl, ap, ◌∙◌, append_assoc, nat_list_cmp_total, eq_by_cmp, Bytes, entry_at, key_cmp, or_else}
use Rattle.std.specs.FinMap as map
use Rattle.jc_world.proofs.audit.add_entries.Goals as goal

-- the last of what is left goes to the front of what is past
moved : {A : Type 0} (rest next past all : List A) (x : A) → rest ≡ next ++ x ∷ [] → rest ++ past ≡ all → next ++ x ∷ past ≡ all
moved rest next past all x e h = sym (append_assoc next (x ∷ []) past) ∙ ap (λ r. r ++ past) (sym e) ∙ h

-- what is put in counts before what was there
in_front : (b : Bool) (value : Bytes) (found was : Option Bytes) → cond b (Some value) (or_else found was) ≡ or_else (cond b (Some value) found) was
in_front true value found was = refl
in_front false value found was = refl

pub loop-key-preserved : goal.loop-key-preserved
loop-key-preserved c =
    let i = c.loop-key.invariant in
    let x = c.in-Some.field-0.now in (
      x ∷ i.0,
      moved c.loop-key.key-iterator.iter.rest.now c.next.new.self.iter.rest.now i.0 c.args.entries.now x c.in-Some.ensures.steps i.1,
      λ key.
          ap (λ m. entry_at m key) c.in_ok-set.ensures.ok
          ∙ map.get-insert nat_list_cmp_total c.loop-key.all x.0 x.1 key
          ∙ ap (cond (eq_by_cmp key_cmp key x.0) (Some x.1)) (i.2 key)
          ∙ in_front (eq_by_cmp key_cmp key x.0) x.1 (map.find key_cmp key i.0) (entry_at c.args.all.now key),
    )

use Rattle.std.proofs.Common.{◌≡◌, refl, ℕ, suc, ◌+◌, ◌-◌, ◌<◌, ◌≤◌, List, [], ◌∷◌, ◌++◌, Some, length, get_or, drop, ap, ◌∙◌, append_assoc, arith, rules, length-drop}
use Rattle.std.specs.Prelude.{slice_get, slice_range}
use Rattle.std.proofs.Math.Seq.{take-suc}
use Rattle.std.proofs.lemmas.List.{get_or-drop}
use Rattle.std.proofs.lemmas.Option.{get_or_from_slice_get}
use Rattle.jc_history.proofs.history.History.append_to.Goals as goal

range-more : {X : Type 0} (xs : List X) (i j : ℕ) (x : X) → i ≤ j → j < length xs → slice_get xs j ≡ Some x → slice_range xs i (j + 1) ≡ slice_range xs i j ++ x ∷ []
range-more xs i j x le lt e =
    let count : j + 1 - i ≡ suc (j - i) = omega arith in
    let at : i + (j - i) ≡ j = omega arith in
    let here : get_or (drop i xs) (j - i) x ≡ x = get_or-drop i xs (j - i) x ∙ ap (λ (k : ℕ). get_or xs k x) at ∙ get_or_from_slice_get xs j x x e in
    rw (count, take-suc (drop i xs) (j - i) x (omega (arith, length-drop i xs)), here) refl

pub loop-place-preserved : goal.loop-place-preserved
loop-place-preserved c =
    let more = range-more c.args.self.now.events c.args.from c.loop-place.place c.event.result (search rules) (omega arith) c.event.ensures in
    record {
      items = rw (c.push_copy.ensures.items, c.loop-place.invariant.items, more) (simp append_assoc);
      room = omega (arith, c.push_copy.ensures.len, c.push_copy.ensures.capacity);
    }

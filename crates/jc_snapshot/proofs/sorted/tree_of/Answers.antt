use Rattle.std.proofs.Common.{◌≡◌, List, [], ◌∷◌, ◌++◌, sym, ap, ◌∙◌, append_assoc}
use Rattle.std.specs.FinMap as map
use Rattle.jc_snapshot.proofs.OrderedEntries.{tree-insert}
use Rattle.jc_snapshot.proofs.sorted.tree_of.Goals as goal

-- the last of what is left goes to the front of what is past
moved : {A : Type 0} (rest next past all : List A) (x : A) → rest ≡ next ++ x ∷ [] → rest ++ past ≡ all → next ++ x ∷ past ≡ all
moved rest next past all x e h = sym (append_assoc next (x ∷ []) past) ∙ ap (λ r. r ++ past) (sym e) ∙ h

pub loop-key-preserved : goal.loop-key-preserved
loop-key-preserved g c =
    let i = c.loop-key.invariant in
    let x = c.in-Some.field-0.now in (
      x ∷ i.0,
      moved c.loop-key.key-iterator.iter.rest.now c.next.new.self.iter.rest.now i.0 c.args.entries.now x c.in-Some.ensures.steps i.1,
      tree-insert g.met.K.Ord.total c.requires c.loop-key.tree c.insert.new.self x.0 x.1 c.in_ok-insert.ensures.updates ∙ ap (λ m. map.insert m x.0 x.1) i.2,
    )

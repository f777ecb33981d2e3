use Rattle.jc_snapshot.proofs.Common.{◌≡◌, ap, subst, ◌∙◌, join_cmp, AreNumbers}
use Rattle.std.specs.FinMap as map
use Rattle.jc_world.proofs.CallerLemmas.{exact_joins}
use Rattle.jc_snapshot.proofs.snapshot.join_numbers.Goals as goal

pub sorted-requires : goal.sorted-requires
sorted-requires c = exact_joins

pub returns-clause-numbers : goal.returns-clause-numbers
returns-clause-numbers c =
    let things : c.deref-2.result.now ≡ map.entries c.args.world.now.world.joins =
    c.deref-2.ensures.value ∙ c.in_ok-joins-2.ensures ∙ ap (λ l. map.entries (map.from_entries {R = join_cmp} l)) c.deref.ensures.value ∙ ap map.entries c.in_ok-joins.ensures
    in
    subst (λ xs. AreNumbers c.numbers_of.new.table xs c.in_ok-numbers.numbers.items) things c.in_ok-numbers.ensures.numbers

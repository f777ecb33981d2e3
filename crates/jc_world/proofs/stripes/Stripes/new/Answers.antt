use Rattle.jc_world.proofs.Common.{List, length, ◌≤◌, sym, ap, ◌∙◌, subst, STRIPES_MAX, State, history_at}
use Rattle.jc_world.proofs.Merging.{few_empty, no_history}
use Rattle.jc_world.proofs.stripes.Stripes.new.Goals as goal

pub of-requires-clause-count : goal.of-requires-clause-count
of-requires-clause-count c = subst (λ (ss : List State). length ss ≤ STRIPES_MAX) (sym c.in_ok-items.ensures) (few_empty c.args.config.now c.requires)

pub of-requires-clause-empty : goal.of-requires-clause-empty
of-requires-clause-empty c number =
    ap (λ (ss : List State). history_at ss number) c.in_ok-items.ensures ∙ no_history c.args.config.now 0 c.args.config.now.stripes number

use Rattle.std.proofs.lemmas.List.{with_items_is}
use Rattle.std.specs.Vec.{with_items}
use Rattle.jc_world.proofs.Common.{◌≡◌, ◌≤◌, List, length, sym, ap, ◌∙◌, subst, arith, STRIPES_MAX, AreLeft, HasHeld, HasJoins, parts_of, joins_of, State, history_at, OrderedStripes, fresh_stripes}
use Rattle.jc_world.proofs.Beginning.{empty_count}
use Rattle.jc_world.proofs.Merging.{no_history, starts_mergeable}
use Rattle.jc_world.proofs.stripes.Stripes.restart.Goals.{After-clear}
use Rattle.jc_world.proofs.stripes.Stripes.restart.Goals as goal

pub end_all-requires : goal.end_all-requires
end_all-requires c = record {
  left = subst (λ (v : OrderedStripes). AreLeft c.args.config.now v.stripes) (sym c.self.view_is) c.requires.left;
  held = subst (λ (v : OrderedStripes). HasHeld c.args.config.now v.stripes (parts_of c.args.held.now)) (sym c.self.view_is) c.requires.held;
  joins = subst (λ (v : OrderedStripes). HasJoins c.args.config.now v.stripes (joins_of c.args.joins.now)) (sym c.self.view_is) c.requires.joins;
}

-- all are made again
made : (c : After-clear) → (with_items c.pick_all.new.stripes c.restart_each.new.stripes).items ≡ fresh_stripes c.args.config.now 0 c.args.config.now.stripes
made c =
    let ok = c.pick_all.new.stripes.ok in
    let count = c.pick_all.ensures.left.count in
    let long : length c.restart_each.new.stripes ≡ c.args.config.now.stripes = ap length c.restart_each.ensures ∙ empty_count c.args.config.now 0 c.args.config.now.stripes in
    with_items_is c.pick_all.new.stripes c.restart_each.new.stripes (omega arith) ∙ c.restart_each.ensures

pub invariant_of-self : goal.invariant_of-self
invariant_of-self c =
    let config = c.args.config.now in
    let were = (subst (λ (v : OrderedStripes). AreLeft config v.stripes) (sym c.self.view_is) c.requires.left).count in
    let few = c.self.invariant.count in
    let count = empty_count config 0 config.stripes in
    let still : length (fresh_stripes config 0 config.stripes) ≤ STRIPES_MAX = omega arith in
    starts_mergeable _ (subst (λ (ss : List State). length ss ≤ STRIPES_MAX) (sym (made c)) still) (λ number. ap (λ (ss : List State). history_at ss number) (made c) ∙ no_history config 0 config.stripes number) c.clear.ensures.items

pub returns-clause-stripes : goal.returns-clause-stripes
returns-clause-stripes c = made c

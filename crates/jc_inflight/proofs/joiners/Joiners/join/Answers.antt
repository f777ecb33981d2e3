use Rattle.std.proofs.Common.{◌<◌, length, subst, sym, ap, ◌∙◌, rules}
use Rattle.jc_types.specs.declared.limits.TheConstants.{JOINERS_MAX}
use Rattle.jc_inflight.specs.Joining.{has_joined}
use Rattle.jc_inflight.specs.IsJoinerList.{IsJoinerList}
use Rattle.jc_inflight.proofs.JoinerList.{IsJoinerList-with}
use Rattle.jc_inflight.proofs.joiners.Joiners.join.Goals as goal

pub invariant_of-self : goal.invariant_of-self
invariant_of-self c =
    let fields = c.self.invariant.list in
    let few = fields.few in
    let free = ap (has_joined c.args.caller c.args.key.now) c.self.view_is ∙ c.requires in
    let room : length c.self.inside.joiners.items < JOINERS_MAX = search rules in
    record { list = subst IsJoinerList (sym c.push.ensures.items) (IsJoinerList-with c.args.caller c.args.key.now c.args.load c.self.inside.joiners.items fields room free) }

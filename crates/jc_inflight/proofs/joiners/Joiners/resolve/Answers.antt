use Rattle.std.proofs.Common.{◌≡◌, ◌+◌, map, ap, sym, ◌∙◌, rules}
use Rattle.arrayvec.specs.ArrayVec.{with_items}
use Rattle.arrayvec.proofs.ArrayVecLemmas.{items-with_items}
use Rattle.jc_inflight.specs.Resolving.{after_resolve}
use Rattle.jc_inflight.proofs.CallerLemmas.{call_of, calls-answered_from}
use Rattle.jc_inflight.proofs.JoinerList.{IsJoinerList-alike}
use Rattle.jc_inflight.proofs.joiners.Joiners.resolve.Goals as goal

pub invariant_of-self : goal.invariant_of-self
invariant_of-self c =
    let old = c.self.inside.joiners in
    let now : (with_items old c.answer_each.new.joiners).items ≡ after_resolve c.args.load c.args.step old.items =
    items-with_items old c.answer_each.new.joiners (search rules) ∙ c.answer_each.ensures.resolved ∙ ap (after_resolve c.args.load c.args.step) c.deref_mut.ensures.value in
    let same = sym (calls-answered_from c.args.load c.args.step (c.args.step + 1) old.items) ∙ ap (map call_of) (sym now) in
    record { list = IsJoinerList-alike old.items _ same c.self.invariant.list }

use Rattle.std.proofs.Common.{◌≡◌, map, ap, sym, ◌∙◌, rules}
use Rattle.arrayvec.specs.ArrayVec.{with_items}
use Rattle.arrayvec.proofs.ArrayVecLemmas.{items-with_items}
use Rattle.jc_inflight.specs.Dissolving.{after_dissolve}
use Rattle.jc_inflight.proofs.CallerLemmas.{call_of, calls-after_dissolve}
use Rattle.jc_inflight.proofs.JoinerList.{IsJoinerList-alike}
use Rattle.jc_inflight.proofs.joiners.Joiners.dissolve.Goals as goal

pub invariant_of-self : goal.invariant_of-self
invariant_of-self c =
    let old = c.self.inside.joiners in
    let now : (with_items old c.retry_each.new.joiners).items ≡ after_dissolve c.args.load old.items =
    items-with_items old c.retry_each.new.joiners (search rules) ∙ c.retry_each.ensures.dissolved ∙ ap (after_dissolve c.args.load) c.deref_mut.ensures.value in
    let same = sym (calls-after_dissolve c.args.load old.items) ∙ ap (map call_of) (sym now) in
    record { list = IsJoinerList-alike old.items _ same c.self.invariant.list }

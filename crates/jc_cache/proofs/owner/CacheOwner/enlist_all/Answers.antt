use Rattle.jc_cache.proofs.Common.{◌≡◌, ◌∙◌, ◌++◌, ◌∷◌, [], rules, sym, ap, length, append_assoc, arith, into_iter_items}
use Rattle.jc_cache.proofs.Enlisted.{given_next, none_enlisted, not_enlisted}
use Rattle.jc_cache.proofs.owner.CacheOwner.enlist_all.Goals as goal

pub loop-brought-preserved : goal.loop-brought-preserved
loop-brought-preserved g c =
    let at = c.loop-brought in
    let x = c.in-Some.brought in
    let steps : into_iter_items at.brought-iterator ≡ x ∷ into_iter_items c.next.new.self = c.in-Some.ensures.steps.0 in
    let pushed = c.push_reserved.ensures in
    record {
      all = append_assoc at.yielded (x ∷ []) _ ∙ rw (← steps) at.invariant.all;
      count = let was = at.invariant.count in let gone = c.in-Some.ensures.steps.1 in let short = ap length steps in omega arith;
      given = rw pushed.items (given_next _ _ _ at.yielded at.sessions.items x c.in-Ok-session.session at.invariant.given c.in-Ok-session.ensures.ok);
      room = let short = ap length steps in let was = at.invariant.room in let long = pushed.len in let room = pushed.capacity in omega arith;
    }

pub returns-in_default-clause-err : goal.returns-in_default-clause-err
returns-in_default-clause-err g c = none_enlisted c.args.self.now c.args.outside.items

pub returns-in-Err-clause-err : goal.returns-in-Err-clause-err
returns-in-Err-clause-err g c =
    let at = c.loop-brought in
    let x = c.in-Some.brought in
    let steps : into_iter_items at.brought-iterator ≡ x ∷ into_iter_items c.next.new.self = c.in-Some.ensures.steps.0 in
    let start : c.args.outside.items ≡ into_iter_items c.into_iter-brought-iterator.result = search rules in
    not_enlisted c.args.self.now at.self _ c.args.outside.items at.yielded (into_iter_items c.next.new.self) at.sessions.items x c.in-Err.fault
    (start ∙ sym at.invariant.all ∙ ap (λ xs. at.yielded ++ xs) steps) at.invariant.given c.in-Err.ensures.err

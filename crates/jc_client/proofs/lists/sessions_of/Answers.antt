use Rattle.std.proofs.Common.{◌≡◌, ◌∙◌, ◌∷◌, ◌++◌, [], ap, length, map, subst, sym, append_assoc, arith}
use Rattle.std.proofs.lemmas.List.{map-append}
use Rattle.std.proofs.lemmas.List.Elements.{All-head, All-push, All-rest, All-same}
use Rattle.std.specs.List.{All}
use Rattle.std.specs.Vec.Iter.{into_iter_items}
use Rattle.jc_cache.specs.Sessions.{IsOf, MayCall}
use Rattle.jc_client.proofs.lists.sessions_of.Goals as goal

pub loop-client-preserved : goal.loop-client-preserved
loop-client-preserved g c =
    let at = c.loop-client in
    let x = c.in-Some.client in
    let cache = c.args.owner.now.cache in
    let steps : into_iter_items at.client-iterator ≡ x ∷ into_iter_items c.next.new.self = c.in-Some.ensures.steps.0 in
    let pushed = c.push_reserved.ensures in
    let made = c.into_session.ensures in
    let same = All-head (λ z. z.cache.now ≡ cache) x _ (subst (All (λ z. z.cache.now ≡ cache)) steps at.invariant.rest) in
    let may = subst (λ a. MayCall a c.into_session.result) same made.may in
    record {
      all = append_assoc at.yielded (x ∷ []) _ ∙ rw (← steps) at.invariant.all;
      count = let was = at.invariant.count in let gone = c.in-Some.ensures.steps.1 in let short = ap length steps in omega arith;
      rest = All-rest (λ z. z.cache.now ≡ cache) x _ _ steps at.invariant.rest;
      sessions =
          pushed.items
          ∙ ap (λ l. l ++ c.into_session.result ∷ []) at.invariant.sessions
          ∙ ap (λ s. map (λ z. z.session) at.yielded ++ s ∷ []) made.session
          ∙ sym (map-append (λ z. z.session) at.yielded (x ∷ []));
      own = All-same (IsOf cache) _ _ pushed.items (All-push (IsOf cache) at.sessions.items c.into_session.result at.invariant.own may.own);
      may = All-same (MayCall cache) _ _ pushed.items (All-push (MayCall cache) at.sessions.items c.into_session.result at.invariant.may may);
      room = let short = ap length steps in let was = at.invariant.room in let long = pushed.len in let room = pushed.capacity in omega arith;
    }

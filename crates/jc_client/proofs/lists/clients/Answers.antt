use Rattle.std.proofs.Common.{◌≡◌, ◌∙◌, ◌∷◌, ◌++◌, [], sym, ap, subst, length, map, append_assoc, arith}
use Rattle.std.proofs.lemmas.List.{map-append}
use Rattle.std.specs.List.{All}
use Rattle.std.proofs.lemmas.List.Elements.{All-head, All-push, All-rest, All-same}
use Rattle.std.specs.Vec.Iter.{into_iter_items}
use Rattle.jc_cache.specs.Sessions.{MayCall}
use Rattle.jc_client.proofs.lists.clients.Goals as goal

pub loop-session-preserved : goal.loop-session-preserved
loop-session-preserved g c =
    let at = c.loop-session in
    let x = c.in-Some.session in
    let steps : into_iter_items at.session-iterator ≡ x ∷ into_iter_items c.next.new.self = c.in-Some.ensures.steps.0 in
    let pushed = c.push_reserved.ensures in
    let made = c.new.ensures in
    record {
      all = append_assoc at.yielded (x ∷ []) _ ∙ rw (← steps) at.invariant.all;
      count = let was = at.invariant.count in let gone = c.in-Some.ensures.steps.1 in let short = ap length steps in omega arith;
      may = All-rest (λ s. MayCall c.args.owner.now.cache s) x _ _ steps at.invariant.may;
      sessions = ap (map (λ z. z.session)) pushed.items ∙ map-append (λ z. z.session) at.clients.items (c.new.result ∷ []) ∙ ap (λ l. l ++ c.new.result.session ∷ []) at.invariant.sessions ∙ ap (λ s. at.yielded ++ s ∷ []) made.session;
      cache = All-same (λ z. z.cache.now ≡ c.args.owner.now.cache) _ _ pushed.items (All-push (λ z. z.cache.now ≡ c.args.owner.now.cache) at.clients.items c.new.result at.invariant.cache (made.cache ∙ c.cache-cache.ensures));
      room = let short = ap length steps in let was = at.invariant.room in let long = pushed.len in let room = pushed.capacity in omega arith;
    }

pub new-requires : goal.new-requires
new-requires g c = record {
  may =
      subst (λ cache. MayCall cache c.in-Some.session) (sym c.cache-cache.ensures)
      (All-head (λ s. MayCall c.args.owner.now.cache s) c.in-Some.session _ (subst (All (λ s. MayCall c.args.owner.now.cache s)) c.in-Some.ensures.steps.0 c.loop-session.invariant.may));
}

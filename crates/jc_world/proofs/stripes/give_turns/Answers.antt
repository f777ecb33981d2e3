use Rattle.jc_world.proofs.Common.{◌≡◌, ◌+◌, ◌-◌, [], ◌∷◌, ◌++◌, replicate, ap, ◌∙◌, append_assoc, arith, replicate_more}
use Rattle.jc_world.proofs.stripes.give_turns.Goals as goal

pub loop-place-preserved : goal.loop-place-preserved
loop-place-preserved c =
    let i = c.loop-place.invariant in
    let number = c.args.number in
    let given = c.loop-place.place - c.args.from in
    let next : given + 1 ≡ c.loop-place.place + 1 - c.args.from = (let s = c.loop-place.auto.place in omega arith) in
    record {
      given =
          c.push_reserved.ensures.items ∙ ap (λ ts. ts ++ number ∷ []) i.given
          ∙ append_assoc c.args.turns.now.items (replicate given number) (number ∷ [])
          ∙ ap (λ ts. c.args.turns.now.items ++ ts) (replicate_more given number ∙ ap (λ n. replicate n number) next);
      room = let r = i.room in let l = c.push_reserved.ensures.len in let k = c.push_reserved.ensures.capacity in let t = c.loop-place-test.true in let e = c.history_len-place-end.ensures.len in omega arith;
    }

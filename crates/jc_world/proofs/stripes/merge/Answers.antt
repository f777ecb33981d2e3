use Rattle.std.proofs.lemmas.List.{take_all}
use Rattle.std.proofs.lemmas.Result.{IfOk-from_err}
use Rattle.jc_world.proofs.Common.{◌≡◌, ◌+◌, ◌<◌, [], ◌∷◌, ◌++◌, length, get_or, slice_get, Some, sym, refl, ap, ◌∙◌, subst, arith, get_or-replicate, slice_get_read, STRIPES_MAX, history_in, history_at, merge}
use Rattle.jc_world.proofs.Shares.{length-slice_set}
use Rattle.jc_world.proofs.Merging.{has_next, counts_more, merged_next, next_place}
use Rattle.jc_world.proofs.stripes.merge.Goals as goal

pub loop-turn-init : goal.loop-turn-init
loop-turn-init c = record {
  made = c.in_ok-order.ensures.items;
  counts = λ n few. get_or-replicate STRIPES_MAX n 0 0 few;
  count = refl;
  room = let l = c.in_ok-order.ensures.len in let k = c.in_ok-order.ensures.capacity in omega arith;
}

pub bounds-taken-number : goal.bounds-taken-number
bounds-taken-number c = let n = (has_next c.args.stripes.now c.args.turns.now c.loop-turn.turn-index c.requires.turns c.loop-turn-test.true).number in let count = c.requires.count in omega arith

pub bounds-stripes-number : goal.bounds-stripes-number
bounds-stripes-number c = (has_next c.args.stripes.now c.args.turns.now c.loop-turn.turn-index c.requires.turns c.loop-turn-test.true).number

pub event-requires : goal.event-requires
event-requires c =
    let number = get_or c.args.turns.now c.loop-turn.turn-index 0 in
    let count = c.requires.count in
    let next = has_next c.args.stripes.now c.args.turns.now c.loop-turn.turn-index c.requires.turns c.loop-turn-test.true in
    let within = next.number in
    let few : number < STRIPES_MAX = omega arith in
    subst (λ n. n < length c.index-stripes-number.result.history) (sym (c.loop-turn.invariant.counts number few)) (next.event c.index-stripes-number.result c.index-stripes-number.is)

pub bounds-taken-number-in-loop-turn : goal.bounds-taken-number-in-loop-turn
bounds-taken-number-in-loop-turn c =
    let n = (has_next c.args.stripes.now c.args.turns.now c.loop-turn.turn-index c.requires.turns c.loop-turn-test.true).number in
    let count = c.requires.count in omega arith

pub loop-turn-preserved : goal.loop-turn-preserved
loop-turn-preserved c =
    let i = c.loop-turn.invariant in
    let index = c.loop-turn.turn-index in
    let turns = c.args.turns.now in
    let stripes = c.args.stripes.now in
    let number = get_or turns index 0 in
    let place = get_or c.loop-turn.taken number 0 in
    let lt = c.loop-turn-test.true in
    let within = (has_next stripes turns index c.requires.turns lt).number in
    let count = c.requires.count in
    let few : number < STRIPES_MAX = omega arith in
    let len = i.count in
    let stripe = c.index-stripes-number.result in
    let at : slice_get (history_at stripes number) place ≡ Some c.event.result =
    ap (λ o. slice_get (history_in o) place) (slice_get_read stripes (length stripes) number stripe refl within c.index-stripes-number.is) ∙ c.event.ensures in
    record {
      made = c.push_reserved.ensures.items ∙ ap (λ es. es ++ c.event.result ∷ []) i.made
          ∙ sym (merged_next (history_at stripes) turns index number place c.event.result lt refl (i.counts number few) at);
      counts = counts_more c.loop-turn.taken turns index number place (omega arith) len lt refl refl i.counts;
      count = length-slice_set c.loop-turn.taken number (place + 1) ∙ len;
      room = let r = i.room in let l = c.push_reserved.ensures.len in let k = c.push_reserved.ensures.capacity in omega arith;
    }

pub returns-in_err-order : goal.returns-in_err-order
returns-in_err-order c = IfOk-from_err c.from_residual.result _ c.from_residual.ensures.0

pub bounds-turns-turn-index : goal.bounds-turns-turn-index
bounds-turns-turn-index c = c.loop-turn-test.true

pub push_reserved-requires : goal.push_reserved-requires
push_reserved-requires c = let r = c.loop-turn.invariant.room in let t = c.loop-turn-test.true in omega arith

pub returns : goal.returns
returns c = c.loop-turn.invariant.made ∙ ap (merge (history_at c.args.stripes.now)) (take_all c.loop-turn.turn-index c.args.turns.now c.loop-turn-test.false)

pub overflow_add-taken : goal.overflow_add-taken
overflow_add-taken c =
    let turns = c.args.turns.now in
    let index = c.loop-turn.turn-index in
    let number = get_or turns index 0 in
    let within = (has_next c.args.stripes.now turns index c.requires.turns c.loop-turn-test.true).number in
    let count = c.requires.count in
    let few : number < STRIPES_MAX = omega arith in
    next_place (get_or c.loop-turn.taken number 0) number turns index _ (c.loop-turn.invariant.counts number few) c.in_ok-order.ensures.capacity c.in_ok-order.order.small

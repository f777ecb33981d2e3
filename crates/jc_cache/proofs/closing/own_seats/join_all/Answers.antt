use Rattle.jc_cache.proofs.Common.{◌≡◌, ◌∷◌, ◌++◌, [], List, length, refl, sym, ap, subst, ◌∙◌, append_assoc, append-nil, arith, rules, All-nil, All-push, into_iter_items, TableId, View, HasFront, all_lent, lent_at, State}
use Rattle.jc_cache.proofs.ClosingSeats.{keep_all, keep_on, keep_locks, brought_push}
use Rattle.jc_cache.proofs.ClosedCache.{lent_more}
use Rattle.jc_cache.proofs.closing.own_seats.join_all.Goals as goal

pub loop-session-init : goal.loop-session-init
loop-session-init g c =
    let given = c.into_iter-session-iterator.ensures.into_iter_gives in
    record {
      all = refl;
      count = search rules;
      keeps = keep_all _ _;
      taken = c.requires.own.taken;
      handed = λ i. sym (append-nil _);
      fronts = All-nil _;
      outside = sym (append-nil _);
      room = let all = ap length given.0 in let room = c.requires.room in omega arith;
    }

pub join_seats-requires-clause-own : goal.join_seats-requires-clause-own
join_seats-requires-clause-own g c = record { locks = keep_locks _ _ _ c.loop-session.invariant.keeps ∙ c.requires.own.locks; taken = c.loop-session.invariant.taken }

pub loop-session-preserved : goal.loop-session-preserved
loop-session-preserved g c =
    let at = c.loop-session in
    let x = c.in-Some.session in
    let steps : into_iter_items at.session-iterator ≡ x ∷ into_iter_items c.next.new.self = c.in-Some.ensures.steps.0 in
    let brought = c.parts_of-seats.ensures in
    let pushed = c.push_reserved.ensures in
    record {
      all = append_assoc at.yielded (x ∷ []) _ ∙ rw (← steps) at.invariant.all;
      count = let was = at.invariant.count in let gone = c.in-Some.ensures.steps.1 in let short = ap length steps in omega arith;
      keeps = keep_on _ _ _ _ at.invariant.keeps c.join_seats.ensures.own.keeps;
      taken = c.join_seats.ensures.own.taken;
      handed = λ i. c.join_seats.ensures.handed i ∙ (λ j. at.invariant.handed i j ++ lent_at (brought.seats j) i) ∙ append_assoc (lent_at c.args.own.now.items i) (all_lent at.yielded i) (lent_at x.seats.items i)
          ∙ ap (λ (ls : List (State × State)). lent_at c.args.own.now.items i ++ ls) (sym (lent_more at.yielded x i));
      fronts = All-push (λ s. HasFront c.args.stripes.now s.seats.items) at.yielded x at.invariant.fronts
          (subst (λ (seats : List (TableId × View)). HasFront c.args.stripes.now seats) brought.seats c.join_seats.ensures.front);
      outside = brought_push _ _ _ _ at.yielded x _ pushed.items at.invariant.outside brought.outside;
      room = let short = ap length steps in let was = at.invariant.room in let long = pushed.len in let room = pushed.capacity in omega arith;
    }

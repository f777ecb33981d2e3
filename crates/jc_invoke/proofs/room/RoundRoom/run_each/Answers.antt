use Rattle.jc_invoke.proofs.Common.{holds_nothing, IsTicketRun, IsToBeRun, TakesKey, TicketClaim, ap, ◌≡◌, ◌<◌, ◌+◌, ◌∙◌, length, get_or, refl, sym, subst, arith, drop-set-lt, drop_more, AllByRecursion}
use Rattle.jc_invoke.proofs.RunEach.{begins, keeps_both, keeps_itself, left_next, many_same, may_take, reserved_set, run_as, run_next}
use Rattle.jc_invoke.proofs.Runs.{rest_on}
use Rattle.jc_invoke.proofs.room.RoundRoom.run_each.Goals as goal

pub loop-place-init : goal.loop-place-init
loop-place-init g c =
    let may = c.requires.may in
    let start = begins _ c.args.processing.now.args.now
    may.most may.cache.config.write_through c.args.session.now.agent c.args.processing.now.processor.now c.args.tickets.now.items c.args.self.now may.few may.room_is in
    record {
      kept = record { reservations = refl; room = refl };
      fresh = may.fresh;
      left = start.0;
      keeps = keeps_itself c.args.self.now;
      run = record { asked = start.1; rest = refl; own = λ cache of. of };
      same = (refl, refl);
    }

pub run_one-requires : goal.run_one-requires
run_one-requires g c =
    let old = c.loop-place.invariant in
    let may = c.requires.may in
    let now = c.loop-place.tickets.items in
    let near : c.loop-place.place < length now = let many = many_same c.args.tickets.now.items c.loop-place.tickets.items old.kept.reservations in omega (arith, many, c.loop-place-test.true, c.len-place-end.ensures, c.args.tickets.now.ok.0) in
    let is : c.index_mut.result.now ≡ get_or now c.loop-place.place c.index_mut.result.now = c.index_mut.ensures.value in
    record {
      may = (
        holds_nothing _ _ (old.run.own may.cache may.own),
        subst IsToBeRun (sym is) (subst (AllByRecursion IsToBeRun) (drop_more now c.loop-place.place c.index_mut.result.now near) old.fresh).0,
        subst (λ (t : TicketClaim). TakesKey c.loop-place.self t.reservation.key) (sym is)
            (may_take _ c.args.processing.now.args.now
            c.args.self.now.through c.args.session.now.agent c.loop-place.session.agent c.loop-place.session.agent c.args.processing.now.processor.now c.loop-place.processing.processor.now c.loop-place.processing.processor.now
            c.args.tickets.now.items now c.loop-place.place c.index_mut.result.now c.index_mut.result.now c.loop-place.self c.loop-place.self
            old.kept.reservations near may.distinct old.left old.run.asked),
      );
    }

pub loop-place-preserved : goal.loop-place-preserved
loop-place-preserved g c =
    let old = c.loop-place.invariant in
    let now = c.loop-place.tickets.items in
    let i = c.loop-place.place in
    let d = c.index_mut.result.now in
    let near : i < length now = let many = many_same c.args.tickets.now.items c.loop-place.tickets.items old.kept.reservations in omega (arith, many, c.loop-place-test.true, c.len-place-end.ensures, c.args.tickets.now.ok.0) in
    let is : d ≡ get_or now i d = c.index_mut.ensures.value in
    let run = c.run_one.ensures.run in
    let one = run_as _ c.args.processing.now.args.now c.loop-place.processing.args.now c.loop-place.session.agent c.run_one.new.session.agent c.loop-place.processing.processor.now c.run_one.new.processing.processor.now
    d (get_or now i d) c.run_one.new.ticket c.loop-place.self c.run_one.new.self (ap (λ a. a.now) old.same.1) is run.asked in
    record {
      kept = record {
        reservations = reserved_set now i c.run_one.new.ticket d one.kept ∙ old.kept.reservations;
        room = old.kept.room;
      };
      fresh = subst (AllByRecursion IsToBeRun) (sym (drop-set-lt (i + 1) now i c.run_one.new.ticket (omega arith))) (subst (AllByRecursion IsToBeRun) (drop_more now i d near) old.fresh).1;
      left = left_next _ c.args.processing.now.args.now
          c.args.self.now.through c.args.session.now.agent c.loop-place.session.agent c.run_one.new.session.agent c.args.processing.now.processor.now c.loop-place.processing.processor.now c.run_one.new.processing.processor.now
          c.args.tickets.now.items now i d c.run_one.new.ticket c.loop-place.self c.run_one.new.self (length c.args.tickets.now.items) old.left one;
      keeps = keeps_both c.args.self.now c.loop-place.self c.run_one.new.self old.keeps c.run_one.ensures.same.0;
      run = record {
        asked = run_next _ c.args.processing.now.args.now
            c.args.self.now.through c.args.session.now.agent c.loop-place.session.agent c.run_one.new.session.agent c.args.processing.now.processor.now c.loop-place.processing.processor.now c.run_one.new.processing.processor.now
            c.args.tickets.now.items now i d c.run_one.new.ticket c.loop-place.self c.run_one.new.self old.kept.reservations near old.left.through_is old.run.asked one;
        rest = rest_on c.args.session.now c.loop-place.session c.run_one.new.session run.rest old.run.rest;
        own = λ cache of. run.own cache (old.run.own cache of);
      };
      same = (c.run_one.ensures.same.1.0 ∙ old.same.0, c.run_one.ensures.same.1.1 ∙ old.same.1);
    }

use Rattle.jc_explore.proofs.Common.{sym, ◌∙◌, arith, get_or, true≢false, or_parts, KnownState, Begin, Move, IsNextSchedule, WasFollowed, StaysAt}
use Rattle.jc_explore.proofs.Searching.{grows-refl, grows-twice, below_one-more, followed-grown, followed-at, stays-at, there-at, or_goes}
use Rattle.jc_explore.proofs.Shortest.{adds-none, adds-twice}
use Rattle.jc_explore.proofs.search.expand.Goals as goal

-- where an index is out of range
abbrev first : Move
first = record { thread = 0; act = Begin }

pub loop-step-init : goal.loop-step-init
loop-step-init c =
    record {
      known = c.requires.known;
      kept = grows-refl c.args.known.now.list.items;
      added = adds-none (λ (k : KnownState). IsNextSchedule c.args.schedule.now k.schedule.items) c.args.known.now.list.items;
      there = λ _. c.requires.there;
      followed = λ k h. absurd (omega (arith, h));
      on = λ t. absurd (true≢false (sym t));
      none = λ _ k h. absurd (omega (arith, h));
    }

pub loop-step-preserved : goal.loop-step-preserved
loop-step-preserved c =
    let p = c.args.program.now in
    let moves = c.args.moves.now in
    let sched = c.args.schedule.now in
    let i = c.loop-step.invariant in
    let e = c.in_ok-moved.ensures in
    let k = c.loop-step.step-index in
    let h = c.loop-step-test.true in
    let was = c.loop-step.known.list.items in
    let now = c.follow.new.known.list.items in
    record {
      known = e.known;
      kept = grows-twice c.args.known.now.list.items was now i.kept e.kept;
      added = adds-twice (λ (k : KnownState). IsNextSchedule c.args.schedule.now k.schedule.items) c.args.known.now.list.items was now e.kept i.added e.added;
      there = λ t. absurd (true≢false (sym t));
      followed = below_one-more (WasFollowed p moves sched now) k (λ j hj. followed-grown p moves sched was now j e.kept (i.followed j hj)) (followed-at p moves sched now k first h e.all);
      on = λ t. or_goes c.loop-step.any c.in_ok-moved.moved (sym c.either-now.ensures ∙ t) i.on
          (λ m. record { step = get_or moves k first; among = (k, there-at moves k first h); new = (e.goes m).0; plays = (e.goes m).1 });
      none = λ f. below_one-more (StaysAt p moves sched) k (i.none (or_parts c.loop-step.any c.in_ok-moved.moved (sym c.either-now.ensures ∙ f)).0)
          (stays-at p moves sched k first h (e.stays (or_parts c.loop-step.any c.in_ok-moved.moved (sym c.either-now.ensures ∙ f)).1));
    }

pub returns : goal.returns
returns c =
    let i = c.loop-step.invariant in
    let b = c.loop-step-test.false in
    record {
      known = i.known;
      kept = i.kept;
      added = i.added;
      followed = λ k h. i.followed k (omega (arith, b, h));
      on = i.on;
      none = λ f k h. i.none f k (omega (arith, b, h));
    }

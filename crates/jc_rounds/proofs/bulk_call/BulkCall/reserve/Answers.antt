use Rattle.jc_rounds.proofs.Common.{◌≡◌, ap, arith, length}
use Rattle.jc_rounds.proofs.Loops.{no_items}
use Rattle.jc_rounds.proofs.OnCall.{advances_both, advances_itself}
use Rattle.jc_rounds.proofs.AskingRounds.{has_reserved, quiet_run}
use Rattle.jc_rounds.proofs.Whole.{nobody_asked}
use Rattle.jc_rounds.proofs.bulk_call.BulkCall.reserve.Goals as goal

pub loop-init : goal.loop-init
loop-init g c = record { advances = advances_itself c.args.session.now c.args.self.now; run = λ past run. run }

pub start-requires : goal.start-requires
start-requires g c = let r = c.requires.run in record { between = (r.0, (c.loop.invariant.run r.0 r.1).between) }

pub returns-then-len-gt0-clause-advances : goal.returns-then-len-gt0-clause-advances
returns-then-len-gt0-clause-advances g c = advances_both _ _ _ _ _ _ c.loop.invariant.advances c.start.ensures.advances

pub returns-then-len-gt0-clause-reserved : goal.returns-then-len-gt0-clause-reserved
returns-then-len-gt0-clause-reserved g c is past run =
    let now = c.loop.invariant.run past run in
    has_reserved c.args.cache.now past c.loop.session c.start.new.session c.loop.self c.start.new.self now (c.start.ensures.started past now.between) c.start.ensures.advances
    (λ none. let many : length c.start.new.self.tickets.items ≡ 0 = ap length none in absurd (omega (arith, many, c.if-len-gt0.true, c.len.ensures, c.start.new.self.tickets.ok.0)))

pub pick_up-requires : goal.pick_up-requires
pick_up-requires g c =
    let r = c.requires.run in
    let started = c.start.ensures.started r.0 (c.loop.invariant.run r.0 r.1).between in
    record { committed = (r.0, nobody_asked c.args.cache.now r.0 c.loop.session c.start.new.session c.start.new.self started (no_items c.start.new.self.tickets (omega (arith, c.if-len-gt0.false, c.len.ensures)))) }

pub wait-requires : goal.wait-requires
wait-requires g c =
    let r = c.requires.run in
    let started = c.start.ensures.started r.0 (c.loop.invariant.run r.0 r.1).between in
    (r.0, c.pick_up.ensures.between r.0 (nobody_asked c.args.cache.now r.0 c.loop.session c.start.new.session c.start.new.self started (no_items c.start.new.self.tickets (omega (arith, c.if-len-gt0.false, c.len.ensures)))))

pub returns-then-not-wait-clause-advances : goal.returns-then-not-wait-clause-advances
returns-then-not-wait-clause-advances g c = advances_both _ _ _ _ _ _ c.loop.invariant.advances (advances_both _ _ _ _ _ _ c.start.ensures.advances c.pick_up.ensures.advances)

pub returns-then-not-wait-clause-run : goal.returns-then-not-wait-clause-run
returns-then-not-wait-clause-run g c is past run =
    let now = c.loop.invariant.run past run in
    let started = c.start.ensures.started past now.between in
    let none = no_items c.start.new.self.tickets (omega (arith, c.if-len-gt0.false, c.len.ensures)) in
    quiet_run c.args.cache.now past c.loop.session c.start.new.session c.pick_up.new.session c.loop.self c.start.new.self c.pick_up.new.self now started c.start.ensures.advances none
    (c.pick_up.ensures.between past (nobody_asked c.args.cache.now past c.loop.session c.start.new.session c.start.new.self started none)) c.pick_up.ensures.advances

pub loop-preserved : goal.loop-preserved
loop-preserved g c = record {
  advances = advances_both _ _ _ _ _ _ c.loop.invariant.advances (advances_both _ _ _ _ _ _ c.start.ensures.advances c.pick_up.ensures.advances);
  run = λ past run.
      let now = c.loop.invariant.run past run in
      let started = c.start.ensures.started past now.between in
      let none = no_items c.start.new.self.tickets (omega (arith, c.if-len-gt0.false, c.len.ensures)) in
      quiet_run c.args.cache.now past c.loop.session c.start.new.session c.pick_up.new.session c.loop.self c.start.new.self c.pick_up.new.self now started c.start.ensures.advances none
      (c.pick_up.ensures.between past (nobody_asked c.args.cache.now past c.loop.session c.start.new.session c.start.new.self started none)) c.pick_up.ensures.advances;
}

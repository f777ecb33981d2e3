use Rattle.jc_cache.proofs.Common.{rules, ◌≡◌, ◌∙◌, ap, subst, View, Turn, waiting, waited_keeps}
use Rattle.jc_cache.specs.PhaseCalls.{SeatPhase}
use Rattle.jc_cache.proofs.SessionPhases.{seat_phase}
use Rattle.jc_cache.proofs.forgetting.lend_at.Goals as goal

pub lend-requires-clause-ready : goal.lend-requires-clause-ready
lend-requires-clause-ready g c = record { held = c.requires.seat.0; free = (c.requires.seat.1.at, c.requires.seat.1.free); speaks = c.requires.seat.1.session_is }

pub lend-requires-clause-fits : goal.lend-requires-clause-fits
lend-requires-clause-fits g c = record { who_is = c.requires.who; needs_it = λ a finds. c.requires.needs a }

pub returns-clause-lock : goal.returns-clause-lock
returns-clause-lock g c =
    let is : c.seat-1.given.0 ≡ c.lend.new.self.token.now = search rules in
    let turn : Turn = waiting (g.P.Phase.due c.args.phase) (g.P.Phase.puts_off c.args.phase) (λ a b. g.P.Phase.makes c.args.phase a c.lend.result c.lend.new.reply b) in
    ap (λ z. z.0) is
    ∙ (seat_phase c.one_lending.ensures c.args.agent.now.caller.session turn _ c.args.seat.now c.lend.new.self.gate.now c.lend.new.self.token.now c.requires.seat.1.session_is c.requires.seat.1.free (waited_keeps c.one_lending.ensures _ _ _) c.lend.ensures.phase.0).0

pub returns-clause-phase : goal.returns-clause-phase
returns-clause-phase g c =
    let is : c.lend.new.self.token.now ≡ c.seat-1.given.0 = search rules in
    let turn : Turn = waiting (g.P.Phase.due c.args.phase) (g.P.Phase.puts_off c.args.phase) (λ a b. g.P.Phase.makes c.args.phase a c.lend.result c.lend.new.reply b) in
    subst (λ (v : View). SeatPhase c.args.agent.now.caller.session c.args.seat.now.1 turn v) (ap (λ z. z.1) is)
    (seat_phase c.one_lending.ensures c.args.agent.now.caller.session turn _ c.args.seat.now c.lend.new.self.gate.now c.lend.new.self.token.now c.requires.seat.1.session_is c.requires.seat.1.free (waited_keeps c.one_lending.ensures _ _ _) c.lend.ensures.phase.0).2

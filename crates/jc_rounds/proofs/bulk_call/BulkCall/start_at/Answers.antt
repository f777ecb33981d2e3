use Rattle.jc_rounds.proofs.Common.{⊎_elim, inr, sym, ◌∙◌}
use Rattle.jc_rounds.proofs.Loops.{start_else, start_past}
use Rattle.jc_rounds.proofs.OnCall.{unnoted_itself}
use Rattle.jc_rounds.proofs.Underway.{there_by, waiting_there}
use Rattle.jc_rounds.proofs.bulk_call.BulkCall.start_at.Goals as goal

pub start_waiting-requires-clause-waits : goal.start_waiting-requires-clause-waits
start_waiting-requires-clause-waits g c =
    waiting_there _ _ _ c.requires.place c.index.ensures (sym c.waits_for_round.ensures ∙ c.if-waits_for_round.true)

pub returns-then-has_room-clause-starting : goal.returns-then-has_room-clause-starting
returns-then-has_room-clause-starting g c past starting =
    let s = c.start_waiting.ensures.starting past starting in
    (s.0, s.1, (λ key op p at there is. ⊎_elim (λ never. absurd never) (λ back. inr back) (s.2 key op p at there is)), s.3)

pub returns-else-has_room-clause-starting : goal.returns-else-has_room-clause-starting
returns-else-has_room-clause-starting g c past starting =
    start_else c.args.cache.now past c.args.session.now c.args.self.now c.args.place
    (waiting_there _ _ _ c.requires.place c.index.ensures (sym c.waits_for_round.ensures ∙ c.if-waits_for_round.true)) (c.has_room.ensures.full c.if-has_room.false) starting

pub returns-else-waits_for_round-clause-starting : goal.returns-else-waits_for_round-clause-starting
returns-else-waits_for_round-clause-starting g c past starting =
    start_past c.args.cache.now past c.args.session.now c.args.self.now c.args.place c.index.result.now
    (there_by c.args.self.now.progress.items c.args.place c.index.result.now c.requires.place c.index.ensures) (sym c.waits_for_round.ensures ∙ c.if-waits_for_round.false) starting

pub returns-else-has_room-clause-advances : goal.returns-else-has_room-clause-advances
returns-else-has_room-clause-advances g c = unnoted_itself c.args.session.now c.args.self.now

pub returns-else-waits_for_round-clause-advances : goal.returns-else-waits_for_round-clause-advances
returns-else-waits_for_round-clause-advances g c = unnoted_itself c.args.session.now c.args.self.now

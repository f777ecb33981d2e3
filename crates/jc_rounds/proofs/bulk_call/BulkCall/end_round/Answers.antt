use Rattle.jc_rounds.proofs.Common.{with_round}
use Rattle.jc_rounds.proofs.AskingRounds.{told_advances, told_call, told_run}
use Rattle.jc_rounds.proofs.bulk_call.BulkCall.end_round.Goals as goal

pub commit-spent-requires : goal.commit-spent-requires
commit-spent-requires g c =
    let r = c.requires.told in
    record { answered = (with_round r.0 r.1, r.1, told_call c.args.cache.now r.0 r.1 c.args.session.now c.args.self.now c.note.new.self c.args.answers c.args.fault r.2 c.note.ensures) }

pub pick_up-requires : goal.pick_up-requires
pick_up-requires g c =
    let r = c.requires.told in
    let past = with_round r.0 r.1 in
    record { committed = (past, c.commit-spent.ensures.committed past r.1 (told_call c.args.cache.now r.0 r.1 c.args.session.now c.args.self.now c.note.new.self c.args.answers c.args.fault r.2 c.note.ensures)) }

pub returns-clause-advances : goal.returns-clause-advances
returns-clause-advances g c =
    let r = c.requires.told in
    told_advances c.args.cache.now r.0 r.1 c.args.session.now c.args.self.now c.note.new.self c.args.answers c.args.fault r.2 c.note.ensures
    c.commit-spent.new.session c.pick_up.new.session c.commit-spent.new.self c.pick_up.new.self c.commit-spent.ensures.advances c.pick_up.ensures.advances

pub returns-clause-run : goal.returns-clause-run
returns-clause-run g c past round told =
    let now = with_round past round in
    told_run c.args.cache.now past round c.args.session.now c.args.self.now c.note.new.self c.args.answers c.args.fault told c.note.ensures
    c.commit-spent.new.session c.pick_up.new.session c.commit-spent.new.self c.pick_up.new.self c.commit-spent.ensures.advances c.pick_up.ensures.advances
    (c.pick_up.ensures.between now (c.commit-spent.ensures.committed now round (told_call c.args.cache.now past round c.args.session.now c.args.self.now c.note.new.self c.args.answers c.args.fault told c.note.ensures)))

pub returns-clause-spent : goal.returns-clause-spent
returns-clause-spent g c past round told =
    c.commit-spent.ensures.spent (with_round past round) round (told_call c.args.cache.now past round c.args.session.now c.args.self.now c.note.new.self c.args.answers c.args.fault told c.note.ensures)

use Rattle.jc_rounds.proofs.Common.{Ok, refl, reverse, Ended, Reserved}
use Rattle.jc_rounds.proofs.Loops.{commit_none, next_commit, no_items}
use Rattle.jc_rounds.proofs.OnCall.{committing_on, may_commit, near_in, unnoted_by}
use Rattle.jc_rounds.proofs.bulk_call.BulkCall.commit_at.Goals as goal

pub unreachable-requires : goal.unreachable-requires
unreachable-requires g c =
    let r = c.requires.answered in
    commit_none c.args.cache.now r.0 r.1 c.args.session.now c.args.self.now c.args.answers.now c.args.place
    c.requires.there (no_items c.args.self.now.tickets c.in-None.ensures.cases.0) r.2

pub commit_next-requires-clause-may : goal.commit_next-requires-clause-may
commit_next-requires-clause-may g c =
    let r = c.requires.answered in
    (may_commit c.args.cache.now r.0 c.args.session.now (record c.args.self.now { tickets = c.pop.new.self }) r.1 c.args.place c.in-Some.ticket (reverse c.pop.new.self.items) c.args.answers.now
    c.requires.there (next_commit c.args.cache.now r.0 r.1 c.args.session.now c.args.self.now c.pop.new.self c.in-Some.ticket c.args.answers.now c.args.place c.in-Some.ensures.items c.in-Some.ensures.capacity r.2)).0

pub commit_next-requires-clause-caller : goal.commit_next-requires-clause-caller
commit_next-requires-clause-caller g c =
    let r = c.requires.answered in
    (may_commit c.args.cache.now r.0 c.args.session.now (record c.args.self.now { tickets = c.pop.new.self }) r.1 c.args.place c.in-Some.ticket (reverse c.pop.new.self.items) c.args.answers.now
    c.requires.there (next_commit c.args.cache.now r.0 r.1 c.args.session.now c.args.self.now c.pop.new.self c.in-Some.ticket c.args.answers.now c.args.place c.in-Some.ensures.items c.in-Some.ensures.capacity r.2)).1

pub commit_next-requires-clause-answers : goal.commit_next-requires-clause-answers
commit_next-requires-clause-answers g c =
    let r = c.requires.answered in (r.1, _, (next_commit c.args.cache.now r.0 r.1 c.args.session.now c.args.self.now c.pop.new.self c.in-Some.ticket c.args.answers.now c.args.place c.in-Some.ensures.items c.in-Some.ensures.capacity r.2).answered)

pub index_mut-requires : goal.index_mut-requires
index_mut-requires g c = near_in c.args.self.now.progress c.args.place Reserved c.requires.there

pub returns-clause-advances : goal.returns-clause-advances
returns-clause-advances g c =
    let r = c.requires.answered in
    let next = next_commit c.args.cache.now r.0 r.1 c.args.session.now c.args.self.now c.pop.new.self c.in-Some.ticket c.args.answers.now c.args.place c.in-Some.ensures.items c.in-Some.ensures.capacity r.2 in
    unnoted_by c.args.cache.now r.0 c.args.session.now c.commit_next.new.session c.args.self.now _ (record { targets = refl; most = refl; cause = refl; tickets_room = c.in-Some.ensures.capacity; joins_room = refl })
    _ c.in-Some.ticket.reservation.key _ c.args.place Reserved (Ended (Ok c.commit_next.new.reply)) refl c.requires.there (λ e bad. cc) (λ bad. cc) (c.commit_next.ensures.told r.1 _ next.answered).1

pub returns-clause-committed : goal.returns-clause-committed
returns-clause-committed g c past round is =
    let next = next_commit c.args.cache.now past round c.args.session.now c.args.self.now c.pop.new.self c.in-Some.ticket c.args.answers.now c.args.place c.in-Some.ensures.items c.in-Some.ensures.capacity is in
    let told = c.commit_next.ensures.told round _ next.answered in
    committing_on c.args.cache.now past c.args.session.now c.commit_next.new.session (record c.args.self.now { tickets = c.pop.new.self }) _ (record { targets = refl; most = refl; cause = refl; tickets_room = refl; joins_room = refl })
    round c.args.place c.in-Some.ticket (reverse c.pop.new.self.items) c.commit_next.new.reply c.args.answers.now c.commit_next.new.self refl refl c.requires.there told.0 told.1 next

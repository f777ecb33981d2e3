use Rattle.jcache.proofs.Teams.{one_more}
use Rattle.jcache.proofs.threads.enlist.Goals as goal

pub returns-in_ok-push-in-Ok-clause-team : goal.returns-in_ok-push-in-Ok-clause-team
returns-in_ok-push-in-Ok-clause-team g c =
    let session = c.in-Ok.ensures.ok in
    one_more c.args.owner.now c.session.new.self _ _ _ session.owner session.may session.none c.in_ok-push-in-Ok.ensures.items c.requires.team

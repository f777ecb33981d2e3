use Rattle.jc_cache.proofs.Common.{subst, sym, arith, call_before, IsOf, MayCall}
use Rattle.jc_cache.proofs.Skipped.{skipped_may, skipped_of}
use Rattle.jc_cache.proofs.cache.Cache.skip_to.Goals as goal

pub returns-clause-own : goal.returns-clause-own
returns-clause-own g c =
    let session = c.args.session.now in
    subst (IsOf c.args.self.now) (sym c.skip_to.ensures.call)
    (skipped_of c.args.self.now session (call_before session.agent.caller.call c.args.n) c.requires.own)

pub returns-clause-may : goal.returns-clause-may
returns-clause-may g c may =
    let session = c.args.session.now in
    subst (MayCall c.args.self.now) (sym c.skip_to.ensures.call)
    (skipped_may c.args.self.now session (call_before session.agent.caller.call c.args.n) (omega arith) may)

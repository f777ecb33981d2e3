use Rattle.std.proofs.Common.{subst, sym}
use Rattle.jc_cache.specs.Caches.{CacheOwnerState}
use Rattle.jc_cache.specs.Closing.{HasEnded}
use Rattle.jc_client.specs.Clients.{IsServeRefusal}
use Rattle.jc_client.proofs.Served.{all_given, err_is, have_worked, not_enlisted, not_ended}
use Rattle.jc_client.proofs.serving.serve.Goals as goal

pub returns-in_err-sessions-clause-refused : goal.returns-in_err-sessions-clause-refused
returns-in_err-sessions-clause-refused g c = let told = not_enlisted c.args.config.now c.in_ok-owner.owner c.enlist_all.new.self c.args.outside.items _ c.in_ok-owner.ensures.ok c.in_err-sessions.ensures.err in
    err_is c.from_residual-in_err-sessions.result _ _ (λ refusal is. subst (IsServeRefusal c.args.config.now c.args.outside.items) (sym is) told) c.from_residual-in_err-sessions.ensures.1

pub returns-in-Ok-end-clause-served : goal.returns-in-Ok-end-clause-served
returns-in-Ok-end-clause-served g c = record {
  opened = c.in_ok-owner.owner;
  opens = c.in_ok-owner.ensures.ok;
  ended = subst (λ (owner : CacheOwnerState). HasEnded owner c.in-Ok-end.closed.stripes.items c.in-Ok-end.closed.outside.items c.in-Ok-end.closed.seats.items c.in-Ok-end.closed.legal) (all_given c.args.config.now c.in_ok-owner.owner c.enlist_all.new.self c.args.outside.items _ c.in_ok-owner.ensures.ok c.in_ok-sessions.ensures.ok) c.in-Ok-end.ensures.ok;
  each = have_worked _ c.args.config.now c.in_ok-owner.owner c.enlist_all.new.self c.args.outside.items _ _ _ c.in_ok-owner.ensures.ok c.in_ok-sessions.ensures.ok c.in-Ok.ensures.sessions c.in-Ok-work_all.ensures.each;
}

pub returns-in-Err-clause-refused : goal.returns-in-Err-clause-refused
returns-in-Err-clause-refused g c = not_ended c.args.config.now c.in_ok-owner.owner c.enlist_all.new.self c.in-Err.fault.owner c.args.outside.items _ _ c.in_ok-owner.ensures.ok c.in_ok-sessions.ensures.ok c.in-Err.ensures.err.why

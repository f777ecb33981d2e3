use Rattle.jc_cache.proofs.Common.{ap, refl, subst, sym, begun_with, BeginsIfClear, StartsAt, StartWaits}
use Rattle.jc_engine.specs.declared.first.BeginCall.{BeginCall}
use Rattle.jc_cache.proofs.SessionPhases.{start_needs, phase_map}
use Rattle.jc_cache.proofs.cache.Cache.start.Goals as goal

pub phase_at-requires-clause-who : goal.phase_at-requires-clause-who
phase_at-requires-clause-who g c = ap (λ first. first.caller.session) c.of-first.ensures

pub phase_at-requires-clause-needs : goal.phase_at-requires-clause-needs
phase_at-requires-clause-needs g c a found =
    subst (λ (p : BeginCall). BeginsIfClear p.caller p.key.now a) (sym c.of-first.ensures)
    (start_needs c.args.self.now c.args.session.now c.args.session.now.agent.caller c.args.key.now c.stripe_of-at.result found.0 a c.requires.own c.requires.may refl
    c.stripe_of-at.ensures.at found.1 found.2)

pub returns : goal.returns
returns g c =
    phase_map c.args.self.now _ c.stripe_of-at.result c.args.session.now _ _ _ _ c.stripe_of-at.ensures.at
    (λ a b m. subst (λ (p : BeginCall). StartWaits p.how p.caller p.key.now p.op.now a b) c.of-first.ensures m)
    (λ a b m. subst (λ (p : BeginCall). StartsAt p.caller p.key.now p.op.now (begun_with c.phase_at.result c.phase_at.new.reply) a b) c.of-first.ensures m.first)
    c.phase_at.ensures

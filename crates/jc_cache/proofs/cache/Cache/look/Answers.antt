use Rattle.jc_cache.proofs.Common.{◌≡◌, ◌+◌, ◌≤◌, ap, inl, refl, subst, sym, ◌∙◌, ℕ, vec_len, vec_capacity, Config, State, Turn, looking, CacheState}
use Rattle.jc_stripe.specs.Keys.{Looks}
use Rattle.jc_session.specs.declared.counts.Counted.TheVariants.{Nothing}
use Rattle.jc_cache.proofs.WholeCalls.{free_at}
use Rattle.jc_cache.proofs.SessionPhases.{look_lent, number_at, shape_found, agent_same, holds_one, phase_left}
use Rattle.jc_cache.proofs.cache.Cache.look.Goals as goal

pub take-stripe-requires : goal.take-stripe-requires
take-stripe-requires g c =
    let t = c.index_mut-seat.result.now in
    let there = number_at c.args.self.now c.args.session.now c.args.number t c.requires.own c.requires.stripe c.index_mut-seat.ensures.value in
    (c.requires.own.held, free_at c.args.self.now c.args.session.now c.self.inside.locks.items c.args.number t c.index.result.now c.requires.own (ap (λ (z : CacheState). z.locks) c.self.view_is) there c.index.ensures)

pub keys-requires : goal.keys-requires
keys-requires g c =
    let t = c.index_mut-seat.result.now in
    let there = number_at c.args.self.now c.args.session.now c.args.number t c.requires.own c.requires.stripe c.index_mut-seat.ensures.value in
    let shape = shape_found c.args.self.now c.args.session.now c.args.number t c.take-stripe.result.value c.requires.own there c.take-stripe.ensures.found.0 in
    let capacity : c.deref.result.now.config.capacity ≡ c.args.self.now.config.capacity = ap (λ (s : State). s.config.capacity) c.deref.ensures ∙ ap (λ (k : Config). k.capacity) shape in
    subst (λ (n : ℕ). vec_len c.args.out.now + n ≤ vec_capacity c.args.out.now) (sym capacity) c.requires.room

pub give-requires-clause-held : goal.give-requires-clause-held
give-requires-clause-held g c =
    let t = c.index_mut-seat.result.now in
    let there = number_at c.args.self.now c.args.session.now c.args.number t c.requires.own c.requires.stripe c.index_mut-seat.ensures.value in
    holds_one c.args.session.now.agent c.take-stripe.new.self c.take-stripe.new.token c.take-stripe.ensures.agent (c.take-stripe.ensures.speaks _ (c.requires.own.seats c.args.number t there).of_session)

pub give-requires-clause-phase : goal.give-requires-clause-phase
give-requires-clause-phase g c = (c.take-stripe.result.value, c.take-stripe.ensures.taken, inl (refl, refl))

pub returns-clause-room : goal.returns-clause-room
returns-clause-room g c =
    let t = c.index_mut-seat.result.now in
    let there = number_at c.args.self.now c.args.session.now c.args.number t c.requires.own c.requires.stripe c.index_mut-seat.ensures.value in
    let shape = shape_found c.args.self.now c.args.session.now c.args.number t c.take-stripe.result.value c.requires.own there c.take-stripe.ensures.found.0 in
    let capacity : c.deref.result.now.config.capacity ≡ c.args.self.now.config.capacity = ap (λ (s : State). s.config.capacity) c.deref.ensures ∙ ap (λ (k : Config). k.capacity) shape in
    (subst (λ (n : ℕ). vec_len c.keys.new.out ≤ vec_len c.args.out.now + n) capacity c.keys.ensures.few, c.keys.ensures.capacity)

pub returns-clause-phase : goal.returns-clause-phase
returns-clause-phase g c = let old = c.args.session.now in
    let t = c.index_mut-seat.result.now in let a : State = c.take-stripe.result.value in
    let there = number_at c.args.self.now old c.args.number t c.requires.own c.requires.stripe c.index_mut-seat.ensures.value in
    let turn : Turn = looking c.args.out.now.items c.keys.new.out.items in
    let looks : Looks a c.args.out.now.items c.keys.new.out.items = subst (λ (s : State). Looks s c.args.out.now.items c.keys.new.out.items) c.deref.ensures c.keys.ensures.keys in
    let lent = look_lent old.agent.caller.session turn c.take-stripe.new.gate t a c.take-stripe.new.gate c.take-stripe.new.token c.give.new.gate c.give.new.token (c.requires.own.seats c.args.number t there).of_session
    c.take-stripe.ensures.takes c.take-stripe.ensures.found.1 c.give.ensures.gives c.give.ensures.next (refl, looks) in
    phase_left c.one_lending.ensures c.args.self.now old _ c.args.number Nothing turn c.take-stripe.new.gate t c.give.new.gate c.give.new.token c.requires.own there refl
    (agent_same old.agent c.take-stripe.new.self c.give.new.self c.requires.own.held c.take-stripe.ensures.agent c.give.ensures.agent) (λ a b none. absurd none) lent.0 lent.1

use Rattle.jc_cache.proofs.Common.{◌++◌, is_some, map, rules, sym, ap, ◌∙◌, session_view, CacheOwnerState, noted_by, fronts_of, logs_of, session_refusal}
use Rattle.jc_cache.proofs.Rows.{Seated}
use Rattle.jc_cache.proofs.NewSessions.{whole_after, given_one, may_give, begins_at, may_fresh}
use Rattle.jc_cache.proofs.owner.CacheOwner.give_out.Goals as goal

pub invariant_of-self : goal.invariant_of-self
invariant_of-self g c = let in_it = c.self.inside in
    let owner : CacheOwnerState = record { cache = in_it.cache; given = in_it.given; noted = noted_by in_it.seats.items; fronts = fronts_of in_it.seats.items; logs = logs_of in_it.seats.items } in
    let room = (may_give owner (is_some c.args.loader) (is_some c.args.writer) (ap (λ s. session_refusal s (is_some c.args.loader) (is_some c.args.writer)) c.self.view_is ∙ c.requires.refused)).0 in
    whole_after in_it.cache.config in_it.given in_it.cache.locks in_it.seats.items c.split.new.own.items room c.self.invariant c.split.ensures.own

pub returns : goal.returns
returns g c = let in_it = c.self.inside in
    let owner : CacheOwnerState = record { cache = in_it.cache; given = in_it.given; noted = noted_by in_it.seats.items; fronts = fronts_of in_it.seats.items; logs = logs_of in_it.seats.items } in
    let may = may_give owner (is_some c.args.loader) (is_some c.args.writer) (ap (λ s. session_refusal s (is_some c.args.loader) (is_some c.args.writer)) c.self.view_is ∙ c.requires.refused) in
    let made = c.new-agent.ensures in
    let seats = c.split.ensures.seats ∙ ap (λ xs. xs ++ map (λ (seat : Seated). (seat.0, session_view seat.1)) in_it.seats.items) c.requires.empty in
    record {
      fits = c.requires.refused;
      owner = given_one c.args.self.now in_it.cache in_it.given in_it.seats.items c.split.new.own.items c.self.view_is c.split.ensures.own;
      caller = search rules;
      boxes = ap (λ a. a.hands.outside) made;
      may = may_fresh in_it.cache in_it.given in_it.seats.items _ c.self.invariant seats (ap (λ a. a.caller) made) (ap (λ a. a.counts) made) (ap (λ a. a.hands.held) made) (λ on. ap (λ a. is_some a.hands.outside.loader) made ∙ may.1 on)
          (λ on. ap (λ a. is_some a.hands.outside.writer) made ∙ may.2 on);
      none = ap (λ a. a.counts.own) made;
      begins = begins_at c.args.self.now in_it.seats.items _ (sym (ap (λ (o : CacheOwnerState). o.noted) c.self.view_is)) (sym (ap (λ (o : CacheOwnerState). o.fronts) c.self.view_is)) seats;
    }

use Rattle.jc_cache.proofs.Common.{◌∙◌, ap, refl, sym, CacheState}
use Rattle.jc_cache.proofs.Meetings.{teller_may, hearer_may}
use Rattle.jc_cache.proofs.cache.Cache.meet.Goals as goal

pub tell_each-requires-clause-hearers : goal.tell_each-requires-clause-hearers
tell_each-requires-clause-hearers g c =
    let own = c.requires.hearer.own in (
      c.args.hearer.now.agent.caller.session,
      (
        own.locks ∙ sym (ap (λ (z : CacheState). z.locks) c.self.view_is) ∙ sym c.deref.ensures.value,
        λ i seat there. record { at = refl; session_is = (own.seats i seat there).of_session; free = (own.seats i seat there).free },
      ),
    )

pub returns : goal.returns
returns g c =
    let tells = c.tell_each.ensures in
    record {
      teller = teller_may c.args.self.now _ _ _ _ c.requires.teller c.requires.hearer tells.agent tells.tellers tells.hearers tells.told;
      hearer = hearer_may c.args.self.now _ _ _ _ c.requires.teller c.requires.hearer refl tells.tellers tells.hearers tells.told;
      met = record { each = tells.told; teller_stays = tells.agent; hearer_stays = refl };
    }

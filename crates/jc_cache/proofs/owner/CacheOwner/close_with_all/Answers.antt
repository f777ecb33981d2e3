use Rattle.jc_cache.proofs.Common.{List, Some, ◌∙◌, refl, sym, ap, length, rules, subst, CacheOwnerState, Log, logs_of, AreIdle, Whatever}
use Rattle.jc_cache.proofs.Rows.{length_locks}
use Rattle.jc_cache.proofs.ClosingSeats.{keep_on, keep_locks, keep_length, looked_somehow}
use Rattle.jc_cache.proofs.ClosedCache.{all_free, whole_again, closed, back, gave_none, taken_as, taken_over, why}
use Rattle.jc_cache.proofs.owner.CacheOwner.close_with_all.Goals as goal

pub take_stripes-requires : goal.take_stripes-requires
take_stripes-requires g c = record { locks = search rules; taken = all_free _ _ _ _ c.self.invariant }

pub join_all-requires-clause-own : goal.join_all-requires-clause-own
join_all-requires-clause-own g c = record { locks = keep_locks _ _ _ c.take_stripes.ensures.keeps ∙ c.self.invariant.own ∙ sym c.locks-in-Ok.ensures.locks; taken = search rules }

pub join_all-requires-clause-count : goal.join_all-requires-clause-count
join_all-requires-clause-count g c =
    let rows = keep_locks _ _ _ c.take_stripes.ensures.keeps ∙ c.self.invariant.own ∙ sym c.locks-in-Ok.ensures.locks in
    ap length c.deref.ensures.value ∙ c.in-Ok.ensures.ok.1 ∙ length_locks _ _ rows

pub invariant_of-result : goal.invariant_of-result
invariant_of-result g c = whole_again _ _ _ _ _ _ c.self.invariant c.take_stripes.ensures.keeps c.in-Err.ensures.err.0

pub returns-in-Ok-clause-ok : goal.returns-in-Ok-clause-ok
returns-in-Ok-clause-ok g c =
    let stripes = c.deref.ensures.value in
    let all = c.requires.all ∙ sym (ap (λ (owner : CacheOwnerState). owner.given) c.self.view_is) in
    record {
      closed = rw (← c.self.view_is) (closed _ _ _ _ _ _ c.is_legal.ensures c.self.invariant refl (keep_on _ _ _ _ (looked_somehow _ _ c.take_stripes.ensures.keeps) c.join_all.ensures.own.keeps)
          (rw (← stripes) c.join_all.ensures.own.taken) (c.in-Ok.ensures.ok.1 ∙ sym (keep_length _ _ _ c.join_all.ensures.own.keeps)) all (rw (← stripes) c.join_all.ensures.fronts));
      taken = taken_as _ _ (rw (← stripes) c.join_all.ensures.own.taken) (c.in-Ok.ensures.ok.1 ∙ sym (keep_length _ _ _ c.join_all.ensures.own.keeps));
      gave_none = λ i seat at. gave_none Whatever _ _ _ _ _ c.self.invariant (keep_on _ _ _ _ (looked_somehow _ _ c.take_stripes.ensures.keeps) c.join_all.ensures.own.keeps) i seat at ∙ ap (λ (o : CacheOwnerState). Some o.given) c.self.view_is;
      lent = taken_over c.args.sessions.items c.args.self.logs _ _ (subst (λ (logs : List Log). AreIdle logs (logs_of c.take_stripes.new.own.items)) (ap (λ (o : CacheOwnerState). o.logs) c.self.view_is) c.in-Ok.ensures.ok.2) c.join_all.ensures.own.keeps c.join_all.ensures.handed;
      outside = search rules;
      legal = refl;
    }

pub returns-in-Err-clause-err : goal.returns-in-Err-clause-err
returns-in-Err-clause-err g c =
    let all = c.requires.all ∙ sym (ap (λ (owner : CacheOwnerState). owner.given) c.self.view_is) in
    record {
      why = why c.args.self _ _ _ c.self.inside.seats.items c.take_stripes.new.own.items c.requires.all (sym (ap (λ (o : CacheOwnerState). o.logs) c.self.view_is)) refl c.in-Err.ensures.err.1;
      back = rw (← c.self.view_is) (back _ _ c.self.inside.seats.items c.take_stripes.new.own.items refl refl refl refl refl refl refl refl c.take_stripes.ensures.keeps, refl);
    }

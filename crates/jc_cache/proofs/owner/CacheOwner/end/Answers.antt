use Rattle.jc_cache.proofs.Common.{List, Some, ap, refl, rules, subst, sym, ◌∙◌, AreIdle, CacheOwnerState, Log, fronts_of, logs_of, noted_by}
use Rattle.jc_cache.proofs.ClosedCache.{all_free, whole_again, ended, back, gave_none, taken_as, why_ended}
use Rattle.jc_cache.proofs.owner.CacheOwner.end.Goals as goal

pub take_stripes-requires : goal.take_stripes-requires
take_stripes-requires g c = record { locks = search rules; taken = all_free _ _ _ _ c.self.invariant }

pub invariant_of-result : goal.invariant_of-result
invariant_of-result g c = whole_again _ _ _ _ _ _ c.self.invariant c.take_stripes.ensures.keeps c.in-Err.ensures.err.0

pub returns-in-Ok-clause-ok : goal.returns-in-Ok-clause-ok
returns-in-Ok-clause-ok g c = record {
  closed = rw (← c.self.view_is) (ended _ _ _ _ _ c.is_legal.ensures c.self.invariant refl c.take_stripes.ensures.keeps c.in-Ok.ensures.ok.0 c.in-Ok.ensures.ok.1);
  outside = search rules;
  looked = subst (λ (logs : List Log). AreIdle logs (logs_of c.take_stripes.new.own.items)) (ap (λ (o : CacheOwnerState). o.logs) c.self.view_is) c.in-Ok.ensures.ok.2;
  taken = taken_as _ _ c.in-Ok.ensures.ok.0 c.in-Ok.ensures.ok.1;
  gave_none = λ i seat at. gave_none _ _ _ _ _ _ c.self.invariant c.take_stripes.ensures.keeps i seat at ∙ ap (λ (o : CacheOwnerState). Some o.given) c.self.view_is;
  legal = refl;
}

pub returns-in-Err-clause-err : goal.returns-in-Err-clause-err
returns-in-Err-clause-err g c = record {
  why = why_ended c.args.self (record { cache = c.self.inside.cache; given = c.self.inside.given; noted = noted_by c.take_stripes.new.own.items; fronts = fronts_of c.take_stripes.new.own.items; logs = logs_of c.take_stripes.new.own.items }) _ c.self.inside.seats.items c.take_stripes.new.own.items (sym (ap (λ (o : CacheOwnerState). o.logs) c.self.view_is)) refl c.in-Err.ensures.err.1;
  back = rw (← c.self.view_is) (back _ _ c.self.inside.seats.items c.take_stripes.new.own.items refl refl refl refl refl refl refl refl c.take_stripes.ensures.keeps, c.new.ensures.items);
}

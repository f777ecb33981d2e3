use Rattle.jc_cache.proofs.Common.{List, ◌∙◌, rules, subst, sym, Log, logs_of, AreIdle}
use Rattle.jc_cache.proofs.Noted.{refusal_since}
use Rattle.jc_cache.proofs.ClosingSeats.{keep_on, keep_locks}
use Rattle.jc_cache.proofs.closing.take_stripes.Goals as goal

pub take_all-requires-clause-own : goal.take_all-requires-clause-own
take_all-requires-clause-own g c = record { locks = keep_locks _ _ _ c.test_all_idle.ensures.own.keeps ∙ c.requires.locks; taken = c.test_all_idle.ensures.own.taken }

pub returns-in_err-stripes-clause-keeps : goal.returns-in_err-stripes-clause-keeps
returns-in_err-stripes-clause-keeps g c = keep_on _ _ _ _ c.test_all_idle.ensures.own.keeps c.take_all.ensures.keeps

pub returns-clause-keeps : goal.returns-clause-keeps
returns-clause-keeps g c = keep_on _ _ _ _ c.test_all_idle.ensures.own.keeps c.take_all.ensures.keeps

pub returns-in_err-stripes-clause-err : goal.returns-in_err-stripes-clause-err
returns-in_err-stripes-clause-err g c = search (rules, refusal_since _ _ _ _ c.test_all_idle.ensures.own.keeps c.in_err-stripes.ensures.err.1)

pub returns-clause-ok : goal.returns-clause-ok
returns-clause-ok g c =
    let ok = c.in_ok-stripes.ensures.ok in
    (ok.0, ok.1, subst (λ (logs : List Log). AreIdle (logs_of c.args.own.now.items) logs) (sym ok.2) c.in_ok-test_all_idle.ensures.ok)

use Rattle.jc_cache.proofs.Common.{◌∙◌, ◌<◌, ℕ, ap, arith, refl, subst, sym, IsSessionSeat}
use Rattle.jc_cache.proofs.Rows.{length_locks}
use Rattle.jc_cache.proofs.Meetings.{there_row, row_set, rest_set, tell_next, tell_all}
use Rattle.jc_cache.proofs.meeting.tell_each.Goals as goal

pub loop-i-init : goal.loop-i-init
loop-i-init g c = record {
  agent = refl;
  tellers = record { locks = refl; total = refl };
  hearers = record { locks = refl; total = refl };
  teller_rest = λ i le. refl;
  hearer_rest = λ i le. refl;
  told = λ i a b a' b' near. absurd (omega arith);
}

pub bounds-locks-i : goal.bounds-locks-i
bounds-locks-i g c = c.loop-i-test.true

pub index_mut-requires : goal.index_mut-requires
index_mut-requires g c =
    subst (λ (n : ℕ). c.loop-i.i < n) (sym (c.loop-i.tellers.ok.0 ∙ length_locks _ _ (c.loop-i.invariant.tellers.locks ∙ c.requires.tellers.1.0))) c.loop-i-test.true

pub index_mut-requires-in-loop-i : goal.index_mut-requires-in-loop-i
index_mut-requires-in-loop-i g c =
    subst (λ (n : ℕ). c.loop-i.i < n) (sym (c.loop-i.hearers.ok.0 ∙ length_locks _ _ (c.loop-i.invariant.hearers.locks ∙ c.requires.hearers.1.0))) c.loop-i-test.true

pub tell_at-requires-clause-teller : goal.tell_at-requires-clause-teller
tell_at-requires-clause-teller g c =
    let i = c.loop-i.invariant in (
      ap (λ a. a.hands.held) i.agent ∙ c.requires.tellers.0,
      subst (λ a. IsSessionSeat c.index-locks-i.result a.caller.session c.index_mut.result.now) (sym i.agent) (there_row _ _ _ c.loop-i.i _ _ _ c.requires.tellers.1 i.tellers i.teller_rest c.loop-i-test.true c.index_mut.ensures.value c.index-locks-i.is).1,
    )

pub tell_at-requires-clause-hearer : goal.tell_at-requires-clause-hearer
tell_at-requires-clause-hearer g c =
    let i = c.loop-i.invariant in
    (c.requires.hearers.0, (there_row _ _ _ c.loop-i.i _ _ _ c.requires.hearers.1 i.hearers i.hearer_rest c.loop-i-test.true c.index_mut-in-loop-i.ensures.value c.index-locks-i.is).1)

pub loop-i-preserved : goal.loop-i-preserved
loop-i-preserved g c =
    let i = c.loop-i.invariant in
    let tells = c.tell_at.ensures in
    let a = (there_row _ _ _ c.loop-i.i _ _ _ c.requires.tellers.1 i.tellers i.teller_rest c.loop-i-test.true c.index_mut.ensures.value c.index-locks-i.is).0 in
    let b = (there_row _ _ _ c.loop-i.i _ _ _ c.requires.hearers.1 i.hearers i.hearer_rest c.loop-i-test.true c.index_mut-in-loop-i.ensures.value c.index-locks-i.is).0 in
    record {
      agent = tells.agent ∙ i.agent;
      tellers = row_set _ _ c.loop-i.i _ _ i.tellers a tells.locks.0 tells.told.teller_on;
      hearers = row_set _ _ c.loop-i.i _ _ i.hearers b tells.locks.1 tells.told.hearer_on;
      teller_rest = rest_set _ _ c.loop-i.i _ i.teller_rest;
      hearer_rest = rest_set _ _ c.loop-i.i _ i.hearer_rest;
      told = tell_next _ _ _ _ c.loop-i.i _ _ _ _ a b i.teller_rest i.hearer_rest tells.told i.told;
    }

pub returns-clause-agent : goal.returns-clause-agent
returns-clause-agent g c = c.loop-i.invariant.agent

pub returns-clause-tellers : goal.returns-clause-tellers
returns-clause-tellers g c = c.loop-i.invariant.tellers

pub returns-clause-hearers : goal.returns-clause-hearers
returns-clause-hearers g c = c.loop-i.invariant.hearers

pub returns-clause-told : goal.returns-clause-told
returns-clause-told g c =
    tell_all c.args.tellers.now.items _ _ _ c.loop-i.i c.args.locks.now (length_locks _ _ c.requires.tellers.1.0) c.loop-i-test.false c.loop-i.invariant.told

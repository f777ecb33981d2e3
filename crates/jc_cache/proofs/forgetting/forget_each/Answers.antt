use Rattle.jc_cache.proofs.Common.{◌∙◌, ◌<◌, ℕ, ap, arith, refl, subst, sym, IsSessionSeat}
use Rattle.jc_cache.specs.Forgetting.{HasForgottenAll}
use Rattle.jc_cache.proofs.Rows.{length_locks}
use Rattle.jc_cache.proofs.Meetings.{there_row, row_set, rest_set}
use Rattle.jc_cache.proofs.Readings.{done_next, done_all}
use Rattle.jc_cache.proofs.forgetting.forget_each.Goals as goal

pub loop-i-init : goal.loop-i-init
loop-i-init g c = record {
  agent = refl;
  keeps = record { locks = refl; total = refl };
  rest = λ i le. refl;
  forgot = λ i a b near. absurd (omega arith);
}

pub bounds-locks-i : goal.bounds-locks-i
bounds-locks-i g c = c.loop-i-test.true

pub index_mut-requires : goal.index_mut-requires
index_mut-requires g c =
    subst (λ (n : ℕ). c.loop-i.i < n) (sym (c.loop-i.seats.ok.0 ∙ length_locks _ _ (c.loop-i.invariant.keeps.locks ∙ c.requires.1.0))) c.loop-i-test.true

pub forget_all_at-requires : goal.forget_all_at-requires
forget_all_at-requires g c =
    let i = c.loop-i.invariant in (
      ap (λ a. a.hands.held) i.agent ∙ c.requires.0,
      subst (λ a. IsSessionSeat c.index-locks-i.result a.caller.session c.index_mut.result.now) (sym i.agent) (there_row _ _ _ c.loop-i.i _ _ _ c.requires.1 i.keeps i.rest c.loop-i-test.true c.index_mut.ensures.value c.index-locks-i.is).1,
    )

pub loop-i-preserved : goal.loop-i-preserved
loop-i-preserved g c =
    let i = c.loop-i.invariant in
    let forgets = c.forget_all_at.ensures in
    let at = (there_row _ _ _ c.loop-i.i _ _ _ c.requires.1 i.keeps i.rest c.loop-i-test.true c.index_mut.ensures.value c.index-locks-i.is).0 in
    record {
      agent = forgets.agent ∙ i.agent;
      keeps = row_set _ _ c.loop-i.i _ _ i.keeps at forgets.lock forgets.forgets.on;
      rest = rest_set _ _ c.loop-i.i _ i.rest;
      forgot = done_next HasForgottenAll _ _ c.loop-i.i _ _ at i.rest forgets.forgets i.forgot;
    }

pub returns-clause-agent : goal.returns-clause-agent
returns-clause-agent g c = c.loop-i.invariant.agent

pub returns-clause-keeps : goal.returns-clause-keeps
returns-clause-keeps g c = c.loop-i.invariant.keeps

pub returns-clause-forgets : goal.returns-clause-forgets
returns-clause-forgets g c =
    done_all HasForgottenAll c.args.seats.now.items _ c.loop-i.i c.args.locks.now (length_locks _ _ c.requires.1.0) c.loop-i-test.false c.loop-i.invariant.forgot

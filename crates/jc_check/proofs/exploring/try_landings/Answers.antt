use Rattle.std.proofs.Common.{◌≡◌, ◌+◌, ◌++◌, ◌∷◌, [], ℕ, List, ap, subst, sym, take, ◌∙◌, arith}
use Rattle.std.proofs.lemmas.List.{take_more}
use Rattle.jc_check.specs.Exploring.{Covers, CoversLandings}
use Rattle.jc_check.proofs.Covering.{more-landings, taken-all}
use Rattle.jc_check.proofs.Known.{grows-more, grows-not}
use Rattle.jc_check.proofs.exploring.try_landings.Goals as goal

pub loop-at-init : goal.loop-at-init
loop-at-init c = (c.requires.known, grows-not c.args.states.now, λ n at k has. absurd (omega (arith, has.2)))

pub loop-at-preserved : goal.loop-at-preserved
loop-at-preserved c =
    let landable = c.args.survey.now.landable.items in
    let more : take (c.loop-at.at + 1) landable ≡ take c.loop-at.at landable ++ c.index-call.result.now ∷ [] =
    take_more landable c.loop-at.at c.index-call.result.now (omega (arith, c.loop-at-test.true, c.len-at-end.ensures))
    ∙ ap (λ (k : ℕ). take c.loop-at.at landable ++ k ∷ []) (sym c.index-call.ensures) in (
      c.in_ok-try_turn.ensures.known,
      grows-more c.args.states.now c.loop-at.states c.try_turn.new.states c.loop-at.invariant.1 c.in_ok-try_turn.ensures.grows,
      λ n at. subst (λ (some : List ℕ). CoversLandings c.args.rules.now c.args.calls.now c.try_turn.new.states some n) (sym more)
          (more-landings c.args.rules.now c.args.calls.now c.args.place (take c.loop-at.at landable) c.index-call.result.now c.args.states.now c.loop-at.states
          c.try_turn.new.states c.loop-at.invariant.1 c.in_ok-try_turn.ensures.grows c.loop-at.invariant.2
          (λ m there. subst (Covers c.args.rules.now c.args.calls.now c.try_turn.new.states m) c.turn_of-turn.ensures
          (c.in_ok-try_turn.ensures.covers m there)) n at),
    )

pub returns-clause-covers : goal.returns-clause-covers
returns-clause-covers c n at =
    subst (λ (some : List ℕ). CoversLandings c.args.rules.now c.args.calls.now c.loop-at.states some n)
    (taken-all c.loop-at.at c.args.survey.now.landable.items (omega (arith, c.loop-at-test.false, c.len-at-end.ensures))) (c.loop-at.invariant.2 n at)

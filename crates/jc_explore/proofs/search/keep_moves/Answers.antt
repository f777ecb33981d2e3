use Rattle.jc_explore.proofs.Common.{◌≡◌, ◌<◌, ◌+◌, ℕ, List, true, sym, subst, get_or, arith, slice_get_within, Begin, Move, have_sessions, scene_state}
use Rattle.jc_explore.proofs.Searching.{KeptAt, below_one-more, kept-at, kept-grown, kept-sessions, session-at, there-at}
use Rattle.jc_explore.proofs.search.keep_moves.Goals as goal

-- where an index is out of range
abbrev first : Move
first = record { thread = 0; act = Begin }

pub loop-step-preserved : goal.loop-step-preserved
loop-step-preserved c =
    let p = c.args.program.now in
    let s = scene_state c.args.scene.now in
    let moves = c.args.moves.now in
    let k = c.loop-step.step-index in
    let h = c.loop-step-test.true in
    let was = c.loop-step.kept.items in
    let i = c.loop-step.invariant in
    let may = c.in_ok-may.may in
    let is = sym c.in_ok-keep_if.ensures in
    record {
      each = subst (λ (ks : List Move). (j : ℕ) → j < k + 1 → KeptAt p s moves ks j) is
          (below_one-more (KeptAt p s moves _) k (λ j hj. kept-grown p s moves was may (get_or moves k first) j (i.each j hj))
          (kept-at p s moves was may k first h c.in_ok-may.ensures));
      sessions = subst (λ (ks : List Move). have_sessions ks ≡ true) is
          (kept-sessions may (get_or moves k first) was i.sessions (session-at moves k (get_or moves k first) (there-at moves k first h) c.requires));
    }

pub returns : goal.returns
returns c =
    let i = c.loop-step.invariant in
    let b = c.loop-step-test.false in
    record {
      each = λ m new among one. i.each among.0 (let h = slice_get_within c.args.moves.now among.0 m among.1 in omega (arith, b, h)) m among.1 new one;
      sessions = i.sessions;
    }

use Rattle.std.proofs.Common.{◌<◌, ◌≤◌, All, vec_len, vec_capacity, sym, subst}
use Rattle.jc_memory_tests.specs.declared.tests.refused.parts.Tally.{Tally}
use Rattle.jc_pool.specs.Shares.{CanDoAll}
use Rattle.jc_memory_tests.proofs.tests.refused.parts.share.Goals as goal

pub run_pieces-requires-clause-able : goal.run_pieces-requires-clause-able
run_pieces-requires-clause-able g c κs within =
    let P : Tally → Type 0 = CanDoAll (λ t piece. (vec_len t.done ≤ piece) × (piece < vec_capacity t.done)) c.args.pieces in
    subst (All P) (sym c.as_mut_slice.ensures.value) c.team-team.ensures.able

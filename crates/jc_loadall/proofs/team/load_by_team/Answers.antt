use Rattle.jc_loadall.proofs.Common.{◌≡◌, ◌==◌, List, Option, All, length, sym, ap, subst, ◌∙◌, arith, rules, IsDistinct, flat_map, pointwise, Refusal, Bytes, TellsDone, Worker, all_noted, first_noted, result_in, piece_count, AreLoadedBy, IsIdleWorker}
use Rattle.jc_loadall.proofs.JoinedNotes.{none_told}
use Rattle.jc_loadall.proofs.TeamWork.{able_all, front, team_loaded}
use Rattle.jc_loadall.proofs.team.load_by_team.Goals as goal

pub run_pieces_with-requires-clause-able : goal.run_pieces_with-requires-clause-able
run_pieces_with-requires-clause-able g c κs within =
    able_all g.F.Fn c.args.load.now c.as_slice.result.now c.piece_count-pieces.result c.as_mut_slice.result.now c.args.tools.now (search rules)
    (subst (All (IsIdleWorker c.args.load.now c.as_slice.result.now c.piece_count-pieces.result)) (sym c.as_mut_slice.ensures.value) c.in_ok-workers.ensures.1)
    c.requires.able c.requires.keeps
    (subst (IsDistinct (pointwise ◌==◌)) (sym c.as_slice.ensures.keys) c.as_slice.ensures.unique)
    (c.piece_count-pieces.ensures ∙ ap piece_count (c.len.ensures.len ∙ sym (ap length c.as_slice.ensures.keys)))

pub unless_done-requires : goal.unless_done-requires
unless_done-requires g c =
    none_told c.as_slice-3.result.now (result_in (flat_map (λ w. w.notes.items) c.as_slice-2.result.now)) c.piece_count-pieces.result c.join_notes-cause.result c.join_notes-cause.new.failed.entries c.join_notes-cause.ensures.cause c.join_notes-cause.ensures.failed

pub returns-clause-ended : goal.returns-clause-ended
returns-clause-ended g c =
    let pieces = c.piece_count-pieces.ensures ∙ ap piece_count c.len.ensures.len in
    let many = c.run_pieces_with.ensures.len.0 in
    let room = c.as_mut_slice.ensures.len in
    let count : c.in_ok-workers.workers.len ≡ length c.run_pieces_with.new.workers = omega arith in
    let joined : c.run_pieces_with.new.workers ≡ c.as_slice-2.result.now = sym (c.as_slice-2.ensures.value ∙ front c.run_pieces_with.new.workers _ c.in_ok-workers.workers.len count) in
    let results = result_in (flat_map (λ w. w.notes.items) c.as_slice-2.result.now) in
    let loaded = team_loaded g.F.Fn c.args.load.now c.as_slice.result.now _ _ c.piece_count-pieces.result c.as_mut_slice.result.now c.run_pieces_with.new.workers c.args.tools.now c.run_pieces_with.new.tools
    (search rules) c.run_pieces_with.ensures.len.0 c.run_pieces_with.ensures.len.1
    (subst (All (IsIdleWorker c.args.load.now c.as_slice.result.now c.piece_count-pieces.result)) (sym c.as_mut_slice.ensures.value) c.in_ok-workers.ensures.1)
    (c.piece_count-pieces.ensures ∙ ap piece_count (c.len.ensures.len ∙ sym (ap length c.as_slice.ensures.keys)))
    c.in_ok-run_pieces_with.ensures.done in
    let cause = c.join_notes-cause.ensures.cause ∙ ap (first_noted results) pieces in
    let failed = c.join_notes-cause.ensures.failed ∙ (λ i. all_noted results (c.as_slice-3.ensures.keys i) (pieces i)) in (
      results,
      subst (λ (z : List Bytes × List (Worker g.row.F.Denot)). AreLoadedBy g.F.Fn c.args.load.now z.0 (result_in (flat_map (λ w. w.notes.items) z.1)) c.args.tools.now c.run_pieces_with.new.tools) (λ i. (c.as_slice.ensures.keys i, joined i)) loaded,
      subst (λ (z : Option Refusal × List (Bytes × Refusal)). TellsDone c.unless_done.result z.0 z.1) (λ i. (cause i, failed i)) c.unless_done.ensures,
    )

use Rattle.std.proofs.Common.{◌≡◌, ◌+◌, ◌-◌, ◌<◌, ◌≤◌, [], ◌∷◌, ◌++◌, ap, sym, subst, ◌∙◌, append_assoc, arith}
use Rattle.std.specs.List.Sorted.{IsStrictlyIncreasing}
use Rattle.jc_pool.specs.Shares.{LeadsTo}
use Rattle.jc_pool.specs.Views.{least_above}
use Rattle.jc_pool.proofs.Shares.{leads-snoc, next-snoc, rises-snoc}
use Rattle.jc_pool.proofs.pool.work.Goals as goal
use Rattle.jc_pool.proofs.pool.work.Goals.{After-piece_with}

claimed : (g : _) (c : After-piece_with g) → c.claim.new.claimer.1.claimed ≡ c.loop-piece.claimer.1.claimed ++ c.in-Some.piece ∷ []
claimed g c = ap (λ v. v.claimed) c.in-Some.ensures.piece.0

next : (g : _) (c : After-piece_with g) → least_above c.claim.new.claimer.1.claimed ≡ c.in-Some.piece + 1
next g c = ap least_above (claimed g c) ∙ next-snoc c.loop-piece.claimer.1.claimed c.in-Some.piece c.in-Some.ensures.later

pub loop-piece-smaller : goal.loop-piece-smaller
loop-piece-smaller g c =
    let now = next g c in
    let later : least_above c.loop-piece.claimer.1.claimed ≤ c.in-Some.piece = c.in-Some.ensures.later in
    let below : c.in-Some.piece < c.args.counter.now.1.pieces = c.in-Some.ensures.piece.1 in
    let smaller : c.args.counter.now.1.pieces - least_above c.claim.new.claimer.1.claimed < c.args.counter.now.1.pieces - least_above c.loop-piece.claimer.1.claimed = omega arith in
    smaller

pub loop-piece-preserved : goal.loop-piece-preserved
loop-piece-preserved g c =
    let before = c.loop-piece.invariant in let old = c.loop-piece.claimer.1 in let piece = c.in-Some.piece in
    let told = c.in-Some.ensures.piece.0 in let now = next g c in
    let later : least_above old.claimed ≤ piece = c.in-Some.ensures.later in
    let below : piece < c.args.counter.now.1.pieces = c.in-Some.ensures.piece.1 in (
      c.in-Some.ensures.counter,
      ap (λ v. v.working) told ∙ before.1,
      ap (λ v. v.ended) told ∙ before.2,
      subst IsStrictlyIncreasing (sym (claimed g c)) (rises-snoc old.claimed piece before.3 later),
      c.piece_with.ensures.did ∙ ap (λ l. l ++ piece ∷ []) before.4 ∙ append_assoc _ old.claimed (piece ∷ []) ∙ ap (λ l. g.W.WorkWith.did (c.args.worker.now, c.args.tool.now) ++ l) (sym (claimed g c)),
      c.piece_with.ensures.job ∙ before.5,
      subst (λ s. LeadsTo g.W.WorkWith.does (c.args.worker.now, c.args.tool.now) s (c.piece_with.new.self, c.piece_with.new.tool)) (sym (claimed g c)) (leads-snoc g.W.WorkWith.does _ (c.loop-piece.worker, c.loop-piece.tool) _ old.claimed piece before.6 c.piece_with.ensures.does),
      (let past : least_above c.claim.new.claimer.1.claimed ≤ c.args.counter.now.1.pieces = omega arith in past),
      λ p above able. c.piece_with.ensures.later p (omega arith) (before.8 p (omega arith) able),
    )

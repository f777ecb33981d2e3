use Rattle.std.proofs.Common.{◌≡◌, ◌<◌, ◌≤◌, [], ◌∷◌, ◌++◌, All, vec_len, vec_capacity, sym, subst, rules}
use Rattle.std.proofs.lemmas.List.Elements.{All-push}
use Rattle.jc_memory_tests.specs.declared.tests.refused.parts.Tally.{Tally}
use Rattle.jc_pool.specs.Shares.{CanDoAll}
use Rattle.jc_memory_tests.proofs.tests.refused.parts.team.Goals as goal

pub making-preserved : goal.making-preserved
making-preserved g c =
    let pushed : c.push.new.self.items ≡ c.making.team.items ++ c.idle.result ∷ [] = search rules in
    let room : vec_len c.push.new.self ≤ c.args.workers = search rules in
    let P : Tally → Type 0 = CanDoAll (λ t piece. (vec_len t.done ≤ piece) × (piece < vec_capacity t.done)) c.args.pieces in
    (room, subst (All P) (sym pushed) (All-push P c.making.team.items c.idle.result c.making.invariant.1 c.idle.ensures))

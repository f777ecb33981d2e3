use Rattle.jc_world.proofs.Common.{◌≡◌, true, sym, subst, get, world_of, WorldState, part_of, has_progress, waits_for_load}
use Rattle.jc_world.proofs.Holding.{of_key}
use Rattle.jc_world.proofs.machine.Machine.loader_answers.Goals as goal

pub loader_answers-requires-clause-waits : goal.loader_answers-requires-clause-waits
loader_answers-requires-clause-waits c =
    let v : WorldState = world_of c.self.inside in
    let W : WorldState → Type 0 = λ x. has_progress waits_for_load (part_of x c.args.call c.args.key.now) ≡ true in
    (of_key (has_progress waits_for_load) (get v.parts c.args.key.now) c.args.call (λ h. cc) (subst W (sym c.self.view_is) c.requires.waits)).3

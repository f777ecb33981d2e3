use Rattle.jc_world.proofs.Common.{◌≡◌, true, sym, subst, get, world_of, WorldState, part_of, has_progress, waits_for_process}
use Rattle.jc_world.proofs.Holding.{of_key}
use Rattle.jc_world.proofs.machine.Machine.run.Goals as goal

pub process-ran-requires-clause-waits : goal.process-ran-requires-clause-waits
process-ran-requires-clause-waits c =
    let v : WorldState = world_of c.self.inside in
    let W : WorldState → Type 0 = λ x. has_progress waits_for_process (part_of x c.args.call c.args.key.now) ≡ true in
    (of_key (has_progress waits_for_process) (get v.parts c.args.key.now) c.args.call (λ h. cc) (subst W (sym c.self.view_is) c.requires.waits)).3

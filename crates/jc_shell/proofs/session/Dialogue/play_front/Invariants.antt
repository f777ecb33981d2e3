use Rattle.jc_shell.proofs.Common.{◌≡◌, ◌++◌, ◌<◌, length, opened_world, Accepted, Holds, script_of}
use Rattle.jc_shell.proofs.session.Dialogue.play_front.Given as goal

abbrev pub invariant-loop-line : goal.invariant-loop-line
invariant-loop-line l =
    (b : Accepted) × Holds b l.self.script.items l.self.lines (opened_world l.self.player.world)
    × (l.script ≡ script_of b.lines ++ l.rest)
    × (0 < length l.script → 0 < length l.rest)

abbrev pub decreases-loop-line : goal.decreases-loop-line
decreases-loop-line l = length l.rest

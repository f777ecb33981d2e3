use Rattle.jc_shell.proofs.Common.{◌≡◌, ◌≤◌, ◌-◌, false, length, opened_world}
use Rattle.jc_shell.proofs.Streams.{Talked}
use Rattle.jc_shell.proofs.run.converse.Given as goal

abbrev pub invariant-reads : goal.invariant-reads
invariant-reads g l =
    Talked l.prompt (g.R.Read.remaining l.fn.reader.inner) (g.R.Read.remaining l.reader.inner)
    (g.W.Write.contents l.fn.writer.inner) (g.W.Write.contents l.writer.inner) (g.S.Save.calls l.fn.saves) (g.S.Save.calls l.saves)
    l.input.items l.at l.session.script.items l.session.lines (opened_world l.session.player.world)
    × (length l.input.items ≤ 4194305)
    × (l.fn.writer.failed ≡ false → l.writer.failed ≡ false)
    × (l.fn.reader.failed ≡ false → l.reader.failed ≡ false)

abbrev pub decreases-reads : goal.decreases-reads
decreases-reads g l = 4194305 - length l.input.items

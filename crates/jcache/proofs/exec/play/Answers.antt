use Rattle.std.proofs.Common.{inl, inr, refl}
use Rattle.jcache.proofs.exec.play.Goals as goal

pub returns-in-Ok-LineFault-clause-played : goal.returns-in-Ok-LineFault-clause-played
returns-in-Ok-LineFault-clause-played g c =
    let ran = rw c.in-Ok-LineFault.field-0-is at c.in-Ok-LineFault.ensures.ran in
    inr (inl (refl, (_, _, rw c.new-note.ensures.items at ran)))

use Rattle.jc_shell.specs.Sessions.{nobody}
use Rattle.jc_shell.proofs.Turns.{shown_after, shown_at_first}
use Rattle.jc_shell.proofs.laws.transcripts_are_shown.Goals as goal

pub returns : goal.returns
returns c = λ prompt lines out saved b h. shown_after prompt lines out saved nobody b shown_at_first h

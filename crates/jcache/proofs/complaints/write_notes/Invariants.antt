use Rattle.std.proofs.Common.{length}
use Rattle.jcache.proofs.complaints.write_notes.Given as goal

abbrev pub decreases-loop-note : goal.decreases-loop-note
decreases-loop-note g l = length l.rest

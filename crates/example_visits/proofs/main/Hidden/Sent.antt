-- The loader and the writer, which `main` boxes in this order, may go to another thread.
use mir.Syntax.{Dict}
use denote.Param.Sent.{Sends}
use Rattle.example_visits.proofs.main.OwnLists.{part-1-1, part-2-1}
use Rattle.jc_sqlite.proofs.CallerLemmas.{loader_sends, writer_sends}

pub sends-part-1-1 : (d1 d2 : Dict) → Sends (part-1-1 d1 d2)
sends-part-1-1 d1 d2 entry = loader_sends _

pub sends-part-2-1 : (d1 d2 : Dict) → Sends (part-2-1 d1 d2)
sends-part-2-1 d1 d2 entry = writer_sends _

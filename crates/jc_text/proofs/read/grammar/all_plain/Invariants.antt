use Rattle.jc_text.proofs.Common.{◌≡◌, drop, ◌&&◌, list_all, is_plain}
use Rattle.jc_text.proofs.read.grammar.all_plain.Given as goal

abbrev pub invariant-loop-b : goal.invariant-loop-b
invariant-loop-b l = (l.plain && list_all is_plain (drop l.b-index l.text)) ≡ list_all is_plain l.text

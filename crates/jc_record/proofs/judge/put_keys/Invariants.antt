use Rattle.jc_record.proofs.Common.{◌≡◌, ◌≤◌, ◌+◌, ◌++◌, ℕ, List, drop}
use Rattle.jc_record.specs.declared.answer.Tally.{Tally}
use Rattle.jc_record.specs.Reading.{record_value}
use Rattle.jc_record.specs.Running.{AnswersKeys, no_key}
use Rattle.jc_record.proofs.judge.put_keys.Given as goal

-- what is answered for the keys that are left completes the answer for all
abbrev pub invariant-loop-at : goal.invariant-loop-at
invariant-loop-at l =
    (l.tally.explained + l.tally.refuted + l.tally.stopped ≤ l.at)
    × ((text : List ℕ) × (l.out.items ≡ l.fn.out.items ++ text)
    × ((rest : List ℕ) (last : Tally)
    → AnswersKeys l.asked (record_value l.history) l.index l.at (drop l.at l.index.keys) l.tally rest last
    → AnswersKeys l.asked (record_value l.history) l.index 0 l.index.keys no_key (text ++ rest) last))

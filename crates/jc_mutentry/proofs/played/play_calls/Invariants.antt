use Rattle.std.proofs.Common.{◌≡◌, ◌+◌, ◌-◌, ◌≤◌, ◌++◌, List, take, length, vec_len, vec_capacity}
use Rattle.jc_model.specs.declared.processor.EntryAnswer.{EntryAnswer}
use Rattle.jc_mutentry.specs.Playing.{IsPlayed}
use Rattle.jc_mutentry.proofs.played.play_calls.Given as goal

-- the calls so far were played, and there is room for the answers to the others
abbrev pub invariant-loop-call : goal.invariant-loop-call
invariant-loop-call l = record {
  played : (given : List EntryAnswer) × IsPlayed l.entry l.fn.load (take l.call-index l.calls) given l.last × (l.answers.items ≡ l.fn.answers.items ++ given);
  same : (l.entry.initial ≡ l.fn.entry.initial) × (l.entry.may_load ≡ l.fn.entry.may_load);
  room : vec_len l.answers + (length l.calls - l.call-index) ≤ vec_capacity l.answers;
}

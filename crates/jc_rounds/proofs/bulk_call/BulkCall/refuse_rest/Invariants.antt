use Rattle.jc_rounds.proofs.Common.{◌≡◌, ◌++◌, map, take, drop, refused_if_waiting}
use Rattle.jc_rounds.proofs.bulk_call.BulkCall.refuse_rest.Given as goal

-- the keys before this place are refused if they waited
abbrev pub invariant-loop-place : goal.invariant-loop-place
invariant-loop-place l = record {
  items : l.self.progress.items ≡ map refused_if_waiting (take l.place l.initial.self.progress.items) ++ drop l.place l.initial.self.progress.items;
  rest : l.self ≡ record l.initial.self { progress = l.self.progress };
}

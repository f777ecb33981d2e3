use Rattle.jc_loadall.proofs.Common.{rules}
use Rattle.jc_loadall.proofs.worker.WorkerWorkWith.piece_with.Goals as goal

pub returns-clause-later : goal.returns-clause-later
returns-clause-later g c = λ later lt can. record {
  there = can.there;
  distinct = can.distinct;
  room_for_keys = search rules;
  noted_before = search rules;
  room_to_note = search rules;
  may = can.keeps _ _ _ _ c.load_by-result.ensures;
  keeps = can.keeps;
}

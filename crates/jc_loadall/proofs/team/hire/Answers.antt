use Rattle.jc_loadall.proofs.Common.{◌≡◌, ◌≤◌, [], ◌∷◌, ◌++◌, All, vec_len, vec_capacity, sym, subst, rules, All-push, IsIdleWorker}
use Rattle.jc_loadall.proofs.team.hire.Goals as goal

pub hiring-preserved : goal.hiring-preserved
hiring-preserved g c =
    let pushed : c.push_reserved.new.self.items ≡ c.hiring.team.items ++ c.in_ok-new.field-0 ∷ [] = search rules in
    let few : vec_len c.push_reserved.new.self ≤ c.args.workers = search rules in
    let room : c.args.workers ≤ vec_capacity c.push_reserved.new.self = search rules in
    record {
      few = few;
      room = room;
      idle = subst (All (IsIdleWorker c.args.load.now c.args.keys.now c.args.pieces)) (sym pushed) (All-push (IsIdleWorker c.args.load.now c.args.keys.now c.args.pieces) c.hiring.team.items c.in_ok-new.field-0 c.hiring.invariant.idle c.in_ok-new.ensures);
    }

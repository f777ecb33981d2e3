use Rattle.jc_loadall.proofs.Common.{◌-◌, ◌≤◌, All, vec_len, vec_capacity, IsIdleWorker}
use Rattle.jc_loadall.proofs.team.hire.Given as goal

abbrev pub invariant-hiring : goal.invariant-hiring
invariant-hiring g l = record {
  few : vec_len l.team ≤ l.workers;
  room : l.workers ≤ vec_capacity l.team;
  idle : All (IsIdleWorker l.load l.keys l.pieces) l.team.items;
}

abbrev pub decreases-hiring : goal.decreases-hiring
decreases-hiring g l = l.workers - vec_len l.team

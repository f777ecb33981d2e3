use Rattle.jc_cache.proofs.Common.{◌≡◌, take, statistics_of, noted_by, occurred_in, HasRead, KeepRow}
use Rattle.jc_cache.proofs.Meetings.{HasRest}
use Rattle.jc_cache.proofs.Readings.{DoneBelow}
use Rattle.jc_cache.proofs.counting.read_each.Given as goal

abbrev pub invariant-loop-i : goal.invariant-loop-i
invariant-loop-i g l = record {
  agent : l.agent ≡ l.initial.agent;
  keeps : KeepRow l.initial.seats.items l.seats.items;
  rest : HasRest l.i l.initial.seats.items l.seats.items;
  read : DoneBelow HasRead l.i l.initial.seats.items l.seats.items;
  counted : l.total ≡ statistics_of (occurred_in (noted_by (take l.i l.seats.items)));
}

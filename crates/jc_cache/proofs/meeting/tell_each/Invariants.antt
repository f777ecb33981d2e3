use Rattle.jc_cache.proofs.Common.{◌≡◌, KeepRow}
use Rattle.jc_cache.proofs.Meetings.{HasRest, TellBelow}
use Rattle.jc_cache.proofs.meeting.tell_each.Given as goal

abbrev pub invariant-loop-i : goal.invariant-loop-i
invariant-loop-i g l = record {
  agent : l.agent ≡ l.initial.agent;
  tellers : KeepRow l.initial.tellers.items l.tellers.items;
  hearers : KeepRow l.initial.hearers.items l.hearers.items;
  teller_rest : HasRest l.i l.initial.tellers.items l.tellers.items;
  hearer_rest : HasRest l.i l.initial.hearers.items l.hearers.items;
  told : TellBelow l.i l.initial.tellers.items l.initial.hearers.items l.tellers.items l.hearers.items;
}

use Rattle.jc_invoke.proofs.Common.{HasAsked, HasRunEach, IsToBeRun, KeepsProcessing, KeepsRunsRoom, run_behavior, KeepsTickets, length, take, drop, AllByRecursion}
use Rattle.jc_invoke.proofs.RunEach.{RoomLeft}
use Rattle.jc_invoke.proofs.room.RoundRoom.run_each.Given as goal

-- the processor was run for the tickets before this place
abbrev pub invariant-loop-place : goal.invariant-loop-place
invariant-loop-place g l = record {
  kept : KeepsTickets l.fn.tickets l.tickets;
  fresh : AllByRecursion IsToBeRun (drop l.place l.tickets.items);
  left : RoomLeft l.fn.self.through (length l.fn.tickets.items) l.place l.self;
  keeps : KeepsRunsRoom l.fn.self l.self;
  run : HasAsked l.fn.session l.session (HasRunEach (run_behavior (λ p. (goal.CacheLoader-dyn g p).loads p.1) (λ p. (goal.CacheLoader-dyn g p).load_state p.1)
      (λ p. (goal.CacheWriter-dyn g p).writes_all p.1) (λ p. (goal.CacheWriter-dyn g p).deletes_all p.1) (λ p. (goal.CacheWriter-dyn g p).write_state p.1)
      (λ b. (goal.EntryProcessor-dyn g (b.vtable, b.value)).processes b.value) (λ b. (goal.EntryProcessor-dyn g (b.vtable, b.value)).process_state b.value))
      l.fn.processing.args.now l.fn.self.through l.fn.session.agent (take l.place l.fn.tickets.items) l.fn.processing.processor.now
      l.session.agent l.self l.processing.processor.now);
  same : KeepsProcessing l.fn.processing l.processing;
}

use Rattle.std.proofs.Common.{IsSome, sym, ap, subst, ◌∙◌}
use Rattle.std.specs.Map.{keys_of}
use Rattle.jc_model.specs.Batches.{answer_in_batch}
use Rattle.jc_outside.specs.CallingAll.{returned_fault}
use Rattle.jc_outside.proofs.Batches.{writes-batch, deletes-batch, written-keys, deleted-keys, reported, keeps_type}
use Rattle.jc_outside.proofs.calls_all.call_writer_all.Goals as goal

pub returns-in-Writes-clause-writer : goal.returns-in-Writes-clause-writer
returns-in-Writes-clause-writer g c =
    let w = c.write_entries-returned in
    let left = keys_of w.new.entries.entries in (
      answer_in_batch left (returned_fault w.result),
      writes-batch (λ z. (g.dyn-2.0.entry z.vtable).1.writes_all z.value) (λ z. (g.dyn-2.0.entry z.vtable).1.deletes_all z.value)
          (λ z. (g.dyn-2.0.entry z.vtable).1.write_state z.value)
          c.hands.inside.outside.writer c.args.hands.now.outside.writer (ap (λ h. h.outside.writer) c.hands.view_is)
          c.args.batch w.result w.new.writer c.in-Writes.batch c.into_parts-entries.result.0.entries w.new.entries.entries c.in-Writes.is
          c.into_parts-entries.ensures.entries w.ensures.write,
      reported g.A.Ask.key left w.result c.returned_fault.result c.returned_fault.ensures c.args.asks.items c.args.done.now.items c.end_writes.new.done.items
          c.end_writes.ensures.items,
    )

pub returns-in-Deletes-clause-writer : goal.returns-in-Deletes-clause-writer
returns-in-Deletes-clause-writer g c =
    let w = c.delete_keys-returned in
    let left = w.new.keys.keys in (
      answer_in_batch left (returned_fault w.result),
      deletes-batch (λ z. (g.dyn-2.0.entry z.vtable).1.writes_all z.value) (λ z. (g.dyn-2.0.entry z.vtable).1.deletes_all z.value)
          (λ z. (g.dyn-2.0.entry z.vtable).1.write_state z.value)
          c.hands.inside.outside.writer c.args.hands.now.outside.writer (ap (λ h. h.outside.writer) c.hands.view_is)
          c.args.batch w.result w.new.writer c.in-Deletes.batch c.into_parts-keys.result.0.keys left c.in-Deletes.is
          c.into_parts-keys.ensures.deletes w.ensures.delete,
      reported g.A.Ask.key left w.result c.returned_fault-in-Deletes.result c.returned_fault-in-Deletes.ensures c.args.asks.items c.args.done.now.items
          c.end_writes-in-Deletes.new.done.items c.end_writes-in-Deletes.ensures.items,
    )

pub end_writes-requires-clause-keys : goal.end_writes-requires-clause-keys
end_writes-requires-clause-keys g c =
    c.into_parts-entries.ensures.keys ∙ written-keys g.A.Ask.key g.A.AskWrite.change c.args.batch c.args.asks.items c.in-Writes.batch c.in-Writes.is c.requires.batch

pub end_writes-requires-in-Deletes-clause-keys : goal.end_writes-requires-in-Deletes-clause-keys
end_writes-requires-in-Deletes-clause-keys g c =
    c.into_parts-keys.ensures.keys ∙ deleted-keys g.A.Ask.key g.A.AskWrite.change c.args.batch c.args.asks.items c.in-Deletes.batch c.in-Deletes.is c.requires.batch

pub write_entries-returned-requires : goal.write_entries-returned-requires
write_entries-returned-requires g c = subst IsSome (sym (ap (λ h. h.outside.writer) c.hands.view_is)) c.requires.writer

pub end_writes-requires-clause-room : goal.end_writes-requires-clause-room
end_writes-requires-clause-room g c = c.requires.room

pub delete_keys-returned-requires : goal.delete_keys-returned-requires
delete_keys-returned-requires g c = subst IsSome (sym (ap (λ h. h.outside.writer) c.hands.view_is)) c.requires.writer

pub end_writes-requires-in-Deletes-clause-room : goal.end_writes-requires-in-Deletes-clause-room
end_writes-requires-in-Deletes-clause-room g c = c.requires.room

pub returns-in-Writes-clause-room : goal.returns-in-Writes-clause-room
returns-in-Writes-clause-room g c = c.end_writes.ensures.room

pub returns-in-Writes-clause-writer_type : goal.returns-in-Writes-clause-writer_type
returns-in-Writes-clause-writer_type g c =
    keeps_type c.hands.inside.outside.writer c.args.hands.now.outside.writer (ap (λ h. h.outside.writer) c.hands.view_is) c.write_entries-returned.new.writer c.write_entries-returned.ensures.writer_type

pub returns-in-Writes-clause-loader : goal.returns-in-Writes-clause-loader
returns-in-Writes-clause-loader g c = ap (λ h. h.outside.loader) c.hands.view_is

pub returns-in-Writes-clause-held : goal.returns-in-Writes-clause-held
returns-in-Writes-clause-held g c = ap (λ h. h.held) c.hands.view_is ∙ c.requires.held

pub returns-in-Deletes-clause-room : goal.returns-in-Deletes-clause-room
returns-in-Deletes-clause-room g c = c.end_writes-in-Deletes.ensures.room

pub returns-in-Deletes-clause-writer_type : goal.returns-in-Deletes-clause-writer_type
returns-in-Deletes-clause-writer_type g c =
    keeps_type c.hands.inside.outside.writer c.args.hands.now.outside.writer (ap (λ h. h.outside.writer) c.hands.view_is) c.delete_keys-returned.new.writer c.delete_keys-returned.ensures.writer_type

pub returns-in-Deletes-clause-loader : goal.returns-in-Deletes-clause-loader
returns-in-Deletes-clause-loader g c = ap (λ h. h.outside.loader) c.hands.view_is

pub returns-in-Deletes-clause-held : goal.returns-in-Deletes-clause-held
returns-in-Deletes-clause-held g c = ap (λ h. h.held) c.hands.view_is ∙ c.requires.held

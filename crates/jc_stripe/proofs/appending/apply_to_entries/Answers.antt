use Rattle.std.proofs.Common.{not, sym, ◌∙◌, ap}
use Rattle.std.specs.Option.{option_copied}
use Rattle.jc_model.specs.Cache.{Bytes}
use Rattle.jc_types.proofs.CallerLemmas.{none_from}
use Rattle.jc_model.specs.Table.{entry_after}
use Rattle.jc_stripe.proofs.Keeping.{kept_after, kept_none, not_kept, use_is}
use Rattle.jc_stripe.proofs.appending.apply_to_entries.Goals as goal

pub returns-in-KeptAfter : goal.returns-in-KeptAfter
returns-in-KeptAfter c =
    kept_after c.args.entries.now c.insert.new.self c.args.key.now c.in-Some.value.now c.args.pinned.now c.in-KeptAfter.victim c.args.op.now c.args.out.now
    (record {
      few = c.requires.room;
      is_use = use_is _ _ _ _ c.first_fault.ensures c.uses.ensures (sym c.is_some.ensures ∙ c.if-is_some.false) c.if-not-uses.false;
      entry = ap (λ o. entry_after c.args.op.now o c.args.out.now) (sym c.requires.entry ∙ sym c.as_ref.ensures.value) ∙ sym c.entry_after.ensures ∙ ap (option_copied {T = Bytes}) c.in-Some.is;
    })
    c.in-KeptAfter.ensures.inserts

pub returns-in-NotKept : goal.returns-in-NotKept
returns-in-NotKept c =
    not_kept c.args.entries.now c.insert.new.self c.args.key.now c.in-Some.value.now c.args.pinned.now c.in-NotKept.cause c.in-NotKept.victim c.args.op.now c.args.out.now
    (record {
      few = c.requires.room;
      is_use = use_is _ _ _ _ c.first_fault.ensures c.uses.ensures (sym c.is_some.ensures ∙ c.if-is_some.false) c.if-not-uses.false;
      entry = ap (λ o. entry_after c.args.op.now o c.args.out.now) (sym c.requires.entry ∙ sym c.as_ref.ensures.value) ∙ sym c.entry_after.ensures ∙ ap (option_copied {T = Bytes}) c.in-Some.is;
    })
    c.in-NotKept.ensures.inserts

pub returns-then-is_none : goal.returns-then-is_none
returns-then-is_none c =
    kept_none c.args.entries.now c.args.key.now c.args.pinned.now c.args.op.now c.args.out.now
    (use_is _ _ _ _ c.first_fault.ensures c.uses.ensures (sym c.is_some.ensures ∙ c.if-is_some.false) c.if-not-uses.false)
    (sym c.requires.entry ∙ none_from c.args.entry.now (c.is_none.ensures ∙ ap not c.if-is_none.true))
    (ap (λ o. entry_after c.args.op.now o c.args.out.now) (sym c.requires.entry ∙ sym c.as_ref.ensures.value) ∙ sym c.entry_after.ensures ∙ ap (option_copied {T = Bytes}) c.in-None.is)

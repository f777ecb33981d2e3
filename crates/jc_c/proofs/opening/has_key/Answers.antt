use Rattle.std.proofs.Common.{◌≡◌, ◌==◌, ℕ, ◌+◌, ◌<◌, Bool, true, false, List, Some, is_some, get_or, drop, length, cond, sym, ap, ◌∙◌, suc, add-one, drop-cons}
use Rattle.std.specs.FinMap.{find}
use Rattle.std.specs.Cmp.Lexicographic.{pointwise, texts_ties}
use Rattle.jc_model.specs.Cache.{Bytes, key_cmp}
use Rattle.jc_c.specs.declared.layouts.InlineEntry.{InlineEntry}
use Rattle.jc_c.specs.Layouts.{inline_key, inline_value, inline_entries}
use Rattle.jc_c.proofs.opening.has_key.Goals as goal

-- a search from place i on looks at the entry there, and then continues
looked : (key : Bytes) (entries : List InlineEntry) (i : ℕ) (d : InlineEntry) (b : Bool) → i < length entries → pointwise ◌==◌ key (inline_key (get_or entries i d).key) ≡ b
    → find key_cmp key (inline_entries (drop i entries)) ≡ cond b (Some (inline_value (get_or entries i d).value)) (find key_cmp key (inline_entries (drop (i + 1) entries)))
looked key entries i d b h e =
    rw (add-one, drop-cons entries i d)
    (ap (λ t. cond t (Some (inline_value (get_or entries i d).value)) (find key_cmp key (inline_entries (drop (suc i) entries)))) (sym (texts_ties key (inline_key (get_or entries i d).key)) ∙ e))

pub returns-then-eq : goal.returns-then-eq
returns-then-eq c =
    let e = ap (pointwise ◌==◌ c.args.key.now) (sym c.counted.ensures) ∙ sym c.eq.ensures ∙ c.if-eq.true in
    sym (ap is_some (sym c.loop-entry.invariant ∙ looked _ _ _ _ true c.loop-entry-test.true e))

pub loop-entry-preserved : goal.loop-entry-preserved
loop-entry-preserved c =
    let e = ap (pointwise ◌==◌ c.args.key.now) (sym c.counted.ensures) ∙ sym c.eq.ensures ∙ c.if-eq.false in
    sym (looked _ _ _ _ false c.loop-entry-test.true e) ∙ c.loop-entry.invariant

use Rattle.std.proofs.Common.{◌≡◌, ℕ, ◌+◌, ◌-◌, ◌<◌, ◌&&◌, Bool, true, false, not, List, Option, None, Some, is_some, is_none, get_or, take, drop, length, length-drop, refl, sym, ap, ◌∙◌, add-one, drop-cons}
use Rattle.std.proofs.Math.Seq.{take-length}
use Rattle.std.specs.FinMap.{find}
use Rattle.jc_model.specs.Cache.{Bytes, key_cmp}
use Rattle.jc_model.specs.Listed.{has_distinct_keys}
use Rattle.jc_c.specs.declared.layouts.InlineEntry.{InlineEntry}
use Rattle.jc_c.specs.Layouts.{inline_key, inline_entries}
use Rattle.jc_c.proofs.opening.is_apart.Goals as goal

none_unless_some : (found : Option Bytes) → is_none found ≡ not (is_some found)
none_unless_some None = refl
none_unless_some (Some value) = refl

all_behind : (entries : List InlineEntry) (n : ℕ) → take (length entries - n) (drop n entries) ≡ drop n entries
all_behind entries n = ap (λ k. take k (drop n entries)) (sym (length-drop n entries)) ∙ take-length (drop n entries)

-- the keys from place i on are distinct if those behind it are, and its own isn't there
apart_from : (entries : List InlineEntry) (i : ℕ) (d : InlineEntry) (key : Bytes) (b : Bool) → i < length entries → key ≡ inline_key (get_or entries i d).key
    → b ≡ is_some (find key_cmp key (inline_entries (take (length entries - (i + 1)) (drop (i + 1) entries))))
    → has_distinct_keys (inline_entries (drop i entries)) ≡ (not b && has_distinct_keys (inline_entries (drop (i + 1) entries)))
apart_from entries i d key b h is e =
    let none : is_none (find key_cmp (inline_key (get_or entries i d).key) (inline_entries (drop (i + 1) entries))) ≡ not b =
    ap (λ k. is_none (find key_cmp k (inline_entries (drop (i + 1) entries)))) (sym is) ∙ none_unless_some _
    ∙ ap not (ap (λ es. is_some (find key_cmp key (inline_entries es))) (sym (all_behind entries (i + 1))) ∙ sym e) in
    ap (λ es. has_distinct_keys (inline_entries es)) (drop-cons entries i d h) ∙ ap (λ n. is_none (find key_cmp (inline_key (get_or entries i d).key) (inline_entries (drop n entries))) && has_distinct_keys (inline_entries (drop n entries))) (sym (add-one i))
    ∙ ap (λ t. t && has_distinct_keys (inline_entries (drop (i + 1) entries))) none

pub returns-then-has_key : goal.returns-then-has_key
returns-then-has_key c = sym (sym c.loop-i.invariant ∙ apart_from c.args.entries.now c.loop-i.i _ _ true c.loop-i-test.true c.counted.ensures (sym c.if-has_key.true ∙ c.has_key.ensures))

pub loop-i-preserved : goal.loop-i-preserved
loop-i-preserved c = sym (apart_from c.args.entries.now c.loop-i.i _ _ false c.loop-i-test.true c.counted.ensures (sym c.if-has_key.false ∙ c.has_key.ensures)) ∙ c.loop-i.invariant

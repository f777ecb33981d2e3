use Rattle.std.proofs.Common.{◌≡◌, ◌==◌, ℕ, ◌+◌, ◌<◌, ◌&&◌, Bool, true, false, List, get_or, drop, length, sym, ap, ◌∙◌, add-one, drop-cons, arith}
use Rattle.std.proofs.lemmas.Bool.Decides.{nat_tests}
use Rattle.std.specs.List.{list_all}
use Rattle.jc_types.specs.Stripes.{stripe_of}
use Rattle.jc_model.specs.Cache.{Bytes}
use Rattle.jc_c.specs.declared.layouts.InlineEntry.{InlineEntry}
use Rattle.jc_c.specs.Layouts.{inline_entry, inline_entries}
use Rattle.jc_c.proofs.opening.is_opening_of.Goals as goal

-- the keys from place i on are of the stripe if those behind it are, and its own is
of_stripe_from : (entries : List InlineEntry) (i : ℕ) (d : InlineEntry) (stripes number found : ℕ) (entry : Bytes × Bytes) (b : Bool) → i < length entries
    → entry ≡ inline_entry (get_or entries i d) → found ≡ stripe_of entry.0 stripes → (found == number) ≡ b
    → list_all (λ entry. stripe_of entry.0 stripes == number) (inline_entries (drop i entries)) ≡ (b && list_all (λ entry. stripe_of entry.0 stripes == number) (inline_entries (drop (i + 1) entries)))
of_stripe_from entries i d stripes number found entry b h is at e =
    let own : (stripe_of (inline_entry (get_or entries i d)).0 stripes == number) ≡ b =
    ap (λ (e : Bytes × Bytes). stripe_of e.0 stripes == number) (sym is) ∙ ap (λ n. n == number) (sym at) ∙ e in
    ap (λ es. list_all (λ entry. stripe_of entry.0 stripes == number) (inline_entries es)) (drop-cons entries i d h)
    ∙ ap (λ n. (stripe_of (inline_entry (get_or entries i d)).0 stripes == number) && list_all (λ entry. stripe_of entry.0 stripes == number) (inline_entries (drop n entries))) (sym (add-one i))
    ∙ ap (λ t. t && list_all (λ entry. stripe_of entry.0 stripes == number) (inline_entries (drop (i + 1) entries))) own

differ : (i j : ℕ) → (i ≡ j → ⊥) → (i == j) ≡ false
differ i j apart = grind (arith, nat_tests)

agree : (i j : ℕ) → i ≡ j → (i == j) ≡ true
agree i j same = grind (arith, nat_tests)

pub returns-then-stripe_of-number : goal.returns-then-stripe_of-number
returns-then-stripe_of-number c =
    let e : (c.stripe_of.result == c.args.number) ≡ false = differ _ _ c.if-stripe_of-number.true in
    sym (sym c.loop-entry.invariant ∙ of_stripe_from c.args.entries.now c.loop-entry.entry-index _ _ _ c.stripe_of.result c.entry.result false c.loop-entry-test.true c.entry.ensures c.stripe_of.ensures e)

pub loop-entry-preserved : goal.loop-entry-preserved
loop-entry-preserved c =
    let e : (c.stripe_of.result == c.args.number) ≡ true = agree _ _ c.if-stripe_of-number.false in
    sym (of_stripe_from c.args.entries.now c.loop-entry.entry-index _ _ _ c.stripe_of.result c.entry.result true c.loop-entry-test.true c.entry.ensures c.stripe_of.ensures e) ∙ c.loop-entry.invariant

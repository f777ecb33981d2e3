use Rattle.std.proofs.Common.{◌≡◌, ◌++◌, ◌∷◌, [], ℕ, All, List, Vec, Global, ap, sym, subst, ◌∙◌, arith}
use Rattle.std.specs.List.{list_all}
use Rattle.std.proofs.lemmas.List.Elements.{All-push}
use Rattle.jc_types.specs.declared.config.Config.{Config}
use Rattle.jc_types.specs.declared.key.Key.{Key}
use Rattle.jc_types.specs.declared.value.Value.{Value}
use Rattle.jc_model.specs.Cache.{Bytes}
use Rattle.jc_model.specs.Listed.{has_distinct_keys}
use Rattle.jc_entries.specs.ByUse.{ByUse}
use Rattle.jc_stripe.specs.Reached.{IsReached}
use Rattle.jc_stripe.specs.Reopening.{belongs_to_stripe, kept, opened_stripe}
use Rattle.jc_stripe.proofs.Kept.{kept_once, kept_own, read_list}
use Rattle.jc_stripe.proofs.Opened.{opened_next}
use Rattle.jc_stripe.proofs.reopening.reopen.Goals as goal

abbrev contents : Vec (Key × Value) Global → List (Bytes × Bytes)
contents v = v.items

pub of-requires-clause-once : goal.of-requires-clause-once
of-requires-clause-once c =
    let config : Config = c.args.config.now in
    let entries : List (Bytes × Bytes) = c.args.entries.now in
    let n : ℕ = c.loop-number.number in
    let there = c.in_ok-lists.ensures.lists n c.loop-number-test.true in
    let is : c.deref.result.now ≡ kept config n entries = c.deref.ensures.value ∙ read_list contents c.in_ok-lists.field-0.lists.items n c.index.result.now (kept config n entries) there c.index.ensures in
    ap has_distinct_keys is ∙ kept_once config n entries c.requires.once

pub open_with-requires-clause-own : goal.open_with-requires-clause-own
open_with-requires-clause-own c =
    let config : Config = c.args.config.now in
    let entries : List (Bytes × Bytes) = c.args.entries.now in
    let n : ℕ = c.loop-number.number in
    let there = c.in_ok-lists.ensures.lists n c.loop-number-test.true in
    let is : c.deref.result.now ≡ kept config n entries = c.deref.ensures.value ∙ read_list contents c.in_ok-lists.field-0.lists.items n c.index.result.now (kept config n entries) there c.index.ensures in
    ap (λ (e : ByUse). list_all (belongs_to_stripe config n) e.list) c.in_ok-contents.ensures ∙ ap (list_all (belongs_to_stripe config n)) is ∙ kept_own config n entries

pub loop-number-preserved : goal.loop-number-preserved
loop-number-preserved c =
    let config : Config = c.args.config.now in
    let entries : List (Bytes × Bytes) = c.args.entries.now in
    let n : ℕ = c.loop-number.number in
    let there = c.in_ok-lists.ensures.lists n c.loop-number-test.true in
    let is : c.deref.result.now ≡ kept config n entries = c.deref.ensures.value ∙ read_list contents c.in_ok-lists.field-0.lists.items n c.index.result.now (kept config n entries) there c.index.ensures in
    let now : c.in_ok-contents.contents.list ≡ kept config n entries = ap (λ (e : ByUse). e.list) c.in_ok-contents.ensures ∙ is in
    let made : c.in_ok-open_with.field-0 ≡ opened_stripe config c.args.origin n (kept config n entries) = c.in_ok-open_with.ensures.made ∙ ap (opened_stripe config c.args.origin n) now in
    let last = opened_next config c.args.origin entries n in
    let was = c.loop-number.invariant in (
      c.push_reserved.ensures.items ∙ (λ i. was.0 i ++ made i ∷ []) ∙ sym last,
      omega arith,
      omega arith,
      subst (All IsReached) (sym c.push_reserved.ensures.items) (All-push IsReached c.loop-number.stripes.items c.in_ok-open_with.field-0 was.3 c.in_ok-open_with.ensures.reached),
    )

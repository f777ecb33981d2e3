use Rattle.std.proofs.Common.{rules, refl, ◌≡◌, ◌+◌, ◌<◌, ◌++◌, ◌∷◌, [], ℕ, List, Some, length, take, set, slice_get, option_map, vec_len, Vec, Global, ap, sym, subst, ◌∙◌, arith}
use Rattle.std.proofs.lemmas.List.{take_more}
use Rattle.std.proofs.lemmas.Option.{slice_get_read}
use Rattle.jc_types.specs.Stripes.{stripe_of}
use Rattle.jc_types.specs.declared.config.Config.{Config}
use Rattle.jc_types.specs.declared.key.Key.{Key}
use Rattle.jc_types.specs.declared.value.Value.{Value}
use Rattle.jc_model.specs.Cache.{Bytes}
use Rattle.jc_stripe.specs.Reopening.{kept, dropped}
use Rattle.jc_stripe.proofs.Dealing.{HasLists, deal_in, deal_out}
use Rattle.jc_stripe.proofs.reopening.deal.Goals as goal
use Rattle.jc_stripe.proofs.reopening.deal.Goals.{then-len-config+in_ok-push, else-len-config+in_ok-push-2}

abbrev contents : Vec (Key × Value) Global → List (Bytes × Bytes)
contents v = v.items

pub loop-entry-preserved : goal.loop-entry-preserved
loop-entry-preserved c =
    let config : Config = c.args.config.now in
    let lists : List (Vec (Key × Value) Global) = c.loop-entry.lists.items in
    let entries : List (Bytes × Bytes) = c.args.entries.now in
    let i : ℕ = c.loop-entry.entry-index in
    let x : Bytes × Bytes = c.entry-item.result in
    let before : List (Bytes × Bytes) = take i entries in
    let inside = c.loop-entry-test.true in
    let more : before ++ x ∷ [] ≡ take (i + 1) entries = ap (λ y. before ++ y ∷ []) c.entry-item.is ∙ sym (take_more entries i x (omega arith)) in
    let has : HasLists contents config before lists = record { at = c.loop-entry.invariant.1 } in
    let s : ℕ = c.stripe_of.result in
    let is : s ≡ stripe_of x.0 config.stripes = c.stripe_of.ensures in
    let within : stripe_of x.0 config.stripes < config.stripes = search rules in
    let old : Vec (Key × Value) Global = c.index_mut-list.result.now in
    let read : slice_get lists s ≡ Some old = slice_get_read lists (length lists) s old refl (let n = c.loop-entry.invariant.0 in omega arith) c.index_mut-list.ensures.value in
    let at : slice_get lists (stripe_of x.0 config.stripes) ≡ Some old = subst (λ (n : ℕ). slice_get lists n ≡ Some old) is read in
    elim c.if-len-config.branch [
      | then-len-config+in_ok-push w ↦
          let new : Vec (Key × Value) Global = w.push.new.self in
          let room = w.if-len-config.true in
          let r = deal_in contents config before lists x old new has within at (omega arith) w.in_ok-push.ensures.items in
          let items : c.if-len-config.lists.items ≡ set lists (stripe_of x.0 config.stripes) new = ap (λ v. v.items) w.lists-is ∙ ap (λ (n : ℕ). set lists n new) is in (
            ap vec_len w.lists-is ∙ c.loop-entry.invariant.0,
            λ n lt. ap (λ l. option_map contents (slice_get l n)) items ∙ r.0.at n lt ∙ ap (λ l. Some (kept config n l)) more,
            ap (λ v. v.items) w.dropped-is ∙ c.loop-entry.invariant.2 ∙ sym r.1 ∙ ap (dropped config) more,
          )
      | else-len-config+in_ok-push-2 w ↦
          let full = w.if-len-config.false in
          let r = deal_out contents config before lists x old has within at (omega arith) in
          let items : c.if-len-config.lists.items ≡ set lists (stripe_of x.0 config.stripes) old = ap (λ v. v.items) w.lists-is ∙ ap (λ (n : ℕ). set lists n old) is in (
            ap vec_len w.lists-is ∙ c.loop-entry.invariant.0,
            λ n lt. ap (λ l. option_map contents (slice_get l n)) items ∙ r.0.at n lt ∙ ap (λ l. Some (kept config n l)) more,
            ap (λ v. v.items) w.dropped-is ∙ w.in_ok-push-2.ensures.items ∙ ap (λ l. l ++ x ∷ []) c.loop-entry.invariant.2 ∙ sym r.1 ∙ ap (dropped config) more,
          )
    ]

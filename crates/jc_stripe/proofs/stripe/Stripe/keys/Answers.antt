use Rattle.std.proofs.Common.{◌≡◌, ◌++◌, List, length, take, drop, subst, ap, sym, ◌∙◌, arith}
use Rattle.std.proofs.lemmas.List.{take-append-drop}
use Rattle.std.proofs.Math.Seq.{take-append_seam, drop-append_seam}
use Rattle.std.specs.List.Sorted.{IsPermutation}
use Rattle.std.specs.Map.{keys_of}
use Rattle.jc_model.specs.Cache.{Bytes}
use Rattle.jc_stripe.specs.State.{State}
use Rattle.jc_stripe.specs.OrderOfUse.{by_use}
use Rattle.jc_stripe.proofs.stripe.Stripe.keys.Goals as goal

pub returns-clause-keys : goal.returns-clause-keys
returns-clause-keys c =
    let former : List Bytes = c.args.out.now.items in
    let list : List Bytes = keys_of c.self.inside.entries.list in
    let now : List Bytes = c.sort_from.new.keys.items in
    let start = c.len-start.result in
    let at : start ≡ length former = omega (arith, c.len-start.ensures, c.args.out.now.ok.0) in
    let filled : c.keys.new.out.items ≡ former ++ list = c.keys.ensures.items in
    let front : take start now ≡ former =
    c.sort_from.ensures.before ∙ ap (take start) filled ∙ ap (λ n. take n (former ++ list)) at ∙ take-append_seam former list in
    let back : drop start c.keys.new.out.items ≡ list =
    ap (drop start) filled ∙ ap (λ n. drop n (former ++ list)) at ∙ drop-append_seam former list in
    let listed : list ≡ keys_of (by_use c.args.self.now.opening c.args.self.now.history) =
    ap keys_of c.self.invariant.by_use ∙ ap (λ (s : State). keys_of (by_use s.opening s.history)) c.self.view_is in (
      drop start now,
      sym (take-append-drop start now) ∙ ap (λ xs. xs ++ drop start now) front,
      record {
        each = subst (λ xs. IsPermutation xs (drop start now)) (back ∙ listed) c.sort_from.ensures.each;
        order = c.sort_from.ensures.order;
      },
    )

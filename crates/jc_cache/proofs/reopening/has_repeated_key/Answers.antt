use Rattle.jc_cache.proofs.Common.{◌≡◌, ◌+◌, ◌||◌, ◌≤◌, ℕ, Bool, length, take, sym, ap, subst, ◌∙◌, arith, All-more, All-same, list_any, IsReached}
use Rattle.jc_cache.specs.Reopening.{shares_left}
use Rattle.std.proofs.Math.ListN.{drop_of_length-le}
use Rattle.std.proofs.Math.Seq.{take-length}
use Rattle.jc_cache.proofs.Reopenings.{rest_whole, asked_of, found_repeated}
use Rattle.jc_cache.proofs.reopening.has_repeated_key.Goals as goal
use Rattle.jc_cache.proofs.reopening.has_repeated_key.Goals.{then-found, else-found}

pub loop-i-preserved : goal.loop-i-preserved
loop-i-preserved c =
    let stripes = c.args.stripes.now in
    let i = c.loop-i.i in
    let asked = c.shares_with_any-shares.ensures in
    let joined : c.if-found.found ≡ (c.loop-i.found || c.shares_with_any-shares.result) =
    elim c.if-found.branch [
      | then-found w ↦ w.found-is ∙ w.if-found.true ∙ ap (λ (b : Bool). b || c.shares_with_any-shares.result) (sym w.if-found.true)
      | else-found w ↦ w.found-is ∙ ap (λ (b : Bool). b || c.shares_with_any-shares.result) (sym w.if-found.false)
    ] in
    record {
      found = rw joined (asked_of stripes i c.index-stripes-i.result c.loop-i.found c.shares_with_any-shares.result c.loop-i-test.true c.index-stripes-i.is (asked.shares ∙ ap (list_any (shares_left c.index-stripes-i.result)) (rest_whole stripes (i + 1))) c.loop-i.invariant.found);
      reached = All-more IsReached stripes i c.index-stripes-i.result c.loop-i-test.true c.loop-i.invariant.reached (subst IsReached c.index-stripes-i.is asked.reached);
    }

pub returns : goal.returns
returns c =
    let stripes = c.args.stripes.now in
    let past : length stripes ≤ c.loop-i.i = c.loop-i-test.false in
    let end = c.loop-i.auto.i-end in
    let all : length stripes ≡ c.loop-i.i = omega arith in
    found_repeated stripes _ c.loop-i.found (drop_of_length-le stripes past)
    (All-same IsReached stripes _ (sym (take-length stripes) ∙ ap (λ (n : ℕ). take n stripes) all) c.loop-i.invariant.reached) c.loop-i.invariant.found

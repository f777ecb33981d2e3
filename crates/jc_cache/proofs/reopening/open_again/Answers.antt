use Rattle.jc_cache.proofs.Common.{rules, ◌≡◌, ◌∙◌, Ok, true, check}
use Rattle.jc_cache.specs.Reopening.{all_left}
use Rattle.jc_model.specs.Listed.{has_distinct_keys}
use Rattle.jc_cache.proofs.Reopenings.{reopened_so}
use Rattle.jc_cache.proofs.reopening.open_again.Goals as goal

pub returns-in-Ok-open_with-clause-ok : goal.returns-in-Ok-open_with-clause-ok
returns-in-Ok-open_with-clause-ok c =
    let fits : check c.args.config.now ≡ Ok tt = search rules in
    let once : has_distinct_keys (all_left c.args.stripes.now) ≡ true = search rules in
    reopened_so c.keeps_or_drops.ensures c.lived.result _ c.args.config.now c.deref.result.now (all_left c.args.stripes.now) c.in-Ok-open_with.made.0 c.in-Ok-open_with.made.1.items
    fits once c.lived.ensures (c.deref.ensures.value ∙ c.in-Ok.ensures) c.in-Ok-open_with.ensures.0 c.in-Ok-open_with.ensures.1

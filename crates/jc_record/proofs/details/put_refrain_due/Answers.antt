use Rattle.jc_record.proofs.Common.{◌∙◌, ◌++◌, List, ℕ, ap, append_assoc}
use Rattle.std.specs.Prelude.{codes}
use Rattle.jc_record.specs.Details.{reply_words, refrain_due}
use Rattle.jc_record.proofs.details.put_refrain_due.Goals as goal

pub returns : goal.returns
unfolding refrain_due
returns c =
    let out : List ℕ = c.args.out.now.items in
    let words : List ℕ = codes ": it had to answer without asking the writer: " in
    let reply : List ℕ = reply_words c.args.spot.now c.args.call.now in
    c.in_ok-put-2.ensures
    ∙ ap (λ (x : List ℕ). x ++ codes "\n") (c.in_ok-put_reply_after.ensures ∙ ap (λ (x : List ℕ). x ++ reply) c.in_ok-put.ensures)
    ∙ append_assoc (out ++ words) reply (codes "\n")
    ∙ append_assoc out words (reply ++ codes "\n")

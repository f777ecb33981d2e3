use Rattle.jc_rounds.proofs.Common.{ap, slice_get, sym, ◌∙◌, Put, put_ops}
use Rattle.jc_rounds.proofs.SoFar.{key_at}
use Rattle.jc_rounds.proofs.TargetOps.{put_at, same_keys}
use Rattle.jc_rounds.proofs.targets.Targets.key.Goals as goal

pub returns-in-Each : goal.returns-in-Each
returns-in-Each c = rw c.in-Each.is (ap (λ ks. slice_get ks c.args.place) (same_keys c.in-Each._op c.in-Each.keys.now) ∙ c.key_in.ensures)

pub returns-in-Some : goal.returns-in-Some
returns-in-Some c =
    let entries = c.in-Puts.entries.now.entries in
    let value = c.in-Some._value.now in
    rw c.in-Puts.is (key_at (put_ops entries) c.args.place c.in-Some.key.now (Put value) (put_at entries c.args.place c.in-Some.key.now value (sym c.in-Some.ensures.entry)))

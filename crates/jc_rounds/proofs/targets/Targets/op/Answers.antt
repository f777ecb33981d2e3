use Rattle.jc_rounds.proofs.Common.{sym, Put, put_ops}
use Rattle.jc_rounds.proofs.TargetOps.{op_at, put_at, same_op}
use Rattle.jc_rounds.proofs.targets.Targets.op.Goals as goal

pub returns-in-Each : goal.returns-in-Each
returns-in-Each c = rw c.in-Each.is (same_op c.in-Each.op c.in-Each._keys.now c.args.place)

pub returns-in-Some : goal.returns-in-Some
returns-in-Some c =
    let entries = c.in-Puts.entries.now.entries in
    rw c.in-Puts.is (λ key is. op_at (put_ops entries) c.args.place key c.in-Some._key.now (Put c.in-Some.value.now) (put_at entries c.args.place c.in-Some._key.now c.in-Some.value.now (sym c.in-Some.ensures.entry)) is)

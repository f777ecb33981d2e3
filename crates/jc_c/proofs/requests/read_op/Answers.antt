use Rattle.std.proofs.Common.{ap, ◌∙◌}
use Rattle.jc_model.specs.Cache.{Bytes}
use Rattle.jc_c.specs.Requests.{op_of_number}
use Rattle.jc_c.proofs.requests.read_op.Goals as goal

pub returns-in-Some-clause-op : goal.returns-in-Some-clause-op
returns-in-Some-clause-op c = c.in-Some.ensures.op c.args.value.now c.args.other.now

pub returns-in-Some-op_with_value-clause-op : goal.returns-in-Some-op_with_value-clause-op
returns-in-Some-op_with_value-clause-op c =
    c.in-Some-op_with_value.ensures.op c.args.other.now ∙ ap (λ (v : Bytes). op_of_number c.args.op v c.args.other.now) c.in_ok-old.ensures.value

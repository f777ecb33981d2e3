use Rattle.std.proofs.Common.{append_assoc, rules}
use Rattle.jc_history.proofs.codec.encoding.encode_step.Goals as goal

pub returns-clause-appends : goal.returns-clause-appends
returns-clause-appends c = record {
  items =
      rw (← c.step.view_is, c.encode_shared_with.ensures.appends.items, c.encode_op.ensures.appends.items, c.encode_key.ensures.appends.items, c.encode_caller.ensures.appends.items, c.encode_reply.ensures.appends.items, c.encode_out.ensures.appends.items, c.push_reserved.ensures.items) (simp append_assoc);
  few = search rules;
  capacity = search rules;
}

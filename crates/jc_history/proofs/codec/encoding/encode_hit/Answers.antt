use Rattle.std.proofs.Common.{append_assoc, rules}
use Rattle.jc_history.proofs.codec.encoding.encode_hit.Goals as goal

pub returns-clause-appends : goal.returns-clause-appends
returns-clause-appends c = record {
  items =
      rw (c.append-3.ensures.items, c.append-2.ensures.items, c.encode_hit_caller.ensures.appends.items, c.append.ensures.items, c.encode_hit_start.ensures.items, c.bytes-value.ensures.bytes, c.bytes-key.ensures.bytes) (simp append_assoc);
  few = search rules;
  capacity = search rules;
}

pub returns-clause-encodable : goal.returns-clause-encodable
returns-clause-encodable c = record {
  caller_is = c.encode_hit_caller.ensures.encodable;
  key_is = search rules;
  op_is = tt;
  out_is = record { load_is = tt; write_is = tt; process_is = tt };
  shared_with_is = tt;
  reply_is = search rules;
}

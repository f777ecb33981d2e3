-- Counts of calls of a loader and a writer.
--     one_more_call    a count and one more call, up to the greatest `u64`
--     after_call       the counts after one more call: its method's count is one more, and no other changes
use Rattle.std.specs.Prelude.{◌+◌, ℕ, min}
use Rattle.jc_store.specs.declared.doubles.counts.Call.{Call}
use Rattle.jc_store.specs.declared.doubles.counts.Call.TheVariants.{Load, LoadAll, Write, WriteAll, Delete, DeleteAll}
use Rattle.jc_store.specs.declared.doubles.counts.CallCounts.{CallCounts}

abbrev pub one_more_call : ℕ → ℕ
one_more_call n = min (n + 1) 18446744073709551615

abbrev pub after_call : CallCounts → Call → CallCounts
after_call counts Load = record counts { loads = one_more_call counts.loads }
after_call counts LoadAll = record counts { load_batches = one_more_call counts.load_batches }
after_call counts Write = record counts { writes = one_more_call counts.writes }
after_call counts WriteAll = record counts { write_batches = one_more_call counts.write_batches }
after_call counts Delete = record counts { deletes = one_more_call counts.deletes }
after_call counts DeleteAll = record counts { delete_batches = one_more_call counts.delete_batches }

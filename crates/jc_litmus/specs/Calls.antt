-- The calls of a program, by the numbers with which an expectation names them.
--     item_reply_kind    the kind of replies of a call; no other item is answered
--     is_call            an item is a call, and neither a write of another program nor an invalidation
--     named_or           a call's place among its thread's calls, and its kind of replies, if it has replies
--     reply_kind_at      the kind of replies of an item, if there is one
--     call_in            a call of a thread: its place among the thread's calls, and its kind of replies
--     place_of           the place of a number that counts from 1
--     call_at            the call at a place of a thread, if there is such a thread
--     call_named         the call with these numbers of its thread and of its item, which count from 1
use Rattle.std.specs.Prelude.{ℕ, zero, suc, List, take, count_by, slice_get, Bool, true, false, Option, None, Some, Result, Ok, Err}
use Rattle.jc_model.specs.declared.event.Op.TheVariants.{Invoke}
use Rattle.jc_explore.specs.declared.program.Item.{Item}
use Rattle.jc_explore.specs.declared.program.Item.TheVariants as item
use Rattle.jc_litmus.specs.declared.program.LineFault.{LineFault}
use Rattle.jc_litmus.specs.declared.program.LineFault.TheVariants.{NoSuchItem}
use Rattle.jc_litmus.specs.declared.reply_words.ReplyKind.{ReplyKind}
use Rattle.jc_litmus.specs.declared.calls.Named.{Named}
use Rattle.jc_litmus.specs.ReplyWords.{reply_kind}
use Rattle.jc_litmus.specs.Then.{◌>>=◌}

abbrev pub item_reply_kind : Item → Option ReplyKind
item_reply_kind (item.Call op key) = Some (reply_kind op)
item_reply_kind (item.Invoke key calls) = Some (reply_kind Invoke)
item_reply_kind (item.Foreign key value) = None
item_reply_kind (item.Invalidate key) = None

abbrev pub is_call : Item → Bool
is_call (item.Call op key) = true
is_call (item.Invoke key calls) = true
is_call (item.Foreign key value) = false
is_call (item.Invalidate key) = false

abbrev pub named_or : ℕ → Option ReplyKind → Result (ℕ × ReplyKind) LineFault
named_or call None = Err NoSuchItem
named_or call (Some kind) = Ok (call, kind)

abbrev pub reply_kind_at : Option Item → Option ReplyKind
reply_kind_at None = None
reply_kind_at (Some one) = item_reply_kind one

abbrev pub call_in : List Item → ℕ → Result (ℕ × ReplyKind) LineFault
call_in items at = named_or (count_by is_call (take at items)) (reply_kind_at (slice_get items at))

abbrev pub place_of : ℕ → Result ℕ LineFault
place_of zero = Err NoSuchItem
place_of (suc place) = Ok place

abbrev pub call_at : ℕ → ℕ → Option (List Item) → Result Named LineFault
call_at thread at None = Err NoSuchItem
call_at thread at (Some items) = call_in items at >>= λ call. Ok (record { thread = thread; call = call.0; kind = call.1 })

unfoldable pub call_named : List (List Item) → ℕ → ℕ → Result Named LineFault
call_named threads thread at = do
  thread ← place_of thread
  at ← place_of at
  call_at thread at (slice_get threads thread)

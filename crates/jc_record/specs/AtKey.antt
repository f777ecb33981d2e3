-- The calls of a record at one key.
--     PartValue              what is known of a call at a key, up to a line
--     CallValue, call_value  a call as it is judged, as data
--     begun                  a call with its operation, at the line that begins it
--     removal                a processor's run that removes its entry: a `removeAll` tells of no key whether it was there
--     when, put_part, part_of_bulk, part_of_line, part_of, part_begun
--                            what a call asks for at a key, if it names it
--     with_load_asked, with_write_asked, change_said
--                            its loader or its writer is asked: its step isn't before that; to be asked twice is odd
--     is_by, with_loaded, loads_said, load_failed, with_written, writes_said, write_failed_at, write_failed
--                            they answer whom they were asked by
--     value_found, reply_found, reply_unfound, reply_each, reply_one, reply_of_get_all, reply_at
--                            what a call answers at a key
--     with_reply             the call has ended
--     part_after             what is known after a line of the call
--     is_of                  a line is one of the call with a number
--     part_over              what is known after the call's lines, up to its end
--     is_untouched, made     the call as it is judged: a `removeAll` of all keys that asked no writer for this one found it missing
--     is_odd                 it asked its loader or writer twice, or answered before they did
--     AtKey, new_at_key      the calls at a key, with what the store has there at first
--     foreign_call           what another program did
--     at_foreign, at_set, at_call, at_note, at_place, at_key
--                            the same with one more line, and with those at some places
use Rattle.std.specs.Prelude.{◌==◌, ℕ, List, [], ◌∷◌, ◌++◌, drop, Bool, true, false, ◌&&◌, ◌||◌, Option, None, Some, is_some}
use Rattle.std.specs.Prelude.{is_none, Result, Ok, Err, if◌then◌else◌}
use Rattle.std.specs.Cmp.Lexicographic.{pointwise}
use Rattle.jc_types.specs.declared.refusal.Refusal.TheVariants.{LoaderFailed}
use Rattle.jc_model.specs.Batches.{is_among}
use Rattle.jc_model.specs.Cache.{Bytes}
use Rattle.jc_model.specs.declared.event.Change.{Change}
use Rattle.jc_model.specs.declared.event.Change.TheVariants as change
use Rattle.jc_model.specs.declared.event.Effect.TheVariants as effect
use Rattle.jc_model.specs.declared.event.LoadAnswer.{LoadAnswer}
use Rattle.jc_model.specs.declared.event.LoadAnswer.TheVariants as load
use Rattle.jc_model.specs.declared.event.Op.{Op}
use Rattle.jc_model.specs.declared.event.Op.TheVariants as op
use Rattle.jc_model.specs.declared.event.Out.{Out}
use Rattle.jc_model.specs.declared.event.ProcessAnswer.{ProcessAnswer}
use Rattle.jc_model.specs.declared.event.ProcessAnswer.TheVariants as process
use Rattle.jc_model.specs.declared.event.Reply.{Reply}
use Rattle.jc_model.specs.declared.event.Reply.TheVariants as reply
use Rattle.jc_model.specs.declared.event.WriteAnswer.{WriteAnswer}
use Rattle.jc_model.specs.declared.event.WriteAnswer.TheVariants as write
use Rattle.jc_model.specs.declared.processor.EntryAnswer.TheVariants as entry
use Rattle.jc_model.specs.declared.processor.EntryCall.TheVariants as entry_call
use Rattle.jc_model.specs.Table.{is_load_given, is_process_given, is_write_given, reply_after}
use Rattle.jc_check.specs.declared.record.EntrySight.{EntrySight}
use Rattle.jc_check.specs.declared.record.Recorded.{Recorded}
use Rattle.jc_check.specs.declared.record.Role.{Role}
use Rattle.jc_check.specs.declared.record.Role.TheVariants as role
use Rattle.jc_check.specs.declared.record.Stored.{Stored}
use Rattle.jc_check.specs.declared.record.Stored.TheVariants.{Known}
use Rattle.jc_text.specs.declared.fault.Fault.{Fault}
use Rattle.jc_text.specs.declared.read.line.BulkLine.{BulkLine}
use Rattle.jc_text.specs.declared.read.line.BulkLine.TheVariants as bulk
use Rattle.jc_text.specs.declared.read.line.Line.{Line}
use Rattle.jc_text.specs.declared.read.line.Line.TheVariants as line
use Rattle.jc_text.specs.Words.{distinct_keys_of, key_of, number_of, pairs_of, value_or_none_of}
use Rattle.jc_record.specs.declared.note.NoteKind.{NoteKind}
use Rattle.jc_record.specs.declared.note.NoteKind.TheVariants as kind
use Rattle.jc_record.specs.declared.part.Ask.{Ask}
use Rattle.jc_record.specs.declared.part.Ask.TheVariants as ask
use Rattle.jc_record.specs.declared.told.AnswerForm.{AnswerForm}
use Rattle.jc_record.specs.declared.told.AnswerForm.TheVariants as form
use Rattle.jc_record.specs.declared.told.Told.{Told}
use Rattle.jc_record.specs.declared.told.Told.TheVariants as told
use Rattle.jc_record.specs.Notes.{NoteValue, rest_of}
use Rattle.jc_record.specs.Words.{RunValue, call_line, form_of_op, is_named, keys_left, run_of, said_of, stored_told, told_of}

-- 1. A call.

pub record PartValue : Type 0 where
  pub ask : Ask
  pub thread : ℕ
  pub began : ℕ
  pub ended : Option ℕ
  pub op : Op
  pub load : LoadAnswer
  pub write : WriteAnswer
  pub process : ProcessAnswer
  pub change : Option Change
  pub sights : List EntrySight
  pub reply : Option Reply
  pub load_by : Option ℕ
  pub write_by : Option ℕ
  pub twice : Bool

pub record CallValue : Type 0 where
  pub role : Role
  pub thread : ℕ
  pub began : ℕ
  pub ended : Option ℕ
  pub op : Op
  pub out : Out
  pub change : Option Change
  pub sights : List EntrySight
  pub reply : Option Reply

abbrev pub call_value : Recorded → CallValue
call_value c =
    record {
      role = c.role;
      thread = c.thread;
      began = c.began;
      ended = c.ended;
      op = c.op;
      out = c.out;
      change = c.change;
      sights = c.sights.items;
      reply = c.reply;
    }

-- 2. Its begin.

abbrev pub same_key : Bytes → Bytes → Bool
same_key a b = pointwise ◌==◌ a b

abbrev pub begun : NoteValue → Ask → Op → PartValue
begun n asked operation =
    record {
      ask = asked;
      thread = n.thread;
      began = n.at;
      ended = None;
      op = operation;
      load = load.NotAsked;
      write = write.NotAsked;
      process = process.NotAsked;
      change = None;
      sights = [];
      reply = None;
      load_by = None;
      write_by = None;
      twice = false;
    }

abbrev pub removal : PartValue → PartValue
removal p =
    record p {
      process = process.Ended effect.Remove None;
      sights = record { call = entry_call.Remove; answer = entry.Done } ∷ [];
    }

abbrev pub when : {X : Type 0} → Bool → X → Option X
when true x = Some x
when false x = None

abbrev pub put_part : NoteValue → Option LoadAnswer → Option PartValue
put_part n (Some (load.Found value)) = Some (begun n ask.Each (op.Put value))
put_part n other = None

-- the words are those of the call
abbrev pub part_of_bulk : Bytes → NoteValue → List (List ℕ) → BulkLine → Option PartValue
part_of_bulk key n words (bulk.GetAll keys) = when (is_among keys key) (begun n ask.GetAll op.Get)
part_of_bulk key n words (bulk.PutAll pairs) = put_part n (said_of key (pairs_of (drop 1 words)))
part_of_bulk key n words (bulk.RemoveAll keys) = when (is_among keys key) (removal (begun n ask.Each op.Invoke))
part_of_bulk key n words bulk.RemoveEvery = Some (removal (begun n ask.Every op.Invoke))
part_of_bulk key n words bulk.Clear = Some (begun n ask.Each op.Clear)
part_of_bulk key n words (bulk.LoadAll replace keys) = when (is_among keys key) (begun n ask.Each (op.LoadAll replace))
part_of_bulk key n words (bulk.InvokeAll keys) = when (is_among keys key) (begun n ask.Each op.Invoke)

abbrev pub part_of_line : Bytes → NoteValue → List (List ℕ) → Line → Option PartValue
part_of_line key n words (line.Begin call session operation) = when (same_key operation.key key) (begun n ask.One operation.op)
part_of_line key n words (line.BeginBulk call session many) = part_of_bulk key n words many
part_of_line key n words other = None

abbrev pub part_of : Bytes → NoteValue → List (List ℕ) → Result Line Fault → Option PartValue
part_of key n words (Ok l) = part_of_line key n words l
part_of key n words (Err fault) = None

unfoldable pub part_begun : Bytes → NoteValue → Option PartValue
part_begun key n = part_of key n (rest_of n) (call_line (rest_of n))

-- 3. Its lines.

abbrev pub with_load_asked : PartValue → NoteValue → PartValue
with_load_asked p n =
    record p { began = n.at; load_by = Some n.thread; twice = p.twice || is_some p.load_by || is_load_given p.load }

abbrev pub with_write_asked : PartValue → NoteValue → Change → PartValue
with_write_asked p n asked =
    record p { began = n.at; write_by = Some n.thread; change = Some asked; twice = p.twice || is_some p.change }

abbrev pub change_said : PartValue → NoteValue → Option LoadAnswer → PartValue
change_said p n (Some (load.Found value)) = with_write_asked p n (change.Write value)
change_said p n other = p

abbrev pub is_by : Option ℕ → ℕ → Bool
is_by None thread = false
is_by (Some one) thread = one == thread

abbrev pub with_loaded : PartValue → NoteValue → LoadAnswer → PartValue
with_loaded p n answer = if is_by p.load_by n.thread then record p { load = answer; load_by = None } else p

abbrev pub loads_said : PartValue → NoteValue → Option LoadAnswer → PartValue
loads_said p n None = p
loads_said p n (Some answer) = with_loaded p n answer

abbrev pub load_failed : PartValue → NoteValue → Result ℕ Fault → PartValue
load_failed p n (Ok code) = with_loaded p n (load.Failed code)
load_failed p n (Err fault) = p

abbrev pub code_of : List (List ℕ) → Result ℕ Fault
code_of [] = number_of []
code_of (code ∷ words) = number_of code

abbrev pub with_written : PartValue → NoteValue → WriteAnswer → PartValue
with_written p n answer = if is_by p.write_by n.thread then record p { write = answer; write_by = None } else p

abbrev pub writes_said : Bytes → List (List ℕ) → WriteAnswer
writes_said key words = if is_named key (keys_left words) then write.Failed 0 else write.Done

abbrev pub write_failed_at : Bytes → ℕ → List (List ℕ) → WriteAnswer
write_failed_at key code [] = write.Failed code
write_failed_at key code (but ∷ keys) = if is_named key (keys_left (but ∷ keys)) then write.Failed code else write.Done

abbrev pub write_failed : Bytes → PartValue → NoteValue → List (List ℕ) → Result ℕ Fault → PartValue
write_failed key p n words (Ok code) = with_written p n (write_failed_at key code (drop 1 words))
write_failed key p n words (Err fault) = p

abbrev pub with_run : PartValue → Result RunValue Fault → PartValue
with_run p (Ok run) = record p { process = run.end; sights = run.sights }
with_run p (Err fault) = p

abbrev pub is_key : Bytes → Result Bytes Fault → Bool
is_key key (Ok other) = same_key other key
is_key key (Err fault) = false

abbrev pub processed : Bytes → PartValue → List (List ℕ) → PartValue
processed key p [] = p
processed key p (k ∷ words) = if is_key key (key_of k) then with_run p (run_of words) else p

-- 4. Its end.

abbrev pub value_found : LoadAnswer → Option Bytes
value_found (load.Found value) = Some value
value_found other = None

abbrev pub reply_found : Option LoadAnswer → Option Reply
reply_found None = None
reply_found (Some answer) = Some (reply.Value (value_found answer))

-- at a key whose load failed
abbrev pub reply_unfound : LoadAnswer → Option Reply
reply_unfound (load.Failed code) = Some (reply.Fault (LoaderFailed code))
reply_unfound other = None

abbrev pub is_done : Told → Bool
is_done (told.Reply reply.Unit) = true
is_done other = false

abbrev pub out_of : PartValue → Out
out_of p = record { load = p.load; write = p.write; process = p.process }

abbrev pub is_answered : PartValue → Bool
is_answered p = is_load_given p.load || is_write_given p.write || is_process_given p.process

-- a call of many keys that failed has its answer at those keys for which it got one outside
abbrev pub reply_each : PartValue → Told → Option Reply
reply_each p answer = when (is_done answer || is_answered p) (reply_after p.op None (out_of p))

abbrev pub reply_one : Told → Option Reply
reply_one (told.Reply r) = Some r
reply_one other = None

abbrev pub reply_of_get_all : Bytes → PartValue → List (List ℕ) → Told → Option Reply
reply_of_get_all key p words told.All = reply_found (said_of key (pairs_of (drop 1 words)))
reply_of_get_all key p words other = reply_unfound p.load

abbrev pub reply_at : Bytes → PartValue → List (List ℕ) → Ask → Told → Option Reply
reply_at key p words ask.One answer = reply_one answer
reply_at key p words ask.GetAll answer = reply_of_get_all key p words answer
reply_at key p words ask.Each answer = reply_each p answer
reply_at key p words ask.Every answer = reply_each p answer

abbrev pub form_at : PartValue → Ask → AnswerForm
form_at p ask.One = form_of_op p.op
form_at p ask.GetAll = form.All
form_at p other = form.Unit

abbrev pub with_reply : Bytes → PartValue → NoteValue → List (List ℕ) → Result Told Fault → PartValue
with_reply key p n words (Ok answer) = record p { ended = Some n.at; reply = reply_at key p words p.ask answer }
with_reply key p n words (Err fault) = record p { ended = Some n.at }

-- 5. The call as it is judged.

abbrev pub part_after_words : Bytes → PartValue → NoteValue → List (List ℕ) → NoteKind → PartValue
part_after_words key p n words kind.Load = if is_named key (distinct_keys_of words) then with_load_asked p n else p
part_after_words key p n words kind.Loads = loads_said p n (said_of key (pairs_of words))
part_after_words key p n words kind.LoadFails = load_failed p n (code_of words)
part_after_words key p n words kind.Write = change_said p n (said_of key (pairs_of words))
part_after_words key p n words kind.Delete = if is_named key (distinct_keys_of words) then with_write_asked p n change.Delete else p
part_after_words key p n words kind.Writes = with_written p n (writes_said key words)
part_after_words key p n words kind.WriteFails = write_failed key p n words (code_of words)
part_after_words key p n words kind.Process = processed key p words
part_after_words key p n words kind.Is = with_reply key p n words (told_of (form_at p p.ask) words)
part_after_words key p n words kind.Set = p
part_after_words key p n words kind.Call = p
part_after_words key p n words kind.Foreign = p

unfoldable pub part_after : Bytes → PartValue → NoteValue → PartValue
part_after key p n = part_after_words key p n (rest_of n) n.kind

-- lines of `set` and of other programs have the number 0
abbrev pub has_call : NoteKind → Bool
has_call kind.Set = false
has_call kind.Foreign = false
has_call other = true

abbrev pub is_end_kind : NoteKind → Bool
is_end_kind kind.Is = true
is_end_kind other = false

abbrev pub is_of : ℕ → NoteValue → Bool
is_of call n = (n.call == call) && has_call n.kind

-- up to the end of the call: after it the number may be another call's
abbrev pub part_over : Bytes → ℕ → PartValue → List NoteValue → PartValue
part_over key call p [] = p
part_over key call p (n ∷ notes) =
    if is_of call n
    then (if is_end_kind n.kind then part_after key p n else part_over key call (part_after key p n) notes)
    else part_over key call p notes

abbrev pub is_every : Ask → Bool
is_every ask.Every = true
is_every other = false

-- of all keys, with write-through on
abbrev pub is_untouched : Bool → PartValue → Bool
is_untouched write_through p = is_every p.ask && write_through && is_none p.change

abbrev pub missing_if : Option Reply → Option Reply
missing_if None = None
missing_if (Some r) = Some (reply.Flag false)

abbrev pub untouched : PartValue → CallValue
untouched p =
    record {
      role = role.Call;
      thread = p.thread;
      began = p.began;
      ended = p.ended;
      op = op.ContainsKey;
      out = record { load = load.NotAsked; write = write.NotAsked; process = process.NotAsked };
      change = None;
      sights = [];
      reply = missing_if p.reply;
    }

abbrev pub touched : PartValue → CallValue
touched p =
    record {
      role = role.Call;
      thread = p.thread;
      began = p.began;
      ended = p.ended;
      op = p.op;
      out = out_of p;
      change = p.change;
      sights = p.sights;
      reply = p.reply;
    }

abbrev pub made : Bool → PartValue → CallValue
made write_through p = if is_untouched write_through p then untouched p else touched p

abbrev pub is_odd : PartValue → Bool
is_odd p = p.twice || ((is_some p.load_by || is_some p.write_by) && is_some p.reply)

-- 6. All calls.

pub record AtKey : Type 0 where
  pub store : Stored
  pub calls : List CallValue
  pub odd : Bool

abbrev pub new_at_key : AtKey
new_at_key = record { store = Known None; calls = []; odd = false }

abbrev pub change_of : Option Bytes → Change
change_of None = change.Delete
change_of (Some value) = change.Write value

abbrev pub foreign_call : NoteValue → Option Bytes → CallValue
foreign_call n value =
    record {
      role = role.Foreign;
      thread = n.thread;
      began = n.at;
      ended = Some n.at;
      op = op.Get;
      out = record { load = load.NotAsked; write = write.NotAsked; process = process.NotAsked };
      change = Some (change_of value);
      sights = [];
      reply = Some reply.Unit;
    }

abbrev pub with_stored : AtKey → Result Stored Fault → AtKey
with_stored so_far (Ok store) = record so_far { store = store }
with_stored so_far (Err fault) = so_far

abbrev pub with_foreign : AtKey → NoteValue → Result (Option Bytes) Fault → AtKey
with_foreign so_far n (Ok value) = record so_far { calls = so_far.calls ++ foreign_call n value ∷ [] }
with_foreign so_far n (Err fault) = so_far

abbrev pub with_part : Bool → AtKey → PartValue → AtKey
with_part write_through so_far p =
    record so_far { calls = so_far.calls ++ made write_through p ∷ []; odd = so_far.odd || is_odd p }

abbrev pub with_begun : Bytes → Bool → AtKey → NoteValue → List NoteValue → Option PartValue → AtKey
with_begun key write_through so_far n notes None = so_far
with_begun key write_through so_far n notes (Some p) = with_part write_through so_far (part_over key n.call p notes)

abbrev pub second_word : List (List ℕ) → List ℕ
second_word (a ∷ b ∷ words) = b
second_word words = []

-- notes: those after it
abbrev pub at_note_of : Bytes → Bool → AtKey → NoteValue → List NoteValue → NoteKind → AtKey
at_note_of key write_through so_far n notes kind.Set = with_stored so_far (stored_told (second_word (rest_of n)))
at_note_of key write_through so_far n notes kind.Foreign = with_foreign so_far n (value_or_none_of (second_word (rest_of n)))
at_note_of key write_through so_far n notes kind.Call = with_begun key write_through so_far n notes (part_begun key n)
at_note_of key write_through so_far n notes other = so_far

unfoldable pub at_note : Bytes → Bool → AtKey → List NoteValue → AtKey
at_note key write_through so_far [] = so_far
at_note key write_through so_far (n ∷ notes) = at_note_of key write_through so_far n notes n.kind

abbrev pub at_places : Bytes → Bool → List NoteValue → AtKey → List ℕ → AtKey
at_places key write_through notes so_far [] = so_far
at_places key write_through notes so_far (place ∷ places) =
    at_places key write_through notes (at_note key write_through so_far (drop place notes)) places

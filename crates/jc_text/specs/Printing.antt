-- What is printed, as bytes. A name that ends in `_line` is of one whole line, and one that ends in `_text` of a part of a line, or
-- of a line or more or none.
--     value_text, value_or_none_text      a value, with a tilde for the empty one; the same, with a dash for none
--     coded_text, refusal_text               a fault's name and code; a refusal's name, with the code if it has one
--     flag_text, reply_text                  a yes or no; a reply
--     place_text                             a stripe, and a place in its history
--     subject                                how a line of a call's key begins: the call's number and the key
--     piece_text                             a part of a line
--     cause_name                             the word for an eviction's cause
--     evict_line, victim_text, evicted_text      an eviction; the one directly before a step, if there is one; the one of a
--                                            step's own key, if there is one
--     invalidated_at_text                    that of an invalidated key which no step tells, if there is one
--     outcome_text                           what a call's key is, and where
--     stepped_text                           a step, with the evictions before and after it
--     picked_line                            the answer of a load that the call had joined
--     loads_line, write_line, delete_line, asks_text      that the loader is asked; that the writer is asked to write, and to
--                                            delete; either of these two
--     process_line                           that the processor is asked, on this entry
--     joined_line, waits_line, again_line      that a call has joined, that its load isn't over, that it is told to retry
--     dropped_line, refused_line, put_off_line     that a call has left; that it was refused; that a key is to be tried again
--     refused_whole_line                     that a call was refused whole
--     cause_text                             the first fault or last refusal that a call has met, or that it has met none
--     over_line                              that a call of many keys is over, with its cause
--     fails_line, fails_text                 a failure's code; the same, if there is one
--     answer_line, answer_text               a value or none that a loader read or said; any answer of a loader: one that fails
--                                            says nothing of its key
--     done_name, change_name                 the word for a change that was made; the same, or that for one that wasn't
--     reported_line, reported_text, returned_text      a key for which a writer returns; all of them, and its fault
--     got_line, exists_line                  what a processor's `getValue` gave, and its `exists`
--     load_verb                              the word for a processor's loader
--     answers_text                           what a processor's calls were answered, with the line of its load before the first
--                                            value
--     ready_line, due_text                   that a processor has ended and no writer is asked; the same, or what the writer is
--                                            asked for
--     processed_text, process_outcome_text   a processor's run; what is printed of it, from its outcome
--     shown_text                             what is printed of an outcome, for a call and a key
--     begun_text                             what is printed of the beginning of a call: nothing, unless it is refused whole
--     left_text                              a call that is given up
--     foreign_line                           a write or a delete of somebody else
--     invalidate_line, invalidated_text      that a key is invalidated, with what follows the key; an invalidation, with the
--                                            eviction of the entry, or that the key is marked
--     key_text, keys_line                    a key after a space; a word, and after it keys
--     reopened_text                          that the cache was opened again, with the keys that were dropped
--     told                                   what is printed of an event, from its outcome
--     end_text                               that a call of many keys is over, and with which cause, if one is
--     event_text                             what is printed of an event, from what the world showed of it
--     texts                                  the same of events one after another
--     entry_text, entries_line               an entry, and a line of entries, in an audit
--     coherence_text                         the keys that differ, or that there is none
--     legal_name, history_line               whether the history is legal; the same after the number of its events
--     audit_text                             what is printed of an audit
--     fault_line                             the line that ends a transcript
use Rattle.std.specs.Prelude.{◌==◌, ℕ, ◌-◌, List, [], ◌∷◌, ◌++◌, length, codes, decimal, Bool, true, false, Option, None, Some}
use Rattle.std.specs.Prelude.{if◌then◌else◌}
use Rattle.std.specs.List.{flat_map}
use Rattle.jc_types.specs.declared.refusal.Refusal.{Refusal}
use Rattle.jc_types.specs.declared.refusal.Refusal.TheVariants.{HistoryFull, Busy, TooManyInFlight, TooManyJoiners, LoaderFailed}
use Rattle.jc_types.specs.declared.refusal.Refusal.TheVariants.{WriterFailed, ProcessorFailed, OutOfMemory, TooManyKeys, BadConfig}
use Rattle.jc_types.specs.declared.refusal.Refusal.TheVariants.{NoLoader, NoWriter, TooManySessions, StillReserved, RepeatedKey}
use Rattle.jc_types.specs.Refusals.{refusal_name}
use Rattle.jc_model.specs.Cache.{Bytes}
use Rattle.jc_model.specs.declared.event.Cause.{Cause}
use Rattle.jc_model.specs.declared.event.Cause.TheVariants.{Full, Memory, Invalidated}
use Rattle.jc_model.specs.declared.event.Change.{Change}
use Rattle.jc_model.specs.declared.event.Change.TheVariants.{Write, Delete}
use Rattle.jc_model.specs.declared.event.LoadAnswer.{LoadAnswer}
use Rattle.jc_model.specs.declared.event.LoadAnswer.TheVariants as load
use Rattle.jc_model.specs.declared.processor.EntryAnswer.{EntryAnswer}
use Rattle.jc_model.specs.declared.processor.EntryAnswer.TheVariants as entry
use Rattle.jc_model.specs.declared.event.Reply.{Reply}
use Rattle.jc_model.specs.declared.event.Reply.TheVariants as reply
use Rattle.jc_world.specs.declared.event.WorldEvent.{WorldEvent}
use Rattle.jc_world.specs.declared.event.WorldEvent.TheVariants as event
use Rattle.jc_world.specs.declared.event.Outcome.{Outcome}
use Rattle.jc_world.specs.declared.event.Outcome.TheVariants as outcome
use Rattle.jc_world.specs.declared.event.Over.{Over}
use Rattle.jc_world.specs.declared.event.Shown.{Shown}
use Rattle.jc_stripe.specs.declared.begun.Eviction.{Eviction}
use Rattle.jc_world.specs.declared.event.EvictionPlace.{EvictionPlace}
use Rattle.jc_world.specs.declared.event.Stepped.{Stepped}
use Rattle.jc_world.specs.declared.event.JoinAnswer.{JoinAnswer}
use Rattle.jc_world.specs.declared.reports.Reported.{Reported}
use Rattle.jc_world.specs.declared.reports.ReportedKey.{ReportedKey}
use Rattle.jc_world.specs.declared.process.LoadSource.{LoadSource}
use Rattle.jc_world.specs.declared.process.LoadSource.TheVariants.{Store, Stated, Failing}
use Rattle.jc_world.specs.declared.process.ShownRun.{ShownRun}
use Rattle.jc_text.specs.declared.fault.Fault.{Fault}
use Rattle.jc_text.specs.declared.print.Piece.{Piece}
use Rattle.jc_text.specs.declared.print.Piece.TheVariants as piece
use Rattle.jc_text.specs.FaultTexts.{text_of}

-- 1. Values, replies and places.

abbrev pub value_text : Bytes → List ℕ
value_text value = if length value == 0 then codes "~" else value

abbrev pub value_or_none_text : Option Bytes → List ℕ
value_or_none_text None = codes "-"
value_or_none_text (Some value) = value_text value

-- a fault's name and code
unfoldable pub coded_text : Refusal → ℕ → List ℕ
coded_text refusal code = refusal_name refusal ++ codes " " ++ decimal code

abbrev pub refusal_text : Refusal → List ℕ
refusal_text (LoaderFailed code) = coded_text (LoaderFailed code) code
refusal_text (WriterFailed code) = coded_text (WriterFailed code) code
refusal_text (ProcessorFailed code) = coded_text (ProcessorFailed code) code
refusal_text HistoryFull = refusal_name HistoryFull
refusal_text Busy = refusal_name Busy
refusal_text TooManyInFlight = refusal_name TooManyInFlight
refusal_text TooManyJoiners = refusal_name TooManyJoiners
refusal_text OutOfMemory = refusal_name OutOfMemory
refusal_text TooManyKeys = refusal_name TooManyKeys
refusal_text (BadConfig field) = refusal_name (BadConfig field)
refusal_text NoLoader = refusal_name NoLoader
refusal_text NoWriter = refusal_name NoWriter
refusal_text TooManySessions = refusal_name TooManySessions
refusal_text StillReserved = refusal_name StillReserved
refusal_text RepeatedKey = refusal_name RepeatedKey

abbrev pub flag_text : Bool → List ℕ
flag_text true = codes "true"
flag_text false = codes "false"

abbrev pub reply_text : Reply → List ℕ
reply_text reply.Unit = codes "ok"
reply_text (reply.Flag flag) = flag_text flag
reply_text (reply.Value value) = value_or_none_text value
reply_text (reply.Fault refusal) = refusal_text refusal

-- a stripe, and a place in its history
unfoldable pub place_text : ℕ → ℕ → List ℕ
place_text stripe place = codes " at " ++ decimal stripe ++ codes "." ++ decimal place

-- 2. What is printed of a call's key, from what was shown.

-- how such a line begins
unfoldable pub subject : ℕ → Bytes → List ℕ
subject call key = decimal call ++ codes " " ++ key

-- a part of a line
abbrev pub piece_text : Piece → List ℕ
piece_text (piece.Text text) = text.now
piece_text (piece.Number n) = decimal n
piece_text (piece.Key key) = key.now
piece_text (piece.Subject call key) = subject call key.now
piece_text (piece.Value value) = value_text value.now
piece_text (piece.ValueOrNone value) = value_or_none_text value.now
piece_text (piece.Flag flag) = flag_text flag
piece_text (piece.Refusal refusal) = refusal_text refusal.now
piece_text (piece.Reply reply) = reply_text reply.now
piece_text (piece.Place stripe place) = place_text stripe place

abbrev pub cause_name : Cause → List ℕ
cause_name Full = codes "full"
cause_name Memory = codes "memory"
cause_name Invalidated = codes "invalidated"

unfoldable pub evict_line : Bytes → Cause → ℕ → ℕ → List ℕ
evict_line key cause stripe place = codes "evict " ++ key ++ codes " " ++ cause_name cause ++ place_text stripe place ++ codes "\n"

-- the eviction directly before a step, which made room in a full stripe
abbrev pub victim_text : Option Bytes → ℕ → ℕ → List ℕ
victim_text None stripe place = []
victim_text (Some victim) stripe place = evict_line victim Full stripe (place - 1)

-- the eviction of a step's own key after it, at its own place
abbrev pub evicted_text : Bytes → Option Eviction → ℕ → List ℕ
evicted_text key None stripe = []
evicted_text key (Some gone) stripe = evict_line key gone.cause stripe gone.place

-- after the end of a reservation that was given back, and after an invalidation
abbrev pub invalidated_at_text : Bytes → Option EvictionPlace → List ℕ
invalidated_at_text key None = []
invalidated_at_text key (Some at) = evict_line key Invalidated at.stripe at.place

-- what a call's key is, and where
unfoldable pub outcome_text : ℕ → Bytes → Reply → ℕ → ℕ → List ℕ
outcome_text call key reply stripe place = subject call key ++ codes " is " ++ reply_text reply ++ place_text stripe place

unfoldable pub stepped_text : ℕ → Bytes → Stepped → List ℕ
stepped_text call key seen =
    victim_text seen.victim seen.stripe seen.place
    ++ outcome_text call key seen.reply seen.stripe seen.place ++ codes "\n"
    ++ evicted_text key seen.evicted seen.stripe

-- the answer of a load that the call had joined, with the place of the step that loaded
unfoldable pub picked_line : ℕ → Bytes → JoinAnswer → List ℕ
picked_line call key seen =
    outcome_text call key seen.reply seen.stripe seen.place ++ codes " shared " ++ decimal seen.shared ++ codes "\n"

abbrev pub loads_line : ℕ → Bytes → List ℕ
loads_line call key = subject call key ++ codes " load\n"

unfoldable pub write_line : ℕ → Bytes → Bytes → List ℕ
write_line call key value = subject call key ++ codes " write " ++ value_text value ++ codes "\n"

abbrev pub delete_line : ℕ → Bytes → List ℕ
delete_line call key = subject call key ++ codes " delete\n"

abbrev pub asks_text : ℕ → Bytes → Change → List ℕ
asks_text call key (Write value) = write_line call key value
asks_text call key Delete = delete_line call key

unfoldable pub process_line : ℕ → Bytes → Option Bytes → List ℕ
process_line call key entry = subject call key ++ codes " process " ++ value_or_none_text entry ++ codes "\n"

abbrev pub joined_line : ℕ → Bytes → List ℕ
joined_line call key = subject call key ++ codes " joined\n"

abbrev pub waits_line : ℕ → Bytes → List ℕ
waits_line call key = subject call key ++ codes " waits\n"

abbrev pub again_line : ℕ → Bytes → List ℕ
again_line call key = subject call key ++ codes " again\n"

unfoldable pub dropped_line : ℕ → List ℕ
dropped_line call = decimal call ++ codes " dropped\n"

unfoldable pub refused_line : ℕ → Bytes → Refusal → List ℕ
refused_line call key refusal = subject call key ++ codes " refused " ++ refusal_name refusal ++ codes "\n"

unfoldable pub refused_whole_line : ℕ → Refusal → List ℕ
refused_whole_line call refusal = decimal call ++ codes " refused " ++ refusal_name refusal ++ codes "\n"

abbrev pub cause_text : Option Refusal → List ℕ
cause_text None = codes "ok"
cause_text (Some refusal) = refusal_text refusal

unfoldable pub over_line : ℕ → Option Refusal → List ℕ
over_line call cause = decimal call ++ codes " over " ++ cause_text cause ++ codes "\n"

abbrev pub put_off_line : ℕ → Bytes → List ℕ
put_off_line call key = subject call key ++ codes " put off\n"

unfoldable pub fails_line : ℕ → ℕ → List ℕ
fails_line call code = decimal call ++ codes " fails " ++ decimal code ++ codes "\n"

unfoldable pub answer_line : ℕ → Bytes → List ℕ → Option Bytes → List ℕ
answer_line call key verb value = subject call key ++ verb ++ value_or_none_text value ++ codes "\n"

-- of a load that fails nothing is printed at its key
abbrev pub answer_text : ℕ → Bytes → List ℕ → LoadAnswer → List ℕ
answer_text call key verb load.NotAsked = []
answer_text call key verb (load.Found value) = answer_line call key verb (Some value)
answer_text call key verb load.Nothing = answer_line call key verb None
answer_text call key verb (load.Failed code) = []

abbrev pub done_name : Change → List ℕ
done_name (Write value) = codes " written\n"
done_name Delete = codes " deleted\n"

abbrev pub change_name : Change → Bool → List ℕ
change_name change true = done_name change
change_name change false = codes " left\n"

abbrev pub fails_text : ℕ → Option ℕ → List ℕ
fails_text call None = []
fails_text call (Some code) = fails_line call code

unfoldable pub reported_line : ℕ → ReportedKey → List ℕ
reported_line call one = subject call one.key ++ change_name one.change one.is_changed

-- each key that the writer was asked for, and after them its fault
abbrev pub reported_text : ℕ → Reported → List ℕ
reported_text call seen = flat_map (reported_line call) seen.keys ++ fails_text call seen.fault

abbrev pub returned_text : ℕ → Outcome → List ℕ
returned_text call (outcome.Reported seen) = reported_text call seen
returned_text call seen = []

unfoldable pub got_line : ℕ → Option Bytes → List ℕ
got_line call value = decimal call ++ codes " got " ++ value_or_none_text value ++ codes "\n"

unfoldable pub exists_line : ℕ → Bool → List ℕ
exists_line call there = decimal call ++ codes " exists " ++ flag_text there ++ codes "\n"

abbrev pub load_verb : LoadSource → List ℕ
load_verb Store = codes " reads "
load_verb (Stated value) = codes " says "
load_verb (Failing code) = codes " says "

-- the first `getValue` asks the loader, so its load comes before the first value; one that fails is printed where it is
abbrev pub answers_text : ℕ → List ℕ → List EntryAnswer → List ℕ
answers_text call loaded [] = []
answers_text call loaded (entry.Value value ∷ answers) = loaded ++ got_line call value ++ answers_text call [] answers
answers_text call loaded (entry.Present there ∷ answers) = exists_line call there ++ answers_text call loaded answers
answers_text call loaded (entry.Done ∷ answers) = answers_text call loaded answers
answers_text call loaded (entry.Failed code ∷ answers) = fails_line call code ++ answers_text call loaded answers

abbrev pub ready_line : ℕ → Bytes → List ℕ
ready_line call key = subject call key ++ codes " ready\n"

abbrev pub due_text : ℕ → Bytes → Option Change → List ℕ
due_text call key None = ready_line call key
due_text call key (Some change) = asks_text call key change

unfoldable pub processed_text : ℕ → Bytes → List ℕ → ShownRun → List ℕ
processed_text call key verb seen =
    answers_text call (answer_text call key verb seen.load) seen.answers ++ fails_text call seen.fault
    ++ due_text call key seen.change

abbrev pub shown_text : ℕ → Bytes → Outcome → List ℕ
shown_text call key outcome.Begun = []
shown_text call key outcome.Looked = []
shown_text call key (outcome.Stepped seen) = stepped_text call key seen
shown_text call key outcome.Loads = loads_line call key
shown_text call key (outcome.Asks change) = asks_text call key change
shown_text call key (outcome.Processes entry) = process_line call key entry
shown_text call key (outcome.Processed seen) = []
shown_text call key outcome.Joins = joined_line call key
shown_text call key (outcome.Refused refusal) = refused_line call key refusal
shown_text call key (outcome.PutOff refusal) = put_off_line call key
shown_text call key (outcome.Reads answer) = answer_text call key (codes " reads ") answer
shown_text call key (outcome.Says answer) = answer_text call key (codes " says ") answer
shown_text call key outcome.Changed = []
shown_text call key (outcome.Reported seen) = []
shown_text call key (outcome.Withdrawn evicted) = invalidated_at_text key evicted
shown_text call key outcome.Left = []
shown_text call key (outcome.PickedUp seen) = picked_line call key seen
shown_text call key outcome.Waits = waits_line call key
shown_text call key outcome.Again = again_line call key
shown_text call key outcome.Written = []
shown_text call key (outcome.Invalidated evicted) = []
shown_text call key outcome.Marked = []
shown_text call key (outcome.Reopened keys) = []
shown_text call key outcome.Unfit = []

-- a run is printed with the word for its loader
abbrev pub process_outcome_text : ℕ → Bytes → LoadSource → Outcome → List ℕ
process_outcome_text call key source (outcome.Processed seen) = processed_text call key (load_verb source) seen
process_outcome_text call key source seen = shown_text call key seen

-- 3. What is printed of events.

unfoldable pub foreign_line : Bytes → Option Bytes → List ℕ
foreign_line key value = codes "foreign " ++ key ++ codes " " ++ value_or_none_text value ++ codes "\n"

unfoldable pub invalidate_line : Bytes → List ℕ → List ℕ
invalidate_line key text = codes "invalidate " ++ key ++ text

abbrev pub invalidated_text : Bytes → Outcome → List ℕ
invalidated_text key (outcome.Invalidated evicted) = invalidate_line key (codes "\n") ++ invalidated_at_text key evicted
invalidated_text key outcome.Marked = invalidate_line key (codes " marked\n")
invalidated_text key seen = []

-- a call that is refused whole
abbrev pub begun_text : ℕ → Outcome → List ℕ
begun_text call (outcome.Refused refusal) = refused_whole_line call refusal
begun_text call seen = []

-- a call that is given up
abbrev pub left_text : ℕ → Outcome → List ℕ
left_text call outcome.Left = dropped_line call
left_text call seen = []

unfoldable pub key_text : Bytes → List ℕ
key_text key = codes " " ++ key

-- a word, and after it keys
unfoldable pub keys_line : List ℕ → List Bytes → List ℕ
keys_line name keys = name ++ flat_map key_text keys ++ codes "\n"

-- the keys that were dropped
abbrev pub reopened_text : Outcome → List ℕ
reopened_text (outcome.Reopened keys) = keys_line (codes "reopened") keys
reopened_text seen = []

-- of the outcome of one event
abbrev pub told : WorldEvent → Outcome → List ℕ
told (event.Call call session command) seen = begun_text call seen
told (event.Look call stripe) seen = []
told (event.Start call key) seen = shown_text call key seen
told (event.Read call key) seen = shown_text call key seen
told (event.Say call key answer) seen = shown_text call key seen
told (event.Change call key) seen = shown_text call key seen
told (event.Report call left fault) seen = returned_text call seen
told (event.Process call key source calls fail) seen = process_outcome_text call key source seen
told (event.Commit call key) seen = shown_text call key seen
told (event.Withdraw call key) seen = shown_text call key seen
told (event.Leave call) seen = left_text call seen
told (event.PickUp call key) seen = shown_text call key seen
told (event.Foreign key value) seen = foreign_line key value
told (event.Invalidate key) seen = invalidated_text key seen
told (event.Reopen config) seen = reopened_text seen

-- a call that is given up, or refused whole, or has one key, is not said to be over
abbrev pub end_text : Option Over → List ℕ
end_text None = []
end_text (Some over) = over_line over.call over.cause

-- a call is over behind what its last event shows
abbrev pub event_text : WorldEvent → Shown → List ℕ
event_text e seen = told e seen.outcome ++ end_text seen.over

abbrev pub texts : List WorldEvent → List Shown → List ℕ
texts [] seen = []
texts (e ∷ events) [] = []
texts (e ∷ events) (s ∷ seen) = event_text e s ++ texts events seen

-- 4. An audit, and the last line.

unfoldable pub entry_text : Bytes × Bytes → List ℕ
entry_text entry = codes " " ++ entry.0 ++ codes "=" ++ value_text entry.1

unfoldable pub entries_line : List ℕ → List (Bytes × Bytes) → List ℕ
entries_line name entries = name ++ flat_map entry_text entries ++ codes "\n"

abbrev pub coherence_text : List Bytes → List ℕ
coherence_text [] = codes "coherent\n"
coherence_text (key ∷ keys) = keys_line (codes "differs") (key ∷ keys)

abbrev pub legal_name : Bool → List ℕ
legal_name true = codes " legal\n"
legal_name false = codes " illegal\n"

unfoldable pub history_line : ℕ → Bool → List ℕ
history_line events legal = codes "history " ++ decimal events ++ legal_name legal

unfoldable pub audit_text : List (Bytes × Bytes) → List (Bytes × Bytes) → List Bytes → ℕ → Bool → List ℕ
audit_text cached stored keys events legal =
    entries_line (codes "cache") cached ++ entries_line (codes "store") stored ++ coherence_text keys ++ history_line events legal

unfoldable pub fault_line : ℕ → Fault → List ℕ
fault_line number fault = codes "line " ++ decimal number ++ codes ": " ++ text_of fault ++ codes "\n"

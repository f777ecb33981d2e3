-- What an answer says of a key besides its line and its calls: the order that explains it, or a part that no order explains, and
-- why.
--     act_text, line_at, turn_line, witness_text
--                             what a call does in a turn; a call's line, if it is there; a turn; turns
--     part_line, part_lines   a call, unless it is forgotten; calls
--     part_size               how many calls a part has
--     is_minimal              each call of a part is known to be needed
--     part_head, part_text    how a part is told, by whether it has all calls and is minimal, and how many it has; a part
--     entry_text, store_text, shared_text, spot_text
--                             the entry, what the store has, a load that may be shared, and what is at a key
--     does_load_differ        the store has something else than the loader answered
--     is_writer_asked         the writer has to be asked
--     ask_text                what a loader ought to have been asked, if that differs
--     reply_words             what a call answers by the operation table
--     reply_due, refrain_due, load_due, writer_due, due_text
--                             what a call had to answer; or what its loader had to answer; or whether its writer had to be asked;
--                             or whether its loader had to be asked: the first that differs
--     spot_line, reason_head, reason_text
--                             one thing that could be at a key, and what the call had to do; whose reasons they are; and all of
--                             them
use Rattle.std.specs.Prelude.{◌==◌, ℕ, List, [], ◌++◌, length, codes, decimal, Bool, true, false, not, ◌&&◌, nat_le, nat_lt, Option}
use Rattle.std.specs.Prelude.{None, Some, is_none, is_some, slice_get, if◌then◌else◌}
use Rattle.std.specs.List.{count_by, flat_map, list_all}
use Rattle.jc_model.specs.Cache.{Bytes}
use Rattle.jc_model.specs.declared.event.LoadAnswer.{LoadAnswer}
use Rattle.jc_model.specs.declared.event.LoadAnswer.TheVariants as load
use Rattle.jc_model.specs.declared.table.LoaderAsk.{LoaderAsk}
use Rattle.jc_model.specs.declared.table.LoaderAsk.TheVariants as ask
use Rattle.jc_model.specs.Table.{early_fault, holds, is_invoke, is_load_given, is_write_given, loader_ask, reply_after, write_ask}
use Rattle.jc_text.specs.Printing.{reply_text, value_text}
use Rattle.jc_check.specs.declared.record.Act.{Act}
use Rattle.jc_check.specs.declared.record.Act.TheVariants as act
use Rattle.jc_check.specs.declared.record.Recorded.{Recorded}
use Rattle.jc_check.specs.declared.record.Rules.{Rules}
use Rattle.jc_check.specs.declared.record.Spot.{Spot}
use Rattle.jc_check.specs.declared.record.Stored.{Stored}
use Rattle.jc_check.specs.declared.record.Stored.TheVariants.{Unknown, Known}
use Rattle.jc_check.specs.declared.record.Turn.{Turn}
use Rattle.jc_check.specs.declared.record.Turn.TheVariants.{Vanish, Call}
use Rattle.jc_check.specs.declared.reasons.Reason.{Reason}
use Rattle.jc_check.specs.declared.smallest.RefutedPart.{RefutedPart}
use Rattle.jc_check.specs.Explains.{is_forgotten}
use Rattle.jc_check.specs.Parts.{is_settled_need}
use Rattle.jc_record.specs.declared.details.TheConstants.{REASONS_MAX}
use Rattle.jc_record.specs.declared.judge.TheConstants.{LISTED_MAX}
use Rattle.jc_record.specs.Answers.{call_line, span_text}

-- 1. An order.

abbrev pub act_text : Act → List ℕ
act_text act.Step = codes "  step"
act_text act.Share = codes "  share"
act_text act.Land = codes "  land"
act_text act.Foreign = codes "  foreign"
act_text act.LeaveEntry = codes "  leave the entry"
act_text act.LeaveStore = codes "  leave in the store"
act_text act.LeaveBoth = codes "  leave both"
act_text act.LeaveLoad = codes "  leave what was loaded"

abbrev pub line_at : Option Recorded → List ℕ
line_at None = codes "\n"
line_at (Some c) = call_line c

abbrev pub turn_line : List Recorded → Turn → List ℕ
turn_line calls Vanish = codes "  the entry vanishes\n"
turn_line calls (Call i does) = act_text does ++ line_at (slice_get calls i)

abbrev pub witness_text : List Recorded → List Turn → List ℕ
witness_text calls turns = flat_map (turn_line calls) turns

-- 2. A part.

abbrev pub part_line : Recorded → List ℕ
part_line c = if is_forgotten c.role then [] else call_line c

abbrev pub part_lines : List Recorded → List ℕ
part_lines calls = flat_map part_line calls

abbrev pub part_size : RefutedPart → ℕ
part_size p = count_by (λ k. k) p.kept.items

abbrev pub is_minimal : RefutedPart → Bool
is_minimal p = list_all is_settled_need p.needs.items

unfoldable pub sized_text : List ℕ → ℕ → List ℕ
sized_text words size = words ++ decimal size ++ codes ":\n"

-- is it all calls; is it minimal
abbrev pub part_head : Bool → Bool → ℕ → List ℕ
part_head true true size = codes "  each of them is needed: without it some order explains the others\n"
part_head true false size = []
part_head false true size = sized_text (codes "  the smallest part has ") size
part_head false false size = sized_text (codes "  a part, and perhaps not the smallest, has ") size

-- is it told with its calls
abbrev pub part_body : Bool → RefutedPart → List ℕ
part_body true p = part_lines p.calls.items
part_body false p = []

abbrev pub part_text : RefutedPart → List ℕ
part_text p =
    part_head (length p.kept.items == part_size p) (is_minimal p) (part_size p)
    ++ part_body (nat_lt (part_size p) (length p.kept.items) && nat_le (part_size p) LISTED_MAX) p

-- 3. Why.

abbrev pub entry_text : Option Bytes → List ℕ
entry_text None = codes "missing"
entry_text (Some value) = value_text value

abbrev pub store_text : Stored → List ℕ
store_text Unknown = []
store_text (Known None) = codes " and the store had nothing"
store_text (Known (Some value)) = codes " and the store had " ++ value_text value

abbrev pub shared_text : LoadAnswer → List ℕ
shared_text load.NotAsked = []
shared_text (load.Found value) = codes ", just loaded"
shared_text load.Nothing = codes ", and a load had just found nothing"
shared_text (load.Failed code) = codes ", and a load had just failed with " ++ decimal code

unfoldable pub spot_text : Spot → List ℕ
spot_text s = codes "    the entry was " ++ entry_text s.entry ++ store_text s.store ++ shared_text s.shared

abbrev pub does_load_differ : Bool → Stored → LoadAnswer → Bool
does_load_differ is_known store load.NotAsked = false
does_load_differ is_known store (load.Failed code) = false
does_load_differ is_known Unknown (load.Found value) = false
does_load_differ is_known Unknown load.Nothing = false
does_load_differ is_known (Known stored) (load.Found value) = is_known && not (holds stored value)
does_load_differ is_known (Known stored) load.Nothing = is_known && is_some stored

abbrev pub is_writer_asked : Rules → Spot → Recorded → Bool
is_writer_asked rules s c =
    rules.config.write_through && is_none (early_fault c.out) && is_some (write_ask c.op s.entry c.out.process)

unfoldable pub reply_words : Spot → Recorded → List ℕ
reply_words s c = reply_text (reply_after c.op s.entry c.out)

unfoldable pub reply_due : Spot → Recorded → List ℕ
reply_due s c = codes ": it had to answer " ++ reply_words s c ++ codes "\n"

unfoldable pub refrain_due : Spot → Recorded → List ℕ
refrain_due s c = codes ": it had to answer without asking the writer: " ++ reply_words s c ++ codes "\n"

abbrev pub answer_due : Bool → Spot → Recorded → List ℕ
answer_due true s c = codes ": its processor had to see that\n"
answer_due false s c = reply_due s c

abbrev pub load_due : Bool → Spot → Recorded → List ℕ
load_due true s c = codes ": its loader had to find that\n"
load_due false s c = answer_due (is_invoke c.op) s c

-- does the writer have to be asked; was it
abbrev pub writer_due : Bool → Bool → Rules → Spot → Recorded → List ℕ
writer_due true false rules s c = codes ": it had to ask the writer\n"
writer_due false true rules s c = refrain_due s c
writer_due true true rules s c = load_due (does_load_differ rules.is_store_known s.store c.out.load) s c
writer_due false false rules s c = load_due (does_load_differ rules.is_store_known s.store c.out.load) s c

-- whether the loader has to be asked; whether it was
abbrev pub loader_due : LoaderAsk → Bool → Rules → Spot → Recorded → List ℕ
loader_due ask.Always false rules s c = codes ": it had to ask the loader\n"
loader_due ask.Never true rules s c = codes ": it had no reason to ask the loader\n"
loader_due ask.Always true rules s c = writer_due (is_writer_asked rules s c) (is_write_given c.out.write) rules s c
loader_due ask.Never false rules s c = writer_due (is_writer_asked rules s c) (is_write_given c.out.write) rules s c
loader_due ask.IfWanted given rules s c = writer_due (is_writer_asked rules s c) (is_write_given c.out.write) rules s c

abbrev pub due_text : Rules → Spot → Recorded → List ℕ
due_text rules s c = loader_due (loader_ask rules.config.read_through c.op s.entry) (is_load_given c.out.load) rules s c

abbrev pub spot_line : Rules → Recorded → Spot → List ℕ
spot_line rules c s = spot_text s ++ due_text rules s c

unfoldable pub reason_head : Recorded → List ℕ
reason_head c = span_text c ++ codes "has no place; when it was its turn,\n"

abbrev pub is_told : Reason → Bool
is_told r = nat_lt 0 (length r.spots.items) && nat_le (length r.spots.items) REASONS_MAX

abbrev pub reason_lines : Bool → Rules → Option Recorded → List Spot → List ℕ
reason_lines false rules o spots = []
reason_lines true rules None spots = []
reason_lines true rules (Some c) spots = reason_head c ++ flat_map (spot_line rules c) spots

abbrev pub reason_text : Rules → List Recorded → Reason → List ℕ
reason_text rules calls r = reason_lines (is_told r) rules (slice_get calls r.call) r.spots.items

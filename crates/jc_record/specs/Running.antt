-- The check of a record, from the bytes of a reader to the bytes of a writer.
--     Asked, rules_of          what is asked, and the rules of a record by it
--     opening_spot             what is at a key at first: the cache is empty
--     end_of_verdict           how a key ends by a verdict
--     IsJudged                 the verdict on calls, or none if one of them is odd
--     end_of_judged            how a key ends by it
--     at_key                   the calls at a key, by the places of the lines that name it, and of those that name every key
--     is_listed, listed_text   the calls of a key that isn't explained, up to a number of them
--     ReasonTold, PartTold     a text tells why no order explains a part, and such a part of calls that no order explains
--     IsPartTold, IsDetail     a text tells such a part, if parts are told; it tells the order that explains a key, if it is asked
--                              for; or such a part, if it is told
--     is_told                  parts are told for so many keys alone
--     case_of, AnswersCase     what calls are judged by, and a text is the answer for a key with these calls
--     AnswersKey, AnswersKeys  a text is the answer for a key, whose calls may be in any order, and for keys
--     end_of                   the end of a check
--     AnswersCalls             the answer for a record that was read
--     hint_text, complaint_text
--                              what to do about a fault, and the only lines for a record whose line has one
--     IsComplaint              an output names the first line that is at fault, with its fault
--     AnswersRecord            the answer for a text
--     TakesAll                 all the bytes of a reader were taken, and they are these, within the limit
--     ChecksRecord, BreaksOffCheck
--                              the input was read to its end, and its answer written, or a part of it up to a write that failed
use Rattle.std.specs.Prelude.{◌≡◌, ◌≤◌, ◌⊎◌, ℕ, ◌+◌, List, [], ◌∷◌, ◌++◌, take, min, length, map, codes, Bool, true, false, nat_lt}
use Rattle.std.specs.Prelude.{Option, None, Some, Ok, Err, if◌then◌else◌}
use Rattle.std.specs.List.Sorted.{IsPermutation}
use Rattle.std.specs.Io.KnownBytes.{Appends, Consumes, IsAtEnd}
use Rattle.jc_model.specs.Cache.{Bytes}
use Rattle.jc_model.specs.declared.event.LoadAnswer.TheVariants as load
use Rattle.jc_check.specs.declared.record.Recorded.{Recorded}
use Rattle.jc_check.specs.declared.record.Rules.{Rules}
use Rattle.jc_check.specs.declared.record.Spot.{Spot}
use Rattle.jc_check.specs.declared.record.Stored.{Stored}
use Rattle.jc_check.specs.declared.verdict.Verdict.{Verdict}
use Rattle.jc_check.specs.declared.verdict.Verdict.TheVariants as verdict
use Rattle.jc_check.specs.Verdict.{IsVerdict}
use Rattle.jc_check.specs.declared.reasons.Reason.{Reason}
use Rattle.jc_check.specs.declared.smallest.RefutedPart.{RefutedPart}
use Rattle.jc_check.specs.Parts.{IsRefutedPart}
use Rattle.jc_check.specs.Reasons.{IsReason}
use Rattle.jc_text.specs.declared.fault.Fault.{Fault}
use Rattle.jc_text.specs.declared.fault.Fault.TheVariants as fault
use Rattle.jc_text.specs.Printing.{fault_line}
use Rattle.jc_record.specs.declared.answer.KeyEnd.{KeyEnd}
use Rattle.jc_record.specs.declared.answer.KeyEnd.TheVariants.{Explained, NotExplained, Odd, GaveUp}
use Rattle.jc_record.specs.declared.answer.Tally.{Tally}
use Rattle.jc_record.specs.declared.input.TheConstants.{RECORD_MAX}
use Rattle.jc_record.specs.declared.judge.Asked.{Asked}
use Rattle.jc_record.specs.declared.judge.Case.{Case}
use Rattle.jc_record.specs.declared.judge.Wanted.{Wanted}
use Rattle.jc_record.specs.declared.judge.TheConstants.{LISTED_MAX, PARTS_MAX, PART_NODES}
use Rattle.jc_record.specs.declared.run.RecordEnd.{RecordEnd}
use Rattle.jc_record.specs.declared.run.RecordEnd.TheVariants as ending
use Rattle.jc_record.specs.Reading.{RecordValue, record_of}
use Rattle.jc_record.specs.Index.{IndexValue, index_of, places_at}
use Rattle.jc_record.specs.AtKey.{AtKey, at_places, call_value, new_at_key}
use Rattle.jc_record.specs.Answers.{call_lines, closing_text, key_line, tally_with}
use Rattle.jc_record.specs.Details.{part_text, reason_text, witness_text}

-- 1. A key.

-- of a cache's shape only what is on counts
abbrev pub rules_of : Asked → Bool × Bool → Rules
rules_of asked flags =
    record {
      config = record { stripes = 1; capacity = 1; history = 16; read_through = flags.0; write_through = flags.1 };
      is_store_known = asked.is_store_known;
      may_vanish = asked.may_vanish;
      is_real = asked.is_real;
    }

abbrev pub opening_spot : Stored → Spot
opening_spot store = record { entry = None; store = store; shared = load.NotAsked }

abbrev pub end_of_verdict : ℕ → Verdict → KeyEnd
end_of_verdict budget (verdict.Explained turns) = Explained
end_of_verdict budget (verdict.Refuted states) = NotExplained
end_of_verdict budget (verdict.Stopped states) = GaveUp budget

abbrev pub IsJudged : Rules → Spot → ℕ → List Recorded → Bool → Option Verdict → Type 0
IsJudged rules opening budget calls odd None = odd ≡ true
IsJudged rules opening budget calls odd (Some verdict) = (odd ≡ false) × IsVerdict rules calls opening budget verdict

abbrev pub end_of_judged : ℕ → Option Verdict → KeyEnd
end_of_judged budget None = Odd
end_of_judged budget (Some verdict) = end_of_verdict budget verdict

abbrev pub at_key : Bytes → RecordValue → List ℕ → List ℕ → AtKey
at_key key r places every = at_places key r.config.1 r.notes (at_places key r.config.1 r.notes new_at_key places) every

abbrev pub is_listed : KeyEnd → Bool
is_listed Explained = false
is_listed NotExplained = true
is_listed Odd = true
is_listed (GaveUp states) = false

abbrev pub listed_text : KeyEnd → List Recorded → List ℕ
listed_text end calls = if is_listed end then call_lines (take (min (length calls) LISTED_MAX) calls) else []

abbrev pub ReasonTold : Rules → List Recorded → Spot → Option Reason → List ℕ → Type 0
ReasonTold rules calls opening None out = out ≡ []
ReasonTold rules calls opening (Some reason) out = IsReason rules calls opening reason × (out ≡ reason_text rules calls reason)

pub record PartTold (rules : Rules) (calls : List Recorded) (opening : Spot) (out : List ℕ) : Type 0 where
  pub part : RefutedPart
  pub right : IsRefutedPart rules calls opening PART_NODES part
  pub reason : Option Reason
  pub why : List ℕ
  pub told : ReasonTold rules part.calls.items opening reason why
  pub text : out ≡ part_text part ++ why

abbrev pub IsPartTold : Bool → Rules → List Recorded → Spot → List ℕ → Type 0
IsPartTold true rules calls opening out = PartTold rules calls opening out
IsPartTold false rules calls opening out = out ≡ []

-- is the order asked for; is a part told
abbrev pub IsDetail : Bool → Bool → Rules → List Recorded → Spot → Option Verdict → List ℕ → Type 0
IsDetail ordered parted rules calls opening None out = out ≡ []
IsDetail ordered parted rules calls opening (Some (verdict.Explained turns)) out =
    out ≡ (if ordered then witness_text calls turns.items else [])
IsDetail ordered parted rules calls opening (Some (verdict.Refuted states)) out = IsPartTold parted rules calls opening out
IsDetail ordered parted rules calls opening (Some (verdict.Stopped states)) out = out ≡ []

abbrev pub is_told : Tally → Bool
is_told t = nat_lt t.refuted PARTS_MAX

abbrev pub case_of : Asked → Bool × Bool → AtKey → Case
case_of asked flags at =
    record { rules = rules_of asked flags; opening = opening_spot at.store; budget = asked.states; odd = at.odd }

pub record AnswersCase (case : Case) (wanted : Wanted) (key : Bytes) (calls : List Recorded) (out : List ℕ)
    (end : KeyEnd) : Type 0 where
  pub verdict : Option Verdict
  pub judged : IsJudged case.rules case.opening case.budget calls case.odd verdict
  pub end_is : end ≡ end_of_judged case.budget verdict
  pub more : List ℕ
  pub detail : IsDetail wanted.order wanted.part case.rules calls case.opening verdict more
  pub text : out ≡ key_line key end calls ++ (listed_text end calls ++ more)

pub record AnswersKey (asked : Asked) (r : RecordValue) (key : Bytes) (places every : List ℕ) (parted : Bool) (out : List ℕ)
    (end : KeyEnd) : Type 0 where
  pub found : List Recorded
  pub recorded : map call_value found ≡ (at_key key r places every).calls
  pub calls : List Recorded
  pub sorted : IsPermutation found calls
  pub answered : AnswersCase (case_of asked r.config (at_key key r places every))
      (record { order = asked.is_ordered; part = parted }) key calls out end

-- of the keys from a number on; from how many keys ended how, to that after all of them
abbrev pub AnswersKeys : Asked → RecordValue → IndexValue → ℕ → List Bytes → Tally → List ℕ → Tally → Type 0
AnswersKeys asked r index number [] t out last = (out ≡ []) × (last ≡ t)
AnswersKeys asked r index number (key ∷ keys) t out last =
    (first : List ℕ) × (end : KeyEnd) × (rest : List ℕ)
    × AnswersKey asked r key (places_at number index.mentions) index.every (is_told t) first end
    × (out ≡ first ++ rest) × AnswersKeys asked r index (number + 1) keys (tally_with t end) rest last

-- 2. The whole answer.

abbrev pub end_of : Tally → RecordEnd
end_of t = if nat_lt 0 t.refuted then ending.NotExplained else if nat_lt 0 t.stopped then ending.GaveUp else ending.Explained

abbrev pub no_key : Tally
no_key = record { explained = 0; refuted = 0; stopped = 0 }

pub record AnswersCalls (asked : Asked) (r : RecordValue) (out : List ℕ) (end : RecordEnd) : Type 0 where
  pub text : List ℕ
  pub tally : Tally
  pub keys : AnswersKeys asked r (index_of r.notes) 0 (index_of r.notes).keys no_key text tally
  pub out_is : out ≡ text ++ closing_text tally
  pub end_is : end ≡ end_of tally

abbrev pub hint_text : Fault → List ℕ
hint_text fault.CutLine = codes "the last line has no line feed: the record may be cut off\n"
hint_text fault.BadLine = codes "see docs/CHECK.md for the lines of a record; the first is `history 1`\n"
hint_text fault.BadNumber = codes "a number has up to 9 digits, and a time up to 19 after its @\n"
hint_text fault.BadCaller = codes "a line begins with its time, if it has one, and its thread: t and a number up to 1023\n"
hint_text fault.BadKey = codes "a key is 1 to 32 letters, digits, underscores and dots\n"
hint_text fault.BadValue =
    codes "a value is up to 256 letters, digits, underscores and dots; ~ is the empty one, and - is none where none may be\n"
hint_text fault.RepeatedKey = codes "the line names a key twice\n"
hint_text fault.NotOpen = codes "`open`, with `read` and `write` if they are on, comes before the first event\n"
hint_text fault.OpenTwice = codes "one record has one `open`\n"
hint_text fault.NotRising =
    codes "its time is before that of the line above: sort the lines by their times, and keep equal ones as they are\n"
hint_text fault.NoSuchCall = codes "no call with this number has begun and not ended: its `call` comes first, and its `is` last\n"
hint_text fault.NotNow = codes "a call with this number has begun and not ended\n"
hint_text other = []

unfoldable pub complaint_text : ℕ → Fault → List ℕ
complaint_text line why = fault_line line why ++ hint_text why

pub record IsComplaint (input out : List ℕ) (end : RecordEnd) : Type 0 where
  pub line : ℕ
  pub why : Fault
  pub is_first : record_of input ≡ Err (line, why)
  pub out_is : out ≡ complaint_text line why
  pub end_is : end ≡ ending.LineFault

abbrev pub AnswersRecord : Asked → List ℕ → List ℕ → RecordEnd → Type 0
AnswersRecord asked input out end =
    ((r : RecordValue) × (record_of input ≡ Ok r) × AnswersCalls asked r out end) ⊎ IsComplaint input out end

pub record TakesAll (before after : Option (List ℕ)) (input : List ℕ) : Type 0 where
  pub taken : Consumes before after input
  pub at_end : IsAtEnd after
  pub fits : length input ≤ RECORD_MAX

pub record ChecksRecord (asked : Asked) (before after old new : Option (List ℕ)) (end : RecordEnd) : Type 0 where
  pub input : List ℕ
  pub read : TakesAll before after input
  pub out : List ℕ
  pub answer : AnswersRecord asked input out end
  pub written : Appends old new out

pub record BreaksOffCheck (asked : Asked) (before after old new : Option (List ℕ)) : Type 0 where
  pub input : List ℕ
  pub read : TakesAll before after input
  pub out : List ℕ
  pub end : RecordEnd
  pub answer : AnswersRecord asked input out end
  pub count : ℕ
  pub within : count ≤ length out
  pub written : Appends old new (take count out)

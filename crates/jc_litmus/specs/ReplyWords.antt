-- Replies: those that an operation may have, and their words in an expectation. A word is what a transcript prints, with a colon
-- in place of a space.
--     silent, loading, writing          the replies of an operation that asks nobody outside, the loader alone, the writer alone
--     answer_kind_in, answer_kind_of    the kind of answer in a reply, and that of an operation, which is the same at each key
--     reply_kind                        the replies that an operation may have
--     plain_value                       a value or none that is a reply
--     plain_reply                       the reply of a call without a fault, from its only word
--     refusal_of                        the reply of a call that was refused, from the refusal's name: a call is refused only if
--                                       its history is full, and waits otherwise
--     fault_reply                       the reply of a call with a fault, from the name and the code of the fault
--     failure_with                      the same reply, if the word of the code is a number
--     two_words                         the reply of a call that was refused, or that had a fault, from its two words
--     reply_from, reply_said            the reply that a word names, from the parts before and after its colon, if it has one,
--                                       and from the word alone
use Rattle.std.specs.Prelude.{ℕ, List, codes, true, false, ◌&&◌, Option, None, Some, Result, Ok, Err, if◌then◌else◌}
use Rattle.std.specs.Str.{bytes_eq}
use Rattle.jc_types.specs.declared.refusal.Refusal.TheVariants.{HistoryFull, LoaderFailed, WriterFailed, ProcessorFailed}
use Rattle.jc_model.specs.Cache.{Bytes}
use Rattle.jc_model.specs.declared.event.Op.{Op}
use Rattle.jc_model.specs.declared.event.OpKind.TheVariants as kinds
use Rattle.jc_model.specs.declared.event.Reply.{Reply}
use Rattle.jc_model.specs.declared.event.Reply.TheVariants as reply
use Rattle.jc_model.specs.Table.{op_kind, reply_after}
use Rattle.jc_model.specs.Group.{nothing_said}
use Rattle.jc_text.specs.declared.fault.Fault.{Fault}
use Rattle.jc_text.specs.Words.{number_of, value_or_none_of}
use Rattle.jc_litmus.specs.declared.program.LineFault.{LineFault}
use Rattle.jc_litmus.specs.declared.program.LineFault.TheVariants.{BadReply}
use Rattle.jc_litmus.specs.WordParts.{halves_of}
use Rattle.jc_litmus.specs.declared.reply_words.AnswerKind.{AnswerKind}
use Rattle.jc_litmus.specs.declared.reply_words.AnswerKind.TheVariants as answer
use Rattle.jc_litmus.specs.declared.reply_words.ReplyKind.{ReplyKind}

-- 1. The replies of each operation. (`RepliesOfTable` says that they are those of the operation table.)

abbrev pub silent : AnswerKind → ReplyKind
silent kind = record { answer = kind; loader = false; processor = false; writer = false }

abbrev pub loading : AnswerKind → ReplyKind
loading kind = record { answer = kind; loader = true; processor = false; writer = false }

abbrev pub writing : AnswerKind → ReplyKind
writing kind = record { answer = kind; loader = false; processor = false; writer = true }

-- without an outside answer no reply is a fault
abbrev pub answer_kind_in : Reply → AnswerKind
answer_kind_in reply.Unit = answer.Unit
answer_kind_in (reply.Flag flag) = answer.Flag
answer_kind_in (reply.Value value) = answer.Value
answer_kind_in (reply.Fault fault) = answer.Unit

abbrev pub answer_kind_of : Op → AnswerKind
answer_kind_of op = answer_kind_in (reply_after op None nothing_said)

abbrev pub reply_kind : Op → ReplyKind
reply_kind op = elim (op_kind op) [
  | kinds.Get ↦ loading (answer_kind_of op)
  | kinds.LoadAll replace ↦ loading (answer_kind_of op)
  | kinds.ContainsKey ↦ silent (answer_kind_of op)
  | kinds.Clear ↦ silent (answer_kind_of op)
  | kinds.Write ↦ writing (answer_kind_of op)
  | kinds.Invoke ↦ record { answer = answer_kind_of op; loader = true; processor = true; writer = true }
]

-- 2. One word: there was no fault.

abbrev pub plain_value : Result (Option Bytes) Fault → Result Reply LineFault
plain_value (Ok value) = Ok (reply.Value value)
plain_value (Err fault) = Err BadReply

abbrev pub plain_reply : AnswerKind → List ℕ → Result Reply LineFault
plain_reply answer.Unit word = if bytes_eq word (codes "ok") then Ok reply.Unit else Err BadReply
plain_reply answer.Flag word =
    if bytes_eq word (codes "true") then Ok (reply.Flag true) else
    if bytes_eq word (codes "false") then Ok (reply.Flag false) else
    Err BadReply
plain_reply answer.Value word = plain_value (value_or_none_of word)

-- 3. Two words: the call was refused, or had a fault.

abbrev pub refusal_of : List ℕ → Result Reply LineFault
refusal_of name = if bytes_eq name (codes "HistoryFull") then Ok (reply.Fault HistoryFull) else Err BadReply

abbrev pub fault_reply : ReplyKind → List ℕ → ℕ → Result Reply LineFault
fault_reply kind name code =
    if bytes_eq name (codes "LoaderFailed") && kind.loader then Ok (reply.Fault (LoaderFailed code)) else
    if bytes_eq name (codes "ProcessorFailed") && kind.processor then Ok (reply.Fault (ProcessorFailed code)) else
    if bytes_eq name (codes "WriterFailed") && kind.writer then Ok (reply.Fault (WriterFailed code)) else
    Err BadReply

abbrev pub failure_with : ReplyKind → List ℕ → Result ℕ Fault → Result Reply LineFault
failure_with kind name (Ok code) = fault_reply kind name code
failure_with kind name (Err fault) = Err BadReply

abbrev pub two_words : ReplyKind → List ℕ → List ℕ → Result Reply LineFault
two_words kind first second =
    if bytes_eq first (codes "refused") then refusal_of second else failure_with kind first (number_of second)

abbrev pub reply_from : ReplyKind → Option (List ℕ × List ℕ) → List ℕ → Result Reply LineFault
reply_from kind (Some halves) word = two_words kind halves.0 halves.1
reply_from kind None word = plain_reply kind.answer word

-- 58 is the colon
abbrev pub reply_said : ReplyKind → List ℕ → Result Reply LineFault
reply_said kind word = reply_from kind (halves_of 58 word) word

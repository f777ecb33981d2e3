-- Replies, as text: as an outcome shows them and as an expectation writes them, and the laws of both.
--     refused_text                   the text of a refusal in an outcome: a failure with its code, as in a transcript; any other
--                                    refusal is marked as one, since a value may be spelled like its name
--     replied_text                   the text of a reply in an outcome
--     unanswered_text                the text of a call that is never answered
--     colon_for_space, reply_word    the word of a reply in an expectation: that text, with a colon for the space
--     HasRefusal, HasReply           calls of a kind may be refused with this refusal, and may have this reply
--     HasCode, IsSpelled             text can spell the code of a refusal, and the code or the value of a reply
--     IsReplyOf                      a call of a kind may have this reply, and text can spell it
--     RepliesAreTold                 two different replies of calls of one kind have different texts
--     SilenceIsTold                  none of these texts is that of a call that is never answered
--     RepliesReadBack                the word of such a reply is read as that reply
--     RepliesAreOfKind               a word is read as such a reply, and as no other
--     RepliesOfTable                 each reply that the operation table gives is of the operation's kind
use Rattle.std.specs.Prelude.{◌≡◌, ◌≢◌, ◌==◌, ℕ, List, map, ◌++◌, codes, true, Option, Ok, IsTrue, if◌then◌else◌}
use Rattle.jc_types.specs.declared.config.Config.{Config}
use Rattle.jc_types.specs.declared.refusal.Refusal.{Refusal}
use Rattle.jc_types.specs.declared.refusal.Refusal.TheVariants.{HistoryFull, LoaderFailed, WriterFailed, ProcessorFailed}
use Rattle.jc_types.specs.Refusals.{is_fault, refusal_name}
use Rattle.jc_model.specs.Cache.{Bytes}
use Rattle.jc_model.specs.declared.event.Op.{Op}
use Rattle.jc_model.specs.declared.event.Out.{Out}
use Rattle.jc_model.specs.declared.event.Reply.{Reply}
use Rattle.jc_model.specs.declared.event.Reply.TheVariants as reply
use Rattle.jc_model.specs.Table.{answers_fit, reply_after}
use Rattle.jc_text.specs.Printing.{refusal_text, reply_text}
use Rattle.jc_text.specs.Spelled.{IsNumber, IsValueOrNone}
use Rattle.jc_litmus.specs.declared.reply_words.AnswerKind.TheVariants as answer
use Rattle.jc_litmus.specs.declared.reply_words.ReplyKind.{ReplyKind}
use Rattle.jc_litmus.specs.ReplyWords.{reply_kind, reply_said}

-- 1. Texts.

abbrev pub refused_text : Refusal → List ℕ
refused_text refusal = if is_fault refusal then refusal_text refusal else codes "refused " ++ refusal_name refusal

abbrev pub replied_text : Reply → List ℕ
replied_text reply.Unit = reply_text reply.Unit
replied_text (reply.Flag flag) = reply_text (reply.Flag flag)
replied_text (reply.Value value) = reply_text (reply.Value value)
replied_text (reply.Fault refusal) = refused_text refusal

abbrev pub unanswered_text : List ℕ
unanswered_text = codes "never answered"

-- 32 is the space, 58 the colon
abbrev pub colon_for_space : ℕ → ℕ
colon_for_space b = if b == 32 then 58 else b

abbrev pub reply_word : Reply → List ℕ
reply_word r = map colon_for_space (replied_text r)

-- 2. The replies that calls of a kind have.

abbrev pub HasRefusal : ReplyKind → Refusal → Type 0
HasRefusal kind HistoryFull = Unit {0}
HasRefusal kind (LoaderFailed code) = kind.loader ≡ true
HasRefusal kind (ProcessorFailed code) = kind.processor ≡ true
HasRefusal kind (WriterFailed code) = kind.writer ≡ true
HasRefusal kind other = ⊥

abbrev pub HasReply : ReplyKind → Reply → Type 0
HasReply kind reply.Unit = kind.answer ≡ answer.Unit
HasReply kind (reply.Flag flag) = kind.answer ≡ answer.Flag
HasReply kind (reply.Value value) = kind.answer ≡ answer.Value
HasReply kind (reply.Fault refusal) = HasRefusal kind refusal

abbrev pub HasCode : Refusal → Type 0
HasCode (LoaderFailed code) = IsNumber code
HasCode (ProcessorFailed code) = IsNumber code
HasCode (WriterFailed code) = IsNumber code
HasCode other = Unit {0}

abbrev pub IsSpelled : Reply → Type 0
IsSpelled reply.Unit = Unit {0}
IsSpelled (reply.Flag flag) = Unit {0}
IsSpelled (reply.Value value) = IsValueOrNone value
IsSpelled (reply.Fault refusal) = HasCode refusal

abbrev pub IsReplyOf : ReplyKind → Reply → Type 0
IsReplyOf kind r = HasReply kind r × IsSpelled r

-- 3. Laws.

abbrev pub RepliesAreTold : Type 0
RepliesAreTold =
    (kind : ReplyKind) (r s : Reply) → IsReplyOf kind r → IsReplyOf kind s → replied_text r ≡ replied_text s → r ≡ s

abbrev pub SilenceIsTold : Type 0
SilenceIsTold = (kind : ReplyKind) (r : Reply) → IsReplyOf kind r → replied_text r ≢ unanswered_text

abbrev pub RepliesReadBack : Type 0
RepliesReadBack = (kind : ReplyKind) (r : Reply) → IsReplyOf kind r → reply_said kind (reply_word r) ≡ Ok r

abbrev pub RepliesAreOfKind : Type 0
RepliesAreOfKind = (kind : ReplyKind) (word : List ℕ) (r : Reply) → reply_said kind word ≡ Ok r → HasReply kind r

abbrev pub RepliesOfTable : Type 0
RepliesOfTable =
    (config : Config) (op : Op) (entry : Option Bytes) (out : Out)
    → IsTrue (answers_fit config op entry out) → HasReply (reply_kind op) (reply_after op entry out)

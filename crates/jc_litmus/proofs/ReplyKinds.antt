-- The replies that calls of a kind have are those that are read, and those of the operation table.
--     read_of_kind        an expectation's word is read as such a reply
--     table_of_kind       each reply that the operation table gives is one
use Rattle.jc_litmus.proofs.Common.{◌≡◌, ℕ, Bool, true, false, cond, List, Option, None, Some, Result, Ok, Err, refl, subst, codes, ◌&&◌, is_none, is_some, bytes_eq, and_parts, HistoryFull, LoaderFailed, WriterFailed, ProcessorFailed, Bytes, Reply, Fault, number_of, value_or_none_of, LineFault, BadReply, ReplyKind, halves_of, failure_with, plain_reply, plain_value, refusal_of, reply_from, reply_kind, HasRefusal, HasReply, RepliesAreOfKind, RepliesOfTable}
use Rattle.std.specs.Bool.{beq}
use Rattle.jc_types.specs.declared.refusal.Refusal.{Refusal}
use Rattle.jc_model.specs.declared.event.Op.{Op}
use Rattle.jc_model.specs.declared.event.Op.TheVariants.{Get, ContainsKey, Clear, LoadAll, Invoke}
use Rattle.jc_model.specs.declared.event.Out.{Out}
use Rattle.jc_model.specs.declared.event.LoadAnswer.{LoadAnswer}
use Rattle.jc_model.specs.declared.event.LoadAnswer.TheVariants as load
use Rattle.jc_model.specs.declared.event.WriteAnswer.{WriteAnswer}
use Rattle.jc_model.specs.declared.event.WriteAnswer.TheVariants as write
use Rattle.jc_model.specs.declared.event.ProcessAnswer.{ProcessAnswer}
use Rattle.jc_model.specs.declared.event.ProcessAnswer.TheVariants as process
use Rattle.jc_model.specs.declared.event.Reply.TheVariants as reply
use Rattle.jc_model.specs.Table.{early_fault, first_fault, first_of_two, is_invoke, is_load_given, is_process_given, is_write_given, load_fault, load_fits, loader_ask, process_fault, reply_by_fault, reply_without_fault, write_ask, write_fault}
use Rattle.jc_litmus.specs.declared.reply_words.AnswerKind.{AnswerKind}
use Rattle.jc_litmus.specs.declared.reply_words.AnswerKind.TheVariants as answer

-- 1. What is read.

same_read : (read : Result Reply LineFault) (r s : Reply) → read ≡ Ok r → read ≡ Ok s → r ≡ s
same_read read r s first second = cc

-- a reply under a test
under : (kind : ReplyKind) (test : Bool) (x r : Reply) (rest : Result Reply LineFault) → (test ≡ true → HasReply kind x)
    → (rest ≡ Ok r → HasReply kind r) → cond test (Ok x) rest ≡ Ok r → HasReply kind r
under kind true x r rest here there e = subst (λ (y : Reply). HasReply kind y) (same_read (Ok x) x r refl e) (here refl)
under kind false x r rest here there e = there e

no_reply : (kind : ReplyKind) (r : Reply) → Err BadReply ≡ Ok r → HasReply kind r
no_reply kind r e = absurd cc

value_read : (kind : ReplyKind) (r : Reply) (value : Result (Option Bytes) Fault) → kind.answer ≡ answer.Value → plain_value value ≡ Ok r → HasReply kind r
value_read kind r (Ok value) is e = under kind true (reply.Value value) r (Err BadReply) (λ t. is) (no_reply kind r) e
value_read kind r (Err fault) is e = no_reply kind r e

plain_read : (kind : ReplyKind) (a : AnswerKind) (word : List ℕ) (r : Reply) → kind.answer ≡ a → plain_reply a word ≡ Ok r → HasReply kind r
plain_read kind answer.Unit word r is e = under kind (bytes_eq word (codes "ok")) reply.Unit r (Err BadReply) (λ t. is) (no_reply kind r) e
plain_read kind answer.Flag word r is e =
    under kind (bytes_eq word (codes "true")) (reply.Flag true) r _ (λ t. is)
    (under kind (bytes_eq word (codes "false")) (reply.Flag false) r (Err BadReply) (λ t. is) (no_reply kind r)) e
plain_read kind answer.Value word r is e = value_read kind r (value_or_none_of word) is e

failure_read : (kind : ReplyKind) (name : List ℕ) (r : Reply) (code : Result ℕ Fault) → failure_with kind name code ≡ Ok r → HasReply kind r
failure_read kind name r (Err fault) e = no_reply kind r e
failure_read kind name r (Ok code) e =
    under kind (bytes_eq name (codes "LoaderFailed") && kind.loader) (reply.Fault (LoaderFailed code)) r _
    (λ t. (and_parts (bytes_eq name (codes "LoaderFailed")) kind.loader t).1)
    (under kind (bytes_eq name (codes "ProcessorFailed") && kind.processor) (reply.Fault (ProcessorFailed code)) r _
    (λ t. (and_parts (bytes_eq name (codes "ProcessorFailed")) kind.processor t).1)
    (under kind (bytes_eq name (codes "WriterFailed") && kind.writer) (reply.Fault (WriterFailed code)) r (Err BadReply)
    (λ t. (and_parts (bytes_eq name (codes "WriterFailed")) kind.writer t).1)
    (no_reply kind r))) e

refusal_read : (kind : ReplyKind) (name : List ℕ) (r : Reply) → refusal_of name ≡ Ok r → HasReply kind r
refusal_read kind name r e = under kind (bytes_eq name (codes "HistoryFull")) (reply.Fault HistoryFull) r (Err BadReply) (λ t. tt) (no_reply kind r) e

two_read : (kind : ReplyKind) (first second : List ℕ) (refused : Bool) (r : Reply)
    → cond refused (refusal_of second) (failure_with kind first (number_of second)) ≡ Ok r → HasReply kind r
two_read kind first second true r e = refusal_read kind second r e
two_read kind first second false r e = failure_read kind first r (number_of second) e

halves_read : (kind : ReplyKind) (word : List ℕ) (r : Reply) (halves : Option (List ℕ × List ℕ)) → reply_from kind halves word ≡ Ok r → HasReply kind r
halves_read kind word r (Some halves) e = two_read kind halves.0 halves.1 (bytes_eq halves.0 (codes "refused")) r e
halves_read kind word r None e = plain_read kind kind.answer word r refl e

pub read_of_kind : RepliesAreOfKind
read_of_kind kind word r e = halves_read kind word r (halves_of 58 word) e

-- 2. What the table gives.

abbrev MayFail : ReplyKind → Option Refusal → Type 0
MayFail kind None = Unit {0}
MayFail kind (Some fault) = HasRefusal kind fault

first_may : (kind : ReplyKind) (a b : Option Refusal) → MayFail kind a → MayFail kind b → MayFail kind (first_of_two a b)
first_may kind (Some fault) b one other = one
first_may kind None b one other = other

by_fault : (kind : ReplyKind) (fault : Option Refusal) (r : Reply) → MayFail kind fault → HasReply kind r → HasReply kind (reply_by_fault fault r)
by_fault kind (Some fault) r may has = may
by_fault kind None r may has = has

plain_of_table : (op : Op) (entry : Option Bytes) (out : Out) → HasReply (reply_kind op) (reply_without_fault op entry out)
plain_of_table Get entry out = refl
plain_of_table op entry out = refl

loader_of_table : (through : Bool) (op : Op) (entry : Option Bytes) → load_fits (loader_ask through op entry) true ≡ true → (reply_kind op).loader ≡ true
loader_of_table through Get entry e = refl
loader_of_table through (LoadAll replace) entry e = refl
loader_of_table through Invoke entry e = refl
loader_of_table through op entry e = e

processor_of_table : (op : Op) → beq true (is_invoke op) ≡ true → (reply_kind op).processor ≡ true
processor_of_table Invoke e = refl
processor_of_table op e = e

writer_of_table : (op : Op) (entry : Option Bytes) (p : ProcessAnswer) → is_some (write_ask op entry p) ≡ true → (reply_kind op).writer ≡ true
writer_of_table Get entry p e = e
writer_of_table ContainsKey entry p e = e
writer_of_table Clear entry p e = e
writer_of_table (LoadAll replace) entry p e = e
writer_of_table op entry p e = refl

load_may : (through : Bool) (op : Op) (entry : Option Bytes) (l : LoadAnswer) → load_fits (loader_ask through op entry) (is_load_given l) ≡ true
    → MayFail (reply_kind op) (load_fault l)
load_may through op entry (load.Failed code) e = loader_of_table through op entry e
load_may through op entry other e = tt

process_may : (op : Op) (p : ProcessAnswer) → beq (is_process_given p) (is_invoke op) ≡ true → MayFail (reply_kind op) (process_fault p)
process_may op (process.Failed code) e = processor_of_table op e
process_may op process.NotAsked e = tt
process_may op (process.Ended effect outcome) e = tt

beq_true : (x : Bool) → beq true x ≡ true → x ≡ true
beq_true true e = refl
beq_true false e = e

last_of : (a b c : Bool) → beq true (a && b && c) ≡ true → c ≡ true
last_of a b c e = (and_parts (a && b) c (beq_true (a && b && c) e)).1

write_may : (through clear : Bool) (op : Op) (entry : Option Bytes) (p : ProcessAnswer) (w : WriteAnswer)
    → beq (is_write_given w) (through && clear && is_some (write_ask op entry p)) ≡ true → MayFail (reply_kind op) (write_fault w)
write_may through clear op entry p (write.Failed code) e = writer_of_table op entry p (last_of through clear (is_some (write_ask op entry p)) e)
write_may through clear op entry p write.NotAsked e = tt
write_may through clear op entry p write.Done e = tt

pub table_of_kind : RepliesOfTable
table_of_kind config op entry out fits =
    let loads = load_fits (loader_ask config.read_through op entry) (is_load_given out.load) in
    let runs = beq (is_process_given out.process) (is_invoke op) in
    let writes = beq (is_write_given out.write) (config.write_through && is_none (early_fault out) && is_some (write_ask op entry out.process)) in
    let parts = and_parts (loads && runs) writes fits in
    let asked = and_parts loads runs parts.0 in
    let kind = reply_kind op in
    by_fault kind (first_fault out) (reply_without_fault op entry out)
    (first_may kind (early_fault out) (write_fault out.write)
    (first_may kind (load_fault out.load) (process_fault out.process) (load_may config.read_through op entry out.load asked.0) (process_may op out.process asked.1))
    (write_may config.write_through (is_none (early_fault out)) op entry out.process out.write parts.1))
    (plain_of_table op entry out)

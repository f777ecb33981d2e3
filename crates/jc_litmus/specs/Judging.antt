-- Whether outcomes are as a program's author expects.
--     reply_of                 the reply to a call of a thread, by its place among the thread's calls
--     value_of_key             the value of a key in these entries, or none
--     same_value, same_flag    two values, or none, are the same; two flags are
--     code_of, same_code       the code of a refusal, if it has one; two codes, or none, are the same
--     same_refusal             two refusals have the same name and the same code
--     same_reply               two replies are the same
--     was_answered             a call was answered with this reply
--     has_atom                 an outcome has an atom
--     has_all                  it has each of some atoms
--     decides_by               an outcome decides an expectation, by whether it has the atoms
--     decides                  an outcome alone decides an expectation: it has the atoms of a `sometimes` or a `never`, or lacks
--                              one of an `always`
--     first_deciding           the place of the first outcome that decides it
--     verdict_from             the verdict on an expectation that this outcome decides, or none of those that were found
--     verdict_on               the verdict on an expectation, by an exploration
--     IsNumbered               the outcome in a verdict, counted from 1, has a number of 64 bits
--     is_failure               the verdict is that the expectation fails
--     end_of                   the end of an exploration with these expectations
use Rattle.std.specs.Prelude.{◌==◌, ℕ, ◌+◌, ◌-◌, ◌<◌, ◌^◌, List, [], ◌∷◌, length, position, Bool, true, false, not, ◌&&◌, Option}
use Rattle.std.specs.Prelude.{None, Some, IfSome, if◌then◌else◌}
use Rattle.std.specs.List.{list_all, list_any}
use Rattle.std.specs.Cmp.Lexicographic.{pointwise}
use Rattle.std.specs.Str.{bytes_eq}
use Rattle.jc_types.specs.declared.refusal.Refusal.{Refusal}
use Rattle.jc_types.specs.declared.refusal.Refusal.TheVariants.{LoaderFailed, WriterFailed, ProcessorFailed}
use Rattle.jc_types.specs.Refusals.{refusal_name}
use Rattle.jc_model.specs.Cache.{Bytes}
use Rattle.jc_model.specs.declared.event.Reply.{Reply}
use Rattle.jc_model.specs.declared.event.Reply.TheVariants as reply
use Rattle.jc_explore.specs.declared.replies.ThreadReply.{ThreadReply}
use Rattle.jc_explore.specs.declared.search.Explored.{Explored}
use Rattle.jc_explore.specs.declared.search.Finding.{Finding}
use Rattle.jc_explore.specs.Final.{FinalValue, final_of}
use Rattle.jc_litmus.specs.declared.program.Atom.{Atom}
use Rattle.jc_litmus.specs.declared.program.Atom.TheVariants.{Replied, Cached, Stored, Coherent, Differs}
use Rattle.jc_litmus.specs.declared.program.Expectation.{Expectation}
use Rattle.jc_litmus.specs.declared.program.Quantifier.{Quantifier}
use Rattle.jc_litmus.specs.declared.program.Quantifier.TheVariants.{Never, Sometimes, Always}
use Rattle.jc_litmus.specs.declared.judge.Verdict.{Verdict}
use Rattle.jc_litmus.specs.declared.judge.Verdict.TheVariants.{Holds, Fails, Open}
use Rattle.jc_litmus.specs.declared.run.LitmusEnd.{LitmusEnd}
use Rattle.jc_litmus.specs.declared.run.LitmusEnd.TheVariants as end

-- 1. The atoms of an outcome.

abbrev pub reply_of : ℕ → ℕ → List ThreadReply → Option Reply
reply_of thread call [] = None
reply_of thread call (r ∷ replies) =
    if r.thread == thread
    then (if call == 0 then Some r.reply else reply_of thread (call - 1) replies)
    else reply_of thread call replies

abbrev pub value_of_key : Bytes → List (Bytes × Bytes) → Option Bytes
value_of_key key [] = None
value_of_key key (entry ∷ entries) = if pointwise ◌==◌ entry.0 key then Some entry.1 else value_of_key key entries

abbrev pub same_value : Option Bytes → Option Bytes → Bool
same_value None None = true
same_value None (Some b) = false
same_value (Some a) None = false
same_value (Some a) (Some b) = pointwise ◌==◌ a b

abbrev pub same_flag : Bool → Bool → Bool
same_flag true other = other
same_flag false other = not other

abbrev pub code_of : Refusal → Option ℕ
code_of (LoaderFailed code) = Some code
code_of (WriterFailed code) = Some code
code_of (ProcessorFailed code) = Some code
code_of other = None

abbrev pub same_code : Option ℕ → Option ℕ → Bool
same_code None None = true
same_code None (Some b) = false
same_code (Some a) None = false
same_code (Some a) (Some b) = a == b

abbrev pub same_refusal : Refusal → Refusal → Bool
same_refusal a b = bytes_eq (refusal_name a) (refusal_name b) && same_code (code_of a) (code_of b)

abbrev pub same_reply : Reply → Reply → Bool
same_reply reply.Unit reply.Unit = true
same_reply reply.Unit (reply.Flag b) = false
same_reply reply.Unit (reply.Value b) = false
same_reply reply.Unit (reply.Fault b) = false
same_reply (reply.Flag a) reply.Unit = false
same_reply (reply.Flag a) (reply.Flag b) = same_flag a b
same_reply (reply.Flag a) (reply.Value b) = false
same_reply (reply.Flag a) (reply.Fault b) = false
same_reply (reply.Value a) reply.Unit = false
same_reply (reply.Value a) (reply.Flag b) = false
same_reply (reply.Value a) (reply.Value b) = same_value a b
same_reply (reply.Value a) (reply.Fault b) = false
same_reply (reply.Fault a) reply.Unit = false
same_reply (reply.Fault a) (reply.Flag b) = false
same_reply (reply.Fault a) (reply.Value b) = false
same_reply (reply.Fault a) (reply.Fault b) = same_refusal a b

abbrev pub was_answered : Option Reply → Reply → Bool
was_answered None reply = false
was_answered (Some found) reply = same_reply found reply

abbrev pub has_atom : FinalValue → Atom → Bool
has_atom f (Replied thread call reply) = was_answered (reply_of thread call f.replies) reply
has_atom f (Cached key value) = same_value (value_of_key key f.cache) value
has_atom f (Stored key value) = same_value (value_of_key key f.store) value
has_atom f Coherent = length f.differing == 0
has_atom f Differs = not (length f.differing == 0)

abbrev pub has_all : FinalValue → List Atom → Bool
has_all f atoms = list_all (has_atom f) atoms

-- 2. The verdict on an expectation.

abbrev pub decides_by : Quantifier → Bool → Bool
decides_by Never has = has
decides_by Sometimes has = has
decides_by Always has = not has

abbrev pub decides : Expectation → FinalValue → Bool
decides e f = decides_by e.quantifier (has_all f e.atoms.items)

abbrev pub first_deciding : Expectation → List Finding → Option ℕ
first_deciding e found = position (λ x. decides e (final_of x.state)) found

-- if no outcome that was found decides it, it holds or fails only if there is no other outcome
abbrev pub verdict_from : Quantifier → Option ℕ → Bool → Verdict
verdict_from Sometimes (Some place) whole = Holds (Some place)
verdict_from Never (Some place) whole = Fails (Some place)
verdict_from Always (Some place) whole = Fails (Some place)
verdict_from Sometimes None true = Fails None
verdict_from Never None true = Holds None
verdict_from Always None true = Holds None
verdict_from Sometimes None false = Open
verdict_from Never None false = Open
verdict_from Always None false = Open

abbrev pub verdict_on : Explored → Expectation → Verdict
verdict_on r e = verdict_from e.quantifier (first_deciding e r.found.items) r.is_whole

abbrev pub IsNumbered : Verdict → Type 0
IsNumbered (Holds first) = IfSome first (λ place. place + 1 < 2 ^ 64)
IsNumbered (Fails first) = IfSome first (λ place. place + 1 < 2 ^ 64)
IsNumbered Open = Unit {0}

abbrev pub is_failure : Verdict → Bool
is_failure (Holds first) = false
is_failure (Fails first) = true
is_failure Open = false

-- 3. The end.

abbrev pub end_of : Explored → List Expectation → LitmusEnd
end_of r es =
    if list_any (λ e. is_failure (verdict_on r e)) es then end.Fails else
    (if r.is_whole then end.Holds else end.Open)

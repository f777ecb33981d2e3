-- An exploration's answer, as text.
--     calls_before                  the number of calls before a place of a thread's list
--     replies_to                    the number of replies that a thread got
--     asked_words                   the words of what a call asks for
--     call_name                     a call as it is named: its thread and its place there, both counted from 1, and what it asks
--                                   for
--     reply_line                    the line of a call that was answered
--     unanswered_line               the line of a call that is never answered
--     answer_line                   the line of a call: its reply, or that it has none, if it is the first such call of its
--                                   thread
--     thread_call_text              the line of the call at this place among its thread's calls
--     item_if                       the line of an item, if there is one
--     item_text                     the line of a thread's item at a place
--     text_up_to                    the texts of the numbers from 0 up to a count, one after another
--     thread_text                   the lines of a thread
--     thread_at                     the lines of the thread at a place, if there is one
--     threads_text                  the lines of all threads
--     state_text                    a final state
--     number_line                   the number of an outcome, from 1
--     outcome_text                  an outcome at a place of a list: its number, its final state and its script
--     outcome_if                    the outcome at a place of a list, if there is one
--     outcomes_text                 outcomes, one after another
--     counts_text                   the numbers of outcomes and of states
--     whole_line                    the line with both numbers
--     outcomes_line, budget_line    the line of an exploration that has stopped: after a number of outcomes; after a number of
--                                   states
--     closing_text                  the one of these lines that applies
--     first_text                    the outcome that decides an expectation, if one does
--     ending_text                   the verdict on an expectation
--     verdict_line                  an expectation, and its verdict
--     verdicts_text                 several expectations, each with its verdict
--     exploration_text              the whole answer
--     fault_text                    the line for a fault of a line
use Rattle.std.specs.Prelude.{◌==◌, ℕ, zero, suc, ◌+◌, List, [], ◌++◌, codes, decimal, length, take, count_by, Bool, true, false}
use Rattle.std.specs.Prelude.{nat_lt, Option, None, Some, slice_get, if◌then◌else◌}
use Rattle.std.specs.List.{flat_map}
use Rattle.std.specs.Global.{Vec}
use Rattle.jc_model.specs.Cache.{Bytes}
use Rattle.jc_model.specs.declared.event.Op.TheVariants.{Invoke}
use Rattle.jc_model.specs.declared.event.Reply.{Reply}
use Rattle.jc_explore.specs.declared.final_state.FinalState.{FinalState}
use Rattle.jc_explore.specs.declared.program.Item.{Item}
use Rattle.jc_explore.specs.declared.program.Item.TheVariants as item
use Rattle.jc_explore.specs.declared.program.Program.{Program}
use Rattle.jc_explore.specs.declared.replies.ThreadReply.{ThreadReply}
use Rattle.jc_explore.specs.declared.search.Explored.{Explored}
use Rattle.jc_explore.specs.declared.search.Finding.{Finding}
use Rattle.jc_explore.specs.declared.search.TheConstants.{OUTCOMES_MAX}
use Rattle.jc_text.specs.Printing.{coherence_text, entries_line}
use Rattle.jc_text.specs.Spelled.{operation_words}
use Rattle.jc_litmus.specs.declared.judge.Verdict.{Verdict}
use Rattle.jc_litmus.specs.declared.judge.Verdict.TheVariants.{Holds, Fails, Open}
use Rattle.jc_litmus.specs.declared.program.Expectation.{Expectation}
use Rattle.jc_litmus.specs.declared.program.LineFault.{LineFault}
use Rattle.jc_litmus.specs.LineFaults.{line_fault_text}
use Rattle.jc_litmus.specs.Calls.{is_call}
use Rattle.jc_litmus.specs.Spaced.{spaced}
use Rattle.jc_litmus.specs.ReplyTexts.{replied_text, unanswered_text}
use Rattle.jc_litmus.specs.Judging.{reply_of, verdict_on}
use Rattle.jc_litmus.specs.Witness.{witness_text}

-- 1. The replies to the threads.

abbrev pub calls_before : List Item → ℕ → ℕ
calls_before items at = count_by is_call (take at items)

abbrev pub replies_to : ℕ → List ThreadReply → ℕ
replies_to thread replies = count_by (λ r. r.thread == thread) replies

abbrev pub asked_words : Item → List Bytes
asked_words (item.Call op key) = operation_words op key
asked_words (item.Invoke key calls) = operation_words Invoke key
asked_words (item.Foreign key value) = []
asked_words (item.Invalidate key) = []

unfoldable pub call_name : ℕ → ℕ → Item → List ℕ
call_name thread at x = decimal (thread + 1) ++ codes "." ++ decimal (at + 1) ++ spaced (asked_words x) ++ codes ": "

unfoldable pub reply_line : ℕ → ℕ → Item → Reply → List ℕ
reply_line thread at x reply = call_name thread at x ++ replied_text reply ++ codes "\n"

unfoldable pub unanswered_line : ℕ → ℕ → Item → List ℕ
unanswered_line thread at x = call_name thread at x ++ unanswered_text ++ codes "\n"

abbrev pub answer_line : ℕ → ℕ → Item → Bool → Option Reply → List ℕ
answer_line thread at x first (Some reply) = reply_line thread at x reply
answer_line thread at x true None = unanswered_line thread at x
answer_line thread at x false None = []

abbrev pub thread_call_text : List ThreadReply → ℕ → ℕ → Item → ℕ → List ℕ
thread_call_text replies thread at x call =
    answer_line thread at x (call == replies_to thread replies) (reply_of thread call replies)

abbrev pub item_if : List ThreadReply → ℕ → List Item → ℕ → Option Item → List ℕ
item_if replies thread items at None = []
item_if replies thread items at (Some x) =
    if is_call x then thread_call_text replies thread at x (calls_before items at) else []

abbrev pub item_text : List ThreadReply → ℕ → List Item → ℕ → List ℕ
item_text replies thread items at = item_if replies thread items at (slice_get items at)

abbrev pub text_up_to : (ℕ → List ℕ) → ℕ → List ℕ
text_up_to text zero = []
text_up_to text (suc n) = text_up_to text n ++ text n

abbrev pub thread_text : List ThreadReply → ℕ → List Item → List ℕ
thread_text replies thread items = text_up_to (item_text replies thread items) (length items)

abbrev pub thread_at : List ThreadReply → ℕ → Option (Vec Item) → List ℕ
thread_at replies thread None = []
thread_at replies thread (Some items) = thread_text replies thread items.items

abbrev pub threads_text : Program → List ThreadReply → List ℕ
threads_text p replies = text_up_to (λ thread. thread_at replies thread (slice_get p.threads.items thread)) (length p.threads.items)

-- 2. Outcomes.

abbrev pub state_text : Program → FinalState → List ℕ
state_text p f =
    threads_text p f.replies.items
    ++ entries_line (codes "cache") f.cache.items
    ++ entries_line (codes "store") f.store.items
    ++ coherence_text f.differing.items

unfoldable pub number_line : ℕ → List ℕ
number_line at = codes "outcome " ++ decimal (at + 1) ++ codes "\n"

abbrev pub outcome_text : Program → ℕ → Finding → List ℕ
outcome_text p at x = number_line at ++ state_text p x.state ++ witness_text p x.witness.items

abbrev pub outcome_if : Program → ℕ → Option Finding → List ℕ
outcome_if p at None = []
outcome_if p at (Some x) = outcome_text p at x

abbrev pub outcomes_text : Program → List Finding → List ℕ
outcomes_text p found = text_up_to (λ at. outcome_if p at (slice_get found at)) (length found)

-- 3. The answer.

unfoldable pub counts_text : ℕ → ℕ → List ℕ
counts_text outcomes states = decimal outcomes ++ codes " of " ++ decimal states ++ codes " states\n"

abbrev pub whole_line : ℕ → ℕ → List ℕ
whole_line outcomes states = codes "all outcomes: " ++ counts_text outcomes states

unfoldable pub outcomes_line : ℕ → List ℕ
outcomes_line outcomes = codes "stopped after " ++ decimal outcomes ++ codes " outcomes\n"

unfoldable pub budget_line : ℕ → List ℕ
budget_line budget = codes "stopped after " ++ decimal budget ++ codes " states\n"

abbrev pub closing_text : ℕ → Explored → List ℕ
closing_text budget r =
    if r.is_whole then whole_line (length r.found.items) r.states else
    (if nat_lt OUTCOMES_MAX (length r.found.items) then outcomes_line (length r.found.items) else budget_line budget)

abbrev pub first_text : Option ℕ → List ℕ
first_text None = []
first_text (Some place) = codes ", outcome " ++ decimal (place + 1)

abbrev pub ending_text : Verdict → List ℕ
ending_text (Holds first) = codes ": holds" ++ first_text first
ending_text (Fails first) = codes ": fails" ++ first_text first
ending_text Open = codes ": open"

unfoldable pub verdict_line : Explored → Expectation → List ℕ
verdict_line r e = e.text.items ++ ending_text (verdict_on r e) ++ codes "\n"

abbrev pub verdicts_text : Explored → List Expectation → List ℕ
verdicts_text r es = flat_map (verdict_line r) es

abbrev pub exploration_text : ℕ → Program → Explored → List Expectation → List ℕ
exploration_text budget p r es = outcomes_text p r.found.items ++ closing_text budget r ++ verdicts_text r es

unfoldable pub fault_text : ℕ → LineFault → List ℕ
fault_text number fault = codes "line " ++ decimal number ++ codes ": " ++ line_fault_text fault ++ codes "\n"

-- A script has one transcript, as long as memory was there.
--     shown_at_begin     what the events at the begin of a call have shown: the begin, its looks, and then its first phases
--     shown_by_act       what the events of an act have shown
--     shown_by_one       what one event has shown, as a foreign write or a reopening
--     shown_by_line      what the events of a line have shown, when it was played: nothing, if it has no events
--     shown_by_read      the same, from what was read of the line
--     shown_in           what the events of the pieces of a script have shown, one piece after another, up to a line with a fault
--     shown_of           the same of a whole script
--     TranscriptsAreDetermined
--                        two transcripts of one script have the same bytes and the same end, if in both memory was there at each
--                        event
--     TellsOfMemory      a text has `evict K memory at S.P`: an allocation for a new entry failed
--     MemoryIsPrinted    a transcript has it, if memory wasn't there at some event
--     PrintedMemoryDetermines
--                        two transcripts of one script have the same bytes and the same end, if neither has it
--     RunsWriteTheSame   so have two runs that read the same bytes: what they write, and how they end
use Rattle.std.specs.Prelude.{◌≡◌, ℕ, ◌+◌, List, [], ◌∷◌, ◌++◌, true, false, Option, None, Some, Result, Ok, Err}
use mathlib.Core.Logic.{inl, inr}
use Rattle.jc_model.specs.Cache.{Bytes}
use Rattle.jc_model.specs.declared.event.Cause.TheVariants.{Memory}
use Rattle.jc_world.specs.Calls.{CallState}
use Rattle.jc_world.specs.declared.command.Command.{Command}
use Rattle.jc_world.specs.declared.event.Shown.{Shown}
use Rattle.jc_world.specs.declared.event.WorldEvent.{WorldEvent}
use Rattle.jc_world.specs.declared.event.WorldEvent.TheVariants as event
use Rattle.jc_world.specs.Determinism.{have_memory}
use Rattle.jc_world.specs.World.{WorldState, open_call}
use Rattle.jc_text.specs.declared.fault.Fault.{Fault}
use Rattle.jc_text.specs.declared.read.line.ScriptAct.{ScriptAct}
use Rattle.jc_text.specs.declared.read.line.Line.{Line}
use Rattle.jc_text.specs.declared.read.line.Line.TheVariants.{Open, Set, Begin, BeginBulk, OfCall, Foreign, Invalidate, Reopen}
use Rattle.jc_text.specs.declared.read.line.Line.TheVariants.{Audit, Untold}
use Rattle.jc_text.specs.Lines.{read_line}
use Rattle.jc_text.specs.Printing.{evict_line}
use Rattle.jc_text.specs.Pieces.{pieces_of}
use Rattle.jc_script.specs.declared.run.RunEnd.{RunEnd}
use Rattle.jc_script.specs.LineEvents.{single}
use Rattle.jc_script.specs.Running.{RunsScript}
use Rattle.jc_script.specs.Transcript.{OpenedWorld, Plays, PlaysAct, PlaysBegin, PlaysOne, PlaysRead, Transcript, IsTranscript}

-- 1. What lines have shown.

abbrev pub shown_at_begin : (w : WorldState) (number session : ℕ) (command : Command) (text : List ℕ)
    (new : OpenedWorld) → PlaysBegin w number session command text new → List Shown
shown_at_begin w number session command text new h = h.opens.seen ++ h.starts.seen

abbrev pub shown_by_act : (w : WorldState) (number : ℕ) (act : ScriptAct) (u : Option CallState) (text : List ℕ)
    (new : OpenedWorld) → PlaysAct w number act u text new → List Shown
shown_by_act w number act None text new h = []
shown_by_act w number act (Some u) text new h = h.plays.seen

abbrev pub shown_by_one : (w : WorldState) (e : WorldEvent) (text : List ℕ) (new : OpenedWorld)
    → PlaysOne w e text new → List Shown
shown_by_one w e text None h = []
shown_by_one w e text (Some after) h = h.seen

abbrev pub shown_by_line : (old : OpenedWorld) (line : Line) (text : List ℕ) (new : OpenedWorld)
    → Plays old line text new → List Shown
shown_by_line None line text new h = []
shown_by_line (Some w) (Open config) text new h = []
shown_by_line (Some w) (Set key value) text new h = []
shown_by_line (Some w) (Begin number session operation) text new h =
    shown_at_begin w number session (single operation) text new h
shown_by_line (Some w) (BeginBulk number session call) text new h =
    shown_at_begin w number session h.0 text new h.2
shown_by_line (Some w) (OfCall number act) text new h =
    shown_by_act w number act (open_call w number) text new h
shown_by_line (Some w) (Foreign key value) text new h =
    shown_by_one w (event.Foreign key value) text new h
shown_by_line (Some w) (Invalidate key) text new h =
    shown_by_one w (event.Invalidate key) text new h
shown_by_line (Some w) (Reopen config) text new h =
    shown_by_one w (event.Reopen config) text new h
shown_by_line (Some w) Audit text new h = []
shown_by_line (Some w) Untold text new h = []

abbrev pub shown_by_read : (old : OpenedWorld) (read : Result (Option Line) Fault) (text : List ℕ)
    (new : OpenedWorld) → PlaysRead old read text new → List Shown
shown_by_read old (Ok None) text new h = []
shown_by_read old (Ok (Some line)) text new h = shown_by_line old line text new h.1
shown_by_read old (Err fault) text new h = []

-- a line with a fault, and those after it, aren't played
abbrev pub shown_in : (old : OpenedWorld) (n : ℕ) (pieces : List (List ℕ)) (out : List ℕ) (end : RunEnd)
    → Transcript old n pieces out end → List Shown
shown_in old n [] out end h = []
shown_in old n (last ∷ []) out end h = []
shown_in old n (line ∷ next ∷ more) out end (inl (text, rest, new, prints, left, out_is)) =
    shown_by_read old (read_line line) text new prints
    ++ shown_in new (n + 1) (next ∷ more) rest end left
shown_in old n (line ∷ next ∷ more) out end (inr h) = []

abbrev pub shown_of : (input out : List ℕ) (end : RunEnd) → IsTranscript input out end → List Shown
shown_of input out end h = shown_in None 1 (pieces_of input) out end h

-- 2. The laws.

abbrev pub TranscriptsAreDetermined : Type 0
TranscriptsAreDetermined =
    (input one other : List ℕ) (end last : RunEnd)
    (h : IsTranscript input one end) (k : IsTranscript input other last)
    → have_memory (shown_of input one end h) ≡ true
    → have_memory (shown_of input other last k) ≡ true
    → (one ≡ other) × (end ≡ last)

abbrev pub TellsOfMemory : List ℕ → Type 0
TellsOfMemory out =
    (before : List ℕ) × (key : Bytes) × (stripe : ℕ) × (place : ℕ) × (after : List ℕ)
    × (out ≡ before ++ evict_line key Memory stripe place ++ after)

abbrev pub MemoryIsPrinted : Type 0
MemoryIsPrinted =
    (input out : List ℕ) (end : RunEnd) (h : IsTranscript input out end)
    → have_memory (shown_of input out end h) ≡ false → TellsOfMemory out

abbrev pub PrintedMemoryDetermines : Type 0
PrintedMemoryDetermines =
    (input one other : List ℕ) (end last : RunEnd)
    → IsTranscript input one end → IsTranscript input other last
    → (TellsOfMemory one → ⊥) → (TellsOfMemory other → ⊥)
    → (one ≡ other) × (end ≡ last)

-- whatever they had written, and told, before
abbrev pub RunsWriteTheSame : Type 0
RunsWriteTheSame =
    (script : List ℕ) (left rest old new before after : Option (List ℕ))
    (old_told told told_before told_after : List ℕ) (end last : RunEnd)
    (h : RunsScript (Some script) left old new old_told told end)
    (k : RunsScript (Some script) rest before after told_before told_after last)
    → (TellsOfMemory h.out → ⊥) → (TellsOfMemory k.out → ⊥)
    → (h.out ≡ k.out) × (end ≡ last)

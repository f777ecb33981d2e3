-- A schedule as a script: the lines that play it.
--     no_progress              the state of a thread that has begun nothing
--     has_numbers              both the next call's number and a count of items are below the largest number that a script names
--     begin_line               the line by which a session begins an item, with its call's number
--     if_coded                 a line with a code, if there is one
--     run_line                 the line of a processor's run
--     act_line                 the line of an act of a call, with the calls of its processor
--     call_line                the line of an act of an item
--     line_at                  the line of a move of a thread in this state
--     line_of_move             the line of a move
--     begun_by                 the state of a thread after an item began
--     last_by                  the number of the last call after an item began
--     begun_item               the item that a move of a thread begins, if it begins one
--     progress_at              the state of a thread after a move of it
--     last_at                  the number of the last call after a move of a thread
--     threads_at               the states of the threads after a move of a thread in this state
--     thread_progress_after    the states of the threads after a move
--     last_after               the number of the last call after a move
--     piped                    a line as it is shown
--     piped_if                 the same, if there is a line
--     steps_text               the lines of the moves of a schedule as they are shown
--     set_text                 the line of an entry of the store as it is shown
--     witness_text             the script of a schedule as it is shown: the cache's shape, the store, the moves, and an audit
use Rattle.std.specs.Prelude.{ℕ, ◌+◌, ◌-◌, List, [], ◌∷◌, ◌++◌, codes, length, replicate, Bool, ◌&&◌, nat_lt, Option, None, Some}
use Rattle.std.specs.Prelude.{slice_get, slice_set, if◌then◌else◌}
use Rattle.std.specs.List.{flat_map}
use Rattle.jc_types.specs.declared.limits.TheConstants.{NUMBER_MAX}
use Rattle.jc_model.specs.Cache.{Bytes}
use Rattle.jc_model.specs.declared.event.Op.TheVariants.{Invoke}
use Rattle.jc_model.specs.declared.processor.EntryCall.{EntryCall}
use Rattle.jc_world.specs.declared.process.LoadSource.{LoadSource}
use Rattle.jc_world.specs.declared.process.LoadSource.TheVariants as source
use Rattle.jc_explore.specs.declared.moves.Act.{Act}
use Rattle.jc_explore.specs.declared.moves.Act.TheVariants as act
use Rattle.jc_explore.specs.declared.moves.Move.{Move}
use Rattle.jc_explore.specs.declared.program.Faults.{Faults}
use Rattle.jc_explore.specs.declared.program.Item.{Item}
use Rattle.jc_explore.specs.declared.program.Item.TheVariants as item
use Rattle.jc_explore.specs.declared.program.Program.{Program}
use Rattle.jc_explore.specs.Moves.{is_begin}
use Rattle.jc_explore.specs.Schedule.{item_at}
use Rattle.jc_text.specs.declared.read.line.Line.{Line}
use Rattle.jc_text.specs.declared.read.line.Line.TheVariants.{Open, Set, Begin, OfCall, Foreign, Invalidate, Audit}
use Rattle.jc_text.specs.declared.read.line.ScriptAct.TheVariants as line
use Rattle.jc_text.specs.Spelled.{spelling}
use Rattle.jc_litmus.specs.declared.witness.Progress.{Progress}

-- 1. The line of a move.

abbrev pub no_progress : Progress
no_progress = record { begun = 0; call = 0 }

abbrev pub has_numbers : ℕ → Progress → Bool
has_numbers last progress = nat_lt (last + 1) NUMBER_MAX && nat_lt progress.begun NUMBER_MAX

abbrev pub begin_line : ℕ → ℕ → Option Item → Option Line
begin_line call session None = None
begin_line call session (Some (item.Call op key)) = Some (Begin call session (record { op = op; key = key }))
begin_line call session (Some (item.Invoke key calls)) = Some (Begin call session (record { op = Invoke; key = key }))
begin_line call session (Some (item.Foreign key value)) = Some (Foreign key value)
begin_line call session (Some (item.Invalidate key)) = Some (Invalidate key)

abbrev pub if_coded : Option ℕ → (ℕ → Line) → Option Line
if_coded None line = None
if_coded (Some code) line = Some (line code)

abbrev pub run_line : ℕ → LoadSource → List EntryCall → Option ℕ → Line
run_line call load calls fail = OfCall call (line.Process load calls fail)

abbrev pub act_line : Faults → ℕ → List EntryCall → Act → Option Line
act_line f call calls act.Begin = None
act_line f call calls act.Read = Some (OfCall call line.Read)
act_line f call calls act.LoadFails = if_coded f.load (λ code. OfCall call (line.ReadFail code))
act_line f call calls act.Process = Some (run_line call source.Store calls None)
act_line f call calls act.ProcessLoadFails = if_coded f.load (λ code. run_line call (source.Failing code) calls None)
act_line f call calls act.ProcessFails = if_coded f.process (λ code. run_line call source.Store calls (Some code))
act_line f call calls act.Write = Some (OfCall call (line.Apply None))
act_line f call calls act.WriteFails = if_coded f.write (λ code. OfCall call (line.ApplyFail code None))
act_line f call calls act.WriteLies = if_coded f.lie (λ code. OfCall call (line.ApplyLie code))
act_line f call calls act.Commit = Some (OfCall call line.End)
act_line f call calls act.PickUp = Some (OfCall call line.Take)

abbrev pub call_line : Faults → ℕ → Option Item → Act → Option Line
call_line f call None a = None
call_line f call (Some (item.Call op key)) a = act_line f call [] a
call_line f call (Some (item.Invoke key calls)) a = act_line f call calls a
call_line f call (Some (item.Foreign key value)) a = None
call_line f call (Some (item.Invalidate key)) a = None

abbrev pub line_at : Program → ℕ → Move → Option Progress → Option Line
line_at p last m None = None
line_at p last m (Some progress) =
    if is_begin m.act
    then (if has_numbers last progress then begin_line (last + 1) (m.thread + 1) (item_at p m.thread progress.begun) else None)
    else call_line p.faults progress.call (item_at p m.thread (progress.begun - 1)) m.act

abbrev pub line_of_move : Program → ℕ → List Progress → Move → Option Line
line_of_move p last threads m = line_at p last m (slice_get threads m.thread)

-- 2. The changes of a move.

abbrev pub begun_by : ℕ → Progress → Option Item → Progress
begun_by last progress None = progress
begun_by last progress (Some (item.Call op key)) = record { begun = progress.begun + 1; call = last + 1 }
begun_by last progress (Some (item.Invoke key calls)) = record { begun = progress.begun + 1; call = last + 1 }
begun_by last progress (Some (item.Foreign key value)) = record { begun = progress.begun + 1; call = progress.call }
begun_by last progress (Some (item.Invalidate key)) = record { begun = progress.begun + 1; call = progress.call }

abbrev pub last_by : ℕ → Option Item → ℕ
last_by last None = last
last_by last (Some (item.Call op key)) = last + 1
last_by last (Some (item.Invoke key calls)) = last + 1
last_by last (Some (item.Foreign key value)) = last
last_by last (Some (item.Invalidate key)) = last

abbrev pub begun_item : Program → ℕ → Move → Progress → Option Item
begun_item p last m progress =
    if is_begin m.act && has_numbers last progress then item_at p m.thread progress.begun else None

abbrev pub progress_at : Program → ℕ → Move → Progress → Progress
progress_at p last m progress = begun_by last progress (begun_item p last m progress)

abbrev pub threads_at : Program → ℕ → List Progress → Move → Option Progress → List Progress
threads_at p last threads m None = threads
threads_at p last threads m (Some progress) = slice_set threads m.thread (progress_at p last m progress)

abbrev pub thread_progress_after : Program → ℕ → List Progress → Move → List Progress
thread_progress_after p last threads m = threads_at p last threads m (slice_get threads m.thread)

abbrev pub last_at : Program → ℕ → Move → Option Progress → ℕ
last_at p last m None = last
last_at p last m (Some progress) = last_by last (begun_item p last m progress)

abbrev pub last_after : Program → ℕ → List Progress → Move → ℕ
last_after p last threads m = last_at p last m (slice_get threads m.thread)

-- 3. The script.

abbrev pub piped : Line → List ℕ
piped line = codes "| " ++ spelling line ++ codes "\n"

abbrev pub piped_if : Option Line → List ℕ
piped_if None = []
piped_if (Some line) = piped line

abbrev pub steps_text : Program → ℕ → List Progress → List Move → List ℕ
steps_text p last threads [] = []
steps_text p last threads (m ∷ ms) =
    piped_if (line_of_move p last threads m)
    ++ steps_text p (last_after p last threads m) (thread_progress_after p last threads m) ms

abbrev pub set_text : Bytes × Bytes → List ℕ
set_text entry = piped (Set entry.0 entry.1)

abbrev pub witness_text : Program → List Move → List ℕ
witness_text p schedule =
    piped (Open p.config)
    ++ flat_map set_text p.stored.items
    ++ steps_text p 0 (replicate (length p.threads.items) no_progress) schedule
    ++ piped Audit

-- The names that most pages of this crate cite, passed on from one place. Declares nothing.
pub use Rattle.std.proofs.Common.{Bool, Err, IfOk, IfSome, List, None, Ok, Option, Result, Some, [], ap, append-nil, append_assoc, arith, cond, false, filter, find, get_or, if◌then◌else◌, inl, inr, is_none, is_some, length, map, not, option_copied, option_map, option_to_list, refl, rules, subst, subst₂, suc, sym, take, true, true≢false, zero, ℕ, ◌++◌, ◌+◌, ◌<◌, ◌==◌, ◌||◌, ◌∙◌, ◌∷◌, ◌≡◌, ◌≤◌}
pub use Rattle.std.proofs.lemmas.Bool.{and_from, and_parts, or_parts}
pub use Rattle.std.proofs.lemmas.Cmp.{nat_list_eq_equiv}
pub use Rattle.std.proofs.lemmas.List.{length-append, map-append, take_more}
pub use Rattle.std.proofs.lemmas.List.Elements.{filter-append}
pub use Rattle.std.proofs.lemmas.List.Folds.{list_all-append}
pub use Rattle.std.specs.Cmp.Lexicographic.{pointwise}
pub use Rattle.std.specs.FinMap.{empty, entries, get, get-empty}
pub use Rattle.std.specs.Prelude.{codes, ◌&&◌, ◌⊎◌}
pub use Rattle.jc_model.specs.Batches.{is_among}
pub use Rattle.jc_model.specs.Cache.{Bytes, Cache, key_cmp}
pub use Rattle.jc_model.specs.Table.{is_load_given}
pub use Rattle.jc_model.specs.declared.event.Op.{Op}
pub use Rattle.jc_script.specs.Determinism.{PrintedMemoryDetermines, RunsWriteTheSame, TellsOfMemory, shown_at_begin, shown_by_act, shown_by_line, shown_by_one, shown_by_read, shown_in}
pub use Rattle.jc_script.specs.LineEvents.{bulk_call, end_of_act, event_at, events_of_act, is_left, is_meant, is_started, is_time, key_events, keys_of_act, leaves, left_keys, load_code, single, start_events, is_callable}
pub use Rattle.jc_script.specs.Running.{Explains}
pub use Rattle.jc_script.specs.Transcript.{Audited, EndsScript, IsTranscript, OpenedWorld, Plays, PlaysAct, PlaysBegin, PlaysEvents, PlaysOne, PlaysRead, Prints, Transcript, fault_of, fault_read, opened_world}
pub use Rattle.jc_script.specs.declared.run.RunEnd.{RunEnd}
pub use Rattle.jc_script.specs.declared.run.RunEnd.TheVariants.{Clean, LineFault}
pub use Rattle.jc_text.specs.Lines.{read_line}
pub use Rattle.jc_text.specs.Pieces.{pieces_of}
pub use Rattle.jc_text.specs.Places.{complaint}
pub use Rattle.jc_text.specs.Printing.{audit_text, event_text, fails_text, fault_line, texts}
pub use Rattle.jc_text.specs.Spelled.{IsOperation, SaysWords}
pub use Rattle.jc_text.specs.Words.{said_after}
pub use Rattle.jc_text.specs.declared.fault.Fault.{Fault}
pub use Rattle.jc_text.specs.declared.fault.Fault.TheVariants.{SetTooLate}
pub use Rattle.jc_text.specs.declared.read.line.ScriptAct.{ScriptAct}
pub use Rattle.jc_text.specs.declared.read.line.ScriptAct.TheVariants.{Apply, ApplyFail, ApplyLie, Drop, End, More, Process, Read, ReadFail, Say, Take}
pub use Rattle.jc_text.specs.declared.read.line.BulkLine.{BulkLine}
pub use Rattle.jc_text.specs.declared.read.line.Line.{Line}
pub use Rattle.jc_text.specs.declared.read.line.Line.TheVariants.{Audit, Begin, BeginBulk, Foreign, Invalidate, OfCall, Open, Reopen, Set, Untold}
pub use Rattle.jc_types.specs.Limits.{check, is_between, is_session}
pub use Rattle.jc_types.specs.declared.config.Config.{Config}
pub use Rattle.jc_types.specs.declared.limits.TheConstants.{CAPACITY_MAX, HISTORY_MAX, HISTORY_MIN, STRIPES_MAX}
pub use Rattle.jc_types.specs.declared.refusal.Refusal.TheVariants.{BadConfig, TooManyKeys, WriterFailed}
pub use Rattle.jc_world.specs.Calls.{CallState, SweepState, Task, at_each, has_number, has_too_many_keys, new_call, op_at, open_keys, over_of, put_each_of}
pub use Rattle.jc_world.specs.Determinism.{RunsAreDetermined, cause_has_memory, eviction_has_memory, has_memory, have_memory}
pub use Rattle.jc_world.specs.Events.{EndsAs, Happens, eviction_place, Picks, StartsAs, after_report, after_reports, keys_reported, not_over, reported_at, reported_now, shown_begun, with_call, with_met_by}
pub use Rattle.jc_world.specs.Runs.{AllFit, Run, Step, all_fit, is_fit}
pub use Rattle.jc_world.specs.Fits.{fits, is_being_written, is_free, is_new, is_playable, is_single, may_change, may_leave, may_look, may_report, may_start}
pub use Rattle.jc_world.specs.Together.{BeginFits, FitTogether, key_at, looks, looks_of, opening_events}
pub use Rattle.jc_world.specs.World.{WorldState, has_progress, home, is_all_answered, is_busy, is_joined, is_untouched, join_cmp, of_call, open_call, part_of, start, waits_for_load, waits_for_process, waits_for_report, with_stored}
pub use Rattle.jc_world.specs.declared.command.Command.{Command}
pub use Rattle.jc_world.specs.declared.event.EvictionPlace.{EvictionPlace}
pub use Rattle.jc_world.specs.declared.event.Outcome.{Outcome}
pub use Rattle.jc_stripe.specs.State.{is_reserved}
pub use Rattle.jc_world.specs.declared.event.Part.{Part}
pub use Rattle.jc_world.specs.declared.event.Shown.{Shown}
pub use Rattle.jc_world.specs.declared.event.WorldEvent.{WorldEvent}
pub use Rattle.jc_world.specs.declared.process.LoadSource.{LoadSource}

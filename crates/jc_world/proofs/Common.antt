-- The names that most pages of this crate cite, passed on from one place. Declares nothing.
pub use Rattle.std.proofs.Common.{◌≡◌, ℕ, zero, suc, ◌+◌, ◌-◌, ◌%◌, ◌<◌, ◌≤◌, Bool, true, false, cond, not, ◌&&◌, ◌||◌, ◌⊎◌, List, [], ◌∷◌, ◌++◌, map, length, get_or, take, drop, replicate, is_some, is_none, IsSomeAnd, IfSome, OnOk, OnErr, nat_lt, nat_le, ◌==◌, slice_get, slice_set, Some, None, Ok, Err, vec_len, vec_capacity, sum, count_by, filter, Option, Result, option_map, option_to_list, position, find, zip, option_copied, sym, refl, ap, ◌∙◌, subst, subst₂, inl, inr, true≢false, append_assoc, append-nil, add-zero, zero-add, add-one, arith, length-append, drop-cons, rules}
pub use Rattle.std.proofs.Math.Bool.{and-false}
pub use Rattle.std.proofs.Math.Dec.{eqb-suc-suc, eqb-suc-zero, eqb-zero-suc}
pub use Rattle.std.proofs.Math.Seq.{drop-append_seam, take-append_seam}
pub use Rattle.std.proofs.lemmas.Bool.{not-true, ltb-true, leb-true, eqb-true, eqb-false, lt-ltb, eq-eqb, ne_eqb, and_parts, and_from, and_right, or_parts, or_left, or_right, false_from_ne_true}
pub use Rattle.std.proofs.lemmas.Bool.Decides.{nat_tests}
pub use Rattle.std.proofs.lemmas.Cmp.{nat_cmp_total, nat_eq_equiv, nat_list_cmp_total, nat_list_eq_equiv}
pub use Rattle.std.proofs.lemmas.Fn.{filter_same}
pub use Rattle.std.proofs.lemmas.Iterator.Adapters.{position_from-zero}
pub use Rattle.std.proofs.lemmas.List.{map-append, length-map, take-append-drop, get_or-replicate, get_or-set_same, get_or-set_other, take-append-le, take_more, replicate_more, nil_from_length}
pub use Rattle.std.proofs.lemmas.List.Elements.{All-head, All-tail, filter_map-append, filter-append}
pub use Rattle.std.proofs.lemmas.List.Folds.{find-append, list_all-append, list_any-append}
pub use Rattle.std.proofs.lemmas.List.Sums.{sum_by-cons, sum_by-append, count_by_more_yes, count_by_more_no}
pub use Rattle.std.proofs.lemmas.Map.Keys.{IsDistinct-head, IsDistinct-tail}
pub use Rattle.std.proofs.lemmas.Map.Lookups.{exact_bytes}
pub use Rattle.std.proofs.lemmas.Map.Made.{is_some-lookup, IsDistinct-keys_filter}
pub use Rattle.std.proofs.lemmas.Option.{slice_get_within, slice_get-get_or, slice_get_read, get_or_from_slice_get}
pub use Rattle.std.specs.Bool.{beq}
pub use Rattle.std.specs.Cmp.{IsTotalOrder, Equal-is, eq_by_cmp_equiv, unsigned_ties, on_total, tied_then, both_tied, then_total}
pub use Rattle.std.specs.Cmp.Lexicographic.{pointwise, texts_ties}
pub use Rattle.std.specs.FinMap.{is_sorted, FinMap, IsAntisymmetric, nat_cmp-IsAntisymmetric, entries, entries_sorted, empty, get, insert, remove, len, from_entries, get-empty, len-empty, get-insert, get-remove, get-from_entries, same_map}
pub use Rattle.std.specs.FinMap.Entries.{below_all}
pub use Rattle.std.specs.List.{list_any, list_all, cons_option, All, AllByRecursion, position_from, AllPairs}
unfoldable pub use Rattle.std.specs.List.{IsDistinct}
pub use Rattle.std.specs.Map.{keys_of, lookup, set_value}
pub use Rattle.std.specs.Option.{option_or, option_flatten}
pub use Rattle.std.specs.Ordering.{is_eq, is_lt, nat_cmp, eq_by_cmp}
pub use Rattle.std.specs.Prelude.{T}
pub use Rattle.std.specs.declared.cmp.Ordering.{Ordering}
pub use Rattle.std.specs.declared.cmp.Ordering.TheVariants.{Equal, Greater, Less}
pub use Rattle.indexmap.proofs.CallerLemmas.{insert_entry-new}
pub use Rattle.indexmap.specs.IndexMap.{spare, Updates, index_map_len, IndexMap, insert_entry}
pub use Rattle.jc_types.proofs.CallerLemmas.{find_at_place, find_nowhere, all_imply, all_filter, all_found}
pub use Rattle.jc_types.specs.Limits.{is_between, is_session, check}
pub use Rattle.jc_types.specs.Stripes.{stripe_of}
pub use Rattle.jc_types.specs.declared.caller.Caller.{Caller}
pub use Rattle.jc_types.specs.declared.config.Config.{Config}
pub use Rattle.jc_types.specs.declared.limits.TheConstants.{HIT_PLACES, JOINERS_MAX, STEP_PLACES, STRIPES_MAX}
pub use Rattle.jc_types.specs.declared.refusal.Refusal.{Refusal}
pub use Rattle.jc_types.specs.declared.refusal.Refusal.TheVariants.{TooManyKeys, WriterFailed}
pub use Rattle.jc_model.proofs.CallerLemmas.{none_is, same_key, same_cache, get-with_entry}
pub use Rattle.jc_model.specs.Batches.{is_among}
pub use Rattle.jc_model.specs.Cache.{Bytes, Cache, entry_at, with_entry, key_cmp}
pub use Rattle.jc_model.specs.Group.{Group, nothing_said, load_only, write_only, victim_events, evicted_events, step_event, shared_event, step_place, events_of, history_of, without_victim, cache_before_step, cache_after_step, without_own, cache_after_group, cache_after_part, cache_after_parts}
pub use Rattle.jc_model.specs.Lawful.{loads_whole}
pub use Rattle.jc_model.specs.Legal.{may_come, may_follow, in_order, event_key, is_of_stripe, of_stripe, IsHistory, IsOpening}
pub use Rattle.jc_model.specs.Processor.{found_in}
pub use Rattle.jc_model.specs.Table.{holds, is_load_given, always_if, ask_if, write_ask, is_write_given, is_process_given, is_invoke, entry_without_fault, entry_after, seq_entry}
pub use Rattle.jc_model.specs.declared.event.Cause.{Cause}
pub use Rattle.jc_model.specs.declared.event.Change.{Change}
pub use Rattle.jc_model.specs.declared.event.Change.TheVariants.{Delete, Write}
pub use Rattle.jc_model.specs.declared.event.Event.{Event}
pub use Rattle.jc_model.specs.declared.event.Event.TheVariants.{Evict}
pub use Rattle.jc_model.specs.declared.event.LoadAnswer.{LoadAnswer}
pub use Rattle.jc_model.specs.declared.event.Op.{Op}
pub use Rattle.jc_model.specs.declared.event.Op.TheVariants.{Clear, ContainsKey, Get, GetAndPut, GetAndRemove, GetAndReplace, Invoke, LoadAll, Put, PutIfAbsent, Remove, RemoveIf, Replace, ReplaceIf}
pub use Rattle.jc_model.specs.declared.event.Out.{Out}
pub use Rattle.jc_model.specs.declared.event.ProcessAnswer.{ProcessAnswer}
pub use Rattle.jc_model.specs.declared.event.Reply.{Reply}
pub use Rattle.jc_model.specs.declared.event.WriteAnswer.{WriteAnswer}
pub use Rattle.jc_model.specs.declared.processor.EntryCall.{EntryCall}
pub use Rattle.jc_inflight.proofs.CallerLemmas.{belongs_to_same}
pub use Rattle.jc_inflight.specs.Dissolving.{after_dissolve}
pub use Rattle.jc_inflight.specs.Joining.{belongs_to, is_waiting, waits_for, callers_of}
pub use Rattle.jc_inflight.specs.Resolving.{with_answer, answered_from, after_resolve}
pub use Rattle.jc_inflight.specs.declared.joiner.JoinState.{JoinState}
pub use Rattle.jc_inflight.specs.declared.joiner.JoinState.TheVariants.{Again, Answered, Waiting}
pub use Rattle.jc_inflight.specs.declared.joiner.Joiner.{Joiner}
pub use Rattle.jc_mutentry.specs.Done.{ProcessResult, effect_change}
pub use Rattle.jc_outside.proofs.CallerLemmas.{get-entries, insert-entries}
pub use Rattle.jc_outside.specs.declared.done.Origin.TheVariants.{Played}
pub use Rattle.jc_stripe.proofs.CallerLemmas.{step_at, joined_parks, withdrawn_parks, beginner_parks, commit_parks, committer_parks, sharers_park, picker_parks, picked_parks, others_park, again_parks_same, asks_invoking, invokes, keys_once, keys_own}
pub use Rattle.jc_stripe.specs.Effects.{change_due}
pub use Rattle.jc_stripe.specs.Invalidating.{Ends, GivesBack, Invalidates}
pub use Rattle.jc_stripe.specs.Keys.{AreKeys}
pub use Rattle.jc_stripe.specs.Laws.{StaysReached, IsSameStripe, Extends, Grows, KeepsReserved}
pub use Rattle.jc_stripe.specs.OnePhase.{is_answered, is_parked}
pub use Rattle.jc_stripe.specs.OrderOfUse.{by_use, least_used}
pub use Rattle.jc_stripe.specs.OwnSteps.{may_come_all}
pub use Rattle.jc_stripe.specs.Phases.{is_other_call, is_other_join, MayBegin, overflows, victim, new_group, Steps, with_joiner, Begins, after_commit, Commits, Withdraws, after_withdrawal, without_joiner, told_to, PicksUp, polled_with}
pub use Rattle.jc_stripe.specs.Reached.{AllAsk, JoinFits, AllJoin, are_apart, is_own, IsReached, IsOpened}
pub use Rattle.jc_stripe.specs.Refusals.{first_by, first_asked, reserves, answers_at_once, load_of, load_at, load_joined, needs_free_key, places_needed, first_refusal}
pub use Rattle.jc_stripe.specs.State.{State, is_of, is_key, is_reserved, reservation_of, new_reservation, with_reservation, without_key, without_reservation, IsOut, IsJoined}
pub use Rattle.jc_stripe.specs.Tickets.{TicketClaim, Claim, claim_of, asks_loader, asks_writer, asks_processor, entry_seen, JoinClaim, writer_for}
pub use Rattle.jc_stripe.specs.declared.begun.Picked.{Picked}
pub use Rattle.jc_stripe.specs.Outcomes.{Begun, StepDone}
pub use Rattle.jc_stripe.specs.Polled.{Polled}
pub use Rattle.jc_stripe.specs.declared.ticket.First.{First}
pub use Rattle.jc_stripe.specs.declared.ticket.First.TheVariants.{Loader, Nobody, Processor, Writer}
pub use Rattle.jc_stripe.specs.declared.ticket.Reservation.{Reservation}
pub use Rattle.jc_world.specs.declared.command.Command.{Command}
pub use Rattle.jc_world.specs.declared.event.Outcome.{Outcome}
pub use Rattle.jc_world.specs.declared.event.EvictionPlace.{EvictionPlace}
pub use Rattle.jc_world.specs.declared.event.Over.{Over}
pub use Rattle.jc_world.specs.declared.event.Part.{Part}
pub use Rattle.jc_world.specs.declared.event.JoinAnswer.{JoinAnswer}
pub use Rattle.jc_world.specs.declared.event.Premises.{Premises}
pub use Rattle.jc_world.specs.declared.event.PartProgress.{PartProgress}
pub use Rattle.jc_world.specs.declared.event.Shown.{Shown}
pub use Rattle.jc_world.specs.declared.event.Stepped.{Stepped}
pub use Rattle.jc_world.specs.declared.event.WorldEvent.{WorldEvent}
pub use Rattle.jc_world.specs.declared.stripes.Stripes.TheInside.{Inside}
pub use Rattle.jc_world.specs.declared.tasks.Tasks.{Tasks}
pub use Rattle.jc_world.specs.Audit.{IsCache, differs, differing, cache_in, cache_at, opening_in, opening_at, IsOrder, HasShares}
pub use Rattle.jc_world.specs.Calls.{Task, at_each, put_each_of, SweepState, sweep_of, keeps_open, CallState, new_call, has_number, is_of_session, op_in, op_at, op_found, op_or_found, op_for, is_open, open_in, open_keys, is_going, has_too_many_keys, opened, going_on, over_of, with_met, settled, replaced, settle, over_settled, drop_call, has_looked, has_looked_at_each, next_sweep, with_swept_keys, look}
pub use Rattle.jc_world.specs.Coherent.{IsCoherentAt, Coherent, CoherentAsTold, all_hold}
pub use Rattle.jc_world.specs.Ending.{IsLeftStripe, AreLeft, out_at, IsPartOut, HasHeld, IsJoinOut, HasJoins, NoneReserved}
pub use Rattle.jc_world.specs.Events.{with_stripe, with_phase, step_of, not_over, shown_begun, fault_in, with_settled, over_by, with_met_by, without_call, with_look, asks_as, new_progress, new_part, with_part, with_new_part, without_part, with_join, without_join, BeginsAs, ReservesAs, StartsAs, RefusesAs, EndsAs, eviction_place, invalidated_as, Picks, with_heard, foreign_committed, with_commit, with_loaded, after_answer, with_change, after_change, with_report, after_report, reported_part, reported_in, reported_key, reported_keys, reported_now, keys_reported, reported_at, after_reports, run_result, progress_after, after_process, Happens}
pub use Rattle.jc_world.specs.Runs.{Step, Run, RunAppending, is_fit, AllFit}
pub use Rattle.jc_world.specs.Reopening.{keys_dropped, stripes_reopened, after_reopening}
pub use Rattle.jc_world.specs.Fits.{is_playable, is_new, is_free, may_start, may_leave, passes_in, waits_at, is_in_batch, batch_of, writer_batch, is_asked_in, may_change, is_being_written, may_report, is_to_look, may_look, may_invalidate, fits}
pub use Rattle.jc_world.specs.Gathered.{or_else, found_after}
pub use Rattle.jc_world.specs.Headline.{IsOpeningStripe, IsOpeningWorld, start_with, ReachesSince, is_reopening, reopens, with_all_premises, is_answer, is_load, is_loaded}
pub use Rattle.jc_world.specs.Held.{IsAnswerable, parts_of, joins_of}
pub use Rattle.jc_world.specs.Inside.{world_of}
pub use Rattle.jc_world.specs.OpenCalls.{tasks_of, IsCountKept, are_new, TakesKeys}
pub use Rattle.jc_world.specs.Openings.{EndsInReopening, LastOpening, is_dropped, IsReopenedWorld}
pub use Rattle.jc_world.specs.PickUps.{ends_join, is_last_pick_up, ends_load, IsLoadEnd, Resolves}
pub use Rattle.jc_world.specs.PlayedWorld.{PlayedWorld}
pub use Rattle.jc_world.specs.Premises.{is_stored, opens_coherent, read_answer, load_from, changed_to, report_for, is_true_load, is_done, is_true_report, is_as_told, opens, opens_as_told, is_agreed, are_honest}
pub use Rattle.jc_world.specs.Replies.{IsReplyOfStep, Stands, is_answer_at, joiners_in, joiners_at, times_shown}
pub use Rattle.jc_world.specs.Reserved.{changes_cache}
pub use Rattle.jc_world.specs.Sound.{IsWorldStripe, IsWorldShaped, is_up_to, number_up_to, has_parked_answer, is_served_in, is_served, is_apart, FitsKey, FitsCall, CallsFit, Each, FitsAsked, change_in, IsDueIn, IsDue, AllDue, IsHeld, IsCallOf, IsOwned, AllOwned, IsWaitedFor, AllWaitedFor, IsCalled, AllCalled, Agrees, LoadAgrees, WriteAgrees, ChangeAgrees, ProgressAgrees, PartAgrees, KeyAgrees, Sweeps, IsSoundWorld}
pub use Rattle.jc_world.specs.Together.{looks, opening_events, BeginFits, at_call, key_at, FitTogether}
pub use Rattle.jc_world.specs.Turns.{history_in, history_at, turns_of, after_turn, merge, OrderedStripes, IsPhase, IsQuietPhase, ordered_stripes, AreTurns, IsMergeable}
pub use Rattle.jc_world.specs.World.{Parts, JoinKey, join_cmp, join_key, Joins, WorldState, home, stripe_for, entry_in, cached_entry, fresh_stripe, fresh_stripes, start, is_busy, is_idle, open_call, of_call, part_of, has_progress, is_unanswered, waits_for_load, waits_for_process, waits_for_report, is_write, waits_for_write, is_all_answered, is_untouched, has_changed, is_misled, writer_change, out_of_part, join_of, has_join, is_joined, is_free_of, with_stored, is_foreign, has_any, is_untold, with_foreign, without_foreign, with_doubt}

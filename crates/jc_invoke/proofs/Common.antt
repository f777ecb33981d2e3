-- The names that most pages of this crate cite, passed on from one place. Declares nothing.
pub use Rattle.std.proofs.Common.{◌≡◌, ◌==◌, ◌||◌, ◌++◌, ℕ, List, [], ◌∷◌, map, Bool, true, false, Option, None, Some, IsSome, if◌then◌else◌, refl, sym, ap, subst, ◌∙◌, ◌≤◌, ◌<◌, ◌+◌, zero, suc, length, set, take, drop, get_or, vec_capacity, arith, slice_get, IfNone, IfSome, reverse, Result, Ok, option_map, rules}
pub use Rattle.std.proofs.lemmas.Cmp.{nat_list_eq_equiv}
pub use Rattle.std.proofs.lemmas.List.{drop-set-lt, drop_more, length-append, map-append, reverse-reverse, take-append-drop, take-map, take_more}
pub use Rattle.std.proofs.lemmas.Option.{same_Some, slice_get-get_or}
pub use Rattle.std.specs.Cmp.Lexicographic.{pointwise}
pub use Rattle.std.specs.Global.{Vec}
pub use Rattle.std.specs.List.{All, AllByRecursion, IsAmong, IsDistinct, cons_option, list_any}
pub use Rattle.std.specs.Map.{keys_of}
pub use Rattle.std.specs.declared.dyn_box.DynBox.{DynBox}
pub use Rattle.indexmap.specs.IndexMap.{spare}
pub use Rattle.jc_cache.proofs.CallerLemmas.{holds_nothing}
pub use Rattle.jc_cache.specs.Caches.{CacheState}
pub use Rattle.jc_cache.specs.Sessions.{HasAsked, MayCall}
pub use Rattle.jc_session.specs.declared.session.Session.{Session}
pub use Rattle.jc_invoke.specs.Invoke.{IsInvokedAll}
pub use Rattle.jc_invoke.specs.InvokeRounds.{HaveAsked, IsInvokeReady, IsInvoked, RunsOn}
pub use Rattle.jc_invoke.specs.Processing.{HasRunEach, IsRoundAsked, IsTicketRun, IsToBeRun, KeepsProcessing, KeepsRunsRoom, MayRunEach, TakesKey}
pub use Rattle.jc_invoke.specs.RoundRooms.{IsNextRoom, IsRoundRoomFor, LeavesBatches}
pub use Rattle.jc_invoke.specs.Runs.{CallsEach, CallsRound, RunBehavior, RunsEach, RunsOne, WritesKind, batch_changes, in_boxes, run_behavior}
pub use Rattle.jc_invoke.specs.declared.room.Batches.{Batches}
pub use Rattle.jc_invoke.specs.declared.room.RoundRoom.{RoundRoom}
pub use Rattle.jc_model.specs.Batches.{is_among}
pub use Rattle.jc_model.specs.Cache.{Bytes}
pub use Rattle.jc_model.specs.declared.event.Change.{Change}
pub use Rattle.jc_model.specs.declared.event.Op.{Op}
pub use Rattle.jc_model.specs.declared.event.Op.TheVariants.{Clear, Get, Invoke, LoadAll}
pub use Rattle.jc_mutentry.specs.Done.{ProcessResult}
pub use Rattle.jc_outside.specs.Calling.{KeepsType}
pub use Rattle.jc_rounds.proofs.CallerLemmas.{IsOutAt, all_map, all_mapped, all_out, among_there, carried_out, distinct_reserved, may_again, no_batch, none_run, opens_call, or_true, ran_more, ran_none, ran_quiet, ran_refused, refused_over, same_keys, types_on}
pub use Rattle.jc_rounds.specs.Answers.{IsToBeAnswered, RunState, asked_key, claim_after, claims_after, done_of, done_room, is_change_of, key_run, reports, reservations_of}
pub use Rattle.jc_rounds.specs.Asking.{AsksFor, reserved_keys}
pub use Rattle.jc_rounds.specs.Ends.{KeyEnd, key_end, key_ends, result_entries}
pub use Rattle.jc_rounds.specs.OutsideCalls.{WriteCallAsked, WriteCallState, WritesBatch, asked_keys, no_writes, wanted}
pub use Rattle.jc_rounds.specs.AskingRounds.{HasReserved, IsRoundTold, KeepsTickets}
pub use Rattle.jc_rounds.specs.Rounds.{IsShown, KeyRun, ProcessAll, ProcessRound, Round, change_of, keys_asked}
pub use Rattle.jc_rounds.specs.Running.{EachTakesMemory, HasRun, IsCarriedOut, with_rounds}
pub use Rattle.jc_rounds.specs.Targets.{ops_of, ops_with}
pub use Rattle.jc_rounds.specs.Underway.{AreRooms, CallPast, IsBetween, IsNew, IsOver, AreFresh, reserved_by, with_round}
pub use Rattle.jc_rounds.specs.declared.answers.RoundAnswers.{RoundAnswers}
pub use Rattle.jc_rounds.specs.declared.bulk_call.BulkCall.{BulkCall}
pub use Rattle.jc_rounds.specs.declared.progress.KeyProgress.{KeyProgress}
pub use Rattle.jc_session.specs.declared.agent.Agent.{Agent}
pub use Rattle.jc_stripe.specs.Tickets.{Claim, TicketClaim, asks_processor, change_asked, claim_of, entry_seen, is_loadable, report_claim, writer_for}
pub use Rattle.jc_stripe.specs.declared.ticket.Reservation.{Reservation}

-- The names that most pages of this crate cite, passed on from one place. Declares nothing.
pub use Rattle.std.proofs.Common.{All, Bool, Err, List, MatchBool, None, Ok, Option, Result, Some, [], ap, append-nil, append_assoc, arith, cond, drop, false, filter, get_or, if◌then◌else◌, inl, inr, le_refl, length, length-set, map, min, nat_le, nat_lt, not, option_map, refl, reverse, set, slice_get, slice_set, subst, suc, sym, take, true, true≢false, vec_capacity, vec_len, zero, ℕ, ⊎_elim, ◌&&◌, ◌*◌, ◌++◌, ◌+◌, ◌-◌, ◌<◌, ◌==◌, ◌||◌, ◌∙◌, ◌∷◌, ◌≡◌, ◌≤◌, ◌⊎◌}
pub use Rattle.std.proofs.lemmas.Bool.{and_from, and_parts, or_parts}
pub use Rattle.std.proofs.lemmas.Bool.Decides.{nat_tests}
pub use Rattle.std.proofs.lemmas.Cmp.{nat_list_eq_equiv}
pub use Rattle.std.proofs.lemmas.List.{length-append, length-map, length-take, map-append, reverse-append, reverse-reverse, take-map, take_all, take_more}
pub use Rattle.std.proofs.lemmas.List.Concat.{flat_map-append}
pub use Rattle.std.proofs.lemmas.List.Elements.{All-append, All-cons, All-head, All-nil, All-tail, filter_map-append}
pub use Rattle.std.proofs.lemmas.List.Folds.{list_all-append, list_any-append}
pub use Rattle.std.proofs.lemmas.Map.Keys.{IsDistinct-cons, IsDistinct-head, IsDistinct-tail}
pub use Rattle.std.proofs.lemmas.Option.{same_Some, slice_get-get_or, slice_get-map}
pub use Rattle.std.specs.Cmp.Lexicographic.{pointwise, same_text}
pub use Rattle.std.specs.Global.{Vec}
pub use Rattle.std.specs.List.{AllByRecursion, IsAmong, IsDistinct, cons_option, list_all, list_any}
pub use Rattle.std.specs.Map.{keys_of}
pub use Rattle.std.specs.Option.{option_or}
pub use Rattle.jc_batch.specs.Changes.{changes_of}
pub use Rattle.jc_cache.specs.Caches.{CacheState}
pub use Rattle.jc_cache.specs.PhaseCalls.{MayStart, PhaseAt, SeatPhase}
pub use Rattle.jc_cache.specs.Sessions.{HoldsNothing, IsOf, MayCall}
pub use Rattle.jc_engine.specs.Rows.{AllLend, Turn}
pub use Rattle.jc_lock.proofs.CallerLemmas.{prefix-refl, prefix-trans, same_itself, same_on}
pub use Rattle.jc_lock.specs.declared.view.View.{View}
pub use Rattle.jc_model.specs.Batches.{is_among}
pub use Rattle.jc_model.specs.Cache.{Bytes, entry_at}
pub use Rattle.jc_model.specs.Group.{load_only, nothing_said, write_only}
pub use Rattle.jc_model.specs.Legal.{may_come}
pub use Rattle.jc_model.specs.declared.event.Event.{Event}
pub use Rattle.jc_model.specs.declared.event.Event.TheVariants.{Evict, Step}
pub use Rattle.jc_model.specs.declared.event.Op.{Op}
pub use Rattle.jc_model.specs.declared.event.Op.TheVariants.{Get, Put}
pub use Rattle.jc_model.specs.declared.event.Out.{Out}
pub use Rattle.jc_model.specs.declared.event.Reply.{Reply}
pub use Rattle.jc_outside.specs.CallingAll.{DeleteAllRelation, LoadsAllOnce, WriteAllRelation, WritesAllOnce, loads_done, writes_done}
pub use Rattle.jc_rounds.specs.Answers.{AreAnswers, IsReportedOn, IsToBeAnswered, RunState, TakesReport, asked_key, done_of, done_room, key_run, reports, reservations_of}
pub use Rattle.jc_rounds.specs.Asking.{AsksEachOnce, AsksFor, HasAskedSoFar, IsInOrder, reserved_keys}
pub use Rattle.jc_rounds.specs.Causes.{HasFailed, HasMet, HasRefused, IsFirst}
pub use Rattle.jc_rounds.specs.KeyProgress.{IsCauseIn, IsMet, IsNoted, KeepsCause, StayEnded, StillWaits, all_waiting, failure_at, failures, first_of, holds_reservation, is_held_back, is_settled, refusal_in, refused_if_waiting, waits_for_joined_load, waits_for_round}
pub use Rattle.jc_rounds.specs.Keys.{EndsKey, HasBegun, HasJoined, HasPicked, IsAt, IsCommitted, IsEarly, IsHeldBack, IsJoinFor, IsPickedUp, IsStepTold, IsTicketFor, MadeOn, WasRefused}
pub use Rattle.jc_rounds.specs.OutsideCalls.{WritesBatch, asked_keys, is_delete, wanted}
pub use Rattle.jc_rounds.specs.Recorded.{are_before, former_steps, is_former, is_step_of, steps_of}
pub use Rattle.jc_rounds.specs.Rounds.{IsAnswer, IsShown, KeyRun, LoadAll, ProcessAll, ProcessRound, Round, WriteAll, asked_in, faults_in, keys_asked, round_fault}
pub use Rattle.jc_rounds.specs.Running.{EachTakesMemory, HasRun, HeldInEach, IsCarriedOut, IsNearFull, IsRound, WasNearFull, with_rounds}
pub use Rattle.jc_rounds.specs.Seats.{AreBefore, HasFound, HasGrown, MovesAtKey, is_at, view_at, view_of}
pub use Rattle.jc_rounds.specs.SoFar.{AreHeldBack, AreIn, AreSettledFrom, AreUnder, HaveNoStep, IsHeldAt, IsKept, IsPicked, IsSoFar, IsUnderway, KeysAdvance, is_target_of}
pub use Rattle.jc_rounds.specs.Starting.{AreManyJoined, AsksAtMostOnce, EachStartsAll, HasStartedAll, HaveJoined, IsFull, IsLeftAlone, IsRoomFor, RoundEnd, rounds_asked, seats_after}
pub use Rattle.jc_rounds.specs.Targets.{ops_of, ops_with, put_ops}
pub use Rattle.jc_rounds.specs.Underway.{Advances, AdvancesUnnoted, CallPast, HasCommitted, HasNoRoom, HasRoom, HasStarted, IsAnswered, IsBetween, IsCommitting, IsFresh, IsNew, IsOn, IsOver, IsPicking, IsStarting, KeepsJoined, KeepsRoom, AreFresh, reserved_by, with_round}
pub use Rattle.jc_rounds.specs.declared.answers.RoundAnswers.{RoundAnswers}
pub use Rattle.jc_rounds.specs.declared.bulk_call.BulkCall.{BulkCall}
pub use Rattle.jc_rounds.specs.declared.progress.KeyProgress.{KeyProgress}
pub use Rattle.jc_rounds.specs.declared.progress.KeyProgress.TheVariants.{Ended, Joined, Reserved, Waiting}
pub use Rattle.jc_session.specs.Counting.{counted_begun, counted_polled, counts_after, one_more}
pub use Rattle.jc_session.specs.declared.agent.Agent.{Agent}
pub use Rattle.jc_session.specs.declared.session.Session.{Session}
pub use Rattle.jc_stripe.proofs.CallerLemmas.{adds_whole, ask_found, call_below, gains_whole, lacks_room, may_in_all, none_twice, of_same, own_stay, put_off_or_full, whole_goes_on}
pub use Rattle.jc_stripe.specs.Generations.{whole_history, whole_place}
pub use Rattle.jc_stripe.specs.OnePhase.{IsUniform, OnePhase, own_steps}
pub use Rattle.jc_stripe.specs.Outcomes.{Begun, StepDone}
pub use Rattle.jc_stripe.specs.OwnSteps.{AddsOwn, OwnSteps, StepsBehind, is_before_call, may_come_all}
pub use Rattle.jc_stripe.specs.Phases.{after_commit, begun_with, polled_with, with_joiner, with_reply}
pub use Rattle.jc_stripe.specs.Polled.{Polled}
pub use Rattle.jc_stripe.specs.Refusals.{first_asked, first_refusal, has_room, last_number, may_join, needs_free_key, places_needed}
pub use Rattle.jc_inflight.specs.Joining.{waits}
pub use Rattle.jc_stripe.specs.State.{State, is_key, promised}
pub use Rattle.jc_stripe.specs.Tickets.{Claim, JoinClaim, TicketClaim, asks_loader, asks_processor, asks_writer, change_asked, claim_of, entry_seen, is_loadable}
pub use Rattle.jc_stripe.specs.declared.ticket.Reservation.{Reservation}
pub use Rattle.jc_types.specs.Stripes.{stripe_of}
pub use Rattle.jc_types.specs.declared.caller.Caller.{Caller}
pub use Rattle.jc_types.specs.declared.config.Config.{Config}
pub use Rattle.jc_types.specs.declared.limits.TheConstants.{JOINERS_MAX, RESERVATIONS_MAX, STEP_PLACES}
pub use Rattle.jc_types.specs.declared.refusal.Refusal.{Refusal}

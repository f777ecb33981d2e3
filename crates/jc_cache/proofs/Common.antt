-- The names that most pages of this crate cite, passed on from one place. Declares nothing.
pub use Rattle.std.proofs.Common.{Bool, Err, IfErr, IfOk, IsSome, List, MatchBool, None, Ok, Option, Result, Some, [], add-one, ap, append-nil, append_assoc, arith, cond, drop, drop-cons, false, filter, get_or, if◌then◌else◌, inl, inr, is_none, is_some, le_refl, length, length-append, length-drop, map, min, nat_le, nat_lt, not, option_map, refl, replicate, rules, set, slice_get, slice_set, subst, subst₂, suc, sum, sym, take, true, vec_capacity, vec_len, zero, ℕ, ⊎_elim, ◌&&◌, ◌++◌, ◌+◌, ◌-◌, ◌<◌, ◌==◌, ◌||◌, ◌∙◌, ◌∷◌, ◌≡◌, ◌≤◌, ◌⊎◌}
pub use Rattle.std.proofs.lemmas.Bool.{and_parts, leb-true, true≢false}
pub use Rattle.std.proofs.lemmas.Bool.Decides.{nat_tests}
pub use Rattle.std.proofs.lemmas.List.{length-map, map-append, take_more}
pub use Rattle.std.proofs.lemmas.List.Elements.{All-more, All-nil, All-push, All-same}
pub use Rattle.std.proofs.lemmas.Option.{get_or_from_slice_get, none-some, same_Some, slice_get-map, slice_get_read, slice_get_within}
pub use Rattle.std.specs.List.{All, AllZip, list_all, list_any}
pub use Rattle.std.specs.Vec.Iter.{into_iter_items, into_iter_len}
pub use Rattle.std.specs.declared.dyn_box.DynBox.{DynBox}
pub use Rattle.atomic_table.specs.Seated.{TableId}
pub use Rattle.jc_cache.specs.CacheInside.{IsOwnSeat, IsShaped, IsWhole}
pub use Rattle.jc_cache.specs.Caches.{CacheOwnerState, CacheState, Log, OpensWith, fronts_of, log_of, logs_of, noted_by, session_refusal, stripes_opening}
pub use Rattle.jc_cache.specs.Closing.{AreClosed, AreIdle, HasFoundHeld, HasFront, HasLastFound, HasLookedOnce, HasOnlyLooked, HasTakenOver, IsCloseRefusal, IsClosed, IsClosedAt, IsEndRefusal, IsHandedBack, IsInUse, IsTakenAs, all_lent, lent_at}
pub use Rattle.jc_cache.specs.ClosingInside.{AreAtLocks, HasTaken, HaveTaken, IsFreeSeat, IsRowRefusal, IsTakeRefusal, KeepSeats, KeepsSeat, LeavesUnchanged, Whatever}
pub use Rattle.jc_cache.specs.Counting.{HasRead, HasReadEach, occurred_in}
pub use Rattle.jc_cache.specs.Fronts.{HasAllSeen, HasMade, HasSeen, IsAskedFor, IsBetween, IsBusyAt, IsMadeIn, IsSameSeat, SeatAfter, SeatTried, TriesTo, WasBusy}
pub use Rattle.jc_cache.specs.Generations.{GenerationsFollow, IsEndOf}
pub use Rattle.jc_cache.specs.Meeting.{AreSessionSeats, IsSessionSeat, KeepRow, TellEach, TellsAt}
pub use Rattle.jc_cache.specs.Sessions.{BeginsAt, Completes, GoesOn, HoldsNothing, IsGivenOut, IsOf, IsSeatAt, MayCall, own_total}
pub use Rattle.jc_cache.specs.Turns.{HasLent, looking}
pub use Rattle.jc_engine.proofs.CallerLemmas.{Keeps, all_append, all_map, all_split, begun_row, call_in, commits_phase, counted_longer, forgets_keep, lent_grows, next_ended, next_place, once, picks_phase, row_split, shown_same, starts_phase, steps_in, waited_keeps}
pub use Rattle.jc_engine.specs.Doors.{HasTried, IsReady, Misses, waiting}
pub use Rattle.jc_engine.specs.Entering.{ended_with}
pub use Rattle.jc_engine.specs.Needs.{BeginsIfClear, CommitsHere, IsReported, PicksUpBy, PicksUpLate, Starts, StartsAt}
pub use Rattle.jc_engine.specs.Rows.{AllLend, IsTurn, LentPhase, PhaseLaws, Row, Turn}
pub use Rattle.jc_engine.specs.Turns.{EndsBy, HasLookedFirst, IsCallRow, StartWaits, committing, picking, state_decided, state_found, state_of_step, trying}
pub use Rattle.jc_lock.proofs.CallerLemmas.{prefix-refl, prefix-trans, same_at, same_itself, same_on}
pub use Rattle.jc_lock.specs.Views.{Finds, IsPhaseBy, IsTurnBy, after_give, after_join, after_miss, after_split, after_take, first_view, front_note, own_steps_of, session_number, session_view}
pub use Rattle.jc_lock.specs.declared.view.View.{View}
pub use Rattle.jc_model.specs.Cache.{Bytes, entry_at}
pub use Rattle.jc_model.specs.Statistics.{Occurrence, StatisticsLaws, capped, statistics_of, together}
pub use Rattle.jc_model.specs.declared.event.Event.{Event}
pub use Rattle.jc_model.specs.declared.event.Event.TheVariants.{Evict, Step}
pub use Rattle.jc_model.specs.declared.event.Op.{Op}
pub use Rattle.jc_model.specs.declared.event.Op.TheVariants.{Get, Invoke}
pub use Rattle.jc_model.specs.declared.event.Out.{Out}
pub use Rattle.jc_model.specs.declared.event.Reply.{Reply}
pub use Rattle.jc_outside.specs.Calling.{KeepsType, LoadRelation, WriteRelation}
pub use Rattle.jc_session.specs.Counting.{IsCounted, call_before, counts_after, one_more}
pub use Rattle.jc_session.specs.Sessions.{next_call}
pub use Rattle.jc_session.specs.declared.agent.Agent.{Agent}
pub use Rattle.jc_session.specs.declared.session.Session.{Session}
pub use Rattle.jc_stripe.proofs.CallerLemmas.{adds_whole, call_below, gains_whole, may_in_all, once_unless_shared, opened_len, own_stay, put_off_or_full, whole_goes_on}
pub use Rattle.jc_stripe.specs.Generations.{IsChain, IsOfSameStripe, past_events, present_generation, whole_history, whole_place}
pub use Rattle.jc_stripe.specs.OnePhase.{Forgetting, GainsOwn, IsPhaseOf, IsUniform, is_own_step, own_steps}
pub use Rattle.jc_stripe.specs.OwnSteps.{AddsOwn, HasOneMore, OwnNumbers, StepsBehind, is_before_call, may_come_all}
pub use Rattle.jc_stripe.specs.Phases.{after_commit, begun_with, polled_with}
pub use Rattle.jc_stripe.specs.Reached.{IsReached}
pub use Rattle.jc_stripe.specs.Renewal.{EndsGeneration, Renewal, Renews, StaysOrRenews, all_own_steps, live_on}
pub use Rattle.jc_stripe.specs.Reopening.{KeepsOrDrops, all_entries, dropped, entries_of, kept, opened_stripe, opened_stripes, shares_key, some_share_key}
pub use Rattle.jc_stripe.specs.State.{Generation, IsIdle, State, reservation_of}
pub use Rattle.jc_stripe.specs.declared.ticket.Reservation.{Reservation}
pub use Rattle.jc_types.specs.Limits.{check, is_between}
pub use Rattle.jc_types.specs.Stripes.{stripe_of}
pub use Rattle.jc_types.specs.declared.caller.Caller.{Caller}
pub use Rattle.jc_types.specs.declared.config.Config.{Config}
pub use Rattle.jc_types.specs.declared.limits.TheConstants.{LAST_NUMBER, SESSIONS_MAX, STRIPES_MAX}
pub use Rattle.jc_types.specs.declared.refusal.Refusal.{Refusal}

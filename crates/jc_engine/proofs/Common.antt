-- The names that most pages of this crate cite, passed on from one place. Declares nothing.
pub use Rattle.std.proofs.Common.{Bool, Bor, Err, IsSome, List, MatchBool, None, Ok, Option, Result, Some, [], ap, append-nil, append_assoc, arith, cond, false, filter, if◌then◌else◌, inl, inr, is_none, is_some, le_refl, length, map, not, option_map, refl, rules, slice_get, subst, suc, sym, take, true, zero, ℕ, ⊎_elim, ◌&&◌, ◌++◌, ◌+◌, ◌-◌, ◌==◌, ◌||◌, ◌∙◌, ◌∷◌, ◌≡◌, ◌≤◌, ◌⊎◌}
pub use Rattle.std.proofs.lemmas.Bool.{OnFalse_at, OnTrue_at, true≢false}
pub use Rattle.std.proofs.lemmas.List.{length-append}
pub use Rattle.jc_engine.specs.Answered.{CallAnswer, IsAnswered, Loaded, Processed, Written, out_of}
pub use Rattle.jc_engine.specs.Asking.{AsksLoader, AsksWriter, KeepsTypes, change_wanted, own_after}
pub use Rattle.jc_engine.specs.Calls.{AsksAndEnds, Enters, IsCall, TriesTo}
pub use Rattle.jc_engine.specs.Doors.{AreTries, HasTried, HasTriedOnce, HasWaited, IsAgain, IsLeft, IsReady, KeepsAccess, MakesWay}
pub use Rattle.jc_engine.specs.Entering.{counts_entered, ended_with}
pub use Rattle.jc_engine.specs.Needs.{BeginsIfClear, HasMissed, Hits, IsReported, Starts, StartsBy, can_start, counted_hit, is_alone, is_blocked, is_early, puts_off}
pub use Rattle.jc_engine.specs.Rows.{AllLend, IsLending, IsTurn, LentPhase, PhaseLaws, Row, Turn, turn_of}
pub use Rattle.jc_engine.specs.Turns.{AreRejoins, EndsBy, IsBegunRow, IsCallRow, IsRejoin, StartWaits, committing, picking, starting, state_decided, state_found, state_of_step, trying}
pub use Rattle.jc_engine.specs.declared.first.How.{How}
pub use Rattle.jc_engine.specs.declared.first.How.TheVariants.{Alone, Waits}
pub use Rattle.jc_gate.specs.Lending.{ComesAfter}
pub use Rattle.jc_model.specs.Cache.{Bytes, Cache, entry_at, key_cmp}
pub use Rattle.jc_model.specs.Group.{Group, cache_after_group, cache_before_step, events_of, evicted_events, history_of, load_only, nothing_said, shared_event, step_event, step_place, victim_events, write_only}
pub use Rattle.jc_model.specs.Table.{after_effect, entry_after, entry_by_fault, first_fault, is_invoke, is_process_given, loader_ask, value_after_load, wanted_if, write_ask}
pub use Rattle.jc_model.specs.declared.event.Change.{Change}
pub use Rattle.jc_model.specs.declared.event.Event.{Event}
pub use Rattle.jc_model.specs.declared.event.Event.TheVariants.{Evict, Step}
pub use Rattle.jc_model.specs.declared.event.LoadAnswer.{LoadAnswer}
pub use Rattle.jc_model.specs.declared.event.Op.{Op}
pub use Rattle.jc_model.specs.declared.event.Op.TheVariants.{Get, Invoke}
pub use Rattle.jc_model.specs.declared.event.Out.{Out}
pub use Rattle.jc_model.specs.declared.event.ProcessAnswer.TheVariants.{Ended, NotAsked}
pub use Rattle.jc_model.specs.declared.event.Reply.{Reply}
pub use Rattle.jc_outside.specs.Calling.{LoadRelation, LoadsOnce, WriteRelation, WritesOnce}
pub use Rattle.jc_session.proofs.CallerLemmas.{counted_with, phase_of, polled_counts}
pub use Rattle.jc_session.specs.Boxed.{boxed}
pub use Rattle.jc_session.specs.Counting.{IsCounted, counted_begun, counted_polled, counted_started, counts_after, counts_ended, one_more}
pub use Rattle.jc_session.specs.declared.agent.Agent.{Agent}
pub use Rattle.jc_session.specs.declared.counts.Counted.TheVariants.{Answered, Committed, Joined, Nothing, Reserved, Retried, Withdrawn}
pub use Rattle.jc_stripe.proofs.CallerLemmas.{adds_one, ask_found, gains_one, invokes, of_same, own_stay, stands_at, whole_goes_on}
pub use Rattle.jc_stripe.specs.Generations.{IsChain, IsOfSameStripe, first_opening, opening_after, past_events, present_generation, whole_history, whole_place}
pub use Rattle.jc_stripe.specs.Invalidating.{Ends, GivesBack, Sweeps, after_sweep, end_with, has_place, sweep, told_drop, without_entry}
pub use Rattle.jc_stripe.specs.OnePhase.{Forgetting, IsPhaseOf, is_own_step, own_steps}
pub use Rattle.jc_stripe.specs.Outcomes.{Asks, Begun, Done, StepDone}
pub use Rattle.jc_stripe.specs.OwnSteps.{CallerNumbers, HasOneMore, JoinsOnlyLoads, OwnSteps, WholeCall, may_come_all}
pub use Rattle.jc_stripe.specs.Phases.{Begins, Commits, MayBegin, PicksUp, Steps, begun_with, hit_done, is_other_call, is_other_join, new_group, polled_with, with_reply}
pub use Rattle.jc_stripe.specs.Reached.{IsReached}
pub use Rattle.jc_stripe.specs.Refusals.{first_asked, first_by, first_refusal, is_wanted, load_joined, may_hit, may_join, reserves}
pub use Rattle.jc_stripe.specs.Renewal.{Renewal, Renews, StaysOrRenews, all_own_steps, can_renew, is_full, is_renewable}
pub use Rattle.jc_stripe.specs.State.{Generation, IsIdle, State, is_barred, is_key, is_marked, is_of}
pub use Rattle.jc_stripe.specs.Tickets.{Claim, JoinClaim, TicketClaim, asks_loader, asks_processor, asks_writer, change_asked, claim_of, entry_seen, is_loadable}
pub use Rattle.jc_stripe.specs.declared.begun.Started.{Started}
pub use Rattle.jc_stripe.specs.declared.ticket.First.{First}
pub use Rattle.jc_stripe.specs.declared.ticket.First.TheVariants.{Loader, Nobody, Processor, Writer}
pub use Rattle.jc_stripe.specs.declared.ticket.Reservation.{Reservation}
pub use Rattle.jc_types.specs.declared.caller.Caller.{Caller}
pub use Rattle.jc_types.specs.declared.config.Config.{Config}
pub use Rattle.jc_types.specs.declared.refusal.Refusal.{Refusal}

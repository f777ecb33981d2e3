-- The names that most pages of this crate cite, passed on from one place. Declares nothing.
pub use Rattle.std.proofs.Common.{◌≡◌, ◌==◌, List, [], ◌∷◌, refl, sym, ap, subst, ◌∙◌, inl, inr, ℕ, zero, suc, All, map, Bool, true, false, cond, Option, None, Some, Result, arith, true≢false, ◌≤◌, ◌++◌, IfNone, IfSome, option_map, ◌&&◌, ◌||◌, slice_get, is_none, length, ◌<◌, ◌+◌, set, take, drop, get_or, ◌⊎◌, ⊎_elim, nat_lt, ◌*◌, vec_capacity, vec_len, le_refl, ◌-◌, slice_set}
pub use Rattle.std.proofs.lemmas.List.{append-nil, append_assoc, length-append, length-map, map-append, take_all, take_more}
pub use Rattle.std.proofs.lemmas.Option.{same_Some}
pub use Rattle.std.specs.Cmp.Lexicographic.{pointwise, same_text}
pub use Rattle.std.specs.Global.{Vec}
pub use Rattle.std.specs.List.{AllByRecursion, IsAmong, IsDistinct, cons_option, flat_map, list_all}
pub use Rattle.std.specs.Map.{keys_of}
pub use Rattle.indexmap.specs.IndexMap.{IndexMap, spare}
pub use Rattle.jc_batch.specs.Changes.{changes_of}
pub use Rattle.jc_batch.specs.declared.batch.Batch.{Batch}
pub use Rattle.jc_bulk.specs.Bulk.{DoesAll, GetsAll, HasLooked, IsBulkCall, IsLookedAt, LooksOnce, OnlyLooks, OrNoMemory, OrRefused, SweepsAll, TellsDone, TellsFound, causes_of}
pub use Rattle.jc_bulk.specs.Carrying.{IsRoomOf, IsRoomOfCall}
pub use Rattle.jc_bulk.specs.Outside.{Answered, AsksAs, BulkBehavior, CallsInRounds, HasOneToAsk, HaveAsked, IsAskedOf, IsRest, IsSpent, IsWrittenOf, MayAskFor, OutsideState, bulk_behavior, fits_first, items_in, no_asks, outside_kind, room_in, wanted_changes, with_ask, write_kind}
pub use Rattle.jc_bulk.specs.BulkRounds.{IsOutsideReady, KeysAskAs, RunsOn, TakesNew}
pub use Rattle.jc_bulk.specs.Targets.{clear_ops, get_ops, load_ops, remove_ops}
pub use Rattle.jc_bulk.specs.declared.fault.BulkFault.{BulkFault}
pub use Rattle.jc_bulk.specs.declared.outside.OutsideKind.{OutsideKind}
pub use Rattle.jc_bulk.specs.declared.outside.OutsideKind.TheVariants.{Delete, Load, Write}
pub use Rattle.jc_cache.specs.Caches.{CacheState}
pub use Rattle.jc_cache.specs.Sessions.{HasAsked, IsOf, MayCall}
pub use Rattle.jc_session.specs.declared.session.Session.{Session}
pub use Rattle.jc_model.specs.Batches.{is_among}
pub use Rattle.jc_model.specs.Cache.{Bytes}
pub use Rattle.jc_model.specs.declared.event.Change.{Change}
pub use Rattle.jc_model.specs.declared.event.Op.{Op}
pub use Rattle.jc_model.specs.declared.event.Op.TheVariants.{Clear, Get, Put, Remove}
pub use Rattle.jc_rounds.proofs.CallerLemmas.{IsOutAt, Seated, all_early, all_map, all_mapped, all_out, among_there, as_many, carried_out, distinct_reserved, failures_are, front_found, grown_itself, grown_on, grown_phase, holds_none, may_again, none_run, opens_call, ran_more, ran_none, ran_quiet, ran_refused, refused_over, same_keys, seen_own, types_on, view_set, view_there}
pub use Rattle.jc_rounds.specs.Answers.{AreAnswers, IsToBeAnswered, asked_key, done_room, is_change_of}
pub use Rattle.jc_rounds.specs.Asking.{AsksEachOnce, AsksFor, reserved_keys}
pub use Rattle.jc_rounds.specs.Ends.{KeyEnd, failed_entries, found_entries, key_ends, reply_value}
pub use Rattle.jc_rounds.specs.KeyProgress.{IsCauseIn, failure_at, holds_reservation, refusal_in}
pub use Rattle.jc_rounds.specs.OutsideCalls.{AreSpent, LoadCallAsked, LoadCallState, WriteCallAsked, WritesBatch, asked_keys, is_delete, no_loads, wanted}
pub use Rattle.jc_rounds.specs.AskingRounds.{HasReserved, IsRoundTold, KeepsTickets}
pub use Rattle.jc_rounds.specs.Rounds.{IsShown, KeyRun, LoadAll, LoadRound, ProcessAll, Round, WriteAll, WriteRound, faults_in, keys_asked, writer_failure}
pub use Rattle.jc_rounds.specs.Running.{EachTakesMemory, HasRun, with_rounds}
pub use Rattle.jc_rounds.specs.Seats.{HasGrown, view_at}
pub use Rattle.jc_rounds.specs.Targets.{ops_of, ops_with, put_ops}
pub use Rattle.jc_rounds.specs.Underway.{CallPast, HasStarted, IsNew, IsOver, AreFresh, reserved_by, with_round}
pub use Rattle.jc_rounds.specs.declared.answers.RoundAnswers.{RoundAnswers}
pub use Rattle.jc_rounds.specs.declared.answers.RoundAnswers.TheVariants.{Loads, Writes}
pub use Rattle.jc_rounds.specs.declared.bulk_call.BulkCall.{BulkCall}
pub use Rattle.jc_rounds.specs.declared.load_call.SpentLoads.{SpentLoads}
pub use Rattle.jc_rounds.specs.declared.progress.KeyProgress.{KeyProgress}
pub use Rattle.jc_stripe.proofs.CallerLemmas.{keys_once, keys_own, none_twice}
pub use Rattle.jc_stripe.specs.Refusals.{first_asked, first_by, reserves}
pub use Rattle.jc_stripe.specs.Tickets.{Claim, TicketClaim, asks_loader, asks_processor, asks_writer, change_asked, claim_of, writer_for}
pub use Rattle.jc_stripe.specs.declared.ticket.First.{First}
pub use Rattle.jc_stripe.specs.declared.ticket.First.TheVariants.{Loader, Nobody, Processor, Writer}
pub use Rattle.jc_stripe.specs.declared.ticket.Reservation.{Reservation}
pub use Rattle.jc_types.specs.Stripes.{stripe_of}
pub use Rattle.jc_types.specs.declared.config.Config.{Config}
pub use Rattle.jc_types.specs.declared.refusal.Refusal.{Refusal}

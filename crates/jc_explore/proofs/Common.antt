-- The names that most pages of this crate cite, passed on from one place. Declares nothing.
pub use Rattle.std.proofs.Common.{Bool, List, None, Option, Some, [], ap, append_assoc, arith, drop, eqb, false, get_or, inl, inr, is_some, length, length-append, map, nat_lt, refl, replicate, slice_get, slice_set, subst, suc, sym, take, true, true≢false, zero, ℕ, ◌&&◌, ◌++◌, ◌+◌, ◌<◌, ◌||◌, ◌∙◌, ◌∷◌, ◌≡◌, ◌≤◌, ◌⊎◌}
pub use Rattle.std.proofs.lemmas.Bool.{and_parts, or_parts}
pub use Rattle.std.proofs.lemmas.List.{append-nil, get_or-map, get_or-take, get_or_append_left, get_or_push, length-map, length-take-le, map-append, take-append-drop, take-append-le, take_more}
pub use Rattle.std.proofs.Math.Seq.{take-length}
pub use Rattle.std.proofs.lemmas.List.Elements.{All-push, All-take}
pub use Rattle.std.proofs.lemmas.List.Quantifiers.{Any-push, all_pairs_push}
pub use Rattle.std.proofs.lemmas.Option.{slice_get-get_or, slice_get_within}
pub use Rattle.std.specs.List.{All, AllPairs, Any, fold}
pub use borrow.Author.Tests.{eqb-false, eqb-true, lt-ltb}
pub use Rattle.jc_explore.specs.Explored.{AreDistinct, AreNearestFirst, AreOrdered, AreShortest, AreUnlike, AreWitnessed, CountsScenes, HasEachOutcome, HasEachScene, IsAmongScenes, IsEnd, IsEndOfOne, IsFollowed, IsFound, IsNextOfOne, IsNoFarther, IsReachedScene, IsShortest, IsWholeSchedule, Meets}
pub use Rattle.jc_explore.specs.Final.{FinalValue, IsFinal, final_of}
pub use Rattle.jc_explore.specs.Keys.{HasPlace, HaveOneKey, IsKeyOf, KeyValue, ScenesAlike, fingerprint_of_key, fingerprint_of_value, key_print_with, print_with_position, print_with_reply}
pub use Rattle.jc_explore.specs.Moves.{moves_of_thread, moves_up_to}
pub use Rattle.jc_explore.specs.Schedule.{Moves, PlaysSchedule, SceneState, has_number_for, has_session, have_sessions, is_proper, move_events, move_events_at, opening, position_after, positions_after, positions_at, replies_after, scene_state, unbegun, with_all_stored}
pub use Rattle.jc_explore.specs.Search.{Adds, AreKnown, AreNew, AreNext, AreSorted, AreStateProgress, EndsSearch, HasNextMove, HaveNearest, HavePlaces, HavePrints, HaveSchedule, IsAmong, IsClosedSchedule, IsClosedUpTo, IsKeyAt, IsKnown, IsKnownBy, IsNextOfKnown, IsNextSchedule, IsScheduleOf, IsSearchOf, IsSearched, IsStateProgress, KeepsMoves, LeadsLike, MeetsStates, StaysAt, WasFollowed, kept_if, progress_of}
pub use Rattle.jc_explore.specs.Telling.{AreProgress, IsProgress, IsToldAs, IsToldOf}
pub use Rattle.jc_explore.specs.Watching.{OnEnd, OnStates, Progress, Tells, WatchCall, calls_of}
pub use Rattle.jc_explore.specs.declared.key.StateKey.{StateKey}
pub use Rattle.jc_explore.specs.declared.known.KnownState.{KnownState}
pub use Rattle.jc_explore.specs.declared.known.States.{States}
pub use Rattle.jc_explore.specs.declared.moves.Act.TheVariants.{Begin}
pub use Rattle.jc_explore.specs.declared.moves.Move.{Move}
pub use Rattle.jc_explore.specs.declared.program.Program.{Program}
pub use Rattle.jc_explore.specs.declared.replies.ThreadReply.{ThreadReply}
pub use Rattle.jc_explore.specs.declared.scene.Position.{Position}
pub use Rattle.jc_explore.specs.declared.search.Finding.{Finding}
pub use Rattle.jc_explore.specs.declared.search.TheConstants.{OUTCOMES_MAX}
pub use Rattle.jc_model.specs.Cache.{Bytes, Cache, entry_at}
pub use Rattle.jc_model.specs.declared.event.Event.{Event}
pub use Rattle.jc_snapshot.specs.Laws.{HasOneSnapshot, SnapshotsStay, SnapshotsTell}
pub use Rattle.jc_snapshot.specs.Numbers.{Continues}
pub use Rattle.jc_snapshot.specs.Snapshot.{GrowsTo, IsSnapshot}
pub use Rattle.jc_snapshot.specs.declared.seen.Seen.{Seen}
pub use Rattle.jc_stripe.specs.State.{State}
pub use Rattle.jc_types.proofs.CallerLemmas.{stands_on}
pub use Rattle.jc_world.specs.Alike.{Agree, AgreeAt, AreLike, IsLike, WorldsAlike, WorldsGoOnAlike}
pub use Rattle.jc_world.specs.Determinism.{RunsAreDetermined, have_memory}
pub use Rattle.jc_world.specs.Essence.{EssencesTell, StripeEssence, WorldEssence, answer_in, essence_of, essence_of_world}
pub use Rattle.jc_world.specs.Runs.{Run, RunAppending}
pub use Rattle.jc_world.specs.World.{WorldState, cached_entry, entry_in, home}
pub use Rattle.jc_world.specs.declared.event.Shown.{Shown}
pub use Rattle.jc_world.specs.declared.event.WorldEvent.{WorldEvent}

-- The lemmas of the pages below the laws, passed on from one place. Declares nothing.
pub use Rattle.jc_world.proofs.Facts.{denied, missing, same_found}
pub use Rattle.jc_world.proofs.Halves.{HasParts, sound, joins_half}
pub use Rattle.jc_world.proofs.Shares.{is_some_and, still_at, set_cases, length-slice_set, found_test, each_map, fact_found, each_pushed, each_filter, each_test, each_kept, added, share_stays}
pub use Rattle.jc_world.proofs.Underway.{found_number, find_over, fits_found, find_pushed, others_left, same_bytes, of_call-at}
pub use Rattle.jc_world.proofs.Settling.{open_now, done_for, Left, going_is, still_called, each_settled}
pub use Rattle.jc_world.proofs.NewCalls.{opened_cases, begun_cases, begun_shown}
pub use Rattle.jc_world.proofs.Looked.{Taken, taken_of, taken_met, each_taken, found_replaced, ended_at, put_at, none_replaced}
pub use Rattle.jc_world.proofs.TaskLists.{keys-at_each, at_each-more, put_each_of-more, put_in_place, there_at, absent_same, open_distinct}
pub use Rattle.jc_world.proofs.Found.{lookup-found, found_new}
pub use Rattle.jc_world.proofs.Joiners.{joiner_of, find_kept, joined_resolved, joined_dissolved, joined_front, joined_last, called_resolved, called_dissolved, join_at, join_there, joined_no_part, other_key, none_inserted, none_removed, part_other}
pub use Rattle.jc_world.proofs.LoadKeys.{found_holds, same_number, load_there, joins_get}
pub use Rattle.jc_world.proofs.Beginning.{order_stored, empty_count, opened_empty, start_is, MayStart, may_start_at, begins_with, begins_at}
pub use Rattle.jc_world.proofs.Callers.{Picking, picking, looked_called, met_called, order_met, order_part, part_key, order_happens, order_opened, order_is, has_shares}
pub use Rattle.jc_world.proofs.Places.{at_stripe_apart, at_stripe, stripe_put, few_stripes, home_stripe}
pub use Rattle.jc_world.proofs.Dropping.{EndLeaves, end_leaves, BackLeaves, back_leaves, invalid_same, ends_extends, gives_back_extends, invalidates_extends, unreserved_apart, drop_extends, same_extends, dropped_entry, dropped_others, dropped_none, added_none, same_phase, with_dropped, Drop, cached_dropped, gone_dropped}
pub use Rattle.jc_world.proofs.Entries.{split, tied, agrees_stepped, writes, loads_asked, writes_asked, loads, asks_nobody}
pub use Rattle.jc_world.proofs.Reservations.{found_more, out_reserved, was_free, new_out, found_left}
pub use Rattle.jc_world.proofs.Processors.{invoke_is, agrees_processed, agrees_effect}
pub use Rattle.jc_world.proofs.KeyChanges.{AnswersNone, IsStart, KeyChange, by_nothing, by_refusal, by_step, by_reservation, by_join, by_commit, by_withdrawal, by_mark, by_answer, by_retry, start_change, pick_change, key_change, TellsDrop, of_step, of_withdrawal, of_same, tells_same, KeyEvent, plain, dropping, ends_as, is_end, end_event, worn_out, invalid_event, by_invalidation, StripeChange, by_key, beside_stripes, by_reopening, change_of, may_of, Move, move_at, no_move, quiet_move, loud_move, reopening_move, move_step}
pub use Rattle.jc_world.proofs.Numbered.{some_of, within, at_index, made_more}
pub use Rattle.jc_world.proofs.Returns.{each_report, IsWhole}
pub use Rattle.jc_world.proofs.Beside.{beside}

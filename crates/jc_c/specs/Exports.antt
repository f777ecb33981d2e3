-- The answer of each export, its effect on the desk, and what it writes.
--     export_code       the code of a call: the handle isn't open; an argument doesn't fit; the desk refuses the call by
--                       this code; or the call is made
--     BeginsForC        the first phase of the operation that its number and its values name
--     CommitsForC       the last phase of the reservation with this number, with these outside answers
--     HitsForC          a get that found its entry
--     join_named        the join of this call, at this key, of this load
--     PicksUpForC       the answer of a joiner was picked up, or is not there yet
--     WithdrawsForC     the reservation with this number is given back
--     InvalidatesForC   a key is invalidated
--     SweepsForC        a desk that is shut is swept
--     counts_written    the counts
--     opens_fit         the arguments of an opening fit
--     ListsEntries      these entries are written in their order, as far as there is room, and the rest of the buffer stays
use Rattle.std.specs.Prelude.{◌≡◌, ◌==◌, ◌&&◌, true, ℕ, List, map, take, drop, length, Bool, if◌then◌else◌}
use Rattle.std.specs.List.{list_all}
use Rattle.jc_model.specs.declared.event.Out.{Out}
use Rattle.jc_model.specs.declared.event.Reply.{Reply}
use Rattle.jc_model.specs.declared.statistics.Statistics.{Statistics}
use Rattle.jc_model.specs.Cache.{Bytes}
use Rattle.jc_stripe.specs.Tickets.{JoinClaim}
use Rattle.jc_stripe.specs.declared.desk.answers.FirstAnswer.{FirstAnswer}
use Rattle.jc_stripe.specs.declared.desk.answers.CommitDone.{CommitDone}
use Rattle.jc_stripe.specs.declared.desk.answers.PickUpAnswer.{PickUpAnswer}
use Rattle.jc_stripe.specs.declared.desk.answers.SweepAnswer.{SweepAnswer}
use Rattle.jc_stripe.specs.ValuesMoved.{MovesMade}
use Rattle.jc_stripe.specs.DeskState.{DeskState, is_open_shape, are_contents}
use Rattle.jc_stripe.specs.DeskPhases.{newest, BeginsAtDesk, HitsAtDesk, CommitsAtDesk, PicksUpAtDesk, WithdrawsAtDesk}
use Rattle.jc_stripe.specs.DeskPhases.{InvalidatesAtDesk, SweepsAtDesk}
use Rattle.jc_c.specs.declared.codes.TheConstants.{JC_OK, JC_CODE_WRONG_HANDLE, JC_CODE_BAD_ARGUMENT, JC_NEXT_DONE, JC_OUT_SIZE}
use Rattle.jc_c.specs.declared.layouts.PhaseOut.{PhaseOut}
use Rattle.jc_c.specs.declared.layouts.CacheShape.{CacheShape}
use Rattle.jc_c.specs.declared.layouts.InlineEntry.{InlineEntry}
use Rattle.jc_c.specs.declared.layouts.InlineValue.{InlineValue}
use Rattle.jc_c.specs.declared.layouts.CountsOut.{CountsOut}
use Rattle.jc_c.specs.Layouts.{inline_value, is_inline_value, StaysBehindValue, inline_entry, inline_entries, config_of}
use Rattle.jc_c.specs.Requests.{op_of_number, entry_fits}
use Rattle.jc_c.specs.Replies.{ShowsFirstAnswer, ShowsDone, ShowsPickUp, ShowsGone, shut_number, sweep_number}
use Rattle.jc_c.specs.Replies.{KeepsBesideAnswer, KeepsBesideDone, KeepsBesidePickUp, KeepsBesideGone}

abbrev pub export_code : Bool → Bool → Bool → ℕ → ℕ
export_code is_open fits takes other = if is_open then (if fits then (if takes then JC_OK else other)
    else JC_CODE_BAD_ARGUMENT) else JC_CODE_WRONG_HANDLE

-- 1. Phases.

pub record BeginsForC (old : DeskState) (session number : ℕ) (key value other : Bytes) (before out : PhaseOut)
    (new : DeskState) : Type 0 where
  pub reply : Reply
  pub moves : MovesMade
  pub answer : FirstAnswer
  pub begins : BeginsAtDesk old session out.call key (op_of_number number value other) reply moves answer new
  pub shown : ShowsFirstAnswer answer (newest new.stripe) reply moves out
  pub others_stay : KeepsBesideAnswer answer (newest new.stripe) reply moves (record before { call = out.call }) out

pub record HitsForC (old : DeskState) (session : ℕ) (key : Bytes) (before out : InlineValue) (new : DeskState) : Type 0 where
  pub call : ℕ
  pub hits : HitsAtDesk old session key (inline_value out) call new
  pub fits : is_inline_value out ≡ true
  pub behind : StaysBehindValue before out

pub record CommitsForC (old : DeskState) (number : ℕ) (answers : Out) (before out : PhaseOut) (new : DeskState) : Type 0 where
  pub reply : Reply
  pub moves : MovesMade
  pub commit : CommitDone
  pub commits : CommitsAtDesk old number answers reply moves commit new
  pub shown : ShowsDone commit.place commit.shared reply moves out
  pub others_stay : KeepsBesideDone reply moves before out
  pub call_stays : out.call ≡ before.call

abbrev pub join_named : ℕ → ℕ → Bytes → ℕ → JoinClaim
join_named session call key load = record { caller = record { session = session; call = call }; key = key; load = load }

pub record PicksUpForC (old : DeskState) (join : JoinClaim) (before out : PhaseOut) (new : DeskState) : Type 0 where
  pub reply : Reply
  pub answer : PickUpAnswer
  pub picks_up : PicksUpAtDesk old join reply answer new
  pub shown : ShowsPickUp answer reply out
  pub others_stay : KeepsBesidePickUp answer reply before out

pub record WithdrawsForC (old : DeskState) (number : ℕ) (before out : PhaseOut) (new : DeskState) : Type 0 where
  pub moves : MovesMade
  pub withdraws : WithdrawsAtDesk old number moves new
  pub shown : ShowsGone JC_NEXT_DONE moves out
  pub others_stay : KeepsBesideGone moves before out

pub record InvalidatesForC (old : DeskState) (key : Bytes) (before out : PhaseOut) (new : DeskState) : Type 0 where
  pub moves : MovesMade
  pub invalidates : InvalidatesAtDesk old key moves new
  pub shown : ShowsGone (shut_number new.stripe.shut) moves out
  pub others_stay : KeepsBesideGone moves before out

pub record SweepsForC (old : DeskState) (before out : PhaseOut) (new : DeskState) : Type 0 where
  pub moves : MovesMade
  pub answer : SweepAnswer
  pub sweeps : SweepsAtDesk old moves answer new
  pub shown : ShowsGone (sweep_number answer) moves out
  pub others_stay : KeepsBesideGone moves before out

-- 2. The contents of a desk.

abbrev pub counts_written : Statistics → CountsOut
counts_written counts = record {
  hits = counts.hits;
  misses = counts.misses;
  puts = counts.puts;
  removals = counts.removals;
  evictions = counts.evictions;
}

abbrev pub opens_fit : CacheShape → ℕ → List InlineEntry → Bool
opens_fit shape number entries =
    (shape.out_size == JC_OUT_SIZE) && list_all entry_fits entries && is_open_shape (config_of shape) number
    && are_contents (config_of shape) number (inline_entries entries)

pub record ListsEntries (entries : List (Bytes × Bytes)) (old new : List InlineEntry) : Type 0 where
  pub written : map inline_entry (take (length entries) new) ≡ take (length new) entries
  pub fit : list_all entry_fits (take (length entries) new) ≡ true
  pub stays : drop (length entries) new ≡ drop (length entries) old

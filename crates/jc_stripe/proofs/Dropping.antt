-- What an invalidation makes of a stripe's fields keeps them sound.
use Rattle.std.proofs.Common.{◌≡◌, ◌+◌, ◌-◌, List, [], ◌∷◌, ◌++◌, Bool, true, false, is_some, sym, ap, ◌∙◌, subst, arith, ◌≤◌, ◌<◌, ◌↔◌, IsTrue, if◌then◌else◌}
use Rattle.std.specs.FinMap as finite
use Rattle.jc_types.specs.declared.limits.TheConstants.{HIT_PLACES}
use Rattle.jc_model.specs.declared.event.Event.{Event}
use Rattle.jc_model.specs.Cache.{Bytes, key_cmp, entry_at}
use Rattle.jc_model.specs.Listed.{others}
use Rattle.jc_model.specs.Statistics.{StatisticsLaws, statistics_of, with_event}
use Rattle.jc_model.proofs.CallerLemmas.{from_entries-others}
use Rattle.jc_entries.specs.ByUse.{ByUse}
use Rattle.jc_history.specs.Past.{Past, places_used, push, promise}
use Rattle.jc_stripe.specs.declared.stripe.Stripe.TheInside.{Inside}
use Rattle.jc_stripe.specs.State.{State, is_key, is_reserved}
use Rattle.jc_stripe.specs.OrderOfUse.{by_use}
use Rattle.jc_stripe.specs.Occurrences.{has_entry, occurrences}
use Rattle.jc_stripe.specs.Reached.{IsReached, AreReserved}
use Rattle.jc_stripe.specs.Invalidating.{dropped_event, has_place, without_entry}
use Rattle.jc_stripe.specs.Inside.{IsStripe, state_of}
use Rattle.std.specs.Bool.{OnTrue, OnFalse}
use Rattle.std.specs.List.{list_any}
use Rattle.jc_stripe.specs.declared.ticket.Reservation.{Reservation}
use Rattle.jc_stripe.proofs.Beside.{all-push}
use Rattle.jc_stripe.proofs.Counting.{occurrences-append}
use Rattle.jc_stripe.proofs.Making.{promised_so, room_so}
use Rattle.jc_stripe.proofs.Settling.{reached_dropped, reached_retold, room_for}
use Rattle.jc_stripe.proofs.Used.{by_use-append, find-entry}

-- 1. Marks.

pub sound_retold : (i : Inside) (marks : List Bytes) (shut : Bool) → IsStripe i → AreReserved i.reservations.held marks → IsStripe (record i { marks = marks; is_shut = shut })
sound_retold i marks shut sound reserved = record {
  capacity = sound.capacity;
  limit = sound.limit;
  by_use = sound.by_use;
  promised = sound.promised;
  counted = sound.counted;
  boxes = sound.boxes;
  state = reached_retold (state_of i) marks shut sound.state reserved;
}

-- with one mark more, or as many as there may be
pub added_reserved : (rs : List Reservation) (old new : List Bytes) (key : Bytes) (room : Bool) → OnTrue room (new ≡ old ++ key ∷ []) → OnFalse room (new ≡ old) → AreReserved rs old → list_any (is_key key) rs ≡ true → AreReserved rs new
added_reserved rs old new key true a f h there = let P : List Bytes → Type 0 = λ marked. AreReserved rs marked in subst P (sym a) (all-push (λ (k : Bytes). list_any (is_key k) rs) old key h there)
added_reserved rs old new key false a f h there = let P : List Bytes → Type 0 = λ marked. AreReserved rs marked in subst P (sym f) h

-- 2. An eviction.

-- its place was promised
pub promised_place : (i : Inside) (s : State) (history : Past) (fits : Bool) → IsStripe i → state_of i ≡ s → has_place s ≡ true → (IsTrue fits ↔ (places_used i.history + HIT_PLACES ≤ i.history.limit))
    → history ≡ (if fits then promise HIT_PLACES i.history else i.history) → history ≡ promise HIT_PLACES i.history
promised_place i s history fits sound is place f h =
    promised_so HIT_PLACES i.history history fits f h (room_so i HIT_PLACES sound (room_for (state_of i) (ap has_place is ∙ place)))

pub some_promised : (old new : Past) → new ≡ promise HIT_PLACES old → 0 < new.promised
some_promised old new is = let p : new.promised ≡ old.promised + HIT_PLACES = ap (λ (p : Past). p.promised) is in omega arith

pub record IsDropped (i : Inside) (key : Bytes) (entries : ByUse) (history : Past) : Type 0 where
  pub sound : IsStripe i
  pub laws : StatisticsLaws
  pub free : is_reserved (state_of i) key ≡ false
  pub there : is_some (entry_at (state_of i).cache key) ≡ true
  pub place : has_place (state_of i) ≡ true
  pub removed : entries ≡ record i.entries { list = others key i.entries.list }
  pub pushed : history ≡ push true (dropped_event key) (promise HIT_PLACES i.history)

pub state_dropped : (i : Inside) (key : Bytes) (entries : ByUse) (history : Past) → IsDropped i key entries history → state_of (record i { entries = entries; history = history }) ≡ without_entry (state_of i) key
state_dropped i key entries history d =
    (λ k. state_of (record i { entries = d.removed k; history = d.pushed k }))
    ∙ (λ k. record (state_of i) { cache = from_entries-others key i.entries.list k; history = i.history.events ++ dropped_event key ∷ [] })

pub sound_dropped : (i : Inside) (key : Bytes) (entries : ByUse) (history : Past) → IsDropped i key entries history → IsStripe (record i { entries = entries; history = history })
sound_dropped i key entries history d =
    let opening : List (Bytes × Bytes) = i.life.opening in
    let before : List Event = i.history.events in
    let more : List Event = dropped_event key ∷ [] in
    let after : history.events ≡ before ++ more = ap (λ (p : Past). p.events) d.pushed in
    let kept : history.promised ≡ (i.history.promised + HIT_PLACES) - 1 = ap (λ (p : Past). p.promised) d.pushed in
    let was = d.sound.promised in
    let found : has_entry (by_use opening before) (dropped_event key) ≡ true =
    ap (λ es. is_some (finite.find key_cmp key es)) (sym d.sound.by_use) ∙ ap is_some (find-entry i.entries.list key) ∙ d.there in
    let occurred : occurrences opening (before ++ more) ≡ occurrences opening before ++ record { found = true; event = dropped_event key } ∷ [] =
    occurrences-append opening before more ∙ ap (λ b. occurrences opening before ++ record { found = b; event = dropped_event key } ∷ []) found in
    record {
      capacity = ap (λ (e : ByUse). e.capacity) d.removed ∙ d.sound.capacity;
      limit = ap (λ (p : Past). p.limit) d.pushed ∙ d.sound.limit;
      by_use = ap (λ (e : ByUse). e.list) d.removed ∙ ap (others key) d.sound.by_use ∙ sym (by_use-append opening before more) ∙ ap (by_use opening) (sym after);
      promised = omega arith;
      counted =
          ap (λ (p : Past). p.statistics) d.pushed
          ∙ ap (λ s. with_event s true (dropped_event key)) d.sound.counted
          ∙ sym (d.laws.one_more (occurrences opening before) (record { found = true; event = dropped_event key }))
          ∙ ap statistics_of (sym occurred)
          ∙ ap (λ es. statistics_of (occurrences opening es)) (sym after);
      boxes = d.sound.boxes;
      state = subst IsReached (sym (state_dropped i key entries history d)) (reached_dropped (state_of i) key d.sound.state d.free d.there d.place);
    }

-- Stored events stay as they are if more bytes are appended.
use Rattle.std.proofs.Common.{◌≡◌, ℕ, List, [], ◌∷◌, ◌++◌, ◌+◌, length, vec_len, vec_capacity, All, refl, sym, ap, subst, ◌∙◌, append_assoc, arith}
use Rattle.std.proofs.lemmas.List.{drop_at, length-append, append-nil, map-append}
use Rattle.std.proofs.lemmas.List.Elements.{All-head, All-tail, All-push, All-weaker}
use Rattle.std.specs.Global.{Vec}
use Rattle.jc_model.specs.declared.event.Event.{Event}
use Rattle.jc_history.specs.declared.room.TheConstants.{EVENT_ROOM}
use Rattle.jc_history.specs.Appending.{Appends}
use Rattle.jc_history.specs.Encoding.{event_bytes}
use Rattle.jc_history.specs.Encodable.{IsEncodable}
use Rattle.jc_history.specs.Decoding.{decode_event}
use Rattle.jc_history.specs.Stored.{event_at, events_at, IsComplete}
use Rattle.jc_history.specs.HistoryInside.{CanAppend, AppendsEvent}
use Rattle.jc_history.proofs.RoundTrip.{decode_event-event_bytes}

IsComplete-append : (bytes more : List ℕ) (start : ℕ) → IsComplete bytes start → IsComplete (bytes ++ more) start
IsComplete-append bytes more start h = record {
  within = omega (arith, h.within, length-append bytes more);
  same = λ after. ap (λ (b : List ℕ). event_at b start) (append_assoc bytes more after) ∙ h.same (more ++ after) ∙ sym (h.same more);
}

events_at-append : (bytes more starts : List ℕ) → All (IsComplete bytes) starts → events_at (bytes ++ more) starts ≡ events_at bytes starts
events_at-append bytes more [] h = refl
events_at-append bytes more (start ∷ starts) h =
    let head = (All-head (IsComplete bytes) start starts h).same more in
    let tail = events_at-append bytes more starts (All-tail (IsComplete bytes) start starts h) in
    cc

event_at-event_bytes_then : (bytes rest : List ℕ) (event : Event) → IsEncodable event → event_at (bytes ++ (event_bytes event ++ rest)) (length bytes) ≡ event
unfolding event_at
event_at-event_bytes_then bytes rest event is =
    ap (λ (b : List ℕ). (decode_event b).0) (drop_at bytes (event_bytes event ++ rest) (length bytes) refl) ∙ ap (λ (x : Event × List ℕ). x.0) (decode_event-event_bytes event rest is)

event_at-event_bytes : (bytes : List ℕ) (event : Event) → IsEncodable event → event_at (bytes ++ event_bytes event) (length bytes) ≡ event
event_at-event_bytes bytes event is =
    ap (λ (b : List ℕ). event_at (bytes ++ b) (length bytes)) (sym (append-nil (event_bytes event))) ∙ event_at-event_bytes_then bytes [] event is

IsComplete-event_bytes : (bytes : List ℕ) (event : Event) → IsEncodable event → IsComplete (bytes ++ event_bytes event) (length bytes)
IsComplete-event_bytes bytes event is = record {
  within = omega (arith, length-append bytes (event_bytes event));
  same = λ more. ap (λ (b : List ℕ). event_at b (length bytes)) (append_assoc bytes (event_bytes event) more) ∙ event_at-event_bytes_then bytes more event is ∙ sym (event_at-event_bytes bytes event is);
}

all_complete-event_bytes : (bytes starts : List ℕ) (event : Event) → All (IsComplete bytes) starts → IsEncodable event
    → All (IsComplete (bytes ++ event_bytes event)) (starts ++ length bytes ∷ [])
all_complete-event_bytes bytes starts event complete is =
    All-push (IsComplete (bytes ++ event_bytes event)) starts (length bytes)
    (All-weaker (IsComplete bytes) (IsComplete (bytes ++ event_bytes event)) (λ start h. IsComplete-append bytes (event_bytes event) start h) starts complete)
    (IsComplete-event_bytes bytes event is)

events_at-event_bytes : (bytes starts : List ℕ) (event : Event) → All (IsComplete bytes) starts → IsEncodable event
    → events_at (bytes ++ event_bytes event) (starts ++ length bytes ∷ []) ≡ events_at bytes starts ++ event ∷ []
events_at-event_bytes bytes starts event complete is =
    let before = events_at-append bytes (event_bytes event) starts complete in
    let last = event_at-event_bytes bytes event is in
    map-append (event_at (bytes ++ event_bytes event)) starts (length bytes ∷ []) ∙ cc

-- the index at which the event starts is put first, and then its bytes
pub appends_event : (bytes bytes' starts starts' : Vec ℕ) (event : Event) (start : ℕ) → CanAppend bytes starts → start ≡ length bytes.items → starts'.items ≡ starts.items ++ start ∷ [] → vec_len starts' ≡ vec_len starts + 1
    → vec_capacity starts' ≡ vec_capacity starts → Appends bytes bytes' (event_bytes event) EVENT_ROOM → IsEncodable event → AppendsEvent bytes starts event bytes' starts'
appends_event bytes bytes' starts starts' event start can here put more room appends is =
    let put_here : starts'.items ≡ starts.items ++ length bytes.items ∷ [] = put ∙ ap (λ n. starts.items ++ n ∷ []) here in
    record {
      events = (λ i. events_at (appends.items i) (put_here i)) ∙ events_at-event_bytes bytes.items starts.items event can.complete is;
      complete = subst (λ (p : List ℕ × List ℕ). All (IsComplete p.0) p.1) (λ i. (sym appends.items i, sym put_here i)) (all_complete-event_bytes bytes.items starts.items event can.complete is);
      few = appends.few;
      bytes_room = appends.capacity;
      len = more;
      starts_room = room;
    }

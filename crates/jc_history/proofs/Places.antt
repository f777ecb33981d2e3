-- The stored event at a place is what the bytes from its index on begin with.
--     event_at_place                   that event
--     reply_at_place, no_reply_past    its reply, and none past the last place
use Rattle.std.proofs.Common.{◌≡◌, ℕ, ◌-◌, ◌<◌, ◌≤◌, List, length, get_or, take, drop, slice_get, Option, Some, None, option_map, refl, sym, ap, ◌∙◌, length-drop, arith}
use Rattle.std.proofs.lemmas.List.{take_all}
use Rattle.std.proofs.lemmas.Option.{slice_get-map, slice_get-get_or, slice_get_past}
use Rattle.jc_model.specs.declared.event.Event.{Event}
use Rattle.jc_model.specs.declared.event.Reply.{Reply}
use Rattle.jc_history.specs.Past.{reply_in}
use Rattle.jc_history.specs.Decoding.{decode_event}
use Rattle.jc_history.specs.Stored.{event_at, events_at}

module _ (bytes starts : List ℕ) (place : ℕ) where
  pub event_at_place : (event : Event) → place < length starts
      → event ≡ (decode_event (take (length bytes - get_or starts place 0) (drop (get_or starts place 0) bytes))).0
      → slice_get (events_at bytes starts) place ≡ Some event
  unfolding event_at
  event_at_place event within is =
      let start = get_or starts place 0 in
      let all : length (drop start bytes) ≤ length bytes - start = omega (arith, length-drop start bytes) in
      slice_get-map (event_at bytes) starts place
      ∙ ap (option_map (event_at bytes)) (slice_get-get_or starts place 0 within)
      ∙ ap Some (sym (is ∙ ap (λ (b : List ℕ). (decode_event b).0) (take_all (length bytes - start) (drop start bytes) all)))

  pub reply_at_place : (answer : Option Reply) → place < length starts
      → answer ≡ reply_in (Some (decode_event (take (length bytes - get_or starts place 0) (drop (get_or starts place 0) bytes))).0)
      → answer ≡ reply_in (slice_get (events_at bytes starts) place)
  reply_at_place answer within is = is ∙ ap reply_in (sym (event_at_place _ within refl))

  pub no_reply_past : length starts ≤ place → None ≡ reply_in (slice_get (events_at bytes starts) place)
  no_reply_past past =
      ap reply_in (sym (slice_get-map (event_at bytes) starts place ∙ ap (option_map (event_at bytes)) (slice_get_past starts place past)))

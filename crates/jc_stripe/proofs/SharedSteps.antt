-- The steps of the callers that share a load stand behind the step that loaded.
use Rattle.std.proofs.Common.{◌≡◌, ◌+◌, ℕ, List, [], ◌∷◌, ◌++◌, length, map, None, Some, sym, ap, ◌∙◌, arith, slice_get, append_assoc}
use Rattle.std.proofs.lemmas.List.{length-append}
use Rattle.std.proofs.lemmas.Option.{slice_get-get_or}
use Rattle.std.proofs.Math.Seq.{get_or-append_seam}
use Rattle.jc_model.specs.declared.event.Event.{Event}
use Rattle.jc_model.specs.declared.event.LoadAnswer.{LoadAnswer}
use Rattle.jc_model.specs.declared.event.Op.TheVariants.{Get}
use Rattle.jc_model.specs.Cache.{Bytes}
use Rattle.jc_model.specs.Table.{reply_after}
use Rattle.jc_model.specs.Group.{Group, events_of, evicted_events, load_only, shared_event, step_event, step_place, victim_events}
use Rattle.jc_stripe.proofs.Settled.{SharedAt}
use Rattle.jc_types.specs.declared.caller.Caller.{Caller}

-- the place of an event is the number of those before it
pub stands_at : (before : List Event) (event : Event) (after : List Event) → slice_get (before ++ event ∷ after) (length before) ≡ Some event
stands_at before event after =
    slice_get-get_or (before ++ event ∷ after) (length before) event (omega (arith, length-append before (event ∷ after))) ∙ ap Some (get_or-append_seam before event after event)

pub shared-at : (before after : List Event) (shared : ℕ) (key : Bytes) (answer : LoadAnswer) (callers : List Caller) (history : List Event) (place : ℕ)
    → history ≡ before ++ (map (shared_event shared key answer) callers ++ after) → place ≡ length before → SharedAt history shared key place callers
shared-at before after shared key answer [] history place is at = tt
shared-at before after shared key answer (c ∷ cs) history place is at =
    let event : Event = shared_event shared key answer c in
    let rest : List Event = map (shared_event shared key answer) cs ++ after in (
      (load_only answer, reply_after Get None (load_only answer), ap (slice_get history) at ∙ ap (λ h. slice_get h (length before)) is ∙ stands_at before event rest),
      shared-at (before ++ event ∷ []) after shared key answer cs history (place + 1) (is ∙ sym (append_assoc before (event ∷ []) rest)) (omega (arith, length-append before (event ∷ []))),
    )

-- behind a group's step
pub shared-group : (history : List Event) (group : Group) → SharedAt (history ++ events_of (length history) group) (step_place (length history) group) group.step.key (step_place (length history) group + 1) group.joined
shared-group history group =
    let front : List Event = victim_events group.victim in
    let place : ℕ = step_place (length history) group in
    let steps : List Event = map (shared_event place group.step.key group.step.out.load) group.joined in
    let gone : List Event = evicted_events group.step.key group.evicted in
    shared-at (history ++ (front ++ step_event group ∷ [])) gone place group.step.key group.step.out.load group.joined (history ++ events_of (length history) group) (place + 1)
    (ap (λ es. history ++ es) (append_assoc front (step_event group ∷ steps) gone ∙ sym (append_assoc front (step_event group ∷ []) (steps ++ gone))) ∙ sym (append_assoc history (front ++ step_event group ∷ []) (steps ++ gone)))
    (omega (arith, length-append history (front ++ step_event group ∷ []), length-append front (step_event group ∷ [])))

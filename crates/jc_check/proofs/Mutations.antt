-- The last mutation among a processor's calls.
use Rattle.std.proofs.Common.{◌≡◌, ℕ, ◌+◌, ◌<◌, List, [], ◌∷◌, ◌++◌, length, get_or, take, Option, Some, None, refl, ap, sym, ◌∙◌}
use Rattle.std.proofs.lemmas.List.{map-append, take_more}
use Rattle.jc_check.specs.declared.record.EntrySight.{EntrySight}
use Rattle.jc_check.specs.Spot.{calls_of}
use Rattle.std.specs.Option.{option_or}
use Rattle.jc_model.specs.declared.processor.EntryCall.{EntryCall}
use Rattle.jc_model.specs.Cache.{Bytes}
use Rattle.jc_model.specs.Processor.{last_mutation, mutation}

or-assoc : {A : Type 0} (a b c : Option A) → option_or (option_or a b) c ≡ option_or a (option_or b c)
or-assoc None b c = refl
or-assoc (Some x) b c = refl

or-none : {A : Type 0} (a : Option A) → option_or a None ≡ a
or-none None = refl
or-none (Some x) = refl

pub last-push : (calls : List EntryCall) (call : EntryCall) → last_mutation (calls ++ call ∷ []) ≡ option_or (mutation call) (last_mutation calls)
last-push [] call = sym (or-none (mutation call))
last-push (x ∷ calls) call = ap (λ (o : Option (Option Bytes)). option_or o (mutation x)) (last-push calls call) ∙ or-assoc (mutation call) (last_mutation calls) (mutation x)

pub last-more : (sights : List EntrySight) (i : ℕ) (s : EntrySight) → i < length sights → s ≡ get_or sights i s
    → last_mutation (calls_of (take (i + 1) sights)) ≡ option_or (mutation s.call) (last_mutation (calls_of (take i sights)))
last-more sights i s h is =
    let call : EntrySight → EntryCall = λ x. x.call in
    ap (λ (xs : List EntrySight). last_mutation (calls_of xs)) (take_more sights i s h)
    ∙ ap last_mutation (map-append call (take i sights) (get_or sights i s ∷ []))
    ∙ last-push (calls_of (take i sights)) (get_or sights i s).call
    ∙ ap (λ (x : EntrySight). option_or (mutation x.call) (last_mutation (calls_of (take i sights)))) (sym is)

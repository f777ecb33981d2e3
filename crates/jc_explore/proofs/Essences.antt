-- Worlds that are alike have one essence, so scenes that are alike go on alike.
use Rattle.jc_explore.proofs.Common.{◌≡◌, ℕ, List, [], ◌∷◌, Option, length, map, sym, refl, ap, ◌∙◌, Bytes, Event, State, AgreeAt, Agree, IsLike, AreLike, WorldsAlike, answer_in, StripeEssence, essence_of, WorldEssence, essence_of_world, WorldState}
use Rattle.jc_inflight.specs.declared.joiner.Joiner.{Joiner}
use Rattle.jc_inflight.specs.declared.joiner.JoinState.{JoinState}
use Rattle.jc_inflight.specs.declared.joiner.JoinState.TheVariants.{Waiting, Answered, Again}
use Rattle.jc_stripe.specs.OrderOfUse.{by_use}

answer-agrees : (s : JoinState) (h k : List Event) → AgreeAt s h k → answer_in h s ≡ answer_in k s
answer-agrees Waiting h k a = refl
answer-agrees (Answered place shared) h k a = sym a
answer-agrees Again h k a = refl

abbrev answers : List Event → List Joiner → List (Option Event)
answers h js = map (λ j. answer_in h j.state) js

answers-agree : (js : List Joiner) (h k : List Event) → Agree js h k → answers h js ≡ answers k js
answers-agree [] h k a = refl
answers-agree (j ∷ js) h k a =
    ap (λ (x : Option Event). x ∷ answers h js) (answer-agrees j.state h k a.0)
    ∙ ap (λ (xs : List (Option Event)). answer_in k j.state ∷ xs) (answers-agree js h k a.1)

-- a stripe's essence, by its parts
abbrev with_parts : State → List (Bytes × Bytes) → ℕ → List (Option Event) → StripeEssence
with_parts a entries events as_ = record { rest = record a { opening = []; history = [] }; entries = entries; events = events; answers = as_ }

like-essence : (a b : State) → IsLike a b → essence_of a ≡ essence_of b
like-essence a b h =
    ap (λ (es : List (Bytes × Bytes)). with_parts a es (length a.history) (answers a.history a.joiners)) (sym h.order)
    ∙ ap (λ (n : ℕ). with_parts a (by_use b.opening b.history) n (answers a.history a.joiners)) (sym h.count)
    ∙ ap (λ (xs : List (Option Event)). with_parts a (by_use b.opening b.history) (length b.history) xs) (answers-agree a.joiners a.history b.history h.answers)
    ∙ sym (ap (λ (s : State). essence_of s) h.is)

are_like-essences : (as_ bs : List State) → AreLike as_ bs → map essence_of as_ ≡ map essence_of bs
are_like-essences [] [] h = refl
are_like-essences [] (b ∷ bs) h = absurd h
are_like-essences (a ∷ as_) [] h = absurd h
are_like-essences (a ∷ as_) (b ∷ bs) h =
    ap (λ (e : StripeEssence). e ∷ map essence_of as_) (like-essence a b h.0)
    ∙ ap (λ (es : List StripeEssence). essence_of b ∷ es) (are_like-essences as_ bs h.1)

abbrev with_stripes : WorldState → List StripeEssence → WorldEssence
with_stripes w es = record { rest = record w { stripes = []; order = [] }; stripes = es }

pub alike-essence : (w v : WorldState) → WorldsAlike w v → essence_of_world w ≡ essence_of_world v
alike-essence w v h =
    ap (λ (es : List StripeEssence). with_stripes w es) (are_like-essences w.stripes v.stripes h.alike)
    ∙ sym (ap (λ (x : WorldState). with_stripes x (map essence_of v.stripes)) h.is)

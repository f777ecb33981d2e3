-- Worlds with one essence are alike.
use Rattle.jc_world.proofs.Common.{◌≡◌, List, [], ◌∷◌, length, map, Option, None, sym, ap, ◌∙◌, arith, Event, Joiner, JoinState, Waiting, Answered, Again, State, WorldState}
use Rattle.jc_world.specs.Alike.{AgreeAt, Agree, IsLike, AreLike, WorldsAlike}
use Rattle.jc_world.specs.Essence.{answer_in, StripeEssence, essence_of, WorldEssence, essence_of_world}

abbrev first_or : {X : Type 0} → X → List X → X
first_or x [] = x
first_or x (y ∷ ys) = y

abbrev rest_of : {X : Type 0} → List X → List X
rest_of [] = []
rest_of (y ∷ ys) = ys

agree-at : (s : JoinState) (h k : List Event) → answer_in h s ≡ answer_in k s → AgreeAt s h k
agree-at Waiting h k is = tt
agree-at (Answered place shared) h k is = sym is
agree-at Again h k is = tt

agree : (js : List Joiner) (h k : List Event) → map (λ (j : Joiner). answer_in h j.state) js ≡ map (λ (j : Joiner). answer_in k j.state) js → Agree js h k
agree [] h k is = tt
agree (j ∷ js) h k is = (agree-at j.state h k (ap (λ (l : List (Option Event)). first_or None l) is), agree js h k (ap (λ (l : List (Option Event)). rest_of l) is))

like-from : (a b : State) → essence_of a ≡ essence_of b → IsLike a b
like-from a b is =
    let rest : record a { opening = []; history = [] } ≡ record b { opening = []; history = [] } = ap (λ (e : StripeEssence). e.rest) is in
    let joiners : a.joiners ≡ b.joiners = ap (λ (s : State). s.joiners) rest in
    let answers : map (λ (j : Joiner). answer_in a.history j.state) a.joiners ≡ map (λ (j : Joiner). answer_in b.history j.state) a.joiners =
    ap (λ (e : StripeEssence). e.answers) is ∙ ap (λ (js : List Joiner). map (λ (j : Joiner). answer_in b.history j.state) js) (sym joiners) in
    record {
      is = ap (λ (s : State). record s { opening = b.opening; history = b.history }) (sym rest);
      order = sym (ap (λ (e : StripeEssence). e.entries) is);
      count = sym (ap (λ (e : StripeEssence). e.events) is);
      answers = agree a.joiners a.history b.history answers;
    }

are_like-from : (ss ts : List State) → map essence_of ss ≡ map essence_of ts → AreLike ss ts
are_like-from [] [] is = tt
are_like-from [] (t ∷ ts) is = absurd (omega (arith, ap (λ (l : List StripeEssence). length l) is))
are_like-from (s ∷ ss) [] is = absurd (omega (arith, ap (λ (l : List StripeEssence). length l) is))
are_like-from (s ∷ ss) (t ∷ ts) is =
    (like-from s t (ap (λ (l : List StripeEssence). first_or (essence_of s) l) is), are_like-from ss ts (ap (λ (l : List StripeEssence). rest_of l) is))

pub essences-tell : (w v : WorldState) → essence_of_world w ≡ essence_of_world v → WorldsAlike w v
essences-tell w v is =
    let rest : record w { stripes = []; order = [] } ≡ record v { stripes = []; order = [] } = ap (λ (e : WorldEssence). e.rest) is in
    record {
      is = ap (λ (x : WorldState). record x { stripes = v.stripes; order = v.order }) (sym rest);
      alike = are_like-from w.stripes v.stripes (ap (λ (e : WorldEssence). e.stripes) is);
    }

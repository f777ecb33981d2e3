-- What a watch is told of a search, call by call.
use Rattle.jc_explore.proofs.Common.{◌≡◌, ℕ, ◌+◌, ◌<◌, ◌≤◌, List, [], ◌∷◌, ◌++◌, length, map, take, drop, Option, None, Some, slice_get, get_or, sym, refl, ap, ◌∙◌, subst, arith, inl, inr, append-nil, append_assoc, map-append, length-append, take-append-drop, take-append-le, take-length, length-take-le, get_or-take, slice_get_within, All-take, KnownState, Program, Finding, Seen, SceneState, AreWitnessed, IsWholeSchedule, Meets, RunsAreDetermined, final_of, AreStateProgress, AreProgress, Continues, CountsScenes, EndsSearch, HasOneSnapshot, IsSearchOf, IsStateProgress, IsToldOf, MeetsStates, OUTCOMES_MAX, OnStates, Progress, WatchCall, Tells}
use Rattle.std.specs.Global.{Vec}
use Rattle.std.specs.Prelude.{Err, Ok}
use Rattle.jc_explore.specs.declared.search.Explored.{Explored}
use Rattle.jc_explore.specs.declared.search.Search.{Search}
use Rattle.jc_explore.proofs.AllMoves.{lt_or_le}
use Rattle.jc_explore.proofs.Counting.{AreScenesOf, IsSceneOf, are-counted, scenes-meet, scenes-of}
use Rattle.jc_explore.proofs.Searching.{same-at, slice-back, there-at}
use Rattle.jc_explore.proofs.Shortest.{adds-one}

-- 1. The calls of a watch.

pub tells-none : (old : Option (List WatchCall)) → Tells old old []
tells-none None = tt
tells-none (Some xs) = sym (append-nil xs)

pub tells-then : (a b c : Option (List WatchCall)) (xs ys : List WatchCall) → Tells a b xs → Tells b c ys → Tells a c (xs ++ ys)
tells-then None b c xs ys p q = tt
tells-then (Some a) None c xs ys p q = absurd p
tells-then (Some a) (Some b) None xs ys p q = absurd q
tells-then (Some a) (Some b) (Some c) xs ys p q = q ∙ ap (λ (t : List WatchCall). t ++ ys) p ∙ append_assoc a xs ys

pub tells-more : (a b c : Option (List WatchCall)) (rows : List Progress) (row : Progress) → Tells a b (map OnStates rows) → Tells b c (OnStates row ∷ []) → Tells a c (map OnStates (rows ++ row ∷ []))
tells-more a b c rows row p q = subst (Tells a c) (sym (map-append OnStates rows (row ∷ []))) (tells-then a b c (map OnStates rows) (OnStates row ∷ []) p q)

-- 2. The progress of a search.

taken-on : {X : Type 0} (was now : List X) (n : ℕ) → Continues was now → n ≤ length was → take n now ≡ take n was
taken-on {X = X} was now n grown h = ap (λ (xs : List X). take n xs) grown.1 ∙ take-append-le n was grown.0 h

grown-length : {X : Type 0} (was now : List X) → Continues was now → length was ≤ length now
grown-length {X = X} was now grown = omega (arith, length-append was grown.0, ap (λ (xs : List X). length xs) grown.1)

progress-on : (p : Program) (was now : List KnownState) (before found : List Finding) (row : Progress) → Continues was now → Continues before found
    → IsStateProgress p was before row → IsStateProgress p now found row
progress-on p was now before found row grown more h =
    record {
      followed_within = h.followed_within;
      known_within = omega (arith, h.known_within, grown-length was now grown);
      found_within = omega (arith, h.found_within, grown-length before found more);
      few = h.few;
      meets = subst (λ (ks : List KnownState). MeetsStates p ks (take row.found found) row.followed) (sym (taken-on was now row.known grown h.known_within))
          (subst (λ (xs : List Finding). MeetsStates p (take row.known was) xs row.followed) (sym (taken-on before found row.found more h.found_within)) h.meets);
    }

pub no-progress : (p : Program) (known : List KnownState) (found : List Finding) → AreStateProgress p known found []
no-progress p known found k row at = absurd (let inside = slice_get_within [] k row at in omega (arith, inside))

pub progress-grown : (p : Program) (was now : List KnownState) (before found : List Finding) (rows : List Progress) → Continues was now → Continues before found
    → AreStateProgress p was before rows → AreStateProgress p now found rows
progress-grown p was now before found rows grown more all k row at = let one = all k row at in (one.0, progress-on p was now before found row grown more one.1)

-- the progress before one state more is followed
pub progress-push : (p : Program) (known : List KnownState) (found : List Finding) (rows : List Progress) (place : ℕ) → AreStateProgress p known found rows → length rows ≡ place → place ≤ length known
    → length found ≤ OUTCOMES_MAX → MeetsStates p known found place → AreStateProgress p known found (rows ++ record { followed = place; known = length known; found = length found } ∷ [])
progress-push p known found rows place all many within few meets k row at =
    let last : Progress = record { followed = place; known = length known; found = length found } in
    elim (lt_or_le k (length rows)) [
      | inl less ↦ all k row (slice-back rows (rows ++ last ∷ []) k row (last ∷ [], refl) less at)
      | inr new ↦
          let is : row ≡ last = adds-one (λ (x : Progress). x ≡ last) rows last refl k row new at in
          let inside = slice_get_within (rows ++ last ∷ []) k row at in
          let here : IsStateProgress p known found last = record {
            followed_within = within;
            known_within = omega arith;
            found_within = omega arith;
            few = few;
            meets = subst (λ (ks : List KnownState). MeetsStates p ks (take (length found) found) place) (sym (take-length known))
                (subst (λ (xs : List Finding). MeetsStates p known xs place) (sym (take-length found)) meets);
          } in
          (ap (λ (x : Progress). x.followed) is ∙ omega (arith, new, inside, many, length-append rows (last ∷ [])), subst (IsStateProgress p known found) (sym is) here)
    ]

-- 3. The same of scenes.

scenes-taken : (p : Program) (seen : Seen) (known : List KnownState) (scenes : List SceneState) (n : ℕ) → AreScenesOf p seen known scenes → n ≤ length known → AreScenesOf p seen (take n known) (take n scenes)
scenes-taken p seen known scenes n are within =
    let many : length (take n known) ≡ n = length-take-le n known within in
    record {
      as_many = length-take-le n scenes (omega (arith, within, are.as_many)) ∙ sym many;
      at = λ i e h.
          let below : i < n = omega (arith, h, many) in
          let a = are.at i e (omega (arith, below, within)) in
          let here : slice_get (take n known) i ≡ Some a.0 =
          there-at (take n known) i a.0 h ∙ ap (λ (k : KnownState). Some k) (get_or-take n known i a.0 below ∙ same-at known i a.0 a.0 (omega (arith, below, within)) a.1) in
          subst (λ (s : SceneState). (k : KnownState) × (slice_get (take n known) i ≡ Some k) × IsSceneOf p seen k s) (sym (get_or-take n scenes i e below)) (a.0, here, a.2);
    }

take-taken : {X : Type 0} (xs : List X) (n most : ℕ) → n ≤ most → most ≤ length xs → take n (take most xs) ≡ take n xs
take-taken {X = X} xs n most h within =
    sym (ap (λ (ys : List X). take n ys) (sym (take-append-drop most xs)) ∙ take-append-le n (take most xs) (drop most xs) (omega (arith, h, length-take-le most xs within)))

pub progress-scenes : RunsAreDetermined → (p : Program) (seen : Seen) (known : List KnownState) (scenes : List SceneState) (found : List Finding) (rows : List Progress) → AreScenesOf p seen known scenes
    → AreWitnessed p found → AreStateProgress p known found rows → AreProgress p scenes found rows
progress-scenes det p seen known scenes found rows are witnessed all k row at =
    let one = all k row at in
    let h : IsStateProgress p known found row = one.1 in
    let many : row.known ≤ length scenes = omega (arith, h.known_within, are.as_many) in (
      one.0,
      record {
        known_within = many;
        found_within = h.found_within;
        few = h.few;
        meets = subst (λ (ss : List SceneState). Meets p ss (take row.known scenes) (take row.found found)) (take-taken scenes row.followed row.known h.followed_within many)
            (scenes-meet det p seen (take row.known known) (take row.known scenes) (take row.found found) row.followed (scenes-taken p seen known scenes row.known are h.known_within)
            (omega (arith, h.followed_within, length-take-le row.known known h.known_within))
            (All-take (λ (x : Finding). IsWholeSchedule p x.witness.items (final_of x.state)) row.found found witnessed) h.meets);
      },
    )

-- 4. What is told of the result.

pub told-whole : RunsAreDetermined → (p : Program) (budget : ℕ) (rows : List Progress) (search : Search) (r : Explored) → HasOneSnapshot search.known.seen → EndsSearch p budget rows search r.is_whole
    → r.states ≡ length search.known.list.items → r.found ≡ search.found → (counted : CountsScenes p budget r) × (length rows ≡ counted.followed) × AreProgress p counted.scenes r.found.items rows
told-whole det p budget rows search r only ended count found =
    let counted = are-counted det p budget rows search r only ended count found in
    let progress = progress-scenes det p search.known.seen search.known.list.items counted.0.scenes search.found.items rows counted.1 ended.search.witnessed ended.told.1 in
    (counted.0, ended.told.0 ∙ sym counted.2, subst (λ (xs : Vec Finding). AreProgress p counted.0.scenes xs.items rows) (sym found) progress)

-- after an allocation has failed: of the scenes that were known by then
pub told-before : RunsAreDetermined → (p : Program) (budget : ℕ) (rows : List Progress) (t : Search) → length rows ≤ budget → IsSearchOf p t.known t.found.items
    → AreStateProgress p t.known.list.items t.found.items rows
    → (length rows ≤ budget) × ((scenes : List SceneState) × (found : List Finding) × AreProgress p scenes found rows)
told-before det p budget rows t within is progress =
    let made = scenes-of p t.known.seen t.known.list.items is.known.each in
    (within, (made.0, t.found.items, progress-scenes det p t.known.seen t.known.list.items made.0 t.found.items rows made.1 is.witnessed progress))

pub none-told : (p : Program) (budget : ℕ) → (0 ≤ budget) × ((scenes : List SceneState) × (found : List Finding) × AreProgress p scenes found [])
none-told p budget = (omega arith, ([], [], λ k row at. absurd (let inside = slice_get_within [] k row at in omega (arith, inside))))

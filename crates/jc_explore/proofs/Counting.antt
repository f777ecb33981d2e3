-- The states that are known are as many scenes, no two of them alike.
use Rattle.jc_explore.proofs.Common.{◌≡◌, ℕ, zero, suc, ◌<◌, ◌≤◌, ◌⊎◌, List, [], ◌∷◌, ◌++◌, length, take, Some, slice_get, get_or, sym, refl, ap, ◌∙◌, subst, arith, inl, inr, All, AllPairs, Any, get_or-take, length-take-le, RunsAreDetermined, WorldEssence, essence_of_world, Seen, HasOneSnapshot, IsSnapshot, StateKey, KnownState, States, Move, Moves, Program, Finding, AreNearestFirst, AreSorted, AreUnlike, AreWitnessed, HasEachScene, IsAmongScenes, IsEndOfOne, IsFollowed, IsNextOfOne, IsNoFarther, IsEnd, IsFinal, Meets, CountsScenes, EndsSearch, OUTCOMES_MAX, IsReachedScene, ScenesAlike, IsKeyOf, HaveOneKey, SceneState, PlaysSchedule, Progress, opening, final_of, AreKnown, HaveNearest, IsKnown, IsKnownBy, IsNextOfKnown, IsScheduleOf, LeadsLike, MeetsStates}
use Rattle.std.specs.Global.{Vec}
use Rattle.jc_explore.specs.declared.search.Explored.{Explored}
use Rattle.jc_explore.specs.declared.search.Search.{Search}
use Rattle.jc_explore.proofs.AlikeScenes.{scenes-refl, scenes-sym, scenes-trans}
use Rattle.jc_explore.proofs.AllMoves.{lt_or_le}
use Rattle.jc_explore.proofs.Closing.{HasEachKnown}
use Rattle.jc_explore.proofs.Meeting.{each-met}
use Rattle.jc_explore.proofs.Runs.{plays-determined, plays-from}
use Rattle.jc_explore.proofs.Searching.{same-at, there-at}
use Rattle.jc_explore.proofs.Shortest.{elem-at}

pub record IsSceneOf (p : Program) (seen : Seen) (k : KnownState) (s : SceneState) : Type 0 where
  pub plays : PlaysSchedule p (opening p) k.schedule.items s
  pub key : IsKeyOf seen k.key s

-- the scene at a place is that of the state there
abbrev SceneAt : Program → Seen → List KnownState → List SceneState → ℕ → SceneState → Type 0
SceneAt p seen known scenes i e = (k : KnownState) × (slice_get known i ≡ Some k) × IsSceneOf p seen k (get_or scenes i e)

pub record AreScenesOf (p : Program) (seen : Seen) (known : List KnownState) (scenes : List SceneState) : Type 0 where
  pub as_many : length scenes ≡ length known
  pub at : (i : ℕ) (e : SceneState) → i < length known → SceneAt p seen known scenes i e

at-cons : (p : Program) (seen : Seen) (k : KnownState) (ks : List KnownState) (s : SceneState) (ss : List SceneState) → IsSceneOf p seen k s
    → ((i : ℕ) (e : SceneState) → i < length ks → SceneAt p seen ks ss i e)
    → (i : ℕ) (e : SceneState) → i < length (k ∷ ks) → SceneAt p seen (k ∷ ks) (s ∷ ss) i e
at-cons p seen k ks s ss first rest zero e h = (k, refl, first)
at-cons p seen k ks s ss first rest (suc i) e h = rest i e (omega (arith, h))

pub scenes-of : (p : Program) (seen : Seen) (known : List KnownState) → All (IsKnownBy p seen) known → (scenes : List SceneState) × AreScenesOf p seen known scenes
scenes-of p seen [] all = ([], record { as_many = refl; at = λ i e h. absurd (omega (arith, h)) })
scenes-of p seen (k ∷ ks) all =
    let by : IsKnownBy p seen k = all 0 k (omega arith) in
    let rest = scenes-of p seen ks (λ i d h. all (suc i) d (omega (arith, h))) in (
      by.scene ∷ rest.0,
      record {
        as_many = ap (λ (n : ℕ). suc n) rest.1.as_many;
        at = at-cons p seen k ks by.scene rest.0 (record { plays = by.plays; key = by.key }) rest.1.at;
      },
    )

-- scenes that are alike have one key over the same tables
one-key : (seen : Seen) → HasOneSnapshot seen → (a b : StateKey) (s t : SceneState) → IsKeyOf seen a s → IsKeyOf seen b t → ScenesAlike s t → HaveOneKey a b
one-key seen only a b s t x y like =
    let snapshot = only (essence_of_world t.world) a.snapshot b.snapshot
    (subst (λ (e : WorldEssence). IsSnapshot e seen a.snapshot) like.world x.world) y.world in
    let positions = x.positions ∙ like.positions ∙ sym y.positions in
    let replies = x.replies ∙ like.replies ∙ sym y.replies in
    λ i. record { snapshot = snapshot i; positions = positions i; replies = replies i }

abbrev Apart : KnownState → KnownState → Type 0
Apart a b = HaveOneKey a.key b.key → ⊥

apart-at : (known : List KnownState) (i j : ℕ) (a b : KnownState) → i < j → j < length known → slice_get known i ≡ Some a → slice_get known j ≡ Some b
    → AllPairs (λ (x y : KnownState). HaveOneKey x.key y.key → ⊥) known → Apart a b
apart-at known i j a b below inside first second apart =
    subst (λ (x : KnownState). Apart x b) (same-at known i a a (omega (arith, below, inside)) first)
    (subst (λ (y : KnownState). Apart (get_or known i a) y) (same-at known j a b inside second) (apart i j a below inside))

scenes-unlike : (p : Program) (states : States) (scenes : List SceneState) → HasOneSnapshot states.seen → AreKnown p states → AreScenesOf p states.seen states.list.items scenes → AreUnlike scenes
scenes-unlike p states scenes only known are i j e below inside like =
    let known_list = states.list.items in
    let within : j < length known_list = omega (arith, inside, are.as_many) in
    let a = are.at i e (omega (arith, below, within)) in
    let b = are.at j e within in
    apart-at known_list i j a.0 b.0 below within a.1 b.1 known.apart
    (one-key states.seen only a.0.key b.0.key (get_or scenes i e) (get_or scenes j e) a.2.key b.2.key like)

scenes-reached : (p : Program) (seen : Seen) (known : List KnownState) (scenes : List SceneState) → AreScenesOf p seen known scenes → All (λ (s : SceneState). IsReachedScene p s) scenes
scenes-reached p seen known scenes are i e h =
    let a = are.at i e (omega (arith, h, are.as_many)) in
    (a.0.schedule.items, a.2.plays)

-- what is known is like one of the scenes
known-among : RunsAreDetermined → (p : Program) (seen : Seen) (known : List KnownState) (scenes : List SceneState) → AreScenesOf p seen known scenes
    → (s : SceneState) → IsKnown p known s → IsAmongScenes scenes s
known-among det p seen known scenes are s h =
    let a = are.at h.0 s h.2 in
    let inside : h.0 < length scenes = omega (arith, h.2, are.as_many) in
    let here : SceneState = get_or scenes h.0 s in
    let is : a.0 ≡ h.1 = sym (same-at known h.0 h.1 a.0 h.2 a.1) ∙ h.3 in
    let plays : PlaysSchedule p (opening p) h.1.schedule.items here = subst (λ (k : KnownState). PlaysSchedule p (opening p) k.schedule.items here) is a.2.plays in
    let same : h.4.0 ≡ here = plays-determined det p (opening p) h.4.0 here h.1.schedule.items h.4.1 plays in
    (h.0, here, inside, same-at scenes h.0 here here inside (there-at scenes h.0 s inside), subst (λ (t : SceneState). ScenesAlike s t) same h.4.2)

scenes-each : RunsAreDetermined → (p : Program) (seen : Seen) (known : List KnownState) (scenes : List SceneState) → AreScenesOf p seen known scenes → HasEachKnown p known → HasEachScene p scenes
scenes-each det p seen known scenes are each s reached = known-among det p seen known scenes are s (each s reached)

-- 1. What the search has met.

-- the scene at a place of those that were followed
taken-at : {X : Type 0} (xs : List X) (count k : ℕ) (d : X) → count ≤ length xs → k < count → (k < length (take count xs)) × (get_or (take count xs) k d ≡ get_or xs k d)
taken-at xs count k d within below = (omega (arith, length-take-le count xs within, below), get_or-take count xs k d below)

any-taken : {X : Type 0} (P : X → Type 0) (xs : List X) (count k : ℕ) (d : X) → count ≤ length xs → k < count → P (get_or xs k d) → Any P (take count xs)
any-taken {X = X} P xs count k d within below h =
    let x : X = get_or xs k d in
    let at = taken-at xs count k x within below in
    (k, x, at.0, at.1 ∙ same-at xs k x x (omega (arith, within, below)) (there-at xs k d (omega (arith, within, below))), h)

-- the scene at a place is the one to which the schedule there leads
scene-at : RunsAreDetermined → (p : Program) (seen : Seen) (known : List KnownState) (scenes : List SceneState) (k : ℕ) (m : KnownState) (s : SceneState) → AreScenesOf p seen known scenes
    → slice_get known k ≡ Some m → k < length known → PlaysSchedule p (opening p) m.schedule.items s → get_or scenes k s ≡ s
scene-at det p seen known scenes k m s are at inside plays =
    let a = are.at k s inside in
    let is : a.0 ≡ m = sym (same-at known k m a.0 inside a.1) ∙ same-at known k m m inside at in
    plays-determined det p (opening p) (get_or scenes k s) s m.schedule.items (subst (λ (x : KnownState). PlaysSchedule p (opening p) x.schedule.items (get_or scenes k s)) is a.2.plays) plays

one-move : (p : Program) (t s : SceneState) (m : Move) → PlaysSchedule p t (m ∷ []) s → Moves p t m s
one-move p t s m plays = subst (λ (x : SceneState). Moves p t m x) (sym plays.2) plays.1

next-scene : RunsAreDetermined → (p : Program) (seen : Seen) (known : List KnownState) (scenes : List SceneState) (count : ℕ) (next : List Move) (s : SceneState) → AreScenesOf p seen known scenes → count ≤ length known
    → IsNextOfKnown known count next → PlaysSchedule p (opening p) next s → IsNextOfOne p (take count scenes) s
next-scene det p seen known scenes count next s are within of plays =
    let below : of.0 < count = of.2 in
    let inside : of.0 < length known = omega (arith, below, within) in
    let a = are.at of.0 s inside in
    let t : SceneState = get_or scenes of.0 s in
    let is : a.0 ≡ of.1 = sym (same-at known of.0 of.1 a.0 inside a.1) ∙ same-at known of.0 of.1 of.1 inside of.3 in
    let first : PlaysSchedule p (opening p) of.1.schedule.items t = subst (λ (x : KnownState). PlaysSchedule p (opening p) x.schedule.items t) is a.2.plays in
    let whole : PlaysSchedule p (opening p) (of.1.schedule.items ++ of.4.0 ∷ []) s = subst (λ (ms : List Move). PlaysSchedule p (opening p) ms s) of.4.1 plays in
    let moves = one-move p t s of.4.0 (plays-from det p (opening p) t s of.1.schedule.items (of.4.0 ∷ []) first whole) in
    any-taken (λ (x : SceneState). (m : Move) × Moves p x m s) scenes count of.0 s (omega (arith, within, are.as_many)) below (of.4.0, moves)

scenes-near : RunsAreDetermined → (p : Program) (seen : Seen) (known : List KnownState) (scenes : List SceneState) (found : List Finding) (count : ℕ) → AreScenesOf p seen known scenes → count ≤ length known
    → MeetsStates p known found count → All (λ (s : SceneState). (s ≡ opening p) ⊎ IsNextOfOne p (take count scenes) s) scenes
scenes-near det p seen known scenes found count are within meets k e h =
    let a = are.at k e (omega (arith, h, are.as_many)) in
    let s : SceneState = get_or scenes k e in
    elim (meets.near k a.0 a.1) [
      | inl first ↦ inl (subst (λ (ms : List Move). PlaysSchedule p (opening p) ms s) first a.2.plays)
      | inr next ↦ inr (next-scene det p seen known scenes count a.0.schedule.items s are within next a.2.plays)
    ]

scenes-ended : RunsAreDetermined → (p : Program) (seen : Seen) (known : List KnownState) (scenes : List SceneState) (found : List Finding) (count : ℕ) → AreScenesOf p seen known scenes → count ≤ length known
    → AreWitnessed p found → MeetsStates p known found count → All (λ (x : Finding). IsEndOfOne p (take count scenes) (final_of x.state)) found
scenes-ended det p seen known scenes found count are within witnessed meets k e h =
    let x : Finding = get_or found k e in
    let w = witnessed k e h in
    let of = meets.ended k x (there-at found k e h) in
    let below : of.0 < count = of.2 in
    let inside : of.0 < length known = omega (arith, below, within) in
    let plays : PlaysSchedule p (opening p) of.1.schedule.items w.last = subst (λ (ms : List Move). PlaysSchedule p (opening p) ms w.last) of.4 w.plays in
    let same : get_or scenes of.0 w.last ≡ w.last = scene-at det p seen known scenes of.0 of.1 w.last are of.3 inside plays in
    any-taken (λ (s : SceneState). IsEnd p s × IsFinal s (final_of x.state)) scenes count of.0 w.last (omega (arith, within, are.as_many)) below
    (subst (λ (s : SceneState). IsEnd p s × IsFinal s (final_of x.state)) (sym same) (w.ends, w.final))

scenes-closed : RunsAreDetermined → (p : Program) (seen : Seen) (known : List KnownState) (scenes : List SceneState) (found : List Finding) (count : ℕ) → AreScenesOf p seen known scenes → count ≤ length known
    → MeetsStates p known found count → All (λ (s : SceneState). IsFollowed p scenes found s) (take count scenes)
scenes-closed det p seen known scenes found count are within meets k e h =
    let below : k < count = omega (arith, h, length-take-le count scenes (omega (arith, within, are.as_many))) in
    let a = are.at k e (omega (arith, below, within)) in
    let s : SceneState = get_or scenes k e in
    let leads : LeadsLike p a.0.schedule.items s = (s, a.2.plays, scenes-refl s) in
    let here = meets.closed k a.0 below a.1 in
    subst (λ (t : SceneState). IsFollowed p scenes found t) (sym (get_or-take count scenes k e below))
    (record {
      goes = λ m new moves. known-among det p seen known scenes are new (here.goes s leads m new moves);
      ends = λ f end final. here.ends s f leads end final;
    })

pub scenes-meet : RunsAreDetermined → (p : Program) (seen : Seen) (known : List KnownState) (scenes : List SceneState) (found : List Finding) (count : ℕ) → AreScenesOf p seen known scenes → count ≤ length known
    → AreWitnessed p found → MeetsStates p known found count → Meets p (take count scenes) scenes found
scenes-meet det p seen known scenes found count are within witnessed meets =
    record {
      begins = known-among det p seen known scenes are (opening p) meets.begins;
      closed = scenes-closed det p seen known scenes found count are within meets;
      near = scenes-near det p seen known scenes found count are within meets;
      ended = scenes-ended det p seen known scenes found count are within witnessed meets;
    }

-- 2. The nearest come first.

-- a scene is like only one of the list
only-one : (scenes : List SceneState) (i j : ℕ) (d : SceneState) → AreUnlike scenes → i < length scenes → j < length scenes → ScenesAlike (get_or scenes i d) (get_or scenes j d) → i ≡ j
only-one scenes i j d unlike one other like =
    elim (lt_or_le i j) [
      | inl less ↦ absurd (unlike i j d less other like)
      | inr more ↦ elim (lt_or_le j i) [
        | inl less ↦ absurd (unlike j i d less one (scenes-sym (get_or scenes i d) (get_or scenes j d) like))
        | inr up ↦ omega (arith, more, up)
      ]
    ]

scenes-sorted : RunsAreDetermined → (p : Program) (seen : Seen) (known : List KnownState) (scenes : List SceneState) → AreScenesOf p seen known scenes → AreUnlike scenes
    → AreSorted known → HaveNearest p known → AreNearestFirst p scenes
scenes-sorted det p seen known scenes are unlike sorted nearest i j e below inside =
    let within : j < length known = omega (arith, inside, are.as_many) in
    let a = are.at i e (omega (arith, below, within)) in
    let b = are.at j e within in
    let t : SceneState = get_or scenes j e in (
      a.0.schedule.items,
      a.2.plays,
      λ other like plays alike.
          let there : IsKnown p known like = (j, b.0, within, same-at known j b.0 b.0 within b.1, (t, b.2.plays, alike)) in
          let near = nearest other like plays there in
          let k : KnownState = near.1 in
          let at : slice_get known near.0 ≡ Some k = elem-at known near.0 k near.2 near.3 in
          let same : get_or scenes near.0 near.4.0.0 ≡ near.4.0.0 = scene-at det p seen known scenes near.0 k near.4.0.0 are at near.2 near.4.0.1 in
          let place : near.0 < length scenes = omega (arith, near.2, are.as_many) in
          let here : get_or scenes near.0 e ≡ near.4.0.0 = same-at scenes near.0 e (get_or scenes near.0 near.4.0.0) place (there-at scenes near.0 near.4.0.0 place) ∙ same in
          let one : ScenesAlike (get_or scenes near.0 e) t =
          subst (λ (s : SceneState). ScenesAlike s t) (sym here) (scenes-trans near.4.0.0 like t (scenes-sym like near.4.0.0 near.4.0.2) alike) in
          let is : near.0 ≡ j = only-one scenes near.0 j e unlike place inside one in
          let up = sorted i near.0 a.0 k (omega (arith, below, is)) a.1 at in
          let short : length k.schedule.items ≤ length other = near.4.1 in
          omega (arith, up, short),
    )

-- 3. The result.

pub are-counted : RunsAreDetermined → (p : Program) (budget : ℕ) (rows : List Progress) (search : Search) (r : Explored) → HasOneSnapshot search.known.seen → (ended : EndsSearch p budget rows search r.is_whole)
    → r.states ≡ length search.known.list.items → r.found ≡ search.found
    → (counted : CountsScenes p budget r) × AreScenesOf p search.known.seen search.known.list.items counted.scenes × (counted.followed ≡ ended.followed)
are-counted det p budget rows search r only ended count found =
    let known = search.known.list.items in
    let seen = search.known.seen in
    let made = scenes-of p seen known ended.search.known.each in
    let unlike = scenes-unlike p search.known made.0 only ended.search.known made.1 in
    let many : length made.0 ≡ length known = made.1.as_many in
    let counted : CountsScenes p budget r = record {
      scenes = made.0;
      count_is = count ∙ sym many;
      reached = scenes-reached p seen known made.0 made.1;
      unlike = unlike;
      sorted = scenes-sorted det p seen known made.0 made.1 unlike ended.sorted ended.nearest;
      followed = ended.followed;
      within = (ended.within.0, omega (arith, ended.within.1, many));
      meets = subst (λ (xs : Vec Finding). Meets p (take ended.followed made.0) made.0 xs.items) (sym found)
          (scenes-meet det p seen known made.0 search.found.items ended.followed made.1 ended.within.1 ended.search.witnessed ended.meets);
      whole = λ whole. (ended.whole whole ∙ sym many, scenes-each det p seen known made.0 made.1 (each-met p known search.found.items ended.followed ended.meets (ended.whole whole)));
      stopped = λ stops.
          let s = ended.stopped stops in
          (omega (arith, s.0, many), subst (λ (xs : Vec Finding). (ended.followed ≡ budget) ⊎ (OUTCOMES_MAX < length xs.items)) (sym found) s.1);
    } in
    (counted, made.1, refl)

-- The invariant of the search over all interleavings: what each of its lists has more.
--     Adds                the things that a list has after an older one have a property
--     HaveSchedule        the known states that were added have this schedule
--     IsNextSchedule      a schedule is another one and one more move
--     AreNext             the schedules of the known states that were added are this one and one more move
--     AreNew              the final states that were added weren't found before, and have this schedule
--     LeadsLike           a schedule leads to a scene that is like this one
--     IsKnown             one of the known states is that of such a schedule
--     IsKnownBy           a known state's schedule leads to a scene of which its key is the key
--     HavePrints          the fingerprints are those of the known states' keys
--     HavePlaces          each fingerprint has a place where its state may be
--     AreKnown            all known states have keys by their schedules, no two have the same key, and their fingerprints are
--                         noted, each with a place
--     IsClosedSchedule    each move from a scene like that of this schedule leads to a scene that is known, and the final state
--                         of such a scene is found if it is an end
--     IsClosedUpTo        the first ones of the known states, up to a number, are closed
--     IsScheduleOf        a schedule is that of one of the first known states
--     IsNextOfKnown       a schedule is that of one of the first known states and one more move
--     MeetsStates         whoever follows the first known states, up to a number, comes to just these, and finds just these final
--                         states
--     AreSorted           the known states are in the order of their schedules' lengths
--     HaveNearest         a known state has a schedule that is no longer than any other that leads to a like scene
--     IsKeyAt             the state at a place has this key
--     Notes               a scene is known, and the known states stay
--     Follows             one move after a schedule was followed: it is possible or not, and the scene to which it leads is known
--     IsAmong             a move is one of these
--     kept_if             moves and one more, if it may be possible
--     KeepsMoves          of these moves each that is possible at a scene is among those
--     WasFollowed         the move at a place of a list was followed after a schedule: the scene to which it leads is known
--     StaysAt             the move at a place of a list isn't possible after a schedule
--     HasNextMove         some move of a list is possible after a schedule
--     Expands             each move of a list was followed after a schedule, and whether any is possible is known
--     IsStateProgress     the numbers are those of a search that has followed the first so many of these known states: of the
--                         states that it knew then, and of the final states that it had found, which are within the limit
--     progress_of         the progress of a search that has followed so many states
--     AreStateProgress    there is one for each of the first known states, in order: the progress before that state is followed
--     NotesEnd            the final states of a scene are found, and those found before stay
--     IsSearchOf          the invariant of a search: of its known states and the final states that it has found
--     Visits              a schedule's state was followed: it is closed
--     Searches            a search knows the opening alone, has found nothing, and has the invariant
--     EndsSearch          a search has ended: how many of the known states were followed, what was met and found by that, and
--                         whether these are all; and the progress before each of them was followed
--     IsSearched          a search has ended, or an allocation failed after this progress
--     HasExplored         the result of an exploration with this budget of states: outcomes with shortest schedules of theirs, no
--                         two the same, in the order of their schedules' lengths, and all of them if it is whole; and the states
--                         that it has met
use Rattle.std.specs.Prelude.{◌≡◌, ℕ, ◌+◌, ◌<◌, ◌≤◌, ◌⊎◌, List, [], ◌∷◌, ◌++◌, Bool, true, false, length, map, take, Some}
use Rattle.std.specs.Prelude.{slice_get, Result, Ok, Err}
use Rattle.std.specs.List.{All, Any, AllPairs}
use Rattle.jc_snapshot.specs.declared.seen.Seen.{Seen}
use Rattle.jc_snapshot.specs.Numbers.{Continues}
use Rattle.jc_explore.specs.declared.key.StateKey.{StateKey}
use Rattle.jc_explore.specs.declared.known.KnownState.{KnownState}
use Rattle.jc_explore.specs.declared.known.States.{States}
use Rattle.jc_explore.specs.declared.moves.Move.{Move}
use Rattle.jc_explore.specs.declared.program.Program.{Program}
use Rattle.jc_explore.specs.declared.search.Explored.{Explored}
use Rattle.jc_explore.specs.declared.search.Finding.{Finding}
use Rattle.jc_explore.specs.declared.search.Search.{Search}
use Rattle.jc_explore.specs.declared.search.TheConstants.{OUTCOMES_MAX}
use Rattle.jc_explore.specs.Explored.{AreDistinct, AreOrdered, AreShortest, AreWitnessed, CountsScenes, HasEachOutcome, IsEnd}
use Rattle.jc_explore.specs.Explored.{IsFound}
use Rattle.jc_explore.specs.Final.{FinalValue, IsFinal, final_of}
use Rattle.jc_explore.specs.Keys.{HasPlace, HaveOneKey, IsKeyOf, ScenesAlike, fingerprint_of_key}
use Rattle.jc_explore.specs.Watching.{Progress}
use Rattle.jc_explore.specs.Schedule.{SceneState, Moves, PlaysSchedule, have_sessions, opening}

abbrev pub Adds : {A : Type 0} → (A → Type 0) → List A → List A → Type 0
Adds {A} P old new = (k : ℕ) (x : A) → length old ≤ k → slice_get new k ≡ Some x → P x

-- 1. States that are known.

abbrev pub LeadsLike : Program → List Move → SceneState → Type 0
LeadsLike p schedule s = (w : SceneState) × PlaysSchedule p (opening p) schedule w × ScenesAlike s w

abbrev pub IsKnown : Program → List KnownState → SceneState → Type 0
IsKnown p known s = Any (λ k. LeadsLike p k.schedule.items s) known

pub record IsKnownBy (p : Program) (seen : Seen) (k : KnownState) : Type 0 where
  pub scene : SceneState
  pub plays : PlaysSchedule p (opening p) k.schedule.items scene
  pub key : IsKeyOf seen k.key scene
  pub sessions : have_sessions k.schedule.items ≡ true

abbrev pub HavePrints : States → Type 0
HavePrints states = states.fingerprints.items ≡ map (λ k. fingerprint_of_key k.key) states.list.items

abbrev pub HavePlaces : States → Type 0
HavePlaces states = All (HasPlace states.places) states.fingerprints.items

pub record AreKnown (p : Program) (states : States) : Type 0 where
  pub each : All (IsKnownBy p states.seen) states.list.items
  pub apart : AllPairs (λ a b. HaveOneKey a.key b.key → ⊥) states.list.items
  pub prints : HavePrints states
  pub places : HavePlaces states

pub record IsClosedSchedule (p : Program) (known : List KnownState) (found : List Finding) (schedule : List Move) : Type 0 where
  pub goes : (s : SceneState) → LeadsLike p schedule s → (m : Move) (new : SceneState) → Moves p s m new → IsKnown p known new
  pub ends : (s : SceneState) (f : FinalValue) → LeadsLike p schedule s → IsEnd p s → IsFinal s f → IsFound f found

abbrev pub IsClosedUpTo : Program → List KnownState → List Finding → ℕ → Type 0
IsClosedUpTo p known found count =
    (k : ℕ) (m : KnownState) → k < count → slice_get known k ≡ Some m → IsClosedSchedule p known found m.schedule.items

abbrev pub HaveSchedule : List Move → List KnownState → List KnownState → Type 0
HaveSchedule schedule old new = Adds (λ k. k.schedule.items ≡ schedule) old new

abbrev pub IsNextSchedule : List Move → List Move → Type 0
IsNextSchedule schedule next = (m : Move) × (next ≡ schedule ++ m ∷ [])

abbrev pub AreNext : List Move → List KnownState → List KnownState → Type 0
AreNext schedule old new = Adds (λ k. IsNextSchedule schedule k.schedule.items) old new

abbrev pub IsScheduleOf : List KnownState → ℕ → List Move → Type 0
IsScheduleOf known count schedule =
    (k : ℕ) × (m : KnownState) × (k < count) × (slice_get known k ≡ Some m) × (schedule ≡ m.schedule.items)

abbrev pub IsNextOfKnown : List KnownState → ℕ → List Move → Type 0
IsNextOfKnown known count next =
    (k : ℕ) × (m : KnownState) × (k < count) × (slice_get known k ≡ Some m) × IsNextSchedule m.schedule.items next

pub record MeetsStates (p : Program) (known : List KnownState) (found : List Finding) (count : ℕ) : Type 0 where
  pub begins : IsKnown p known (opening p)
  pub closed : IsClosedUpTo p known found count
  pub near : (k : ℕ) (m : KnownState) → slice_get known k ≡ Some m
      → (m.schedule.items ≡ []) ⊎ IsNextOfKnown known count m.schedule.items
  pub ended : (k : ℕ) (x : Finding) → slice_get found k ≡ Some x → IsScheduleOf known count x.witness.items

abbrev pub AreSorted : List KnownState → Type 0
AreSorted known =
    (i j : ℕ) (a b : KnownState) → i ≤ j → slice_get known i ≡ Some a → slice_get known j ≡ Some b
    → length a.schedule.items ≤ length b.schedule.items

abbrev pub HaveNearest : Program → List KnownState → Type 0
HaveNearest p known =
    (schedule : List Move) (s : SceneState) → PlaysSchedule p (opening p) schedule s → IsKnown p known s
    → Any (λ k. LeadsLike p k.schedule.items s × (length k.schedule.items ≤ length schedule)) known

-- 2. States.

abbrev pub IsKeyAt : List KnownState → ℕ → StateKey → Type 0
IsKeyAt known place key = (k : KnownState) × (slice_get known place ≡ Some k) × HaveOneKey k.key key

pub record Notes (p : Program) (schedule : List Move) (old new : States) (s : SceneState) : Type 0 where
  pub known : AreKnown p new
  pub kept : Continues old.list.items new.list.items
  pub added : HaveSchedule schedule old.list.items new.list.items
  pub there : IsKnown p new.list.items s

pub record Follows (p : Program) (schedule : List Move) (m : Move) (old new : States) (moved : Bool) : Type 0 where
  pub known : AreKnown p new
  pub kept : Continues old.list.items new.list.items
  pub added : AreNext schedule old.list.items new.list.items
  pub all : (s : SceneState) → PlaysSchedule p (opening p) (schedule ++ m ∷ []) s → IsKnown p new.list.items s
  pub goes : moved ≡ true → (s : SceneState) × PlaysSchedule p (opening p) (schedule ++ m ∷ []) s
  pub stays : moved ≡ false → (s : SceneState) → PlaysSchedule p (opening p) (schedule ++ m ∷ []) s → ⊥

abbrev pub IsAmong : List Move → Move → Type 0
IsAmong moves m = (k : ℕ) × (slice_get moves k ≡ Some m)

abbrev pub kept_if : Bool → Move → List Move → List Move
kept_if true m moves = moves ++ m ∷ []
kept_if false m moves = moves

pub record KeepsMoves (p : Program) (s : SceneState) (moves kept : List Move) : Type 0 where
  pub each : (m : Move) (new : SceneState) → IsAmong moves m → Moves p s m new → IsAmong kept m
  pub sessions : have_sessions kept ≡ true

abbrev pub WasFollowed : Program → List Move → List Move → List KnownState → ℕ → Type 0
WasFollowed p moves schedule known k =
    (m : Move) → slice_get moves k ≡ Some m → (s : SceneState)
    → PlaysSchedule p (opening p) (schedule ++ m ∷ []) s → IsKnown p known s

abbrev pub StaysAt : Program → List Move → List Move → ℕ → Type 0
StaysAt p moves schedule k =
    (m : Move) → slice_get moves k ≡ Some m → (s : SceneState) → PlaysSchedule p (opening p) (schedule ++ m ∷ []) s → ⊥

pub record HasNextMove (p : Program) (moves schedule : List Move) : Type 0 where
  pub step : Move
  pub among : IsAmong moves step
  pub new : SceneState
  pub plays : PlaysSchedule p (opening p) (schedule ++ step ∷ []) new

pub record Expands (p : Program) (moves schedule : List Move) (old new : States) (any : Bool) : Type 0 where
  pub known : AreKnown p new
  pub kept : Continues old.list.items new.list.items
  pub added : AreNext schedule old.list.items new.list.items
  pub followed : (k : ℕ) → k < length moves → WasFollowed p moves schedule new.list.items k
  pub on : any ≡ true → HasNextMove p moves schedule
  pub none : any ≡ false → (k : ℕ) → k < length moves → StaysAt p moves schedule k

-- 3. Final states.

abbrev pub AreNew : List Move → List Finding → List Finding → Type 0
AreNew schedule old new =
    Adds (λ x. (x.witness.items ≡ schedule) × (IsFound (final_of x.state) old → ⊥)) old new

pub record NotesEnd (p : Program) (schedule : List Move) (old new : List Finding) (s : SceneState) : Type 0 where
  pub witnessed : AreWitnessed p new
  pub distinct : AreDistinct new
  pub kept : Continues old new
  pub fresh : AreNew schedule old new
  pub there : (f : FinalValue) → IsFinal s f → IsFound f new

-- 4. Searches.

pub record IsSearchOf (p : Program) (states : States) (found : List Finding) : Type 0 where
  pub known : AreKnown p states
  pub witnessed : AreWitnessed p found
  pub distinct : AreDistinct found

pub record Visits (p : Program) (schedule : List Move) (old new : Search) : Type 0 where
  pub search : IsSearchOf p new.known new.found.items
  pub known_kept : Continues old.known.list.items new.known.list.items
  pub found_kept : Continues old.found.items new.found.items
  pub added : AreNext schedule old.known.list.items new.known.list.items
  pub fresh : AreNew schedule old.found.items new.found.items
  pub closed : IsClosedSchedule p new.known.list.items new.found.items schedule

pub record Searches (p : Program) (s : Search) : Type 0 where
  pub search : IsSearchOf p s.known s.found.items
  pub opening : IsKnown p s.known.list.items (opening p)
  pub first : HaveSchedule [] [] s.known.list.items
  pub none : s.found.items ≡ []

pub record IsStateProgress (p : Program) (known : List KnownState) (found : List Finding) (row : Progress) : Type 0 where
  pub followed_within : row.followed ≤ row.known
  pub known_within : row.known ≤ length known
  pub found_within : row.found ≤ length found
  pub few : row.found ≤ OUTCOMES_MAX
  pub meets : MeetsStates p (take row.known known) (take row.found found) row.followed

abbrev pub progress_of : ℕ → Search → Progress
progress_of followed s =
    record { followed = followed; known = length s.known.list.items; found = length s.found.items }

abbrev pub AreStateProgress : Program → List KnownState → List Finding → List Progress → Type 0
AreStateProgress p known found rows =
    (k : ℕ) (row : Progress) → slice_get rows k ≡ Some row → (row.followed ≡ k) × IsStateProgress p known found row

pub record EndsSearch (p : Program) (budget : ℕ) (rows : List Progress) (s : Search) (is_whole : Bool) : Type 0 where
  pub search : IsSearchOf p s.known s.found.items
  pub shortest : AreShortest p s.found.items
  pub ordered : AreOrdered s.found.items
  pub sorted : AreSorted s.known.list.items
  pub nearest : HaveNearest p s.known.list.items
  pub followed : ℕ
  pub within : (followed ≤ budget) × (followed ≤ length s.known.list.items)
  pub meets : MeetsStates p s.known.list.items s.found.items followed
  pub told : (length rows ≡ followed) × AreStateProgress p s.known.list.items s.found.items rows
  pub whole : is_whole ≡ true → followed ≡ length s.known.list.items
  pub stopped : is_whole ≡ false
      → (followed < length s.known.list.items) × ((followed ≡ budget) ⊎ (OUTCOMES_MAX < length s.found.items))

abbrev pub IsSearched : {E : Type 0} → Program → ℕ → List Progress → Search → Result Bool E → Type 0
IsSearched p budget rows s (Ok is_whole) = EndsSearch p budget rows s is_whole
IsSearched p budget rows s (Err e) =
    (length rows ≤ budget)
    × ((t : Search) × IsSearchOf p t.known t.found.items × AreStateProgress p t.known.list.items t.found.items rows)

pub record HasExplored (p : Program) (budget : ℕ) (r : Explored) : Type 0 where
  pub witnessed : AreWitnessed p r.found.items
  pub distinct : AreDistinct r.found.items
  pub shortest : AreShortest p r.found.items
  pub ordered : AreOrdered r.found.items
  pub all : r.is_whole ≡ true → HasEachOutcome p r.found.items
  pub counted : CountsScenes p budget r

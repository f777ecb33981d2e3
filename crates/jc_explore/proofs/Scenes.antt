-- A move of a schedule is one by what was played, and isn't one by what was played.
use Rattle.jc_explore.proofs.Common.{◌≡◌, List, [], ◌∷◌, ◌++◌, true, false, Option, None, Some, slice_get, slice_set, sym, refl, ap, ◌∙◌, subst, true≢false, WorldEvent, Shown, RunsAreDetermined, have_memory, Run, RunAppending, WorldState, Move, Program, Position, SceneState, has_number_for, move_events_at, move_events, is_proper, position_after, positions_at, positions_after, replies_after, Moves}

-- what was shown of its events decides whether it is one
pub stays : RunsAreDetermined → (p : Program) (old : SceneState) (m : Move) (events : List WorldEvent) (seen : List Shown) (n : WorldState)
    → events ≡ move_events p old m → RunAppending old.world events [] seen n → have_memory seen ≡ true → is_proper seen ≡ false
    → (new : SceneState) → Moves p old m new → ⊥
stays det p old m events seen n is ran memory improper new moves =
    let run : Run old.world (move_events p old m) seen n =
    subst (λ (es : List WorldEvent). Run old.world es seen n) is (subst (λ (ss : List Shown). Run old.world events ss n) (sym ran.2) ran.1) in
    let same = det old.world n new.world (move_events p old m) seen moves.seen run memory moves.runs moves.memory in
    true≢false (sym moves.proper ∙ ap is_proper (sym same.0) ∙ improper)

pub goes : (p : Program) (old : SceneState) (m : Move) (events : List WorldEvent) (seen : List Shown) (new : SceneState)
    → events ≡ move_events p old m → RunAppending old.world events [] seen new.world → have_memory seen ≡ true → is_proper seen ≡ true
    → new.positions ≡ positions_after old m → new.replies ≡ replies_after m.thread old.replies seen → Moves p old m new
goes p old m events seen new is ran memory proper positions replies =
    record {
      seen = seen;
      runs = subst (λ (es : List WorldEvent). Run old.world es seen new.world) is (subst (λ (ss : List Shown). Run old.world events ss new.world) (sym ran.2) ran.1);
      proper = proper;
      memory = memory;
      positions_are = positions;
      replies_are = replies;
    }

nothing-runs : (w n : WorldState) (seen : List Shown) → Run w [] seen n → is_proper seen ≡ false
nothing-runs w n [] run = refl
nothing-runs w n (s ∷ seen) run = absurd run

-- with no event there is no move
pub nothing-moves : (p : Program) (old : SceneState) (m : Move) → move_events p old m ≡ [] → (new : SceneState) → Moves p old m new → ⊥
nothing-moves p old m is new moves =
    true≢false (sym moves.proper ∙ nothing-runs old.world new.world moves.seen (subst (λ (es : List WorldEvent). Run old.world es moves.seen new.world) is moves.runs))

no-number : (p : Program) (w : WorldState) (m : Move) (position : Position) → has_number_for w.last position m.act ≡ false → move_events_at p w m (Some position) ≡ []
no-number p w m position none = rw none refl

-- nor is there one if there is no number for it
pub no-number-moves : (p : Program) (old : SceneState) (m : Move) (position : Position) → slice_get old.positions m.thread ≡ Some position
    → has_number_for old.world.last position m.act ≡ false → (new : SceneState) → Moves p old m new → ⊥
no-number-moves p old m position at none =
    nothing-moves p old m (ap (λ (o : Option Position). move_events_at p old.world m o) at ∙ no-number p old.world m position none)

-- nor if there is no such thread
pub nobody-moves : (p : Program) (old : SceneState) (m : Move) → slice_get old.positions m.thread ≡ None → (new : SceneState) → Moves p old m new → ⊥
nobody-moves p old m at = nothing-moves p old m (ap (λ (o : Option Position). move_events_at p old.world m o) at)

-- the events, as they were appended
pub events-are : (p : Program) (old : SceneState) (m : Move) (position : Position) (before after : List WorldEvent) → slice_get old.positions m.thread ≡ Some position
    → before ≡ [] → after ≡ before ++ move_events_at p old.world m (Some position) → after ≡ move_events p old m
events-are p old m position before after at none is =
    is ∙ ap (λ (xs : List WorldEvent). xs ++ move_events_at p old.world m (Some position)) none ∙ ap (λ (o : Option Position). move_events_at p old.world m o) (sym at)

-- a run, as it was played
pub ran-as : (w n : WorldState) (es fs : List WorldEvent) (before seen : List Shown) → es ≡ fs → before ≡ [] → RunAppending w es before seen n → RunAppending w fs [] seen n
ran-as w n es fs before seen is none ran =
    subst (λ (xs : List Shown). RunAppending w fs xs seen n) none (subst (λ (xs : List WorldEvent). RunAppending w xs before seen n) is ran)

pub positions-are : (old : SceneState) (m : Move) (position : Position) (positions : List Position) → slice_get old.positions m.thread ≡ Some position
    → positions ≡ slice_set old.positions m.thread (position_after m.act position) → positions ≡ positions_after old m
positions-are old m position positions at is = is ∙ ap (λ (o : Option Position). positions_at m old.positions o) (sym at)

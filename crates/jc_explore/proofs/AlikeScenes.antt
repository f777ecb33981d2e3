-- Scenes that are alike go on alike.
use Rattle.jc_explore.proofs.Common.{◌≡◌, List, Option, None, Some, slice_get, sym, refl, ap, ◌∙◌, subst, Event, State, WorldEvent, WorldsGoOnAlike, EssencesTell, Run, WorldState, Move, Program, ThreadReply, Position, ScenesAlike, SceneState, Moves, move_events, move_events_at, positions_at, positions_after, replies_after}
use Rattle.jc_world.proofs.CallerLemmas.{with_past}
use Rattle.jc_explore.proofs.Essences.{alike-essence}

pub scenes-refl : (s : SceneState) → ScenesAlike s s
scenes-refl s = record { world = refl; positions = refl; replies = refl }

pub scenes-sym : (s t : SceneState) → ScenesAlike s t → ScenesAlike t s
scenes-sym s t h = record { world = sym h.world; positions = sym h.positions; replies = sym h.replies }

pub scenes-trans : (s t u : SceneState) → ScenesAlike s t → ScenesAlike t u → ScenesAlike s u
scenes-trans s t u h k = record { world = h.world ∙ k.world; positions = h.positions ∙ k.positions; replies = h.replies ∙ k.replies }

events-past : (p : Program) (w : WorldState) (ss : List State) (o : List Event) (m : Move) (position : Option Position) → move_events_at p (with_past w ss o) m position ≡ move_events_at p w m position
events-past p w ss o m None = refl
events-past p w ss o m (Some position) = refl

same_events : EssencesTell → (p : Program) (a b : SceneState) (m : Move) → ScenesAlike a b → move_events p b m ≡ move_events p a m
same_events tell p a b m h =
    let alike = tell a.world b.world h.world in
    ap (λ (w : WorldState). move_events_at p w m (slice_get b.positions m.thread)) alike.is
    ∙ events-past p a.world b.world.stripes b.world.order m (slice_get b.positions m.thread)
    ∙ ap (λ (ps : List Position). move_events_at p a.world m (slice_get ps m.thread)) (sym h.positions)

same_positions : (a b : SceneState) (m : Move) → ScenesAlike a b → positions_after b m ≡ positions_after a m
same_positions a b m h = ap (λ (ps : List Position). positions_at m ps (slice_get ps m.thread)) (sym h.positions)

-- a move that one makes the other makes, too
pub moves-alike : EssencesTell → WorldsGoOnAlike → (p : Program) (a b c : SceneState) (m : Move) → ScenesAlike a b → Moves p a m c
    → (d : SceneState) × Moves p b m d × ScenesAlike c d
moves-alike tell go p a b c m h one =
    let made = go a.world b.world c.world (move_events p a m) one.seen (tell a.world b.world h.world) one.runs in
    let d : SceneState = record { world = made.0; positions = positions_after b m; replies = replies_after m.thread b.replies one.seen } in
    let runs : Run b.world (move_events p b m) one.seen made.0 = subst (λ (es : List WorldEvent). Run b.world es one.seen made.0) (sym (same_events tell p a b m h)) made.1 in
    let moves : Moves p b m d = record { seen = one.seen; runs = runs; proper = one.proper; memory = one.memory; positions_are = refl; replies_are = refl } in
    let alike : ScenesAlike c d =
    record {
      world = alike-essence c.world made.0 made.2;
      positions = one.positions_are ∙ sym (same_positions a b m h);
      replies = one.replies_are ∙ ap (λ (x : List ThreadReply). replies_after m.thread x one.seen) h.replies;
    } in
    (d, moves, alike)

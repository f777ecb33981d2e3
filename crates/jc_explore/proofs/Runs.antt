-- Runs of a program: they are determined, they split, and they go on by one step.
use Rattle.jc_explore.proofs.Common.{◌≡◌, ℕ, ◌+◌, ◌<◌, List, [], ◌∷◌, ◌++◌, length, take, get_or, sym, refl, ap, ◌∙◌, subst, take_more, WorldState, Move, Position, Program, SceneState, Moves, PlaysSchedule, move_events, replies_after, Shown, ThreadReply, RunsAreDetermined}

scene-as : (s : SceneState) (w : WorldState) (positions : List Position) (replies : List ThreadReply) → s.world ≡ w → s.positions ≡ positions → s.replies ≡ replies → s ≡ record { world = w; positions = positions; replies = replies }
scene-as s w positions replies a b d =
    ap (λ (x : WorldState). record s { world = x }) a
    ∙ ap (λ (x : List Position). record s { world = w; positions = x }) b
    ∙ ap (λ (x : List ThreadReply). record { world = w; positions = positions; replies = x }) d

pub moves-determined : RunsAreDetermined → (p : Program) (a b c : SceneState) (m : Move) → Moves p a m b → Moves p a m c → b ≡ c
moves-determined det p a b c m one other =
    let same = det a.world b.world c.world (move_events p a m) one.seen other.seen one.runs one.memory other.runs other.memory in
    scene-as b c.world c.positions c.replies same.1 (one.positions_are ∙ sym other.positions_are)
    (one.replies_are ∙ ap (λ (x : List Shown). replies_after m.thread a.replies x) same.0 ∙ sym other.replies_are)

pub plays-determined : RunsAreDetermined → (p : Program) (a b c : SceneState) (ms : List Move) → PlaysSchedule p a ms b → PlaysSchedule p a ms c → b ≡ c
plays-determined det p a b c [] one other = one ∙ sym other
plays-determined det p a b c (m ∷ ms) one other =
    let same : other.0 ≡ one.0 = moves-determined det p a other.0 one.0 m other.1 one.1 in
    plays-determined det p one.0 b c ms one.2 (subst (λ (s : SceneState). PlaysSchedule p s ms c) same other.2)

pub plays-push : (p : Program) (a b c : SceneState) (ms : List Move) (m : Move) → PlaysSchedule p a ms b → Moves p b m c → PlaysSchedule p a (ms ++ m ∷ []) c
plays-push p a b c [] m plays step = let P : SceneState → Type 0 = λ s. Moves p s m c in (c, subst P plays step, refl)
plays-push p a b c (x ∷ ms) m plays step = (plays.0, plays.1, plays-push p plays.0 b c ms m plays.2 step)

pub plays-split : (p : Program) (a c : SceneState) (xs ys : List Move) → PlaysSchedule p a (xs ++ ys) c → (b : SceneState) × PlaysSchedule p a xs b × PlaysSchedule p b ys c
plays-split p a c [] ys plays = (a, refl, plays)
plays-split p a c (x ∷ xs) ys plays =
    let rest = plays-split p plays.0 c xs ys plays.2 in
    (rest.0, (plays.0, plays.1, rest.1), rest.2)

-- a run that begins with these steps goes on from the scene that they lead to
pub plays-from : RunsAreDetermined → (p : Program) (a b c : SceneState) (xs ys : List Move) → PlaysSchedule p a xs b → PlaysSchedule p a (xs ++ ys) c → PlaysSchedule p b ys c
plays-from det p a b c xs ys first whole =
    let rest = plays-split p a c xs ys whole in
    subst (λ (s : SceneState). PlaysSchedule p s ys c) (plays-determined det p a rest.0 b xs rest.1 first) rest.2

-- where a step isn't one after a schedule, no run goes on by it
pub plays-stops : RunsAreDetermined → (p : Program) (a b : SceneState) (xs : List Move) (m : Move) → PlaysSchedule p a xs b → ((new : SceneState) → Moves p b m new → ⊥)
    → (new : SceneState) → PlaysSchedule p a (xs ++ m ∷ []) new → ⊥
plays-stops det p a b xs m first none new whole =
    let last = plays-from det p a b new xs (m ∷ []) first whole in
    none last.0 last.1

-- from an opening that is known by an equation
pub plays-opened : (p : Program) (a o : SceneState) (xs : List Move) (b : SceneState) → a ≡ o → PlaysSchedule p a xs b → PlaysSchedule p o xs b
plays-opened p a o xs b is plays = subst (λ (s : SceneState). PlaysSchedule p s xs b) is plays

-- a replay goes on by one step
pub plays-more : (p : Program) (a b c : SceneState) (ms : List Move) (i : ℕ) (d : Move) → i < length ms → PlaysSchedule p a (take i ms) b → Moves p b (get_or ms i d) c → PlaysSchedule p a (take (i + 1) ms) c
plays-more p a b c ms i d h plays step = subst (λ (xs : List Move). PlaysSchedule p a xs c) (sym (take_more ms i d h)) (plays-push p a b c (take i ms) (get_or ms i d) plays step)

-- What is known is closed: wherever a run leads, something like it is known.
use Rattle.jc_explore.proofs.Common.{◌≡◌, ℕ, ◌+◌, ◌<◌, List, [], ◌∷◌, ◌++◌, length, Some, slice_get, sym, ap, ◌∙◌, subst, inl, inr, arith, slice_get-get_or, slice_get_within, WorldsGoOnAlike, RunsAreDetermined, EssencesTell, KnownState, Move, Program, Finding, IsEnd, IsFound, HasEachOutcome, IsReachedScene, FinalValue, IsFinal, ScenesAlike, moves_up_to, SceneState, Moves, PlaysSchedule, opening, HasNextMove, Continues, IsClosedSchedule, IsClosedUpTo, IsKnown, KeepsMoves, LeadsLike, StaysAt, WasFollowed}
use Rattle.jc_explore.proofs.AlikeScenes.{scenes-sym, moves-alike}
use Rattle.jc_explore.proofs.AllMoves.{eq_or_less, moves-among}
use Rattle.jc_explore.proofs.Finals.{final-alike}
use Rattle.jc_explore.proofs.Runs.{plays-determined, plays-from, plays-push}
use Rattle.jc_explore.proofs.Searching.{known-grown, found-grown, known-like, slice-back}

pub record Laws : Type 0 where
  pub det : RunsAreDetermined
  pub go : WorldsGoOnAlike
  pub tell : EssencesTell

-- 1. A state whose moves were followed.

abbrev AreKept : Program → SceneState → List Move → Type 0
AreKept p s kept = KeepsMoves p s (moves_up_to (length p.threads.items)) kept

-- a move from a scene like that of a schedule is one of those that were kept there, and leads to a like scene
kept-goes : Laws → (p : Program) (schedule kept : List Move) (w s : SceneState) (m : Move) (new : SceneState) → PlaysSchedule p (opening p) schedule w → AreKept p w kept
    → LeadsLike p schedule s → Moves p s m new
    → (k : ℕ) × (slice_get kept k ≡ Some m) × (d : SceneState) × PlaysSchedule p (opening p) (schedule ++ m ∷ []) d × ScenesAlike new d
kept-goes laws p schedule kept w s m new plays keeps leads moves =
    let same : leads.0 ≡ w = plays-determined laws.det p (opening p) leads.0 w schedule leads.1 plays in
    let there = moves-alike laws.tell laws.go p s leads.0 new m leads.2 moves in
    let here : Moves p w m there.0 = subst (λ (x : SceneState). Moves p x m there.0) same there.1 in
    let among = keeps.each m there.0 (moves-among p schedule w m there.0 plays here) here in
    (among.0, among.1, there.0, plays-push p (opening p) w there.0 schedule m plays here, there.2)

pub closed-goes : Laws → (p : Program) (schedule kept : List Move) (known : List KnownState) (w : SceneState) → PlaysSchedule p (opening p) schedule w → AreKept p w kept
    → ((k : ℕ) → k < length kept → WasFollowed p kept schedule known k)
    → (s : SceneState) → LeadsLike p schedule s → (m : Move) (new : SceneState) → Moves p s m new → IsKnown p known new
closed-goes laws p schedule kept known w plays keeps followed s leads m new moves =
    let on = kept-goes laws p schedule kept w s m new plays keeps leads moves in
    known-like p known new on.2 on.4 (followed on.0 (slice_get_within kept on.0 m on.1) m on.1 on.2 on.3)

-- if a move is one, no scene like it is an end
pub on-no-end : Laws → (p : Program) (schedule kept : List Move) (s : SceneState) → HasNextMove p kept schedule → LeadsLike p schedule s → IsEnd p s → ⊥
on-no-end laws p schedule kept s on leads end =
    let last = plays-from laws.det p (opening p) leads.0 on.new schedule (on.step ∷ []) leads.1 on.plays in
    let there = moves-alike laws.tell laws.go p leads.0 s last.0 on.step (scenes-sym s leads.0 leads.2) last.1 in
    end on.step there.0 there.1

-- if none is, each scene to which the schedule leads is an end
pub stays-end : Laws → (p : Program) (schedule kept : List Move) (w v : SceneState) → PlaysSchedule p (opening p) schedule w → AreKept p w kept
    → ((k : ℕ) → k < length kept → StaysAt p kept schedule k) → PlaysSchedule p (opening p) schedule v → IsEnd p v
stays-end laws p schedule kept w v plays keeps none again m new moves =
    let same : v ≡ w = plays-determined laws.det p (opening p) v w schedule again plays in
    let here : Moves p w m new = subst (λ (x : SceneState). Moves p x m new) same moves in
    let among = keeps.each m new (moves-among p schedule w m new plays here) here in
    none among.0 (slice_get_within kept among.0 m among.1) m among.1 new (plays-push p (opening p) w new schedule m plays here)

-- and its final state is that of each scene like it
pub end-found : Laws → (p : Program) (schedule : List Move) (found : List Finding) (w s : SceneState) (f : FinalValue) → PlaysSchedule p (opening p) schedule w
    → ((g : FinalValue) → IsFinal w g → IsFound g found) → LeadsLike p schedule s → IsFinal s f → IsFound f found
end-found laws p schedule found w s f plays there leads final =
    let same : leads.0 ≡ w = plays-determined laws.det p (opening p) leads.0 w schedule leads.1 plays in
    there f (subst (λ (x : SceneState). IsFinal x f) same (final-alike laws.tell s leads.0 f leads.2 final))

-- 2. Lists that grow.

pub closed-grown : (p : Program) (was known : List KnownState) (before found : List Finding) (schedule : List Move) → Continues was known → Continues before found
    → IsClosedSchedule p was before schedule → IsClosedSchedule p known found schedule
closed-grown p was known before found schedule a b h =
    record {
      goes = λ s leads m new moves. known-grown p was known new a (h.goes s leads m new moves);
      ends = λ s f leads end final. found-grown before found f b (h.ends s f leads end final);
    }

pub closed-more : (p : Program) (was now : List KnownState) (before found : List Finding) (k : ℕ) → Continues was now → Continues before found → k < length was
    → IsClosedUpTo p was before k → ((m : KnownState) → slice_get was k ≡ Some m → IsClosedSchedule p now found m.schedule.items)
    → IsClosedUpTo p now found (k + 1)
closed-more p was now before found k grown more h closed here j m hj at =
    elim (eq_or_less j k hj) [
      | inl less ↦ closed-grown p was now before found m.schedule.items grown more (closed j m less (slice-back was now j m grown (omega (arith, less, h)) at))
      | inr same ↦ here m (slice-back was now k m grown h (subst (λ (x : ℕ). slice_get now x ≡ Some m) same at))
    ]

-- 3. Whole runs.

abbrev pub HasEachKnown : Program → List KnownState → Type 0
HasEachKnown p known = (s : SceneState) → IsReachedScene p s → IsKnown p known s

closed-known : (p : Program) (known : List KnownState) (found : List Finding) (s : SceneState) → IsClosedUpTo p known found (length known) → IsKnown p known s
    → (schedule : List Move) × IsClosedSchedule p known found schedule × LeadsLike p schedule s
closed-known p known found s closed h =
    let at : slice_get known h.0 ≡ Some h.1 = slice_get-get_or known h.0 h.1 h.2 ∙ ap (λ (m : KnownState). Some m) h.3 in
    (h.1.schedule.items, closed h.0 h.1 h.2 at, h.4)

runs-known : (p : Program) (known : List KnownState) (found : List Finding) (s last : SceneState) (ms : List Move) → IsClosedUpTo p known found (length known)
    → IsKnown p known s → PlaysSchedule p s ms last → IsKnown p known last
runs-known p known found s last [] closed here plays = subst (IsKnown p known) (sym plays) here
runs-known p known found s last (m ∷ ms) closed here plays =
    let at = closed-known p known found s closed here in
    runs-known p known found plays.0 last ms closed (at.1.goes s at.2 m plays.0 plays.1) plays.2

pub has-each : (p : Program) (known : List KnownState) (found : List Finding) → IsClosedUpTo p known found (length known) → IsKnown p known (opening p) → HasEachOutcome p found
has-each p known found closed here schedule f whole =
    let at = closed-known p known found whole.last closed (runs-known p known found (opening p) whole.last schedule closed here whole.plays) in
    at.1.ends whole.last f at.2 whole.ends whole.final

pub each-known : (p : Program) (known : List KnownState) (found : List Finding) → IsClosedUpTo p known found (length known) → IsKnown p known (opening p) → HasEachKnown p known
each-known p known found closed here s met = runs-known p known found (opening p) s met.0 closed here met.1

-- The moves of a program's threads are all that it can have.
use Rattle.jc_explore.proofs.Common.{◌≡◌, ℕ, zero, suc, ◌+◌, ◌<◌, ◌≤◌, List, [], ◌∷◌, ◌++◌, length, replicate, true, Option, None, Some, slice_get, slice_set, sym, refl, ap, ◌∙◌, arith, nat_lt, ◌⊎◌, inl, inr, Move, Program, Position, moves_of_thread, moves_up_to, SceneState, Moves, PlaysSchedule, opening, has_session, have_sessions, positions_at, unbegun, IsAmong, and_parts, lt-ltb, stands_on}
use Rattle.jc_types.specs.declared.limits.TheConstants.{SESSIONS_MAX}
use Rattle.jc_explore.specs.declared.moves.Act.{Act}
use Rattle.jc_explore.specs.declared.moves.Act.TheVariants as act
use Rattle.jc_explore.proofs.Scenes.{nobody-moves}

pub eq_or_less : (t n : ℕ) → t < n + 1 → (t < n) ⊎ (t ≡ n)
eq_or_less zero zero h = inr refl
eq_or_less zero (suc n) h = inl (omega arith)
eq_or_less (suc t) zero h = absurd (omega arith)
eq_or_less (suc t) (suc n) h = elim (eq_or_less t n (omega arith)) [ inl less ↦ inl (omega arith) | inr same ↦ inr (ap suc same) ]

-- 1. Elements of lists.

get-behind : {X : Type 0} (xs ys : List X) (k : ℕ) (x : X) → slice_get ys k ≡ Some x → (j : ℕ) × (slice_get (xs ++ ys) j ≡ Some x)
get-behind [] ys k x is = (k, is)
get-behind (y ∷ xs) ys k x is = let rest = get-behind xs ys k x is in (suc rest.0, rest.1)

get-none : {X : Type 0} (xs : List X) (k : ℕ) → length xs ≤ k → slice_get xs k ≡ None
get-none [] k low = refl
get-none (x ∷ xs) zero low = absurd (omega (arith, low))
get-none (x ∷ xs) (suc k) low = get-none xs k (omega (arith, low))

set-length : {X : Type 0} (xs : List X) (k : ℕ) (x : X) → length (slice_set xs k x) ≡ length xs
set-length [] k x = refl
set-length (y ∷ xs) zero x = refl
set-length (y ∷ xs) (suc k) x = ap suc (set-length xs k x)

pub among-front : (xs ys : List Move) (m : Move) → IsAmong xs m → IsAmong (xs ++ ys) m
among-front xs ys m h = (h.0, stands_on xs ys h.0 m h.1)

pub among-last : (xs : List Move) (m : Move) → IsAmong (xs ++ m ∷ []) m
among-last xs m = get-behind xs (m ∷ []) 0 m refl

-- 2. Moves of threads that there are.

here : (a : Act) (thread : ℕ) → (k : ℕ) × (slice_get (moves_of_thread thread) k ≡ Some (record { thread = thread; act = a }))
here act.Begin thread = (0, refl)
here act.Read thread = (1, refl)
here act.LoadFails thread = (2, refl)
here act.Process thread = (3, refl)
here act.ProcessLoadFails thread = (4, refl)
here act.ProcessFails thread = (5, refl)
here act.Write thread = (6, refl)
here act.WriteFails thread = (7, refl)
here act.WriteLies thread = (8, refl)
here act.Commit thread = (9, refl)
here act.PickUp thread = (10, refl)

is-among : (n : ℕ) (m : Move) → m.thread < n → IsAmong (moves_up_to n) m
is-among zero m h = absurd (omega (arith, h))
is-among (suc n) m h = go (eq_or_less m.thread n (omega (arith, h))) (is-among n m)
  where
    go : (m.thread < n) ⊎ (m.thread ≡ n) → (m.thread < n → IsAmong (moves_up_to n) m) → IsAmong (moves_up_to n ++ moves_of_thread n) m
    go (inl less) rest = let r = rest less in (r.0, stands_on (moves_up_to n) (moves_of_thread n) r.0 m r.1)
    go (inr same) rest =
        let at = here m.act n in
        get-behind (moves_up_to n) (moves_of_thread n) at.0 m (at.1 ∙ ap (λ (t : ℕ). Some (record { thread = t; act = m.act })) (sym same))

pub lt_or_le : (a b : ℕ) → (a < b) ⊎ (b ≤ a)
lt_or_le zero zero = inr (omega arith)
lt_or_le zero (suc b) = inl (omega arith)
lt_or_le (suc a) zero = inr (omega arith)
lt_or_le (suc a) (suc b) = elim (lt_or_le a b) [ inl less ↦ inl (omega (arith, less)) | inr more ↦ inr (omega (arith, more)) ]

moves-inside : (p : Program) (s : SceneState) (m : Move) (new : SceneState) → Moves p s m new → m.thread < length s.positions
moves-inside p s m new moves =
    elim (lt_or_le m.thread (length s.positions)) [
      | inl less ↦ less
      | inr more ↦ absurd (nobody-moves p s m (get-none s.positions m.thread more) new moves)
    ]

positions-length : (m : Move) (positions : List Position) (o : Option Position) → length (positions_at m positions o) ≡ length positions
positions-length m positions None = refl
positions-length m positions (Some position) = set-length positions m.thread _

moves-length : (p : Program) (s : SceneState) (m : Move) (new : SceneState) → Moves p s m new → length new.positions ≡ length s.positions
moves-length p s m new moves = ap (λ (ps : List Position). length ps) moves.positions_are ∙ positions-length m s.positions (slice_get s.positions m.thread)

plays-length : (p : Program) (s last : SceneState) (ms : List Move) → PlaysSchedule p s ms last → length last.positions ≡ length s.positions
plays-length p s last [] plays = ap (λ (x : SceneState). length x.positions) plays
plays-length p s last (m ∷ ms) plays = plays-length p plays.0 last ms plays.2 ∙ moves-length p s m plays.0 plays.1

rep-length : {X : Type 0} (n : ℕ) (x : X) → length (replicate n x) ≡ n
rep-length zero x = refl
rep-length (suc n) x = ap suc (rep-length n x)

opened-length : (p : Program) → length (opening p).positions ≡ length p.threads.items
opened-length p = rep-length (length p.threads.items) unbegun

-- each move after a schedule is among those of the program's threads
pub moves-among : (p : Program) (schedule : List Move) (s : SceneState) (m : Move) (new : SceneState) → PlaysSchedule p (opening p) schedule s → Moves p s m new
    → IsAmong (moves_up_to (length p.threads.items)) m
moves-among p schedule s m new plays moves =
    is-among (length p.threads.items) m
    (omega (arith, plays-length p (opening p) s schedule plays, opened-length p, moves-inside p s m new moves))

-- 3. Each of them has a session.

sessions-append : (xs ys : List Move) → have_sessions xs ≡ true → have_sessions ys ≡ true → have_sessions (xs ++ ys) ≡ true
sessions-append [] ys one other = other
sessions-append (x ∷ xs) ys one other = let parts = and_parts (has_session x) (have_sessions xs) one in rw (parts.0, sessions-append xs ys parts.1 other) refl

sessions-at : (n : ℕ) → nat_lt n SESSIONS_MAX ≡ true → have_sessions (moves_of_thread n) ≡ true
sessions-at n h = rw h refl

pub sessions-moves : (n : ℕ) → n ≤ SESSIONS_MAX → have_sessions (moves_up_to n) ≡ true
sessions-moves zero h = refl
sessions-moves (suc n) h =
    sessions-append (moves_up_to n) (moves_of_thread n) (sessions-moves n (omega (arith, h))) (sessions-at n (lt-ltb n SESSIONS_MAX (omega (arith, h))))

pub sessions-push : (xs : List Move) (m : Move) → have_sessions xs ≡ true → has_session m ≡ true → have_sessions (xs ++ m ∷ []) ≡ true
sessions-push [] m all one = rw one refl
sessions-push (x ∷ xs) m all one = let parts = and_parts (has_session x) (have_sessions xs) all in rw (parts.0, sessions-push xs m parts.1 one) refl

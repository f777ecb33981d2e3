-- What `run_pieces` promises: which pieces each worker of a pool did, and that each piece was done once.
--     times           how often a number is in a list
--     once_below      1 for a number below n, otherwise 0
--     CanDoAll        a worker can do each piece below `pieces`
--     LeadsTo         one piece after another led from the worker before to the worker after
--     DoesShare       a worker did its share, in rising order, and no other piece; the pieces led from the worker before to the
--                     worker after; its job stayed, and of the pieces from `pieces` on it can still do those that it could do
--                     before
--     DoShares        each worker did its share
--     DoesEachOnce    the workers did the pieces below `pieces`: each of these is in one share, once, and no other number is
use Rattle.std.specs.Prelude.{◌≡◌, ℕ, ◌<◌, ◌≤◌, ◌==◌, List, [], ◌∷◌, ◌++◌, length, cond, nat_lt, count_by, slice_index_or}
use Rattle.std.specs.List.{concat}
use Rattle.std.specs.List.Sorted.{IsStrictlyIncreasing}

abbrev pub times : ℕ → List ℕ → ℕ
times x xs = count_by (λ y. y == x) xs

abbrev pub once_below : ℕ → ℕ → ℕ
once_below x n = cond (nat_lt x n) 1 0

abbrev pub CanDoAll : {W : Type 0} → (W → ℕ → Type 0) → ℕ → W → Type 0
CanDoAll can_do pieces worker = (piece : ℕ) → piece < pieces → can_do worker piece

abbrev pub LeadsTo : {W : Type 0} → (W → ℕ → W → Type 0) → W → List ℕ → W → Type 0
LeadsTo does old [] new = new ≡ old
LeadsTo {W} does old (piece ∷ pieces) new = (next : W) × does old piece next × LeadsTo does next pieces new

module _ {W J : Type 0} (did : W → List ℕ) (job : W → J) (can_do : W → ℕ → Type 0) (does : W → ℕ → W → Type 0) (pieces : ℕ) where
  pub record DoesShare (old new : W) (share : List ℕ) : Type 0 where
    pub did_share : did new ≡ did old ++ share
    pub rises : IsStrictlyIncreasing share
    pub led : LeadsTo does old share new
    pub same_job : job new ≡ job old
    pub beyond : (piece : ℕ) → pieces ≤ piece → can_do old piece → can_do new piece

  pub record DoShares (old new : List W) (shares : List (List ℕ)) : Type 0 where
    pub workers : length new ≡ length old
    pub share_each : length shares ≡ length old
    pub each : (k : ℕ) (d : W) → k < length old
        → DoesShare (slice_index_or old k d) (slice_index_or new k d) (slice_index_or shares k [])

  pub record DoesEachOnce (old new : List W) : Type 0 where
    pub shares : List (List ℕ)
    pub each_worker : DoShares old new shares
    pub each_piece : (x : ℕ) → times x (concat shares) ≡ once_below x pieces

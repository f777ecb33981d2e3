-- The workers of a pool side by side, each with its tool, before and after they do pieces that they claim with one claimer. No
-- contract of a public function cites this.
--     CanBegin     a claimer is of this counter and for these workers, of whom there is at least one, and has claimed nothing;
--                  there are as many tools, and each worker can do every piece
--     CanBeginHalves    as `CanBegin`, for the workers of two halves, the second of which is half of all, rounded down
--     HasEnded     one worker has ended, after just the pieces that its claimer claimed
--     HaveEnded    the workers have ended, after just the pieces that their claimer claimed, each of them after its share
use Rattle.std.specs.Prelude.{◌≡◌, ℕ, ◌<◌, ◌+◌, ◌/◌, ◌++◌, List, All, length}
use Rattle.std.specs.List.{concat, zip}
use Rattle.atomic_table.specs.Seated.{TableId}
use Rattle.jc_pool.specs.declared.view.JobPlan.{JobPlan}
use Rattle.jc_pool.specs.declared.view.Claims.{Claims}
use Rattle.jc_pool.specs.Shares.{CanDoAll, DoesShare, DoShares}
use Rattle.jc_pool.specs.Views.{fresh_claims, ended_claims}

pub record CanBegin {W T : Type 0} (can_do : W × T → ℕ → Type 0) (counter : TableId × JobPlan) (claimer : TableId × Claims)
    (workers : List W) (tools : List T) : Type 0 where
  pub counter_is : claimer.0 ≡ counter.0
  pub claims : claimer.1 ≡ fresh_claims counter.1 (length workers)
  pub some : 0 < length workers
  pub tool_each : length tools ≡ length workers
  pub able : All (CanDoAll can_do counter.1.pieces) (zip workers tools)

pub record CanBeginHalves {W T : Type 0} (can_do : W × T → ℕ → Type 0) (counter : TableId × JobPlan) (claimer : TableId × Claims)
    (first : List W) (first_tools : List T) (rest : List W) (rest_tools : List T) : Type 0 where
  pub can : CanBegin can_do counter claimer (first ++ rest) (first_tools ++ rest_tools)
  pub some : 0 < length first
  pub others : 0 < length rest
  pub half : length rest ≡ (length first + length rest) / 2
  pub tool_each : length first_tools ≡ length first

module _ {W T J : Type 0} (did : W × T → List ℕ) (job : W × T → J) (can_do : W × T → ℕ → Type 0) (does : W × T → ℕ → W × T → Type 0)
    (counter : TableId × JobPlan) (claimer : TableId × Claims) where
  pub record HasEnded (old new : W × T) : Type 0 where
    pub counter_is : claimer.0 ≡ counter.0
    pub claims : claimer.1 ≡ ended_claims counter.1 1 claimer.1.claimed
    pub share : DoesShare did job can_do does counter.1.pieces old new claimer.1.claimed

  pub record HaveEnded (old : List W) (old_tools : List T) (new : List W) (new_tools : List T) : Type 0 where
    pub counter_is : claimer.0 ≡ counter.0
    pub shares : List (List ℕ)
    pub claims : claimer.1 ≡ ended_claims counter.1 (length old) (concat shares)
    pub workers : length new ≡ length old
    pub tools : length new_tools ≡ length old_tools
    pub each : DoShares did job can_do does counter.1.pieces (zip old old_tools) (zip new new_tools) shares

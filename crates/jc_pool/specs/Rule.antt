-- The invariant of the counter from which the workers of a pool claim their pieces, between any two of its steps, and the meaning
-- of a claim. No contract of a public function cites this.
--     ClaimsFit       a claimer agrees with the number that the counter has: its claims are below it, and if one of its workers
--                     has ended, the number is past the last piece; a claimer of nobody has no claims, any other one has the
--                     counter's plan
--     CountsClaims    each piece below the counter's number was claimed by one claimer, once; every worker is some claimer's; and
--                     beyond the last piece the number rises only when a worker ends
--     IsClaim         a claim finds a number above all of its claimer's claims: below the number of pieces it is the claimer's
--                     piece, otherwise a worker has ended
use Rattle.std.specs.Prelude.{◌≡◌, ℕ, ◌+◌, ◌^◌, ◌<◌, ◌≤◌, [], ◌∷◌, cond, nat_lt, min, sum_by}
use mathlib.Core.Option.{some}
use lib.ListN.{get_elem?}
use Rattle.atomic_table.specs.Table.{State, Me, Step}
use Rattle.jc_pool.specs.declared.view.JobPlan.{JobPlan}
use Rattle.jc_pool.specs.declared.view.Claims.{Claims}
use Rattle.jc_pool.specs.Shares.{times, once_below}
use Rattle.jc_pool.specs.Views.{workers_of, least_above, after_claim, after_end}

pub record ClaimsFit (plan : JobPlan) (number : ℕ) (v : Claims) : Type 0 where
  pub below : least_above v.claimed ≤ number
  pub past : 0 < v.ended → plan.pieces ≤ number
  pub nobody : workers_of v ≡ 0 → v.claimed ≡ []
  pub planned : 0 < workers_of v → v.plan ≡ plan

pub record CountsClaims (plan : JobPlan) (table : State (Unit {0}) Claims) : Type 0 where
  pub number : ℕ
  pub word : table.words ≡ number ∷ []
  pub fits : plan.pieces + plan.workers < 2 ^ 64
  pub workers : sum_by workers_of table.views ≡ plan.workers
  pub ends : number ≤ plan.pieces + sum_by (λ v. v.ended) table.views
  pub once : (x : ℕ) → sum_by (λ v. times x v.claimed) table.views ≡ once_below x (min number plan.pieces)
  pub each : (seat : ℕ) (v : Claims) → get_elem? table.views seat ≡ some v → ClaimsFit plan number v

abbrev pub IsClaim : Step (Unit {0}) → Me (Unit {0}) Claims → ℕ → Me (Unit {0}) Claims → Type 0
IsClaim step me found me' =
    (me' ≡ (cond (nat_lt found me.0.plan.pieces) (after_claim me.0 found) (after_end me.0), me.1))
    × (least_above me.0.claimed ≤ found)

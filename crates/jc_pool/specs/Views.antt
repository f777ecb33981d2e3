-- What a claimer, with which workers of a pool claim their pieces, knows of the counter, and how each call changes that. No
-- contract of a public function cites this.
--     workers_of            the number of workers that a claimer is for
--     least_above           the least number above all of a list
--     fresh_claims          a claimer for a number of workers, none of whom has claimed a piece
--     ended_claims          a claimer for a number of workers, all of whom have ended after these claims
--     spent_claims          a claimer that is gone
--     after_claim           a piece was claimed
--     after_end             one more worker has ended
--     claims_after_split    the claimer that was split: it is for the larger half of the workers
--     split_off             the claimer that is made by a split, which has claimed nothing
--     claims_after_join     a claimer into which another one was joined
--     IsClaimerOf           a claimer is of this counter
use Rattle.std.specs.Prelude.{◌≡◌, ℕ, ◌+◌, ◌-◌, ◌/◌, List, [], ◌∷◌, ◌++◌, max}
use Rattle.atomic_table.specs.Seated.{TableId}
use Rattle.jc_pool.specs.declared.view.JobPlan.{JobPlan}
use Rattle.jc_pool.specs.declared.view.Claims.{Claims}

abbrev pub workers_of : Claims → ℕ
workers_of v = v.working + v.ended

abbrev pub least_above : List ℕ → ℕ
least_above [] = 0
least_above (x ∷ xs) = max (x + 1) (least_above xs)

abbrev pub fresh_claims : JobPlan → ℕ → Claims
fresh_claims plan workers = record { plan = plan; claimed = []; working = workers; ended = 0 }

abbrev pub ended_claims : JobPlan → ℕ → List ℕ → Claims
ended_claims plan workers claimed = record { plan = plan; claimed = claimed; working = 0; ended = workers }

abbrev pub spent_claims : Claims
spent_claims = fresh_claims record { pieces = 0; workers = 0 } 0

abbrev pub after_claim : Claims → ℕ → Claims
after_claim v piece = record v { claimed = v.claimed ++ piece ∷ [] }

abbrev pub after_end : Claims → Claims
after_end v = record v { working = v.working - 1; ended = v.ended + 1 }

abbrev pub claims_after_split : Claims → Claims
claims_after_split v = record v { working = v.working - v.working / 2 }

abbrev pub split_off : Claims → Claims
split_off v = fresh_claims v.plan (v.working / 2)

abbrev pub claims_after_join : Claims → Claims → Claims
claims_after_join v w = record v { claimed = v.claimed ++ w.claimed; working = v.working + w.working; ended = v.ended + w.ended }

abbrev pub IsClaimerOf : TableId × JobPlan → TableId × Claims → Type 0
IsClaimerOf counter claimer = (claimer.0 ≡ counter.0) × (claimer.1.plan ≡ counter.1)

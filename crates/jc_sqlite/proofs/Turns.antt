-- How far the tries to open something have come.
use Rattle.std.proofs.Common.{◌≡◌, ◌≢◌, ℕ, zero, suc, ◌+◌, ◌-◌, ◌<◌, Result, Ok, Err, inl, inr, subst, arith}
use Rattle.jc_sqlite.specs.declared.failure.OpenCause.{OpenCause}
use Rattle.jc_sqlite.specs.declared.failure.OpenCause.TheVariants.{Locked}
use Rattle.jc_sqlite.specs.Opening.{OpensInTurns}

module _ {O T : Type 0} (opens : O → Result T OpenCause → O → Type 0) (pauses : O → O → Type 0) where
  -- whatever the tries that are left do, all have done
  abbrev pub Turns : ℕ → ℕ → O → O → Type 0
  Turns all left old now = (answer : Result T OpenCause) (new : O) → OpensInTurns opens pauses left now answer new → OpensInTurns opens pauses all old answer new

  pub starts : (all : ℕ) (old : O) → Turns all (all - 0) old old
  starts all old answer new h = let same : all - 0 ≡ all = omega arith in subst (λ left. OpensInTurns opens pauses left old answer new) same h

  pub ends : (all at : ℕ) (old now new : O) (answer : Result T OpenCause) → at < all → Turns all (all - at) old now → opens now answer new → answer ≢ Err Locked → OpensInTurns opens pauses all old answer new
  ends all at old now new answer within so_far opened other =
      let one : suc (all - (at + 1)) ≡ all - at = omega (arith, within) in
      so_far answer new (subst (λ left. OpensInTurns opens pauses left now answer new) one (inl (opened, other)))

  pub goes : (all at : ℕ) (old now found after : O) → at < all → Turns all (all - at) old now → opens now (Err Locked) found → pauses found after → Turns all (all - (at + 1)) old after
  goes all at old now found after within so_far tried paused answer new rest =
      let one : suc (all - (at + 1)) ≡ all - at = omega (arith, within) in
      so_far answer new (subst (λ left. OpensInTurns opens pauses left now answer new) one (inr (found, after, tried, paused, rest)))

  -- what each try's answer is, the last one's is
  pub in_the_end : (P : Result T OpenCause → Type 0) → ((old : O) (answer : Result T OpenCause) (new : O) → opens old answer new → P answer)
      → (retries : ℕ) (old new : O) (answer : Result T OpenCause) → OpensInTurns opens pauses retries old answer new → P answer
  in_the_end P each zero old new answer h = each old answer new h
  in_the_end P each (suc retries) old new answer (inl h) = each old answer new h.0
  in_the_end P each (suc retries) old new answer (inr h) = in_the_end P each retries h.1 new answer h.4

  pub is_opened : (opened : T) → Ok opened ≢ Err Locked
  is_opened opened same = let no = same in cc

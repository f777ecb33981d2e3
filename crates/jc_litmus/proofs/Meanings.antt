-- What verdicts and ends say of all schedules of a program.
--     verdict_means     a verdict
--     end_means         an end
--     answers_of        the answer to a program is one
use Rattle.jc_litmus.proofs.Common.{Ok, Err, Result, inl, ◌≡◌, refl, ℕ, suc, ◌<◌, ◌≤◌, List, [], ◌∷◌, length, get_or, Bool, true, false, cond, Option, None, Some, subst, arith, position, IfOk, Any, list_any, position_or_len, common_steps, decides, end_of, first_deciding, is_failure, verdict_from, verdict_on, program_of, value_of_program, warnings_text, ◌++◌}
use Rattle.std.proofs.lemmas.List.Quantifiers.{position-Some}
use Rattle.std.proofs.lemmas.List.Sums.{fails_before_first}
use Rattle.jc_explore.specs.declared.program.Program.{Program}
use Rattle.jc_explore.specs.declared.search.Explored.{Explored}
use Rattle.jc_explore.specs.declared.search.Finding.{Finding}
use Rattle.jc_explore.specs.Explored.{AreWitnessed, HasEachOutcome}
use Rattle.jc_explore.specs.Final.{final_of}
use Rattle.jc_litmus.specs.declared.judge.Verdict.{Verdict}
use Rattle.jc_litmus.specs.declared.judge.Verdict.TheVariants as verdicts
use Rattle.jc_litmus.specs.declared.program.Expectation.{Expectation}
use Rattle.jc_litmus.specs.declared.program.Litmus.{Litmus}
use Rattle.jc_litmus.specs.declared.program.Quantifier.{Quantifier}
use Rattle.jc_litmus.specs.declared.program.Quantifier.TheVariants.{Never, Sometimes, Always}
use Rattle.jc_litmus.specs.declared.run.LitmusEnd.{LitmusEnd}
use Rattle.jc_litmus.specs.declared.run.LitmusEnd.TheVariants as end
use Rattle.jc_litmus.specs.Meaning.{EndMeans, IsDecided, IsUndecided, Means, MeansBy, FulfilledBy, MissedBy}
use Rattle.jc_explore.specs.Search.{HasExplored}
use Rattle.jc_litmus.specs.Running.{AnswersProgram, IsProgramAnswer}

decided_by : (p : Program) (e : Expectation) (found : List Finding) (i : ℕ) → AreWitnessed p found → first_deciding e found ≡ Some i → IsDecided p e
decided_by p e [] i w eq = absurd cc
decided_by p e (x ∷ xs) i w eq =
    let at = position-Some (λ (x : Finding). decides e (final_of x.state)) (x ∷ xs) i x eq in
    ((get_or (x ∷ xs) i x).witness.items, final_of ((get_or (x ∷ xs) i x).state), w i x at.0, at.1)

past_all : (test : Finding → Bool) (found : List Finding) → position test found ≡ None → length found ≤ position_or_len test found
past_all test found eq = grind (arith, common_steps)

undecided_by : (p : Program) (e : Expectation) (found : List Finding) → HasEachOutcome p found → first_deciding e found ≡ None → IsUndecided p e
undecided_by p e found each eq schedule f whole =
    let (k, x, inside, there, same) = each schedule f whole in
    let past = past_all (λ (x : Finding). decides e (final_of x.state)) found eq in
    let fails = fails_before_first (λ (x : Finding). decides e (final_of x.state)) found k x (omega (arith, inside, past)) in
    rw (← same) (rw there at fails)

means_by : (p : Program) (e : Expectation) (q : Quantifier) (first : Option ℕ) (whole : Bool)
    → ((i : ℕ) → first ≡ Some i → IsDecided p e) → (first ≡ None → whole ≡ true → IsUndecided p e) → MeansBy p e q (verdict_from q first whole)
means_by p e Sometimes None true decided undecided = undecided refl refl
means_by p e Never None true decided undecided = undecided refl refl
means_by p e Always None true decided undecided = undecided refl refl
means_by p e Sometimes None false decided undecided = tt
means_by p e Never None false decided undecided = tt
means_by p e Always None false decided undecided = tt
means_by p e Sometimes (Some i) whole decided undecided = decided i refl
means_by p e Never (Some i) whole decided undecided = decided i refl
means_by p e Always (Some i) whole decided undecided = decided i refl

pub verdict_means : (p : Program) (budget : ℕ) (r : Explored) (e : Expectation) → HasExplored p budget r → Means p e (verdict_on r e)
verdict_means p budget r e found =
    means_by p e e.quantifier (first_deciding e r.found.items) r.is_whole
    (λ i eq. decided_by p e r.found.items i found.witnessed eq)
    (λ eq whole. undecided_by p e r.found.items (found.all whole) eq)

-- a verdict that is none of failure, of a whole exploration, is that it holds
fulfilled_by : (p : Program) (e : Expectation) (q : Quantifier) (first : Option ℕ) → is_failure (verdict_from q first true) ≡ false → MeansBy p e q (verdict_from q first true) → FulfilledBy p e q
fulfilled_by p e Sometimes (Some i) holds means = means
fulfilled_by p e Never (Some i) holds means = absurd cc
fulfilled_by p e Always (Some i) holds means = absurd cc
fulfilled_by p e Sometimes None holds means = absurd cc
fulfilled_by p e Never None holds means = means
fulfilled_by p e Always None holds means = means

missed_by : (p : Program) (e : Expectation) (q : Quantifier) (v : Verdict) → is_failure v ≡ true → MeansBy p e q v → MissedBy p e q
missed_by p e q (verdicts.Holds first) fails means = absurd cc
missed_by p e q (verdicts.Fails first) fails means = means
missed_by p e q verdicts.Open fails means = absurd cc

none_of : {X : Type 0} (test : X → Bool) (xs : List X) → list_any test xs ≡ false → (k : ℕ) (d : X) → k < length xs → test (get_or xs k d) ≡ false
none_of test xs none k d inside = grind (arith, common_steps)

later_of : {X : Type 0} (test : X → Bool) (x : X) (xs : List X) → Any (λ y. test y ≡ true) xs → Any (λ y. test y ≡ true) (x ∷ xs)
later_of test x xs (k, y, inside, there, passes) = (suc k, y, omega (arith, inside), there, passes)

some_by : {X : Type 0} (test : X → Bool) (x : X) (xs : List X) (b : Bool) → test x ≡ b → (list_any test xs ≡ true → Any (λ y. test y ≡ true) xs) → list_any test (x ∷ xs) ≡ true → Any (λ y. test y ≡ true) (x ∷ xs)
some_by test x xs true e rest any = (0, x, omega arith, refl, e)
some_by test x xs false e rest any = later_of test x xs (rest (rw e at any))

some_of : {X : Type 0} (test : X → Bool) (xs : List X) → list_any test xs ≡ true → Any (λ x. test x ≡ true) xs
some_of test [] any = absurd cc
some_of test (x ∷ xs) any = some_by test x xs (test x) refl (λ more. some_of test xs more) any

end_by : (p : Program) (budget : ℕ) (r : Explored) (es : List Expectation) → HasExplored p budget r → (fails whole : Bool)
    → list_any (λ e. is_failure (verdict_on r e)) es ≡ fails → r.is_whole ≡ whole
    → EndMeans p es (cond fails end.Fails (cond whole end.Holds end.Open))
end_by p budget r es found true whole any w =
    let (k, e, inside, there, fails) = some_of (λ (e : Expectation). is_failure (verdict_on r e)) es any in
    (k, e, inside, there, missed_by p e e.quantifier (verdict_on r e) fails (verdict_means p budget r e found))
end_by p budget r es found false true any w = λ k d inside.
    let e = get_or es k d in
    let no = none_of (λ (e : Expectation). is_failure (verdict_on r e)) es any k d inside in
    fulfilled_by p e e.quantifier (first_deciding e r.found.items)
    (subst (λ (b : Bool). is_failure (verdict_from e.quantifier (first_deciding e r.found.items) b) ≡ false) w no)
    (subst (λ (b : Bool). MeansBy p e e.quantifier (verdict_from e.quantifier (first_deciding e r.found.items) b)) w (verdict_means p budget r e found))
end_by p budget r es found false false any w = tt

pub end_means : (p : Program) (budget : ℕ) (r : Explored) (es : List Expectation) → HasExplored p budget r → EndMeans p es (end_of r es)
end_means p budget r es found = end_by p budget r es found (list_any (λ e. is_failure (verdict_on r e)) es) r.is_whole refl refl

pub answers_of : {V E : Type 0} (budget : ℕ) (input : List ℕ) (x : Litmus) (out : V → List ℕ) (end : V → LitmusEnd) (r : Result V E) (old notes : List ℕ)
    → program_of input ≡ Ok (value_of_program x) → IfOk r (λ v. IsProgramAnswer budget x (out v) (end v)) → notes ≡ old ++ warnings_text x.program x.expectations.items
    → IfOk r (λ v. (said : List ℕ) × AnswersProgram budget input (out v) said (end v) × (notes ≡ old ++ said))
answers_of budget input x out end (Ok v) old notes read is warned = (warnings_text x.program x.expectations.items, inl (x, read, is, refl), warned)
answers_of budget input x out end (Err e) old notes read is warned = tt

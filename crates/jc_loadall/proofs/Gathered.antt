-- What the workers did, gathered: one fact for each piece.
--     Chain           steps, each of a number and with some fact, lead from one state to another
--     Chains          the same of many
--     joined          lists, one behind the other
--     fact_at         the fact of a number, the first if there are more, and a given one if there is none
--     Agrees          a function gives the fact of each of these numbers
--     seen            how often a number is among these
--     Gathering       what the shares of all workers say: numbers with facts, and the steps with them
--     gathered        from shares to that
--     fits_at         what is so of all facts is so of that of each number that is there
--     often, led_each how often each number is there, and the steps with its fact
--     every           what each step's fact says
use Rattle.jc_loadall.proofs.Common.{◌≡◌, ◌<◌, ◌≤◌, ◌+◌, ◌++◌, ⊎_elim, ℕ, zero, suc, List, [], ◌∷◌, Bool, true, false, cond, eqb, length, map, get_or, nat_lt, refl, sym, ap, subst, ◌∙◌, arith, append-nil, append_assoc, map-append, eq-eqb, AllByRecursion, concat, LeadsTo, once_below, times}
use Rattle.std.proofs.lemmas.Bool.Decides.{eqb_tells}
use Rattle.std.proofs.lemmas.List.Sums.{sum_by-cons, sum_by-append}

abbrev pub fact_at : {X : Type 0} → List (ℕ × X) → X → ℕ → X
fact_at [] d p = d
fact_at (e ∷ es) d p = cond (eqb e.0 p) e.1 (fact_at es d p)

abbrev pub Agrees : {X : Type 0} → (ℕ → X) → List (ℕ × X) → Type 0
Agrees f [] = Unit {0}
Agrees f (e ∷ es) = (f e.0 ≡ e.1) × Agrees f es

abbrev pub joined : {X : Type 0} → List (List X) → List X
joined [] = []
joined (xs ∷ xss) = xs ++ joined xss

abbrev pub seen : {X : Type 0} → ℕ → List (ℕ × X) → ℕ
seen p [] = 0
seen p (e ∷ es) = cond (eqb e.0 p) 1 0 + seen p es

-- 1. Numbers.

pub counted : (b : Bool) → b ≡ true → ◌≡◌ {A = ℕ} (cond b 1 0) 1
counted true is = refl
counted false is = cc

uncounted : (b : Bool) → b ≡ false → ◌≡◌ {A = ℕ} (cond b 1 0) 0
uncounted true is = cc
uncounted false is = refl

seen-append : {X : Type 0} (p : ℕ) (xs ys : List (ℕ × X)) → seen p (xs ++ ys) ≡ seen p xs + seen p ys
seen-append p [] ys = omega arith
seen-append p (x ∷ xs) ys = let ih = seen-append p xs ys in omega arith

seen_times : {X : Type 0} (p : ℕ) (xs : List (ℕ × X)) → seen p xs ≡ times p (map (λ (e : ℕ × X). e.0) xs)
seen_times p [] = refl
seen_times {X} p (x ∷ xs) =
    let ih = seen_times p xs in
    let more = sum_by-cons (λ y. cond (eqb y p) 1 0) x.0 (map (λ (e : ℕ × X). e.0) xs) in
    omega arith

seen_shares : {X : Type 0} (p : ℕ) (dss : List (List (ℕ × X))) → seen p (joined dss) ≡ times p (concat (map (λ (ds : List (ℕ × X)). map (λ (e : ℕ × X). e.0) ds) dss))
seen_shares p [] = refl
seen_shares {X} p (ds ∷ dss) =
    let ih = seen_shares p dss in
    let here = seen_times p ds in
    let left = seen-append p ds (joined dss) in
    let right = sum_by-append (λ y. cond (eqb y p) 1 0) (map (λ (e : ℕ × X). e.0) ds) (concat (map (λ (xs : List (ℕ × X)). map (λ (e : ℕ × X). e.0) xs) dss)) in
    omega arith

keeps : {X : Type 0} (p : ℕ) (x : X) (all es : List (ℕ × X)) (d : X) → seen p es ≡ 0 → Agrees (fact_at all d) es → Agrees (fact_at ((p, x) ∷ all) d) es
keeps p x all [] d none agree = tt
keeps p x all (e ∷ es) d none agree =
    let apart : eqb p e.0 ≡ false = ⊎_elim
    (λ (t : (eqb p e.0 ≡ true) × (p ≡ e.0)). let one = counted (eqb e.0 p) (eq-eqb e.0 p (sym t.1)) in absurd (omega arith))
    (λ f. f.0)
    (eqb_tells p e.0) in
    (ap (λ b. cond b x (fact_at all d e.0)) apart ∙ agree.0, keeps p x all es d (omega arith) agree.1)

agrees_all : {X : Type 0} (all : List (ℕ × X)) (d : X) → ((p : ℕ) → seen p all ≤ 1) → Agrees (fact_at all d) all
agrees_all [] d few = tt
agrees_all (e ∷ es) d few =
    let here : eqb e.0 e.0 ≡ true = eq-eqb e.0 e.0 refl in
    let one = counted (eqb e.0 e.0) here in
    let most = few e.0 in
    (ap (λ b. cond b e.1 (fact_at es d e.0)) here, keeps e.0 e.1 es es d (omega arith) (agrees_all es d (λ p. let few_p = few p in omega arith)))

pub fits_at : {X : Type 0} (P : ℕ × X → Type 0) (all : List (ℕ × X)) (d : X) (p : ℕ) → AllByRecursion P all → 0 < seen p all → P (p, fact_at all d p)
fits_at P [] d p fits some = absurd (omega arith)
fits_at {X} P (e ∷ es) d p fits some =
    ⊎_elim
    (λ (t : (eqb e.0 p ≡ true) × (e.0 ≡ p)). subst (λ x. P (p, x)) (sym (ap (λ b. cond b e.1 (fact_at es d p)) t.0)) (subst (λ q. P (q, e.1)) t.1 fits.0))
    (λ (f : (eqb e.0 p ≡ false) × (e.0 ≡ p → ⊥)).
    let none = uncounted (eqb e.0 p) f.0 in
    subst (λ x. P (p, x)) (sym (ap (λ b. cond b e.1 (fact_at es d p)) f.0)) (fits_at P es d p fits.1 (omega arith)))
    (eqb_tells e.0 p)

agrees_left : {X : Type 0} (f : ℕ → X) (xs ys : List (ℕ × X)) → Agrees f (xs ++ ys) → Agrees f xs
agrees_left f [] ys agree = tt
agrees_left f (x ∷ xs) ys agree = (agree.0, agrees_left f xs ys agree.1)

agrees_right : {X : Type 0} (f : ℕ → X) (xs ys : List (ℕ × X)) → Agrees f (xs ++ ys) → Agrees f ys
agrees_right f [] ys agree = agree
agrees_right f (x ∷ xs) ys agree = agrees_right f xs ys agree.1

once_at_most : (p n : ℕ) → once_below p n ≤ 1
once_at_most p n = elim (nat_lt p n) as (λ b. cond b 1 0 ≤ 1) [ true ↦ omega arith | false ↦ omega arith ]

-- 2. Steps.

module _ {W X : Type 0} (Step : W → ℕ → X → W → Type 0) where
  abbrev pub Chain : W → List (ℕ × X) → W → Type 0
  Chain old [] new = new ≡ old
  Chain old (d ∷ ds) new = (next : W) × Step old d.0 d.1 next × Chain next ds new

  abbrev pub Chains : List W → List (List (ℕ × X)) → List W → Type 0
  Chains [] [] [] = Unit {0}
  Chains [] [] (n ∷ ns) = ⊥
  Chains [] (ds ∷ dss) ns = ⊥
  Chains (o ∷ os) [] ns = ⊥
  Chains (o ∷ os) (ds ∷ dss) [] = ⊥
  Chains (o ∷ os) (ds ∷ dss) (n ∷ ns) = Chain o ds n × Chains os dss ns

  abbrev pub SomeStep : W → ℕ → W → Type 0
  SomeStep old p new = (x : X) × Step old p x new

  chain_of : (old new : W) (share : List ℕ) → LeadsTo SomeStep old share new → (ds : List (ℕ × X)) × (map (λ (e : ℕ × X). e.0) ds ≡ share) × Chain old ds new
  chain_of old new [] led = ([], refl, led)
  chain_of old new (p ∷ share) led =
      let rest = chain_of led.0 new share led.2 in
      ((p, led.1.0) ∷ rest.0, ap (λ l. p ∷ l) rest.1, (led.0, led.1.1, rest.2))

  pub record Gathering (olds news : List W) (shares : List (List ℕ)) : Type 0 where
    pub dss : List (List (ℕ × X))
    pub numbers : map (λ (ds : List (ℕ × X)). map (λ (e : ℕ × X). e.0) ds) dss ≡ shares
    pub chains : Chains olds dss news

  pub gathered : (olds news : List W) (shares : List (List ℕ)) → length news ≡ length olds → length shares ≡ length olds
      → ((k : ℕ) (d : W) → k < length olds → LeadsTo SomeStep (get_or olds k d) (get_or shares k []) (get_or news k d)) → Gathering olds news shares
  gathered [] [] [] many many_shares each = record { dss = []; numbers = refl; chains = tt }
  gathered [] [] (s ∷ ss) many many_shares each = absurd (omega arith)
  gathered [] (n ∷ ns) shares many many_shares each = absurd (omega arith)
  gathered (o ∷ os) [] shares many many_shares each = absurd (omega arith)
  gathered (o ∷ os) (n ∷ ns) [] many many_shares each = absurd (omega arith)
  gathered (o ∷ os) (n ∷ ns) (s ∷ ss) many many_shares each =
      let here = chain_of o n s (each 0 o (omega arith)) in
      let rest = gathered os ns ss (omega arith) (omega arith) (λ k d lt. each (suc k) d (omega arith)) in
      record { dss = here.0 ∷ rest.dss; numbers = λ i. here.1 i ∷ rest.numbers i; chains = (here.2, rest.chains) }

  back : (f : ℕ → X) (old new : W) (ds : List (ℕ × X)) → Agrees f ds → Chain old ds new → LeadsTo (λ o p n. Step o p (f p) n) old (map (λ (e : ℕ × X). e.0) ds) new
  back f old new [] agree chain = chain
  back f old new (d ∷ ds) agree chain = (chain.0, subst (λ x. Step old d.0 x chain.0) (sym agree.0) chain.1, back f chain.0 new ds agree.1 chain.2)

  led_back : (f : ℕ → X) (olds news : List W) (dss : List (List (ℕ × X))) → Agrees f (joined dss) → Chains olds dss news → (k : ℕ) (d : W) → k < length olds
      → LeadsTo (λ o p n. Step o p (f p) n) (get_or olds k d) (get_or (map (λ (ds : List (ℕ × X)). map (λ (e : ℕ × X). e.0) ds) dss) k []) (get_or news k d)
  led_back f [] news dss agree chains k d lt = absurd (omega arith)
  led_back f (o ∷ os) [] [] agree chains k d lt = absurd chains
  led_back f (o ∷ os) (n ∷ ns) [] agree chains k d lt = absurd chains
  led_back f (o ∷ os) [] (ds ∷ dss) agree chains k d lt = absurd chains
  led_back f (o ∷ os) (n ∷ ns) (ds ∷ dss) agree chains zero d lt = back f o n ds (agrees_left f ds (joined dss) agree) chains.0
  led_back f (o ∷ os) (n ∷ ns) (ds ∷ dss) agree chains (suc k) d lt = led_back f os ns dss (agrees_right f ds (joined dss) agree) chains.1 k d (omega arith)

  -- each number below `many` is there once, and no other one
  module _ (olds news : List W) (shares : List (List ℕ)) (team : Gathering olds news shares) (none : X) (many : ℕ) (once : (p : ℕ) → times p (concat shares) ≡ once_below p many) where
    pub often : (p : ℕ) → seen p (joined team.dss) ≡ once_below p many
    often p = seen_shares p team.dss ∙ ap (λ ss. times p (concat ss)) team.numbers ∙ once p

    few : (p : ℕ) → seen p (joined team.dss) ≤ 1
    few p = let a = often p in let b = once_at_most p many in omega arith

    pub led_each : (k : ℕ) (d : W) → k < length olds → LeadsTo (λ o p n. Step o p (fact_at (joined team.dss) none p) n) (get_or olds k d) (get_or shares k []) (get_or news k d)
    led_each k d lt = subst (λ (ss : List (List ℕ)). LeadsTo (λ o p n. Step o p (fact_at (joined team.dss) none p) n) (get_or olds k d) (get_or ss k []) (get_or news k d)) team.numbers
        (led_back (fact_at (joined team.dss) none) olds news team.dss (agrees_all (joined team.dss) none few) team.chains k d lt)

  module _ (P : ℕ × X → Type 0) (says : (old : W) (p : ℕ) (x : X) (new : W) → Step old p x new → P (p, x)) where
    every_chain : (old new : W) (ds : List (ℕ × X)) (rest : List (ℕ × X)) → Chain old ds new → AllByRecursion P rest → AllByRecursion P (ds ++ rest)
    every_chain old new [] rest chain all = all
    every_chain old new (d ∷ ds) rest chain all = (says old d.0 d.1 chain.0 chain.1, every_chain chain.0 new ds rest chain.2 all)

    pub every : (olds news : List W) (dss : List (List (ℕ × X))) → Chains olds dss news → AllByRecursion P (joined dss)
    every [] [] [] chains = tt
    every [] (n ∷ ns) [] chains = absurd chains
    every [] news (ds ∷ dss) chains = absurd chains
    every (o ∷ os) news [] chains = absurd chains
    every (o ∷ os) [] (ds ∷ dss) chains = absurd chains
    every (o ∷ os) (n ∷ ns) (ds ∷ dss) chains = every_chain o n ds (joined dss) chains.0 (every os ns dss chains.1)

  -- what each state keeps, if each step adds its number and fact to it
  module _ {N : Type 0} (kept : W → List N) (note : ℕ × X → N) (adds : (old : W) (p : ℕ) (x : X) (new : W) → Step old p x new → kept new ≡ kept old ++ note (p, x) ∷ []) where
    pub kept_chain : (old new : W) (ds : List (ℕ × X)) → Chain old ds new → kept new ≡ kept old ++ map note ds
    kept_chain old new [] chain = ap kept chain ∙ sym (append-nil (kept old))
    kept_chain old new (d ∷ ds) chain =
        kept_chain chain.0 new ds chain.2 ∙ ap (λ l. l ++ map note ds) (adds old d.0 d.1 chain.0 chain.1) ∙ append_assoc (kept old) (note d ∷ []) (map note ds)

    pub kept_all : (olds news : List W) (dss : List (List (ℕ × X))) → AllByRecursion (λ w. kept w ≡ []) olds → Chains olds dss news → joined (map kept news) ≡ map note (joined dss)
    kept_all [] [] [] none chains = refl
    kept_all [] (n ∷ ns) [] none chains = absurd chains
    kept_all [] news (ds ∷ dss) none chains = absurd chains
    kept_all (o ∷ os) news [] none chains = absurd chains
    kept_all (o ∷ os) [] (ds ∷ dss) none chains = absurd chains
    kept_all (o ∷ os) (n ∷ ns) (ds ∷ dss) none chains =
        (λ i. (kept_chain o n ds chains.0 ∙ ap (λ l. l ++ map note ds) none.0) i ++ kept_all os ns dss none.1 chains.1 i) ∙ sym (map-append note ds (joined dss))

-- Turns that lead up to a call, from a node on: what is there then is at one of the closed nodes, where it is the call's turn.
use Rattle.std.proofs.Common.{◌≡◌, ℕ, ◌⊎◌, inl, inr, List, [], ◌∷◌, get_or, true, false, Option, Some, None, slice_get, sym, subst, refl, ◌∙◌, arith, true≢false}
use Rattle.std.specs.List.{All}
use Rattle.jc_check.specs.declared.record.Recorded.{Recorded}
use Rattle.jc_check.specs.declared.record.Rules.{Rules}
use Rattle.jc_check.specs.declared.record.Spot.{Spot}
use Rattle.jc_check.specs.declared.record.Turn.{Turn}
use Rattle.jc_check.specs.Explains.{AreInOrder, AreOnce, Differ, IsPlaced, NumbersPrecede, PlaysTurns, call_of, placed_call}
use Rattle.jc_check.specs.Nodes.{HasLanded, IsAmong, IsClosed, IsClosedAt, IsCovered, IsCovering, IsFresh, IsNot, IsSettled, MayGo, NodeGoes, NodeValue, landed_call, must_at, opening_node}
use Rattle.jc_check.specs.Reasons.{CanFollow, CouldBe, IsForeseen, IsReady, LeadsUpTo}
use Rattle.jc_check.proofs.Continuing.{fewer-landed, goes-one, later-not, must-some, not-settled, placed-late, settled-after}
use Rattle.jc_check.proofs.Landings.{apart-landed, unlanded-after}
use Rattle.jc_check.proofs.Quantified.{all-tail, any-either, any-here, any-there, pairs-head, pairs-tail}

abbrev IsOpen : Rules → List Recorded → NodeValue → List Turn → ℕ → Type 0
IsOpen rules calls n turns i = IsSettled n i ⊎ (IsPlaced turns i ⊎ CanFollow rules calls turns i)

record Leads (rules : Rules) (calls : List Recorded) (n : NodeValue) (turns : List Turn) (call : ℕ) (last : Spot) : Type 0 where
  pub plays : PlaysTurns rules calls n.spot turns last
  pub once : AreOnce calls turns
  pub fresh : All (IsFresh calls n) turns
  pub order : AreInOrder rules calls turns
  pub others : (i : ℕ) → must_at calls i ≡ true → IsOpen rules calls n turns i
  pub before : (i : ℕ) → must_at calls i ≡ true → NumbersPrecede rules calls (Some i) (Some call) → IsSettled n i ⊎ IsPlaced turns i
  pub left : IsSettled n call → ⊥
  pub apart : IsPlaced turns call → ⊥

-- 1. The first turn may be made.

first-may : (rules : Rules) (calls : List Recorded) (n : NodeValue) (t : Turn) (ts : List Turn) (call : ℕ) (last : Spot)
    → (is : Leads rules calls n (t ∷ ts) call last) → MayGo rules calls n t is.plays.0
first-may rules calls n t ts call last is =
    record { goes = is.plays.1; fresh = is.fresh 0 t (omega arith); keeps = λ i must before. keeps i before (is.others i must) }
  where
    placed : (i : ℕ) → NumbersPrecede rules calls (Some i) (call_of t) → (placed_call t ≡ Some i) ⊎ IsPlaced ts i
        → IsSettled n i ⊎ (placed_call t ≡ Some i)
    placed i before (inl first) = inr first
    placed i before (inr rest) = absurd (placed-late rules calls t ts i (pairs-head (later-not rules calls) t ts is.order) before rest)

    keeps : (i : ℕ) → NumbersPrecede rules calls (Some i) (call_of t) → IsOpen rules calls n (t ∷ ts) i → IsSettled n i ⊎ (placed_call t ≡ Some i)
    keeps i before (inl was) = inl was
    keeps i before (inr (inl now)) = placed i before (any-either (λ (x : Turn). placed_call x ≡ Some i) t ts now)
    keeps i before (inr (inr follows)) = absurd (follows 0 t (omega arith) before)

-- 2. From a node to the next one.

rest-leads : (rules : Rules) (calls : List Recorded) (n next : NodeValue) (t : Turn) (ts : List Turn) (call : ℕ) (last : Spot)
    → must_at calls call ≡ true → NodeGoes rules calls n t next → Leads rules calls n (t ∷ ts) call last → Leads rules calls next ts call last
rest-leads rules calls n next t ts call last must goes is =
    let spot = goes-one rules calls n.spot t is.plays.0 next.spot is.plays.1 goes.may.goes in
    let apart = pairs-head (Differ calls) t ts is.once in
    let order = pairs-head (later-not rules calls) t ts is.order in
    record {
      plays = subst (λ (s : Spot). PlaysTurns rules calls s ts last) spot is.plays.2;
      once = pairs-tail (Differ calls) t ts is.once;
      fresh = λ k d h.
          let u = get_or ts k d in
          let was = all-tail (IsFresh calls n) t ts is.fresh k d h in (
            settled-after rules calls n next t goes (placed_call u) was.0 (apart k d h).0 (order k d h),
            subst (λ (l : List ℕ). IsNot (HasLanded l) (landed_call calls u)) (sym goes.landed)
                (unlanded-after (landed_call calls t) (landed_call calls u) n.landed was.1 (apart-landed calls t u (apart k d h).1)),
          );
      order = pairs-tail (later-not rules calls) t ts is.order;
      others = λ i here. open-after i (is.others i here);
      before = λ i here precedes. before-after i (is.before i here precedes);
      left = λ s. left-after ((goes.settled call).0 s);
      apart = λ placed. is.apart (any-there (λ (x : Turn). placed_call x ≡ Some call) t ts placed);
    }
  where
    placed-after : (i : ℕ) → (placed_call t ≡ Some i) ⊎ IsPlaced ts i → IsSettled next i ⊎ IsPlaced ts i
    placed-after i (inl first) = inl ((goes.settled i).1 (inr (inl first)))
    placed-after i (inr rest) = inr rest

    before-after : (i : ℕ) → IsSettled n i ⊎ IsPlaced (t ∷ ts) i → IsSettled next i ⊎ IsPlaced ts i
    before-after i (inl was) = inl ((goes.settled i).1 (inl was))
    before-after i (inr now) = placed-after i (any-either (λ (x : Turn). placed_call x ≡ Some i) t ts now)

    widen : (i : ℕ) → IsSettled next i ⊎ IsPlaced ts i → IsOpen rules calls next ts i
    widen i (inl was) = inl was
    widen i (inr now) = inr (inl now)

    open-after : (i : ℕ) → IsOpen rules calls n (t ∷ ts) i → IsOpen rules calls next ts i
    open-after i (inl was) = inl ((goes.settled i).1 (inl was))
    open-after i (inr (inl now)) = widen i (placed-after i (any-either (λ (x : Turn). placed_call x ≡ Some i) t ts now))
    open-after i (inr (inr follows)) = inr (inr (all-tail (λ (u : Turn). NumbersPrecede rules calls (Some i) (call_of u) → ⊥) t ts follows))

    left-after : IsSettled n call ⊎ ((placed_call t ≡ Some call) ⊎ ((must_at calls call ≡ false) × NumbersPrecede rules calls (Some call) (call_of t))) → ⊥
    left-after (inl was) = is.left was
    left-after (inr (inl placed)) = is.apart (any-here (λ (x : Turn). placed_call x ≡ Some call) t ts placed)
    left-after (inr (inr out)) = true≢false (sym must ∙ out.0)

-- 3. From a node to one that covers it.

covering-leads : (rules : Rules) (calls : List Recorded) (m n : NodeValue) (turns : List Turn) (call : ℕ) (last : Spot) → IsCovering calls m n
    → Leads rules calls n turns call last → Leads rules calls m turns call last
covering-leads rules calls m n turns call last is h =
    record {
      plays = subst (λ (s : Spot). PlaysTurns rules calls s turns last) (sym is.spot) h.plays;
      once = h.once;
      fresh = λ k d less. (
        not-settled calls m n is (placed_call (get_or turns k d)) (h.fresh k d less).0,
        fewer-landed calls m n is (landed_call calls (get_or turns k d)) (h.fresh k d less).1,
      );
      order = h.order;
      others = λ i must. elim (h.others i must) [ inl was ↦ inl ((is.settled i).1 must was) | inr now ↦ inr now ];
      before = λ i must precedes. elim (h.before i must precedes) [ inl was ↦ inl ((is.settled i).1 must was) | inr now ↦ inr now ];
      left = λ s. h.left ((is.settled call).0 s);
      apart = h.apart;
    }

-- 4. They end at a closed node where it is the call's turn.

ready : (rules : Rules) (calls : List Recorded) (n : NodeValue) (call : ℕ) (last : Spot) → Leads rules calls n [] call last → IsReady rules calls n call
ready rules calls n call last is = (
  is.left,
  λ i must precedes. elim (is.before i must precedes) [ inl was ↦ inl was | inr none ↦ absurd (omega (arith, none.2)) ],
)

leads-seen : (rules : Rules) (calls : List Recorded) (nodes : List NodeValue) (call : ℕ) (spots : List Spot) → All (IsClosedAt rules calls nodes) nodes
    → must_at calls call ≡ true → ((n : NodeValue) → IsAmong nodes n → IsReady rules calls n call → IsForeseen rules calls call spots n.spot)
    → (turns : List Turn) (n : NodeValue) (last : Spot) → IsCovered calls nodes n → Leads rules calls n turns call last → IsForeseen rules calls call spots last
leads-seen rules calls nodes call spots closed must seen [] n last (k, m, h, at, covers) is =
    let mine = covering-leads rules calls m n [] call last covers is in
    subst (IsForeseen rules calls call spots) (sym mine.plays) (seen m (k, m, h, at, refl) (ready rules calls m call last mine))
leads-seen rules calls nodes call spots closed must seen (t ∷ ts) n last (k, m, h, at, covers) is =
    let here : IsClosedAt rules calls nodes m = subst (IsClosedAt rules calls nodes) at (closed k m h) in
    let mine = covering-leads rules calls m n (t ∷ ts) call last covers is in
    let inside = here.goes t mine.plays.0 (first-may rules calls m t ts call last mine) in
    leads-seen rules calls nodes call spots closed must seen ts inside.next last inside.inside
    (rest-leads rules calls m inside.next t ts call last must inside.goes mine)

-- 5. From the opening.

opening-leads : (rules : Rules) (calls : List Recorded) (opening : Spot) (turns : List Turn) (call : ℕ) (last : Spot)
    → LeadsUpTo rules calls opening turns call last → Leads rules calls (opening_node opening) turns call last
opening-leads rules calls opening turns call last is =
    record {
      plays = is.plays;
      once = is.once;
      fresh = λ k d h. (none-settled (placed_call (get_or turns k d)), none-landed (landed_call calls (get_or turns k d)));
      order = is.order;
      others = λ i must.
          let some = must-some calls i (slice_get calls i) refl must in
          inr (is.others i some.0 some.1 some.2);
      before = λ i must precedes.
          let some = must-some calls i (slice_get calls i) refl must in
          inr (is.before i some.0 some.1 some.2 precedes);
      left = λ s. none s;
      apart = is.apart;
    }
  where
    none : {i : ℕ} → IsSettled (opening_node opening) i → ⊥
    none (inl less) = omega (arith, less)
    none (inr more) = omega (arith, more.0)

    none-settled : (o : Option ℕ) → IsNot (IsSettled (opening_node opening)) o
    none-settled None = tt
    none-settled (Some i) = λ s. elim s [ inl less ↦ omega (arith, less) | inr more ↦ omega (arith, more.0) ]

    none-landed : (o : Option ℕ) → IsNot (HasLanded []) o
    none-landed None = tt
    none-landed (Some i) = λ any. omega (arith, any.2)

pub foresees : (rules : Rules) (calls : List Recorded) (opening : Spot) (nodes : List NodeValue) (call : ℕ) (spots : List Spot)
    → IsClosed rules calls opening nodes → must_at calls call ≡ true
    → ((n : NodeValue) → IsAmong nodes n → IsReady rules calls n call → IsForeseen rules calls call spots n.spot) → CouldBe rules calls opening call spots
foresees rules calls opening nodes call spots closed must seen turns last leads =
    leads-seen rules calls nodes call spots closed.each must seen turns (opening_node opening) last (first closed.first)
    (opening-leads rules calls opening turns call last leads)
  where
    first : IsAmong nodes (opening_node opening) → IsCovered calls nodes (opening_node opening)
    first (k, m, h, at, same) =
        (k, m, h, at, subst (IsCovering calls m) same (record { settled = λ i. (λ s. s, λ must s. s); spot = refl; landed = λ i has. has }))

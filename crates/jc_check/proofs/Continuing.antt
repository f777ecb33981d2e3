-- What is left of an order: turns that explain, from a node on, what isn't done yet. An order explains a record exactly if it continues
-- from the opening, and it continues from a node exactly if its first turn leads to a node from which the others continue.
use Rattle.std.proofs.Common.{◌≡◌, ℕ, ◌⊎◌, inl, inr, List, [], ◌∷◌, get_or, Bool, true, false, Option, Some, None, slice_get, sym, subst, ap, refl, ◌∙◌, arith, true≢false}
use Rattle.std.specs.List.{All}
use Rattle.jc_check.specs.declared.record.Act.{Act}
use Rattle.jc_check.specs.declared.record.Act.TheVariants.{Step, Share, Land, Foreign, LeaveEntry, LeaveStore, LeaveBoth, LeaveLoad}
use Rattle.jc_check.specs.declared.record.Recorded.{Recorded}
use Rattle.jc_check.specs.declared.record.Rules.{Rules}
use Rattle.jc_check.specs.declared.record.Spot.{Spot}
use Rattle.jc_check.specs.declared.record.Turn.{Turn}
use Rattle.jc_check.specs.declared.record.Turn.TheVariants.{Vanish, Call}
use Rattle.jc_check.specs.Explains.{ActGoes, AreApart, AreInOrder, AreOnce, CallGoes, Differ, Explains, Goes, IsExplained, IsLeft, IsPlaced, MustPrecede, NumbersPrecede, PlaysTurns, call_of, must_be_placed, placed_call}
use Rattle.jc_check.specs.Nodes.{HasLanded, IsAmong, IsClosed, IsClosedAt, IsCovered, IsCovering, IsFresh, IsNot, IsSettled, IsWhole, MayGo, NodeGoes, NodeValue, PlaysNodes, is_must, landed_call, must_at, opening_node}
use Rattle.jc_check.proofs.Quantified.{all-cons, all-tail, any-either, any-here, any-there, pairs-cons, pairs-head, pairs-tail}
use Rattle.jc_check.proofs.Landings.{apart-landed, apart-placed, apart-stored, lands-right, not-more, unlanded-after, unlanded-before}

pub record Continues (rules : Rules) (calls : List Recorded) (n : NodeValue) (turns : List Turn) : Type 0 where
  pub last : Spot
  pub plays : PlaysTurns rules calls n.spot turns last
  pub once : AreOnce calls turns
  pub fresh : All (IsFresh calls n) turns
  pub order : AreInOrder rules calls turns
  pub each : (call : ℕ) → must_at calls call ≡ true → IsSettled n call ⊎ IsPlaced turns call

abbrev pub later-not : Rules → List Recorded → Turn → Turn → Type 0
later-not rules calls t u = MustPrecede rules calls u t → ⊥

-- 1. A turn has one result.

left-one : (o : Option (Option (List ℕ))) (s a b : Spot) → IsLeft o s a → IsLeft o s b → a ≡ b
left-one None s a b x y = absurd x
left-one (Some e) s a b x y = x ∙ sym y

call-one : (rules : Rules) (c : Recorded) (s : Spot) (act : Act) (a b : Spot) → CallGoes rules c s act a → CallGoes rules c s act b → a ≡ b
call-one rules c s Step a b x y = x.2 ∙ sym y.2
call-one rules c s Share a b x y = x.2 ∙ sym y.2
call-one rules c s Land a b x y = x.2 ∙ sym y.2
call-one rules c s Foreign a b x y = x.1 ∙ sym y.1
call-one rules c s LeaveEntry a b x y = left-one _ s a b x.1 y.1
call-one rules c s LeaveStore a b x y = x.3 ∙ sym y.3
call-one rules c s LeaveBoth a b x y = left-one _ _ a b x.2 y.2
call-one rules c s LeaveLoad a b x y = x.2 ∙ sym y.2

act-one : (rules : Rules) (o : Option Recorded) (s : Spot) (act : Act) (a b : Spot) → ActGoes rules o s act a → ActGoes rules o s act b → a ≡ b
act-one rules None s act a b x y = absurd x
act-one rules (Some c) s act a b x y = call-one rules c s act a b x y

pub goes-one : (rules : Rules) (calls : List Recorded) (s : Spot) (t : Turn) (a b : Spot) → Goes rules calls s t a → Goes rules calls s t b → a ≡ b
goes-one rules calls s Vanish a b x y = x.1 ∙ sym y.1
goes-one rules calls s (Call i act) a b x y = act-one rules (slice_get calls i) s act a b x y

-- 2. The first turn may be made.

pub placed-late : (rules : Rules) (calls : List Recorded) (t : Turn) (ts : List Turn) (call : ℕ) → All (later-not rules calls t) ts
    → NumbersPrecede rules calls (Some call) (call_of t) → IsPlaced ts call → ⊥
placed-late rules calls t ts call order before (k, x, h, at, placed) =
    order k x h
    (subst (λ (u : Turn). MustPrecede rules calls u t) (sym at) (subst (λ (o : Option ℕ). NumbersPrecede rules calls o (call_of t)) (sym placed) before))

pub first-may : (rules : Rules) (calls : List Recorded) (n : NodeValue) (t : Turn) (ts : List Turn) (is : Continues rules calls n (t ∷ ts))
    → MayGo rules calls n t is.plays.0
first-may rules calls n t ts is =
    record {
      goes = is.plays.1;
      fresh = is.fresh 0 t (omega arith);
      keeps = λ call must before. elim (is.each call must) [
        | inl was ↦ inl was
        | inr now ↦ elim (any-either (λ (x : Turn). placed_call x ≡ Some call) t ts now) [
          | inl first ↦ inr first
          | inr rest ↦ absurd (placed-late rules calls t ts call (pairs-head (later-not rules calls) t ts is.order) before rest)
        ]
      ];
    }

-- 3. From a node to the next one.

pub settled-after : (rules : Rules) (calls : List Recorded) (n next : NodeValue) (t : Turn) → NodeGoes rules calls n t next → (x : Option ℕ)
    → IsNot (IsSettled n) x → AreApart (placed_call t) x → (NumbersPrecede rules calls x (call_of t) → ⊥) → IsNot (IsSettled next) x
settled-after rules calls n next t goes None was apart never = tt
settled-after rules calls n next t goes (Some call) was apart never = λ s.
    elim ((goes.settled call).0 s) [
      | inl before ↦ was before
      | inr rest ↦ elim rest [ inl now ↦ apart-placed (placed_call t) call now apart | inr out ↦ never out.1 ]
    ]

pub rest-continues : (rules : Rules) (calls : List Recorded) (n next : NodeValue) (t : Turn) (ts : List Turn) → NodeGoes rules calls n t next
    → Continues rules calls n (t ∷ ts) → Continues rules calls next ts
rest-continues rules calls n next t ts goes is =
    let spot = goes-one rules calls n.spot t is.plays.0 next.spot is.plays.1 goes.may.goes in
    let apart = pairs-head (Differ calls) t ts is.once in
    let order = pairs-head (later-not rules calls) t ts is.order in
    record {
      last = is.last;
      plays = subst (λ (s : Spot). PlaysTurns rules calls s ts is.last) spot is.plays.2;
      once = pairs-tail (Differ calls) t ts is.once;
      fresh = λ k d h.
          let u = get_or ts k d in
          let was = all-tail (IsFresh calls n) t ts is.fresh k d h in (
            settled-after rules calls n next t goes (placed_call u) was.0 (apart k d h).0 (order k d h),
            subst (λ (l : List ℕ). IsNot (HasLanded l) (landed_call calls u)) (sym goes.landed)
                (unlanded-after (landed_call calls t) (landed_call calls u) n.landed was.1 (apart-landed calls t u (apart k d h).1)),
          );
      order = pairs-tail (later-not rules calls) t ts is.order;
      each = λ call must. elim (is.each call must) [
        | inl was ↦ inl ((goes.settled call).1 (inl was))
        | inr now ↦ elim (any-either (λ (x : Turn). placed_call x ≡ Some call) t ts now) [
          | inl first ↦ inl ((goes.settled call).1 (inr (inl first)))
          | inr rest ↦ inr rest
        ]
      ];
    }

settled-before : (rules : Rules) (calls : List Recorded) (n next : NodeValue) (t : Turn) → NodeGoes rules calls n t next → (x : Option ℕ)
    → IsNot (IsSettled next) x → IsNot (IsSettled n) x × AreApart (placed_call t) x × (NumbersPrecede rules calls x (call_of t) → ⊥)
settled-before rules calls n next t goes None is = (tt, not-more (placed_call t), λ h. h)
settled-before rules calls n next t goes (Some call) is = (
  λ s. is ((goes.settled call).1 (inl s)),
  apart-not (placed_call t) refl,
  λ before. must-or-not (must_at calls call) refl before,
)
  where
    apart-not : (x : Option ℕ) → placed_call t ≡ x → AreApart x (Some call)
    apart-not None same = tt
    apart-not (Some i) same = λ e. is ((goes.settled call).1 (inr (inl (same ∙ ap Some e))))

    must-or-not : (b : Bool) → must_at calls call ≡ b → NumbersPrecede rules calls (Some call) (call_of t) → ⊥
    must-or-not true must before =
        elim (goes.may.keeps call must before) [
          | inl was ↦ is ((goes.settled call).1 (inl was))
          | inr now ↦ is ((goes.settled call).1 (inr (inl now)))
        ]
    must-or-not false must before = is ((goes.settled call).1 (inr (inr (must, before))))

pub continues-before : (rules : Rules) (calls : List Recorded) (n next : NodeValue) (t : Turn) (ts : List Turn) → NodeGoes rules calls n t next
    → Continues rules calls next ts → Continues rules calls n (t ∷ ts)
continues-before rules calls n next t ts goes is =
    let before : All (λ u. IsNot (IsSettled n) (placed_call u) × AreApart (placed_call t) (placed_call u) × later-not rules calls t u) ts =
    λ k d h. settled-before rules calls n next t goes (placed_call (get_or ts k d)) (is.fresh k d h).0 in
    let landed : All (λ u. IsNot (HasLanded n.landed) (landed_call calls u) × AreApart (landed_call calls t) (landed_call calls u)) ts =
    λ k d h. unlanded-before (landed_call calls t) (landed_call calls (get_or ts k d)) n.landed
    (subst (λ (l : List ℕ). IsNot (HasLanded l) (landed_call calls (get_or ts k d))) goes.landed (is.fresh k d h).1) in
    let rights = lands-right rules calls next.spot ts is.last is.plays in
    let right = lands-right rules calls n.spot (t ∷ []) next.spot (next.spot, goes.may.goes, refl) 0 t (omega arith) in
    record {
      last = is.last;
      plays = (next.spot, goes.may.goes, is.plays);
      once = pairs-cons (Differ calls) t ts
          (λ k d h. ((before k d h).1, apart-stored calls t (get_or ts k d) right (rights k d h) (before k d h).1 (landed k d h).1)) is.once;
      fresh = all-cons (IsFresh calls n) t ts goes.may.fresh (λ k d h. ((before k d h).0, (landed k d h).0));
      order = pairs-cons (later-not rules calls) t ts (λ k d h. (before k d h).2) is.order;
      each = λ call must. elim (is.each call must) [
        | inl now ↦ elim ((goes.settled call).0 now) [
          | inl was ↦ inl was
          | inr rest ↦ elim rest [
            | inl placed ↦ inr (any-here (λ (x : Turn). placed_call x ≡ Some call) t ts placed)
            | inr out ↦ absurd (true≢false (sym must ∙ out.0))
          ]
        ]
        | inr rest ↦ inr (any-there (λ (x : Turn). placed_call x ≡ Some call) t ts rest)
      ];
    }

-- 4. The opening, and the end.

pub must-some : (calls : List Recorded) (call : ℕ) (o : Option Recorded) → slice_get calls call ≡ o → is_must o ≡ true
    → (c : Recorded) × (slice_get calls call ≡ Some c) × (must_be_placed c ≡ true)
must-some calls call None at must = absurd (true≢false (sym must))
must-some calls call (Some c) at must = (c, at, must)

pub opens : (rules : Rules) (calls : List Recorded) (opening : Spot) (turns : List Turn) → Explains rules calls opening turns
    → Continues rules calls (opening_node opening) turns
opens rules calls opening turns is =
    record {
      last = is.last;
      plays = is.plays;
      once = is.once;
      fresh = λ k d h. (none-settled (placed_call (get_or turns k d)), none-landed (landed_call calls (get_or turns k d)));
      order = is.order;
      each = λ call must.
          let some = must-some calls call (slice_get calls call) refl must in
          inr (is.each call some.0 some.1 some.2);
    }
  where
    none-settled : (o : Option ℕ) → IsNot (IsSettled (opening_node opening)) o
    none-settled None = tt
    none-settled (Some i) = λ s. elim s [ inl less ↦ omega (arith, less) | inr more ↦ omega (arith, more.0) ]

    none-landed : (o : Option ℕ) → IsNot (HasLanded []) o
    none-landed None = tt
    none-landed (Some i) = λ any. omega (arith, any.2)

pub opened : (rules : Rules) (calls : List Recorded) (opening : Spot) (turns : List Turn) → Continues rules calls (opening_node opening) turns
    → Explains rules calls opening turns
opened rules calls opening turns is =
    record {
      last = is.last;
      plays = is.plays;
      once = is.once;
      each = λ call c at must.
          let is_there : must_at calls call ≡ true = ap is_must at ∙ must in
          elim (is.each call is_there) [
            | inl was ↦ elim was [ inl less ↦ absurd (omega (arith, less)) | inr more ↦ absurd (omega (arith, more.0)) ]
            | inr now ↦ now
          ];
      order = is.order;
    }

pub ends : (rules : Rules) (calls : List Recorded) (n : NodeValue) → IsWhole calls n → Continues rules calls n []
ends rules calls n whole =
    record {
      last = n.spot;
      plays = refl;
      once = λ i j d less h. absurd (omega (arith, h));
      fresh = λ k d h. absurd (omega (arith, h));
      order = λ i j d less h. absurd (omega (arith, h));
      each = λ call must. inl (whole call must);
    }

pub ended : (rules : Rules) (calls : List Recorded) (n : NodeValue) → Continues rules calls n [] → IsWhole calls n
ended rules calls n is call must = elim (is.each call must) [ inl was ↦ was | inr none ↦ absurd (omega (arith, none.2)) ]

-- 5. Turns that lead to a whole node explain.

plays-continue : (rules : Rules) (calls : List Recorded) (n last : NodeValue) (turns : List Turn) → PlaysNodes rules calls n turns last
    → IsWhole calls last → Continues rules calls n turns
plays-continue rules calls n last [] plays whole = ends rules calls n (subst (IsWhole calls) plays whole)
plays-continue rules calls n last (t ∷ ts) plays whole =
    continues-before rules calls n plays.0 t ts plays.1 (plays-continue rules calls plays.0 last ts plays.2 whole)

pub whole-explains : (rules : Rules) (calls : List Recorded) (opening : Spot) (turns : List Turn) (n : NodeValue)
    → PlaysNodes rules calls (opening_node opening) turns n → IsWhole calls n → Explains rules calls opening turns
whole-explains rules calls opening turns n plays whole =
    opened rules calls opening turns (plays-continue rules calls (opening_node opening) n turns plays whole)

-- 6. Closed nodes: no order continues from one of them.

pub fewer-landed : (calls : List Recorded) (m n : NodeValue) → IsCovering calls m n → (x : Option ℕ) → IsNot (HasLanded n.landed) x → IsNot (HasLanded m.landed) x
fewer-landed calls m n is None was = tt
fewer-landed calls m n is (Some call) was = λ has. was (is.landed call has)

pub not-settled : (calls : List Recorded) (m n : NodeValue) → IsCovering calls m n → (x : Option ℕ) → IsNot (IsSettled n) x → IsNot (IsSettled m) x
not-settled calls m n is None was = tt
not-settled calls m n is (Some call) was = λ s. was ((is.settled call).0 s)

covering-continues : (rules : Rules) (calls : List Recorded) (m n : NodeValue) (turns : List Turn) → IsCovering calls m n → Continues rules calls n turns
    → Continues rules calls m turns
covering-continues rules calls m n turns is h =
    record {
      last = h.last;
      plays = subst (λ (s : Spot). PlaysTurns rules calls s turns h.last) (sym is.spot) h.plays;
      once = h.once;
      fresh = λ k d less. (
        not-settled calls m n is (placed_call (get_or turns k d)) (h.fresh k d less).0,
        fewer-landed calls m n is (landed_call calls (get_or turns k d)) (h.fresh k d less).1,
      );
      order = h.order;
      each = λ call must. elim (h.each call must) [ inl was ↦ inl ((is.settled call).1 must was) | inr now ↦ inr now ];
    }

none-continues : (rules : Rules) (calls : List Recorded) (nodes : List NodeValue) → All (IsClosedAt rules calls nodes) nodes
    → (turns : List Turn) (n : NodeValue) → IsCovered calls nodes n → Continues rules calls n turns → ⊥
none-continues rules calls nodes closed [] n (k, m, h, at, covers) is =
    let here : IsClosedAt rules calls nodes m = subst (IsClosedAt rules calls nodes) at (closed k m h) in
    here.undone (ended rules calls m (covering-continues rules calls m n [] covers is))
none-continues rules calls nodes closed (t ∷ ts) n (k, m, h, at, covers) is =
    let here : IsClosedAt rules calls nodes m = subst (IsClosedAt rules calls nodes) at (closed k m h) in
    let mine = covering-continues rules calls m n (t ∷ ts) covers is in
    let inside = here.goes t mine.plays.0 (first-may rules calls m t ts mine) in
    none-continues rules calls nodes closed ts inside.next inside.inside (rest-continues rules calls m inside.next t ts inside.goes mine)

pub refutes : (rules : Rules) (calls : List Recorded) (opening : Spot) (nodes : List NodeValue) → IsClosed rules calls opening nodes
    → IsExplained rules calls opening → ⊥
refutes rules calls opening nodes closed order =
    none-continues rules calls nodes closed.each order.0 (opening_node opening) (first closed.first) (opens rules calls opening order.0 order.1)
  where
    first : IsAmong nodes (opening_node opening) → IsCovered calls nodes (opening_node opening)
    first (k, m, h, at, same) =
        (k, m, h, at, subst (IsCovering calls m) same (record { settled = λ call. (λ s. s, λ must s. s); spot = refl; landed = λ call has. has }))

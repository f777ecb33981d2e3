-- Which write changes the store in a turn, and that none does so twice.
use Rattle.std.proofs.Common.{◌≡◌, ℕ, ◌⊎◌, inl, inr, List, [], ◌∷◌, ◌++◌, Bool, true, false, Option, Some, None, slice_get, sym, subst, ap, refl, ◌∙◌, arith, true≢false}
use Rattle.std.specs.List.{All}
use Rattle.jc_check.specs.declared.record.Act.{Act}
use Rattle.jc_check.specs.declared.record.Act.TheVariants.{Step, Share, Land, Foreign, LeaveEntry, LeaveStore, LeaveBoth, LeaveLoad}
use Rattle.jc_check.specs.declared.record.Recorded.{Recorded}
use Rattle.jc_check.specs.declared.record.Rules.{Rules}
use Rattle.jc_check.specs.declared.record.Spot.{Spot}
use Rattle.jc_check.specs.declared.record.Turn.{Turn}
use Rattle.jc_check.specs.declared.record.Turn.TheVariants.{Vanish, Call}
use Rattle.jc_check.specs.Explains.{ActGoes, AreApart, Goes, PlaysTurns, call_at, call_of, changes_at, placed_call, some_if, stored_call}
use Rattle.jc_check.specs.Nodes.{HasLanded, IsNot, is_landable, kept, landed_call, landed_with}
use Rattle.jc_check.proofs.Quantified.{all-cons, any-either, any-here, any-there}

-- 1. Numbers that are apart.

pub not-more : (x : Option ℕ) → AreApart x None
not-more None = tt
not-more (Some i) = tt

pub apart-placed : (x : Option ℕ) (call : ℕ) → x ≡ Some call → AreApart x (Some call) → ⊥
apart-placed x call is apart = subst (λ (o : Option ℕ). AreApart o (Some call)) is apart refl

some-one : (i j : ℕ) → Some i ≡ Some j → i ≡ j
some-one i j e = ap (λ (o : Option ℕ). number o) e
  where
    number : Option ℕ → ℕ
    number None = 0
    number (Some k) = k

apart-kept : (a b : Bool) (x y : Option ℕ) → AreApart x y → AreApart (kept a x) (kept b y)
apart-kept false b x y apart = tt
apart-kept true false x y apart = not-more x
apart-kept true true x y apart = apart

pub apart-landed : (calls : List Recorded) (t u : Turn) → AreApart (stored_call calls t) (stored_call calls u)
    → AreApart (landed_call calls t) (landed_call calls u)
apart-landed calls t u apart =
    apart-kept (is_landable (call_at calls (call_of t))) (is_landable (call_at calls (call_of u))) (stored_call calls t) (stored_call calls u) apart

-- 2. Lists of calls, with one more.

pub has-push : (landed : List ℕ) (i j : ℕ) → HasLanded (landed ++ i ∷ []) j → HasLanded landed j ⊎ (i ≡ j)
has-push [] i j any = elim (any-either (λ (c : ℕ). c ≡ j) i [] any) [ inl is ↦ inr is | inr none ↦ inl none ]
has-push (x ∷ landed) i j any =
    elim (any-either (λ (c : ℕ). c ≡ j) x (landed ++ i ∷ []) any) [
      | inl is ↦ inl (any-here (λ (c : ℕ). c ≡ j) x landed is)
      | inr rest ↦ elim (has-push landed i j rest) [ inl was ↦ inl (any-there (λ (c : ℕ). c ≡ j) x landed was) | inr is ↦ inr is ]
    ]

pub push-has : (landed : List ℕ) (i j : ℕ) → HasLanded landed j ⊎ (i ≡ j) → HasLanded (landed ++ i ∷ []) j
push-has [] i j (inl none) = absurd (omega (arith, none.2))
push-has [] i j (inr is) = any-here (λ (c : ℕ). c ≡ j) i [] is
push-has (x ∷ landed) i j (inr is) = any-there (λ (c : ℕ). c ≡ j) x (landed ++ i ∷ []) (push-has landed i j (inr is))
push-has (x ∷ landed) i j (inl was) =
    elim (any-either (λ (c : ℕ). c ≡ j) x landed was) [
      | inl is ↦ any-here (λ (c : ℕ). c ≡ j) x (landed ++ i ∷ []) is
      | inr rest ↦ any-there (λ (c : ℕ). c ≡ j) x (landed ++ i ∷ []) (push-has landed i j (inl rest))
    ]

pub unlanded-after : (x y : Option ℕ) (landed : List ℕ) → IsNot (HasLanded landed) y → AreApart x y → IsNot (HasLanded (landed_with x landed)) y
unlanded-after None y landed was apart = was
unlanded-after (Some i) None landed was apart = tt
unlanded-after (Some i) (Some j) landed was apart = λ has. elim (has-push landed i j has) [ inl old ↦ was old | inr is ↦ apart is ]

pub unlanded-before : (x y : Option ℕ) (landed : List ℕ) → IsNot (HasLanded (landed_with x landed)) y → IsNot (HasLanded landed) y × AreApart x y
unlanded-before None y landed is = (is, tt)
unlanded-before (Some i) None landed is = (tt, tt)
unlanded-before (Some i) (Some j) landed is = (λ old. is (push-has landed i j (inl old)), λ same. is (push-has landed i j (inr same)))

-- 3. A write that may not land changes the store in the turn that places its call.

abbrev pub LandsRight : List Recorded → Turn → Type 0
LandsRight calls Vanish = Unit {0}
LandsRight calls (Call i act) = act ≡ Land → is_landable (slice_get calls i) ≡ true

lands-so : (rules : Rules) (o : Option Recorded) (s next : Spot) (act : Act) → ActGoes rules o s act next → act ≡ Land → is_landable o ≡ true
lands-so rules None s next act goes is = absurd goes
lands-so rules (Some c) s next act goes is = (subst (λ (a : Act). ActGoes rules (Some c) s a next) is goes).1

pub goes-right : (rules : Rules) (calls : List Recorded) (s next : Spot) (t : Turn) → Goes rules calls s t next → LandsRight calls t
goes-right rules calls s next Vanish goes = tt
goes-right rules calls s next (Call i act) goes = lands-so rules (slice_get calls i) s next act goes

pub lands-right : (rules : Rules) (calls : List Recorded) (s : Spot) (turns : List Turn) (last : Spot) → PlaysTurns rules calls s turns last
    → All (LandsRight calls) turns
lands-right rules calls s [] last plays = λ k d h. absurd (omega (arith, h))
lands-right rules calls s (t ∷ ts) last plays =
    all-cons (LandsRight calls) t ts (goes-right rules calls s plays.0 t plays.1) (lands-right rules calls plays.0 ts last plays.2)

abbrev IsNone : Option ℕ → Type 0
IsNone None = Unit {0}
IsNone (Some k) = ⊥

none-some : (i : ℕ) → None ≡ Some i → ⊥
none-some i e = subst IsNone e tt

some-is : (b : Bool) (k i : ℕ) → some_if b k ≡ Some i → k ≡ i
some-is true k i e = some-one k i e
some-is false k i e = absurd (none-some i e)

acts-placed : (act : Act) (k i : ℕ) → (act ≡ Land → ⊥) → k ≡ i → placed_call (Call k act) ≡ Some i
acts-placed Step k i never is = ap Some is
acts-placed Share k i never is = ap Some is
acts-placed Land k i never is = absurd (never refl)
acts-placed Foreign k i never is = ap Some is
acts-placed LeaveEntry k i never is = ap Some is
acts-placed LeaveStore k i never is = ap Some is
acts-placed LeaveBoth k i never is = ap Some is
acts-placed LeaveLoad k i never is = ap Some is

-- the call that acts is the one whose write changes the store
stored-acts : (calls : List Recorded) (t : Turn) (i : ℕ) → stored_call calls t ≡ Some i → call_of t ≡ Some i
stored-acts calls Vanish i e = absurd (none-some i e)
stored-acts calls (Call k act) i e = ap Some (some-is (changes_at act (slice_get calls k)) k i e)

stored-placed : (calls : List Recorded) (t : Turn) (i : ℕ) → LandsRight calls t → is_landable (slice_get calls i) ≡ false → stored_call calls t ≡ Some i
    → placed_call t ≡ Some i
stored-placed calls Vanish i right none e = e
stored-placed calls (Call k act) i right none e =
    let is = some-is (changes_at act (slice_get calls k)) k i e in
    acts-placed act k i (λ land. true≢false (sym (right land) ∙ ap (λ (j : ℕ). is_landable (slice_get calls j)) is ∙ none)) is

stored-landed : (calls : List Recorded) (t : Turn) (i : ℕ) → is_landable (slice_get calls i) ≡ true → stored_call calls t ≡ Some i → landed_call calls t ≡ Some i
stored-landed calls t i lands e =
    ap (λ (o : Option ℕ). kept (is_landable (call_at calls o)) (stored_call calls t)) (stored-acts calls t i e)
    ∙ ap (λ (b : Bool). kept b (stored_call calls t)) lands ∙ e

pub apart-stored : (calls : List Recorded) (t u : Turn) → LandsRight calls t → LandsRight calls u → AreApart (placed_call t) (placed_call u)
    → AreApart (landed_call calls t) (landed_call calls u) → AreApart (stored_call calls t) (stored_call calls u)
apart-stored calls t u right other placed landed = either (stored_call calls t) (stored_call calls u) refl refl
  where
    both : (x y : Option ℕ) (i : ℕ) → AreApart x y → x ≡ Some i → y ≡ Some i → ⊥
    both x y i apart first second =
        subst (λ (o : Option ℕ). AreApart o (Some i)) first (subst (λ (o : Option ℕ). AreApart x o) second apart) refl

    by-landing : (b : Bool) (i : ℕ) → is_landable (slice_get calls i) ≡ b → stored_call calls t ≡ Some i → stored_call calls u ≡ Some i → ⊥
    by-landing true i lands first second =
        both (landed_call calls t) (landed_call calls u) i landed (stored-landed calls t i lands first) (stored-landed calls u i lands second)
    by-landing false i lands first second =
        both (placed_call t) (placed_call u) i placed (stored-placed calls t i right lands first) (stored-placed calls u i other lands second)

    either : (x y : Option ℕ) → stored_call calls t ≡ x → stored_call calls u ≡ y → AreApart x y
    either None y first second = tt
    either (Some i) None first second = tt
    either (Some i) (Some j) first second = λ same.
        by-landing (is_landable (slice_get calls i)) i refl first (second ∙ ap Some (sym same))

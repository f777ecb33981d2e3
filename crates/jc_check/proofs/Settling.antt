-- Which calls are settled in a node, and after a turn.
use Rattle.std.proofs.Common.{◌≡◌, ℕ, ◌-◌, ◌<◌, ◌≤◌, ◌⊎◌, inl, inr, max, List, length, get_or, Bool, true, false, Option, Some, None, sym, subst, ap, refl, ◌∙◌, arith, true≢false}
use Rattle.std.proofs.lemmas.Option.{slice_get_past}
use Rattle.jc_check.specs.declared.record.Recorded.{Recorded}
use Rattle.jc_check.specs.declared.record.Rules.{Rules}
use Rattle.jc_check.specs.declared.record.Turn.{Turn}
use Rattle.jc_check.specs.Explains.{placed_call}
use Rattle.jc_check.specs.Nodes.{IsLost, IsMarked, IsSettled, IsSettledBy, IsWhole, Keeps, NodeValue, is_must, must_at}
use Rattle.jc_check.specs.Orders.{IsEnd}
use Rattle.jc_check.proofs.Numbers.{lt_or_le, same_or_not}

bool-or-not : (b : Bool) → (b ≡ true) ⊎ (b ≡ true → ⊥)
bool-or-not true = inl refl
bool-or-not false = inr (λ e. true≢false (sym e))

pub marked-or-not : (from end : ℕ) (rest : List Bool) (call : ℕ) → IsMarked from end rest call ⊎ (IsMarked from end rest call → ⊥)
marked-or-not from end rest call =
    elim (lt_or_le call from) [
      | inl low ↦ inl (inl low)
      | inr up ↦ elim (lt_or_le call end) [
        | inl inside ↦ elim (bool-or-not (get_or rest (call - from) false)) [
          | inl is ↦ inl (inr (inside, is))
          | inr not ↦ inr (λ m. elim m [ inl less ↦ omega (arith, less, up) | inr more ↦ not more.1 ])
        ]
        | inr past ↦ inr (λ m. elim m [ inl less ↦ omega (arith, less, up) | inr more ↦ omega (arith, more.0, past) ])
      ]
    ]

pub call-or-not : (x : Option ℕ) (call : ℕ) → (x ≡ Some call) ⊎ (x ≡ Some call → ⊥)
call-or-not None call = inr (λ e. subst (λ (o : Option ℕ). IsNothing o) e tt)
  where
    IsNothing : Option ℕ → Type 0
    IsNothing None = Unit {0}
    IsNothing (Some i) = ⊥
call-or-not (Some i) call =
    elim (same_or_not i call) [ inl same ↦ inl (ap Some same) | inr other ↦ inr (λ e. other (ap (λ (o : Option ℕ). number o) e)) ]
  where
    number : Option ℕ → ℕ
    number None = 0
    number (Some k) = k

pub keeps-all : (rules : Rules) (calls : List Recorded) (n : NodeValue) (t : Turn) (end call : ℕ) → IsEnd rules calls t end
    → ((k : ℕ) → k < call → IsLost rules calls n t k → ⊥) → end ≤ call → Keeps rules calls n t
keeps-all rules calls n t end call last never h k must before =
    elim (marked-or-not n.from n.end n.rest k) [
      | inl is ↦ inl is
      | inr not ↦ elim (call-or-not (placed_call t) k) [
        | inl placed ↦ inr placed
        | inr other ↦ elim (lt_or_le k call) [
          | inl less ↦ absurd (never k less (record { must = must; left = not; other = other; before = before }))
          | inr more ↦ absurd (last k (omega (arith, h, more)) before)
        ]
      ]
    ]

pub lost-keeps : (rules : Rules) (calls : List Recorded) (n : NodeValue) (t : Turn) (k : ℕ) → IsLost rules calls n t k → Keeps rules calls n t → ⊥
lost-keeps rules calls n t k lost keeps = elim (keeps k lost.must lost.before) [ inl was ↦ lost.left was | inr now ↦ lost.other now ]

pub low-kept : (rules : Rules) (calls : List Recorded) (n : NodeValue) (t : Turn) (k : ℕ) → k < n.from → IsLost rules calls n t k → ⊥
low-kept rules calls n t k h lost = lost.left (inl h)

pub whole-all : (calls : List Recorded) (n : NodeValue) (call : ℕ) → ((k : ℕ) → k < call → must_at calls k ≡ true → IsSettled n k)
    → length calls ≤ call → IsWhole calls n
whole-all calls n call each h k must =
    elim (lt_or_le k call) [
      | inl less ↦ each k less must
      | inr more ↦ absurd (true≢false (sym must ∙ ap is_must (slice_get_past calls k (omega (arith, h, more)))))
    ]

pub past-settled : (rules : Rules) (calls : List Recorded) (n : NodeValue) (t : Turn) (end last : ℕ) → IsEnd rules calls t last
    → ((call : ℕ) → placed_call t ≡ Some call → call < last) → end ≡ max last n.end → (i : ℕ) → end ≤ i → IsSettledBy rules calls n t i → i < n.from
past-settled rules calls n t end last none placed is i h (inl (inl low)) = low
past-settled rules calls n t end last none placed is i h (inl (inr more)) = absurd (omega (arith, is, h, more.0))
past-settled rules calls n t end last none placed is i h (inr (inl now)) = absurd (omega (arith, is, h, placed i now))
past-settled rules calls n t end last none placed is i h (inr (inr out)) = absurd (none i (omega (arith, is, h)) out.1)

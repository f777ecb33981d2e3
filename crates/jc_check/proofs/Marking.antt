-- Calls that are marked, one after the other.
use Rattle.std.proofs.Common.{◌≡◌, ℕ, zero, suc, ◌+◌, ◌-◌, ◌<◌, ◌≤◌, ◌↔◌, inl, inr, List, [], ◌∷◌, ◌++◌, length, get_or, Bool, true, false, IsTrue, sym, subst, ap, refl, ◌∙◌, arith, length-append}
use Rattle.jc_check.specs.declared.node.Marks.{Marks}
use Rattle.jc_check.specs.Nodes.{IsMarked, NotesNext}
use Rattle.jc_check.proofs.Lists.{eq_or_less}
use Rattle.jc_check.proofs.Numbers.{lt_or_le}

-- the calls below a number of which something holds are marked
pub record AreMarkedBelow (P : ℕ → Type 0) (start from : ℕ) (rest : List Bool) (call : ℕ) : Type 0 where
  pub up : start ≤ from
  pub long : from + length rest ≡ call
  pub low : (i : ℕ) → i < from → P i
  pub some : (i : ℕ) → i < call → get_or rest (i - from) false ≡ true → from ≤ i → P i
  pub each : (i : ℕ) → i < call → from ≤ i → P i → get_or rest (i - from) false ≡ true

get-low : (xs : List Bool) (b : Bool) (k : ℕ) → k < length xs → get_or (xs ++ b ∷ []) k false ≡ get_or xs k false
get-low [] b k h = absurd (omega (arith, h))
get-low (x ∷ xs) b zero h = refl
get-low (x ∷ xs) b (suc k) h = get-low xs b k (omega (arith, h))

get-last : (xs : List Bool) (b : Bool) → get_or (xs ++ b ∷ []) (length xs) false ≡ b
get-last [] b = refl
get-last (x ∷ xs) b = get-last xs b

pub none-marked : (P : ℕ → Type 0) (start : ℕ) → ((i : ℕ) → i < start → P i) → AreMarkedBelow P start start [] start
none-marked P start low =
    record {
      up = omega arith;
      long = omega arith;
      low = low;
      some = λ i h is up. absurd (omega (arith, h, up));
      each = λ i h up holds. absurd (omega (arith, h, up));
    }

pub marked-first : (P : ℕ → Type 0) (start from : ℕ) (rest : List Bool) (call : ℕ) → AreMarkedBelow P start from rest call → rest ≡ [] → P call
    → AreMarkedBelow P start (call + 1) rest (call + 1)
marked-first P start from rest call is empty holds =
    let none : length rest ≡ 0 = ap (λ (xs : List Bool). length xs) empty in
    record {
      up = omega (arith, is.up, is.long, none);
      long = omega (arith, none);
      low = λ i h. elim (eq_or_less i call h) [
        | inl less ↦ is.low i (omega (arith, less, is.long, none))
        | inr same ↦ subst P (sym same) holds
      ];
      some = λ i h got up. absurd (omega (arith, h, up));
      each = λ i h up yes. absurd (omega (arith, h, up));
    }

pub marked-next : (P : ℕ → Type 0) (start from : ℕ) (rest : List Bool) (call : ℕ) (b : Bool) → AreMarkedBelow P start from rest call
    → (IsTrue b ↔ P call) → AreMarkedBelow P start from (rest ++ b ∷ []) (call + 1)
marked-next P start from rest call b is holds =
    record {
      up = is.up;
      long = omega (arith, is.long, length-append rest (b ∷ []));
      low = is.low;
      some = λ i h got up. elim (eq_or_less i call h) [
        | inl less ↦ is.some i less (sym (get-low rest b (i - from) (omega (arith, less, up, is.long))) ∙ got) up
        | inr same ↦ subst P (sym same) (holds.0 (sym (here i same up) ∙ got))
      ];
      each = λ i h up yes. elim (eq_or_less i call h) [
        | inl less ↦ get-low rest b (i - from) (omega (arith, less, up, is.long)) ∙ is.each i less up yes
        | inr same ↦ here i same up ∙ holds.1 (subst P same yes)
      ];
    }
  where
    here : (i : ℕ) → i ≡ call → from ≤ i → get_or (rest ++ b ∷ []) (i - from) false ≡ b
    here i same up =
        let place : i - from ≡ length rest = omega (arith, same, up, is.long) in
        ap (λ (k : ℕ). get_or (rest ++ b ∷ []) k false) place ∙ get-last rest b

pub marked-more : (P : ℕ → Type 0) (start : ℕ) (old new : Marks) (call : ℕ) (b : Bool) → AreMarkedBelow P start old.from old.rest.items call
    → (IsTrue b ↔ P call) → NotesNext old new call b → AreMarkedBelow P start new.from new.rest.items (call + 1)
marked-more P start old new call b is holds (inl first) =
    let next = marked-first P start old.from old.rest.items call is first.1 (holds.0 first.0) in
    subst (λ (from : ℕ). AreMarkedBelow P start from new.rest.items (call + 1)) (sym first.2)
    (subst (λ (rest : List Bool). AreMarkedBelow P start (call + 1) rest (call + 1)) (first.1 ∙ sym first.3) next)
marked-more P start old new call b is holds (inr more) =
    let next = marked-next P start old.from old.rest.items call b is holds in
    subst (λ (from : ℕ). AreMarkedBelow P start from new.rest.items (call + 1)) (sym more.0)
    (subst (λ (rest : List Bool). AreMarkedBelow P start old.from rest (call + 1)) (sym more.1) next)

pub all-marked : (P : ℕ → Type 0) (start from end : ℕ) (rest : List Bool) (call : ℕ) → AreMarkedBelow P start from rest call → end ≤ call
    → ((i : ℕ) → end ≤ i → P i → i < start) → (i : ℕ) → IsMarked from end rest i ↔ P i
all-marked P start from end rest call is last past i = (forth, back)
  where
    forth : IsMarked from end rest i → P i
    forth (inl less) = is.low i less
    forth (inr more) = elim (lt_or_le i from) [ inl less ↦ is.low i less | inr up ↦ is.some i (omega (arith, more.0, last)) more.1 up ]

    back : P i → IsMarked from end rest i
    back holds =
        elim (lt_or_le i from) [
          | inl less ↦ inl less
          | inr up ↦ elim (lt_or_le i end) [
            | inl inside ↦ inr (inside, is.each i (omega (arith, inside, last)) up holds)
            | inr beyond ↦ inl (omega (arith, past i beyond holds, is.up))
          ]
        ]

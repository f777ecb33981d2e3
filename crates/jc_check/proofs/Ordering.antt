-- Calls in the order of their beginnings.
use Rattle.std.proofs.Common.{◌≡◌, ℕ, ◌+◌, ◌<◌, ◌≤◌, inl, inr, List, length, true, Option, Some, None, slice_get, sym, subst, ap, refl, ◌∙◌, arith}
use Rattle.std.proofs.lemmas.Option.{slice_get_cases, slice_get_past}
use Rattle.jc_check.specs.declared.record.Recorded.{Recorded}
use Rattle.jc_check.specs.declared.record.Rules.{Rules}
use Rattle.jc_check.specs.Explains.{CallPrecedes, CallsPrecede, NumbersPrecede, call_at}
use Rattle.jc_check.specs.Nodes.{NodeValue}
use Rattle.jc_check.specs.Orders.{AreBarred, AreOrdered, DoEndBefore, IsLeft}
use Rattle.jc_check.proofs.Lists.{eq_or_less}

-- 1. The calls below a number.

pub record AreOrderedBelow (calls : List Recorded) (end latest : ℕ) : Type 0 where
  pub sorted : (i j : ℕ) (a b : Recorded) → i ≤ j → j < end → slice_get calls i ≡ Some a → slice_get calls j ≡ Some b → a.began ≤ b.began
  pub lasting : (i at : ℕ) (a : Recorded) → i < end → slice_get calls i ≡ Some a → a.ended ≡ Some at → a.began ≤ at
  pub past : (i : ℕ) (a : Recorded) → i < end → slice_get calls i ≡ Some a → a.began ≤ latest

pub none-ordered : (calls : List Recorded) → AreOrderedBelow calls 0 0
none-ordered calls =
    record {
      sorted = λ i j a b up h first second. absurd (omega (arith, h));
      lasting = λ i at a h first ended. absurd (omega (arith, h));
      past = λ i a h first. absurd (omega (arith, h));
    }

one-began : (calls : List Recorded) (i : ℕ) (a b : Recorded) → slice_get calls i ≡ Some a → slice_get calls i ≡ Some b → a.began ≡ b.began
one-began calls i a b first second = ap (λ (o : Option Recorded). began_of o) (sym first ∙ second)
  where
    began_of : Option Recorded → ℕ
    began_of None = 0
    began_of (Some c) = c.began

pub more-ordered : (calls : List Recorded) (end latest : ℕ) (c : Recorded) → AreOrderedBelow calls end latest → slice_get calls end ≡ Some c
    → latest ≤ c.began → ((at : ℕ) → c.ended ≡ Some at → c.began ≤ at) → AreOrderedBelow calls (end + 1) c.began
more-ordered calls end latest c below here later lasts =
    record {
      sorted = λ i j a b up h first second. elim (eq_or_less j end h) [
        | inl less ↦ below.sorted i j a b up less first second
        | inr last ↦ elim (eq_or_less i end (omega (arith, up, last))) [
          | inl less ↦ omega (arith, below.past i a less first, later, one-began calls end b c (ap (slice_get calls) (sym last) ∙ second) here)
          | inr same ↦ omega (arith, one-began calls i a b first (ap (slice_get calls) (same ∙ sym last) ∙ second))
        ]
      ];
      lasting = λ i at a h first ended. elim (eq_or_less i end h) [
        | inl less ↦ below.lasting i at a less first ended
        | inr same ↦ one-lasts i at a same first ended
      ];
      past = λ i a h first. elim (eq_or_less i end h) [
        | inl less ↦ omega (arith, below.past i a less first, later)
        | inr same ↦ omega (arith, one-began calls end a c (ap (slice_get calls) (sym same) ∙ first) here)
      ];
    }
  where
    ended_of : Option Recorded → Option ℕ
    ended_of None = None
    ended_of (Some x) = x.ended

    one-lasts : (i at : ℕ) (a : Recorded) → i ≡ end → slice_get calls i ≡ Some a → a.ended ≡ Some at → a.began ≤ at
    one-lasts i at a same first ended =
        let mine : slice_get calls end ≡ Some a = ap (slice_get calls) (sym same) ∙ first in
        let end-is : c.ended ≡ Some at = ap ended_of (sym here ∙ mine) ∙ ended in
        omega (arith, one-began calls end a c mine here, lasts at end-is)

pub all-ordered : (calls : List Recorded) (end latest : ℕ) → AreOrderedBelow calls end latest → length calls ≤ end → AreOrdered calls
all-ordered calls end latest below h =
    record {
      sorted = λ i j a b up first second. below.sorted i j a b up (omega (arith, h, inside j b second)) first second;
      lasting = λ i at a first ended. below.lasting i at a (omega (arith, h, inside i a first)) first ended;
    }
  where
    none-some : (a : Recorded) → None ≡ Some a → ⊥
    none-some a e = subst IsNone e tt
      where
        IsNone : Option Recorded → Type 0
        IsNone None = Unit {0}
        IsNone (Some x) = ⊥

    inside : (i : ℕ) (a : Recorded) → slice_get calls i ≡ Some a → i < length calls
    inside i a is =
        elim (slice_get_cases calls i).1 [
          | inl there ↦ there.1
          | inr past ↦ absurd (none-some a (sym past.1 ∙ is))
        ]

-- 2. No call has to come before one that stands before it.

precedes-not : (rules : Rules) (calls : List Recorded) (i j : ℕ) (a b : Recorded) → AreOrdered calls → j ≤ i → slice_get calls i ≡ Some a
    → slice_get calls j ≡ Some b → CallPrecedes rules a b → ⊥
precedes-not rules calls i j a b ordered h first second (inl real) =
    omega (arith, ordered.sorted j i b a h second first, ordered.lasting i real.1.at a first real.1.ended, real.1.before)
precedes-not rules calls i j a b ordered h first second (inr own) = omega (arith, ordered.sorted j i b a h second first, own.before)

pub ordered-end : (rules : Rules) (calls : List Recorded) (j : ℕ) (x : Option ℕ) → AreOrdered calls → x ≡ Some j → (i : ℕ) → j ≤ i
    → NumbersPrecede rules calls (Some i) x → ⊥
ordered-end rules calls j x ordered is i h before =
    both (slice_get calls i) (slice_get calls j) refl refl (subst (λ (o : Option ℕ). CallsPrecede rules (slice_get calls i) (call_at calls o)) is before)
  where
    both : (a b : Option Recorded) → slice_get calls i ≡ a → slice_get calls j ≡ b → CallsPrecede rules a b → ⊥
    both None b first second p = p
    both (Some a) None first second p = p
    both (Some a) (Some b) first second p = precedes-not rules calls i j a b ordered h first second p

pub past-end : (rules : Rules) (calls : List Recorded) (x : Option ℕ) (i : ℕ) → length calls ≤ i → NumbersPrecede rules calls (Some i) x → ⊥
past-end rules calls x i h before = subst (λ (o : Option Recorded). CallsPrecede rules o (call_at calls x)) (slice_get_past calls i h) before

-- 3. Calls that are barred.

abbrev pub IsUrgent : List Recorded → NodeValue → ℕ → Option ℕ → Type 0
IsUrgent calls n end None = Unit {0}
IsUrgent calls n end (Some first) = (first < end) × IsLeft calls n first

pub urgent-more : (calls : List Recorded) (n : NodeValue) (end : ℕ) (x : Option ℕ) → IsUrgent calls n end x → IsUrgent calls n (end + 1) x
urgent-more calls n end None is = tt
urgent-more calls n end (Some first) is = (omega (arith, is.0), is.1)

ends-later : (calls : List Recorded) (i j : ℕ) (o : Option Recorded) → AreOrdered calls → i ≤ j → j < length calls → DoEndBefore o (slice_get calls i)
    → DoEndBefore o (slice_get calls j)
ends-later calls i j None ordered up h before = before
ends-later calls i j (Some a) ordered up h before = both (slice_get calls i) (slice_get calls j) refl refl before
  where
    both : (b c : Option Recorded) → slice_get calls i ≡ b → slice_get calls j ≡ c → DoEndBefore (Some a) b → DoEndBefore (Some a) c
    both None c first second p = absurd p
    both (Some b) None first second p = absurd (elim (slice_get_cases calls j).1 [ inl there ↦ some-none there.0 (sym there.2 ∙ second) | inr past ↦ omega (arith, past.0, h) ])
      where
        some-none : (x : Recorded) → Some x ≡ None → ⊥
        some-none x e = subst IsSome e tt
          where
            IsSome : Option Recorded → Type 0
            IsSome None = ⊥
            IsSome (Some y) = Unit {0}
    both (Some b) (Some c) first second p = record { at = p.at; ended = p.ended; before = omega (arith, p.before, ordered.sorted i j b c up first second) }

pub barred-from : (rules : Rules) (calls : List Recorded) (n : NodeValue) (end : ℕ) (x : Option ℕ) → rules.is_real ≡ true → AreOrdered calls
    → IsUrgent calls n end x → DoEndBefore (call_at calls x) (slice_get calls end) → AreBarred rules calls n end
barred-from rules calls n end None real ordered is before j h less = absurd before
barred-from rules calls n end (Some first) real ordered is before j h less =
    record {
      first = first;
      left = is.1;
      other = λ same. omega (arith, same, is.0, h);
      before = precede (slice_get calls first) (slice_get calls j) (ends-later calls end j (slice_get calls first) ordered h less before);
    }
  where
    precede : (a b : Option Recorded) → DoEndBefore a b → CallsPrecede rules a b
    precede None b p = p
    precede (Some a) None p = p
    precede (Some a) (Some b) p = inl (real, p)

pub none-barred : (rules : Rules) (calls : List Recorded) (n : NodeValue) → AreBarred rules calls n (length calls)
none-barred rules calls n j h less = absurd (omega (arith, h, less))

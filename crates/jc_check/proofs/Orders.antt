-- Orders that are played, turn by turn, over nodes.
use Rattle.std.proofs.Common.{◌≡◌, ℕ, zero, suc, ◌+◌, ◌<◌, ◌≤◌, ◌↔◌, List, [], ◌∷◌, length, get_or, drop, drop-cons, sym, subst, ap, refl, ◌∙◌, arith}
use Rattle.jc_check.specs.declared.record.Recorded.{Recorded}
use Rattle.jc_check.specs.declared.record.Rules.{Rules}
use Rattle.jc_check.specs.declared.record.Spot.{Spot}
use Rattle.jc_check.specs.declared.record.Turn.{Turn}
use Rattle.jc_check.specs.Explains.{Explains}
use Rattle.jc_check.specs.Nodes.{IsWhole, MayGo, NodeGoes, NodeValue, opening_node}
use Rattle.jc_check.proofs.Continuing.{Continues, continues-before, ended, ends, first-may, opened, opens, rest-continues}

abbrev pub Explaining : Rules → List Recorded → Spot → List Turn → NodeValue → List Turn → Type 0
Explaining rules calls opening turns n rest = Continues rules calls n rest ↔ Explains rules calls opening turns

at-drop : (turns : List Turn) (k : ℕ) (d : Turn) → k < length turns → drop k turns ≡ get_or turns k d ∷ drop (k + 1) turns
at-drop turns k d h =
    let one : suc k ≡ k + 1 = omega arith in
    drop-cons turns k d h ∙ ap (λ (m : ℕ). get_or turns k d ∷ drop m turns) one

pub drop-end : (k : ℕ) (turns : List Turn) → length turns ≤ k → drop k turns ≡ []
drop-end zero [] h = refl
drop-end (suc k) [] h = refl
drop-end zero (t ∷ ts) h = absurd (omega (arith, h))
drop-end (suc k) (t ∷ ts) h = drop-end k ts (omega (arith, h))

pub explaining-first : (rules : Rules) (calls : List Recorded) (opening : Spot) (turns : List Turn) (n : NodeValue) → n ≡ opening_node opening
    → Explaining rules calls opening turns n turns
explaining-first rules calls opening turns n is = (
  λ h. opened rules calls opening turns (subst (λ (m : NodeValue). Continues rules calls m turns) is h),
  λ h. subst (λ (m : NodeValue). Continues rules calls m turns) (sym is) (opens rules calls opening turns h),
)

pub explaining-next : (rules : Rules) (calls : List Recorded) (opening : Spot) (turns : List Turn) (n next : NodeValue) (k : ℕ) (d : Turn) → k < length turns
    → Explaining rules calls opening turns n (drop k turns) → NodeGoes rules calls n (get_or turns k d) next
    → Explaining rules calls opening turns next (drop (k + 1) turns)
explaining-next rules calls opening turns n next k d h both goes =
    let t = get_or turns k d in
    let ts = drop (k + 1) turns in (
      λ is. both.0 (subst (Continues rules calls n) (sym (at-drop turns k d h)) (continues-before rules calls n next t ts goes is)),
      λ is. rest-continues rules calls n next t ts goes (subst (Continues rules calls n) (at-drop turns k d h) (both.1 is)),
    )

pub explaining-never : (rules : Rules) (calls : List Recorded) (opening : Spot) (turns : List Turn) (n : NodeValue) (k : ℕ) (d : Turn) → k < length turns
    → Explaining rules calls opening turns n (drop k turns) → ((spot : Spot) → MayGo rules calls n (get_or turns k d) spot → ⊥)
    → Explains rules calls opening turns → ⊥
explaining-never rules calls opening turns n k d h both never is =
    let t = get_or turns k d in
    let ts = drop (k + 1) turns in
    let here : Continues rules calls n (t ∷ ts) = subst (Continues rules calls n) (at-drop turns k d h) (both.1 is) in
    never here.plays.0 (first-may rules calls n t ts here)

pub explaining-last : (rules : Rules) (calls : List Recorded) (opening : Spot) (turns rest : List Turn) (n : NodeValue) → rest ≡ []
    → Explaining rules calls opening turns n rest → IsWhole calls n ↔ Explains rules calls opening turns
explaining-last rules calls opening turns rest n none both = (
  λ whole. both.0 (subst (Continues rules calls n) (sym none) (ends rules calls n whole)),
  λ is. ended rules calls n (subst (Continues rules calls n) none (both.1 is)),
)

-- Turns that lead to a node that a known one covers.
use Rattle.std.proofs.Common.{◌≡◌, ℕ, zero, suc, ◌+◌, ◌<◌, ◌≤◌, ◌⊎◌, inl, inr, List, [], ◌∷◌, ◌++◌, length, get_or, take, true, Option, Some, None, sym, subst, ap, refl, ◌∙◌, arith}
use Rattle.std.proofs.lemmas.Option.{slice_get_past, slice_get-get_or}
use Rattle.std.specs.List.{All}
use Rattle.jc_check.specs.declared.record.Act.{Act}
use Rattle.jc_check.specs.declared.record.Act.TheVariants.{Step, Share, Land, Foreign, LeaveEntry, LeaveStore, LeaveBoth, LeaveLoad}
use Rattle.jc_check.specs.declared.record.Recorded.{Recorded}
use Rattle.jc_check.specs.declared.record.Rules.{Rules}
use Rattle.jc_check.specs.declared.record.Spot.{Spot}
use Rattle.jc_check.specs.declared.record.Turn.{Turn}
use Rattle.jc_check.specs.declared.record.Turn.TheVariants.{Vanish, Call}
use Rattle.jc_check.specs.declared.states.States.{States}
use Rattle.jc_check.specs.Explains.{ActGoes, Goes, placed_call}
use Rattle.jc_check.specs.Exploring.{AreDone, Covers, CoversActs, CoversAll, CoversLandings}
use Rattle.jc_check.specs.Nodes.{HasLanded, IsClosedAt, IsNot, IsSettled, IsWhole, LeadsInside, MayGo, NodeValue, landable_at, node_value}
use Rattle.jc_check.specs.Orders.{AreBarred, IsBarred}
use Rattle.jc_check.specs.States.{Grows, IsAt, node_values}
use Rattle.std.proofs.lemmas.List.{length-map}
use Rattle.jc_check.proofs.Known.{at-grows, at-shrinks, covered-grows, grows-more}
use Rattle.jc_check.proofs.Landings.{goes-right, has-push}
use Rattle.jc_check.proofs.Lists.{eq_or_less}
use Rattle.jc_check.proofs.Numbers.{lt_or_le}

pub inside-grows : (rules : Rules) (calls : List Recorded) (old new : States) (n : NodeValue) (t : Turn) → Grows old new
    → LeadsInside rules calls (node_values old.list.items) n t → LeadsInside rules calls (node_values new.list.items) n t
inside-grows rules calls old new n t grows is = record { next = is.next; goes = is.goes; inside = covered-grows calls old new is.next grows is.inside }

pub covers-grows : (rules : Rules) (calls : List Recorded) (old new : States) (n : NodeValue) (t : Turn) → Grows old new
    → Covers rules calls old n t → Covers rules calls new n t
covers-grows rules calls old new n t grows covers spot may = inside-grows rules calls old new n t grows (covers spot may)

pub closed-grows : (rules : Rules) (calls : List Recorded) (old new : States) (n : NodeValue) → Grows old new
    → IsClosedAt rules calls (node_values old.list.items) n → IsClosedAt rules calls (node_values new.list.items) n
closed-grows rules calls old new n grows is =
    record { goes = λ t spot may. inside-grows rules calls old new n t grows (is.goes t spot may); undone = is.undone }

pub done-grows : (rules : Rules) (calls : List Recorded) (old new : States) (end : ℕ) → Grows old new → end ≤ length old.list.items
    → AreDone rules calls old end → AreDone rules calls new end
done-grows rules calls old new end grows h done place n less at =
    closed-grows rules calls old new n grows (done place n less (at-shrinks old new place n grows (omega (arith, less, h)) at))

pub acts-each : (P : Act → Type 0) → P Step → P Share → P Foreign → P LeaveEntry → P LeaveStore → P LeaveBoth → P LeaveLoad
    → (act : Act) → (act ≡ Land → ⊥) → P act
acts-each P a b c d e f g Step not = a
acts-each P a b c d e f g Share not = b
acts-each P a b c d e f g Land not = absurd (not refl)
acts-each P a b c d e f g Foreign not = c
acts-each P a b c d e f g LeaveEntry not = d
acts-each P a b c d e f g LeaveStore not = e
acts-each P a b c d e f g LeaveBoth not = f
acts-each P a b c d e f g LeaveLoad not = g

-- 1. Turns that can't be made.

places-acts : (act : Act) (call : ℕ) → (act ≡ Land → ⊥) → placed_call (Call call act) ≡ Some call
places-acts Step call not = refl
places-acts Share call not = refl
places-acts Land call not = absurd (not refl)
places-acts Foreign call not = refl
places-acts LeaveEntry call not = refl
places-acts LeaveStore call not = refl
places-acts LeaveBoth call not = refl
places-acts LeaveLoad call not = refl

settled-not : (rules : Rules) (calls : List Recorded) (n : NodeValue) (call : ℕ) (act : Act) (spot : Spot) → call < n.from → (act ≡ Land → ⊥)
    → MayGo rules calls n (Call call act) spot → ⊥
settled-not rules calls n call act spot low not may =
    subst (IsNot (IsSettled n)) (places-acts act call not) may.fresh.0 (inl low)

barred-not : (rules : Rules) (calls : List Recorded) (n : NodeValue) (call : ℕ) (act : Act) (spot : Spot) → IsBarred rules calls n call
    → (act ≡ Land → ⊥) → MayGo rules calls n (Call call act) spot → ⊥
barred-not rules calls n call act spot is not may =
    elim (may.keeps is.first is.left.must is.before) [
      | inl was ↦ is.left.left was
      | inr now ↦ is.other (some-one is.first call (sym now ∙ places-acts act call not))
    ]
  where
    some-one : (i j : ℕ) → Some i ≡ Some j → i ≡ j
    some-one i j e = ap (λ (o : Option ℕ). number o) e
      where
        number : Option ℕ → ℕ
        number None = 0
        number (Some k) = k

none-acts : (rules : Rules) (calls : List Recorded) (s : Spot) (i : ℕ) (act : Act) (next : Spot) → length calls ≤ i → Goes rules calls s (Call i act) next → ⊥
none-acts rules calls s i act next h goes = subst (λ (o : Option Recorded). ActGoes rules o s act next) (slice_get_past calls i h) goes

abbrev IsLand : Act → Type 0
IsLand Land = Unit {0}
IsLand Step = ⊥
IsLand Share = ⊥
IsLand Foreign = ⊥
IsLand LeaveEntry = ⊥
IsLand LeaveStore = ⊥
IsLand LeaveBoth = ⊥
IsLand LeaveLoad = ⊥

land-or-not : (act : Act) → (act ≡ Land) ⊎ (act ≡ Land → ⊥)
land-or-not Land = inl refl
land-or-not Step = inr (λ e. subst IsLand (sym e) tt)
land-or-not Share = inr (λ e. subst IsLand (sym e) tt)
land-or-not Foreign = inr (λ e. subst IsLand (sym e) tt)
land-or-not LeaveEntry = inr (λ e. subst IsLand (sym e) tt)
land-or-not LeaveStore = inr (λ e. subst IsLand (sym e) tt)
land-or-not LeaveBoth = inr (λ e. subst IsLand (sym e) tt)
land-or-not LeaveLoad = inr (λ e. subst IsLand (sym e) tt)

-- 2. All turns.

pub covers-all : (rules : Rules) (calls : List Recorded) (states : States) (n : NodeValue) (end : ℕ) (landable : List ℕ)
    → Covers rules calls states n Vanish
    → ((call : ℕ) → n.from ≤ call → call < end → CoversActs rules calls states n call) → AreBarred rules calls n end
    → CoversLandings rules calls states landable n → ((call : ℕ) → landable_at calls call ≡ true → HasLanded landable call)
    → CoversAll rules calls states n
covers-all rules calls states n end landable vanish acts barred landings each Vanish spot may = vanish spot may
covers-all rules calls states n end landable vanish acts barred landings each (Call call act) spot may =
    elim (land-or-not act) [
      | inl land ↦ landing land
      | inr not ↦ elim (lt_or_le call n.from) [
        | inl low ↦ absurd (settled-not rules calls n call act spot low not may)
        | inr up ↦ elim (lt_or_le call end) [
          | inl inside ↦ acts call up inside act not spot may
          | inr beyond ↦ elim (lt_or_le call (length calls)) [
            | inl there ↦ absurd (barred-not rules calls n call act spot (barred call beyond there) not may)
            | inr past ↦ absurd (none-acts rules calls n.spot call act spot past may.goes)
          ]
        ]
      ]
    ]
  where
    landing : act ≡ Land → LeadsInside rules calls (node_values states.list.items) n (Call call act)
    landing land =
        let right = goes-right rules calls n.spot spot (Call call act) may.goes in
        subst (λ (a : Act). LeadsInside rules calls (node_values states.list.items) n (Call call a)) (sym land)
        (landings call (each call (right land)) spot (subst (λ (a : Act). MayGo rules calls n (Call call a) spot) land may))

-- 3. Turns that are made one after the other.

pub seven-acts : (rules : Rules) (calls : List Recorded) (place call : ℕ) (s a b c d e f g : States) → Grows s a → Grows a b → Grows b c → Grows c d
    → Grows d e → Grows e f → Grows f g
    → ((n : NodeValue) → IsAt s place n → Covers rules calls a n (Call call Step))
    → ((n : NodeValue) → IsAt a place n → Covers rules calls b n (Call call Share))
    → ((n : NodeValue) → IsAt b place n → Covers rules calls c n (Call call Foreign))
    → ((n : NodeValue) → IsAt c place n → Covers rules calls d n (Call call LeaveEntry))
    → ((n : NodeValue) → IsAt d place n → Covers rules calls e n (Call call LeaveStore))
    → ((n : NodeValue) → IsAt e place n → Covers rules calls f n (Call call LeaveBoth))
    → ((n : NodeValue) → IsAt f place n → Covers rules calls g n (Call call LeaveLoad))
    → Grows s g × ((n : NodeValue) → IsAt s place n → CoversActs rules calls g n call)
seven-acts rules calls place call s a b c d e f g ga gb gc gd ge gf gg ca cb cc cd ce cf cg =
    let fg = gg in
    let eg = grows-more e f g gf fg in
    let dg = grows-more d e g ge eg in
    let to-c = grows-more c d g gd dg in
    let bg = grows-more b c g gc to-c in
    let ag = grows-more a b g gb bg in (
      grows-more s a g ga ag,
      λ n at.
          let ia = at-grows s a place n ga at in
          let ib = at-grows a b place n gb ia in
          let ic = at-grows b c place n gc ib in
          let id = at-grows c d place n gd ic in
          let ie = at-grows d e place n ge id in
          let in-f = at-grows e f place n gf ie in
          acts-each (λ (act : Act). Covers rules calls g n (Call call act))
          (covers-grows rules calls a g n (Call call Step) ag (ca n at))
          (covers-grows rules calls b g n (Call call Share) bg (cb n ia))
          (covers-grows rules calls c g n (Call call Foreign) to-c (cc n ib))
          (covers-grows rules calls d g n (Call call LeaveEntry) dg (cd n ic))
          (covers-grows rules calls e g n (Call call LeaveStore) eg (ce n id))
          (covers-grows rules calls f g n (Call call LeaveBoth) fg (cf n ie))
          (cg n in-f),
    )

pub more-calls : (rules : Rules) (calls : List Recorded) (place from call : ℕ) (s a b : States) → Grows s a → Grows a b
    → ((n : NodeValue) → IsAt s place n → (k : ℕ) → from ≤ k → k < call → CoversActs rules calls a n k)
    → ((n : NodeValue) → IsAt a place n → CoversActs rules calls b n call)
    → (n : NodeValue) → IsAt s place n → (k : ℕ) → from ≤ k → k < call + 1 → CoversActs rules calls b n k
more-calls rules calls place from call s a b sa ab was now n at k up h =
    elim (eq_or_less k call h) [
      | inl less ↦ λ act not. covers-grows rules calls a b n (Call k act) ab (was n at k up less act not)
      | inr same ↦ subst (CoversActs rules calls b n) (sym same) (now n (at-grows s a place n sa at))
    ]

pub more-landings : (rules : Rules) (calls : List Recorded) (place : ℕ) (some : List ℕ) (call : ℕ) (s a b : States) → Grows s a → Grows a b
    → ((n : NodeValue) → IsAt s place n → CoversLandings rules calls a some n)
    → ((n : NodeValue) → IsAt a place n → Covers rules calls b n (Call call Land))
    → (n : NodeValue) → IsAt s place n → CoversLandings rules calls b (some ++ call ∷ []) n
more-landings rules calls place some call s a b sa ab was now n at k has =
    elim (has-push some call k has) [
      | inl old ↦ covers-grows rules calls a b n (Call k Land) ab (was n at k old)
      | inr same ↦ subst (λ (j : ℕ). Covers rules calls b n (Call j Land)) same (now n (at-grows s a place n sa at))
    ]

pub closed-now : (rules : Rules) (calls : List Recorded) (s : States) (n : NodeValue) → CoversAll rules calls s n → (IsWhole calls n → ⊥)
    → IsClosedAt rules calls (node_values s.list.items) n
closed-now rules calls s n covers undone = record { goes = λ t spot may. covers t spot may; undone = undone }

pub done-more : (rules : Rules) (calls : List Recorded) (old new : States) (place : ℕ) → Grows old new → place < length old.list.items
    → AreDone rules calls old place → ((n : NodeValue) → IsAt old place n → CoversAll rules calls new n)
    → ((n : NodeValue) → IsAt old place n → IsWhole calls n → ⊥) → AreDone rules calls new (place + 1)
done-more rules calls old new place grows h done covers undone k n less at =
    elim (eq_or_less k place less) [
      | inl before ↦ done-grows rules calls old new place grows (omega (arith, h)) done k n before at
      | inr same ↦ closed-now rules calls new n (covers n (here same)) (undone n (here same))
    ]
  where
    here : k ≡ place → IsAt old place n
    here same =
        subst (λ (j : ℕ). IsAt old j n) same (at-shrinks old new k n grows (omega (arith, same, h)) at)

pub all-done : (rules : Rules) (calls : List Recorded) (s : States) (end : ℕ) → AreDone rules calls s end → length s.list.items ≤ end
    → All (IsClosedAt rules calls (node_values s.list.items)) (node_values s.list.items)
all-done rules calls s end done h k d less =
    done k (get_or (node_values s.list.items) k d) (omega (arith, h, less, length-map s.list.items node_value))
    (slice_get-get_or (node_values s.list.items) k d less)

pub taken-all : {X : Type 0} (k : ℕ) (xs : List X) → length xs ≤ k → take k xs ≡ xs
taken-all {X = X} zero [] h = refl
taken-all {X = X} (suc k) [] h = refl
taken-all {X = X} zero (x ∷ xs) h = absurd (omega (arith, h))
taken-all {X = X} (suc k) (x ∷ xs) h = ap (λ (ys : List X). x ∷ ys) (taken-all k xs (omega (arith, h)))

-- The search is breadth first: the schedule of a known state, and that of an outcome, is a shortest one.
use Rattle.jc_explore.proofs.Common.{◌≡◌, ℕ, ◌+◌, ◌<◌, ◌≤◌, ◌⊎◌, List, [], ◌∷◌, ◌++◌, length, Some, slice_get, get_or, sym, ap, ◌∙◌, subst, inl, inr, arith, length-append, All, Any, get_or_append_left, get_or_push, slice_get-get_or, slice_get_within, KnownState, Move, Program, Finding, AreShortest, IsFound, IsShortest, IsWholeSchedule, FinalValue, final_of, SceneState, Moves, PlaysSchedule, opening, Adds, AreNew, AreNext, AreOrdered, AreSorted, Continues, HaveNearest, HaveSchedule, IsClosedSchedule, IsClosedUpTo, IsKnown, IsScheduleOf, LeadsLike, MeetsStates, stands_on}
use Rattle.jc_explore.proofs.AllMoves.{eq_or_less, lt_or_le}
use Rattle.jc_explore.proofs.Searching.{any-grown, same-at, slice-back, there-at}

-- 1. What was added to a list.

all-at : {X : Type 0} (P : X → Type 0) (xs : List X) (k : ℕ) (x : X) → slice_get xs k ≡ Some x → All P xs → P x
all-at P xs k x at all =
    let inside = slice_get_within xs k x at in
    subst P (same-at xs k x x inside at) (all k x inside)

pub adds-none : {X : Type 0} (P : X → Type 0) (xs : List X) → Adds P xs xs
adds-none P xs k x low at = absurd (let inside = slice_get_within xs k x at in omega (arith, inside, low))

pub adds-twice : {X : Type 0} (P : X → Type 0) (xs ys zs : List X) → Continues ys zs → Adds P xs ys → Adds P ys zs → Adds P xs zs
adds-twice P xs ys zs grown one two k x low at =
    elim (lt_or_le k (length ys)) [
      | inl less ↦ one k x low (slice-back ys zs k x grown less at)
      | inr more ↦ two k x more at
    ]

pub adds-one : {X : Type 0} (P : X → Type 0) (xs : List X) (one : X) → P one → Adds P xs (xs ++ one ∷ [])
adds-one P xs one h k x low at =
    let inside = slice_get_within (xs ++ one ∷ []) k x at in
    let last : length xs ≡ k = omega (arith, low, inside, length-append xs (one ∷ [])) in
    subst P (sym (get_or_push xs one x k last) ∙ same-at (xs ++ one ∷ []) k x x inside at) h

-- 2. Known states in the order of their schedules' lengths.

abbrev len : KnownState → ℕ
len k = length k.schedule.items

-- the known states that were added have schedules of this length
abbrev AreAsLong : ℕ → List KnownState → List KnownState → Type 0
AreAsLong moves old new = Adds (λ k. len k ≡ moves) old new

as-long : (schedule : List Move) (old new : List KnownState) → AreNext schedule old new → AreAsLong (length schedule + 1) old new
as-long schedule old new next k m low at =
    let is = next k m low at in
    ap (λ (ms : List Move). length ms) is.1 ∙ length-append schedule (is.0 ∷ [])

-- no known schedule is longer than that at a place by more than one move
abbrev IsBounded : List KnownState → ℕ → Type 0
IsBounded known place = (m k : KnownState) (i : ℕ) → slice_get known place ≡ Some m → slice_get known i ≡ Some k → len k ≤ len m + 1

-- a known schedule of at most this number of moves leads to a like scene
abbrev IsNear : Program → List KnownState → ℕ → SceneState → Type 0
IsNear p known n s = Any (λ k. LeadsLike p k.schedule.items s × (len k ≤ n)) known

abbrev GoesNear : Program → List KnownState → KnownState → Type 0
GoesNear p known k =
    (s : SceneState) → LeadsLike p k.schedule.items s → (m : Move) (new : SceneState) → Moves p s m new → IsNear p known (len k + 1) new

abbrev GoNearUpTo : Program → List KnownState → ℕ → Type 0
GoNearUpTo p known place = (i : ℕ) (k : KnownState) → i < place → slice_get known i ≡ Some k → GoesNear p known k

pub record IsBreadthFirst (p : Program) (known : List KnownState) (found : List Finding) (place : ℕ) : Type 0 where
  pub sorted : AreSorted known
  pub bounded : IsBounded known place
  pub begins : IsNear p known 0 (opening p)
  pub goes : GoNearUpTo p known place
  pub shortest : AreShortest p found
  pub ordered : AreOrdered found

near-grown : (p : Program) (old new : List KnownState) (n : ℕ) (s : SceneState) → Continues old new → IsNear p old n s → IsNear p new n s
near-grown p old new n s grown h = any-grown (λ (k : KnownState). LeadsLike p k.schedule.items s × (len k ≤ n)) old new grown h

near-more : (p : Program) (known : List KnownState) (n most : ℕ) (s : SceneState) → n ≤ most → IsNear p known n s → IsNear p known most s
near-more p known n most s up h =
    let short : len h.1 ≤ n = h.4.1 in
    (h.0, h.1, h.2, h.3, (h.4.0, omega (arith, up, short)))

-- where an element of a list is
pub elem-at : {X : Type 0} (xs : List X) (i : ℕ) (x : X) → i < length xs → get_or xs i x ≡ x → slice_get xs i ≡ Some x
elem-at {X = X} xs i x inside is = slice_get-get_or xs i x inside ∙ ap (λ (y : X). Some y) is

near-known : (p : Program) (known : List KnownState) (n : ℕ) (s : SceneState) → ((i : ℕ) (k : KnownState) → slice_get known i ≡ Some k → len k ≤ n) → IsKnown p known s → IsNear p known n s
near-known p known n s short h = (h.0, h.1, h.2, h.3, (h.4, short h.0 h.1 (elem-at known h.0 h.1 h.2 h.3)))

-- 3. The search begins.

pub first-breadth : (p : Program) (known : List KnownState) (found : List Finding) → HaveSchedule [] [] known → IsKnown p known (opening p) → found ≡ [] → IsBreadthFirst p known found 0
first-breadth p known found none_yet here none =
    let long : AreAsLong 0 [] known = λ k m low at. ap (λ (ms : List Move). length ms) (none_yet k m low at) in
    record {
      sorted = λ i j a b up first second. let short = long i a (omega arith) first in omega (arith, short);
      bounded = λ m k i first second. let short = long i k (omega arith) second in omega (arith, short);
      begins = near-known p known 0 (opening p) (λ i k at. let short = long i k (omega arith) at in omega (arith, short)) here;
      goes = λ i k h at. absurd (omega (arith, h));
      shortest = subst (AreShortest p) (sym none) (λ k d h. absurd (omega (arith, h)));
      ordered = subst AreOrdered (sym none) (λ i j d below inside. absurd (omega (arith, inside)));
    }

-- 4. One state more was followed.

-- none is longer then than one move more
short-now : (was now : List KnownState) (place : ℕ) (d : KnownState) → Continues was now → AreAsLong (len d + 1) was now → IsBounded was place → slice_get was place ≡ Some d
    → (i : ℕ) (k : KnownState) → slice_get now i ≡ Some k → len k ≤ len d + 1
short-now was now place d grown added bounded here i k at =
    elim (lt_or_le i (length was)) [
      | inl less ↦ bounded d k i here (slice-back was now i k grown less at)
      | inr more ↦ let long = added i k more at in omega (arith, long)
    ]

sorted-now : (was now : List KnownState) (place : ℕ) (d : KnownState) → Continues was now → AreAsLong (len d + 1) was now → IsBounded was place → slice_get was place ≡ Some d
    → AreSorted was → AreSorted now
sorted-now was now place d grown added bounded here sorted i j a b up first second =
    elim (lt_or_le j (length was)) [
      | inl less ↦ sorted i j a b up (slice-back was now i a grown (omega (arith, up, less)) first) (slice-back was now j b grown less second)
      | inr more ↦
          let long = added j b more second in
          let short = short-now was now place d grown added bounded here i a first in
          omega (arith, long, short)
    ]

goes-now : (p : Program) (was now : List KnownState) (found : List Finding) (place : ℕ) (d : KnownState) → Continues was now → AreAsLong (len d + 1) was now → IsBounded was place → slice_get was place ≡ Some d
    → GoNearUpTo p was place → IsClosedSchedule p now found d.schedule.items → GoNearUpTo p now (place + 1)
goes-now p was now found place d grown added bounded here goes closed i k h at =
    let inside : place < length was = slice_get_within was place d here in
    elim (eq_or_less i place h) [
      | inl less ↦ λ s leads m new moves.
          near-grown p was now (len k + 1) new grown (goes i k less (slice-back was now i k grown (omega (arith, less, inside)) at) s leads m new moves)
      | inr same ↦
          let back : slice_get was place ≡ Some k = slice-back was now place k grown inside (subst (λ (x : ℕ). slice_get now x ≡ Some k) same at) in
          let is : d ≡ k = sym (same-at was place d d inside here) ∙ same-at was place d k inside back in
          subst (GoesNear p now) is
          (λ s leads m new moves. near-known p now (len d + 1) new (short-now was now place d grown added bounded here) (closed.goes s leads m new moves))
    ]

-- 5. What is found then has a shortest schedule.

-- a known state that is yet to be followed, with fewer moves than this
abbrev IsLeft : List KnownState → ℕ → ℕ → Type 0
IsLeft known place n = (j : ℕ) × (k : KnownState) × (place ≤ j) × (slice_get known j ≡ Some k) × (len k < n)

near-or-left : (p : Program) (known : List KnownState) (place n most : ℕ) (a s : SceneState) (ms : List Move) → GoNearUpTo p known place → n + length ms ≤ most → IsNear p known n a → PlaysSchedule p a ms s
    → IsNear p known most s ⊎ IsLeft known place most
near-or-left p known place n most a s [] goes up here plays = inl (near-more p known n most s (omega (arith, up)) (subst (IsNear p known n) (sym plays) here))
near-or-left p known place n most a s (m ∷ ms) goes up here plays =
    let k : KnownState = here.1 in
    let at : slice_get known here.0 ≡ Some k = elem-at known here.0 k here.2 here.3 in
    let short : len k ≤ n = here.4.1 in
    elim (lt_or_le here.0 place) [
      | inl less ↦ near-or-left p known place (n + 1) most plays.0 s ms goes (omega (arith, up)) (near-more p known (len k + 1) (n + 1) plays.0 (omega (arith, short)) (goes here.0 k less at a here.4.0 m plays.0 plays.1)) plays.2
      | inr more ↦ inr (here.0, k, more, at, omega (arith, short, up))
    ]

-- a known state with fewer moves than the next one was followed
before-next : (known : List KnownState) (place i : ℕ) (d k : KnownState) → AreSorted known → slice_get known place ≡ Some d → slice_get known i ≡ Some k → len k < len d → i < place
before-next known place i d k sorted here at fewer =
    elim (lt_or_le i place) [
      | inl less ↦ less
      | inr more ↦ absurd (let up = sorted place i d k more here at in omega (arith, up, fewer))
    ]

shorter-found : (p : Program) (known : List KnownState) (found : List Finding) (place : ℕ) (d : KnownState) (f : FinalValue) (ms : List Move) → IsBreadthFirst p known found place → IsClosedUpTo p known found place
    → slice_get known place ≡ Some d → IsWholeSchedule p ms f → length ms < len d → IsFound f found
shorter-found p known found place d f ms breadth closed here whole fewer =
    elim (near-or-left p known place 0 (length ms) (opening p) whole.last ms breadth.goes (omega arith) breadth.begins whole.plays) [
      | inl near ↦
          let k : KnownState = near.1 in
          let at : slice_get known near.0 ≡ Some k = elem-at known near.0 k near.2 near.3 in
          let short : len k ≤ length ms = near.4.1 in
          let before = before-next known place near.0 d k breadth.sorted here at (omega (arith, short, fewer)) in
          (closed near.0 k before at).ends whole.last f near.4.0 whole.ends whole.final
      | inr left ↦
          absurd (let up = breadth.sorted place left.0 d left.1 left.2 here left.3 in let short : len left.1 < length ms = left.4 in omega (arith, up, short, fewer))
    ]

shortest-new : (p : Program) (known : List KnownState) (found : List Finding) (place : ℕ) (d : KnownState) (x : Finding) → IsBreadthFirst p known found place → IsClosedUpTo p known found place
    → slice_get known place ≡ Some d → x.witness.items ≡ d.schedule.items → (IsFound (final_of x.state) found → ⊥) → IsShortest p x
shortest-new p known found place d x breadth closed here is new ms whole =
    let same : length x.witness.items ≡ len d = ap (λ (xs : List Move). length xs) is in
    elim (lt_or_le (length ms) (len d)) [
      | inl fewer ↦ absurd (new (shorter-found p known found place d (final_of x.state) ms breadth closed here whole fewer))
      | inr more ↦ omega (arith, same, more)
    ]

shortest-now : (p : Program) (known : List KnownState) (found more : List Finding) (place : ℕ) (d : KnownState) → IsBreadthFirst p known found place → IsClosedUpTo p known found place
    → slice_get known place ≡ Some d → Continues found more → AreNew d.schedule.items found more → AreShortest p more
shortest-now p known found more place d breadth closed here grown fresh k e h =
    let x : Finding = get_or more k e in
    let at : slice_get more k ≡ Some x = there-at more k e h in
    elim (lt_or_le k (length found)) [
      | inl less ↦ all-at (IsShortest p) found k x (slice-back found more k x grown less at) breadth.shortest
      | inr up ↦ let one = fresh k x up at in shortest-new p known found place d x breadth closed here one.0 one.1
    ]

-- 6. What is known has a schedule that is no longer than any other.

pub nearest-known : (p : Program) (known : List KnownState) (found : List Finding) (place : ℕ) → IsBreadthFirst p known found place → HaveNearest p known
nearest-known p known found place breadth schedule s plays here =
    elim (near-or-left p known place 0 (length schedule) (opening p) s schedule breadth.goes (omega arith) breadth.begins plays) [
      | inl near ↦ near
      | inr left ↦
          let next : KnownState = get_or known place left.1 in
          let inside : left.0 < length known = slice_get_within known left.0 left.1 left.3 in
          let behind : place ≤ left.0 = left.2 in
          let first : slice_get known place ≡ Some next = there-at known place left.1 (omega (arith, behind, inside)) in
          let up : len next ≤ len left.1 = breadth.sorted place left.0 next left.1 behind first left.3 in
          let fewer : len left.1 < length schedule = left.4 in
          near-known p known (length schedule) s (λ i k at. let short = breadth.bounded next k i first at in omega (arith, short, up, fewer)) here
    ]

-- 7. The final states come in the order of their schedules.

-- none that was found has more moves than the state that was followed last
no-longer : (known : List KnownState) (found more : List Finding) (place : ℕ) (d : KnownState) (k : ℕ) (x : Finding) → AreSorted known → slice_get known place ≡ Some d
    → ((i : ℕ) (y : Finding) → slice_get found i ≡ Some y → IsScheduleOf known place y.witness.items) → Continues found more → AreNew d.schedule.items found more
    → slice_get more k ≡ Some x → length x.witness.items ≤ len d
no-longer known found more place d k x sorted here ended grown fresh at =
    elim (lt_or_le k (length found)) [
      | inl less ↦
          let of = ended k x (slice-back found more k x grown less at) in
          let before : of.0 < place = of.2 in
          let up : len of.1 ≤ len d = sorted of.0 place of.1 d (omega (arith, before)) of.3 here in
          let same = ap (λ (ms : List Move). length ms) of.4 in
          omega (arith, up, same)
      | inr new ↦ let same = ap (λ (ms : List Move). length ms) (fresh k x new at).0 in omega (arith, same)
    ]

ordered-now : (known : List KnownState) (found more : List Finding) (place : ℕ) (d : KnownState) → AreSorted known → slice_get known place ≡ Some d
    → ((i : ℕ) (y : Finding) → slice_get found i ≡ Some y → IsScheduleOf known place y.witness.items) → Continues found more → AreNew d.schedule.items found more
    → AreOrdered found → AreOrdered more
ordered-now known found more place d sorted here ended grown fresh ordered i j e below inside =
    elim (lt_or_le j (length found)) [
      | inl less ↦
          let was : (k : ℕ) → k < length found → length (get_or more k e).witness.items ≡ length (get_or found k e).witness.items =
          λ k h. ap (λ (y : Finding). length y.witness.items) (ap (λ (ys : List Finding). get_or ys k e) grown.1 ∙ get_or_append_left found grown.0 e k h) in
          let one = was i (omega (arith, below, less)) in
          let other = was j less in
          let up = ordered i j e below less in
          omega (arith, one, other, up)
      | inr new ↦
          let short = no-longer known found more place d i (get_or more i e) sorted here ended grown fresh (there-at more i e (omega (arith, below, inside))) in
          let same = ap (λ (ms : List Move). length ms) (fresh j (get_or more j e) new (there-at more j e inside)).0 in
          omega (arith, short, same)
    ]

pub more-breadth : (p : Program) (was now : List KnownState) (before found : List Finding) (place : ℕ) (d : KnownState) → IsBreadthFirst p was before place → MeetsStates p was before place
    → slice_get was place ≡ Some d → Continues was now → Continues before found → AreNext d.schedule.items was now → AreNew d.schedule.items before found → IsClosedSchedule p now found d.schedule.items
    → IsBreadthFirst p now found (place + 1)
more-breadth p was now before found place d breadth meets here grown more next fresh at =
    let added : AreAsLong (len d + 1) was now = as-long d.schedule.items was now next in
    let inside : place < length was = slice_get_within was place d here in
    let there : slice_get now place ≡ Some d = subst (λ (ks : List KnownState). slice_get ks place ≡ Some d) (sym grown.1) (stands_on was grown.0 place d here) in
    let sorted : AreSorted now = sorted-now was now place d grown added breadth.bounded here breadth.sorted in
    record {
      sorted = sorted;
      bounded = λ m k i first second.
          let up = sorted place (place + 1) d m (omega arith) there first in
          let short = short-now was now place d grown added breadth.bounded here i k second in
          omega (arith, up, short);
      begins = near-grown p was now 0 (opening p) grown breadth.begins;
      goes = goes-now p was now found place d grown added breadth.bounded here breadth.goes at;
      shortest = shortest-now p was before found place d breadth meets.closed here more fresh;
      ordered = ordered-now was before found place d breadth.sorted here meets.ended more fresh breadth.ordered;
    }

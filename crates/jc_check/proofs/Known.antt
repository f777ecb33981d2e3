-- The nodes that are known, with one more.
use Rattle.std.proofs.Common.{◌≡◌, ℕ, zero, suc, ◌+◌, ◌<◌, ◌≤◌, inl, inr, List, [], ◌∷◌, ◌++◌, length, map, get_or, option_map, reverse, Bool, IfNone, Option, Some, None, slice_get, sym, subst, ap, refl, ◌∙◌, arith, length-append}
use Rattle.std.proofs.lemmas.List.{get_or_default, length-map, map-append, reverse-append}
use Rattle.std.proofs.lemmas.List.Elements.{All-push}
use Rattle.std.proofs.lemmas.List.Quantifiers.{all_pairs_push}
use Rattle.std.proofs.lemmas.Option.{get_or_from_slice_get, slice_get-get_or, slice_get-map, slice_get_within}
use Rattle.std.specs.List.{All, AllPairs}
use Rattle.jc_check.specs.declared.node.Node.{Node}
use Rattle.jc_check.specs.declared.places.Places.{Places}
use Rattle.jc_check.specs.declared.record.Recorded.{Recorded}
use Rattle.jc_check.specs.declared.record.Rules.{Rules}
use Rattle.jc_check.specs.declared.record.Spot.{Spot}
use Rattle.jc_check.specs.declared.record.Turn.{Turn}
use Rattle.jc_check.specs.declared.record.Stored.{Stored}
use Rattle.jc_check.specs.declared.record.Stored.TheVariants.{Unknown}
use Rattle.jc_check.specs.declared.states.States.{States}
use Rattle.jc_check.specs.declared.states.Step.{Step}
use Rattle.jc_model.specs.declared.event.LoadAnswer.{LoadAnswer}
use Rattle.jc_model.specs.declared.event.LoadAnswer.TheVariants as load
use Rattle.jc_model.specs.Cache.{Bytes}
use Rattle.jc_check.specs.Nodes.{IsAmong, IsCovered, NodeGoes, NodeValue, PlaysNodes, node_value}
use Rattle.jc_check.specs.States.{AreKnown, Comes, Grows, HasMorePlaces, HasPlace, HavePlaces, HavePrints, HaveSameParts, HaveSameSpots, IsAt, IsEmpty, IsMet, IsNodeAt, node_values, print_of}
use Rattle.jc_check.proofs.Numbers.{lt_or_le}

pub values-push : (nodes : List Node) (n : Node) → node_values (nodes ++ n ∷ []) ≡ node_values nodes ++ node_value n ∷ []
values-push nodes n = map-append node_value nodes (n ∷ [])

pub same-parts : (a b : NodeValue) → a ≡ b → HaveSameParts a b
same-parts a b e =
    record {
      marks = record { from = ap (λ (n : NodeValue). n.from) e; end = ap (λ (n : NodeValue). n.end) e; rest = ap (λ (n : NodeValue). n.rest) e };
      landed = ap (λ (n : NodeValue). n.landed) e;
      spot = record {
        entry = ap (λ (n : NodeValue). n.spot.entry) e;
        store = ap (λ (n : NodeValue). n.spot.store) e;
        shared = ap (λ (n : NodeValue). n.spot.shared) e;
      };
    }

abbrev node-of : ℕ → ℕ → List Bool → List ℕ → Spot → NodeValue
node-of from end rest landed spot = record { from = from; end = end; rest = rest; landed = landed; spot = spot }

abbrev spot-of : Option Bytes → Stored → LoadAnswer → Spot
spot-of entry store shared = record { entry = entry; store = store; shared = shared }

pub same-spot : (a b : Spot) → HaveSameSpots a b → a ≡ b
same-spot a b parts =
    ap (λ (x : Option Bytes). spot-of x a.store a.shared) parts.entry
    ∙ ap (λ (x : Stored). spot-of b.entry x a.shared) parts.store
    ∙ ap (λ (x : LoadAnswer). spot-of b.entry b.store x) parts.shared

pub spot-same : (a b : Spot) → a ≡ b → HaveSameSpots a b
spot-same a b e = record { entry = ap (λ (s : Spot). s.entry) e; store = ap (λ (s : Spot). s.store) e; shared = ap (λ (s : Spot). s.shared) e }

pub same-node : (a b : NodeValue) → HaveSameParts a b → a ≡ b
same-node a b parts =
    ap (λ (x : ℕ). node-of x a.end a.rest a.landed a.spot) parts.marks.from
    ∙ ap (λ (x : ℕ). node-of b.from x a.rest a.landed a.spot) parts.marks.end
    ∙ ap (λ (x : List Bool). node-of b.from b.end x a.landed a.spot) parts.marks.rest
    ∙ ap (λ (x : List ℕ). node-of b.from b.end b.rest x a.spot) parts.landed
    ∙ ap (λ (x : Spot). node-of b.from b.end b.rest b.landed x) (same-spot a.spot b.spot parts.spot)

-- 1. Where a node is.

pub among-at : (nodes : List NodeValue) (k : ℕ) (d n : NodeValue) → k < length nodes → get_or nodes k d ≡ n → IsAmong nodes n
among-at nodes k d n h is = (k, get_or nodes k d, h, get_or_default nodes k _ d h, is)

pub here-among : (nodes : List Node) (k : ℕ) (n : NodeValue) → IsNodeAt nodes k n → IsAmong (node_values nodes) n
here-among [] k n at = absurd at
here-among (m ∷ nodes) zero n at = (0, node_value m, omega arith, refl, at)
here-among (m ∷ nodes) (suc k) n at =
    let rest = here-among nodes k n at in
    (suc rest.0, rest.1, omega (arith, rest.2), rest.3, rest.4)

pub among-here : (nodes : List Node) (n : NodeValue) → IsAmong (node_values nodes) n → (k : ℕ) × (k < length nodes) × IsNodeAt nodes k n
among-here [] n (k, m, h, at, same) = absurd (omega (arith, h))
among-here (x ∷ nodes) n (zero, m, h, at, same) = (0, omega arith, at ∙ same)
among-here (x ∷ nodes) n (suc k, m, h, at, same) =
    let rest = among-here nodes n (k, m, omega (arith, h), at, same) in
    (suc rest.0, omega (arith, rest.1), rest.2)

-- a node whose fingerprint has no place isn't known
pub none-with : (s : States) (n : NodeValue) (print : ℕ) → HavePrints s → HavePlaces s → print ≡ print_of n → (HasPlace s.places print → ⊥)
    → IsAmong (node_values s.list.items) n → ⊥
none-with s n print prints places is none among =
    let nodes = s.list.items in
    let f : Node → ℕ = λ m. print_of (node_value m) in
    let here = among-here nodes n among in
    let as_many : length s.prints.items ≡ length nodes = ap (λ (ps : List ℕ). length ps) prints ∙ length-map nodes f in
    let there : HasPlace s.places (get_or s.prints.items here.0 0) = places here.0 0 (omega (arith, here.1, as_many)) in
    none (subst (HasPlace s.places) (print-at nodes here.0 here.2 ∙ sym is) there)
  where
    at-map : (nodes : List Node) (k : ℕ) → IsNodeAt nodes k n → get_or (map (λ (m : Node). print_of (node_value m)) nodes) k 0 ≡ print_of n
    at-map [] k at = absurd at
    at-map (m ∷ nodes) zero at = ap print_of at
    at-map (m ∷ nodes) (suc k) at = at-map nodes k at

    print-at : (nodes : List Node) (k : ℕ) → IsNodeAt s.list.items k n → get_or s.prints.items k 0 ≡ print_of n
    print-at nodes k at = ap (λ (ps : List ℕ). get_or ps k 0) prints ∙ at-map s.list.items k at

pub never-place : (places : Places) (print : ℕ) (found : Option ℕ) → found ≡ None → IfNone found (HasPlace places print → ⊥) → HasPlace places print → ⊥
never-place places print found is never = subst (λ (o : Option ℕ). IfNone o (HasPlace places print → ⊥)) is never

pub all-values : (P : NodeValue → Type 0) (nodes : List Node) → ((k : ℕ) (d : Node) → k < length nodes → P (node_value (get_or nodes k d)))
    → All P (node_values nodes)
all-values P [] h k d less = absurd (omega (arith, less))
all-values P (m ∷ nodes) h zero d less = h 0 m (omega arith)
all-values P (m ∷ nodes) h (suc k) d less = all-values P nodes (λ j e l. h (suc j) e (omega (arith, l))) k d (omega (arith, less))

pub values-all : (P : NodeValue → Type 0) (nodes : List Node) (k : ℕ) (d : Node) → All P (node_values nodes) → k < length nodes
    → P (node_value (get_or nodes k d))
values-all P [] k d all less = absurd (omega (arith, less))
values-all P (m ∷ nodes) zero d all less = all 0 (node_value m) (omega arith)
values-all P (m ∷ nodes) (suc k) d all less = values-all P nodes k d (λ j e l. all (suc j) e (omega (arith, l))) (omega (arith, less))

-- 2. Nodes that grow.

get-append : {X : Type 0} (xs ys : List X) (k : ℕ) → k < length xs → slice_get (xs ++ ys) k ≡ slice_get xs k
get-append [] ys k h = absurd (omega (arith, h))
get-append (x ∷ xs) ys zero h = refl
get-append (x ∷ xs) ys (suc k) h = get-append xs ys k (omega (arith, h))

get-end : {X : Type 0} (xs : List X) (x : X) → slice_get (xs ++ x ∷ []) (length xs) ≡ Some x
get-end [] x = refl
get-end (y ∷ xs) x = get-end xs x

pub grows-not : (s : States) → Grows s s
grows-not s = ([], sym (append-none s.list.items))
  where
    append-none : (xs : List Node) → xs ++ [] ≡ xs
    append-none [] = refl
    append-none (x ∷ xs) = ap (λ (ys : List Node). x ∷ ys) (append-none xs)

append-assoc : (xs ys zs : List Node) → (xs ++ ys) ++ zs ≡ xs ++ (ys ++ zs)
append-assoc [] ys zs = refl
append-assoc (x ∷ xs) ys zs = ap (λ (l : List Node). x ∷ l) (append-assoc xs ys zs)

pub grows-more : (a b c : States) → Grows a b → Grows b c → Grows a c
grows-more a b c first second =
    (first.0 ++ second.0, second.1 ∙ ap (λ (xs : List Node). xs ++ second.0) first.1 ∙ append-assoc a.list.items first.0 second.0)

values-grow : (old new : States) (grows : Grows old new) → node_values new.list.items ≡ node_values old.list.items ++ node_values grows.0
values-grow old new grows = ap node_values grows.1 ∙ map-append node_value old.list.items grows.0

pub longer : (old new : States) → Grows old new → length old.list.items ≤ length new.list.items
longer old new grows = omega (arith, ap (λ (xs : List Node). length xs) grows.1, length-append old.list.items grows.0)

pub at-within : (s : States) (place : ℕ) (n : NodeValue) → IsAt s place n → place < length s.list.items
at-within s place n at =
    omega (arith, slice_get_within (node_values s.list.items) place n at, length-map s.list.items node_value)

pub at-grows : (old new : States) (place : ℕ) (n : NodeValue) → Grows old new → IsAt old place n → IsAt new place n
at-grows old new place n grows at =
    ap (λ (xs : List NodeValue). slice_get xs place) (values-grow old new grows)
    ∙ get-append (node_values old.list.items) (node_values grows.0) place (slice_get_within (node_values old.list.items) place n at) ∙ at

pub at-shrinks : (old new : States) (place : ℕ) (n : NodeValue) → Grows old new → place < length old.list.items → IsAt new place n → IsAt old place n
at-shrinks old new place n grows h at =
    sym (get-append (node_values old.list.items) (node_values grows.0) place (omega (arith, h, length-map old.list.items node_value)))
    ∙ sym (ap (λ (xs : List NodeValue). slice_get xs place) (values-grow old new grows)) ∙ at

pub covered-grows : (calls : List Recorded) (old new : States) (n : NodeValue) → Grows old new → IsCovered calls (node_values old.list.items) n
    → IsCovered calls (node_values new.list.items) n
covered-grows calls old new n grows (k, m, h, at, covers) =
    let xs = node_values old.list.items in
    let there = at-grows old new k m grows (slice_get-get_or xs k m h ∙ ap Some at) in
    (k, m, omega (arith, slice_get_within (node_values new.list.items) k m there), get_or_from_slice_get (node_values new.list.items) k m m there, covers)

pub covered-last : (calls : List Recorded) (new : States) (old : List Node) (n : Node) → new.list.items ≡ old ++ n ∷ []
    → IsCovered calls (node_values new.list.items) (node_value n)
covered-last calls new old n list =
    let there : IsAt new (length (node_values old)) (node_value n) =
    ap (λ (xs : List NodeValue). slice_get xs (length (node_values old))) (ap node_values list ∙ values-push old n)
    ∙ get-end (node_values old) (node_value n) in
    let xs = node_values new.list.items in (
      length (node_values old),
      node_value n,
      slice_get_within xs (length (node_values old)) (node_value n) there,
      get_or_from_slice_get xs (length (node_values old)) (node_value n) (node_value n) there,
      record { settled = λ call. (λ s. s, λ must s. s); spot = refl; landed = λ call has. has },
    )

pub at-index : (s : States) (place : ℕ) (m : Node) → place < length s.list.items → m ≡ get_or s.list.items place m → IsAt s place (node_value m)
at-index s place m h is =
    slice_get-map node_value s.list.items place ∙ ap (option_map node_value) (slice_get-get_or s.list.items place m h ∙ ap Some (sym is))

-- 3. One more node.

abbrev StepsTo : Rules → List Recorded → States → Step → NodeValue → ℕ → Type 0
StepsTo rules calls old step n place = (0 < place → Comes rules calls old step n)

comes-grows : (rules : Rules) (calls : List Recorded) (old new : States) (step : Step) (n : NodeValue) → Grows old new
    → Comes rules calls old step n → Comes rules calls new step n
comes-grows rules calls old new step n grows is =
    record { before = is.before; there = at-grows old new step.from is.before grows is.there; goes = is.goes }

pub one-value : (s : States) (place : ℕ) (m n : NodeValue) → IsAt s place m → IsAt s place n → m ≡ n
one-value s place m n first second =
    sym (get_or_from_slice_get (node_values s.list.items) place m m first) ∙ get_or_from_slice_get (node_values s.list.items) place n m second

pub among-at-list : (s : States) (place : ℕ) (n : NodeValue) → IsAt s place n → IsAmong (node_values s.list.items) n
among-at-list s place n at =
    (place, n, slice_get_within (node_values s.list.items) place n at, get_or_from_slice_get (node_values s.list.items) place n n at, refl)

met-push : (rules : Rules) (calls : List Recorded) (old new : States) (n : Node) (step : Step) → Grows old new
    → new.list.items ≡ old.list.items ++ n ∷ [] → new.steps.items ≡ old.steps.items ++ step ∷ []
    → length old.steps.items ≡ length old.list.items
    → ((place : ℕ) (m : NodeValue) → 0 < place → IsAt old place m → IsMet rules calls old place m)
    → (0 < length old.list.items → Comes rules calls old step (node_value n))
    → (place : ℕ) (m : NodeValue) → 0 < place → IsAt new place m → IsMet rules calls new place m
met-push rules calls old new n step grows list steps same met comes place m up at =
    elim (lt_or_le place (length old.list.items)) [
      | inl before ↦ was before (met place m up (at-shrinks old new place m grows before at))
      | inr more ↦ now (omega (arith, more, at-within new place m at, ap (λ (xs : List Node). length xs) list, length-append old.list.items (n ∷ [])))
    ]
  where
    was : place < length old.list.items → IsMet rules calls old place m → IsMet rules calls new place m
    was before is =
        record {
          step = is.step;
          at = ap (λ (xs : List Step). slice_get xs place) steps
              ∙ get-append old.steps.items (step ∷ []) place (omega (arith, before, same)) ∙ is.at;
          before = is.before;
          comes = comes-grows rules calls old new is.step m grows is.comes;
        }

    last-step : place ≡ length old.list.items → slice_get new.steps.items place ≡ Some step
    last-step is =
        let there : place ≡ length old.steps.items = omega (arith, is, same) in
        ap (λ (xs : List Step). slice_get xs place) steps ∙ ap (λ (k : ℕ). slice_get (old.steps.items ++ step ∷ []) k) there
        ∙ get-end old.steps.items step

    last-node : place ≡ length old.list.items → node_value n ≡ m
    last-node is =
        let there : place ≡ length (node_values old.list.items) = omega (arith, is, length-map old.list.items node_value) in
        one-value new place (node_value n) m
        (ap (λ (xs : List NodeValue). slice_get xs place) (ap node_values list ∙ values-push old.list.items n)
        ∙ ap (λ (k : ℕ). slice_get (node_values old.list.items ++ node_value n ∷ []) k) there ∙ get-end (node_values old.list.items) (node_value n)) at

    now : place ≡ length old.list.items → IsMet rules calls new place m
    now is =
        let mine : Comes rules calls old step (node_value n) = comes (omega (arith, is, up)) in
        record {
          step = step;
          at = last-step is;
          before = omega (arith, is, at-within old step.from mine.before mine.there);
          comes = subst (Comes rules calls new step) (last-node is) (comes-grows rules calls old new step (node_value n) grows mine);
        }

pub known-push : (rules : Rules) (calls : List Recorded) (old new : States) (n : Node) (step : Step) → AreKnown rules calls old
    → (0 < length old.list.items → Comes rules calls old step (node_value n)) → (IsAmong (node_values old.list.items) (node_value n) → ⊥)
    → new.list.items ≡ old.list.items ++ n ∷ [] → new.steps.items ≡ old.steps.items ++ step ∷ []
    → new.prints.items ≡ old.prints.items ++ print_of (node_value n) ∷ [] → HasMorePlaces old.places new.places (print_of (node_value n))
    → AreKnown rules calls new
known-push rules calls old new n step known comes fresh list steps prints places =
    let values = node_values old.list.items in
    let longer : node_values new.list.items ≡ values ++ node_value n ∷ [] = ap node_values list ∙ values-push old.list.items n in
    let f : Node → ℕ = λ m. print_of (node_value m) in
    record {
      met = met-push rules calls old new n step (n ∷ [], list) list steps known.steps known.met comes;
      steps = ap (λ (xs : List Step). length xs) steps ∙ length-append old.steps.items (step ∷ []) ∙ ap (λ (k : ℕ). k + 1) known.steps
          ∙ sym (length-append old.list.items (n ∷ [])) ∙ sym (ap (λ (xs : List Node). length xs) list);
      apart = subst (AllPairs (λ (a b : NodeValue). a ≡ b → ⊥)) (sym longer)
          (all_pairs_push (λ (a b : NodeValue). a ≡ b → ⊥) values (node_value n) known.apart (λ k d h same. fresh (among-at values k d (node_value n) h same)));
      prints = prints ∙ ap (λ (ps : List ℕ). ps ++ print_of (node_value n) ∷ []) known.prints ∙ sym (map-append f old.list.items (n ∷ [])) ∙ ap (map f) (sym list);
      places = subst (All (HasPlace new.places)) (sym prints)
          (All-push (HasPlace new.places) old.prints.items (print_of (node_value n))
          (λ k d h. places.others (get_or old.prints.items k d) (known.places k d h)) places.there);
    }

pub none-known : (rules : Rules) (calls : List Recorded) (s : States) → IsEmpty s → AreKnown rules calls s
none-known rules calls s none =
    let empty : node_values s.list.items ≡ [] = ap node_values none.list in
    record {
      met = λ place n up at. absurd (omega (arith, at-within s place n at, ap (λ (xs : List Node). length xs) none.list));
      steps = ap (λ (xs : List Step). length xs) none.steps ∙ sym (ap (λ (xs : List Node). length xs) none.list);
      apart = subst (AllPairs (λ (a b : NodeValue). a ≡ b → ⊥)) (sym empty) (λ i j d less h. absurd (omega (arith, h)));
      prints = none.prints ∙ ap (map (λ (m : Node). print_of (node_value m))) (sym none.list);
      places = subst (All (HasPlace s.places)) (sym none.prints) (λ k d h. absurd (omega (arith, h)));
    }

pub first-at : (new : States) (n : Node) (old : List Node) → old ≡ [] → new.list.items ≡ old ++ n ∷ [] → IsAt new 0 (node_value n)
first-at new n old none list =
    ap (λ (xs : List Node). slice_get (node_values xs) 0) (list ∙ ap (λ (xs : List Node). xs ++ n ∷ []) none)

-- 4. The way to a node.

abbrev nothing : Spot
nothing = record { entry = None; store = Unknown; shared = load.NotAsked }

plays-first : (rules : Rules) (calls : List Recorded) (a b n : NodeValue) (t : Turn) (ts : List Turn) → NodeGoes rules calls a t b
    → PlaysNodes rules calls b ts n → PlaysNodes rules calls a (t ∷ ts) n
plays-first rules calls a b n t ts goes plays = (b, goes, plays)

-- the way from a node at a place, by the turns that were collected backwards
abbrev pub LeadsOn : Rules → List Recorded → States → ℕ → List Turn → ℕ → Type 0
LeadsOn rules calls s at turns place =
    (at < length s.list.items)
    × ((m n : NodeValue) → IsAt s at m → IsAt s place n → PlaysNodes rules calls m (reverse turns) n)

pub leads-first : (rules : Rules) (calls : List Recorded) (s : States) (place : ℕ) → place < length s.list.items → LeadsOn rules calls s place [] place
leads-first rules calls s place h = (h, λ m n first second. one-value s place n m second first)

pub leads-before : (rules : Rules) (calls : List Recorded) (s : States) (at : ℕ) (turns : List Turn) (place : ℕ) (step : Step) → AreKnown rules calls s
    → 0 < at → slice_get s.steps.items at ≡ Some step → LeadsOn rules calls s at turns place
    → LeadsOn rules calls s step.from (turns ++ step.turn ∷ []) place × (step.from < at)
leads-before rules calls s at turns place step known up is leads =
    let here : slice_get (node_values s.list.items) at ≡ Some (node-there at leads.0) = there at leads.0 in
    let met = known.met at (node-there at leads.0) up here in
    let same : met.step ≡ step = step-one met.step step (sym met.at ∙ is) in
    let from : met.step.from ≡ step.from = ap (λ (x : Step). x.from) same in (
      (
        omega (arith, met.before, from, leads.0),
        λ m n first second.
            let comes = subst (λ (x : Step). Comes rules calls s x (node-there at leads.0)) same met.comes in
            let mine : comes.before ≡ m = one-value s step.from comes.before m comes.there first in
            subst (λ (ts : List Turn). PlaysNodes rules calls m ts n) (sym (reverse-append turns (step.turn ∷ []))) (
              node-there at leads.0,
              subst (λ (x : NodeValue). NodeGoes rules calls x step.turn (node-there at leads.0)) mine comes.goes,
              leads.1 (node-there at leads.0) n here second,
            ),
      ),
      omega (arith, met.before, from),
    )
  where
    node-there : (k : ℕ) → k < length s.list.items → NodeValue
    node-there k h = get_or (node_values s.list.items) k (record { from = 0; end = 0; rest = []; landed = []; spot = nothing })

    there : (k : ℕ) (h : k < length s.list.items) → slice_get (node_values s.list.items) k ≡ Some (node-there k h)
    there k h = slice_get-get_or (node_values s.list.items) k (record { from = 0; end = 0; rest = []; landed = []; spot = nothing })
        (omega (arith, h, length-map s.list.items node_value))

    step-one : (a b : Step) → Some a ≡ Some b → a ≡ b
    step-one a b e = ap (λ (o : Option Step). step-in o) e
      where
        step-in : Option Step → Step
        step-in None = a
        step-in (Some x) = x

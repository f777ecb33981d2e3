-- What is known grows, and what is like something known is known.
use Rattle.jc_explore.proofs.Common.{◌≡◌, ℕ, zero, suc, ◌+◌, ◌<◌, List, [], ◌∷◌, ◌++◌, length, Bool, true, false, Some, None, Option, is_some, slice_get, sym, refl, ap, ◌∙◌, subst, arith, true≢false, append_assoc, inl, inr, append-nil, get_or-map, length-map, map-append, length-append, get_or, map, ◌||◌, All, AllPairs, Any, get_or_append_left, slice_get-get_or, slice_get_within, All-push, Any-push, and_parts, StateKey, KnownState, States, Move, Program, Finding, IsFound, FinalValue, final_of, ScenesAlike, IsKeyOf, HaveOneKey, HasPlace, fingerprint_of_key, fingerprint_of_value, SceneState, Moves, PlaysSchedule, opening, has_session, have_sessions, AreKnown, Continues, HavePlaces, HavePrints, IsAmong, IsKeyAt, IsKnown, IsKnownBy, LeadsLike, StaysAt, WasFollowed, kept_if, Seen, SnapshotsTell}
use Rattle.jc_explore.specs.declared.places.Places.{Places}
use Rattle.jc_explore.proofs.Keys.{tell-alike}
use Rattle.jc_explore.proofs.AllMoves.{among-front, among-last, eq_or_less, sessions-push}
use Rattle.jc_explore.proofs.AlikeScenes.{scenes-refl, scenes-sym, scenes-trans}

-- 1. Lists that grow.

any-more : {X : Type 0} (P : X → Type 0) (xs ys : List X) → Any P xs → Any P (xs ++ ys)
any-more P xs ys h = (h.0, h.1, omega (arith, length-append xs ys, h.2), get_or_append_left xs ys h.1 h.0 h.2 ∙ h.3, h.4)

pub any-grown : {X : Type 0} (P : X → Type 0) (xs zs : List X) → Continues xs zs → Any P xs → Any P zs
any-grown P xs zs grown h = subst (Any P) (sym grown.1) (any-more P xs grown.0 h)

pub grows-refl : {X : Type 0} (xs : List X) → Continues xs xs
grows-refl xs = ([], sym (append-nil xs))

pub known-grown : (p : Program) (old new : List KnownState) (s : SceneState) → Continues old new → IsKnown p old s → IsKnown p new s
known-grown p old new s grown h = any-grown (λ (k : KnownState). LeadsLike p k.schedule.items s) old new grown h

pub found-grown : (old new : List Finding) (f : FinalValue) → Continues old new → IsFound f old → IsFound f new
found-grown old new f grown h = any-grown (λ (x : Finding). final_of x.state ≡ f) old new grown h

pub grows-twice : {X : Type 0} (xs ys zs : List X) → Continues xs ys → Continues ys zs → Continues xs zs
grows-twice {X = X} xs ys zs a b = (a.0 ++ b.0, b.1 ∙ ap (λ (l : List X). l ++ b.0) a.1 ∙ append_assoc xs a.0 b.0)

-- 2. What is like something known is known.

pub known-like : (p : Program) (known : List KnownState) (s t : SceneState) → ScenesAlike s t → IsKnown p known t → IsKnown p known s
known-like p known s t like h =
    let w = h.4.0 in
    (h.0, h.1, h.2, h.3, (w, h.4.1, scenes-trans s t w like h.4.2))

pub known-before : SnapshotsTell → (p : Program) (seen : Seen) (known : List KnownState) (key : StateKey) (s : SceneState) → All (IsKnownBy p seen) known → IsKeyOf seen key s
    → Any (λ (k : KnownState). HaveOneKey k.key key) known → IsKnown p known s
known-before tell p seen known key s all is h =
    let by : IsKnownBy p seen h.1 = subst (IsKnownBy p seen) h.3 (all h.0 h.1 h.2) in
    (h.0, h.1, h.2, h.3, (by.scene, by.plays, scenes-sym by.scene s (tell-alike tell seen h.1.key key by.scene s h.4 by.key is)))

abbrev or_this : {X : Type 0} → X → Option X → X
or_this x None = x
or_this x (Some y) = y

-- the move at a place is the only one there
pub same-at : {X : Type 0} (xs : List X) (k : ℕ) (d m : X) → k < length xs → slice_get xs k ≡ Some m → get_or xs k d ≡ m
same-at xs k d m h is = ap (or_this d) (sym (slice_get-get_or xs k d h) ∙ is)

-- a state with a key is one of those that are known
pub at-known : (known : List KnownState) (place : ℕ) (key : StateKey) → IsKeyAt known place key → Any (λ (k : KnownState). HaveOneKey k.key key) known
at-known known place key at =
    let inside = slice_get_within known place at.0 at.1 in
    (place, at.0, inside, same-at known place at.0 at.0 inside at.1, at.2)

-- a key whose fingerprint has no place is that of none
pub none-with : (s : States) (key : StateKey) (n : ℕ) → HavePrints s → HavePlaces s → n ≡ fingerprint_of_key key → (HasPlace s.places n → ⊥)
    → All (λ (k : KnownState). HaveOneKey k.key key → ⊥) s.list.items
none-with s key n prints places is none i d h one =
    let print : KnownState → ℕ = λ k. fingerprint_of_key k.key in
    let known = s.list.items in
    let as_many : length s.fingerprints.items ≡ length known = ap (λ (ps : List ℕ). length ps) prints ∙ length-map known print in
    let there : HasPlace s.places (get_or s.fingerprints.items i 0) = places i 0 (omega (arith, h, as_many)) in
    let same : get_or s.fingerprints.items i 0 ≡ n =
    ap (λ (ps : List ℕ). get_or ps i 0) prints ∙ get_or-map print known i d 0 h ∙ ap fingerprint_of_value one ∙ sym is in
    none (subst (HasPlace s.places) same there)

-- the places of fingerprints and of one more
pub places-push : (places now : Places) (prints more : List ℕ) (n : ℕ) → All (HasPlace places) prints → ((m : ℕ) → HasPlace places m → HasPlace now m) → HasPlace now n
    → more ≡ prints ++ n ∷ [] → All (HasPlace now) more
places-push places now prints more n all others there longer =
    subst (All (HasPlace now)) (sym longer) (All-push (HasPlace now) prints n (λ k d h. others (get_or prints k d) (all k d h)) there)

pub none-known : (p : Program) (s : States) → s.list.items ≡ [] → s.fingerprints.items ≡ [] → AreKnown p s
none-known p s none prints =
    record {
      each = subst (All (IsKnownBy p s.seen)) (sym none) (λ k d h. absurd (omega (arith, h)));
      apart = subst (AllPairs (λ (a b : KnownState). HaveOneKey a.key b.key → ⊥)) (sym none) (λ i j d h inside. absurd (omega (arith, inside)));
      prints = prints ∙ ap (map (λ (k : KnownState). fingerprint_of_key k.key)) (sym none);
      places = subst (All (HasPlace s.places)) (sym prints) (λ k d h. absurd (omega (arith, h)));
    }

-- the fingerprints of known states and of one more
pub prints-push : (known now : List KnownState) (one : KnownState) (prints more : List ℕ) (n : ℕ) → prints ≡ map (λ (k : KnownState). fingerprint_of_key k.key) known
    → more ≡ prints ++ n ∷ [] → n ≡ fingerprint_of_key one.key → now ≡ known ++ one ∷ []
    → more ≡ map (λ (k : KnownState). fingerprint_of_key k.key) now
prints-push known now one prints more n was longer is pushed =
    let print : KnownState → ℕ = λ k. fingerprint_of_key k.key in
    longer ∙ ap (λ (ps : List ℕ). ps ++ n ∷ []) was ∙ ap (λ (m : ℕ). map print known ++ m ∷ []) is
    ∙ sym (map-append print known (one ∷ [])) ∙ ap (map print) (sym pushed)

pub known-last : (p : Program) (known : List KnownState) (k : KnownState) (s : SceneState) → PlaysSchedule p (opening p) k.schedule.items s → IsKnown p (known ++ k ∷ []) s
known-last p known k s plays = Any-push (λ (x : KnownState). LeadsLike p x.schedule.items s) known k (s, plays, scenes-refl s)

-- 3. Moves, one by one.

pub below_one-more : (P : ℕ → Type 0) (n : ℕ) → ((t : ℕ) → t < n → P t) → P n → (t : ℕ) → t < n + 1 → P t
below_one-more P n below last t h = elim (eq_or_less t n h) [ inl less ↦ below t less | inr same ↦ subst P (sym same) last ]

pub there-at : {X : Type 0} (xs : List X) (k : ℕ) (d : X) → k < length xs → slice_get xs k ≡ Some (get_or xs k d)
there-at xs k d h = slice_get-get_or xs k d h

pub followed-at : (p : Program) (moves schedule : List Move) (known : List KnownState) (k : ℕ) (d : Move) → k < length moves
    → ((s : SceneState) → PlaysSchedule p (opening p) (schedule ++ get_or moves k d ∷ []) s → IsKnown p known s) → WasFollowed p moves schedule known k
followed-at p moves schedule known k d h all m is = subst (λ (x : Move). (s : SceneState) → PlaysSchedule p (opening p) (schedule ++ x ∷ []) s → IsKnown p known s) (same-at moves k d m h is) all

pub stays-at : (p : Program) (moves schedule : List Move) (k : ℕ) (d : Move) → k < length moves
    → ((s : SceneState) → PlaysSchedule p (opening p) (schedule ++ get_or moves k d ∷ []) s → ⊥) → StaysAt p moves schedule k
stays-at p moves schedule k d h none m is = subst (λ (x : Move). (s : SceneState) → PlaysSchedule p (opening p) (schedule ++ x ∷ []) s → ⊥) (same-at moves k d m h is) none

pub or_goes : {Y : Type 0} (a b : Bool) → (a || b) ≡ true → (a ≡ true → Y) → (b ≡ true → Y) → Y
or_goes true b is one other = one refl
or_goes false b is one other = other is

pub followed-grown : (p : Program) (moves schedule : List Move) (old new : List KnownState) (k : ℕ) → Continues old new → WasFollowed p moves schedule old k → WasFollowed p moves schedule new k
followed-grown p moves schedule old new k grown h m is s plays = known-grown p old new s grown (h m is s plays)

pub session-at : (xs : List Move) (k : ℕ) (m : Move) → slice_get xs k ≡ Some m → have_sessions xs ≡ true → has_session m ≡ true
session-at [] k m is all = absurd (true≢false (ap is_some (sym is)))
session-at (x ∷ xs) zero m is all = subst (λ (y : Move). has_session y ≡ true) (ap (or_this x) is) (and_parts (has_session x) (have_sessions xs) all).0
session-at (x ∷ xs) (suc k) m is all = session-at xs k m is (and_parts (has_session x) (have_sessions xs) all).1

-- what was at a place before a list grew
pub slice-back : {X : Type 0} (was now : List X) (j : ℕ) (m : X) → Continues was now → j < length was → slice_get now j ≡ Some m → slice_get was j ≡ Some m
slice-back {X = X} was now j m grown h at =
    let whole : slice_get (was ++ grown.0) j ≡ Some m = subst (λ (ms : List X). slice_get ms j ≡ Some m) grown.1 at in
    let inside : j < length (was ++ grown.0) = omega (arith, length-append was grown.0, h) in
    let is : get_or was j m ≡ m = sym (get_or_append_left was grown.0 m j h) ∙ same-at (was ++ grown.0) j m m inside whole in
    there-at was j m h ∙ ap (λ (x : X). Some x) is

-- 4. Moves that are kept.

abbrev pub KeptAt : Program → SceneState → List Move → List Move → ℕ → Type 0
KeptAt p s moves kept k = (m : Move) → slice_get moves k ≡ Some m → (new : SceneState) → Moves p s m new → IsAmong kept m

kept-among : (b : Bool) (x m : Move) (xs : List Move) → IsAmong xs m → IsAmong (kept_if b x xs) m
kept-among true x m xs h = among-front xs (x ∷ []) m h
kept-among false x m xs h = h

pub kept-grown : (p : Program) (s : SceneState) (moves kept : List Move) (b : Bool) (x : Move) (k : ℕ) → KeptAt p s moves kept k → KeptAt p s moves (kept_if b x kept) k
kept-grown p s moves kept b x k h m at new one = kept-among b x m kept (h m at new one)

kept-here : (p : Program) (s : SceneState) (b : Bool) (x : Move) (xs : List Move) (new : SceneState) → (b ≡ false → (n : SceneState) → Moves p s x n → ⊥) → Moves p s x new → IsAmong (kept_if b x xs) x
kept-here p s true x xs new none one = among-last xs x
kept-here p s false x xs new none one = absurd (none refl new one)

pub kept-at : (p : Program) (s : SceneState) (moves kept : List Move) (b : Bool) (k : ℕ) (d : Move) → k < length moves
    → (b ≡ false → (n : SceneState) → Moves p s (get_or moves k d) n → ⊥) → KeptAt p s moves (kept_if b (get_or moves k d) kept) k
kept-at p s moves kept b k d h none m at new one =
    subst (λ (y : Move). (n : SceneState) → Moves p s y n → IsAmong (kept_if b (get_or moves k d) kept) y) (same-at moves k d m h at)
    (λ n w. kept-here p s b (get_or moves k d) kept n none w) new one

pub kept-sessions : (b : Bool) (x : Move) (xs : List Move) → have_sessions xs ≡ true → has_session x ≡ true → have_sessions (kept_if b x xs) ≡ true
kept-sessions true x xs all one = sessions-push xs x all one
kept-sessions false x xs all one = all

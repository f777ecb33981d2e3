-- Rows of seats, one at each lock of a cache.
--     Seated                   a seat: its lock, and its view
--     locks_of                 the locks of a row of seats
--     seat_is                  a seat at a lock, by the lock and its view
--     seat_there               there is a seat at each place within a row
--     lock_there               a seat is at the lock in its place
--     push_get                 a seat of a row with one more is the last one, or was there
--     map_get                  a seat of a mapped row is what a seat there is mapped to
--     part_get, part_set       the first seats of a row are mapped, and now the next one is
--     length_locks             there are as many seats as locks
--     locks_push               a row with one more seat
use Rattle.jc_cache.proofs.Common.{◌≡◌, ◌⊎◌, ⊎_elim, inl, inr, ◌+◌, ◌<◌, ℕ, zero, suc, Some, List, [], ◌∷◌, ◌++◌, length, map, take, drop, get_or, set, slice_get, option_map, refl, sym, ap, ◌∙◌, arith, length-map, map-append, same_Some, slice_get-map, TableId, View}

abbrev pub Seated : Type 0
Seated = TableId × View

abbrev pub locks_of : List Seated → List TableId
locks_of seats = map (λ (seat : Seated). seat.0) seats

pub length_locks : (seats : List Seated) (locks : List TableId) → locks_of seats ≡ locks → length seats ≡ length locks
length_locks seats locks are = sym (length-map seats (λ (seat : Seated). seat.0)) ∙ ap length are

pub seat_is : (t u : Seated) → u.0 ≡ t.0 → u ≡ (t.0, u.1)
seat_is t u same i = (same i, u.1)

pub seat_there : {X : Type 0} (xs : List X) (i : ℕ) → i < length xs → (x : X) × (slice_get xs i ≡ Some x)
seat_there [] i near = absurd (omega arith)
seat_there (x ∷ xs) zero near = (x, refl)
seat_there (x ∷ xs) (suc i) near = seat_there xs i (omega arith)

pub lock_there : (seats : List Seated) (locks : List TableId) (i : ℕ) (seat : Seated) (lock : TableId) → locks_of seats ≡ locks → slice_get seats i ≡ Some seat → slice_get locks i ≡ Some lock → seat.0 ≡ lock
lock_there seats locks i seat lock are at there =
    same_Some seat.0 lock (ap (option_map (λ (s : Seated). s.0)) (sym at) ∙ sym (slice_get-map (λ (s : Seated). s.0) seats i) ∙ ap (λ (ls : List TableId). slice_get ls i) are ∙ there)

pub push_get : {X : Type 0} (xs : List X) (y : X) (i k : ℕ) (z : X) → length xs ≡ i → slice_get (xs ++ y ∷ []) k ≡ Some z → ((k ≡ i) × (z ≡ y)) ⊎ (slice_get xs k ≡ Some z)
push_get [] y i zero z long at = inl (long, sym (same_Some y z at))
push_get [] y i (suc k) z long at = inr at
push_get (x ∷ xs) y zero k z long at = absurd (omega arith)
push_get (x ∷ xs) y (suc i) zero z long at = inr at
push_get (x ∷ xs) y (suc i) (suc k) z long at = ⊎_elim (λ t. inl (ap suc t.0, t.1)) (λ t. inr t) (push_get xs y i k z (omega arith) at)

pub map_get : {X Y : Type 0} (f : X → Y) (xs : List X) (i : ℕ) (y : Y) → slice_get (map f xs) i ≡ Some y → (x : X) × (slice_get xs i ≡ Some x) × (y ≡ f x)
map_get f [] i y at = cc
map_get f (x ∷ xs) zero y at = (x, refl, sym (same_Some (f x) y at))
map_get f (x ∷ xs) (suc i) y at = map_get f xs i y at

pub part_get : {X : Type 0} (f : X → X) (xs : List X) (i : ℕ) (d : X) → i < length xs → get_or (map f (take i xs) ++ drop i xs) i d ≡ get_or xs i d
part_get f [] i d near = absurd (omega arith)
part_get f (x ∷ xs) zero d near = refl
part_get f (x ∷ xs) (suc i) d near = part_get f xs i d (omega arith)

part_set_suc : {X : Type 0} (f : X → X) (xs : List X) (i : ℕ) (d : X) → i < length xs → set (map f (take i xs) ++ drop i xs) i (f (get_or xs i d)) ≡ map f (take (suc i) xs) ++ drop (suc i) xs
part_set_suc f [] i d near = absurd (omega arith)
part_set_suc f (x ∷ xs) zero d near = refl
part_set_suc {X} f (x ∷ xs) (suc i) d near = ap (λ (l : List X). f x ∷ l) (part_set_suc f xs i d (omega arith))

pub part_set : {X : Type 0} (f : X → X) (xs : List X) (i : ℕ) (d : X) → i < length xs → set (map f (take i xs) ++ drop i xs) i (f (get_or xs i d)) ≡ map f (take (i + 1) xs) ++ drop (i + 1) xs
part_set f xs i d near = let next : suc i ≡ i + 1 = omega arith in part_set_suc f xs i d near ∙ ap (λ (n : ℕ). map f (take n xs) ++ drop n xs) next

pub locks_push : (seats : List Seated) (locks : List TableId) (seat : Seated) (lock : TableId) → locks_of seats ≡ locks → seat.0 ≡ lock → locks_of (seats ++ seat ∷ []) ≡ locks ++ lock ∷ []
locks_push seats locks seat lock are is = map-append (λ (s : Seated). s.0) seats (seat ∷ []) ∙ ap (λ (ls : List TableId). ls ++ seat.0 ∷ []) are ∙ ap (λ (l : TableId). locks ++ l ∷ []) is

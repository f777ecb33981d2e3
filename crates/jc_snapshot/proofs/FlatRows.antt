-- Rows of numbers.
--     flat_equal     rows that are one list when they are written are the same
use Rattle.jc_snapshot.proofs.Common.{◌≡◌, ℕ, List, [], ◌∷◌, ◌++◌, length, sym, refl, ap, ◌∙◌, append_assoc, append-nil, framed, flat, AreRows}

-- two lists of one length, each with something behind it
parts_equal : (xs ys us vs : List ℕ) → length xs ≡ length ys → xs ++ us ≡ ys ++ vs → (xs ≡ ys) × (us ≡ vs)
parts_equal [] [] us vs len e = (refl, e)
parts_equal [] (y ∷ ys) us vs len e = cc
parts_equal (x ∷ xs) [] us vs len e = cc
parts_equal (x ∷ xs) (y ∷ ys) us vs len e =
    let h : x ≡ y = cc in
    let t : xs ++ us ≡ ys ++ vs = cc in
    let l : length xs ≡ length ys = cc in
    let rest = parts_equal xs ys us vs l t in
    ((λ i. h i ∷ rest.0 i), rest.1)

pub flat_equal : (rows others : List (List ℕ)) → flat rows ≡ flat others → rows ≡ others
flat_equal [] [] e = refl
flat_equal [] (o ∷ others) e = cc
flat_equal (r ∷ rows) [] e = cc
flat_equal (r ∷ rows) (o ∷ others) e =
    let l : length r ≡ length o = cc in
    let t : r ++ flat rows ≡ o ++ flat others = cc in
    let parts = parts_equal r o (flat rows) (flat others) l t in
    let rest = flat_equal rows others parts.1 in
    λ i. parts.0 i ∷ rest i

-- rows of the same things, and things of the same rows
pub rows_equal : {A : Type 0} (Is : A → List ℕ → Type 0) → ((x : A) (r o : List ℕ) → Is x r → Is x o → r ≡ o) → (xs : List A) (rows others : List (List ℕ)) → AreRows Is xs rows → AreRows Is xs others → rows ≡ others
rows_equal Is f [] [] [] are be = refl
rows_equal Is f [] [] (o ∷ others) are be = absurd be
rows_equal Is f [] (r ∷ rows) others are be = absurd are
rows_equal Is f (x ∷ xs) [] others are be = absurd are
rows_equal Is f (x ∷ xs) (r ∷ rows) [] are be = absurd be
rows_equal Is f (x ∷ xs) (r ∷ rows) (o ∷ others) are be =
    let h = f x r o are.0 be.0 in let t = rows_equal Is f xs rows others are.1 be.1 in λ i. h i ∷ t i

pub things_of_rows : {A : Type 0} (Is : A → List ℕ → Type 0) → ((x y : A) (r : List ℕ) → Is x r → Is y r → x ≡ y) → (xs ys : List A) (rows : List (List ℕ)) → AreRows Is xs rows → AreRows Is ys rows → xs ≡ ys
things_of_rows Is f [] [] rows are be = refl
things_of_rows Is f [] (y ∷ ys) [] are be = absurd be
things_of_rows Is f [] (y ∷ ys) (r ∷ rows) are be = absurd are
things_of_rows Is f (x ∷ xs) [] [] are be = absurd are
things_of_rows Is f (x ∷ xs) [] (r ∷ rows) are be = absurd be
things_of_rows Is f (x ∷ xs) (y ∷ ys) [] are be = absurd are
things_of_rows Is f (x ∷ xs) (y ∷ ys) (r ∷ rows) are be =
    let h = f x y r are.0 be.0 in let t = things_of_rows Is f xs ys rows are.1 be.1 in λ i. h i ∷ t i

pub rows_stay : {A : Type 0} (Is Be : A → List ℕ → Type 0) → ((x : A) (r : List ℕ) → Is x r → Be x r) → (xs : List A) (rows : List (List ℕ)) → AreRows Is xs rows → AreRows Be xs rows
rows_stay Is Be f [] [] are = tt
rows_stay Is Be f [] (r ∷ rows) are = absurd are
rows_stay Is Be f (x ∷ xs) [] are = absurd are
rows_stay Is Be f (x ∷ xs) (r ∷ rows) are = (f x r are.0, rows_stay Is Be f xs rows are.1)

-- one more thing, with its row
pub rows_push : {A : Type 0} (Is : A → List ℕ → Type 0) (xs : List A) (rows : List (List ℕ)) (x : A) (row : List ℕ) → AreRows Is xs rows → Is x row → AreRows Is (xs ++ x ∷ []) (rows ++ row ∷ [])
rows_push Is [] [] x row are is = (is, tt)
rows_push Is [] (r ∷ rows) x row are is = absurd are
rows_push Is (y ∷ xs) [] x row are is = absurd are
rows_push Is (y ∷ xs) (r ∷ rows) x row are is = (are.0, rows_push Is xs rows x row are.1 is)

-- written behind the others
pub flat_push : (rows : List (List ℕ)) (row : List ℕ) → flat (rows ++ row ∷ []) ≡ flat rows ++ framed row
flat_push [] row = append-nil (framed row)
flat_push (r ∷ rows) row = ap (λ l. framed r ++ l) (flat_push rows row) ∙ sym (append_assoc (framed r) (flat rows) (framed row))

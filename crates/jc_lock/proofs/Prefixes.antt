-- Prefixes of a history, and states of one stripe.
--     prefix-refl, prefix-nil, prefix-trans         a list and the empty list are prefixes of it; prefixes of prefixes
--     prefix-shorter                                of two prefixes of one list the shorter is one of the longer
--     longer-left, longer-right, longer-whole       both are prefixes of the longer one, which is one of the list
--     same_itself, same_at, same_on                 a state is of its own stripe; equal states; one after the other
use Rattle.std.proofs.Common.{◌≡◌, ◌<◌, ◌≤◌, Bool, true, false, cond, nat_lt, List, [], ◌∷◌, ◌++◌, length, sym, refl, ap, subst, ◌∙◌, arith, append_assoc, append-nil}
use Rattle.std.proofs.lemmas.Bool.Decides.{nat_tests}
use mathlib.Core.List.{IsPrefix}
use Rattle.jc_model.specs.declared.event.Event.{Event}
use Rattle.jc_stripe.specs.State.{State}
use Rattle.jc_stripe.specs.Generations.{IsOfSameStripe}
use Rattle.jc_lock.specs.Views.{longer}

pub prefix-refl : {A : Type 0} (xs : List A) → IsPrefix xs xs
prefix-refl xs = ([], append-nil xs)

pub prefix-nil : {A : Type 0} (xs : List A) → IsPrefix [] xs
prefix-nil xs = (xs, refl)

pub prefix-trans : {A : Type 0} (xs ys zs : List A) → IsPrefix xs ys → IsPrefix ys zs → IsPrefix xs zs
prefix-trans xs ys zs p q = (p.0 ++ q.0, sym (append_assoc xs p.0 q.0) ∙ ap (λ l. l ++ q.0) p.1 ∙ q.1)

pub same_itself : (a : State) → IsOfSameStripe a a
same_itself a = record { config = refl; stripe = refl; origin = refl; lives = refl; opening = refl }

pub same_at : (a b : State) → a ≡ b → IsOfSameStripe a b
same_at a b is = subst (IsOfSameStripe a) is (same_itself a)

pub same_on : (a b c : State) → IsOfSameStripe a b → IsOfSameStripe b c → IsOfSameStripe a c
same_on a b c p q = record { config = q.config ∙ p.config; stripe = q.stripe ∙ p.stripe; origin = q.origin ∙ p.origin; lives = q.lives ∙ p.lives; opening = q.opening ∙ p.opening }

tail_of : List Event → List Event
tail_of [] = []
tail_of (x ∷ xs) = xs

head_or : Event → List Event → Event
head_or d [] = d
head_or d (x ∷ xs) = x

-- of two beginnings of one list the shorter begins the longer
pub prefix-shorter : (xs ys zs : List Event) → IsPrefix xs zs → IsPrefix ys zs → length xs ≤ length ys → IsPrefix xs ys
unfolding head_or tail_of
prefix-shorter [] ys zs p q le = prefix-nil ys
prefix-shorter (x ∷ xs) [] zs p q le = absurd (omega arith)
prefix-shorter (x ∷ xs) (y ∷ ys) [] p q le = absurd (let e = ap length p.1 in omega arith)
prefix-shorter (x ∷ xs) (y ∷ ys) (z ∷ zs) p q le =
    let ih = prefix-shorter xs ys zs (p.0, ap tail_of p.1) (q.0, ap tail_of q.1) (omega arith) in
    let xy : x ≡ y = ap (head_or x) p.1 ∙ sym (ap (head_or y) q.1) in
    (ih.0, λ i. xy i ∷ ih.1 i)

pub longer-left : (xs ys zs : List Event) → IsPrefix xs zs → IsPrefix ys zs → IsPrefix xs (longer xs ys)
longer-left xs ys zs p q =
    let P : Bool → Type 0 = λ b. nat_lt (length xs) (length ys) ≡ b → IsPrefix xs (cond b ys xs) in
    let hit : P true = λ e. prefix-shorter xs ys zs p q (let l : length xs < length ys = grind (arith, nat_tests) in omega arith) in
    let miss : P false = λ e. prefix-refl xs in
    elim (nat_lt (length xs) (length ys)) as P [ true ↦ hit | false ↦ miss ] refl

pub longer-right : (xs ys zs : List Event) → IsPrefix xs zs → IsPrefix ys zs → IsPrefix ys (longer xs ys)
longer-right xs ys zs p q =
    let P : Bool → Type 0 = λ b. nat_lt (length xs) (length ys) ≡ b → IsPrefix ys (cond b ys xs) in
    let hit : P true = λ e. prefix-refl ys in
    let miss : P false = λ e. prefix-shorter ys xs zs q p (let l : length ys ≤ length xs = grind (arith, nat_tests) in l) in
    elim (nat_lt (length xs) (length ys)) as P [ true ↦ hit | false ↦ miss ] refl

pub longer-whole : (xs ys zs : List Event) → IsPrefix xs zs → IsPrefix ys zs → IsPrefix (longer xs ys) zs
longer-whole xs ys zs p q = elim (nat_lt (length xs) (length ys)) as (λ b. IsPrefix (cond b ys xs) zs) [ true ↦ q | false ↦ p ]

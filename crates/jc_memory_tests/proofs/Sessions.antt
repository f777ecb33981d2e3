-- What holds of each session of a list.
--     one_more     it holds of one more, whom a cache that is the same has given out
--     the_only     it holds of each of a list of one
--     first_one    it holds of each of a list that had none before
--     at_cache     it holds at a cache that is the same
--     handed_back  it holds of those that are handed back with a cache that is the same
--     all_of       sessions that may call a cache are of it
--     may_at       so may a session call such a cache
use Rattle.std.proofs.Common.{◌≡◌, List, [], ◌∷◌, ◌++◌, ap, ◌∙◌, subst, sym}
use Rattle.std.specs.List.{All}
use Rattle.std.proofs.lemmas.List.Elements.{All-nil, All-push, All-weaker}
use Rattle.jc_cache.specs.Caches.{CacheState}
use Rattle.jc_cache.specs.Sessions.{IsOf, MayCall}
use Rattle.jc_session.specs.declared.session.Session.{Session}

pub one_more : {X : Type 0} (xs ys : List X) (x : X) (P : CacheState → X → Type 0) (k l : CacheState) → l ≡ k → ys ≡ xs ++ x ∷ [] → All (P k) xs → P l x → All (P l) ys
one_more {X} xs ys x P k l same is all here =
    subst (λ (zs : List X). All (P l) zs) (sym is) (All-push (P l) xs x (subst (λ (z : CacheState). All (P z) xs) (sym same) all) here)

pub at_cache : {X : Type 0} (xs : List X) (P : CacheState → X → Type 0) (k l : CacheState) → l ≡ k → All (P k) xs → All (P l) xs
at_cache xs P k l same all = subst (λ (z : CacheState). All (P z) xs) (sym same) all

pub the_only : {X : Type 0} (ys : List X) (x : X) (P : X → Type 0) → ys ≡ [] ++ x ∷ [] → P x → All P ys
the_only {X} ys x P is here = subst (λ (zs : List X). All P zs) (sym is) (All-push P [] x (All-nil P) here)

pub first_one : {X : Type 0} (xs ys : List X) (x : X) (P : X → Type 0) → xs ≡ [] → ys ≡ xs ++ x ∷ [] → P x → All P ys
first_one {X} xs ys x P none is here = the_only ys x P (is ∙ ap (λ (zs : List X). zs ++ x ∷ []) none) here

pub handed_back : {X : Type 0} (xs ys : List X) (P : CacheState → X → Type 0) (k l : CacheState) → l ≡ k → ys ≡ xs → All (P k) xs → All (P l) ys
handed_back {X} xs ys P k l same is all = subst (λ (zs : List X). All (P l) zs) (sym is) (at_cache xs P k l same all)

pub all_of : {I J : Type 0} {D : I → Type 0} {E : J → Type 0} (cache : CacheState) (sessions : List (Session I J D E))
    → All (λ (s : Session I J D E). MayCall cache s) sessions → All (λ (s : Session I J D E). IsOf cache s) sessions
all_of {I} {J} {D} {E} cache sessions may =
    All-weaker (λ (s : Session I J D E). MayCall cache s) (λ (s : Session I J D E). IsOf cache s) (λ s h. h.own) sessions may

pub may_at : {I J : Type 0} {D : I → Type 0} {E : J → Type 0} (s : Session I J D E) (k l : CacheState) → l ≡ k → MayCall k s → MayCall l s
may_at s k l same may = subst (λ (z : CacheState). MayCall z s) (sym same) may

-- A scene has one final state, and scenes that are alike have the same.
use Rattle.jc_explore.proofs.Common.{◌≡◌, ℕ, zero, suc, List, [], ◌∷◌, slice_get, sym, refl, ap, ◌∙◌, Bytes, Cache, entry_at, State, AreLike, WorldsAlike, EssencesTell, WorldState, home, entry_in, cached_entry, ThreadReply, FinalValue, IsFinal, ScenesAlike, SceneState}
use Rattle.std.specs.FinMap.{entries}
use Rattle.jc_model.proofs.CallerLemmas.{same_cache}
use Rattle.jc_world.specs.Audit.{differing}

cached-like : (ss ts : List State) (k : ℕ) (key : Bytes) → AreLike ss ts → entry_in (slice_get ss k) key ≡ entry_in (slice_get ts k) key
cached-like [] [] k key h = refl
cached-like [] (t ∷ ts) k key h = absurd h
cached-like (s ∷ ss) [] k key h = absurd h
cached-like (s ∷ ss) (t ∷ ts) zero key h = sym (ap (λ (x : State). entry_at x.cache key) h.0.is)
cached-like (s ∷ ss) (t ∷ ts) (suc k) key h = cached-like ss ts k key h.1

cached-alike : (w v : WorldState) (key : Bytes) → WorldsAlike w v → cached_entry w key ≡ cached_entry v key
cached-alike w v key h = cached-like w.stripes v.stripes (home w key) key h.alike ∙ sym (ap (λ (x : WorldState). cached_entry x key) h.is)

pub final-alike : EssencesTell → (s t : SceneState) (f : FinalValue) → ScenesAlike s t → IsFinal s f → IsFinal t f
final-alike tell s t f like h =
    let alike = tell s.world t.world like.world in
    record {
      cache = h.cache;
      cache_is = λ key. h.cache_is key ∙ cached-alike s.world t.world key alike;
      replies_are = h.replies_are ∙ like.replies;
      cached_are = h.cached_are;
      stored_are = h.stored_are ∙ sym (ap (λ (x : WorldState). entries x.store) alike.is);
      differing_are = h.differing_are ∙ sym (ap (λ (x : WorldState). differing x f.cache) alike.is);
    }

pub value-as : (f g : FinalValue) → f.replies ≡ g.replies → f.cache ≡ g.cache → f.store ≡ g.store → f.differing ≡ g.differing → f ≡ g
value-as f g a b c d =
    ap (λ (x : List ThreadReply). record f { replies = x }) a
    ∙ ap (λ (x : List (Bytes × Bytes)). record f { replies = g.replies; cache = x }) b
    ∙ ap (λ (x : List (Bytes × Bytes)). record f { replies = g.replies; cache = g.cache; store = x }) c
    ∙ ap (λ (x : List Bytes). record { replies = g.replies; cache = g.cache; store = g.store; differing = x }) d

pub final-unique : (s : SceneState) (f g : FinalValue) → IsFinal s f → IsFinal s g → f ≡ g
final-unique s f g a b =
    let one = same_cache a.cache b.cache (λ key. a.cache_is key ∙ sym (b.cache_is key)) in
    let cached = a.cached_are ∙ ap (λ (m : Cache). entries m) one ∙ sym b.cached_are in
    value-as f g (a.replies_are ∙ sym b.replies_are) cached (a.stored_are ∙ sym b.stored_are)
    (a.differing_are ∙ ap (λ (es : List (Bytes × Bytes)). differing s.world es) cached ∙ sym b.differing_are)

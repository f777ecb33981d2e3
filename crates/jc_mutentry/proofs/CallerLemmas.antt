-- What crates above may cite: an entry before the first call, what several calls make of a loader, and a choice by a test.
pub use Rattle.jc_mutentry.proofs.Lent.{given_match, absent_match}
use Rattle.std.proofs.Common.{◌≡◌, inl, inr, ℕ, List, [], ◌∷◌, Option, None, Some, Result, Ok, Err, false, ◌&&◌, is_none, refl, sym, ◌∙◌, subst}
use Rattle.jc_model.specs.Cache.{Bytes}
use Rattle.jc_model.specs.declared.event.LoadAnswer.{LoadAnswer}
use Rattle.jc_model.specs.declared.event.LoadAnswer.TheVariants as load
use Rattle.jc_model.specs.declared.processor.EntryCall.{EntryCall}
use Rattle.jc_model.specs.declared.processor.EntryAnswer.{EntryAnswer}
use Rattle.jc_outside.specs.Calling.{LoadRelation, load_answer}
use Rattle.jc_mutentry.specs.Entries.{EntryState, new_entry, IsAfter, Makes, LoadsOn}
use Rattle.jc_mutentry.proofs.Playing.{false-and, none-used}

-- no call was made on a new entry
pub after_none : (e : EntryState) → e ≡ new_entry e.initial e.may_load → IsAfter e [] []
after_none e h =
    subst (λ s. IsAfter s [] []) (sym h)
    (record { asked = sym (false-and (e.may_load && is_none e.initial)); net = sym (none-used (e.may_load && is_none e.initial && false)); answers_are = refl })

-- calls that leave the load leave the loader
pub loads_first : {L : Type 0} (loads : LoadRelation L) (state : L → List ℕ) (key : Bytes) (before mid after : LoadAnswer) (old new : L)
    → LoadsOn loads state key before mid old new → after ≡ mid → LoadsOn loads state key before after old new
loads_first loads state key before mid after old new on h = subst (λ a. LoadsOn loads state key before a old new) (sym h) on

answered : (returned : Result (Option Bytes) ℕ) (mid : LoadAnswer) → mid ≡ load_answer returned → mid ≡ load.NotAsked → ⊥
answered (Ok (Some value)) mid is none = let e = sym is ∙ none in cc
answered (Ok None) mid is none = let e = sym is ∙ none in cc
answered (Err code) mid is none = let e = sym is ∙ none in cc

-- two calls, one after the other, call the loader at most once
pub loads_then : {L : Type 0} (loads : LoadRelation L) (state : L → List ℕ) (key : Bytes) (before mid after : LoadAnswer) (old now new : L)
    → LoadsOn loads state key before mid old now → LoadsOn loads state key mid after now new → LoadsOn loads state key before after old new
loads_then loads state key before mid after old now new (inl same) (inl more) = inl (more.0 ∙ same.0, more.1 ∙ same.1)
loads_then loads state key before mid after old now new (inl same) (inr made) =
    inr (sym same.0 ∙ made.0, (made.1.0, made.1.1, subst (λ l. loads l key made.1.0 (state new)) same.1 made.1.2))
loads_then loads state key before mid after old now new (inr made) (inl more) =
    inr (made.0, (made.1.0, more.0 ∙ made.1.1, subst (λ l. loads old key made.1.0 (state l)) (sym more.1) made.1.2))
loads_then loads state key before mid after old now new (inr made) (inr again) = absurd (answered made.1.0 mid made.1.1 again.0)

-- so do four
pub four_loads : {L : Type 0} (loads : LoadRelation L) (state : L → List ℕ) (k0 k1 k2 k3 : Bytes) (a0 a1 a2 a3 a4 : LoadAnswer) (l0 l1 l2 l3 l4 : L) → k1 ≡ k0 → k2 ≡ k1 → k3 ≡ k2
    → LoadsOn loads state k0 a0 a1 l0 l1 → LoadsOn loads state k1 a1 a2 l1 l2 → LoadsOn loads state k2 a2 a3 l2 l3 → LoadsOn loads state k3 a3 a4 l3 l4
    → LoadsOn loads state k0 a0 a4 l0 l4
four_loads loads state k0 k1 k2 k3 a0 a1 a2 a3 a4 l0 l1 l2 l3 l4 s1 s2 s3 one two three four =
    loads_then loads state k0 a0 a1 a4 l0 l1 l4 one
    (loads_then loads state k0 a1 a2 a4 l1 l2 l4 (subst (λ k. LoadsOn loads state k a1 a2 l1 l2) s1 two)
    (loads_then loads state k0 a2 a3 a4 l2 l3 l4 (subst (λ k. LoadsOn loads state k a2 a3 l2 l3) (s2 ∙ s1) three)
    (subst (λ k. LoadsOn loads state k a3 a4 l3 l4) (s3 ∙ s2 ∙ s1) four)))

-- four calls on a new entry, and what they answered
pub four_calls : (e0 e1 e2 e3 e4 : EntryState) (c1 c2 c3 c4 : EntryCall) → e0 ≡ new_entry e0.initial e0.may_load
    → (a : EntryAnswer) × Makes e0 c1 a e1 → (a : EntryAnswer) × Makes e1 c2 a e2 → (a : EntryAnswer) × Makes e2 c3 a e3 → (a : EntryAnswer) × Makes e3 c4 a e4
    → (calls : List EntryCall) × (answers : List EntryAnswer) × IsAfter e4 calls answers × Unit {0}
four_calls e0 e1 e2 e3 e4 c1 c2 c3 c4 none one two three four =
    let first = one.1.after [] [] (after_none e0 none) in
    let second = two.1.after (c1 ∷ []) (one.0 ∷ []) first in
    let third = three.1.after (c1 ∷ c2 ∷ []) (one.0 ∷ two.0 ∷ []) second in
    (c1 ∷ c2 ∷ c3 ∷ c4 ∷ [], one.0 ∷ two.0 ∷ three.0 ∷ four.0 ∷ [], four.1.after (c1 ∷ c2 ∷ c3 ∷ []) (one.0 ∷ two.0 ∷ three.0 ∷ []) third, tt)

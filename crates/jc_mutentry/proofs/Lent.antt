-- A loader that was lent out of its box.
use Rattle.std.proofs.Common.{◌≡◌, inl, inr, ℕ, List, Bool, true, false, MatchBool, Option, None, Some, Result, Ok, Err, refl, sym, ap, subst, ◌∙◌}
use Rattle.jc_model.specs.Cache.{Bytes}
use Rattle.jc_model.specs.declared.event.LoadAnswer.{LoadAnswer}
use Rattle.jc_model.specs.declared.event.LoadAnswer.TheVariants as load
use Rattle.jc_model.specs.Table.{is_load_given}
use Rattle.jc_outside.specs.Calling.{LoadRelation, LoadsOnce, load_answer}
use Rattle.std.specs.declared.dyn_box.DynBox.{DynBox}
use Rattle.jc_mutentry.specs.Entries.{LoadsOn}
use Rattle.jc_mutentry.specs.Running.{LoadsIfGiven}

pub given_match : (b : Bool) (A B : Type 0) → b ≡ true → A → MatchBool b A B
given_match true A B h a = a
given_match false A B h a = cc

pub absent_match : (b : Bool) (A B : Type 0) → b ≡ false → B → MatchBool b A B
absent_match false A B h b = b
absent_match true A B h b = cc

answer_given : (returned : Result (Option Bytes) ℕ) → is_load_given (load_answer returned) ≡ true
answer_given (Ok (Some value)) = refl
answer_given (Ok None) = refl
answer_given (Err code) = refl

-- a loader that is lent for an entry that has loaded nothing, and what has it
lent : {L B : Type 0} (loads : LoadRelation L) (state : L → List ℕ) (key : Bytes) (before after : LoadAnswer) (old new : L)
    (box : L → B) (boxed_loads : LoadRelation B) (boxed_state : B → List ℕ) → before ≡ load.NotAsked
    → ((r : Result (Option Bytes) ℕ) → loads old key r (state new) → boxed_loads (box old) key r (boxed_state (box new)))
    → LoadsOn loads state key before after old new
    → MatchBool (is_load_given after) (LoadsOnce boxed_loads boxed_state (Some (box old)) key after (Some (box new))) (Some (box new) ≡ Some (box old))
lent loads state key before after old new box boxed_loads boxed_state e carry (inl same) =
    absent_match (is_load_given after) _ _ (ap is_load_given (same.0 ∙ e)) (ap (λ l. Some (box l)) same.1)
lent loads state key before after old new box boxed_loads boxed_state e carry (inr once) =
    given_match (is_load_given after) _ _ (ap is_load_given once.1.1 ∙ answer_given once.1.0)
    (once.1.0, once.1.1, carry once.1.0 once.1.2)

-- the box with another object in it
abbrev pub to_box : {I Z : Type 0} {D : I → Type 0} → DynBox I Z D → (i : I) × D i → DynBox I Z D
to_box b l = record { ptr = b.ptr; vtable = l.0; alloc = b.alloc; value = l.1 }

-- a session's loader that was lent out of its box
pub lent_box : {I Z : Type 0} {D : I → Type 0} (loads : LoadRelation ((i : I) × D i)) (state : (i : I) × D i → List ℕ)
    (key : Bytes) (before after : LoadAnswer) (whole : Option (DynBox I Z D)) (b : DynBox I Z D) (old new : (i : I) × D i)
    → before ≡ load.NotAsked → whole ≡ Some b → old ≡ (b.vtable, b.value) → LoadsOn loads state key before after old new
    → LoadsIfGiven (λ (x : DynBox I Z D). loads (x.vtable, x.value)) (λ (x : DynBox I Z D). state (x.vtable, x.value)) whole key after (Some (to_box b new))
lent_box {I = I} {Z = Z} {D = D} loads state key before after whole b old new e is at on =
    subst (λ (o : Option (DynBox I Z D)). LoadsIfGiven (λ (x : DynBox I Z D). loads (x.vtable, x.value)) (λ (x : DynBox I Z D). state (x.vtable, x.value)) o key after (Some (to_box b new)))
    (ap (λ l. Some (to_box b l)) at ∙ sym is)
    (lent loads state key before after old new (to_box b) (λ (x : DynBox I Z D). loads (x.vtable, x.value)) (λ (x : DynBox I Z D). state (x.vtable, x.value)) e (λ r x. x) on)

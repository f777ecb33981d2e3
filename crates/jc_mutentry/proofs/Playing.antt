-- Played calls, one after another.
use Rattle.std.proofs.Common.{◌≡◌, inl, inr, ℕ, List, [], ◌∷◌, ◌++◌, Bool, true, false, ◌&&◌, ◌||◌, cond, Option, None, Some, is_some, is_none, refl, sym, ap, subst, ◌∙◌}
use Rattle.std.specs.Option.{option_or, unwrap_or}
use Rattle.jc_model.specs.Cache.{Bytes}
use Rattle.jc_model.specs.declared.event.LoadAnswer.{LoadAnswer}
use Rattle.jc_model.specs.declared.event.LoadAnswer.TheVariants as load
use Rattle.jc_model.specs.declared.event.Effect.{Effect}
use Rattle.jc_model.specs.declared.event.Effect.TheVariants as effect
use Rattle.jc_model.specs.declared.processor.EntryCall.{EntryCall}
use Rattle.jc_model.specs.declared.processor.EntryCall.TheVariants.{GetValue, Exists, SetValue, Remove}
use Rattle.jc_model.specs.declared.processor.EntryAnswer.{EntryAnswer}
use Rattle.jc_model.specs.Table.{is_load_given}
use Rattle.jc_model.specs.Processor.{last_mutation, effect_of, has_get, uses_load, answer_if, failed_in, all_answers, net_effect, up_to_get, played_calls, answer_value, last_value}
use Rattle.jc_mutentry.specs.Entries.{EntryState, IsAfter, Makes}
use Rattle.jc_mutentry.specs.Inside.{is_load_failed}
use Rattle.jc_mutentry.specs.Playing.{played_answers, LoadsAs, IsPlayed}
use Rattle.jc_mutentry.proofs.LookingBack.{asks, uses-append, all-unused, or_none, or_assoc}
use Rattle.jc_model.proofs.CallerLemmas.{none_is}

-- 1. The calls up to the first `getValue`.

asks-up : (calls : List EntryCall) → asks (up_to_get calls) ≡ asks calls
asks-up [] = refl
asks-up (GetValue ∷ calls) = refl
asks-up (Exists ∷ calls) = asks-up calls
asks-up (SetValue v ∷ calls) = refl
asks-up (Remove ∷ calls) = refl

asks-get : (calls : List EntryCall) → asks calls ≡ true → has_get calls ≡ true
asks-get [] h = h
asks-get (GetValue ∷ calls) h = refl
asks-get (Exists ∷ calls) h = asks-get calls h
asks-get (SetValue v ∷ calls) h = cc
asks-get (Remove ∷ calls) h = cc

up-front : (calls more : List EntryCall) → has_get calls ≡ true → up_to_get (calls ++ more) ≡ up_to_get calls
up-front [] more h = cc
up-front (GetValue ∷ calls) more h = refl
up-front (Exists ∷ calls) more h = ap (λ cs. Exists ∷ cs) (up-front calls more h)
up-front (SetValue v ∷ calls) more h = ap (λ cs. SetValue v ∷ cs) (up-front calls more h)
up-front (Remove ∷ calls) more h = ap (λ cs. Remove ∷ cs) (up-front calls more h)

no_last : {A : Type 0} (o : Option A) (m : A) → option_or o (Some m) ≡ None → (T : Type 0) → T
no_last None m h T = cc
no_last (Some x) m h T = cc

or_nothing : {A : Type 0} (o : Option A) → option_or o None ≡ None → o ≡ None
or_nothing None h = refl
or_nothing (Some x) h = h

-- the first `getValue`, with no mutation before it
up-last : (calls : List EntryCall) (call : EntryCall) → last_mutation calls ≡ None → asks calls ≡ false → up_to_get (calls ++ call ∷ []) ≡ calls ++ call ∷ []
up-last [] GetValue m h = refl
up-last [] Exists m h = refl
up-last [] (SetValue v) m h = refl
up-last [] Remove m h = refl
up-last (GetValue ∷ calls) call m h = cc
up-last (Exists ∷ calls) call m h = ap (λ cs. Exists ∷ cs) (up-last calls call (or_nothing (last_mutation calls) m) h)
up-last (SetValue v ∷ calls) call m h = no_last (last_mutation calls) (Some v) m _
up-last (Remove ∷ calls) call m h = no_last (last_mutation calls) None m _

-- 2. The calls that are made.

-- whether a load of this answer fails in the calls
abbrev fails : Bool → Option Bytes → LoadAnswer → List EntryCall → Bool
fails rt i a calls = is_some (cond (uses_load rt i calls) (failed_in a) None)

made-asks : (b : Bool) (calls : List EntryCall) → asks (cond b (up_to_get calls) calls) ≡ asks calls
made-asks true calls = asks-up calls
made-asks false calls = refl

made-uses : (rt : Bool) (i : Option Bytes) (a : LoadAnswer) (calls : List EntryCall) → uses_load rt i (played_calls rt i a calls) ≡ uses_load rt i calls
made-uses rt i a calls = ap (λ b. rt && is_none i && b) (made-asks (fails rt i a calls) calls)

said-failed : (u : Bool) (a : LoadAnswer) → is_load_failed (answer_if u a) ≡ is_some (cond u (failed_in a) None)
said-failed true (load.Failed code) = refl
said-failed true load.NotAsked = refl
said-failed true (load.Found v) = refl
said-failed true load.Nothing = refl
said-failed false a = refl

both : (a b c : Bool) → a && b && c ≡ true → c ≡ true
both true true c h = h
both true false c h = cc
both false b c h = cc

used-some : (u : Bool) (o : Option ℕ) → is_some (cond u o None) ≡ true → (u ≡ true) × (is_some o ≡ true)
used-some true o h = (refl, h)
used-some false o h = cc

-- after a failed load a further call isn't made
pub made-stays : (rt : Bool) (i : Option Bytes) (a : LoadAnswer) (calls : List EntryCall) (call : EntryCall) → fails rt i a calls ≡ true
    → played_calls rt i a (calls ++ call ∷ []) ≡ played_calls rt i a calls
made-stays rt i a calls call h =
    let used = used-some (uses_load rt i calls) (failed_in a) h in
    let asked = both rt (is_none i) (asks calls) used.0 in
    let later = uses-append rt i calls (call ∷ []) ∙ ap (λ b. rt && is_none i && (b || (is_none (last_mutation calls) && asks (call ∷ [])))) asked
    ∙ sym (ap (λ b. rt && is_none i && b) asked) ∙ used.0 in
    ap (λ b. cond b (up_to_get (calls ++ call ∷ [])) (calls ++ call ∷ [])) (ap (λ u. is_some (cond u (failed_in a) None)) later ∙ used.1)
    ∙ up-front calls (call ∷ []) (asks-get calls asked)
    ∙ sym (ap (λ b. cond b (up_to_get calls) calls) h)

unused-none : (u : Bool) (o : Option ℕ) → is_some (cond u o None) ≡ false → is_some o ≡ true → u ≡ false
unused-none true None h s = cc
unused-none true (Some n) h s = cc
unused-none false o h s = refl

first-asked : (b c d f : Bool) → b && (c || (d && f)) ≡ true → b && c ≡ false → (c ≡ false) × (d ≡ true)
first-asked true true d f h n = cc
first-asked true false true f h n = (refl, refl)
first-asked true false false f h n = cc
first-asked false c d f h n = cc

-- until then each call is made, also the one whose load fails
pub made-more : (rt : Bool) (i : Option Bytes) (a : LoadAnswer) (calls : List EntryCall) (call : EntryCall) → fails rt i a calls ≡ false
    → played_calls rt i a (calls ++ call ∷ []) ≡ calls ++ call ∷ []
made-more rt i a calls call h =
    elim (fails rt i a (calls ++ call ∷ [])) as (λ b. fails rt i a (calls ++ call ∷ []) ≡ b → cond b (up_to_get (calls ++ call ∷ [])) (calls ++ call ∷ []) ≡ calls ++ call ∷ []) [
      | true ↦ λ f.
          let used = used-some (uses_load rt i (calls ++ call ∷ [])) (failed_in a) f in
          let first = first-asked (rt && is_none i) (asks calls) (is_none (last_mutation calls)) (asks (call ∷ []))
          (sym (uses-append rt i calls (call ∷ [])) ∙ used.0) (unused-none (uses_load rt i calls) (failed_in a) h used.1) in
          up-last calls call (none_is (last_mutation calls) first.1) first.0
      | false ↦ λ f. refl
    ] refl

-- 3. The values among the answers.

last_value-push : (answers : List EntryAnswer) (answer : EntryAnswer) → last_value (answers ++ answer ∷ []) ≡ option_or (answer_value answer) (last_value answers)
last_value-push [] answer = sym (or_none (answer_value answer))
last_value-push (x ∷ answers) answer = ap (λ o. option_or o (answer_value x)) (last_value-push answers answer) ∙ or_assoc (answer_value answer) (last_value answers) (answer_value x)

unwrap-or : {A : Type 0} (v l : Option A) (d : A) → unwrap_or (option_or v l) d ≡ unwrap_or v (unwrap_or l d)
unwrap-or None l d = refl
unwrap-or (Some x) l d = refl

-- 4. One call.

quiet : (e : EntryState) (a : LoadAnswer) (calls : List EntryCall) (answers : List EntryAnswer) (last : Option Bytes) (b : Bool)
    → IsPlayed e a calls answers last → is_load_failed e.load ≡ b → fails e.may_load e.initial a calls ≡ b
quiet e a calls answers last b p h =
    ap (λ u. is_some (cond u (failed_in a) None)) (sym (made-uses e.may_load e.initial a calls))
    ∙ sym (said-failed (uses_load e.may_load e.initial (played_calls e.may_load e.initial a calls)) a)
    ∙ sym (ap is_load_failed p.said) ∙ h

said-more : (a before after : LoadAnswer) (was is : Bool) → LoadsAs a before after → is_load_given a ≡ true
    → before ≡ answer_if was a → is_load_given before ≡ was → is_load_given after ≡ is → after ≡ answer_if is a
said-more a before after was is (inl h) given said w now = h ∙ said ∙ ap (λ u. answer_if u a) (sym w ∙ ap is_load_given (sym h) ∙ now)
said-more a before after was is (inr h) given said w now = h ∙ ap (λ u. answer_if u a) (sym given ∙ ap is_load_given (sym h) ∙ now)

pub play-more : (e n : EntryState) (a : LoadAnswer) (calls : List EntryCall) (call : EntryCall) (answers : List EntryAnswer) (answer : EntryAnswer) (last next : Option Bytes)
    → is_load_given a ≡ true → is_load_failed e.load ≡ false → Makes e call answer n → LoadsAs a e.load n.load → next ≡ unwrap_or (answer_value answer) last
    → IsPlayed e a calls answers last → IsPlayed n a (calls ++ call ∷ []) (answers ++ answer ∷ []) next
play-more e n a calls call answers answer last next given unfailed makes loads v p =
    let still = quiet e a calls answers last false p unfailed in
    let all = ap (λ b. cond b (up_to_get calls) calls) still in
    let now = makes.after calls answers (subst (λ cs. IsAfter e cs answers) all p.after) in
    let made = made-more n.may_load n.initial a calls call ((λ k. fails (makes.same.may_load k) (makes.same.initial k) a calls) ∙ still) in
    record {
      after = subst (λ cs. IsAfter n cs (answers ++ answer ∷ [])) (sym made) now;
      said = said-more a e.load n.load _ _ loads given p.said p.after.asked now.asked
          ∙ ap (λ cs. answer_if (uses_load n.may_load n.initial cs) a) (sym made);
      value = v ∙ ap (unwrap_or (answer_value answer)) p.value ∙ sym (ap (λ o. unwrap_or o None) (last_value-push answers answer) ∙ unwrap-or (answer_value answer) (last_value answers) None);
    }

pub play-failed : (e : EntryState) (a : LoadAnswer) (calls : List EntryCall) (call : EntryCall) (answers : List EntryAnswer) (last : Option Bytes)
    → is_load_failed e.load ≡ true → IsPlayed e a calls answers last → IsPlayed e a (calls ++ call ∷ []) answers last
play-failed e a calls call answers last failed p =
    let stays = made-stays e.may_load e.initial a calls call (quiet e a calls answers last true p failed) in
    record {
      after = subst (λ cs. IsAfter e cs answers) (sym stays) p.after;
      said = p.said ∙ ap (λ cs. answer_if (uses_load e.may_load e.initial cs) a) (sym stays);
      value = p.value;
    }

-- 5. Before the first call, and after the last.

pub false-and : (b : Bool) → b && false ≡ false
false-and true = refl
false-and false = refl

pub none-used : (b : Bool) → cond (is_some (cond b (failed_in load.NotAsked) None)) effect.Keep effect.Keep ≡ effect.Keep
none-used true = refl
none-used false = refl

pub played_answers-is : (e : EntryState) (a : LoadAnswer) (calls : List EntryCall) (answers : List EntryAnswer) (last : Option Bytes)
    → IsPlayed e a calls answers last → answers ≡ played_answers e.may_load e.initial a calls
played_answers-is e a calls answers last p =
    let made = played_calls e.may_load e.initial a calls in
    elim (uses_load e.may_load e.initial made) as (λ u. uses_load e.may_load e.initial made ≡ u → answers ≡ all_answers e.may_load e.initial a made) [
      | true ↦ λ h. p.after.answers_are ∙ ap (λ l. all_answers e.may_load e.initial l made) (p.said ∙ ap (λ u. answer_if u a) h)
      | false ↦ λ h. p.after.answers_are ∙ all-unused e.may_load e.initial e.load a made h
    ] refl

abbrev net_if : Bool → LoadAnswer → Option (Option Bytes) → Effect
net_if u a m = cond (is_some (cond u (failed_in a) None)) effect.Keep (effect_of m)

pub played-net : (e : EntryState) (a : LoadAnswer) (calls : List EntryCall) (answers : List EntryAnswer) (last : Option Bytes)
    → IsPlayed e a calls answers last → e.effect ≡ net_effect e.may_load e.initial a (played_calls e.may_load e.initial a calls)
played-net e a calls answers last p =
    let made = played_calls e.may_load e.initial a calls in
    elim (uses_load e.may_load e.initial made) as (λ u. uses_load e.may_load e.initial made ≡ u → e.effect ≡ net_effect e.may_load e.initial a made) [
      | true ↦ λ h. p.after.net ∙ ap (λ l. net_effect e.may_load e.initial l made) (p.said ∙ ap (λ u. answer_if u a) h)
      | false ↦ λ h. p.after.net ∙ ap (λ u. net_if u e.load (last_mutation made)) h ∙ sym (ap (λ u. net_if u a (last_mutation made)) h)
    ] refl

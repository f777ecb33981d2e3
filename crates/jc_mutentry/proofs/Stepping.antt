-- Each call on an entry is one more call of its list.
use Rattle.std.proofs.Common.{◌≡◌, ℕ, List, [], ◌∷◌, ◌++◌, Bool, true, false, not, ◌&&◌, ◌||◌, cond, Option, None, Some, Result, is_some, is_none, refl, sym, ap, subst, ◌∙◌}
use Rattle.std.specs.Option.{option_or}
use Rattle.jc_model.specs.Cache.{Bytes}
use Rattle.jc_model.specs.declared.event.LoadAnswer.{LoadAnswer}
use Rattle.jc_model.specs.declared.event.LoadAnswer.TheVariants as load
use Rattle.jc_model.specs.declared.event.Effect.{Effect}
use Rattle.jc_model.specs.declared.event.Effect.TheVariants as effect
use Rattle.jc_model.specs.declared.processor.EntryCall.{EntryCall}
use Rattle.jc_model.specs.declared.processor.EntryCall.TheVariants.{GetValue, Exists, SetValue, Remove}
use Rattle.jc_model.specs.declared.processor.EntryAnswer.{EntryAnswer}
use Rattle.jc_model.specs.declared.processor.EntryAnswer.TheVariants as told
use Rattle.jc_model.specs.Table.{is_load_given}
use Rattle.jc_model.specs.Processor.{mutation, last_mutation, effect_of, uses_load, failed_in, answer_after}
use Rattle.jc_mutentry.specs.declared.entry_core.GetOutcome.{GetOutcome}
use Rattle.jc_mutentry.specs.declared.entry_core.GetOutcome.TheVariants as outcome
use Rattle.jc_mutentry.specs.Entries.{EntryState, is_keep, asks_load, get_answer, IsSameEntry, IsAfter, Makes}
use Rattle.jc_mutentry.specs.GetOutcomes.{IsGetOutcome}
use Rattle.jc_mutentry.specs.Inside.{is_present, get_outcome, effect_after, get_result}
use Rattle.jc_mutentry.proofs.LookingBack.{last-push, asks, uses-append, all_answers-push, all-unused, get_by_use, exists_by_use}

-- 1. A call that doesn't ask for the value: the load is as it was.

-- the net effect, by whether the load is used and by the last mutation
abbrev net_of : LoadAnswer → Bool → Option (Option Bytes) → Effect
net_of a used m = cond (is_some (cond used (failed_in a) None)) effect.Keep (effect_of m)

unasked : (a b c : Bool) → a && (b || (c && false)) ≡ a && b
unasked true true c = refl
unasked true false true = refl
unasked true false false = refl
unasked false b c = refl

same_use : (e : EntryState) (calls : List EntryCall) (call : EntryCall) → asks (call ∷ []) ≡ false
    → uses_load e.may_load e.initial (calls ++ call ∷ []) ≡ uses_load e.may_load e.initial calls
same_use e calls call h =
    uses-append e.may_load e.initial calls (call ∷ [])
    ∙ ap (λ b. e.may_load && is_none e.initial && (asks calls || (is_none (last_mutation calls) && b))) h
    ∙ unasked (e.may_load && is_none e.initial) (asks calls) (is_none (last_mutation calls))

-- one more call, from what it does to the load, the net effect and the answers
one_more : (e : EntryState) (calls : List EntryCall) (answers : List EntryAnswer) (call : EntryCall) (answer : EntryAnswer) (next : Effect)
    → IsAfter e calls answers → asks (call ∷ []) ≡ false
    → next ≡ net_of e.load (is_load_given e.load) (option_or (mutation call) (last_mutation calls))
    → answer ≡ answer_after e.may_load e.initial e.load calls call
    → IsAfter (record e { effect = next }) (calls ++ call ∷ []) (answers ++ answer ∷ [])
one_more e calls answers call answer next after unasking n t = record {
  asked = after.asked ∙ sym (same_use e calls call unasking);
  net = n ∙ ap (λ u. net_of e.load u (option_or (mutation call) (last_mutation calls))) (after.asked ∙ sym (same_use e calls call unasking))
      ∙ ap (net_of e.load (uses_load e.may_load e.initial (calls ++ call ∷ []))) (sym (last-push calls call));
  answers_are = ap (λ a. answers ++ a ∷ []) t ∙ ap (λ front. front ++ answer_after e.may_load e.initial e.load calls call ∷ []) after.answers_are
      ∙ sym (all_answers-push e.may_load e.initial e.load calls call);
}

-- 2. `exists`.

-- the state answers as the list does
present-by_use : (i : Option Bytes) (a : LoadAnswer) (m : Option (Option Bytes)) → (is_load_given a ≡ true → i ≡ None)
    → told.Present (is_present i a (net_of a (is_load_given a) m)) ≡ exists_by_use i a m (is_load_given a)
present-by_use i load.NotAsked (Some None) none = refl
present-by_use i load.NotAsked (Some (Some v)) none = refl
present-by_use i load.Nothing (Some None) none = refl
present-by_use i load.Nothing (Some (Some v)) none = refl
present-by_use i (load.Found w) (Some None) none = refl
present-by_use i (load.Found w) (Some (Some v)) none = refl
present-by_use None load.NotAsked None none = refl
present-by_use (Some x) load.NotAsked None none = refl
present-by_use None load.Nothing None none = refl
present-by_use (Some x) load.Nothing None none = refl
present-by_use None (load.Found w) None none = refl
present-by_use (Some x) (load.Found w) None none = refl
present-by_use i (load.Failed code) m none = ap (λ o. told.Present (is_present o (load.Failed code) effect.Keep)) (none refl)

loaded_missing : (rt h : Bool) (i : Option Bytes) → rt && is_none i && h ≡ true → i ≡ None
loaded_missing rt h None e = refl
loaded_missing true h (Some x) e = cc
loaded_missing false h (Some x) e = cc

-- where the loader was asked, nothing was there
was_missing : (e : EntryState) (calls : List EntryCall) (answers : List EntryAnswer) → IsAfter e calls answers
    → is_load_given e.load ≡ true → e.initial ≡ None
was_missing e calls answers after given = loaded_missing e.may_load (asks calls) e.initial (sym after.asked ∙ given)

net_given : (e : EntryState) (calls : List EntryCall) (answers : List EntryAnswer) → IsAfter e calls answers
    → e.effect ≡ net_of e.load (is_load_given e.load) (last_mutation calls)
net_given e calls answers after = after.net ∙ ap (λ u. net_of e.load u (last_mutation calls)) (sym after.asked)

same : (e : EntryState) → IsSameEntry e e
same e = record { initial = refl; may_load = refl }

pub exists_makes : (e : EntryState) (there : Bool) → there ≡ is_present e.initial e.load e.effect → Makes e Exists (told.Present there) e
exists_makes e there h = record {
  same = same e;
  after = λ calls answers after.
      one_more e calls answers Exists (told.Present there) e.effect after refl
      (net_given e calls answers after)
      (ap told.Present h ∙ ap (λ n. told.Present (is_present e.initial e.load n)) (net_given e calls answers after)
      ∙ present-by_use e.initial e.load (last_mutation calls) (was_missing e calls answers after)
      ∙ ap (exists_by_use e.initial e.load (last_mutation calls)) after.asked);
}

-- 3. `setValue` and `remove`.

effect_after_net : (a : LoadAnswer) (m : Option (Option Bytes)) (v : Option Bytes)
    → effect_after a (net_of a (is_load_given a) m) (effect_of (Some v)) ≡ net_of a (is_load_given a) (Some v)
effect_after_net load.NotAsked m v = refl
effect_after_net load.Nothing m v = refl
effect_after_net (load.Found w) m v = refl
effect_after_net (load.Failed code) m v = refl

net_effect_after : (e : EntryState) (calls : List EntryCall) (answers : List EntryAnswer) (v : Option Bytes) → IsAfter e calls answers
    → effect_after e.load e.effect (effect_of (Some v)) ≡ net_of e.load (is_load_given e.load) (Some v)
net_effect_after e calls answers v after =
    ap (λ n. effect_after e.load n (effect_of (Some v))) (net_given e calls answers after) ∙ effect_after_net e.load (last_mutation calls) v

pub set_makes : (e : EntryState) (v : Bytes) (next : Effect) → next ≡ effect_after e.load e.effect (effect.Set v)
    → Makes e (SetValue v) told.Done (record e { effect = next })
set_makes e v next h = record {
  same = record { initial = refl; may_load = refl };
  after = λ calls answers after. one_more e calls answers (SetValue v) told.Done next after refl (h ∙ net_effect_after e calls answers (Some v) after) refl;
}

pub remove_makes : (e : EntryState) (next : Effect) → next ≡ effect_after e.load e.effect effect.Remove
    → Makes e Remove told.Done (record e { effect = next })
remove_makes e next h = record {
  same = record { initial = refl; may_load = refl };
  after = λ calls answers after. one_more e calls answers Remove told.Done next after refl (h ∙ net_effect_after e calls answers None after) refl;
}

-- 4. `getValue`.

-- what the state answers, beside what the list answers and whether it uses the load
abbrev GetFits : Bool → Option Bytes → LoadAnswer → Option (Option Bytes) → Bool → GetOutcome → Type 0
GetFits rt i a m used (outcome.Value v) = (used ≡ is_load_given a) × (told.Value v ≡ get_by_use rt i a m used)
GetFits rt i a m used (outcome.Failed code) = (used ≡ is_load_given a) × (told.Failed code ≡ get_by_use rt i a m used)
GetFits rt i a m used outcome.MustLoad = Unit {0}

-- whether the call uses the load
abbrev used_now : Bool → Option Bytes → Bool → Option (Option Bytes) → Bool
used_now rt i h m = rt && is_none i && (h || (is_none m && true))

get_fits : (rt h : Bool) (i : Option Bytes) (a : LoadAnswer) (m : Option (Option Bytes)) → is_load_given a ≡ rt && is_none i && h
    → GetFits rt i a m (used_now rt i h m) (get_outcome i rt a (net_of a (is_load_given a) m))
get_fits true true None (load.Found w) None e = (refl, refl)
get_fits true true None (load.Found w) (Some None) e = (refl, refl)
get_fits true true None (load.Found w) (Some (Some v)) e = (refl, refl)
get_fits true true None load.Nothing None e = (refl, refl)
get_fits true true None load.Nothing (Some None) e = (refl, refl)
get_fits true true None load.Nothing (Some (Some v)) e = (refl, refl)
get_fits true true None (load.Failed code) None e = (refl, refl)
get_fits true true None (load.Failed code) (Some None) e = (refl, refl)
get_fits true true None (load.Failed code) (Some (Some v)) e = (refl, refl)
get_fits true false None (load.Found w) m e = cc
get_fits true false None load.Nothing m e = cc
get_fits true false None (load.Failed code) m e = cc
get_fits true h (Some x) (load.Found w) m e = cc
get_fits true h (Some x) load.Nothing m e = cc
get_fits true h (Some x) (load.Failed code) m e = cc
get_fits false h i (load.Found w) m e = cc
get_fits false h i load.Nothing m e = cc
get_fits false h i (load.Failed code) m e = cc
get_fits true true None load.NotAsked m e = cc
get_fits true false None load.NotAsked None e = tt
get_fits true false None load.NotAsked (Some None) e = (refl, refl)
get_fits true false None load.NotAsked (Some (Some v)) e = (refl, refl)
get_fits true h (Some x) load.NotAsked None e = (refl, refl)
get_fits true h (Some x) load.NotAsked (Some None) e = (refl, refl)
get_fits true h (Some x) load.NotAsked (Some (Some v)) e = (refl, refl)
get_fits false h None load.NotAsked None e = (refl, refl)
get_fits false h None load.NotAsked (Some None) e = (refl, refl)
get_fits false h None load.NotAsked (Some (Some v)) e = (refl, refl)
get_fits false h (Some x) load.NotAsked None e = (refl, refl)
get_fits false h (Some x) load.NotAsked (Some None) e = (refl, refl)
get_fits false h (Some x) load.NotAsked (Some (Some v)) e = (refl, refl)

-- one more `getValue`, from whether it uses the load and what it answers
one_get : (e : EntryState) (calls : List EntryCall) (answers : List EntryAnswer) (answer : EntryAnswer) → IsAfter e calls answers
    → used_now e.may_load e.initial (asks calls) (last_mutation calls) ≡ is_load_given e.load
    → answer ≡ get_by_use e.may_load e.initial e.load (last_mutation calls) (used_now e.may_load e.initial (asks calls) (last_mutation calls))
    → IsAfter e (calls ++ GetValue ∷ []) (answers ++ answer ∷ [])
one_get e calls answers answer after used t =
    let now = uses-append e.may_load e.initial calls (GetValue ∷ []) in
    record {
      asked = sym (now ∙ used);
      net = net_given e calls answers after ∙ ap (λ u. net_of e.load u (last_mutation calls)) (sym (now ∙ used))
          ∙ ap (net_of e.load (uses_load e.may_load e.initial (calls ++ GetValue ∷ []))) (sym (last-push calls GetValue));
      answers_are = ap (λ a. answers ++ a ∷ []) (t ∙ ap (get_by_use e.may_load e.initial e.load (last_mutation calls)) (sym now))
          ∙ ap (λ front. front ++ answer_after e.may_load e.initial e.load calls GetValue ∷ []) after.answers_are
          ∙ sym (all_answers-push e.may_load e.initial e.load calls GetValue);
    }

fits_now : (e : EntryState) (g : GetOutcome) (calls : List EntryCall) (answers : List EntryAnswer) → g ≡ get_outcome e.initial e.may_load e.load e.effect
    → IsAfter e calls answers
    → GetFits e.may_load e.initial e.load (last_mutation calls) (used_now e.may_load e.initial (asks calls) (last_mutation calls)) g
fits_now e g calls answers h after =
    subst (GetFits e.may_load e.initial e.load (last_mutation calls) (used_now e.may_load e.initial (asks calls) (last_mutation calls)))
    (ap (get_outcome e.initial e.may_load e.load) (sym (net_given e calls answers after)) ∙ sym h)
    (get_fits e.may_load (asks calls) e.initial e.load (last_mutation calls) after.asked)

must_ask : (rt : Bool) (i : Option Bytes) (a : LoadAnswer) (n : Effect) → outcome.MustLoad ≡ get_outcome i rt a n
    → rt && is_none i && not (is_load_given a) && is_keep n ≡ true
must_ask true None load.NotAsked effect.Keep h = refl
must_ask true (Some x) load.NotAsked effect.Keep h = cc
must_ask false i load.NotAsked effect.Keep h = cc
must_ask rt i load.Nothing effect.Keep h = cc
must_ask rt i (load.Found v) effect.Keep h = cc
must_ask rt i (load.Failed code) effect.Keep h = cc
must_ask rt i a (effect.Set v) h = cc
must_ask rt i a effect.Remove h = cc

pub is_get_outcome : (e : EntryState) (g : GetOutcome) → g ≡ get_outcome e.initial e.may_load e.load e.effect → IsGetOutcome e g
is_get_outcome e (outcome.Value v) h = record {
  same = same e;
  after = λ calls answers after.
      let fits = fits_now e (outcome.Value v) calls answers h after in
      one_get e calls answers (told.Value v) after fits.0 fits.1;
}
is_get_outcome e (outcome.Failed code) h = record {
  same = same e;
  after = λ calls answers after.
      let fits = fits_now e (outcome.Failed code) calls answers h after in
      one_get e calls answers (told.Failed code) after fits.0 fits.1;
}
is_get_outcome e outcome.MustLoad h = must_ask e.may_load e.initial e.load e.effect h

-- 5. `getValue`, once the loader has answered.

-- an entry that asks its loader
abbrev Asking : Bool → Option Bytes → LoadAnswer → Effect → Type 0
Asking rt i a n = (rt ≡ true) × (i ≡ None) × (a ≡ load.NotAsked) × (n ≡ effect.Keep)

asking : (rt : Bool) (i : Option Bytes) (a : LoadAnswer) (n : Effect) → rt && is_none i && not (is_load_given a) && is_keep n ≡ true → Asking rt i a n
asking true None load.NotAsked effect.Keep h = (refl, refl, refl, refl)
asking true None load.NotAsked (effect.Set v) h = cc
asking true None load.NotAsked effect.Remove h = cc
asking true None load.Nothing n h = cc
asking true None (load.Found v) n h = cc
asking true None (load.Failed code) n h = cc
asking true (Some x) a n h = cc
asking false i a n h = cc

unmutated_yet : (m : Option (Option Bytes)) → effect.Keep ≡ effect_of m → m ≡ None
unmutated_yet None h = refl
unmutated_yet (Some None) h = cc
unmutated_yet (Some (Some v)) h = cc

get_answer-by_use : (a : LoadAnswer) → is_load_given a ≡ true → get_answer (get_result a) ≡ get_by_use true None a None true
get_answer-by_use (load.Found v) h = refl
get_answer-by_use load.Nothing h = refl
get_answer-by_use (load.Failed code) h = refl
get_answer-by_use load.NotAsked h = cc

net_loaded : (a : LoadAnswer) (u : Bool) → effect.Keep ≡ net_of a u None
net_loaded load.NotAsked true = refl
net_loaded load.Nothing true = refl
net_loaded (load.Found v) true = refl
net_loaded (load.Failed code) true = refl
net_loaded a false = refl

used_first : (h : Bool) → h || true ≡ true
used_first true = refl
used_first false = refl

-- from an entry of which nothing is known but that it asks
loaded : (a : LoadAnswer) (calls : List EntryCall) (answers : List EntryAnswer) → is_load_given a ≡ true
    → IsAfter (record { initial = None; may_load = true; load = load.NotAsked; effect = effect.Keep }) calls answers
    → IsAfter (record { initial = None; may_load = true; load = a; effect = effect.Keep }) (calls ++ GetValue ∷ []) (answers ++ get_answer (get_result a) ∷ [])
loaded a calls answers given after =
    let unused = sym after.asked in
    let first = unmutated_yet (last_mutation calls) (after.net ∙ ap (λ u. net_of load.NotAsked u (last_mutation calls)) unused) in
    let now = uses-append true None calls (GetValue ∷ []) ∙ ap (λ m. asks calls || (is_none m && true)) first ∙ used_first (asks calls) in
    record {
      asked = given ∙ sym now;
      net = net_loaded a (uses_load true None (calls ++ GetValue ∷ []))
          ∙ ap (net_of a (uses_load true None (calls ++ GetValue ∷ []))) (sym (last-push calls GetValue ∙ first));
      answers_are = ap (λ t. answers ++ t ∷ []) (get_answer-by_use a given ∙ ap (λ u. get_by_use true None a None u) (sym now)
          ∙ ap (λ m. get_by_use true None a m (uses_load true None (calls ++ GetValue ∷ []))) (sym first))
          ∙ ap (λ front. front ++ answer_after true None a calls GetValue ∷ []) (after.answers_are ∙ all-unused true None load.NotAsked a calls unused)
          ∙ sym (all_answers-push true None a calls GetValue);
    }

-- the entry that asks is of this form
abbrev at_first : EntryState
at_first = record { initial = None; may_load = true; load = load.NotAsked; effect = effect.Keep }

is_first : (e : EntryState) → Asking e.may_load e.initial e.load e.effect → e ≡ at_first
is_first e at = λ i. record { initial = at.1 i; may_load = at.0 i; load = at.2 i; effect = at.3 i }

load_asked : (e : EntryState) (a : LoadAnswer) → asks_load e ≡ true → is_load_given a ≡ true
    → Makes e GetValue (get_answer (get_result a)) (record e { load = a })
load_asked e a h given =
    let path = is_first e (asking e.may_load e.initial e.load e.effect h) in
    record {
      same = record { initial = refl; may_load = refl };
      after = λ calls answers after.
          subst (λ s. IsAfter s (calls ++ GetValue ∷ []) (answers ++ get_answer (get_result a) ∷ [])) (sym (ap (λ (s : EntryState). record s { load = a }) path))
          (loaded a calls answers given (subst (λ s. IsAfter s calls answers) path after));
    }

pub load_makes : (e : EntryState) (a : LoadAnswer) (r : Result (Option Bytes) ℕ) → asks_load e ≡ true → is_load_given a ≡ true → r ≡ get_result a
    → Makes e GetValue (get_answer r) (record e { load = a })
load_makes e a r h given q = subst (λ r. Makes e GetValue (get_answer r) (record e { load = a })) (sym q) (load_asked e a h given)

-- What a list of entry calls means after one more call.
use Rattle.std.proofs.Common.{◌≡◌, List, [], ◌∷◌, ◌++◌, Bool, true, false, ◌&&◌, ◌||◌, cond, Option, None, Some, is_some, is_none, refl, sym, ap, ◌∙◌}
use Rattle.std.specs.Option.{option_or, unwrap_or}
use Rattle.std.specs.Prelude.{option_map}
use Rattle.std.proofs.lemmas.List.{append_assoc, append-nil}
use Rattle.jc_model.specs.Cache.{Bytes}
use Rattle.jc_model.specs.declared.event.LoadAnswer.{LoadAnswer}
use Rattle.jc_model.specs.declared.processor.EntryCall.{EntryCall}
use Rattle.jc_model.specs.declared.processor.EntryCall.TheVariants.{GetValue, Exists, SetValue, Remove}
use Rattle.jc_model.specs.declared.processor.EntryAnswer.{EntryAnswer}
use Rattle.jc_model.specs.Processor.{mutation, last_mutation, is_get, has_get, before_mutation, uses_load, failed_in, found_in, value_or_fault, answer_after, answers_after, all_answers}
use Rattle.jc_model.specs.declared.processor.EntryAnswer.TheVariants.{Present}

pub or_none : {A : Type 0} (o : Option A) → option_or o None ≡ o
or_none None = refl
or_none (Some x) = refl

pub or_assoc : {A : Type 0} (a b c : Option A) → option_or (option_or a b) c ≡ option_or a (option_or b c)
or_assoc None b c = refl
or_assoc (Some x) b c = refl

-- the last mutation, after one more call
pub last-push : (calls : List EntryCall) (call : EntryCall) → last_mutation (calls ++ call ∷ []) ≡ option_or (mutation call) (last_mutation calls)
last-push [] call = sym (or_none (mutation call))
last-push (c ∷ calls) call = ap (λ o. option_or o (mutation c)) (last-push calls call) ∙ or_assoc (mutation call) (last_mutation calls) (mutation c)

-- a `getValue` before any mutation, in two lists together
abbrev pub asks : List EntryCall → Bool
asks calls = has_get (before_mutation calls)

asks-behind : (c : EntryCall) (m : Option (Option Bytes)) (a b : Bool)
    → is_get c || (a || (is_none m && b)) ≡ (is_get c || a) || (is_none (option_or m None) && b)
asks-behind GetValue None a b = refl
asks-behind GetValue (Some m) a b = refl
asks-behind Exists None a b = refl
asks-behind Exists (Some m) a b = refl
asks-behind (SetValue value) None a b = refl
asks-behind (SetValue value) (Some m) a b = refl
asks-behind Remove None a b = refl
asks-behind Remove (Some m) a b = refl

mutated-behind : {A : Type 0} (o : Option A) (m : A) (b : Bool) → false ≡ is_none (option_or o (Some m)) && b
mutated-behind None m b = refl
mutated-behind (Some x) m b = refl

pub asks-append : (calls more : List EntryCall) → asks (calls ++ more) ≡ asks calls || (is_none (last_mutation calls) && asks more)
asks-append [] more = refl
asks-append (GetValue ∷ calls) more = refl
asks-append (Exists ∷ calls) more = asks-append calls more ∙ asks-behind Exists (last_mutation calls) (asks calls) (asks more)
asks-append (SetValue value ∷ calls) more = mutated-behind (last_mutation calls) (Some value) (asks more)
asks-append (Remove ∷ calls) more = mutated-behind (last_mutation calls) None (asks more)

-- the answers, after one more call
answers_after-push : (rt : Bool) (i : Option Bytes) (a : LoadAnswer) (before calls : List EntryCall) (call : EntryCall)
    → answers_after rt i a before (calls ++ call ∷ []) ≡ answers_after rt i a before calls ++ answer_after rt i a (before ++ calls) call ∷ []
answers_after-push rt i a before [] call = ap (λ b. answer_after rt i a b call ∷ []) (sym (append-nil before))
answers_after-push rt i a before (c ∷ calls) call =
    ap (λ rest. answer_after rt i a before c ∷ rest)
    (answers_after-push rt i a (before ++ c ∷ []) calls call
    ∙ ap (λ b. answers_after rt i a (before ++ c ∷ []) calls ++ answer_after rt i a b call ∷ []) (append_assoc before (c ∷ []) calls))

pub all_answers-push : (rt : Bool) (i : Option Bytes) (a : LoadAnswer) (calls : List EntryCall) (call : EntryCall)
    → all_answers rt i a (calls ++ call ∷ []) ≡ all_answers rt i a calls ++ answer_after rt i a calls call ∷ []
all_answers-push rt i a calls call = answers_after-push rt i a [] calls call

-- 2. A load that isn't used doesn't matter.

pub uses-append : (rt : Bool) (i : Option Bytes) (calls more : List EntryCall)
    → uses_load rt i (calls ++ more) ≡ rt && is_none i && (asks calls || (is_none (last_mutation calls) && asks more))
uses-append rt i calls more = ap (λ b. rt && is_none i && b) (asks-append calls more)

first-unused : (a b c : Bool) → a && (b || c) ≡ false → a && b ≡ false
first-unused true true c e = e
first-unused true false c e = refl
first-unused false b c e = refl

-- what a call for the value answers, by whether it uses the load
abbrev pub get_by_use : Bool → Option Bytes → LoadAnswer → Option (Option Bytes) → Bool → EntryAnswer
get_by_use rt i a m used = value_or_fault (cond used (failed_in a) None) (unwrap_or m (option_or i (cond rt (found_in a) None)))

get-unused : (rt : Bool) (i : Option Bytes) (a b : LoadAnswer) (m : Option (Option Bytes)) (h : Bool)
    → rt && is_none i && (h || (is_none m && true)) ≡ false → get_by_use rt i a m false ≡ get_by_use rt i b m false
get-unused rt i a b (Some m) h e = refl
get-unused rt (Some x) a b None h e = refl
get-unused false None a b None h e = refl
get-unused true None a b None true e = cc
get-unused true None a b None false e = cc

abbrev pub exists_by_use : Option Bytes → LoadAnswer → Option (Option Bytes) → Bool → EntryAnswer
exists_by_use i a m used = Present (is_none (cond used (failed_in a) None) && unwrap_or (option_map is_some m) (is_some i || (used && is_some (found_in a))))

answer_after-unused : (rt : Bool) (i : Option Bytes) (a b : LoadAnswer) (before : List EntryCall) (call : EntryCall) (more : List EntryCall)
    → uses_load rt i (before ++ call ∷ more) ≡ false → answer_after rt i a before call ≡ answer_after rt i b before call
answer_after-unused rt i a b before GetValue more e =
    let unused = sym (uses-append rt i before (GetValue ∷ more)) ∙ e in
    ap (get_by_use rt i a (last_mutation before)) (uses-append rt i before (GetValue ∷ []) ∙ unused)
    ∙ get-unused rt i a b (last_mutation before) (asks before) unused
    ∙ ap (get_by_use rt i b (last_mutation before)) (sym (uses-append rt i before (GetValue ∷ []) ∙ unused))
answer_after-unused rt i a b before Exists more e =
    let unused = first-unused (rt && is_none i) (asks before) _ (sym (uses-append rt i before (Exists ∷ more)) ∙ e) in
    ap (exists_by_use i a (last_mutation before)) unused ∙ ap (exists_by_use i b (last_mutation before)) (sym unused)
answer_after-unused rt i a b before (SetValue value) more e = refl
answer_after-unused rt i a b before Remove more e = refl

after-unused : (rt : Bool) (i : Option Bytes) (a b : LoadAnswer) (before calls : List EntryCall)
    → uses_load rt i (before ++ calls) ≡ false → answers_after rt i a before calls ≡ answers_after rt i b before calls
after-unused rt i a b before [] e = refl
after-unused rt i a b before (call ∷ calls) e =
    ap (λ t. t ∷ answers_after rt i a (before ++ call ∷ []) calls) (answer_after-unused rt i a b before call calls e)
    ∙ ap (λ rest. answer_after rt i b before call ∷ rest)
    (after-unused rt i a b (before ++ call ∷ []) calls (ap (uses_load rt i) (append_assoc before (call ∷ []) calls) ∙ e))

pub all-unused : (rt : Bool) (i : Option Bytes) (a b : LoadAnswer) (calls : List EntryCall)
    → uses_load rt i calls ≡ false → all_answers rt i a calls ≡ all_answers rt i b calls
all-unused rt i a b calls e = after-unused rt i a b [] calls e

-- A record of a legal history at a key, made from the history.
use Rattle.std.proofs.Common.{◌≡◌, ◌≤◌, ℕ, zero, suc, inl, List, [], ◌∷◌, ◌++◌, length, Bool, true, false, ◌&&◌, ◌||◌, Option, Some, None, is_some, is_none, Ok, Err, slice_get, sym, subst, ap, refl, ◌∙◌, arith, length-append}
use Rattle.std.specs.Bool.{beq}
use Rattle.std.specs.List.{list_all}
use Rattle.std.specs.FinMap.{from_entries}
use Rattle.std.specs.Global.{Vec}
use Rattle.std.proofs.lemmas.Bool.{and_parts}
use Rattle.jc_types.specs.declared.config.Config.{Config}
use Rattle.jc_model.specs.declared.event.Effect.TheVariants as effect
use Rattle.jc_model.specs.declared.event.Event.{Event}
use Rattle.jc_model.specs.declared.event.Event.TheVariants.{Step, Evict}
use Rattle.jc_model.specs.declared.event.LoadAnswer.{LoadAnswer}
use Rattle.jc_model.specs.declared.event.LoadAnswer.TheVariants as load
use Rattle.jc_model.specs.declared.event.Op.{Op}
use Rattle.jc_model.specs.declared.event.Op.TheVariants.{Get, ContainsKey, Put, GetAndPut, PutIfAbsent, Remove, RemoveIf, GetAndRemove, Replace, ReplaceIf, GetAndReplace, Clear, LoadAll, Invoke}
use Rattle.jc_model.specs.declared.event.Out.{Out}
use Rattle.jc_model.specs.declared.event.ProcessAnswer.{ProcessAnswer}
use Rattle.jc_model.specs.declared.event.ProcessAnswer.TheVariants as process
use Rattle.jc_model.specs.declared.event.WriteAnswer.{WriteAnswer}
use Rattle.jc_model.specs.declared.processor.EntryAnswer.{EntryAnswer}
use Rattle.jc_model.specs.declared.processor.EntryCall.{EntryCall}
use Rattle.jc_model.specs.declared.processor.EntryCall.TheVariants as entry_call
use Rattle.jc_model.specs.Cache.{Bytes, entry_at}
use Rattle.jc_model.specs.Group.{nothing_said}
use Rattle.jc_model.specs.Legal.{Legal}
use Rattle.jc_model.specs.Processor.{all_answers, failed_in}
use Rattle.jc_model.specs.Table.{answers_fit, early_fault, is_invoke, is_load_given, is_process_given, is_write_given, load_fits, loader_ask, wanted_if, write_ask}
use Rattle.jc_check.specs.declared.record.EntrySight.{EntrySight}
use Rattle.jc_check.specs.declared.record.Recorded.{Recorded}
use Rattle.jc_check.specs.declared.record.Role.TheVariants as role
use Rattle.jc_check.specs.declared.record.Rules.{Rules}
use Rattle.jc_check.specs.declared.record.Spot.{Spot}
use Rattle.jc_check.specs.declared.record.Stored.TheVariants.{Unknown}
use Rattle.jc_check.specs.Recording.{HasRun, IsRecordOf, IsRun, IsStepAt, Tells, asked_change, entry_after_event, entry_before, is_at, heeds_failed_load, keeps_entry}
use Rattle.jc_check.proofs.RecordedTurns.{key-at, leaves-if}
use Rattle.jc_check.proofs.RecordedWalks.{EventFits, FitsIf, Walks, is-key, lawful-walks, spot_if}

no : false ≡ true → ⊥
no h = cc

-- 1. A processor that read the entry if its loader was asked, and then mutated it once if it has an effect.

abbrev reads : LoadAnswer → List EntryCall
reads load.NotAsked = []
reads (load.Found value) = entry_call.GetValue ∷ []
reads load.Nothing = entry_call.GetValue ∷ []
reads (load.Failed code) = entry_call.GetValue ∷ []

abbrev mutations : ProcessAnswer → List EntryCall
mutations process.NotAsked = []
mutations (process.Failed code) = []
mutations (process.Ended effect.Keep outcome) = []
mutations (process.Ended (effect.Set value) outcome) = entry_call.SetValue value ∷ []
mutations (process.Ended effect.Remove outcome) = entry_call.Remove ∷ []

abbrev sights_with : List EntryCall → List EntryAnswer → List EntrySight
sights_with [] answers = []
sights_with (call ∷ calls) [] = []
sights_with (call ∷ calls) (answer ∷ answers) = record { call = call; answer = answer } ∷ sights_with calls answers

abbrev sights_for : Bool → Option Bytes → Out → List EntrySight
sights_for read_through entry out =
    sights_with (reads out.load ++ mutations out.process) (all_answers read_through entry out.load (reads out.load ++ mutations out.process))

run-loaded : (w : WriteAnswer) (l : LoadAnswer) (p : ProcessAnswer) → is_load_given l && is_process_given p ≡ true
    → (is_none (failed_in l) || keeps_entry p) ≡ true
    → IsRun true None (sights_for true None (record { load = l; write = w; process = p })) (record { load = l; write = w; process = p })
run-loaded w load.NotAsked p given heeded = absurd (no given)
run-loaded w (load.Found found) (process.Ended effect.Keep outcome) given heeded = record { answers = refl; load = refl; returned = Ok outcome; process = refl }
run-loaded w (load.Found found) (process.Ended (effect.Set value) outcome) given heeded = record { answers = refl; load = refl; returned = Ok outcome; process = refl }
run-loaded w (load.Found found) (process.Ended effect.Remove outcome) given heeded = record { answers = refl; load = refl; returned = Ok outcome; process = refl }
run-loaded w (load.Found found) (process.Failed code) given heeded = record { answers = refl; load = refl; returned = Err code; process = refl }
run-loaded w load.Nothing (process.Ended effect.Keep outcome) given heeded = record { answers = refl; load = refl; returned = Ok outcome; process = refl }
run-loaded w load.Nothing (process.Ended (effect.Set value) outcome) given heeded = record { answers = refl; load = refl; returned = Ok outcome; process = refl }
run-loaded w load.Nothing (process.Ended effect.Remove outcome) given heeded = record { answers = refl; load = refl; returned = Ok outcome; process = refl }
run-loaded w load.Nothing (process.Failed code) given heeded = record { answers = refl; load = refl; returned = Err code; process = refl }
run-loaded w (load.Failed error) (process.Ended effect.Keep outcome) given heeded = record { answers = refl; load = refl; returned = Ok outcome; process = refl }
run-loaded w (load.Failed error) (process.Ended (effect.Set value) outcome) given heeded = absurd (no heeded)
run-loaded w (load.Failed error) (process.Ended effect.Remove outcome) given heeded = absurd (no heeded)
run-loaded w (load.Failed error) (process.Failed code) given heeded = record { answers = refl; load = refl; returned = Err code; process = refl }
run-loaded w (load.Found found) process.NotAsked given heeded = absurd (no given)
run-loaded w load.Nothing process.NotAsked given heeded = absurd (no given)
run-loaded w (load.Failed error) process.NotAsked given heeded = absurd (no given)

run-alone : (read_through : Bool) (entry : Option Bytes) (w : WriteAnswer) (p : ProcessAnswer) → is_process_given p ≡ true
    → IsRun read_through entry (sights_for read_through entry (record { load = load.NotAsked; write = w; process = p }))
    (record { load = load.NotAsked; write = w; process = p })
run-alone false entry w (process.Ended effect.Keep outcome) given = record { answers = refl; load = refl; returned = Ok outcome; process = refl }
run-alone false entry w (process.Ended (effect.Set value) outcome) given = record { answers = refl; load = refl; returned = Ok outcome; process = refl }
run-alone false entry w (process.Ended effect.Remove outcome) given = record { answers = refl; load = refl; returned = Ok outcome; process = refl }
run-alone false entry w (process.Failed code) given = record { answers = refl; load = refl; returned = Err code; process = refl }
run-alone false entry w process.NotAsked given = absurd (no given)
run-alone true None w (process.Ended effect.Keep outcome) given = record { answers = refl; load = refl; returned = Ok outcome; process = refl }
run-alone true None w (process.Ended (effect.Set value) outcome) given = record { answers = refl; load = refl; returned = Ok outcome; process = refl }
run-alone true None w (process.Ended effect.Remove outcome) given = record { answers = refl; load = refl; returned = Ok outcome; process = refl }
run-alone true None w (process.Failed code) given = record { answers = refl; load = refl; returned = Err code; process = refl }
run-alone true None w process.NotAsked given = absurd (no given)
run-alone true (Some held) w (process.Ended effect.Keep outcome) given = record { answers = refl; load = refl; returned = Ok outcome; process = refl }
run-alone true (Some held) w (process.Ended (effect.Set value) outcome) given = record { answers = refl; load = refl; returned = Ok outcome; process = refl }
run-alone true (Some held) w (process.Ended effect.Remove outcome) given = record { answers = refl; load = refl; returned = Ok outcome; process = refl }
run-alone true (Some held) w (process.Failed code) given = record { answers = refl; load = refl; returned = Err code; process = refl }
run-alone true (Some held) w process.NotAsked given = absurd (no given)

run-of : (read_through : Bool) (entry : Option Bytes) (l : LoadAnswer) (w : WriteAnswer) (p : ProcessAnswer)
    → load_fits (wanted_if (read_through && is_none entry)) (is_load_given l) ≡ true → is_process_given p ≡ true
    → (is_none (failed_in l) || keeps_entry p) ≡ true
    → IsRun read_through entry (sights_for read_through entry (record { load = l; write = w; process = p })) (record { load = l; write = w; process = p })
run-of read_through entry load.NotAsked w p fits given heeded = run-alone read_through entry w p given
run-of true None (load.Found value) w p fits given heeded = run-loaded w (load.Found value) p given heeded
run-of true None load.Nothing w p fits given heeded = run-loaded w load.Nothing p given heeded
run-of true None (load.Failed code) w p fits given heeded = run-loaded w (load.Failed code) p given heeded
run-of true (Some held) (load.Found value) w p fits given heeded = absurd (no fits)
run-of true (Some held) load.Nothing w p fits given heeded = absurd (no fits)
run-of true (Some held) (load.Failed code) w p fits given heeded = absurd (no fits)
run-of false entry (load.Found value) w p fits given heeded = absurd (no fits)
run-of false entry load.Nothing w p fits given heeded = absurd (no fits)
run-of false entry (load.Failed code) w p fits given heeded = absurd (no fits)

beq-yes : (b : Bool) → beq b true ≡ true → b ≡ true
beq-yes true h = refl
beq-yes false h = cc

invoke-run : (config : Config) (entry : Option Bytes) (out : Out) → answers_fit config Invoke entry out ≡ true
    → (is_none (failed_in out.load) || keeps_entry out.process) ≡ true → IsRun config.read_through entry (sights_for config.read_through entry out) out
invoke-run config entry out answers heeded =
    let asked : Bool = load_fits (loader_ask config.read_through Invoke entry) (is_load_given out.load) in
    let ran : Bool = beq (is_process_given out.process) (is_invoke Invoke) in
    let both = and_parts (asked && ran)
    (beq (is_write_given out.write) (config.write_through && is_none (early_fault out) && is_some (write_ask Invoke entry out.process))) answers in
    let parts = and_parts asked ran both.0 in
    run-of config.read_through entry out.load out.write out.process parts.0 (beq-yes (is_process_given out.process) parts.1) heeded

has-run : (config : Config) (o : Op) (entry : Option Bytes) (out : Out) → answers_fit config o entry out ≡ true
    → (is_none (failed_in out.load) || keeps_entry out.process) ≡ true
    → HasRun (is_invoke o) config.read_through entry (sights_for config.read_through entry out) out
has-run config Invoke entry out answers heeded = invoke-run config entry out answers heeded
has-run config Get entry out answers heeded = tt
has-run config ContainsKey entry out answers heeded = tt
has-run config (Put value) entry out answers heeded = tt
has-run config (GetAndPut value) entry out answers heeded = tt
has-run config (PutIfAbsent value) entry out answers heeded = tt
has-run config Remove entry out answers heeded = tt
has-run config (RemoveIf old) entry out answers heeded = tt
has-run config GetAndRemove entry out answers heeded = tt
has-run config (Replace value) entry out answers heeded = tt
has-run config (ReplaceIf old new) entry out answers heeded = tt
has-run config (GetAndReplace value) entry out answers heeded = tt
has-run config Clear entry out answers heeded = tt
has-run config (LoadAll replace) entry out answers heeded = tt

-- 2. The call of a step. `some` is any call: its list of sights is given others.

le-self : (n : ℕ) → n ≤ n
le-self n = omega arith

one-read : (l : LoadAnswer) → length (reads l) ≤ 1
one-read load.NotAsked = omega arith
one-read (load.Found value) = omega arith
one-read load.Nothing = omega arith
one-read (load.Failed code) = omega arith

one-mutation : (p : ProcessAnswer) → length (mutations p) ≤ 1
one-mutation process.NotAsked = omega arith
one-mutation (process.Failed code) = omega arith
one-mutation (process.Ended effect.Keep outcome) = omega arith
one-mutation (process.Ended (effect.Set value) outcome) = omega arith
one-mutation (process.Ended effect.Remove outcome) = omega arith

as-many : (calls : List EntryCall) (answers : List EntryAnswer) → length (sights_with calls answers) ≤ length calls
as-many [] answers = omega arith
as-many (call ∷ calls) [] = omega arith
as-many (call ∷ calls) (answer ∷ answers) = omega (arith, as-many calls answers)

few-sights : (read_through : Bool) (entry : Option Bytes) (out : Out) → length (sights_for read_through entry out) ≤ 2
few-sights read_through entry out =
    let calls : List EntryCall = reads out.load ++ mutations out.process in
    omega (arith, as-many calls (all_answers read_through entry out.load calls), length-append (reads out.load) (mutations out.process), one-read out.load, one-mutation out.process)

abbrev sights_of : Recorded → (sights : List EntrySight) → length sights ≤ 2 → Vec EntrySight
sights_of some sights few =
    record some.sights { items = sights; len = length sights; cap = length sights; ok = (refl, le-self (length sights)); small = omega (arith, few) }

abbrev call_of_event : Recorded → Bool → Option Bytes → Event → Recorded
call_of_event some read_through entry (Step caller op key out None reply) =
    record some {
      role = role.Call;
      thread = caller.session;
      began = caller.call;
      op = op;
      out = out;
      change = asked_change op out;
      sights = sights_of some (sights_for read_through entry out) (few-sights read_through entry out);
      reply = Some reply;
    }
call_of_event some read_through entry (Step caller op key out (Some place) reply) =
    record some {
      role = role.Call;
      thread = caller.session;
      began = caller.call;
      op = op;
      out = nothing_said;
      change = None;
      reply = Some reply;
    }
call_of_event some read_through entry (Evict key cause) = some

abbrev own_clock : ℕ → ℕ → ℕ
own_clock session call = call

-- who shares a load has made a `get`, and so has run no processor
no-run : (o : Op) (read_through : Bool) (entry : Option Bytes) (sights : List EntrySight) (out : Out) → o ≡ Get
    → HasRun (is_invoke o) read_through entry sights out
no-run o read_through entry sights out is = subst (λ (x : Op). HasRun (is_invoke x) read_through entry sights out) (sym is) tt

tells-event : (some : Recorded) (config : Config) (rules : Rules) (key : Bytes) (s : Spot) (entry : Option Bytes) (e : Event) → rules.config ≡ config
    → s.entry ≡ entry → EventFits rules s e → heeds_failed_load e ≡ true → IsStepAt key (Some e)
    → Tells own_clock config.read_through entry (Some e) (Some (call_of_event some config.read_through entry e))
tells-event some config rules key s entry (Evict gone cause) same is fits heeded at = absurd at
tells-event some config rules key s entry (Step caller op own out None reply) same is fits heeded at =
    let answers : answers_fit config op entry out ≡ true =
    sym (ap (λ (x : Config). answers_fit x op s.entry out) same ∙ ap (λ (x : Option Bytes). answers_fit config op x out) is) ∙ fits.0 in
    inl (record {
      role = refl;
      thread = refl;
      began = refl;
      op_is = refl;
      out_is = refl;
      change = refl;
      run = has-run config op entry out answers heeded;
      reply_is = refl;
    })
tells-event some config rules key s entry (Step caller op own out (Some place) reply) same is fits heeded at =
    record {
      role = refl;
      thread = refl;
      began = refl;
      op_is = refl;
      out_is = refl;
      change = refl;
      run = no-run op config.read_through entry some.sights.items nothing_said fits.0;
      reply_is = refl;
    }

-- 3. The calls of all steps at the key, in the order of the history.

abbrev is_step : Event → Bool
is_step (Step caller op key out shared reply) = true
is_step (Evict key cause) = false

abbrev step_at : Bytes → Event → Bool
step_at key e = is_at key e && is_step e

abbrev more_if : Bool → Recorded → List Recorded → List Recorded
more_if true c calls = c ∷ calls
more_if false c calls = calls

abbrev records : Recorded → Bool → Bytes → Option Bytes → List Event → List Recorded
records some read_through key entry [] = []
records some read_through key entry (e ∷ es) =
    more_if (step_at key e) (call_of_event some read_through entry e) (records some read_through key (entry_after_event key entry e) es)

abbrev suc_if : Bool → ℕ → ℕ
suc_if true n = suc n
suc_if false n = n

abbrev call_in : Bytes → List Event → ℕ → ℕ
call_in key [] k = 0
call_in key (e ∷ es) zero = 0
call_in key (e ∷ es) (suc k) = suc_if (step_at key e) (call_in key es k)

abbrev place_if : Bool → (ℕ → ℕ) → ℕ → ℕ
place_if false f i = suc (f i)
place_if true f zero = 0
place_if true f (suc i) = suc (f i)

abbrev place_in : Bytes → List Event → ℕ → ℕ
place_in key [] i = 0
place_in key (e ∷ es) i = place_if (step_at key e) (λ j. place_in key es j) i

is-step-at : (key : Bytes) (e : Event) → IsStepAt key (Some e) → step_at key e ≡ true
is-step-at key (Evict gone cause) at = absurd at
is-step-at key (Step caller op own out shared reply) at = ap (λ (b : Bool). b && true) (key-at own key at)

step-is-at : (key : Bytes) (e : Event) → step_at key e ≡ true → IsStepAt key (Some e)
step-is-at key (Evict gone cause) h = absurd (no (sym (and-no (is_at key (Evict gone cause))) ∙ h))
  where
    and-no : (b : Bool) → (b && false) ≡ false
    and-no true = refl
    and-no false = refl
step-is-at key (Step caller op own out shared reply) h = is-key own key (and_parts (is_at key (Step caller op own out shared reply)) true h).0

first-of : (b : Bool) (c : Recorded) (calls : List Recorded) → b ≡ true → slice_get (more_if b c calls) 0 ≡ Some c
first-of true c calls h = refl
first-of false c calls h = absurd (no h)

later-of : (b : Bool) (c : Recorded) (calls : List Recorded) (n : ℕ) → slice_get (more_if b c calls) (suc_if b n) ≡ slice_get calls n
later-of true c calls n = refl
later-of false c calls n = refl

fits-at : (b : Bool) (rules : Rules) (s : Spot) (e : Event) → b ≡ true → FitsIf b rules s e → EventFits rules s e
fits-at true rules s e h fits = fits
fits-at false rules s e h fits = absurd (no h)

tells-all : (some : Recorded) (config : Config) (rules : Rules) (key : Bytes) (es : List Event) (s : Spot) (entry : Option Bytes) (p : ℕ)
    → rules.config ≡ config → s.entry ≡ entry → Walks rules key s es → list_all heeds_failed_load es ≡ true → IsStepAt key (slice_get es p)
    → Tells own_clock config.read_through (entry_before key entry es p) (slice_get es p)
    (slice_get (records some config.read_through key entry es) (call_in key es p))
tells-all some config rules key [] s entry p same is walks heeded at = absurd at
tells-all some config rules key (e ∷ es) s entry zero same is walks heeded at =
    let here = and_parts (is_at key e) (is_step e) (is-step-at key e at) in
    subst (Tells own_clock config.read_through entry (Some e))
    (sym (first-of (step_at key e) (call_of_event some config.read_through entry e) (records some config.read_through key (entry_after_event key entry e) es)
    (is-step-at key e at)))
    (tells-event some config rules key s entry e same is (fits-at (is_at key e) rules s e here.0 walks.0)
    (and_parts (heeds_failed_load e) (list_all heeds_failed_load es) heeded).0 at)
tells-all some config rules key (e ∷ es) s entry (suc k) same is walks heeded at =
    subst (Tells own_clock config.read_through (entry_before key (entry_after_event key entry e) es k) (slice_get es k))
    (sym (later-of (step_at key e) (call_of_event some config.read_through entry e) (records some config.read_through key (entry_after_event key entry e) es)
    (call_in key es k)))
    (tells-all some config rules key es (spot_if (is_at key e) rules s e) (entry_after_event key entry e) k same
    (leaves-if (is_at key e) rules s e entry is) walks.1 (and_parts (heeds_failed_load e) (list_all heeds_failed_load es) heeded).1 at)

place-zero : (b : Bool) (f : ℕ → ℕ) → b ≡ true → place_if b f 0 ≡ 0
place-zero true f h = refl
place-zero false f h = absurd (no h)

place-suc : (b : Bool) (f : ℕ → ℕ) (n : ℕ) → place_if b f (suc_if b n) ≡ suc (f n)
place-suc true f n = refl
place-suc false f n = refl

own-places : (key : Bytes) (es : List Event) (p : ℕ) → IsStepAt key (slice_get es p) → place_in key es (call_in key es p) ≡ p
own-places key [] p at = absurd at
own-places key (e ∷ es) zero at = place-zero (step_at key e) (λ j. place_in key es j) (is-step-at key e at)
own-places key (e ∷ es) (suc k) at =
    place-suc (step_at key e) (λ j. place_in key es j) (call_in key es k) ∙ ap suc (own-places key es k at)

none-some : (c : Recorded) → None ≡ Some c → ⊥
none-some c h = subst IsNone h tt
  where
    IsNone : Option Recorded → Type 0
    IsNone None = Unit {0}
    IsNone (Some x) = ⊥

abbrev IsOwn : Bytes → List Event → ℕ → Type 0
IsOwn key es i = IsStepAt key (slice_get es (place_in key es i)) × (call_in key es (place_in key es i) ≡ i)

abbrev IsOwnIf : Bool → Bytes → Event → List Event → ℕ → Type 0
IsOwnIf b key e es i =
    IsStepAt key (slice_get (e ∷ es) (place_if b (λ j. place_in key es j) i)) × (call_in key (e ∷ es) (place_if b (λ j. place_in key es j) i) ≡ i)

own-if : (b : Bool) (key : Bytes) (e : Event) (es : List Event) (first : Recorded) (calls : List Recorded) (i : ℕ) (c : Recorded) → step_at key e ≡ b
    → ((j : ℕ) → slice_get calls j ≡ Some c → IsOwn key es j) → slice_get (more_if b first calls) i ≡ Some c → IsOwnIf b key e es i
own-if false key e es first calls i c is rest h =
    let one = rest i h in (one.0, ap (λ (b : Bool). suc_if b (call_in key es (place_in key es i))) is ∙ one.1)
own-if true key e es first calls zero c is rest h = (step-is-at key e is, refl)
own-if true key e es first calls (suc j) c is rest h =
    let one = rest j h in (one.0, ap (λ (b : Bool). suc_if b (call_in key es (place_in key es j))) is ∙ ap suc one.1)

own-calls : (some : Recorded) (read_through : Bool) (key : Bytes) (es : List Event) (entry : Option Bytes) (i : ℕ) (c : Recorded)
    → slice_get (records some read_through key entry es) i ≡ Some c → IsOwn key es i
own-calls some read_through key [] entry i c h = absurd (none-some c h)
own-calls some read_through key (e ∷ es) entry i c h =
    own-if (step_at key e) key e es (call_of_event some read_through entry e) (records some read_through key (entry_after_event key entry e) es) i c refl
    (λ j at. own-calls some read_through key es (entry_after_event key entry e) j c at) h

-- 4. They are a record.

pub legal-recorded : (config : Config) (opening : List (Bytes × Bytes)) (events : List Event) (key : Bytes) (some : Recorded) → Legal config opening events
    → list_all heeds_failed_load events ≡ true → (calls : List Recorded) × IsRecordOf config key (entry_at (from_entries opening) key) events calls
legal-recorded config opening events key some legal heeded = (
  records some config.read_through key entry events,
  record {
    clock = own_clock;
    forward = λ session m n less. less;
    call = call_in key events;
    place = place_in key events;
    tells = λ p at. tells-all some config rules key events spot entry p refl refl walks heeded at;
    own = λ p at. own-places key events p at;
    steps = λ i c at must. (own-calls some config.read_through key events entry i c at).0;
    inside = λ i c at must. (own-calls some config.read_through key events entry i c at).1;
  },
)
  where
    entry : Option Bytes
    entry = entry_at (from_entries opening) key

    rules : Rules
    rules = record { config = config; is_store_known = false; may_vanish = true; is_real = false }

    spot : Spot
    spot = record { entry = entry; store = Unknown; shared = load.NotAsked }

    walks : Walks rules key spot events
    walks =
        subst (Walks rules key spot) (sym legal.history.spelled)
        (lawful-walks config rules key legal.history.parts (from_entries opening) 0 spot
        (record { read = refl; write = refl; table = refl; program = refl; vanish = refl }) refl legal.history.lawful)

-- Each event keeps what the parts and the store of a world say.
use Rattle.jc_world.proofs.Asked.{asked_heard, asked_answer, asked_change, asked_report, asked_run, unwritten_load, unwritten_run, unchanged_run}
use Rattle.jc_world.proofs.Processors.{WrittenFor, run_given}
use Rattle.std.proofs.lemmas.Bool.{not-false}
use Rattle.jc_world.proofs.Common.{T, Invoke, not, not-true, or_parts, effect_change, is_unanswered, with_loaded, FitsAsked, IsDueIn, ChangeAgrees, WriteAgrees, Nobody, Processor, ◌≡◌, ℕ, Bool, true, false, cond, ◌&&◌, List, [], ◌∷◌, ◌++◌, is_some, is_none, IsSomeAnd, slice_get, slice_set, Some, None, Option, ◌||◌, find, sym, refl, ap, ◌∙◌, subst, and_parts, nat_list_cmp_total, beq, texts_ties, empty, get-empty, get, insert, remove, get-insert, get-remove, eq_by_cmp, Caller, Config, same_key, get-with_entry, Bytes, Cache, entry_at, with_entry, key_cmp, nothing_said, write_only, found_in, holds, write_ask, is_write_given, entry_after, Change, Event, LoadAnswer, Op, ProcessAnswer, WriteAnswer, EntryCall, callers_of, ProcessResult, Claim, asks_invoking, change_due, Steps, Begins, after_commit, Commits, Withdraws, AllAsk, first_asked, State, is_key, is_reserved, without_key, IsOut, asks_processor, Begun, StepDone, First, Loader, Writer, Reservation, Command, Part, Premises, PartProgress, Shown, WorldEvent, CallState, new_call, has_number, op_at, opened, settle, drop_call, Coherent, CoherentAsTold, all_hold, with_stripe, with_phase, step_of, fault_in, without_call, new_part, with_part, without_part, after_answer, with_heard, foreign_committed, with_change, after_change, with_report, after_report, run_result, progress_after, after_process, may_leave, fits, changed_to, is_true_load, is_done, is_true_report, is_agreed, IsHeld, Agrees, LoadAgrees, ProgressAgrees, PartAgrees, KeyAgrees, IsSoundWorld, Parts, join_key, Joins, WorldState, home, stripe_for, entry_in, cached_entry, open_call, part_of, has_progress, waits_for_load, waits_for_process, waits_for_report, is_all_answered, is_untouched, has_changed, is_misled, writer_change, out_of_part, with_stored, is_foreign, has_any, with_foreign, without_foreign, with_doubt}
use Rattle.jc_world.proofs.Lemmas.{denied, missing, HasParts, is_some_and, picking, at_stripe, stripe_put, home_stripe, split, tied, agrees_stepped, writes, loads_asked, writes_asked, loads, asks_nobody, found_more, out_reserved, new_out, found_left, invoke_is, agrees_processed, agrees_effect, KeyChange, by_nothing, by_refusal, by_step, by_reservation, by_join, by_commit, by_withdrawal, by_mark, by_answer, by_retry, some_of, Drop, with_dropped, dropped_entry, dropped_others, dropped_none}
use Rattle.jc_stripe.specs.Invalidating.{without_entry}
use Rattle.jc_world.proofs.Holding.{call_on, is_part}
use Rattle.jc_world.proofs.Maps.{keys_ordered, each_put}

-- 1. Small facts.

-- a part is held by a stripe, which is there
abbrev HeldIn : Option State → Bytes → Part → Type 0
HeldIn o key part = IsSomeAnd o (λ s. IsHeld s key part)

-- these parts are held in a world
abbrev AllHeld : WorldState → Parts → Type 0
AllHeld w parts = (key : Bytes) (part : Part) → get parts key ≡ Some part → HeldIn (stripe_for w key) key part

-- and what is known of them, with this store, if nobody else has written them
abbrev AllTold : WorldState → Parts → Cache → Cache → Type 0
AllTold w parts store foreign = (key : Bytes) → is_some (entry_at foreign key) ≡ false → KeyAgrees (get parts key) (entry_at store key) (cached_entry w key)

-- a key is none of those that others have written, if it is none of them without another one
still_foreign : (m : Cache) (key q : Bytes) (over : Bool) → eq_by_cmp key_cmp q key ≡ false → is_some (entry_at (without_foreign m key over) q) ≡ false → is_some (entry_at m q) ≡ false
still_foreign m key q false apart f = f
still_foreign m key q true apart f = sym (ap is_some (get-with_entry m key None q ∙ ap (λ b. cond b None (entry_at m q)) apart)) ∙ f

-- and if it is none of them with another one, which is another key then
less_foreign : (m : Cache) (key q : Bytes) → is_some (entry_at (with_foreign m key) q) ≡ false → (eq_by_cmp key_cmp q key ≡ false) × (is_some (entry_at m q) ≡ false)
less_foreign m key q f =
    elim (is_some (entry_at m key)) as (λ b. is_some (entry_at m key) ≡ b → is_some (entry_at (cond b m (with_entry m key (Some []))) q) ≡ false → (eq_by_cmp key_cmp q key ≡ false) × (is_some (entry_at m q) ≡ false)) [
      | true ↦ λ is f. (split q key (λ b. b ≡ false) (λ same. let t : true ≡ false = sym is ∙ ap (λ k. is_some (entry_at m k)) (sym same) ∙ f in cc) (λ apart. refl), f)
      | false ↦ λ is f. split q key (λ b. is_some (cond b (Some []) (entry_at m q)) ≡ false → (b ≡ false) × (is_some (entry_at m q) ≡ false)) (λ same f. absurd (let t : true ≡ false = f in cc)) (λ apart f. (refl, f)) (sym (ap is_some (get-with_entry m key (Some []) q)) ∙ f)
    ] refl f

-- a doubt about a key is none about another
other_doubted : (m : Cache) (key q : Bytes) (misled : Bool) → eq_by_cmp key_cmp q key ≡ false → is_some (entry_at (with_doubt m key misled) q) ≡ false → is_some (entry_at m q) ≡ false
other_doubted m key q true apart f = (less_foreign m key q f).1
other_doubted m key q false apart f = f

-- without a doubt nobody has lied
undoubted : (m : Cache) (key : Bytes) (misled : Bool) → is_some (entry_at (with_doubt m key misled) key) ≡ false → (misled ≡ false) × (is_some (entry_at m key) ≡ false)
undoubted m key true f = absurd (let t : false ≡ true = sym (less_foreign m key key f).0 ∙ tied key in cc)
undoubted m key false f = (refl, f)

-- what holds of what is there holds of what follows from it
pub some_map : {A : Type 0} (o : Option A) (P Q : A → Type 0) → ((x : A) → P x → Q x) → IsSomeAnd o P → IsSomeAnd o Q
some_map None P Q f h = h
some_map (Some x) P Q f h = f x h

-- and the other way round
of_some : {A : Type 0} (o : Option A) (P : A → Type 0) (x : A) → o ≡ Some x → IsSomeAnd o P → P x
of_some o P x e h = subst (λ o. IsSomeAnd o P) e h

-- an entry that is the same as what is stored agrees with it
agrees_same : (o : Option Bytes) → Agrees o o
agrees_same None = tt
agrees_same (Some x) = refl

-- a value that is held is there
pub holds_same : (stored : Option Bytes) (value : Bytes) → holds stored value ≡ true → stored ≡ Some value
holds_same None value h = cc
holds_same (Some x) value h = ap Some (same_key x value (sym (texts_ties x value) ∙ h))

-- what an honest loader found is what is stored
true_found : (answer : LoadAnswer) (stored : Option Bytes) → is_true_load answer stored ≡ true → Agrees (found_in answer) stored
true_found (LoadAnswer.Found value) stored h = holds_same stored value h
true_found answer stored h = tt

-- tests that answer alike are the same
same_test : (a b : Bool) → beq a b ≡ true → b ≡ a
same_test true false h = cc
same_test false true h = cc
same_test a b h = refl

-- what a key's part, its entry and the store say, if the entry is changed
told_on : (o : Option Part) (stored entry next : Option Bytes) → (Agrees entry stored → Agrees next stored) → KeyAgrees o stored entry → KeyAgrees o stored next
told_on None stored entry next f h = f h
told_on (Some part) stored entry next f h = record { kept = λ e. f (h.kept e); honest = λ m. go part.progress.change (h.honest m) }
  where
    go : (c : Option Change) → ChangeAgrees c part.progress stored entry → ChangeAgrees c part.progress stored next
    go None h = record { loaded = h.loaded; unwritten = f h.unwritten }
    go (Some change) h = record { written = h.written; unwritten = λ e. f (h.unwritten e); honest = h.honest }

-- nothing cached and no part say nothing
told_none : (o : Option Part) (stored entry : Option Bytes) → o ≡ None → entry ≡ None → KeyAgrees o stored entry
told_none None stored None h k = tt
told_none o stored entry h k = cc

-- what is known of a key with this part
told_at : (o : Option Part) (part : Part) (stored entry : Option Bytes) → o ≡ Some part → KeyAgrees o stored entry → PartAgrees part.progress stored entry
told_at o part stored entry e h = let P : Option Part → Type 0 = λ o. KeyAgrees o stored entry in subst P e h

-- whether it was honest doesn't count
agrees_heard : (p : PartProgress) (was honest : Bool) (stored entry : Option Bytes) → ProgressAgrees p stored entry → ProgressAgrees (with_heard p was honest) stored entry
agrees_heard p was honest stored entry h = go p.change h
  where
    go : (c : Option Change) → ChangeAgrees c p stored entry → ChangeAgrees c (with_heard p was honest) stored entry
    go None h = record { loaded = h.loaded; unwritten = h.unwritten }
    go (Some change) h = record { written = h.written; unwritten = h.unwritten; honest = h.honest }

-- 2. What is known of a sound world.

-- each key has a stripe
pub stripe_at : (w : WorldState) (key : Bytes) → IsSoundWorld w → (s : State) × (stripe_for w key ≡ Some s)
stripe_at w key old = home_stripe w key old.shape

-- a key's part is held by its stripe
pub held_at : (w : WorldState) (key : Bytes) (part : Part) (s : State) → get w.parts key ≡ Some part → stripe_for w key ≡ Some s → IsSoundWorld w → IsHeld s key part
held_at w key part s there at old = of_some (stripe_for w key) (λ s. IsHeld s key part) s at (old.held key part there)

-- the key of a part that is held is reserved
is_out_reserved : (s : State) (key : Bytes) (part : Part) → IsHeld s key part → is_reserved s key ≡ true
is_out_reserved s key part h = ap (is_reserved s) (sym h.key_is) ∙ out_reserved part.reservation.key part.reservation s.reservations h.out

-- a key that is not reserved has no part
pub unheld : (w : WorldState) (key : Bytes) (s : State) → stripe_for w key ≡ Some s → is_reserved s key ≡ false → IsSoundWorld w → get w.parts key ≡ None
unheld w key s at free old = missing (get w.parts key) (λ p e. let t = is_out_reserved s key p (held_at w key p s e at old) in cc)

-- if no call is under way, none is found
none_under : (call : ℕ) (calls : List CallState) (u : CallState) → calls ≡ [] → find (has_number call) calls ≡ Some u → ⊥
none_under call calls u none h = let e : None ≡ Some u = ap (find (has_number call)) (sym none) ∙ h in cc

-- a call is under way, so one has begun
begun_before : (w : WorldState) (call : ℕ) (u : CallState) → open_call w call ≡ Some u → IsSoundWorld w → w.is_fresh ≡ true → ⊥
begun_before w call u is old none = none_under call w.calls u (old.idle none) is

-- nor is it if a key has a part
worn : (w : WorldState) (key : Bytes) (part : Part) → get w.parts key ≡ Some part → IsSoundWorld w → w.is_fresh ≡ true → ⊥
worn w key part there old none =
    let on = some_of (open_call w part.reservation.caller.call) (λ u. op_at u key ≡ Some part.reservation.op) (call_on w key part there old) in
    begun_before w part.reservation.caller.call on.0 on.1 old none

-- all stripes have the configuration of the world
config_at : (w : WorldState) (number : ℕ) (s : State) → slice_get w.stripes number ≡ Some s → IsSoundWorld w → s.config ≡ w.config
config_at w number s at old = (old.shape.each number s at).config_is

-- 3. A part is put in place.

-- a further part is held, and all the others
held_insert : (w : WorldState) (parts : Parts) (key : Bytes) (new : Part) → AllHeld w parts → HeldIn (stripe_for w key) key new → AllHeld w (insert parts key new)
held_insert w parts key new all one = each_put keys_ordered (λ q part. HeldIn (stripe_for w q) q part) parts key new one all

-- what is known of a further part, and of all the others
told_insert : (w : WorldState) (parts : Parts) (store foreign : Cache) (key : Bytes) (new : Part)
    → ((q : Bytes) → eq_by_cmp key_cmp q key ≡ false → is_some (entry_at foreign q) ≡ false → KeyAgrees (get parts q) (entry_at store q) (cached_entry w q))
    → (is_some (entry_at foreign key) ≡ false → PartAgrees new.progress (entry_at store key) (cached_entry w key)) → AllTold w (insert parts key new) store foreign
told_insert w parts store foreign key new all one q f =
    rw (get-insert nat_list_cmp_total parts key new q)
    (split q key (λ b. KeyAgrees (cond b (Some new) (get parts q)) (entry_at store q) (cached_entry w q))
    (λ same. let Q : Bytes → Type 0 = λ k. is_some (entry_at foreign k) ≡ false → PartAgrees new.progress (entry_at store k) (cached_entry w k) in subst Q (sym same) one f)
    (λ apart. all q apart f))

-- 4. Answers, changes and reports.

-- what is known once the loader has answered
told_load : (p : PartProgress) (answer : LoadAnswer) (stored entry : Option Bytes) → p.change ≡ None → Agrees (found_in answer) stored → ProgressAgrees p stored entry → ProgressAgrees (with_loaded p answer) stored entry
told_load p answer stored entry none found h =
    let was : LoadAgrees p.out.load stored entry = subst (λ c. ChangeAgrees c p stored entry) none h in
    let new : LoadAgrees answer stored entry = record { loaded = found; unwritten = was.unwritten } in
    subst (λ c. ChangeAgrees c (with_loaded p answer) stored entry) (sym none) new

-- once the processor has run
told_run : (p : PartProgress) (change : Option Change) (done : ProcessResult Claim) (stored entry : Option Bytes) → p.change ≡ None → Agrees (found_in done.load) stored → ProgressAgrees p stored entry → ProgressAgrees (progress_after change done) stored entry
told_run p change done stored entry none found h =
    let was : LoadAgrees p.out.load stored entry = subst (λ c. ChangeAgrees c p stored entry) none h in
    go change was.unwritten
  where
    go : (change : Option Change) → Agrees entry stored → ProgressAgrees (progress_after change done) stored entry
    go None u = record { loaded = found; unwritten = u }
    go (Some change) u = record { written = λ e. absurd (let t : false ≡ true = e in cc); unwritten = λ e. u; honest = λ e. absurd (let t : false ≡ true = e in cc) }

-- once the writer has changed the store
told_change : (p : PartProgress) (change : Change) (entry : Option Bytes) → not (is_write_given p.out.write) ≡ true → p.change ≡ Some change → ProgressAgrees (with_change p) (changed_to change) entry
told_change p change entry due asks =
    let new : ChangeAgrees (Some change) (with_change p) (changed_to change) entry = record {
      written = λ e. refl;
      unwritten = λ e. absurd (let t : true ≡ false = e in cc);
      honest = λ e. absurd (denied _ due e);
    } in
    subst (λ c. ChangeAgrees c (with_change p) (changed_to change) entry) (sym asks) new

-- and once it has returned
told_report : (p : PartProgress) (report : WriteAnswer) (stored entry : Option Bytes) → is_some p.change ≡ true → is_true_report report p.is_changed ≡ true → ProgressAgrees p stored entry → ProgressAgrees (with_report p report) stored entry
told_report p report stored entry due honest h = go p.change due h
  where
    go : (c : Option Change) → is_some c ≡ true → ChangeAgrees c p stored entry → ChangeAgrees c (with_report p report) stored entry
    go None due h = cc
    go (Some change) due h = record { written = h.written; unwritten = h.unwritten; honest = λ e. same_test p.is_changed (is_done report) honest }

-- whom a part's reservation asks first, what was told of it is of
asked_at : (w : WorldState) (key : Bytes) (part : Part) → get w.parts key ≡ Some part → IsSoundWorld w → FitsAsked part.reservation.first part.progress
asked_at w key part there old = (some_of (stripe_for w key) (λ s. IsHeld s key part) (old.held key part there)).2.asked

-- a held key stays held: whom it asked stays, and what is then known of all keys holds
parts_progressed : (w : WorldState) (call : ℕ) (key : Bytes) (part : Part) (p : PartProgress) (store foreign : Cache) (premises : Premises) → part_of w call key ≡ Some part
    → (FitsAsked part.reservation.first part.progress → FitsAsked part.reservation.first p)
    → (all_hold (record w { premises = premises }) ≡ true → AllTold w (insert w.parts key (record part { progress = p })) store foreign) → IsSoundWorld w
    → HasParts (record w { store = store; foreign = foreign; parts = insert w.parts key (record part { progress = p }); premises = premises })
parts_progressed w call key part p store foreign premises is asks told old =
    let new : Part = record part { progress = p } in
    let there = is_part (get w.parts key) call part is in
    record {
      held = held_insert w w.parts key new old.held
          (some_map (stripe_for w key) (λ s. IsHeld s key part) (λ s. IsHeld s key new) (λ s h. record { key_is = h.key_is; out = h.out; asked = asks h.asked }) (old.held key part there));
      told = told;
      cold = λ f. absurd (worn w key part there old f);
      idle = old.idle;
    }

-- the loader has answered
pub parts_answered : (w : WorldState) (call : ℕ) (key : Bytes) (part : Part) (answer : LoadAnswer) → part_of w call key ≡ Some part → has_progress waits_for_load (part_of w call key) ≡ true → IsSoundWorld w → HasParts (after_answer w key part answer)
parts_answered w call key part answer is waits old =
    let there = is_part (get w.parts key) call part is in
    let due : waits_for_load part ≡ true = sym (ap (has_progress waits_for_load) is) ∙ waits in
    let stored = entry_at w.store key in
    let honest = is_true_load answer stored in
    let loaded = with_loaded part.progress answer in
    parts_progressed w call key part (with_heard loaded (is_misled part) honest) w.store w.foreign (after_answer w key part answer).premises is
    (λ h. asked_heard part.reservation.first loaded (is_misled part) honest (asked_answer part.reservation.first part.progress answer (and_parts _ _ due).0 h))
    (λ hold.
    let one : is_foreign w key ≡ false → PartAgrees part.progress stored (cached_entry w key) = λ f. told_at (get w.parts key) part stored (cached_entry w key) there (old.told hold key f) in
    told_insert w w.parts w.store w.foreign key (record part { progress = with_heard loaded (is_misled part) honest }) (λ q apart. old.told hold q)
    (λ f. record {
      kept = (one f).kept;
      honest = λ m.
          let b = or_parts (is_misled part) (not honest) m in
          agrees_heard loaded (is_misled part) honest stored (cached_entry w key)
          (told_load part.progress answer stored (cached_entry w key) (unwritten_load part.reservation.first part.progress (and_parts _ _ due).0 (asked_at w key part there old)) (true_found answer _ (not-false honest b.1)) ((one f).honest b.0));
    })) old

-- the processor has run
pub parts_processed : (w : WorldState) (key : Bytes) (call : ℕ) (part : Part) (answer : LoadAnswer) (calls : List EntryCall) (fail : Option ℕ) → part_of w call key ≡ Some part → has_progress waits_for_process (part_of w call key) ≡ true → IsSoundWorld w
    → HasParts (after_process w key part (run_result part.reservation answer calls fail))
parts_processed w key call part answer calls fail is waits old =
    let there = is_part (get w.parts key) call part is in
    let due : waits_for_process part ≡ true = sym (ap (has_progress waits_for_process) is) ∙ waits in
    let done = run_result part.reservation answer calls fail in
    let change = change_due w.config done in
    let stored = entry_at w.store key in
    let honest = is_true_load done.load stored in
    let ran = progress_after change done in
    parts_progressed w call key part (with_heard ran (is_misled part) honest) w.store w.foreign (after_process w key part done).premises is
    (λ h. asked_heard part.reservation.first ran (is_misled part) honest (asked_run part.reservation.first change done (and_parts (asks_processor part.reservation.first) _ due).0 (run_given _ _)))
    (λ hold.
    let one : is_foreign w key ≡ false → PartAgrees part.progress stored (cached_entry w key) = λ f. told_at (get w.parts key) part stored (cached_entry w key) there (old.told hold key f) in
    told_insert w w.parts w.store w.foreign key (record part { progress = with_heard ran (is_misled part) honest }) (λ q apart. old.told hold q)
    (λ f.
    let none = unwritten_run part.reservation.first part.progress (and_parts (asks_processor part.reservation.first) _ due).0 (and_parts (asks_processor part.reservation.first) _ due).1 (asked_at w key part there old) in
    record {
      kept = λ e. (one f).kept (unchanged_run part.reservation.first part.progress (and_parts (asks_processor part.reservation.first) _ due).0 (and_parts (asks_processor part.reservation.first) _ due).1 (asked_at w key part there old));
      honest = λ m.
          let b = or_parts (is_misled part) (not honest) m in
          agrees_heard ran (is_misled part) honest stored (cached_entry w key)
          (told_run part.progress change done stored (cached_entry w key) none (true_found done.load _ (not-false honest b.1)) ((one f).honest b.0));
    })) old

-- the writer has changed the store
pub parts_changed : (w : WorldState) (call : ℕ) (key : Bytes) (part : Part) (change : Change) → part_of w call key ≡ Some part → writer_change part ≡ Some change → has_progress waits_for_report (part_of w call key) ≡ true → IsSoundWorld w → HasParts (after_change w key part change)
parts_changed w call key part change is asks waits old =
    let new : Part = record part { progress = with_change part.progress } in
    let store = (after_change w key part change).store in
    let due : waits_for_report part ≡ true = sym (ap (has_progress waits_for_report) is) ∙ waits in
    parts_progressed w call key part new.progress store (without_foreign w.foreign key true) w.premises is (asked_change part.reservation.first part.progress (ap is_some asks))
    (λ h q f.
    rw (get-insert nat_list_cmp_total w.parts key new q)
    (rw (get-with_entry w.store key (changed_to change) q)
    (split q key (λ b. KeyAgrees (cond b (Some new) (get w.parts q)) (cond b (changed_to change) (entry_at w.store q)) (cached_entry w q))
    (λ same. record { kept = λ e. absurd (let t : true ≡ false = e in cc); honest = λ m. told_change part.progress change (cached_entry w q) (and_parts (is_some part.progress.change) _ due).1 asks })
    (λ apart. old.told h q (still_foreign w.foreign key q true apart f))))) old

-- the writer has returned
pub parts_reported : (w : WorldState) (call : ℕ) (key : Bytes) (part : Part) (report : WriteAnswer) → part_of w call key ≡ Some part → has_progress waits_for_report (part_of w call key) ≡ true → IsSoundWorld w → HasParts (after_report w key part report)
parts_reported w call key part report is waits old =
    let there = is_part (get w.parts key) call part is in
    let due : waits_for_report part ≡ true = sym (ap (has_progress waits_for_report) is) ∙ waits in
    let stored = entry_at w.store key in
    let honest = is_true_report report (has_changed part) in
    let said = with_report part.progress report in
    parts_progressed w call key part (with_heard said (is_misled part) honest) w.store w.foreign (after_report w key part report).premises is
    (λ h. asked_heard part.reservation.first said (is_misled part) honest (asked_report part.reservation.first part.progress report (and_parts (is_some part.progress.change) _ due).0 h))
    (λ hold.
    let one : is_foreign w key ≡ false → PartAgrees part.progress stored (cached_entry w key) = λ f. told_at (get w.parts key) part stored (cached_entry w key) there (old.told hold key f) in
    told_insert w w.parts w.store w.foreign key (record part { progress = with_heard said (is_misled part) honest }) (λ q apart. old.told hold q)
    (λ f. record {
      kept = (one f).kept;
      honest = λ m.
          let b = or_parts (is_misled part) (not honest) m in
          agrees_heard said (is_misled part) honest stored (cached_entry w key)
          (told_report part.progress report stored (cached_entry w key) (and_parts (is_some part.progress.change) _ due).0 (not-false honest b.1) ((one f).honest b.0));
    })) old

-- somebody else has written the store
pub parts_disturbed : (w : WorldState) (key : Bytes) (value : Option Bytes) → IsSoundWorld w → HasParts (record w { store = with_entry w.store key value; foreign = with_foreign w.foreign key; is_fresh = false })
parts_disturbed w key value old = record {
  held = old.held;
  told = λ h q f.
      let other = less_foreign w.foreign key q f in
      let P : Option Bytes → Type 0 = λ o. KeyAgrees (get w.parts q) o (cached_entry w q) in
      subst P (sym (get-with_entry w.store key value q ∙ ap (λ b. cond b value (entry_at w.store q)) other.0)) (old.told h q other.1);
  cold = λ f. absurd (let t : false ≡ true = f in cc);
  idle = λ f. absurd (let t : false ≡ true = f in cc);
}

-- no world is fresh after an invalidation
pub parts_worn : (w : WorldState) → IsSoundWorld w → HasParts (record w { is_fresh = false })
parts_worn w old = record { held = old.held; told = old.told; cold = λ f. absurd (let t : false ≡ true = f in cc); idle = λ f. absurd (let t : false ≡ true = f in cc) }

-- a value is stored before anything has happened
pub parts_stored : (w : WorldState) (key value : Bytes) → w.is_fresh ≡ true → IsSoundWorld w → HasParts (with_stored w key value)
parts_stored w key value new old = record {
  held = old.held;
  told = λ h q f. told_none (get w.parts q) (entry_at (with_entry w.store key (Some value)) q) (cached_entry w q) (missing (get w.parts q) (λ p there. worn w q p there old new)) (old.cold new q);
  cold = old.cold;
  idle = old.idle;
}

-- 5. A world that begins, and a call that does.

-- a call has begun
pub parts_called : (w : WorldState) (call session : ℕ) (command : Command) → fits w (WorldEvent.Call call session command) ≡ true → IsSoundWorld w
    → HasParts (record w { last = Some call; calls = w.calls ++ opened (new_call call session command); is_fresh = false })
parts_called w call session command fit old =
    let more : List CallState = opened (new_call call session command) in
    let n : WorldState = record w { last = Some call; calls = w.calls ++ more; is_fresh = false } in
    record {
      held = old.held;
      told = old.told;
      cold = λ f. absurd (let t : false ≡ true = f in cc);
      idle = λ f. absurd (let t : false ≡ true = f in cc);
    }

-- 6. The first phase.

-- a part stays held, if its reservation does
held_on : (from next : State) (key : Bytes) (part : Part) → IsOut next part.reservation → IsHeld from key part → IsHeld next key part
held_on from next key part out h = record { key_is = h.key_is; out = out; asked = h.asked }

-- the calls are others
pub parts_over : (w : WorldState) (call : ℕ) (u : CallState) (calls : List CallState) → open_call w call ≡ Some u → IsSoundWorld w → HasParts (record w { calls = calls })
parts_over w call u calls is old = record {
  held = old.held;
  told = old.told;
  cold = old.cold;
  idle = λ f. absurd (begun_before w call u is old f);
}

-- the stripe of a key is another: the parts are still held, if those of that stripe are
held_set : (w : WorldState) (key : Bytes) (from next : State) → stripe_for w key ≡ Some from → ((q : Bytes) (p : Part) → IsHeld from q p → IsHeld next q p) → IsSoundWorld w
    → (q : Bytes) (p : Part) → get w.parts q ≡ Some p → HeldIn (slice_get (slice_set w.stripes (home w key) next) (home w q)) q p
held_set w key from next at on old q p e = at_stripe w.stripes (home w key) (home w q) from next (λ o x. HeldIn o q p → HeldIn x q p) at (on q p) (λ h. h) (old.held q p e)

-- and what is known of a key still holds, if it does at that stripe
told_set : (w : WorldState) (key : Bytes) (from next : State) (q : Bytes) → stripe_for w key ≡ Some from
    → (KeyAgrees (get w.parts q) (entry_at w.store q) (entry_at from.cache q) → KeyAgrees (get w.parts q) (entry_at w.store q) (entry_at next.cache q)) → KeyAgrees (get w.parts q) (entry_at w.store q) (cached_entry w q)
    → KeyAgrees (get w.parts q) (entry_at w.store q) (entry_in (slice_get (slice_set w.stripes (home w key) next) (home w q)) q)
told_set w key from next q at on =
    at_stripe w.stripes (home w key) (home w q) from next (λ o x. KeyAgrees (get w.parts q) (entry_at w.store q) (entry_in o q) → KeyAgrees (get w.parts q) (entry_at w.store q) (entry_in x q)) at on (λ h. h)

-- of a stripe with the same entries it does
told_same : (w : WorldState) (key : Bytes) (from next : State) (q : Bytes) → stripe_for w key ≡ Some from → next.cache ≡ from.cache → KeyAgrees (get w.parts q) (entry_at w.store q) (cached_entry w q)
    → KeyAgrees (get w.parts q) (entry_at w.store q) (entry_in (slice_get (slice_set w.stripes (home w key) next) (home w q)) q)
told_same w key from next q at cache = told_set w key from next q at (λ h. subst (λ c. KeyAgrees (get w.parts q) (entry_at w.store q) (entry_at c q)) (sym cache) h)

-- a step was appended
held_stepped : (caller : Caller) (key : Bytes) (op : Op) (from next : State) (done : StepDone) (q : Bytes) (p : Part) → Begins from caller key op (Begun.Done done) next → IsHeld from q p → IsHeld next q p
held_stepped caller key op from next done q p begins h =
    held_on from next q p (rw (ap (λ (s : State). s.reservations) begins.2.after) h.out) h

-- and the entries that agreed with the store do so still
pub agrees_begun : (caller : Caller) (key : Bytes) (op : Op) (from next : State) (done : StepDone) (q : Bytes) (stored : Option Bytes) → Begins from caller key op (Begun.Done done) next
    → from.config.write_through ≡ true → Agrees (entry_at from.cache q) stored → Agrees (entry_at next.cache q) stored
agrees_begun caller key op from next done q stored begins on agrees =
    agrees_stepped from next caller key op nothing_said [] done q stored begins.2
    (split q key (λ b. Agrees (cond b (entry_after op (entry_at from.cache key) nothing_said) (entry_at from.cache q)) stored)
    (λ same. asks_nobody from.config op (entry_at from.cache key) stored on begins.1 (let P : Bytes → Type 0 = λ k. Agrees (entry_at from.cache k) stored in subst P same agrees))
    (λ apart. agrees))

-- so the parts and the store say what they said
parts_stepped : (w : WorldState) (call : ℕ) (u : CallState) (key : Bytes) (op : Op) (from next : State) (order : List Event) (calls : List CallState) (done : StepDone) → open_call w call ≡ Some u → stripe_for w key ≡ Some from
    → Begins from u.caller key op (Begun.Done done) next → IsSoundWorld w
    → HasParts (record w { stripes = slice_set w.stripes (home w key) next; order = order; calls = calls })
parts_stepped w call u key op from next order calls done is at begins old = record {
  held = held_set w key from next at (λ q p. held_stepped u.caller key op from next done q p begins) old;
  told = λ hold q f.
      let on : from.config.write_through ≡ true = ap (λ (c : Config). c.write_through) (config_at w (home w key) from at old) ∙ (and_parts w.config.write_through w.premises.opening hold).0 in
      told_set w key from next q at (told_on (get w.parts q) (entry_at w.store q) (entry_at from.cache q) (entry_at next.cache q) (agrees_begun u.caller key op from next done q (entry_at w.store q) begins on)) (old.told hold q f);
  cold = λ f. absurd (begun_before w call u is old f);
  idle = λ f. absurd (begun_before w call u is old f);
}

-- a key was reserved: its part is new, and the others are held on
held_reserving : (from next : State) (r : Reservation) (q : Bytes) (p : Part) → next.reservations ≡ from.reservations ++ r ∷ [] → IsHeld from q p → IsHeld next q p
held_reserving from next r q p reservations h =
    held_on from next q p (rw reservations (found_more (is_key p.reservation.key) from.reservations (r ∷ []) p.reservation h.out)) h

-- with no entry nothing is from before
newly_told : (m : Cache) (key : Bytes) (was entry stored : Option Bytes) → entry ≡ was → (is_some (entry_at m key) ≡ false → Agrees entry stored) → is_some (entry_at (without_foreign m key (is_none was)) key) ≡ false → Agrees entry stored
newly_told m key None entry stored same told f = subst (λ o. Agrees o stored) (sym same) tt
newly_told m key (Some value) entry stored same told f = told f

-- so there is one part more
parts_reserving : (w : WorldState) (key : Bytes) (from next : State) (r : Reservation) (part : Part) → stripe_for w key ≡ Some from → is_reserved from key ≡ false
    → next.reservations ≡ from.reservations ++ r ∷ [] → next.cache ≡ from.cache → IsHeld next key part
    → ((stored entry : Option Bytes) → Agrees entry stored → PartAgrees part.progress stored entry) → (w.is_fresh ≡ true → ⊥) → IsSoundWorld w
    → HasParts (record (with_part (with_stripe w key next) key part) { foreign = without_foreign w.foreign key (is_none (cached_entry w key)) })
parts_reserving w key from next r part at free reservations cache one new used old =
    let n : WorldState = record (with_part (with_stripe w key next) key part) { foreign = without_foreign w.foreign key (is_none (cached_entry w key)) } in
    let stored = entry_at w.store key in
    let same : cached_entry n key ≡ cached_entry w key = at_stripe w.stripes (home w key) (home w key) from next (λ o x. entry_in x key ≡ entry_in o key) at (ap (λ c. entry_at c key) cache) refl in
    let on : AllHeld n w.parts = held_set w key from next at (λ q p. held_reserving from next r q p reservations) old in
    record {
      held = held_insert n w.parts key part on (is_some_and (stripe_for n key) (λ s. IsHeld s key part) next (stripe_put w.stripes (home w key) from next at) one);
      told = λ hold.
          let all : AllTold n w.parts w.store w.foreign = λ q f. told_same w key from next q at cache (old.told hold q f) in
          let N : Option Part → Type 0 = λ o. KeyAgrees o stored (cached_entry n key) in
          told_insert n w.parts w.store n.foreign key part (λ q apart f. all q (still_foreign w.foreign key q (is_none (cached_entry w key)) apart f))
          (λ f. new stored (cached_entry n key)
          (newly_told w.foreign key (cached_entry w key) (cached_entry n key) stored same (λ f. subst N (unheld w key from at free old) (all key f)) f));
      cold = λ f. absurd (used f);
      idle = λ f. absurd (used f);
    }

-- a reservation is made of a key that was free: its part has it
held_new : (key : Bytes) (from next : State) (p : PartProgress) (r : Reservation) → is_reserved from key ≡ false → r.key ≡ key → next.reservations ≡ from.reservations ++ r ∷ [] → FitsAsked r.first p
    → IsHeld next key (new_part p r)
held_new key from next p r free key_is reservations asked =
    record { key_is = key_is; out = rw reservations (new_out from r (ap (is_reserved from) key_is ∙ free)); asked = asked }

-- a stripe is another, whose entries and reservations are the same
parts_aside : (w : WorldState) (key : Bytes) (from next : State) (calls : List CallState) (joins : Joins) → stripe_for w key ≡ Some from → next.cache ≡ from.cache → next.reservations ≡ from.reservations → (w.is_fresh ≡ true → ⊥) → IsSoundWorld w
    → HasParts (record w { stripes = slice_set w.stripes (home w key) next; calls = calls; joins = joins })
parts_aside w key from next calls joins at cache reservations used old = record {
  held = held_set w key from next at (λ q p h. held_on from next q p (ap (find (is_key p.reservation.key)) reservations ∙ h.out) h) old;
  told = λ hold q f. told_same w key from next q at cache (old.told hold q f);
  cold = λ f. absurd (used f);
  idle = λ f. absurd (used f);
}

-- 7. The last phase.

-- a writer's report, once it is true, leaves the entry in agreement
agrees_written : (op : Op) (entry stored : Option Bytes) (change : Change) (report : WriteAnswer) (was : Bool) → write_ask op entry ProcessAnswer.NotAsked ≡ Some change → is_write_given report ≡ true
    → (was ≡ true → stored ≡ changed_to change) → (was ≡ false → Agrees entry stored) → is_done report ≡ was → Agrees (entry_after op entry (write_only report)) stored
agrees_written op entry stored change WriteAnswer.NotAsked was asked given written unwritten honest = cc
agrees_written op entry stored change (WriteAnswer.Failed code) was asked given written unwritten honest = unwritten (sym honest)
agrees_written op entry stored change WriteAnswer.Done was asked given written unwritten honest =
    subst (λ o. Agrees o stored) (written (sym honest) ∙ sym (writes op entry change asked)) (agrees_same stored)

-- of a writer that was asked and isn't waited for the report is there
was_given : (c : Option Change) (given : Bool) → is_some c ≡ true → (is_some c && not given) ≡ false → given ≡ true
was_given None given asked over = cc
was_given (Some change) true asked over = refl
was_given (Some change) false asked over = let t : true ≡ false = over in cc

-- what a commit leaves agrees with the store: a reservation still asks what it asked
agrees_ended : (config : Config) (p : PartProgress) (op : Op) (first : First) (entry stored : Option Bytes) → first_asked config op entry ≡ first → FitsAsked first p → (is_some p.change && not (is_write_given p.out.write)) ≡ false → config.write_through ≡ true → IsDueIn config first p
    → ProgressAgrees p stored entry → Agrees (entry_after op entry p.out) stored
agrees_ended config p op Nobody entry stored asks fits over on due h = absurd fits
agrees_ended config p op Loader entry stored asks fits over on due h =
    let now : LoadAgrees p.out.load stored entry = subst (λ c. ChangeAgrees c p stored entry) fits.0 h in
    subst (λ o. Agrees (entry_after op entry o) stored) (sym fits.1) (loads op entry p.out.load stored (loads_asked config op entry asks) now.unwritten now.loaded)
agrees_ended config p op (Writer change) entry stored asks fits over on due h =
    let now : WriteAgrees change p.is_changed p.out.write stored entry = subst (λ c. ChangeAgrees c p stored entry) fits.0 h in
    let given = was_given p.change (is_write_given p.out.write) (ap is_some fits.0) over in
    subst (λ o. Agrees (entry_after op entry o) stored) (sym fits.1) (agrees_written op entry stored change p.out.write p.is_changed (writes_asked config op entry change asks) given now.written now.unwritten (now.honest given))
agrees_ended config p op (Processor seen may_load) entry stored asks fits over on due h =
    let effect : p.change ≡ effect_change p.out.load p.out.process = due ∙ ap (λ b. cond b (effect_change p.out.load p.out.process) None) on in
    rw (invoke_is op (asks_invoking config op entry (ap asks_processor asks))) (go p.change refl effect h)
  where
    go : (c : Option Change) → p.change ≡ c → p.change ≡ effect_change p.out.load p.out.process → ChangeAgrees c p stored entry → Agrees (entry_after Invoke entry p.out) stored
    go None e effect h =
        let P : WriteAnswer → Type 0 = λ r. Agrees (entry_after Invoke entry (record { load = p.out.load; write = r; process = p.out.process })) stored in
        subst P (sym (fits.0 e)) (agrees_processed p.out.load p.out.process entry stored (ap is_none (sym effect ∙ e)) h)
    go (Some change) e effect h =
        let is = sym effect ∙ e in
        agrees_effect p.out.load p.out.process p.is_changed p.out.write entry stored (ap is_some is) (was_given p.change (is_write_given p.out.write) (ap is_some e) over) (λ t. subst (λ o. WrittenFor o stored) (sym is) (h.written t)) h.unwritten h.honest

-- the reservation that is found asks what it asked
asks_found : (config : Config) (cache : Cache) (key : Bytes) (rs : List Reservation) (r : Reservation) → find (is_key key) rs ≡ Some r → AllAsk config cache rs → first_asked config r.op (entry_at cache r.key) ≡ r.first
asks_found config cache key [] r h all = cc
asks_found config cache key (x ∷ xs) r h all =
    elim (is_key key x) as (λ b. cond b (Some x) (find (is_key key) xs) ≡ Some r → first_asked config r.op (entry_at cache r.key) ≡ r.first) [
      | true ↦ λ h. let is : x ≡ r = cc in subst (λ (y : Reservation). first_asked config y.op (entry_at cache y.key) ≡ y.first) is all.0
      | false ↦ λ h. asks_found config cache key xs r h all.1
    ] h

-- another key's part keeps its reservation
others_out : (from : State) (key q : Bytes) (p : Part) → eq_by_cmp key_cmp q key ≡ false → IsHeld from q p → find (is_key p.reservation.key) (without_key key from.reservations) ≡ Some p.reservation
others_out from key q p apart h = found_left p.reservation.key key from.reservations (ap (λ k. eq_by_cmp key_cmp k key) h.key_is ∙ apart) ∙ h.out

-- a commit keeps the reservations of the other keys
held_ended : (key : Bytes) (from next : State) (q : Bytes) (p : Part) → next.reservations ≡ without_key key from.reservations → eq_by_cmp key_cmp q key ≡ false → IsHeld from q p → IsHeld next q p
held_ended key from next q p left apart h =
    held_on from next q p (rw left (others_out from key q p apart h)) h

-- so are their parts held
held_removed : (w : WorldState) (key : Bytes) (from next : State) (q : Bytes) (p : Part) → stripe_for w key ≡ Some from → next.reservations ≡ without_key key from.reservations → IsSoundWorld w → get (remove w.parts key) q ≡ Some p
    → HeldIn (slice_get (slice_set w.stripes (home w key) next) (home w q)) q p
held_removed w key from next q p at left old e =
    split q key (λ b. cond b None (get w.parts q) ≡ Some p → HeldIn (slice_get (slice_set w.stripes (home w key) next) (home w q)) q p)
    (λ same e. cc)
    (λ apart e. at_stripe w.stripes (home w key) (home w q) from next (λ o x. HeldIn o q p → HeldIn x q p) at (held_ended key from next q p left apart) (λ h. h) (old.held q p e))
    (sym (get-remove nat_list_cmp_total w.parts key q) ∙ e)

-- the step of a commit
abbrev EndsBy : Bytes → Part → State → State → StepDone → Type 0
EndsBy key part from next done = Steps (after_commit from part.reservation done.place) part.reservation.caller key part.reservation.op (out_of_part part) (callers_of part.reservation.number from.joiners) done next

-- a commit's own entry agrees with the store, if what the operation leaves does
pub agrees_own : (key : Bytes) (part : Part) (from next : State) (done : StepDone) (stored : Option Bytes) → EndsBy key part from next done
    → Agrees (entry_after part.reservation.op (entry_at from.cache key) (out_of_part part)) stored → Agrees (entry_at next.cache key) stored
agrees_own key part from next done stored steps h =
    agrees_stepped (after_commit from part.reservation done.place) next part.reservation.caller key part.reservation.op (out_of_part part) (callers_of part.reservation.number from.joiners) done key stored steps
    (let P : Bool → Type 0 = λ b. Agrees (cond b (entry_after part.reservation.op (entry_at from.cache key) (out_of_part part)) (entry_at from.cache key)) stored in subst P (sym (tied key)) h)

-- and the others still do
pub agrees_other : (key : Bytes) (part : Part) (from next : State) (done : StepDone) (q : Bytes) (stored : Option Bytes) → EndsBy key part from next done
    → eq_by_cmp key_cmp q key ≡ false → Agrees (entry_at from.cache q) stored → Agrees (entry_at next.cache q) stored
agrees_other key part from next done q stored steps apart h =
    agrees_stepped (after_commit from part.reservation done.place) next part.reservation.caller key part.reservation.op (out_of_part part) (callers_of part.reservation.number from.joiners) done q stored steps
    (let P : Bool → Type 0 = λ b. Agrees (cond b (entry_after part.reservation.op (entry_at from.cache key) (out_of_part part)) (entry_at from.cache q)) stored in subst P (sym apart) h)

-- another key is one of those that others have written after a commit if it was before
other_committed : (w : WorldState) (key q : Bytes) (part : Part) (next : State) → eq_by_cmp key_cmp q key ≡ false → is_some (entry_at (foreign_committed w key part next) q) ≡ false → is_foreign w q ≡ false
other_committed w key q part next apart f =
    other_doubted w.foreign key q (is_misled part) apart (still_foreign (with_doubt w.foreign key (is_misled part)) key q (is_agreed (entry_at next.cache key) (entry_at w.store key)) apart f)

-- what agrees by the test does
agrees_tested : (entry stored : Option Bytes) → is_agreed entry stored ≡ true → Agrees entry stored
agrees_tested None stored h = tt
agrees_tested (Some value) stored h = holds_same stored value h

-- a committed key that is none of them agrees with the store by the test, or nobody has lied, and it was none before
own_agreed : (w : WorldState) (key : Bytes) (part : Part) (next : State) → is_some (entry_at (foreign_committed w key part next) key) ≡ false
    → (is_misled part ≡ false → is_foreign w key ≡ false → Agrees (entry_at next.cache key) (entry_at w.store key)) → Agrees (entry_at next.cache key) (entry_at w.store key)
own_agreed w key part next f honest =
    elim (is_agreed (entry_at next.cache key) (entry_at w.store key)) as (λ b. is_agreed (entry_at next.cache key) (entry_at w.store key) ≡ b → is_some (entry_at (without_foreign (with_doubt w.foreign key (is_misled part)) key b) key) ≡ false → Agrees (entry_at next.cache key) (entry_at w.store key)) [
      | true ↦ λ is f. agrees_tested (entry_at next.cache key) (entry_at w.store key) is
      | false ↦ λ is f. let d = undoubted w.foreign key (is_misled part) f in honest d.0 d.1
    ] refl f

-- so there is one part less
abbrev committed_world : WorldState → Bytes → Part → State → List Event → List CallState → WorldState
committed_world w key part next order calls =
    record w { stripes = slice_set w.stripes (home w key) next; order = order; calls = calls; parts = remove w.parts key; foreign = foreign_committed w key part next }

parts_committed : (w : WorldState) (call : ℕ) (key : Bytes) (part : Part) (from next : State) (order : List Event) (calls : List CallState) (done : StepDone) → part_of w call key ≡ Some part → has_progress is_all_answered (part_of w call key) ≡ true → stripe_for w key ≡ Some from
    → Commits from part.reservation (out_of_part part) done next → IsSoundWorld w
    → HasParts (committed_world w key part next order calls)
parts_committed w call key part from next order calls done is answered at commits old =
    let n : WorldState = committed_world w key part next order calls in
    let there = is_part (get w.parts key) call part is in
    let one = held_at w key part from there at old in
    let r = part.reservation in
    let S : Bytes → Type 0 = λ k. Steps (after_commit from r done.place) r.caller k r.op (out_of_part part) (callers_of r.number from.joiners) done next in
    let steps : EndsBy key part from next done = subst S one.key_is commits.1 in
    let left : next.reservations ≡ without_key key from.reservations = ap (λ (s : State). s.reservations) steps.after ∙ ap (λ k. without_key k from.reservations) one.key_is in
    let reached = (old.shape.each (home w key) from at).reached in
    record {
      held = λ q p e. held_removed w key from next q p at left old e;
      told = λ hold q f.
          let all = old.told hold in
          subst (λ o. KeyAgrees o (entry_at w.store q) (cached_entry n q)) (sym (get-remove nat_list_cmp_total w.parts key q))
          (split q key (λ b. KeyAgrees (cond b None (get w.parts q)) (entry_at w.store q) (cached_entry n q))
          (λ same.
          let B : Bytes → Type 0 = λ k. Agrees (cached_entry n k) (entry_at w.store k) in
          let S : Option State → Type 0 = λ o. Agrees (entry_in o key) (entry_at w.store key) in
          let T : Option State → Type 0 = λ o. PartAgrees part.progress (entry_at w.store key) (entry_in o key) in
          let F : Bytes → Type 0 = λ k. is_some (entry_at n.foreign k) ≡ false in
          let leaves = own_agreed w key part next (subst F same f) (λ misled told_of.
          let told = subst T at (told_at (get w.parts key) part (entry_at w.store key) (cached_entry w key) there (all key told_of)) in
          let asks = ap (λ k. first_asked from.config r.op (entry_at from.cache k)) (sym one.key_is) ∙ asks_found from.config from.cache r.key from.reservations r one.out reached.asks in
          let same_config = config_at w (home w key) from at old in
          let on : from.config.write_through ≡ true = ap (λ (c : Config). c.write_through) same_config ∙ (and_parts w.config.write_through w.premises.opening hold).0 in
          let due : IsDueIn from.config r.first part.progress = subst (λ (c : Config). IsDueIn c r.first part.progress) (sym same_config) (old.due key part there) in
          let over = not-true (waits_for_report part) (and_parts (not (waits_for_load part) && not (waits_for_process part)) (not (waits_for_report part)) (sym (ap (has_progress is_all_answered) is) ∙ answered)).1 in
          let leaves = agrees_ended from.config part.progress r.op r.first (entry_at from.cache key) (entry_at w.store key) asks one.asked over on due (told.honest misled) in
          agrees_own key part from next done (entry_at w.store key) steps leaves) in
          subst B (sym same) (subst S (sym (stripe_put w.stripes (home w key) from next at)) leaves))
          (λ apart.
          told_set w key from next q at (told_on (get w.parts q) (entry_at w.store q) (entry_at from.cache q) (entry_at next.cache q) (agrees_other key part from next done q (entry_at w.store q) steps apart)) (all q (other_committed w key q part next apart f))));
      cold = λ f. absurd (worn w key part there old f);
      idle = λ f. absurd (worn w key part there old f);
    }

-- 8. A reservation is given back, a call leaves, and an answer is picked up.

-- of what is untouched the store is as it was
unchanged : (part : Part) → is_untouched part ≡ true → part.progress.is_changed ≡ false
unchanged part h = not-true part.progress.is_changed (and_parts (is_unanswered part.progress.out) (not part.progress.is_changed) h).1

-- a reservation is given back, and with it its part
pub parts_withdrawn : (w : WorldState) (call : ℕ) (key : Bytes) (part : Part) (from next : State) → has_progress is_untouched (part_of w call key) ≡ true → part_of w call key ≡ Some part → stripe_for w key ≡ Some from
    → Withdraws from part.reservation next → IsSoundWorld w → HasParts (without_part (with_stripe w key next) key)
parts_withdrawn w call key part from next fit is at withdraws old =
    let n : WorldState = without_part (with_stripe w key next) key in
    let there = is_part (get w.parts key) call part is in
    let one = held_at w key part from there at old in
    let left : next.reservations ≡ without_key key from.reservations = ap (λ (s : State). s.reservations) withdraws.1 ∙ ap (λ k. without_key k from.reservations) one.key_is in
    let cache : next.cache ≡ from.cache = ap (λ (s : State). s.cache) withdraws.1 in
    let same : (q : Bytes) → cached_entry n q ≡ cached_entry w q = λ q.
    at_stripe w.stripes (home w key) (home w q) from next (λ o x. entry_in x q ≡ entry_in o q) at (ap (λ c. entry_at c q) cache) refl
    in
    record {
      held = λ q p e. held_removed w key from next q p at left old e;
      told = λ hold q f.
          rw (get-remove nat_list_cmp_total w.parts key q)
          (rw (same q)
          (split q key (λ b. KeyAgrees (cond b None (get w.parts q)) (entry_at w.store q) (cached_entry w q))
          (λ e.
          let agrees : PartAgrees part.progress (entry_at w.store q) (cached_entry w q) = rw (ap (get w.parts) e ∙ there) at (old.told hold q f) in
          agrees.kept (unchanged part (sym (ap (has_progress is_untouched) is) ∙ fit)))
          (λ apart. old.told hold q f)));
      cold = λ f. absurd (worn w key part there old f);
      idle = λ f. absurd (worn w key part there old f);
    }

-- a call leaves
pub parts_left : (w : WorldState) (call : ℕ) → may_leave w call (open_call w call) ≡ true → IsSoundWorld w → HasParts (without_call w call)
parts_left w call fit old = go (open_call w call) refl
  where
    go : (o : Option CallState) → open_call w call ≡ o → HasParts (without_call w call)
    go None e = let t : false ≡ true = ap (may_leave w call) (sym e) ∙ fit in cc
    go (Some u) e = parts_over w call u (drop_call call w.calls) e old

-- the half of a sound world
pub parts_half : (w : WorldState) → IsSoundWorld w → HasParts w
parts_half w h = record { held = h.held; told = h.told; cold = h.cold; idle = h.idle }

-- by the kind of the change at a key
pub parts_key : (w new : WorldState) (e : WorldEvent) (key : Bytes) (seen : Shown) → KeyChange w new e key seen → fits w e ≡ true → IsSoundWorld w → HasParts new
parts_key w new e key seen (by_nothing is none ends) fit old = subst HasParts (sym is) (parts_half w old)
parts_key w new e key seen (by_refusal u op refusal may is none ends) fit old = subst HasParts (sym is) (parts_over w may.call u (settle u.caller.call key (Some refusal) w.calls) may.here old)
parts_key w new e key seen (by_step u op from to x may there h home_is is shows ends) fit old =
    subst HasParts (sym is) (parts_stepped w may.call u key op from to (with_phase w key from to).order (settle u.caller.call key (fault_in x.reply) w.calls) (step_of x) may.here there h old)
parts_key w new e key seen (by_reservation u op from to p r may there h is none ends) fit old =
    let reservations = ap (λ (s : State). s.reservations) h.after in
    subst HasParts (sym is)
    (parts_reserving w key from to r (new_part p r) there h.free reservations (ap (λ (s : State). s.cache) h.after)
    (held_new key from to p r h.free (ap (λ (x : Reservation). x.key) h.is) reservations h.asked) h.untold (begun_before w may.call u may.here old) old)
parts_key w new e key seen (by_join u op from to join may there h is none ends) fit old =
    subst HasParts (sym is)
    (parts_aside w key from to w.calls (insert w.joins (join_key join) join) there (ap (λ (s : State). s.cache) h.3) (ap (λ (s : State). s.reservations) h.3) (begun_before w may.call u may.here old) old)
parts_key w new e key seen (by_commit call part from to x e_is part_is there h home_is is shows) fit old =
    subst HasParts (sym is) (parts_committed w call key part from to (with_phase w key from to).order (settle call key (fault_in x.reply) w.calls) (step_of x) part_is (ap (fits w) (sym e_is) ∙ fit) there h old)
parts_key w new e key seen (by_withdrawal call part from to e_is part_is there h is shows) fit old = subst HasParts (sym is) (parts_withdrawn w call key part from to (ap (fits w) (sym e_is) ∙ fit) part_is there h old)
parts_key w new e key seen (by_mark from to there out h reached is none ends) fit old =
    let cache = ap (λ (s : State). s.cache) h in
    subst HasParts (sym is)
    (record {
      held = held_set w key from to there (λ q p k. held_on from to q p (ap (λ (s : State). find (is_key p.reservation.key) s.reservations) h ∙ k.out) k) old;
      told = λ hold q f. told_same w key from to q there cache (old.told hold q f);
      cold = λ f q. at_stripe w.stripes (home w key) (home w q) from to (λ o x. entry_in x q ≡ entry_in o q) there (ap (λ c. entry_at c q) cache) refl ∙ old.cold f q;
      idle = old.idle;
    })
parts_key w new e key seen (by_answer call join from to x e_is join_is there h home_is is shows ends) fit old =
    let p = picking w call key join join_is old in
    subst HasParts (sym is)
    (parts_aside w key from to (settle call key (fault_in x.reply) w.calls) (remove w.joins (call, key)) there (ap (λ (s : State). s.cache) h.3) (ap (λ (s : State). s.reservations) h.3) (begun_before w call p.u p.here old) old)
parts_key w new e key seen (by_retry call join from to e_is join_is there h is shows ends) fit old =
    let p = picking w call key join join_is old in
    subst HasParts (sym is)
    (parts_aside w key from to w.calls (remove w.joins (call, key)) there (ap (λ (s : State). s.cache) h.2) (ap (λ (s : State). s.reservations) h.2) (begun_before w call p.u p.here old) old)

-- the entry of an invalidated key is evicted
pub parts_dropped : (w mid new : WorldState) (key : Bytes) → Drop w mid new key → IsSoundWorld mid → HasParts new
parts_dropped w mid new key d old =
    let from = d.from in
    let to = without_entry from key in
    let next = with_dropped mid key from d.told in
    let none : get mid.parts key ≡ None = unheld mid key from d.there d.free old in
    subst HasParts (sym d.is)
    (record {
      held = held_set mid key from to d.there (λ q p h. held_on from to q p h.out h) old;
      told = λ hold q f.
          split q key (λ b. KeyAgrees (get mid.parts q) (entry_at mid.store q) (cached_entry next q))
          (λ same.
          let K : Bytes → Type 0 = λ k. KeyAgrees (get mid.parts k) (entry_at mid.store k) (cached_entry next k) in
          let gone : cached_entry next key ≡ None = ap (λ o. entry_in o key) (stripe_put mid.stripes (home mid key) from to d.there) ∙ dropped_entry from key in
          subst K (sym same) (told_none (get mid.parts key) (entry_at mid.store key) (cached_entry next key) none gone))
          (λ apart.
          told_set mid key from to q d.there (λ h. subst (λ o. KeyAgrees (get mid.parts q) (entry_at mid.store q) o) (sym (dropped_others from key q apart)) h)
          (old.told hold q (still_foreign mid.foreign key q d.told apart f)));
      cold = λ f q. at_stripe mid.stripes (home mid key) (home mid q) from to (λ o x. entry_in o q ≡ None → entry_in x q ≡ None) d.there (dropped_none from key q) (λ h. h) (old.cold f q);
      idle = old.idle;
    })

-- 9. A sound world is coherent, as long as the premises held.

-- a key that no writer has changed agrees with the store
key_coherent : (o : Option Part) (stored entry : Option Bytes) → KeyAgrees o stored entry → has_progress has_changed o ≡ false → Agrees entry stored
key_coherent None stored entry h unchanged = h
key_coherent (Some part) stored entry h unchanged = h.kept unchanged

-- what isn't cached agrees with all
agrees_none : (entry stored : Option Bytes) (held : Bool) → (is_some entry || held) ≡ false → Agrees entry stored
agrees_none None stored held h = tt
agrees_none (Some value) stored held h = let t : true ≡ false = h in cc

-- the second half of the headline, for one world
pub coherent : (w : WorldState) → IsSoundWorld w → all_hold w ≡ true → CoherentAsTold w
coherent w h hold key told unchanged =
    elim (is_foreign w key) as (λ b. is_foreign w key ≡ b → (b && has_any w key) ≡ false → Agrees (cached_entry w key) (entry_at w.store key)) [
      | true ↦ λ is none. agrees_none (cached_entry w key) (entry_at w.store key) (is_some (get w.parts key)) none
      | false ↦ λ is none. key_coherent (get w.parts key) (entry_at w.store key) (cached_entry w key) (h.told hold key is) unchanged
    ] refl told

-- and if nobody else has written the store
pub coherent_alone : (w : WorldState) → w.foreign ≡ empty → CoherentAsTold w → Coherent w
coherent_alone w none coherent key =
    coherent key (ap (λ m. is_some (entry_at m key) && has_any w key) none ∙ ap (λ o. is_some o && has_any w key) (get-empty key_cmp key))

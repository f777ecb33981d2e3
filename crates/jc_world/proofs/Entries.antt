-- What a step leaves of each entry, and what of that the store says.
use Rattle.jc_world.proofs.Common.{◌≡◌, Bool, true, false, cond, ◌&&◌, List, is_some, is_none, ◌==◌, Some, None, Option, sym, refl, ap, ◌∙◌, subst, and_parts, nat_list_cmp_total, remove, len, get-remove, eq_by_cmp, Caller, Config, none_is, get-with_entry, Bytes, Cache, entry_at, with_entry, key_cmp, nothing_said, load_only, write_only, without_victim, without_own, loads_whole, found_in, holds, always_if, ask_if, write_ask, entry_without_fault, entry_after, Cause, Change, Delete, Write, LoadAnswer, Op, Out, ProcessAnswer, WriteAnswer, least_used, overflows, victim, new_group, Steps, writer_for, first_by, first_asked, State, StepDone, Loader, Nobody, Writer, changed_to, Agrees}
use Rattle.jc_model.specs.declared.event.Op.TheVariants.{Clear, Get, GetAndPut, GetAndRemove, GetAndReplace, Invoke, LoadAll, Put, PutIfAbsent, Remove, RemoveIf, Replace, ReplaceIf}
use Rattle.jc_world.proofs.Facts.{some_back}
use Rattle.jc_world.proofs.Maps as map

-- by cases on whether two keys are one
pub split : (q key : Bytes) (P : Bool → Type 0) → (q ≡ key → P true) → (eq_by_cmp key_cmp q key ≡ false → P false) → P (eq_by_cmp key_cmp q key)
split q key P here there = map.split map.keys_ordered q key P here there

-- a key ties with itself
pub tied : (key : Bytes) → eq_by_cmp key_cmp key key ≡ true
tied key = map.tied map.keys_ordered key

-- 1. The entries after the group of a step.

-- nothing agrees with every store
gone_agrees : (b : Bool) (entry stored : Option Bytes) → Agrees entry stored → Agrees (cond b None entry) stored
gone_agrees true entry stored h = tt
gone_agrees false entry stored h = h

-- if an entry is removed, the others agree as before
agrees_removed : (cache : Cache) (key q : Bytes) (stored : Option Bytes) → Agrees (entry_at cache q) stored → Agrees (entry_at (remove cache key) q) stored
agrees_removed cache key q stored h = let P : Option Bytes → Type 0 = λ o. Agrees o stored in subst P (sym (get-remove nat_list_cmp_total cache key q)) (gone_agrees (eq_by_cmp key_cmp q key) _ stored h)

-- also if it is a group's victim
agrees_without : (cache : Cache) (victim : Option Bytes) (q : Bytes) (stored : Option Bytes) → Agrees (entry_at cache q) stored → Agrees (entry_at (without_victim cache victim) q) stored
agrees_without cache None q stored h = h
agrees_without cache (Some key) q stored h = agrees_removed cache key q stored h

-- or the step's own
agrees_evicted : (cache : Cache) (key : Bytes) (cause : Option Cause) (q : Bytes) (stored : Option Bytes) → Agrees (entry_at cache q) stored → Agrees (entry_at (without_own cache key cause) q) stored
agrees_evicted cache key None q stored h = h
agrees_evicted cache key (Some cause) q stored h = agrees_removed cache key q stored h

-- nothing is nothing, on a condition too
none_if : (b : Bool) (entry : Option Bytes) → entry ≡ None → cond b None entry ≡ entry
none_if true entry h = sym h
none_if false entry h = refl

-- a step that has a victim finds its key missing, so it finds without the victim what it found with it
found_without : (cache : Cache) (key : Bytes) (b : Bool) (victim : Option Bytes) → (b ≡ true → entry_at cache key ≡ None) → entry_at (without_victim cache (cond b victim None)) key ≡ entry_at cache key
found_without cache key true (Some other) h = get-remove nat_list_cmp_total cache other key ∙ none_if (eq_by_cmp key_cmp key other) (entry_at cache key) (h refl)
found_without cache key b victim h = refl

-- a step that inserts into a full stripe finds its key missing
came : (a b c : Bool) → ((a && b) && c) ≡ true → a ≡ true
came a b c h = (and_parts a b ((and_parts (a && b) c h).0)).0

-- what the step finds at its key
found_before : (s : State) (key : Bytes) (op : Op) (out : Out) → entry_at (without_victim s.cache (victim s key op out)) key ≡ entry_at s.cache key
found_before s key op out =
    found_without s.cache key (overflows s key op out) (least_used s)
    (λ over. none_is (entry_at s.cache key) (came (is_none (entry_at s.cache key)) (is_some (entry_after op (entry_at s.cache key) out)) (len s.cache == s.config.capacity) over))

-- a step's entries agree with what is stored if its own and the others' do
pub agrees_stepped : (old new : State) (caller : Caller) (key : Bytes) (op : Op) (out : Out) (callers : List Caller) (done : StepDone) (q : Bytes) (stored : Option Bytes) → Steps old caller key op out callers done new
    → Agrees (cond (eq_by_cmp key_cmp q key) (entry_after op (entry_at old.cache key) out) (entry_at old.cache q)) stored → Agrees (entry_at new.cache q) stored
agrees_stepped old new caller key op out callers done q stored steps h =
    let Q : Option Bytes → Type 0 = λ o. Agrees o stored in
    let group = new_group old caller key op out callers steps.short in
    let left : Cache = without_victim old.cache (victim old key op out) in
    let found = found_before old key op out in
    let made : Agrees (cond (eq_by_cmp key_cmp q key) (entry_after op (entry_at left key) out) (entry_at left q)) stored =
    split q key (λ b. Agrees (cond b (entry_after op (entry_at old.cache key) out) (entry_at old.cache q)) stored → Agrees (cond b (entry_after op (entry_at left key) out) (entry_at left q)) stored)
    (λ same h. subst Q (ap (λ e. entry_after op e out) (sym found)) h)
    (λ apart h. agrees_without old.cache (victim old key op out) q stored h) h
    in
    rw steps.after
    (agrees_evicted (with_entry left key (entry_after op (entry_at left key) out)) key group.evicted q stored (subst Q (sym (get-with_entry left key (entry_after op (entry_at left key) out) q)) made))

-- 2. The tables: what a write leaves is what was asked for.

-- nothing is no change
not_asked : (change : Change) (A : Type 0) → None ≡ Some change → A
not_asked change A h = cc

-- what is written on a condition
writes_if : (b : Bool) (entry next : Option Bytes) (asks change : Change) → next ≡ changed_to asks → ask_if b asks ≡ Some change → cond b next entry ≡ changed_to change
writes_if true entry next asks change e h = e ∙ ap changed_to (some_back asks change h)
writes_if false entry next asks change e h = not_asked change _ h

-- what the store holds after the change that was asked for
to : (asks change : Change) → Some asks ≡ Some change → changed_to asks ≡ changed_to change
to asks change h = ap changed_to (some_back asks change h)

-- if the writer did as it was asked, the operation leaves what the store then holds
pub writes : (op : Op) (entry : Option Bytes) (change : Change) → write_ask op entry ProcessAnswer.NotAsked ≡ Some change → entry_without_fault op entry (write_only WriteAnswer.Done) ≡ changed_to change
writes (Put value) entry change h = to (Write value) change h
writes (GetAndPut value) entry change h = to (Write value) change h
writes (PutIfAbsent value) None change h = to (Write value) change h
writes Remove entry change h = to Delete change h
writes (RemoveIf old) entry change h = writes_if (holds entry old) entry None Delete change refl h
writes GetAndRemove entry change h = to Delete change h
writes (Replace value) (Some x) change h = to (Write value) change h
writes (ReplaceIf old value) entry change h = writes_if (holds entry old) entry (Some value) (Write value) change refl h
writes (GetAndReplace value) (Some x) change h = to (Write value) change h
writes op entry change h = not_asked change _ h

-- 3. Whom a call asks first.

-- a writer that is asked is asked for this
writer_is : (b : Bool) (asks : Option Change) (change : Change) → writer_for (cond b asks None) ≡ Writer change → asks ≡ Some change
writer_is true (Some asks) change h = cc
writer_is b asks change h = cc

-- if the writer table is read, no loader is asked
no_loader : (b : Bool) (asks : Option Change) (A : Type 0) → writer_for (cond b asks None) ≡ Loader → A
no_loader true (Some asks) A h = cc
no_loader true None A h = cc
no_loader false asks A h = cc

-- if the loader table is read, no writer is asked
no_writer : (b write : Bool) (change : Change) (A : Type 0) → first_by (always_if b) (cond write None None) ≡ Writer change → A
no_writer true write change A h = cc
no_writer false true change A h = cc
no_writer false false change A h = cc

-- with write-through on, nobody is asked only if there is nothing to write
unasked : (b : Bool) (asks : Option Change) → writer_for (cond b asks None) ≡ Nobody → b ≡ true → asks ≡ None
unasked true None h on = refl
unasked b asks h on = cc

-- the loader is asked first by what loads
pub loads_asked : (config : Config) (op : Op) (entry : Option Bytes) → first_asked config op entry ≡ Loader → loads_whole op ≡ true
loads_asked config Get entry h = refl
loads_asked config (LoadAll replace) entry h = refl
loads_asked config Invoke entry h = cc
loads_asked config op entry h = no_loader config.write_through (write_ask op entry ProcessAnswer.NotAsked) _ h

-- the writer is asked first for what the operation asks for
pub writes_asked : (config : Config) (op : Op) (entry : Option Bytes) (change : Change) → first_asked config op entry ≡ Writer change → write_ask op entry ProcessAnswer.NotAsked ≡ Some change
writes_asked config Get entry change h = no_writer _ config.write_through change _ h
writes_asked config (LoadAll replace) entry change h = no_writer _ config.write_through change _ h
writes_asked config Invoke entry change h = cc
writes_asked config op entry change h = writer_is config.write_through (write_ask op entry ProcessAnswer.NotAsked) change h

-- 4. What agrees with the store still does.

-- a load keeps an entry, or makes it what was found
pub loads : (op : Op) (entry : Option Bytes) (answer : LoadAnswer) (stored : Option Bytes) → loads_whole op ≡ true → Agrees entry stored → Agrees (found_in answer) stored → Agrees (entry_after op entry (load_only answer)) stored
loads Get entry LoadAnswer.NotAsked stored h kept found = kept
loads Get entry (LoadAnswer.Found value) stored h kept found = found
loads Get entry LoadAnswer.Nothing stored h kept found = kept
loads Get entry (LoadAnswer.Failed code) stored h kept found = kept
loads (LoadAll replace) entry LoadAnswer.NotAsked stored h kept found = kept
loads (LoadAll replace) entry (LoadAnswer.Found value) stored h kept found = found
loads (LoadAll replace) entry LoadAnswer.Nothing stored h kept found = kept
loads (LoadAll replace) entry (LoadAnswer.Failed code) stored h kept found = kept
loads op entry answer stored h kept found = cc

-- what is not written keeps the entry
keeps_if : (b : Bool) (asks : Change) (entry next stored : Option Bytes) → ask_if b asks ≡ None → Agrees entry stored → Agrees (cond b next entry) stored
keeps_if true asks entry next stored h kept = cc
keeps_if false asks entry next stored h kept = kept

-- an operation with nothing to write keeps the entry or takes it out
keeps : (op : Op) (entry stored : Option Bytes) → write_ask op entry ProcessAnswer.NotAsked ≡ None → Agrees entry stored → Agrees (entry_after op entry nothing_said) stored
keeps (Put value) entry stored h kept = cc
keeps (GetAndPut value) entry stored h kept = cc
keeps (PutIfAbsent value) None stored h kept = cc
keeps Remove entry stored h kept = tt
keeps (RemoveIf old) entry stored h kept = keeps_if (holds entry old) Delete entry None stored h kept
keeps GetAndRemove entry stored h kept = tt
keeps (Replace value) None stored h kept = tt
keeps (Replace value) (Some x) stored h kept = cc
keeps (ReplaceIf old value) entry stored h kept = keeps_if (holds entry old) (Write value) entry (Some value) stored h kept
keeps (GetAndReplace value) None stored h kept = tt
keeps (GetAndReplace value) (Some x) stored h kept = cc
keeps Clear entry stored h kept = tt
keeps op entry stored h kept = kept

-- a call that asks nobody, with write-through on, keeps the entry or takes it out
pub asks_nobody : (config : Config) (op : Op) (entry stored : Option Bytes) → config.write_through ≡ true → first_asked config op entry ≡ Nobody → Agrees entry stored → Agrees (entry_after op entry nothing_said) stored
asks_nobody config Get entry stored on h kept = kept
asks_nobody config (LoadAll replace) entry stored on h kept = kept
asks_nobody config Invoke entry stored on h kept = kept
asks_nobody config op entry stored on h kept = keeps op entry stored (unasked config.write_through (write_ask op entry ProcessAnswer.NotAsked) h on) kept

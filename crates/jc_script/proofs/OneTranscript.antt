-- Two transcripts of one script, in both of which memory was there, are the same.
--     begin_as           a call's begin depends on its command only by the call that it makes
--     call_of            the call that a line of a bulk call makes
--     begin_same, act_same, one_same, audit_same
--                        two ways to play the line have printed the same and leave the same world
--     transcript_same    and so have two ways to play a script
--     printed_same, runs_same     so have two transcripts, and two runs, if what they print tells nothing of memory
use Rattle.jc_script.proofs.Common.{◌≡◌, ◌∙◌, ◌+◌, ◌++◌, ◌&&◌, ℕ, Bool, true, false, not, if◌then◌else◌, List, [], ◌∷◌, Option, None, Some, Result, Ok, Err, is_some, refl, sym, ap, subst, inl, inr, append-nil, true≢false, entries, and_parts, list_all-append, Bytes, Cache, CallState, SweepState, Task, at_each, put_each_of, new_call, Command, Shown, WorldEvent, RunsAreDetermined, has_memory, have_memory, Run, Step, with_call, shown_begun, fits, is_new, is_playable, is_session, looks, looks_of, opening_events, WorldState, is_busy, open_call, Fault, ScriptAct, BulkLine, Line, Open, Set, Begin, BeginBulk, OfCall, Foreign, Invalidate, Reopen, Audit, Untold, RunEnd, PrintedMemoryDetermines, RunsWriteTheSame, shown_at_begin, shown_by_act, shown_by_one, shown_by_line, shown_by_read, shown_in, bulk_call, events_of_act, keys_of_act, load_code, single, start_events, read_line, audit_text, event_text, fails_text, fault_line, texts, IsTranscript, pieces_of, Audited, EndsScript, OpenedWorld, Plays, PlaysAct, PlaysBegin, PlaysOne, PlaysRead, Transcript, fault_read}
use Rattle.jc_model.specs.declared.event.Op.TheVariants as op
use Rattle.jc_model.proofs.CallerLemmas.{same_cache}
use Rattle.jc_world.specs.Audit.{differing}
use Rattle.jc_world.specs.declared.command.CallKind.{CallKind}
use Rattle.jc_world.specs.declared.command.CallKind.TheVariants as kind
use Rattle.jc_world.specs.declared.command.Command.TheVariants as command
use Rattle.jc_world.specs.declared.event.WorldEvent.TheVariants as event
use Rattle.jc_text.specs.declared.read.line.BulkLine.TheVariants as bulk
use Rattle.jc_text.specs.Input.{ReadsAll}
use Rattle.jc_script.proofs.PrintedMemory.{none_lack}

-- 1. Events.

both_have : (ss ts : List Shown) → have_memory (ss ++ ts) ≡ true → (have_memory ss ≡ true) × (have_memory ts ≡ true)
both_have ss ts h = and_parts (have_memory ss) (have_memory ts) (sym (list_all-append (λ (s : Shown). has_memory s.outcome) ss ts) ∙ h)

events_same : RunsAreDetermined → (w n m : WorldState) (es : List WorldEvent) (ss ts : List Shown) (x y : List ℕ)
    → Run w es ss n → x ≡ texts es ss → have_memory ss ≡ true → Run w es ts m → y ≡ texts es ts → have_memory ts ≡ true
    → (x ≡ y) × (n ≡ m)
events_same law w n m es ss ts x y run is p other too q =
    let same = law w n m es ss ts run p other q in
    (is ∙ ap (texts es) same.0 ∙ sym too, same.1)

-- 2. The begin of a call.

-- two commands may differ in the room that their sets have
looks_same : (number session stripes : ℕ) (c d : Command) → new_call number session d ≡ new_call number session c → looks_of number d stripes ≡ looks_of number c stripes
looks_same number session stripes c d call = ap (λ (u : CallState). if is_some u.sweep then looks number 0 stripes else []) call

begin_as : (w n : WorldState) (number session : ℕ) (c d : Command) (seen : List Shown)
    → new_call number session d ≡ new_call number session c → is_playable d ≡ is_playable c
    → Run w (opening_events number session d w.config.stripes) seen n → Run w (opening_events number session c w.config.stripes) seen n
begin_as w n number session c d [] call plays run = absurd run
begin_as w n number session c d (s ∷ ss) call plays (mid, step, rest) =
    (mid, step_as step, subst (λ (es : List WorldEvent). Run mid es ss n) (looks_same number session w.config.stripes c d call) rest)
  where
    fit : fits w (event.Call number session d) ≡ fits w (event.Call number session c)
    fit = ap (λ (b : Bool). b && is_session session && is_new w.last number && not (is_busy w session)) plays

    step_as : Step w (event.Call number session d) s mid → Step w (event.Call number session c) s mid
    step_as (inl (fitting, happens)) = inl (sym fit ∙ fitting, (happens.0 ∙ ap shown_begun call, happens.1 ∙ ap (with_call w) call))
    step_as (inr (unfit, shows, is)) = inr (sym fit ∙ unfit, shows, is)

begin_texts : (number session stripes : ℕ) (c d : Command) (seen : List Shown) → new_call number session d ≡ new_call number session c
    → texts (opening_events number session d stripes) seen ≡ texts (opening_events number session c stripes) seen
begin_texts number session stripes c d [] call = refl
begin_texts number session stripes c d (s ∷ ss) call =
    ap (λ (es : List WorldEvent). event_text (event.Call number session c) s ++ texts es ss) (looks_same number session stripes c d call)

begin_same : RunsAreDetermined → (w : WorldState) (number session : ℕ) (c d : Command) (x y : List ℕ) (n m : OpenedWorld)
    → new_call number session d ≡ new_call number session c → is_playable d ≡ is_playable c
    → (a : PlaysBegin w number session c x n) (b : PlaysBegin w number session d y m)
    → have_memory (shown_at_begin w number session c x n a) ≡ true → have_memory (shown_at_begin w number session d y m b) ≡ true
    → (x ≡ y) × (n ≡ m)
begin_same law w number session c d x y n m call plays a b p q =
    let ps = both_have a.opens.seen a.starts.seen p in
    let qs = both_have b.opens.seen b.starts.seen q in
    let opens = events_same law w a.begun b.begun (opening_events number session c w.config.stripes) a.opens.seen b.opens.seen a.opening b.opening
    a.opens.runs a.opens.text_is ps.0
    (begin_as w b.begun number session c d b.opens.seen call plays b.opens.runs) (b.opens.text_is ∙ begin_texts number session w.config.stripes c d b.opens.seen call) qs.0 in
    let his : Run a.begun (start_events a.begun number (open_call a.begun number)) b.starts.seen b.after =
    subst (λ (v : WorldState). Run v (start_events v number (open_call v number)) b.starts.seen b.after) (sym opens.1) b.starts.runs in
    let told : b.started ≡ texts (start_events a.begun number (open_call a.begun number)) b.starts.seen =
    subst (λ (v : WorldState). b.started ≡ texts (start_events v number (open_call v number)) b.starts.seen) (sym opens.1) b.starts.text_is in
    let starts = events_same law a.begun a.after b.after (start_events a.begun number (open_call a.begun number)) a.starts.seen b.starts.seen a.started b.started
    a.starts.runs a.starts.text_is ps.1 his told qs.1 in (
      a.text_is ∙ ap (λ (t : List ℕ). t ++ a.started) opens.0 ∙ ap (λ (t : List ℕ). b.opening ++ t) starts.0 ∙ sym b.text_is,
      a.new_is ∙ ap (λ (v : WorldState). Some v) starts.1 ∙ sym b.new_is,
    )

-- 3. The calls of many keys.

abbrev made : ℕ → ℕ → CallKind → List Task → Option SweepState → CallState
made number session how tasks sweep =
    record { caller = record { session = session; call = number }; kind = how; tasks = tasks; sweep = sweep; cause = None }

-- no line of a bulk call stands for a command on one key
abbrev call_of : ℕ → ℕ → Option BulkLine → CallState
call_of number session None = made number session kind.Single [] None
call_of number session (Some (bulk.GetAll keys)) = made number session kind.Batch (at_each op.Get keys) None
call_of number session (Some (bulk.PutAll pairs)) = made number session kind.Batch (put_each_of pairs) None
call_of number session (Some (bulk.RemoveAll keys)) = made number session kind.Batch (at_each op.Remove keys) None
call_of number session (Some bulk.RemoveEvery) = made number session kind.Batch [] (Some (record { op = op.Remove; looked = [] }))
call_of number session (Some bulk.Clear) = made number session kind.Batch [] (Some (record { op = op.Clear; looked = [] }))
call_of number session (Some (bulk.LoadAll replace keys)) = made number session kind.Batch (at_each (op.LoadAll replace) keys) None
call_of number session (Some (bulk.InvokeAll keys)) = made number session kind.InvokeAll (at_each op.Invoke keys) None

is_call_of : (number session : ℕ) (c : Command) → is_some (bulk_call c) ≡ true → (new_call number session c ≡ call_of number session (bulk_call c)) × (is_playable c ≡ true)
is_call_of number session (command.Single o key) h = absurd (true≢false (sym h))
is_call_of number session c h = (refl, refl)

call_is : (number session : ℕ) (c : Command) (call : BulkLine) → bulk_call c ≡ Some call → (new_call number session c ≡ call_of number session (Some call)) × (is_playable c ≡ true)
call_is number session c call named =
    let there : is_some (bulk_call c) ≡ true = ap is_some named in
    let same = is_call_of number session c there in
    (same.0 ∙ ap (call_of number session) named, same.1)

bulk_same : RunsAreDetermined → (w : WorldState) (number session : ℕ) (call : BulkLine) (c d : Command) (x y : List ℕ) (n m : OpenedWorld)
    → bulk_call c ≡ Some call → bulk_call d ≡ Some call
    → (a : PlaysBegin w number session c x n) (b : PlaysBegin w number session d y m)
    → have_memory (shown_at_begin w number session c x n a) ≡ true → have_memory (shown_at_begin w number session d y m b) ≡ true
    → (x ≡ y) × (n ≡ m)
bulk_same law w number session call c d x y n m named too a b p q =
    let one = call_is number session c call named in
    let other = call_is number session d call too in
    begin_same law w number session c d x y n m (other.0 ∙ sym one.0) (other.1 ∙ sym one.1) a b p q

-- 4. Other lines.

act_same : RunsAreDetermined → (w : WorldState) (number : ℕ) (act : ScriptAct) (u : Option CallState) (x y : List ℕ) (n m : OpenedWorld)
    → (a : PlaysAct w number act u x n) (b : PlaysAct w number act u y m)
    → have_memory (shown_by_act w number act u x n a) ≡ true → have_memory (shown_by_act w number act u y m b) ≡ true
    → (x ≡ y) × (n ≡ m)
act_same law w number act None x y n m a b p q = absurd a
act_same law w number act (Some u) x y n m a b p q =
    let same = events_same law w a.after b.after (events_of_act w number act (keys_of_act w number act u)) a.plays.seen b.plays.seen a.shown b.shown
    a.plays.runs a.plays.text_is p b.plays.runs b.plays.text_is q in
    (a.text_is ∙ ap (λ (t : List ℕ). t ++ fails_text number (load_code act)) same.0 ∙ sym b.text_is, a.new_is ∙ ap (λ (v : WorldState). Some v) same.1 ∙ sym b.new_is)

one_same : RunsAreDetermined → (w : WorldState) (e : WorldEvent) (x y : List ℕ) (n m : OpenedWorld)
    → (a : PlaysOne w e x n) (b : PlaysOne w e y m)
    → have_memory (shown_by_one w e x n a) ≡ true → have_memory (shown_by_one w e y m b) ≡ true
    → (x ≡ y) × (n ≡ m)
one_same law w e x y None m a b p q = absurd a
one_same law w e x y (Some n) None a b p q = absurd b
one_same law w e x y (Some n) (Some m) a b p q =
    let same = events_same law w n m (e ∷ []) a.seen b.seen x y a.runs a.text_is p b.runs b.text_is q in
    (same.0, ap (λ (v : WorldState). Some v) same.1)

audit_same : (w : WorldState) (x y : List ℕ) → Audited w x → Audited w y → x ≡ y
audit_same w x y a b =
    let cache : a.says.cache ≡ b.says.cache = same_cache a.says.cache b.says.cache (λ key. a.says.cache_is key ∙ sym (b.says.cache_is key)) in
    let cached : a.cached ≡ b.cached = a.says.entries_are ∙ ap (λ (c : Cache). entries c) cache ∙ sym b.says.entries_are in
    let stored : a.stored ≡ b.stored = a.says.stored_are ∙ sym b.says.stored_are in
    let keys : a.keys ≡ b.keys = a.says.keys_are ∙ ap (differing w) cached ∙ sym b.says.keys_are in
    let events : a.events ≡ b.events = a.says.events_are ∙ sym b.says.events_are in
    let legal : a.legal ≡ b.legal = a.is_legal ∙ sym b.is_legal in
    a.text_is
    ∙ ap (λ (z : List (Bytes × Bytes)). audit_text z a.stored a.keys a.events a.legal) cached
    ∙ ap (λ (z : List (Bytes × Bytes)). audit_text b.cached z a.keys a.events a.legal) stored
    ∙ ap (λ (z : List Bytes). audit_text b.cached b.stored z a.events a.legal) keys
    ∙ ap (λ (z : ℕ). audit_text b.cached b.stored b.keys z a.legal) events
    ∙ ap (λ (z : Bool). audit_text b.cached b.stored b.keys b.events z) legal
    ∙ sym b.text_is

line_same : RunsAreDetermined → (old : OpenedWorld) (line : Line) (x y : List ℕ) (n m : OpenedWorld)
    → (a : Plays old line x n) (b : Plays old line y m)
    → have_memory (shown_by_line old line x n a) ≡ true → have_memory (shown_by_line old line y m b) ≡ true
    → (x ≡ y) × (n ≡ m)
line_same law None (Open config) x y n m a b p q = (a.0 ∙ sym b.0, a.1 ∙ sym b.1)
line_same law (Some w) (Set key value) x y n m a b p q = (a.0 ∙ sym b.0, a.1 ∙ sym b.1)
line_same law (Some w) (Begin number session operation) x y n m a b p q = begin_same law w number session (single operation) (single operation) x y n m refl refl a b p q
line_same law (Some w) (BeginBulk number session call) x y n m a b p q = bulk_same law w number session call a.0 b.0 x y n m a.1 b.1 a.2 b.2 p q
line_same law (Some w) (OfCall number act) x y n m a b p q = act_same law w number act (open_call w number) x y n m a b p q
line_same law (Some w) (Foreign key value) x y n m a b p q = one_same law w (event.Foreign key value) x y n m a b p q
line_same law (Some w) (Invalidate key) x y n m a b p q = one_same law w (event.Invalidate key) x y n m a b p q
line_same law (Some w) (Reopen config) x y n m a b p q = one_same law w (event.Reopen config) x y n m a b p q
line_same law (Some w) Audit x y n m a b p q = (audit_same w x y a.0 b.0, a.1 ∙ sym b.1)
line_same law (Some w) Untold x y n m a b p q = (a.0 ∙ sym b.0, a.1 ∙ sym b.1)
line_same law old line x y n m a b p q = absurd a

read_same : RunsAreDetermined → (old : OpenedWorld) (read : Result (Option Line) Fault) (x y : List ℕ) (n m : OpenedWorld)
    → (a : PlaysRead old read x n) (b : PlaysRead old read y m)
    → have_memory (shown_by_read old read x n a) ≡ true → have_memory (shown_by_read old read y m b) ≡ true
    → (x ≡ y) × (n ≡ m)
read_same law old (Ok None) x y n m a b p q = (a.0 ∙ sym b.0, a.1 ∙ sym b.1)
read_same law old (Ok (Some line)) x y n m a b p q = line_same law old line x y n m a.1 b.1 p q
read_same law old (Err fault) x y n m a b p q = absurd a

-- 5. Scripts.

none_some : (fault : Fault) → None ≡ Some fault → ⊥
none_some fault h = true≢false (sym (ap is_some h))

abbrev or_this : Fault → Option Fault → Fault
or_this fault None = fault
or_this fault (Some other) = other

-- a line that is played has no fault
no_fault : (old : OpenedWorld) (read : Result (Option Line) Fault) (text : List ℕ) (new : OpenedWorld) (fault : Fault)
    → PlaysRead old read text new → fault_read old read ≡ Some fault → ⊥
no_fault old (Ok None) text new fault plays h = none_some fault h
no_fault old (Ok (Some line)) text new fault plays h = none_some fault (sym plays.0 ∙ h)
no_fault old (Err other) text new fault plays h = absurd plays

last_same : (n : ℕ) (last x y : List ℕ) (end other : RunEnd) → EndsScript n last x end → EndsScript n last y other → (x ≡ y) × (end ≡ other)
last_same n [] x y end other a b = (a.0 ∙ sym b.0, a.1 ∙ sym b.1)
last_same n (c ∷ cs) x y end other a b = (a.0 ∙ sym b.0, a.1 ∙ sym b.1)

pub transcript_same : RunsAreDetermined → (old : OpenedWorld) (n : ℕ) (pieces : List (List ℕ)) (x y : List ℕ) (end other : RunEnd)
    → (a : Transcript old n pieces x end) (b : Transcript old n pieces y other)
    → have_memory (shown_in old n pieces x end a) ≡ true → have_memory (shown_in old n pieces y other b) ≡ true
    → (x ≡ y) × (end ≡ other)
transcript_same law old n [] x y end other a b p q = absurd a
transcript_same law old n (last ∷ []) x y end other a b p q = last_same n last x y end other a b
transcript_same law old n (line ∷ next ∷ more) x y end other (inl (text, rest, new, prints, left, is)) (inl (said, later, mid, says, behind, too)) p q =
    let read = read_line line in
    let ps = both_have (shown_by_read old read text new prints) (shown_in new (n + 1) (next ∷ more) rest end left) p in
    let qs = both_have (shown_by_read old read said mid says) (shown_in mid (n + 1) (next ∷ more) later other behind) q in
    let here = read_same law old read text said new mid prints says ps.0 qs.0 in
    let there = subst (λ (v : OpenedWorld). (b : Transcript v (n + 1) (next ∷ more) later other) × (have_memory (shown_in v (n + 1) (next ∷ more) later other b) ≡ true)) (sym here.1) (behind, qs.1) in
    let on = transcript_same law new (n + 1) (next ∷ more) rest later end other left there.0 ps.1 there.1 in
    (is ∙ ap (λ (t : List ℕ). t ++ rest) here.0 ∙ ap (λ (t : List ℕ). said ++ t) on.0 ∙ sym too, on.1)
transcript_same law old n (line ∷ next ∷ more) x y end other (inl (text, rest, new, prints, left, is)) (inr (fault, faults, too, ends)) p q =
    absurd (no_fault old (read_line line) text new fault prints faults)
transcript_same law old n (line ∷ next ∷ more) x y end other (inr (fault, faults, is, ends)) (inl (text, rest, new, prints, left, too)) p q =
    absurd (no_fault old (read_line line) text new fault prints faults)
transcript_same law old n (line ∷ next ∷ more) x y end other (inr (fault, faults, is, ends)) (inr (second, has, too, stops)) p q =
    let same : fault ≡ second = ap (or_this fault) (sym faults ∙ has) in
    (is ∙ ap (fault_line n) same ∙ sym too, ends ∙ sym stops)

-- 6. By what is printed.

pub printed_same : RunsAreDetermined → PrintedMemoryDetermines
printed_same law input one other end last h k quiet silent =
    transcript_same law None 1 (pieces_of input) one other end last h k
    (none_lack None 1 (pieces_of input) one end h quiet) (none_lack None 1 (pieces_of input) other last k silent)

-- a run has read all of the known bytes
input_is : (script input : List ℕ) (left : Option (List ℕ)) → ReadsAll (Some script) left input → input ≡ script
input_is script input None read = absurd read.taken
input_is script input (Some bytes) read =
    sym (append-nil input) ∙ ap (λ (xs : List ℕ). input ++ xs) (sym read.at_end) ∙ sym read.taken

pub runs_same : RunsAreDetermined → RunsWriteTheSame
runs_same law script left rest old new before after old_told told told_before told_after end last h k quiet silent =
    let one = subst (λ (xs : List ℕ). IsTranscript xs h.out end) (input_is script h.input left h.read) h.transcript in
    let other = subst (λ (xs : List ℕ). IsTranscript xs k.out last) (input_is script k.input rest k.read) k.transcript in
    printed_same law script h.out k.out end last one other quiet silent

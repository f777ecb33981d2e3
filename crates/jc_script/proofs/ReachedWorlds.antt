-- A line without a fault leads from a world that is reached to one that is, and so do the lines of a transcript.
--     run_on          a run, and one after it, are one
--     texts_on        what is printed of both is printed of the one after the other
--     is_mark         a call's begin, a foreign write, an invalidation, or a reopening: no world is fresh after one that fits
--     happens_fresh, run_fresh     what isn't fresh never is again
--     IsIdle          no call is under way, and none has reserved or joined anything
--     idle_unfit      then nothing fits but these three
--     set_stays       so a value that is put into the store of a fresh world is there from its opening on
--     reaches_start, reaches_on, reaches_set     what is reached: an opening; what events lead to; with a value in its store
--     no_event, some_events     a line that makes no event leads on, and so does one that makes some
--     piece_stays     each line without a fault leads on, by its bytes
--     script_stays    and so do the lines of a script, one after another
use Rattle.jc_script.proofs.Common.{arith, ◌+◌, ◌≡◌, ◌∙◌, option_map, ◌++◌, ◌&&◌, ℕ, Bool, true, false, cond, List, [], ◌∷◌, Option, None, Some, Result, Ok, Err, is_some, find, refl, sym, ap, subst, subst₂, inl, inr, append_assoc, append-nil, true≢false, and_from, list_all-append, empty, get, get-empty, Config, BadConfig, WriterFailed, check, is_between, STRIPES_MAX, CAPACITY_MAX, HISTORY_MIN, HISTORY_MAX, Op, Bytes, key_cmp, is_load_given, Outcome, Part, Shown, WorldEvent, CallState, has_number, after_report, after_reports, keys_reported, reported_now, with_met_by, reported_at, all_fit, is_fit, EndsAs, Happens, Picks, Run, StartsAs, fits, may_change, may_leave, may_look, may_report, may_start, opening_events, WorldState, join_cmp, start, has_progress, of_call, open_call, part_of, waits_for_load, waits_for_process, waits_for_report, is_all_answered, is_untouched, with_stored, Command, Fault, SetTooLate, ScriptAct, events_of_act, keys_of_act, load_code, single, start_events, Line, Open, Set, Begin, BeginBulk, OfCall, Foreign, Invalidate, Reopen, Audit, Untold, read_line, event_text, fails_text, texts, RunEnd, OpenedWorld, Plays, PlaysAct, PlaysBegin, PlaysOne, PlaysRead, Prints, Transcript}
use Rattle.std.proofs.Math.Bool.{and-false}
use Rattle.jc_types.specs.declared.caller.Caller.{Caller}
use Rattle.jc_types.specs.declared.config.Field.TheVariants.{Stripes, Capacity, History}
use Rattle.jc_model.specs.declared.event.WriteAnswer.{WriteAnswer}
use Rattle.jc_stripe.specs.State.{State}
use Rattle.jc_stripe.specs.Tickets.{JoinClaim}
use Rattle.jc_world.specs.declared.event.Outcome.TheVariants as outcome
use Rattle.jc_world.specs.declared.event.WorldEvent.TheVariants as event
use Rattle.jc_world.specs.Headline.{start_with, Reaches, StartsOpen}
use Rattle.jc_world.specs.Premises.{report_for}
use Rattle.jc_script.specs.Faults.{config_fault, state_fault}
use Rattle.jc_script.specs.ReachedWorlds.{EndsAtLine, IsBeside, IsReachedBy, LeadsOn, LeadsToEnd}

-- 1. Runs one after another.

run_on : (old mid new : WorldState) (es fs : List WorldEvent) (ss ts : List Shown) → Run old es ss mid → Run mid fs ts new → Run old (es ++ fs) (ss ++ ts) new
run_on old mid new [] fs [] ts run next = subst (λ (w : WorldState). Run w fs ts new) run next
run_on old mid new (e ∷ es) fs (s ∷ ss) ts (at, step, rest) next = (at, step, run_on at mid new es fs ss ts rest next)
run_on old mid new es fs ss ts run next = absurd run

-- what is printed of both is printed of one after the other
texts_on : (old mid : WorldState) (es fs : List WorldEvent) (ss ts : List Shown) → Run old es ss mid → texts (es ++ fs) (ss ++ ts) ≡ texts es ss ++ texts fs ts
texts_on old mid [] fs [] ts run = refl
texts_on old mid (e ∷ es) fs (s ∷ ss) ts (at, step, rest) = ap (λ (t : List ℕ). event_text e s ++ t) (texts_on at mid es fs ss ts rest) ∙ sym (append_assoc (event_text e s) (texts es ss) (texts fs ts))
texts_on old mid es fs ss ts run = absurd run

-- 2. What happens to a world leaves it fresh only if nothing has happened.

abbrev fresh : WorldState → Bool
fresh w = w.is_fresh

-- a first phase
starts_fresh : (w new : WorldState) (caller : Caller) (key : Bytes) (op : Op) (from to : State) (seen : Outcome) → StartsAs w caller key op from to seen new → fresh new ≡ fresh w
starts_fresh w new caller key op from to (outcome.Refused refusal) h = ap fresh h.1
starts_fresh w new caller key op from to (outcome.PutOff refusal) h = ap fresh h.1
starts_fresh w new caller key op from to (outcome.Stepped x) h = ap fresh h.2
starts_fresh w new caller key op from to outcome.Loads h = ap fresh h.3
starts_fresh w new caller key op from to (outcome.Asks change) h = ap fresh h.3
starts_fresh w new caller key op from to (outcome.Processes entry) h = ap fresh h.3
starts_fresh w new caller key op from to outcome.Joins h = ap fresh h.2
starts_fresh w new caller key op from to seen h = absurd h

-- a last phase
ends_fresh : (w new : WorldState) (call : ℕ) (key : Bytes) (part : Part) (from to : State) (seen : Outcome) → EndsAs w call key part from to seen new → fresh new ≡ fresh w
ends_fresh w new call key part from to (outcome.Stepped x) h = ap fresh h.2
ends_fresh w new call key part from to seen h = absurd h

-- a pick-up
picks_fresh : (w new : WorldState) (call : ℕ) (key : Bytes) (join : JoinClaim) (from to : State) (seen : Outcome) → Picks w call key join from to seen new → fresh new ≡ fresh w
picks_fresh w new call key join from to (outcome.PickedUp x) h = ap fresh h.2
picks_fresh w new call key join from to outcome.Again h = ap fresh h.1
picks_fresh w new call key join from to outcome.Waits h = ap fresh h.1
picks_fresh w new call key join from to seen h = absurd h

-- the writer's returns
reported_fresh : (w : WorldState) (key : Bytes) (report : WriteAnswer) (part : Option Part) → fresh (reported_at w key report part) ≡ fresh w
reported_fresh w key report None = refl
reported_fresh w key report (Some part) = by (waits_for_report part)
  where
    by : (b : Bool) → fresh (cond b (after_report w key part report) w) ≡ fresh w
    by true = refl
    by false = refl

reports_fresh : (w : WorldState) (call : ℕ) (answer : Bytes → WriteAnswer) (keys : List Bytes) → fresh (after_reports w call answer keys) ≡ fresh w
reports_fresh w call answer [] = refl
reports_fresh w call answer (key ∷ keys) =
    reports_fresh (reported_at w key (answer key) (part_of w call key)) call answer keys ∙ reported_fresh w key (answer key) (part_of w call key)

-- a call's begin, a foreign write, an invalidation and a reopening: no world is fresh after them
abbrev is_mark : WorldEvent → Bool
is_mark (event.Call call session command) = true
is_mark (event.Foreign key value) = true
is_mark (event.Invalidate key) = true
is_mark (event.Reopen config) = true
is_mark e = false

happens_fresh : (w new : WorldState) (e : WorldEvent) (seen : Shown) → Happens w e seen new → fresh w ≡ false → fresh new ≡ false
happens_fresh w new (event.Call call session command) seen h stale = ap fresh h.1
happens_fresh w new (event.Look call stripe) seen h stale = ap fresh h.9 ∙ stale
happens_fresh w new (event.Start call key) seen h stale = starts_fresh w new h.0.caller key h.1 h.4 h.6 seen.outcome h.7 ∙ stale
happens_fresh w new (event.Read call key) seen h stale = ap fresh h.3 ∙ stale
happens_fresh w new (event.Say call key answer) seen h stale = ap fresh h.3 ∙ stale
happens_fresh w new (event.Change call key) seen h stale = ap fresh h.5 ∙ stale
happens_fresh w new (event.Report call left fault) seen h stale =
    ap fresh h.3 ∙ reports_fresh (with_met_by w call (option_map WriterFailed fault)) call (report_for h.0.kind left fault) (keys_reported (reported_now w call h.0)) ∙ stale
happens_fresh w new (event.Process call key source calls fail) seen h stale = ap fresh h.3 ∙ stale
happens_fresh w new (event.Commit call key) seen h stale = ends_fresh w new call key h.0 h.2 h.4 seen.outcome h.5 ∙ stale
happens_fresh w new (event.Withdraw call key) seen h stale = ap fresh h.7 ∙ stale
happens_fresh w new (event.Leave call) seen h stale = ap fresh h.1 ∙ stale
happens_fresh w new (event.PickUp call key) seen h stale = picks_fresh w new call key h.0 h.2 h.4 seen.outcome h.5 ∙ stale
happens_fresh w new (event.Foreign key value) seen h stale = ap fresh h.1
happens_fresh w new (event.Invalidate key) seen h stale = ap fresh h.5
happens_fresh w new (event.Reopen config) seen h stale = ap fresh h.1

run_fresh : (w new : WorldState) (es : List WorldEvent) (ss : List Shown) → Run w es ss new → fresh w ≡ false → fresh new ≡ false
run_fresh w new [] [] run stale = ap fresh run ∙ stale
run_fresh w new (e ∷ es) (s ∷ ss) (mid, inl (fit, happens), rest) stale = run_fresh mid new es ss rest (happens_fresh w mid e s happens stale)
run_fresh w new (e ∷ es) (s ∷ ss) (mid, inr (unfit, shows, is), rest) stale = run_fresh mid new es ss rest (ap fresh is ∙ stale)
run_fresh w new es ss run stale = absurd run

-- 3. Nothing but these fits before the first call.

record IsIdle (w : WorldState) : Type 0 where
  calls : w.calls ≡ []
  parts : w.parts ≡ empty
  joins : w.joins ≡ empty

idle_stored : (w : WorldState) (key value : Bytes) → IsIdle w → IsIdle (with_stored w key value)
idle_stored w key value idle = record { calls = idle.calls; parts = idle.parts; joins = idle.joins }

idle_start : (config : Config) (stored : List (Bytes × Bytes)) → IsIdle (start_with config stored)
idle_start config [] = record { calls = refl; parts = refl; joins = refl }
idle_start config (e ∷ es) = idle_stored (start_with config es) e.0 e.1 (idle_start config es)

none_open : (w : WorldState) (call : ℕ) → IsIdle w → open_call w call ≡ None
none_open w call idle = ap (find (has_number call)) idle.calls

none_part : (w : WorldState) (call : ℕ) (key : Bytes) → IsIdle w → part_of w call key ≡ None
none_part w call key idle = ap (λ parts. of_call call (get parts key)) idle.parts ∙ ap (of_call call) (get-empty key_cmp key)

idle_unfit : (w : WorldState) → IsIdle w → (e : WorldEvent) → is_mark e ≡ false → fits w e ≡ false
idle_unfit w idle (event.Look call stripe) other = ap (may_look w.config.stripes stripe) (none_open w call idle)
idle_unfit w idle (event.Start call key) other = ap (may_start w call key) (none_open w call idle)
idle_unfit w idle (event.Read call key) other = ap (has_progress waits_for_load) (none_part w call key idle)
idle_unfit w idle (event.Say call key answer) other = ap (λ p. is_load_given answer && has_progress waits_for_load p) (none_part w call key idle) ∙ and-false (is_load_given answer)
idle_unfit w idle (event.Change call key) other = ap (may_change w call key) (none_open w call idle)
idle_unfit w idle (event.Report call left fault) other = ap (may_report w call) (none_open w call idle)
idle_unfit w idle (event.Process call key source calls fail) other = ap (has_progress waits_for_process) (none_part w call key idle)
idle_unfit w idle (event.Commit call key) other = ap (has_progress is_all_answered) (none_part w call key idle)
idle_unfit w idle (event.Withdraw call key) other = ap (has_progress is_untouched) (none_part w call key idle)
idle_unfit w idle (event.Leave call) other = ap (may_leave w call) (none_open w call idle)
idle_unfit w idle (event.PickUp call key) other = ap (λ joins. is_some (get joins (call, key))) idle.joins ∙ ap is_some (get-empty join_cmp (call, key))
idle_unfit w idle e other = cc

-- so no world is fresh after the first event that fits
first_marks : (w new : WorldState) (e : WorldEvent) (seen : Shown) → IsIdle w → fits w e ≡ true → Happens w e seen new → fresh new ≡ false
first_marks w new (event.Call call session command) seen idle fit h = ap fresh h.1
first_marks w new (event.Foreign key value) seen idle fit h = ap fresh h.1
first_marks w new (event.Invalidate key) seen idle fit h = ap fresh h.5
first_marks w new (event.Reopen config) seen idle fit h = ap fresh h.1
first_marks w new e seen idle fit h = absurd (true≢false (sym fit ∙ idle_unfit w idle e refl))

-- and what doesn't fit doesn't, whatever the store holds
stored_unfit : (w : WorldState) (key value : Bytes) (e : WorldEvent) → IsIdle w → fits w e ≡ false → fits (with_stored w key value) e ≡ false
stored_unfit w key value (event.Call call session command) idle unfit = unfit
stored_unfit w key value (event.Foreign k v) idle unfit = unfit
stored_unfit w key value (event.Invalidate k) idle unfit = unfit
stored_unfit w key value (event.Reopen config) idle unfit = unfit
stored_unfit w key value e idle unfit = idle_unfit (with_stored w key value) (idle_stored w key value idle) e refl

set_stays : (old new : WorldState) (es : List WorldEvent) (ss : List Shown) (key value : Bytes) → IsIdle old → Run old es ss new → fresh new ≡ true → Run (with_stored old key value) es ss (with_stored new key value)
set_stays old new [] [] key value idle run fresh = ap (λ (w : WorldState). with_stored w key value) run
set_stays old new (e ∷ es) (s ∷ ss) key value idle (mid, inl (fit, happens), rest) fresh =
    absurd (true≢false (sym fresh ∙ run_fresh mid new es ss rest (first_marks old mid e s idle fit happens)))
set_stays old new (e ∷ es) (s ∷ ss) key value idle (mid, inr (unfit, shows, is), rest) fresh =
    let next = subst (λ (w : WorldState). Run w es ss new) is rest in
    (with_stored old key value, inr (stored_unfit old key value e idle unfit, shows, refl), set_stays old new es ss key value idle next fresh)
set_stays old new es ss key value idle run fresh = absurd run

-- 4. What is reached: only these three lemmas look into its definition.

-- a shape that has no fault is within its limits
shape_fits : (config : Config) → config_fault (check config) ≡ None → check config ≡ Ok tt
shape_fits config none = by (is_between 1 STRIPES_MAX config.stripes) (is_between 1 CAPACITY_MAX config.capacity) (is_between HISTORY_MIN HISTORY_MAX config.history) none
  where
    by : (a b c : Bool) → config_fault (cond a (cond b (cond c (Ok (tt {0})) (Err (BadConfig History))) (Err (BadConfig Capacity))) (Err (BadConfig Stripes))) ≡ None
        → cond a (cond b (cond c (Ok (tt {0})) (Err (BadConfig History))) (Err (BadConfig Capacity))) (Err (BadConfig Stripes)) ≡ Ok tt
    by true true true none = refl
    by true true false none = cc
    by true false c none = cc
    by false b c none = cc

start_config : (config : Config) (stored : List (Bytes × Bytes)) → (start_with config stored).config ≡ config
start_config config [] = refl
start_config config (e ∷ es) = start_config config es

reaches_start : StartsOpen → (config : Config) → config_fault (check config) ≡ None → Reaches (start config) [] [] (start config)
reaches_start starts config none = (starts config [] (shape_fits config none), refl)

reaches_on : (config : Config) (stored : List (Bytes × Bytes)) (es more : List WorldEvent) (ss shown : List Shown) (w after : WorldState) → Reaches (start_with config stored) es ss w → Run w more shown after
    → Reaches (start_with config stored) (es ++ more) (ss ++ shown) after
reaches_on config stored es more ss shown w after (opens, run) next = (opens, run_on (start_with config stored) w after es more ss shown run next)

reaches_set : StartsOpen → (config : Config) (stored : List (Bytes × Bytes)) (es : List WorldEvent) (ss : List Shown) (w : WorldState) (key value : Bytes) → fresh w ≡ true → Reaches (start_with config stored) es ss w
    → Reaches (start_with config ((key, value) ∷ stored)) es ss (with_stored w key value)
reaches_set starts config stored es ss w key value new (opens, run) =
    (starts config ((key, value) ∷ stored) (ap check (sym (start_config config stored)) ∙ opens.config_fits), set_stays (start_with config stored) w es ss key value (idle_start config stored) run new)

-- 5. Lines.

none_on : (es : List WorldEvent) (ss : List Shown) (new : OpenedWorld) → IsReachedBy es ss new → IsReachedBy (es ++ []) (ss ++ []) new
none_on es ss new reached = subst₂ (λ xs ys. IsReachedBy xs ys new) (sym (append-nil es)) (sym (append-nil ss)) reached

-- a line that makes no event
no_event : (es : List WorldEvent) (ss : List Shown) (text : List ℕ) (new : OpenedWorld) → IsReachedBy es ss new → IsBeside new text → LeadsOn es ss text new
no_event es ss text new reached is_beside =
    record { more = []; shown = []; beside = text; reached = none_on es ss new reached; fit = refl; text_is = refl; is_beside = is_beside }

nothing_beside : (new : OpenedWorld) → IsBeside new []
nothing_beside new = inl refl

-- the code of a load that failed, if it did
fault_beside : (new : OpenedWorld) (call : ℕ) (fault : Option ℕ) → IsBeside new (fails_text call fault)
fault_beside new call None = inl refl
fault_beside new call (Some code) = inr (inr (inr (inr (call, code, refl))))

-- one that makes some
some_events : (es : List WorldEvent) (ss : List Shown) (w after : WorldState) (text : List ℕ) (new : OpenedWorld) (more : List WorldEvent) (shown : List Shown) (beside : List ℕ) → IsReachedBy es ss (Some w)
    → Run w more shown after → all_fit shown ≡ true → text ≡ texts more shown ++ beside → IsBeside new beside → new ≡ Some after → LeadsOn es ss text new
some_events es ss w after text new more shown beside (config, stored, reached) next fit text_is is_beside new_is =
    record {
      more = more;
      shown = shown;
      beside = beside;
      reached = subst (IsReachedBy (es ++ more) (ss ++ shown)) (sym new_is) (config, stored, reaches_on config stored es more ss shown w after reached next);
      fit = fit;
      text_is = text_is;
      is_beside = is_beside;
    }

begin_stays : (es : List WorldEvent) (ss : List Shown) (w : WorldState) (number session : ℕ) (command : Command) (text : List ℕ) (new : OpenedWorld) → IsReachedBy es ss (Some w) → PlaysBegin w number session command text new
    → LeadsOn es ss text new
begin_stays es ss w number session command text new reached h =
    let opening = opening_events number session command w.config.stripes in
    let starting = start_events h.begun number (open_call h.begun number) in
    let seen = h.opens.seen ++ h.starts.seen in
    let fit : all_fit seen ≡ true = list_all-append (λ (s : Shown). is_fit s.outcome) h.opens.seen h.starts.seen ∙ and_from (all_fit h.opens.seen) (all_fit h.starts.seen) h.opens.fit h.starts.fit in
    let both : h.opening ++ h.started ≡ texts opening h.opens.seen ++ texts starting h.starts.seen = ap (λ (t : List ℕ). t ++ h.started) h.opens.text_is ∙ ap (λ (t : List ℕ). texts opening h.opens.seen ++ t) h.starts.text_is in
    let told : text ≡ texts (opening ++ starting) seen ++ [] =
    h.text_is ∙ both ∙ sym (texts_on w h.begun opening starting h.opens.seen h.starts.seen h.opens.runs) ∙ sym (append-nil (texts (opening ++ starting) seen)) in
    some_events es ss w h.after text new (opening ++ starting) seen [] reached (run_on w h.begun h.after opening starting h.opens.seen h.starts.seen h.opens.runs h.starts.runs) fit told (nothing_beside new) h.new_is

act_stays : (es : List WorldEvent) (ss : List Shown) (w : WorldState) (number : ℕ) (act : ScriptAct) (u : Option CallState) (text : List ℕ) (new : OpenedWorld) → IsReachedBy es ss (Some w) → PlaysAct w number act u text new → LeadsOn es ss text new
act_stays es ss w number act None text new reached h = absurd h
act_stays es ss w number act (Some u) text new reached h =
    let fault = fails_text number (load_code act) in
    some_events es ss w h.after text new (events_of_act w number act (keys_of_act w number act u)) h.plays.seen fault reached h.plays.runs h.plays.fit (h.text_is ∙ ap (λ (t : List ℕ). t ++ fault) h.plays.text_is) (fault_beside new number (load_code act)) h.new_is

one_stays : (es : List WorldEvent) (ss : List Shown) (w : WorldState) (e : WorldEvent) (text : List ℕ) (new : OpenedWorld) → IsReachedBy es ss (Some w) → PlaysOne w e text new → LeadsOn es ss text new
one_stays es ss w e text None reached h = absurd h
one_stays es ss w e text (Some after) reached h =
    let made = e ∷ [] in
    some_events es ss w after text (Some after) made h.seen [] reached h.runs h.fit (h.text_is ∙ sym (append-nil (texts made h.seen))) (nothing_beside (Some after)) refl

fresh_if : (b : Bool) (f : Fault) → cond b None (Some f) ≡ None → b ≡ true
fresh_if true f none = refl
fresh_if false f none = cc

line_stays : StartsOpen → (es : List WorldEvent) (ss : List Shown) (old : OpenedWorld) (line : Line) (text : List ℕ) (new : OpenedWorld) → IsReachedBy es ss old → state_fault old line ≡ None → Plays old line text new → LeadsOn es ss text new
line_stays starts es ss None (Open config) text new (no_events, none_seen) none (told, is) =
    let opened = subst₂ (λ xs ys. IsReachedBy xs ys (Some (start config))) (sym no_events) (sym none_seen) (config, [], reaches_start starts config none) in
    no_event es ss text new (subst (IsReachedBy es ss) (sym is) opened) (inr (inl (config, is, told)))
line_stays starts es ss (Some w) (Set key value) text new (config, stored, reached) none (told, is) =
    let is_new = fresh_if (fresh w) SetTooLate none in
    no_event es ss text new (subst (IsReachedBy es ss) (sym is) (config, (key, value) ∷ stored, reaches_set starts config stored es ss w key value is_new reached)) (inl told)
line_stays starts es ss (Some w) (Begin number session operation) text new reached none h = begin_stays es ss w number session (single operation) text new reached h
line_stays starts es ss (Some w) (BeginBulk number session call) text new reached none (command, named, h) = begin_stays es ss w number session command text new reached h
line_stays starts es ss (Some w) (OfCall number act) text new reached none h = act_stays es ss w number act (open_call w number) text new reached h
line_stays starts es ss (Some w) (Foreign key value) text new reached none h = one_stays es ss w (event.Foreign key value) text new reached h
line_stays starts es ss (Some w) (Invalidate key) text new reached none h = one_stays es ss w (event.Invalidate key) text new reached h
line_stays starts es ss (Some w) (Reopen config) text new reached none h = one_stays es ss w (event.Reopen config) text new reached h
line_stays starts es ss (Some w) Audit text new reached none (audited, is) = no_event es ss text new (subst (IsReachedBy es ss) (sym is) reached) (inr (inr (inl (w, is, audited))))
line_stays starts es ss (Some w) Untold text new reached none (told, is) = no_event es ss text new (subst (IsReachedBy es ss) (sym is) reached) (inr (inr (inr (inl (w, is, told)))))
line_stays starts es ss old line text new reached none h = absurd h

read_stays : StartsOpen → (es : List WorldEvent) (ss : List Shown) (old : OpenedWorld) (read : Result (Option Line) Fault) (text : List ℕ) (new : OpenedWorld) → IsReachedBy es ss old → PlaysRead old read text new → LeadsOn es ss text new
read_stays starts es ss old (Ok None) text new reached (told, is) = no_event es ss text new (subst (IsReachedBy es ss) (sym is) reached) (inl told)
read_stays starts es ss old (Ok (Some line)) text new reached (none, plays) = line_stays starts es ss old line text new reached none plays
read_stays starts es ss old (Err fault) text new reached h = absurd h

pub piece_stays : StartsOpen → (es : List WorldEvent) (ss : List Shown) (old new : OpenedWorld) (line text : List ℕ) → IsReachedBy es ss old → Prints old line text new → LeadsOn es ss text new
piece_stays starts es ss old new line text reached prints = read_stays starts es ss old (read_line line) text new reached prints

-- 6. Scripts.

pub script_stays : StartsOpen → (es : List WorldEvent) (ss : List Shown) (old : OpenedWorld) (n : ℕ) (pieces : List (List ℕ)) (out : List ℕ) (end : RunEnd) → IsReachedBy es ss old → Transcript old n pieces out end → LeadsToEnd es ss old n pieces out end
script_stays starts es ss old n [] out end reached h = absurd h
script_stays starts es ss old n (last ∷ []) out end reached h =
    record {
      lines = [];
      others = last ∷ [];
      printed = [];
      last = out;
      new = old;
      pieces_are = refl;
      leads = (refl, refl);
      ends = subst (λ m. EndsAtLine old m (last ∷ []) out end) (omega arith) h;
      out_is = refl;
    }
script_stays starts es ss old n (line ∷ next ∷ more) out end reached (inl (text, rest, mid, prints, left, out_is)) =
    let on = piece_stays starts es ss old mid line text reached prints in
    let r = script_stays starts (es ++ on.more) (ss ++ on.shown) mid (n + 1) (next ∷ more) rest end on.reached left in
    record {
      lines = line ∷ r.lines;
      others = r.others;
      printed = text ++ r.printed;
      last = r.last;
      new = r.new;
      pieces_are = ap (λ (xs : List (List ℕ)). line ∷ xs) r.pieces_are;
      leads = (text, r.printed, mid, prints, on, r.leads, refl);
      ends = subst (λ m. EndsAtLine r.new m r.others r.last end) (omega arith) r.ends;
      out_is = out_is ∙ ap (λ (t : List ℕ). text ++ t) r.out_is ∙ sym (append_assoc text r.printed r.last);
    }
script_stays starts es ss old n (line ∷ next ∷ more) out end reached (inr h) =
    record {
      lines = [];
      others = line ∷ next ∷ more;
      printed = [];
      last = out;
      new = old;
      pieces_are = refl;
      leads = (refl, refl);
      ends = subst (λ m. EndsAtLine old m (line ∷ next ∷ more) out end) (omega arith) h;
      out_is = refl;
    }

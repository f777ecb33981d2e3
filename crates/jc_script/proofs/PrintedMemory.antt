-- An eviction that was made since an allocation failed is printed.
--     before_it, behind_it    a text with such a line before or behind another has it
--     event_tells             an event that shows such an eviction prints it
--     transcript_tells        and so does a transcript
use Rattle.jc_script.proofs.Common.{◌≡◌, ◌∙◌, ◌+◌, ◌++◌, ◌&&◌, ℕ, Bool, true, false, cond, List, [], ◌∷◌, Option, None, Some, Result, Ok, Err, refl, sym, ap, subst, inl, inr, append_assoc, append-nil, true≢false, ◌⊎◌, codes, list_all-append, Bytes, CallState, has_too_many_keys, new_call, over_of, TooManyKeys, Command, Outcome, Shown, WorldEvent, LoadSource, cause_has_memory, eviction_has_memory, has_memory, have_memory, Happens, Run, Step, not_over, shown_begun, opening_events, WorldState, home, is_reserved, eviction_place, EvictionPlace, open_call, Fault, ScriptAct, Line, Open, Set, Begin, BeginBulk, OfCall, Foreign, Invalidate, Reopen, Audit, Untold, RunEnd, TellsOfMemory, shown_at_begin, shown_by_act, shown_by_one, shown_by_line, shown_by_read, shown_in, events_of_act, keys_of_act, load_code, single, start_events, read_line, OpenedWorld, Plays, PlaysAct, PlaysBegin, PlaysOne, PlaysRead, Transcript}
use Rattle.jc_model.specs.declared.event.Cause.{Cause}
use Rattle.jc_model.specs.declared.event.Cause.TheVariants.{Full, Memory, Invalidated}
use Rattle.jc_stripe.specs.declared.begun.Eviction.{Eviction}
use Rattle.jc_world.specs.declared.event.Outcome.TheVariants as outcome
use Rattle.jc_world.specs.declared.event.Stepped.{Stepped}
use Rattle.jc_world.specs.declared.event.WorldEvent.TheVariants as event
use Rattle.jc_text.specs.Printing.{end_text, event_text, evict_line, evicted_text, fails_text, outcome_text, process_outcome_text, shown_text, stepped_text, texts, told, victim_text}

-- 1. Texts.

before_it : (a b : List ℕ) → TellsOfMemory a → TellsOfMemory (a ++ b)
before_it a b (before, key, stripe, place, after, is) = (
  before,
  key,
  stripe,
  place,
  after ++ b,
  ap (λ (t : List ℕ). t ++ b) is ∙ append_assoc (before ++ evict_line key Memory stripe place) after b,
)

behind_it : (a b : List ℕ) → TellsOfMemory b → TellsOfMemory (a ++ b)
behind_it a b (before, key, stripe, place, after, is) =
    let line = evict_line key Memory stripe place in (
      a ++ before,
      key,
      stripe,
      place,
      after,
      ap (λ (t : List ℕ). a ++ t) is ∙ sym (append_assoc a (before ++ line) after) ∙ ap (λ (t : List ℕ). t ++ after) (sym (append_assoc a before line)),
    )

cause_tells : (key : Bytes) (cause : Cause) (stripe place : ℕ) → cause_has_memory cause ≡ false → TellsOfMemory (evict_line key cause stripe place)
cause_tells key Full stripe place h = absurd (true≢false h)
cause_tells key Invalidated stripe place h = absurd (true≢false h)
cause_tells key Memory stripe place h = ([], key, stripe, place, [], sym (append-nil (evict_line key Memory stripe place)))

evicted_tells : (key : Bytes) (evicted : Option Eviction) (stripe : ℕ) → eviction_has_memory evicted ≡ false → TellsOfMemory (evicted_text key evicted stripe)
evicted_tells key None stripe h = absurd (true≢false h)
evicted_tells key (Some gone) stripe h = cause_tells key gone.cause stripe gone.place h

stepped_tells : (call : ℕ) (key : Bytes) (seen : Stepped) → eviction_has_memory seen.evicted ≡ false → TellsOfMemory (stepped_text call key seen)
unfolding stepped_text
stepped_tells call key seen h =
    behind_it (victim_text seen.victim seen.stripe seen.place ++ outcome_text call key seen.reply seen.stripe seen.place ++ codes "\n")
    (evicted_text key seen.evicted seen.stripe) (evicted_tells key seen.evicted seen.stripe h)

shown_tells : (call : ℕ) (key : Bytes) (o : Outcome) → has_memory o ≡ false → TellsOfMemory (shown_text call key o)
shown_tells call key (outcome.Stepped seen) h = stepped_tells call key seen h
shown_tells call key o h = absurd (true≢false h)

process_tells : (call : ℕ) (key : Bytes) (source : LoadSource) (o : Outcome) → has_memory o ≡ false → TellsOfMemory (process_outcome_text call key source o)
process_tells call key source (outcome.Stepped seen) h = stepped_tells call key seen h
process_tells call key source o h = absurd (true≢false h)

-- 2. Events.

-- what no step shows has no such eviction
not_so : (s t : Shown) → s ≡ t → has_memory t.outcome ≡ true → has_memory s.outcome ≡ false → ⊥
not_so s t is has h = true≢false (sym (ap (λ (x : Shown). has_memory x.outcome) is ∙ has) ∙ h)

begun_has : (u : CallState) → has_memory (shown_begun u).outcome ≡ true
begun_has u = go (has_too_many_keys u)
  where
    go : (b : Bool) → has_memory (cond b (not_over (outcome.Refused TooManyKeys)) (record { outcome = outcome.Begun; over = over_of u })).outcome ≡ true
    go true = refl
    go false = refl

invalid_has : (b : Bool) (place : Option EvictionPlace) → has_memory (cond b outcome.Marked (outcome.Invalidated place)) ≡ true
invalid_has true place = refl
invalid_has false place = refl

told_tells : (w n : WorldState) (e : WorldEvent) (s : Shown) → Happens w e s n → has_memory s.outcome ≡ false → TellsOfMemory (told e s.outcome)
told_tells w n (event.Call call session command) s happens h = absurd (not_so s (shown_begun (new_call call session command)) happens.0 (begun_has (new_call call session command)) h)
told_tells w n (event.Look call stripe) s happens h = absurd (not_so s _ happens.8 refl h)
told_tells w n (event.Start call key) s happens h = shown_tells call key s.outcome h
told_tells w n (event.Read call key) s happens h = shown_tells call key s.outcome h
told_tells w n (event.Say call key answer) s happens h = shown_tells call key s.outcome h
told_tells w n (event.Change call key) s happens h = shown_tells call key s.outcome h
told_tells w n (event.Report call left fault) s happens h = absurd (not_so s _ happens.2 refl h)
told_tells w n (event.Process call key source calls fail) s happens h = process_tells call key source s.outcome h
told_tells w n (event.Commit call key) s happens h = shown_tells call key s.outcome h
told_tells w n (event.Withdraw call key) s happens h = shown_tells call key s.outcome h
told_tells w n (event.Leave call) s happens h = absurd (not_so s _ happens.0 refl h)
told_tells w n (event.PickUp call key) s happens h = shown_tells call key s.outcome h
told_tells w n (event.Foreign key value) s happens h = absurd (not_so s _ happens.0 refl h)
told_tells w n (event.Invalidate key) s happens h = absurd (not_so s _ happens.4 (invalid_has (is_reserved happens.0 key) (eviction_place (home w key) happens.0 happens.2)) h)
told_tells w n (event.Reopen config) s happens h = absurd (not_so s _ happens.0 refl h)

event_tells : (w n : WorldState) (e : WorldEvent) (s : Shown) → Step w e s n → has_memory s.outcome ≡ false → TellsOfMemory (event_text e s)
event_tells w n e s (inl (fit, happens)) h = before_it (told e s.outcome) (end_text s.over) (told_tells w n e s happens h)
event_tells w n e s (inr (unfit, shows, is)) h = absurd (not_so s (not_over outcome.Unfit) shows refl h)

one_false : (x y : Bool) → (x && y) ≡ false → (x ≡ false) ⊎ (y ≡ false)
one_false true y h = inr h
one_false false y h = inl refl

some_lack : (ss ts : List Shown) → have_memory (ss ++ ts) ≡ false → (have_memory ss ≡ false) ⊎ (have_memory ts ≡ false)
some_lack ss ts h = one_false (have_memory ss) (have_memory ts) (sym (list_all-append (λ (s : Shown). has_memory s.outcome) ss ts) ∙ h)

texts_tell : (w n : WorldState) (es : List WorldEvent) (ss : List Shown) → Run w es ss n → have_memory ss ≡ false → TellsOfMemory (texts es ss)
texts_tell w n [] [] run h = absurd (true≢false h)
texts_tell w n [] (s ∷ ss) run h = absurd run
texts_tell w n (e ∷ es) [] run h = absurd run
texts_tell w n (e ∷ es) (s ∷ ss) (mid, step, run) h = go (one_false (has_memory s.outcome) (have_memory ss) h) (texts_tell mid n es ss run)
  where
    go : (has_memory s.outcome ≡ false) ⊎ (have_memory ss ≡ false) → (have_memory ss ≡ false → TellsOfMemory (texts es ss)) → TellsOfMemory (event_text e s ++ texts es ss)
    go (inl here) later = before_it (event_text e s) (texts es ss) (event_tells w mid e s step here)
    go (inr there) later = behind_it (event_text e s) (texts es ss) (later there)

printed_tells : (w n : WorldState) (es : List WorldEvent) (ss : List Shown) (text : List ℕ) → Run w es ss n → text ≡ texts es ss → have_memory ss ≡ false → TellsOfMemory text
printed_tells w n es ss text run is h = subst TellsOfMemory (sym is) (texts_tell w n es ss run h)

-- 3. Lines.

begin_tells : (w : WorldState) (number session : ℕ) (c : Command) (x : List ℕ) (n : OpenedWorld) (a : PlaysBegin w number session c x n)
    → have_memory (shown_at_begin w number session c x n a) ≡ false → TellsOfMemory x
begin_tells w number session c x n a h = subst TellsOfMemory (sym a.text_is) (go (some_lack a.opens.seen a.starts.seen h))
  where
    go : (have_memory a.opens.seen ≡ false) ⊎ (have_memory a.starts.seen ≡ false) → TellsOfMemory (a.opening ++ a.started)
    go (inl here) = before_it a.opening a.started (printed_tells w a.begun (opening_events number session c w.config.stripes) a.opens.seen a.opening a.opens.runs a.opens.text_is here)
    go (inr there) = behind_it a.opening a.started (printed_tells a.begun a.after (start_events a.begun number (open_call a.begun number)) a.starts.seen a.started a.starts.runs a.starts.text_is there)

act_tells : (w : WorldState) (number : ℕ) (act : ScriptAct) (u : Option CallState) (x : List ℕ) (n : OpenedWorld) (a : PlaysAct w number act u x n)
    → have_memory (shown_by_act w number act u x n a) ≡ false → TellsOfMemory x
act_tells w number act None x n a h = absurd a
act_tells w number act (Some u) x n a h =
    subst TellsOfMemory (sym a.text_is) (before_it a.shown (fails_text number (load_code act)) (printed_tells w a.after (events_of_act w number act (keys_of_act w number act u)) a.plays.seen a.shown a.plays.runs a.plays.text_is h))

one_tells : (w : WorldState) (e : WorldEvent) (x : List ℕ) (n : OpenedWorld) (a : PlaysOne w e x n)
    → have_memory (shown_by_one w e x n a) ≡ false → TellsOfMemory x
one_tells w e x None a h = absurd a
one_tells w e x (Some n) a h = printed_tells w n (e ∷ []) a.seen x a.runs a.text_is h

line_tells : (old : OpenedWorld) (line : Line) (x : List ℕ) (n : OpenedWorld) (a : Plays old line x n)
    → have_memory (shown_by_line old line x n a) ≡ false → TellsOfMemory x
line_tells None line x n a h = absurd (true≢false h)
line_tells (Some w) (Open config) x n a h = absurd a
line_tells (Some w) (Set key value) x n a h = absurd (true≢false h)
line_tells (Some w) (Begin number session operation) x n a h = begin_tells w number session (single operation) x n a h
line_tells (Some w) (BeginBulk number session call) x n a h = begin_tells w number session a.0 x n a.2 h
line_tells (Some w) (OfCall number act) x n a h = act_tells w number act (open_call w number) x n a h
line_tells (Some w) (Foreign key value) x n a h = one_tells w (event.Foreign key value) x n a h
line_tells (Some w) (Invalidate key) x n a h = one_tells w (event.Invalidate key) x n a h
line_tells (Some w) (Reopen config) x n a h = one_tells w (event.Reopen config) x n a h
line_tells (Some w) Audit x n a h = absurd (true≢false h)
line_tells (Some w) Untold x n a h = absurd (true≢false h)

read_tells : (old : OpenedWorld) (read : Result (Option Line) Fault) (x : List ℕ) (n : OpenedWorld) (a : PlaysRead old read x n)
    → have_memory (shown_by_read old read x n a) ≡ false → TellsOfMemory x
read_tells old (Ok None) x n a h = absurd (true≢false h)
read_tells old (Ok (Some line)) x n a h = line_tells old line x n a.1 h
read_tells old (Err fault) x n a h = absurd a

-- 4. Scripts.

pub transcript_tells : (old : OpenedWorld) (n : ℕ) (pieces : List (List ℕ)) (x : List ℕ) (end : RunEnd) (a : Transcript old n pieces x end)
    → have_memory (shown_in old n pieces x end a) ≡ false → TellsOfMemory x
transcript_tells old n [] x end a h = absurd a
transcript_tells old n (last ∷ []) x end a h = absurd (true≢false h)
transcript_tells old n (line ∷ next ∷ more) x end (inl (text, rest, new, prints, left, is)) h =
    subst TellsOfMemory (sym is) (go (some_lack (shown_by_read old (read_line line) text new prints) (shown_in new (n + 1) (next ∷ more) rest end left) h) (transcript_tells new (n + 1) (next ∷ more) rest end left))
  where
    go : (have_memory (shown_by_read old (read_line line) text new prints) ≡ false) ⊎ (have_memory (shown_in new (n + 1) (next ∷ more) rest end left) ≡ false)
        → (have_memory (shown_in new (n + 1) (next ∷ more) rest end left) ≡ false → TellsOfMemory rest) → TellsOfMemory (text ++ rest)
    go (inl here) later = before_it text rest (read_tells old (read_line line) text new prints here)
    go (inr there) later = behind_it text rest (later there)
transcript_tells old n (line ∷ next ∷ more) x end (inr a) h = absurd (true≢false h)

-- what tells of none has none
pub none_lack : (old : OpenedWorld) (n : ℕ) (pieces : List (List ℕ)) (x : List ℕ) (end : RunEnd) (a : Transcript old n pieces x end)
    → (TellsOfMemory x → ⊥) → have_memory (shown_in old n pieces x end a) ≡ true
none_lack old n pieces x end a none = by (have_memory (shown_in old n pieces x end a)) (transcript_tells old n pieces x end a)
  where
    by : (b : Bool) → (b ≡ false → TellsOfMemory x) → b ≡ true
    by true tells = refl
    by false tells = absurd (none (tells refl))

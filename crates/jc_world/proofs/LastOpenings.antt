-- The last opening of a run.
--     reopens_or_not     an event that fits is a reopening, or its outcome says nothing of one
--     begin_opens        at its begin the world is the last opening
--     last_step          one event more: after a reopening the world is the last opening, and after any other event it is the one
--                        before
--     last_run           so every run has one
use Rattle.jc_world.proofs.Common.{◌≡◌, ◌⊎◌, ℕ, Bool, true, false, ◌||◌, List, [], ◌∷◌, ◌++◌, sym, refl, ap, ◌∙◌, subst, inl, inr, append_assoc, append-nil, Caller, Config, Bytes, Op, State, Part, JoinClaim, Outcome, Shown, WorldEvent, new_call, StartsAs, EndsAs, invalidated_as, eviction_place, EvictionPlace, home, cond, Option, is_reserved, Picks, Happens, Step, Run, IsOpeningWorld, ReachesSince, is_reopening, reopens, LastOpening, IsSoundWorld, WorldState}
use Rattle.jc_world.proofs.Lemmas.{begun_cases}
use Rattle.jc_world.proofs.Opened.{sound_opening}
use Rattle.jc_world.proofs.Reopening.{reopened_opens}
use Rattle.jc_world.proofs.Runs.{run-push}
use Rattle.jc_world.proofs.Sounding.{Laws, sound_step}

-- 1. What an event says of reopenings.

-- by what is shown of a first phase, of a last one and of a pick-up
starts_silent : (w : WorldState) (caller : Caller) (key : Bytes) (op : Op) (from to : State) (seen : Outcome) (new : WorldState) → StartsAs w caller key op from to seen new → is_reopening seen ≡ false
starts_silent w caller key op from to (Outcome.Reopened keys) new h = absurd h
starts_silent w caller key op from to seen new h = refl

ends_silent : (w : WorldState) (call : ℕ) (key : Bytes) (part : Part) (from to : State) (seen : Outcome) (new : WorldState) → EndsAs w call key part from to seen new → is_reopening seen ≡ false
ends_silent w call key part from to (Outcome.Reopened keys) new h = absurd h
ends_silent w call key part from to seen new h = refl

picks_silent : (w : WorldState) (call : ℕ) (key : Bytes) (join : JoinClaim) (from to : State) (seen : Outcome) (new : WorldState) → Picks w call key join from to seen new → is_reopening seen ≡ false
picks_silent w call key join from to (Outcome.Reopened keys) new h = absurd h
picks_silent w call key join from to seen new h = refl

abbrev Says : Shown → Bool
Says s = is_reopening s.outcome

invalid_silent : (b : Bool) (place : Option EvictionPlace) → is_reopening (cond b Outcome.Marked (Outcome.Invalidated place)) ≡ false
invalid_silent true place = refl
invalid_silent false place = refl

pub reopens_or_not : (w new : WorldState) (e : WorldEvent) (s : Shown) → Happens w e s new → (is_reopening s.outcome ≡ false) ⊎ ((config : Config) × (e ≡ WorldEvent.Reopen config))
reopens_or_not w new (WorldEvent.Call call session command) s h = inl (ap Says h.0 ∙ begun_cases (new_call call session command) (λ s. Says s ≡ false) refl refl)
reopens_or_not w new (WorldEvent.Look call stripe) s h = inl (ap Says h.8)
reopens_or_not w new (WorldEvent.Start call key) s h = inl (starts_silent w h.0.caller key h.1 h.4 h.6 s.outcome new h.7)
reopens_or_not w new (WorldEvent.Read call key) s h = inl (ap Says h.2)
reopens_or_not w new (WorldEvent.Say call key answer) s h = inl (ap Says h.2)
reopens_or_not w new (WorldEvent.Change call key) s h = inl (ap Says h.4)
reopens_or_not w new (WorldEvent.Report call left fault) s h = inl (ap Says h.2)
reopens_or_not w new (WorldEvent.Process call key source calls fail) s h = inl (ap Says h.2)
reopens_or_not w new (WorldEvent.Commit call key) s h = inl (ends_silent w call key h.0 h.2 h.4 s.outcome new h.5)
reopens_or_not w new (WorldEvent.Withdraw call key) s h = inl (ap Says h.6)
reopens_or_not w new (WorldEvent.Leave call) s h = inl (ap Says h.0)
reopens_or_not w new (WorldEvent.PickUp call key) s h = inl (picks_silent w call key h.0 h.2 h.4 s.outcome new h.5)
reopens_or_not w new (WorldEvent.Foreign key value) s h = inl (ap Says h.0)
reopens_or_not w new (WorldEvent.Invalidate key) s h = inl (ap Says h.4 ∙ invalid_silent (is_reserved h.0 key) (eviction_place (home w key) h.0 h.2))
reopens_or_not w new (WorldEvent.Reopen config) s h = inr (config, refl)

-- none of a list and of one more
reopens_push : (ss : List Shown) (s : Shown) → reopens ss ≡ false → is_reopening s.outcome ≡ false → reopens (ss ++ s ∷ []) ≡ false
reopens_push [] s none one = ap (λ b. b || false) one
reopens_push (t ∷ ts) s none one =
    elim (is_reopening t.outcome) as (λ b. (b || reopens ts) ≡ false → (b || reopens (ts ++ s ∷ [])) ≡ false) [
      | true ↦ λ h. h
      | false ↦ λ h. reopens_push ts s h one
    ] none

-- 2. One event more.

pub begin_opens : (first : WorldState) → IsOpeningWorld first → LastOpening first [] [] first
begin_opens first opens = record {
  before = [];
  since = [];
  shown_before = [];
  shown_since = [];
  opening = first;
  events_are = refl;
  seen_are = refl;
  run = refl;
  reached = ((opens, refl), refl);
  which = inl (refl, refl);
}

-- the last opening stays
still_last : (first mid new : WorldState) (es : List WorldEvent) (ss : List Shown) (e : WorldEvent) (s : Shown) → Step mid e s new → is_reopening s.outcome ≡ false → LastOpening first es ss mid → LastOpening first (es ++ e ∷ []) (ss ++ s ∷ []) new
still_last first mid new es ss e s step none old = record {
  before = old.before;
  since = old.since ++ e ∷ [];
  shown_before = old.shown_before;
  shown_since = old.shown_since ++ s ∷ [];
  opening = old.opening;
  events_are = ap (λ l. l ++ e ∷ []) old.events_are ∙ append_assoc old.before old.since (e ∷ []);
  seen_are = ap (λ l. l ++ s ∷ []) old.seen_are ∙ append_assoc old.shown_before old.shown_since (s ∷ []);
  run = old.run;
  reached = ((old.reached.0.0, run-push old.opening mid new old.since old.shown_since e s old.reached.0.1 step), reopens_push old.shown_since s old.reached.1 none);
  which = old.which;
}

-- the world that was opened again is the last opening
opened_last : (first mid new : WorldState) (es : List WorldEvent) (ss : List Shown) (config : Config) (s : Shown) → Run first es ss mid → Step mid (WorldEvent.Reopen config) s new → is_reopening s.outcome ≡ true → IsOpeningWorld new
    → LastOpening first (es ++ WorldEvent.Reopen config ∷ []) (ss ++ s ∷ []) new
opened_last first mid new es ss config s run step says opens = record {
  before = es ++ WorldEvent.Reopen config ∷ [];
  since = [];
  shown_before = ss ++ s ∷ [];
  shown_since = [];
  opening = new;
  events_are = sym (append-nil (es ++ WorldEvent.Reopen config ∷ []));
  seen_are = sym (append-nil (ss ++ s ∷ []));
  run = run-push first mid new es ss (WorldEvent.Reopen config) s run step;
  reached = ((opens, refl), refl);
  which = inr (record { before = es; shown = ss; config = config; last = s; events_are = refl; seen_are = refl; reopening = says });
}

pub last_step : (first mid new : WorldState) (es : List WorldEvent) (ss : List Shown) (e : WorldEvent) (s : Shown) → Run first es ss mid → IsSoundWorld mid → Step mid e s new → LastOpening first es ss mid → LastOpening first (es ++ e ∷ []) (ss ++ s ∷ []) new
last_step first mid new es ss (WorldEvent.Reopen config) s run sound (inl (fit, happens)) old =
    opened_last first mid new es ss config s run (inl (fit, happens)) (ap Says happens.0) (subst IsOpeningWorld (sym happens.1) (reopened_opens mid config sound fit))
last_step first mid new es ss e s run sound (inr (unfit, shows, is)) old = still_last first mid new es ss e s (inr (unfit, shows, is)) (ap Says shows) old
last_step first mid new es ss e s run sound (inl (fit, happens)) old = still_last first mid new es ss e s (inl (fit, happens)) (go (reopens_or_not mid new e s happens)) old
  where
    go : (is_reopening s.outcome ≡ false) ⊎ ((config : Config) × (e ≡ WorldEvent.Reopen config)) → is_reopening s.outcome ≡ false
    go (inl none) = none
    go (inr (config, is)) = cc

-- 3. A run.

-- it is that of the same events in another form
last_of : (first mid new : WorldState) (es all : List WorldEvent) (ss shown : List Shown) → all ≡ es → shown ≡ ss → new ≡ mid → LastOpening first es ss mid → LastOpening first all shown new
last_of first mid new es all ss shown events_are seen_are is old = record {
  before = old.before;
  since = old.since;
  shown_before = old.shown_before;
  shown_since = old.shown_since;
  opening = old.opening;
  events_are = events_are ∙ old.events_are;
  seen_are = seen_are ∙ old.seen_are;
  run = old.run;
  reached = subst (ReachesSince old.opening old.since old.shown_since) (sym is) old.reached;
  which = old.which;
}

run_on : Laws → (first mid new : WorldState) (before es : List WorldEvent) (shown ss : List Shown) → Run first before shown mid → IsSoundWorld mid → Run mid es ss new → LastOpening first before shown mid → LastOpening first (before ++ es) (shown ++ ss) new
run_on laws first mid new before [] shown [] run sound rest old = last_of first mid new before (before ++ []) shown (shown ++ []) (append-nil before) (append-nil shown) rest old
run_on laws first mid new before (e ∷ es) shown (s ∷ ss) run sound (next, step, rest) old =
    let one = last_step first mid next before shown e s run sound step old in
    let all = run_on laws first next new (before ++ e ∷ []) es (shown ++ s ∷ []) ss (run-push first mid next before shown e s run step) (sound_step laws mid e s next step sound) rest one in
    last_of first new new ((before ++ e ∷ []) ++ es) (before ++ e ∷ es) ((shown ++ s ∷ []) ++ ss) (shown ++ s ∷ ss) (sym (append_assoc before (e ∷ []) es)) (sym (append_assoc shown (s ∷ []) ss)) refl all
run_on laws first mid new before es shown ss run sound rest old = absurd rest

pub last_run : Laws → (first new : WorldState) (es : List WorldEvent) (ss : List Shown) → IsOpeningWorld first → Run first es ss new → LastOpening first es ss new
last_run laws first new es ss opens run = run_on laws first first new [] es [] ss refl (sound_opening first opens) run (begin_opens first opens)

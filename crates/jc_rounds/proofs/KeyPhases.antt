-- What each phase of the call at a key tells of the key.
--     early_none         a call that isn't refused isn't the last
--     key_begun          a first phase
--     key_committed      a commit
--     key_picked         a pick-up that isn't too early
use Rattle.jc_rounds.proofs.Common.{◌≡◌, ◌&&◌, inl, inr, ◌≤◌, ℕ, List, [], ◌∷◌, ◌++◌, length, Bool, true, false, cond, Option, None, Some, slice_get, refl, sym, ap, subst, ◌∙◌, arith, and_parts, list_all-append, list_all, Caller, Config, Bytes, entry_at, nothing_said, may_come, Event, Step, Op, Get, Out, Reply, State, is_key, whole_history, whole_place, OnePhase, own_steps, AddsOwn, OwnSteps, StepsBehind, may_come_all, with_joiner, first_asked, first_refusal, may_join, TicketClaim, JoinClaim, Begun, StepDone, Polled, Reservation, View, prefix-trans, Turn, ask_found, adds_whole, call_below, gains_whole, may_in_all, of_same, put_off_or_full, SeatPhase, HasBegun, HasPicked, IsCommitted, IsEarly, IsJoinFor, steps_of, HasFound, HasGrown}
use mathlib.Core.List.{IsPrefix}
use Rattle.jc_stripe.specs.Renewal.{all_own_steps}
use Rattle.jc_stripe.specs.Outcomes as begun
use Rattle.jc_stripe.specs.Polled as polled
use Rattle.jc_engine.specs.MadeIn.{IsNext}
use Rattle.jc_engine.specs.Turns.{committing}
use Rattle.jc_cache.specs.Turns.{picking_late, starting_now}
use Rattle.jc_engine.proofs.CallerLemmas.{next_ended, next_place}
use Rattle.jc_rounds.proofs.CallSteps.{steps-gained}
use Rattle.jc_rounds.proofs.SeatPhases.{IsTurnOfCall, MovesSeat, all_now, front_found, found_phase, gained_phase, seen_own, seen_phase, uniform, longer}

-- 1. Refusals.

pub early_none : (state : State) (caller : Caller) (key : Bytes) (op : Op) → first_refusal state caller key op ≡ None → IsEarly caller
early_none state caller key op none = call_below state caller key op none

-- 2. What is behind a front.

pub all_before : (p : Event → Bool) (xs ys : List Event) → IsPrefix xs ys → list_all p ys ≡ true → list_all p xs ≡ true
all_before p xs ys more all = (and_parts (list_all p xs) (list_all p more.0) (sym (list_all-append p xs more.0) ∙ ap (list_all p) more.1 ∙ all)).0

joins_by : (may reads none : Bool) (load other : Option ℕ) (n : ℕ) → cond (may && reads && none) load None ≡ Some n → may ≡ true
joins_by true reads none load other n is = refl
joins_by false reads none load other n is = cc

get_joins : (op : Op) → may_join op ≡ true → op ≡ Get
get_joins Get is = refl
get_joins op is = cc

-- 3. Phases.

start_turn : (caller : Caller) (key : Bytes) (op : Op) (b : Begun) → IsTurnOfCall (starting_now caller key op b) caller key
start_turn caller key op b = (λ found left waits. waits.way, λ found left made. inl (op, b, made))

commit_turn : (r : Reservation) (out : Out) (done : StepDone) → IsTurnOfCall (committing r out done) r.caller r.key
commit_turn r out done = (λ found left waits. waits.way, λ found left made. inr (inl (r, out, done, refl, refl, made)))

pick_turn : (join : JoinClaim) (p : Polled) → IsTurnOfCall (picking_late join p) join.caller join.key
pick_turn join p = (λ found left waits. waits.way, λ found left made. inr (inr (join, p, refl, refl, made)))

module _ (law : OnePhase) (steps : OwnSteps) where
  -- a step that the phase adds behind all that was there
  added : (session : ℕ) (turn : Turn) (caller : Caller) (key : Bytes) → IsTurnOfCall turn caller key → (op : Op) (out : Out) (reply : Reply) (place : ℕ) (v w : View) (x : SeatPhase session v turn w) → session ≡ caller.session
      → AddsOwn caller.session x.found w.noted (Step caller op key out None reply) place → IsEarly caller → steps_of caller key v.own ≡ []
      → MovesSeat caller key v w × (steps_of caller key w.own ≡ Step caller op key out None reply ∷ []) × (slice_get w.front (whole_place w.noted place) ≡ Some (Step caller op key out None reply)) × (length v.front ≤ whole_place w.noted place)
  added session turn caller key part op out reply place v w x mine adds early none =
      let whole = adds_whole caller.session x.found w.noted (Step caller op key out None reply) place (uniform law session turn v w x).grows.same.ended adds in
      let more = whole.2 in
      let was : v.own ≡ more.before ++ more.after = sym x.own ∙ ap (λ (n : ℕ). all_own_steps n x.found) mine ∙ more.was in
      let is : w.own ≡ more.before ++ Step caller op key out None reply ∷ more.after = x.own_is ∙ ap (λ (n : ℕ). all_own_steps n w.noted) mine ∙ more.is in (
        gained_phase law session turn v w x caller key part op out None reply more.before more.after was is early,
        steps-gained caller key op out None reply v.own w.own more.before more.after was is none,
        ap (λ (es : List Event). slice_get es (whole_place w.noted place)) x.front_is ∙ whole.1,
        (let one = longer v.front (whole_history x.found) x.front in let two = whole.0 in omega arith),
      )

  pub key_begun : (caller : Caller) (config : Config) (key : Bytes) (op : Op) (b : Begun) (v w : View) (x : SeatPhase caller.session v (starting_now caller key op b) w) → v.noted.config ≡ config → may_come_all v.own caller key ≡ true → steps_of caller key v.own ≡ []
      → MovesSeat caller key v w × HasBegun caller config v w key op b
  key_begun caller config key op (begun.Done done) v w x shape may none =
      let early = early_none x.found caller key op x.made.begins.0 in
      let a = added caller.session _ caller key (start_turn caller key op (begun.Done done)) op nothing_said done.reply done.place v w x refl (steps.done x.found w.noted caller key op done x.made.may x.made.begins) early none in (
        a.0,
        record {
          out = nothing_said;
          shared_with = None;
          place = whole_place w.noted done.place;
          told = inl (
            refl,
            refl,
            record {
              decided = x.found;
              reached = x.reached;
              later = front_found law caller.session _ v w x;
              same = of_same x.found w.noted (uniform law caller.session _ v w x).grows;
              next = subst (λ (es : List Event). IsNext x.found key (whole_place w.noted done.place) es) (sym x.front_is) (next_place x.found w.noted caller key op nothing_said _ done x.made.begins.2);
              entry = ap (λ (c : Config). first_asked c op (entry_at x.found.cache key)) (sym (x.same.config ∙ shape)) ∙ x.made.begins.1;
            },
          );
          one = a.1;
          all = all_now law caller.session _ v w x;
          there = a.2;
          behind = a.3;
        },
      )
  key_begun caller config key op (begun.Refused refusal) v w x shape may none =
      let same = steps.refused x.found w.noted caller key op refusal x.made.begins in
      let own = seen_own law caller.session _ v w x same in
      let why : first_refusal w.noted caller key op ≡ Some refusal = ap (λ (s : State). first_refusal s caller key op) x.made.begins.1 ∙ x.made.begins.0 in (
        seen_phase law caller.session _ v w x caller key (start_turn caller key op (begun.Refused refusal)) same,
        (
          ap (steps_of caller key) own ∙ none,
          put_off_or_full w.noted caller key op refusal why,
          why,
          record {
            seen = x.found;
            reached = x.reached;
            since = x.front;
            later = front_found law caller.session _ v w x;
            next = (uniform law caller.session _ v w x).next;
            same = of_same x.found w.noted (uniform law caller.session _ v w x).grows;
            found = subst (λ (a : State). HasFound v x.found a w) x.made.begins.1 (found_phase law caller.session _ v w x);
            may = x.made.may;
            why = x.made.begins.0;
          },
        ),
      )
  key_begun caller config key op (begun.Asks ticket) v w x shape may none =
      let b = x.made.begins in
      let same = steps.reserves x.found w.noted caller key op ticket b in
      let own = seen_own law caller.session _ v w x same in
      let found_shape : x.found.config ≡ config = x.same.config ∙ shape in (
        seen_phase law caller.session _ v w x caller key (start_turn caller key op (begun.Asks ticket)) same,
        (
          ap (steps_of caller key) own ∙ none,
          ap (λ (t : TicketClaim). t.asked) b.4,
          ap (λ (t : TicketClaim). t.writer_asked) b.4,
          record {
            caller_is = ap (λ (t : TicketClaim). t.reservation.caller) b.4;
            key_is = ap (λ (t : TicketClaim). t.reservation.key) b.4;
            op_is = ap (λ (t : TicketClaim). t.reservation.op) b.4;
            entry = entry_at x.found.cache key;
            first_is = sym b.2 ∙ ap (λ (c : Config). first_asked c op (entry_at x.found.cache key)) found_shape;
            asks = b.3;
            early = early_none x.found caller key op b.0;
          },
        ),
      )
  key_begun caller config key op (begun.Joined join) v w x shape may none =
      let b = x.made.begins in
      let same = steps.joins x.found w.noted caller key op join b in
      let own = seen_own law caller.session _ v w x same in (
        seen_phase law caller.session _ v w x caller key (start_turn caller key op (begun.Joined join)) same,
        (
          ap (steps_of caller key) own ∙ none,
          record {
            caller_is = ap (λ (j : JoinClaim). j.caller) b.2;
            key_is = ap (λ (j : JoinClaim). j.key) b.2;
            op_is = get_joins op (joins_by (may_join op) _ _ _ None join.load b.1);
            early = early_none x.found caller key op b.0;
            fresh = all_before (λ e. may_come e caller key) v.front (whole_history x.found) x.front
                (may_in_all x.found caller key x.made.may (ap (λ (es : List Event). may_come_all es caller key) x.own ∙ may));
          },
          record {
            seen = x.found;
            reached = x.reached;
            since = x.front;
            later = front_found law caller.session _ v w x;
            same = of_same x.found w.noted (uniform law caller.session _ v w x).grows;
            found = subst (λ (a : State). HasFound v x.found a w) (b.3 ∙ ap (with_joiner x.found) b.2) (found_phase law caller.session _ v w x);
            may = x.made.may;
            load = join.load;
            why = b.1;
          },
        ),
      )

  pub key_committed : (config : Config) (session : ℕ) (r : Reservation) (out : Out) (done : StepDone) (v w : View) (x : SeatPhase session v (committing r out done) w) → v.noted.config ≡ config → session ≡ r.caller.session → IsEarly r.caller → steps_of r.caller r.key v.own ≡ []
      → MovesSeat r.caller r.key v w × IsCommitted config r.caller r out v w done.reply
  key_committed config session r out done v w x shape mine early none =
      let a = added session _ r.caller r.key (commit_turn r out done) r.op out done.reply done.place v w x mine (steps.ends x.found w.noted r out done x.reached x.made) early none in (
        a.0,
        record {
          place = whole_place w.noted done.place;
          one = a.1;
          all = all_now law session _ v w x;
          there = a.2;
          behind = a.3;
          made = record {
            decided = x.found;
            reached = x.reached;
            later = front_found law session _ v w x;
            same = of_same x.found w.noted (uniform law session _ v w x).grows;
            next = subst (λ (es : List Event). IsNext x.found r.key (whole_place w.noted done.place) es) (sym x.front_is) (next_ended x.found w.noted r out done x.made);
            entry = ap (λ (c : Config). first_asked c r.op (entry_at x.found.cache r.key)) (sym (x.same.config ∙ shape)) ∙ ask_found x.found.config x.found.cache (is_key r.key) x.found.reservations r x.made.2.0 x.reached.asks;
          };
        },
      )

  pub key_picked : (config : Config) → StepsBehind → (session : ℕ) (join : JoinClaim) (p : Polled) (v w : View) (x : SeatPhase session v (picking_late join p) w) → session ≡ join.caller.session → IsEarly join.caller → steps_of join.caller join.key v.own ≡ []
      → MovesSeat join.caller join.key v w × ((first : View) → HasGrown first v → IsJoinFor join.caller first join.key Get join → HasPicked config join.caller first w join.key Get p)
  key_picked config places session join (polled.Answer reply place shared_with) v w x mine early none =
      let gains = steps.picks_up x.found w.noted join reply place shared_with x.reached x.made in
      let at : ℕ = whole_place w.noted place in
      let whole = gains_whole join.caller.session x.found w.noted (Step join.caller Get join.key gains.0 (Some shared_with) reply) place (uniform law session _ v w x).grows.same.ended gains.1 in
      let g = whole.1 in
      let was : v.own ≡ g.before ++ g.after = sym x.own ∙ ap (λ (n : ℕ). all_own_steps n x.found) mine ∙ g.was in
      let is : w.own ≡ g.before ++ Step join.caller Get join.key gains.0 (Some shared_with) reply ∷ g.after = x.own_is ∙ ap (λ (n : ℕ). all_own_steps n w.noted) mine ∙ g.is in
      let there : slice_get w.front at ≡ Some (Step join.caller Get join.key gains.0 (Some shared_with) reply) = ap (λ (es : List Event). slice_get es at) x.front_is ∙ whole.0 in
      let moves = gained_phase law session _ v w x join.caller join.key (pick_turn join (polled.Answer reply place shared_with)) Get gains.0 (Some shared_with) reply g.before g.after was is early in (
        moves,
        λ first older for. (
            let front = prefix-trans first.front v.front w.front older.front moves.grown.front in
            record {
              out = gains.0;
              shared_with = Some shared_with;
              place = at;
              told = (refl, refl);
              one = steps-gained join.caller join.key Get gains.0 (Some shared_with) reply v.own w.own g.before g.after was is none;
              all = all_now law session _ v w x;
              there = there;
              behind = places first.front front.0 join.caller Get join.key gains.0 (Some shared_with) reply at for.fresh
                  (subst (λ (es : List Event). slice_get es at ≡ Some (Step join.caller Get join.key gains.0 (Some shared_with) reply)) (sym front.1) there);
            }
            ),
      )
  key_picked config places session join polled.Again v w x mine early none =
      let same : own_steps session w.noted ≡ own_steps session x.found =
      ap (λ (n : ℕ). own_steps n w.noted) mine ∙ steps.again x.found w.noted join x.reached x.made ∙ ap (λ (n : ℕ). own_steps n x.found) (sym mine) in
      (seen_phase law session _ v w x join.caller join.key (pick_turn join polled.Again) same, λ first older for. ap (steps_of join.caller join.key) (seen_own law session _ v w x same) ∙ none)
  key_picked config places session join (polled.NotYet back) v w x mine early none = absurd x.made

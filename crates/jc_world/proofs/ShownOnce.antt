-- Each step of the order was shown once, or its answer is parked.
--     times_owed      how often the answer of an event is to have been shown: once if it is a step that isn't parked, and else never
--     owed            the same of the event at a place of a stripe's part of the order
--     Gives          a phase raises that by one at the places that it answers, and leaves it at the others
--     gives_done, gives_commit, gives_picked and so on      what each kind of phase answers
--     owed_run        so a run raises it by the answers that it shows
use Rattle.jc_world.proofs.Common.{◌≡◌, ℕ, zero, suc, ◌+◌, Bool, true, false, cond, ◌&&◌, List, [], ◌∷◌, ◌++◌, map, length, ◌==◌, slice_get, slice_set, Some, None, count_by, Option, sym, refl, ap, ◌∙◌, inl, inr, arith, and-false, eqb-suc-suc, eqb-suc-zero, eqb-zero-suc, eqb-true, eqb-false, eq-eqb, and_parts, sum_by-cons, list_all, Caller, Config, Bytes, Group, nothing_said, victim_events, evicted_events, step_event, shared_event, step_place, events_of, of_stripe, Cause, Event, LoadAnswer, Op, Get, Out, Reply, callers_of, Joiner, joined_parks, withdrawn_parks, beginner_parks, commit_parks, committer_parks, sharers_park, picker_parks, picked_parks, others_park, again_parks_same, Extends, Grows, is_parked, MayBegin, new_group, Steps, Begins, after_commit, Commits, without_joiner, PicksUp, IsReached, State, JoinClaim, Begun, Polled, StepDone, Reservation, Outcome, Shown, WorldEvent, step_of, Step, Run, fits, IsOpeningWorld, is_reopening, reopens, is_answer_at, joiners_in, joiners_at, times_shown, IsSoundWorld, WorldState, home, stripe_for, out_of_part}
use Rattle.jc_world.proofs.Lemmas.{added, share_stays, begins_with, stripe_put, AnswersNone, KeyChange, by_nothing, by_refusal, by_step, by_reservation, by_join, by_commit, by_withdrawal, by_mark, by_answer, by_retry, TellsDrop, tells_same, KeyEvent, plain, dropping, Drop, drop_extends, same_extends, StripeChange, by_invalidation, by_key, beside_stripes, by_reopening, change_of, may_of}
use Rattle.jc_stripe.specs.Invalidating.{dropped_event, without_entry}
use Rattle.jc_world.proofs.Merging.{other_set}
use Rattle.jc_world.proofs.Loads.{one_if}
use Rattle.jc_world.proofs.Opened.{sound_opening}
use Rattle.jc_world.proofs.Sounding.{Laws, sound_step, sound_change, sound_event}
use Rattle.jc_world.proofs.Standing.{config_run, reopens_none}

-- 1. How often an answer is to have been shown.

abbrev pub times_owed : List Joiner → Option Event → ℕ
times_owed js None = 0
times_owed js (Some (Event.Step caller op key out shared reply)) = times_shown (is_parked js caller key)
times_owed js (Some (Event.Evict key cause)) = 0

-- other joiners that park the same of the event leave it
owed_same : (js next : List Joiner) (o : Option Event) → ((c : Caller) (op : Op) (k : Bytes) (out : Out) (shared : Option ℕ) (reply : Reply) → o ≡ Some (Event.Step c op k out shared reply) → is_parked next c k ≡ is_parked js c k)
    → times_owed next o ≡ times_owed js o
owed_same js next (Some (Event.Step c op k out shared reply)) same = ap times_shown (same c op k out shared reply refl)
owed_same js next o same = refl

-- after a group's step nothing is owed, if those that share its load are parked
none_owed : (js : List Joiner) (place : ℕ) (key : Bytes) (answer : LoadAnswer) (callers : List Caller) (cause : Option Cause) (p : ℕ) → list_all (λ c. is_parked js c key) callers ≡ true
    → times_owed js (slice_get (map (shared_event place key answer) callers ++ evicted_events key cause) p) ≡ 0
none_owed js place key answer [] None p h = refl
none_owed js place key answer [] (Some cause) zero h = refl
none_owed js place key answer [] (Some cause) (suc p) h = refl
none_owed js place key answer (c ∷ cs) cause zero h = ap times_shown (and_parts (is_parked js c key) (list_all (λ c. is_parked js c key) cs) h).0
none_owed js place key answer (c ∷ cs) cause (suc p) h = none_owed js place key answer cs cause p (and_parts (is_parked js c key) (list_all (λ c. is_parked js c key) cs) h).1

-- of a group's events the step is owed once, at its place
group_owed : (js : List Joiner) (place : ℕ) (group : Group) (p : ℕ) → is_parked js group.caller group.step.key ≡ false → list_all (λ c. is_parked js c group.step.key) group.joined ≡ true
    → times_owed js (slice_get (events_of place group) p) ≡ one_if (length (victim_events group.victim) == p)
group_owed js place group p free parked = go group.victim p
  where
    behind : List Event
    behind = map (shared_event (step_place place group) group.step.key group.step.out.load) group.joined

    own : List Event
    own = evicted_events group.step.key group.evicted

    from_step : (p : ℕ) → times_owed js (slice_get ((step_event group ∷ behind) ++ own) p) ≡ one_if (0 == p)
    from_step zero = ap times_shown free
    from_step (suc p) = none_owed js (step_place place group) group.step.key group.step.out.load group.joined group.evicted p parked ∙ ap one_if (sym (eqb-zero-suc p))

    go : (victim : Option Bytes) (p : ℕ) → times_owed js (slice_get ((victim_events victim ++ (step_event group ∷ behind)) ++ own) p) ≡ one_if (length (victim_events victim) == p)
    go None p = from_step p
    go (Some key) zero = ap one_if (sym (eqb-suc-zero 0))
    go (Some key) (suc p) = from_step p ∙ ap one_if (sym (eqb-suc-suc 0 p))

-- and so it is if the group follows a history of which as much is parked as before
history_owed : (js next : List Joiner) (events more : List Event) (n p : ℕ) → ((i : ℕ) (c : Caller) (op : Op) (k : Bytes) (out : Out) (shared : Option ℕ) (reply : Reply) → slice_get events i ≡ Some (Event.Step c op k out shared reply) → is_parked next c k ≡ is_parked js c k)
    → ((i : ℕ) → times_owed next (slice_get more i) ≡ one_if (n == i))
    → times_owed next (slice_get (events ++ more) p) ≡ one_if (length events + n == p) + times_owed js (slice_get events p)
history_owed js next [] more n p same owed_is = owed_is p ∙ (let e : one_if (n == p) ≡ one_if (n == p) + 0 = omega arith in e) ∙ ap (λ m. one_if (m == p) + 0) (let e : n ≡ 0 + n = omega arith in e)
history_owed js next (x ∷ xs) more n zero same owed_is =
    owed_same js next (Some x) (same 0)
    ∙ (let e : times_owed js (Some x) ≡ 0 + times_owed js (Some x) = omega arith in e)
    ∙ ap (λ b. one_if b + times_owed js (Some x)) (sym (ap (λ m. m == 0) (let e : suc (length xs) + n ≡ suc (length xs + n) = omega arith in e) ∙ eqb-suc-zero (length xs + n)))
history_owed js next (x ∷ xs) more n (suc p) same owed_is =
    history_owed js next xs more n p (λ i. same (suc i)) owed_is
    ∙ ap (λ b. one_if b + times_owed js (slice_get xs p)) (sym (ap (λ m. m == suc p) (let e : suc (length xs) + n ≡ suc (length xs + n) = omega arith in e) ∙ eqb-suc-suc (length xs + n) p))

-- 2. A phase of a stripe.

-- a phase raises what is owed by one at the places that it answers
abbrev pub Gives : State → State → (ℕ → Bool) → Type 0
Gives from to answers = (p : ℕ) → times_owed to.joiners (slice_get to.history p) ≡ one_if (answers p) + times_owed from.joiners (slice_get from.history p)

-- none
abbrev nowhere : ℕ → Bool
nowhere p = false

-- a phase that appends nothing and parks what was parked answers none
gives_none : (from to : State) → to.history ≡ from.history → ((c : Caller) (k : Bytes) → is_parked to.joiners c k ≡ is_parked from.joiners c k) → Gives from to nowhere
gives_none from to history same p =
    ap (λ h. times_owed to.joiners (slice_get h p)) history ∙ owed_same from.joiners to.joiners (slice_get from.history p) (λ c op k out shared reply e. same c k)
    ∙ (let e : times_owed from.joiners (slice_get from.history p) ≡ 0 + times_owed from.joiners (slice_get from.history p) = omega arith in e)

-- the step of a stripe is answered at its place
gives_step : (js : List Joiner) (mid to : State) (caller : Caller) (key : Bytes) (op : Op) (out : Out) (callers : List Caller) (done : StepDone) → Steps mid caller key op out callers done to
    → ((i : ℕ) (c : Caller) (op : Op) (k : Bytes) (out : Out) (shared : Option ℕ) (reply : Reply) → slice_get mid.history i ≡ Some (Event.Step c op k out shared reply) → is_parked mid.joiners c k ≡ is_parked js c k)
    → is_parked mid.joiners caller key ≡ false → list_all (λ c. is_parked mid.joiners c key) callers ≡ true
    → (p : ℕ) → times_owed to.joiners (slice_get to.history p) ≡ one_if (done.place == p) + times_owed js (slice_get mid.history p)
gives_step js mid to caller key op out callers done steps same free parked p =
    let group = new_group mid caller key op out callers steps.short in
    (λ i. times_owed (steps.after i).joiners (slice_get (steps.after i).history p))
    ∙ history_owed js mid.joiners mid.history (events_of (length mid.history) group) (length (victim_events group.victim)) p same (λ i. group_owed mid.joiners (length mid.history) group i free parked)
    ∙ ap (λ n. one_if (n == p) + times_owed js (slice_get mid.history p)) (sym steps.place)

-- a first phase that is done at once
gives_done : (from to : State) (caller : Caller) (key : Bytes) (op : Op) (done : StepDone) → MayBegin from caller key → Begins from caller key op (Begun.Done done) to → Gives from to (λ p. done.place == p)
gives_done from to caller key op done may begins =
    gives_step from.joiners from to caller key op nothing_said [] done begins.2 (λ i c op k out shared reply e. refl) (beginner_parks from caller key may) refl

-- a commit
gives_commit : (from to : State) (r : Reservation) (out : Out) (done : StepDone) → IsReached from → Commits from r out done to → Gives from to (λ p. done.place == p)
gives_commit from to r out done reached commits =
    gives_step from.joiners (after_commit from r done.place) to r.caller r.key r.op out (callers_of r.number from.joiners) done commits.1
    (λ i c op k out shared reply e. commit_parks from r done.place i c op k out shared reply reached e)
    (committer_parks from r done.place reached commits.0) (sharers_park from r done.place reached commits.0)

-- a pick-up that is answered
gives_picked : (from to : State) (join : JoinClaim) (reply : Reply) (place shared : ℕ) → IsReached from → PicksUp from join (Polled.Answer reply place shared) to → Gives from to (λ p. place == p)
gives_picked from to join reply place shared reached h p =
    let next = without_joiner from join in
    let step = h.2 in
    let at : (q : ℕ) → Option Event = slice_get from.history in
    let here : times_owed next.joiners (at place) ≡ 1 + times_owed from.joiners (at place) =
    ap (times_owed next.joiners) step.1 ∙ ap times_shown (picked_parks from join)
    ∙ sym (ap (λ o. 1 + times_owed from.joiners o) step.1 ∙ ap (λ b. 1 + times_shown b) (picker_parks from join place shared h.1)) in
    ap (λ (s : State). times_owed s.joiners (slice_get s.history p)) h.3
    ∙ (elim (place == p) as (λ b. (place == p) ≡ b → times_owed next.joiners (at p) ≡ one_if b + times_owed from.joiners (at p)) [
      | true ↦ λ e. ap (λ q. times_owed next.joiners (at q)) (sym (eqb-true place p e)) ∙ here ∙ ap (λ q. 1 + times_owed from.joiners (at q)) (eqb-true place p e)
      | false ↦ λ e.
          owed_same from.joiners next.joiners (at p)
          (λ c op k out shared' reply' there. others_park from join Get step.0 (Some shared) reply place p c op k out shared' reply' reached step.1 there
          (λ same. let t : true ≡ false = sym (eq-eqb place p same) ∙ e in cc))
          ∙ (let z : times_owed from.joiners (at p) ≡ 0 + times_owed from.joiners (at p) = omega arith in z)
    ] refl)

-- 3. An event.

abbrev pub owed : WorldState → ℕ → ℕ → ℕ
owed w number place = times_owed (joiners_at w number) (slice_get (of_stripe w.config.stripes number w.order) place)

-- a phase of one stripe answers there what it answers
owed_set : (w new : WorldState) (key : Bytes) (from to : State) (answers : ℕ → Bool) (number place : ℕ) → stripe_for w key ≡ Some from → IsSoundWorld w → IsSoundWorld new → new.config ≡ w.config → new.stripes ≡ slice_set w.stripes (home w key) to
    → ((m : ℕ) → (home w key ≡ m → ⊥) → of_stripe w.config.stripes m new.order ≡ of_stripe w.config.stripes m w.order) → Gives from to answers
    → owed new number place ≡ one_if ((home w key == number) && answers place) + owed w number place
owed_set w new key from to answers number place there old sound config stripes rest gives =
    let n = home w key in
    elim (n == number) as (λ b. (n == number) ≡ b → owed new number place ≡ one_if (b && answers place) + owed w number place) [
      | true ↦ λ e.
          let placed : slice_get new.stripes n ≡ Some to = ap (λ ss. slice_get ss n) stripes ∙ stripe_put w.stripes n from to there in
          let now = (sound.shape.each n to placed).share in
          let was = (old.shape.each n from there).share in
          rw (eqb-true n number e) at
          ((λ i. times_owed (joiners_in (placed i)) (slice_get (now i) place))
          ∙ gives place
          ∙ sym (λ i. one_if (answers place) + times_owed (joiners_in (there i)) (slice_get (was i) place)))
      | false ↦ λ e.
          let others : slice_get new.stripes number ≡ slice_get w.stripes number = ap (λ ss. slice_get ss number) stripes ∙ other_set w.stripes n number to e in
          let share : of_stripe new.config.stripes number new.order ≡ of_stripe w.config.stripes number w.order = ap (λ (c : Config). of_stripe c.stripes number new.order) config ∙ rest number (eqb-false n number e) in
          (λ i. times_owed (joiners_in (others i)) (slice_get (share i) place)) ∙ (let z : owed w number place ≡ 0 + owed w number place = omega arith in z)
    ] refl

-- one that appends nothing and answers nothing
owed_quiet : (w new : WorldState) (key : Bytes) (from to : State) (seen : Outcome) (number place : ℕ) → stripe_for w key ≡ Some from → IsSoundWorld w → IsSoundWorld new → new.config ≡ w.config → new.stripes ≡ slice_set w.stripes (home w key) to
    → new.order ≡ w.order → Gives from to nowhere → AnswersNone seen → owed new number place ≡ one_if (is_answer_at number place seen) + owed w number place
owed_quiet w new key from to seen number place there old sound config stripes order gives none =
    owed_set w new key from to nowhere number place there old sound config stripes (λ m apart. ap (of_stripe w.config.stripes m) order) gives
    ∙ ap (λ b. one_if b + owed w number place) (and-false (home w key == number) ∙ sym (none number place))

-- one that appends a group, and answers its step
owed_grown : (w new : WorldState) (key : Bytes) (from to : State) (at number place : ℕ) → stripe_for w key ≡ Some from → IsSoundWorld w → IsSoundWorld new → new.config ≡ w.config → new.stripes ≡ slice_set w.stripes (home w key) to
    → new.order ≡ w.order ++ added from to → Extends from to → Gives from to (λ p. at == p) → owed new number place ≡ one_if ((home w key == number) && (at == place)) + owed w number place
owed_grown w new key from to at number place there old sound config stripes order grows gives =
    let n = home w key in
    let placed : slice_get new.stripes n ≡ Some to = ap (λ ss. slice_get ss n) stripes ∙ stripe_put w.stripes n from to there in
    owed_set w new key from to (λ p. at == p) number place there old sound config stripes
    (λ m apart. ap (of_stripe w.config.stripes m) order ∙ share_stays w n m from to grows (old.shape.each n from there) (sound.shape.each n to placed).reached apart) gives

-- the answer of a step at the stripe of the key
owed_answer : (w : WorldState) (stripe : ℕ) (key : Bytes) (at number place : ℕ) → stripe ≡ home w key → one_if ((home w key == number) && (at == place)) + owed w number place ≡ one_if ((stripe == number) && (at == place)) + owed w number place
owed_answer w stripe key at number place home_is = ap (λ s. one_if ((s == number) && (at == place)) + owed w number place) (sym home_is)

-- what leaves the stripes and the order answers nothing
owed_still : (w new : WorldState) (seen : Outcome) (number place : ℕ) → is_answer_at number place seen ≡ false → owed new number place ≡ owed w number place → owed new number place ≡ one_if (is_answer_at number place seen) + owed w number place
owed_still w new seen number place none same = let e : one_if (is_answer_at number place seen) ≡ 0 = ap one_if none in omega arith

-- by the kind of the change at a key
owed_key : Grows → (w new : WorldState) (e : WorldEvent) (key : Bytes) (seen : Shown) (number place : ℕ) → KeyChange w new e key seen → fits w e ≡ true → IsSoundWorld w → IsSoundWorld new
    → owed new number place ≡ one_if (is_answer_at number place seen.outcome) + owed w number place
owed_key grows w new e key seen number place (by_nothing is none ends) fit old sound = owed_still w new seen.outcome number place (none number place) (ap (λ (x : WorldState). owed x number place) is)
owed_key grows w new e key seen number place (by_refusal u op refusal may is none ends) fit old sound = owed_still w new seen.outcome number place (none number place) (ap (λ (x : WorldState). owed x number place) is)
owed_key grows w new e key seen number place (by_step u op from to x may there h home_is is shows ends) fit old sound =
    owed_grown w new key from to x.place number place there old sound (ap (λ (v : WorldState). v.config) is) (ap (λ (v : WorldState). v.stripes) is) (ap (λ (v : WorldState). v.order) is)
    (grows.begins from to u.caller key op (Begun.Done (step_of x)) h) (gives_done from to u.caller key op (step_of x) (begins_with w u key op from old there (may_of w e key u op may fit old)) h)
    ∙ owed_answer w x.stripe key x.place number place home_is ∙ ap (λ o. one_if (is_answer_at number place o) + owed w number place) (sym shows)
owed_key grows w new e key seen number place (by_reservation u op from to p r may there h is none ends) fit old sound =
    owed_quiet w new key from to seen.outcome number place there old sound (ap (λ (v : WorldState). v.config) is) (ap (λ (v : WorldState). v.stripes) is) (ap (λ (v : WorldState). v.order) is)
    (gives_none from to (ap (λ (s : State). s.history) h.after) (λ c k. ap (λ (s : State). is_parked s.joiners c k) h.after)) none
owed_key grows w new e key seen number place (by_join u op from to join may there h is none ends) fit old sound =
    owed_quiet w new key from to seen.outcome number place there old sound (ap (λ (v : WorldState). v.config) is) (ap (λ (v : WorldState). v.stripes) is) (ap (λ (v : WorldState). v.order) is)
    (gives_none from to (ap (λ (s : State). s.history) h.3) (λ c k. ap (λ (s : State). is_parked s.joiners c k) h.3 ∙ joined_parks from join c k)) none
owed_key grows w new e key seen number place (by_commit call part from to x e_is part_is there h home_is is shows) fit old sound =
    owed_grown w new key from to x.place number place there old sound (ap (λ (v : WorldState). v.config) is) (ap (λ (v : WorldState). v.stripes) is) (ap (λ (v : WorldState). v.order) is)
    (grows.commits from to part.reservation (out_of_part part) (step_of x) h) (gives_commit from to part.reservation (out_of_part part) (step_of x) (old.shape.each (home w key) from there).reached h)
    ∙ owed_answer w x.stripe key x.place number place home_is ∙ ap (λ o. one_if (is_answer_at number place o) + owed w number place) (sym shows)
owed_key grows w new e key seen number place (by_withdrawal call part from to e_is part_is there h is shows) fit old sound =
    owed_quiet w new key from to seen.outcome number place there old sound (ap (λ (v : WorldState). v.config) is) (ap (λ (v : WorldState). v.stripes) is) (ap (λ (v : WorldState). v.order) is)
    (gives_none from to (ap (λ (s : State). s.history) h.1) (λ c k. ap (λ (s : State). is_parked s.joiners c k) h.1 ∙ withdrawn_parks from part.reservation c k)) (λ n p. ap (λ (s : Shown). is_answer_at n p s.outcome) shows)
owed_key grows w new e key seen number place (by_mark from to there out h reached is none ends) fit old sound =
    owed_quiet w new key from to seen.outcome number place there old sound (ap (λ (v : WorldState). v.config) is) (ap (λ (v : WorldState). v.stripes) is) (ap (λ (v : WorldState). v.order) is)
    (gives_none from to (ap (λ (s : State). s.history) h) (λ c k. ap (λ (s : State). is_parked s.joiners c k) h)) none
owed_key grows w new e key seen number place (by_answer call join from to x e_is join_is there h home_is is shows ends) fit old sound =
    owed_set w new key from to (λ p. x.place == p) number place there old sound (ap (λ (v : WorldState). v.config) is) (ap (λ (v : WorldState). v.stripes) is)
    (λ m apart. ap (λ (v : WorldState). of_stripe w.config.stripes m v.order) is)
    (gives_picked from to join x.reply x.place x.shared (old.shape.each (home w key) from there).reached h)
    ∙ owed_answer w x.stripe key x.place number place home_is ∙ ap (λ o. one_if (is_answer_at number place o) + owed w number place) (sym shows)
owed_key grows w new e key seen number place (by_retry call join from to e_is join_is there h is shows ends) fit old sound =
    owed_quiet w new key from to seen.outcome number place there old sound (ap (λ (v : WorldState). v.config) is) (ap (λ (v : WorldState). v.stripes) is) (ap (λ (v : WorldState). v.order) is)
    (gives_none from to (ap (λ (s : State). s.history) h.2) (λ c k. ap (λ (s : State). is_parked s.joiners c k) h.2 ∙ again_parks_same from join c k (old.shape.each (home w key) from there).reached h.1)) (λ n p. ap (is_answer_at n p) shows)

-- an eviction is owed to nobody
owed_more : (js : List Joiner) (events : List Event) (key : Bytes) (p : ℕ) → times_owed js (slice_get (events ++ dropped_event key ∷ []) p) ≡ times_owed js (slice_get events p)
owed_more js [] key zero = refl
owed_more js [] key (suc p) = refl
owed_more js (x ∷ xs) key zero = refl
owed_more js (x ∷ xs) key (suc p) = owed_more js xs key p

owed_dropped : (w mid new : WorldState) (key : Bytes) (number place : ℕ) → Drop w mid new key → IsSoundWorld mid → IsSoundWorld new → owed new number place ≡ owed mid number place
owed_dropped w mid new key number place d old sound =
    let from = d.from in
    let to = without_entry from key in
    let n = home mid key in
    let placed : slice_get new.stripes n ≡ Some to = ap (λ (v : WorldState). slice_get v.stripes n) d.is ∙ stripe_put mid.stripes n from to d.there in
    let g = drop_extends from from key (same_extends from) in
    let gives : Gives from to nowhere = λ p. owed_more from.joiners from.history key p ∙ (let e : times_owed from.joiners (slice_get from.history p) ≡ 0 + times_owed from.joiners (slice_get from.history p) = omega arith in e) in
    owed_set mid new key from to nowhere number place d.there old sound (ap (λ (v : WorldState). v.config) d.is) (ap (λ (v : WorldState). v.stripes) d.is)
    (λ m apart. ap (λ (v : WorldState). of_stripe mid.config.stripes m v.order) d.is ∙ share_stays mid n m from to g (old.shape.each n from d.there) (sound.shape.each n to placed).reached apart) gives
    ∙ ap (λ b. one_if b + owed mid number place) (and-false (n == number)) ∙ (let e : 0 + owed mid number place ≡ owed mid number place = omega arith in e)

owed_event : Laws → Grows → (w new : WorldState) (e : WorldEvent) (key : Bytes) (seen : Shown) (number place : ℕ) → KeyEvent w new e key seen → fits w e ≡ true → IsSoundWorld w → IsSoundWorld new
    → owed new number place ≡ one_if (is_answer_at number place seen.outcome) + owed w number place
owed_event laws grows w new e key seen number place (plain k) fit old sound = owed_key grows w new e key seen number place k fit old sound
owed_event laws grows w new e key seen number place (dropping mid shown k tells d end) fit old sound =
    let between = sound_change laws.stays w mid e key shown k fit old in
    owed_dropped w mid new key number place d between sound ∙ owed_key grows w mid e key shown number place k fit old between
    ∙ ap (λ b. one_if b + owed w number place) (sym (tells_same seen shown number place tells))

-- of any event
owed_step : Laws → Grows → (w new : WorldState) (e : WorldEvent) (seen : Shown) (number place : ℕ) → Step w e seen new → is_reopening seen.outcome ≡ false → IsSoundWorld w → IsSoundWorld new → owed new number place ≡ one_if (is_answer_at number place seen.outcome) + owed w number place
owed_step laws grows w new e seen number place (inl (fit, happens)) kept old sound = go (change_of w new e seen fit happens old)
  where
    go : StripeChange w new e seen → owed new number place ≡ one_if (is_answer_at number place seen.outcome) + owed w number place
    go (by_key key k) = owed_event laws grows w new e key seen number place k fit old sound
    go (by_invalidation key v e_is k is) = ap (λ (x : WorldState). owed x number place) is ∙ owed_event laws grows w v e key seen number place k fit old (sound_event laws.stays w v e key seen k fit old)
    go (beside_stripes m is config stripes order joins none ends) =
        owed_still w new seen.outcome number place (none number place) (ap (λ (x : WorldState). owed x number place) is ∙ (λ i. times_owed (joiners_in (slice_get (stripes i) number)) (slice_get (of_stripe (config i).stripes number (order i)) place)))
    go (by_reopening config e_is reopens is) = let t : true ≡ false = sym reopens ∙ kept in cc
owed_step laws grows w new e seen number place (inr (unfit, shows, is)) kept old sound = owed_still w new seen.outcome number place (ap (λ (s : Shown). is_answer_at number place s.outcome) shows) (ap (λ (x : WorldState). owed x number place) is)

-- 4. A run.

abbrev pub answers_at : ℕ → ℕ → Shown → Bool
answers_at number place s = is_answer_at number place s.outcome

pub owed_run : Laws → Grows → (w new : WorldState) (es : List WorldEvent) (ss : List Shown) (number place : ℕ) → Run w es ss new → reopens ss ≡ false → IsSoundWorld w → owed new number place ≡ count_by (answers_at number place) ss + owed w number place
owed_run laws grows w new [] [] number place run none old = let e : owed new number place ≡ owed w number place = ap (λ (x : WorldState). owed x number place) run in omega arith
owed_run laws grows w new (e ∷ es) (s ∷ ss) number place (mid, step, rest) none old =
    let parts = reopens_none s ss none in
    let sound = sound_step laws w e s mid step old in
    let one = owed_step laws grows w mid e s number place step parts.0 old sound in
    let more = owed_run laws grows mid new es ss number place rest parts.1 sound in
    let split_off : count_by (answers_at number place) (s ∷ ss) ≡ one_if (is_answer_at number place s.outcome) + count_by (answers_at number place) ss = sum_by-cons (λ x. cond (answers_at number place x) 1 0) s ss in
    omega arith
owed_run laws grows w new es ss number place run none old = absurd run

-- nothing is owed in an opening
owed_opened : (w : WorldState) (number place : ℕ) → IsOpeningWorld w → owed w number place ≡ 0
owed_opened w number place h = ap (λ es. times_owed (joiners_at w number) (slice_get (of_stripe w.config.stripes number es) place)) h.order

-- so what is owed was shown
pub shown_once : Laws → Grows → (opening new : WorldState) (es : List WorldEvent) (ss : List Shown) (number place : ℕ) (caller : Caller) (op : Op) (key : Bytes) (out : Out) (shared : Option ℕ) (reply : Reply)
    → IsOpeningWorld opening → Run opening es ss new → reopens ss ≡ false → slice_get (of_stripe opening.config.stripes number new.order) place ≡ Some (Event.Step caller op key out shared reply)
    → count_by (answers_at number place) ss ≡ times_shown (is_parked (joiners_at new number) caller key)
shown_once laws grows opening new es ss number place caller op key out shared reply opens run kept there =
    let total = owed_run laws grows opening new es ss number place run kept (sound_opening opening opens) in
    let none = owed_opened opening number place opens in
    let is : owed new number place ≡ times_shown (is_parked (joiners_at new number) caller key) =
    ap (λ (c : Config). times_owed (joiners_at new number) (slice_get (of_stripe c.stripes number new.order) place)) (config_run opening new es ss run kept)
    ∙ ap (times_owed (joiners_at new number)) there in
    omega arith

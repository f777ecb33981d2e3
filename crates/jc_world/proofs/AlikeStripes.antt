-- Stripes that are alike make the same phases, and are alike behind them.
use Rattle.std.proofs.Common.{◌≡◌, ◌≤◌, ℕ, zero, suc, ◌+◌, List, [], ◌∷◌, ◌++◌, length, filter, find, Bool, true, false, not, ◌&&◌, ◌||◌, map, Option, None, Some, is_some, is_none, option_map, slice_get, nat_le, nat_lt, if◌then◌else◌, sym, refl, ap, ◌∙◌, subst, true≢false, arith}
use Rattle.jc_world.proofs.Common.{length-append, Caller, Refusal, Op, Out, Event, Bytes, entry_at, Group, events_of, step_place, nothing_said, Joiner, JoinState, Waiting, Answered, Again, waits_for, callers_of, belongs_to, answered_from, after_dissolve, JoinClaim, Begun, StepDone, Reservation}
use Rattle.jc_model.specs.Lawful.{IsLawful}
use Rattle.jc_stripe.specs.OrderOfUse.{by_use}
use Rattle.jc_stripe.specs.State.{State, with_reservation, promised, is_reserved, is_marked, with_mark, is_barred}
use Rattle.jc_stripe.specs.Invalidating.{dropped_event, has_place, without_entry, is_dropped, end_with, told_drop, Ends, GivesBack, drop_or_shut, after_invalidation, Invalidates}
use Rattle.jc_model.specs.declared.event.Cause.TheVariants.{Invalidated}
use Rattle.jc_world.proofs.Dropping.{marked_is}
use Rattle.jc_types.specs.declared.refusal.Refusal.TheVariants as refusal
use Rattle.jc_types.specs.declared.limits.TheConstants.{HIT_PLACES, RESERVATIONS_MAX, JOINERS_MAX}
use Rattle.jc_stripe.specs.Outcomes as begun
use Rattle.jc_stripe.specs.Polled.{Polled}
use Rattle.jc_stripe.specs.Polled as polled
use Rattle.jc_stripe.specs.Refusals.{first_refusal, load_joined, full_refusal, last_number, places_needed, needs_free_key, needs_reservation}
use Rattle.jc_stripe.specs.Phases.{Steps, Begins, Commits, Withdraws, PicksUp, with_joiner, without_joiner, new_group, own_cause, own_eviction, inserts_here, overflows, victim, after_group, after_commit, after_withdrawal}
use Rattle.jc_stripe.proofs.CallerLemmas.{by_use-append}
use Rattle.jc_world.specs.Alike.{AgreeAt, Agree, IsLike}
use Rattle.jc_world.specs.Fits.{may_invalidate}
use Rattle.jc_world.proofs.Facts.{some_back}

-- 1. Joiners' answers.

agree_at-refl : (s : JoinState) (h : List Event) → AgreeAt s h h
agree_at-refl Waiting h = tt
agree_at-refl (Answered place shared) h = refl
agree_at-refl Again h = tt

pub agree-refl : (js : List Joiner) (h : List Event) → Agree js h h
agree-refl [] h = tt
agree-refl (j ∷ js) h = (agree_at-refl j.state h, agree-refl js h)

-- behind the same events
get-more : (h k e : List Event) (place : ℕ) → length k ≡ length h → slice_get k place ≡ slice_get h place → slice_get (k ++ e) place ≡ slice_get (h ++ e) place
get-more [] [] e place n is = refl
get-more [] (y ∷ k) e place n is = absurd (omega (arith, n))
get-more (x ∷ h) [] e place n is = absurd (omega (arith, n))
get-more (x ∷ h) (y ∷ k) e zero n is = is
get-more (x ∷ h) (y ∷ k) e (suc place) n is = get-more h k e place (omega (arith, n)) is

agree_at-more : (s : JoinState) (h k e : List Event) → length k ≡ length h → AgreeAt s h k → AgreeAt s (h ++ e) (k ++ e)
agree_at-more Waiting h k e n a = tt
agree_at-more (Answered place shared) h k e n a = get-more h k e place n a
agree_at-more Again h k e n a = tt

agree-more : (js : List Joiner) (h k e : List Event) → length k ≡ length h → Agree js h k → Agree js (h ++ e) (k ++ e)
agree-more [] h k e n a = tt
agree-more (j ∷ js) h k e n a = (agree_at-more j.state h k e n a.0, agree-more js h k e n a.1)

-- a joiner that waits
pub agree-join : (js : List Joiner) (j : Joiner) (h k : List Event) → AgreeAt j.state h k → Agree js h k → Agree (js ++ j ∷ []) h k
agree-join [] j h k one a = (one, tt)
agree-join (x ∷ js) j h k one a = (a.0, agree-join js j h k one a.1)

get-past : (h : List Event) (place : ℕ) → length h ≤ place → slice_get h place ≡ None
get-past [] place low = refl
get-past (x ∷ h) zero low = absurd (omega (arith, low))
get-past (x ∷ h) (suc place) low = get-past h place (omega (arith, low))

agree-resolve : (load step place : ℕ) (js : List Joiner) (h k : List Event) → length h ≤ place → length k ≡ length h → Agree js h k → Agree (answered_from load step place js) h k
agree-resolve load step place [] h k low n a = tt
agree-resolve load step place (j ∷ js) h k low n a =
    go (waits_for load j) (agree-resolve load step (place + 1) js h k (omega (arith, low)) n a.1) (agree-resolve load step place js h k low n a.1)
  where
    go : (b : Bool) → Agree (answered_from load step (place + 1) js) h k → Agree (answered_from load step place js) h k
        → Agree (if b then record j { state = Answered place step } ∷ answered_from load step (place + 1) js else j ∷ answered_from load step place js) h k
    go true more same = (get-past k place (omega (arith, low, n)) ∙ sym (get-past h place low), more)
    go false more same = (a.0, same)

agree-dissolve : (load : ℕ) (js : List Joiner) (h k : List Event) → Agree js h k → Agree (after_dissolve load js) h k
agree-dissolve load [] h k a = tt
agree-dissolve load (j ∷ js) h k a = (go (waits_for load j), agree-dissolve load js h k a.1)
  where
    go : (b : Bool) → AgreeAt (if b then record j { state = Again } else j).state h k
    go true = tt
    go false = a.0

agree-filter : (p : Joiner → Bool) (js : List Joiner) (h k : List Event) → Agree js h k → Agree (filter p js) h k
agree-filter p [] h k a = tt
agree-filter p (j ∷ js) h k a = go (p j) (agree-filter p js h k a.1)
  where
    go : (b : Bool) → Agree (filter p js) h k → Agree (if b then j ∷ filter p js else filter p js) h k
    go true rest = (a.0, rest)
    go false rest = rest

-- the answer of one of them
agree-found : (p : Joiner → Bool) (js : List Joiner) (h k : List Event) (place shared : ℕ) → Agree js h k
    → option_map (λ (j : Joiner). j.state) (find p js) ≡ Some (Answered place shared) → slice_get k place ≡ slice_get h place
agree-found p [] h k place shared a is = absurd (true≢false (ap is_some (sym is)))
agree-found p (j ∷ js) h k place shared a is = go (p j) (agree-found p js h k place shared a.1) is
  where
    go : (b : Bool) → (option_map (λ (j : Joiner). j.state) (find p js) ≡ Some (Answered place shared) → slice_get k place ≡ slice_get h place)
        → option_map (λ (j : Joiner). j.state) (if b then Some j else find p js) ≡ Some (Answered place shared) → slice_get k place ≡ slice_get h place
    go true rest e = let P : JoinState → Type 0 = λ s. AgreeAt s h k in subst P (some_back j.state (Answered place shared) e) a.0
    go false rest e = rest e

-- 2. Alike.

pub like-refl : (a : State) → IsLike a a
like-refl a = record { is = refl; order = refl; count = refl; answers = agree-refl a.joiners a.history }

abbrev pub with_past : State → List (Bytes × Bytes) → List Event → State
with_past a opening history = record a { opening = opening; history = history }

-- 3. Steps.

same_victim : (a : State) (o : List (Bytes × Bytes)) (h : List Event) (key : Bytes) (op : Op) (out : Out) → by_use o h ≡ by_use a.opening a.history
    → victim (with_past a o h) key op out ≡ victim a key op out
same_victim a o h key op out order = ap (λ (es : List (Bytes × Bytes)). victim (with_past a es []) key op out) order

same_group : (a : State) (o : List (Bytes × Bytes)) (h : List Event) (caller : Caller) (key : Bytes) (op : Op) (out : Out) (callers : List Caller) (short : Bool) → by_use o h ≡ by_use a.opening a.history
    → new_group (with_past a o h) caller key op out callers short ≡ new_group a caller key op out callers short
same_group a o h caller key op out callers short order =
    ap (λ (v : Option Bytes). record (new_group a caller key op out callers short) { victim = v; evicted = own_cause (inserts_here a key op out) (overflows a key op out) (is_some v) short }) (same_victim a o h key op out order)

group-like : (a : State) (o : List (Bytes × Bytes)) (h : List Event) (g : Group) → by_use o h ≡ by_use a.opening a.history → length h ≡ length a.history → Agree a.joiners a.history h
    → IsLike (after_group a g) (after_group (with_past a o h) g)
group-like a o h g order count answers =
    let e : List Event = events_of (length a.history) g in
    let f : List Event = events_of (length h) g in
    let same : f ≡ e = ap (λ (n : ℕ). events_of n g) count in
    record {
      is = refl;
      order = by_use-append o h f ∙ ap (λ (x : List (Bytes × Bytes)). by_use x f) order ∙ ap (by_use (by_use a.opening a.history)) same ∙ sym (by_use-append a.opening a.history e);
      count = length-append h f ∙ ap (λ (n : ℕ). n + length f) count ∙ ap (λ (x : List Event). length a.history + length x) same ∙ sym (length-append a.history e);
      answers = subst (λ (x : List Event). Agree a.joiners (a.history ++ e) (h ++ x)) (sym same) (agree-more a.joiners a.history h e count answers);
    }

steps-past : (a n : State) (o : List (Bytes × Bytes)) (h : List Event) (caller : Caller) (key : Bytes) (op : Op) (out : Out) (callers : List Caller) (done : StepDone)
    → by_use o h ≡ by_use a.opening a.history → length h ≡ length a.history → Agree a.joiners a.history h
    → Steps a caller key op out callers done n
    → (m : State) × Steps (with_past a o h) caller key op out callers done m × IsLike n m
steps-past a n o h caller key op out callers done order count answers s =
    let b : State = with_past a o h in
    let g : Group = new_group a caller key op out callers s.short in
    let f : Group = new_group b caller key op out callers s.short in
    let same : f ≡ g = same_group a o h caller key op out callers s.short order in (
      after_group b f,
      record {
        short = s.short;
        lawful = subst (IsLawful a.config a.cache) (sym same) s.lawful;
        reply = s.reply;
        place = s.place ∙ ap (λ (x : ℕ). step_place x g) (sym count) ∙ ap (step_place (length h)) (sym same);
        victim_is = s.victim_is ∙ sym (same_victim a o h key op out order);
        evicted = s.evicted ∙ ap (λ (x : ℕ). own_eviction x g) (sym count) ∙ ap (own_eviction (length h)) (sym same);
        after = refl;
      },
      subst (λ (x : State). IsLike x (after_group b f)) (sym s.after) (subst (λ (x : Group). IsLike (after_group a g) (after_group b x)) (sym same) (group-like a o h g order count answers)),
    )

-- 4. First phases.

past-like : (a : State) (o : List (Bytes × Bytes)) (h : List Event) → by_use o h ≡ by_use a.opening a.history → length h ≡ length a.history → Agree a.joiners a.history h → IsLike a (with_past a o h)
past-like a o h order count answers = record { is = refl; order = order; count = count; answers = answers }

-- a refusal depends on how many events there are
abbrev refusal_at : State → ℕ → Caller → Bytes → Op → Option Refusal
refusal_at a events caller key op =
    if not (nat_le (events + promised a + places_needed (needs_free_key a key op)) a.config.history && nat_lt caller.call last_number && nat_lt a.next last_number) then Some (full_refusal a caller.call)
    else (if is_barred a key || (is_reserved a key && needs_free_key a key op) then Some refusal.Busy
    else (if needs_reservation a key op && nat_le RESERVATIONS_MAX (length a.reservations) then Some refusal.TooManyInFlight
    else (if is_some (load_joined a key op) && nat_le JOINERS_MAX (length a.joiners) then Some refusal.TooManyJoiners else None)))

same_refusal : (a : State) (o : List (Bytes × Bytes)) (h : List Event) (caller : Caller) (key : Bytes) (op : Op) → length h ≡ length a.history
    → first_refusal (with_past a o h) caller key op ≡ first_refusal a caller key op
same_refusal a o h caller key op count = ap (λ (n : ℕ). refusal_at a n caller key op) count

begins-past : (a n : State) (o : List (Bytes × Bytes)) (h : List Event) (caller : Caller) (key : Bytes) (op : Op) (b : Begun)
    → by_use o h ≡ by_use a.opening a.history → length h ≡ length a.history → Agree a.joiners a.history h
    → Begins a caller key op b n
    → (m : State) × Begins (with_past a o h) caller key op b m × IsLike n m
begins-past a n o h caller key op (begun.Refused r) order count answers one =
    (with_past a o h, (same_refusal a o h caller key op count ∙ one.0, refl), subst (λ (x : State). IsLike x (with_past a o h)) (sym one.1) (past-like a o h order count answers))
begins-past a n o h caller key op (begun.Done done) order count answers one =
    let made = steps-past a n o h caller key op nothing_said [] done order count answers one.2 in
    (made.0, (same_refusal a o h caller key op count ∙ one.0, one.1, made.1), made.2)
begins-past a n o h caller key op (begun.Asks ticket) order count answers one =
    let m : State = with_reservation (with_past a o h) ticket.reservation in
    let like : IsLike (with_reservation a ticket.reservation) m = record { is = refl; order = order; count = count; answers = answers } in
    (m, (same_refusal a o h caller key op count ∙ one.0, one.1, one.2, one.3, one.4, refl), subst (λ (x : State). IsLike x m) (sym one.5) like)
begins-past a n o h caller key op (begun.Joined join) order count answers one =
    let m : State = with_joiner (with_past a o h) join in
    let j : Joiner = record { caller = join.caller; key = join.key; load = join.load; state = Waiting } in
    let like : IsLike (with_joiner a join) m = record { is = refl; order = order; count = count; answers = agree-join a.joiners j a.history h tt answers } in
    (m, (same_refusal a o h caller key op count ∙ one.0, one.1, one.2, refl), subst (λ (x : State). IsLike x m) (sym one.3) like)

pub begins-like : (a b n : State) (caller : Caller) (key : Bytes) (op : Op) (x : Begun) → IsLike a b → Begins a caller key op x n
    → (m : State) × Begins b caller key op x m × IsLike n m
begins-like a b n caller key op x like one =
    let P : State → Type 0 = λ s. (m : State) × Begins s caller key op x m × IsLike n m in
    subst P (sym like.is) (begins-past a n b.opening b.history caller key op x like.order like.count like.answers one)

-- 5. Last phases, withdrawals and pick-ups.

commits-past : (a n : State) (o : List (Bytes × Bytes)) (h : List Event) (r : Reservation) (out : Out) (done : StepDone)
    → by_use o h ≡ by_use a.opening a.history → length h ≡ length a.history → Agree a.joiners a.history h
    → Commits a r out done n → (m : State) × Commits (with_past a o h) r out done m × IsLike n m
commits-past a n o h r out done order count answers one =
    let s = one.1 in
    let from : length a.history ≤ done.place + 1 = omega (arith, s.place) in
    let made = steps-past (after_commit a r done.place) n o h r.caller r.key r.op out (callers_of r.number a.joiners) done order count
    (agree-resolve r.number done.place (done.place + 1) a.joiners a.history h from count answers) s in
    (made.0, (one.0, made.1), made.2)

pub commits-like : (a b n : State) (r : Reservation) (out : Out) (done : StepDone) → IsLike a b → Commits a r out done n
    → (m : State) × Commits b r out done m × IsLike n m
commits-like a b n r out done like one =
    let P : State → Type 0 = λ s. (m : State) × Commits s r out done m × IsLike n m in
    subst P (sym like.is) (commits-past a n b.opening b.history r out done like.order like.count like.answers one)

pub withdraws-like : (a b n : State) (r : Reservation) → IsLike a b → Withdraws a r n → (m : State) × Withdraws b r m × IsLike n m
withdraws-like a b n r like one =
    let P : State → Type 0 = λ s. (m : State) × Withdraws s r m × IsLike n m in
    let m : State = after_withdrawal (with_past a b.opening b.history) r in
    let alike : IsLike (after_withdrawal a r) m = record { is = refl; order = like.order; count = like.count; answers = agree-dissolve r.number a.joiners a.history b.history like.answers } in
    subst P (sym like.is) (m, (one.0, refl), subst (λ (x : State). IsLike x m) (sym one.1) alike)

-- an eviction of an invalidated key
drop-past : (a : State) (o : List (Bytes × Bytes)) (h : List Event) (key : Bytes) → by_use o h ≡ by_use a.opening a.history → length h ≡ length a.history → Agree a.joiners a.history h
    → IsLike (without_entry a key) (without_entry (with_past a o h) key)
drop-past a o h key order count answers =
    let e : List Event = dropped_event key ∷ [] in
    record {
      is = refl;
      order = by_use-append o h e ∙ ap (λ (x : List (Bytes × Bytes)). by_use x e) order ∙ sym (by_use-append a.opening a.history e);
      count = length-append h e ∙ ap (λ (n : ℕ). n + length e) count ∙ sym (length-append a.history e);
      answers = agree-more a.joiners a.history h e count answers;
    }

end-past : (a : State) (o : List (Bytes × Bytes)) (h : List Event) (marked : Bool) (key : Bytes) → by_use o h ≡ by_use a.opening a.history → length h ≡ length a.history → Agree a.joiners a.history h
    → IsLike (end_with marked a key) (end_with marked (with_past a o h) key)
end-past a o h marked key order count answers =
    elim (is_dropped marked a key) as (λ b. IsLike (if b then without_entry a key else a) (if b then without_entry (with_past a o h) key else with_past a o h)) [
      | true ↦ drop-past a o h key order count answers
      | false ↦ past-like a o h order count answers
    ]

end-like : (a b : State) (marked : Bool) (key : Bytes) → IsLike a b → IsLike (end_with marked a key) (end_with marked b key)
end-like a b marked key like =
    let P : State → Type 0 = λ s. IsLike (end_with marked a key) (end_with marked s key) in
    subst P (sym like.is) (end-past a b.opening b.history marked key like.order like.count like.answers)

same_mark : (a b : State) (key : Bytes) → IsLike a b → is_marked b key ≡ is_marked a key
same_mark a b key like = ap (λ (s : State). is_marked s key) like.is

same_told : (a b : State) (marked : Bool) (key : Bytes) (done : StepDone) → IsLike a b → told_drop marked b key done ≡ told_drop marked a key done
same_told a b marked key done like =
    ap (λ (s : State). told_drop marked (record s { history = b.history }) key done) like.is
    ∙ ap (λ (n : ℕ). if is_dropped marked a key then record done { evicted = Some (record { cause = Invalidated; place = n }) } else done) like.count

pub ends-like : (a b n : State) (r : Reservation) (out : Out) (done : StepDone) → IsLike a b → Ends a r out done n
    → (m : State) × Ends b r out done m × IsLike n m
ends-like a b n r out done like (ended, step, commits, done_is, n_is) =
    let made = commits-like a b ended r out step like commits in
    let marked : is_marked b r.key ≡ is_marked a r.key = same_mark a b r.key like in
    let m : State = end_with (is_marked b r.key) made.0 r.key in
    let told : done ≡ told_drop (is_marked b r.key) made.0 r.key step = done_is ∙ sym (same_told ended made.0 (is_marked a r.key) r.key step made.2) ∙ ap (λ (x : Bool). told_drop x made.0 r.key step) (sym marked) in
    let alike : IsLike (end_with (is_marked a r.key) ended r.key) m =
    subst (λ (x : Bool). IsLike (end_with (is_marked a r.key) ended r.key) (end_with x made.0 r.key)) (sym marked) (end-like ended made.0 (is_marked a r.key) r.key made.2)
    in
    (m, (made.0, step, made.1, told, refl), subst (λ (x : State). IsLike x m) (sym n_is) alike)

pub gives_back-like : (a b n : State) (r : Reservation) → IsLike a b → GivesBack a r n → (m : State) × GivesBack b r m × IsLike n m
gives_back-like a b n r like (ended, withdraws, n_is) =
    let made = withdraws-like a b ended r like withdraws in
    let marked : is_marked b r.key ≡ is_marked a r.key = same_mark a b r.key like in
    let m : State = end_with (is_marked b r.key) made.0 r.key in
    let alike : IsLike (end_with (is_marked a r.key) ended r.key) m =
    subst (λ (x : Bool). IsLike (end_with (is_marked a r.key) ended r.key) (end_with x made.0 r.key)) (sym marked) (end-like ended made.0 (is_marked a r.key) r.key made.2)
    in
    (m, (made.0, made.1, refl), subst (λ (x : State). IsLike x m) (sym n_is) alike)

-- an invalidation
place-past : (a : State) (o : List (Bytes × Bytes)) (h : List Event) → length h ≡ length a.history → has_place (with_past a o h) ≡ has_place a
place-past a o h count = ap (λ (n : ℕ). nat_le (n + promised a + HIT_PLACES) a.config.history) count

drops-past : (a : State) (o : List (Bytes × Bytes)) (h : List Event) (key : Bytes) → by_use o h ≡ by_use a.opening a.history → length h ≡ length a.history → Agree a.joiners a.history h
    → IsLike (drop_or_shut a key) (drop_or_shut (with_past a o h) key)
drops-past a o h key order count answers =
    let b : State = with_past a o h in
    subst (λ (x : Bool). IsLike (drop_or_shut a key) (if x then without_entry b key else record b { shut = true })) (sym (place-past a o h count))
    (elim (has_place a) as (λ x. IsLike (if x then without_entry a key else record a { shut = true }) (if x then without_entry b key else record b { shut = true })) [
      | true ↦ drop-past a o h key order count answers
      | false ↦ record { is = refl; order = order; count = count; answers = answers }
    ])

marks-past : (a : State) (o : List (Bytes × Bytes)) (h : List Event) (key : Bytes) → by_use o h ≡ by_use a.opening a.history → length h ≡ length a.history → Agree a.joiners a.history h
    → IsLike (with_mark a key) (with_mark (with_past a o h) key)
marks-past a o h key order count answers =
    let one : IsLike (record a { marked = (with_mark a key).marked }) (record (with_past a o h) { marked = (with_mark a key).marked }) = record { is = refl; order = order; count = count; answers = answers } in
    let same : (with_mark (with_past a o h) key).marked ≡ (with_mark a key).marked = mark-same (is_marked a key) (nat_lt (length a.marked) RESERVATIONS_MAX) in
    let b_is : with_mark (with_past a o h) key ≡ record (with_past a o h) { marked = (with_mark a key).marked } = marked_is (with_past a o h) key ∙ ap (λ (l : List Bytes). record (with_past a o h) { marked = l }) same in
    subst (λ (x : State). IsLike x (with_mark (with_past a o h) key)) (sym (marked_is a key)) (subst (IsLike (record a { marked = (with_mark a key).marked })) (sym b_is) one)
  where
    more : List Bytes
    more = a.marked ++ key ∷ []

    all : List Bytes
    all = map (λ (r : Reservation). r.key) a.reservations

    mark-same : (x y : Bool) → (if x then with_past a o h else (if y then record (with_past a o h) { marked = more } else record (with_past a o h) { marked = all })).marked
        ≡ (if x then a else (if y then record a { marked = more } else record a { marked = all })).marked
    mark-same true y = refl
    mark-same false true = refl
    mark-same false false = refl

invalidates-past : (a : State) (o : List (Bytes × Bytes)) (h : List Event) (key : Bytes) → by_use o h ≡ by_use a.opening a.history → length h ≡ length a.history → Agree a.joiners a.history h
    → IsLike (after_invalidation a key) (after_invalidation (with_past a o h) key)
invalidates-past a o h key order count answers =
    let b : State = with_past a o h in
    elim (is_reserved a key) as (λ x. IsLike (if x then with_mark a key else (if is_some (entry_at a.cache key) then drop_or_shut a key else a)) (if x then with_mark b key else (if is_some (entry_at a.cache key) then drop_or_shut b key else b))) [
      | true ↦ marks-past a o h key order count answers
      | false ↦ elim (is_some (entry_at a.cache key)) as (λ x. IsLike (if x then drop_or_shut a key else a) (if x then drop_or_shut b key else b)) [
        | true ↦ drops-past a o h key order count answers
        | false ↦ past-like a o h order count answers
      ]
    ]

pub may-like : (a b : State) (key : Bytes) → IsLike a b → may_invalidate (Some b) key ≡ may_invalidate (Some a) key
may-like a b key like =
    let P : State → Type 0 = λ s. may_invalidate (Some s) key ≡ may_invalidate (Some a) key in
    subst P (sym like.is) (λ i. is_reserved a key || is_none (entry_at a.cache key) || place-past a b.opening b.history like.count i)

pub invalidates-like : (a b n : State) (key : Bytes) → IsLike a b → Invalidates a key n → (m : State) × Invalidates b key m × IsLike n m
invalidates-like a b n key like n_is =
    let m : State = after_invalidation b key in
    let P : State → Type 0 = λ s. IsLike (after_invalidation a key) (after_invalidation s key) in
    (m, refl, subst (λ (x : State). IsLike x m) (sym n_is) (subst P (sym like.is) (invalidates-past a b.opening b.history key like.order like.count like.answers)))

without-like : (a : State) (o : List (Bytes × Bytes)) (h : List Event) (join : JoinClaim) → by_use o h ≡ by_use a.opening a.history → length h ≡ length a.history → Agree a.joiners a.history h
    → IsLike (without_joiner a join) (without_joiner (with_past a o h) join)
without-like a o h join order count answers =
    record { is = refl; order = order; count = count; answers = agree-filter (λ (j : Joiner). not (belongs_to join.caller join.key j)) a.joiners a.history h answers }

picks-past : (a n : State) (o : List (Bytes × Bytes)) (h : List Event) (join : JoinClaim) (x : Polled)
    → by_use o h ≡ by_use a.opening a.history → length h ≡ length a.history → Agree a.joiners a.history h
    → PicksUp a join x n → (m : State) × PicksUp (with_past a o h) join x m × IsLike n m
picks-past a n o h join (polled.Answer reply place shared) order count answers one =
    let m : State = without_joiner (with_past a o h) join in
    let here : slice_get h place ≡ slice_get a.history place = agree-found (belongs_to join.caller join.key) a.joiners a.history h place shared answers one.1 in
    (m, (one.0, one.1, (one.2.0, here ∙ one.2.1), refl), subst (λ (y : State). IsLike y m) (sym one.3) (without-like a o h join order count answers))
picks-past a n o h join polled.Again order count answers one =
    let m : State = without_joiner (with_past a o h) join in
    (m, (one.0, one.1, refl), subst (λ (y : State). IsLike y m) (sym one.2) (without-like a o h join order count answers))
picks-past a n o h join (polled.NotYet back) order count answers one =
    (with_past a o h, (one.0, one.1, one.2, refl), subst (λ (y : State). IsLike y (with_past a o h)) (sym one.3) (past-like a o h order count answers))

pub picks-like : (a b n : State) (join : JoinClaim) (x : Polled) → IsLike a b → PicksUp a join x n → (m : State) × PicksUp b join x m × IsLike n m
picks-like a b n join x like one =
    let P : State → Type 0 = λ s. (m : State) × PicksUp s join x m × IsLike n m in
    subst P (sym like.is) (picks-past a n b.opening b.history join x like.order like.count like.answers one)

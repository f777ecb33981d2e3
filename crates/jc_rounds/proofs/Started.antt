-- Rounds of which each starts every key that it can.
--     held_less              keys that were put off in each round, of fewer keys
--     none_run               before the first round
--     run_more               one round more
--     some_more    rounds after which one has asked have asked
use Rattle.jc_rounds.proofs.Common.{◌≡◌, ◌⊎◌, inl, inr, ◌≤◌, ◌++◌, ℕ, List, [], ◌∷◌, append-nil, length, slice_get, false, true, true≢false, Bool, ◌||◌, Ok, Err, Some, refl, sym, ap, ◌∙◌, subst, flat_map-append, list_any-append, IsAmong, pointwise, Caller, is_among, Bytes, Op, KeyProgress, Waiting, Reserved, Joined, Ended, IsAt, IsHeldBack, steps_of, view_of, CacheState, Session, BulkCall, Round, asked_in, keys_asked, IsFirst, KeepsCause, holds_reservation, is_held_back, HasRun, HeldInEach, IsRound, with_rounds, AreHeldBack, HaveNoStep, KeysAdvance, EachStartsAll, IsFull, RoundEnd, rounds_asked, seats_after, ops_of, CallPast, IsBetween, HasGrown, view_at, ◌==◌, Event, View}
use Rattle.jc_rounds.proofs.SeatPhases.{Seated}
use Rattle.jc_rounds.proofs.Causes.{first_more}
use Rattle.jc_rounds.proofs.Asked.{or_other, place_among}
use Rattle.jc_rounds.proofs.Out.{none_in}

either_asked : (xs ys : List Round) (key : Bytes) → is_among (asked_in (xs ++ ys)) key ≡ true → (is_among (asked_in xs) key ≡ true) ⊎ (is_among (asked_in ys) key ≡ true)
either_asked xs ys key is =
    or_other (is_among (asked_in xs) key) (is_among (asked_in ys) key)
    (sym (ap (λ ks. is_among ks key) (flat_map-append keys_asked xs ys) ∙ list_any-append (pointwise ◌==◌ key) (asked_in xs) (asked_in ys)) ∙ is)

or_true : (b : Bool) → (b || true) ≡ true
or_true true = refl
or_true false = refl

either_later : (xs ys : List Round) (key : Bytes) → is_among (asked_in ys) key ≡ true → is_among (asked_in (xs ++ ys)) key ≡ true
either_later xs ys key is =
    ap (λ ks. is_among ks key) (flat_map-append keys_asked xs ys) ∙ list_any-append (pointwise ◌==◌ key) (asked_in xs) (asked_in ys)
    ∙ (λ i. is_among (asked_in xs) key || is i) ∙ or_true (is_among (asked_in xs) key)

calls_more : (es : List RoundEnd) (e : RoundEnd) → rounds_asked (es ++ e ∷ []) ≡ rounds_asked es ++ e.calls
calls_more es e = flat_map-append (λ (x : RoundEnd). x.calls) es (e ∷ []) ∙ ap (λ cs. rounds_asked es ++ cs) (append-nil e.calls)

seats_more : (old : List Seated) (es : List RoundEnd) (e : RoundEnd) → seats_after old (es ++ e ∷ []) ≡ e.seats
seats_more old [] e = refl
seats_more old (f ∷ es) e = seats_more f.seats es e

abbrev HasStep : Caller → View → Bytes → Type 0
HasStep caller view key = (step : Event) × (steps_of caller key view.own ≡ step ∷ [])

module _ (caller : Caller) (stripes : ℕ) (targets : List (Bytes × Op)) where
  held_less : (old : List Seated) (es : List RoundEnd) (a b : List Seated) (ps qs : List KeyProgress) → KeysAdvance a b ps qs → HeldInEach caller stripes targets old es ps → HeldInEach caller stripes targets old es qs
  held_less old [] a b ps qs goes held = tt
  held_less old (e ∷ es) a b ps qs goes held = (
    λ place less key op p there at is. let q = goes.held place p at is in held.0 place less key op q.0 there q.1 q.2,
    λ place key op p there at is. let q = goes.held place p at is in held.1 place key op q.0 there q.1 q.2,
    held_less e.seats es a b ps qs goes held.2,
  )

  held_more : (old : List Seated) (es : List RoundEnd) (e : RoundEnd) (ps : List KeyProgress) → AreHeldBack (IsFull caller stripes targets (seats_after old es) e.seats (length (asked_in e.calls))) (length targets) caller stripes targets (seats_after old es) e.seats ps
      → HaveNoStep caller stripes targets e.seats ps → HeldInEach caller stripes targets old es ps → HeldInEach caller stripes targets old (es ++ e ∷ []) ps
  held_more old [] e ps here none held = (here, none, tt)
  held_more old (f ∷ es) e ps here none held = (held.0, held.1, held_more f.seats es e ps here none held.2)

  abbrev AreOver : RoundEnd → Type 0
  AreOver e = (key : Bytes) (op : Op) → IsAmong targets (key, op) → is_among (asked_in e.calls) key ≡ true → HasStep caller (view_of stripes e.seats key) key

  starts_more : (old : List Seated) (es : List RoundEnd) (e : RoundEnd) (ps : List KeyProgress) → length e.calls ≤ 1 → ((i : ℕ) → HasGrown (view_at (seats_after old es) i) (view_at e.seats i))
      → ((place : ℕ) (key : Bytes) (op : Op) → slice_get targets place ≡ Some (key, op) → is_among (asked_in e.calls) key ≡ true → slice_get ps place ≡ Some Waiting)
      → AreOver e → HeldInEach caller stripes targets old es ps → EachStartsAll caller stripes targets old es → EachStartsAll caller stripes targets old (es ++ e ∷ [])
  starts_more old [] e ps few grown waited over held each = (
    record { few = few; grown = grown; ended = over; no_step = λ key op among asked. absurd (true≢false (sym asked)); put_off = λ key op among asked. absurd (true≢false (sym asked)) },
    tt,
  )
  starts_more old (f ∷ es) e ps few grown waited over held each = (
    record {
      few = each.0.few;
      grown = each.0.grown;
      ended = each.0.ended;
      no_step = λ key op among asked. step key op among (either_asked (rounds_asked es) e.calls key (ap (λ cs. is_among (asked_in cs) key) (sym (calls_more es e)) ∙ asked));
      put_off = λ key op among asked. by key op among (either_asked (rounds_asked es) e.calls key (ap (λ cs. is_among (asked_in cs) key) (sym (calls_more es e)) ∙ asked));
    },
    starts_more f.seats es e ps few grown waited over held.2 each.1,
  )
    where
      step : (key : Bytes) (op : Op) → IsAmong targets (key, op) → (is_among (asked_in (rounds_asked es)) key ≡ true) ⊎ (is_among (asked_in e.calls) key ≡ true) → steps_of caller key (view_of stripes f.seats key).own ≡ []
      step key op among (inl before) = each.0.no_step key op among before
      step key op among (inr now) = let at = place_among targets (key, op) among in held.1 at.0 key op Waiting at.2 (waited at.0 key op at.2 now) refl

      by : (key : Bytes) (op : Op) → IsAmong targets (key, op) → (is_among (asked_in (rounds_asked es)) key ≡ true) ⊎ (is_among (asked_in e.calls) key ≡ true)
          → IsFull caller stripes targets old f.seats (length (asked_in f.calls)) ⊎ IsHeldBack caller (view_of stripes old key) (view_of stripes f.seats key) key op
      by key op among (inl before) = each.0.put_off key op among before
      by key op among (inr now) = let at = place_among targets (key, op) among in held.0 at.0 at.1 key op Waiting at.2 (waited at.0 key op at.2 now) refl

-- between two rounds: a key that was asked for has a step, and one that is held back has none
module _ {I J : Type 0} {D : I → Type 0} {E : J → Type 0} (cache : CacheState) (past : CallPast) (session : Session I J D E) (call : BulkCall) (between : IsBetween cache past session call) where
  ended : (key : Bytes) (op : Op) (p : KeyProgress) → is_held_back p ≡ false → holds_reservation p ≡ false → is_among (asked_in past.rounds) key ≡ true
      → IsAt cache.config past.caller past.rounds (view_of cache.config.stripes past.first key) (view_of cache.config.stripes session.seats.items key) key op p
      → HasStep past.caller (view_of cache.config.stripes session.seats.items key) key
  ended key op Waiting held free asked at = absurd (true≢false held)
  ended key op Reserved held free asked at = absurd (true≢false free)
  ended key op Joined held free asked at = absurd (true≢false held)
  ended key op (Ended (Ok reply)) held free asked at = (_, at.one)
  ended key op (Ended (Err refusal)) held free asked at = absurd (true≢false (sym asked ∙ at.1))

  are_over : (key : Bytes) (op : Op) → IsAmong (ops_of call.targets.now) (key, op) → is_among (asked_in past.rounds) key ≡ true → HasStep past.caller (view_of cache.config.stripes session.seats.items key) key
  are_over key op among asked =
      let ops = ops_of call.targets.now in
      let u = between.on.under in
      let at = place_among ops (key, op) among in
      let p = between.on.asked.over at.0 key op at.2 asked in
      ended key op p.0 p.2 (none_in holds_reservation _ ops call.progress.items u.so_far.many u.calls_are at.0 p.0 p.1) asked (u.so_far.each at.0 key op p.0 at.2 p.1)

  have_none : HaveNoStep past.caller cache.config.stripes (ops_of call.targets.now) session.seats.items call.progress.items
  have_none place key op p there at held = by p held (between.on.under.so_far.each place key op p there at)
    where
      by : (p : KeyProgress) → is_held_back p ≡ true → IsAt cache.config past.caller past.rounds (view_of cache.config.stripes past.first key) (view_of cache.config.stripes session.seats.items key) key op p
          → steps_of past.caller key (view_of cache.config.stripes session.seats.items key).own ≡ []
      by Waiting held none = none
      by Reserved held none = none
      by Joined held none = none
      by (Ended e) held none = let bad : false ≡ true = held in cc

-- the call goes on by a round
module _ {I J : Type 0} {D : I → Type 0} {E : J → Type 0} where
  pub none_run : (cache : CacheState) (past : CallPast) (session : Session I J D E) (call : BulkCall) → past.rounds ≡ [] → past.first ≡ session.seats.items → IsBetween cache past session call → HasRun cache past session call
  none_run cache past session call none first between = record {
    between = between;
    started = record { ends = []; calls_are = sym none; seats_are = first; each = tt };
    held = tt;
    first = tt;
  }

  pub run_more : (cache : CacheState) (past : CallPast) (old new : Session I J D E) (call later : BulkCall) (calls : List Round) → later.targets ≡ call.targets
      → IsRound past.caller cache.config.stripes (ops_of call.targets.now) old.seats.items new.seats.items call.progress.items later.progress.items calls
      → KeepsCause call.cause later.cause → IsBetween cache (with_rounds past calls) new later → HasRun cache past old call → HasRun cache (with_rounds past calls) new later
  run_more cache past old new call later calls same round keeps between run =
      let caller = past.caller in
      let n = cache.config.stripes in
      let es = run.started.ends in
      let e : RoundEnd = record { calls = calls; seats = new.seats.items } in
      let goes = ops_same call later same in
      record {
        between = between;
        started = record {
          ends = es ++ e ∷ [];
          calls_are = calls_more es e ∙ ap (λ cs. cs ++ calls) run.started.calls_are;
          seats_are = seats_more past.first es e;
          each = subst (λ t. EachStartsAll caller n t past.first (es ++ e ∷ [])) goes (starts_more caller n (ops_of call.targets.now) past.first es e call.progress.items round.few
              (subst (λ (seats : List Seated). (i : ℕ) → HasGrown (view_at seats i) (view_at new.seats.items i)) (sym run.started.seats_are) round.goes.grown) round.waited
              (λ key op among asked. are_over cache (with_rounds past calls) new later between key op (subst (λ t. IsAmong t (key, op)) goes among) (either_later past.rounds calls key asked)) run.held run.started.each);
        };
        held = subst (λ t. HeldInEach caller n t past.first (es ++ e ∷ []) later.progress.items) goes
            (held_more caller n (ops_of call.targets.now) past.first es e later.progress.items
            (subst (λ (seats : List Seated). AreHeldBack (IsFull caller n (ops_of call.targets.now) seats new.seats.items (length (asked_in calls))) (length (ops_of call.targets.now)) caller n (ops_of call.targets.now) seats new.seats.items later.progress.items) (sym run.started.seats_are) round.held)
            (subst (λ t. HaveNoStep caller n t new.seats.items later.progress.items) (sym goes) (have_none cache (with_rounds past calls) new later between))
            (held_less caller n (ops_of call.targets.now) past.first es old.seats.items new.seats.items call.progress.items later.progress.items round.goes run.held));
        first = first_more cache.config caller (ops_of later.targets.now) [] es e (past.rounds ++ calls) past.first later.progress.items call.cause later.cause (ap (λ rs. rs ++ calls) run.started.calls_are) keeps
            between.on.under.so_far between.cause (subst (λ t. IsFirst cache.config caller t past.first [] es call.cause) goes run.first);
      }
    where
      ops_same : (call later : BulkCall) → later.targets ≡ call.targets → ops_of call.targets.now ≡ ops_of later.targets.now
      ops_same call later same = ap (λ t. ops_of t.now) (sym same)

pub some_more : {A : Type 0} (xs ys : List A) → (ys ≡ [] → ⊥) → xs ++ ys ≡ [] → ⊥
some_more [] ys some is = some is
some_more (x ∷ xs) ys some is = cc

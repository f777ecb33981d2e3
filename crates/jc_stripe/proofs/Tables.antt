-- The phases without a step: a reached state's tables change, and it stays reached.
--     reached_start         the first state, whatever it opens with
--     reached_reserved      a reservation more
--     reached_joined        a joiner more
--     reached_withdrawn     a reservation given back
--     reached_picked        a joiner less
use Rattle.std.proofs.Common.{◌≡◌, ◌≤◌, ◌<◌, ◌+◌, ◌*◌, ◌&&◌, ℕ, List, [], ◌∷◌, ◌++◌, length, IsTrue, Bool, true, false, cond, not, Some, filter, refl, sym, ap, ◌∙◌, subst, arith, append-nil}
use Rattle.std.proofs.lemmas.List.{length-append}
use Rattle.std.proofs.lemmas.List.Sums.{length-filter, count_by-le-length}
use Rattle.std.specs.List.{list_all, list_any, count_by}
use Rattle.std.specs.FinMap.{len, from_entries}
use Rattle.std.proofs.lemmas.Bool.{and_parts, and_from}
use Rattle.jc_types.proofs.CallerLemmas.{all_filter, found_more}
use Rattle.jc_model.specs.declared.event.Event.{Event}
use Rattle.jc_model.specs.declared.event.Op.{Op}
use Rattle.jc_model.specs.Cache.{Bytes, key_cmp, entry_at}
use Rattle.jc_model.specs.Legal.{in_order}
use Rattle.jc_model.specs.Listed.{has_distinct_keys}
use Rattle.jc_model.proofs.CallerLemmas.{opening_of}
use Rattle.jc_inflight.specs.declared.joiner.Joiner.{Joiner}
use Rattle.jc_inflight.specs.declared.joiner.JoinState.TheVariants.{Waiting, Again}
use Rattle.jc_inflight.specs.Joining.{belongs_to, waits_for, waits}
use Rattle.jc_inflight.specs.Dissolving.{after_dissolve}
use Rattle.jc_inflight.proofs.CallerLemmas.{calls-after_dissolve, count-cons}
use Rattle.jc_stripe.specs.Polled.{Polled}
use Rattle.jc_stripe.specs.Polled as polled
use Rattle.jc_stripe.specs.declared.ticket.First.{First}
use Rattle.jc_stripe.specs.Tickets.{JoinClaim}
use Rattle.jc_stripe.specs.State.{State, is_of as is_own_key, is_key, is_reserved, new_reservation, with_reservation, without_key, without_mark, promised, IsOut}
use Rattle.jc_stripe.specs.Refusals.{first_asked, load_joined}
use Rattle.jc_stripe.specs.OrderOfUse.{by_use}
use Rattle.jc_stripe.specs.Phases.{MayBegin, with_joiner, Withdraws, after_withdrawal, PicksUp, without_joiner, is_other_join}
use Rattle.jc_stripe.specs.Generations.{IsChain}
use Rattle.jc_stripe.specs.Reached.{IsReached, IsOpened, AreReserved, AreNumbered, AllAsk, AllJoin, FindsLoad, may_end, may_share, are_beside, are_apart, all_apart, is_own}
use Rattle.jc_types.specs.declared.limits.TheConstants.{STEP_PLACES, HIT_PLACES, RESERVATIONS_MAX, JOINERS_MAX}
use Rattle.jc_stripe.proofs.Refusing.{joins_known}
use Rattle.jc_stripe.proofs.Numbering.{numbered-push, numbered-left}
use Rattle.jc_stripe.proofs.MarkedKeys.{marks_more, marks_left}
use Rattle.jc_stripe.proofs.Beside.{all-push, beside-push, all_left, beside_left, ask-push, ask_left, fewer_left, apart-push, apart_kept, between-push, between_kept, between_left, apart-alike, between-alike, length-alike}
use Rattle.jc_stripe.proofs.Joining.{fits_on, join_on, finds_on, join-push, join_kept, still_there, count-push, count_kept}
use Rattle.jc_types.specs.declared.caller.Caller.{Caller}
use Rattle.jc_stripe.specs.declared.ticket.Reservation.{Reservation}

-- 1. The first state.

pub reached_start : (state : State) → IsOpened state → IsReached state
reached_start state start =
    let opens = opening_of state.config state.stripe state.opening start.once start.few start.own in
    let entries : by_use state.opening state.history ≡ state.opening = ap (by_use state.opening) start.history in
    let reservations = start.reservations in
    let joiners = start.joiners in
    let history = start.history in
    let none : length state.reservations ≡ 0 = ap length reservations in
    let nobody : length state.joiners ≡ 0 = ap length joiners in
    let waiting : count_by waits state.joiners ≡ 0 = ap (count_by waits) joiners in
    record {
      config_fits = start.config_fits;
      chain = subst (λ gs. IsChain state.config gs state.opening) (sym start.ended) tt;
      one_life = λ alone. start.ended;
      opened_once = start.once;
      opens = opens;
      legal = record {
        parts = [];
        spelled = history;
        lawful = tt;
        left = start.cache;
        order = ap in_order history;
      };
      used = record {
        once = ap has_distinct_keys entries ∙ start.once;
        own = ap (list_all (λ (entry : Bytes × Bytes). is_own_key state entry.0)) entries ∙ start.own;
        cache = start.cache ∙ ap (from_entries {R = key_cmp}) (sym entries);
      };
      own = ap (list_all (is_own state)) history;
      keys = ap (list_all (λ (r : Reservation). is_own_key state r.key)) reservations;
      few_entries = let e = ap len start.cache in let few = opens.few in omega arith;
      few_reservations = omega arith;
      few_joiners = omega arith;
      places = let e : length state.history ≡ 0 = ap length history in omega arith;
      numbered = let P : List Reservation → Type 0 = λ rs. AreNumbered state.next rs in subst P (sym reservations) (nothing_numbered state.next);
      asks = let P : List Reservation → Type 0 = λ rs. AllAsk state.config state.cache rs in subst P (sym reservations) tt;
      ends = ap (list_all (may_end state.history)) reservations;
      beside = ap are_beside reservations;
      joins = let P : List Joiner → Type 0 = λ js. AllJoin state js in subst P (sym joiners) tt;
      shares = ap (list_all (may_share state.history)) joiners;
      apart = ap are_apart joiners;
      between = ap (λ (rs : List Reservation). all_apart rs state.joiners) reservations;
      marks = ap (list_all (λ (key : Bytes). list_any (is_key key) state.reservations)) start.marked;
    }
  where
    nothing_numbered : (next : ℕ) → AreNumbered next []
    nothing_numbered next = record {
      once = λ i j d lt within. absurd (omega arith);
      numbers = λ i j d lt within. absurd (omega arith);
      below = λ k d within. absurd (omega arith);
    }

-- 2. Other tables.

abbrev tabled : State → List Reservation → List Joiner → ℕ → List Bytes → State
tabled state rs js next marked = record state { reservations = rs; joiners = js; next = next; marked = marked }

-- what the tables of a reached state are
record Tabled (state : State) (rs : List Reservation) (js : List Joiner) (next : ℕ) (marked : List Bytes) : Type 0 where
  pub keys : IsTrue (list_all (λ r. is_own_key state r.key) rs)
  pub few_reservations : length rs ≤ RESERVATIONS_MAX
  pub few_joiners : length js ≤ JOINERS_MAX
  pub places : length state.history + (STEP_PLACES * length rs + HIT_PLACES * count_by waits js) ≤ state.config.history
  pub numbered : AreNumbered next rs
  pub asks : AllAsk state.config state.cache rs
  pub ends : IsTrue (list_all (may_end state.history) rs)
  pub beside : IsTrue (are_beside rs)
  pub joins : AllJoin (tabled state rs js next marked) js
  pub shares : IsTrue (list_all (may_share state.history) js)
  pub apart : IsTrue (are_apart js)
  pub between : IsTrue (all_apart rs js)
  pub marks : AreReserved rs marked

reached_tabled : (state : State) (rs : List Reservation) (js : List Joiner) (next : ℕ) (marked : List Bytes) → IsReached state → Tabled state rs js next marked → IsReached (tabled state rs js next marked)
reached_tabled state rs js next marked old new = record {
  config_fits = old.config_fits;
  chain = old.chain;
  one_life = old.one_life;
  opened_once = old.opened_once;
  opens = old.opens;
  legal = old.legal;
  used = record { once = old.used.once; cache = old.used.cache; own = old.used.own };
  own = old.own;
  keys = new.keys;
  few_entries = old.few_entries;
  few_reservations = new.few_reservations;
  few_joiners = new.few_joiners;
  places = new.places;
  numbered = new.numbered;
  asks = new.asks;
  ends = new.ends;
  beside = new.beside;
  joins = new.joins;
  shares = new.shares;
  apart = new.apart;
  between = new.between;
  marks = new.marks;
}

-- a history grows by nothing
same_history : (history : List Event) → history ≡ history ++ []
same_history history = sym (append-nil history)

-- 3. A reservation more.

pub reached_reserved : (state : State) (caller : Caller) (key : Bytes) (op : Op) (first : First) → IsReached state → MayBegin state caller key → length state.reservations < RESERVATIONS_MAX
    → length state.history + promised state + STEP_PLACES ≤ state.config.history → first_asked state.config op (entry_at state.cache key) ≡ first → is_reserved state key ≡ false → IsReached (with_reservation state (new_reservation state caller key op first))
reached_reserved state caller key op first old begins few places asks free =
    let r : Reservation = new_reservation state caller key op first in
    let rs : List Reservation = state.reservations ++ r ∷ [] in
    let new : State = tabled state rs state.joiners (state.next + 1) state.marked in
    let long : length rs ≡ length state.reservations + 1 = length-append state.reservations (r ∷ []) in
    reached_tabled state rs state.joiners (state.next + 1) state.marked old (record {
      keys = all-push (λ (x : Reservation). is_own_key state x.key) state.reservations r old.keys begins.of_stripe;
      few_reservations = omega arith;
      few_joiners = old.few_joiners;
      places = omega arith;
      numbered = numbered-push state.next state.reservations r old.numbered refl free;
      asks = ask-push state.config state.cache state.reservations r old.asks asks;
      ends = all-push (may_end state.history) state.reservations r old.ends begins.behind;
      beside = beside-push state.reservations r old.beside begins.beside;
      joins = join_on state new [] state.joiners (same_history state.history) (λ j w f. finds_on state new j refl (λ q e. refl) (λ x h. found_more _ state.reservations (r ∷ []) x h) f) old.joins;
      shares = old.shares;
      apart = old.apart;
      between = all-push (λ (x : Reservation). list_all (is_other_join x.caller x.key) state.joiners) state.reservations r old.between begins.apart;
      marks = marks_more state.reservations r state.marked old.marks;
    })

-- 4. A joiner more.

pub reached_joined : (state : State) (caller : Caller) (key : Bytes) (op : Op) (load : ℕ) → IsReached state → MayBegin state caller key → load_joined state key op ≡ Some load → length state.joiners < JOINERS_MAX
    → length state.history + promised state + HIT_PLACES ≤ state.config.history → IsReached (with_joiner state (record { caller = caller; key = key; load = load }))
reached_joined state caller key op load old begins tells few places =
    let j : Joiner = record { caller = caller; key = key; load = load; state = Waiting } in
    let js : List Joiner = state.joiners ++ j ∷ [] in
    let new : State = tabled state state.reservations js state.next state.marked in
    let known = joins_known state key op load tells in
    let long : length js ≡ length state.joiners + 1 = length-append state.joiners (j ∷ []) in
    let more : count_by waits js ≡ count_by waits state.joiners + 1 = count-push waits state.joiners j refl in
    reached_tabled state state.reservations js state.next state.marked old (record {
      keys = old.keys;
      few_reservations = old.few_reservations;
      few_joiners = omega arith;
      places = omega arith;
      numbered = old.numbered;
      asks = old.asks;
      ends = old.ends;
      beside = old.beside;
      joins = join-push new state.joiners j
          (join_on state new [] state.joiners (same_history state.history) (λ i w f. finds_on state new i refl (λ q e. refl) (λ x h. h) f) old.joins)
          (record { load = known.loading; missing = known.missing; read_through = known.read_through });
      shares = all-push (may_share state.history) state.joiners j old.shares begins.behind;
      apart = apart-push state.joiners j old.apart begins.apart;
      between = between-push state.reservations state.joiners j old.between begins.beside;
      marks = old.marks;
    })

-- 5. A reservation given back.

share-dissolved : (history : List Event) (load : ℕ) (js : List Joiner) → list_all (may_share history) js ≡ true → list_all (may_share history) (after_dissolve load js) ≡ true
share-dissolved history load [] h = refl
share-dissolved history load (j ∷ js) h =
    let rest : list_all (may_share history) js ≡ true → list_all (may_share history) (after_dissolve load js) ≡ true = share-dissolved history load js in
    elim (waits_for load j) as (λ b. (may_share history j && list_all (may_share history) js) ≡ true → list_all (may_share history) (cond b (record j { state = Again }) j ∷ after_dissolve load js) ≡ true) [
      | true ↦ λ h. rest (and_parts _ _ h).1
      | false ↦ λ h. and_from _ _ (and_parts _ _ h).0 (rest (and_parts _ _ h).1)
    ] h

pub count-dissolved : (load : ℕ) (js : List Joiner) → count_by waits (after_dissolve load js) ≤ count_by waits js
count-dissolved load [] = omega arith
count-dissolved load (j ∷ js) =
    let less : count_by waits (after_dissolve load js) ≤ count_by waits js = count-dissolved load js in
    elim (waits_for load j) as (λ b. count_by waits (cond b (record j { state = Again }) j ∷ after_dissolve load js) ≤ count_by waits (j ∷ js)) [
      | true ↦ omega (arith, count-cons waits j js, count-cons waits (record j { state = Again }) (after_dissolve load js), less)
      | false ↦ omega (arith, count-cons waits j js, count-cons waits j (after_dissolve load js), less)
    ]

join-dissolved : (old new : State) (load : ℕ) (js : List Joiner) → new.history ≡ old.history ++ [] → ((j : Joiner) → waits j ≡ true → waits_for load j ≡ false → FindsLoad old j → FindsLoad new j)
    → AllJoin old js → AllJoin new (after_dissolve load js)
join-dissolved old new load [] same finds all = tt
join-dissolved old new load (j ∷ js) same finds all =
    let rest : AllJoin new (after_dissolve load js) = join-dissolved old new load js same finds all.1 in
    elim (waits_for load j) as (λ b. waits_for load j ≡ b → AllJoin new (cond b (record j { state = Again }) j ∷ after_dissolve load js)) [
      | true ↦ λ e. (tt, rest)
      | false ↦ λ e. (fits_on old new [] j j.state same (λ w f. finds j w e f) all.0, rest)
    ] refl

reached_dissolved : (state : State) (r : Reservation) → IsReached state → IsOut state r → IsReached (after_withdrawal state r)
reached_dissolved state r old found =
    let rs : List Reservation = without_key r.key state.reservations in
    let js : List Joiner = after_dissolve r.number state.joiners in
    let marked : List Bytes = without_mark r.key state.marked in
    let new : State = tabled state rs js state.next marked in
    let calls = sym (calls-after_dissolve r.number state.joiners) in
    let fewer : length rs ≤ length state.reservations = fewer_left r.key state.reservations in
    let long : length state.joiners ≡ length js = length-alike state.joiners js calls in
    let less : count_by waits js ≤ count_by waits state.joiners = count-dissolved r.number state.joiners in
    reached_tabled state rs js state.next marked old (record {
      keys = all_left (λ x. is_own_key state x.key) r.key state.reservations old.keys;
      few_reservations = let few = old.few_reservations in omega arith;
      few_joiners = let few = old.few_joiners in omega arith;
      places = let room = old.places in omega arith;
      numbered = numbered-left state.next state.reservations r.key old.numbered;
      asks = ask_left state.config state.cache r.key state.reservations old.asks;
      ends = all_left (may_end state.history) r.key state.reservations old.ends;
      beside = beside_left r.key state.reservations old.beside;
      joins = join-dissolved state new r.number state.joiners (same_history state.history)
          (λ j w n f. finds_on state new j refl (λ q e. refl) (still_there state.next state.reservations r j old.numbered found f.load w n) f) old.joins;
      shares = share-dissolved state.history r.number state.joiners old.shares;
      apart = sym (apart-alike state.joiners js calls) ∙ old.apart;
      between = between-alike rs state.joiners js calls (between_left r.key state.reservations state.joiners old.between);
      marks = marks_left r.key state.reservations state.marked old.marks;
    })

pub reached_withdrawn : (old new : State) (r : Reservation) → IsReached old → Withdraws old r new → IsReached new
reached_withdrawn old new r reached w = subst IsReached (sym w.1) (reached_dissolved old r reached w.0)

-- 6. A joiner less.

pub reached_left : (state : State) (join : JoinClaim) → IsReached state → IsReached (without_joiner state join)
reached_left state join old =
    let stays : Joiner → Bool = λ j. not (belongs_to join.caller join.key j) in
    let js : List Joiner = filter stays state.joiners in
    let new : State = tabled state state.reservations js state.next state.marked in
    let fewer : length js ≤ length state.joiners = omega (arith, length-filter stays state.joiners, count_by-le-length stays state.joiners) in
    let less : count_by waits js ≤ count_by waits state.joiners = count_kept waits stays state.joiners in
    reached_tabled state state.reservations js state.next state.marked old (record {
      keys = old.keys;
      few_reservations = old.few_reservations;
      few_joiners = let few = old.few_joiners in omega arith;
      places = let room = old.places in omega arith;
      numbered = old.numbered;
      asks = old.asks;
      ends = old.ends;
      beside = old.beside;
      joins = join_kept new stays state.joiners (join_on state new [] state.joiners (same_history state.history) (λ i w f. finds_on state new i refl (λ q e. refl) (λ x h. h) f) old.joins);
      shares = all_filter (may_share state.history) stays state.joiners old.shares;
      apart = apart_kept stays state.joiners old.apart;
      between = between_kept state.reservations stays state.joiners old.between;
      marks = old.marks;
    })

pub reached_picked : (old new : State) (join : JoinClaim) (p : Polled) → IsReached old → PicksUp old join p new → IsReached new
reached_picked old new join (polled.Answer reply place shared) reached h = subst IsReached (sym h.3) (reached_left old join reached)
reached_picked old new join polled.Again reached h = subst IsReached (sym h.2) (reached_left old join reached)
reached_picked old new join (polled.NotYet back) reached h = subst IsReached (sym h.3) reached

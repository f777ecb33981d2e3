-- What is known at a commit of the reservation, of the callers that share its load, and of the others.
--     Shares, shares_with          what a caller that shares the load tells
--     keyed_callers                those that wait for the load wait at its key
--     callers_behind, apart_callers, callers_apart, callers_beside, callers_left     the callers and all else
--     may_commit                   the step may be appended
--     SharedAt                     each caller's step stands at its place
--     joins_settled, joins_same    the joiners behind a commit, and behind a step that is done at once
use Rattle.std.proofs.Common.{◌≡◌, ◌==◌, ◌≤◌, ◌+◌, ◌&&◌, ◌||◌, ℕ, List, [], ◌∷◌, ◌++◌, length, map, Bool, true, false, cond, not, Option, None, Some, find, filter, refl, sym, ap, ◌∙◌, subst, arith, slice_get}
use Rattle.std.proofs.lemmas.Bool.{eqb-true, and_parts, and_from, or_right}
use Rattle.std.proofs.lemmas.Cmp.{nat_list_eq_equiv}
use Rattle.std.specs.List.{list_any, list_all, count_by}
use Rattle.std.specs.Cmp.Lexicographic.{pointwise, same_text}
use Rattle.jc_types.proofs.CallerLemmas.{all_imply, all_found}
use Rattle.jc_types.specs.declared.config.Config.{Config}
use Rattle.jc_model.specs.declared.event.Event.{Event}
use Rattle.jc_model.specs.declared.event.Event.TheVariants.{Step}
use Rattle.jc_model.specs.declared.event.Op.{Op}
use Rattle.jc_model.specs.declared.event.Op.TheVariants.{Get, LoadAll, Invoke}
use Rattle.jc_model.specs.declared.event.Out.{Out}
use Rattle.jc_model.specs.declared.event.Reply.{Reply}
use Rattle.jc_model.specs.Cache.{Bytes, entry_at}
use Rattle.jc_model.specs.Lawful.{loads_whole}
use Rattle.jc_model.specs.Table.{write_ask}
use Rattle.jc_model.specs.declared.event.ProcessAnswer.TheVariants as process
use Rattle.jc_model.specs.Legal.{may_come}
use Rattle.jc_inflight.specs.declared.joiner.Joiner.{Joiner}
use Rattle.jc_inflight.specs.declared.joiner.JoinState.{JoinState}
use Rattle.jc_inflight.specs.declared.joiner.JoinState.TheVariants.{Waiting, Answered, Again}
use Rattle.jc_inflight.specs.Joining.{is_waiting, waits_for, callers_of, waits}
use Rattle.jc_inflight.specs.Resolving.{with_answer, answered_from, after_resolve}
use Rattle.jc_inflight.proofs.CallerLemmas.{calls-answered_from, count-cons}
use Rattle.jc_stripe.specs.declared.ticket.First.TheVariants.{Loader}
use Rattle.jc_stripe.specs.State.{State, is_key, is_of, IsOut, without_key, without_mark}
use Rattle.jc_stripe.specs.Refusals.{first_asked}
use Rattle.jc_stripe.specs.Phases.{MayBegin, after_commit, is_other_call, is_other_join}
use Rattle.jc_stripe.specs.Reached.{IsReached, AreReserved, AreNumbered, AllAsk, FindsLoad, JoinFits, AllJoin, may_end, may_share, are_beside, are_apart, all_apart}
use Rattle.jc_stripe.proofs.Numbering.{one_number, key_found, numbered-left}
use Rattle.jc_stripe.proofs.MarkedKeys.{marks_left}
use Rattle.jc_stripe.proofs.Beside.{all_both, beside_turned, all_left, beside_left, ask_left, ask_found, one_less, apart_turned, between_left, between_first, between_others, one_apart-alike, apart-alike, between-alike, length-alike}
use Rattle.jc_stripe.proofs.Joining.{loaded_at, fits_on, join_on, finds_on, still_there}
use Rattle.jc_types.specs.declared.caller.Caller.{Caller}
use Rattle.jc_stripe.specs.declared.ticket.Reservation.{Reservation}
use Rattle.jc_stripe.proofs.Fitting.{not_loader}

-- 1. Who shares the load.

-- what a caller that shares the load of a claim tells of it
pub record Shares (old : State) (r : Reservation) : Type 0 where
  pub read_through : old.config.read_through ≡ true
  pub missing : entry_at old.cache r.key ≡ None
  pub first : r.first ≡ Loader
  pub whole : loads_whole r.op ≡ true

-- the operations that ask the loader first load a key whole
pub loads_asked : (config : Config) (op : Op) (entry : Option Bytes) → first_asked config op entry ≡ Loader → loads_whole op ≡ true
loads_asked config Get entry h = refl
loads_asked config (LoadAll replace) entry h = refl
loads_asked config Invoke entry h = cc
loads_asked config op entry h = not_loader config.write_through (write_ask op entry process.NotAsked) h _

pub whole_load : (old : State) (r : Reservation) → IsReached old → IsOut old r → r.first ≡ Loader → loads_whole r.op ≡ true
whole_load old r reached found first =
    loads_asked old.config r.op (entry_at old.cache r.key) (ask_found old.config old.cache (is_key r.key) old.reservations r found reached.asks ∙ first)

pub waiting_finds : (state : State) (j : Joiner) (s : JoinState) → is_waiting s ≡ true → JoinFits state j s → FindsLoad state j
waiting_finds state j Waiting w fits = fits
waiting_finds state j (Answered place shared) w fits = cc
waiting_finds state j Again w fits = cc

-- a joiner that waits for a claim's number waits at its key
one_shares : (old : State) (r : Reservation) (j : Joiner) → IsReached old → IsOut old r → waits_for r.number j ≡ true → JoinFits old j j.state → (j.key ≡ r.key) × Shares old r
one_shares old r j reached found w fits =
    let parts = and_parts (j.load == r.number) (is_waiting j.state) w in
    let finds = waiting_finds old j j.state parts.1 fits in
    let out = loaded_at (find (is_key j.key) old.reservations) j.load finds.load in
    let s : Reservation = out.0 in
    let same : s ≡ r = one_number old.next old.reservations j.key r.key s r reached.numbered out.1 found (out.3 ∙ eqb-true j.load r.number parts.0) in
    let key : j.key ≡ r.key = key_found j.key old.reservations s out.1 ∙ ap (λ (x : Reservation). x.key) same in
    let first : r.first ≡ Loader = ap (λ (x : Reservation). x.first) (sym same) ∙ out.2 in (
      key,
      record {
        read_through = finds.read_through;
        missing = ap (entry_at old.cache) (sym key) ∙ finds.missing;
        first = first;
        whole = whole_load old r reached found first;
      },
    )

-- where anybody waits for the load, its key is missing, read-through is on, and the loader was asked for the key whole
pub shares_with : (old : State) (r : Reservation) (c : Caller) (cs : List Caller) → IsReached old → IsOut old r → callers_of r.number old.joiners ≡ c ∷ cs → Shares old r
shares_with old r c cs reached found some = go old.joiners reached.joins some
  where
    go : (js : List Joiner) → AllJoin old js → callers_of r.number js ≡ c ∷ cs → Shares old r
    go [] all some = cc
    go (j ∷ js) all some =
        elim (waits_for r.number j) as (λ b. waits_for r.number j ≡ b → map (λ x. x.caller) (cond b (j ∷ filter (waits_for r.number) js) (filter (waits_for r.number) js)) ≡ c ∷ cs → Shares old r) [
          | true ↦ λ w h. (one_shares old r j reached found w all.0).1
          | false ↦ λ w h. go js all.1 h
        ] refl some

texts_same : (x y : Bytes) → x ≡ y → pointwise ◌==◌ x y ≡ true
texts_same x y e = ap (pointwise ◌==◌ x) (sym e) ∙ nat_list_eq_equiv.refl x

-- those that wait for the load wait at this key
abbrev pub keyed : ℕ → Bytes → List Joiner → Bool
keyed load key js = list_all (λ j. not (waits_for load j) || pointwise ◌==◌ j.key key) js

pub keyed_callers : (old : State) (r : Reservation) → IsReached old → IsOut old r → keyed r.number r.key old.joiners ≡ true
keyed_callers old r reached found = go old.joiners reached.joins
  where
    go : (js : List Joiner) → AllJoin old js → keyed r.number r.key js ≡ true
    go [] all = refl
    go (j ∷ js) all =
        and_from _ _
        (elim (waits_for r.number j) as (λ b. waits_for r.number j ≡ b → (not b || pointwise ◌==◌ j.key r.key) ≡ true) [
          | true ↦ λ w. texts_same j.key r.key (one_shares old r j reached found w all.0).0
          | false ↦ λ w. refl
        ] refl)
        (go js all.1)

-- 2. The callers.

-- what follows of each caller from a test that its joiner passes
pub callers_then : (load : ℕ) (key : Bytes) (p : Joiner → Bool) (q : Caller → Bool) (js : List Joiner) → ((j : Joiner) → waits_for load j ≡ true → j.key ≡ key → p j ≡ true → q j.caller ≡ true)
    → keyed load key js ≡ true → list_all p js ≡ true → list_all q (callers_of load js) ≡ true
callers_then load key p q [] f k h = refl
callers_then load key p q (j ∷ js) f k h =
    let keys = and_parts (not (waits_for load j) || pointwise ◌==◌ j.key key) (keyed load key js) k in
    let parts = and_parts (p j) (list_all p js) h in
    let rest : list_all q (callers_of load js) ≡ true = callers_then load key p q js f keys.1 parts.1 in
    elim (waits_for load j) as (λ b. waits_for load j ≡ b → (not b || pointwise ◌==◌ j.key key) ≡ true → list_all q (map (λ x. x.caller) (cond b (j ∷ filter (waits_for load) js) (filter (waits_for load) js))) ≡ true) [
      | true ↦ λ w e. and_from _ _ (f j w (same_text j.key key (sym e)) parts.0) rest
      | false ↦ λ w e. rest
    ] refl keys.0

pub if_so : (b c : Bool) → b ≡ true → (not b || c) ≡ true → c ≡ true
if_so true c w h = h
if_so false c w h = cc

-- each caller's step may come behind the events
pub callers_behind : (old : State) (r : Reservation) → IsReached old → IsOut old r → list_all (λ (c : Caller). list_all (λ e. may_come e c r.key) old.history) (callers_of r.number old.joiners) ≡ true
callers_behind old r reached found =
    callers_then r.number r.key (may_share old.history) (λ c. list_all (λ e. may_come e c r.key) old.history) old.joiners
    (λ j w k h. ap (λ q. list_all (λ e. may_come e j.caller q) old.history) (sym k) ∙ if_so (waits j) _ (and_parts (j.load == r.number) (is_waiting j.state) w).1 h)
    (keyed_callers old r reached found) reached.shares

other_session : (a b k : Bool) → k ≡ true → (a || (b && not k)) ≡ true → a ≡ true
other_session true b k e h = refl
other_session false true true e h = h
other_session false true false e h = cc
other_session false false k e h = cc

-- callers at one key that are apart from a call there are of other sessions
sessions_apart : (load : ℕ) (caller : Caller) (key : Bytes) (js : List Joiner) → keyed load key js ≡ true → list_all (is_other_join caller key) js ≡ true → list_all (λ (c : Caller). not (c.session == caller.session)) (callers_of load js) ≡ true
sessions_apart load caller key js k h =
    callers_then load key (is_other_join caller key) (λ c. not (c.session == caller.session)) js
    (λ j w e h. other_session (not (j.caller.session == caller.session)) (j.caller.call == caller.call) (pointwise ◌==◌ j.key key) (texts_same j.key key e) h) k h

-- no two of the callers are of one session
abbrev pub apart_callers : List Caller → Bool
apart_callers [] = true
apart_callers (c ∷ cs) = list_all (λ (d : Caller). not (d.session == c.session)) cs && apart_callers cs

pub callers_apart : (old : State) (r : Reservation) → IsReached old → IsOut old r → apart_callers (callers_of r.number old.joiners) ≡ true
callers_apart old r reached found = go old.joiners (keyed_callers old r reached found) reached.apart
  where
    go : (js : List Joiner) → keyed r.number r.key js ≡ true → are_apart js ≡ true → apart_callers (callers_of r.number js) ≡ true
    go [] k h = refl
    go (j ∷ js) k h =
        let keys = and_parts (not (waits_for r.number j) || pointwise ◌==◌ j.key r.key) (keyed r.number r.key js) k in
        let parts = and_parts (list_all (is_other_join j.caller j.key) js) (are_apart js) h in
        let rest : apart_callers (callers_of r.number js) ≡ true = go js keys.1 parts.1 in
        elim (waits_for r.number j) as (λ b. (not b || pointwise ◌==◌ j.key r.key) ≡ true → apart_callers (map (λ x. x.caller) (cond b (j ∷ filter (waits_for r.number) js) (filter (waits_for r.number) js))) ≡ true) [
          | true ↦ λ e.
              let key : j.key ≡ r.key = same_text j.key r.key (sym e) in
              and_from _ _ (sessions_apart r.number j.caller r.key js keys.1 (ap (λ q. list_all (is_other_join j.caller q) js) (sym key) ∙ parts.0)) rest
          | false ↦ λ e. rest
        ] keys.0

-- the joiners are apart from what is claimed
claim_apart : (old : State) (r : Reservation) → IsReached old → IsOut old r → list_all (is_other_join r.caller r.key) old.joiners ≡ true
claim_apart old r reached found =
    all_found (is_key r.key) (λ x. list_all (is_other_join x.caller x.key) old.joiners) old.reservations r found reached.between

-- no caller is of the session that reserved the key
pub callers_other : (old : State) (r : Reservation) → IsReached old → IsOut old r → list_all (λ (c : Caller). not (c.session == r.caller.session)) (callers_of r.number old.joiners) ≡ true
callers_other old r reached found = sessions_apart r.number r.caller r.key old.joiners (keyed_callers old r reached found) (claim_apart old r reached found)

-- 3. The other reservations.

beside_all : (rs : List Reservation) (js : List Joiner) → all_apart rs js ≡ true → list_all (λ j. list_all (is_other_call j.caller j.key) rs) js ≡ true
beside_all rs [] h = refl
beside_all rs (j ∷ js) h = and_from _ _ (between_first rs j js h) (beside_all rs js (between_others rs j js h))

-- each caller stands beside the other reservations
pub callers_beside : (old : State) (r : Reservation) → IsReached old → IsOut old r → list_all (λ (c : Caller). list_all (is_other_call c r.key) (without_key r.key old.reservations)) (callers_of r.number old.joiners) ≡ true
callers_beside old r reached found =
    let rs : List Reservation = without_key r.key old.reservations in
    callers_then r.number r.key (λ j. list_all (is_other_call j.caller j.key) rs) (λ c. list_all (is_other_call c r.key) rs) old.joiners
    (λ j w k h. ap (λ q. list_all (is_other_call j.caller q) rs) (sym k) ∙ h)
    (keyed_callers old r reached found) (beside_all rs old.joiners (between_left r.key old.reservations old.joiners reached.between))

-- the others stand beside one that is found
pub beside_found : (rs : List Reservation) (key : Bytes) (r : Reservation) → find (is_key key) rs ≡ Some r → are_beside rs ≡ true → list_all (is_other_call r.caller r.key) (without_key key rs) ≡ true
beside_found [] key r h all = cc
beside_found (x ∷ xs) key r h all =
    let parts = and_parts (list_all (is_other_call x.caller x.key) xs) (are_beside xs) all in
    elim (is_key key x) as (λ b. cond b (Some x) (find (is_key key) xs) ≡ Some r → list_all (is_other_call r.caller r.key) (cond (not b) (x ∷ without_key key xs) (without_key key xs)) ≡ true) [
      | true ↦ λ h.
          let is : x ≡ r = cc in
          let P : Reservation → Type 0 = λ y. list_all (is_other_call y.caller y.key) (without_key key xs) ≡ true in subst P is (all_left (is_other_call x.caller x.key) key xs parts.0)
      | false ↦ λ h.
          and_from _ _ (beside_turned r x ∙ all_found (is_key key) (is_other_call x.caller x.key) xs r h parts.0) (beside_found xs key r h parts.1)
    ] h

pub one_less_claimed : (old : State) (r : Reservation) → IsOut old r → length (without_key r.key old.reservations) + 1 ≤ length old.reservations
one_less_claimed old r found = one_less r.key (is_key r.key) old.reservations r (λ x e. e) found

-- 4. The joiners that are left.

-- those that are left are apart from what was claimed
pub claim_left : (old : State) (r : Reservation) (place : ℕ) → IsReached old → IsOut old r → list_all (is_other_join r.caller r.key) (after_resolve r.number place old.joiners) ≡ true
claim_left old r place reached found =
    sym (one_apart-alike r.caller r.key old.joiners (after_resolve r.number place old.joiners) (sym (calls-answered_from r.number place (place + 1) old.joiners)))
    ∙ claim_apart old r reached found

abbrev pub if_left : Caller → Bytes → Joiner → Bool
if_left caller key j = not (waits j) || is_other_join caller key j

pub claim_left_waiting : (old : State) (r : Reservation) (place : ℕ) → IsReached old → IsOut old r → list_all (if_left r.caller r.key) (after_resolve r.number place old.joiners) ≡ true
claim_left_waiting old r place reached found =
    all_imply (is_other_join r.caller r.key) (if_left r.caller r.key) (after_resolve r.number place old.joiners) (λ j h. or_right (not (waits j)) _ h) (claim_left old r place reached found)

-- those that still wait are apart from each caller
waiting_left : (load step place : ℕ) (key : Bytes) (js : List Joiner) → keyed load key js ≡ true → are_apart js ≡ true
    → list_all (λ (c : Caller). list_all (if_left c key) (answered_from load step place js)) (callers_of load js) ≡ true
waiting_left load step place key [] k h = refl
waiting_left load step place key (j ∷ js) k h =
    let keys = and_parts (not (waits_for load j) || pointwise ◌==◌ j.key key) (keyed load key js) k in
    let parts = and_parts (list_all (is_other_join j.caller j.key) js) (are_apart js) h in
    elim (waits_for load j) as (λ b. (not b || pointwise ◌==◌ j.key key) ≡ true
    → list_all (λ (c : Caller). list_all (if_left c key) (cond b (with_answer place step j ∷ answered_from load step (place + 1) js) (j ∷ answered_from load step place js))) (map (λ x. x.caller) (cond b (j ∷ filter (waits_for load) js) (filter (waits_for load) js))) ≡ true) [
      | true ↦ λ e.
          let same : j.key ≡ key = same_text j.key key (sym e) in
          let after : List Joiner = answered_from load step (place + 1) js in
          let first : list_all (if_left j.caller key) after ≡ true =
          all_imply (is_other_join j.caller key) (if_left j.caller key) after (λ x h. or_right (not (waits x)) _ h)
          (sym (one_apart-alike j.caller key js after (sym (calls-answered_from load step (place + 1) js))) ∙ ap (λ q. list_all (is_other_join j.caller q) js) (sym same) ∙ parts.0)
          in
          and_from _ _ first (waiting_left load step (place + 1) key js keys.1 parts.1)
      | false ↦ λ e.
          all_both (λ (c : Caller). if_left c key j) (λ (c : Caller). list_all (if_left c key) (answered_from load step place js)) (callers_of load js)
          (callers_then load key (is_other_join j.caller j.key) (λ c. if_left c key j) js
          (λ x w q h. or_right (not (waits j)) _ (ap (λ k. is_other_join x.caller k j) (sym q) ∙ sym (apart_turned j x) ∙ h)) keys.1 parts.0)
          (waiting_left load step place key js keys.1 parts.1)
    ] keys.0

pub callers_left : (old : State) (r : Reservation) (place : ℕ) → IsReached old → IsOut old r
    → list_all (λ (c : Caller). list_all (if_left c r.key) (after_resolve r.number place old.joiners)) (callers_of r.number old.joiners) ≡ true
callers_left old r place reached found = waiting_left r.number place (place + 1) r.key old.joiners (keyed_callers old r reached found) reached.apart

-- what still waits may still share behind the same events
pub share-answered : (history : List Event) (load step place : ℕ) (js : List Joiner) → list_all (may_share history) js ≡ true → list_all (may_share history) (answered_from load step place js) ≡ true
share-answered history load step place [] h = refl
share-answered history load step place (j ∷ js) h =
    let parts = and_parts (may_share history j) (list_all (may_share history) js) h in
    elim (waits_for load j) as (λ b. list_all (may_share history) (cond b (with_answer place step j ∷ answered_from load step (place + 1) js) (j ∷ answered_from load step place js)) ≡ true) [
      | true ↦ share-answered history load step (place + 1) js parts.1
      | false ↦ and_from _ _ parts.0 (share-answered history load step place js parts.1)
    ]

pub shares_left : (old : State) (load place : ℕ) → IsReached old → list_all (may_share old.history) (after_resolve load place old.joiners) ≡ true
shares_left old load place reached = share-answered old.history load place (place + 1) old.joiners reached.shares

-- each caller has waited, and waits no more
pub count-answered : (load step place : ℕ) (js : List Joiner) → count_by waits (answered_from load step place js) + length (callers_of load js) ≡ count_by waits js
count-answered load step place [] = refl
count-answered load step place (j ∷ js) =
    let call : Joiner → Caller = λ x. x.caller in
    elim (waits_for load j) as (λ b. waits_for load j ≡ b
    → count_by waits (cond b (with_answer place step j ∷ answered_from load step (place + 1) js) (j ∷ answered_from load step place js)) + length (map call (cond b (j ∷ filter (waits_for load) js) (filter (waits_for load) js))) ≡ count_by waits (j ∷ js)) [
      | true ↦ λ w.
          let one : cond {A = ℕ} (waits j) 1 0 ≡ 1 = ap (λ b. cond {A = ℕ} b 1 0) (and_parts (j.load == load) (is_waiting j.state) w).1 in
          omega (arith, count-cons waits j js, count-cons waits (with_answer place step j) (answered_from load step (place + 1) js), count-answered load step (place + 1) js)
      | false ↦ λ w. omega (arith, count-cons waits j js, count-cons waits j (answered_from load step place js), count-answered load step place js)
    ] refl

pub count_left : (load place : ℕ) (js : List Joiner) → count_by waits (after_resolve load place js) + length (callers_of load js) ≡ count_by waits js
count_left load place js = count-answered load place (place + 1) js

pub length_left : (load place : ℕ) (js : List Joiner) → length (after_resolve load place js) ≡ length js
length_left load place js = length-alike (after_resolve load place js) js (calls-answered_from load place (place + 1) js)

pub apart_left : (load place : ℕ) (js : List Joiner) → are_apart js ≡ true → are_apart (after_resolve load place js) ≡ true
apart_left load place js h = apart-alike (after_resolve load place js) js (calls-answered_from load place (place + 1) js) ∙ h

pub between_resolved : (key : Bytes) (load place : ℕ) (rs : List Reservation) (js : List Joiner) → all_apart rs js ≡ true → all_apart (without_key key rs) (after_resolve load place js) ≡ true
between_resolved key load place rs js h = between-alike (without_key key rs) js (after_resolve load place js) (sym (calls-answered_from load place (place + 1) js)) (between_left key rs js h)

-- 5. What a commit appends may be appended, once its reservation is released and its joiners are answered.

pub may_commit : (old : State) (r : Reservation) (place : ℕ) → IsReached old → IsOut old r → MayBegin (after_commit old r place) r.caller r.key
may_commit old r place reached found =
    record {
      of_stripe = all_found (is_key r.key) (λ x. is_of old x.key) old.reservations r found reached.keys;
      behind = all_found (is_key r.key) (may_end old.history) old.reservations r found reached.ends;
      beside = beside_found old.reservations r.key r found reached.beside;
      apart = claim_left old r place reached found;
    }

-- what is out asks what it asked
pub claim_asks : (old : State) (r : Reservation) → IsReached old → IsOut old r → first_asked old.config r.op (entry_at old.cache r.key) ≡ r.first
claim_asks old r reached found = ask_found old.config old.cache (is_key r.key) old.reservations r found reached.asks

-- the tables that a commit leaves
pub record Remains (old : State) (key : Bytes) (rs : List Reservation) (js : List Joiner) : Type 0 where
  pub keys : list_all (λ x. is_of old x.key) rs ≡ true
  pub numbered : AreNumbered old.next rs
  pub asks : AllAsk old.config old.cache rs
  pub ends : list_all (may_end old.history) rs ≡ true
  pub beside : are_beside rs ≡ true
  pub shares : list_all (may_share old.history) js ≡ true
  pub apart : are_apart js ≡ true
  pub between : all_apart rs js ≡ true
  pub marks : AreReserved rs (without_mark key old.marked)

pub remains_settled : (old : State) (r : Reservation) (place : ℕ) → IsReached old → Remains old r.key (without_key r.key old.reservations) (after_resolve r.number place old.joiners)
remains_settled old r place reached = record {
  keys = all_left (λ x. is_of old x.key) r.key old.reservations reached.keys;
  numbered = numbered-left old.next old.reservations r.key reached.numbered;
  asks = ask_left old.config old.cache r.key old.reservations reached.asks;
  ends = all_left (may_end old.history) r.key old.reservations reached.ends;
  beside = beside_left r.key old.reservations reached.beside;
  shares = shares_left old r.number place reached;
  apart = apart_left r.number place old.joiners reached.apart;
  between = between_resolved r.key r.number place old.reservations old.joiners reached.between;
  marks = marks_left r.key old.reservations old.marked reached.marks;
}

-- 6. The joiners behind a commit.

-- from a place on, the steps of the callers are in a history
abbrev pub SharedAt : List Event → ℕ → Bytes → ℕ → List Caller → Type 0
SharedAt history shared key place [] = Unit {0}
SharedAt history shared key place (c ∷ cs) = ((out : Out) × (reply : Reply) × (slice_get history place ≡ Some (Step c Get key out (Some shared) reply))) × SharedAt history shared key (place + 1) cs

join-answered : (old new : State) (more : List Event) (load step place : ℕ) (key : Bytes) (js : List Joiner) → new.history ≡ old.history ++ more
    → ((j : Joiner) → waits j ≡ true → waits_for load j ≡ false → FindsLoad old j → FindsLoad new j) → keyed load key js ≡ true → SharedAt new.history step key place (callers_of load js) → AllJoin old js
    → AllJoin new (answered_from load step place js)
join-answered old new more load step place key [] grows finds k shared all = tt
join-answered old new more load step place key (j ∷ js) grows finds k shared all =
    let keys = and_parts (not (waits_for load j) || pointwise ◌==◌ j.key key) (keyed load key js) k in
    elim (waits_for load j) as (λ b. waits_for load j ≡ b → (not b || pointwise ◌==◌ j.key key) ≡ true
    → SharedAt new.history step key place (map (λ x. x.caller) (cond b (j ∷ filter (waits_for load) js) (filter (waits_for load) js)))
    → AllJoin new (cond b (with_answer place step j ∷ answered_from load step (place + 1) js) (j ∷ answered_from load step place js))) [
      | true ↦ λ w e s.
          let same : key ≡ j.key = sym (same_text j.key key (sym e)) in
          let here = s.0 in
          ((here.0, here.1, here.2 ∙ ap (λ q. Some (Step j.caller Get q here.0 (Some step) here.1)) same), join-answered old new more load step (place + 1) key js grows finds keys.1 s.1 all.1)
      | false ↦ λ w e s. (fits_on old new more j j.state grows (λ v f. finds j v w f) all.0, join-answered old new more load step place key js grows finds keys.1 s all.1)
    ] refl keys.0 shared

pub joins_settled : (old new : State) (r : Reservation) (place : ℕ) (more : List Event) → IsReached old → IsOut old r
    → new.config ≡ old.config → new.reservations ≡ without_key r.key old.reservations → new.history ≡ old.history ++ more
    → ((q : Bytes) → list_any (is_key q) (without_key r.key old.reservations) ≡ true → entry_at new.cache q ≡ entry_at old.cache q)
    → SharedAt new.history place r.key (place + 1) (callers_of r.number old.joiners) → AllJoin new (after_resolve r.number place old.joiners)
joins_settled old new r place more reached found config left grows same shared =
    join-answered old new more r.number place (place + 1) r.key old.joiners grows
    (λ j w n f. finds_on old new j config (λ q e. same q (ap (list_any (is_key q)) (sym left) ∙ e))
    (λ s h. ap (find (is_key j.key)) left ∙ still_there old.next old.reservations r j reached.numbered found f.load w n s h) f)
    (keyed_callers old r reached found) shared reached.joins

-- the joiners behind a step that is done at once
pub joins_same : (old new : State) (more : List Event) → IsReached old → new.config ≡ old.config → new.reservations ≡ old.reservations → new.history ≡ old.history ++ more
    → ((q : Bytes) → list_any (is_key q) old.reservations ≡ true → entry_at new.cache q ≡ entry_at old.cache q) → AllJoin new old.joiners
joins_same old new more reached config stay grows same =
    join_on old new more old.joiners grows
    (λ j w f. finds_on old new j config (λ q e. same q (ap (list_any (is_key q)) (sym stay) ∙ e)) (λ s h. ap (find (is_key j.key)) stay ∙ h) f)
    reached.joins

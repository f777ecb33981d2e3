-- What one phase of a session leaves alone: other sessions' reservations and joins, and the entries of keys that stay reserved; and
-- what it does to the session's own steps.
--     uniform_own, uniform_reservations, uniform_joins, uniform_entries     these clauses of the law of one phase
use Rattle.std.proofs.Common.{◌≡◌, ◌==◌, ◌&&◌, ◌||◌, ◌+◌, ◌⊎◌, ⊎_elim, inl, inr, ℕ, List, [], ◌∷◌, ◌++◌, map, filter, Bool, true, false, cond, not, Some, find, refl, sym, ap, ◌∙◌, subst, append-nil}
use Rattle.std.proofs.lemmas.Bool.{eqb-true}
use Rattle.std.proofs.lemmas.List.Elements.{All-head, All-tail}
use Rattle.std.specs.List.{list_all, AllPairs, All}
use Rattle.std.specs.Cmp.Lexicographic.{same_text}
use Rattle.std.proofs.lemmas.Cmp.{nat_eq_equiv}
use Rattle.jc_types.specs.declared.caller.Caller.{Caller}
use Rattle.jc_model.specs.declared.event.Event.{Event}
use Rattle.jc_model.specs.declared.event.Event.TheVariants.{Step}
use Rattle.jc_model.specs.declared.event.Op.{Op}
use Rattle.jc_model.specs.declared.event.Op.TheVariants.{Get}
use Rattle.jc_model.specs.Cache.{Bytes, entry_at}
use Rattle.jc_inflight.specs.declared.joiner.Joiner.{Joiner}
use Rattle.jc_inflight.specs.Joining.{belongs_to, waits_for}
use Rattle.jc_inflight.specs.Joining as joining
use Rattle.jc_inflight.specs.Resolving.{with_answer, answered_from}
use Rattle.jc_inflight.specs.Dissolving.{after_dissolve}
use Rattle.jc_inflight.specs.declared.joiner.JoinState.TheVariants.{Again}
use Rattle.jc_inflight.specs.Taking as taking
use Rattle.jc_stripe.specs.declared.ticket.Reservation.{Reservation}
use Rattle.jc_stripe.specs.Outcomes.{Begun}
use Rattle.jc_stripe.specs.Polled.{Polled}
use Rattle.jc_stripe.specs.Outcomes as begun
use Rattle.jc_stripe.specs.Polled as polled
use Rattle.jc_stripe.specs.Tickets.{TicketClaim, JoinClaim}
use Rattle.jc_stripe.specs.State.{State, is_key, is_reserved, without_key}
use Rattle.jc_stripe.specs.Phases.{MayBegin, Begins, PicksUp}
use Rattle.jc_stripe.specs.Reached.{IsReached}
use Rattle.jc_stripe.specs.Laws.{KeepsReserved}
use Rattle.jc_stripe.specs.OnePhase.{FirstPhase, PickUp, own_steps, GainsOwn, is_of_others, join_claim}
use Rattle.jc_stripe.specs.OwnSteps.{AddsOwn, OwnSteps}
use Rattle.jc_stripe.proofs.Numbering.{later_pairs, first_pairs}
use Rattle.jc_stripe.proofs.Core.{Committed, Withdrawn, IsCore}
use Rattle.jc_stripe.proofs.ParkedSteps.{joiners_call, filter-append}

-- 1. Own steps.

abbrev Own : ℕ → State → State → Type 0
Own session old new = (own_steps session new ≡ own_steps session old) ⊎ ((event : Event) × (place : ℕ) × GainsOwn session old new event place)

gains : (session : ℕ) (old new : State) (event : Event) (place : ℕ) → AddsOwn session old new event place → Own session old new
gains session old new event place a = inr (event, place, record { there = a.there; before = own_steps session old; after = []; was = sym (append-nil (own_steps session old)); own = a.own })

own_begun : OwnSteps → (old new : State) (caller : Caller) (key : Bytes) (op : Op) (b : Begun) → MayBegin old caller key → Begins old caller key op b new → Own caller.session old new
own_begun law old new caller key op (begun.Done done) may h = gains caller.session old new _ _ (law.done old new caller key op done may h)
own_begun law old new caller key op (begun.Asks ticket) may h = inl (law.reserves old new caller key op ticket h)
own_begun law old new caller key op (begun.Joined join) may h = inl (law.joins old new caller key op join h)
own_begun law old new caller key op (begun.Refused refusal) may h = inl (law.refused old new caller key op refusal h)

own_picked : OwnSteps → (old new : State) (join : JoinClaim) (p : Polled) → IsReached old → PicksUp old join p new → Own join.caller.session old new
own_picked law old new join (polled.Answer reply place shared) reached h = let g = law.picks_up old new join reply place shared reached h in inr (Step join.caller Get join.key g.0 (Some shared) reply, place, g.1)
own_picked law old new join polled.Again reached h = inl (law.again old new join reached h)
own_picked law old new join (polled.NotYet back) reached h = inl (law.not_yet old new join back h)

pub uniform_own : OwnSteps → (session : ℕ) (old new : State) → IsReached old → IsCore session old new → Own session old new
uniform_own law session old new reached phase =
    let P : ℕ → Type 0 = λ s. Own s old new in
    ⊎_elim (λ same. inl (ap (λ (s : State). own_steps session s) same))
    (λ rest. ⊎_elim (λ (b : FirstPhase session old new). subst P b.own (own_begun law old new b.caller b.key b.op b.begun b.may b.begins))
    (λ rest. ⊎_elim (λ (b : Committed session old new). subst P b.own (gains b.reservation.caller.session old new _ _ (law.commits old new b.reservation b.out b.done reached b.commits)))
    (λ rest. ⊎_elim (λ (b : Withdrawn session old new). inl (law.withdraws old new session b.reservation b.withdraws))
    (λ (b : PickUp session old new). subst P b.own (own_picked law old new b.join b.picked reached b.picks_up)) rest) rest) rest) phase

-- 2. Other sessions' reservations.

abbrev others_held : ℕ → List Reservation → List Reservation
others_held session rs = filter (λ r. is_of_others session r.caller) rs

mine_not : (session s : ℕ) → s ≡ session → not (s == session) ≡ false
mine_not session s is = ap not (ap (λ n. n == session) is ∙ nat_eq_equiv.refl session)

held_pushed : (session : ℕ) (rs : List Reservation) (r : Reservation) → r.caller.session ≡ session → others_held session (rs ++ r ∷ []) ≡ others_held session rs
held_pushed session rs r is =
    filter-append (λ (x : Reservation). is_of_others session x.caller) rs (r ∷ [])
    ∙ ap (λ b. others_held session rs ++ cond b (r ∷ []) []) (mine_not session r.caller.session is) ∙ append-nil (others_held session rs)

-- of the reservations without a key, only that of the key is gone
held_without : (session : ℕ) (key : Bytes) (rs : List Reservation) → list_all (λ r. not (is_key key r) || not (is_of_others session r.caller)) rs ≡ true → others_held session (without_key key rs) ≡ others_held session rs
held_without session key [] h = refl
held_without session key (r ∷ rs) h =
    elim (is_key key r) as (λ b. ((not b || not (is_of_others session r.caller)) && list_all (λ r. not (is_key key r) || not (is_of_others session r.caller)) rs) ≡ true
    → others_held session (cond (not b) (r ∷ without_key key rs) (without_key key rs)) ≡ others_held session (r ∷ rs)) [
      | true ↦ λ h.
          let parts = split (not (is_of_others session r.caller)) _ h in
          held_without session key rs parts.1 ∙ ap (λ b. cond b (r ∷ others_held session rs) (others_held session rs)) (sym (turned (is_of_others session r.caller) parts.0))
      | false ↦ λ h. ap (λ rest. cond (is_of_others session r.caller) (r ∷ rest) rest) (held_without session key rs h)
    ] h
  where
    split : (a b : Bool) → (a && b) ≡ true → (a ≡ true) × (b ≡ true)
    split true b h = (refl, h)
    split false b h = cc

    turned : (b : Bool) → not b ≡ true → b ≡ false
    turned true h = sym h
    turned false h = refl

-- a key's reservation is the one that is found
only_found : (session : ℕ) (key : Bytes) (rs : List Reservation) (r : Reservation) → AllPairs (λ (r later : Reservation). is_key r.key later ≡ false) rs → find (is_key key) rs ≡ Some r → r.caller.session ≡ session
    → list_all (λ r. not (is_key key r) || not (is_of_others session r.caller)) rs ≡ true
only_found session key [] r once found own = refl
only_found session key (x ∷ xs) r once found own =
    let later = later_pairs (λ (r later : Reservation). is_key r.key later ≡ false) x xs once in
    let first = first_pairs (λ (r later : Reservation). is_key r.key later ≡ false) x xs once in
    elim (is_key key x) as (λ b. is_key key x ≡ b → cond b (Some x) (find (is_key key) xs) ≡ Some r → ((not b || not (is_of_others session x.caller)) && list_all (λ r. not (is_key key r) || not (is_of_others session r.caller)) xs) ≡ true) [
      | true ↦ λ e f.
          let is : x ≡ r = cc in
          let k : key ≡ x.key = same_text key x.key (sym e) in
          let mine : not (is_of_others session x.caller) ≡ true = ap not (mine_not session x.caller.session (ap (λ (y : Reservation). y.caller.session) is ∙ own)) in
          both_true (mine) (none_later xs (subst (λ q. All (λ (later : Reservation). is_key q later ≡ false) xs) (sym k) first))
      | false ↦ λ e f. only_found session key xs r later f own
    ] refl found
  where
    both_true : {a b : Bool} → a ≡ true → b ≡ true → (a && b) ≡ true
    both_true {a} {b} p q = λ i. (p i) && (q i)

    none_later : (ys : List Reservation) → All (λ (later : Reservation). is_key key later ≡ false) ys → list_all (λ r. not (is_key key r) || not (is_of_others session r.caller)) ys ≡ true
    none_later [] all = refl
    none_later (y ∷ ys) all =
        let here : is_key key y ≡ false = All-head (λ (later : Reservation). is_key key later ≡ false) y ys all in
        ap (λ b. (not b || not (is_of_others session y.caller)) && list_all (λ r. not (is_key key r) || not (is_of_others session r.caller)) ys) here
        ∙ none_later ys (All-tail (λ (later : Reservation). is_key key later ≡ false) y ys all)

held_begun : (session : ℕ) (old new : State) (caller : Caller) (key : Bytes) (op : Op) (b : Begun) → caller.session ≡ session → Begins old caller key op b new → others_held session new.reservations ≡ others_held session old.reservations
held_begun session old new caller key op (begun.Done done) own h = ap (λ (s : State). others_held session s.reservations) h.2.after
held_begun session old new caller key op (begun.Asks ticket) own h =
    ap (λ (s : State). others_held session s.reservations) h.5 ∙ held_pushed session old.reservations ticket.reservation (ap (λ (t : TicketClaim). t.reservation.caller.session) h.4 ∙ own)
held_begun session old new caller key op (begun.Joined join) own h = ap (λ (s : State). others_held session s.reservations) h.3
held_begun session old new caller key op (begun.Refused refusal) own h = ap (λ (s : State). others_held session s.reservations) h.1

held_picked : (session : ℕ) (old new : State) (join : JoinClaim) (p : Polled) → PicksUp old join p new → others_held session new.reservations ≡ others_held session old.reservations
held_picked session old new join (polled.Answer reply place shared) h = ap (λ (s : State). others_held session s.reservations) h.3
held_picked session old new join polled.Again h = ap (λ (s : State). others_held session s.reservations) h.2
held_picked session old new join (polled.NotYet back) h = ap (λ (s : State). others_held session s.reservations) h.3

pub uniform_reservations : (session : ℕ) (old new : State) → IsReached old → IsCore session old new → others_held session new.reservations ≡ others_held session old.reservations
uniform_reservations session old new reached phase =
    ⊎_elim (λ same. ap (λ (s : State). others_held session s.reservations) same)
    (λ rest. ⊎_elim (λ (b : FirstPhase session old new). held_begun session old new b.caller b.key b.op b.begun b.own b.begins)
    (λ rest. ⊎_elim (λ (b : Committed session old new).
    ap (λ (s : State). others_held session s.reservations) b.commits.1.after
    ∙ held_without session b.reservation.key old.reservations (only_found session b.reservation.key old.reservations b.reservation reached.numbered.once b.commits.0 b.own))
    (λ rest. ⊎_elim (λ (b : Withdrawn session old new).
    ap (λ (s : State). others_held session s.reservations) b.withdraws.1
    ∙ held_without session b.reservation.key old.reservations (only_found session b.reservation.key old.reservations b.reservation reached.numbered.once b.withdraws.0 b.own))
    (λ (b : PickUp session old new). held_picked session old new b.join b.picked b.picks_up) rest) rest) rest) phase

-- 3. Other sessions' joins.

abbrev others_joined : ℕ → List Joiner → List JoinClaim
others_joined session js = filter (λ j. is_of_others session j.caller) (map join_claim js)

joined_pushed : (session : ℕ) (caller : Caller) (key : Bytes) (load : ℕ) (js : List Joiner) → caller.session ≡ session → others_joined session (joining.joiners_with caller key load js) ≡ others_joined session js
joined_pushed session caller key load [] own = ap (λ b. cond b (record { caller = caller; key = key; load = load } ∷ []) []) (mine_not session caller.session own)
joined_pushed session caller key load (j ∷ js) own = ap (λ rest. cond (is_of_others session j.caller) (join_claim j ∷ rest) rest) (joined_pushed session caller key load js own)

claims_answered : (load step place : ℕ) (js : List Joiner) → map join_claim (answered_from load step place js) ≡ map join_claim js
claims_answered load step place [] = refl
claims_answered load step place (j ∷ js) =
    elim (waits_for load j) as (λ b. map join_claim (cond b (with_answer place step j ∷ answered_from load step (place + 1) js) (j ∷ answered_from load step place js)) ≡ map join_claim (j ∷ js)) [
      | true ↦ ap (λ rest. join_claim j ∷ rest) (claims_answered load step (place + 1) js)
      | false ↦ ap (λ rest. join_claim j ∷ rest) (claims_answered load step place js)
    ]

claims_dissolved : (load : ℕ) (js : List Joiner) → map join_claim (after_dissolve load js) ≡ map join_claim js
claims_dissolved load [] = refl
claims_dissolved load (j ∷ js) =
    let rest = claims_dissolved load js in
    elim (waits_for load j) as (λ b. join_claim (cond b (record j { state = Again }) j) ∷ map join_claim (after_dissolve load js) ≡ map join_claim (j ∷ js)) [
      | true ↦ ap (λ x. join_claim j ∷ x) rest
      | false ↦ ap (λ x. join_claim j ∷ x) rest
    ]

joined_without : (session : ℕ) (caller : Caller) (key : Bytes) (js : List Joiner) → caller.session ≡ session → others_joined session (taking.joiners_without caller key js) ≡ others_joined session js
joined_without session caller key [] own = refl
joined_without session caller key (j ∷ js) own =
    let rest = joined_without session caller key js own in
    elim (belongs_to caller key j) as (λ b. belongs_to caller key j ≡ b → others_joined session (cond (not b) (j ∷ taking.joiners_without caller key js) (taking.joiners_without caller key js)) ≡ others_joined session (j ∷ js)) [
      | true ↦ λ e.
          let mine : j.caller.session ≡ session = eqb-true j.caller.session caller.session (joiners_call caller key j e).session ∙ own in
          rest ∙ ap (λ b. cond b (join_claim j ∷ others_joined session js) (others_joined session js)) (sym (mine_not session j.caller.session mine))
      | false ↦ λ e. ap (λ x. cond (is_of_others session j.caller) (join_claim j ∷ x) x) rest
    ] refl

joins_begun : (session : ℕ) (old new : State) (caller : Caller) (key : Bytes) (op : Op) (b : Begun) → caller.session ≡ session → Begins old caller key op b new → others_joined session new.joiners ≡ others_joined session old.joiners
joins_begun session old new caller key op (begun.Done done) own h = ap (λ (s : State). others_joined session s.joiners) h.2.after
joins_begun session old new caller key op (begun.Asks ticket) own h = ap (λ (s : State). others_joined session s.joiners) h.5
joins_begun session old new caller key op (begun.Joined join) own h =
    ap (λ (s : State). others_joined session s.joiners) h.3 ∙ joined_pushed session join.caller join.key join.load old.joiners (ap (λ (j : JoinClaim). j.caller.session) h.2 ∙ own)
joins_begun session old new caller key op (begun.Refused refusal) own h = ap (λ (s : State). others_joined session s.joiners) h.1

joins_picked : (session : ℕ) (old new : State) (join : JoinClaim) (p : Polled) → join.caller.session ≡ session → PicksUp old join p new → others_joined session new.joiners ≡ others_joined session old.joiners
joins_picked session old new join (polled.Answer reply place shared) own h = ap (λ (s : State). others_joined session s.joiners) h.3 ∙ joined_without session join.caller join.key old.joiners own
joins_picked session old new join polled.Again own h = ap (λ (s : State). others_joined session s.joiners) h.2 ∙ joined_without session join.caller join.key old.joiners own
joins_picked session old new join (polled.NotYet back) own h = ap (λ (s : State). others_joined session s.joiners) h.3

pub uniform_joins : (session : ℕ) (old new : State) → IsCore session old new → others_joined session new.joiners ≡ others_joined session old.joiners
uniform_joins session old new phase =
    let picked_out : List JoinClaim → List JoinClaim = λ js. filter (λ (j : JoinClaim). is_of_others session j.caller) js in
    ⊎_elim (λ same. ap (λ (s : State). others_joined session s.joiners) same)
    (λ rest. ⊎_elim (λ (b : FirstPhase session old new). joins_begun session old new b.caller b.key b.op b.begun b.own b.begins)
    (λ rest. ⊎_elim (λ (b : Committed session old new).
    ap (λ (s : State). others_joined session s.joiners) b.commits.1.after ∙ ap picked_out (claims_answered b.reservation.number b.done.place (b.done.place + 1) old.joiners))
    (λ rest. ⊎_elim (λ (b : Withdrawn session old new).
    ap (λ (s : State). others_joined session s.joiners) b.withdraws.1 ∙ ap picked_out (claims_dissolved b.reservation.number old.joiners))
    (λ (b : PickUp session old new). joins_picked session old new b.join b.picked b.own b.picks_up) rest) rest) rest) phase

-- 4. The entries of keys that stay reserved.

pub uniform_entries : KeepsReserved → (session : ℕ) (old new : State) (key : Bytes) → IsReached old → IsCore session old new → is_reserved old key ≡ true → is_reserved new key ≡ true → entry_at new.cache key ≡ entry_at old.cache key
uniform_entries law session old new key reached phase before after =
    ⊎_elim (λ same. ap (λ (s : State). entry_at s.cache key) same)
    (λ rest. ⊎_elim (λ (b : FirstPhase session old new). law.begins old new b.caller b.key b.op b.begun key reached b.begins before)
    (λ rest. ⊎_elim (λ (b : Committed session old new).
    law.commits old new b.reservation b.out b.done key reached b.commits (ap (λ (s : State). is_reserved s key) (sym b.commits.1.after) ∙ after))
    (λ rest. ⊎_elim (λ (b : Withdrawn session old new). ap (λ cache. entry_at cache key) (law.withdraws old new b.reservation b.withdraws))
    (λ (b : PickUp session old new). ap (λ cache. entry_at cache key) (law.picks_up old new b.join b.picked b.picks_up)) rest) rest) rest) phase

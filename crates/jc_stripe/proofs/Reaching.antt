-- Each phase leads from a reached state to a reached one.
use Rattle.std.proofs.Common.{◌≡◌, ◌≤◌, ◌+◌, ◌||◌, ℕ, List, [], ◌∷◌, ◌++◌, length, Bool, true, false, not, None, refl, sym, ap, ◌∙◌, subst, arith}
use Rattle.std.specs.List.{list_all, list_any}
use Rattle.std.specs.FinMap.{from_entries}
use Rattle.std.proofs.lemmas.List.{length-append}
use Rattle.jc_types.proofs.CallerLemmas.{all_imply}
use Rattle.jc_model.specs.declared.event.Op.{Op}
use Rattle.jc_model.specs.declared.event.Out.{Out}
use Rattle.jc_types.specs.declared.limits.TheConstants.{STEP_PLACES, HIT_PLACES}
use Rattle.jc_stripe.specs.Outcomes.{StepDone, Begun}
use Rattle.jc_model.specs.declared.event.Event.{Event}
use Rattle.jc_model.specs.Cache.{Bytes, entry_at}
use Rattle.jc_model.specs.Table.{entry_after}
use Rattle.jc_model.specs.Group.{Group, nothing_said, events_of}
use Rattle.jc_model.specs.Legal.{Legal}
use Rattle.jc_stripe.specs.Outcomes as begun
use Rattle.jc_inflight.specs.declared.joiner.Joiner.{Joiner}
use Rattle.jc_inflight.specs.Joining.{callers_of, waits}
use Rattle.jc_inflight.specs.Resolving.{after_resolve}
use Rattle.jc_stripe.specs.declared.ticket.First.{First}
use Rattle.jc_stripe.specs.declared.ticket.First.TheVariants.{Nobody}
use Rattle.jc_stripe.specs.Tickets.{TicketClaim}
use Rattle.jc_stripe.specs.State.{State, is_key, is_reserved, IsOut, new_reservation, with_reservation, without_key}
use Rattle.jc_stripe.specs.Refusals.{first_refusal, first_asked, needs_free_key, places_needed, needs_reservation}
use Rattle.jc_stripe.specs.Phases.{MayBegin, is_other_call, is_other_join, new_group, after_group, Steps, Begins, Commits, with_joiner, after_commit}
use Rattle.jc_stripe.specs.Reached.{IsReached, IsUsed}
use Rattle.jc_stripe.proofs.Refusing.{clash, not_refused, roomy, alone_passes, answering_keeps, was_free, ticket_places, few_out, join_places, few_joined, asking_needs}
use Rattle.jc_stripe.proofs.Tables.{reached_reserved, reached_joined}
use Rattle.jc_stripe.proofs.Beside.{ask_same, none_left}
use Rattle.jc_stripe.proofs.Settled.{SharedAt, joins_same, joins_settled, remains_settled, may_commit, beside_found, callers_behind, callers_other, callers_apart, callers_beside, callers_left, claim_left_waiting, one_less_claimed, count_left, length_left}
use Rattle.jc_stripe.proofs.SharedSteps.{shared-group}
use Rattle.jc_stripe.proofs.Ordered.{order-group}
use Rattle.jc_stripe.proofs.Stepped.{legal_on, used_on, own_on, kept_on, all_swap, ends_on, shares_on, few_events, one_event}
use Rattle.jc_types.specs.declared.caller.Caller.{Caller}
use Rattle.jc_stripe.specs.declared.ticket.Reservation.{Reservation}
use Rattle.std.proofs.lemmas.Bool.{or_right}

-- 1. A reached state's history is legal.

pub reached_legal : (state : State) → IsReached state → Legal state.config state.opening state.history
reached_legal state old = record {
  config_fits = old.config_fits;
  once = old.opened_once;
  stripe = state.stripe;
  opens = old.opens;
  own = old.own;
  next = state.cache;
  history = old.legal;
}

-- 2. A step that is done at once.

all_empty : {A B : Type 0} (p : A → B → Bool) (xs : List A) → list_all (λ x. list_all (p x) []) xs ≡ true
all_empty p [] = refl
all_empty p (x ∷ xs) = all_empty p xs

-- how many events it has at most
pub few_done : (free : Bool) (n : ℕ) → (free ≡ false → n ≤ HIT_PLACES) → n ≤ STEP_PLACES → n ≤ places_needed free
few_done true n one three = three
few_done false n one three = one refl

pub begins_done : (old new : State) (caller : Caller) (key : Bytes) (op : Op) (done : StepDone) → IsReached old → MayBegin old caller key → first_refusal old caller key op ≡ None
    → first_asked old.config op (entry_at old.cache key) ≡ Nobody → Steps old caller key op nothing_said [] done new → IsReached new
begins_done old new caller key op done reached may none nobody steps =
    let g : Group = new_group old caller key op nothing_said [] steps.short in
    let more : List Event = events_of (length old.history) g in
    let passing : needs_free_key old key op ≡ false → entry_after op (entry_at old.cache key) nothing_said ≡ entry_at old.cache key = λ e. answering_keeps old.config op (entry_at old.cache key) (alone_passes old key op nobody e) in
    let room = roomy old caller.call (places_needed (needs_free_key old key op)) (not_refused old caller key op none).room in
    let few : length more ≤ places_needed (needs_free_key old key op) = few_done (needs_free_key old key op) (length more) (λ e. one_event old caller key op nothing_said steps.short (length old.history) (passing e))
    (few_events (length old.history) g) in
    let kept : (q : Bytes) → list_any (is_key q) old.reservations ≡ true → entry_at (after_group old g).cache q ≡ entry_at old.cache q = λ q there. kept_on old caller key op nothing_said [] steps.short q reached.used there
    (λ is. passing ((not_refused old caller key op none).free (ap (is_reserved old) (sym is) ∙ there))) in
    let aside : list_all (λ j. not (waits j) || is_other_join caller key j) old.joiners ≡ true = all_imply (is_other_join caller key) (λ j. not (waits j) || is_other_join caller key j) old.joiners
    (λ j e. or_right (not (waits j)) (is_other_join caller key j) e) may.apart in
    let next : IsReached (after_group old g) = record {
      config_fits = reached.config_fits;
      chain = reached.chain;
      one_life = reached.one_life;
      opened_once = reached.opened_once;
      opens = reached.opens;
      legal = legal_on old (from_entries old.opening) g reached.legal steps.lawful
          (order-group old.history (length old.history) g reached.legal.order (record { behind = may.behind; callers_behind = refl; callers_away = refl; callers_apart = refl }));
      used = used_on old g reached.used may.of_stripe;
      own = own_on old caller key op nothing_said [] steps.short reached.used reached.own may.of_stripe;
      keys = reached.keys;
      few_entries = steps.lawful.within;
      few_reservations = reached.few_reservations;
      few_joiners = reached.few_joiners;
      places = let n = length-append old.history more in omega arith;
      numbered = reached.numbered;
      asks = ask_same old.config old.cache (after_group old g).cache old.reservations kept reached.asks;
      ends = ends_on old.history (length old.history) g old.reservations reached.ends may.beside (all_empty (λ r (c : Caller). is_other_call c key r) old.reservations);
      beside = reached.beside;
      joins = joins_same old (after_group old g) more reached refl refl refl kept;
      shares = shares_on old.history (length old.history) g old.joiners reached.shares aside (all_empty (λ j (c : Caller). not (waits j) || is_other_join c key j) old.joiners);
      apart = reached.apart;
      between = reached.between;
      marks = reached.marks;
    } in
    subst IsReached (sym steps.after) next

-- 3. A last phase.

pub commits_found : (old new : State) (r : Reservation) (out : Out) (done : StepDone) → IsReached old → IsOut old r
    → Steps (after_commit old r done.place) r.caller r.key r.op out (callers_of r.number old.joiners) done new → IsReached new
commits_found old new r out done reached found steps =
    let place : ℕ = done.place in
    let m : State = after_commit old r done.place in
    let callers : List Caller = callers_of r.number old.joiners in
    let g : Group = new_group m r.caller r.key r.op out callers steps.short in
    let more : List Event = events_of (length old.history) g in
    let rest : List Reservation = without_key r.key old.reservations in
    let js : List Joiner = after_resolve r.number place old.joiners in
    let remains = remains_settled old r place reached in
    let may = may_commit old r place reached found in
    let used : IsUsed m = record { once = reached.used.once; own = reached.used.own; cache = reached.used.cache } in
    let kept : (q : Bytes) → list_any (is_key q) rest ≡ true → entry_at (after_group m g).cache q ≡ entry_at old.cache q = λ q there. kept_on m r.caller r.key r.op out callers steps.short q used there
    (λ is. absurd (clash (list_any (is_key r.key) rest) (ap (λ k. list_any (is_key k) rest) (sym is) ∙ there) (none_left r.key old.reservations))) in
    let beside = beside_found old.reservations r.key r found reached.beside in
    let others = all_swap (λ (c : Caller) (x : Reservation). is_other_call c r.key x) callers rest (callers_beside old r reached found) in
    let waiting = all_swap (λ (c : Caller) (j : Joiner). not (waits j) || is_other_join c r.key j) callers js (callers_left old r place reached found) in
    let few = few_events (length old.history) g in
    let less = one_less_claimed old r found in
    let count = count_left r.number place old.joiners in
    let room = reached.places in
    let next : IsReached (after_group m g) = record {
      config_fits = reached.config_fits;
      chain = reached.chain;
      one_life = reached.one_life;
      opened_once = reached.opened_once;
      opens = reached.opens;
      legal = legal_on m (from_entries old.opening) g reached.legal steps.lawful
          (order-group old.history (length old.history) g reached.legal.order
          (record { behind = may.behind; callers_behind = callers_behind old r reached found; callers_away = callers_other old r reached found; callers_apart = callers_apart old r reached found }));
      used = used_on m g used may.of_stripe;
      own = own_on m r.caller r.key r.op out callers steps.short used reached.own may.of_stripe;
      keys = remains.keys;
      few_entries = steps.lawful.within;
      few_reservations = let f = reached.few_reservations in omega arith;
      few_joiners = let f = reached.few_joiners in let n = length_left r.number place old.joiners in omega arith;
      places = let n = length-append old.history more in omega arith;
      numbered = remains.numbered;
      asks = ask_same old.config old.cache (after_group m g).cache rest kept remains.asks;
      ends = ends_on old.history (length old.history) g rest remains.ends beside others;
      beside = remains.beside;
      joins = joins_settled old (after_group m g) r place more reached found refl refl refl kept
          (let P : ℕ → Type 0 = λ p. SharedAt (old.history ++ more) p r.key (p + 1) callers in subst P (sym steps.place) (shared-group old.history g));
      shares = shares_on old.history (length old.history) g js remains.shares (claim_left_waiting old r place reached found) waiting;
      apart = remains.apart;
      between = remains.between;
      marks = remains.marks;
    } in
    subst IsReached (sym steps.after) next

-- a last phase leads from a reached state to a reached one
pub reached_commits : (old new : State) (r : Reservation) (out : Out) (done : StepDone) → IsReached old → Commits old r out done new → IsReached new
reached_commits old new r out done reached h = commits_found old new r out done reached h.0 h.1

-- 4. A first phase.

begins_ticket : (old : State) (caller : Caller) (key : Bytes) (op : Op) (first : First) → IsReached old → MayBegin old caller key → first_refusal old caller key op ≡ None → needs_reservation old key op ≡ true
    → first_asked old.config op (entry_at old.cache key) ≡ first → IsReached (with_reservation old (new_reservation old caller key op first))
begins_ticket old caller key op first reached may none needs asks =
    reached_reserved old caller key op first reached may (few_out old caller key op none needs) (ticket_places old caller key op none needs) asks (was_free old caller key op none needs)

pub reached_begins : (old new : State) (caller : Caller) (key : Bytes) (op : Op) (b : Begun) → IsReached old → MayBegin old caller key → Begins old caller key op b new → IsReached new
reached_begins old new caller key op (begun.Refused refusal) reached may h = subst IsReached (sym h.1) reached
reached_begins old new caller key op (begun.Done done) reached may h = begins_done old new caller key op done reached may h.0 h.1 h.2
reached_begins old new caller key op (begun.Asks ticket) reached may h =
    let first : First = ticket.reservation.first in
    subst IsReached (sym (h.5 ∙ ap (λ (t : TicketClaim). with_reservation old t.reservation) h.4)) (begins_ticket old caller key op first reached may h.0 (asking_needs old key op first h.1 h.2 h.3) h.2)
reached_begins old new caller key op (begun.Joined join) reached may h =
    subst IsReached (sym (h.3 ∙ ap (with_joiner old) h.2)) (reached_joined old caller key op join.load reached may h.1 (few_joined old caller key op join.load h.0 h.1) (join_places old caller key op join.load h.0 h.1))

-- At most one phase of a session keeps the state reached, and leaves the own steps of the others.
--     one_uniform                  the law
use Rattle.std.proofs.Common.{◌≡◌, ◌≤◌, ◌==◌, ◌+◌, ◌⊎◌, ⊎_elim, inl, inr, ℕ, List, [], map, filter, length, true, false, slice_get, refl, sym, ap, ◌∙◌, subst, arith}
use Rattle.std.specs.List.{list_any}
use Rattle.jc_model.specs.declared.event.Event.{Event}
use Rattle.std.proofs.lemmas.Bool.{eqb-true}
use Rattle.std.proofs.lemmas.Cmp.{nat_eq_equiv}
use Rattle.jc_model.specs.declared.event.Op.{Op}
use Rattle.jc_model.specs.Cache.{Bytes}
use Rattle.jc_model.specs.Group.{Group, nothing_said}
use Rattle.jc_inflight.specs.declared.joiner.Joiner.{Joiner}
use Rattle.jc_inflight.specs.Joining.{callers_of}
use Rattle.jc_inflight.specs.Joining as joining
use Rattle.jc_inflight.specs.Resolving.{after_resolve}
use Rattle.jc_inflight.specs.Dissolving.{after_dissolve}
use Rattle.jc_inflight.specs.Taking as taking
use Rattle.jc_stripe.specs.Outcomes.{Begun, StepDone}
use Rattle.jc_stripe.specs.Polled.{Polled}
use Rattle.jc_stripe.specs.Outcomes as first
use Rattle.jc_stripe.specs.Polled as last
use Rattle.jc_stripe.specs.Tickets.{JoinClaim}
use Rattle.jc_stripe.specs.State.{State, is_key, is_reserved}
use Rattle.jc_stripe.specs.Phases.{new_group, after_commit, Begins, PicksUp, Steps, without_joiner}
use Rattle.jc_stripe.specs.Reached.{IsReached}
use Rattle.jc_stripe.specs.Laws.{Extends, KeepsReserved}
use Rattle.jc_stripe.specs.OnePhase.{FirstPhase, PickUp, GainsOwn, IsUniform, OnePhase, own_steps, is_of_others, join_claim}
use Rattle.jc_stripe.proofs.Settled.{keyed_callers}
use Rattle.jc_stripe.proofs.Reaching.{reached_begins, reached_commits}
use Rattle.jc_stripe.proofs.Tables.{reached_withdrawn, reached_picked}
use Rattle.jc_stripe.proofs.Laws.{same_on, begins_on, commits_on, withdraws_on, picks_up_on, begins_keeps, commits_keeps, withdraws_keeps, picks_up_keeps}
use Rattle.jc_types.specs.declared.caller.Caller.{Caller}
use Rattle.jc_stripe.specs.declared.ticket.Reservation.{Reservation}
use Rattle.jc_stripe.proofs.Core.{Committed, Withdrawn, IsCore, core_of}
use Rattle.jc_stripe.proofs.Settling.{IsQuiet, extends_both, there_before}
use Rattle.jc_stripe.proofs.ParkedSteps.{own-parked, parked-joined, parked-dissolved, parked-without, own-answered, all_parked, own-grown, parked-callers}
use Rattle.jc_stripe.proofs.Own.{own_left}
use Rattle.jc_stripe.proofs.UniformParts.{uniform_own, uniform_reservations, uniform_joins, uniform_entries}

-- 1. What a phase keeps, beside the clauses that are proved for all kinds of phases at once.

record KeepsOthers (session : ℕ) (old new : State) : Type 0 where
  pub reached : IsReached new
  pub grows : Extends old new
  pub next : old.next ≤ new.next
  pub others : (other : ℕ) → (other == session) ≡ false → own_steps other new ≡ own_steps other old

-- 2. The phases.

session_differs : (session other s : ℕ) → (other == session) ≡ false → s ≡ session → (s == other) ≡ false
session_differs session other s differs is = nat_eq_equiv.symm s other ∙ ap (λ n. other == n) is ∙ differs

-- nothing happens
uniform_same : (session : ℕ) (old new : State) → IsReached old → new ≡ old → KeepsOthers session old new
uniform_same session old new reached is = record {
  reached = subst IsReached (sym is) reached;
  grows = same_on old new old is (record { config = refl; stripe = refl; origin = refl; lives = refl; ended = refl; opening = refl }) refl;
  next = let n = ap (λ (s : State). s.next) is in omega arith;
  others = λ other differs. ap (λ (s : State). own_steps other s) is;
}

-- a step that nobody shares
others_done : (other : ℕ) (old new : State) (caller : Caller) (key : Bytes) (op : Op) (done : StepDone) → (other == caller.session) ≡ false → Steps old caller key op nothing_said [] done new → own_steps other new ≡ own_steps other old
others_done other old new caller key op done differs steps =
    ap (λ (s : State). own_steps other s) steps.after
    ∙ own-grown other old.joiners old.history (length old.history) (new_group old caller key op nothing_said [] steps.short) (session_differs caller.session other caller.session differs refl) refl

others_begun : (other : ℕ) (old new : State) (caller : Caller) (key : Bytes) (op : Op) (begun : Begun) → (other == caller.session) ≡ false → Begins old caller key op begun new → own_steps other new ≡ own_steps other old
others_begun other old new caller key op (first.Refused refusal) differs h = ap (λ (s : State). own_steps other s) h.1
others_begun other old new caller key op (first.Done done) differs h = others_done other old new caller key op done differs h.2
others_begun other old new caller key op (first.Asks ticket) differs h = ap (λ (s : State). own_steps other s) h.5
others_begun other old new caller key op (first.Joined join) differs h =
    ap (λ (s : State). own_steps other s) h.3
    ∙ own-parked other old.joiners (joining.joiners_with join.caller join.key join.load old.joiners) old.history (λ c k e. parked-joined join.caller join.load join.key old.joiners c k)

pub next_begun : (old new : State) (caller : Caller) (key : Bytes) (op : Op) (begun : Begun) → Begins old caller key op begun new → old.next ≤ new.next
next_begun old new caller key op (first.Refused refusal) h = let n = ap (λ (s : State). s.next) h.1 in omega arith
next_begun old new caller key op (first.Done done) h = let n = ap (λ (s : State). s.next) h.2.after in omega arith
next_begun old new caller key op (first.Asks ticket) h = let n = ap (λ (s : State). s.next) h.5 in omega arith
next_begun old new caller key op (first.Joined join) h = let n = ap (λ (s : State). s.next) h.3 in omega arith

-- a first phase
uniform_begun : (session : ℕ) (old new : State) → IsReached old → FirstPhase session old new → KeepsOthers session old new
uniform_begun session old new reached b = record {
  reached = reached_begins old new b.caller b.key b.op b.begun reached b.may b.begins;
  grows = begins_on old new b.caller b.key b.op b.begun b.begins;
  next = next_begun old new b.caller b.key b.op b.begun b.begins;
  others = λ other differs. others_begun other old new b.caller b.key b.op b.begun (ap (λ n. other == n) b.own ∙ differs) b.begins;
}

-- a last phase
uniform_committed : (session : ℕ) (old new : State) → IsReached old → Committed session old new → KeepsOthers session old new
uniform_committed session old new reached b =
    let r : Reservation = b.reservation in
    let place : ℕ = b.done.place in
    let steps = b.commits.1 in
    let js : List Joiner = after_resolve r.number place old.joiners in
    let m : State = after_commit old r place in
    let g : Group = new_group m r.caller r.key r.op b.out (callers_of r.number old.joiners) steps.short in
    let parked : all_parked js r.key (callers_of r.number old.joiners) ≡ true = parked-callers r.number place (place + 1) r.key old.joiners (keyed_callers old r reached b.commits.0) in
    record {
      reached = reached_commits old new r b.out b.done reached b.commits;
      grows = commits_on old new r b.out b.done b.commits;
      next = let n = ap (λ (s : State). s.next) steps.after in omega arith;
      others = λ other differs.
          ap (λ (s : State). own_steps other s) steps.after
          ∙ own-grown other js old.history (length old.history) g (session_differs session other r.caller.session differs b.own) parked
          ∙ own-answered other r.number place (place + 1) old.joiners old.history reached.shares;
    }

-- a reservation that is given back
uniform_withdrawn : (session : ℕ) (old new : State) → IsReached old → Withdrawn session old new → KeepsOthers session old new
uniform_withdrawn session old new reached b =
    let load : ℕ = b.reservation.number in
    record {
      reached = reached_withdrawn old new b.reservation reached b.withdraws;
      grows = withdraws_on old new b.reservation b.withdraws;
      next = let n = ap (λ (s : State). s.next) b.withdraws.1 in omega arith;
      others = λ other differs.
          ap (λ (s : State). own_steps other s) b.withdraws.1
          ∙ own-parked other old.joiners (after_dissolve load old.joiners) old.history (λ c k e. parked-dissolved load old.joiners c k);
    }

-- a joiner that asks for its answer
others_left : (other : ℕ) (old new : State) (join : JoinClaim) → (other == join.caller.session) ≡ false → new ≡ without_joiner old join → own_steps other new ≡ own_steps other old
others_left other old new join differs is =
    ap (λ (s : State). own_steps other s) is
    ∙ own-parked other old.joiners (taking.joiners_without join.caller join.key old.joiners) old.history
    (λ c k e. parked-without join.caller join.key old.joiners c k (ap (λ t. t == join.caller.session) (eqb-true c.session other e) ∙ differs))

others_picked : (other : ℕ) (old new : State) (join : JoinClaim) (picked : Polled) → (other == join.caller.session) ≡ false → PicksUp old join picked new → own_steps other new ≡ own_steps other old
others_picked other old new join (last.Answer reply place shared) differs h = others_left other old new join differs h.3
others_picked other old new join last.Again differs h = others_left other old new join differs h.2
others_picked other old new join (last.NotYet back) differs h = ap (λ (s : State). own_steps other s) h.3

next_picked : (old new : State) (join : JoinClaim) (picked : Polled) → PicksUp old join picked new → old.next ≤ new.next
next_picked old new join (last.Answer reply place shared) h = let n = ap (λ (s : State). s.next) h.3 in omega arith
next_picked old new join last.Again h = let n = ap (λ (s : State). s.next) h.2 in omega arith
next_picked old new join (last.NotYet back) h = let n = ap (λ (s : State). s.next) h.3 in omega arith

uniform_picked : (session : ℕ) (old new : State) → IsReached old → PickUp session old new → KeepsOthers session old new
uniform_picked session old new reached b = record {
  reached = reached_picked old new b.join b.picked reached b.picks_up;
  grows = picks_up_on old new b.join b.picked b.picks_up;
  next = next_picked old new b.join b.picked b.picks_up;
  others = λ other differs. others_picked other old new b.join b.picked (ap (λ s. other == s) b.own ∙ differs) b.picks_up;
}

-- at most one of them
keeps_others : (session : ℕ) (old new : State) → IsReached old → IsCore session old new → KeepsOthers session old new
keeps_others session old new reached phase =
    ⊎_elim (λ same. uniform_same session old new reached same)
    (λ rest. ⊎_elim (λ b. uniform_begun session old new reached b)
    (λ rest. ⊎_elim (λ b. uniform_committed session old new reached b)
    (λ rest. ⊎_elim (λ b. uniform_withdrawn session old new reached b) (λ b. uniform_picked session old new reached b) rest) rest) rest) phase

keeps_reserved : KeepsReserved
keeps_reserved = record { begins = begins_keeps; commits = commits_keeps; withdraws = withdraws_keeps; picks_up = picks_up_keeps }

core_uniform : (session : ℕ) (old new : State) → IsReached old → IsCore session old new → IsUniform session old new
core_uniform session old new reached phase =
    let kept = keeps_others session old new reached phase in
    record {
      reached = kept.reached;
      grows = kept.grows;
      next = kept.next;
      own = uniform_own own_left session old new reached phase;
      others = kept.others;
      reservations = uniform_reservations session old new reached phase;
      joins = uniform_joins session old new phase;
      entries = λ key before after. uniform_entries keeps_reserved session old new key reached phase before after;
    }

-- 3. What no session sees follows.

own_quiet : (session : ℕ) (old mid new : State) → IsQuiet mid new → (own_steps session mid ≡ own_steps session old) ⊎ ((event : Event) × (place : ℕ) × GainsOwn session old mid event place)
    → (own_steps session new ≡ own_steps session old) ⊎ ((event : Event) × (place : ℕ) × GainsOwn session old new event place)
own_quiet session old mid new q (inl same) = inl (q.own session ∙ same)
own_quiet session old mid new q (inr g) =
    inr (
      g.0,
      g.1,
      record {
        there = ap (λ h. slice_get h g.1) q.grows.history ∙ there_before mid.history q.grows.more g.1 g.0 g.2.there;
        before = g.2.before;
        after = g.2.after;
        was = g.2.was;
        own = q.own session ∙ g.2.own;
      },
    )

uniform_quiet : (session : ℕ) (old mid new : State) → IsUniform session old mid → IsQuiet mid new → IsUniform session old new
uniform_quiet session old mid new u q = record {
  reached = q.reached;
  grows = extends_both old mid new u.grows q.grows;
  next = let n = q.next in let m = u.next in omega arith;
  own = own_quiet session old mid new q u.own;
  others = λ other differs. q.own other ∙ u.others other differs;
  reservations = ap (λ (rs : List Reservation). filter (λ (r : Reservation). is_of_others session r.caller) rs) q.reservations ∙ u.reservations;
  joins = ap (λ (js : List Joiner). filter (λ j. is_of_others session j.caller) (map join_claim js)) q.joiners ∙ u.joins;
  entries = λ key before after.
      let between : is_reserved mid key ≡ true = ap (list_any (is_key key)) (sym q.reservations) ∙ after in
      q.entries key between ∙ u.entries key before between;
}

pub one_uniform : OnePhase
one_uniform session old new reached phase =
    let c = core_of session old new reached phase in
    let u = core_uniform session old c.mid reached c.core in
    uniform_quiet session old c.mid new u (c.quiet u.reached)

-- A phase of a stripe is determined, but for insertions that are out of memory.
use Rattle.std.proofs.Common.{◌≡◌, ℕ, List, [], length, Bool, true, false, ◌&&◌, Option, None, Some, is_some, is_none, option_map, cond, if◌then◌else◌, sym, refl, ap, ◌∙◌, true≢false}
use Rattle.jc_world.proofs.Common.{Caller, Refusal, Op, Get, Out, Reply, Cause, Bytes, Cache, entry_at, and-false, nat_list_cmp_total, get-remove, cache_after_step, without_own, Group, step_place, nothing_said, callers_of, State, new_reservation, with_reservation, TicketClaim, JoinClaim, asks_loader, Begun, StepDone, First, Nobody, Reservation, first_asked, first_by, load_joined, reserves, Change}
use Rattle.jc_model.specs.Table.{reply_after}
use Rattle.jc_stripe.specs.Outcomes as begun
use Rattle.jc_stripe.specs.declared.begun.Eviction.{Eviction}
use Rattle.jc_model.specs.Table.{loader_ask}
use Rattle.jc_stripe.specs.Phases.{Steps, Begins, Commits, with_joiner, new_group, own_cause, own_eviction, inserts_here, overflows, victim, after_group, after_commit}
use Rattle.jc_world.specs.Determinism.{eviction_has_memory}
use Rattle.jc_model.specs.declared.event.Cause.TheVariants.{Invalidated}
use Rattle.jc_stripe.specs.State.{is_marked}
use Rattle.jc_stripe.specs.Invalidating.{is_dropped, end_with, told_drop, Ends, GivesBack}
use Rattle.jc_world.proofs.Entries.{tied}
use Rattle.jc_world.proofs.Facts.{none_some, some_back}

-- 1. The group of a step.

-- without an eviction for want of memory its cause is the one that it has with ample memory
ample-cause : (place : ℕ) (inserts full has short : Bool)
    → eviction_has_memory (option_map (λ cause. record { cause = cause; place = place }) (own_cause inserts full has short)) ≡ true
    → own_cause inserts full has short ≡ own_cause inserts full has false
ample-cause place inserts full has false ample = refl
ample-cause place false full has true ample = refl
ample-cause place true true true true ample = absurd (true≢false (sym ample))
ample-cause place true true false true ample = refl
ample-cause place true false has true ample = absurd (true≢false (sym ample))

ample-group : (old : State) (caller : Caller) (key : Bytes) (op : Op) (out : Out) (callers : List Caller) (short : Bool)
    → eviction_has_memory (own_eviction (length old.history) (new_group old caller key op out callers short)) ≡ true
    → new_group old caller key op out callers short ≡ new_group old caller key op out callers false
ample-group old caller key op out callers short ample =
    ap (λ (cause : Option Cause). record (new_group old caller key op out callers false) { evicted = cause })
    (ample-cause _ (inserts_here old key op out) (overflows old key op out) (is_some (victim old key op out)) short ample)

-- a step with ample memory is that of the group with ample memory
abbrev done_of : State → Bytes → Op → Out → Group → StepDone
done_of old key op out group =
    record {
      reply = reply_after op (entry_at old.cache key) out;
      place = step_place (length old.history) group;
      victim = victim old key op out;
      evicted = own_eviction (length old.history) group;
    }

done-is : (a : StepDone) (reply : Reply) (place : ℕ) (victim : Option Bytes) (evicted : Option Eviction)
    → a.reply ≡ reply → a.place ≡ place → a.victim ≡ victim → a.evicted ≡ evicted
    → a ≡ record { reply = reply; place = place; victim = victim; evicted = evicted }
done-is a reply place victim evicted r p v e =
    ap (λ (x : Reply). record a { reply = x }) r
    ∙ ap (λ (x : ℕ). record a { reply = reply; place = x }) p
    ∙ ap (λ (x : Option Bytes). record a { reply = reply; place = place; victim = x }) v
    ∙ ap (λ (x : Option Eviction). record { reply = reply; place = place; victim = victim; evicted = x }) e

abbrev ample_group : State → Caller → Bytes → Op → Out → List Caller → Group
ample_group old caller key op out callers = new_group old caller key op out callers false

steps-as : (old new : State) (caller : Caller) (key : Bytes) (op : Op) (out : Out) (callers : List Caller) (done : StepDone)
    → Steps old caller key op out callers done new → eviction_has_memory done.evicted ≡ true
    → (done ≡ done_of old key op out (ample_group old caller key op out callers)) × (new ≡ after_group old (ample_group old caller key op out callers))
steps-as old new caller key op out callers done steps ample =
    let same : new_group old caller key op out callers steps.short ≡ ample_group old caller key op out callers =
    ample-group old caller key op out callers steps.short (ap eviction_has_memory (sym steps.evicted) ∙ ample) in (
      done-is done _ _ _ _ steps.reply (steps.place ∙ ap (λ (g : Group). step_place (length old.history) g) same) steps.victim_is (steps.evicted ∙ ap (λ (g : Group). own_eviction (length old.history) g) same),
      steps.after ∙ ap (λ (g : Group). after_group old g) same,
    )

pub steps-determined : (old n m : State) (caller : Caller) (key : Bytes) (op : Op) (out : Out) (callers : List Caller) (a b : StepDone)
    → Steps old caller key op out callers a n → eviction_has_memory a.evicted ≡ true
    → Steps old caller key op out callers b m → eviction_has_memory b.evicted ≡ true
    → (a ≡ b) × (n ≡ m)
steps-determined old n m caller key op out callers a b one ample other ample_too =
    let x = steps-as old n caller key op out callers a one ample in
    let y = steps-as old m caller key op out callers b other ample_too in
    (x.0 ∙ sym y.0, x.1 ∙ sym y.1)

-- 2. The first phase.

abbrev pub begun_amply : Begun → Bool
begun_amply (begun.Done done) = eviction_has_memory done.evicted
begun_amply b = true

get_joins : (through : Bool) (entry : Option Bytes) (o : Option ℕ) (load : ℕ) (change : Option Change)
    → (if through && is_none entry then o else None) ≡ Some load → first_by (loader_ask through Get entry) change ≡ Nobody → ⊥
get_joins false entry o load change joins asks = none_some refl joins
get_joins true (Some e) o load change joins asks = none_some refl joins
get_joins true None o load change joins asks = true≢false (ap asks_loader asks)

-- who joins a load would ask the loader
joins_asks : (state : State) (key : Bytes) (op : Op) (load : ℕ) → load_joined state key op ≡ Some load → first_asked state.config op (entry_at state.cache key) ≡ Nobody → ⊥
joins_asks state key Get load joins asks = get_joins state.config.read_through (entry_at state.cache key) _ load _ joins asks
joins_asks state key op load joins asks = cc

pub begins-determined : (old n m : State) (caller : Caller) (key : Bytes) (op : Op) (a b : Begun)
    → Begins old caller key op a n → begun_amply a ≡ true
    → Begins old caller key op b m → begun_amply b ≡ true
    → (a ≡ b) × (n ≡ m)
begins-determined old n m caller key op (begun.Refused r) (begun.Refused q) one _ other _ =
    (ap (λ (x : Refusal). begun.Refused x) (some_back r q (sym one.0 ∙ other.0)), one.1 ∙ sym other.1)
begins-determined old n m caller key op (begun.Refused r) (begun.Done b) one _ other _ = absurd (none_some other.0 one.0)
begins-determined old n m caller key op (begun.Refused r) (begun.Asks b) one _ other _ = absurd (none_some other.0 one.0)
begins-determined old n m caller key op (begun.Refused r) (begun.Joined b) one _ other _ = absurd (none_some other.0 one.0)
begins-determined old n m caller key op (begun.Done a) (begun.Refused q) one _ other _ = absurd (none_some one.0 other.0)
begins-determined old n m caller key op (begun.Done a) (begun.Done b) one ample other ample_too =
    let same = steps-determined old n m caller key op nothing_said [] a b one.2 ample other.2 ample_too in
    (ap (λ (x : StepDone). begun.Done x) same.0, same.1)
begins-determined old n m caller key op (begun.Done a) (begun.Asks b) one _ other _ = absurd (true≢false (sym other.3 ∙ ap reserves (sym other.2 ∙ one.1)))
begins-determined old n m caller key op (begun.Done a) (begun.Joined b) one _ other _ = absurd (joins_asks old key op b.load other.1 one.1)
begins-determined old n m caller key op (begun.Asks a) (begun.Refused q) one _ other _ = absurd (none_some one.0 other.0)
begins-determined old n m caller key op (begun.Asks a) (begun.Done b) one _ other _ = absurd (true≢false (sym one.3 ∙ ap reserves (sym one.2 ∙ other.1)))
begins-determined old n m caller key op (begun.Asks a) (begun.Asks b) one _ other _ =
    let first : a.reservation.first ≡ b.reservation.first = sym one.2 ∙ other.2 in
    let same : a ≡ b = one.4 ∙ ap (λ (f : First). record { reservation = new_reservation old caller key op f; asked = false; writer_asked = false }) first ∙ sym other.4 in
    (ap (λ (t : TicketClaim). begun.Asks t) same, one.5 ∙ ap (λ (t : TicketClaim). with_reservation old t.reservation) same ∙ sym other.5)
begins-determined old n m caller key op (begun.Asks a) (begun.Joined b) one _ other _ = absurd (none_some one.1 other.1)
begins-determined old n m caller key op (begun.Joined a) (begun.Refused q) one _ other _ = absurd (none_some one.0 other.0)
begins-determined old n m caller key op (begun.Joined a) (begun.Done b) one _ other _ = absurd (joins_asks old key op a.load one.1 other.1)
begins-determined old n m caller key op (begun.Joined a) (begun.Asks b) one _ other _ = absurd (none_some other.1 one.1)
begins-determined old n m caller key op (begun.Joined a) (begun.Joined b) one _ other _ =
    let load : a.load ≡ b.load = some_back a.load b.load (sym one.1 ∙ other.1) in
    let same : a ≡ b = one.2 ∙ ap (λ (l : ℕ). record { caller = caller; key = key; load = l }) load ∙ sym other.2 in
    (ap (λ (j : JoinClaim). begun.Joined j) same, one.3 ∙ ap (λ (j : JoinClaim). with_joiner old j) same ∙ sym other.3)

-- 3. The last phase. Its joiners' answers name the place of its step, which doesn't depend on them.

pub commits-determined : (old n m : State) (r : Reservation) (out : Out) (a b : StepDone)
    → Commits old r out a n → eviction_has_memory a.evicted ≡ true
    → Commits old r out b m → eviction_has_memory b.evicted ≡ true
    → (a ≡ b) × (n ≡ m)
commits-determined old n m r out a b one ample other ample_too =
    let x = steps-as (after_commit old r a.place) n r.caller r.key r.op out (callers_of r.number old.joiners) a one.1 ample in
    let y = steps-as (after_commit old r b.place) m r.caller r.key r.op out (callers_of r.number old.joiners) b other.1 ample_too in
    let place : a.place ≡ b.place = ap (λ (d : StepDone). d.place) x.0 ∙ sym (ap (λ (d : StepDone). d.place) y.0) in
    (x.0 ∙ sym y.0, x.1 ∙ ap (λ (p : ℕ). after_group (after_commit old r p) (ample_group (after_commit old r p) r.caller r.key r.op out (callers_of r.number old.joiners))) place ∙ sym y.1)

-- 4. The end of a reservation.

-- whose entry is there after its step was not evicted with it
kept_amply : (old new : State) (caller : Caller) (key : Bytes) (op : Op) (out : Out) (callers : List Caller) (step : StepDone) → Steps old caller key op out callers step new → is_some (entry_at new.cache key) ≡ true → eviction_has_memory step.evicted ≡ true
kept_amply old new caller key op out callers step steps there =
    let group : Group = new_group old caller key op out callers steps.short in
    go group.evicted refl
  where
    at : ℕ
    at = length old.history

    made : Cache
    made = cache_after_step old.cache (new_group old caller key op out callers steps.short)

    go : (cause : Option Cause) → (new_group old caller key op out callers steps.short).evicted ≡ cause → eviction_has_memory step.evicted ≡ true
    go None is =
        let group : Group = new_group old caller key op out callers steps.short in
        ap eviction_has_memory (steps.evicted ∙ ap (λ (c : Option Cause). own_eviction at (record group { evicted = c })) is)
    go (Some cause) is =
        let group : Group = new_group old caller key op out callers steps.short in
        let gone : entry_at new.cache key ≡ None =
        ap (λ (s : State). entry_at s.cache key) steps.after ∙ ap (λ (c : Option Cause). entry_at (without_own made key c) key) is
        ∙ get-remove nat_list_cmp_total made key key ∙ ap (λ (b : Bool). cond b None (entry_at made key)) (tied key)
        in
        absurd (true≢false (sym there ∙ ap is_some gone))

-- a step's own eviction is not that of the invalidated key, which needs an entry
step_amply : (old ended : State) (r : Reservation) (out : Out) (done step : StepDone) → Commits old r out step ended → done ≡ told_drop (is_marked old r.key) ended r.key step → eviction_has_memory done.evicted ≡ true → eviction_has_memory step.evicted ≡ true
step_amply old ended r out done step commits done_is ample =
    elim (is_some (entry_at ended.cache r.key)) as (λ b. is_some (entry_at ended.cache r.key) ≡ b → eviction_has_memory step.evicted ≡ true) [
      | true ↦ λ there. kept_amply (after_commit old r step.place) ended r.caller r.key r.op out (callers_of r.number old.joiners) step commits.1 there
      | false ↦ λ none.
          let apart : is_dropped (is_marked old r.key) ended r.key ≡ false = ap (λ (b : Bool). is_marked old r.key && b) none ∙ and-false (is_marked old r.key) in
          let same : done ≡ step = done_is ∙ ap (λ (b : Bool). cond b (record step { evicted = Some (record { cause = Invalidated; place = length ended.history }) }) step) apart in
          ap (λ (d : StepDone). eviction_has_memory d.evicted) (sym same) ∙ ample
    ] refl

pub end-determined : (old n m : State) (r : Reservation) (out : Out) (a b : StepDone)
    → Ends old r out a n → eviction_has_memory a.evicted ≡ true
    → Ends old r out b m → eviction_has_memory b.evicted ≡ true
    → (a ≡ b) × (n ≡ m)
end-determined old n m r out a b (one, x, one_commits, a_is, n_is) ample (other, y, other_commits, b_is, m_is) ample_too =
    let marked = is_marked old r.key in
    let same = commits-determined old one other r out x y one_commits (step_amply old one r out a x one_commits a_is ample) other_commits (step_amply old other r out b y other_commits b_is ample_too) in (
      a_is ∙ (λ i. told_drop marked (same.1 i) r.key (same.0 i)) ∙ sym b_is,
      n_is ∙ ap (λ (s : State). end_with marked s r.key) same.1 ∙ sym m_is,
    )

pub gives_back-determined : (old n m : State) (r : Reservation) → GivesBack old r n → GivesBack old r m → n ≡ m
gives_back-determined old n m r (one, one_back, n_is) (other, other_back, m_is) =
    n_is ∙ ap (λ (s : State). end_with (is_marked old r.key) s r.key) (one_back.1 ∙ sym other_back.1) ∙ sym m_is

-- The loops of a round over the keys of a call.
--     noted_since, note_on, noted_advances    all failures are noted
--     start_from, none_joined, start_more, start_over       the first phases: before the first key, one key more, after the last one
--     start_else, start_past                   a key for which there is no room, and one that doesn't wait
--     commit_noted, commit_from, next_commit, commit_none, commit_past, commit_over    the last phases
--     pick_noted, pick_from, next_pick, pick_none, pick_past, pick_over              the pick-ups
use Rattle.jc_rounds.proofs.Common.{◌≡◌, ⊎_elim, inl, inr, ◌≤◌, ◌+◌, ◌++◌, ℕ, List, [], ◌∷◌, length, map, reverse, slice_get, false, true≢false, Some, vec_capacity, vec_len, refl, sym, ap, subst, ◌∙◌, arith, reverse-reverse, Vec, Bytes, Op, JoinClaim, TicketClaim, CacheState, Session, RoundAnswers, BulkCall, KeyProgress, Waiting, Reserved, Joined, AreAnswers, IsCauseIn, IsNoted, StillWaits, failures, holds_reservation, waits_for_joined_load, waits_for_round, IsJoinFor, IsTicketFor, Round, faults_in, view_of, AreHeldBack, AreIn, IsHeldAt, HaveJoined, IsFull, ops_of, Advances, CallPast, HasCommitted, HasNoRoom, HasStarted, IsAnswered, IsBetween, IsCommitting, IsOn, IsPicking, IsStarting, KeepsJoined, AreFresh, reserved_by}
use Rattle.jc_rounds.proofs.Failures.{cause_met, keeps_both, keeps_noted, noted_all}
use Rattle.jc_rounds.proofs.Held.{full_by, full_later, held_next, not_held}
use Rattle.jc_rounds.proofs.OnCall.{on_by}
use Rattle.jc_rounds.proofs.Out.{none_in, nothing_out}
use Rattle.jc_rounds.proofs.Underway.{as_many, last_first, none_at_all, settled_by, settled_next, under_next}

pub no_items : {X : Type 0} (v : Vec X) → vec_len v ≡ 0 → v.items ≡ []
no_items v none = none_long v.items (sym v.ok.0 ∙ none)
  where
    none_long : {X : Type 0} (xs : List X) → length xs ≡ 0 → xs ≡ []
    none_long [] is = refl
    none_long (x ∷ xs) is = absurd (omega arith)

pub none_mapped : (ts : List TicketClaim) → map reserved_by ts ≡ [] → ts ≡ []
none_mapped [] is = refl
none_mapped (t ∷ ts) is = cc

-- 1. What has failed is noted.

pub noted_since : (call mid later : BulkCall) → mid.cause ≡ call.cause → later ≡ record mid { cause = later.cause } → IsNoted mid.cause (failures mid.progress.items) later.cause → IsNoted call.cause (failures later.progress.items) later.cause
noted_since call mid later same rest noted =
    subst (λ c. IsNoted c (failures later.progress.items) later.cause) same (subst (λ ps. IsNoted mid.cause (failures ps) later.cause) (sym (ap (λ (x : BulkCall). x.progress.items) rest)) noted)

module _ {I J : Type 0} {D : I → Type 0} {E : J → Type 0} where
  pub note_on : (cache : CacheState) (past : CallPast) (session : Session I J D E) (call later : BulkCall) (ts : List TicketClaim) (js : List JoinClaim) → later ≡ record call { cause = later.cause } → IsNoted call.cause (failures call.progress.items) later.cause
      → IsOn cache past session call ts js → IsOn cache past session later ts js × IsCauseIn later.cause (failures later.progress.items ++ faults_in past.rounds)
  note_on cache past session call later ts js rest noted on =
      let is : IsCauseIn later.cause (failures call.progress.items ++ faults_in past.rounds) = noted_all call.cause later.cause call.progress.items (faults_in past.rounds) on.met noted in
      subst (λ x. IsOn cache past session x ts js × IsCauseIn x.cause (failures x.progress.items ++ faults_in past.rounds)) (sym rest) (
        record {
          distinct = on.distinct;
          under = on.under;
          asked = on.asked;
          met = cause_met later.cause call.progress.items (faults_in past.rounds) is;
          tickets_room = on.tickets_room;
          most = on.most;
          joins_room = on.joins_room;
        },
        is,
      )

  pub noted_advances : (old new : Session I J D E) (call mid later : BulkCall) → later ≡ record mid { cause = later.cause } → IsNoted mid.cause (failures mid.progress.items) later.cause → Advances old new call mid → Advances old new call later
  noted_advances old new call mid later rest noted a =
      subst (Advances old new call) (sym rest) (record { goes = a.goes; agent = a.agent; targets = a.targets; most = a.most; cause = keeps_both call.cause mid.cause later.cause a.cause (keeps_noted mid.cause later.cause (failures mid.progress.items) noted) })

  -- other tickets or joins, and as much room
  pub re_ticket : (cache : CacheState) (past : CallPast) (session : Session I J D E) (call : BulkCall) (v : Vec TicketClaim) (ts : List TicketClaim) (js : List JoinClaim) → vec_capacity v ≡ vec_capacity call.tickets → IsOn cache past session call ts js → IsOn cache past session (record call { tickets = v }) ts js
  re_ticket cache past session call v ts js room on =
      on_by cache past session session call (record call { tickets = v }) (record { targets = refl; most = refl; cause = refl; tickets_room = room; joins_room = refl }) ts ts js js on on.under on.asked on.met

  pub re_join : (cache : CacheState) (past : CallPast) (session : Session I J D E) (call : BulkCall) (v : Vec JoinClaim) (ts : List TicketClaim) (js : List JoinClaim) → vec_capacity v ≡ vec_capacity call.joins → IsOn cache past session call ts js → IsOn cache past session (record call { joins = v }) ts js
  re_join cache past session call v ts js room on =
      on_by cache past session session call (record call { joins = v }) (record { targets = refl; most = refl; cause = refl; tickets_room = refl; joins_room = room }) ts ts js js on on.under on.asked on.met

  -- 2. First phases.

  abbrev pub Held : CacheState → CallPast → Session I J D E → Session I J D E → BulkCall → ℕ → Type 0
  Held cache past old new call end =
      AreHeldBack (IsFull past.caller cache.config.stripes (ops_of call.targets.now) old.seats.items new.seats.items (length call.tickets.items)) end past.caller cache.config.stripes (ops_of call.targets.now) old.seats.items new.seats.items call.progress.items

  pub start_from : (cache : CacheState) (past : CallPast) (session : Session I J D E) (call : BulkCall) → IsBetween cache past session call → IsStarting cache past session call 0
  start_from cache past session call between =
      let u = between.on.under in
      let ops = ops_of call.targets.now in
      record {
        on = subst (λ ts. IsOn cache past session call ts call.joins.items) (sym between.no_tickets) (subst (IsOn cache past session call []) (sym between.no_joins) between.on);
        fresh = subst (AreFresh past.rounds) (sym between.no_tickets) tt;
        few = omega (arith, ap length between.no_tickets);
        settled = λ i p le at. settled_by p (none_in holds_reservation _ ops call.progress.items u.so_far.many u.calls_are i p at) (none_in waits_for_joined_load _ ops call.progress.items u.so_far.many u.joins_are i p at);
      }

  -- nothing has joined a load before the first phases
  pub none_joined : (cache : CacheState) (past : CallPast) (session : Session I J D E) (call : BulkCall) → IsBetween cache past session call → HaveJoined past.caller cache.config.stripes (ops_of call.targets.now) session.seats.items session.seats.items call.progress.items
  none_joined cache past session call between place key op at there =
      let u = between.on.under in
      absurd (true≢false (none_in waits_for_joined_load _ (ops_of call.targets.now) call.progress.items u.so_far.many u.joins_are place Joined there))

  -- one key more
  pub start_more : (cache : CacheState) (past : CallPast) (a b c : Session I J D E) (x y z : BulkCall) (place : ℕ) → Advances a b x y → Advances b c y z → Held cache past a b y place → length y.tickets.items ≤ length z.tickets.items
      → HaveJoined past.caller cache.config.stripes (ops_of z.targets.now) a.seats.items c.seats.items z.progress.items → IsStarting cache past c z (place + 1)
      → IsHeldAt (StillWaits z.progress.items place × HasNoRoom z) place past.caller cache.config.stripes (ops_of z.targets.now) b.seats.items c.seats.items z.progress.items → Held cache past a c z (place + 1)
  start_more cache past a b c x y z place one two held more have starting here =
      held_next (IsFull past.caller n ops a.seats.items b.seats.items (length y.tickets.items)) (IsFull past.caller n ops a.seats.items c.seats.items (length z.tickets.items)) place past.caller n ops
      a.seats.items b.seats.items c.seats.items x.progress.items y.progress.items z.progress.items (full_later past.caller n ops a.seats.items b.seats.items c.seats.items (length y.tickets.items) (length z.tickets.items) more two.goes.grown) one.goes two.goes
      (subst (λ t. AreHeldBack (IsFull past.caller n (ops_of t.now) a.seats.items b.seats.items (length y.tickets.items)) place past.caller n (ops_of t.now) a.seats.items b.seats.items y.progress.items) (sym two.targets) held)
      (λ key op p at there is. ⊎_elim (λ none. inl (full none)) (λ back. inr back) (here key op p at there is))
    where
      n : ℕ
      n = cache.config.stripes

      ops : List (Bytes × Op)
      ops = ops_of z.targets.now

      full : StillWaits z.progress.items place × HasNoRoom z → IsFull past.caller n ops a.seats.items c.seats.items (length z.tickets.items)
      full none =
          let on = starting.on in
          full_by past.caller cache.config (view_of n past.first) n ops z.progress.items a.seats.items c.seats.items (map reserved_by z.tickets.items) z.joins.items
          z.most (vec_capacity z.joins) place (length z.tickets.items) on.distinct on.under.so_far.many none.0 have on.under.calls_are on.under.joins_are on.most on.joins_room (sym (as_many reserved_by z.tickets.items)) none.1

  -- there is no room for the key at this place
  pub start_else : (cache : CacheState) (past : CallPast) (session : Session I J D E) (call : BulkCall) (place : ℕ) → slice_get call.progress.items place ≡ Some Waiting → HasNoRoom call
      → IsStarting cache past session call place
      → IsStarting cache past session call (place + 1) × (length call.tickets.items ≤ length call.tickets.items)
      × IsHeldAt (StillWaits call.progress.items place × HasNoRoom call) place past.caller cache.config.stripes (ops_of call.targets.now) session.seats.items session.seats.items call.progress.items × KeepsJoined past.caller cache session session call call
  start_else cache past session call place waits full starting = (
    record { on = starting.on; fresh = starting.fresh; few = starting.few; settled = settled_next call.progress.items place starting.settled },
    omega arith,
    (λ key op p at there held. inl (waits, full)),
    λ start grown have. have,
  )

  -- the key at this place doesn't wait
  pub start_past : (cache : CacheState) (past : CallPast) (session : Session I J D E) (call : BulkCall) (place : ℕ) (q : KeyProgress) → slice_get call.progress.items place ≡ Some q → waits_for_round q ≡ false → IsStarting cache past session call place
      → IsStarting cache past session call (place + 1) × (length call.tickets.items ≤ length call.tickets.items)
      × IsHeldAt (StillWaits call.progress.items place × HasNoRoom call) place past.caller cache.config.stripes (ops_of call.targets.now) session.seats.items session.seats.items call.progress.items × KeepsJoined past.caller cache session session call call
  start_past cache past session call place q here isnt starting = (
    record { on = starting.on; fresh = starting.fresh; few = starting.few; settled = settled_next call.progress.items place starting.settled },
    omega arith,
    (λ key op p at there held. absurd (
        let same : q ≡ p = (let is : Some q ≡ Some p = sym here ∙ there in cc) in
        not_held p (ap waits_for_round (sym same) ∙ isnt) (starting.settled place p (omega arith) there) held
        )),
    λ start grown have. have,
  )

  pub start_over : (cache : CacheState) (past : CallPast) (old new : Session I J D E) (call mid later : BulkCall) (place : ℕ) → Advances old new call mid → later ≡ record mid { cause = later.cause } → IsNoted mid.cause (failures mid.progress.items) later.cause → length mid.progress.items ≤ place
      → IsStarting cache past new mid place → Held cache past old new mid place → HasStarted cache past old new later
  start_over cache past old new call mid later place advances rest noted end starting held =
      let on = (note_on cache past new mid later mid.tickets.items mid.joins.items rest noted starting.on).0 in
      subst (HasStarted cache past old new) (sym rest) (record {
        on = subst (λ x. IsOn cache past new x mid.tickets.items mid.joins.items) rest on;
        fresh = starting.fresh;
        few = starting.few;
        held = λ i less. held i (omega (arith, less, end, starting.on.under.so_far.many));
      })

  -- 3. Last phases.

  pub commit_noted : (cache : CacheState) (past : CallPast) (session : Session I J D E) (mid later : BulkCall) → later ≡ record mid { cause = later.cause } → IsNoted mid.cause (failures mid.progress.items) later.cause → mid.tickets.items ≡ []
      → IsOn cache past session mid [] mid.joins.items → HasCommitted cache past session later
  commit_noted cache past session mid later rest noted none on = record {
    on = subst (IsOn cache past session later []) (ap (λ (x : BulkCall). x.joins.items) (sym rest)) (note_on cache past session mid later [] mid.joins.items rest noted on).0;
    no_tickets = ap (λ (x : BulkCall). x.tickets.items) rest ∙ none;
  }

  pub commit_from : (cache : CacheState) (past : CallPast) (round : Round) (session : Session I J D E) (call : BulkCall) (v : Vec TicketClaim) (a : RoundAnswers) → v.items ≡ reverse call.tickets.items → vec_capacity v ≡ vec_capacity call.tickets
      → IsAnswered cache past round session call a → IsCommitting cache past round session (record call { tickets = v }) (reverse v.items) a 0
  commit_from cache past round session call v a is room answered =
      let back : call.tickets.items ≡ reverse v.items = sym (ap reverse is ∙ reverse-reverse call.tickets.items) in
      record {
        on = re_ticket cache past session call v (reverse v.items) call.joins.items room (subst (λ ts. IsOn cache past session call ts call.joins.items) back answered.on);
        among = answered.among;
        answered = subst (λ ts. AreAnswers cache.config round a (map reserved_by ts)) back answered.answered;
        committed = λ place p less at. absurd (omega (arith, less));
      }

  pub next_commit : (cache : CacheState) (past : CallPast) (round : Round) (session : Session I J D E) (call : BulkCall) (v : Vec TicketClaim) (t : TicketClaim) (a : RoundAnswers) (place : ℕ) → call.tickets.items ≡ v.items ++ t ∷ [] → vec_capacity v ≡ vec_capacity call.tickets
      → IsCommitting cache past round session call (reverse call.tickets.items) a place → IsCommitting cache past round session (record call { tickets = v }) (t ∷ reverse v.items) a place
  next_commit cache past round session call v t a place is room c =
      let first : reverse call.tickets.items ≡ t ∷ reverse v.items = last_first call.tickets.items v.items t is in
      record {
        on = re_ticket cache past session call v (t ∷ reverse v.items) call.joins.items room (subst (λ ts. IsOn cache past session call ts call.joins.items) first c.on);
        among = c.among;
        answered = subst (λ ts. AreAnswers cache.config round a (map reserved_by ts)) first c.answered;
        committed = c.committed;
      }

  -- a key that is reserved has a ticket
  pub commit_none : (cache : CacheState) (past : CallPast) (round : Round) (session : Session I J D E) (call : BulkCall) (a : RoundAnswers) (place : ℕ) → slice_get call.progress.items place ≡ Some Reserved → call.tickets.items ≡ [] → IsCommitting cache past round session call (reverse call.tickets.items) a place → ⊥
  commit_none cache past round session call a place there none c =
      let u = c.on.under in
      true≢false (none_in holds_reservation _ (ops_of call.targets.now) call.progress.items u.so_far.many (subst (AreIn holds_reservation (IsTicketFor past.caller cache.config) (ops_of call.targets.now) call.progress.items) (ap (λ ts. map reserved_by (reverse ts)) none) u.calls_are) place Reserved there)

  pub commit_past : (cache : CacheState) (past : CallPast) (round : Round) (session : Session I J D E) (call : BulkCall) (a : RoundAnswers) (place : ℕ) (q : KeyProgress) → slice_get call.progress.items place ≡ Some q → holds_reservation q ≡ false
      → IsCommitting cache past round session call (reverse call.tickets.items) a place → IsCommitting cache past round session call (reverse call.tickets.items) a (place + 1)
  commit_past cache past round session call a place q there isnt c =
      record { on = c.on; among = c.among; answered = c.answered; committed = under_next holds_reservation call.progress.items place q there isnt c.committed }

  pub commit_over : (cache : CacheState) (past : CallPast) (round : Round) (session : Session I J D E) (call : BulkCall) (a : RoundAnswers) (place : ℕ) → length call.progress.items ≤ place → IsCommitting cache past round session call (reverse call.tickets.items) a place
      → (call.tickets.items ≡ []) × AreAnswers cache.config round a [] × IsOn cache past session call [] call.joins.items
  commit_over cache past round session call a place end c =
      let u = c.on.under in
      let none : reverse call.tickets.items ≡ [] =
      none_mapped (reverse call.tickets.items) (nothing_out holds_reservation _ (ops_of call.targets.now) call.progress.items (map reserved_by (reverse call.tickets.items)) (none_at_all holds_reservation call.progress.items place end c.committed) u.calls_are) in (
        sym (reverse-reverse call.tickets.items) ∙ ap reverse none,
        subst (λ ts. AreAnswers cache.config round a (map reserved_by ts)) none c.answered,
        subst (λ ts. IsOn cache past session call ts call.joins.items) none c.on,
      )

  -- 4. Pick-ups.

  pub pick_from : (cache : CacheState) (past : CallPast) (session : Session I J D E) (call : BulkCall) (v : Vec JoinClaim) → v.items ≡ reverse call.joins.items → vec_capacity v ≡ vec_capacity call.joins
      → HasCommitted cache past session call → IsPicking cache past session (record call { joins = v }) (reverse v.items) 0
  pick_from cache past session call v is room has = record {
    on = re_join cache past session call v [] (reverse v.items) room (subst (IsOn cache past session call []) (sym (ap reverse is ∙ reverse-reverse call.joins.items)) has.on);
    no_tickets = has.no_tickets;
    picked = λ place p less at. absurd (omega (arith, less));
  }

  pub next_pick : (cache : CacheState) (past : CallPast) (session : Session I J D E) (call : BulkCall) (v : Vec JoinClaim) (j : JoinClaim) (place : ℕ) → call.joins.items ≡ v.items ++ j ∷ [] → vec_capacity v ≡ vec_capacity call.joins
      → IsPicking cache past session call (reverse call.joins.items) place → IsPicking cache past session (record call { joins = v }) (j ∷ reverse v.items) place
  next_pick cache past session call v j place is room c = record {
    on = re_join cache past session call v [] (j ∷ reverse v.items) room (subst (IsOn cache past session call []) (last_first call.joins.items v.items j is) c.on);
    no_tickets = c.no_tickets;
    picked = c.picked;
  }

  pub pick_none : (cache : CacheState) (past : CallPast) (session : Session I J D E) (call : BulkCall) (place : ℕ) → slice_get call.progress.items place ≡ Some Joined → call.joins.items ≡ [] → IsPicking cache past session call (reverse call.joins.items) place → ⊥
  pick_none cache past session call place there none c =
      let u = c.on.under in
      true≢false (none_in waits_for_joined_load _ (ops_of call.targets.now) call.progress.items u.so_far.many (subst (AreIn waits_for_joined_load (λ k o j. IsJoinFor past.caller (view_of cache.config.stripes past.first k) k o j) (ops_of call.targets.now) call.progress.items) (ap reverse none) u.joins_are) place Joined there)

  pub pick_past : (cache : CacheState) (past : CallPast) (session : Session I J D E) (call : BulkCall) (place : ℕ) (q : KeyProgress) → slice_get call.progress.items place ≡ Some q → waits_for_joined_load q ≡ false → IsPicking cache past session call (reverse call.joins.items) place → IsPicking cache past session call (reverse call.joins.items) (place + 1)
  pick_past cache past session call place q there isnt c = record { on = c.on; no_tickets = c.no_tickets; picked = under_next waits_for_joined_load call.progress.items place q there isnt c.picked }

  pub pick_over : (cache : CacheState) (past : CallPast) (session : Session I J D E) (call : BulkCall) (place : ℕ) → length call.progress.items ≤ place → IsPicking cache past session call (reverse call.joins.items) place → (call.joins.items ≡ []) × IsOn cache past session call [] []
  pick_over cache past session call place end c =
      let u = c.on.under in
      let none : reverse call.joins.items ≡ [] = nothing_out waits_for_joined_load _ (ops_of call.targets.now) call.progress.items (reverse call.joins.items) (none_at_all waits_for_joined_load call.progress.items place end c.picked) u.joins_are in
      (sym (reverse-reverse call.joins.items) ∙ ap reverse none, subst (IsOn cache past session call []) none c.on)

  pub pick_noted : (cache : CacheState) (past : CallPast) (session : Session I J D E) (mid later : BulkCall) → later ≡ record mid { cause = later.cause } → IsNoted mid.cause (failures mid.progress.items) later.cause → mid.tickets.items ≡ [] → mid.joins.items ≡ []
      → IsOn cache past session mid [] [] → IsBetween cache past session later
  pick_noted cache past session mid later rest noted none free on =
      let noted_is = note_on cache past session mid later [] [] rest noted on in
      record {
        on = noted_is.0;
        no_tickets = ap (λ (x : BulkCall). x.tickets.items) rest ∙ none;
        no_joins = ap (λ (x : BulkCall). x.joins.items) rest ∙ free;
        cause = noted_is.1;
      }

-- What a whole call over a lock leaves of its session's seat.
--     refused_full     of the refusals that are not waited out a first phase gives the full history alone
--     joins_get        what joins a load is a `Get`
--     IsBelow          a call that has made its step is not the last one
--     CallLeft         a whole call's seat: it is of the same lock, and what it has seen; if the call runs a processor, in which state its
--                      step was made, and that the entry there is the one that was found first
--     ends_left        a call, by what its first phase began
--     call_left        a whole call
--     tries_to         a call that waits for nobody: its first phase
--     was_busy         the same, if it wasn't made
--     tried_left       the same, either way
use Rattle.jc_cache.proofs.Common.{◌≡◌, ◌&&◌, ◌≤◌, ◌+◌, ◌++◌, ⊎_elim, inl, inr, ℕ, zero, suc, Bool, true, false, if◌then◌else◌, nat_lt, Option, None, Some, is_none, Result, Ok, Err, List, [], length, slice_get, refl, sym, ap, subst, ◌∙◌, arith, true≢false, Caller, Refusal, Bytes, entry_at, Event, Step, Op, Get, Invoke, Out, Reply, State, reservation_of, whole_history, whole_place, GainsOwn, IsPhaseOf, AddsOwn, StepsBehind, may_come_all, Reservation, call_below, may_in_all, put_off_or_full, View, prefix-refl, prefix-trans, PhaseLaws, HasTried, Misses, EndsBy, IsCallRow, StartWaits, committing, picking, state_decided, state_found, state_of_step, trying, Starts, Keeps, all_map, begun_row, commits_phase, next_ended, next_place, picks_phase, row_split, shown_same, starts_phase, waited_keeps, HasSeen, HasMade, IsBusyAt, SeatAfter, SeatTried, TriesTo, WasBusy, IsMadeIn}
use mathlib.Core.List.{IsPrefix}
use Rattle.jc_types.specs.declared.refusal.Refusal.TheVariants as refusal
use Rattle.jc_types.specs.Refusals.{is_put_off}
use Rattle.jc_model.specs.Group.{nothing_said}
use Rattle.jc_stripe.specs.Tickets.{TicketClaim, JoinClaim}
use Rattle.jc_stripe.specs.Refusals.{first_asked, first_refusal, last_number, load_at, load_joined, may_join}
use Rattle.jc_stripe.specs.Tests.{asks_outside}
use Rattle.jc_stripe.specs.Outcomes.{Begun, StepDone}
use Rattle.jc_stripe.specs.Outcomes as begun
use Rattle.jc_stripe.specs.Polled as polled
use Rattle.jc_engine.specs.declared.first.How.TheVariants.{Alone, Waits}
use Rattle.jc_engine.specs.MadeIn.{IsNext}
use Rattle.jc_engine.specs.Calls.{IsTried, TriesTo as Tries}
use Rattle.jc_cache.proofs.Lendings.{lock_takes, lock_gives, lock_finds, lock_misses, Lending, LockRow, HasGrown, added, all_seen, earlier, front_grows, front_on, gained, grown_behind, kept, last_lent, longer_on, row_left, row_seen, seat_itself, seen_on, turn_lent}

-- 1. First phases.

pub refused_full : (state : State) (caller : Caller) (key : Bytes) (op : Op) (r : Refusal) → first_refusal state caller key op ≡ Some r → is_put_off r ≡ false → r ≡ refusal.HistoryFull
refused_full state caller key op r e last =
    ⊎_elim (λ again. absurd (let bad : true ≡ false = sym again ∙ last in cc)) (λ full. full) (put_off_or_full state caller key op r e)

may_join_get : (op : Op) → may_join op ≡ true → op ≡ Get
may_join_get Get h = refl
may_join_get op h = cc

joined_at : (may read missing : Bool) (load : Option ℕ) (n : ℕ) → (if may && read && missing then load else None) ≡ Some n → may ≡ true
joined_at true read missing load n e = refl
joined_at false read missing load n e = cc

pub joins_get : (state : State) (key : Bytes) (op : Op) (load : ℕ) → load_joined state key op ≡ Some load → op ≡ Get
joins_get state key op load e = may_join_get op (joined_at (may_join op) state.config.read_through (is_none (entry_at state.cache key)) (load_at (reservation_of state key)) load e)

-- 2. What a whole call leaves.

-- a call that has made its step is not the last one
abbrev pub IsBelow : Caller → Result Reply Refusal → Type 0
IsBelow caller (Ok reply) = nat_lt caller.call last_number ≡ true
IsBelow caller (Err refusal) = Unit {0}

pub record CallLeft {L : Type 0} (t : L × View) (caller : Caller) (key : Bytes) (op : Op) (asked : Out) (ended : Result Reply Refusal) (first decided : State) (u : L × View) : Type 0 where
  pub lock : u.0 ≡ t.0
  pub seat : SeatAfter t.1 caller key op asked ended u.1
  pub below : IsBelow caller ended
  pub made : op ≡ Invoke → IsMadeIn t.1 caller key op asked ended u.1 seat decided
  pub entry : op ≡ Invoke → entry_at decided.cache key ≡ entry_at first.cache key

front_le : (xs ys : List Event) (place : ℕ) → IsPrefix xs ys → length ys ≤ place → length xs ≤ place
front_le xs ys place p le = let one = longer_on xs ys p in omega arith

get_invokes : Get ≡ Invoke → ⊥
get_invokes is = cc

-- a phase of the caller under another name
phase_as : (who caller : Caller) (a b : State) → who ≡ caller → IsPhaseOf who.session a b → IsPhaseOf caller.session a b
phase_as who caller a b is one = subst (λ (w : Caller). IsPhaseOf w.session a b) is one

module _ {G L : Type 0} (law : PhaseLaws) (behind : StepsBehind) (caller : Caller) (key : Bytes) (op : Op) where
  -- `t` is the seat before the call, `v` after its first phase
  ends_left : (b : Begun) (asked : Out) (ended : Result Reply Refusal) (first next : State) (t : L × View) (g : G) (v : L × View) (last : List (State × State)) (h : G) (u : L × View)
      → t.1.session ≡ Some caller.session → may_come_all t.1.own caller key ≡ true → v.0 ≡ t.0 → Lending caller.session t.1 first next v.1 → Starts caller key op b first next
      → LockRow caller.session g v last h u → (ends : EndsBy b asked ended last) → CallLeft t caller key op asked ended first (state_of_step b asked ended last first ends) u
  ends_left (begun.Done done) asked ended first next t g v last h u mine may lock l made lent ends =
      let begins = made.first.begins in
      let place : ℕ = whole_place next done.place in
      let same = subst (λ (ps : List (State × State)). LockRow caller.session g v ps h u) ends.2 lent in
      let step = added caller.session t.1 first next v.1 (Step caller op key nothing_said None done.reply) done.place l (law.own_steps.done first next caller key op done made.first.may begins) in
      let next_is : IsNext first key place v.1.front = subst (λ (es : List Event). IsNext first key place es) (sym l.front_is) (next_place first next caller key op nothing_said [] done begins.2) in
      subst (λ (z : Out × Result Reply Refusal × L × View). CallLeft t caller key op z.0 z.1 first first (z.2, z.3)) (λ i. (sym ends.1 i, sym ends.0 i, (sym same.1 i).0, (sym same.1 i).1))
      (record {
        lock = lock;
        seat = record { out = nothing_said; shared_with = None; place = place; asked_for = refl; made = step };
        below = call_below first caller key op begins.0;
        made = λ invokes. next_is;
        entry = λ invokes. refl;
      })
  ends_left (begun.Refused r) asked ended first next t g v last h u mine may lock l made lent ends =
      let begins = made.first.begins in
      let same = subst (λ (ps : List (State × State)). LockRow caller.session g v ps h u) ends.2 lent in
      let seen = kept caller.session t.1 first next v.1 l (law.own_steps.refused first next caller key op r begins) in
      subst (λ (z : Out × Result Reply Refusal × L × View). CallLeft t caller key op z.0 z.1 first first (z.2, z.3)) (λ i. (sym ends.1 i, sym ends.0 i, (sym same.1 i).0, (sym same.1 i).1))
      (record {
        lock = lock;
        seat = (seen, refl, refused_full first caller key op r begins.0 made.last, ap (λ (s : State). first_refusal s caller key op) (l.noted ∙ begins.1) ∙ begins.0, all_seen caller.session t.1 first next v.1 l);
        below = tt;
        made = λ invokes. tt;
        entry = λ invokes. refl;
      })
  ends_left (begun.Asks ticket) asked ended first next t g v last h u mine may lock l made lent ends =
      let begins = made.first.begins in
      let r : Reservation = ticket.reservation in
      let who : r.caller ≡ caller = ap (λ (k : TicketClaim). k.reservation.caller) begins.4 in
      let key_is : r.key ≡ key = ap (λ (k : TicketClaim). k.reservation.key) begins.4 in
      let op_is : r.op ≡ op = ap (λ (k : TicketClaim). k.reservation.op) begins.4 in
      let done : StepDone = ends.0 in
      let y = ends.2 in
      let place : ℕ = whole_place y.left done.place in
      let seen = kept caller.session t.1 first next v.1 l (law.own_steps.reserves first next caller key op ticket begins) in
      let turn = turn_lent law caller.session (committing r asked done) g v last h u (seen.seat.session ∙ mine) seen.seat.free (waited_keeps law caller.session _ _) lent y (phase_as r.caller caller y.found y.left who (commits_phase r asked done y.found y.left y.made)) in
      let p = earlier caller.session t.1 v.1 y.found y.left u.1 seen turn.1 in
      let adds : AddsOwn caller.session y.found y.left (Step caller op key asked None done.reply) done.place =
      subst (λ (z : Caller × Op × Bytes). AddsOwn z.0.session y.found y.left (Step z.0 z.1 z.2 asked None done.reply) done.place) (λ i. (who i, op_is i, key_is i)) (law.own_steps.ends y.found y.left r asked done p.reached y.made) in
      let next_is : IsNext y.found key place u.1.front =
      subst (λ (z : Bytes × List Event). IsNext y.found z.0 place z.1) (λ i. (key_is i, sym p.front_is i)) (next_ended y.found y.left r asked done y.made) in
      subst (λ (e : Result Reply Refusal). CallLeft t caller key op asked e first y.found u) (sym ends.1) (record {
        lock = turn.0 ∙ lock;
        seat = record { out = asked; shared_with = None; place = place; asked_for = refl; made = added caller.session t.1 y.found y.left u.1 (Step caller op key asked None done.reply) done.place p adds };
        below = call_below first caller key op begins.0;
        made = λ invokes. next_is;
        entry = λ invokes. shown_same y.found caller key ticket first asked done y.left p.reached y.made key_is (op_is ∙ invokes) (ap (λ (o : Op). first_asked first.config o (entry_at first.cache key)) (sym invokes) ∙ begins.2);
      })
  ends_left (begun.Joined join) asked ended first next t g v last h u mine may lock l made lent ends =
      let begins = made.first.begins in
      let reply : Reply = ends.0 in
      let shared_with : ℕ = ends.2 in
      let y = ends.5 in
      let who : join.caller ≡ caller = ap (λ (j : JoinClaim). j.caller) begins.2 in
      let key_is : join.key ≡ key = ap (λ (j : JoinClaim). j.key) begins.2 in
      let to_get : op ≡ Get = joins_get first key op join.load begins.1 in
      let place : ℕ = whole_place y.left ends.1 in
      let seen = kept caller.session t.1 first next v.1 l (law.own_steps.joins first next caller key op join begins) in
      let turn = turn_lent law caller.session (picking join (polled.Answer reply ends.1 shared_with)) g v last h u (seen.seat.session ∙ mine) seen.seat.free (waited_keeps law caller.session _ _) lent y (phase_as join.caller caller y.found y.left who (picks_phase join (polled.Answer reply ends.1 shared_with) y.found y.left y.made)) in
      let p = earlier caller.session t.1 v.1 y.found y.left u.1 seen turn.1 in
      let gains = law.own_steps.picks_up y.found y.left join reply ends.1 shared_with p.reached y.made in
      let out : Out = gains.0 in
      let own : GainsOwn caller.session y.found y.left (Step caller op key out (Some shared_with) reply) ends.1 =
      subst (λ (z : Caller × Op × Bytes). GainsOwn z.0.session y.found y.left (Step z.0 z.1 z.2 out (Some shared_with) reply) ends.1) (λ i. (who i, sym to_get i, key_is i)) gains.1 in
      let grown : HasGrown t.1 u.1 (Step caller op key out (Some shared_with) reply) place = gained caller.session t.1 y.found y.left u.1 (Step caller op key out (Some shared_with) reply) ends.1 p own in
      let later : IsPrefix (whole_history first) u.1.front = prefix-trans (whole_history first) v.1.front u.1.front (front_grows caller.session t.1 first next v.1 l) (front_on caller.session v.1 y.found y.left u.1 turn.1) in
      let come : may_come_all (whole_history first) caller key ≡ true = may_in_all first caller key made.first.may (ap (λ (es : List Event). may_come_all es caller key) l.own ∙ may) in
      let le = behind (whole_history first) later.0 caller op key out (Some shared_with) reply place come (ap (λ (es : List Event). slice_get es place) later.1 ∙ grown.there) in
      subst (λ (z : Out × Result Reply Refusal). CallLeft t caller key op z.0 z.1 first first u) (λ i. (sym ends.4 i, sym ends.3 i)) (record {
        lock = turn.0 ∙ lock;
        seat = record { out = out; shared_with = Some shared_with; place = place; asked_for = refl; made = grown_behind t.1 u.1 (Step caller op key out (Some shared_with) reply) place (front_le t.1.front (whole_history first) place l.front le) grown };
        below = call_below first caller key op begins.0;
        made = λ invokes. absurd (get_invokes (sym to_get ∙ invokes));
        entry = λ invokes. refl;
      })

  pub call_left : (asked : Out) (ended : Result Reply Refusal) (g : G) (t : L × View) (row : List (State × State)) (h : G) (u : L × View) → t.1.session ≡ Some caller.session → t.1.holds ≡ false → may_come_all t.1.own caller key ≡ true
      → LockRow caller.session g t row h u → (x : IsCallRow caller key op asked ended row) → CallLeft t caller key op asked ended (state_found x) (state_decided x) u
  call_left asked ended g t row h u mine free may lent x =
      let parts = row_split lock_takes lock_gives lock_finds caller.session g t x.start x.last h u (subst (λ (ps : List (State × State)). LockRow caller.session g t ps h u) x.row_is lent) in
      let first = x.begins.starts in
      let before = begun_row law caller key op x.begun x.start x.begins in
      let l = last_lent law caller.session g t (x.begins.rejoins ++ first.waits) first.found first.left parts.0 parts.1 mine free (subst (λ (ps : List (State × State)). LockRow caller.session g t ps parts.0 parts.1) before.0 parts.2) before.1
      (starts_phase Waits caller key op x.begun first.found first.left first.made) in
      ends_left x.begun asked ended first.found first.left t parts.0 parts.1 x.last h u mine may l.0 l.1 first.made parts.3 x.ends

-- 3. A call that waits for nobody.

not_so : (b : Bool) → (b ≡ true → ⊥) → b ≡ false
not_so true never = absurd (never refl)
not_so false never = refl

busy_at : (caller : Caller) (key : Bytes) (op : Op) (a b : State) → StartWaits Alone caller key op a b → IsBusyAt caller key op a b
busy_at caller key op a b x = (⊎_elim (λ never. not_so _ never) (λ put_off. absurd (true≢false (sym put_off.put_off))) x.why, x.way)

no_more : (n : ℕ) → n ≡ n + 0
no_more n = omega arith

module _ {G L : Type 0} (law : PhaseLaws) (caller : Caller) (key : Bytes) (op : Op) where
  missed_left : (n : ℕ) (g : G) (t : L × View) (h : G) (u : L × View) → t.1.holds ≡ false → Misses lock_takes lock_gives lock_finds lock_misses caller.session n g t h u → (u.0 ≡ t.0) × HasSeen t.1 u.1 × (u.1.lendings ≡ t.1.lendings) × (u.1.misses ≡ t.1.misses + n)
  missed_left zero g t h u free x = subst (λ (z : L × View). (z.0 ≡ t.0) × HasSeen t.1 z.1 × (z.1.lendings ≡ t.1.lendings) × (z.1.misses ≡ t.1.misses + 0)) (sym x.1) (refl, record { seat = seat_itself t.1 free; front = prefix-refl t.1.front; own = refl }, refl, no_more t.1.misses)
  missed_left (suc n) g t h u free x =
      let one : (m : ℕ) → m + 1 ≡ m + suc n = λ m. let none = x.0 in omega arith in
      let s = seat_itself t.1 free in
      subst (λ (z : L × View). (z.0 ≡ t.0) × HasSeen t.1 z.1 × (z.1.lendings ≡ t.1.lendings) × (z.1.misses ≡ t.1.misses + suc n)) (sym x.1)
      (refl, record { seat = record { session = refl; next_session = refl; spent = refl; free = free; same = s.same; next = s.next; ended = s.ended }; front = prefix-refl t.1.front; own = refl }, refl, one t.1.misses)

  was_busy : (g : G) (t : L × View) (h : G) (u : L × View) → t.1.session ≡ Some caller.session → t.1.holds ≡ false → HasTried lock_takes lock_gives lock_finds lock_misses caller.session (StartWaits Alone caller key op) g t h u
      → (u.0 ≡ t.0) × HasSeen t.1 u.1 × WasBusy t.1 caller key op u.1
  was_busy g t h u mine free x =
      let row = row_left law caller.session g t x.row x.gate x.token mine free x.lent in
      let seen = row_seen caller.session t.1 x.row x.token.1 row.1 (all_map (StartWaits Alone caller key op) (Keeps caller.session) x.row (waited_keeps law caller.session _ _) x.waited) in
      let rest = missed_left x.missed x.gate x.token h u seen.seat.free x.none in (
        rest.0 ∙ row.0,
        seen_on t.1 x.token.1 u.1 seen rest.1,
        record {
          row = x.row;
          missed = x.missed;
          lendings = rest.2 ∙ row.1.lent.lendings;
          misses = rest.3 ∙ ap (λ (n : ℕ). n + x.missed) row.1.lent.misses;
          each = all_map (StartWaits Alone caller key op) (IsBusyAt caller key op) x.row (busy_at caller key op) x.waited;
          tries = x.tries;
        },
      )

  -- the one phase of such a call, and its lendings
  tries_to : (b : Begun) (g : G) (t : L × View) (h : G) (u : L × View) → t.1.session ≡ Some caller.session → t.1.holds ≡ false → (x : Tries lock_takes lock_gives lock_finds lock_misses caller key op g t b h u)
      → (u.0 ≡ t.0) × Lending caller.session t.1 x.lent.did.found x.lent.did.left u.1 × TriesTo t.1 caller key op b u.1
  tries_to b g t h u mine free x =
      let y = x.lent in
      let l = turn_lent law caller.session (trying caller key op b) g t y.row h u mine free (waited_keeps law caller.session _ _) y.lent y.did y.one in
      (l.0, l.1, record { row = y.row; lent = (row_left law caller.session g t y.row h u mine free y.lent).1.lent; turn = y.did; again = x.again })

  pub tried_left : (ended : Result Reply Refusal) (g : G) (t : L × View) (h : G) (u : L × View) → t.1.session ≡ Some caller.session → t.1.holds ≡ false → IsTried lock_takes lock_gives lock_finds lock_misses caller key op g t ended h u
      → (u.0 ≡ t.0) × SeatTried t.1 caller key op ended u.1 × IsBelow caller ended
  tried_left (Ok reply) g t h u mine free x =
      let done : StepDone = x.0 in
      let y = x.2.lent.did in
      let l = tries_to (begun.Done done) g t h u mine free x.2 in
      let place : ℕ = whole_place y.left done.place in
      let made = added caller.session t.1 y.found y.left u.1 (Step caller op key nothing_said None done.reply) done.place l.1 (law.own_steps.done y.found y.left caller key op done y.made.first.may y.made.first.begins) in (
        l.0,
        (record { out = nothing_said; shared_with = None; place = place; asked_for = refl; made = subst (λ (z : Reply). HasMade t.1 u.1 (Step caller op key nothing_said None z) place) x.1 made }, (done, x.1, l.2)),
        call_below y.found caller key op y.made.first.begins.0,
      )
  tried_left (Err r) g t h u mine free x =
      ⊎_elim
      (λ z.
      let y = z.lent.did in
      let begins = y.made.first.begins in
      let l = tries_to (begun.Refused r) g t h u mine free z in
      let noted : u.1.noted ≡ y.found = l.1.noted ∙ begins.1 in
      (l.0, (kept caller.session t.1 y.found y.left u.1 l.1 (law.own_steps.refused y.found y.left caller key op r begins), inr (ap (λ (s : State). first_refusal s caller key op) noted ∙ begins.0, ap (λ (s : State). asks_outside s key op) noted ∙ y.made.alone refl, all_seen caller.session t.1 y.found y.left u.1 l.1, l.2)), tt))
      (λ y. let busy = was_busy g t h u mine free y.1 in (busy.0, (busy.1, inl (y.0, busy.2)), tt))
      x

-- A call on its way to where it is done, refused, or has somebody to ask.
--     Rounds        the lendings so far: loads that it joined in vain
--     rounds_start, rounds_on
--                   before the first of them; one round more
--     needs_on      what a first phase needs stays
--     fits_first    what a first phase needs of a state, under another name of the phase
--     starts_by     a first phase of a caller, under another name of it and of its session
--     tried_by      a first phase that waits for nobody, under another name of it and of what came of it
--     begun_by      these rounds, and a first phase that is the last one
--     at_once       no rounds, and a first phase
--     done_row      a call that ends with its first phase
--     shared_row    one that picks the answer of a load up
use Rattle.jc_engine.proofs.Common.{◌≡◌, Bor, inl, ℕ, zero, suc, List, [], ◌++◌, Result, Ok, refl, sym, subst, append-nil, Caller, Refusal, Bytes, nothing_said, Op, Reply, State, Begun, Started, begun_with, JoinClaim, IsTurn, LentPhase, PhaseLaws, Row, Turn, turn_of, TriesTo, IsAgain, BeginsIfClear, StartsBy, AreRejoins, EndsBy, IsBegunRow, IsCallRow, StartWaits, picking, starting, trying, How, Waits, Alone}
use Rattle.jc_stripe.specs.Outcomes as begun
use Rattle.jc_stripe.specs.Polled as polled
use Rattle.jc_engine.specs.declared.first.BeginCall.{BeginCall}
use Rattle.jc_engine.specs.Stays.{begins-stays}
use Rattle.jc_engine.proofs.Rows.{lent_map, rejoins_keep, row_append, row_since, since_found}

module _ (caller : Caller) (key : Bytes) (op : Op) where
  abbrev pub at_once : (b : Begun) (row : List (State × State)) → IsTurn (starting caller key op b) row → IsBegunRow caller key op b row
  at_once b row x = record { rounds = zero; rejoins = []; first = row; row_is = refl; rejoined = refl; starts = x }

  abbrev pub done_row : (b : Begun) (ended : Result Reply Refusal) (row : List (State × State)) → IsBegunRow caller key op b row → EndsBy b nothing_said ended [] → IsCallRow caller key op nothing_said ended row
  done_row b ended row x ends = record { begun = b; start = row; last = []; row_is = sym (append-nil row); begins = x; ends = ends }

abbrev first_of : Caller → Bor Bytes → Bor Op → How → BeginCall
first_of caller key op how = record { caller = caller; key = key; op = op; how = how }

pub fits_first : (first : BeginCall) (caller : Caller) (key : Bor Bytes) (op : Bor Op) (how : How) (a : State) → first ≡ first_of caller key op how → BeginsIfClear caller key.now a → BeginsIfClear first.caller first.key.now a
fits_first first caller key op how a is needs = subst (λ (p : BeginCall). BeginsIfClear p.caller p.key.now a) (sym is) needs

abbrev as_first : BeginCall → Begun → Turn
as_first p b = turn_of (StartWaits p.how p.caller p.key.now p.op.now) (StartsBy p.how p.caller p.key.now p.op.now b)

pub starts_by : {G T : Type 0} (takes gives : G → T → State → G → T → Type 0) (finds : G → T → State → Type 0) (caller : Caller) (key : Bor Bytes) (op : Bor Op) (n : ℕ) (first : BeginCall) (who : Caller) (b : Begun) (g : G) (t : T) (h : G) (u : T)
    → n ≡ caller.session → who ≡ caller → first ≡ first_of who key op Waits
    → LentPhase takes gives finds n g t (as_first first b) h u → LentPhase takes gives finds caller.session g t (starting caller key.now op.now b) h u
starts_by takes gives finds caller key op n first who b g t h u session same is x =
    lent_map takes gives finds caller.session g t (as_first (first_of caller key op Waits) b) (starting caller key.now op.now b) h u (λ x y waits. inl waits) (λ x y makes. makes)
    (subst (λ (c : Caller). LentPhase takes gives finds caller.session g t (as_first (first_of c key op Waits) b) h u) same
    (subst (λ (p : BeginCall). LentPhase takes gives finds caller.session g t (as_first p b) h u) is
    (subst (λ (m : ℕ). LentPhase takes gives finds m g t (as_first first b) h u) session x)))

pub tried_by : {G T : Type 0} (takes gives : G → T → State → G → T → Type 0) (finds : G → T → State → Type 0) (misses : G → T → G → T → Type 0) (caller : Caller) (key : Bor Bytes) (op : Bor Op) (first : BeginCall) (one other : Started) (reply : Reply) (g : G) (t : T) (h : G) (u : T)
    → first ≡ first_of caller key op Alone → one ≡ other → (lent : LentPhase takes gives finds caller.session g t (as_first first (begun_with one reply)) h u) × IsAgain lent.did.waits
    → TriesTo takes gives finds misses caller key.now op.now g t (begun_with other reply) h u
tried_by takes gives finds misses caller key op first one other reply g t h u is same x =
    let y = subst (λ (p : BeginCall). (lent : LentPhase takes gives finds caller.session g t (as_first p (begun_with one reply)) h u) × IsAgain lent.did.waits) is x in
    let z = subst (λ (s : Started). (lent : LentPhase takes gives finds caller.session g t (trying caller key.now op.now (begun_with s reply)) h u) × IsAgain lent.did.waits) same y in
    record { lent = z.0; again = z.1 }

module _ {G T : Type 0} (takes gives : G → T → State → G → T → Type 0) (finds : G → T → State → Type 0) (caller : Caller) (key : Bytes) (op : Op) where
  abbrev Phase : G → T → Begun → G → T → Type 0
  Phase g t b h u = LentPhase takes gives finds caller.session g t (starting caller key op b) h u

  pub record Rounds (g : G) (t : T) (h : G) (u : T) : Type 0 where
    pub rounds : ℕ
    pub row : List (State × State)
    pub lent : Row takes gives finds caller.session g t row h u
    pub rejoined : AreRejoins caller key op rounds row

  pub rounds_start : (g : G) (t : T) → Rounds g t g t
  rounds_start g t = record { rounds = zero; row = []; lent = (refl, refl); rejoined = refl }

  pub rounds_on : (g : G) (t : T) (h : G) (u : T) (join : JoinClaim) (m : G) (w : T) (k : G) (v : T) → Rounds g t h u → Phase h u (begun.Joined join) m w
      → (n : ℕ) → n ≡ caller.session → LentPhase takes gives finds n m w (picking join polled.Again) k v → Rounds g t k v
  rounds_on g t h u join m w k v so x n session again =
      let y : LentPhase takes gives finds caller.session m w (picking join polled.Again) k v =
      subst (λ (z : ℕ). LentPhase takes gives finds z m w (picking join polled.Again) k v) session again in
      record {
        rounds = suc so.rounds;
        row = so.row ++ (x.row ++ y.row);
        lent = row_append takes gives finds caller.session g t so.row h u (x.row ++ y.row) k v so.lent (row_append takes gives finds caller.session h u x.row m w y.row k v x.lent y.lent);
        rejoined = (so.row, x.row ++ y.row, refl, so.rejoined, record { join = join; joins = x.row; retries = y.row; row_is = refl; joined = x.did; retried = y.did });
      }

  pub needs_on : PhaseLaws → (g : G) (t : T) (h : G) (u : T) → Rounds g t h u → ((a : State) → finds g t a → BeginsIfClear caller key a) → (a : State) → finds h u a → BeginsIfClear caller key a
  needs_on law g t h u so needs a found =
      let s = row_since takes gives finds caller.session law g t so.row h u so.lent (rejoins_keep law caller key op so.rounds so.row so.rejoined) a (since_found takes gives finds caller.session h u a found) in
      begins-stays caller key s.0 a s.2 (needs s.0 s.1)

  pub begun_by : (b : Begun) (g : G) (t : T) (h : G) (u : T) (m : G) (w : T) → Rounds g t h u → Phase h u b m w → (row : List (State × State)) × Row takes gives finds caller.session g t row m w × IsBegunRow caller key op b row
  begun_by b g t h u m w so x = (
    so.row ++ x.row,
    row_append takes gives finds caller.session g t so.row h u x.row m w so.lent x.lent,
    record { rounds = so.rounds; rejoins = so.row; first = x.row; row_is = refl; rejoined = so.rejoined; starts = x.did },
  )

  pub shared_row : (g : G) (t : T) (h : G) (u : T) (join : JoinClaim) (m : G) (w : T) (n : ℕ) (reply : Reply) (place shared_with : ℕ) (k : G) (v : T) → Rounds g t h u → Phase h u (begun.Joined join) m w
      → n ≡ caller.session → LentPhase takes gives finds n m w (picking join (polled.Answer reply place shared_with)) k v
      → (row : List (State × State)) × Row takes gives finds caller.session g t row k v × IsCallRow caller key op nothing_said (Ok reply) row
  shared_row g t h u join m w n reply place shared_with k v so x session answer =
      let start = begun_by (begun.Joined join) g t h u m w so x in
      let last : LentPhase takes gives finds caller.session m w (picking join (polled.Answer reply place shared_with)) k v =
      subst (λ (z : ℕ). LentPhase takes gives finds z m w (picking join (polled.Answer reply place shared_with)) k v) session answer in (
        start.0 ++ last.row,
        row_append takes gives finds caller.session g t start.0 m w last.row k v start.1 last.lent,
        record { begun = begun.Joined join; start = start.0; last = last.row; row_is = refl; begins = start.2; ends = (reply, place, shared_with, refl, refl, last.did) },
      )

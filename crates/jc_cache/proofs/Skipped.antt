-- A session that has passed over call numbers.
--     before_later     an event that is of no call from a number on, is of none from a later number on
--     next_later       the number after a call's is no lower than that after an earlier call's
--     skipped          a session whose next call comes after the call with this number
--     skipped_of       it is of its cache as before
--     skipped_may      and may call it
use Rattle.jc_cache.proofs.Common.{◌≡◌, ◌==◌, ◌||◌, ◌≤◌, ℕ, true, false, not, nat_lt, refl, arith, nat_tests, Event, Step, Evict, is_before_call, one_more, CacheState, IsOf, MayCall, Session}
use Rattle.jc_types.proofs.CallerLemmas.{all_imply}

-- 1. Numbers.

less_later : (session other number a b : ℕ) → a ≤ b → (not (other == session) || nat_lt number a) ≡ true → (not (other == session) || nat_lt number b) ≡ true
less_later session other number a b le h =
    elim (other == session) as (λ x. (not x || nat_lt number a) ≡ true → (not x || nat_lt number b) ≡ true) [
      | true ↦ λ e. (let f : nat_lt number a ≡ true = e in grind (arith, nat_tests))
      | false ↦ λ e. refl
    ] h

pub before_later : (session a b : ℕ) → a ≤ b → (event : Event) → is_before_call session a event ≡ true → is_before_call session b event ≡ true
before_later session a b le (Step who op key out shared_with reply) h = less_later session who.session who.call a b le h
before_later session a b le (Evict key cause) h = refl

pub next_later : (a b : ℕ) → a ≤ b → one_more a ≤ one_more b
next_later a b le = grind (arith, nat_tests)

-- 2. The session.

module _ {I J : Type 0} {D : I → Type 0} {E : J → Type 0} where
  abbrev pub skipped : Session I J D E → ℕ → Session I J D E
  skipped session call = record session { agent = record session.agent { caller = record session.agent.caller { call = call } } }

  pub skipped_of : (cache : CacheState) (session : Session I J D E) (call : ℕ) → IsOf cache session → IsOf cache (skipped session call)
  skipped_of cache session call of = record {
    locks = of.locks;
    count = of.count;
    seats = of.seats;
    held = of.held;
    loads = of.loads;
    writes = of.writes;
    own = of.own;
  }

  pub skipped_may : (cache : CacheState) (session : Session I J D E) (call : ℕ) → session.agent.caller.call ≤ call → MayCall cache session → MayCall cache (skipped session call)
  skipped_may cache session call later may = record {
    own = skipped_of cache session call may.own;
    reservations = may.reservations;
    joins = may.joins;
    numbers = λ i seat there.
        all_imply (is_before_call session.agent.caller.session (one_more session.agent.caller.call)) (is_before_call session.agent.caller.session (one_more call)) seat.1.own
        (before_later session.agent.caller.session (one_more session.agent.caller.call) (one_more call) (next_later session.agent.caller.call call later))
        (may.numbers i seat there);
  }

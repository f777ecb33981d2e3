-- A new session of a cache.
--     map_locks          a mapped row of seats is at the same locks
--     whole_after        the cache's own seats once each has given a session's seat out
--     given_one          its owner, who has given one more out
--     may_give           a session that isn't refused: there may be one more, and it has whom it needs
--     begins_at          it begins with what its owner has noted and seen
--     may_fresh          it may call the cache
use Rattle.jc_cache.proofs.Common.{◌≡◌, ◌&&◌, ◌+◌, ◌<◌, ℕ, Bool, true, false, not, if◌then◌else◌, nat_le, Option, None, Some, IsSome, List, [], ◌∷◌, map, slice_get, refl, sym, ap, subst, ◌∙◌, arith, nat_tests, list_all, TableId, Caller, Config, SESSIONS_MAX, is_before_call, after_split, session_view, session_number, View, one_more, CacheState, CacheOwnerState, noted_by, fronts_of, logs_of, session_refusal, IsOwnSeat, IsWhole, IsSeatAt, BeginsAt, MayCall, own_total, capped, Session}
use Rattle.jc_types.specs.declared.refusal.Refusal.TheVariants.{TooManySessions, NoLoader, NoWriter}
use Rattle.jc_session.specs.declared.counts.Counts.{Counts}
use Rattle.jc_cache.proofs.Rows.{Seated, locks_of, map_get}
use Rattle.jc_cache.proofs.Noted.{noted_same, fronts_same, logs_same}

-- 1. The cache's own seats.

abbrev left : Seated → Seated
left seat = (seat.0, after_split seat.1)

abbrev given_out : Seated → Seated
given_out seat = (seat.0, session_view seat.1)

map_locks : (f : View → View) (seats : List Seated) → locks_of (map (λ (seat : Seated). (seat.0, f seat.1)) seats) ≡ locks_of seats
map_locks f [] = refl
map_locks f (seat ∷ seats) = ap (λ (locks : List TableId). seat.0 ∷ locks) (map_locks f seats)

own_after : (config : Config) (stripe given : ℕ) (view : View) → IsOwnSeat config stripe given view → IsOwnSeat config stripe (given + 1) (after_split view)
own_after config stripe given view own = record {
  of_none = own.of_none;
  gives = ap (λ (o : Option ℕ). Some (session_number o + 1)) own.gives;
  free = own.free;
  unspent = own.unspent;
  config_is = own.config_is;
  stripe_is = own.stripe_is;
  origin_is = own.origin_is;
}

pub whole_after : (config : Config) (given : ℕ) (locks : List TableId) (own new : List Seated) → given < SESSIONS_MAX → IsWhole config given locks own → new ≡ map (λ (seat : Seated). (seat.0, after_split seat.1)) own → IsWhole config (given + 1) locks new
whole_after config given locks own new room whole is = subst (IsWhole config (given + 1) locks) (sym is) record {
  fits = whole.fits;
  few = omega (arith, room);
  count = whole.count;
  own = map_locks after_split own ∙ whole.own;
  each = λ i seat there. let t = map_get left own i seat there in
      subst (λ (s : Seated). IsOwnSeat config i (given + 1) s.1) (sym t.2) (own_after config i given t.0.1 (whole.each i t.0 t.1));
}

pub given_one : (owner : CacheOwnerState) (cache : CacheState) (given : ℕ) (own new : List Seated) → record { cache = cache; given = given; noted = noted_by own; fronts = fronts_of own; logs = logs_of own } ≡ owner
    → new ≡ map (λ (seat : Seated). (seat.0, after_split seat.1)) own
    → record { cache = cache; given = given + 1; noted = noted_by new; fronts = fronts_of new; logs = logs_of new } ≡ record owner { given = owner.given + 1 }
given_one owner cache given own new view is =
    let noted : noted_by new ≡ noted_by own = ap noted_by is ∙ noted_same after_split (λ v. refl) own in
    let fronts : fronts_of new ≡ fronts_of own = ap fronts_of is ∙ fronts_same after_split (λ v. refl) own in
    let logs : logs_of new ≡ logs_of own = ap logs_of is ∙ logs_same after_split (λ v. refl) own in
    (λ j. record { cache = cache; given = given + 1; noted = noted j; fronts = fronts j; logs = logs j }) ∙ ap (λ (o : CacheOwnerState). record o { given = o.given + 1 }) view

-- 2. Who is refused.

open_if : (full no_loader no_writer : Bool) → (if full then Some TooManySessions else (if no_loader then Some NoLoader else (if no_writer then Some NoWriter else None))) ≡ None
    → (full ≡ false) × (no_loader ≡ false) × (no_writer ≡ false)
open_if true no_loader no_writer e = cc
open_if false true no_writer e = cc
open_if false false true e = cc
open_if false false false e = (refl, refl, refl)

has_it : (on has : Bool) → (on && not has) ≡ false → on ≡ true → has ≡ true
has_it true true e is = refl
has_it true false e is = cc
has_it false has e is = cc

pub may_give : (owner : CacheOwnerState) (loader writer : Bool) → session_refusal owner loader writer ≡ None
    → (owner.given < SESSIONS_MAX) × (owner.cache.config.read_through ≡ true → loader ≡ true) × (owner.cache.config.write_through ≡ true → writer ≡ true)
may_give owner loader writer none =
    let parts = open_if (nat_le SESSIONS_MAX owner.given) (owner.cache.config.read_through && not loader) (owner.cache.config.write_through && not writer) none in
    let full = parts.0 in
    (grind (arith, nat_tests), has_it owner.cache.config.read_through loader parts.1, has_it owner.cache.config.write_through writer parts.2)

-- 3. The session.

no_own : (own : List Seated) → own_total (map given_out own) ≡ 0
no_own [] = refl
no_own (seat ∷ seats) = let rest = no_own seats in omega arith

seat_given : (config : Config) (stripe given : ℕ) (view : View) → IsOwnSeat config stripe given view → IsSeatAt config stripe given (session_view view)
seat_given config stripe given view own = record {
  of_session = ap (λ (o : Option ℕ). Some (session_number o)) own.gives;
  free = refl;
  unspent = own.unspent;
  config_is = own.config_is;
  stripe_is = own.stripe_is;
  origin_is = own.origin_is;
}

module _ {I J : Type 0} {D : I → Type 0} {E : J → Type 0} where
  pub begins_at : (owner : CacheOwnerState) (own : List Seated) (session : Session I J D E) → owner.noted ≡ noted_by own → owner.fronts ≡ fronts_of own
      → session.seats.items ≡ map (λ (seat : Seated). (seat.0, session_view seat.1)) own → BeginsAt owner session
  begins_at owner own session noted fronts are = record {
    noted = ap noted_by are ∙ noted_same session_view (λ v. refl) own ∙ sym noted;
    fronts = ap fronts_of are ∙ fronts_same session_view (λ v. refl) own ∙ sym fronts;
    none_lent = λ i seat there. let t = map_get given_out own i seat (ap (λ (seats : List Seated). slice_get seats i) (sym are) ∙ there) in
        (ap (λ (s : Seated). s.1.lendings) t.2, ap (λ (s : Seated). s.1.misses) t.2);
  }

  pub may_fresh : (cache : CacheState) (given : ℕ) (own : List Seated) (session : Session I J D E) → IsWhole cache.config given cache.locks own
      → session.seats.items ≡ map (λ (seat : Seated). (seat.0, session_view seat.1)) own → session.agent.caller ≡ record { session = given; call = 0 } → session.agent.counts ≡ record { reservations = 0; joins = 0; own = 0 } → session.agent.hands.held ≡ 0
      → (cache.config.read_through ≡ true → IsSome session.agent.hands.outside.loader) → (cache.config.write_through ≡ true → IsSome session.agent.hands.outside.writer)
      → MayCall cache session
  may_fresh cache given own session whole are caller counts held loads writes =
      let number : session.agent.caller.session ≡ given = ap (λ (c : Caller). c.session) caller in record {
        own = record {
          locks = ap locks_of are ∙ map_locks session_view own ∙ whole.own;
          count = whole.count;
          seats = λ i seat there. let t = map_get given_out own i seat (ap (λ (seats : List Seated). slice_get seats i) (sym are) ∙ there) in
              subst (λ (s : Seated). IsSeatAt cache.config i session.agent.caller.session s.1) (sym t.2)
              (subst (λ (n : ℕ). IsSeatAt cache.config i n (session_view t.0.1)) (sym number) (seat_given cache.config i given t.0.1 (whole.each i t.0 t.1)));
          held = held;
          loads = loads;
          writes = writes;
          own = ap (λ (c : Counts). c.own) counts ∙ ap capped (sym (ap own_total are ∙ no_own own));
        };
        reservations = ap (λ (c : Counts). c.reservations) counts;
        joins = ap (λ (c : Counts). c.joins) counts;
        numbers = λ i seat there. let t = map_get given_out own i seat (ap (λ (seats : List Seated). slice_get seats i) (sym are) ∙ there) in
            ap (λ (s : Seated). list_all (is_before_call session.agent.caller.session (one_more session.agent.caller.call)) s.1.own) t.2;
      }

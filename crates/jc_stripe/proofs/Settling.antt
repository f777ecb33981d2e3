-- The eviction of an invalidated key, and marks.
--     legal_dropped        the history with such an eviction is legal
--     reached_dropped      a reached state stays reached
--     reached_retold       it stays reached with other marks, and shut or not
--     IsQuiet              what a state leaves of another one that no session sees: it is reached, of the same stripe, with a longer
--                          history; the own steps of all sessions, reservations, joiners and the next number stay, and so do the
--                          entries of reserved keys
--     quiet_end            the end of a reservation
--     quiet_forgetting     an invalidation, and a sweep
use Rattle.std.proofs.Common.{◌≡◌, ◌≤◌, ◌+◌, ◌-◌, ◌||◌, ◌&&◌, ⊎_elim, ℕ, zero, suc, slice_get, List, [], ◌∷◌, ◌++◌, length, map, Bool, true, false, cond, not, Option, None, Some, is_some, nat_le, nat_lt, refl, sym, ap, ◌∙◌, subst, arith, append-nil, append_assoc, if◌then◌else◌}
use Rattle.std.specs.List.{list_all, list_any}
use Rattle.std.specs.Ordering.{eq_by_cmp}
use Rattle.std.specs.FinMap.{from_entries, len, remove, len-remove, get-remove, contains_key}
use Rattle.std.proofs.lemmas.List.{length-append}
use Rattle.std.proofs.lemmas.List.Folds.{list_all-append}
use Rattle.std.proofs.lemmas.Bool.{and_parts, and_from}
use Rattle.std.proofs.lemmas.Bool.Decides.{nat_tests}
use Rattle.std.proofs.lemmas.Cmp.{nat_list_cmp_total}
use Rattle.jc_types.proofs.CallerLemmas.{all_imply, all_filter}
use Rattle.jc_types.specs.declared.config.Config.{Config}
use Rattle.jc_types.specs.declared.caller.Caller.{Caller}
use Rattle.jc_types.specs.declared.limits.TheConstants.{HIT_PLACES, RESERVATIONS_MAX}
use Rattle.jc_model.specs.declared.event.Event.{Event}
use Rattle.jc_model.specs.Cache.{Bytes, Cache, key_cmp, entry_at}
use Rattle.jc_model.specs.Group.{Dropped}
use Rattle.jc_model.specs.Listed.{others}
use Rattle.jc_model.specs.Legal.{IsHistory, in_order, may_come, may_follow}
use Rattle.jc_model.proofs.CallerLemmas.{distinct-others, from_entries-others, same_key, found_holds}
use Rattle.jc_inflight.specs.declared.joiner.Joiner.{Joiner}
use Rattle.jc_inflight.specs.declared.joiner.JoinState.{JoinState}
use Rattle.jc_inflight.specs.declared.joiner.JoinState.TheVariants.{Waiting, Answered, Again}
use Rattle.jc_inflight.specs.Joining.{waits}
use Rattle.jc_entries.specs.ByUse.{is_pinned}
use Rattle.jc_entries.proofs.CallerLemmas.{lru_victim-unpinned}
use Rattle.jc_stripe.specs.State.{State, is_of, is_key, is_reserved, is_marked, with_mark, promised}
use Rattle.jc_stripe.specs.OrderOfUse.{by_use, least_used, pinned}
use Rattle.jc_stripe.specs.Reached.{IsReached, AreReserved, IsUsed, AllJoin, JoinFits, may_end, may_share, is_own}
use Rattle.jc_stripe.specs.Laws.{Extends}
use Rattle.jc_stripe.specs.OnePhase.{own_steps, is_own_step, Forgetting}
use Rattle.jc_stripe.specs.Invalidating.{dropped_event, has_place, without_entry, end_with, after_invalidation, Invalidates, InvalidatesAll, sweep, after_sweep, Sweeps}
use Rattle.jc_stripe.proofs.Used.{by_use-append, find-entry}
use Rattle.jc_stripe.proofs.MarkedKeys.{marks_all}
use Rattle.jc_stripe.proofs.Beside.{all-push, ask_same}
use Rattle.jc_stripe.proofs.Settled.{joins_same}
use Rattle.jc_stripe.proofs.ParkedSteps.{filter-append}
use Rattle.jc_stripe.proofs.Refusing.{clash, split}
use Rattle.jc_stripe.proofs.Lawfully.{history-push, lawful-push, cache_after-push, least_used-there}
use Rattle.jc_stripe.proofs.Stepped.{pinned_key}

-- 1. The history.

order_dropped : (history : List Event) (key : Bytes) → in_order history ≡ true → in_order (history ++ dropped_event key ∷ []) ≡ true
order_dropped [] key h = refl
order_dropped (e ∷ es) key h =
    let parts = and_parts (list_all (may_follow e) es) (in_order es) h in
    and_from _ _ (list_all-append (may_follow e) es (dropped_event key ∷ []) ∙ and_from _ _ parts.0 refl) (order_dropped es key parts.1)

pub legal_dropped : (config : Config) (start : Cache) (history : List Event) (cache : Cache) (key : Bytes) → IsHistory config start history cache → is_some (entry_at cache key) ≡ true
    → IsHistory config start (history ++ dropped_event key ∷ []) (remove cache key)
legal_dropped config start history cache key legal there = record {
  parts = legal.parts ++ Dropped key ∷ [];
  spelled = ap (λ h. h ++ dropped_event key ∷ []) legal.spelled ∙ sym (history-push 0 legal.parts (Dropped key));
  lawful = lawful-push config start legal.parts (Dropped key) legal.lawful (let P : Cache → Type 0 = λ c. is_some (entry_at c key) ≡ true in subst P legal.left there);
  left = ap (λ c. remove c key) legal.left ∙ sym (cache_after-push start legal.parts (Dropped key));
  order = order_dropped history key legal.order;
}

come_dropped : (history : List Event) (key : Bytes) (caller : Caller) (q : Bytes) → list_all (λ e. may_come e caller q) history ≡ true → list_all (λ e. may_come e caller q) (history ++ dropped_event key ∷ []) ≡ true
come_dropped history key caller q h = list_all-append (λ e. may_come e caller q) history (dropped_event key ∷ []) ∙ and_from _ _ h refl

share_dropped : (waits_ : Bool) (before after : Bool) → (before ≡ true → after ≡ true) → (not waits_ || before) ≡ true → (not waits_ || after) ≡ true
share_dropped false before after f h = refl
share_dropped true before after f h = f h

-- 2. The entries.

used_dropped : (state : State) (key : Bytes) → by_use (without_entry state key).opening (without_entry state key).history ≡ others key (by_use state.opening state.history)
used_dropped state key = by_use-append state.opening state.history (dropped_event key ∷ [])

fewer_entries : (cache : Cache) (key : Bytes) → len (remove cache key) ≤ len cache
fewer_entries cache key =
    let h = less (contains_key cache key) (len cache) in
    let P : ℕ → Type 0 = λ n. n ≤ len cache in
    subst P (sym (len-remove nat_list_cmp_total cache key)) h
  where
    less : (b : Bool) (n : ℕ) → cond b (n - 1) n ≤ n
    less true n = omega arith
    less false n = omega arith

-- the entries of reserved keys stay, as the key isn't reserved
pub entry_dropped : (state : State) (key q : Bytes) → is_reserved state key ≡ false → is_reserved state q ≡ true → entry_at (remove state.cache key) q ≡ entry_at state.cache q
entry_dropped state key q free there = get-remove nat_list_cmp_total state.cache key q ∙ go (eq_by_cmp key_cmp q key) (λ e. same_key q key e)
  where
    go : (b : Bool) → (b ≡ true → q ≡ key) → cond b None (entry_at state.cache q) ≡ entry_at state.cache q
    go true same = absurd (clash (is_reserved state key) (ap (is_reserved state) (sym (same refl)) ∙ there) free)
    go false same = refl

pub room_for : (state : State) → has_place state ≡ true → length state.history + promised state + HIT_PLACES ≤ state.config.history
room_for state h = le_of _ _ h
  where
    le_of : (m n : ℕ) → nat_le m n ≡ true → m ≤ n
    le_of m n h = grind (arith, nat_tests)

-- a cached key is one of the stripe's
own_key : (state : State) (key : Bytes) → IsUsed state → is_some (entry_at state.cache key) ≡ true → is_of state key ≡ true
own_key state key used there =
    let entries = by_use state.opening state.history in
    found_holds (is_of state) entries key used.own (ap is_some (find-entry entries key ∙ ap (λ c. entry_at c key) (sym used.cache)) ∙ there)

pub reached_dropped : (state : State) (key : Bytes) → IsReached state → is_reserved state key ≡ false → is_some (entry_at state.cache key) ≡ true → has_place state ≡ true → IsReached (without_entry state key)
reached_dropped state key reached free there place =
    let more : List Event = dropped_event key ∷ [] in
    let kept : (q : Bytes) → list_any (is_key q) state.reservations ≡ true → entry_at (remove state.cache key) q ≡ entry_at state.cache q = λ q e. entry_dropped state key q free e in
    let used = used_dropped state key in
    record {
      config_fits = reached.config_fits;
      chain = reached.chain;
      one_life = reached.one_life;
      opened_once = reached.opened_once;
      opens = reached.opens;
      legal = legal_dropped state.config (from_entries state.opening) state.history state.cache key reached.legal there;
      used = record {
        once = rw used (distinct-others key (by_use state.opening state.history) reached.used.once);
        own = rw used (all_filter (λ (entry : Bytes × Bytes). is_of state entry.0) _ (by_use state.opening state.history) reached.used.own);
        cache = ap (λ c. remove c key) reached.used.cache ∙ sym (from_entries-others key (by_use state.opening state.history)) ∙ ap (from_entries {R = key_cmp}) (sym used);
      };
      own = list_all-append (is_own state) state.history more ∙ and_from _ _ reached.own (and_from _ _ (own_key state key reached.used there) refl);
      keys = reached.keys;
      few_entries = let fewer = fewer_entries state.cache key in let few = reached.few_entries in omega arith;
      few_reservations = reached.few_reservations;
      few_joiners = reached.few_joiners;
      places = let n : length (state.history ++ more) ≡ length state.history + 1 = length-append state.history more in let room = room_for state place in omega arith;
      numbered = reached.numbered;
      asks = ask_same state.config state.cache (remove state.cache key) state.reservations kept reached.asks;
      ends = all_imply (may_end state.history) (may_end (state.history ++ more)) state.reservations (λ r h. come_dropped state.history key r.caller r.key h) reached.ends;
      beside = reached.beside;
      joins = joins_same state (without_entry state key) more reached refl refl refl kept;
      shares = all_imply (may_share state.history) (may_share (state.history ++ more)) state.joiners
          (λ j h. share_dropped (waits j) _ _ (come_dropped state.history key j.caller j.key) h) reached.shares;
      apart = reached.apart;
      between = reached.between;
      marks = reached.marks;
    }

-- 3. Marks.

abbrev retold : State → List Bytes → Bool → State
retold state marked shut = record state { marked = marked; shut = shut }

fits_retold : (old : State) (marked : List Bytes) (shut : Bool) (j : Joiner) (t : JoinState) → JoinFits old j t → JoinFits (retold old marked shut) j t
fits_retold old marked shut j Waiting f = record { load = f.load; missing = f.missing; read_through = f.read_through }
fits_retold old marked shut j (Answered place shared) f = f
fits_retold old marked shut j Again f = tt

joins_retold : (old : State) (marked : List Bytes) (shut : Bool) (js : List Joiner) → AllJoin old js → AllJoin (retold old marked shut) js
joins_retold old marked shut [] all = tt
joins_retold old marked shut (j ∷ js) all = (fits_retold old marked shut j j.state all.0, joins_retold old marked shut js all.1)

pub reached_retold : (state : State) (marked : List Bytes) (shut : Bool) → IsReached state → AreReserved state.reservations marked → IsReached (retold state marked shut)
reached_retold state marked shut reached marks = record {
  config_fits = reached.config_fits;
  chain = reached.chain;
  one_life = reached.one_life;
  opened_once = reached.opened_once;
  opens = reached.opens;
  legal = reached.legal;
  used = record { once = reached.used.once; own = reached.used.own; cache = reached.used.cache };
  own = reached.own;
  keys = reached.keys;
  few_entries = reached.few_entries;
  few_reservations = reached.few_reservations;
  few_joiners = reached.few_joiners;
  places = reached.places;
  numbered = reached.numbered;
  asks = reached.asks;
  ends = reached.ends;
  beside = reached.beside;
  joins = joins_retold state marked shut state.joiners reached.joins;
  shares = reached.shares;
  apart = reached.apart;
  between = reached.between;
  marks = marks;
}

-- 4. What no session sees.

pub record IsQuiet (old new : State) : Type 0 where
  pub reached : IsReached new
  pub grows : Extends old new
  pub own : (session : ℕ) → own_steps session new ≡ own_steps session old
  pub reservations : new.reservations ≡ old.reservations
  pub joiners : new.joiners ≡ old.joiners
  pub next : new.next ≡ old.next
  pub entries : (key : Bytes) → is_reserved old key ≡ true → entry_at new.cache key ≡ entry_at old.cache key

pub quiet_same : (old : State) → IsReached old → IsQuiet old old
quiet_same old reached = record {
  reached = reached;
  grows = record { same = record { config = refl; stripe = refl; origin = refl; lives = refl; ended = refl; opening = refl }; more = []; history = sym (append-nil old.history) };
  own = λ session. refl;
  reservations = refl;
  joiners = refl;
  next = refl;
  entries = λ key h. refl;
}

quiet_retold : (old : State) (marked : List Bytes) (shut : Bool) → IsReached old → AreReserved old.reservations marked → IsQuiet old (retold old marked shut)
quiet_retold old marked shut reached marks = record {
  reached = reached_retold old marked shut reached marks;
  grows = record { same = record { config = refl; stripe = refl; origin = refl; lives = refl; ended = refl; opening = refl }; more = []; history = sym (append-nil old.history) };
  own = λ session. refl;
  reservations = refl;
  joiners = refl;
  next = refl;
  entries = λ key h. refl;
}

quiet_dropped : (old : State) (key : Bytes) → IsReached old → is_reserved old key ≡ false → is_some (entry_at old.cache key) ≡ true → has_place old ≡ true → IsQuiet old (without_entry old key)
quiet_dropped old key reached free there place = record {
  reached = reached_dropped old key reached free there place;
  grows = record { same = record { config = refl; stripe = refl; origin = refl; lives = refl; ended = refl; opening = refl }; more = dropped_event key ∷ []; history = refl };
  own = λ session. filter-append (is_own_step session old.joiners) old.history (dropped_event key ∷ []) ∙ append-nil (own_steps session old);
  reservations = refl;
  joiners = refl;
  next = refl;
  entries = λ q h. entry_dropped old key q free h;
}

-- one after another
pub extends_both : (old mid new : State) → Extends old mid → Extends mid new → Extends old new
extends_both old mid new a b = record {
  same = record {
    config = b.same.config ∙ a.same.config;
    stripe = b.same.stripe ∙ a.same.stripe;
    origin = b.same.origin ∙ a.same.origin;
    lives = b.same.lives ∙ a.same.lives;
    ended = b.same.ended ∙ a.same.ended;
    opening = b.same.opening ∙ a.same.opening;
  };
  more = a.more ++ b.more;
  history = b.history ∙ ap (λ h. h ++ b.more) a.history ∙ append_assoc old.history a.more b.more;
}

-- an event stays where it is
pub there_before : (xs ys : List Event) (place : ℕ) (event : Event) → slice_get xs place ≡ Some event → slice_get (xs ++ ys) place ≡ Some event
there_before [] ys place event h = cc
there_before (x ∷ xs) ys zero event h = h
there_before (x ∷ xs) ys (suc place) event h = there_before xs ys place event h

quiet_both : (old mid new : State) → IsQuiet old mid → IsQuiet mid new → IsQuiet old new
quiet_both old mid new a b = record {
  reached = b.reached;
  grows = extends_both old mid new a.grows b.grows;
  own = λ session. b.own session ∙ a.own session;
  reservations = b.reservations ∙ a.reservations;
  joiners = b.joiners ∙ a.joiners;
  next = b.next ∙ a.next;
  entries = λ key h. b.entries key (ap (list_any (is_key key)) a.reservations ∙ h) ∙ a.entries key h;
}

-- 5. The end of a reservation.

pub quiet_end : (marked : Bool) (ended : State) (key : Bytes) → IsReached ended → is_reserved ended key ≡ false → (is_some (entry_at ended.cache key) ≡ true → has_place ended ≡ true) → IsQuiet ended (end_with marked ended key)
quiet_end marked ended key reached free place = go marked (is_some (entry_at ended.cache key)) refl
  where
    go : (m b : Bool) → is_some (entry_at ended.cache key) ≡ b → IsQuiet ended (if m && b then without_entry ended key else ended)
    go true true e = quiet_dropped ended key reached free e (place e)
    go true false e = quiet_same ended reached
    go false b e = quiet_same ended reached

-- 6. An invalidation, and a sweep.

quiet_mark : (old : State) (key : Bytes) → IsReached old → is_reserved old key ≡ true → IsQuiet old (with_mark old key)
quiet_mark old key reached there = go (is_marked old key) (nat_lt (length old.marked) RESERVATIONS_MAX)
  where
    go : (b few : Bool) → IsQuiet old (if b then old else (if few then record old { marked = old.marked ++ key ∷ [] } else record old { marked = map (λ r. r.key) old.reservations }))
    go true few = quiet_same old reached
    go false true = quiet_retold old (old.marked ++ key ∷ []) old.shut reached (all-push (λ (k : Bytes). list_any (is_key k) old.reservations) old.marked key reached.marks there)
    go false false = quiet_retold old (map (λ r. r.key) old.reservations) old.shut reached (marks_all old.reservations)

quiet_invalidated : (old : State) (key : Bytes) → IsReached old → IsQuiet old (after_invalidation old key)
quiet_invalidated old key reached = go (is_reserved old key) (is_some (entry_at old.cache key)) (has_place old) refl refl refl
  where
    go : (reserved there place : Bool) → is_reserved old key ≡ reserved → is_some (entry_at old.cache key) ≡ there → has_place old ≡ place
        → IsQuiet old (if reserved then with_mark old key else (if there then (if place then without_entry old key else record old { shut = true }) else old))
    go true there place r e p = quiet_mark old key reached r
    go false false place r e p = quiet_same old reached
    go false true true r e p = quiet_dropped old key reached r e p
    go false true false r e p = quiet_retold old old.marked true reached reached.marks

-- the least recently used key that isn't reserved has an entry, and isn't reserved
pub record IsLeast (old : State) (key : Bytes) : Type 0 where
  pub free : is_reserved old key ≡ false
  pub there : is_some (entry_at old.cache key) ≡ true

pub is_least : (old : State) (key : Bytes) → IsReached old → least_used old ≡ Some key → IsLeast old key
is_least old key reached h = record {
  free = split (is_reserved old key) (is_reserved old key ≡ false)
      (λ e. absurd (clash (is_pinned (pinned old.reservations) key) (pinned_key key old.reservations e) (lru_victim-unpinned (by_use old.opening old.history) (pinned old.reservations) key h))) (λ e. e);
  there = least_used-there old key reached.used h;
}

quiet_swept : (old : State) → IsReached old → IsQuiet old (after_sweep old)
quiet_swept old reached = go old.shut
  where
    by_place : (key : Bytes) (place : Bool) → least_used old ≡ Some key → has_place old ≡ place → IsQuiet old (if place then without_entry old key else old)
    by_place key true least p = let l = is_least old key reached least in quiet_dropped old key reached l.free l.there p
    by_place key false least p = quiet_same old reached

    by_least : (least : Option Bytes) → least_used old ≡ least → IsQuiet old (sweep old least)
    by_least None h = quiet_retold old old.marked false reached reached.marks
    by_least (Some key) h = by_place key (has_place old) h refl

    go : (b : Bool) → IsQuiet old (if b then sweep old (least_used old) else old)
    go true = by_least (least_used old) refl
    go false = quiet_same old reached

pub quiet_forgetting : (old new : State) → IsReached old → Forgetting old new → IsQuiet old new
quiet_forgetting old new reached phase =
    ⊎_elim (λ (i : (key : Bytes) × Invalidates old key new). subst (IsQuiet old) (sym i.1) (quiet_invalidated old i.0 reached))
    (λ rest. ⊎_elim (λ (a : InvalidatesAll old new). subst (IsQuiet old) (sym a) (quiet_retold old (pinned old.reservations) true reached (marks_all old.reservations)))
    (λ (s : Sweeps old new). subst (IsQuiet old) (sym s) (quiet_swept old reached)) rest) phase

pub reached_invalidated : (old new : State) (key : Bytes) → IsReached old → Invalidates old key new → IsReached new
reached_invalidated old new key reached h = subst IsReached (sym h) (quiet_invalidated old key reached).reached

pub reached_invalidated_all : (old new : State) → IsReached old → InvalidatesAll old new → IsReached new
reached_invalidated_all old new reached h = subst IsReached (sym h) (quiet_retold old (pinned old.reservations) true reached (marks_all old.reservations)).reached

pub reached_swept : (old new : State) → IsReached old → Sweeps old new → IsReached new
reached_swept old new reached h = subst IsReached (sym h) (quiet_swept old reached).reached

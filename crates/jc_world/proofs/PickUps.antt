-- A call that has joined a load, from its join to the pick-up that ends it.
--     Follows            a join is there, and the joiner in the stripe of its key tells what has become of the load
--     follows_step       an event that doesn't end the join keeps it so, with what it shows
--     follows_run        so does a run
--     part_of_out        the part of a reservation that is out
--     follows_joined     it is so if the call has just joined
--     resolves           so what a pick-up shows is what has become of the load
--     answers_joins      the whole, from the join to the pick-up
use Rattle.jc_world.proofs.Common.{◌≡◌, ℕ, Bool, true, false, cond, not, ◌&&◌, ◌||◌, List, [], ◌∷◌, ◌++◌, is_some, IsSomeAnd, ◌==◌, slice_get, slice_set, find, Some, None, Option, option_map, zip, sym, refl, ap, ◌∙◌, subst, inl, inr, append_assoc, append-nil, eq-eqb, and_from, or_parts, false_from_ne_true, nat_eq_equiv, nat_list_eq_equiv, pointwise, get, remove, list_any, Caller, Config, Bytes, Op, Get, belongs_to_same, belongs_to, JoinState, Again, Answered, Waiting, Joiner, with_joiner, without_joiner, told_to, State, is_key, reservation_of, IsOut, asks_loader, JoinClaim, Reservation, Outcome, Part, Shown, WorldEvent, CallState, has_number, op_at, with_stripe, with_phase, not_over, with_join, StartsAs, Picks, step_of, eviction_place, Invalidates, EvictionPlace, Stepped, out_of_part, without_key, after_resolve, after_dissolve, Happens, Step, Run, fits, ends_join, is_last_pick_up, ends_load, Resolves, IsCallOf, IsHeld, IsOwned, IsSoundWorld, JoinKey, join_key, Joins, WorldState, home, stripe_for, open_call, of_call, part_of, join_of, has_join, is_joined}
use Rattle.jc_world.proofs.Lemmas.{is_some_and, found_test, fact_found, found_number, same_bytes, of_call-at, joiner_of, find_kept, joined_last, join_at, load_there, MayStart, may_start_at, part_key, at_stripe_apart, stripe_put, found_more, KeyChange, by_nothing, by_refusal, by_step, by_reservation, by_join, by_commit, by_withdrawal, by_mark, by_answer, by_retry, plain, dropping, ends_as, is_end, EndLeaves, end_leaves, BackLeaves, back_leaves, invalid_same, StripeChange, by_invalidation, by_key, beside_stripes, by_reopening, change_of, may_of, some_of}
use Rattle.jc_world.proofs.Maps.{joins_ordered, get-here, get-beside, get-left}
use Rattle.jc_world.proofs.Kept.{some_map}
use Rattle.jc_world.proofs.Joins.{no_joiner}
use Rattle.jc_world.proofs.JoinedLoads.{Shows, step_shown, Tells, TellsOf, TellsIn, none_of_key, tells_on, tells_kept, tells_committed, tells_withdrawn}
use Rattle.jc_world.proofs.Reopening.{no_calls, may_reopen}
use Rattle.jc_world.proofs.Sounding.{Laws, sound_step, sound_run}

-- 1. From world to world.

pub record Follows (w : WorldState) (shows : Shows) (join : JoinClaim) (r : Reservation) : Type 0 where
  pub key_is : r.key ≡ join.key
  pub join_is : join_of w join.caller.call join.key ≡ Some join
  pub joiner : IsSomeAnd (stripe_for w join.key) (TellsIn (home w join.key) shows join r)

-- the stripe of a key is another, and the join is still there
follows_set : (w n : WorldState) (shows more : Shows) (join : JoinClaim) (r : Reservation) (key : Bytes) (from to : State) → Follows w shows join r → n.config ≡ w.config → n.stripes ≡ slice_set w.stripes (home w key) to
    → stripe_for w key ≡ Some from → join_of n join.caller.call join.key ≡ Some join → ((home w key ≡ home w join.key → ⊥) → list_any (ends_load r) more ≡ false)
    → (TellsIn (home w join.key) shows join r from → TellsIn (home w join.key) (shows ++ more) join r to) → Follows n (shows ++ more) join r
follows_set w n shows more join r key from to h config stripes there joined none phase =
    let m = home w join.key in
    record {
      key_is = h.key_is;
      join_is = joined;
      joiner = rw config (rw stripes
          (at_stripe_apart w.stripes (home w key) m from to (λ o x. IsSomeAnd o (TellsIn m shows join r) → IsSomeAnd x (TellsIn m (shows ++ more) join r)) there (λ same. phase)
          (λ apart. some_map (slice_get w.stripes m) (TellsIn m shows join r) (TellsIn m (shows ++ more) join r) (λ s t. tells_kept m shows more join r s s [] (sym (append-nil s.joiners)) (none apart) (λ o. o) t))
          h.joiner));
    }

-- the stripes and the joins are the same
follows_same : (w n : WorldState) (shows more : Shows) (join : JoinClaim) (r : Reservation) → Follows w shows join r → n.config ≡ w.config → n.stripes ≡ w.stripes → n.joins ≡ w.joins → list_any (ends_load r) more ≡ false
    → Follows n (shows ++ more) join r
follows_same w n shows more join r h config stripes joins none =
    let m = home w join.key in
    record {
      key_is = h.key_is;
      join_is = ap (λ (m : Joins). get m (join_key join)) joins ∙ h.join_is;
      joiner = rw config (rw stripes
          (some_map (slice_get w.stripes m) (TellsIn m shows join r) (TellsIn m (shows ++ more) join r) (λ s t. tells_kept m shows more join r s s [] (sym (append-nil s.joiners)) none (λ o. o) t) h.joiner));
    }

-- in a world that is another only beside them
follows_beside : (w n m : WorldState) (shows more : Shows) (join : JoinClaim) (r : Reservation) → Follows w shows join r → n ≡ m → m.config ≡ w.config → m.stripes ≡ w.stripes → m.joins ≡ w.joins → list_any (ends_load r) more ≡ false
    → Follows n (shows ++ more) join r
follows_beside w n m shows more join r h is config stripes joins none =
    rw is (follows_same w m shows more join r h config stripes joins none)

-- a pick-up of another join leaves this one, and its joiner
follows_others : (w new : WorldState) (call : ℕ) (key : Bytes) (other : JoinClaim) (from to : State) (shows more : Shows) (join : JoinClaim) (r : Reservation) → join_of w call key ≡ Some other → stripe_for w key ≡ Some from → to ≡ without_joiner from other
    → (call ≡ join.caller.call → key ≡ join.key → ⊥) → new.config ≡ w.config → new.stripes ≡ slice_set w.stripes (home w key) to → new.joins ≡ remove w.joins (call, key)
    → list_any (ends_load r) more ≡ false → IsSoundWorld w → Follows w shows join r → Follows new (shows ++ more) join r
follows_others w new call key other from to shows more join r found there after apart config stripes joins none old f =
    let is = join_at w call key other found old.joins in
    let left : join_of new join.caller.call join.key ≡ Some join =
    ap (λ (m : Joins). get m (join_key join)) joins
    ∙ get-left joins_ordered w.joins (call, key) (join_key join) (λ same. apart (sym (ap (λ (at : JoinKey). at.0) same)) (sym (ap (λ (at : JoinKey). at.1) same)))
    ∙ f.join_is
    in
    let Q : Joiner → Type 0 = TellsOf (home w join.key) (shows ++ more) to r in
    let kept : joiner_of join.caller join.key to.joiners ≡ joiner_of join.caller join.key from.joiners =
    ap (λ (s : State). joiner_of join.caller join.key s.joiners) after
    ∙ find_kept (belongs_to join.caller join.key) (λ x. not (belongs_to other.caller other.key x)) from.joiners (λ x mine. ap not (false_from_ne_true (belongs_to other.caller other.key x) (λ its.
    let a = belongs_to_same join.caller join.key x mine in
    let b = belongs_to_same other.caller other.key x its in
    apart (sym is.0 ∙ ap (λ (c : Caller). c.call) (sym b.0 ∙ a.0)) (sym is.1 ∙ sym b.1 ∙ a.1))))
    in
    follows_set w new shows more join r key from to f config stripes there left (λ other_home. none)
    (λ t. let J : Option Joiner → Type 0 = λ o. IsSomeAnd o Q in
    subst J (sym kept)
    (some_map (joiner_of join.caller join.key from.joiners) (TellsOf (home w join.key) shows from r) Q
    (λ j k. (k.0, tells_on (home w join.key) shows more from to r j.state (λ waits out. (ap (λ (s : State). reservation_of s r.key) after ∙ out, none)) k.1)) t))

-- a pick-up that ends a join, and isn't the last of this one, is of another
of_another : (call mine : ℕ) (key own : Bytes) (seen : Outcome) → ((call == mine) && pointwise ◌==◌ own key && ends_join seen) ≡ false → ends_join seen ≡ true → call ≡ mine → key ≡ own → ⊥
of_another call mine key own seen other ends same_call same_key =
    let t : true ≡ false =
    sym (and_from ((call == mine) && pointwise ◌==◌ own key) (ends_join seen) (and_from (call == mine) (pointwise ◌==◌ own key) (eq-eqb call mine same_call) (ap (pointwise ◌==◌ own) same_key ∙ nat_list_eq_equiv.refl own)) ends) ∙ other
    in
    cc

-- a load is committed
follows_committed : (w new : WorldState) (call : ℕ) (key : Bytes) (part : Part) (from to : State) (x : Stepped) (seen : Shown) (shows : Shows) (join : JoinClaim) (r : Reservation) → seen.outcome ≡ Outcome.Stepped x → part_of w call key ≡ Some part → stripe_for w key ≡ Some from
    → x.stripe ≡ home w key → IsOut from part.reservation → to.reservations ≡ without_key part.reservation.key from.reservations → to.joiners ≡ after_resolve part.reservation.number x.place from.joiners
    → new.config ≡ w.config → new.stripes ≡ slice_set w.stripes (home w key) to → new.joins ≡ w.joins → IsSoundWorld w → Follows w shows join r → Follows new (shows ++ (WorldEvent.Commit call key, seen) ∷ []) join r
follows_committed w new call key part from to x seen shows join r shows_it part_is there home_is out left joiners config stripes joins old f =
    let p = part.reservation in
    subst (λ (s : Shown). Follows new (shows ++ (WorldEvent.Commit call key, s) ∷ []) join r) (sym (λ i. record { outcome = shows_it i; over = seen.over }))
    (follows_set w new shows ((WorldEvent.Commit call key, step_shown x seen.over) ∷ []) join r key from to f config stripes there
    (ap (λ (m : Joins). get m (join_key join)) joins ∙ f.join_is)
    (λ apart. ap (λ b. b || false) (none_of_key r call key (step_shown x seen.over) (λ same. apart (ap (home w) (sym same ∙ f.key_is)))))
    (tells_committed (home w join.key) call key shows join p r from to x seen.over (old.shape.each (home w key) from there).reached out
    (of_call-at call (get w.parts key) part part_is).1 (part_key w call key part part_is old) (λ same. home_is ∙ ap (home w) (sym same ∙ f.key_is)) left joiners))

-- and withdrawn
follows_withdrawn : (w new : WorldState) (call : ℕ) (key : Bytes) (part : Part) (from to : State) (evicted : Option EvictionPlace) (seen : Shown) (shows : Shows) (join : JoinClaim) (r : Reservation) → seen ≡ not_over (Outcome.Withdrawn evicted) → part_of w call key ≡ Some part
    → stripe_for w key ≡ Some from → IsOut from part.reservation → to.reservations ≡ without_key part.reservation.key from.reservations → to.joiners ≡ after_dissolve part.reservation.number from.joiners
    → new.config ≡ w.config → new.stripes ≡ slice_set w.stripes (home w key) to → new.joins ≡ w.joins → IsSoundWorld w → Follows w shows join r → Follows new (shows ++ (WorldEvent.Withdraw call key, seen) ∷ []) join r
follows_withdrawn w new call key part from to evicted seen shows join r shows_it part_is there out left joiners config stripes joins old f =
    subst (λ (s : Shown). Follows new (shows ++ (WorldEvent.Withdraw call key, s) ∷ []) join r) (sym shows_it)
    (follows_set w new shows ((WorldEvent.Withdraw call key, not_over (Outcome.Withdrawn evicted)) ∷ []) join r key from to f config stripes there
    (ap (λ (m : Joins). get m (join_key join)) joins ∙ f.join_is)
    (λ apart. ap (λ b. b || false) (none_of_key r call key (not_over (Outcome.Withdrawn evicted)) (λ same. apart (ap (home w) (sym same ∙ f.key_is)))))
    (tells_withdrawn (home w join.key) call key shows join part.reservation r from to evicted (old.shape.each (home w key) from there).reached out
    (of_call-at call (get w.parts key) part part_is).1 (part_key w call key part part_is old) left joiners))

-- a key is invalidated
follows_invalidated : (w new : WorldState) (key : Bytes) (from to : State) (seen : Shown) (shows : Shows) (join : JoinClaim) (r : Reservation) → stripe_for w key ≡ Some from → Invalidates from key to → new ≡ record (with_phase w key from to) { is_fresh = false }
    → Follows w shows join r → Follows new (shows ++ (WorldEvent.Invalidate key, seen) ∷ []) join r
follows_invalidated w new key from to seen shows join r there made is f =
    let more : Shows = (WorldEvent.Invalidate key, seen) ∷ [] in
    let joiners : to.joiners ≡ from.joiners = ap (λ (s : State). s.joiners) made ∙ invalid_same (λ s. s.joiners) from key (λ m. refl) refl refl in
    let held : reservation_of to r.key ≡ reservation_of from r.key = ap (λ (s : State). reservation_of s r.key) made ∙ invalid_same (λ s. reservation_of s r.key) from key (λ m. refl) refl refl in
    follows_set w new shows more join r key from to f (ap (λ (x : WorldState). x.config) is) (ap (λ (x : WorldState). x.stripes) is) there
    (ap (λ (x : WorldState). join_of x join.caller.call join.key) is ∙ f.join_is) (λ apart. refl)
    (tells_kept (home w join.key) shows more join r from to [] (joiners ∙ sym (append-nil from.joiners)) refl (λ out. held ∙ out))

-- by the kind of the change at a key
follows_key : (w new : WorldState) (e : WorldEvent) (key : Bytes) (seen : Shown) (shows : Shows) (join : JoinClaim) (r : Reservation) → KeyChange w new e key seen → fits w e ≡ true → is_last_pick_up join.caller.call join.key (e, seen) ≡ false
    → IsSoundWorld w → Follows w shows join r → Follows new (shows ++ (e, seen) ∷ []) join r
follows_key w new e key seen shows join r (by_nothing is none ends) fit last old f = follows_beside w new w shows _ join r f is refl refl refl (ap (λ b. b || false) (ends r))
follows_key w new e key seen shows join r (by_refusal u op refusal may is none ends) fit last old f = follows_beside w new _ shows _ join r f is refl refl refl (ap (λ b. b || false) (ends r))
follows_key w new e key seen shows join r (by_step u op from to x may there h home_is is shows_it ends) fit last old f =
    let after = h.2.after in
    let none = ap (λ b. b || false) (ends r) in
    follows_set w new shows _ join r key from to f (ap (λ (x : WorldState). x.config) is) (ap (λ (x : WorldState). x.stripes) is) there
    (ap (λ (x : WorldState). join_of x join.caller.call join.key) is ∙ f.join_is) (λ apart. none)
    (tells_kept (home w join.key) shows _ join r from to [] (ap (λ (s : State). s.joiners) after ∙ sym (append-nil from.joiners)) none (λ out. ap (λ (s : State). reservation_of s r.key) after ∙ out))
follows_key w new e key seen shows join r (by_reservation u op from to p own may there h is silent ends) fit last old f =
    let none = ap (λ b. b || false) (ends r) in
    follows_set w new shows _ join r key from to f (ap (λ (x : WorldState). x.config) is) (ap (λ (x : WorldState). x.stripes) is) there
    (ap (λ (x : WorldState). join_of x join.caller.call join.key) is ∙ f.join_is) (λ apart. none)
    (tells_kept (home w join.key) shows _ join r from to [] (ap (λ (s : State). s.joiners) h.after ∙ sym (append-nil from.joiners)) none
    (λ out. ap (λ (s : State). reservation_of s r.key) h.after ∙ found_more (is_key r.key) from.reservations (own ∷ []) r out))
follows_key w new e key seen shows join r (by_join u op from to other may there h is silent ends) fit last old f =
    let after = h.3 in
    let none = ap (λ b. b || false) (ends r) in
    let apart : join_key join ≡ join_key other → ⊥ = λ same.
    let other_is : join_key other ≡ (u.caller.call, key) = λ i. join_key (h.2 i) in
    let t : true ≡ false = sym (ap is_some f.join_is) ∙ ap (λ (at : JoinKey). has_join w.joins at.0 at.1) (same ∙ other_is) ∙ (may_of w e key u op may fit old).alone in cc
    in
    follows_set w new shows _ join r key from to f (ap (λ (x : WorldState). x.config) is) (ap (λ (x : WorldState). x.stripes) is) there
    (ap (λ (x : WorldState). join_of x join.caller.call join.key) is ∙ get-beside joins_ordered w.joins (join_key other) other (join_key join) apart ∙ f.join_is) (λ apart. none)
    (tells_kept (home w join.key) shows _ join r from to (record { caller = other.caller; key = other.key; load = other.load; state = Waiting } ∷ []) (ap (λ (s : State). s.joiners) after) none (λ out. ap (λ (s : State). reservation_of s r.key) after ∙ out))
follows_key w new e key seen shows join r (by_commit call part from to x e_is part_is there h home_is is shows_it) fit last old f =
    let after = h.1.after in
    subst (λ e. Follows new (shows ++ (e, seen) ∷ []) join r) (sym e_is)
    (follows_committed w new call key part from to x seen shows join r shows_it part_is there home_is h.0 (ap (λ (s : State). s.reservations) after) (ap (λ (s : State). s.joiners) after)
    (ap (λ (x : WorldState). x.config) is) (ap (λ (x : WorldState). x.stripes) is) (ap (λ (x : WorldState). x.joins) is) old f)
follows_key w new e key seen shows join r (by_withdrawal call part from to e_is part_is there h is shows_it) fit last old f =
    subst (λ e. Follows new (shows ++ (e, seen) ∷ []) join r) (sym e_is)
    (follows_withdrawn w new call key part from to None seen shows join r shows_it part_is there h.0 (ap (λ (s : State). s.reservations) h.1) (ap (λ (s : State). s.joiners) h.1)
    (ap (λ (x : WorldState). x.config) is) (ap (λ (x : WorldState). x.stripes) is) (ap (λ (x : WorldState). x.joins) is) old f)
follows_key w new e key seen shows join r (by_mark from to there out h reached is silent ends) fit last old f =
    let none = ap (λ b. b || false) (ends r) in
    follows_set w new shows _ join r key from to f (ap (λ (x : WorldState). x.config) is) (ap (λ (x : WorldState). x.stripes) is) there
    (ap (λ (x : WorldState). join_of x join.caller.call join.key) is ∙ f.join_is) (λ apart. none)
    (tells_kept (home w join.key) shows _ join r from to [] (ap (λ (s : State). s.joiners) h ∙ sym (append-nil from.joiners)) none (λ out. ap (λ (s : State). reservation_of s r.key) h ∙ out))
follows_key w new e key seen shows join r (by_answer call other from to x e_is found there h home_is is shows_it ends) fit last old f =
    follows_others w new call key other from to shows _ join r found there h.3
    (of_another call join.caller.call key join.key seen.outcome (ap (λ x. is_last_pick_up join.caller.call join.key (x, seen)) (sym e_is) ∙ last) (ap ends_join shows_it))
    (ap (λ (x : WorldState). x.config) is) (ap (λ (x : WorldState). x.stripes) is) (ap (λ (x : WorldState). x.joins) is) (ap (λ b. b || false) (ends r)) old f
follows_key w new e key seen shows join r (by_retry call other from to e_is found there h is shows_it ends) fit last old f =
    follows_others w new call key other from to shows _ join r found there h.2
    (of_another call join.caller.call key join.key seen.outcome (ap (λ x. is_last_pick_up join.caller.call join.key (x, seen)) (sym e_is) ∙ last) (ap ends_join shows_it))
    (ap (λ (x : WorldState). x.config) is) (ap (λ (x : WorldState). x.stripes) is) (ap (λ (x : WorldState). x.joins) is) (ap (λ b. b || false) (ends r)) old f

-- while a call has joined a load, the cache can't be opened again
joined_calls : (w : WorldState) (config : Config) (join : JoinClaim) → join_of w join.caller.call join.key ≡ Some join → fits w (WorldEvent.Reopen config) ≡ true → IsSoundWorld w → ⊥
joined_calls w config join found fit old =
    let waits = old.joins (join_key join) join found in
    let call = some_of (open_call w join.caller.call) (IsCallOf join.caller.session join.key Get) waits.1.call in
    let none = no_calls w (may_reopen w config fit).0 in
    let t : None ≡ Some call.0 = ap (find (has_number join.caller.call)) (sym none) ∙ call.1 in cc

-- what doesn't fit ends no load
unfit_ends : (r : Reservation) (e : WorldEvent) → ends_load r (e, not_over Outcome.Unfit) ≡ false
unfit_ends r (WorldEvent.Commit call key) = refl
unfit_ends r e = refl

-- any event but an end and an invalidation
follows_beside_ends : (w new : WorldState) (e : WorldEvent) (seen : Shown) (shows : Shows) (join : JoinClaim) (r : Reservation) → fits w e ≡ true → is_last_pick_up join.caller.call join.key (e, seen) ≡ false → IsSoundWorld w → Follows w shows join r → StripeChange w new e seen
    → is_end e ≡ false → Follows new (shows ++ (e, seen) ∷ []) join r
follows_beside_ends w new e seen shows join r fit last old f (by_key key (plain k)) none = follows_key w new e key seen shows join r k fit last old f
follows_beside_ends w new e seen shows join r fit last old f (by_key key (dropping mid shown k tells d ends)) none = let t : true ≡ false = sym ends ∙ none in cc
follows_beside_ends w new e seen shows join r fit last old f (by_invalidation key v e_is k is) none = let t : true ≡ false = sym (ap is_end e_is) ∙ none in cc
follows_beside_ends w new e seen shows join r fit last old f (beside_stripes m is config stripes order joins silent ends) none = follows_beside w new m shows _ join r f is config stripes joins (ap (λ b. b || false) (ends r))
follows_beside_ends w new e seen shows join r fit last old f (by_reopening config e_is reopens is) none = absurd (joined_calls w config join f.join_is (ap (fits w) (sym e_is) ∙ fit) old)

follows_happens : (w new : WorldState) (e : WorldEvent) (seen : Shown) (shows : Shows) (join : JoinClaim) (r : Reservation) → fits w e ≡ true → Happens w e seen new → is_last_pick_up join.caller.call join.key (e, seen) ≡ false → IsSoundWorld w → Follows w shows join r
    → Follows new (shows ++ (e, seen) ∷ []) join r
follows_happens w new (WorldEvent.Commit call key) seen shows join r fit h last old f =
    let e = ends_as w new call key h.0 h.2 h.4 seen.outcome h.5 in
    let left = end_leaves h.2 h.4 h.0.reservation (out_of_part h.0) (step_of e.0) e.2 in
    follows_committed w new call key h.0 h.2 h.4 e.0 seen shows join r e.1 h.1 h.3 e.3 left.out left.reservations left.joiners
    (ap (λ (x : WorldState). x.config) e.4) (ap (λ (x : WorldState). x.stripes) e.4) (ap (λ (x : WorldState). x.joins) e.4) old f
follows_happens w new (WorldEvent.Withdraw call key) seen shows join r fit h last old f =
    let left = back_leaves h.2 h.4 h.0.reservation h.5 in
    follows_withdrawn w new call key h.0 h.2 h.4 (eviction_place (home w key) h.2 h.4) seen shows join r h.6 h.1 h.3 left.out left.reservations left.joiners
    (ap (λ (x : WorldState). x.config) h.7) (ap (λ (x : WorldState). x.stripes) h.7) (ap (λ (x : WorldState). x.joins) h.7) old f
follows_happens w new (WorldEvent.Invalidate key) seen shows join r fit h last old f = follows_invalidated w new key h.0 h.2 seen shows join r h.1 h.3 h.5 f
follows_happens w new e seen shows join r fit h last old f = follows_beside_ends w new e seen shows join r fit last old f (change_of w new e seen fit h old) refl

follows_step : (w new : WorldState) (e : WorldEvent) (seen : Shown) (shows : Shows) (join : JoinClaim) (r : Reservation) → Step w e seen new → is_last_pick_up join.caller.call join.key (e, seen) ≡ false → IsSoundWorld w → Follows w shows join r
    → Follows new (shows ++ (e, seen) ∷ []) join r
follows_step w new e seen shows join r (inl (fit, happens)) last old f = follows_happens w new e seen shows join r fit happens last old f
follows_step w new e seen shows join r (inr (unfit, shown_is, is)) last old f = follows_beside w new w shows _ join r f is refl refl refl (ap (λ b. b || false) (ap (λ s. ends_load r (e, s)) shown_is ∙ unfit_ends r e))

-- both tests fail, where not one of them holds
follows_run : Laws → (w new : WorldState) (es : List WorldEvent) (ss : List Shown) (shows : Shows) (join : JoinClaim) (r : Reservation) → Run w es ss new → list_any (is_last_pick_up join.caller.call join.key) (zip es ss) ≡ false → IsSoundWorld w
    → Follows w shows join r → Follows new (shows ++ zip es ss) join r
follows_run laws w new [] [] shows join r run none old f = follows_beside w new w shows [] join r f run refl refl refl refl
follows_run laws w new (e ∷ es) (s ∷ ss) shows join r (mid, step, rest) none old f =
    let parts = or_parts (is_last_pick_up join.caller.call join.key (e, s)) (list_any (is_last_pick_up join.caller.call join.key) (zip es ss)) none in
    let next = follows_step w mid e s shows join r step parts.0 old f in
    rw (append_assoc shows ((e, s) ∷ []) (zip es ss)) at (follows_run laws mid new es ss (shows ++ (e, s) ∷ []) join r rest parts.1 (sound_step laws w e s mid step old) next)
follows_run laws w new es ss shows join r run none old f = absurd run

-- 2. The part of a load that is out.

pub part_of_out : (w : WorldState) (key : Bytes) (s : State) (r : Reservation) → stripe_for w key ≡ Some s → r.key ≡ key → IsOut s r → IsSoundWorld w → (part : Part) × (part_of w r.caller.call r.key ≡ Some part) × (part.reservation ≡ r)
part_of_out w key s r there key_is out old =
    let owned = fact_found (IsOwned w) (is_key r.key) s.reservations r out (old.owned (home w key) s there) in
    let part = some_of (get w.parts r.key) (λ p. p.reservation.caller.call ≡ r.caller.call) owned.part in
    let held = some_of (stripe_for w r.key) (λ x. IsHeld x r.key part.0) (old.held r.key part.0 part.1) in
    let e : Some held.0 ≡ Some s = sym held.1 ∙ ap (stripe_for w) key_is ∙ there in
    let here : held.0 ≡ s = cc in
    let t : Some part.0.reservation ≡ Some r = sym (rw here at held.2.out) ∙ ap (reservation_of s) held.2.key_is ∙ out in (
      part.0,
      ap (of_call r.caller.call) part.1 ∙ ap (λ b. cond b (Some part.0) None) (eq-eqb part.0.reservation.caller.call r.caller.call part.2),
      cc,
    )

-- 3. The join, and the pick-up.

-- a load that is joined on a condition can be joined
can_join : (b : Bool) (o : Option ℕ) (load : ℕ) → cond b o None ≡ Some load → o ≡ Some load
can_join true o load h = h
can_join false o load h = cc

-- what has just been joined is followed
follows_joined : (w : WorldState) (u : CallState) (key : Bytes) (op : Op) (from to : State) (join : JoinClaim) (r : Reservation) → stripe_for w key ≡ Some from → join ≡ record { caller = u.caller; key = key; load = join.load } → to ≡ with_joiner from join
    → r.key ≡ key → r.number ≡ join.load → IsOut from r → MayStart w u key op → IsSoundWorld w → Follows (with_join (with_stripe w key to) join) [] join r
follows_joined w u key op from to join r there join_is_of to_is r_key r_number out may old =
    let call_is : join.caller.call ≡ u.caller.call = ap (λ (j : JoinClaim). j.caller.call) join_is_of in
    let key_is : join.key ≡ key = ap (λ (j : JoinClaim). j.key) join_is_of in
    let next : Joiner = record { caller = join.caller; key = join.key; load = join.load; state = Waiting } in
    let new : WorldState = with_join (with_stripe w key to) join in
    let free : is_joined w join.caller.call join.key ≡ false = (λ i. is_joined w (call_is i) (key_is i)) ∙ may.alone in
    let Q : Joiner → Type 0 = TellsOf (home w join.key) [] to r in
    let I : State → Type 0 = TellsIn (home w join.key) [] join r in
    record {
      key_is = r_key ∙ sym key_is;
      join_is = get-here joins_ordered w.joins (join_key join) join;
      joiner = is_some_and (stripe_for new join.key) I to (ap (λ k. slice_get new.stripes (home w k)) key_is ∙ stripe_put w.stripes (home w key) from to there)
          (rw (ap (λ (s : State). s.joiners) to_is)
          (joined_last Q (belongs_to join.caller join.key) from.joiners next (no_joiner w key from join there free old)
          (and_from _ _ (and_from _ _ (nat_eq_equiv.refl join.caller.session) (nat_eq_equiv.refl join.caller.call)) (nat_list_eq_equiv.refl join.key))
          (sym r_number, (ap (λ (s : State). reservation_of s r.key) to_is ∙ out, refl))));
    }

-- what is told of a joiner whose state is known
known_at : (number : ℕ) (shows : Shows) (join : JoinClaim) (r : Reservation) (s : State) (state : JoinState) → told_to s join ≡ Some state → TellsIn number shows join r s → Tells number shows s r state
known_at number shows join r s state is h =
    let j = some_of (joiner_of join.caller join.key s.joiners) (TellsOf number shows s r) h in
    let e : Some j.0.state ≡ Some state = ap (option_map (λ (x : Joiner). x.state)) (sym j.1) ∙ is in
    let same : j.0.state ≡ state = cc in
    subst (Tells number shows s r) same j.2.1

-- by what is shown of the pick-up
resolves_picks : (w new : WorldState) (call : ℕ) (key : Bytes) (join : JoinClaim) (from to : State) (seen : Outcome) (shows : Shows) (r : Reservation) → stripe_for w key ≡ Some from → r.key ≡ key → TellsIn (home w key) shows join r from → IsSoundWorld w
    → Picks w call key join from to seen new → Resolves w shows r seen
resolves_picks w new call key join from to (Outcome.PickedUp seen) shows r there key_is told old h =
    let t = known_at (home w key) shows join r from (Answered seen.place seen.shared) h.0.1 told in
    (t.0, t.1, t.2, t.3 ∙ sym h.1, t.4)
resolves_picks w new call key join from to Outcome.Again shows r there key_is told old h = known_at (home w key) shows join r from Again h.0.1 told
resolves_picks w new call key join from to Outcome.Waits shows r there key_is told old h =
    let out = known_at (home w key) shows join r from Waiting h.0.1 told in
    let part = part_of_out w key from r there key_is out.0 old in
    (part.0, part.1, part.2, out.1)
resolves_picks w new call key join from to seen shows r there key_is told old h = absurd h

-- the pick-up fits, and shows that
resolves : (w new : WorldState) (call : ℕ) (key : Bytes) (join : JoinClaim) (seen : Shown) (shows : Shows) (r : Reservation) → join.caller.call ≡ call → join.key ≡ key → Follows w shows join r → IsSoundWorld w
    → Step w (WorldEvent.PickUp call key) seen new → Resolves w shows r seen.outcome
resolves w new call key join seen shows r call_is key_is f old (inl (fit, (other, found, from, there, to, picks, over))) =
    let e : Some other ≡ Some join = sym found ∙ (λ i. join_of w (sym call_is i) (sym key_is i)) ∙ f.join_is in
    let same : other ≡ join = cc in
    let at = some_of (stripe_for w key) (TellsIn (home w key) shows join r) (subst (λ k. IsSomeAnd (stripe_for w k) (TellsIn (home w k) shows join r)) key_is f.joiner) in
    let t : Some at.0 ≡ Some from = sym at.1 ∙ there in
    let here : at.0 ≡ from = cc in
    let P : JoinClaim → Type 0 = λ j. Picks w call key j from to seen.outcome new in
    resolves_picks w new call key join from to seen.outcome shows r there (f.key_is ∙ key_is) (subst (TellsIn (home w key) shows join r) here at.2) old (subst P same picks)
resolves w new call key join seen shows r call_is key_is f old (inr (unfit, shown_is, is)) =
    let joined = ap is_some ((λ i. join_of w (sym call_is i) (sym key_is i)) ∙ f.join_is) in
    absurd (let t : true ≡ false = sym joined ∙ unfit in cc)

-- 4. From the join to the pick-up.

-- what is asked of the part of a load that was joined
abbrev pub IsAnswered : WorldState → WorldState → Bytes → Shows → Outcome → Type 0
IsAnswered old new key shows seen =
    (load : Part) × (part_of old load.reservation.caller.call key ≡ Some load) × (asks_loader load.reservation.first ≡ true) × (load.reservation.key ≡ key) × Resolves new shows load.reservation seen

-- by what is shown of the first phase
answers_started : Laws → (old joined new newer : WorldState) (call : ℕ) (key : Bytes) (u : CallState) (op : Op) (from to : State) (es : List WorldEvent) (ss : List Shown) (seen : Shown) → open_call old call ≡ Some u → op_at u key ≡ Some op → fits old (WorldEvent.Start call key) ≡ true
    → stripe_for old key ≡ Some from → StartsAs old u.caller key op from to Outcome.Joins joined → IsSoundWorld old → IsSoundWorld joined → Run joined es ss new → list_any (is_last_pick_up call key) (zip es ss) ≡ false
    → Step new (WorldEvent.PickUp call key) seen newer → IsAnswered old new key (zip es ss) seen.outcome
answers_started laws old joined new newer call key u op from to es ss seen here op_is fit there (join, begins, is) sound_old sound_joined run none step =
    let may = may_start_at old call key u op fit here op_is sound_old in
    let load = load_there (reservation_of from key) join.load (can_join _ _ join.load begins.1) in
    let r_key : load.0.key ≡ key = sym (same_bytes key load.0.key (found_test (is_key key) from.reservations load.0 load.1)) in
    let out : IsOut from load.0 = ap (reservation_of from) r_key ∙ load.1 in
    let part = part_of_out old key from load.0 there r_key out sound_old in
    let r = part.0.reservation in
    let call_is : join.caller.call ≡ call = ap (λ (j : JoinClaim). j.caller.call) begins.2 ∙ found_number call old.calls u here in
    let key_is : join.key ≡ key = ap (λ (j : JoinClaim). j.key) begins.2 in
    let f = subst (λ w. Follows w [] join load.0) (sym is) (follows_joined old u key op from to join load.0 there begins.2 begins.3 r_key load.2 out may sound_old) in
    let none_of : list_any (is_last_pick_up join.caller.call join.key) (zip es ss) ≡ false = (λ i. list_any (is_last_pick_up (call_is i) (key_is i)) (zip es ss)) ∙ none in
    let g = follows_run laws joined new es ss [] join load.0 run none_of sound_joined f in
    let resolved = resolves new newer call key join seen (zip es ss) load.0 call_is key_is g (sound_run laws joined new es ss run sound_joined) step in
    let R : Reservation → Type 0 = λ x. (part_of old x.caller.call key ≡ Some part.0) × (asks_loader x.first ≡ true) × (x.key ≡ key) × Resolves new (zip es ss) x seen.outcome in
    let all = subst R (sym part.2) (ap (part_of old load.0.caller.call) (sym r_key) ∙ part.1, load.3, r_key, resolved) in
    (part.0, all.0, all.1, all.2, all.3)

pub answers_joins : Laws → (old joined new newer : WorldState) (call : ℕ) (key : Bytes) (es : List WorldEvent) (ss : List Shown) (seen : Shown) → Step old (WorldEvent.Start call key) (not_over Outcome.Joins) joined → IsSoundWorld old → Run joined es ss new
    → list_any (is_last_pick_up call key) (zip es ss) ≡ false → Step new (WorldEvent.PickUp call key) seen newer → IsAnswered old new key (zip es ss) seen.outcome
answers_joins laws old joined new newer call key es ss seen (inl (fit, (u, op, here, op_is, from, there, to, starts, refuses, over))) sound_old run none step =
    answers_started laws old joined new newer call key u op from to es ss seen here op_is fit there starts sound_old
    (sound_step laws old (WorldEvent.Start call key) (not_over Outcome.Joins) joined (inl (fit, (u, op, here, op_is, from, there, to, starts, refuses, over))) sound_old) run none step
answers_joins laws old joined new newer call key es ss seen (inr (unfit, shown_is, is)) sound_old run none step =
    let t : Outcome.Joins ≡ Outcome.Unfit = ap (λ (s : Shown). s.outcome) shown_is in cc

-- The end of a world: each reservation is over, and then each join.
--     ended          one key less, once its reservation is over
--     none_reserved  with nothing held no key is reserved
--     never_waits    if no key is reserved, no joiner waits
--     held_out, joins_out    what is out in a world that is sound
use Rattle.jc_world.proofs.Common.{◌≡◌, ℕ, ◌+◌, ◌<◌, Bool, true, false, cond, not, ◌&&◌, ◌⊎◌, List, [], ◌∷◌, length, get_or, is_some, IsSomeAnd, ◌==◌, slice_get, slice_set, Some, None, Option, option_map, find, sym, refl, ap, ◌∙◌, subst, inl, inr, arith, not-true, eqb-true, and_parts, and_from, false_from_ne_true, nat_list_cmp_total, eq_by_cmp_equiv, pointwise, texts_ties, empty, get, remove, get-empty, get-remove, list_all, eq_by_cmp, all_imply, all_filter, stripe_of, Config, Bytes, key_cmp, Out, belongs_to, Waiting, Joiner, StaysReached, Ends, GivesBack, without_joiner, PicksUp, JoinFits, AllJoin, IsReached, State, is_of, is_key, without_key, IsOut, IsJoined, JoinClaim, Polled, StepDone, Reservation, Part, IsLeftStripe, AreLeft, out_at, IsPartOut, HasHeld, IsJoinOut, HasJoins, NoneReserved, IsHeld, IsOwned, IsSoundWorld, Parts, JoinKey, join_key, Joins, WorldState, stripe_for}
use Rattle.jc_world.proofs.Lemmas.{set_cases, length-slice_set, each_test, others_left, same_bytes, find_kept, joined_resolved, joined_dissolved, at_stripe, found_left, some_of, within, at_index, EndLeaves, end_leaves, BackLeaves, back_leaves}
use Rattle.jc_world.proofs.Maps.{joins_ordered, each_left}

-- 1. A reservation that is over.

-- what that leaves of its stripe
pub record IsOver (key : Bytes) (from to : State) : Type 0 where
  pub config_is : to.config ≡ from.config
  pub number_is : to.stripe ≡ from.stripe
  pub origin_is : to.origin ≡ from.origin
  pub left : to.reservations ≡ without_key key from.reservations
  pub joins : (j : JoinClaim) → IsJoined from j → IsJoined to j
  pub reached : IsReached to

-- its end
committed : StaysReached → (from to : State) (r : Reservation) (out : Out) (done : StepDone) → IsReached from → Ends from r out done to → IsOver r.key from to
committed stays from to r out done reached h =
    let left = end_leaves from to r out done h in
    record {
      config_is = left.config;
      number_is = left.stripe;
      origin_is = left.origin;
      left = left.reservations;
      joins = λ j t.
          rw left.joiners (joined_resolved (λ x. x.load ≡ j.load) r.number done.place (done.place + 1) j.caller j.key from.joiners (λ place x k. k) t);
      reached = stays.ends from to r out done reached h;
    }

-- its withdrawal
given_back : StaysReached → (from to : State) (r : Reservation) → IsReached from → GivesBack from r to → IsOver r.key from to
given_back stays from to r reached h =
    let left = back_leaves from to r h in
    record {
      config_is = left.config;
      number_is = left.stripe;
      origin_is = left.origin;
      left = left.reservations;
      joins = λ j t.
          rw left.joiners (joined_dissolved (λ x. x.load ≡ j.load) r.number j.caller j.key from.joiners (λ x k. k) t);
      reached = stays.gives_back from to r reached h;
    }

-- the one or the other
pub over : StaysReached → (from to : State) (r : Reservation) → IsReached from → ((out : Out) × (done : StepDone) × Ends from r out done to) ⊎ GivesBack from r to → IsOver r.key from to
over stays from to r reached (inl h) = committed stays from to r h.0 h.1 reached h.2
over stays from to r reached (inr h) = given_back stays from to r reached h

-- the stripes are still reached
pub left_set : (config : Config) (ss : List State) (n : ℕ) (from to : State) → AreLeft config ss → slice_get ss n ≡ Some from → to.config ≡ from.config → to.stripe ≡ from.stripe → to.origin ≡ from.origin → IsReached to → AreLeft config (slice_set ss n to)
left_set config ss n from to left at config_is number_is origin_is reached =
    let was = left.each n from at in
    let now : IsLeftStripe config n to = record { config_is = config_is ∙ was.config_is; number_is = number_is ∙ was.number_is; origin_is = origin_is ∙ was.origin_is; reached = reached } in
    record {
      count = length-slice_set ss n to ∙ left.count;
      each = λ m s. set_cases ss n m to s
          (λ same is. let P : ℕ → Type 0 = λ m. IsLeftStripe config m s in let Q : State → Type 0 = λ s. IsLeftStripe config n s in subst P same (subst Q is now))
          (λ apart here. left.each m s here);
    }

-- what is left if one key is taken out
left_at : (parts left : Parts) (key q : Bytes) → left ≡ remove parts key → get left q ≡ cond (eq_by_cmp key_cmp q key) None (get parts q)
left_at parts left key q is = ap (λ (m : Parts). get m q) is ∙ get-remove nat_list_cmp_total parts key q

-- a choice that gives something isn't the empty one
chosen : {X : Type 0} (b : Bool) (o : Option X) (x : X) → cond b None o ≡ Some x → (b ≡ false) × (o ≡ Some x)
chosen true o x h = cc
chosen false o x h = (refl, h)

-- another key is still out
still_out : (config : Config) (ss : List State) (n : ℕ) (from to : State) (key q : Bytes) (part : Part) → slice_get ss n ≡ Some from → IsOver key from to → eq_by_cmp key_cmp q key ≡ false → IsPartOut config ss q part
    → IsPartOut config (slice_set ss n to) q part
still_out config ss n from to key q part at is apart =
    let F : State → Type 0 = λ s. (part.reservation.key ≡ q) × IsOut s part.reservation in
    at_stripe ss n (stripe_of q config.stripes) from to (λ o y. IsSomeAnd o F → IsSomeAnd y F) at
    (λ h.
    (h.0, rw is.left (found_left part.reservation.key key from.reservations (ap (λ k. eq_by_cmp key_cmp k key) h.0 ∙ apart) ∙ h.1)))
    (λ h. h)

-- each reservation of another key is still held
backs : (parts left : Parts) (key : Bytes) (rs : List Reservation) → left ≡ remove parts key → list_all (λ r. is_some (get parts r.key)) rs ≡ true → list_all (λ r. not (is_key key r)) rs ≡ true
    → list_all (λ r. is_some (get left r.key)) rs ≡ true
backs parts left key [] is h k = refl
backs parts left key (r ∷ rs) is h k =
    let a = and_parts (is_some (get parts r.key)) (list_all (λ (r : Reservation). is_some (get parts r.key)) rs) h in
    let b = and_parts (not (is_key key r)) (list_all (λ (r : Reservation). not (is_key key r)) rs) k in
    let apart : eq_by_cmp key_cmp r.key key ≡ false = (eq_by_cmp_equiv nat_list_cmp_total).symm r.key key ∙ sym (texts_ties key r.key) ∙ not-true (is_key key r) b.0 in
    and_from _ _ (ap is_some (left_at parts left key r.key is ∙ ap (λ b. cond b None (get parts r.key)) apart) ∙ a.0) (backs parts left key rs is a.1 b.1)

-- the reservations of another stripe are of other keys
other_stripe : (config : Config) (key : Bytes) (m : ℕ) (s : State) (rs : List Reservation) → IsLeftStripe config m s → (stripe_of key config.stripes ≡ m → ⊥) → list_all (λ r. is_of s r.key) rs ≡ true → list_all (λ r. not (is_key key r)) rs ≡ true
other_stripe config key m s rs at apart = all_imply (λ (r : Reservation). is_of s r.key) (λ r. not (is_key key r)) rs (λ r mine. ap not (false_from_ne_true (is_key key r) (λ same.
    let keys = same_bytes key r.key same in
    let number : stripe_of r.key s.config.stripes ≡ s.stripe = eqb-true (stripe_of r.key s.config.stripes) s.stripe mine in
    apart (ap (λ k. stripe_of k config.stripes) keys ∙ ap (λ (c : Config). stripe_of r.key c.stripes) (sym at.config_is) ∙ number ∙ at.number_is))))

-- one key less
pub ended : (config : Config) (ss : List State) (from to : State) (parts left : Parts) (key : Bytes) → AreLeft config ss → slice_get ss (stripe_of key config.stripes) ≡ Some from → IsOver key from to → left ≡ remove parts key
    → HasHeld config ss parts → HasHeld config (slice_set ss (stripe_of key config.stripes) to) left
ended config ss from to parts left key are at is less h =
    let n = stripe_of key config.stripes in
    record {
      out = λ q part there.
          let was = chosen (eq_by_cmp key_cmp q key) (get parts q) part (sym (left_at parts left key q less) ∙ there) in
          still_out config ss n from to key q part at is was.0 (h.out q part was.1);
      back = λ m s. set_cases ss n m to s
          (λ same here.
          let B : List Reservation → Type 0 = λ rs. list_all (λ r. is_some (get left r.key)) rs ≡ true in
          let some : list_all (λ r. is_some (get parts r.key)) (without_key key from.reservations) ≡ true =
          all_filter (λ r. is_some (get parts r.key)) (λ r. not (is_key key r)) from.reservations (h.back n from at) in
          subst B (sym is.left ∙ ap (λ (s : State). s.reservations) here) (backs parts left key (without_key key from.reservations) less some (others_left key from.reservations)))
          (λ apart here. backs parts left key s.reservations less (h.back m s here) (other_stripe config key m s s.reservations (are.each m s here) apart (are.each m s here).reached.keys));
      due = λ q part there. h.due q part (chosen (eq_by_cmp key_cmp q key) (get parts q) part (sym (left_at parts left key q less) ∙ there)).1;
    }

-- the joins are still out
pub joins_kept : (config : Config) (ss : List State) (n : ℕ) (from to : State) (joins : Joins) → slice_get ss n ≡ Some from → ((j : JoinClaim) → IsJoined from j → IsJoined to j) → HasJoins config ss joins → HasJoins config (slice_set ss n to) joins
joins_kept config ss n from to joins at keeps h = λ q j is.
    let F : State → Type 0 = λ s. IsJoined s j in
    let o = h q j is in
    (o.0, at_stripe ss n (stripe_of j.key config.stripes) from to (λ o y. IsSomeAnd o F → IsSomeAnd y F) at (keeps j) (λ h. h) o.1)

-- with nothing held no key is reserved
pub none_reserved : (config : Config) (ss : List State) (parts : Parts) → parts ≡ empty → HasHeld config ss parts → NoneReserved ss
none_reserved config ss parts none h = λ n s at. nothing s.reservations (h.back n s at)
  where
    nothing : (rs : List Reservation) → list_all (λ r. is_some (get parts r.key)) rs ≡ true → rs ≡ []
    nothing [] h = refl
    nothing (r ∷ rs) h =
        let t : is_some {T = Part} None ≡ true = sym (ap is_some (ap (λ (m : Parts). get m r.key) none ∙ get-empty key_cmp r.key)) ∙ (and_parts (is_some (get parts r.key)) _ h).0 in cc

-- 2. A join that has its answer.

-- if no key is reserved, no joiner waits
never : (s : State) (p : Joiner → Bool) (js : List Joiner) → s.reservations ≡ [] → AllJoin s js → option_map (λ (j : Joiner). j.state) (find p js) ≡ Some Waiting → ⊥
never s p [] none fits h = cc
never s p (x ∷ xs) none fits h =
    elim (p x) as (λ b. option_map (λ (j : Joiner). j.state) (cond b (Some x) (find p xs)) ≡ Some Waiting → ⊥) [
      | true ↦ λ h.
          let is : x.state ≡ Waiting = cc in
          let finds : JoinFits s x Waiting = subst (JoinFits s x) is fits.0 in
          let t : None ≡ Some x.load = ap (λ (rs : List Reservation). Rattle.jc_stripe.specs.Refusals.load_at (find (is_key x.key) rs)) (sym none) ∙ finds.load in cc
      | false ↦ λ h. never s p xs none fits.1 h
    ] h

pub never_waits : (s to : State) (join back : JoinClaim) → IsReached s → s.reservations ≡ [] → PicksUp s join (Polled.NotYet back) to → ⊥
never_waits s to join back reached none h = never s (belongs_to join.caller join.key) s.joiners none reached.joins h.1

-- so a pick-up takes the joiner out
pub picked_left : (from to : State) (join : JoinClaim) (p : Polled) → IsReached from → from.reservations ≡ [] → PicksUp from join p to → to ≡ without_joiner from join
picked_left from to join (Polled.Answer reply place shared_with) reached none h = h.3
picked_left from to join Polled.Again reached none h = h.2
picked_left from to join (Polled.NotYet back) reached none h = absurd (never_waits from to join back reached none h)

-- a joiner of another call or key stays
other_joined : (from : State) (join j : JoinClaim) → (join_key j ≡ join_key join → ⊥) → IsJoined from j → IsJoined (without_joiner from join) j
other_joined from join j apart h =
    let J : Option Joiner → Type 0 = λ o. IsSomeAnd o (λ x. x.load ≡ j.load) in
    subst J (sym (find_kept (belongs_to j.caller j.key) (λ x. not (belongs_to join.caller join.key x)) from.joiners (λ x t. ap not (false_from_ne_true (belongs_to join.caller join.key x) (λ e.
    let mine = parts_of_test j x t in
    let same = parts_of_test join x e in
    apart (λ i. ((sym mine.0 ∙ same.0) i, (sym mine.1 ∙ same.1) i))))))) h
  where
    parts_of_test : (j : JoinClaim) (x : Joiner) → belongs_to j.caller j.key x ≡ true → (x.caller.call ≡ j.caller.call) × (x.key ≡ j.key)
    parts_of_test j x t =
        let parts = and_parts ((x.caller.session == j.caller.session) && (x.caller.call == j.caller.call)) (pointwise ◌==◌ j.key x.key) t in
        (eqb-true x.caller.call j.caller.call (and_parts (x.caller.session == j.caller.session) (x.caller.call == j.caller.call) parts.0).1, sym (same_bytes j.key x.key parts.1))

-- one join less
pub picked_up : (config : Config) (ss : List State) (from to : State) (joins left : Joins) (q : JoinKey) (join : JoinClaim) → slice_get ss (stripe_of join.key config.stripes) ≡ Some from → to ≡ without_joiner from join → get joins q ≡ Some join → left ≡ remove joins q
    → HasJoins config ss joins → HasJoins config (slice_set ss (stripe_of join.key config.stripes) to) left
picked_up config ss from to joins left q join at is there less h =
    let next = slice_set ss (stripe_of join.key config.stripes) to in
    subst (HasJoins config next) (sym less)
    (each_left joins_ordered (λ p x. (join_key x ≡ p) × IsJoinOut config next x) joins q (λ p x other x_is.
    let F : State → Type 0 = λ s. IsJoined s x in
    let o = h p x x_is in
    let apart : join_key x ≡ join_key join → ⊥ = λ same. other (sym o.0 ∙ same ∙ (h q join there).0) in
    (o.0, at_stripe ss (stripe_of join.key config.stripes) (stripe_of x.key config.stripes) from to (λ o y. IsSomeAnd o F → IsSomeAnd y F) at (λ t. subst F (sym is) (other_joined from join x apart t)) (λ t. t) o.1)))

-- and still no key is reserved
pub none_set : (ss : List State) (n : ℕ) (from to : State) → slice_get ss n ≡ Some from → to.reservations ≡ from.reservations → NoneReserved ss → NoneReserved (slice_set ss n to)
none_set ss n from to at same none = λ m s. set_cases ss n m to s (λ e is. ap (λ (s : State). s.reservations) (sym is) ∙ same ∙ none n from at) (λ apart here. none m s here)

-- 3. The stripe of a held key, and of a join.

-- what is known of it
pub record IsHome (config : Config) (ss : List State) (key : Bytes) (from : State) (P : State → Type 0) : Type 0 where
  pub some : 0 < config.stripes
  pub within_is : stripe_of key config.stripes < length ss
  pub at : from ≡ get_or ss (stripe_of key config.stripes) from → slice_get ss (stripe_of key config.stripes) ≡ Some from
  pub made : from ≡ get_or ss (stripe_of key config.stripes) from → P from

-- of a condition on it
pub home_of : (config : Config) (ss : List State) (key : Bytes) (from : State) (P : State → Type 0) → AreLeft config ss → IsSomeAnd (out_at config ss key) P → IsHome config ss key from P
home_of config ss key from P left h =
    let n = stripe_of key config.stripes in
    let in_it = within ss n P h in
    let count = left.count in
    record {
      some = omega arith;
      within_is = in_it;
      at = λ is. at_index ss n from P h is;
      made = λ is. let Q : Option State → Type 0 = λ o. IsSomeAnd o P in subst Q (at_index ss n from P h is) h;
    }

-- the home of a held key
pub home_of_key : (config : Config) (ss : List State) (parts : Parts) (key : Bytes) (part : Part) (from : State) → get parts key ≡ Some part → AreLeft config ss → HasHeld config ss parts
    → IsHome config ss key from (λ s. (part.reservation.key ≡ key) × IsOut s part.reservation)
home_of_key config ss parts key part from there left h = home_of config ss key from _ left (h.out key part there)

-- its reservation names it
pub key_of : (config : Config) (ss : List State) (parts : Parts) (key : Bytes) (part : Part) → get parts key ≡ Some part → HasHeld config ss parts → part.reservation.key ≡ key
key_of config ss parts key part there h = named (out_at config ss key) (h.out key part there)
  where
    named : (o : Option State) → IsSomeAnd o (λ s. (part.reservation.key ≡ key) × IsOut s part.reservation) → part.reservation.key ≡ key
    named None h = absurd h
    named (Some s) h = h.0

-- and of a join
pub home_of_join : (config : Config) (ss : List State) (joins : Joins) (q : JoinKey) (join : JoinClaim) (from : State) → get joins q ≡ Some join → AreLeft config ss → HasJoins config ss joins → IsHome config ss join.key from (λ s. IsJoined s join)
home_of_join config ss joins q join from there left h = home_of config ss join.key from _ left (h q join there).1

-- 4. What is out in a world that is sound.

-- a part has its reservation
part_out : (w : WorldState) (key : Bytes) (part : Part) (o : Option State) → IsSomeAnd o (λ s. IsHeld s key part) → IsSomeAnd o (λ s. (part.reservation.key ≡ key) × IsOut s part.reservation)
part_out w key part None h = h
part_out w key part (Some s) h = (h.key_is, h.out)

-- the stripes are reached
pub all_left : (w : WorldState) → IsSoundWorld w → AreLeft w.config w.stripes
all_left w sound = record {
  count = sound.shape.count;
  each = λ n s at. let h = sound.shape.each n s at in record { config_is = h.config_is; number_is = h.number_is; origin_is = h.origin_is; reached = h.reached };
}

-- what is held is out
pub held_out : (w : WorldState) → IsSoundWorld w → HasHeld w.config w.stripes w.parts
held_out w sound = record {
  out = λ key part there. part_out w key part (stripe_for w key) (sound.held key part there);
  back = λ n s at. each_test (IsOwned w) (λ r. is_some (get w.parts r.key)) s.reservations (λ r h. ap is_some (some_of (get w.parts r.key) (λ part. part.reservation.caller.call ≡ r.caller.call) h.part).1) (sound.owned n s at);
  due = sound.due;
}

-- each join is joined
pub joins_out : (w : WorldState) → IsSoundWorld w → HasJoins w.config w.stripes w.joins
joins_out w sound = λ q join is. let h = sound.joins q join is in (h.0, h.1.out)

-- Each kind of step keeps the rule of a lock.
use Rattle.std.proofs.Common.{◌≡◌, ◌≢◌, ℕ, zero, suc, ◌+◌, ◌<◌, ◌≤◌, eqb, Bool, true, false, cond, Option, Some, None, ◌⊎◌, inl, inr, ⊎_elim, List, [], ◌∷◌, ◌++◌, length, set, get_or, filter, sym, refl, ap, subst, ◌∙◌, arith, le_refl, ne_eqb, eq-eqb}
use Rattle.std.proofs.lemmas.Bool.{false_from_ne_true, true≢false}
use Rattle.std.proofs.lemmas.Option.{none-some, same_Some}
use mathlib.Core.Option.{some, none, some-injective, some-ne-none}
use mathlib.Core.List.{IsPrefix}
use lib.ListN.{get_elem?}
use prog.Atomic.{either}
use Rattle.atomic_table.specs.Table.{State, Me, keeps, takes, gives, step, Allows, Splits, Joins, opening as table_opening, rest, put_back, Seen}
use Rattle.atomic_table.proofs.Lists.{at_set, set_else, set_again}
use Rattle.jc_stripe.specs.State.{State as StripeState}
use Rattle.jc_stripe.specs.Reached.{IsReached}
use Rattle.jc_model.specs.declared.event.Event.{Event}
use Rattle.jc_stripe.specs.Generations.{past_events, whole_history, IsOfSameStripe, present_generation}
use Rattle.jc_stripe.specs.Renewal.{Renews, Renewal, all_own_steps}
use Rattle.jc_stripe.specs.OnePhase.{OnePhase, is_own_step}
use Rattle.jc_stripe.proofs.CallerLemmas.{of_same, whole_goes_on, own_stay}
use Rattle.jc_lock.specs.declared.view.View.{View}
use Rattle.jc_lock.specs.Views.{IsPhaseBy, IsTurnBy, unopened_view, opened_view, spent_view, Finds, after_take, own_steps_of, after_give, after_miss, session_number, after_split, session_view, front_note, with_note, longer, with_longer_front}
use Rattle.jc_lock.specs.Rule.{SeatFits, LockRule, slot_while}
use Rattle.jc_lock.specs.Plays.{Opens, state_in_hand, Takes, Gives, MergesFronts}
use Rattle.jc_lock.proofs.Prefixes.{prefix-refl, prefix-nil, prefix-trans, same_itself, same_at, same_on, longer-left, longer-right, longer-whole}

at_end : {A : Type 0} (l : List A) (a b : A) (j : ℕ) → get_elem? (l ++ a ∷ []) j ≡ some b → (get_elem? l j ≡ some b) ⊎ ((j ≡ length l) × (a ≡ b))
at_end [] a b zero e = inr (refl, some-injective a b e)
at_end [] a b (suc j) e = absurd (some-ne-none b (sym e))
at_end (x ∷ xs) a b zero e = inl e
at_end (x ∷ xs) a b (suc j) e = ⊎_elim (λ t. inl t) (λ t. inr (ap suc t.0, t.1)) (at_end xs a b j e)

-- what holds of each other view, and of the new one, holds of all
each_set : (P : ℕ → View → Type 0) (views : List View) (id : ℕ) (w : View) → ((j : ℕ) (u : View) → j ≢ id → get_elem? views j ≡ some u → P j u) → P id w → (j : ℕ) (u : View) → get_elem? (set views id w) j ≡ some u → P j u
each_set P views id w others mine j u e =
    ⊎_elim (λ t. subst (λ (z : ℕ × View). P z.0 z.1) (λ i. (sym t.0 i, t.1 i)) mine) (λ t. others j u t.0 t.1) (at_set views id j w u e)

-- what two lists make that have nothing
no_left : (xs ys : List Event) → xs ++ ys ≡ [] → xs ≡ []
no_left [] ys e = refl
no_left (x ∷ xs) ys e = absurd (let n = ap length e in omega arith)

no_right : (xs ys : List Event) → xs ++ ys ≡ [] → ys ≡ []
no_right [] ys e = e
no_right (x ∷ xs) ys e = absurd (let n = ap length e in omega arith)

module _ {B : Type 0} (value : B → StripeState) where
  abbrev St : Type 0
  St = State (Option B) View

  abbrev M : Type 0
  M = Me (Option B) View

  -- one view changes, and it says no more than the state
  quiet : (s : St) (r : LockRule value s) (id : ℕ) (v w : View) (words : List ℕ) → words ≡ s.words → get_elem? s.views id ≡ some v → SeatFits r.seat_of r.giver r.given r.now id w
      → (w.holds ≡ true → (v.holds ≡ true) × (w.noted ≡ v.noted) × (w.spent ≡ v.spent)) → LockRule value record { words = words; homes = s.homes; views = set s.views id w }
  quiet s r id v w words same at fits calm = record {
    seat_of = r.seat_of;
    giver = r.giver;
    given = r.given;
    now = r.now;
    reached = r.reached;
    later = r.later;
    each = each_set (SeatFits r.seat_of r.giver r.given r.now) s.views id w (λ j u _ e. r.each j u e) fits;
    place = ⊎_elim
        (λ lies. inl (
          same ∙ lies.0,
          lies.1,
          each_set (λ j u. u.holds ≡ false) s.views id w (λ j u _ e. lies.2 j u e) (false_from_ne_true w.holds (λ h. true≢false (sym (calm h).0 ∙ lies.2 id v at))),
        ))
        (λ held. let out = held.1 in inr (
          held.0,
          (
            same ∙ out.0,
            out.1,
            (
              out.2.0,
              each_set (λ j u. u.holds ≡ true → (j ≡ out.2.0) × (u.noted ≡ r.now) × (u.spent ≡ held.0)) s.views id w (λ j u _ e. out.2.1 j u e)
                  (λ h. let c = calm h in let o = out.2.1 id v at c.0 in (o.0, c.1 ∙ o.1, c.2 ∙ o.2)),
            ),
          ),
        ))
        r.place;
  }

  -- what a take that misses leaves of a view says no more than the view
  pub record IsMiss (missed : View → View) : Type 0 where
    pub fits : (seat_of : ℕ → ℕ) (giver given : ℕ) (now : StripeState) (id : ℕ) (v : View) → SeatFits seat_of giver given now id v → SeatFits seat_of giver given now id (missed v)
    pub calm : (v : View) → (missed v).holds ≡ true → (v.holds ≡ true) × ((missed v).noted ≡ v.noted) × ((missed v).spent ≡ v.spent)

  pub stays : IsMiss (λ v. v)
  stays = record { fits = λ seat_of giver given now id v f. f; calm = λ v h. (h, refl, refl) }

  pub counts : IsMiss after_miss
  counts = record {
    fits = λ seat_of giver given now id v f. record { front = f.front; joined_front = f.joined_front; next = f.next; ended = f.ended; same = f.same; own = f.own; gives = f.gives };
    calm = λ v h. (h, refl, refl);
  }

  takes_it : (missed : View → View) → IsMiss missed → (id : ℕ) (me : M) → me.0.spent ≡ false → me.0.holds ≡ false → Allows (LockRule value) 1 id me 0 (λ n. either (eqb n 0) 1 n) (Takes value missed (step 1 0 0 1 none) me)
  takes_it missed miss_is id me live free s r wide at _ = let v = me.0 in let fit = r.each id v at in
      ⊎_elim
      (λ lies. let b : B = lies.1.0 in let st : StripeState = value b in let is : st ≡ r.now = lies.1.2 in let w : View = after_take v st in (
        w,
        takes 0 (Some b),
        ap (λ h. get_elem? h 0) lies.1.1,
        record {
          seat_of = r.seat_of;
          giver = r.giver;
          given = r.given;
          now = r.now;
          reached = r.reached;
          later = r.later;
          each = each_set (SeatFits r.seat_of r.giver r.given r.now) s.views id w (λ j u _ e. r.each j u e)
              record { front = fit.front; joined_front = fit.joined_front; next = (let e : st.next ≡ r.now.next = ap (λ (z : StripeState). z.next) is in omega arith); ended = subst (λ (z : StripeState). IsPrefix st.ended z.ended) is (prefix-refl st.ended); same = λ _. same_at st r.now is; own = fit.own; gives = fit.gives };
          place = inr (
            false,
            (
              ap (λ ws. set ws 0 (either (eqb (get_or ws 0 0) 0) 1 (get_or ws 0 0))) lies.0,
              ap (λ h. set h 0 none) lies.1.1,
              (id, each_set (λ j u. u.holds ≡ true → (j ≡ id) × (u.noted ≡ r.now) × (u.spent ≡ false)) s.views id w (λ j u _ e h. absurd (true≢false (sym h ∙ lies.2 j u e))) (λ _. (refl, is, live))),
            ),
          );
        },
        (
          (λ _. (
            b,
            refl,
            record {
              reached = subst IsReached (sym is) r.reached;
              front = subst (λ (z : StripeState). IsPrefix v.front (whole_history z)) (sym is) fit.front;
              next = (let e : st.next ≡ r.now.next = ap (λ (z : StripeState). z.next) is in let k = fit.next in omega arith);
              ended = subst (λ (z : StripeState). IsPrefix v.noted.ended z.ended) (sym is) fit.ended;
              same = subst (IsOfSameStripe v.noted) (sym is) (fit.same live);
              own = λ n e. ap (λ (z : StripeState). all_own_steps n z) is ∙ (fit.own n e).2;
              later = λ n m e le. ap (λ (z : StripeState). all_own_steps m z) is ∙ r.later m (let k : n ≡ r.given = (fit.gives n e).1 in omega arith);
            },
          )),
          λ miss. absurd (miss (ap (λ ws. get_or ws 0 0) lies.0)),
        ),
      ))
      (λ held. let out = held.1 in (
        missed v,
        keeps,
        tt,
        quiet s r id v (missed v) (set s.words 0 (either (eqb (get_or s.words 0 0) 0) 1 (get_or s.words 0 0))) (ap (λ ws. set ws 0 (either (eqb (get_or ws 0 0) 0) 1 (get_or ws 0 0))) out.0 ∙ sym out.0) at (miss_is.fits r.seat_of r.giver r.given r.now id v fit) (miss_is.calm v),
        ((λ hit. absurd (let e : 1 ≡ 0 = sym (ap (λ ws. get_or ws 0 0) out.0) ∙ hit in omega arith)), λ _. refl),
      ))
      r.place

  -- what a phase of a seat, or none, keeps
  pub record Follows (o : Option ℕ) (a b : StripeState) : Type 0 where
    pub reached : IsReached b
    pub same : IsOfSameStripe a b
    pub grows : IsPrefix (whole_history a) (whole_history b)
    pub next : a.next ≤ b.next
    pub ended : IsPrefix a.ended b.ended
    pub others : (m : ℕ) → (o ≡ Some m → ⊥) → all_own_steps m b ≡ all_own_steps m a

  follows : OnePhase → (o : Option ℕ) (a b : StripeState) → IsReached a → IsPhaseBy o a b → Follows o a b
  follows law None a b reached p = subst (Follows None a) (sym p) record { reached = reached; same = same_itself a; grows = prefix-refl (whole_history a); next = le_refl a.next; ended = prefix-refl a.ended; others = λ m no. refl }
  follows law (Some who) a b reached p = let u = law who a b reached p in
      record { reached = u.reached; same = of_same a b u.grows; grows = whole_goes_on a b u.grows; next = u.next; ended = subst (IsPrefix a.ended) (sym u.grows.same.ended) (prefix-refl a.ended); others = λ m no. own_stay m a b u.grows.same.ended (u.others m (ne_eqb m who (λ e. no (ap (λ (k : ℕ). Some k) (sym e))))) }

  -- so does a renewal
  renewed : Renewal → (o : Option ℕ) (a b : StripeState) → IsReached a → Renews a b → Follows o a b
  renewed law o a b reached p = let u = law a b reached p in record {
    reached = u.reached;
    same = u.same;
    grows = subst (IsPrefix (whole_history a)) (sym u.whole) (prefix-refl (whole_history a));
    next = (let e = u.next in omega arith);
    ended = subst (λ (z : StripeState). IsPrefix a.ended z.ended) (sym p.after) (present_generation a ∷ [], refl);
    others = λ m no. u.own m;
  }

  turned : OnePhase → Renewal → (o : Option ℕ) (a b : StripeState) → IsReached a → IsTurnBy o a b → Follows o a b
  turned phases renewals o a b reached = ⊎_elim (λ p. follows phases o a b reached p) (λ p. renewed renewals o a b reached p)

  own-known : (o : Option ℕ) (n : ℕ) (a : StripeState) → o ≡ Some n → all_own_steps n a ≡ own_steps_of o a
  own-known o n a e = ap (λ (z : Option ℕ). own_steps_of z a) (sym e)

  gives_it : OnePhase → Renewal → (id : ℕ) (me : M) (b : B) → me.0.holds ≡ true → me.1 ≡ (0, Some b) ∷ rest me.1 → IsTurnBy me.0.session me.0.noted (value b)
      → Allows (LockRule value) 1 id me 0 (λ _. 0) (λ _. Gives value (step 1 0 0 0 none) me 0)
  gives_it law renewals id me b held has phase s r wide at _ = let v = me.0 in let fit = r.each id v at in let st : StripeState = value b in let w : View = after_give v (state_in_hand value me.1) in
      let stated : state_in_hand value me.1 ≡ st = ap (state_in_hand value) has in
      ⊎_elim
      (λ lies. absurd (true≢false (sym held ∙ lies.2 id v at)))
      (λ place. let out = place.1 in let mine = out.2.1 id v at held in let from : IsTurnBy v.session r.now st = subst (λ (z : StripeState). IsTurnBy v.session z st) mine.1 phase in
      let f = turned law renewals v.session r.now st r.reached from in
      let grows : IsPrefix (whole_history r.now) (whole_history st) = f.grows in
      let up : r.now.next ≤ st.next = f.next in
      let fresh : (n : ℕ) → (v.session ≡ Some n → ⊥) → all_own_steps n st ≡ all_own_steps n r.now = λ n no. f.others n no in (
        w,
        gives,
        tt,
        record {
          seat_of = r.seat_of;
          giver = r.giver;
          given = r.given;
          now = st;
          reached = f.reached;
          later = λ n le. fresh n (λ e. let k : n < r.given = (fit.own n e).1 in absurd (omega arith)) ∙ r.later n le;
          each = each_set (SeatFits r.seat_of r.giver r.given st) s.views id w
              (λ j u ne e. let g = r.each j u e in record {
                front = prefix-trans u.front (whole_history r.now) (whole_history st) g.front grows;
                joined_front = prefix-trans u.joined_front (whole_history r.now) (whole_history st) g.joined_front grows;
                next = (let k : u.noted.next ≤ r.now.next = g.next in omega arith);
                ended = prefix-trans u.noted.ended r.now.ended st.ended g.ended f.ended;
                same = λ live. same_on u.noted r.now st (g.same live) f.same;
                own = λ n is. let o = g.own n is in (o.0, o.1, fresh n (λ same. ne (sym o.0 ∙ (fit.own n same).0)) ∙ o.2);
                gives = g.gives;
              })
              (subst (λ (z : StripeState). SeatFits r.seat_of r.giver r.given st id (after_give v z)) (sym stated) record {
                front = prefix-refl (whole_history st);
                joined_front = prefix-trans v.joined_front (whole_history r.now) (whole_history st) fit.joined_front grows;
                next = le_refl st.next;
                ended = prefix-refl st.ended;
                same = λ _. same_itself st;
                own = λ n is. let o = fit.own n is in (o.0, o.1, own-known v.session n st is);
                gives = fit.gives;
              });
          place = inl (
            ap (λ ws. set ws 0 0) out.0,
            (b, ap (put_back s.homes) has ∙ ap (λ h. set h 0 (some (Some b))) out.1, refl),
            each_set (λ j u. u.holds ≡ false) s.views id w
                (λ j u ne e. false_from_ne_true u.holds (λ h. ne ((out.2.1 j u e h).0 ∙ sym mine.0))) refl,
          );
        },
        refl,
      ))
      r.place

  pub learns_it : (id : ℕ) (me : M) → Allows (LockRule value) 1 id me 0 (λ n. n) (MergesFronts (step 1 0 0 0 none) me)
  learns_it id me s r wide at _ = let v = me.0 in let fit = r.each id v at in (
    with_longer_front v,
    keeps,
    tt,
    quiet s r id v (with_longer_front v) (set s.words 0 (get_or s.words 0 0)) (⊎_elim (λ lies. ap (λ ws. set ws 0 (get_or ws 0 0)) lies.0 ∙ sym lies.0) (λ held. ap (λ ws. set ws 0 (get_or ws 0 0)) held.1.0 ∙ sym held.1.0) r.place) at
        record { front = longer-whole v.front v.joined_front (whole_history r.now) fit.front fit.joined_front; joined_front = prefix-nil (whole_history r.now); next = fit.next; ended = fit.ended; same = fit.same; own = fit.own; gives = fit.gives }
        (λ h. (h, refl, refl)),
    (
      refl,
      longer-left v.front v.joined_front (whole_history r.now) fit.front fit.joined_front,
      longer-right v.front v.joined_front (whole_history r.now) fit.front fit.joined_front,
      λ held. ⊎_elim (λ lies. absurd (true≢false (sym held ∙ lies.2 id v at)))
          (λ place. subst (λ (z : StripeState). IsPrefix (longer v.front v.joined_front) (whole_history z)) (sym (place.1.2.1 id v at held).1) (longer-whole v.front v.joined_front (whole_history r.now) fit.front fit.joined_front)) r.place,
    ),
  )

  -- a new seat comes with a view that says no more than the state
  appended : (s : St) (r : LockRule value s) (u : View) → u.holds ≡ false → SeatFits r.seat_of r.giver r.given r.now (length s.views) u → LockRule value record { words = s.words; homes = s.homes; views = s.views ++ u ∷ [] }
  appended s r u free fits = let each_end : (P : ℕ → View → Type 0) → ((j : ℕ) (x : View) → get_elem? s.views j ≡ some x → P j x) → P (length s.views) u → (j : ℕ) (x : View) → get_elem? (s.views ++ u ∷ []) j ≡ some x → P j x = λ P others mine j x e.
      ⊎_elim (λ t. others j x t) (λ t. subst (λ (z : ℕ × View). P z.0 z.1) (λ i. (sym t.0 i, t.1 i)) mine) (at_end s.views u x j e) in record {
        seat_of = r.seat_of;
        giver = r.giver;
        given = r.given;
        now = r.now;
        reached = r.reached;
        later = r.later;
        each = each_end (SeatFits r.seat_of r.giver r.given r.now) r.each fits;
        place = ⊎_elim
            (λ lies. inl (lies.0, lies.1, each_end (λ j x. x.holds ≡ false) lies.2 free))
            (λ held. let out = held.1 in inr (held.0, (out.0, out.1, (out.2.0, each_end (λ j x. x.holds ≡ true → (j ≡ out.2.0) × (x.noted ≡ r.now) × (x.spent ≡ held.0)) out.2.1 (λ h. absurd (true≢false (sym h ∙ free)))))))
            r.place;
      }

  fits_note : (seat_of : ℕ → ℕ) (giver given : ℕ) (now : StripeState) (id j : ℕ) (v : View) → SeatFits seat_of giver given now id v → SeatFits seat_of giver given now j (front_note v)
  fits_note seat_of giver given now id j v fit = record { front = fit.front; joined_front = prefix-nil (whole_history now); next = fit.next; ended = fit.ended; same = fit.same; own = λ n e. absurd (none-some n e); gives = λ n e. absurd (none-some n e) }

  fits_spent : (seat_of : ℕ → ℕ) (giver given : ℕ) (now : StripeState) (j : ℕ) → SeatFits seat_of giver given now j spent_view
  fits_spent seat_of giver given now j = record { front = prefix-nil (whole_history now); joined_front = prefix-nil (whole_history now); next = (let k : 0 ≤ now.next = omega arith in k); ended = (now.ended, refl); same = λ live. absurd (true≢false live); own = λ n e. absurd (none-some n e); gives = λ n e. absurd (none-some n e) }

  pub splits_note : (id : ℕ) (v : View) → Splits (LockRule value) id v v (front_note v)
  splits_note id v s r at = subst (λ (l : List View). LockRule value record { words = s.words; homes = s.homes; views = l ++ front_note v ∷ [] }) (sym (set_again s.views id v at))
      (appended s r (front_note v) refl (fits_note r.seat_of r.giver r.given r.now id (length s.views) v (r.each id v at)))

  pub joins_note : (id : ℕ) (v : View) (other : ℕ) (w : View) → w.holds ≡ false → Joins (LockRule value) id v other w (with_note v w) spent_view
  joins_note id v other w free s r at ne there = let fit = r.each id v at in let fo = r.each other w (sym (set_else s.views id other (with_note v w) ne) ∙ there) in
      let one = quiet s r id v (with_note v w) s.words refl at record { front = fit.front; joined_front = fo.front; next = fit.next; ended = fit.ended; same = fit.same; own = fit.own; gives = fit.gives } (λ h. (h, refl, refl)) in
      quiet record { words = s.words; homes = s.homes; views = set s.views id (with_note v w) } one other w spent_view s.words refl there
      (fits_spent one.seat_of one.giver one.given one.now other) (λ h. absurd (true≢false (sym h)))

  pub splits_session : (id : ℕ) (v : View) (n : ℕ) → v.next_session ≡ Some n → Splits (LockRule value) id v (after_split v) (session_view v)
  splits_session id v n has s r at =
      let fit = r.each id v at in let g = fit.gives n has in let number : session_number v.next_session ≡ n = ap session_number has in let w : View = after_split v in let u : View = session_view v in
      let views : List View = set s.views id w in let end : ℕ = length views in
      let seat_of : ℕ → ℕ = λ m. cond (eqb m r.given) end (r.seat_of m) in
      let given : ℕ = r.given + 1 in
      let is : session_number v.next_session ≡ r.given = number ∙ g.1 in
      let old : (m : ℕ) → m < r.given → seat_of m ≡ r.seat_of m = λ m lt. ap (λ b. cond b end (r.seat_of m)) (ne_eqb m r.given (λ e. omega arith)) in
      let new : seat_of r.given ≡ end = ap (λ b. cond b end (r.seat_of r.given)) (eq-eqb r.given r.given refl) in
      let each_end : (P : ℕ → View → Type 0) → ((j : ℕ) (x : View) → get_elem? views j ≡ some x → P j x) → P end u → (j : ℕ) (x : View) → get_elem? (views ++ u ∷ []) j ≡ some x → P j x = λ P others mine j x e.
      ⊎_elim (λ t. others j x t) (λ t. subst (λ (z : ℕ × View). P z.0 z.1) (λ i. (sym t.0 i, t.1 i)) mine) (at_end views u x j e) in
      let own_kept : (j : ℕ) (x : View) → SeatFits r.seat_of r.giver r.given r.now j x → (m : ℕ) → x.session ≡ Some m → (seat_of m ≡ j) × (m < given) × (all_own_steps m r.now ≡ x.own) =
      λ j x f m e. let o = f.own m e in (old m o.1 ∙ o.0, (let k : m < r.given = o.1 in omega arith), o.2) in
      record {
        seat_of = seat_of;
        giver = r.giver;
        given = given;
        now = r.now;
        reached = r.reached;
        later = λ m le. r.later m (omega arith);
        each = each_end (SeatFits seat_of r.giver given r.now)
            (each_set (SeatFits seat_of r.giver given r.now) s.views id w
            (λ j x ne e. let f = r.each j x e in record { front = f.front; joined_front = f.joined_front; next = f.next; ended = f.ended; same = f.same; own = own_kept j x f; gives = λ m e'. absurd (ne (sym (f.gives m e').0 ∙ g.0)) })
            record { front = fit.front; joined_front = fit.joined_front; next = fit.next; ended = fit.ended; same = fit.same; own = own_kept id v fit; gives = λ m e'. (g.0, sym (same_Some (session_number v.next_session + 1) m e') ∙ ap (λ (k : ℕ). k + 1) is) })
            record {
              front = fit.front;
              joined_front = prefix-nil (whole_history r.now);
              next = fit.next;
              ended = fit.ended;
              same = fit.same;
              own = λ m e. let same : m ≡ r.given = sym (same_Some (session_number v.next_session) m e) ∙ is in (ap seat_of same ∙ new, (let k : m ≡ r.given = same in omega arith), r.later m (let k : m ≡ r.given = same in omega arith));
              gives = λ m e. absurd (none-some m e);
            };
        place = ⊎_elim
            (λ lies. inl (lies.0, lies.1, each_end (λ j x. x.holds ≡ false) (each_set (λ j x. x.holds ≡ false) s.views id w (λ j x _ e. lies.2 j x e) (lies.2 id v at)) refl))
            (λ held. let out = held.1 in let P : ℕ → View → Type 0 = λ j x. x.holds ≡ true → (j ≡ out.2.0) × (x.noted ≡ r.now) × (x.spent ≡ held.0) in
            inr (held.0, (out.0, out.1, (out.2.0, each_end P (each_set P s.views id w (λ j x _ e. out.2.1 j x e) (out.2.1 id v at)) (λ h. absurd (true≢false (sym h)))))))
            r.place;
      }

  -- the table of a lock that isn't made yet
  pub starts : (state : StripeState) → IsReached state → whole_history state ≡ [] → LockRule value (table_opening (1 ∷ []) (None ∷ []) (unopened_view state))
  starts state reached none_yet =
      let past : past_events state.ended ≡ [] = no_left (past_events state.ended) state.history none_yet in
      let now : state.history ≡ [] = no_right (past_events state.ended) state.history none_yet in
      let none_own : (n : ℕ) → all_own_steps n state ≡ [] = λ n i. filter (is_own_step n []) (past i) ++ filter (is_own_step n state.joiners) (now i) in
      let v : View = unopened_view state in
      let only : (P : ℕ → View → Type 0) → P 0 v → (j : ℕ) (x : View) → get_elem? (v ∷ []) j ≡ some x → P j x = λ P p j x e.
      ⊎_elim (λ t. absurd (some-ne-none x (sym t))) (λ t. subst (λ (z : ℕ × View). P z.0 z.1) (λ i. (sym t.0 i, t.1 i)) p) (at_end [] v x j e) in
      record {
        seat_of = λ _. 0;
        giver = 0;
        given = 0;
        now = state;
        reached = reached;
        later = λ n _. none_own n;
        each = only (SeatFits (λ _. 0) 0 0 state) record { front = prefix-refl (whole_history state); joined_front = prefix-nil (whole_history state); next = le_refl state.next; ended = prefix-refl state.ended; same = λ _. same_itself state; own = λ n e. absurd (none-some n e); gives = λ n e. (refl, sym (same_Some 0 n e)) };
        place = inr (true, (refl, refl, (0, only (λ j x. x.holds ≡ true → (j ≡ 0) × (x.noted ≡ state) × (x.spent ≡ true)) (λ _. (refl, refl, refl)))));
      }

  opens_it : (id : ℕ) (me : M) → me.0.spent ≡ true → me.0.holds ≡ true → Allows (LockRule value) 1 id me 0 (λ n. n) (Opens (step 1 0 0 0 none) me)
  opens_it id me unopened holds s r wide at _ = let v = me.0 in let fit = r.each id v at in let w : View = opened_view v in
      ⊎_elim
      (λ lies. absurd (true≢false (sym holds ∙ lies.2 id v at)))
      (λ held. let out = held.1 in let mine = out.2.1 id v at holds in let empty : held.0 ≡ true = sym mine.2 ∙ unopened in (
        w,
        takes 0 None,
        ap (λ h. get_elem? h 0) (out.1 ∙ ap (λ (f : Bool). slot_while {B = B} f ∷ []) empty),
        record {
          seat_of = r.seat_of;
          giver = r.giver;
          given = r.given;
          now = r.now;
          reached = r.reached;
          later = r.later;
          each = each_set (SeatFits r.seat_of r.giver r.given r.now) s.views id w (λ j u _ e. r.each j u e)
              record { front = fit.front; joined_front = fit.joined_front; next = fit.next; ended = fit.ended; same = λ _. same_at v.noted r.now mine.1; own = fit.own; gives = fit.gives };
          place = inr (
            false,
            (
              ap (λ ws. set ws 0 (get_or ws 0 0)) out.0,
              ap (λ h. set h 0 none) out.1,
              (
                id,
                each_set (λ j u. u.holds ≡ true → (j ≡ id) × (u.noted ≡ r.now) × (u.spent ≡ false)) s.views id w
                    (λ j u ne e h. absurd (ne ((out.2.1 j u e h).0 ∙ sym mine.0))) (λ _. (refl, mine.1, refl)),
              ),
            ),
          );
        },
        refl,
      ))
      r.place

  pub opens_at : (slots id : ℕ) (me : M) → slots ≡ 1 → me.0.spent ≡ true → me.0.holds ≡ true → Allows (LockRule value) slots id me 0 (λ n. n) (Opens (step slots 0 0 0 none) me)
  opens_at slots id me one unopened holds = subst (λ (n : ℕ). Allows (LockRule value) n id me 0 (λ x. x) (Opens (step n 0 0 0 none) me)) (sym one) (opens_it id me unopened holds)

  pub takes_at : (missed : View → View) → IsMiss missed → (slots id : ℕ) (me : M) → slots ≡ 1 → me.0.spent ≡ false → me.0.holds ≡ false → Allows (LockRule value) slots id me 0 (λ n. either (eqb n 0) 1 n) (Takes value missed (step slots 0 0 1 none) me)
  takes_at missed miss_is slots id me one live free = subst (λ (n : ℕ). Allows (LockRule value) n id me 0 (λ x. either (eqb x 0) 1 x) (Takes value missed (step n 0 0 1 none) me)) (sym one) (takes_it missed miss_is id me live free)

  pub gives_at : OnePhase → Renewal → (slots id : ℕ) (me : M) (b : B) → slots ≡ 1 → me.0.holds ≡ true → me.1 ≡ (0, Some b) ∷ rest me.1 → IsTurnBy me.0.session me.0.noted (value b) → Allows (LockRule value) slots id me 0 (λ _. 0) (λ _. Gives value (step slots 0 0 0 none) me 0)
  gives_at law renewals slots id me b one held has phase = subst (λ (n : ℕ). Allows (LockRule value) n id me 0 (λ _. 0) (λ _. Gives value (step n 0 0 0 none) me 0)) (sym one) (gives_it law renewals id me b held has phase)

  pub learns_at : (slots id : ℕ) (me : M) → slots ≡ 1 → Allows (LockRule value) slots id me 0 (λ n. n) (MergesFronts (step slots 0 0 0 none) me)
  learns_at slots id me one = subst (λ (n : ℕ). Allows (LockRule value) n id me 0 (λ x. x) (MergesFronts (step n 0 0 0 none) me)) (sym one) (learns_it id me)

  pub slot_there : (l m : List (ℕ × Option B)) (x : Option B) → l ≡ (0, x) ∷ m → l ≡ (0, x) ∷ rest l
  slot_there l m x e = e ∙ ap (λ (t : List (ℕ × Option B)). (0, x) ∷ t) (sym (ap rest e))

  finds : (s : St) (r : LockRule value s) (id : ℕ) (v : View) → v.spent ≡ false → get_elem? s.views id ≡ some v → Finds v r.now
  finds s r id v live at = let fit = r.each id v at in record { reached = r.reached; front = fit.front; next = fit.next; ended = fit.ended; same = fit.same live; own = λ n e. (fit.own n e).2; later = λ n m e le. r.later m (let k : n ≡ r.given = (fit.gives n e).1 in omega arith) }

  -- a closed table whose word is free has the stripe
  pub closes : (s : St) (id : ℕ) (v : View) → v.spent ≡ false → (ws : List ℕ) (xs : List (Option B)) → Seen (LockRule value) id v s → s.words ≡ ws → ((k : ℕ) (y : Option B) → get_elem? s.homes k ≡ some (some y) → get_elem? xs k ≡ some y)
      → (word : ℕ) → get_elem? ws 0 ≡ some word → word ≡ 0 → (x : Option B) → get_elem? xs 0 ≡ some x → (b : B) × (x ≡ Some b) × Finds v (value b)
  closes s id v live ws xs seen words home word at zero_word x there =
      ⊎_elim
      (λ lies. let b : B = lies.1.0 in (
        b,
        some-injective x (Some b) (sym there ∙ home 0 (Some b) (ap (λ h. get_elem? h 0) lies.1.1)),
        subst (Finds v) (sym lies.1.2) (finds s seen.0 id v live seen.1),
      ))
      (λ held. absurd (let e : 1 ≡ word = some-injective 1 word (sym (ap (λ l. get_elem? l 0) held.1.0) ∙ ap (λ l. get_elem? l 0) words ∙ at) in omega arith))
      seen.0.place

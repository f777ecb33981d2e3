-- A generation ends, and a new one begins.
--     past-snoc       the events of generations with one more
--     chain-snoc      a chain with one more
--     may_parts       what is so where a generation may end
--     renewed         the law of renewals
--     stays_or_renews  what is left if the generation was ended that may end
--     stays_alone      a stripe that doesn't live on is left as it was
--     state-renewed   a stripe whose history was cleared, and whose life went on, is in the state after a renewal
--     sound-renewed   and it is sound
use Rattle.std.proofs.Common.{◌≡◌, ◌≤◌, ◌&&◌, ◌||◌, ◌⊎◌, ℕ, List, [], ◌∷◌, ◌++◌, length, filter, Bool, true, false, not, nat_lt, inl, inr, ⊎_elim, refl, sym, ap, ◌∙◌, subst, arith, append_assoc, append-nil}
use Rattle.std.specs.FinMap.{from_entries, len}
use Rattle.jc_types.specs.declared.config.Config.{Config}
use Rattle.jc_model.specs.Cache.{Bytes, key_cmp}
use Rattle.jc_model.specs.declared.event.Event.{Event}
use Rattle.jc_inflight.specs.declared.joiner.Joiner.{Joiner}
use Rattle.jc_history.specs.Past.{Past, no_events}
use Rattle.jc_stripe.specs.State.{State, Generation}
use Rattle.jc_types.specs.declared.caller.Caller.{Caller}
use Rattle.std.specs.List.{list_all, list_any}
use Rattle.std.proofs.lemmas.Bool.{and_parts, and_cases, and_right, and_from, or_parts, not-true, not_from_false}
use Rattle.jc_model.proofs.CallerLemmas.{opening_of}
use Rattle.jc_inflight.specs.declared.joiner.JoinState.{JoinState}
use Rattle.jc_inflight.specs.declared.joiner.JoinState.TheVariants.{Waiting, Answered, Again}
use Rattle.jc_inflight.specs.Joining.{belongs_to, waits}
use Rattle.jc_stripe.specs.Life.{Life}
use Rattle.jc_model.specs.Statistics.{statistics_of}
use Rattle.jc_stripe.specs.Occurrences.{occurrences}
use Rattle.jc_stripe.specs.Inside.{state_of, IsStripe}
use Rattle.jc_stripe.specs.declared.stripe.Stripe.TheInside.{Inside}
use Rattle.jc_stripe.specs.OrderOfUse.{by_use}
use Rattle.jc_stripe.specs.Generations.{IsEnded, opening_after, IsChain, past_events, whole_history, first_opening, present_generation, after_renewal}
use Rattle.jc_stripe.specs.Renewal.{has_parked, can_renew, is_renewable, Renews, RenewsIfFull, StaysOrRenews, all_own_steps, Renewal, live_on, LivesOn}
use Rattle.jc_stripe.specs.Reached.{IsReached, AllJoin, JoinFits, may_end, may_share}
use Rattle.jc_stripe.specs.OnePhase.{is_answered, is_parked, is_own_step}
use Rattle.jc_stripe.proofs.Reaching.{reached_legal}
use Rattle.jc_stripe.proofs.Refusing.{clash, split, ends_numbers}
use Rattle.jc_stripe.specs.Refusals.{last_number}
use Rattle.std.proofs.lemmas.Bool.Decides.{nat_tests}
use Rattle.jc_stripe.proofs.ParkedSteps.{filter-append, own-parked}
use Rattle.jc_model.proofs.CallerLemmas.{len-distinct}

pub past-snoc : (gs : List Generation) (g : Generation) → past_events (gs ++ g ∷ []) ≡ past_events gs ++ g.history
past-snoc [] g = append-nil g.history
past-snoc (h ∷ gs) g = ap (λ (es : List Event). h.history ++ es) (past-snoc gs g) ∙ sym (append_assoc h.history (past_events gs) g.history)

after-snoc : (gs : List Generation) (g : Generation) (entries : List (Bytes × Bytes)) → opening_after (gs ++ g ∷ []) entries ≡ opening_after gs g.opening
after-snoc [] g entries = refl
after-snoc (h ∷ gs) g entries = refl

chain-snoc : (config : Config) (gs : List Generation) (g : Generation) (entries : List (Bytes × Bytes)) → IsChain config gs g.opening → IsEnded config g entries → IsChain config (gs ++ g ∷ []) entries
chain-snoc config [] g entries chain ended = (ended, tt)
chain-snoc config (h ∷ gs) g entries chain ended = (subst (IsEnded config h) (sym (after-snoc gs g entries)) chain.0, chain-snoc config gs g entries chain.1 ended)

-- 2. Nothing is parked.

none_answered : (js : List Joiner) → not (list_any (λ j. is_answered j.state) js) ≡ true → list_all (λ j. not (is_answered j.state)) js ≡ true
none_answered [] h = refl
none_answered (j ∷ js) h =
    let parts = or_parts (is_answered j.state) (list_any (λ x. is_answered x.state) js) (not-true (is_answered j.state || list_any (λ x. is_answered x.state) js) h) in
    and_from (not (is_answered j.state)) (list_all (λ x. not (is_answered x.state)) js) (not_from_false (is_answered j.state) parts.0) (none_answered js (not_from_false (list_any (λ x. is_answered x.state) js) parts.1))

-- whether it lives on, and that nothing is parked
may_parts : (state : State) → can_renew state ≡ true → (state.lives ≡ true) × (list_all (λ j. not (is_answered j.state)) state.joiners ≡ true)
may_parts state may =
    let some = nat_lt 0 (length state.history) in
    let all = and_parts (state.lives && some) (not (has_parked state)) may in
    ((and_parts state.lives some all.0).0, none_answered state.joiners all.1)

none_parked : (js : List Joiner) (c : Caller) (k : Bytes) → list_all (λ j. not (is_answered j.state)) js ≡ true → is_parked js c k ≡ false
none_parked [] c k h = refl
none_parked (j ∷ js) c k h =
    let parts = and_parts (not (is_answered j.state)) (list_all (λ x. not (is_answered x.state)) js) h in
    ap (λ b. (belongs_to c k j && b) || is_parked js c k) (not-true (is_answered j.state) parts.0) ∙ ap (λ b. b || is_parked js c k) (and_right (belongs_to c k j) false refl) ∙ none_parked js c k parts.1

-- 3. The tables go over.

all_left : {A : Type 0} (p : A → Bool) (xs : List A) → ((x : A) → p x ≡ true) → list_all p xs ≡ true
all_left p [] h = refl
all_left p (x ∷ xs) h = ap (λ b. b && list_all p xs) (h x) ∙ all_left p xs h

share_left : (waits_ : Bool) → (not waits_ || true) ≡ true
share_left true = refl
share_left false = refl

fits_left : (old : State) (j : Joiner) (t : JoinState) → not (is_answered t) ≡ true → JoinFits old j t → JoinFits (after_renewal old) j t
fits_left old j Waiting h f = record { load = f.load; missing = f.missing; read_through = f.read_through }
fits_left old j (Answered place shared) h f = cc
fits_left old j Again h f = tt

joins_left : (old : State) (js : List Joiner) → list_all (λ j. not (is_answered j.state)) js ≡ true → AllJoin old js → AllJoin (after_renewal old) js
joins_left old [] h all = tt
joins_left old (j ∷ js) h all =
    let parts = and_parts (not (is_answered j.state)) (list_all (λ x. not (is_answered x.state)) js) h in
    (fits_left old j j.state parts.0 all.0, joins_left old js parts.1 all.1)

reached_renewed : (old new : State) → IsReached old → Renews old new → IsReached new
reached_renewed old new reached renews =
    let entries : List (Bytes × Bytes) = by_use old.opening old.history in
    let long : len (from_entries {R = key_cmp} entries) ≡ length entries = len-distinct entries reached.used.once in
    let cached : len old.cache ≡ len (from_entries {R = key_cmp} entries) = ap len reached.used.cache in
    let few = reached.few_entries in
    let few_entries : length entries ≤ old.config.capacity = omega arith in
    let may = may_parts old renews.can in
    subst IsReached (sym renews.after) (record {
      config_fits = reached.config_fits;
      chain = chain-snoc old.config old.ended (present_generation old) entries reached.chain (record { legal = reached_legal old reached; left_is = refl });
      one_life = λ alone. absurd (clash old.lives may.0 alone);
      opened_once = reached.used.once;
      opens = opening_of old.config old.stripe entries reached.used.once few_entries reached.used.own;
      legal = record { parts = []; spelled = refl; lawful = tt; left = reached.used.cache; order = refl };
      used = record { once = reached.used.once; own = reached.used.own; cache = reached.used.cache };
      own = refl;
      keys = reached.keys;
      few_entries = reached.few_entries;
      few_reservations = reached.few_reservations;
      few_joiners = reached.few_joiners;
      places = let room = reached.places in omega arith;
      numbered = reached.numbered;
      asks = reached.asks;
      ends = all_left (may_end []) old.reservations (λ r. refl);
      beside = reached.beside;
      joins = joins_left old old.joiners may.1 reached.joins;
      shares = all_left (may_share []) old.joiners (λ j. share_left (waits j));
      apart = reached.apart;
      between = reached.between;
      marks = reached.marks;
    })

own_renewed : (old : State) (session : ℕ) → can_renew old ≡ true → all_own_steps session (after_renewal old) ≡ all_own_steps session old
own_renewed old session may =
    let unparked = (may_parts old may).1 in
    let p = is_own_step session [] in
    append-nil (filter p (past_events (old.ended ++ present_generation old ∷ [])))
    ∙ ap (filter p) (past-snoc old.ended (present_generation old))
    ∙ filter-append p (past_events old.ended) old.history
    ∙ ap (λ (es : List Event). filter p (past_events old.ended) ++ es) (own-parked session old.joiners [] old.history (λ c k mine. sym (none_parked old.joiners c k unparked)))

pub renewed : Renewal
renewed old new reached renews =
    let is = renews.after in
    record {
      reached = reached_renewed old new reached renews;
      same = record {
        config = ap (λ (s : State). s.config) is;
        stripe = ap (λ (s : State). s.stripe) is;
        origin = ap (λ (s : State). s.origin) is;
        lives = ap (λ (s : State). s.lives) is;
        opening = ap first_opening is ∙ after-snoc old.ended (present_generation old) (by_use old.opening old.history);
      };
      cache = ap (λ (s : State). s.cache) is;
      next = ap (λ (s : State). s.next) is;
      empty = ap (λ (s : State). s.history) is;
      whole = ap whole_history is ∙ append-nil (past_events (old.ended ++ present_generation old ∷ [])) ∙ past-snoc old.ended (present_generation old);
      own = λ session. ap (all_own_steps session) is ∙ own_renewed old session renews.can;
    }

-- the stripe that is made of it
abbrev pub next_life : Inside → Life
next_life i = record { opening = i.entries.list; ended = i.life.ended ++ record { opening = i.life.opening; history = i.history.events } ∷ [] }

abbrev pub renewed_at : Inside → Life → Past → Inside
renewed_at i life history = record i { life = life; history = history }

pub state-renewed : (i : Inside) (life : Life) (history : Past) → IsStripe i → life ≡ next_life i → history ≡ no_events i.history → state_of (renewed_at i life history) ≡ after_renewal (state_of i)
state-renewed i life history sound l h =
    (λ k. state_of (renewed_at i (l k) (h k)))
    ∙ (λ k. record (state_of i) { ended = i.life.ended ++ record { opening = i.life.opening; history = i.history.events } ∷ []; opening = sound.by_use k; history = [] })

pub sound-renewed : (i : Inside) (life : Life) (history : Past) → IsStripe i → can_renew (state_of i) ≡ true → life ≡ next_life i → history ≡ no_events i.history → IsStripe (renewed_at i life history)
sound-renewed i life history sound unparked l h = record {
  capacity = sound.capacity;
  limit = ap (λ (p : Past). p.limit) h ∙ sound.limit;
  by_use = sym (λ k. by_use ((l k).opening) ((h k).events));
  promised = ap (λ (p : Past). p.promised) h ∙ sound.promised;
  counted = ap (λ (p : Past). p.statistics) h ∙ sym (λ k. statistics_of (occurrences ((l k).opening) ((h k).events)));
  boxes = sound.boxes;
  state = subst IsReached (sym (state-renewed i life history sound l h)) (reached_renewed (state_of i) (after_renewal (state_of i)) sound.state (record { can = unparked; after = refl }));
}

-- 5. A stripe that lives on.

fits_on : (old : State) (j : Joiner) (t : JoinState) → JoinFits old j t → JoinFits (live_on old) j t
fits_on old j Waiting f = record { load = f.load; missing = f.missing; read_through = f.read_through }
fits_on old j (Answered place shared) f = f
fits_on old j Again f = tt

joins_on : (old : State) (js : List Joiner) → AllJoin old js → AllJoin (live_on old) js
joins_on old [] all = tt
joins_on old (j ∷ js) all = (fits_on old j j.state all.0, joins_on old js all.1)

living_reached : (state : State) → IsReached state → IsReached (live_on state)
living_reached state reached = record {
  config_fits = reached.config_fits;
  chain = reached.chain;
  one_life = λ not. absurd (clash true refl not);
  opened_once = reached.opened_once;
  opens = reached.opens;
  legal = reached.legal;
  used = record { once = reached.used.once; own = reached.used.own; cache = reached.used.cache };
  own = reached.own;
  keys = reached.keys;
  few_entries = reached.few_entries;
  few_reservations = reached.few_reservations;
  few_joiners = reached.few_joiners;
  places = reached.places;
  numbered = reached.numbered;
  asks = reached.asks;
  ends = reached.ends;
  beside = reached.beside;
  joins = joins_on state state.joiners reached.joins;
  shares = reached.shares;
  apart = reached.apart;
  between = reached.between;
  marks = reached.marks;
}

at_end : (a b c d : ℕ) → (nat_lt a b && nat_lt c d) ≡ false → (b ≤ a) ⊎ (d ≤ c)
at_end a b c d end = ⊎_elim (λ e. inl (not_below a b e)) (λ e. inr (not_below c d e)) (and_cases (nat_lt a b) (nat_lt c d) end)
  where
    not_below : (m n : ℕ) → nat_lt m n ≡ false → n ≤ m
    not_below m n h = grind (arith, nat_tests)

pub lives_on : LivesOn
lives_on = record {
  reached = living_reached;
  full = λ state caller key op lives is. at_end caller.call last_number state.next last_number (ends_numbers state caller key op lives is);
}

pub sound-living : (i : Inside) → IsStripe i → IsStripe (record i { lives = true })
sound-living i sound = record {
  capacity = sound.capacity;
  limit = sound.limit;
  by_use = sound.by_use;
  promised = sound.promised;
  counted = sound.counted;
  boxes = sound.boxes;
  state = living_reached (state_of i) sound.state;
}

-- 6. Whether it was ended.

pub stays_or_renews : (old new : State) → RenewsIfFull old new → StaysOrRenews old new
stays_or_renews old new h = split (is_renewable old) (StaysOrRenews old new) (λ e. inr (h.0 e)) (λ e. inl (h.1 e))

pub stays_alone : (old new : State) → old.lives ≡ false → StaysOrRenews old new → new ≡ old
stays_alone old new alone h = ⊎_elim (λ same. same) (λ renews. absurd (clash old.lives (may_parts old renews.can).0 alone)) h

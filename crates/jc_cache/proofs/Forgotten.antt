-- Invalidations, from the phases that they are made of.
--     ForgettingTurn    the turn of such a phase: it waits only for the end of full generations
--     waits_renew       in each lending in which it waited a full generation has ended
--     seen_forgetting   a seat that has made a phase of no session has seen what it had seen
--     all_seen_by       it has seen the whole history
--     forgotten_by      a key was invalidated
--     SweptSo, swept_none, swept_next, swept_last    sweeps so far: none, one more, and the last one
--     forgotten_all     all keys were, and the stripe was swept
use Rattle.jc_cache.proofs.Common.{◌≡◌, ◌⊎◌, ⊎_elim, inl, inr, Bool, true, false, not, ℕ, List, [], ◌∷◌, ◌++◌, refl, sym, ap, subst, ◌∙◌, append_assoc, append-nil, Bytes, State, whole_history, Forgetting, Renews, whole_goes_on, View, prefix-trans, AllLend, PhaseLaws, Turn, waiting, all_append, all_map, forgets_keep, HasAllSeen, HasSeen, HasLent}
use Rattle.std.specs.Prelude.{IsTrue}
use mathlib.Core.List.{IsPrefix}
use Rattle.jc_stripe.specs.Invalidating.{Invalidates, InvalidatesAll, Sweeps}
use Rattle.jc_stripe.specs.Forgetting.{Forgets}
use Rattle.jc_stripe.specs.Renewal.{is_renewable}
use Rattle.jc_engine.specs.Doors.{HasWaited}
use Rattle.jc_engine.specs.Forgetting.{may_go_on}
use Rattle.jc_cache.specs.Forgetting.{HasForgotten, HasForgottenAll, HasSwept}
use Rattle.jc_cache.specs.PhaseCalls.{SeatPhase}
use Rattle.jc_cache.proofs.Lendings.{seen_itself, seen_on}

-- 1. One phase.

abbrev pub ForgettingTurn : (State → State → Type 0) → Turn
ForgettingTurn makes = waiting (λ a. IsTrue (not (is_renewable a))) (λ a. ⊥) makes

not_never : (b : Bool) → (not b ≡ true → ⊥) → b ≡ true
not_never true never = refl
not_never false never = absurd (never refl)

pub waits_renew : (a b : State) → HasWaited (λ s. IsTrue (not (is_renewable s))) (λ s. ⊥) a b → Renews a b
waits_renew a b w = w.way.0 (⊎_elim (λ never. not_never (is_renewable a) never) (λ bad. absurd bad) w.why)

module _ (law : PhaseLaws) (session : ℕ) where
  pub seen_forgetting : (turn : Turn) (v w : View) (x : SeatPhase session v turn w) → Forgetting x.found w.noted → HasSeen v w
  seen_forgetting turn v w x forgets = record {
    seat = x.seat;
    front = prefix-trans v.front (whole_history x.found) w.front x.front
        (subst (IsPrefix (whole_history x.found)) (sym x.front_is) (whole_goes_on x.found w.noted (law.one_phase session x.found w.noted x.reached x.one).grows));
    own = x.own_is ∙ forgets_keep law session x.found w.noted forgets x.reached ∙ x.own;
  }

  pub all_seen_by : (turn : Turn) (v w : View) → SeatPhase session v turn w → HasAllSeen w
  all_seen_by turn v w x = record { reached = (law.one_phase session x.found w.noted x.reached x.one).reached; front = x.front_is }

  pub forgotten_by : Forgets → (key : Bytes) (v w : View) → SeatPhase session v (ForgettingTurn (λ a b. Invalidates a key b)) w → HasForgotten key v w
  forgotten_by forgets key v w x = record {
    row = x.waits ++ (x.found, w.noted) ∷ [];
    lent = x.lent;
    found = x.found;
    did = record { renewals = x.waits; row_is = refl; renewed = all_map _ Renews x.waits waits_renew x.waited; reached = x.reached; made = x.made };
    forgotten = forgets.invalidated x.found w.noted key x.made;
    on = seen_forgetting _ v w x (inl (key, x.made));
    all = all_seen_by _ v w x;
  }

-- 2. Sweeps.

abbrev pub IsSweep : State → State → Type 0
IsSweep a b = Renews a b ⊎ Sweeps a b

pub record SweptSo (before after : View) : Type 0 where
  pub sweeps : List (State × State)
  pub lent : HasLent before sweeps after
  pub swept : AllLend IsSweep sweeps
  pub on : HasSeen before after

pub swept_none : (v : View) → v.holds ≡ false → SweptSo v v
swept_none v free = record { sweeps = []; lent = record { lendings = sym (append-nil v.lendings); misses = refl }; swept = tt; on = seen_itself v free }

pub lent_on : (u v w : View) (ps qs : List (State × State)) → HasLent u ps v → HasLent v qs w → HasLent u (ps ++ qs) w
lent_on u v w ps qs p q = record {
  lendings = q.lendings ∙ ap (λ (ls : List (State × State)). ls ++ qs) p.lendings ∙ append_assoc u.lendings ps qs;
  misses = q.misses ∙ p.misses;
}

module _ (law : PhaseLaws) (session : ℕ) where
  pub swept_next : (more : Bool) (u v w : View) → SweptSo u v → SeatPhase session v (ForgettingTurn (λ a b. Sweeps a b × (more ≡ may_go_on b))) w → SweptSo u w
  swept_next more u v w so x = record {
    sweeps = so.sweeps ++ (x.waits ++ (x.found, w.noted) ∷ []);
    lent = lent_on u v w so.sweeps (x.waits ++ (x.found, w.noted) ∷ []) so.lent x.lent;
    swept = all_append IsSweep so.sweeps (x.waits ++ (x.found, w.noted) ∷ []) so.swept
        (all_append IsSweep x.waits ((x.found, w.noted) ∷ []) (all_map _ IsSweep x.waits (λ a b waited. inl (waits_renew a b waited)) x.waited) (inr x.made.0, tt));
    on = seen_on u v w so.on (seen_forgetting law session _ v w x (inr (inr x.made.0)));
  }

  pub swept_last : (more : Bool) (u v w : View) → SweptSo u v → SeatPhase session v (ForgettingTurn (λ a b. Sweeps a b × (more ≡ may_go_on b))) w → more ≡ false → HasSwept u w
  swept_last more u v w so x none = let all = swept_next more u v w so x in record { sweeps = all.sweeps; lent = all.lent; swept = all.swept; last = sym x.made.1 ∙ none; on = all.on; all = all_seen_by law session _ v w x }

  -- 3. All keys.

  pub forgotten_all : Forgets → (u v w : View) → SeatPhase session u (ForgettingTurn InvalidatesAll) v → HasSwept v w → HasForgottenAll u w
  forgotten_all forgets u v w x s = record {
    row = x.waits ++ (x.found, v.noted) ∷ [];
    sweeps = s.sweeps;
    lent = lent_on u v w (x.waits ++ (x.found, v.noted) ∷ []) s.sweeps x.lent s.lent;
    found = x.found;
    left = v.noted;
    did = record { renewals = x.waits; row_is = refl; renewed = all_map _ Renews x.waits waits_renew x.waited; reached = x.reached; made = x.made };
    forgotten = λ key. forgets.all x.found v.noted key x.made;
    swept = s.swept;
    last = s.last;
    on = seen_on u v w (seen_forgetting law session _ u v x (inr (inl x.made))) s.on;
    all = s.all;
  }

-- Shares of pieces: one worker's, as it grows, and those of two halves of the workers.
--     next-snoc                     the next number after a list, and after the list with a larger number behind it
--     rises-snoc                    a rising list with a larger number behind it rises
--     shares-append                 the shares of the first workers, and then those of the others
--     leads-snoc                    one piece more leads further
--     zip_at, length-zip            each worker with its tool
--     first_of_all, rest_of_all     what all can do, the first ones can, and the others
--     begin_first, begin_rest       of two halves of the workers, either can begin
--     alone_can, one_ended          one worker by itself
--     both_ended                    the first workers, and then the others
--     all_with_tools                what workers can do without tools they can do with them
--     without_units                 workers whose tool is nothing
use Rattle.std.proofs.Common.{◌≡◌, ℕ, zero, suc, ◌+◌, ◌-◌, ◌/◌, ◌<◌, ◌≤◌, List, [], ◌∷◌, ◌++◌, All, length, get_or, set, sym, refl, ap, subst, ◌∙◌, ⊎_elim, arith, append-nil, length-append, zip}
use Rattle.std.proofs.lemmas.List.{get_or_append_left, get_or-append_right}
use Rattle.std.proofs.lemmas.Bool.{cases_lt}
use Rattle.std.proofs.lemmas.List.Folds.{concat-append}
use Rattle.std.specs.List.Sorted.{IsStrictlyIncreasing}
use Rattle.atomic_table.specs.Seated.{TableId}
use Rattle.jc_pool.specs.declared.view.JobPlan.{JobPlan}
use Rattle.jc_pool.specs.declared.view.Claims.{Claims}
use Rattle.jc_pool.specs.Shares.{CanDoAll, LeadsTo, DoesShare, DoShares, DoesEachOnce}
use Rattle.jc_pool.specs.Views.{least_above, fresh_claims, ended_claims, claims_after_join, claims_after_split, split_off}
use Rattle.jc_pool.specs.Teams.{CanBegin, CanBeginHalves, HasEnded, HaveEnded}
use Rattle.jc_pool.proofs.Steps.{least_above-append}

below_next : (xs : List ℕ) (k : ℕ) → k < length xs → get_or xs k 0 < least_above xs
below_next [] k l = absurd (omega arith)
below_next (x ∷ xs) zero l = omega arith
below_next (x ∷ xs) (suc k) l = let ih = below_next xs k (omega arith) in omega arith

pub next-snoc : (xs : List ℕ) (n : ℕ) → least_above xs ≤ n → least_above (xs ++ n ∷ []) ≡ n + 1
next-snoc xs n le = let e = least_above-append xs (n ∷ []) in omega arith

pub rises-snoc : (xs : List ℕ) (n : ℕ) → IsStrictlyIncreasing xs → least_above xs ≤ n → IsStrictlyIncreasing (xs ++ n ∷ [])
rises-snoc xs n rises le k within =
    let len = length-append xs (n ∷ []) in
    let first : k < length xs = omega arith in
    let left = get_or_append_left xs (n ∷ []) 0 k first in
    ⊎_elim
    (λ inside. let next = get_or_append_left xs (n ∷ []) 0 (k + 1) inside in let lt : get_or xs k 0 < get_or xs (k + 1) 0 = rises k inside in omega arith)
    (λ last. let next = get_or-append_right xs (n ∷ []) (k + 1) (k + 1) 0 (omega arith) (omega arith) in
    let at : get_or (n ∷ []) ((k + 1) - (k + 1)) 0 ≡ n = ap (λ i. get_or (n ∷ []) i 0) {x = (k + 1) - (k + 1)} {y = 0} (omega arith) in
    let lt = below_next xs k first in omega arith)
    (cases_lt (k + 1) (length xs))

pub leads-snoc : {W : Type 0} (does : W → ℕ → W → Type 0) (a b c : W) (s : List ℕ) (piece : ℕ) → LeadsTo does a s b → does b piece c → LeadsTo does a (s ++ piece ∷ []) c
leads-snoc does a b c [] piece led last = (c, subst (λ w. does w piece c) led last, refl)
leads-snoc does a b c (p ∷ s) piece led last = (led.0, led.1, leads-snoc does led.0 b c s piece led.2 last)

module _ {W J : Type 0} (did : W → List ℕ) (job : W → J) (can_do : W → ℕ → Type 0) (does : W → ℕ → W → Type 0) (pieces : ℕ) where
  share_is : (a b : W) (s : List ℕ) (a' b' : W) (s' : List ℕ) → a ≡ a' → b ≡ b' → s ≡ s' → DoesShare did job can_do does pieces a' b' s' → DoesShare did job can_do does pieces a b s
  share_is a b s a' b' s' old new share = subst (λ (z : W × W × List ℕ). DoesShare did job can_do does pieces z.0 z.1 z.2) (λ i. (sym old i, sym new i, sym share i))

  pub shares-append : (xs xs' : List W) (ss : List (List ℕ)) (ys ys' : List W) (ts : List (List ℕ)) → DoShares did job can_do does pieces xs xs' ss → DoShares did job can_do does pieces ys ys' ts
      → DoShares did job can_do does pieces (xs ++ ys) (xs' ++ ys') (ss ++ ts)
  shares-append xs xs' ss ys ys' ts p q =
      let len = length-append xs ys in let len' = length-append xs' ys' in let lens = length-append ss ts in
      let n : ℕ = length xs in
      let front : length xs' ≡ n = p.workers in let front_shares : length ss ≡ n = p.share_each in
      let back : length ys' ≡ length ys = q.workers in let back_shares : length ts ≡ length ys = q.share_each in
      record {
        workers = omega arith;
        share_each = omega arith;
        each = λ k d within. ⊎_elim
            (λ lt. share_is _ _ _ _ _ _ (get_or_append_left xs ys d k lt) (get_or_append_left xs' ys' d k (omega arith)) (get_or_append_left ss ts [] k (omega arith)) (p.each k d lt))
            (λ ge. share_is _ _ _ _ _ _ (get_or-append_right xs ys n k d refl ge) (get_or-append_right xs' ys' n k d front ge) (get_or-append_right ss ts n k [] front_shares ge) (q.each (k - n) d (omega arith)))
            (cases_lt k n);
      }

zip-append : {W T : Type 0} (xs ys : List W) (us vs : List T) → length us ≡ length xs → zip (xs ++ ys) (us ++ vs) ≡ zip xs us ++ zip ys vs
zip-append [] ys [] vs e = refl
zip-append [] ys (u ∷ us) vs e = absurd (omega arith)
zip-append (x ∷ xs) ys [] vs e = absurd (omega arith)
zip-append (x ∷ xs) ys (u ∷ us) vs e = ap (λ l. (x, u) ∷ l) (zip-append xs ys us vs (omega arith))

All-front : {X : Type 0} (P : X → Type 0) (xs ys : List X) → All P (xs ++ ys) → All P xs
All-front P xs ys all k d within = subst P (get_or_append_left xs ys d k within) (all k d (let len = length-append xs ys in omega arith))

All-back : {X : Type 0} (P : X → Type 0) (xs ys : List X) → All P (xs ++ ys) → All P ys
All-back P xs ys all k d within =
    let len = length-append xs ys in
    let at = get_or-append_right xs ys (length xs) (length xs + k) d refl (omega arith) in
    let here : (length xs + k) - length xs ≡ k = omega arith in
    subst P (at ∙ ap (λ i. get_or ys i d) here) (all (length xs + k) d (omega arith))

pub length-zip : {W T : Type 0} (ws : List W) (ts : List T) → length ts ≡ length ws → length (zip ws ts) ≡ length ws
length-zip [] ts e = refl
length-zip (w ∷ ws) [] e = absurd (omega arith)
length-zip (w ∷ ws) (t ∷ ts) e = let ih = length-zip ws ts (omega arith) in omega arith

pub zip_at : {W T : Type 0} (ws : List W) (ts : List T) → length ts ≡ length ws → (k : ℕ) (w : W) (t : T) → k < length ws → get_or (zip ws ts) k (w, t) ≡ (get_or ws k w, get_or ts k t)
zip_at [] ts e k w t l = absurd (omega arith)
zip_at (x ∷ ws) [] e k w t l = absurd (omega arith)
zip_at (x ∷ ws) (u ∷ ts) e zero w t l = refl
zip_at (x ∷ ws) (u ∷ ts) e (suc k) w t l = zip_at ws ts (omega arith) k w t (omega arith)

-- what holds of each worker with its tool holds so of the first ones, and of the others
module _ {W T : Type 0} (P : W × T → Type 0) (ws first rest : List W) (ts first_tools rest_tools : List T) where
  split-zip : ws ≡ first ++ rest → ts ≡ first_tools ++ rest_tools → length first_tools ≡ length first → zip ws ts ≡ zip first first_tools ++ zip rest rest_tools
  split-zip w t len = (λ i. zip (w i) (t i)) ∙ zip-append first rest first_tools rest_tools len

  pub first_of_all : ws ≡ first ++ rest → ts ≡ first_tools ++ rest_tools → length first_tools ≡ length first → All P (zip ws ts) → All P (zip first first_tools)
  first_of_all w t len all = All-front P (zip first first_tools) (zip rest rest_tools) (subst (All P) (split-zip w t len) all)

  pub rest_of_all : ws ≡ first ++ rest → ts ≡ first_tools ++ rest_tools → length first_tools ≡ length first → All P (zip ws ts) → All P (zip rest rest_tools)
  rest_of_all w t len all = All-back P (zip first first_tools) (zip rest rest_tools) (subst (All P) (split-zip w t len) all)

module _ {W T J : Type 0} (did : W × T → List ℕ) (job : W × T → J) (can_do : W × T → ℕ → Type 0) (does : W × T → ℕ → W × T → Type 0) (counter : TableId × JobPlan) where
  pub alone_can : (ws : List W) (w : W) (ts : List T) (t : T) (n : ℕ) → length ws ≡ 1 → length ts ≡ length ws → All (CanDoAll can_do n) (zip ws ts) → CanDoAll can_do n (get_or ws 0 w, get_or ts 0 t)
  alone_can [] w ts t n one each all = absurd (omega arith)
  alone_can (x ∷ ws) w [] t n one each all = absurd (omega arith)
  alone_can (x ∷ ws) w (u ∷ ts) t n one each all = all 0 (x, u) (omega arith)

  pub one_ended : (claimer : TableId × Claims) (ws : List W) (w v : W) (ts : List T) (t u : T) → length ws ≡ 1 → length ts ≡ length ws
      → HasEnded did job can_do does counter claimer (get_or ws 0 w, get_or ts 0 t) (v, u) → HaveEnded did job can_do does counter claimer ws ts (set ws 0 v) (set ts 0 u)
  one_ended claimer [] w v ts t u one each ended = absurd (omega arith)
  one_ended claimer (x ∷ y ∷ ws) w v ts t u one each ended = absurd (omega arith)
  one_ended claimer (x ∷ []) w v [] t u one each ended = absurd (omega arith)
  one_ended claimer (x ∷ []) w v (r ∷ s ∷ ts) t u one each ended = absurd (omega arith)
  one_ended claimer (x ∷ []) w v (r ∷ []) t u one each ended = record {
    counter_is = ended.counter_is;
    shares = claimer.1.claimed ∷ [];
    claims = ended.claims ∙ ap (ended_claims counter.1 1) (sym (append-nil claimer.1.claimed));
    workers = refl;
    tools = refl;
    each = record { workers = refl; share_each = refl; each = λ k d within. alone k within d };
  }
    where
      alone : (k : ℕ) → k < 1 → (d : W × T)
          → DoesShare did job can_do does counter.1.pieces (get_or ((x, r) ∷ []) k d) (get_or ((v, u) ∷ []) k d) (get_or (claimer.1.claimed ∷ []) k [])
      alone zero l d = ended.share
      alone (suc k) l d = absurd (omega arith)

  pub begin_first : (claimer left : TableId × Claims) (first rest : List W) (first_tools rest_tools : List T) → CanBeginHalves can_do counter claimer first first_tools rest rest_tools
      → left.0 ≡ counter.0 → left.1 ≡ claims_after_split claimer.1 → CanBegin can_do counter left first first_tools
  begin_first claimer left first rest first_tools rest_tools begin counter_is is =
      let many = length-append first rest in
      let fewer : length (first ++ rest) - length (first ++ rest) / 2 ≡ length first = omega (arith, many, begin.half) in
      record {
        counter_is = counter_is;
        claims = is ∙ ap claims_after_split begin.can.claims ∙ ap (fresh_claims counter.1) fewer;
        some = begin.some;
        tool_each = begin.tool_each;
        able = first_of_all (CanDoAll can_do counter.1.pieces) (first ++ rest) first rest (first_tools ++ rest_tools) first_tools rest_tools refl refl begin.tool_each begin.can.able;
      }

  pub begin_rest : (claimer off : TableId × Claims) (first rest : List W) (first_tools rest_tools : List T) → CanBeginHalves can_do counter claimer first first_tools rest rest_tools
      → off.0 ≡ counter.0 → off.1 ≡ split_off claimer.1 → CanBegin can_do counter off rest rest_tools
  begin_rest claimer off first rest first_tools rest_tools begin counter_is is =
      let many = length-append first rest in let tools = length-append first_tools rest_tools in
      let half : length (first ++ rest) / 2 ≡ length rest = omega (arith, many, begin.half) in
      record {
        counter_is = counter_is;
        claims = is ∙ ap split_off begin.can.claims ∙ ap (fresh_claims counter.1) half;
        some = begin.others;
        tool_each = omega (arith, begin.can.tool_each, begin.tool_each, many, tools);
        able = rest_of_all (CanDoAll can_do counter.1.pieces) (first ++ rest) first rest (first_tools ++ rest_tools) first_tools rest_tools refl refl begin.tool_each begin.can.able;
      }

  pub both_ended : (a b joined : TableId × Claims) (xs xs' ys ys' : List W) (us us' vs vs' : List T) → length us ≡ length xs
      → HaveEnded did job can_do does counter a xs us xs' us' → HaveEnded did job can_do does counter b ys vs ys' vs'
      → joined.0 ≡ counter.0 → joined.1 ≡ claims_after_join a.1 b.1 → HaveEnded did job can_do does counter joined (xs ++ ys) (us ++ vs) (xs' ++ ys') (us' ++ vs')
  both_ended a b joined xs xs' ys ys' us us' vs vs' tool_each p q counter_is is =
      let front : length xs' ≡ length xs = p.workers in let front_tools : length us' ≡ length us = p.tools in
      let back : length ys' ≡ length ys = q.workers in let back_tools : length vs' ≡ length vs = q.tools in
      let len = length-append xs ys in let len' = length-append xs' ys' in let tool_len = length-append us vs in let tool_len' = length-append us' vs' in
      record {
        counter_is = counter_is;
        shares = p.shares ++ q.shares;
        claims = is ∙ (λ i. claims_after_join (p.claims i) (q.claims i))
            ∙ (λ i. record { plan = counter.1; claimed = sym (concat-append p.shares q.shares) i; working = 0; ended = sym (length-append xs ys) i });
        workers = omega arith;
        tools = omega arith;
        each = subst (λ (z : List (W × T) × List (W × T)). DoShares did job can_do does counter.1.pieces z.0 z.1 (p.shares ++ q.shares))
            (λ i. (sym (zip-append xs ys us vs tool_each) i, sym (zip-append xs' ys' us' vs' (omega arith)) i))
            (shares-append did job can_do does counter.1.pieces (zip xs us) (zip xs' us') p.shares (zip ys vs) (zip ys' vs') q.shares p.each q.each);
      }

-- a worker can do with any tool what it can do without
pub all_with_tools : {W T : Type 0} (can_do : W → ℕ → Type 0) (pieces : ℕ) (ws : List W) (ts : List T) → length ts ≡ length ws → All (CanDoAll can_do pieces) ws
    → All (CanDoAll (λ (both : W × T). can_do both.0) pieces) (zip ws ts)
all_with_tools {W} {T} can_do pieces ws ts each all k d within =
    let len = length-zip ws ts each in let l : k < length ws = omega arith in
    subst (λ (both : W × T). CanDoAll can_do pieces both.0) (sym (zip_at ws ts each k d.0 d.1 l)) (all k d.0 l)

led_alone : {W : Type 0} (does : W → ℕ → W → Type 0) (a b : W × Unit {0}) (s : List ℕ) → LeadsTo (λ (old : W × Unit {0}) piece new. does old.0 piece new.0) a s b → LeadsTo does a.0 s b.0
led_alone does a b [] led = ap (λ both. both.0) led
led_alone does a b (piece ∷ s) led = (led.0.0, led.1, led_alone does led.0 b s led.2)

-- workers whose tool is nothing
module _ {W J : Type 0} (did : W → List ℕ) (job : W → J) (can_do : W → ℕ → Type 0) (does : W → ℕ → W → Type 0) (pieces : ℕ) where
  pub without_units : (ws ws' : List W) (us us' : List (Unit {0})) → length us ≡ length ws → length ws' ≡ length ws → length us' ≡ length us
      → DoesEachOnce (λ (both : W × Unit {0}). did both.0) (λ both. job both.0) (λ both. can_do both.0) (λ old piece new. does old.0 piece new.0) pieces (zip ws us) (zip ws' us') → DoesEachOnce did job can_do does pieces ws ws'
  without_units ws ws' us us' each len tool_len done =
      let zipped = length-zip ws us each in let shares : length done.shares ≡ length (zip ws us) = done.each_worker.share_each in
      record {
        shares = done.shares;
        each_worker = record {
          workers = len;
          share_each = shares ∙ zipped;
          each = λ k d within.
              let share = done.each_worker.each k (d, tt) (omega arith) in
              let old = zip_at ws us each k d tt within in
              let new = zip_at ws' us' (omega arith) k d tt (omega arith) in
              plain _ _ _ _ _ (ap (λ both. both.0) old) (ap (λ both. both.0) new) share;
        };
        each_piece = done.each_piece;
      }
    where
      plain : (a b : W × Unit {0}) (v w : W) (s : List ℕ) → a.0 ≡ v → b.0 ≡ w
          → DoesShare (λ (both : W × Unit {0}). did both.0) (λ both. job both.0) (λ both. can_do both.0) (λ old piece new. does old.0 piece new.0) pieces a b s → DoesShare did job can_do does pieces v w s
      plain a b v w s old new share = subst (λ (z : W × W). DoesShare did job can_do does pieces z.0 z.1 s) (λ i. (old i, new i))
          record { did_share = share.did_share; rises = share.rises; led = led_alone does a b s share.led; same_job = share.same_job; beyond = share.beyond }

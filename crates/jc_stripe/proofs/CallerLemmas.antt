-- Lemmas for the crates above: where the step of a phase is, which steps of a stripe are parked after each phase, whom an operation
-- asks first, the keys of a stripe, the entries of all stripes, the stripes of a reopening, and all generations in a row.
--     step_at                             a step is at its place, with its reply
--     joined_parks, withdrawn_parks       a join and a withdrawal park what was parked
--     beginner_parks                      a call that may begin has no parked step at its key
--     commit_parks, committer_parks, sharers_park
--                                         a commit parks of the steps that were there what was parked, not its own step, and each
--                                         step that shares its load
--     picker_parks, picked_parks          a pick-up finds its step parked, and leaves it so no more
--     others_park                         it parks of the steps at other places what was parked
--     again_parks_same                    a pick-up that is told to retry parks what was parked
--     all_at                              what all of a list pass, that at a place does
--     invokes                             only an `Invoke` is given a processor's ticket
--     asks_none, answering_asks           where there is nothing to write, and what answers at once, asks nobody
--     joins_get                           what may join a load is a `Get`
--     fewer_than                          a number that isn't at least another is below it
--     clash                               no test both passes and fails
--     loads_asked                         what asks the loader first loads a key whole
--     next_begun                          a first phase doesn't make the next number of a reservation less
--     without_none                        the reservations without a key that none of them has
--     none_twice                          no key of an empty list stands twice
--     keys_once, keys_own                 the keys of a stripe differ, and belong to it
--     distinct-append                     the keys of two lists together are distinct if they are so in each, and no key is in both
--     all_entries_once                    stripes with numbers in order have no key twice
--     once_unless_shared                  stripes of any shapes and numbers have none exactly if no two of them share a key
--     kept_few, kept_once, kept_own       what a stripe keeps is not too much, has each key once, and is of the stripe's keys
--     opened_len, opened_at               a reopening makes as many stripes as it is to, each with its number and what it keeps
--     opened_opens, reached_start         nothing has happened in such a stripe, and one in which nothing has happened is as every stripe is
--     adds_one, gains_one                 a step that is added or gained is one more in the list of own steps
--     of_same, whole_goes_on, own_stay    a phase leaves the stripe the same, and continues its whole history; all own steps stay if those
--                                         of the present generation do
--     there_behind                        what is in a list is in a longer one, behind what comes before it
--     adds_whole, gains_whole             a step that is added or gained is in the whole history, and one own step more
--     ask_found                           a reservation that is found asks what it asked
--     by_use-append                       the order of use after two lists of events, one after the other
--     past-snoc                           the events of generations with one more
--     stands_at                           the place of an event is the number of those before it
--     may_in_all                          a step that may come after its session's own steps of all generations may come after the whole
--                                         history
pub use Rattle.jc_stripe.proofs.Beside.{ask_found}
pub use Rattle.jc_stripe.proofs.SharedSteps.{stands_at}
use Rattle.std.proofs.Common.{◌≡◌, ◌==◌, ◌&&◌, ◌||◌, ◌+◌, ℕ, zero, suc, List, [], ◌∷◌, Bool, true, false, cond, not, Option, None, Some, is_none, refl, sym, ap, ◌∙◌, slice_get, append-nil}
use Rattle.std.specs.Ordering.{eq_by_cmp}
use Rattle.std.specs.Map.{keys_of}
use Rattle.std.specs.FinMap.{find}
use Rattle.std.proofs.lemmas.Cmp.{nat_list_eq_equiv}
use Rattle.std.proofs.lemmas.List.Sorted.{list_any-IsPermutation}
use Rattle.std.proofs.lemmas.Map.Keys.{IsDistinct-IsPermutation, IsDistinct-cons}
use Rattle.std.proofs.lemmas.Bool.{eqb-true, and_parts, or_parts, not-false}
use Rattle.std.specs.List.{list_any, list_all, IsDistinct, AllByRecursion}
use Rattle.std.specs.Cmp.Lexicographic.{pointwise, same_text, texts_ties}
use Rattle.jc_types.proofs.CallerLemmas.{all_imply}
use Rattle.jc_types.specs.declared.caller.Caller.{Caller}
use Rattle.jc_types.specs.declared.config.Config.{Config}
use Rattle.jc_model.specs.declared.event.Event.{Event}
use Rattle.jc_model.specs.declared.event.Event.TheVariants.{Step}
use Rattle.jc_model.specs.declared.event.Op.{Op}
use Rattle.jc_model.specs.declared.event.Op.TheVariants.{Get, LoadAll, Invoke}
use Rattle.jc_model.specs.declared.event.Change.{Change}
use Rattle.jc_model.specs.declared.event.ProcessAnswer.TheVariants as process
use Rattle.jc_model.specs.declared.event.Out.{Out}
use Rattle.jc_model.specs.declared.event.Reply.{Reply}
use Rattle.jc_model.specs.Cache.{Bytes, entry_at, key_cmp}
use Rattle.jc_model.specs.Listed.{has_distinct_keys}
use Rattle.jc_model.specs.Table.{always_if, write_ask, is_invoke}
use Rattle.jc_model.specs.Legal.{in_order, may_come, may_follow}
use Rattle.jc_inflight.specs.declared.joiner.JoinState.TheVariants.{Answered, Again}
use Rattle.jc_inflight.specs.Joining.{callers_of, waits}
use Rattle.jc_inflight.specs.Resolving.{after_resolve}
use Rattle.jc_inflight.specs.Taking as taking
use Rattle.jc_stripe.specs.Outcomes.{StepDone}
use Rattle.jc_stripe.specs.declared.ticket.Reservation.{Reservation}
use Rattle.jc_stripe.specs.Tickets.{JoinClaim, TicketClaim, asks_processor}
use Rattle.jc_stripe.specs.Refusals.{first_asked, first_by}
use Rattle.jc_stripe.specs.Outcomes as begun
use Rattle.jc_stripe.specs.State.{State, IsOut, is_of}
use Rattle.jc_stripe.specs.Keys.{AreKeys}
use Rattle.jc_stripe.specs.OrderOfUse.{by_use}
use Rattle.jc_stripe.specs.Phases.{MayBegin, Begins, Steps, new_group, with_joiner, after_commit, after_withdrawal, without_joiner, told_to}
use Rattle.jc_stripe.specs.Reached.{IsReached, may_share}
use Rattle.jc_stripe.specs.OnePhase.{is_parked, own_steps, GainsOwn}
use Rattle.jc_stripe.specs.OwnSteps.{AddsOwn, HasOneMore}
use Rattle.jc_stripe.proofs.Settled.{claim_left, keyed_callers}
pub use Rattle.jc_stripe.proofs.Refusing.{asks_none, answering_asks, clash, fewer_than, joins_get}
pub use Rattle.jc_stripe.proofs.Settled.{loads_asked}
pub use Rattle.jc_stripe.proofs.Numbering.{without_none}
pub use Rattle.jc_stripe.proofs.Uniform.{next_begun}
pub use Rattle.jc_stripe.proofs.AllEntries.{distinct-append, all_entries_once, once_unless_shared}
pub use Rattle.jc_stripe.proofs.Kept.{kept_few, kept_once, kept_own}
pub use Rattle.jc_stripe.proofs.Refusing.{call_below, ends_numbers, lacks_room, put_off_or_full}
pub use Rattle.jc_stripe.proofs.Renewing.{past-snoc, stays_alone, stays_or_renews}
pub use Rattle.jc_stripe.proofs.Used.{by_use-append}
pub use Rattle.jc_stripe.proofs.WholeSteps.{of_same, whole_goes_on, own_stay, there_behind, adds_whole, gains_whole, may_in_all}
pub use Rattle.jc_stripe.proofs.Opened.{opened_len, opened_at, opened_opens}
pub use Rattle.jc_stripe.proofs.Tables.{reached_start}
use Rattle.jc_stripe.proofs.ParkedSteps.{parked-joined, parked-dissolved, parked-answered, parked-callers}
use Rattle.jc_stripe.proofs.OwnPick.{is_call, differs, before_differs, after_differs, parked_other, none_parked, parked_told}
use Rattle.jc_stripe.proofs.Own.{unparked, step_there, again_parks}

-- 1. A step at its place.

pub step_at : (old new : State) (caller : Caller) (key : Bytes) (op : Op) (out : Out) (callers : List Caller) (done : StepDone) → Steps old caller key op out callers done new
    → slice_get new.history done.place ≡ Some (Step caller op key out None done.reply)
step_at old new caller key op out callers done steps =
    (λ i. slice_get (steps.after i).history (steps.place i)) ∙ step_there old.history (new_group old caller key op out callers steps.short)
    ∙ ap (λ reply. Some (Step caller op key out None reply)) (sym steps.reply)

-- 2. A join, and a withdrawal.

pub joined_parks : (old : State) (join : JoinClaim) (c : Caller) (k : Bytes) → is_parked (with_joiner old join).joiners c k ≡ is_parked old.joiners c k
joined_parks old join c k = parked-joined join.caller join.load join.key old.joiners c k

pub withdrawn_parks : (old : State) (r : Reservation) (c : Caller) (k : Bytes) → is_parked (after_withdrawal old r).joiners c k ≡ is_parked old.joiners c k
withdrawn_parks old r c k = parked-dissolved r.number old.joiners c k

-- 3. A step that is done at once, and a commit.

pub beginner_parks : (old : State) (caller : Caller) (key : Bytes) → MayBegin old caller key → is_parked old.joiners caller key ≡ false
beginner_parks old caller key may = unparked caller key old.joiners may.apart

-- what all of a list pass, that at a place does
pub all_at : {A : Type 0} (p : A → Bool) (xs : List A) (i : ℕ) (x : A) → list_all p xs ≡ true → slice_get xs i ≡ Some x → p x ≡ true
all_at p [] i x all h = cc
all_at p (y ∷ ys) zero x all h = let is : y ≡ x = cc in ap p (sym is) ∙ (and_parts (p y) (list_all p ys) all).0
all_at p (y ∷ ys) (suc i) x all h = all_at p ys i x (and_parts (p y) (list_all p ys) all).1 h

-- one that waits may share behind each event
shares_at : (w all one : Bool) → (all ≡ true → one ≡ true) → (not w || all) ≡ true → (not w || one) ≡ true
shares_at true all one f h = f h
shares_at false all one f h = refl

-- the steps that were there are parked as before
pub commit_parks : (old : State) (r : Reservation) (place at : ℕ) (c : Caller) (op : Op) (k : Bytes) (out : Out) (shared : Option ℕ) (reply : Reply) → IsReached old
    → slice_get old.history at ≡ Some (Step c op k out shared reply) → is_parked (after_commit old r place).joiners c k ≡ is_parked old.joiners c k
commit_parks old r place at c op k out shared reply reached there =
    let e : Event = Step c op k out shared reply in
    parked-answered r.number place (place + 1) old.joiners c op k out shared reply
    (all_imply (may_share old.history) (λ j. not (waits j) || may_come e j.caller j.key) old.joiners
    (λ j. shares_at (waits j) _ _ (λ all. all_at (λ x. may_come x j.caller j.key) old.history at e all there)) reached.shares)

-- the commit's own step is not parked
pub committer_parks : (old : State) (r : Reservation) (place : ℕ) → IsReached old → IsOut old r → is_parked (after_commit old r place).joiners r.caller r.key ≡ false
committer_parks old r place reached found = unparked r.caller r.key (after_resolve r.number place old.joiners) (claim_left old r place reached found)

-- those that share its load are
pub sharers_park : (old : State) (r : Reservation) (place : ℕ) → IsReached old → IsOut old r → list_all (λ c. is_parked (after_commit old r place).joiners c r.key) (callers_of r.number old.joiners) ≡ true
sharers_park old r place reached found = parked-callers r.number place (place + 1) r.key old.joiners (keyed_callers old r reached found)

-- 4. A pick-up.

pub picker_parks : (old : State) (join : JoinClaim) (place shared : ℕ) → told_to old join ≡ Some (Answered place shared) → is_parked old.joiners join.caller join.key ≡ true
picker_parks old join place shared told = parked_told join.caller join.key old.joiners place shared told

pub picked_parks : (old : State) (join : JoinClaim) → is_parked (without_joiner old join).joiners join.caller join.key ≡ false
picked_parks old join = none_parked join.caller join.key old.joiners

-- a step at another place is another call's or of another key
differs_at : (c : Caller) (op : Op) (k : Bytes) (out : Out) (shared : Option ℕ) (reply : Reply) (events : List Event) (place at : ℕ) (e : Event) → in_order events ≡ true
    → slice_get events place ≡ Some (Step c op k out shared reply) → slice_get events at ≡ Some e → (place ≡ at → ⊥) → differs c k e ≡ true
differs_at c op k out shared reply [] place at e h here there apart = cc
differs_at c op k out shared reply (x ∷ xs) zero zero e h here there apart = absurd (apart refl)
differs_at c op k out shared reply (x ∷ xs) zero (suc at) e h here there apart =
    let is : x ≡ Step c op k out shared reply = cc in
    after_differs c op k out shared reply e (ap (λ y. may_follow y e) (sym is) ∙ all_at (may_follow x) xs at e (and_parts (list_all (may_follow x) xs) (in_order xs) h).0 there)
differs_at c op k out shared reply (x ∷ xs) (suc place) zero e h here there apart =
    let is : x ≡ e = cc in
    before_differs c op k out shared reply e (ap (λ y. may_follow y (Step c op k out shared reply)) (sym is) ∙ all_at (may_follow x) xs place (Step c op k out shared reply) (and_parts (list_all (may_follow x) xs) (in_order xs) h).0 here)
differs_at c op k out shared reply (x ∷ xs) (suc place) (suc at) e h here there apart =
    differs_at c op k out shared reply xs place at e (and_parts (list_all (may_follow x) xs) (in_order xs) h).1 here there (λ same. apart (ap suc same))

-- so it is parked as before
pub others_park : (old : State) (join : JoinClaim) (op : Op) (out : Out) (shared : Option ℕ) (reply : Reply) (place at : ℕ) (c : Caller) (op' : Op) (k : Bytes) (out' : Out) (shared' : Option ℕ) (reply' : Reply) → IsReached old
    → slice_get old.history place ≡ Some (Step join.caller op join.key out shared reply) → slice_get old.history at ≡ Some (Step c op' k out' shared' reply') → (place ≡ at → ⊥)
    → is_parked (without_joiner old join).joiners c k ≡ is_parked old.joiners c k
others_park old join op out shared reply place at c op' k out' shared' reply' reached here there apart =
    parked_other join.caller join.key old.joiners c k
    (differs_at join.caller op join.key out shared reply old.history place at (Step c op' k out' shared' reply') reached.legal.order here there apart)

-- one that is told to retry had nothing parked
pub again_parks_same : (old : State) (join : JoinClaim) (c : Caller) (k : Bytes) → IsReached old → told_to old join ≡ Some Again → is_parked (without_joiner old join).joiners c k ≡ is_parked old.joiners c k
again_parks_same old join c k reached told =
    let mine : Caller = join.caller in
    elim (is_call mine join.key c k) as (λ b. is_call mine join.key c k ≡ b → is_parked (taking.joiners_without mine join.key old.joiners) c k ≡ is_parked old.joiners c k) [
      | true ↦ λ e.
          let outer = and_parts ((c.session == mine.session) && (c.call == mine.call)) (pointwise ◌==◌ k join.key) e in
          let inner = and_parts (c.session == mine.session) (c.call == mine.call) outer.0 in
          let who : c ≡ mine = λ i. record { session = eqb-true c.session mine.session inner.0 i; call = eqb-true c.call mine.call inner.1 i } in
          let key : k ≡ join.key = same_text k join.key (sym outer.1) in
          (λ i. is_parked (taking.joiners_without mine join.key old.joiners) (who i) (key i)) ∙ none_parked mine join.key old.joiners
          ∙ sym (again_parks mine join.key old.joiners reached.apart told) ∙ (λ i. is_parked old.joiners (sym who i) (sym key i))
      | false ↦ λ e. parked_other mine join.key old.joiners c k (ap not e)
    ] refl

-- 5. A processor's ticket.

no_processor : (b w : Bool) (change : Option Change) → asks_processor (first_by (always_if b) (cond w change None)) ≡ true → (A : Type 0) → A
no_processor true w change h A = cc
no_processor false true None h A = cc
no_processor false true (Some change) h A = cc
no_processor false false change h A = cc

-- what asks a processor first is an `Invoke`
pub asks_invoking : (config : Config) (op : Op) (entry : Option Bytes) → asks_processor (first_asked config op entry) ≡ true → is_invoke op ≡ true
asks_invoking config Invoke entry h = refl
asks_invoking config Get entry h = no_processor (config.read_through && is_none entry) config.write_through None h _
asks_invoking config (LoadAll replace) entry h = no_processor (replace || is_none entry) config.write_through None h _
asks_invoking config op entry h = no_processor false config.write_through (write_ask op entry process.NotAsked) h _

pub invokes : (old new : State) (caller : Caller) (key : Bytes) (op : Op) (ticket : TicketClaim) → Begins old caller key op (begun.Asks ticket) new → asks_processor ticket.reservation.first ≡ true → is_invoke op ≡ true
invokes old new caller key op ticket begins runs = asks_invoking old.config op (entry_at old.cache key) (ap asks_processor begins.2 ∙ runs)

-- 6. The keys of a stripe.

none_there : (q : Bytes) (entries : List (Bytes × Bytes)) → is_none (find key_cmp q entries) ≡ true → AllByRecursion (λ k. pointwise ◌==◌ q k ≡ false) (keys_of entries)
none_there q [] h = tt
none_there q (e ∷ es) h = by (eq_by_cmp key_cmp q e.0) refl h (none_there q es)
  where
    by : (b : Bool) → eq_by_cmp key_cmp q e.0 ≡ b → is_none (cond b (Some e.1) (find key_cmp q es)) ≡ true
        → (is_none (find key_cmp q es) ≡ true → AllByRecursion (λ k. pointwise ◌==◌ q k ≡ false) (keys_of es)) → AllByRecursion (λ k. pointwise ◌==◌ q k ≡ false) (keys_of (e ∷ es))
    by true is none rest = cc
    by false is none rest = (texts_ties q e.0 ∙ is, rest none)

pub none_twice : IsDistinct (pointwise ◌==◌) []
unfolding IsDistinct
none_twice = tt

once : (entries : List (Bytes × Bytes)) → has_distinct_keys entries ≡ true → IsDistinct (pointwise ◌==◌) (keys_of entries)
once [] h = none_twice
once (e ∷ es) h =
    let parts = and_parts (is_none (find key_cmp e.0 es)) (has_distinct_keys es) h in
    IsDistinct-cons (pointwise ◌==◌) e.0 (keys_of es) (none_there e.0 es parts.0) (once es parts.1)

pub keys_once : (s : State) (found : List Bytes) → IsReached s → AreKeys s found → IsDistinct (pointwise ◌==◌) found
keys_once s found reached are =
    IsDistinct-IsPermutation (pointwise ◌==◌) nat_list_eq_equiv.symm (keys_of (by_use s.opening s.history)) found are.each (once (by_use s.opening s.history) reached.used.once)

none_other : (p : Bytes → Bool) (xs : List Bytes) → list_all p xs ≡ true → list_any (λ x. not (p x)) xs ≡ false
none_other p [] h = refl
none_other p (x ∷ xs) h = let parts = and_parts (p x) (list_all p xs) h in (λ i. not (parts.0 i) || none_other p xs parts.1 i)

all_pass : (p : Bytes → Bool) (xs : List Bytes) → list_any (λ x. not (p x)) xs ≡ false → list_all p xs ≡ true
all_pass p [] h = refl
all_pass p (x ∷ xs) h = let parts = or_parts (not (p x)) (list_any (λ y. not (p y)) xs) h in (λ i. not-false (p x) parts.0 i && all_pass p xs parts.1 i)

all_keys : (p : Bytes → Bool) (entries : List (Bytes × Bytes)) → list_all p (keys_of entries) ≡ list_all (λ (e : Bytes × Bytes). p e.0) entries
all_keys p [] = refl
all_keys p (e ∷ es) = ap (λ b. p e.0 && b) (all_keys p es)

pub keys_own : (s : State) (found : List Bytes) → IsReached s → AreKeys s found → list_all (is_of s) found ≡ true
keys_own s found reached are =
    let keys : List Bytes = keys_of (by_use s.opening s.history) in
    let own : list_all (is_of s) keys ≡ true = all_keys (is_of s) (by_use s.opening s.history) ∙ reached.used.own in
    all_pass (is_of s) found (sym (list_any-IsPermutation (λ k. not (is_of s k)) keys found are.each) ∙ none_other (is_of s) keys own)

-- 7. One own step more.

pub adds_one : (session : ℕ) (old new : State) (event : Event) (place : ℕ) → AddsOwn session old new event place → HasOneMore event (own_steps session old) (own_steps session new)
adds_one session old new event place adds = record { before = own_steps session old; after = []; was = sym (append-nil (own_steps session old)); is = adds.own }

pub gains_one : (session : ℕ) (old new : State) (event : Event) (place : ℕ) → GainsOwn session old new event place → HasOneMore event (own_steps session old) (own_steps session new)
gains_one session old new event place gains = record { before = gains.before; after = gains.after; was = gains.was; is = gains.own }

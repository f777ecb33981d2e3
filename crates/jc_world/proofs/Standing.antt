-- Each answer that was shown is that of a step of its call.
--     IsLater        a world is of the same configuration as another, and has that one's order and what follows it
--     BegunAs        a call of a caller has begun, with this operation and key
--     AllBegun       what is under way, reserved and joined is so of calls that have begun
--     AllStand       each answer that was shown is that of its call's step, and the call has begun before it
--     stands_run     so a run of events keeps that
use Rattle.jc_world.proofs.Common.{◌≡◌, ℕ, zero, suc, true, false, cond, not, List, [], ◌∷◌, ◌++◌, length, take, slice_get, slice_set, Some, None, Option, option_map, zip, sym, refl, ap, ◌∙◌, subst, subst₂, inl, inr, append_assoc, append-nil, arith, take-append_seam, and_from, or_parts, nat_eq_equiv, take-append-le, filter-append, slice_get_within, get, get-empty, insert, remove, stripe_of, Caller, Config, Refusal, WriterFailed, Bytes, key_cmp, nothing_said, is_of_stripe, of_stripe, Op, Get, Out, Reply, callers_of, step_at, after_commit, State, JoinClaim, Reservation, Command, Outcome, Part, Shown, WorldEvent, CallState, new_call, has_number, op_for, is_going, has_too_many_keys, opened, going_on, with_met, settle, with_swept_keys, step_of, with_met_by, new_part, keys_reported, Happens, Step, Run, fits, IsOpeningWorld, is_reopening, reopens, report_for, IsReplyOfStep, Stands, is_answer_at, Each, IsSoundWorld, Parts, JoinKey, join_cmp, join_key, Joins, WorldState, home, stripe_for, open_call, part_of, out_of_part, reported_now}
use Rattle.jc_model.specs.declared.event.Event.{Event as StripeEvent}
use Rattle.jc_world.proofs.Lemmas.{still_at, each_map, fact_found, each_pushed, each_filter, added, found_number, of_call-at, done_for, Left, each_settled, begun_shown, Taken, taken_of, taken_met, each_taken, join_at, joins_get, part_key, stripe_put, AnswersNone, IsStart, KeyChange, by_nothing, by_refusal, by_step, by_reservation, by_join, by_commit, by_withdrawal, by_answer, by_retry, key_change, StripeChange, by_invalidation, by_key, beside_stripes, by_reopening, change_of, Move, move_at, no_move, quiet_move, loud_move, reopening_move, move_step, ends_as, TellsDrop, of_step, of_withdrawal, of_same, KeyEvent, plain, dropping, Drop, by_mark, each_report}
use Rattle.jc_stripe.specs.Invalidating.{without_entry}
use Rattle.jc_world.proofs.Maps.{keys_ordered, joins_ordered, each_put, each_left}
use Rattle.jc_world.proofs.Opened.{no_part, no_join, sound_opening}
use Rattle.jc_world.proofs.Sounding.{Laws, sound_step, sound_change, sound_event}

-- 1. Places of lists.

-- what is at a place of a list with one more was there, or is the last
pub pushed_at : {A P : Type 0} (xs : List A) (y : A) (i : ℕ) (x : A) → (slice_get xs i ≡ Some x → P) → (i ≡ length xs → y ≡ x → P) → slice_get (xs ++ y ∷ []) i ≡ Some x → P
pushed_at [] y zero x before last h = last refl (let t : Some y ≡ Some x = h in cc)
pushed_at [] y (suc i) x before last h = cc
pushed_at (z ∷ zs) y zero x before last h = before h
pushed_at (z ∷ zs) y (suc i) x before last h = pushed_at zs y i x before (λ at. last (ap suc at)) h

-- the first of what follows a list
pub seam_at : {A : Type 0} (xs ys : List A) (y : A) → slice_get (xs ++ y ∷ ys) (length xs) ≡ Some y
seam_at [] ys y = refl
seam_at (z ∷ zs) ys y = seam_at zs ys y

-- 2. Later worlds.

-- a world of the same configuration, whose order continues the other's
pub record IsLater (old new : WorldState) : Type 0 where
  pub config : new.config ≡ old.config
  pub more : List StripeEvent
  pub order : new.order ≡ old.order ++ more

later_same : (old new : WorldState) → new.config ≡ old.config → new.order ≡ old.order → IsLater old new
later_same old new config order = record { config = config; more = []; order = order ∙ sym (append-nil old.order) }

later_as : (w new : WorldState) (seen : Outcome) → Move w new seen → is_reopening seen ≡ false → IsLater w new
later_as w new seen (no_move config stripes order) none = later_same w new config order
later_as w new seen (quiet_move key from to there config stripes order cache) none = later_same w new config order
later_as w new seen (loud_move more config order changes) none = record { config = config; more = more; order = order }
later_as w new seen (reopening_move reopens) none = let t : true ≡ false = sym reopens ∙ none in cc

pub later_step : (w new : WorldState) (e : WorldEvent) (seen : Shown) → Step w e seen new → is_reopening seen.outcome ≡ false → IsLater w new
later_step w new e seen step none = later_as w new seen.outcome (move_step w new e seen step) none

-- if none of these opened the cache again, neither did the first, nor one of the others
pub reopens_none : (s : Shown) (ss : List Shown) → reopens (s ∷ ss) ≡ false → (is_reopening s.outcome ≡ false) × (reopens ss ≡ false)
reopens_none s ss none = or_parts (is_reopening s.outcome) (reopens ss) none

-- a run that opens nothing again keeps the configuration
pub config_run : (w new : WorldState) (es : List WorldEvent) (ss : List Shown) → Run w es ss new → reopens ss ≡ false → new.config ≡ w.config
config_run w new [] [] run none = ap (λ (x : WorldState). x.config) run
config_run w new (e ∷ es) (s ∷ ss) (mid, step, rest) none =
    let parts = reopens_none s ss none in
    config_run mid new es ss rest parts.1 ∙ (later_step w mid e s step parts.0).config
config_run w new es ss run none = absurd run

-- 3. What was shown stays true.

answered_on : (w n : WorldState) (shows : List (WorldEvent × Shown)) (call : ℕ) (key : Bytes) (reply : Reply) (number place : ℕ) (shared : Option ℕ) → IsLater w n
    → IsReplyOfStep w shows call key reply number place shared → IsReplyOfStep n shows call key reply number place shared
answered_on w n shows call key reply number place shared later h =
    let mine = is_of_stripe w.config.stripes number in
    record {
      session = h.session;
      command = h.command;
      op = h.op;
      at = h.at;
      seen = h.seen;
      begun = h.begun;
      begun_is = h.begun_is;
      op_is = h.op_is;
      home_is = h.home_is ∙ ap (λ (c : Config). stripe_of key c.stripes) (sym later.config);
      out = h.out;
      step = (λ i. slice_get (of_stripe (later.config i).stripes number (later.order i)) place)
          ∙ ap (λ es. slice_get es place) (filter-append mine w.order later.more)
          ∙ still_at (of_stripe w.config.stripes number w.order) (of_stripe w.config.stripes number later.more) place _ h.step;
    }

stands_on : (w n : WorldState) (shows : List (WorldEvent × Shown)) (e : WorldEvent) (seen : Outcome) → IsLater w n → Stands w shows e seen → Stands n shows e seen
stands_on w n shows (WorldEvent.Start call key) (Outcome.Stepped x) later h = answered_on w n shows call key x.reply x.stripe x.place None later h
stands_on w n shows (WorldEvent.Commit call key) (Outcome.Stepped x) later h = answered_on w n shows call key x.reply x.stripe x.place None later h
stands_on w n shows (WorldEvent.PickUp call key) (Outcome.PickedUp x) later h = answered_on w n shows call key x.reply x.stripe x.place (Some x.shared) later h
stands_on w n shows e (Outcome.Stepped x) later h = absurd h
stands_on w n shows e (Outcome.PickedUp x) later h = absurd h
stands_on w n shows e seen later h = tt

-- 4. Which calls have begun.

-- a call of this caller that does this at this key is among what has happened
abbrev pub BegunAs : List (WorldEvent × Shown) → Caller → Bytes → Op → Type 0
BegunAs shows caller key op =
    (at : ℕ) × (command : Command) × (seen : Shown) × (slice_get shows at ≡ Some (WorldEvent.Call caller.call caller.session command, seen)) × (seen.outcome ≡ Outcome.Begun) × (op_for (new_call caller.call caller.session command) key ≡ Some op)

abbrev IsBegun : List (WorldEvent × Shown) → CallState → Type 0
IsBegun shows u = (key : Bytes) (op : Op) → op_for u key ≡ Some op → BegunAs shows u.caller key op

abbrev PartBegun : List (WorldEvent × Shown) → Part → Type 0
PartBegun shows part = BegunAs shows part.reservation.caller part.reservation.key part.reservation.op

abbrev JoinBegun : List (WorldEvent × Shown) → JoinClaim → Type 0
JoinBegun shows join = BegunAs shows join.caller join.key Get

abbrev PartsBegun : List (WorldEvent × Shown) → Parts → Type 0
PartsBegun shows parts = (key : Bytes) (part : Part) → get parts key ≡ Some part → PartBegun shows part

abbrev JoinsBegun : List (WorldEvent × Shown) → Joins → Type 0
JoinsBegun shows joins = (at : JoinKey) (join : JoinClaim) → get joins at ≡ Some join → JoinBegun shows join

-- what is under way, reserved and joined is so of calls that have begun
pub record AllBegun (shows : List (WorldEvent × Shown)) (w : WorldState) : Type 0 where
  pub calls : Each (IsBegun shows) w.calls
  pub parts : PartsBegun shows w.parts
  pub joins : JoinsBegun shows w.joins

begun_on : (shows more : List (WorldEvent × Shown)) (caller : Caller) (key : Bytes) (op : Op) → BegunAs shows caller key op → BegunAs (shows ++ more) caller key op
begun_on shows more caller key op h = (h.0, h.1, h.2, still_at shows more h.0 _ h.3, h.4, h.5)

-- they are so when more has happened
all_begun_on : (shows more : List (WorldEvent × Shown)) (w : WorldState) → AllBegun shows w → AllBegun (shows ++ more) w
all_begun_on shows more w h = record {
  calls = each_map (IsBegun shows) (IsBegun (shows ++ more)) w.calls (λ u b key op is. begun_on shows more u.caller key op (b key op is)) h.calls;
  parts = λ key part is. begun_on shows more part.reservation.caller part.reservation.key part.reservation.op (h.parts key part is);
  joins = λ at join is. begun_on shows more join.caller join.key Get (h.joins at join is);
}

-- the call that is found under way has begun
begun_under : (shows : List (WorldEvent × Shown)) (w : WorldState) (call : ℕ) (u : CallState) → open_call w call ≡ Some u → AllBegun shows w → IsBegun shows u
begun_under shows w call u here h = fact_found (IsBegun shows) (has_number call) w.calls u here h.calls

-- a part is put in place, or taken away
parts_put : (shows : List (WorldEvent × Shown)) (parts : Parts) (key : Bytes) (part : Part) → PartBegun shows part → PartsBegun shows parts → PartsBegun shows (insert parts key part)
parts_put shows parts key part one all = each_put keys_ordered (λ q p. PartBegun shows p) parts key part one all

parts_left : (shows : List (WorldEvent × Shown)) (parts : Parts) (key : Bytes) → PartsBegun shows parts → PartsBegun shows (remove parts key)
parts_left shows parts key all = each_left keys_ordered (λ q p. PartBegun shows p) parts key (λ q p other is. all q p is)

-- and so is a join
joins_left : (shows : List (WorldEvent × Shown)) (joins : Joins) (at : JoinKey) → JoinsBegun shows joins → JoinsBegun shows (remove joins at)
joins_left shows joins at all = each_left joins_ordered (λ q j. JoinBegun shows j) joins at (λ q j other is. all q j is)

-- a part of a call has begun
part_begun : (shows : List (WorldEvent × Shown)) (w : WorldState) (call : ℕ) (key : Bytes) (part : Part) → part_of w call key ≡ Some part → AllBegun shows w → PartBegun shows part
part_begun shows w call key part is h = h.parts key part (of_call-at call (get w.parts key) part is).0

-- what is left of a call has begun
begun_left : (shows : List (WorldEvent × Shown)) (call : ℕ) (key : Bytes) (u v : CallState) → Left call key u v → IsBegun shows u → IsBegun shows v
begun_left shows call key u v left h q op is = let P : Caller → Type 0 = λ c. BegunAs shows c q op in subst P (sym left.caller_is) (h q op (left.was q op is))

-- what is left of a call that has taken keys has begun
begun_taken : (shows : List (WorldEvent × Shown)) (u v : CallState) → Taken u v → IsBegun shows u → IsBegun shows v
begun_taken shows u v taken h q op is = let P : Caller → Type 0 = λ c. BegunAs shows c q op in subst P (sym taken.caller_is) (h q op (taken.was q op is))

-- the calls once a key of one is settled
calls_settled_begun : (shows : List (WorldEvent × Shown)) (w : WorldState) (call : ℕ) (key : Bytes) (met : Option Refusal) → AllBegun shows w → Each (IsBegun shows) (settle call key met w.calls)
calls_settled_begun shows w call key met old = each_settled call key met (IsBegun shows) w.calls (begun_left shows call key) old.calls

-- a call that starts at a key has begun
start_begun : (shows : List (WorldEvent × Shown)) (w : WorldState) (e : WorldEvent) (key : Bytes) (u : CallState) (op : Op) → IsStart w e key u op → AllBegun shows w → BegunAs shows u.caller key op
start_begun shows w e key u op s old = begun_under shows w s.call u s.here old key op (done_for u key op s.op_is)

-- by the kind of the change at a key
begun_key : (shows : List (WorldEvent × Shown)) (w new : WorldState) (e : WorldEvent) (key : Bytes) (seen : Shown) → KeyChange w new e key seen → AllBegun shows w → AllBegun shows new
begun_key shows w new e key seen (by_nothing is none ends) old = subst (AllBegun shows) (sym is) old
begun_key shows w new e key seen (by_refusal u op refusal may is none ends) old = subst (AllBegun shows) (sym is) (record { calls = calls_settled_begun shows w u.caller.call key _ old; parts = old.parts; joins = old.joins })
begun_key shows w new e key seen (by_step u op from to x may there h home_is is shows_it ends) old = subst (AllBegun shows) (sym is) (record { calls = calls_settled_begun shows w u.caller.call key _ old; parts = old.parts; joins = old.joins })
begun_key shows w new e key seen (by_reservation u op from to p r may there h is none ends) old =
    let P : Reservation → Type 0 = λ x. PartBegun shows (new_part p x) in
    subst (AllBegun shows) (sym is) (record { calls = old.calls; parts = parts_put shows w.parts key (new_part p r) (subst P (sym h.is) (start_begun shows w e key u op may old)) old.parts; joins = old.joins })
begun_key shows w new e key seen (by_join u op from to join may there h is none ends) old =
    let one = rw (joins_get from key op join.load h.1) at (start_begun shows w e key u op may old) in
    subst (AllBegun shows) (sym is) (record { calls = old.calls; parts = old.parts; joins = each_put joins_ordered (λ at j. JoinBegun shows j) w.joins (join_key join) join (subst (JoinBegun shows) (sym h.2) one) old.joins })
begun_key shows w new e key seen (by_commit call part from to x e_is part_is there h home_is is shows_it) old =
    subst (AllBegun shows) (sym is) (record { calls = calls_settled_begun shows w call key _ old; parts = parts_left shows w.parts key old.parts; joins = old.joins })
begun_key shows w new e key seen (by_withdrawal call part from to e_is part_is there h is shows_it) old =
    subst (AllBegun shows) (sym is) (record { calls = old.calls; parts = parts_left shows w.parts key old.parts; joins = old.joins })
begun_key shows w new e key seen (by_mark from to there out h reached is none ends) old = subst (AllBegun shows) (sym is) (record { calls = old.calls; parts = old.parts; joins = old.joins })
begun_key shows w new e key seen (by_answer call join from to x e_is join_is there h home_is is shows_it ends) old =
    subst (AllBegun shows) (sym is) (record { calls = calls_settled_begun shows w call key _ old; parts = old.parts; joins = joins_left shows w.joins (call, key) old.joins })
begun_key shows w new e key seen (by_retry call join from to e_is join_is there h is shows_it ends) old =
    subst (AllBegun shows) (sym is) (record { calls = old.calls; parts = old.parts; joins = joins_left shows w.joins (call, key) old.joins })

-- of any event that fits, if it is among what has happened
begun_happens : (shows : List (WorldEvent × Shown)) (w new : WorldState) (e : WorldEvent) (seen : Shown) → (at : ℕ) × (slice_get shows at ≡ Some (e, seen)) → Happens w e seen new → AllBegun shows w → AllBegun shows new
begun_happens shows w new (WorldEvent.Call call session command) seen last h old =
    let one : CallState = new_call call session command in
    let begun : has_too_many_keys one ≡ false → IsBegun shows one = λ few key op is. (last.0, command, seen, last.1, ap (λ (s : Shown). s.outcome) h.0 ∙ begun_shown one few, is) in
    let none : Each (IsBegun shows) (w.calls ++ []) = subst (Each (IsBegun shows)) (sym (append-nil w.calls)) old.calls in
    let calls : Each (IsBegun shows) (w.calls ++ opened one) =
    elim (has_too_many_keys one) as (λ b. has_too_many_keys one ≡ b → Each (IsBegun shows) (w.calls ++ cond b [] (cond (is_going one) (one ∷ []) []))) [
      | true ↦ λ e. none
      | false ↦ λ e. elim (is_going one) as (λ b. Each (IsBegun shows) (w.calls ++ cond b (one ∷ []) [])) [
        | true ↦ each_pushed (IsBegun shows) w.calls one old.calls (begun e)
        | false ↦ none
      ]
    ] refl
    in
    subst (AllBegun shows) (sym h.1) (record { calls = calls; parts = old.parts; joins = old.joins })
begun_happens shows w new (WorldEvent.Look call stripe) seen last h old =
    let stripes = w.config.stripes in
    subst (AllBegun shows) (sym h.9)
    (record {
      calls = each_taken call (λ u. going_on (with_swept_keys stripes stripe h.6 h.1 u)) (IsBegun shows) h.0 w.calls h.2 (λ v goes b. begun_taken shows h.0 v (taken_of stripes stripe h.6 h.1 h.0 v h.3 goes) b) old.calls;
      parts = old.parts;
      joins = old.joins;
    })
begun_happens shows w new (WorldEvent.Read call key) seen last h old =
    subst (AllBegun shows) (sym h.3) (record { calls = old.calls; parts = parts_put shows w.parts key _ (part_begun shows w call key h.0 h.1 old) old.parts; joins = old.joins })
begun_happens shows w new (WorldEvent.Say call key answer) seen last h old =
    subst (AllBegun shows) (sym h.3) (record { calls = old.calls; parts = parts_put shows w.parts key _ (part_begun shows w call key h.0 h.1 old) old.parts; joins = old.joins })
begun_happens shows w new (WorldEvent.Process call key source calls fail) seen last h old =
    subst (AllBegun shows) (sym h.3) (record { calls = old.calls; parts = parts_put shows w.parts key _ (part_begun shows w call key h.0 h.1 old) old.parts; joins = old.joins })
begun_happens shows w new (WorldEvent.Change call key) seen last h old =
    subst (AllBegun shows) (sym h.5) (record { calls = old.calls; parts = parts_put shows w.parts key _ (part_begun shows w call key h.0 h.2 old) old.parts; joins = old.joins })
begun_happens shows w new (WorldEvent.Report call left fault) seen last h old =
    let met = option_map WriterFailed fault in
    subst (AllBegun shows) (sym h.3)
    (each_report (AllBegun shows) call (report_for h.0.kind left fault)
    (λ v key part at waits o. record { calls = o.calls; parts = parts_put shows v.parts key _ (part_begun shows v call key part at o) o.parts; joins = o.joins })
    (with_met_by w call met) (keys_reported (reported_now w call h.0))
    (record { calls = each_taken call (λ x. Some (with_met met x)) (IsBegun shows) h.0 w.calls h.1 (λ v goes b. begun_taken shows h.0 v (taken_met met h.0 v goes) b) old.calls; parts = old.parts; joins = old.joins }))
begun_happens shows w new (WorldEvent.Commit call key) seen last h old =
    subst (AllBegun shows) (sym (ends_as w new call key h.0 h.2 h.4 seen.outcome h.5).4) (record { calls = calls_settled_begun shows w call key _ old; parts = parts_left shows w.parts key old.parts; joins = old.joins })
begun_happens shows w new (WorldEvent.Withdraw call key) seen last h old =
    subst (AllBegun shows) (sym h.7) (record { calls = old.calls; parts = parts_left shows w.parts key old.parts; joins = old.joins })
begun_happens shows w new (WorldEvent.Invalidate key) seen last h old = subst (AllBegun shows) (sym h.5) (record { calls = old.calls; parts = old.parts; joins = old.joins })
begun_happens shows w new (WorldEvent.Leave call) seen last h old =
    subst (AllBegun shows) (sym h.1) (record { calls = each_filter (IsBegun shows) (λ x. not (has_number call x)) w.calls old.calls; parts = old.parts; joins = old.joins })
begun_happens shows w new (WorldEvent.Foreign key value) seen last h old = subst (AllBegun shows) (sym h.1) (record { calls = old.calls; parts = old.parts; joins = old.joins })
begun_happens shows w new (WorldEvent.Reopen config) seen last h old =
    subst (AllBegun shows) (sym h.1)
    (record {
      calls = tt;
      parts = λ key part is. let t : None ≡ Some part = sym (get-empty key_cmp key) ∙ is in cc;
      joins = λ at join is. let t : None ≡ Some join = sym (get-empty join_cmp at) ∙ is in cc;
    })
begun_happens shows w new e seen last h old = let k = key_change w new e seen refl h in begun_key shows w new e k.0 seen k.1 old

-- and of any event
begun_step : (shows : List (WorldEvent × Shown)) (w new : WorldState) (e : WorldEvent) (seen : Shown) → (at : ℕ) × (slice_get shows at ≡ Some (e, seen)) → Step w e seen new → AllBegun shows w → AllBegun shows new
begun_step shows w new e seen last (inl (fit, happens)) old = begun_happens shows w new e seen last happens old
begun_step shows w new e seen last (inr (unfit, shows_it, is)) old = subst (AllBegun shows) (sym is) old

-- nothing is under way in an opening
begun_opened : (shows : List (WorldEvent × Shown)) (w : WorldState) → IsOpeningWorld w → AllBegun shows w
begun_opened shows w h = record {
  calls = subst (Each (IsBegun shows)) (sym h.calls) tt;
  parts = λ key part is. let t : None ≡ Some part = sym (no_part w h key) ∙ is in cc;
  joins = λ at join is. let t : None ≡ Some join = sym (no_join w h at) ∙ is in cc;
}

-- 5. A new answer.

-- the answer of a call that has begun, with its step in the stripe of its key
answered_at : (w new : WorldState) (shows : List (WorldEvent × Shown)) (caller : Caller) (key : Bytes) (op : Op) (out : Out) (shared : Option ℕ) (reply : Reply) (number place : ℕ) (to : State) → number ≡ home w key → IsLater w new
    → slice_get new.stripes (home w key) ≡ Some to → IsSoundWorld new → slice_get to.history place ≡ Some (StripeEvent.Step caller op key out shared reply) → BegunAs shows caller key op
    → IsReplyOfStep new shows caller.call key reply number place shared
answered_at w new shows caller key op out shared reply number place to home_is later here sound step begun = record {
  session = caller.session;
  command = begun.1;
  op = op;
  at = begun.0;
  seen = begun.2;
  begun = begun.3;
  begun_is = begun.4;
  op_is = begun.5;
  home_is = home_is ∙ ap (λ (c : Config). stripe_of key c.stripes) (sym later.config);
  out = out;
  step = (λ i. slice_get (of_stripe new.config.stripes (home_is i) new.order) place) ∙ ap (λ es. slice_get es place) (sound.shape.each (home w key) to here).share ∙ step;
}

-- of another call and key that are the same
answered_for : (w : WorldState) (shows : List (WorldEvent × Shown)) (call n : ℕ) (key k : Bytes) (reply : Reply) (number place : ℕ) (shared : Option ℕ) → call ≡ n → key ≡ k → IsReplyOfStep w shows call key reply number place shared → IsReplyOfStep w shows n k reply number place shared
answered_for w shows call n key k reply number place shared calls keys h =
    rw calls at (rw keys at h)

-- what shows no answer has nothing to stand for
stands_silent : (w : WorldState) (shows : List (WorldEvent × Shown)) (e : WorldEvent) (seen : Outcome) → AnswersNone seen → Stands w shows e seen
stands_silent w shows e (Outcome.Stepped x) none = let t : true ≡ false = sym (and_from _ _ (nat_eq_equiv.refl x.stripe) (nat_eq_equiv.refl x.place)) ∙ none x.stripe x.place in cc
stands_silent w shows e (Outcome.PickedUp x) none = let t : true ≡ false = sym (and_from _ _ (nat_eq_equiv.refl x.stripe) (nat_eq_equiv.refl x.place)) ∙ none x.stripe x.place in cc
stands_silent w shows (WorldEvent.Start call key) seen none = tt
stands_silent w shows e seen none = tt

-- the stripe of a key, once a phase has set it
set_at : (w new m : WorldState) (key k : Bytes) (from to : State) → k ≡ key → stripe_for w key ≡ Some from → new ≡ m → m.stripes ≡ slice_set w.stripes (home w key) to → slice_get new.stripes (home w k) ≡ Some to
set_at w new m key k from to same there is stripes =
    ap (λ q. slice_get new.stripes (home w q)) same ∙ ap (λ (v : WorldState). slice_get v.stripes (home w key)) is ∙ ap (λ ss. slice_get ss (home w key)) stripes ∙ stripe_put w.stripes (home w key) from to there

-- by the kind of the change at a key
stands_key : (shows : List (WorldEvent × Shown)) (w new : WorldState) (e : WorldEvent) (key : Bytes) (seen : Shown) → KeyChange w new e key seen → IsLater w new → IsSoundWorld w → IsSoundWorld new → AllBegun shows w → Stands new shows e seen.outcome
stands_key shows w new e key seen (by_nothing is none ends) later old sound begun = stands_silent new shows e seen.outcome none
stands_key shows w new e key seen (by_refusal u op refusal may is none ends) later old sound begun = stands_silent new shows e seen.outcome none
stands_key shows w new e key seen (by_step u op from to x may there h home_is is shows_it ends) later old sound begun =
    let S : WorldEvent → Outcome → Type 0 = λ e o. Stands new shows e o in
    subst₂ S (sym may.e_is) (sym shows_it)
    (answered_for new shows u.caller.call may.call key key x.reply x.stripe x.place None (found_number may.call w.calls u may.here) refl
    (answered_at w new shows u.caller key op nothing_said None x.reply x.stripe x.place to home_is later (set_at w new _ key key from to refl there is refl) sound
    (step_at from to u.caller key op nothing_said [] (step_of x) h.2) (start_begun shows w e key u op may begun)))
stands_key shows w new e key seen (by_reservation u op from to p r may there h is none ends) later old sound begun = stands_silent new shows e seen.outcome none
stands_key shows w new e key seen (by_join u op from to join may there h is none ends) later old sound begun = stands_silent new shows e seen.outcome none
stands_key shows w new e key seen (by_commit call part from to x e_is part_is there h home_is is shows_it) later old sound begun =
    let r = part.reservation in
    let key_is = part_key w call key part part_is old in
    let S : WorldEvent → Outcome → Type 0 = λ e o. Stands new shows e o in
    subst₂ S (sym e_is) (sym shows_it)
    (answered_for new shows r.caller.call call r.key key x.reply x.stripe x.place None (of_call-at call (get w.parts key) part part_is).1 key_is
    (answered_at w new shows r.caller r.key r.op (out_of_part part) None x.reply x.stripe x.place to (home_is ∙ sym (ap (home w) key_is)) later (set_at w new _ key r.key from to key_is there is refl) sound
    (step_at (after_commit from r x.place) to r.caller r.key r.op (out_of_part part) (callers_of r.number from.joiners) (step_of x) h.1) (part_begun shows w call key part part_is begun)))
stands_key shows w new e key seen (by_withdrawal call part from to e_is part_is there h is shows_it) later old sound begun = stands_silent new shows e seen.outcome (λ n p. ap (λ (s : Shown). is_answer_at n p s.outcome) shows_it)
stands_key shows w new e key seen (by_mark from to there out h reached is none ends) later old sound begun = stands_silent new shows e seen.outcome none
stands_key shows w new e key seen (by_answer call join from to x e_is join_is there h home_is is shows_it ends) later old sound begun =
    let same = join_at w call key join join_is old.joins in
    let step = h.2 in
    let S : WorldEvent → Outcome → Type 0 = λ e o. Stands new shows e o in
    subst₂ S (sym e_is) (sym shows_it)
    (answered_for new shows join.caller.call call join.key key x.reply x.stripe x.place (Some x.shared) same.0 same.1
    (answered_at w new shows join.caller join.key Get step.0 (Some x.shared) x.reply x.stripe x.place to (home_is ∙ sym (ap (home w) same.1)) later (set_at w new _ key join.key from to same.1 there is refl) sound
    (ap (λ (s : State). slice_get s.history x.place) h.3 ∙ step.1) (begun.joins (call, key) join join_is)))
stands_key shows w new e key seen (by_retry call join from to e_is join_is there h is shows_it ends) later old sound begun = stands_silent new shows e seen.outcome (λ n p. ap (is_answer_at n p) shows_it)

-- an answer is that of its call's step, whatever was evicted after that
stands_told : (shows : List (WorldEvent × Shown)) (w : WorldState) (e : WorldEvent) (seen shown : Shown) → TellsDrop seen shown → Stands w shows e shown.outcome → Stands w shows e seen.outcome
stands_told shows w e seen shown (of_step x y sees shows_it reply stripe place) h =
    subst (Stands w shows e) (sym sees) (go e (subst (Stands w shows e) shows_it h))
  where
    go : (e : WorldEvent) → Stands w shows e (Outcome.Stepped y) → Stands w shows e (Outcome.Stepped x)
    go (WorldEvent.Start call key) k = subst (λ (z : Reply × ℕ × ℕ). IsReplyOfStep w shows call key z.0 z.1 z.2 None) (sym (λ i. (reply i, stripe i, place i))) k
    go (WorldEvent.Commit call key) k = subst (λ (z : Reply × ℕ × ℕ). IsReplyOfStep w shows call key z.0 z.1 z.2 None) (sym (λ i. (reply i, stripe i, place i))) k
    go e k = absurd k
stands_told shows w e seen shown (of_withdrawal place sees shows_it) h = stands_silent w shows e seen.outcome (λ n p. ap (λ (s : Shown). is_answer_at n p s.outcome) sees)
stands_told shows w e seen shown (of_same is) h = subst (λ (s : Shown). Stands w shows e s.outcome) (sym is) h

shown_kept : (seen shown : Shown) → TellsDrop seen shown → is_reopening seen.outcome ≡ false → is_reopening shown.outcome ≡ false
shown_kept seen shown (of_step x y sees shows_it reply stripe place) kept = ap is_reopening shows_it
shown_kept seen shown (of_withdrawal place sees shows_it) kept = ap (λ (s : Shown). is_reopening s.outcome) shows_it
shown_kept seen shown (of_same is) kept = ap (λ (s : Shown). is_reopening s.outcome) (sym is) ∙ kept

-- a change at a key, and the eviction of an invalidated one
later_dropped : (w mid new : WorldState) (key : Bytes) → Drop w mid new key → IsLater mid new
later_dropped w mid new key d = record { config = ap (λ (v : WorldState). v.config) d.is; more = added d.from (without_entry d.from key); order = ap (λ (v : WorldState). v.order) d.is }

stands_event : Laws → (shows : List (WorldEvent × Shown)) (w new : WorldState) (e : WorldEvent) (key : Bytes) (seen : Shown) → KeyEvent w new e key seen → fits w e ≡ true → is_reopening seen.outcome ≡ false → IsLater w new → IsSoundWorld w → IsSoundWorld new → AllBegun shows w
    → Stands new shows e seen.outcome
stands_event laws shows w new e key seen (plain k) fit kept later old sound begun = stands_key shows w new e key seen k later old sound begun
stands_event laws shows w new e key seen (dropping mid shown k tells d end) fit kept later old sound begun =
    let mid_sound = sound_change laws.stays w mid e key shown k fit old in
    let stood = stands_key shows w mid e key shown k (later_as w mid shown.outcome (move_at w mid e key shown k) (shown_kept seen shown tells kept)) old mid_sound begun in
    stands_told shows new e seen shown tells (stands_on mid new shows e shown.outcome (later_dropped w mid new key d) stood)

-- of any event
stands_step : Laws → (shows : List (WorldEvent × Shown)) (w new : WorldState) (e : WorldEvent) (seen : Shown) → Step w e seen new → is_reopening seen.outcome ≡ false → IsSoundWorld w → IsSoundWorld new → AllBegun shows w → Stands new shows e seen.outcome
stands_step laws shows w new e seen (inl (fit, happens)) kept old sound begun = go (change_of w new e seen fit happens old)
  where
    go : StripeChange w new e seen → Stands new shows e seen.outcome
    go (by_invalidation key v e_is k is) =
        let between = sound_event laws.stays w v e key seen k fit old in
        let later = later_step w new e seen (inl (fit, happens)) kept in
        let before : IsLater w v = record { config = sym (ap (λ (x : WorldState). x.config) is) ∙ later.config; more = later.more; order = sym (ap (λ (x : WorldState). x.order) is) ∙ later.order } in
        stands_on v new shows e seen.outcome (later_same v new (ap (λ (x : WorldState). x.config) is) (ap (λ (x : WorldState). x.order) is)) (stands_event laws shows w v e key seen k fit kept before old between begun)
    go (by_key key k) = stands_event laws shows w new e key seen k fit kept (later_step w new e seen (inl (fit, happens)) kept) old sound begun
    go (beside_stripes m is config stripes order joins none ends) = stands_silent new shows e seen.outcome none
    go (by_reopening config e_is reopens is) = let t : true ≡ false = sym reopens ∙ kept in cc
stands_step laws shows w new e seen (inr (unfit, shows_it, is)) kept old sound begun = stands_silent new shows e seen.outcome (λ n p. ap (λ (s : Shown). is_answer_at n p s.outcome) shows_it)

-- 6. A run.

-- each answer that was shown is that of its call's step, and the call has begun before it
abbrev pub AllStand : WorldState → List (WorldEvent × Shown) → Type 0
AllStand w shows = (at : ℕ) (e : WorldEvent) (seen : Shown) → slice_get shows at ≡ Some (e, seen) → Stands w (take at shows) e seen.outcome

-- it stays so with one event more
stands_more : (shows : List (WorldEvent × Shown)) (w new : WorldState) (e : WorldEvent) (s : Shown) → IsLater w new → AllStand w shows → Stands new shows e s.outcome → AllStand new (shows ++ (e, s) ∷ [])
stands_more shows w new e s later stand one at x seen is =
    let now = shows ++ (e, s) ∷ [] in
    let P : List (WorldEvent × Shown) → Type 0 = λ l. Stands new l x seen.outcome in
    pushed_at shows (e, s) at (x, seen)
    (λ before.
    let within = slice_get_within shows at (x, seen) before in
    subst P (sym (take-append-le at shows ((e, s) ∷ []) (omega arith))) (stands_on w new (take at shows) x seen.outcome later (stand at x seen before)))
    (λ last same.
    subst P (sym (ap (λ i. take i now) last ∙ take-append_seam shows ((e, s) ∷ []))) (subst (λ (p : WorldEvent × Shown). Stands new shows p.0 p.1.outcome) same one))
    is

pub stands_run : Laws → (shows : List (WorldEvent × Shown)) (w new : WorldState) (es : List WorldEvent) (ss : List Shown) → Run w es ss new → reopens ss ≡ false → IsSoundWorld w → AllBegun shows w → AllStand w shows → AllStand new (shows ++ zip es ss)
stands_run laws shows w new [] [] run none old begun stand =
    rw run (rw (append-nil shows) stand)
stands_run laws shows w new (e ∷ es) (s ∷ ss) (mid, step, rest) none old begun stand =
    let parts = reopens_none s ss none in
    let now = shows ++ (e, s) ∷ [] in
    let sound = sound_step laws w e s mid step old in
    let more = begun_step now w mid e s (length shows, seam_at shows [] (e, s)) step (all_begun_on shows ((e, s) ∷ []) w begun) in
    rw (append_assoc shows ((e, s) ∷ []) (zip es ss)) at
    (stands_run laws now mid new es ss rest parts.1 sound more (stands_more shows w mid e s (later_step w mid e s step parts.0) stand (stands_step laws shows w mid e s step parts.0 old sound begun)))
stands_run laws shows w new es ss run none old begun stand = absurd run

-- from an opening
pub stands_opened : Laws → (opening new : WorldState) (es : List WorldEvent) (ss : List Shown) → IsOpeningWorld opening → Run opening es ss new → reopens ss ≡ false → AllStand new (zip es ss)
stands_opened laws opening new es ss opens run none =
    stands_run laws [] opening new es ss run none (sound_opening opening opens) (begun_opened [] opening opens) (λ at e seen is. cc)

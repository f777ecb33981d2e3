-- What the contract of a cache's `invoke` gives the laws of increments.
--     plain_step     a processor's step that replies with a value shares no load, has its processor's answer, and has no fault
--     next_later     the place of a step is the next one of its state in a longer history too
--     sets_next      THE LEMMA: the step of a call that returned a value, whose processor set a value that comes next after the entry of the
--                    state in which the step was made, sets the next value in every later state of the stripe
use Rattle.jc_cache.proofs.Common.{DynBox, ◌≡◌, ◌&&◌, ⊎_elim, inl, inr, ℕ, zero, suc, List, [], ◌∷◌, ◌++◌, length, Bool, true, false, Option, None, Some, is_none, Result, Ok, MatchBool, slice_get, refl, sym, ap, subst, ◌∙◌, and_parts, Config, Caller, Refusal, Bytes, entry_at, Event, Step, Invoke, Out, Reply, LoadRelation, WriteRelation, State, whole_history, IsOfSameStripe, View, prefix-trans, same_on, Session, CacheState, next_call, state_decided, call_in, IsAskedFor, IsBetween}
use Rattle.std.specs.Bool.{beq}
use mathlib.Core.List.{IsPrefix}
use Rattle.jc_model.specs.Table.{first_fault, is_process_given, reply_by_fault}
use Rattle.jc_model.specs.declared.event.Effect.TheVariants.{Set}
use Rattle.jc_model.specs.declared.event.ProcessAnswer.TheVariants.{Ended}
use Rattle.jc_model.specs.declared.event.Reply.TheVariants.{Value}
use Rattle.jc_model.specs.declared.processor.EntryCall.{EntryCall}
use Rattle.jc_model.specs.declared.processor.EntryAnswer.{EntryAnswer}
use Rattle.jc_mutentry.specs.Running.{IsRun, ProcessRelation, RunsOnce}
use Rattle.jc_engine.specs.MadeIn.{IsNext}
use Rattle.jc_engine.specs.Increments.{EventsByTable, IsByTable, SetsNext}
use Rattle.jc_cache.specs.Calls.{Invoked}

-- 1. A processor's step.

none_fault : (fault : Option Refusal) (answer : Reply) (outcome : Option Bytes) → Value outcome ≡ reply_by_fault fault answer → fault ≡ None
none_fault None answer outcome h = refl
none_fault (Some fault) answer outcome h = cc

beq_true : (b : Bool) → beq b true ≡ true → b ≡ true
beq_true true h = refl
beq_true false h = cc

given : (a b c : Bool) → (a && beq b true && c) ≡ true → b ≡ true
given true b c h = beq_true b (and_parts (beq b true) c h).0
given false b c h = cc

plain_step : (config : Config) (caller : Caller) (key : Bytes) (out asked : Out) (shared_with : Option ℕ) (outcome : Option Bytes) → IsByTable config (Step caller Invoke key out shared_with (Value outcome)) → IsAskedFor shared_with out asked
    → (shared_with ≡ None) × (asked ≡ out) × (is_process_given out.process ≡ true) × (first_fault out ≡ None)
plain_step config caller key out asked (Some place) outcome by for = let bad = by in cc
plain_step config caller key out asked None outcome by for =
    (refl, for, given _ (is_process_given out.process) _ by.1, none_fault (first_fault out) _ outcome by.2)

-- 2. A later state.

flip : (a b : State) → IsOfSameStripe a b → IsOfSameStripe b a
flip a b x = record { config = sym x.config; stripe = sym x.stripe; origin = sym x.origin; lives = sym x.lives; opening = sym x.opening }

there_front : (xs ms : List Event) (i : ℕ) (e : Event) → slice_get xs i ≡ Some e → slice_get (xs ++ ms) i ≡ Some e
there_front [] ms i e h = cc
there_front (x ∷ xs) ms zero e h = h
there_front (x ∷ xs) ms (suc i) e h = there_front xs ms i e h

there_later : (xs ys : List Event) (i : ℕ) (e : Event) → IsPrefix xs ys → slice_get xs i ≡ Some e → slice_get ys i ≡ Some e
there_later xs ys i e p there = subst (λ (zs : List Event). slice_get zs i ≡ Some e) p.1 (there_front xs p.0 i e there)

next_later : (state : State) (key : Bytes) (place : ℕ) (xs ys : List Event) → IsPrefix xs ys → IsNext state key place xs → IsNext state key place ys
next_later state key place xs ys p next = ⊎_elim (λ at. inl at) (λ at. inr (at.0, at.1, (at.2.0, there_later xs ys (length (whole_history state)) _ p at.2.1))) next

-- 3. A whole call.

module _ {I J P Z : Type 0} {D : I → Type 0} {E : J → Type 0} {F : P → Type 0}
    (loads : LoadRelation ((i : I) × D i)) (load_state : (i : I) × D i → List ℕ)
    (writes : WriteRelation ((j : J) × E j)) (write_state : (j : J) × E j → List ℕ)
    (processes : ProcessRelation (DynBox P Z F)) (process_state : DynBox P Z F → List ℕ) (Next : Option Bytes → Bytes → Type 0) where
  -- what this call's processor does is for its own relation to say
  pub sets_next : (law : EventsByTable) (cache : CacheState) (old : Session I J D E) (key : Bytes) (args : List Bytes) (processor : DynBox P Z F) (outcome : Option Bytes) (new : Session I J D E) (processor' : DynBox P Z F)
      → (x : Invoked loads load_state writes write_state processes process_state cache old key args processor (Ok (Value outcome)) new processor')
      → ((calls : List EntryCall) (answers : List EntryAnswer) (returned : Result (Option Bytes) ℕ)
      → IsRun ((state_decided x.call.did).config.read_through && is_none (entry_at (state_decided x.call.did).cache key)) (entry_at (state_decided x.call.did).cache key) x.call.asked.load x.call.asked.process calls answers returned
      → processes processor key args calls answers returned (process_state processor') → (value : Bytes) × (left : Option Bytes) × (x.call.asked.process ≡ Ended (Set value) left) × Next (entry_at (state_decided x.call.did).cache key) value)
      → (state : State) → IsOfSameStripe x.call.after.noted state → IsPrefix x.call.after.front (whole_history state)
      → SetsNext Next state key x.call.seat.place (Step (next_call old).agent.caller Invoke key x.call.seat.out x.call.seat.shared_with (Value outcome))
  sets_next law cache old key args processor outcome new processor' x does state same front =
      let seat = x.call.seat in
      let after : View = x.call.after in
      let made = seat.made in
      let by = law after.noted seat.place (Step (next_call old).agent.caller Invoke key seat.out seat.shared_with (Value outcome)) made.all.reached (ap (λ (es : List Event). slice_get es seat.place) (sym made.all.front) ∙ made.there) in
      let p = plain_step after.noted.config (next_call old).agent.caller key seat.out x.call.asked seat.shared_with outcome by seat.asked_for in
      let decided : State = state_decided x.call.did in
      let between = (call_in (λ s. IsBetween x.call.before s after) (next_call old).agent.caller key Invoke x.call.asked _ x.call.row x.call.between x.call.did).1 in
      let asked : Out = x.call.asked in
      let given : is_process_given asked.process ≡ true = ap (λ (o : Out). is_process_given o.process) p.1 ∙ p.2 in
      let may_load : Bool = decided.config.read_through && is_none (entry_at decided.cache key) in
      let run : RunsOnce processes process_state processor key args may_load (entry_at decided.cache key) asked.load asked.process processor' =
      subst (λ (b : Bool). MatchBool b (RunsOnce processes process_state processor key args may_load (entry_at decided.cache key) asked.load asked.process processor') (processor' ≡ processor)) given x.run in
      let sets = does run.0 run.1 run.2 run.3 run.4 in
      record {
        caller = (next_call old).agent.caller;
        out = seat.out;
        reply = Value outcome;
        is = λ i. Step (next_call old).agent.caller Invoke key seat.out (p.0 i) (Value outcome);
        decided = decided;
        reached = between.reached;
        same = same_on decided x.call.before.noted state (flip x.call.before.noted decided between.same) (same_on x.call.before.noted after.noted state made.seat.same same);
        earlier = prefix-trans (whole_history decided) after.front (whole_history state) between.later front;
        made_in = next_later decided key seat.place after.front (whole_history state) front x.alone;
        value = sets.0;
        outcome = sets.1;
        set = ap (λ (o : Out). o.process) (sym p.1) ∙ sets.2;
        no_fault = p.3;
        next = sets.3;
      }

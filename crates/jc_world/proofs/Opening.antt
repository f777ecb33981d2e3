-- How a call begins: its looks fit behind its begin, and then it is free of every key; a call of one key is then under way.
use Rattle.jc_world.proofs.Common.{◌≡◌, ℕ, zero, suc, ◌+◌, Bool, true, false, cond, List, [], ◌∷◌, ◌++◌, is_some, Some, None, find, sym, refl, ap, ◌∙◌, inl, inr, and_parts, nat_eq_equiv, find-append, option_or, Bytes, Op, Command, Shown, WorldEvent, sweep_of, CallState, new_call, has_number, Step, Run, AllFit, is_new, is_free, fits, IsSoundWorld, looks, opening_events, BeginFits, WorldState, open_call, is_free_of}
use Rattle.jc_world.proofs.Fitting.{looks_begun, new_free, new_under, one_fits}

opening : (w : WorldState) → IsSoundWorld w → (call session : ℕ) (command : Command) → fits w (WorldEvent.Call call session command) ≡ true → AllFit w (opening_events call session command w.config.stripes)
opening w old call session command fit =
    elim (sweep_of command) as (λ o. sweep_of command ≡ o → AllFit w (WorldEvent.Call call session command ∷ cond (is_some o) (looks call 0 w.config.stripes) [])) [
      | None ↦ λ e. one_fits w (WorldEvent.Call call session command) fit
      | (Some sweep) ↦ λ e. looks_begun w old call session command sweep fit e
    ] refl

-- what a call has reserved and joined stays as it is
record Beside (w new : WorldState) : Type 0 where
  parts : new.parts ≡ w.parts
  joins : new.joins ≡ w.joins

beside_then : (a b c : WorldState) → Beside a b → Beside b c → Beside a c
beside_then a b c first next = record { parts = next.parts ∙ first.parts; joins = next.joins ∙ first.joins }

beside_call : (w new : WorldState) (call session : ℕ) (command : Command) (seen : Shown) → Step w (WorldEvent.Call call session command) seen new → Beside w new
beside_call w new call session command seen (inl (fit, happens)) = record { parts = λ i. (happens.1 i).parts; joins = λ i. (happens.1 i).joins }
beside_call w new call session command seen (inr (unfit, shows, is)) = record { parts = λ i. (is i).parts; joins = λ i. (is i).joins }

beside_look : (w new : WorldState) (call stripe : ℕ) (seen : Shown) → Step w (WorldEvent.Look call stripe) seen new → Beside w new
beside_look w new call stripe seen (inl (fit, happens)) = record { parts = λ i. (happens.9 i).parts; joins = λ i. (happens.9 i).joins }
beside_look w new call stripe seen (inr (unfit, shows, is)) = record { parts = λ i. (is i).parts; joins = λ i. (is i).joins }

beside_looks : (call from count : ℕ) (w new : WorldState) (seen : List Shown) → Run w (looks call from count) seen new → Beside w new
beside_looks call from zero w new [] run = record { parts = λ i. (run i).parts; joins = λ i. (run i).joins }
beside_looks call from (suc count) w new (s ∷ ss) run =
    beside_then w run.0 new (beside_look w run.0 call from s run.1) (beside_looks call (from + 1) count run.0 new ss run.2)
beside_looks call from count w new seen run = absurd run

beside_opening : (w new : WorldState) (call session : ℕ) (command : Command) (seen : List Shown) → Run w (opening_events call session command w.config.stripes) seen new → Beside w new
beside_opening w new call session command [] run = absurd run
beside_opening w new call session command (s ∷ ss) run =
    beside_then w run.0 new (beside_call w run.0 call session command s run.1) (rest (is_some (sweep_of command)) run.2)
  where
    rest : (b : Bool) → Run run.0 (cond b (looks call 0 w.config.stripes) []) ss new → Beside run.0 new
    rest true more = beside_looks call 0 w.config.stripes run.0 new ss more
    rest false more = beside_looks call 0 0 run.0 new ss more

free : (w : WorldState) → IsSoundWorld w → (call session : ℕ) (command : Command) (seen : List Shown) (begun : WorldState) (key : Bytes) → fits w (WorldEvent.Call call session command) ≡ true
    → Run w (opening_events call session command w.config.stripes) seen begun → is_free begun call key ≡ true
free w old call session command seen begun key fit run =
    let beside = beside_opening w begun call session command seen run in
    let new : is_new w.last call ≡ true = (and_parts _ _ (and_parts _ _ fit).0).1 in
    (λ i. is_free_of (beside.parts i) (beside.joins i) call key) ∙ new_free w call key new old

-- a call of one key is under way once it has begun
found_new : (w : WorldState) → IsSoundWorld w → (call session : ℕ) (op : Op) (key : Bytes) → fits w (WorldEvent.Call call session (Command.Single op key)) ≡ true
    → find (has_number call) (w.calls ++ new_call call session (Command.Single op key) ∷ []) ≡ Some (new_call call session (Command.Single op key))
found_new w old call session op key fit =
    let u : CallState = new_call call session (Command.Single op key) in
    let new : is_new w.last call ≡ true = (and_parts _ _ (and_parts _ _ fit).0).1 in
    find-append (has_number call) w.calls (u ∷ []) ∙ ap (λ o. option_or o (find (has_number call) (u ∷ []))) (new_under w call new old) ∙ ap (λ b. cond b (Some u) None) (nat_eq_equiv.refl call)

underway : (w : WorldState) → IsSoundWorld w → (call session : ℕ) (op : Op) (key : Bytes) (seen : List Shown) (begun : WorldState) → fits w (WorldEvent.Call call session (Command.Single op key)) ≡ true
    → Run w (WorldEvent.Call call session (Command.Single op key) ∷ []) seen begun → open_call begun call ≡ Some (new_call call session (Command.Single op key))
underway w old call session op key [] begun fit run = absurd run
underway w old call session op key (s ∷ t ∷ ss) begun fit run = absurd run.2
underway w old call session op key (s ∷ []) begun fit (next, step, is) =
    ap (λ x. open_call x call) is ∙ by step
  where
    by : Step w (WorldEvent.Call call session (Command.Single op key)) s next → open_call next call ≡ Some (new_call call session (Command.Single op key))
    by (inl (fit_now, happens)) = ap (λ x. open_call x call) happens.1 ∙ found_new w old call session op key fit
    by (inr (unfit, shows, same)) = let t : true ≡ false = sym fit ∙ unfit in cc

pub begin_fits : (w : WorldState) → IsSoundWorld w → BeginFits w
begin_fits w old = record { opening = opening w old; free = free w old; underway = underway w old }

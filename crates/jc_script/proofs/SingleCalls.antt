-- A call of one key that begins: its begin and its first phase are played one after the other.
--     start_fits       once the call has begun, its first phase fits
--     begins_single    the call has begun, and made its first phase
use Rattle.jc_script.proofs.Common.{◌≡◌, ◌&&◌, ◌++◌, ℕ, List, [], ◌∷◌, true, cond, is_some, Some, None, refl, sym, ap, subst, nat_list_eq_equiv, Op, Bytes, Shown, WorldEvent, WorldState, open_call, fits, AllFit, Run, new_call, BeginFits, FitTogether, start_events, PlaysEvents, PlaysBegin}
use Rattle.std.specs.Option.{option_flatten}
use Rattle.jc_world.specs.declared.command.Command.TheVariants.{Single}
use Rattle.jc_world.specs.declared.event.WorldEvent.TheVariants as event
use Rattle.jc_script.proofs.Fitting.{one_differs, starts_fit}

pub start_fits : (w begun : WorldState) (call session : ℕ) (op : Op) (key : Bytes) (opening : List Shown) → BeginFits w → FitTogether begun → fits w (event.Call call session (Single op key)) ≡ true
    → Run w (event.Call call session (Single op key) ∷ []) opening begun
    → AllFit begun (event.Start call key ∷ [])
start_fits w begun call session op key opening lets together fit opens =
    starts_fit begun together call (new_call call session (Single op key)) (lets.underway call session op key opening begun fit opens) (λ k. lets.free call session (Single op key) opening begun k fit opens)
    (one_differs (Some key)) (ap (λ b. is_some (option_flatten (cond b (Some (Some op)) None)) && true) (nat_list_eq_equiv.refl key))

pub begins_single : (w begun after : WorldState) (call session : ℕ) (op : Op) (key : Bytes) (opening started : List ℕ) → BeginFits w → fits w (event.Call call session (Single op key)) ≡ true
    → PlaysEvents w (event.Call call session (Single op key) ∷ []) opening begun
    → PlaysEvents begun (event.Start call key ∷ []) started after
    → PlaysBegin w call session (Single op key) (opening ++ started) (Some after)
begins_single w begun after call session op key opening started lets fit opens starts =
    let here : open_call begun call ≡ Some _ = lets.underway call session op key opens.seen begun fit opens.runs in
    let events : start_events begun call (open_call begun call) ≡ event.Start call key ∷ [] = ap (start_events begun call) here in
    record {
      opening = opening;
      begun = begun;
      started = started;
      after = after;
      opens = opens;
      starts = subst (λ (es : List WorldEvent). PlaysEvents begun es started after) (sym events) starts;
      text_is = refl;
      new_is = refl;
    }

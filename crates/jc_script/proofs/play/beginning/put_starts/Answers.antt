use Rattle.jc_script.proofs.Common.{◌∙◌, Option, ap, option_copied, subst, sym, CallState, AllFit, start_events}
use Rattle.jc_script.proofs.Fitting.{starts_fit}
use Rattle.jc_script.proofs.play.beginning.put_starts.Goals as goal

pub returns-in_err-put_open_keys-in-Some-clause-fit : goal.returns-in_err-put_open_keys-in-Some-clause-fit
returns-in_err-put_open_keys-in-Some-clause-fit c =
    let w = c.args.world.now.world in
    let here = sym c.open_call.ensures ∙ ap option_copied c.in-Some.is in
    let P : Option CallState → Type 0 = λ o. AllFit w (start_events w c.args.call o) in
    subst P (sym here) (starts_fit w c.lets_keys_go_together.ensures c.args.call c.in-Some.open_call.now here c.requires c.put_open_keys.ensures.distinct c.put_open_keys.ensures.ops)

pub returns-in_ok-put_open_keys-in-Some-clause-fit : goal.returns-in_ok-put_open_keys-in-Some-clause-fit
returns-in_ok-put_open_keys-in-Some-clause-fit c =
    let w = c.args.world.now.world in
    let here = sym c.open_call.ensures ∙ ap option_copied c.in-Some.is in
    let P : Option CallState → Type 0 = λ o. AllFit w (start_events w c.args.call o) in
    subst P (sym here) (starts_fit w c.lets_keys_go_together.ensures c.args.call c.in-Some.open_call.now here c.requires c.put_open_keys.ensures.distinct c.put_open_keys.ensures.ops)

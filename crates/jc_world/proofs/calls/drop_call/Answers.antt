use Rattle.jc_world.proofs.Common.{not, rules, filter_same, CallState, has_number}
use Rattle.jc_world.proofs.calls.drop_call.Goals as goal

pub returns : goal.returns
returns c = filter_same _ (λ (u : CallState). not (has_number c.args.call u)) _ (λ x b q r. (search rules, search rules)) _ _ c.retain.ensures.filtered

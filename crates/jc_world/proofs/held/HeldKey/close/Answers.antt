use Rattle.jc_world.proofs.Common.{inl, out_of_part}
use Rattle.jc_stripe.specs.Phases.{with_reply}
use Rattle.jc_world.proofs.held.HeldKey.close.Goals as goal

pub returns-then-is_all_answered : goal.returns-then-is_all_answered
returns-then-is_all_answered c = inl (out_of_part c.args.self, with_reply c.commit-step.result c.commit-step.new.reply, c.commit-step.ensures)

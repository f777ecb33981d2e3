use Rattle.jc_script.proofs.Common.{◌∙◌, ◌++◌, List, ℕ, ap, append_assoc}
use Rattle.jc_script.proofs.SingleCalls.{begins_single, start_fits}
use Rattle.jc_script.proofs.play.beginning.begin_single.Goals as goal

pub play_start-requires : goal.play_start-requires
play_start-requires c =
    let operation = c.args.operation.now in
    let opens = c.in_ok-play_opening.ensures.1 in
    start_fits c.args.world.now.world c.play_opening.new.world.world c.args.number c.args.session operation.op operation.key opens.seen c.lets_calls_begin.ensures c.lets_keys_go_together.ensures c.requires opens.runs

pub returns : goal.returns
returns c =
    let operation = c.args.operation.now in
    let opens = c.in_ok-play_opening.ensures in
    let starts = c.in_ok-play_start.ensures in (
      opens.0 ++ starts.0,
      begins_single c.args.world.now.world c.play_opening.new.world.world c.play_start.new.world.world c.args.number c.args.session operation.op operation.key opens.0 starts.0 c.lets_calls_begin.ensures c.requires opens.1 starts.1,
      starts.2 ∙ ap (λ (front : List ℕ). front ++ starts.0) opens.2 ∙ append_assoc c.args.out.now.items opens.0 starts.0,
    )

use Rattle.jc_script.proofs.Callable.{read_callable}
use Rattle.jc_script.proofs.play.Player.play.Goals as goal

pub play_line-requires : goal.play_line-requires
play_line-requires c =
    let line_is = rw c.in-Ok-true.field-0-test at c.in-Ok-true.ensures in
    rw line_is at (read_callable c.args.text.now)

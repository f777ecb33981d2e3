use Rattle.jc_shell.proofs.Common.{opened_world, with_accepted}
use Rattle.jc_shell.proofs.Turns.{kept, played, still, told}
use Rattle.jc_shell.proofs.session.Dialogue.accept.Goals as goal

pub returns-in-None : goal.returns-in-None
returns-in-None c =
    let prints = rw c.in-None.is at c.in_ok-play.ensures in
    let line = c.args.line.now in
    let old = opened_world c.args.self.now.player.world in
    let new = opened_world c.play.new.self.world in
    let script = c.args.self.now.script.items in
    let count = c.args.self.now.lines in
    λ a h. (
      prints.0,
      with_accepted a line prints.0,
      still _ _ _ new _ (kept a old new line prints.0 script _ count _ c.requires h prints.1 c.in_ok-keep-in-None.ensures.script c.in_ok-keep-in-None.ensures.lines) c.keep.ensures.world,
      played a old new line prints.0 c.requires h.goes_on prints.1,
      prints.2,
    )

pub returns : goal.returns
returns c =
    let fault = rw c.in-Some.is at c.in_ok-play.ensures in
    let line = c.args.line.now in
    let old = opened_world c.args.self.now.player.world in
    λ a h. (still a _ _ old _ h fault.2, told a old line c.in-Some.fault c.requires h.goes_on fault.0, fault.1)

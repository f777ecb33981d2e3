use Rattle.jc_script.proofs.Common.{◌∙◌, ◌++◌, List, [], ◌∷◌, ap, sym, WorldEvent, key_events}
use Rattle.jc_script.proofs.Fitting.{key_events-more}
use Rattle.jc_script.proofs.play.acting.put_key_events.Goals as goal

pub loop-key-preserved : goal.loop-key-preserved
loop-key-preserved c =
    let w = c.args.world.now.world in
    let call = c.args.call in
    let act = c.args.act.now in
    let key = c.key-item.result in
    c.in_ok-put_if_meant.ensures ∙ ap (λ (events : List WorldEvent). events ++ key_events w call act (key ∷ [])) c.loop-key.invariant
    ∙ sym (key_events-more w call act c.args.keys.now c.loop-key.key-index key c.loop-key-test.true c.key-item.is)

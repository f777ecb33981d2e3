use Rattle.jc_script.proofs.Common.{◌∙◌, ◌++◌, List, [], ◌∷◌, filter, ap, sym, is_among, Bytes, is_left}
use Rattle.jc_script.proofs.Fitting.{left_before, left_more}
use Rattle.jc_script.proofs.play.acting.left_keys.Goals as goal

pub add_if_left-requires : goal.add_if_left-requires
add_if_left-requires c =
    let p = is_left c.args.world.now.world c.args.call c.args.act.now in
    let key = c.key-item.result in
    ap (λ (ks : List Bytes). is_among ks key) c.loop-key.invariant
    ∙ left_before p c.args.keys.now c.loop-key.key-index key c.requires c.loop-key-test.true c.key-item.is

pub loop-key-preserved : goal.loop-key-preserved
loop-key-preserved c =
    let p = is_left c.args.world.now.world c.args.call c.args.act.now in
    let key = c.key-item.result in
    c.in_ok-add_if_left.ensures ∙ ap (λ (ks : List Bytes). ks ++ filter p (key ∷ [])) c.loop-key.invariant
    ∙ sym (left_more p c.args.keys.now c.loop-key.key-index key c.loop-key-test.true c.key-item.is)

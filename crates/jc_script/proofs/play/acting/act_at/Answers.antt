use Rattle.jc_script.proofs.Common.{◌∙◌, ◌++◌, List, sym, ap, subst, Bytes, WorldEvent, AllFit, end_of_act, is_time, key_events}
use Rattle.jc_script.proofs.Fitting.{act_fits}
use Rattle.jc_script.proofs.play.acting.act_at.Goals as goal

pub play_call-requires : goal.play_call-requires
play_call-requires c =
    let w = c.args.world.now.world in
    let call = c.args.call in
    let act = c.args.act.now in
    let keys = c.args.buffers.now.keys.items in
    let P : List WorldEvent → Type 0 = λ events. AllFit w events in
    let at_keys = c.in_ok-put_key_events.ensures ∙ ap (λ (ks : List Bytes). key_events w call act ks) c.deref.ensures.value in
    let these = c.in_ok-put_end_of_act.ensures ∙ ap (λ (events : List WorldEvent). events ++ end_of_act w call act c.deref-4.result.now) at_keys
    ∙ ap (λ (ks : List Bytes). key_events w call act keys ++ end_of_act w call act ks) c.deref-4.ensures.value in
    let time = ap (λ (events : List WorldEvent). is_time w call act keys events) (sym at_keys ∙ sym c.deref-3.ensures.value)
    ∙ ap (λ (ks : List Bytes). is_time w call act ks c.deref-3.result.now) (sym c.deref-2.ensures.value)
    ∙ sym c.is_time.ensures ∙ c.if-not-is_time.false in
    subst P (sym these) (act_fits w c.lets_keys_go_together.ensures call act c.requires.call.0 keys c.requires.call.1 c.requires.call.3 c.requires.distinct time)

use Rattle.jc_script.proofs.Common.{◌∙◌, ap, refl, append_assoc, List, ℕ, ◌++◌, fails_text}
use Rattle.jc_script.proofs.play.LineBuffers.play_call.Goals as goal

pub returns : goal.returns
returns c =
    let before = c.args.out.now.items in
    let played = c.in_ok-play.ensures in
    let fault = fails_text c.args.call c.args.fault in (
      played.0 ++ fault,
      record { shown = played.0; after = c.play.new.world.world; plays = played.1; text_is = refl; new_is = refl },
      c.in_ok-put_fault_code.ensures ∙ ap (λ (front : List ℕ). front ++ fault) played.2 ∙ append_assoc before played.0 fault,
    )

use Rattle.std.proofs.Common.{◌∙◌, ap}
use Rattle.jc_stripe.specs.ValuesMoved.{victim_entry}
use Rattle.jc_stripe.proofs.DeskForgetting.{swept_others}
use Rattle.jc_stripe.proofs.desk.moves.ValueMoves.note_sweep.Goals as goal

pub returns-clause-moves : goal.returns-clause-moves
returns-clause-moves c =
    let old = c.args.stripe.now in
    record {
      moves_are = λ i. record ((c.self.view_is ∙ c.clear.ensures) i) { victim = (c.note_entry_of.ensures ∙ ap (victim_entry old) c.swept_key-key.ensures) i };
      others = swept_others old c.sweep.new.self c.sweep.ensures;
    }

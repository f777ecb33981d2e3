use Rattle.std.proofs.Common.{◌∙◌, ap}
use Rattle.jc_stripe.specs.ValuesMoved.{value_dropped, moves_of_drop}
use Rattle.jc_stripe.proofs.DeskForgetting.{invalidated_others}
use Rattle.jc_stripe.proofs.desk.moves.ValueMoves.note_invalidation.Goals as goal

pub returns-clause-moves : goal.returns-clause-moves
returns-clause-moves c = record {
  moves_are = c.note_drop.ensures ∙ ap moves_of_drop (λ i. value_dropped (c.note_before.ensures i) (c.entry.ensures i));
  others = invalidated_others c.args.stripe.now c.invalidate.new.self c.args.key.now c.invalidate.ensures;
}

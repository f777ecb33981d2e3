use Rattle.jc_text.proofs.Common.{sym, drop-map, take_rest}
use Rattle.jc_text.proofs.print.place.words_from.Goals as goal

pub returns-else-words-at : goal.returns-else-words-at
returns-else-words-at c =
    rw (take_rest c.args.words.now c.args.at) (sym (drop-map (λ w. w.now) c.args.at c.args.words.now))

use Rattle.std.proofs.Common.{sym}
use Rattle.std.proofs.lemmas.List.{drop-map, take_rest}
use Rattle.jc_litmus.proofs.explanation.words_from.Goals as goal

pub returns-else-words-at : goal.returns-else-words-at
returns-else-words-at c =
    rw (take_rest c.args.words.now c.args.at) (sym (drop-map (λ w. w.now) c.args.at c.args.words.now))

use Rattle.jc_record.proofs.Common.{◌∙◌, ap, map, sym, drop-map}
use Rattle.jc_record.proofs.note.behind.Goals as goal

pub returns : goal.returns
returns c = ap (map (λ w. w.now)) c.after_words.ensures ∙ sym (drop-map (λ w. w.now) c.args.count c.args.words.now)

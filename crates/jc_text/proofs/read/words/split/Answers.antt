use Rattle.jc_text.proofs.Common.{rules, ◌==◌, ◌≡◌, ◌∙◌, ◌++◌, [], ap, map, words_of}
use Rattle.std.proofs.lemmas.Iterator.Adapters.{fact_from_extend}
use Rattle.std.proofs.lemmas.Iterator.Consumers.{YieldsList-at}
use Rattle.std.proofs.lemmas.Iterator.Splits.{YieldsList-from_slice_split}
use Rattle.std.specs.Slice.Iter as slice
use Rattle.jc_text.proofs.read.words.split.Goals as goal

pub returns : goal.returns
returns c =
    let empty : c.clear.new.self.items ≡ [] = search rules in
    let done =
    fact_from_extend {Q = map (λ w. w.now) c.extend.new.self.items ≡ words_of c.args.line.now} {steps = slice.split_steps _} (λ w. w.now) c.extend.result c.extend.ensures.ran
    (λ it b. YieldsList-at b (YieldsList-from_slice_split _ (λ b. b == 32) c.args.line.now c.split.ensures.rest c.split.ensures.done c.split.ensures.closure (λ x b q called. search rules)))
    (λ xs e gives. ap (map (λ w. w.now)) (gives.0 ∙ ap (λ ys. ys ++ xs) empty) ∙ e) in
    search rules

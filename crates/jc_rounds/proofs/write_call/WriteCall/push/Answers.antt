use Rattle.jc_rounds.proofs.Common.{map, ap, ◌∙◌, is_among, asked_keys}
use Rattle.jc_rounds.proofs.OutsideCalls.{keys_wanted}
use Rattle.jc_rounds.proofs.write_call.WriteCall.push.Goals as goal

pub insert_change-requires-clause-new : goal.insert_change-requires-clause-new
insert_change-requires-clause-new c =
    let keys = ap (map (λ x. x.0)) c.self.invariant.batch_is ∙ keys_wanted c.self.inside.asks.items ∙ ap (λ s. asked_keys s.items) c.self.view_is in
    (λ i. is_among (keys i) (c.key.ensures i)) ∙ c.requires.new

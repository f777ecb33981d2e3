use Rattle.std.proofs.Common.{◌-◌, ◌++◌, ◌∷◌, [], ap, sym, ◌∙◌, arith}
use Rattle.std.specs.Map.{keys_of}
use Rattle.jc_model.specs.Batches.{is_among}
use Rattle.jc_batch.proofs.Steps.{keys-push}
use Rattle.jc_batch.proofs.write_batch.WriteBatch.insert.Goals as goal

pub insert_new-requires-clause-new : goal.insert_new-requires-clause-new
insert_new-requires-clause-new c = ap (λ b. is_among (keys_of b.items) c.args.key) c.self.view_is ∙ c.requires.new

pub insert_new-requires-clause-room : goal.insert_new-requires-clause-room
insert_new-requires-clause-room c = omega (arith, c.self.invariant.1, c.requires.room, ap (λ b. b.room) c.self.view_is)

pub invariant_of-self : goal.invariant_of-self
invariant_of-self c = (
  ap (λ a. a.items) c.push.ensures ∙ ap (λ ks. ks ++ c.args.key ∷ []) c.self.invariant.0
      ∙ sym (ap keys_of c.insert_new.ensures.entries ∙ keys-push c.self.inside.entries.entries c.args.key c.args.value),
  omega (arith, ap (λ a. a.room) c.push.ensures, c.self.invariant.1, c.insert_new.ensures.room, c.requires.room, ap (λ b. b.room) c.self.view_is),
)

pub returns : goal.returns
returns c = λ i. record {
  items = (c.insert_new.ensures.entries ∙ ap (λ b. b.items ++ (c.args.key, c.args.value) ∷ []) c.self.view_is) i;
  room = (ap (λ a. a.room) c.push.ensures ∙ ap (λ b. b.room - 1) c.self.view_is) i;
}

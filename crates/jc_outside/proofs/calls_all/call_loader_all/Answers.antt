use Rattle.std.proofs.Common.{ap, ◌∙◌}
use Rattle.jc_outside.specs.CallingAll.{load_all_answer}
use Rattle.jc_outside.proofs.Batches.{loads-batch}
use Rattle.jc_outside.proofs.calls_all.call_loader_all.Goals as goal

pub returns-clause-loader : goal.returns-clause-loader
returns-clause-loader g c = (
  load_all_answer c.load_keys-returned.result c.load_keys-returned.new.answers.by_key,
  loads-batch (λ z. (g.dyn-1.0.entry z.vtable).1.loads_all z.value) (λ z. (g.dyn-1.0.entry z.vtable).1.load_state z.value) c.hands.inside.outside.loader
      c.args.hands.now.outside.loader (ap (λ h. h.outside.loader) c.hands.view_is) _ c.args.batch.items
      (c.deref.ensures.value ∙ c.into_parts-keys.ensures.keys)
      c.load_keys-returned.result c.load_keys-returned.new.answers.by_key c.load_keys-returned.new.loader c.load_keys-returned.ensures.load,
  c.end_loads.ensures.items,
)

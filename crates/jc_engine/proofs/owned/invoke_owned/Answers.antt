use Rattle.jc_engine.proofs.Common.{rules, ◌∙◌, ap, sym, Invoke, ended_with}
use Rattle.std.proofs.lemmas.Option.{same_Some}
use Rattle.jc_engine.proofs.OwnedCalls.{owned_as, owned_call, there_is}
use Rattle.jc_engine.proofs.owned.invoke_owned.Goals as goal

pub invoke-requires-clause-through : goal.invoke-requires-clause-through
invoke-requires-clause-through g c a found = ap (λ s. s.config.write_through) (same_Some _ _ (sym found ∙ c.stripe.ensures)) ∙ sym (ap (λ k. k.write_through) c.config.ensures)

pub returns-clause-call : goal.returns-clause-call
returns-clause-call g c =
    let there = there_is c.args.owner.now.here c.requires.ready.1 in
    record {
      call = owned_as _ _ _ _ c.args.agent.now c.args.key.now Invoke c.args.owner.now.here (ended_with c.invoke.result c.invoke.new.reply) c.invoke.new.self.agent.now _ c.invoke.new.self.gate.now.here _ (search rules) (search rules)
          (owned_call _ _ _ _ c.whole_call.ensures c.joins_only_loads.ensures c.args.agent.now c.invoke.new.self.agent.now c.args.key.now Invoke c.args.owner.now _ (ended_with c.invoke.result c.invoke.new.reply) c.invoke.new.self.gate.now _
          there.0 there.1 (c.requires.idle there.0 there.1) c.invoke.ensures.call.call.call);
      run = c.invoke.ensures.call.call.run;
      type = c.invoke.ensures.call.call.type;
    }

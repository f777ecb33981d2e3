use Rattle.jc_engine.proofs.Common.{rules, ended_with}
use Rattle.jc_engine.proofs.OwnedCalls.{owned_as, owned_call, there_is}
use Rattle.jc_engine.proofs.owned.call_owned.Goals as goal

pub returns : goal.returns
returns g c =
    let there = there_is c.args.owner.now.here c.requires.ready.1 in
    record {
      call = owned_as _ _ _ _ c.args.agent.now c.args.key.now c.args.op.now c.args.owner.now.here (ended_with c.call.result c.call.new.reply) c.call.new.self.agent.now _ c.call.new.self.gate.now.here _ (search rules) (search rules)
          (owned_call _ _ _ _ c.whole_call.ensures c.joins_only_loads.ensures c.args.agent.now c.call.new.self.agent.now c.args.key.now c.args.op.now c.args.owner.now _ (ended_with c.call.result c.call.new.reply) c.call.new.self.gate.now _
          there.0 there.1 (c.requires.idle there.0 there.1) c.call.ensures.call);
    }

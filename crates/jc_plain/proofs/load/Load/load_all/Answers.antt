use Rattle.std.proofs.Common.{Ok, inl, refl, subst, sym, ◌∙◌}
use Rattle.std.proofs.lemmas.List.{drop_all}
use Rattle.jc_plain.specs.Loads.{LoadsEach}
use Rattle.jc_plain.proofs.Loads.{loads_more, loads_no_more}
use Rattle.jc_plain.proofs.load.Load.load_all.Goals as goal

pub loop-key-init : goal.loop-key-init
loop-key-init g c = record { loads = λ result after end it. it; room = refl }

pub loop-key-preserved : goal.loop-key-preserved
loop-key-preserved g c =
    record {
      loads = loads_more g.Self.Load.loads g.Self.Load.load_state c.args.self.now c.loop-key.self c.load.new.self c.args.keys.now c.loop-key.key-index c.key-item.result c.args.answers.now.by_key c.loop-key.answers.by_key c.put_found.new.self.by_key _
          c.loop-key-test.true c.key-item.is c.loop-key.invariant.loads c.in-Ok.ensures c.put_found.ensures.answers;
      room = c.put_found.ensures.room ∙ c.loop-key.invariant.room;
    }

pub returns-in-Err-clause-loads : goal.returns-in-Err-clause-loads
returns-in-Err-clause-loads g c =
    inl (loads_no_more g.Self.Load.loads g.Self.Load.load_state c.args.self.now c.loop-key.self c.args.keys.now c.loop-key.key-index c.key-item.result c.args.answers.now.by_key c.loop-key.answers.by_key _ _
    c.loop-key-test.true c.key-item.is c.loop-key.invariant.loads c.in-Err.ensures)

pub returns-clause-loads : goal.returns-clause-loads
returns-clause-loads g c =
    let now = c.loop-key.self in
    let answers = c.loop-key.answers.by_key in
    inl (c.loop-key.invariant.loads (Ok tt) answers (g.Self.Load.load_state now)
    (subst (λ it. LoadsEach g.Self.Load.loads g.Self.Load.load_state now it answers (Ok tt) answers (g.Self.Load.load_state now)) (sym (drop_all c.loop-key.key-index c.args.keys.now c.loop-key-test.false)) (refl, refl, refl)))

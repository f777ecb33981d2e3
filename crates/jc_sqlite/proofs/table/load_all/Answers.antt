use Rattle.std.proofs.Common.{Ok, refl, subst, sym, ◌∙◌}
use Rattle.std.proofs.lemmas.List.{drop_all}
use Rattle.sqlite.specs.Held.{state}
use Rattle.jc_sqlite.specs.Statements.{LoadsAll}
use Rattle.jc_sqlite.proofs.Batches.{stays}
use Rattle.jc_sqlite.proofs.Statements.{loads_more, loads_none, survives_load, same_error}
use Rattle.jc_sqlite.proofs.table.load_all.Goals as goal

pub loop-key-init : goal.loop-key-init
loop-key-init g c = record { loads = λ clean new after result it. it; room = refl; survives = stays (state g.S.Store c.args.conn.now) _ }

pub loop-key-preserved : goal.loop-key-preserved
loop-key-preserved g c =
    record {
      loads = loads_more g.S.Store c.args.keys.now c.loop-key.key-index c.key-item.result c.args.conn.now c.loop-key.conn c.load_into.new.conn c.args.answers.now.by_key c.loop-key.answers.by_key c.load_into.new.answers.by_key _
          c.loop-key-test.true c.key-item.is c.loop-key.invariant.loads c.load_into.ensures.survives c.in_ok-load_into.ensures.loads;
      room = c.load_into.ensures.room ∙ c.loop-key.invariant.room;
      survives = survives_load g.S.Store c.args.keys.now c.loop-key.key-index c.key-item.result c.args.conn.now c.loop-key.conn c.load_into.new.conn c.loop-key-test.true c.key-item.is c.loop-key.invariant.survives
          c.load_into.ensures.survives;
    }

pub returns-in_err-load_into-clause-loads : goal.returns-in_err-load_into-clause-loads
returns-in_err-load_into-clause-loads g c clean =
    subst (LoadsAll g.S.Store c.args.keys.now c.args.conn.now c.load_into.new.conn c.args.answers.now.by_key c.load_into.new.answers.by_key) (sym (same_error c.from_residual.result c.in_err-load_into.field-0.0 c.from_residual.ensures.1))
    (loads_none g.S.Store c.args.keys.now c.loop-key.key-index c.key-item.result c.args.conn.now c.loop-key.conn c.load_into.new.conn c.args.answers.now.by_key c.loop-key.answers.by_key c.load_into.new.answers.by_key _
    c.in_err-load_into.field-0.0 c.loop-key-test.true c.key-item.is c.loop-key.invariant.loads c.load_into.ensures.survives c.in_err-load_into.ensures.loads clean)

pub returns-in_err-load_into-clause-survives : goal.returns-in_err-load_into-clause-survives
returns-in_err-load_into-clause-survives g c =
    survives_load g.S.Store c.args.keys.now c.loop-key.key-index c.key-item.result c.args.conn.now c.loop-key.conn c.load_into.new.conn c.loop-key-test.true c.key-item.is c.loop-key.invariant.survives c.load_into.ensures.survives

pub returns-clause-loads : goal.returns-clause-loads
returns-clause-loads g c clean =
    let conn = c.loop-key.conn in
    let answers = c.loop-key.answers.by_key in
    c.loop-key.invariant.loads clean conn answers (Ok tt)
    (subst (λ it. LoadsAll g.S.Store it conn conn answers answers (Ok tt)) (sym (drop_all c.loop-key.key-index c.args.keys.now c.loop-key-test.false)) (refl, refl, refl))

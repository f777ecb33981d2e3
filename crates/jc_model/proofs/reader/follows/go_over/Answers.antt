use Rattle.std.proofs.Common.{◌≡◌, ap, sym, ◌∙◌, subst}
use Rattle.jc_model.specs.declared.event.Event.{Event}
use Rattle.jc_model.specs.declared.event.Event.TheVariants.{Step}
use Rattle.jc_model.specs.declared.reader.Stage.TheVariants.{Inside}
use Rattle.jc_model.specs.Group.{cache_after_step}
use Rattle.jc_model.specs.Reader.{read_group, opened_group, then_stage, then_cache}
use Rattle.jc_model.proofs.reader.follows.go_over.Goals as goal

pub returns-in_ok-make_step-in-None-clause-stage :
    goal.returns-in_ok-make_step-in-None-clause-stage
returns-in_ok-make_step-in-None-clause-stage c =
    let s = c.in-Step in
    let P : Event → Type 0 = λ e. Inside c.opened_group-kept.result ≡ then_stage c.args.config.now c.args.contents.now c.args.place c.args.stage.now e in
    let is = s.is ∙ ap (λ shared. Step s.caller s.op s.key s.out shared s.reply) c.in-None.is in
    subst P (sym is)
    (ap Inside (c.opened_group-kept.ensures s.reply ∙ ap (λ v. opened_group c.args.config.now c.args.contents.now c.args.place (read_group v (record { session = 0; call = 0 }) s.op s.key s.out s.reply)) c.victim-victim.ensures))

pub returns-in_ok-make_step-in-None-clause-cache :
    goal.returns-in_ok-make_step-in-None-clause-cache
returns-in_ok-make_step-in-None-clause-cache c =
    let s = c.in-Step in
    let P : Event → Type 0 = λ e. c.make_step.new.contents ≡ then_cache c.args.contents.now c.args.stage.now e in
    let is = s.is ∙ ap (λ shared. Step s.caller s.op s.key s.out shared s.reply) c.in-None.is in
    subst P (sym is)
    (c.in_ok-make_step-in-None.ensures s.reply ∙ ap (λ v. cache_after_step c.args.contents.now (read_group v (record { session = 0; call = 0 }) s.op s.key s.out s.reply)) c.victim-victim.ensures)

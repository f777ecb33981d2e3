use Rattle.std.proofs.lemmas.List.{take_all}
use Rattle.std.proofs.lemmas.Result.{IfOk-from_err}
use Rattle.std.proofs.Common.{Vec}
use Rattle.std.specs.Global.{Global}
use Rattle.jc_types.specs.declared.key.Key.{Key}
use Rattle.jc_world.proofs.Common.{true, false, [], ◌∷◌, ◌++◌, take, sym, ap, ◌∙◌, append-nil, is_untold}
use Rattle.jc_world.specs.Audit.{untold_among}
use Rattle.jc_world.proofs.ListedKeys.{keys_passing_more}
use Rattle.jc_world.proofs.machine.Machine.untold_among.Goals as goal
use Rattle.jc_world.proofs.machine.Machine.untold_among.Goals.{then-is_untold+in_ok-push, else-is_untold}

pub loop-entry-init : goal.loop-entry-init
loop-entry-init c = c.new-keys.ensures.items

pub bounds-foreign-entry-index : goal.bounds-foreign-entry-index
bounds-foreign-entry-index c = c.loop-entry-test.true

pub returns-in_err-push : goal.returns-in_err-push
returns-in_err-push c = IfOk-from_err c.from_residual.result _ c.from_residual.ensures.0

pub loop-entry-preserved : goal.loop-entry-preserved
loop-entry-preserved c =
    let w = c.args.self.now in
    let entries = c.args.foreign.now in
    let index = c.loop-entry.entry-index in
    let e = c.entry-item.result in
    elim c.if-is_untold.branch [
      | then-is_untold+in_ok-push b ↦
          ap (λ (v : Vec Key Global). v.items) b.keys-is ∙ b.in_ok-push.ensures.items ∙ ap (λ ks. ks ++ e.0 ∷ []) c.loop-entry.invariant
          ∙ sym (keys_passing_more (λ e. is_untold w e.0) entries index e true c.loop-entry-test.true c.entry-item.is b.if-is_untold.ensures)
      | else-is_untold b ↦
          ap (λ (v : Vec Key Global). v.items) b.keys-is ∙ c.loop-entry.invariant ∙ sym (append-nil (untold_among w (take index entries)))
          ∙ sym (keys_passing_more (λ e. is_untold w e.0) entries index e false c.loop-entry-test.true c.entry-item.is b.if-is_untold.ensures)
    ]

pub returns : goal.returns
returns c = c.loop-entry.invariant ∙ ap (untold_among c.args.self.now) (take_all c.loop-entry.entry-index c.args.foreign.now c.loop-entry-test.false)

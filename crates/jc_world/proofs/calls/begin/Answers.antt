use Rattle.std.proofs.Common.{◌≡◌, ◌∙◌, ◌++◌, ◌∷◌, [], Some, ap, sym, slice_index_or, slice_set}
use Rattle.std.proofs.Math.Seq.{set-append_seam, get_or-append_seam}
use Rattle.jc_world.proofs.Common.{Get, Command, CallState, new_call, opened}
use Rattle.jc_world.specs.declared.command.Command.TheVariants.{Single}
use Rattle.jc_world.proofs.calls.begin.Goals as goal

pub returns-in-Single-clause-ok : goal.returns-in-Single-clause-ok
returns-in-Single-clause-ok c =
    let xs = c.args.calls.now.items in
    let who = c.args.caller in
    let op = c.in-Single.op in
    let key = c.in-Single.key in
    let pushed = c.get.result in
    let now = c.index_mut.result.now in
    let made = c.set_single.new.self in
    let new = λ (command : Command). new_call who.call who.session command in
    let at = c.len-place.ensures ∙ c.args.calls.now.ok.0 in
    let there : now ≡ new (Single Get key) =
    c.index_mut.ensures.value
    ∙ ap (λ ys. slice_index_or ys c.len-place.result now) c.in_ok-push.ensures.items
    ∙ ap (λ n. slice_index_or (xs ++ pushed ∷ []) n now) at
    ∙ get_or-append_seam xs pushed [] now ∙ c.get.ensures in
    let is : made ≡ new (Single op key) = c.set_single.ensures ∙ ap (λ (u : CallState). record u { tasks = (key, Some op) ∷ [] }) there in
    ap (λ ys. slice_set ys c.len-place.result made) c.in_ok-push.ensures.items
    ∙ ap (λ n. slice_set (xs ++ pushed ∷ []) n made) at
    ∙ set-append_seam xs pushed [] made
    ∙ ap (λ u. xs ++ u ∷ []) is
    ∙ ap (λ command. xs ++ opened (new command)) (sym c.in-Single.is)

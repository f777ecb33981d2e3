use Rattle.jc_explore.proofs.Common.{◌≡◌, ℕ, List, true, false, Some, Option, slice_get, slice_set, sym, ◌∙◌, ap, subst, Shown, have_memory, Position, is_proper, has_number_for, scene_state, replies_after}
use Rattle.jc_explore.proofs.Scenes.{stays, goes, no-number-moves, events-are, ran-as, positions-are}
use Rattle.jc_explore.proofs.scene.Scene.step.Goals as goal

pub returns-then-not-has_number_for-clause-stays : goal.returns-then-not-has_number_for-clause-stays
returns-then-not-has_number_for-clause-stays c =
    let at : slice_get c.args.self.now.positions.items c.args.step.thread ≡ Some c.in-Some.position = ap (λ (xs : List Position). slice_get xs c.args.step.thread) (sym c.deref.ensures.value) ∙ sym c.position_at.ensures ∙ c.in-Some.is in
    λ _. no-number-moves c.args.program.now (scene_state c.args.self.now) c.args.step c.in-Some.position at (ap (λ (l : Option ℕ). has_number_for l c.in-Some.position c.args.step.act) (sym c.last-last.ensures) ∙ sym c.has_number_for.ensures ∙ c.if-not-has_number_for.true)

pub returns-then-not-is_proper-clause-stays : goal.returns-then-not-is_proper-clause-stays
returns-then-not-is_proper-clause-stays c =
    let at : slice_get c.args.self.now.positions.items c.args.step.thread ≡ Some c.in-Some.position = ap (λ (xs : List Position). slice_get xs c.args.step.thread) (sym c.deref.ensures.value) ∙ sym c.position_at.ensures ∙ c.in-Some.is in
    let old = scene_state c.args.self.now in
    let is = events-are c.args.program.now old c.args.step c.in-Some.position _ _ at c.clear.ensures.items c.in_ok-put_events.ensures in
    let ran = ran-as _ _ _ _ _ _ c.deref-2.ensures.value c.clear-2.ensures.items c.in_ok-play.ensures.run.0 in
    let memory : have_memory c.play.new.shown.items ≡ true = subst (λ (xs : List Shown). have_memory xs ≡ true) c.deref-3.ensures.value (sym c.have_memory.ensures ∙ c.if-not-have_memory.false) in
    let improper : is_proper c.play.new.shown.items ≡ false = subst (λ (xs : List Shown). is_proper xs ≡ false) c.deref-4.ensures.value (sym c.is_proper.ensures ∙ c.if-not-is_proper.true) in
    λ _. stays c.runs_are_determined.ensures c.args.program.now old c.args.step _ _ _ is ran memory improper

pub returns-clause-moved : goal.returns-clause-moved
returns-clause-moved c =
    let at : slice_get c.args.self.now.positions.items c.args.step.thread ≡ Some c.in-Some.position = ap (λ (xs : List Position). slice_get xs c.args.step.thread) (sym c.deref.ensures.value) ∙ sym c.position_at.ensures ∙ c.in-Some.is in
    let old = scene_state c.args.self.now in
    let is = events-are c.args.program.now old c.args.step c.in-Some.position _ _ at c.clear.ensures.items c.in_ok-put_events.ensures in
    let ran = ran-as _ _ _ _ _ _ c.deref-2.ensures.value c.clear-2.ensures.items c.in_ok-play.ensures.run.0 in
    let memory : have_memory c.play.new.shown.items ≡ true = subst (λ (xs : List Shown). have_memory xs ≡ true) c.deref-3.ensures.value (sym c.have_memory.ensures ∙ c.if-not-have_memory.false) in
    let proper : is_proper c.play.new.shown.items ≡ true = subst (λ (xs : List Shown). is_proper xs ≡ true) c.deref-4.ensures.value (sym c.is_proper.ensures ∙ c.if-not-is_proper.false) in
    let replies = c.in_ok-put_replies.ensures ∙ ap (λ (xs : List Shown). replies_after c.args.step.thread c.args.self.now.replies.items xs) c.deref-5.ensures.value in
    λ _. goes c.args.program.now old c.args.step _ _ _ is ran memory proper (positions-are old c.args.step c.in-Some.position _ at (ap (λ (x : Position). slice_set c.args.self.now.positions.items c.args.step.thread x) c.position_after.ensures)) replies

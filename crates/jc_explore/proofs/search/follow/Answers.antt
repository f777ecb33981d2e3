use Rattle.jc_explore.proofs.Common.{◌++◌, ◌∷◌, [], sym, subst, true≢false, opening, scene_state, KnownState, IsKnown, IsNextSchedule}
use Rattle.jc_explore.proofs.AllMoves.{sessions-push}
use Rattle.jc_explore.proofs.Runs.{plays-determined, plays-push, plays-stops}
use Rattle.jc_explore.proofs.Searching.{grows-refl}
use Rattle.jc_explore.proofs.Shortest.{adds-none}
use Rattle.jc_explore.proofs.search.follow.Goals as goal

pub returns-then-not-moved : goal.returns-then-not-moved
returns-then-not-moved c =
    let p = c.args.program.now in
    let stays = plays-stops c.runs_are_determined.ensures p (opening p) _ c.args.schedule.now c.args.step c.requires.there (c.in_ok-moved.ensures.stays c.if-not-moved.true) in
    record {
      known = c.requires.known;
      kept = grows-refl c.args.known.now.list.items;
      added = adds-none (λ (k : KnownState). IsNextSchedule c.args.schedule.now k.schedule.items) c.args.known.now.list.items;
      all = λ s plays. absurd (stays s plays);
      goes = λ t. absurd (true≢false (sym t));
      stays = λ _. stays;
    }

pub note_next-requires-clause-plays : goal.note_next-requires-clause-plays
note_next-requires-clause-plays c =
    plays-push c.args.program.now _ _ _ c.args.schedule.now c.args.step c.requires.there (c.in_ok-moved.ensures.moved c.if-not-moved.false)

pub note_next-requires-clause-sessions : goal.note_next-requires-clause-sessions
note_next-requires-clause-sessions c = sessions-push c.args.schedule.now c.args.step c.requires.sessions c.requires.session

pub returns : goal.returns
returns c =
    let p = c.args.program.now in
    let here = plays-push p _ _ _ c.args.schedule.now c.args.step c.requires.there (c.in_ok-moved.ensures.moved c.if-not-moved.false) in
    let note = c.in_ok-note_next.ensures in
    record {
      known = note.known;
      kept = note.kept;
      added = λ k m low at. (c.args.step, note.added k m low at);
      all = λ s plays. subst (IsKnown p c.note_next.new.known.list.items)
          (plays-determined c.runs_are_determined.ensures p (opening p) (scene_state c.step.new.self) s (c.args.schedule.now ++ c.args.step ∷ []) here plays) note.there;
      goes = λ _. (scene_state c.step.new.self, here);
      stays = λ f. absurd (true≢false f);
    }

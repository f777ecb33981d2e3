use Rattle.jc_explore.proofs.Common.{◌≡◌, List, length, true, sym, subst, Move, Finding, IsFound, final_of, have_sessions, scene_state, KeepsMoves}
use Rattle.jc_explore.proofs.AllMoves.{sessions-moves}
use Rattle.jc_explore.proofs.Closing.{Laws, closed-goes, on-no-end, stays-end, end-found}
use Rattle.jc_explore.proofs.Searching.{grows-refl}
use Rattle.jc_explore.proofs.Shortest.{adds-none}
use Rattle.jc_explore.proofs.search.visit.Goals as goal

pub keep_moves-requires : goal.keep_moves-requires
keep_moves-requires c =
    subst (λ (ms : List Move). have_sessions ms ≡ true) (sym c.requires.moves) (sessions-moves (length c.args.program.now.threads.items) c.requires.accepted.0)

pub expand-requires-clause-moves : goal.expand-requires-clause-moves
expand-requires-clause-moves c =
    subst (λ (ms : List Move). have_sessions ms ≡ true) (sym c.deref.ensures.value) c.in_ok-kept.ensures.sessions

pub returns-then-any : goal.returns-then-any
returns-then-any c =
    let p = c.args.program.now in
    let sched = c.args.schedule.now in
    let w = scene_state c.go_to.new.scene in
    let kept = c.deref.result.now in
    let e = c.in_ok-any.ensures in
    let laws : Laws = record { det = c.runs_are_determined.ensures; go = c.worlds_go_on_alike.ensures; tell = c.essences_tell.ensures } in
    let keeps = subst (λ (ms : List Move). KeepsMoves p w ms kept) c.requires.moves (subst (λ (ks : List Move). KeepsMoves p w c.args.moves.now ks) (sym c.deref.ensures.value) c.in_ok-kept.ensures) in
    record {
      search = record { known = e.known; witnessed = c.requires.search.witnessed; distinct = c.requires.search.distinct };
      known_kept = e.kept;
      found_kept = grows-refl c.args.search.now.found.items;
      added = e.added;
      fresh = adds-none (λ (x : Finding). (x.witness.items ≡ sched) × (IsFound (final_of x.state) c.args.search.now.found.items → ⊥)) c.args.search.now.found.items;
      closed = record {
        goes = closed-goes laws p sched kept _ w c.in_ok-go_to.ensures keeps e.followed;
        ends = λ s f leads end final. absurd (on-no-end laws p sched kept s (e.on c.if-any.true) leads end);
      };
    }

pub note_end-requires-clause-ends : goal.note_end-requires-clause-ends
note_end-requires-clause-ends c =
    let p = c.args.program.now in
    let w = scene_state c.go_to.new.scene in
    let kept = c.deref.result.now in
    let laws : Laws = record { det = c.runs_are_determined.ensures; go = c.worlds_go_on_alike.ensures; tell = c.essences_tell.ensures } in
    let keeps = subst (λ (ms : List Move). KeepsMoves p w ms kept) c.requires.moves (subst (λ (ks : List Move). KeepsMoves p w c.args.moves.now ks) (sym c.deref.ensures.value) c.in_ok-kept.ensures) in
    stays-end laws p c.args.schedule.now kept w _ c.in_ok-go_to.ensures keeps (c.in_ok-any.ensures.none c.if-any.false) c.in_ok-go_to-2.ensures

pub returns : goal.returns
returns c =
    let p = c.args.program.now in
    let sched = c.args.schedule.now in
    let w = scene_state c.go_to.new.scene in
    let kept = c.deref.result.now in
    let e = c.in_ok-any.ensures in
    let n = c.in_ok-note_end.ensures in
    let laws : Laws = record { det = c.runs_are_determined.ensures; go = c.worlds_go_on_alike.ensures; tell = c.essences_tell.ensures } in
    let keeps = subst (λ (ms : List Move). KeepsMoves p w ms kept) c.requires.moves (subst (λ (ks : List Move). KeepsMoves p w c.args.moves.now ks) (sym c.deref.ensures.value) c.in_ok-kept.ensures) in
    record {
      search = record { known = e.known; witnessed = n.witnessed; distinct = n.distinct };
      known_kept = e.kept;
      found_kept = n.kept;
      added = e.added;
      fresh = n.fresh;
      closed = record {
        goes = closed-goes laws p sched kept _ w c.in_ok-go_to.ensures keeps e.followed;
        ends = λ s f leads end final. end-found laws p sched _ _ s f c.in_ok-go_to-2.ensures n.there leads final;
      };
    }

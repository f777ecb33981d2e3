use Rattle.jc_explore.proofs.Common.{[], List, sym, subst, arith, KnownState, Move, Program, Finding, AreDistinct, AreWitnessed, HaveSchedule, IsKnown}
use Rattle.jc_explore.proofs.Searching.{none-known}
use Rattle.jc_explore.proofs.search.begin.Goals as goal

none-witnessed : (p : Program) → AreWitnessed p []
none-witnessed p k d h = absurd (omega (arith, h))

none-distinct : AreDistinct []
none-distinct i j d h inside = absurd (omega (arith, inside))

pub note_state-requires-clause-known : goal.note_state-requires-clause-known
note_state-requires-clause-known c = none-known c.args.program.now c.new-known.result c.new-known.ensures.list c.new-known.ensures.fingerprints

pub returns : goal.returns
returns c =
    let p = c.args.program.now in
    let n = c.in_ok-note_state.ensures in
    record {
      search = record {
        known = n.known;
        witnessed = subst (λ (xs : List Finding). AreWitnessed p xs) (sym c.new-found.ensures.items) (none-witnessed p);
        distinct = subst (λ (xs : List Finding). AreDistinct xs) (sym c.new-found.ensures.items) none-distinct;
      };
      first = subst (λ (ks : List KnownState). HaveSchedule [] ks c.note_state.new.known.list.items) c.new-known.ensures.list
          (subst (λ (ms : List Move). HaveSchedule ms c.new-known.result.list.items c.note_state.new.known.list.items) c.new-schedule.ensures.items n.added);
      none = c.new-found.ensures.items;
      opening = subst (IsKnown p c.note_state.new.known.list.items) c.requires n.there;
    }

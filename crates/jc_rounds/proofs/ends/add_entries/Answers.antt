use Rattle.jc_rounds.proofs.Common.{ops_of, ◌++◌, [], option_map, ap, ◌∙◌, arith, cons_option}
use Rattle.jc_rounds.proofs.KeyEnds.{entries_more, entries_new, entries_whole}
use Rattle.jc_rounds.proofs.ends.add_entries.Goals as goal

pub insert_some-requires-clause-new : goal.insert_some-requires-clause-new
insert_some-requires-clause-new g c =
    entries_new g.V.OfEnd.said (ops_of c.args.targets.now) c.args.progress.now c.loop-place.place c.key.result.now c.loop-place.map.entries c.requires.distinct c.key.ensures c.loop-place.invariant.added

pub loop-place-preserved : goal.loop-place-preserved
loop-place-preserved g c =
    let old = c.loop-place.invariant in
    record {
      added = c.insert_some.ensures.entries ∙ ap (λ o. c.loop-place.map.entries ++ cons_option (option_map (λ v. (c.key.result.now, v)) o) []) c.at_end.ensures
          ∙ entries_more g.V.OfEnd.said (ops_of c.args.targets.now) c.args.progress.now c.loop-place.place c.key.result.now c.index-progress-place.result c.loop-place.map.entries
          c.requires.many c.loop-place-test.true c.key.ensures c.index-progress-place.is old.added;
      room = omega (arith, old.room, c.insert_some.ensures.room);
    }

pub returns : goal.returns
returns g c =
    entries_whole g.V.OfEnd.said (ops_of c.args.targets.now) c.args.progress.now c.loop-place.place c.loop-place.map.entries c.requires.many (omega (arith, c.loop-place-test.false)) c.loop-place.invariant.added

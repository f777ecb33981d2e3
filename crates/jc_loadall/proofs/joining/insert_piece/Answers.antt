use Rattle.jc_loadall.proofs.Common.{◌*◌, ◌+◌, ◌-◌, ◌++◌, [], take, drop, option_map, sym, ap, subst, ◌∙◌, append_assoc, arith, cons_option, AreWithin, entries_noted, refusal_noted, PIECE_KEYS}
use Rattle.jc_loadall.proofs.JoinedNotes.{entries_more, fresh_place, wider, within_more}
use Rattle.jc_loadall.proofs.PieceKeys.{one_more, whole_piece}
use Rattle.jc_loadall.proofs.joining.insert_piece.Goals as goal

pub insert_some-requires-clause-new : goal.insert_some-requires-clause-new
insert_some-requires-clause-new c =
    fresh_place c.args.keys.now c.loop-place.place c.index-keys-place.result c.loop-place.failed.entries c.requires.piece.1 (omega arith) c.index-keys-place.is c.loop-place.invariant.may.within

pub loop-place-preserved : goal.loop-place-preserved
loop-place-preserved c =
    let key = c.index-keys-place.result in
    let before = take (c.loop-place.place - PIECE_KEYS * c.args.piece) (drop (PIECE_KEYS * c.args.piece) c.args.keys.now) in
    let more = one_more c.args.keys.now (PIECE_KEYS * c.args.piece) c.loop-place.place c.index-keys-place.result (omega arith) (omega arith) c.index-keys-place.is in
    let noted = ap (entries_noted c.args.noted.now) more ∙ entries_more c.args.noted.now before c.index-keys-place.result in
    let added = c.insert_some.ensures.entries ∙ ap (λ o. c.loop-place.failed.entries ++ cons_option (option_map (λ r. (c.index-keys-place.result, r)) o) []) c.refusal_at.ensures in
    record {
      entries = added ∙ ap (λ es. es ++ cons_option (option_map (λ r. (c.index-keys-place.result, r)) (refusal_noted c.args.noted.now c.index-keys-place.result)) []) c.loop-place.invariant.entries
          ∙ append_assoc c.args.failed.now.entries (entries_noted c.args.noted.now before) _ ∙ ap (λ es. c.args.failed.now.entries ++ es) (sym noted);
      may = record {
        within = subst (AreWithin c.args.keys.now (c.loop-place.place + 1)) (sym c.insert_some.ensures.entries)
            (within_more c.args.keys.now c.loop-place.place c.index-keys-place.result c.loop-place.failed.entries c.refusal_at.result (omega arith) c.index-keys-place.is c.loop-place.invariant.may.within);
        room = omega (arith, c.loop-place.invariant.may.room, c.insert_some.ensures.room);
      };
    }

pub returns-clause-entries : goal.returns-clause-entries
returns-clause-entries c =
    c.loop-place.invariant.entries
    ∙ ap (λ ks. c.args.failed.now.entries ++ entries_noted c.args.noted.now ks) (whole_piece c.args.keys.now c.args.piece c.loop-place.place (omega arith) (omega arith))

pub returns-clause-may : goal.returns-clause-may
returns-clause-may c =
    let may = c.loop-place.invariant.may in
    record {
      within = wider c.args.keys.now c.loop-place.place (PIECE_KEYS * c.args.piece + PIECE_KEYS) c.loop-place.failed.entries (omega arith) may.within;
      room = omega (arith, may.room);
    }

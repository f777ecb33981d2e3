use Rattle.jc_loadall.proofs.Common.{◌≡◌, ◌*◌, ◌+◌, ◌∷◌, [], ◌++◌, length, ◌==◌, ap, sym, subst, ◌∙◌, arith, length_push, IsDistinct, pointwise, piece_at, is_among, PIECE_KEYS}
use Rattle.jc_loadall.proofs.PieceKeys.{distinct_piece, few_keys, fresh_key, one_more, whole_piece}
use Rattle.jc_loadall.proofs.pieces.fill.Goals as goal

pub insert_new-requires-clause-new : goal.insert_new-requires-clause-new
insert_new-requires-clause-new c =
    ap (λ ks. is_among ks c.index-keys-place.result) c.loop-place.invariant.keys
    ∙ fresh_key c.args.keys.now (PIECE_KEYS * c.args.piece) c.loop-place.place c.index-keys-place.result (omega arith) (omega arith) c.index-keys-place.is c.requires.piece.1

pub loop-place-preserved : goal.loop-place-preserved
loop-place-preserved c =
    let more = c.insert_new.ensures.keys ∙ ap (λ ks. ks ++ c.index-keys-place.result ∷ []) c.loop-place.invariant.keys
    ∙ sym (one_more c.args.keys.now (PIECE_KEYS * c.args.piece) c.loop-place.place c.index-keys-place.result (omega arith) (omega arith) c.index-keys-place.is) in
    let pushed : length c.insert_new.new.set.keys ≡ length c.loop-place.set.keys + 1 = ap length c.insert_new.ensures.keys ∙ length_push c.loop-place.set.keys c.index-keys-place.result in
    record { keys = more; room = omega arith }

filled : (c : goal.After-loop-place) → c.loop-place.set.keys ≡ piece_at c.args.keys.now c.args.piece
filled c = c.loop-place.invariant.keys ∙ whole_piece c.args.keys.now c.args.piece c.loop-place.place (omega arith) (omega arith)

pub returns-clause-keys : goal.returns-clause-keys
returns-clause-keys c = filled c

pub returns-clause-few : goal.returns-clause-few
returns-clause-few c =
    let few = few_keys c.args.keys.now c.args.piece in
    let same = ap length (filled c) in
    (omega arith, omega (arith, c.loop-place.invariant.room), subst (IsDistinct (pointwise ◌==◌)) (sym (filled c)) (distinct_piece c.args.keys.now c.args.piece c.requires.piece.1))

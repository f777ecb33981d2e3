use Rattle.jc_loadall.proofs.Common.{◌+◌, ◌*◌, arith, PIECE_KEYS}
use Rattle.jc_loadall.proofs.JoinedNotes.{wider}
use Rattle.jc_loadall.proofs.joining.join_piece.Goals as goal

pub returns-in-None-clause-may : goal.returns-in-None-clause-may
returns-in-None-clause-may g c =
    let may = c.requires.may in
    record {
      within = wider c.args.keys.now (PIECE_KEYS * c.args.piece) (PIECE_KEYS * c.args.piece + PIECE_KEYS) c.args.failed.now.entries (omega arith) may.within;
      room = omega (arith, may.room);
    }

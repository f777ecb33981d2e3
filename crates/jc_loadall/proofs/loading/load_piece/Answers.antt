use Rattle.jc_loadall.proofs.Noting.{piece_end}
use Rattle.jc_loadall.proofs.loading.load_piece.Goals as goal

pub returns : goal.returns
returns g c = record {
  may = c.load_keys.ensures.may;
  call = piece_end _ c.args.cache.now c.args.replace c.args.keys.now.keys c.requires.keys.0 c.requires.keys.1 c.args.session.now c.load_keys.new.session c.load_keys.result c.of.result c.of.ensures c.load_keys.ensures.call;
}

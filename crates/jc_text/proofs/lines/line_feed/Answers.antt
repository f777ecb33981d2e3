use Rattle.std.proofs.Common.{◌==◌}
use Rattle.jc_text.proofs.Pieces.{first_is_position}
use Rattle.jc_text.proofs.lines.line_feed.Goals as goal

pub returns : goal.returns
returns c = first_is_position (λ b. b == 10) c.args.bytes.now c.memchr.result c.memchr.ensures

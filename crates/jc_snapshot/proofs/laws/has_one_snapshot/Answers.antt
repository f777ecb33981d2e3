use Rattle.jc_snapshot.proofs.SnapshotLaws.{only}
use Rattle.jc_snapshot.proofs.laws.has_one_snapshot.Goals as goal

pub returns : goal.returns
returns c = only c.args.seen.now c.are_tables.ensures

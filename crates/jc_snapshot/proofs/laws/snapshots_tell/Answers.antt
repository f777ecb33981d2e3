use Rattle.jc_snapshot.proofs.SnapshotLaws.{tell}
use Rattle.jc_snapshot.proofs.laws.snapshots_tell.Goals as goal

pub returns : goal.returns
returns c = tell

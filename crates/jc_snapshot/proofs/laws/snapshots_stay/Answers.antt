use Rattle.jc_snapshot.proofs.SnapshotLaws.{stay}
use Rattle.jc_snapshot.proofs.laws.snapshots_stay.Goals as goal

pub returns : goal.returns
returns c = stay

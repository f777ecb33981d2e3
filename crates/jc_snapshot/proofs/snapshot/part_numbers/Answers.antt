use Rattle.std.specs.FinMap.{nat_cmp-IsAntisymmetric, slice_cmp-IsAntisymmetric}
use Rattle.jc_snapshot.proofs.snapshot.part_numbers.Goals as goal

pub sorted-requires : goal.sorted-requires
sorted-requires c = slice_cmp-IsAntisymmetric nat_cmp-IsAntisymmetric

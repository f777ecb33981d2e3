use Rattle.jc_world.proofs.Common.{◌≡◌, ℕ, ◌+◌, arith}
use Rattle.jc_world.proofs.Loads.{total_run, total_opened}
use Rattle.jc_world.proofs.Opened.{sound_opening}
use Rattle.jc_world.proofs.headline.counts_loads.Goals as goal

-- what is added to nothing
from_zero : (n a b : ℕ) → n ≡ a + b → b ≡ 0 → a ≡ n
from_zero n a b e z = omega arith

pub returns : goal.returns
returns c = λ opening events seen new key ((opens, run), none).
    from_zero _ _ _ (total_run (record { stays = c.stays_reached.ensures; kept = c.keeps_reserved.ensures }) opening new events seen key run none (sound_opening opening opens)) (total_opened opening key opens)

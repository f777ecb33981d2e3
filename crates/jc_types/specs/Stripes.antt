-- Which stripe a key belongs to.
--     stripe_of     the sum of the key's bytes, modulo the number of stripes
use Rattle.std.specs.Prelude.{ℕ, List, sum, ◌%◌}

abbrev pub stripe_of : List ℕ → ℕ → ℕ
stripe_of key stripes = sum key % stripes

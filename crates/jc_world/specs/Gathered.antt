-- How the audit of a world gathers what its stripes cache. No contract of a public function cites this.
--     or_else          the first of two values that is there
--     found_after      what the last of some stripes that caches a key caches for it, or what was found before them
use Rattle.std.specs.Prelude.{List, [], ◌∷◌, Option, None, Some}
use Rattle.jc_model.specs.Cache.{Bytes, entry_at}
use Rattle.jc_stripe.specs.State.{State}

abbrev pub or_else : Option Bytes → Option Bytes → Option Bytes
or_else (Some value) other = Some value
or_else None other = other

abbrev pub found_after : Option Bytes → List State → Bytes → Option Bytes
found_after before [] key = before
found_after before (stripe ∷ stripes) key =
    found_after (or_else (entry_at stripe.cache key) before) stripes key

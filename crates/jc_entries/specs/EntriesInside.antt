-- The meaning of the fields of `Entries`. No contract of a public function cites this.
--     by_use_of    the entries that the fields mean
use Rattle.jc_entries.specs.ByUse.{ByUse}
use Rattle.jc_entries.specs.declared.entries.Entries.TheInside.{Inside}

-- the entries that the fields mean
abbrev pub by_use_of : Inside → ByUse
by_use_of e = record { capacity = e.cache.cap; list = e.cache.entries }

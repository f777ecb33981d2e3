-- The names that most pages of this crate cite, passed on from one place. Declares nothing.
pub use Rattle.std.proofs.Common.{Bool, List, None, Option, Some, [], add-one, ap, append-nil, append_assoc, cond, false, get_or, length, map, refl, slice_get, subst, suc, sym, take, true, zero, ℕ, ◌&&◌, ◌++◌, ◌+◌, ◌<◌, ◌∙◌, ◌∷◌, ◌≡◌}
pub use Rattle.std.proofs.lemmas.List.{map-append}
pub use Rattle.std.proofs.lemmas.Option.{same_Some, slice_get_read}
pub use Rattle.std.specs.FinMap.{IsAntisymmetric, find, from_entries, get-from_entries, get-from_sorted, get-insert, is_sorted, same_entries_map, same_map}
pub use Rattle.std.specs.List.{AllByRecursion, fold}
pub use Rattle.jc_snapshot.specs.Numbers.{AreNumbers, Continues, IsAbsent, IsDistinctTable, IsNumberOf}
pub use Rattle.jc_snapshot.specs.Rows.{AreRows, flat, framed}
pub use Rattle.jc_snapshot.specs.Snapshot.{AreTables, GrowsTo, HasOwnRows, IsOpenCallRow, IsSnapshot, IsStripeRow, OwnRows, bit, head_of, last_row, origin_word, own_rows, rows_of, scalars_of}
pub use Rattle.jc_snapshot.specs.declared.seen.Seen.{Seen}
pub use Rattle.jc_world.specs.Essence.{StripeEssence, WorldEssence, answer_in, essence_of}
pub use Rattle.jc_world.specs.World.{WorldState, join_cmp}

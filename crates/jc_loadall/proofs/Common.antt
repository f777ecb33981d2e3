-- The names that most pages of this crate cite, passed on from one place. Declares nothing.
pub use Rattle.std.proofs.Common.{◌≡◌, ◌==◌, ◌<◌, ◌≤◌, ◌++◌, ◌⊎◌, inl, inr, ⊎_elim, ℕ, zero, suc, List, [], ◌∷◌, Bool, false, cond, length, map, Option, None, Some, Result, Ok, Err, option_map, refl, sym, ap, subst, ◌∙◌, arith, get_or, nat_lt, true, ◌+◌, eqb, take, zip, All, vec_len, vec_capacity, unwrap_or, ◌-◌, ◌*◌, drop, min, length-drop, ◌||◌, IfNone, nat_eq, append-nil, append_assoc, rules}
pub use Rattle.std.proofs.Math.Seq.{drop-cons, take-length}
pub use Rattle.std.proofs.lemmas.Bool.{cases_lt, eq-eqb, lt-ltb}
pub use Rattle.std.proofs.lemmas.Cmp.{nat_list_eq_equiv}
pub use Rattle.std.proofs.lemmas.List.{get_or-drop, length-take, length_push, map-append, take_more}
pub use Rattle.std.proofs.lemmas.List.Concat.{flat_map-cons}
pub use Rattle.std.proofs.lemmas.List.Elements.{All-push, filter_map-append}
pub use Rattle.std.proofs.lemmas.Map.Keys.{IsDistinct-cons, IsDistinct-head, IsDistinct-tail}
pub use Rattle.std.specs.Cmp.Lexicographic.{pointwise, texts_ties}
pub use Rattle.std.specs.List.{AllByRecursion, IsAmong, IsDistinct, concat, cons_option, filter_map, flat_map, list_any}
pub use Rattle.std.specs.Map.{keys_of, lookup}
pub use Rattle.std.specs.Option.{option_or}
pub use Rattle.indexmap.specs.IndexSet.{IndexSet, spare}
pub use denote.Param.Members.{Shared}
pub use denote.Ref.{Bor, MutBor}
pub use Rattle.jc_batch.proofs.CallerLemmas.{keys_ordered, new_at}
pub use Rattle.jc_bulk.specs.Bulk.{DoesAll, IsBulkCall, NamesNoKey, OrRefused, TellsDone}
pub use Rattle.jc_bulk.specs.Targets.{load_ops}
pub use Rattle.jc_bulk.specs.declared.fault.BulkFault.{BulkFault}
pub use Rattle.jc_loadall.specs.Loading.{EndsInPieces, LoadsInPieces, LoadsPiece, OnReturn, PieceEnd, all_ends, first_cause, of_clients, out_of_memory}
pub use Rattle.jc_loadall.specs.Notes.{AreWithin, IsNoteOf, IsResultOf, LoadsAndNotes, MayAdd, all_noted, cause_noted, entries_noted, find_note, first_noted, refusal_noted, result_in}
pub use Rattle.jc_loadall.specs.Pieces.{piece_at, piece_count}
pub use Rattle.jc_loadall.specs.Working.{AreLoadedBy, CanLoad, CanLoadBy, DoesPiece, EndsByTeam, IsIdleWorker, Keeps, LoadsBy}
pub use Rattle.jc_loadall.specs.declared.limits.TheConstants.{PIECE_KEYS}
pub use Rattle.jc_loadall.specs.declared.notes.Note.{Note}
pub use Rattle.jc_loadall.specs.declared.notes.PieceResult.{PieceResult}
pub use Rattle.jc_loadall.specs.declared.notes.PieceResult.TheVariants.{Failed, Loaded, Refused}
pub use Rattle.jc_loadall.specs.declared.worker.Worker.{Worker}
pub use Rattle.jc_model.specs.Batches.{is_among}
pub use Rattle.jc_model.specs.Cache.{Bytes, key_cmp}
pub use Rattle.jc_model.specs.declared.event.Op.{Op}
pub use Rattle.jc_pool.specs.Shares.{CanDoAll, DoesEachOnce, LeadsTo, once_below, times}
pub use Rattle.jc_rounds.specs.Ends.{KeyEnd, failed_entries, key_ops}
pub use Rattle.jc_types.specs.declared.refusal.Refusal.{Refusal}

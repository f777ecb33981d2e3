-- A call on the connection that is there answers as its table's function does.
use Rattle.std.proofs.Common.{◌≡◌, ℕ, List, Option, Some, Result, Ok, Err, refl, sym, subst}
use Rattle.sqlite_disk.specs.declared.Disk as disk
use Rattle.sqlite_store.specs.declared.store.FileStore.{FileStore}
use Rattle.sqlite.specs.declared.error.Error.{Error}
use Rattle.sqlite.specs.State.{State, HasCleanDisk}
use Rattle.sqlite.specs.Held.{Held}
use Rattle.sqlite.specs.Files.{file_state}
use Rattle.jc_sqlite.specs.declared.failure.Failure.{Failure}
use Rattle.jc_sqlite.specs.Leaving.{failure_to_keep, AnswersOver, IsShut, IsAt, OnCleanDisk}

module _ {D : Type 0} {g : disk.Ghosts D} {T : Type 0} (key : Option (List ℕ)) (answers : State → State → Result T Error → Type 0) where
  abbrev Clean : Held (FileStore D g) → Held (FileStore D g) → Result T Error → Type 0
  Clean old new answer = HasCleanDisk (file_state new) → answers (file_state old) (file_state new) answer

  pub answered : (old : Option (Held (FileStore D g))) (kept : Option Failure) (value : T) (connection new : Held (FileStore D g)) → old ≡ Some connection → Clean connection new (Ok value)
      → AnswersOver (IsShut key) (IsAt key (OnCleanDisk answers)) old kept (Ok value) (Some new) kept
  answered old kept value connection new is it =
      subst (λ (o : Option (Held (FileStore D g))). AnswersOver (IsShut key) (IsAt key (OnCleanDisk answers)) o kept (Ok value) (Some new) kept) (sym is) (it, refl)

  pub failed : (old after : Option (Held (FileStore D g))) (kept keeps : Option Failure) (code : ℕ) (e : Error) (connection new : Held (FileStore D g)) → old ≡ Some connection → after ≡ Some new
      → Clean connection new (Err e) → keeps ≡ Some (failure_to_keep kept (record { key = key; error = e })) → AnswersOver (IsShut key) (IsAt key (OnCleanDisk answers)) old kept (Err code) after keeps
  failed old after kept keeps code e connection new is same it keep =
      subst (λ (o : Option (Held (FileStore D g))). AnswersOver (IsShut key) (IsAt key (OnCleanDisk answers)) o kept (Err code) after keeps) (sym is)
      (subst (λ (o : Option (Held (FileStore D g))). AnswersOver (IsShut key) (IsAt key (OnCleanDisk answers)) (Some connection) kept (Err code) o keeps) (sym same)
      (record { key = key; error = e }, (refl, it), keep))

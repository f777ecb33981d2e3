-- The script of a schedule plays it, from the line that opens the cache on.
--     mirrors_opening     the numbers mirror the opening of a program
--     opening_plays       the lines of the cache's shape and of the store lead there
--     witness_plays       and those of the moves to where the schedule does
use Rattle.jc_litmus.proofs.Common.{[], ap, arith, Bytes, codes, flat_map, length, List, map, None, Ok, refl, slice_get, Some, subst, suc, sym, true, ℕ, ◌++◌, ◌∙◌, ◌∷◌, ◌≡◌, ◌≤◌}
use Rattle.std.specs.Prelude.{if◌then◌else◌, replicate, zero}
use Rattle.std.specs.FinMap.{empty, get, get-empty}
use Rattle.jc_types.specs.Limits.{check}
use Rattle.jc_model.specs.Cache.{key_cmp}
use Rattle.jc_world.specs.World.{Parts, start, with_stored, WorldState}
use Rattle.jc_explore.specs.declared.moves.Move.{Move}
use Rattle.jc_explore.specs.declared.program.Program.{Program}
use Rattle.jc_explore.specs.Schedule.{next_number, opening, PlaysSchedule, SceneState, unbegun, with_all_stored}
use Rattle.jc_text.specs.declared.fault.Fault.TheVariants.{SetTooLate}
use Rattle.jc_text.specs.declared.read.line.Line.TheVariants.{Audit, Open}
use Rattle.jc_script.specs.Faults.{config_fault}
use Rattle.jc_litmus.specs.declared.witness.Progress.{Progress}
use Rattle.jc_litmus.specs.Playing.{opening_lines, PlaysLines, PlaysWitness, set_line}
use Rattle.jc_litmus.specs.Witness.{no_progress, piped, set_text}
use Rattle.jc_litmus.proofs.Mirroring.{AllMirrored}
use Rattle.jc_litmus.proofs.Mirrors.{Mirrors, of_position, of_thread, schedule_plays}

-- 1. The opening.

-- what is so of a world whatever its store has
stored_as : (P : WorldState → Type 0) → ((w : WorldState) (key value : Bytes) → P w → P (with_stored w key value)) → (w : WorldState) (entries : List (Bytes × Bytes)) → P w → P (with_all_stored w entries)
stored_as P more w [] h = h
stored_as P more w (entry ∷ entries) h = stored_as P more (with_stored w entry.0 entry.1) entries (more w entry.0 entry.1 h)

nothing_begun : (n : ℕ) → map of_thread (replicate n no_progress) ≡ map of_position (replicate n unbegun)
nothing_begun zero = refl
nothing_begun (suc n) = ap (λ counts. 0 ∷ counts) (nothing_begun n)

one_of : (n at : ℕ) (t : Progress) → slice_get (replicate n no_progress) at ≡ Some t → t ≡ no_progress
one_of zero at t h = cc
one_of (suc n) zero t h = let is : no_progress ≡ t = cc in sym is
one_of (suc n) (suc at) t h = one_of n at t h

pub mirrors_opening : (p : Program) → Mirrors p (opening p) 0 (replicate (length p.threads.items) no_progress)
mirrors_opening p =
    let n : ℕ = length p.threads.items in
    let w : WorldState = (opening p).world in
    let P : WorldState → Type 0 = λ w. (w.last ≡ None) × (w.calls ≡ []) × (w.parts ≡ empty) in
    let new : P w = stored_as P (λ w key value h. h) (start p.config) p.stored.items (refl, refl, refl) in
    record {
      last_is = ap next_number new.0;
      begun = nothing_begun n;
      calls = subst (AllMirrored p (replicate n no_progress)) (sym new.1) tt;
      free = λ key part is. let t : None ≡ Some part = sym (get-empty key_cmp key) ∙ ap (λ (parts : Parts). get parts key) (sym new.2) ∙ is in cc;
      few = λ at t is. subst (λ (x : Progress). x.call ≤ 0) (sym (one_of n at t is)) (omega (arith));
      apart = λ at other one two is this same counts. absurd (counts (ap (λ (x : Progress). x.call) (one_of n at one is)));
    }

-- 2. The lines before the moves.

stores_play : (w : WorldState) (entries : List (Bytes × Bytes)) → w.is_fresh ≡ true → PlaysLines (Some w) (map set_line entries) (Some (with_all_stored w entries))
stores_play w [] fresh = refl
stores_play w (entry ∷ entries) fresh =
    ([], Some (with_stored w entry.0 entry.1), ap (λ b. if b then None else Some SetTooLate) fresh, (refl, refl), stores_play (with_stored w entry.0 entry.1) entries fresh)

pub opening_plays : (p : Program) → check p.config ≡ Ok tt → PlaysLines None (opening_lines p) (Some (opening p).world)
opening_plays p right = (codes "open\n", Some (start p.config), ap config_fault right, (refl, refl), stores_play (start p.config) p.stored.items refl)

-- 3. The script.

set_texts : (entries : List (Bytes × Bytes)) → flat_map piped (map set_line entries) ≡ flat_map set_text entries
set_texts [] = refl
set_texts (entry ∷ entries) = ap (λ text. set_text entry ++ text) (set_texts entries)

pub witness_plays : (p : Program) (schedule : List Move) (last : SceneState) → check p.config ≡ Ok tt → PlaysSchedule p (opening p) schedule last → PlaysWitness p schedule last
witness_plays p schedule last right plays =
    let own = schedule_plays p (opening p) last schedule 0 (replicate (length p.threads.items) no_progress) (mirrors_opening p) plays in
    record {
      lines = own.lines;
      text_is = (λ i. piped (Open p.config) ++ sym (set_texts p.stored.items) i ++ own.text_is i ++ piped Audit);
      opens = opening_plays p right;
      moves = own.moves;
    }

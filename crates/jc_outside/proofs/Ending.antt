-- The asks of a batch are reversed and then popped, so each is ended in its turn. What one turn of the loop does.
--     twice                              what is reversed twice is as before
--     first_items                        no ask is ended yet
--     popped_first                       the ask that is popped is the next of those that are left
--     first_outcomes, next_outcomes      the outcomes are those of the asks that are left, and of the next one first
--     one_more, all_ended                one done value more for it, and all of them at the end
--     room_first, room_for_one, room_after, room_stays, fewer     the room for the others
use Rattle.std.proofs.Common.{◌≡◌, ◌≤◌, ◌<◌, ◌+◌, ◌++◌, ◌∷◌, [], ℕ, List, Option, length, map, reverse, sym, ap, subst, ◌∙◌, append_assoc, arith}
use Rattle.std.proofs.lemmas.List.{reverse-append, reverse-reverse, nil_from_length, append-nil}
use Rattle.jc_model.specs.Cache.{Bytes}
use Rattle.jc_batch.specs.Splitting.{AreOutcomes, successes_in, failures_in}

module _ {A : Type 0} where
  twice : (asks reversed : List A) → reversed ≡ reverse asks → reverse reversed ≡ asks
  twice asks reversed is = ap reverse is ∙ reverse-reverse asks

  popped_first : (before rest : List A) (ask : A) → before ≡ rest ++ ask ∷ [] → reverse before ≡ ask ∷ reverse rest
  popped_first before rest ask last = ap reverse last ∙ reverse-append rest (ask ∷ [])

module _ {A : Type 0} (key_of : A → Bytes) (left : List Bytes) (fault : Option ℕ) where
  pub first_outcomes : (asks reversed : List A) (keys split_written written : List Bytes) (split_failed failed : List (Bytes × ℕ))
      → reversed ≡ reverse asks → keys ≡ map key_of asks
      → split_written ≡ successes_in left fault keys → split_failed ≡ failures_in left fault keys → written ≡ split_written → failed ≡ split_failed
      → AreOutcomes left fault (map key_of (reverse reversed)) written failed
  first_outcomes asks reversed keys split_written written split_failed failed other of split_is failed_is same_written same_failed =
      let same : keys ≡ map key_of (reverse reversed) = of ∙ ap (map key_of) (sym (twice asks reversed other)) in
      record {
        written_are = same_written ∙ split_is ∙ ap (successes_in left fault) same;
        failed_are = same_failed ∙ failed_is ∙ ap (failures_in left fault) same;
      }

  pub next_outcomes : (before rest : List A) (ask : A) (key : Bytes) (written : List Bytes) (failed : List (Bytes × ℕ)) → before ≡ rest ++ ask ∷ [] → key ≡ key_of ask
      → AreOutcomes left fault (map key_of (reverse before)) written failed
      → AreOutcomes left fault (key ∷ map key_of (reverse rest)) written failed
  next_outcomes before rest ask key written failed last is outcomes =
      subst (λ k. AreOutcomes left fault (k ∷ map key_of (reverse rest)) written failed) (sym is)
      (subst (λ asks. AreOutcomes left fault (map key_of asks) written failed) (popped_first before rest ask last) outcomes)

module _ {A K N D : Type 0} (done_of : A → N → D) (key_of : A → K) (said : K → N) (asks : List A) (start : List D) where
  pub first_items : (reversed : List A) → reversed ≡ reverse asks
      → start ++ map (λ a. done_of a (said (key_of a))) (reverse reversed) ≡ start ++ map (λ a. done_of a (said (key_of a))) asks
  first_items reversed other = ap (λ left. start ++ map (λ a. done_of a (said (key_of a))) left) (twice asks reversed other)

  pub one_more : (before rest : List A) (ask : A) (key : K) (answer : N) (d : D) (done more : List D)
      → before ≡ rest ++ ask ∷ [] → key ≡ key_of ask → answer ≡ said key → d ≡ done_of ask answer → more ≡ done ++ d ∷ []
      → done ++ map (λ a. done_of a (said (key_of a))) (reverse before) ≡ start ++ map (λ a. done_of a (said (key_of a))) asks
      → more ++ map (λ a. done_of a (said (key_of a))) (reverse rest) ≡ start ++ map (λ a. done_of a (said (key_of a))) asks
  one_more before rest ask key answer d done more last is told ended put whole =
      rw (put, append_assoc, ended, told, is)
      (ap (λ left. done ++ map (λ a. done_of a (said (key_of a))) left) (sym (popped_first before rest ask last)) ∙ whole)

  pub all_ended : (before : List A) (done : List D) (n : ℕ) → n ≡ length before → n ≡ 0
      → done ++ map (λ a. done_of a (said (key_of a))) (reverse before) ≡ start ++ map (λ a. done_of a (said (key_of a))) asks
      → done ≡ start ++ map (λ a. done_of a (said (key_of a))) asks
  all_ended before done n long none whole =
      sym (append-nil done)
      ∙ ap (λ left. done ++ map (λ a. done_of a (said (key_of a))) (reverse left)) (sym (nil_from_length before (sym long ∙ none)))
      ∙ whole

module _ (done before rest room : ℕ) where
  pub room_first : rest ≡ before → done + before ≤ room → done + rest ≤ room
  room_first same within = omega arith

  pub room_for_one : rest + 1 ≡ before → done + before ≤ room → done < room
  room_for_one less within = omega arith

  pub room_after : (more room_now : ℕ) → rest + 1 ≡ before → more ≡ done + 1 → room_now ≡ room → done + before ≤ room → more + rest ≤ room_now
  room_after more room_now less one same within = omega arith

pub room_stays : (first before after : ℕ) → after ≡ before → before ≡ first → after ≡ first
room_stays first before after same stayed = same ∙ stayed

pub fewer : (before rest : ℕ) → rest + 1 ≡ before → rest < before
fewer before rest less = omega arith

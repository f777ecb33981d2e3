-- The meaning of a bulk write for each of its keys (`CacheWriter.writeAll`, `deleteAll`).
--     is_among           whether a key is among these keys
--     fault_code         the code that a key which is left fails with: the writer's, or 0 if the writer returned normally
--     batch_answer       the answer for a key, by whether it is left: a key that is left failed with that code, any other was
--                        written
--     answer_in_batch    the answer for a key, by the keys that are left. Keys that weren't asked for have no effect
use Rattle.std.specs.Prelude.{ℕ, List, Bool, true, false, ◌==◌, Option, None, Some}
use Rattle.std.specs.List.{list_any}
use Rattle.std.specs.Cmp.Lexicographic.{pointwise}
use Rattle.jc_model.specs.Cache.{Bytes}
use Rattle.jc_model.specs.declared.event.WriteAnswer.{WriteAnswer}
use Rattle.jc_model.specs.declared.event.WriteAnswer.TheVariants as write

-- whether a key is among these keys
abbrev pub is_among : List Bytes → Bytes → Bool
is_among keys key = list_any (pointwise ◌==◌ key) keys

-- the code that a key which is left fails with
abbrev pub fault_code : Option ℕ → ℕ
fault_code (Some code) = code
fault_code None = 0

-- the answer for a key that is left, or that isn't
abbrev pub batch_answer : Bool → Option ℕ → WriteAnswer
batch_answer true fault = write.Failed (fault_code fault)
batch_answer false fault = write.Done

-- the answer for a key, by the keys that are left
abbrev pub answer_in_batch : List Bytes → Option ℕ → Bytes → WriteAnswer
answer_in_batch left fault key = batch_answer (is_among left key) fault

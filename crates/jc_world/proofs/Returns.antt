-- A writer's return: what each key's report keeps is kept for all keys that the writer returns for.
--     each_report     what a report for one key keeps, a return keeps
--     IsBeside        a world is another one but for its parts and its premises
--     returned        a return leads to such a world
--     IsWhole         an event after which the world is sound as a whole: a writer's return, an end, an invalidation, or a reopening
use Rattle.jc_world.proofs.Common.{◌≡◌, ℕ, true, false, cond, List, [], ◌∷◌, Some, None, Option, refl, ap, ◌∙◌, Bytes, WriteAnswer, Part, Premises, WorldEvent, after_report, reported_at, after_reports, Parts, WorldState, part_of, waits_for_report}

-- the report for one key keeps this
abbrev pub KeepsReport : (WorldState → Type 0) → ℕ → (Bytes → WriteAnswer) → Type 0
KeepsReport P call answer =
    (w : WorldState) (key : Bytes) (part : Part) → part_of w call key ≡ Some part → waits_for_report part ≡ true → P w → P (after_report w key part (answer key))

at_one : (P : WorldState → Type 0) (call : ℕ) (answer : Bytes → WriteAnswer) → KeepsReport P call answer → (w : WorldState) (key : Bytes) (o : Option Part) → part_of w call key ≡ o → P w → P (reported_at w key (answer key) o)
at_one P call answer one w key None at h = h
at_one P call answer one w key (Some part) at h =
    elim (waits_for_report part) as (λ b. waits_for_report part ≡ b → P (cond b (after_report w key part (answer key)) w)) [
      | true ↦ λ waits. one w key part at waits h
      | false ↦ λ waits. h
    ] refl

-- so a return keeps it
pub each_report : (P : WorldState → Type 0) (call : ℕ) (answer : Bytes → WriteAnswer) → KeepsReport P call answer → (w : WorldState) (keys : List Bytes) → P w → P (after_reports w call answer keys)
each_report P call answer one w [] h = h
each_report P call answer one w (key ∷ keys) h =
    each_report P call answer one (reported_at w key (answer key) (part_of w call key)) keys (at_one P call answer one w key (part_of w call key) refl h)

-- another world but for its parts and its premises
pub record IsBeside (w new : WorldState) : Type 0 where
  pub parts : Parts
  pub premises : Premises
  pub is : new ≡ record w { parts = parts; premises = premises }

pub returned : (w new : WorldState) (call : ℕ) (answer : Bytes → WriteAnswer) (keys : List Bytes) → new ≡ after_reports w call answer keys → IsBeside w new
returned w new call answer keys is =
    let all = each_report (IsBeside w) call answer
    (λ v key part at waits h.
    let next = after_report v key part (answer key) in
    record {
      parts = next.parts;
      premises = next.premises;
      is = ap (λ (x : WorldState). record x { parts = next.parts; premises = next.premises }) h.is;
    })
    w keys (record { parts = w.parts; premises = w.premises; is = refl })
    in
    record { parts = all.parts; premises = all.premises; is = is ∙ all.is }

abbrev pub IsWhole : WorldEvent → Type 0
IsWhole (WorldEvent.Report call left fault) = Unit {0}
IsWhole (WorldEvent.Reopen config) = Unit {0}
IsWhole (WorldEvent.Commit call key) = Unit {0}
IsWhole (WorldEvent.Withdraw call key) = Unit {0}
IsWhole (WorldEvent.Invalidate key) = Unit {0}
IsWhole e = ⊥

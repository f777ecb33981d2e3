-- A call that clears asks nobody.
--     none_outside          it has no call outside
--     quiet_sweep           so its session's loader and writer are as they were
use Rattle.jc_bulk.proofs.Common.{changes_of, Batch, DoesAll, IsBulkCall, OnlyLooks, SweepsAll, BulkBehavior, CallsInRounds, clear_ops, BulkFault, CacheState, Session, Bytes, Change, Op, Clear, AsksEachOnce, AsksFor, KeyEnd, IsShown, KeyRun, LoadAll, ProcessAll, Round, WriteAll, keys_asked, first_asked, writer_for, asks_loader, asks_processor, change_asked, Nobody, Config, Refusal, ◌≡◌, inl, inr, zero, suc, List, [], ◌∷◌, All, map, Bool, true, false, cond, Option, None, Some, Result, refl, sym, ap, subst, ◌∙◌, arith, true≢false, AllByRecursion, IsAmong}
use Rattle.std.proofs.lemmas.List.Elements.{All-head}
use Rattle.jc_model.specs.declared.event.Change.TheVariants.{Write, Delete}
use Rattle.jc_batch.specs.declared.batch.Batch.TheVariants.{Writes, Deletes}

-- 1. A `Clear` asks nobody.

cleared : (keys : List Bytes) (k : Bytes) (op : Op) → IsAmong (clear_ops keys) (k, op) → op ≡ Clear
cleared [] k op (i, (near, is)) = absurd (omega (arith, near))
cleared (q ∷ keys) k op (zero, (near, is)) = ap (λ (t : Bytes × Op). t.1) is
cleared (q ∷ keys) k op (suc i, (near, is)) = cleared keys k op (i, (omega (arith, near), is))

nobody_for : (b : Bool) → writer_for (cond b None None) ≡ Nobody
nobody_for true = refl
nobody_for false = refl

nobody : (config : Config) (entry : Option Bytes) → first_asked config Clear entry ≡ Nobody
nobody config entry = nobody_for config.write_through

changed : (b : Batch) → AllByRecursion (λ (c : Bytes × Option Change). c.1 ≡ None → ⊥) (changes_of b)
changed (Writes batch) = writes batch.items
  where
    writes : (es : List (Bytes × Bytes)) → AllByRecursion (λ (c : Bytes × Option Change). c.1 ≡ None → ⊥) (map (λ (e : Bytes × Bytes). (e.0, Some (Write e.1))) es)
    writes [] = tt
    writes (e ∷ es) = ((λ is. let bad : Some (Write e.1) ≡ None = is in cc), writes es)
changed (Deletes batch) = deletes batch.items
  where
    deletes : (ks : List Bytes) → AllByRecursion (λ (c : Bytes × Option Change). c.1 ≡ None → ⊥) (map (λ (k : Bytes). (k, Some Delete)) ks)
    deletes [] = tt
    deletes (k ∷ ks) = ((λ is. let bad : Some Delete ≡ None = is in cc), deletes ks)

-- what can't be of any element leaves none
none_of : {X : Type 0} (P Q : X → Type 0) (xs : List X) → All P xs → AllByRecursion Q xs → ((x : X) → P x → Q x → ⊥) → xs ≡ []
none_of P Q [] all also never = refl
none_of P Q (x ∷ xs) all also never = absurd (never x (All-head P x xs all) also.0)

any : {X : Type 0} (xs : List X) → AllByRecursion (λ x. Unit {0}) xs
any [] = tt
any (x ∷ xs) = (tt, any xs)

module _ (config : Config) (keys : List Bytes) where
  asked_first : (k : Bytes) (op : Op) (entry : Option Bytes) → IsAmong (clear_ops keys) (k, op) → first_asked config op entry ≡ Nobody
  asked_first k op entry among = ap (λ o. first_asked config o entry) (cleared keys k op among) ∙ nobody config entry

  abbrev Loads : Bytes → Type 0
  Loads key = (op : Op) × (entry : Option Bytes) × IsAmong (clear_ops keys) (key, op) × (asks_loader (first_asked config op entry) ≡ true)

  abbrev Wants : Bytes × Option Change → Type 0
  Wants c = (op : Op) × (entry : Option Bytes) × IsAmong (clear_ops keys) (c.0, op) × (c.1 ≡ change_asked (first_asked config op entry))

  abbrev Runs : KeyRun → Type 0
  Runs run = (op : Op) × (entry : Option Bytes) × IsAmong (clear_ops keys) (run.key, op) × (asks_processor (first_asked config op entry) ≡ true) × IsShown (first_asked config op entry) run

  none_asked : (r : Round) → AsksFor config (clear_ops keys) r → keys_asked r ≡ []
  none_asked (LoadAll r) asks = none_of Loads (λ k. Unit {0}) r.keys asks (any r.keys) (λ k h also. true≢false (sym h.3 ∙ ap asks_loader (asked_first k h.0 h.1 h.2)))
  none_asked (WriteAll r) asks =
      ap (map (λ (c : Bytes × Option Change). c.0))
      (none_of Wants (λ c. c.1 ≡ None → ⊥) (changes_of r.batch) asks (changed r.batch) (λ c h some. some (h.3 ∙ ap change_asked (asked_first c.0 h.0 h.1 h.2))))
  none_asked (ProcessAll r) asks =
      ap (map (λ (run : KeyRun). run.key)) (none_of Runs (λ run. Unit {0}) r.runs asks (any r.runs) (λ run h also. true≢false (sym h.3 ∙ ap asks_processor (asked_first run.key h.0 h.1 h.2))))

  pub none_outside : (rounds : List Round) → AsksEachOnce config (clear_ops keys) rounds → rounds ≡ []
  none_outside [] asked = refl
  none_outside (r ∷ rounds) asked =
      absurd (All-head (λ (x : Round). keys_asked x ≡ [] → ⊥) r rounds asked.some (none_asked r (All-head (AsksFor config (clear_ops keys)) r rounds asked.each)))

-- 2. The call.

module _ {I J : Type 0} {D : I → Type 0} {E : J → Type 0} (behavior : BulkBehavior ((i : I) × D i) ((j : J) × E j)) where
  quiet : (cache : CacheState) (old mid new : Session I J D E) (keys : List Bytes) (ends : List KeyEnd) (cause : Option Refusal) → OnlyLooks old mid
      → IsBulkCall behavior cache mid (clear_ops keys) ends cause new → new.agent.hands.outside ≡ old.agent.hands.outside
  quiet cache old mid new keys ends cause looks call =
      subst (λ rs. CallsInRounds behavior mid.agent.hands.outside rs new.agent.hands.outside) (none_outside cache.config keys call.rounds call.carried.asked) call.asked.calls ∙ ap (λ a. a.hands.outside) looks.agent

  pub quiet_sweep : (cache : CacheState) (old new : Session I J D E) (result : Result (Unit {0}) BulkFault)
      → SweepsAll cache.config.stripes (λ looked keys. DoesAll behavior cache looked (clear_ops keys)) old result new
      → new.agent.hands.outside ≡ old.agent.hands.outside
  quiet_sweep cache old new result (inl h) = quiet cache old h.1.looked new h.0 h.1.done.0 h.1.done.1 h.1.only h.1.done.2
  quiet_sweep cache old new result (inr h) = ap (λ a. a.hands.outside) h.1.agent

-- What an insertion leaves of the entries is what the order of use says.
use Rattle.std.proofs.Common.{◌≡◌, ◌≤◌, ◌==◌, ◌||◌, ◌&&◌, ℕ, List, ◌∷◌, length, Bool, true, false, cond, not, nat_lt, Option, Some, None, IsSome, is_some, is_none, refl, sym, ap, ◌∙◌, arith}
use Rattle.std.specs.Ordering.{eq_by_cmp}
use Rattle.std.specs.FinMap as finite
use Rattle.std.proofs.lemmas.Bool.Decides.{nat_tests}
use Rattle.std.proofs.lemmas.Cmp.{nat_list_eq_equiv}
use Rattle.jc_model.specs.declared.event.Op.{Op}
use Rattle.jc_model.specs.declared.event.Out.{Out}
use Rattle.jc_model.specs.declared.event.Cause.{Cause}
use Rattle.jc_model.specs.declared.event.Cause.TheVariants.{Full, Memory, Invalidated}
use Rattle.jc_model.specs.Cache.{Bytes, key_cmp}
use Rattle.jc_model.specs.Listed.{others, with_entry_first}
use Rattle.jc_model.specs.Table.{entry_after}
use Rattle.jc_model.proofs.CallerLemmas.{find-others}
use Rattle.jc_entries.specs.ByUse.{ByUse, lru_victim, after_eviction}
use Rattle.jc_entries.specs.Inserting.{has_room_for, InsertsAfterEviction, FindsAllPinned, FindsNoMemory, Inserts}
use Rattle.jc_entries.specs.declared.entries.Inserted.TheVariants.{NotKept}
use Rattle.jc_entries.proofs.CallerLemmas.{others-missing}
use Rattle.jc_stripe.specs.OrderOfUse.{is_use, used_at}
use Rattle.jc_stripe.specs.Phases.{own_cause}
use Rattle.jc_stripe.specs.Appending.{AppliesStep, inserts_into, overflows_in, victim_in, entries_after}
use Rattle.std.proofs.lemmas.Bool.{and_right, or_parts}
use Rattle.jc_types.proofs.CallerLemmas.{none_from}

-- a step that uses an entry and leaves this one, of a list that is not too long
pub record Uses (old : ByUse) (key value : Bytes) (op : Op) (out : Out) : Type 0 where
  pub few : length old.list ≤ old.capacity
  pub is_use : is_use op out ≡ true
  pub entry : entry_after op (finite.find key_cmp key old.list) out ≡ Some value

pub none_both : (b : Bool) → cond {A = Option Bytes} b None None ≡ None
none_both true = refl
none_both false = refl

-- a key that is missing is missing after the victim's eviction
missing_without : (victim : Option Bytes) (key : Bytes) (entries : List (Bytes × Bytes)) → finite.find key_cmp key entries ≡ None → finite.find key_cmp key (after_eviction victim entries) ≡ None
missing_without None key entries h = h
missing_without (Some v) key entries h = find-others v entries key ∙ ap (cond (eq_by_cmp key_cmp key v) None) h ∙ none_both (eq_by_cmp key_cmp key v)

-- the step's entry is in front of the others, of which none has its key
used_new : (entries : List (Bytes × Bytes)) (key value : Bytes) (op : Op) (out : Out) → is_use op out ≡ true → finite.find key_cmp key entries ≡ None → entry_after op None out ≡ Some value → used_at entries key op out ≡ (key, value) ∷ entries
used_new entries key value op out is_used missing entry =
    ap (λ b. cond b (with_entry_first key (entry_after op (finite.find key_cmp key entries) out) entries) entries) is_used
    ∙ ap (λ o. with_entry_first key (entry_after op o out) entries) missing
    ∙ ap (λ o. with_entry_first key o entries) entry
    ∙ ap (λ es. (key, value) ∷ es) (others-missing key entries missing)

others_front : (key value : Bytes) (entries : List (Bytes × Bytes)) → finite.find key_cmp key entries ≡ None → others key ((key, value) ∷ entries) ≡ entries
others_front key value entries missing = ap (λ b. cond (not b) ((key, value) ∷ others key entries) (others key entries)) (nat_list_eq_equiv.refl key) ∙ others-missing key entries missing

is_full : (n capacity : ℕ) → n ≤ capacity → nat_lt n capacity ≡ false → (n == capacity) ≡ true
is_full n capacity few h = grind (arith, nat_tests)

not_full : (n capacity : ℕ) → nat_lt n capacity ≡ true → (n == capacity) ≡ false
not_full n capacity h = grind (arith, nat_tests)

-- what is known where there is no place
pub record IsCrowded (old : ByUse) (key : Bytes) (op : Op) (out : Out) : Type 0 where
  pub missing : finite.find key_cmp key old.list ≡ None
  pub inserts : inserts_into old.list key op out ≡ true
  pub full : overflows_in old key op out ≡ true

inserts_new : (entries : List (Bytes × Bytes)) (key value : Bytes) (op : Op) (out : Out) → finite.find key_cmp key entries ≡ None → entry_after op (finite.find key_cmp key entries) out ≡ Some value → inserts_into entries key op out ≡ true
inserts_new entries key value op out missing entry = ap (λ o. is_none o && is_some (entry_after op (finite.find key_cmp key entries) out)) missing ∙ ap is_some entry

crowded : (old : ByUse) (key value : Bytes) (op : Op) (out : Out) → Uses old key value op out → has_room_for key old ≡ false → IsCrowded old key op out
crowded old key value op out uses h =
    let parts = or_parts (is_some (finite.find key_cmp key old.list)) (nat_lt (length old.list) old.capacity) h in
    let missing = none_from (finite.find key_cmp key old.list) parts.0 in
    let inserts = inserts_new old.list key value op out missing uses.entry in
    record {
      missing = missing;
      inserts = inserts;
      full = ap (λ b. b && (length old.list == old.capacity)) inserts ∙ is_full (length old.list) old.capacity uses.few parts.1;
    }

-- the entry of a missing key
entry_new : (old : ByUse) (key value : Bytes) (op : Op) (out : Out) → finite.find key_cmp key old.list ≡ None → Uses old key value op out → entry_after op None out ≡ Some value
entry_new old key value op out missing uses = ap (λ o. entry_after op o out) (sym missing) ∙ uses.entry

-- another entry went for it
pub kept_after : (old new : ByUse) (key value : Bytes) (pinned : List Bytes) (victim : Bytes) (op : Op) (out : Out) → Uses old key value op out → InsertsAfterEviction old new key value pinned victim
    → AppliesStep old pinned key op out (Some victim) None new
kept_after old new key value pinned victim op out uses h =
    let known = crowded old key value op out uses h.no_room in
    let victim_is : victim_in old pinned key op out ≡ Some victim = ap (λ b. cond b (lru_victim old.list pinned) None) known.full ∙ h.victim_is in
    let missing = missing_without (Some victim) key old.list known.missing in
    record {
      short = false;
      victim_is = sym victim_is;
      evicted_is = sym ((λ i. own_cause (known.inserts i) (known.full i) (is_some (victim_is i)) false));
      left = h.after ∙ ap (λ es. record old { list = es }) (sym (used_new (others victim old.list) key value op out uses.is_use missing (entry_new old key value op out known.missing uses)));
    }

-- nobody could go, or an allocation for it failed
goes_again : (old : ByUse) (key value : Bytes) (victim : Option Bytes) (cause : Cause) (op : Op) (out : Out) → Uses old key value op out → finite.find key_cmp key old.list ≡ None
    → entries_after old.list key op out victim (Some cause) ≡ after_eviction victim old.list
goes_again old key value victim cause op out uses missing =
    let away = missing_without victim key old.list missing in
    ap (others key) (used_new (after_eviction victim old.list) key value op out uses.is_use away (entry_new old key value op out missing uses))
    ∙ others_front key value (after_eviction victim old.list) away

pinned_out : (old new : ByUse) (key value : Bytes) (pinned : List Bytes) (evicted : Option Bytes) (op : Op) (out : Out) → Uses old key value op out → FindsAllPinned old new key pinned evicted
    → AppliesStep old pinned key op out evicted (Some Full) new
pinned_out old new key value pinned evicted op out uses h =
    let known = crowded old key value op out uses h.no_room in
    let victim_is : victim_in old pinned key op out ≡ None = ap (λ b. cond b (lru_victim old.list pinned) None) known.full ∙ h.no_victim in
    record {
      short = false;
      victim_is = h.nobody ∙ sym victim_is;
      evicted_is = sym ((λ i. own_cause (known.inserts i) (known.full i) (is_some (victim_is i)) false));
      left = h.after ∙ ap (λ es. record old { list = es }) (sym (goes_again old key value evicted Full op out uses known.missing ∙ ap (λ v. after_eviction v old.list) h.nobody));
    }

-- whether there was a place, and who went
record Short (old : ByUse) (key : Bytes) (pinned : List Bytes) (evicted : Option Bytes) (op : Op) (out : Out) : Type 0 where
  victim : victim_in old pinned key op out ≡ evicted
  cause : own_cause (inserts_into old.list key op out) (overflows_in old key op out) (is_some (victim_in old pinned key op out)) true ≡ Some Memory

short_memory : (old : ByUse) (key value : Bytes) (pinned : List Bytes) (evicted : Option Bytes) (op : Op) (out : Out) (place : Bool) → Uses old key value op out → finite.find key_cmp key old.list ≡ None
    → has_room_for key old ≡ place → evicted ≡ cond place None (lru_victim old.list pinned) → (place ≡ false → IsSome evicted) → Short old key pinned evicted op out
short_memory old key value pinned evicted op out true uses missing place is some =
    let roomy : nat_lt (length old.list) old.capacity ≡ true = ap (λ o. is_some o || nat_lt (length old.list) old.capacity) (sym missing) ∙ place in
    let inserts = inserts_new old.list key value op out missing uses.entry in
    let full : overflows_in old key op out ≡ false = ap (λ b. b && (length old.list == old.capacity)) inserts ∙ not_full (length old.list) old.capacity roomy in
    let victim_is : victim_in old pinned key op out ≡ None = ap (λ b. cond b (lru_victim old.list pinned) None) full in
    record { victim = victim_is ∙ sym is; cause = λ i. own_cause (inserts i) (full i) (is_some (victim_is i)) true }
short_memory old key value pinned evicted op out false uses missing place is some =
    let known = crowded old key value op out uses place in
    let victim_is : victim_in old pinned key op out ≡ evicted = ap (λ b. cond b (lru_victim old.list pinned) None) known.full ∙ sym is in
    record { victim = victim_is; cause = (λ i. own_cause (known.inserts i) (known.full i) (is_some (victim_is i)) true) ∙ gone evicted (some refl) }
  where
    gone : (o : Option Bytes) → IsSome o → own_cause true true (is_some o) true ≡ Some Memory
    gone None h = cc
    gone (Some x) h = refl

out_of_memory : (old new : ByUse) (key value : Bytes) (pinned : List Bytes) (evicted : Option Bytes) (op : Op) (out : Out) → Uses old key value op out → FindsNoMemory old new key pinned evicted
    → AppliesStep old pinned key op out evicted (Some Memory) new
out_of_memory old new key value pinned evicted op out uses h =
    let known = short_memory old key value pinned evicted op out (has_room_for key old) uses h.is_new refl h.victim_is h.not_all_pinned in
    record {
      short = true;
      victim_is = sym known.victim;
      evicted_is = sym known.cause;
      left = h.after ∙ ap (λ es. record old { list = es }) (sym (goes_again old key value evicted Memory op out uses h.is_new));
    }

pub not_kept : (old new : ByUse) (key value : Bytes) (pinned : List Bytes) (cause : Cause) (evicted : Option Bytes) (op : Op) (out : Out) → Uses old key value op out → Inserts old new key value pinned (NotKept cause evicted)
    → AppliesStep old pinned key op out evicted (Some cause) new
not_kept old new key value pinned Full evicted op out uses h = pinned_out old new key value pinned evicted op out uses h
not_kept old new key value pinned Memory evicted op out uses h = out_of_memory old new key value pinned evicted op out uses h
not_kept old new key value pinned Invalidated evicted op out uses h = absurd h

-- a test that was made
pub use_is : {A : Type 0} (fault fault_is : Option A) (used used_is : Bool) → fault ≡ fault_is → used ≡ used_is → is_some fault ≡ false → used ≡ true → (is_none fault_is && used_is) ≡ true
use_is fault fault_is used used_is f u g h = ap (λ o. is_none o && used_is) (sym f) ∙ ap (λ b. not b && used_is) g ∙ sym u ∙ h

-- it leaves no entry, where there was none
pub kept_none : (old : ByUse) (key : Bytes) (pinned : List Bytes) (op : Op) (out : Out) → is_use op out ≡ true → finite.find key_cmp key old.list ≡ None → entry_after op (finite.find key_cmp key old.list) out ≡ None
    → AppliesStep old pinned key op out None None old
kept_none old key pinned op out is_used missing entry =
    let none_in : inserts_into old.list key op out ≡ false = ap (λ o. is_none (finite.find key_cmp key old.list) && is_some o) entry ∙ and_right (is_none (finite.find key_cmp key old.list)) false refl in
    record {
      short = false;
      victim_is = sym (ap (λ b. cond (b && (length old.list == old.capacity)) (lru_victim old.list pinned) None) none_in);
      evicted_is = sym (ap (λ b. own_cause b (overflows_in old key op out) (is_some (victim_in old pinned key op out)) false) none_in);
      left = ap (λ es. record old { list = es })
          (sym (ap (λ b. cond b (with_entry_first key (entry_after op (finite.find key_cmp key old.list) out) old.list) old.list) is_used ∙ ap (λ o. with_entry_first key o old.list) entry ∙ others-missing key old.list missing));
    }

-- A run of lawful groups continues by one more, and the group of a step is lawful.
use Rattle.std.proofs.Common.{◌≡◌, ◌≤◌, ◌+◌, ◌==◌, ◌&&◌, ◌-◌, ℕ, List, [], ◌∷◌, ◌++◌, length, Bool, true, false, cond, not, IsTrue, Option, None, Some, is_none, is_some, refl, sym, ap, ◌∙◌, arith, append_assoc, append-nil, add-zero}
use Rattle.std.specs.Cmp.Lexicographic.{pointwise, texts_ties}
use Rattle.std.specs.Ordering.{eq_by_cmp}
use Rattle.std.specs.Cmp.{eq_by_cmp_equiv}
use Rattle.std.proofs.lemmas.Bool.Decides.{nat_tests}
use Rattle.std.proofs.lemmas.List.{length-append}
use Rattle.std.proofs.lemmas.Cmp.{nat_list_cmp_total}
use Rattle.std.specs.FinMap.{insert, remove, len, len-insert, len-remove, contains_key, get-remove}
use Rattle.std.proofs.lemmas.Bool.{and_parts}
use Rattle.jc_types.specs.declared.config.Config.{Config}
use Rattle.jc_model.specs.declared.event.Cause.{Cause}
use Rattle.jc_model.specs.declared.event.Cause.TheVariants.{Full, Memory}
use Rattle.jc_model.specs.declared.event.Op.{Op}
use Rattle.jc_model.specs.declared.event.Out.{Out}
use Rattle.jc_model.specs.Cache.{Bytes, Cache, key_cmp, entry_at, with_entry}
use Rattle.jc_model.specs.Table.{entry_after, reply_after, answers_fit, is_load_given}
use Rattle.jc_model.specs.Group.{Group, events_of, history_of, cache_after_group, without_own, Part, part_events, cache_after_part, cache_after_parts}
use Rattle.jc_model.specs.Group as group
use Rattle.jc_model.specs.Lawful.{IsLawful, IsLawfulPart, AreLawful, evicted_fits, victim_fits, inserts, joined_fits, loads_whole}
use Rattle.jc_model.proofs.CallerLemmas.{same_cache, none_is, same_key, get-with_entry, insert-remove}
use Rattle.jc_entries.proofs.CallerLemmas.{lru_victim-found}
use Rattle.jc_stripe.specs.State.{State}
use Rattle.jc_stripe.specs.OrderOfUse.{by_use, least_used, pinned}
use Rattle.jc_stripe.specs.Phases.{new_group, inserts_here, overflows, own_cause}
use Rattle.jc_stripe.specs.Reached.{IsUsed}
use Rattle.jc_stripe.proofs.Used.{find-entry, same-entry}
use Rattle.jc_stripe.specs.Phases as phases
use Rattle.jc_types.specs.declared.caller.Caller.{Caller}
use Rattle.jc_stripe.proofs.Keeping.{none_both}

-- 1. A history of parts, and one more.

pub history-push : (place : ℕ) (parts : List Part) (p : Part) → history_of place (parts ++ p ∷ []) ≡ history_of place parts ++ part_events (place + length (history_of place parts)) p
history-push place [] p = rw (append-nil, add-zero) refl
history-push place (x ∷ xs) p =
    ap (λ es. part_events place x ++ es) (history-push (place + length (part_events place x)) xs p)
    ∙ sym (append_assoc (part_events place x) _ _)
    ∙ ap (λ n. (part_events place x ++ history_of (place + length (part_events place x)) xs) ++ part_events n p)
    (omega (arith, length-append (part_events place x) (history_of (place + length (part_events place x)) xs)))

pub lawful-push : (config : Config) (cache : Cache) (parts : List Part) (p : Part) → AreLawful config cache parts → IsLawfulPart config (cache_after_parts cache parts) p → AreLawful config cache (parts ++ p ∷ [])
lawful-push config cache [] p all one = (one, tt)
lawful-push config cache (x ∷ xs) p all one = (all.0, lawful-push config (cache_after_part cache x) xs p all.1 one)

pub cache_after-push : (cache : Cache) (parts : List Part) (p : Part) → cache_after_parts cache (parts ++ p ∷ []) ≡ cache_after_part (cache_after_parts cache parts) p
cache_after-push cache [] p = refl
cache_after-push cache (x ∷ xs) p = cache_after-push (cache_after_part cache x) xs p

-- 2. How many entries there are.

unchanged : (b : Bool) (o x : Option Bytes) → (b ≡ true → x ≡ None) → cond b None (cond b o x) ≡ x
unchanged true o x h = sym (h refl)
unchanged false o x h = refl

-- an entry that goes as soon as it came leaves the cache as it was
pub come_and_gone : (cache : Cache) (key : Bytes) (entry : Option Bytes) → entry_at cache key ≡ None → remove (with_entry cache key entry) key ≡ cache
come_and_gone cache key entry h = same_cache _ _ (λ q.
    get-remove nat_list_cmp_total (with_entry cache key entry) key q
    ∙ ap (cond (eq_by_cmp key_cmp q key) None) (get-with_entry cache key entry q)
    ∙ unchanged (eq_by_cmp key_cmp q key) entry (entry_at cache q) (λ t. ap (entry_at cache) (same_key q key t) ∙ h))

-- after a change of one entry
len-with_entry : (cache : Cache) (capacity : ℕ) (key : Bytes) (entry : Option Bytes) → len cache ≤ capacity → (is_none (entry_at cache key) && is_some entry && (len cache == capacity)) ≡ false → len (with_entry cache key entry) ≤ capacity
len-with_entry cache capacity key None few h =
    let e = len-remove nat_list_cmp_total cache key in
    elim (contains_key cache key) as (λ b. len (remove cache key) ≡ cond b (len cache - 1) (len cache) → len (remove cache key) ≤ capacity) [ true ↦ λ e. omega arith | false ↦ λ e. omega arith ] e
len-with_entry cache capacity key (Some value) few h =
    let e = len-insert nat_list_cmp_total cache key value in
    elim (entry_at cache key) as (λ o. len (insert cache key value) ≡ cond (is_some o) (len cache) (len cache + 1) → (is_none o && true && (len cache == capacity)) ≡ false → len (insert cache key value) ≤ capacity) [
      | None ↦ λ e h. grind (arith, nat_tests)
      | Some x ↦ λ e h. omega arith
    ] e h

-- one less without an entry that is there
len-removed : (cache : Cache) (key : Bytes) → is_some (entry_at cache key) ≡ true → len (remove cache key) + 1 ≡ len cache
len-removed cache key there =
    let e = len-remove nat_list_cmp_total cache key in
    let f : len (remove cache key) ≡ len cache - 1 = e ∙ ap (λ b. cond b (len cache - 1) (len cache)) there in
    let some = some_len cache key there in
    omega arith
  where
    some_len : (cache : Cache) (key : Bytes) → is_some (entry_at cache key) ≡ true → 1 ≤ len cache
    some_len cache key there = some_entry (entry_at cache key) refl there
      where
        some_entry : (o : Option Bytes) → entry_at cache key ≡ o → is_some o ≡ true → 1 ≤ len cache
        some_entry None h t = cc
        some_entry (Some value) h t =
            let e = len-insert nat_list_cmp_total (remove cache key) key value in
            let gone : entry_at (remove cache key) key ≡ None = get-remove nat_list_cmp_total cache key key ∙ ap (λ b. cond b None (entry_at cache key)) ((eq_by_cmp_equiv nat_list_cmp_total).refl key) in
            let same : insert (remove cache key) key value ≡ cache = insert-remove cache key value ∙ same-entry cache key (Some value) (sym h) in
            let n : len cache ≡ len (remove cache key) + 1 = ap len (sym same) ∙ e ∙ ap (λ (o : Option Bytes). cond (is_some o) (len (remove cache key)) (len (remove cache key) + 1)) gone in
            omega arith

-- 3. The victim of a step.

-- the key that has to go is cached, and nobody has it reserved
pub least_used-there : (m : State) (v : Bytes) → IsUsed m → least_used m ≡ Some v → is_some (entry_at m.cache v) ≡ true
least_used-there m v used h =
    ap (λ c. is_some (entry_at c v)) used.cache
    ∙ ap is_some (sym (find-entry (by_use m.opening m.history) v))
    ∙ lru_victim-found (by_use m.opening m.history) (pinned m.reservations) v h

-- what is known of a step's victim
pub record IsVictim (m : State) (key : Bytes) (op : Op) (out : Out) (v : Bytes) : Type 0 where
  pub inserts : inserts_here m key op out ≡ true
  pub full : (len m.cache == m.config.capacity) ≡ true
  pub least : least_used m ≡ Some v
  pub there : is_some (entry_at m.cache v) ≡ true
  pub missing : entry_at m.cache key ≡ None

victim_if : (b : Bool) (o : Option Bytes) (v : Bytes) → cond b o None ≡ Some v → (b ≡ true) × (o ≡ Some v)
victim_if true o v h = (refl, h)
victim_if false o v h = cc

pub victim_known : (m : State) (key : Bytes) (op : Op) (out : Out) (v : Bytes) → IsUsed m → phases.victim m key op out ≡ Some v → IsVictim m key op out v
victim_known m key op out v used h =
    let known = victim_if (overflows m key op out) (least_used m) v h in
    let parts = and_parts (inserts_here m key op out) (len m.cache == m.config.capacity) known.0 in
    record {
      inserts = parts.0;
      full = parts.1;
      least = known.1;
      there = least_used-there m v used known.1;
      missing = none_is _ ((and_parts (is_none (entry_at m.cache key)) (is_some (entry_after op (entry_at m.cache key) out)) parts.0).0);
    }

-- the step's own entry is the same without its victim
pub own_entry : (m : State) (key : Bytes) (op : Op) (out : Out) (victim : Option Bytes) → IsUsed m → phases.victim m key op out ≡ victim → entry_at (group.without_victim m.cache victim) key ≡ entry_at m.cache key
own_entry m key op out None used h = refl
own_entry m key op out (Some v) used h =
    let known = victim_known m key op out v used h in
    get-remove nat_list_cmp_total m.cache v key ∙ ap (cond (eq_by_cmp key_cmp key v) None) known.missing ∙ none_both (eq_by_cmp key_cmp key v) ∙ sym known.missing

apart_keys : (b : Bool) (o : Option Bytes) → (b ≡ true → is_some o ≡ false) → is_some o ≡ true → not b ≡ true
apart_keys true o h there = let t = h refl in cc
apart_keys false o h there = refl

-- the victim is another key
pub victim_apart : (m : State) (key : Bytes) (op : Op) (out : Out) (v : Bytes) → IsVictim m key op out v → not (pointwise ◌==◌ v key) ≡ true
victim_apart m key op out v known =
    apart_keys (pointwise ◌==◌ v key) (entry_at m.cache v) (λ e. ap (λ k. is_some (entry_at m.cache k)) (same_key v key (sym (texts_ties v key) ∙ e)) ∙ ap is_some known.missing) known.there

-- 4. The group of a step is lawful.

all_four : (a b c d : Bool) → a ≡ true → b ≡ true → c ≡ true → d ≡ true → (a && b && c && d) ≡ true
all_four true b c d e f g h = all_three b c d f g h
  where
    all_three : (b c d : Bool) → b ≡ true → c ≡ true → d ≡ true → (b && c && d) ≡ true
    all_three true true d f g h = h
    all_three true false d f g h = cc
    all_three false c d f g h = cc
all_four false b c d e f g h = cc

-- whether the step inserts, as the group has it
inserts_so : (m : State) (caller : Caller) (key : Bytes) (op : Op) (out : Out) (callers : List Caller) (short : Bool) → IsUsed m
    → inserts m.cache (new_group m caller key op out callers short) ≡ inserts_here m key op out
inserts_so m caller key op out callers short used = ap (λ o. is_none o && is_some (entry_after op o out)) (own_entry m key op out _ used refl)

victim_fits_so : (m : State) (caller : Caller) (key : Bytes) (op : Op) (out : Out) (callers : List Caller) (short : Bool) (victim : Option Bytes) → IsUsed m → phases.victim m key op out ≡ victim
    → victim_fits m.config m.cache (new_group m caller key op out callers short) victim ≡ true
victim_fits_so m caller key op out callers short None used h = refl
victim_fits_so m caller key op out callers short (Some v) used h =
    let known = victim_known m key op out v used h in
    all_four _ _ _ _ known.full known.there (victim_apart m key op out v known) (inserts_so m caller key op out callers short used ∙ known.inserts)

-- what a step must be for others to share its load, unless nobody does
abbrev pub MayShare : State → Bytes → Op → Out → List Caller → Type 0
MayShare m key op out [] = Unit {0}
MayShare m key op out (c ∷ cs) = (m.config.read_through ≡ true) × (loads_whole op ≡ true) × (entry_at m.cache key ≡ None) × (is_load_given out.load ≡ true)

joined_so : (m : State) (caller : Caller) (key : Bytes) (op : Op) (out : Out) (all : List Caller) (short : Bool) (callers : List Caller) → IsUsed m → MayShare m key op out callers
    → joined_fits m.config m.cache (new_group m caller key op out all short) callers ≡ true
joined_so m caller key op out all short [] used may = refl
joined_so m caller key op out all short (c ∷ cs) used may = all_four _ _ _ _ may.0 may.1 (ap is_none (own_entry m key op out _ used refl ∙ may.2)) may.3

-- its own key may go again
evicted_so : (m : State) (caller : Caller) (key : Bytes) (op : Op) (out : Out) (callers : List Caller) (short : Bool) (i f v : Bool) → IsUsed m
    → inserts_here m key op out ≡ i → overflows m key op out ≡ f → is_some (phases.victim m key op out) ≡ v → evicted_fits m.config m.cache (new_group m caller key op out callers short) (own_cause i f v short) ≡ true
evicted_so m caller key op out callers short false f v used hi hf hv = refl
evicted_so m caller key op out callers short true true false used hi hf hv =
    let full = (and_parts (inserts_here m key op out) (len m.cache == m.config.capacity) hf).1 in
    all_three _ _ _ (inserts_so m caller key op out callers short used ∙ hi) full (nobody (phases.victim m key op out) hv)
  where
    all_three : (a b c : Bool) → a ≡ true → b ≡ true → c ≡ true → (a && b && c) ≡ true
    all_three true true c d e h = h
    all_three true false c d e h = cc
    all_three false b c d e h = cc

    nobody : (o : Option Bytes) → is_some o ≡ false → is_none o ≡ true
    nobody None h = refl
    nobody (Some x) h = cc
evicted_so m caller key op out callers true true true true used hi hf hv = inserts_so m caller key op out callers true used ∙ hi
evicted_so m caller key op out callers false true true true used hi hf hv = refl
evicted_so m caller key op out callers true true false v used hi hf hv = inserts_so m caller key op out callers true used ∙ hi
evicted_so m caller key op out callers false true false v used hi hf hv = refl

-- what came and goes leaves as many as there were
len-went : (base : Cache) (capacity : ℕ) (key : Bytes) (entry : Option Bytes) (cause : Cause) → len base ≤ capacity → entry_at base key ≡ None → len (without_own (with_entry base key entry) key (Some cause)) ≤ capacity
len-went base capacity key entry cause few missing = rw (come_and_gone base key entry missing) few

not_full : (n capacity : ℕ) (a b : Bool) → n + 1 ≤ capacity → (a && b && (n == capacity)) ≡ false
not_full n capacity false b h = refl
not_full n capacity true false h = refl
not_full n capacity true true h = grind (arith, nat_tests)

-- how many entries there are behind the group
within_so : (m : State) (key : Bytes) (op : Op) (out : Out) (short : Bool) (victim : Option Bytes) (i f v : Bool) → IsUsed m → len m.cache ≤ m.config.capacity
    → phases.victim m key op out ≡ victim → inserts_here m key op out ≡ i → overflows m key op out ≡ f → is_some victim ≡ v
    → len (without_own (with_entry (group.without_victim m.cache victim) key (entry_after op (entry_at m.cache key) out)) key (own_cause i f v short)) ≤ m.config.capacity
within_so m key op out short None false f v used few hv hi hf hs = len-with_entry m.cache m.config.capacity key _ few (ap (λ b. b && (len m.cache == m.config.capacity)) hi)
within_so m key op out true None true false v used few hv hi hf hs = len-went m.cache m.config.capacity key _ Memory few (none_is _ ((and_parts (is_none (entry_at m.cache key)) _ hi).0))
within_so m key op out false None true false v used few hv hi hf hs = len-with_entry m.cache m.config.capacity key _ few hf
within_so m key op out short None true true false used few hv hi hf hs = len-went m.cache m.config.capacity key _ Full few (none_is _ ((and_parts (is_none (entry_at m.cache key)) _ hi).0))
within_so m key op out short None true true true used few hv hi hf hs = cc
within_so m key op out short (Some x) i f false used few hv hi hf hs = cc
within_so m key op out short (Some x) false f true used few hv hi hf hs = let known = victim_known m key op out x used hv in let t : false ≡ true = sym hi ∙ known.inserts in cc
within_so m key op out short (Some x) true false true used few hv hi hf hs = let known = victim_known m key op out x used hv in let t : false ≡ true = sym hf ∙ over known.inserts known.full in cc
  where
    over : inserts_here m key op out ≡ true → (len m.cache == m.config.capacity) ≡ true → overflows m key op out ≡ true
    over a b = ap (λ t. t && (len m.cache == m.config.capacity)) a ∙ b
within_so m key op out true (Some x) true true true used few hv hi hf hs =
    let known = victim_known m key op out x used hv in
    let less = len-removed m.cache x known.there in
    len-went (remove m.cache x) m.config.capacity key _ Memory (omega arith) (own_entry m key op out (Some x) used hv ∙ known.missing)
within_so m key op out false (Some x) true true true used few hv hi hf hs =
    let known = victim_known m key op out x used hv in
    let less = len-removed m.cache x known.there in
    len-with_entry (remove m.cache x) m.config.capacity key _ (omega arith) (not_full (len (remove m.cache x)) m.config.capacity (is_none (entry_at (remove m.cache x) key)) (is_some (entry_after op (entry_at m.cache key) out)) (omega arith))

-- the group of a step whose answers fit is lawful
pub made_lawful : (m : State) (caller : Caller) (key : Bytes) (op : Op) (out : Out) (callers : List Caller) (short : Bool) → IsUsed m → len m.cache ≤ m.config.capacity
    → IsTrue (answers_fit m.config op (entry_at m.cache key) out) → MayShare m key op out callers → IsLawful m.config m.cache (new_group m caller key op out callers short)
made_lawful m caller key op out callers short used few answers may =
    let g = new_group m caller key op out callers short in
    let own = own_entry m key op out (phases.victim m key op out) used refl in
    record {
      step = record {
        seq = record {
          answers = ap (λ o. answers_fit m.config op o out) own ∙ answers;
          reply = ap (λ o. reply_after op o out) (sym own);
          left = refl;
        };
        victim = victim_fits_so m caller key op out callers short (phases.victim m key op out) used refl;
      };
      joined = joined_so m caller key op out callers short callers used may;
      evicted = evicted_so m caller key op out callers short _ _ _ used refl refl refl;
      within = rw own (within_so m key op out short (phases.victim m key op out) _ _ _ used few refl refl refl refl);
    }

-- A get that finds its entry.
--     hit_applies     to move the entry to the front is what its step makes of the entries
--     hit_refusal     it is not refused, if the history has a place free, no number is at its end, and the key isn't barred
--     hit_asks        it asks nobody
--     touched_none    what has no value was not found
--     touched_front   the value in front, after a touch of a key that has an entry, is the key's
use Rattle.std.proofs.Common.{◌≡◌, ◌==◌, ◌||◌, ◌&&◌, List, ◌∷◌, length, Bool, true, false, not, Option, Some, None, is_some, is_none, nat_le, refl, sym, ap, ◌∙◌, if◌then◌else◌}
use Rattle.std.specs.Option.{option_map_or}
use Rattle.std.specs.FinMap as finite
use Rattle.jc_types.specs.declared.caller.Caller.{Caller}
use Rattle.jc_types.specs.declared.limits.TheConstants.{HIT_PLACES, RESERVATIONS_MAX, JOINERS_MAX}
use Rattle.jc_types.specs.declared.refusal.Refusal.{Refusal}
use Rattle.jc_types.specs.declared.refusal.Refusal.TheVariants as refusal
use Rattle.jc_model.specs.declared.event.Op.TheVariants.{Get}
use Rattle.jc_model.specs.Cache.{Bytes, key_cmp, entry_at}
use Rattle.jc_model.specs.Listed.{others, with_entry_first}
use Rattle.jc_model.specs.Table.{entry_after}
use Rattle.jc_model.specs.Group.{nothing_said}
use Rattle.jc_entries.specs.ByUse.{ByUse, after_touch, lru_victim}
use Rattle.jc_entries.specs.MostRecent.{most_recent}
use Rattle.jc_stripe.specs.declared.ticket.First.TheVariants.{Nobody}
use Rattle.jc_stripe.specs.State.{State, is_reserved, is_barred, reservation_of}
use Rattle.jc_stripe.specs.Refusals.{answers_at_once, first_asked, first_refusal, full_refusal, has_room, may_hit, load_at, load_joined, needs_free_key, needs_reservation, places_needed, reserves}
use Rattle.jc_stripe.specs.OrderOfUse.{used_at}
use Rattle.jc_stripe.specs.Phases.{own_cause}
use Rattle.jc_stripe.specs.Appending.{AppliesStep}
use Rattle.jc_stripe.proofs.Refusing.{answering_asks}
use Rattle.std.proofs.lemmas.Bool.{and_right, and_parts, not-true}

pub hit_applies : (old new : ByUse) (keys : List Bytes) (key value : Bytes) → finite.find key_cmp key old.list ≡ Some value → new ≡ record old { list = after_touch key old.list } → AppliesStep old keys key Get nothing_said None None new
hit_applies old new keys key value found after =
    let touched : after_touch key old.list ≡ (key, value) ∷ others key old.list = ap (λ o. option_map_or (λ v. (key, v) ∷ others key old.list) o old.list) found in
    let used : used_at old.list key Get nothing_said ≡ (key, value) ∷ others key old.list = ap (λ o. with_entry_first key (entry_after Get o nothing_said) old.list) found in
    record {
      short = false;
      victim_is = sym (ap (λ o. if (is_none o && is_some (entry_after Get o nothing_said)) && (length old.list == old.capacity) then lru_victim old.list keys else None) found);
      evicted_is = sym (ap (λ o. own_cause (is_none o && is_some (entry_after Get o nothing_said)) ((is_none o && is_some (entry_after Get o nothing_said)) && (length old.list == old.capacity))
          (is_some (if (is_none o && is_some (entry_after Get o nothing_said)) && (length old.list == old.capacity) then lru_victim old.list keys else None)) false) found);
      left = after ∙ ap (λ es. record old { list = es }) (touched ∙ sym used);
    }

passes : (state : State) (key value : Bytes) → entry_at state.cache key ≡ Some value → answers_at_once state.config Get (entry_at state.cache key) ≡ true
passes state key value found = ap (λ o. is_some o || not state.config.read_through) found

pub hit_asks : (state : State) (key value : Bytes) → entry_at state.cache key ≡ Some value → first_asked state.config Get (entry_at state.cache key) ≡ Nobody
hit_asks state key value found = answering_asks state.config Get (entry_at state.cache key) (passes state key value found)

none_of : {A : Type 0} (b : Bool) (o : Option A) → b ≡ false → is_some (if b then o else None) ≡ false
none_of true o h = cc
none_of false o h = refl

-- none of the conditions holds
unrefused : (why : Refusal) (room busy needs full joins crowded : Bool) → room ≡ true → busy ≡ false → needs ≡ false → joins ≡ false
    → (if not room then Some why else (if busy then Some refusal.Busy else (if needs && full then Some refusal.TooManyInFlight else (if joins && crowded then Some refusal.TooManyJoiners else None)))) ≡ None
unrefused why true false false full false crowded a b c d = refl
unrefused why true false false full true crowded a b c d = cc
unrefused why true false true full joins crowded a b c d = cc
unrefused why true true needs full joins crowded a b c d = cc
unrefused why false busy needs full joins crowded a b c d = cc

idle : (marked there free : Bool) → marked ≡ false → free ≡ false → (marked || (there && free)) ≡ false
idle true there free a b = cc
idle false true free a b = b
idle false false free a b = refl

pub hit_refusal : (state : State) (caller : Caller) (key value : Bytes) → entry_at state.cache key ≡ Some value → may_hit state caller.call key ≡ true → first_refusal state caller key Get ≡ None
hit_refusal state caller key value found may =
    let parts = and_parts (has_room state caller.call HIT_PLACES) (not (is_barred state key)) may in
    let pass = passes state key value found in
    let free : needs_free_key state key Get ≡ false = ap (λ b. not (b || is_some (load_joined state key Get))) pass in
    let places : has_room state caller.call (places_needed (needs_free_key state key Get)) ≡ true = ap (λ b. has_room state caller.call (places_needed b)) free ∙ parts.0 in
    let needs : needs_reservation state key Get ≡ false = ap (λ f. reserves f && is_none (load_joined state key Get)) (hit_asks state key value found) in
    let joins : is_some (load_joined state key Get) ≡ false =
    none_of _ (load_at (reservation_of state key)) (ap (λ o. state.config.read_through && is_none o) found ∙ and_right state.config.read_through false refl) in
    unrefused (full_refusal state caller.call) (has_room state caller.call (places_needed (needs_free_key state key Get))) (is_barred state key || (is_reserved state key && needs_free_key state key Get)) (needs_reservation state key Get)
    (nat_le RESERVATIONS_MAX (length state.reservations)) (is_some (load_joined state key Get)) (nat_le JOINERS_MAX (length state.joiners)) places (idle (is_barred state key) (is_reserved state key) (needs_free_key state key Get) (not-true (is_barred state key) parts.1) free) needs joins

pub touched_none : (found : Option Bytes) → is_some found ≡ false → found ≡ None
touched_none None h = refl
touched_none (Some value) h = cc

pub touched_front : (key : Bytes) (found : Option Bytes) (list rest : List (Bytes × Bytes)) (value : Bytes) → is_some found ≡ true
    → most_recent (option_map_or (λ v. (key, v) ∷ rest) found list) ≡ Some value → found ≡ Some value
touched_front key None list rest value h front = cc
touched_front key (Some v) list rest value h front = front

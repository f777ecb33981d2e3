-- What a reopening leaves.
--     cached_reopened     each key has the entry that it had, or none if it is dropped
--     coherent_opened     if the world is coherent as told, so is its opening
--     stored_opened       and if it is coherent, all that it opens with is the store's
--     is_reopened         the whole
use Rattle.jc_world.proofs.Common.{◌≡◌, ℕ, zero, suc, Bool, true, false, cond, List, [], ◌∷◌, slice_get, Some, None, IfSome, is_none, is_some, ◌&&◌, ◌||◌, sym, refl, ap, ◌∙◌, subst, inl, inr, and_parts, and_from, nat_list_eq_equiv, list_all, nat_list_cmp_total, get-empty, get-from_entries, stripe_of, Config, Bytes, Cache, entry_at, key_cmp, State, Shown, WorldEvent, Happens, Step, fits, stripes_reopened, after_reopening, holds, is_stored, is_as_told, opens, opens_coherent, opens_as_told, Coherent, CoherentAsTold, has_progress, has_changed, IsOpeningWorld, is_dropped, IsReopenedWorld, IsSoundWorld, WorldState, entry_in, cached_entry, none_is, is_untold, has_any}
use Rattle.std.specs.FinMap as map
use Rattle.jc_world.specs.Reopening.{foreign_reopened}
use Rattle.jc_model.specs.Listed.{has_distinct_keys}
use Rattle.jc_stripe.specs.Reopening.{all_entries, kept}
use Rattle.jc_world.proofs.DroppedKeys.{found_kept, found_in_all}
use Rattle.jc_world.proofs.Lemmas.{split, tied}
use Rattle.jc_world.proofs.Opened.{sound_opening}
use Rattle.jc_world.proofs.Places.{home_stripe}
use Rattle.jc_world.proofs.Reopening.{reopened_at, reopened_opens, entries_once, passed_reopened}

-- 1. What is cached.

-- what a stripe of the new shape caches
entry_kept : (config : Config) (w : WorldState) (n : ℕ) (s : State) (key : Bytes) → slice_get (stripes_reopened config w) n ≡ Some s → entry_at s.cache key ≡ map.find key_cmp key (kept config n (all_entries w.stripes))
entry_kept config w n s key here =
    ap (λ (t : State). entry_at t.cache key) (reopened_at config w n s here) ∙ get-from_entries nat_list_cmp_total (kept config n (all_entries w.stripes)) key

cached_reopened : (config : Config) (w : WorldState) (key : Bytes) → IsSoundWorld w → IsOpeningWorld (after_reopening config w) → cached_entry (after_reopening config w) key ≡ cond (is_dropped config w key) None (cached_entry w key)
cached_reopened config w key old opens =
    let entries = all_entries w.stripes in
    let n = stripe_of key config.stripes in
    let at = home_stripe (after_reopening config w) key (sound_opening (after_reopening config w) opens).shape in
    ap (λ o. entry_in o key) at.1
    ∙ entry_kept config w n at.0 key at.1
    ∙ found_kept config key entries (entries_once w old)
    ∙ ap (cond (is_dropped config w key) None) (found_in_all w key old.shape)

-- 2. Whether the opening is coherent.

-- each entry of a list without a key twice is found there
found_there : (entries : List (Bytes × Bytes)) (i : ℕ) (e : Bytes × Bytes) → has_distinct_keys entries ≡ true → slice_get entries i ≡ Some e → map.find key_cmp e.0 entries ≡ Some e.1
found_there [] i e once h = cc
found_there (x ∷ xs) zero e once h =
    let is : x ≡ e = cc in
    subst (λ (y : Bytes × Bytes). map.find key_cmp y.0 (x ∷ xs) ≡ Some y.1) is (ap (λ b. cond b (Some x.1) (map.find key_cmp x.0 xs)) (tied x.0))
found_there (x ∷ xs) (suc i) e once h =
    let parts = and_parts (is_none (map.find key_cmp x.0 xs)) (has_distinct_keys xs) once in
    let found = found_there xs i e parts.1 h in
    split e.0 x.0 (λ b. cond b (Some x.1) (map.find key_cmp e.0 xs) ≡ Some e.1)
    (λ same. absurd (let t : None ≡ Some e.1 = sym (none_is (map.find key_cmp x.0 xs) parts.0) ∙ ap (λ k. map.find key_cmp k xs) (sym same) ∙ found in cc))
    (λ apart. found)

-- what is so at each place is so of all
all_at : {A : Type 0} (p : A → Bool) (xs : List A) → ((i : ℕ) (x : A) → slice_get xs i ≡ Some x → p x ≡ true) → list_all p xs ≡ true
all_at p [] each = refl
all_at p (x ∷ xs) each = and_from (p x) (list_all p xs) (each 0 x refl) (all_at p xs (λ i y h. each (suc i) y h))

-- a value that the store has
is_there : (store : Cache) (e : Bytes × Bytes) → entry_at store e.0 ≡ Some e.1 → is_stored store e ≡ true
is_there store e is = ap (λ o. holds o e.1) is ∙ nat_list_eq_equiv.refl e.1

-- a key that nobody else had written is one that nobody else has written
none_reopened : (m : Cache) (key : Bytes) (stored : Bool) → is_some (entry_at m key) ≡ false → is_some (entry_at (foreign_reopened m stored) key) ≡ false
none_reopened m key true h = ap is_some (get-empty key_cmp key)
none_reopened m key false h = h

-- an entry is the store's if nobody else had written its key
as_told : (config : Config) (w : WorldState) (e : Bytes × Bytes) → cached_entry (after_reopening config w) e.0 ≡ Some e.1 → CoherentAsTold (after_reopening config w) → is_as_told w.foreign w.store e ≡ true
as_told config w e cached coherent =
    let new : WorldState = after_reopening config w in
    elim (is_some (entry_at w.foreign e.0)) as (λ b. is_some (entry_at w.foreign e.0) ≡ b → (b || is_stored w.store e) ≡ true) [
      | true ↦ λ is. refl
      | false ↦ λ is.
          let told : is_untold new e.0 ≡ false = ap (λ b. b && has_any new e.0) (none_reopened w.foreign e.0 (opens_coherent w.store (stripes_reopened config w)) is) in
          is_there w.store e (subst (λ o. IfSome o (λ value. entry_at w.store e.0 ≡ Some value)) cached (coherent e.0 told (ap (has_progress has_changed) (get-empty key_cmp e.0))))
    ] refl

-- an opening passes a test that all that is cached passes
opened_passes : (test : Bytes × Bytes → Bool) (config : Config) (w : WorldState) → IsOpeningWorld (after_reopening config w)
    → ((e : Bytes × Bytes) → cached_entry (after_reopening config w) e.0 ≡ Some e.1 → test e ≡ true) → opens test (stripes_reopened config w) ≡ true
opened_passes test config w begins each =
    let new : WorldState = after_reopening config w in
    let sound = sound_opening new begins in
    sym (passed_reopened test config w)
    ∙ all_at test (all_entries new.stripes) (λ i e there.
    let cached : cached_entry new e.0 ≡ Some e.1 = sym (found_in_all new e.0 sound.shape) ∙ found_there (all_entries new.stripes) i e (entries_once new sound) there in
    each e cached)

coherent_opened : (config : Config) (w : WorldState) → IsOpeningWorld (after_reopening config w) → CoherentAsTold (after_reopening config w) → opens_as_told w.foreign w.store (stripes_reopened config w) ≡ true
coherent_opened config w begins coherent = opened_passes (is_as_told w.foreign w.store) config w begins (λ e cached. as_told config w e cached coherent)

-- an entry of a coherent world is the store's
as_stored : (config : Config) (w : WorldState) (e : Bytes × Bytes) → cached_entry (after_reopening config w) e.0 ≡ Some e.1 → Coherent (after_reopening config w) → is_stored w.store e ≡ true
as_stored config w e cached coherent =
    is_there w.store e (subst (λ o. IfSome o (λ value. entry_at w.store e.0 ≡ Some value)) cached (coherent e.0 (ap (has_progress has_changed) (get-empty key_cmp e.0))))

pub stored_opened : (config : Config) (w : WorldState) → IsOpeningWorld (after_reopening config w) → Coherent (after_reopening config w) → opens_coherent w.store (stripes_reopened config w) ≡ true
stored_opened config w begins coherent = opened_passes (is_stored w.store) config w begins (λ e cached. as_stored config w e cached coherent)

-- 3. The law.

reopened_now : (w : WorldState) (config : Config) (s : Shown) (new : WorldState) → IsSoundWorld w → fits w (WorldEvent.Reopen config) ≡ true → Happens w (WorldEvent.Reopen config) s new → IsReopenedWorld config w s new
reopened_now w config s new old fit (shows, is) =
    let opens = reopened_opens w config old fit in
    let left : WorldState = after_reopening config w in
    subst (IsReopenedWorld config w s) (sym is)
    (record {
      opens = opens;
      config_is = refl;
      store_is = refl;
      last_is = refl;
      kept_are = λ n stripe here. ap (λ (t : State). t.opening) (reopened_at config w n stripe here);
      dropped_are = ap (λ (s : Shown). s.outcome) shows;
      entries_are = λ key. cached_reopened config w key old opens;
      premises = (
        λ hold. ((and_parts config.write_through (opens_as_told w.foreign w.store (stripes_reopened config w)) hold).0, opens.coherent hold),
        λ both. and_from config.write_through (opens_as_told w.foreign w.store (stripes_reopened config w)) both.0 (coherent_opened config w opens both.1),
      );
    })

pub is_reopened : (w : WorldState) (config : Config) (s : Shown) (new : WorldState) → IsSoundWorld w → fits w (WorldEvent.Reopen config) ≡ true → Step w (WorldEvent.Reopen config) s new → IsReopenedWorld config w s new
is_reopened w config s new old fit (inl (fit_now, happens)) = reopened_now w config s new old fit happens
is_reopened w config s new old fit (inr (unfit, shows, is)) = absurd (let t : true ≡ false = sym fit ∙ unfit in cc)

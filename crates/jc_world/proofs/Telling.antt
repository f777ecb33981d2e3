-- A key that is told stays told until somebody else writes it, or somebody lies about it.
--     told_step, told_run    over an event, and over a run that doesn't open the cache again
--     run_of_true            such a run is one
--     coherent_run           and what is cached for the key then is the store's
use Rattle.jc_world.proofs.Common.{Change, ◌≡◌, Bool, true, false, cond, ◌&&◌, ◌||◌, List, [], ◌∷◌, is_some, is_none, slice_get, slice_set, Some, None, Option, option_map, sym, refl, ap, ◌∙◌, subst, inl, inr, and_right, or_parts, texts_ties, nat_list_cmp_total, eq_by_cmp, get, insert, remove, get-insert, get-remove, get-with_entry, WriterFailed, Bytes, Cache, entry_at, with_entry, key_cmp, callers_of, after_commit, Steps, State, Part, Shown, WorldEvent, Happens, Step, Run, fits, reopens, is_reopening, with_settled, with_phase, with_stripe, new_part, with_new_part, with_join, without_join, without_part, with_met_by, step_of, fault_in, read_answer, load_from, run_result, after_answer, after_change, after_report, after_process, report_for, keys_reported, reported_now, out_of_part, Agrees, IsSoundWorld, Parts, WorldState, home, stripe_for, entry_in, cached_entry, has_any, is_foreign, is_untold, with_foreign, without_foreign, with_doubt, is_misled, has_progress, is_agreed, with_commit, and_parts, IsCoherentAt, all_hold}
use Rattle.jc_world.specs.Told.{is_foreign_write, is_misled_at, RunsTrueTo}
use Rattle.jc_world.proofs.Lemmas.{at_stripe, split, tied, each_report, KeyChange, by_nothing, by_refusal, by_step, by_reservation, by_join, by_commit, by_withdrawal, by_mark, by_answer, by_retry, key_change, KeyEvent, plain, dropping, end_event, invalid_event, Move, no_move, quiet_move, loud_move, reopening_move, move_step, Drop, with_dropped, dropped_none}
use Rattle.jc_stripe.specs.Invalidating.{without_entry}
use Rattle.jc_world.proofs.Holding.{is_part}
use Rattle.jc_world.proofs.Kept.{agrees_begun, agrees_other, held_at, coherent}
use Rattle.jc_world.proofs.Cleared.{nothing_agrees}
use Rattle.jc_world.proofs.Reopening.{left_false}
use Rattle.jc_world.proofs.Sounding.{Laws, sound_run, sound_step}

-- 1. Small facts.

gone : {A : Type 0} (o : Option A) → is_some o ≡ false → o ≡ None
gone None h = refl
gone (Some x) h = absurd (let t : true ≡ false = h in cc)

-- a key that others haven't written is none of those that they have, if a key is forgotten
still_none : (m : Cache) (key q : Bytes) (over : Bool) → is_some (entry_at m q) ≡ false → is_some (entry_at (without_foreign m key over) q) ≡ false
still_none m key q false h = h
still_none m key q true h =
    ap is_some (get-with_entry m key None q)
    ∙ split q key (λ b. is_some (cond b None (entry_at m q)) ≡ false) (λ same. refl) (λ apart. h)

-- nor if another key is written
other_none : (m : Cache) (key q : Bytes) → eq_by_cmp key_cmp q key ≡ false → is_some (entry_at m q) ≡ false → is_some (entry_at (with_foreign m key) q) ≡ false
other_none m key q apart h = go (is_some (entry_at m key))
  where
    go : (b : Bool) → is_some (entry_at (cond b m (with_entry m key (Some []))) q) ≡ false
    go true = h
    go false = ap is_some (get-with_entry m key (Some []) q ∙ ap (λ b. cond b (Some []) (entry_at m q)) apart) ∙ h

-- nor if somebody lies about another key
no_doubt : (m : Cache) (key q : Bytes) (misled : Bool) → eq_by_cmp key_cmp q key ≡ false → is_some (entry_at m q) ≡ false → is_some (entry_at (with_doubt m key misled) q) ≡ false
no_doubt m key q true apart h = other_none m key q apart h
no_doubt m key q false apart h = h

-- and if nobody lies about the key
undoubted : (m : Cache) (key : Bytes) (misled : Bool) → misled ≡ false → is_some (entry_at m key) ≡ false → is_some (entry_at (with_doubt m key misled) key) ≡ false
undoubted m key misled honest h = ap (λ b. is_some (entry_at (with_doubt m key b) key)) honest ∙ h

-- a key that is forgotten is none of them
forgotten : (m : Cache) (key : Bytes) → is_some (entry_at (without_foreign m key true) key) ≡ false
forgotten m key = ap is_some (get-with_entry m key None key ∙ ap (λ b. cond b None (entry_at m key)) (tied key))

-- a part stays
part_kept : (parts : Parts) (key q : Bytes) (was new : Part) → get parts key ≡ Some was → is_some (get (insert parts key new) q) ≡ is_some (get parts q)
part_kept parts key q was new there =
    ap is_some (get-insert nat_list_cmp_total parts key new q)
    ∙ split q key (λ b. is_some (cond b (Some new) (get parts q)) ≡ is_some (get parts q)) (λ same. sym (ap is_some (ap (get parts) same ∙ there))) (λ apart. refl)

-- and none comes if one is taken away
part_gone : (parts : Parts) (key q : Bytes) → get parts q ≡ None → get (remove parts key) q ≡ None
part_gone parts key q none = get-remove nat_list_cmp_total parts key q ∙ split q key (λ b. cond b None (get parts q) ≡ None) (λ same. refl) (λ apart. none)

-- 2. A key stays told.

abbrev ToldAt : Bytes → WorldState → Type 0
ToldAt q w = is_untold w q ≡ false

-- if nobody has written it, and if nothing of it is new
stays : (w n : WorldState) (q : Bytes) → (is_foreign w q ≡ false → is_foreign n q ≡ false) → (has_any w q ≡ false → has_any n q ≡ false) → ToldAt q w → ToldAt q n
stays w n q quiet old told =
    elim (is_foreign w q) as (λ b. is_foreign w q ≡ b → (b && has_any w q) ≡ false → (is_foreign n q && has_any n q) ≡ false) [
      | true ↦ λ is t. ap (λ b. is_foreign n q && b) (old t) ∙ and_right (is_foreign n q) false refl
      | false ↦ λ is t. ap (λ b. b && has_any n q) (quiet is)
    ] refl told

-- nothing of it is new if no entry is, and no part
none_new : (w n : WorldState) (q : Bytes) → (cached_entry w q ≡ None → cached_entry n q ≡ None) → (get w.parts q ≡ None → get n.parts q ≡ None) → has_any w q ≡ false → has_any n q ≡ false
none_new w n q entry part h =
    let none = or_parts (is_some (cached_entry w q)) (is_some (get w.parts q)) h in
    let e = entry (gone (cached_entry w q) none.0) in
    let p = part (gone (get w.parts q) none.1) in
    λ i. is_some (e i) || is_some (p i)

-- a part stays, with the entry
parted : (w n : WorldState) (q key : Bytes) (was new : Part) → get w.parts key ≡ Some was → (is_foreign w q ≡ false → is_foreign n q ≡ false) → cached_entry n q ≡ cached_entry w q → n.parts ≡ insert w.parts key new → ToldAt q w → ToldAt q n
parted w n q key was new there quiet entry parts told =
    stays w n q quiet
    (λ h. (λ i. is_some (entry i) || is_some (get (parts i) q)) ∙ ap (λ b. is_some (cached_entry w q) || b) (part_kept w.parts key q was new there) ∙ h) told

-- a key that has a part is written by nobody else if it is told
held_told : (w : WorldState) (key : Bytes) (part : Part) → get w.parts key ≡ Some part → ToldAt key w → is_foreign w key ≡ false
held_told w key part there told =
    left_false (is_foreign w key) (has_any w key) (ap (λ (o : Option Part). is_some (cached_entry w key) || is_some o) there ∙ or_true (is_some (cached_entry w key))) told
  where
    or_true : (b : Bool) → (b || true) ≡ true
    or_true true = refl
    or_true false = refl

-- a key that is reserved is told then, if it was, or had no entry
newly : (w m : WorldState) (key : Bytes) → m.foreign ≡ without_foreign w.foreign key (is_none (cached_entry w key)) → ToldAt key w → ToldAt key m
newly w m key foreign told = go (cached_entry w key) refl
  where
    go : (o : Option Bytes) → cached_entry w key ≡ o → ToldAt key m
    go None is =
        ap (λ b. b && has_any m key) (ap (λ f. is_some (entry_at f key)) (foreign ∙ ap (λ (o : Option Bytes). without_foreign w.foreign key (is_none o)) is) ∙ forgotten w.foreign key)
    go (Some value) is =
        ap (λ b. b && has_any m key)
        (ap (λ f. is_some (entry_at f key)) (foreign ∙ ap (λ (o : Option Bytes). without_foreign w.foreign key (is_none o)) is)
        ∙ left_false (is_foreign w key) (has_any w key) (ap (λ (o : Option Bytes). is_some o || is_some (get w.parts key)) is) told)

-- no entry comes to a stripe, if none does at the stripe of a key
set_none : (w : WorldState) (key q : Bytes) (from to : State) → stripe_for w key ≡ Some from → (entry_at from.cache q ≡ None → entry_at to.cache q ≡ None) → cached_entry w q ≡ None → entry_in (slice_get (slice_set w.stripes (home w key) to) (home w q)) q ≡ None
set_none w key q from to at on = at_stripe w.stripes (home w key) (home w q) from to (λ o x. entry_in o q ≡ None → entry_in x q ≡ None) at on (λ h. h)

-- none agrees with nothing
none_agrees : (o : Option Bytes) → o ≡ None → Agrees o None
none_agrees o none = subst (λ o. Agrees o None) (sym none) tt

-- 3. Each event.

-- by the kind of the change at a key
told_key : (w new : WorldState) (e : WorldEvent) (key q : Bytes) (seen : Shown) → KeyChange w new e key seen → w.config.write_through ≡ true → is_misled_at w q ≡ false → IsSoundWorld w → ToldAt q w → ToldAt q new
told_key w new e key q seen (by_nothing is none ends) on true_to old told = subst (ToldAt q) (sym is) told
told_key w new e key q seen (by_refusal u op refusal may is none ends) on true_to old told = subst (ToldAt q) (sym is) told
told_key w new e key q seen (by_step u op from to x may there h home_is is shows ends) on true_to old told =
    let m : WorldState = with_settled (with_phase w key from to) u.caller.call key (fault_in x.reply) in
    let config = (old.shape.each (home w key) from there).config_is in
    subst (ToldAt q) (sym is)
    (stays w m q (λ f. f)
    (none_new w m q
    (set_none w key q from to there (λ none. nothing_agrees (entry_at to.cache q) (agrees_begun u.caller key op from to (step_of x) q None h (ap (λ c. c.write_through) config ∙ on) (none_agrees (entry_at from.cache q) none))))
    (λ p. p)) told)
told_key w new e key q seen (by_reservation u op from to p r may there h is none ends) on true_to old told =
    let m : WorldState = with_new_part w key to p r in
    subst (ToldAt q) (sym is)
    (split q key (λ b. ToldAt q m)
    (λ same. let Q : Bytes → Type 0 = λ k. ToldAt k w → ToldAt k m in subst Q (sym same) (newly w m key refl) told)
    (λ apart. stays w m q (still_none w.foreign key q (is_none (cached_entry w key)))
    (none_new w m q
    (set_none w key q from to there (λ none. ap (λ (s : State). entry_at s.cache q) h.after ∙ none))
    (λ none. get-insert nat_list_cmp_total w.parts key (new_part p r) q ∙ ap (λ b. cond b (Some (new_part p r)) (get w.parts q)) apart ∙ none)) told))
told_key w new e key q seen (by_join u op from to join may there h is none ends) on true_to old told =
    let m : WorldState = with_join (with_stripe w key to) join in
    subst (ToldAt q) (sym is) (stays w m q (λ f. f) (none_new w m q (set_none w key q from to there (λ none. ap (λ (s : State). entry_at s.cache q) h.3 ∙ none)) (λ p. p)) told)
told_key w new e key q seen (by_commit call part from to x e_is part_is there h home_is is shows) on true_to old told =
    let m : WorldState = with_commit w key part from to call (fault_in x.reply) in
    let has : get w.parts key ≡ Some part = is_part (get w.parts key) call part part_is in
    let r = part.reservation in
    let S : Bytes → Type 0 = λ k. Steps (after_commit from r (step_of x).place) r.caller k r.op (out_of_part part) (callers_of r.number from.joiners) (step_of x) to in
    let steps = subst S (held_at w key part from has there old).key_is h.1 in
    subst (ToldAt q) (sym is)
    (split q key (λ b. ToldAt q m)
    (λ same.
    let Q : Bytes → Type 0 = λ k. is_misled_at w k ≡ false → ToldAt k w → ToldAt k m in
    subst Q (sym same)
    (λ honest told.
    let misled : is_misled part ≡ false = sym (ap (has_progress is_misled) has) ∙ honest in
    ap (λ b. b && has_any m key)
    (still_none (with_doubt w.foreign key (is_misled part)) key key (is_agreed (entry_at to.cache key) (entry_at w.store key)) (undoubted w.foreign key (is_misled part) misled (held_told w key part has told))))
    true_to told)
    (λ apart. stays w m q
    (λ f. still_none (with_doubt w.foreign key (is_misled part)) key q (is_agreed (entry_at to.cache key) (entry_at w.store key)) (no_doubt w.foreign key q (is_misled part) apart f))
    (none_new w m q
    (set_none w key q from to there (λ none. nothing_agrees (entry_at to.cache q) (agrees_other key part from to (step_of x) q None steps apart (none_agrees (entry_at from.cache q) none))))
    (part_gone w.parts key q)) told))
told_key w new e key q seen (by_withdrawal call part from to e_is part_is there h is shows) on true_to old told =
    let m : WorldState = without_part (with_stripe w key to) key in
    subst (ToldAt q) (sym is) (stays w m q (λ f. f) (none_new w m q (set_none w key q from to there (λ none. ap (λ (s : State). entry_at s.cache q) h.1 ∙ none)) (part_gone w.parts key q)) told)
told_key w new e key q seen (by_mark from to there out h reached is none ends) on true_to old told =
    let m : WorldState = with_stripe w key to in
    subst (ToldAt q) (sym is) (stays w m q (λ f. f) (none_new w m q (set_none w key q from to there (λ none. ap (λ (s : State). entry_at s.cache q) h ∙ none)) (λ p. p)) told)
told_key w new e key q seen (by_answer call join from to x e_is join_is there h home_is is shows ends) on true_to old told =
    let m : WorldState = with_settled (without_join (with_stripe w key to) call key) call key (fault_in x.reply) in
    subst (ToldAt q) (sym is) (stays w m q (λ f. f) (none_new w m q (set_none w key q from to there (λ none. ap (λ (s : State). entry_at s.cache q) h.3 ∙ none)) (λ p. p)) told)
told_key w new e key q seen (by_retry call join from to e_is join_is there h is shows ends) on true_to old told =
    let m : WorldState = without_join (with_stripe w key to) call key in
    subst (ToldAt q) (sym is) (stays w m q (λ f. f) (none_new w m q (set_none w key q from to there (λ none. ap (λ (s : State). entry_at s.cache q) h.2 ∙ none)) (λ p. p)) told)

-- the eviction of an invalidated key
told_dropped : (w mid new : WorldState) (key q : Bytes) → Drop w mid new key → ToldAt q mid → ToldAt q new
told_dropped w mid new key q d told =
    subst (ToldAt q) (sym d.is)
    (stays mid (with_dropped mid key d.from d.told) q (still_none mid.foreign key q d.told)
    (none_new mid (with_dropped mid key d.from d.told) q (set_none mid key q d.from (without_entry d.from key) d.there (dropped_none d.from key q)) (λ p. p)) told)

told_event : (w new : WorldState) (e : WorldEvent) (key q : Bytes) (seen : Shown) → KeyEvent w new e key seen → w.config.write_through ≡ true → is_misled_at w q ≡ false → IsSoundWorld w → ToldAt q w → ToldAt q new
told_event w new e key q seen (plain k) on true_to old told = told_key w new e key q seen k on true_to old told
told_event w new e key q seen (dropping mid shown k tells d end) on true_to old told = told_dropped w mid new key q d (told_key w mid e key q shown k on true_to old told)

told_happens : (w new : WorldState) (e : WorldEvent) (seen : Shown) (q : Bytes) → fits w e ≡ true → Happens w e seen new → is_reopening seen.outcome ≡ false → is_foreign_write q e ≡ false → w.config.write_through ≡ true → is_misled_at w q ≡ false → IsSoundWorld w → ToldAt q w → ToldAt q new
told_happens w new (WorldEvent.Call call session command) seen q fit h none apart on true_to old told = subst (ToldAt q) (sym h.1) told
told_happens w new (WorldEvent.Look call stripe) seen q fit h none apart on true_to old told = subst (ToldAt q) (sym h.9) told
told_happens w new (WorldEvent.Read call key) seen q fit h none apart on true_to old told =
    subst (ToldAt q) (sym h.3) (parted w (after_answer w key h.0 (read_answer (entry_at w.store key))) q key h.0 _ (is_part (get w.parts key) call h.0 h.1) (λ f. f) refl refl told)
told_happens w new (WorldEvent.Say call key answer) seen q fit h none apart on true_to old told =
    subst (ToldAt q) (sym h.3) (parted w (after_answer w key h.0 answer) q key h.0 _ (is_part (get w.parts key) call h.0 h.1) (λ f. f) refl refl told)
told_happens w new (WorldEvent.Change call key) seen q fit h none apart on true_to old told =
    subst (ToldAt q) (sym h.5) (parted w (after_change w key h.0 h.1) q key h.0 _ (is_part (get w.parts key) call h.0 h.2) (still_none w.foreign key q true) refl refl told)
told_happens w new (WorldEvent.Report call left fault) seen q fit h none apart on true_to old told =
    let answer = report_for h.0.kind left fault in
    subst (ToldAt q) (sym h.3)
    (each_report (ToldAt q) call answer (λ v key part at waits t. parted v (after_report v key part (answer key)) q key part _ (is_part (get v.parts key) call part at) (λ f. f) refl refl t)
    (with_met_by w call (option_map WriterFailed fault)) (keys_reported (reported_now w call h.0)) told)
told_happens w new (WorldEvent.Process call key source calls fail) seen q fit h none apart on true_to old told =
    subst (ToldAt q) (sym h.3)
    (parted w (after_process w key h.0 (run_result h.0.reservation (load_from source (entry_at w.store key)) calls fail)) q key h.0 _ (is_part (get w.parts key) call h.0 h.1) (λ f. f) refl refl told)
told_happens w new (WorldEvent.Leave call) seen q fit h none apart on true_to old told = subst (ToldAt q) (sym h.1) told
told_happens w new (WorldEvent.Foreign key value) seen q fit h none apart on true_to old told =
    let m : WorldState = record w { store = with_entry w.store key value; foreign = with_foreign w.foreign key; is_fresh = false } in
    subst (ToldAt q) (sym h.1) (stays w m q (other_none w.foreign key q (sym (texts_ties q key) ∙ apart)) (λ a. a) told)
told_happens w new (WorldEvent.Reopen config) seen q fit h none apart on true_to old told = let t : true ≡ false = ap (λ (s : Shown). is_reopening s.outcome) (sym h.0) ∙ none in cc
told_happens w new (WorldEvent.Start call key) seen q fit h none apart on true_to old told =
    let k = key_change w new (WorldEvent.Start call key) seen refl h in told_key w new (WorldEvent.Start call key) k.0 q seen k.1 on true_to old told
told_happens w new (WorldEvent.PickUp call key) seen q fit h none apart on true_to old told =
    let k = key_change w new (WorldEvent.PickUp call key) seen refl h in told_key w new (WorldEvent.PickUp call key) k.0 q seen k.1 on true_to old told
told_happens w new (WorldEvent.Invalidate key) seen q fit h none apart on true_to old told =
    let k = invalid_event w new key seen fit h in subst (ToldAt q) (sym k.2) (told_event w k.0 (WorldEvent.Invalidate key) key q seen k.1 on true_to old told)
told_happens w new e seen q fit h none apart on true_to old told = let k = end_event w new e seen refl fit h old in told_event w new e k.0 q seen k.1 on true_to old told

told_step : (w new : WorldState) (e : WorldEvent) (seen : Shown) (q : Bytes) → Step w e seen new → is_reopening seen.outcome ≡ false → is_foreign_write q e ≡ false → w.config.write_through ≡ true → is_misled_at w q ≡ false → IsSoundWorld w → ToldAt q w → ToldAt q new
told_step w new e seen q (inl (fit, happens)) none apart on true_to old told = told_happens w new e seen q fit happens none apart on true_to old told
told_step w new e seen q (inr (unfit, shows, is)) none apart on true_to old told = subst (ToldAt q) (sym is) told

-- 4. A run.

-- the configuration stays
config_stays : (w new : WorldState) (e : WorldEvent) (seen : Shown) → Step w e seen new → is_reopening seen.outcome ≡ false → new.config ≡ w.config
config_stays w new e seen step none = go (move_step w new e seen step)
  where
    go : Move w new seen.outcome → new.config ≡ w.config
    go (no_move config stripes order) = config
    go (quiet_move key from to there config stripes order cache) = config
    go (loud_move more config order changes) = config
    go (reopening_move reopens) = let t : true ≡ false = sym reopens ∙ none in cc

pub config_run : (w new : WorldState) (es : List WorldEvent) (ss : List Shown) → Run w es ss new → reopens ss ≡ false → new.config ≡ w.config
config_run w new [] [] run none = ap (λ (v : WorldState). v.config) run
config_run w new (e ∷ es) (s ∷ ss) (mid, step, rest) none =
    let parts = or_parts (is_reopening s.outcome) (reopens ss) none in
    config_run mid new es ss rest parts.1 ∙ config_stays w mid e s step parts.0
config_run w new es ss run none = absurd run

-- a run in which nobody else writes the key, and nobody lies about it
pub run_of_true : (w new : WorldState) (es : List WorldEvent) (ss : List Shown) (q : Bytes) → RunsTrueTo q w es ss new → Run w es ss new
run_of_true w new [] [] q run = run
run_of_true w new (e ∷ es) (s ∷ ss) q (mid, step, apart, honest, rest) = (mid, step, run_of_true mid new es ss q rest)
run_of_true w new es ss q run = absurd run

pub told_run : Laws → (w new : WorldState) (es : List WorldEvent) (ss : List Shown) (q : Bytes) → RunsTrueTo q w es ss new → reopens ss ≡ false → w.config.write_through ≡ true → is_misled_at w q ≡ false → IsSoundWorld w → ToldAt q w → ToldAt q new
told_run laws w new [] [] q run none on true_to old told = subst (ToldAt q) (sym run) told
told_run laws w new (e ∷ es) (s ∷ ss) q (mid, step, apart, honest, rest) none on true_to old told =
    let parts = or_parts (is_reopening s.outcome) (reopens ss) none in
    told_run laws mid new es ss q rest parts.1 (ap (λ c. c.write_through) (config_stays w mid e s step parts.0) ∙ on) honest (sound_step laws w e s mid step old)
    (told_step w mid e s q step parts.0 apart on true_to old told)
told_run laws w new es ss q run none on true_to old told = absurd run

-- what is cached for such a key is the store's
pub coherent_run : Laws → (w new : WorldState) (es : List WorldEvent) (ss : List Shown) (q : Bytes) → IsSoundWorld w → is_misled_at w q ≡ false → ToldAt q w → RunsTrueTo q w es ss new → reopens ss ≡ false → all_hold new ≡ true → IsCoherentAt new q
coherent_run laws w new es ss q sound honest told true_to none hold =
    let run = run_of_true w new es ss q true_to in
    let on = ap (λ c. c.write_through) (sym (config_run w new es ss run none)) ∙ (and_parts new.config.write_through new.premises.opening hold).0 in
    coherent new (sound_run laws w new es ss run sound) hold q (told_run laws w new es ss q true_to none on honest sound told)

-- Worlds that are alike show the same of an event, and are alike behind it.
use Rattle.std.proofs.Common.{◌≡◌, ℕ, zero, suc, List, [], ◌∷◌, ◌++◌, map, Bool, true, false, Option, None, Some, is_none, nat_lt, option_map, slice_get, slice_set, if◌then◌else◌, sym, refl, ap, ◌∙◌, subst, inl, inr}
use Rattle.jc_world.proofs.Common.{Again, Change, Joins, Stepped, entries, keys_of, Caller, Config, WriterFailed, Op, Event, WriteAnswer, Bytes, entry_at, with_entry, by_use, AreKeys, State, JoinClaim, Played, WorldEvent, Outcome, Shown, Part, new_call, WorldState, start, home, part_of, out_of_part, waits_for_report, read_answer, report_for, load_from, opens_coherent, opens_as_told, with_foreign, without_foreign, with_doubt, is_misled, is_agreed, Refusal, entry_in, PartProgress, Reservation, fits}
use Rattle.std.specs.List.Sorted.{IsPermutation}
use Rattle.jc_stripe.specs.Reopening.{all_entries}
use Rattle.jc_stripe.specs.Outcomes as begun
use Rattle.jc_stripe.specs.Polled as polled
use Rattle.jc_stripe.specs.Reopening.{dropped, opened_stripes}
use Rattle.jc_world.specs.declared.event.WorldEvent.TheVariants as event
use Rattle.jc_world.specs.declared.event.Outcome.TheVariants as outcome
use Rattle.jc_world.specs.Events.{Happens, StartsAs, EndsAs, Picks, eviction_place, invalidated_as, with_call, with_look, after_answer, after_change, after_process, run_result, after_report, after_reports, reported_at, with_met_by, keys_reported, reported_now, with_stripe, with_phase, with_settled, fault_in, new_progress, with_new_part, with_join, without_part, with_commit, without_join, without_call, over_by, step_of, not_over}
use Rattle.jc_world.specs.Runs.{Step, Run}
use Rattle.jc_world.specs.Reopening.{foreign_reopened, after_reopening}
use Rattle.jc_world.specs.Alike.{IsLike, AreLike, WorldsAlike}
use Rattle.jc_world.proofs.Facts.{none_some, some_back}
use Rattle.jc_world.proofs.AlikeStripes.{begins-like, ends-like, gives_back-like, invalidates-like, may-like, picks-like, like-refl}
use Rattle.jc_world.specs.Fits.{may_invalidate}
use Rattle.jc_stripe.specs.State.{is_reserved}
use Rattle.jc_world.specs.declared.event.EvictionPlace.{EvictionPlace}

-- 1. Stripes, one by one.

pub are_like-refl : (ss : List State) → AreLike ss ss
are_like-refl [] = tt
are_like-refl (s ∷ ss) = (like-refl s, are_like-refl ss)

like-at : (ss ts : List State) (i : ℕ) (a : State) → AreLike ss ts → slice_get ss i ≡ Some a → (b : State) × (slice_get ts i ≡ Some b) × IsLike a b
like-at [] [] i a h at = absurd (none_some refl at)
like-at [] (t ∷ ts) i a h at = absurd h
like-at (s ∷ ss) [] i a h at = absurd h
like-at (s ∷ ss) (t ∷ ts) zero a h at = (t, refl, subst (λ (x : State). IsLike x t) (some_back s a at) h.0)
like-at (s ∷ ss) (t ∷ ts) (suc i) a h at = like-at ss ts i a h.1 at

like-set : (ss ts : List State) (i : ℕ) (a b : State) → AreLike ss ts → IsLike a b → AreLike (slice_set ss i a) (slice_set ts i b)
like-set [] [] i a b h one = tt
like-set [] (t ∷ ts) i a b h one = absurd h
like-set (s ∷ ss) [] i a b h one = absurd h
like-set (s ∷ ss) (t ∷ ts) zero a b h one = (one, h.1)
like-set (s ∷ ss) (t ∷ ts) (suc i) a b h one = (h.0, like-set ss ts i a b h.1 one)

like-entries : (ss ts : List State) → AreLike ss ts → all_entries ts ≡ all_entries ss
like-entries [] [] h = refl
like-entries [] (t ∷ ts) h = absurd h
like-entries (s ∷ ss) [] h = absurd h
like-entries (s ∷ ss) (t ∷ ts) h =
    ap (λ (es : List (Bytes × Bytes)). es ++ all_entries ts) h.0.order ∙ ap (λ (es : List (Bytes × Bytes)). by_use s.opening s.history ++ es) (like-entries ss ts h.1)

-- 2. Worlds.

abbrev pub with_past : WorldState → List State → List Event → WorldState
with_past w ss o = record w { stripes = ss; order = o }

pub worlds-refl : (w : WorldState) → WorldsAlike w w
worlds-refl w = record { is = refl; alike = are_like-refl w.stripes }

-- what is alike by its stripes
alike-as : (n x m : WorldState) → n ≡ x → m ≡ with_past x m.stripes m.order → AreLike x.stripes m.stripes → WorldsAlike n m
alike-as n x m is past like = subst (λ (y : WorldState). WorldsAlike y m) (sym is) (record { is = past; alike = like })

-- what is cached in alike stripes is the same
like-entry : (ss ts : List State) (i : ℕ) (key : Bytes) → AreLike ss ts → entry_in (slice_get ts i) key ≡ entry_in (slice_get ss i) key
like-entry [] [] i key h = refl
like-entry [] (t ∷ ts) i key h = absurd h
like-entry (s ∷ ss) [] i key h = absurd h
like-entry (s ∷ ss) (t ∷ ts) zero key h = ap (λ (x : State). entry_at x.cache key) h.0.is
like-entry (s ∷ ss) (t ∷ ts) (suc i) key h = like-entry ss ts i key h.1

-- 3. First phases, last phases and pick-ups.

-- so a reserved key is forgotten in both or in none
part-past : (w : WorldState) (ss : List State) (o : List Event) (key : Bytes) (to new : State) (p : PartProgress) (r : Reservation) → AreLike w.stripes ss
    → with_new_part (with_past w ss o) key new p r ≡ with_past (with_new_part w key to p r) (with_new_part (with_past w ss o) key new p r).stripes (with_new_part (with_past w ss o) key new p r).order
part-past w ss o key to new p r alike =
    let m : WorldState = with_new_part (with_past w ss o) key new p r in
    ap (λ (e : Option Bytes). record m { foreign = without_foreign w.foreign key (is_none e) }) (like-entry w.stripes ss (home w key) key alike)

starts-past : (w n : WorldState) (ss : List State) (o : List Event) (caller : Caller) (key : Bytes) (op : Op) (from to b : State) (x : Outcome)
    → AreLike w.stripes ss → IsLike from b → StartsAs w caller key op from to x n
    → (m : WorldState) × (new : State) × StartsAs (with_past w ss o) caller key op b new x m × WorldsAlike n m
starts-past w n ss o caller key op from to b (outcome.Refused r) alike like one =
    let made = begins-like from b to caller key op (begun.Refused r) like one.0 in
    let m : WorldState = with_settled (with_past w ss o) caller.call key (Some r) in
    (m, made.0, (made.1, refl), alike-as n (with_settled w caller.call key (Some r)) m one.1 refl alike)
starts-past w n ss o caller key op from to b (outcome.PutOff r) alike like one =
    let made = begins-like from b to caller key op (begun.Refused r) like one.0 in
    (with_past w ss o, made.0, (made.1, refl), alike-as n w (with_past w ss o) one.1 refl alike)
starts-past w n ss o caller key op from to b (outcome.Stepped seen) alike like one =
    let made = begins-like from b to caller key op (begun.Done (step_of seen)) like one.0 in
    let m : WorldState = with_settled (with_phase (with_past w ss o) key b made.0) caller.call key (fault_in seen.reply) in
    (m, made.0, (made.1, one.1, refl), alike-as n (with_settled (with_phase w key from to) caller.call key (fault_in seen.reply)) m one.2 refl (like-set w.stripes ss (home w key) to made.0 alike made.2))
starts-past w n ss o caller key op from to b outcome.Loads alike like one =
    let made = begins-like from b to caller key op (begun.Asks one.0) like one.1 in
    let m : WorldState = with_new_part (with_past w ss o) key made.0 (new_progress one.0.reservation.first) one.0.reservation in
    (m, made.0, (one.0, made.1, one.2, refl), alike-as n (with_new_part w key to (new_progress one.0.reservation.first) one.0.reservation) m one.3 (part-past w ss o key to made.0 (new_progress one.0.reservation.first) one.0.reservation alike) (like-set w.stripes ss (home w key) to made.0 alike made.2))
starts-past w n ss o caller key op from to b (outcome.Asks change) alike like one =
    let made = begins-like from b to caller key op (begun.Asks one.0) like one.1 in
    let m : WorldState = with_new_part (with_past w ss o) key made.0 (new_progress one.0.reservation.first) one.0.reservation in
    (m, made.0, (one.0, made.1, one.2, refl), alike-as n (with_new_part w key to (new_progress one.0.reservation.first) one.0.reservation) m one.3 (part-past w ss o key to made.0 (new_progress one.0.reservation.first) one.0.reservation alike) (like-set w.stripes ss (home w key) to made.0 alike made.2))
starts-past w n ss o caller key op from to b (outcome.Processes entry) alike like one =
    let made = begins-like from b to caller key op (begun.Asks one.0) like one.1 in
    let m : WorldState = with_new_part (with_past w ss o) key made.0 (new_progress one.0.reservation.first) one.0.reservation in
    (m, made.0, (one.0, made.1, one.2, refl), alike-as n (with_new_part w key to (new_progress one.0.reservation.first) one.0.reservation) m one.3 (part-past w ss o key to made.0 (new_progress one.0.reservation.first) one.0.reservation alike) (like-set w.stripes ss (home w key) to made.0 alike made.2))
starts-past w n ss o caller key op from to b outcome.Joins alike like one =
    let made = begins-like from b to caller key op (begun.Joined one.0) like one.1 in
    let m : WorldState = with_join (with_stripe (with_past w ss o) key made.0) one.0 in
    (m, made.0, (one.0, made.1, refl), alike-as n (with_join (with_stripe w key to) one.0) m one.2 refl (like-set w.stripes ss (home w key) to made.0 alike made.2))
starts-past w n ss o caller key op from to b x alike like one = absurd one

-- of stripes that are alike, what a commit leaves is the store's in both or in none
commit-past : (w : WorldState) (ss : List State) (o : List Event) (key : Bytes) (part : Part) (from to b new : State) (call : ℕ) (met : Option Refusal) → IsLike to new
    → with_commit (with_past w ss o) key part b new call met ≡ with_past (with_commit w key part from to call met) (with_commit (with_past w ss o) key part b new call met).stripes (with_commit (with_past w ss o) key part b new call met).order
commit-past w ss o key part from to b new call met like =
    let m : WorldState = with_commit (with_past w ss o) key part b new call met in
    ap (λ (e : Option Bytes). record m { foreign = without_foreign (with_doubt w.foreign key (is_misled part)) key (is_agreed e (entry_at w.store key)) }) (ap (λ (x : State). entry_at x.cache key) like.is)

ends-past : (w n : WorldState) (ss : List State) (o : List Event) (call : ℕ) (key : Bytes) (part : Part) (from to b : State) (x : Outcome)
    → AreLike w.stripes ss → IsLike from b → EndsAs w call key part from to x n
    → (m : WorldState) × (new : State) × EndsAs (with_past w ss o) call key part b new x m × WorldsAlike n m
ends-past w n ss o call key part from to b (outcome.Stepped seen) alike like one =
    let made = ends-like from b to part.reservation (out_of_part part) (step_of seen) like one.0 in
    let m : WorldState = with_commit (with_past w ss o) key part b made.0 call (fault_in seen.reply) in
    (m, made.0, (made.1, one.1, refl), alike-as n (with_commit w key part from to call (fault_in seen.reply)) m one.2 (commit-past w ss o key part from to b made.0 call (fault_in seen.reply) made.2) (like-set w.stripes ss (home w key) to made.0 alike made.2))
ends-past w n ss o call key part from to b x alike like one = absurd one

picks-world : (w n : WorldState) (ss : List State) (o : List Event) (call : ℕ) (key : Bytes) (join : JoinClaim) (from to b : State) (x : Outcome)
    → AreLike w.stripes ss → IsLike from b → Picks w call key join from to x n
    → (m : WorldState) × (new : State) × Picks (with_past w ss o) call key join b new x m × WorldsAlike n m
picks-world w n ss o call key join from to b (outcome.PickedUp seen) alike like one =
    let made = picks-like from b to join (polled.Answer seen.reply seen.place seen.shared) like one.0 in
    let m : WorldState = with_settled (without_join (with_stripe (with_past w ss o) key made.0) call key) call key (fault_in seen.reply) in
    (m, made.0, (made.1, one.1, refl), alike-as n (with_settled (without_join (with_stripe w key to) call key) call key (fault_in seen.reply)) m one.2 refl (like-set w.stripes ss (home w key) to made.0 alike made.2))
picks-world w n ss o call key join from to b outcome.Again alike like one =
    let made = picks-like from b to join polled.Again like one.0 in
    let m : WorldState = without_join (with_stripe (with_past w ss o) key made.0) call key in
    (m, made.0, (made.1, refl), alike-as n (without_join (with_stripe w key to) call key) m one.1 refl (like-set w.stripes ss (home w key) to made.0 alike made.2))
picks-world w n ss o call key join from to b outcome.Waits alike like one =
    let made = picks-like from b to join (polled.NotYet join) like one.0 in
    (with_past w ss o, made.0, (made.1, refl), alike-as n w (with_past w ss o) one.1 refl alike)
picks-world w n ss o call key join from to b x alike like one = absurd one

-- 4. A return of the writer.

reported-past : (x y : WorldState) (key : Bytes) (report : WriteAnswer) (p : Option Part) → WorldsAlike x y → WorldsAlike (reported_at x key report p) (reported_at y key report p)
reported-past x y key report None like = like
reported-past x y key report (Some part) like = go (waits_for_report part)
  where
    go : (b : Bool) → WorldsAlike (if b then after_report x key part report else x) (if b then after_report y key part report else y)
    go true =
        let P : WorldState → Type 0 = λ v. WorldsAlike (after_report x key part report) (after_report v key part report) in
        subst P (sym like.is) (record { is = refl; alike = like.alike })
    go false = like

same_part : (x y : WorldState) (call : ℕ) (key : Bytes) → WorldsAlike x y → part_of y call key ≡ part_of x call key
same_part x y call key like = ap (λ (v : WorldState). part_of v call key) like.is

reports-past : (x y : WorldState) (call : ℕ) (answer : Bytes → WriteAnswer) (keys : List Bytes) → WorldsAlike x y → WorldsAlike (after_reports x call answer keys) (after_reports y call answer keys)
reports-past x y call answer [] like = like
reports-past x y call answer (key ∷ keys) like =
    let one = reported-past x y key (answer key) (part_of x call key) like in
    let next = subst (λ (p : Option Part). WorldsAlike (reported_at x key (answer key) (part_of x call key)) (reported_at y key (answer key) p)) (sym (same_part x y call key like)) one in
    reports-past (reported_at x key (answer key) (part_of x call key)) (reported_at y key (answer key) (part_of y call key)) call answer keys next

-- 5. What an event shows.

over-same : (w : WorldState) (ss : List State) (o : List Event) (call : ℕ) (key : Bytes) (x : Outcome) → over_by (with_past w ss o) call key x ≡ over_by w call key x
over-same w ss o call key (outcome.Stepped x) = refl
over-same w ss o call key x = refl

may-all : (ss ts : List State) (i : ℕ) (key : Bytes) → AreLike ss ts → may_invalidate (slice_get ts i) key ≡ may_invalidate (slice_get ss i) key
may-all [] [] i key h = refl
may-all [] (t ∷ ts) i key h = absurd h
may-all (s ∷ ss) [] i key h = absurd h
may-all (s ∷ ss) (t ∷ ts) zero key h = may-like s t key h.0
may-all (s ∷ ss) (t ∷ ts) (suc i) key h = may-all ss ts i key h.1

fits-same : (w : WorldState) (ss : List State) (o : List Event) (e : WorldEvent) → AreLike w.stripes ss → fits (with_past w ss o) e ≡ fits w e
fits-same w ss o (event.Call call session command) alike = refl
fits-same w ss o (event.Invalidate key) alike = may-all w.stripes ss (home w key) key alike
fits-same w ss o e alike = refl

-- the eviction that is shown is at the same place
same-place : (stripe : ℕ) (from to b new : State) → IsLike from b → IsLike to new → eviction_place stripe from to ≡ eviction_place stripe b new
same-place stripe from to b new was is = λ i. place-of (sym was.count i) (sym is.count i)
  where
    place-of : ℕ → ℕ → Option EvictionPlace
    place-of n m = if nat_lt n m then Some (record { stripe = stripe; place = n }) else None

abbrev after_foreign : WorldState → Bytes → Option Bytes → WorldState
after_foreign w key value = record w { store = with_entry w.store key value; foreign = with_foreign w.foreign key; is_fresh = false }

abbrev map_keys : List (Bytes × Bytes) → List Bytes
map_keys entries = map (λ entry. entry.0) entries

abbrev reopened_from : Config → WorldState → List (Bytes × Bytes) → WorldState
reopened_from config w es =
    record (start config) {
      stripes = opened_stripes config Played es 0 config.stripes;
      store = w.store;
      foreign = foreign_reopened w.foreign (opens_coherent w.store (opened_stripes config Played es 0 config.stripes));
      last = w.last;
      premises = record { writers = true; loaders = true; opening = opens_as_told w.foreign w.store (opened_stripes config Played es 0 config.stripes) };
      is_fresh = false;
    }

happens-past : (w n : WorldState) (ss : List State) (o : List Event) (e : WorldEvent) (s : Shown) → AreLike w.stripes ss → Happens w e s n
    → (m : WorldState) × Happens (with_past w ss o) e s m × WorldsAlike n m
happens-past w n ss o (event.Call call session command) s alike one =
    let m : WorldState = with_call (with_past w ss o) (new_call call session command) in
    (m, (one.0, refl), alike-as n (with_call w (new_call call session command)) m one.1 refl alike)
happens-past w n ss o (event.Look call stripe) s alike one =
    let there = like-at w.stripes ss stripe one.4 alike one.5 in
    let b : State = there.0 in
    let keys : AreKeys b one.6 = record { each = subst (λ (es : List (Bytes × Bytes)). IsPermutation (keys_of es) one.6) (sym there.2.order) one.7.each; order = one.7.order } in
    let m : WorldState = with_look (with_past w ss o) call stripe one.6 one.1 in
    (m, (one.0, one.1, one.2, one.3, b, there.1, one.6, keys, one.8, refl), alike-as n (with_look w call stripe one.6 one.1) m one.9 refl alike)
happens-past w n ss o (event.Start call key) s alike one =
    let there = like-at w.stripes ss (home w key) one.4 alike one.5 in
    let made = starts-past w n ss o one.0.caller key one.1 one.4 one.6 there.0 s.outcome alike there.2 one.7 in
    (made.0, (one.0, one.1, one.2, one.3, there.0, there.1, made.1, made.2, one.8, one.9 ∙ sym (over-same w ss o one.0.caller.call key s.outcome)), made.3)
happens-past w n ss o (event.Read call key) s alike one =
    let m : WorldState = after_answer (with_past w ss o) key one.0 (read_answer (entry_at w.store key)) in
    (m, (one.0, one.1, one.2, refl), alike-as n (after_answer w key one.0 (read_answer (entry_at w.store key))) m one.3 refl alike)
happens-past w n ss o (event.Say call key answer) s alike one =
    let m : WorldState = after_answer (with_past w ss o) key one.0 answer in
    (m, (one.0, one.1, one.2, refl), alike-as n (after_answer w key one.0 answer) m one.3 refl alike)
happens-past w n ss o (event.Change call key) s alike one =
    let m : WorldState = after_change (with_past w ss o) key one.0 one.1 in
    (m, (one.0, one.1, one.2, one.3, one.4, refl), alike-as n (after_change w key one.0 one.1) m one.5 refl alike)
happens-past w n ss o (event.Report call left fault) s alike one =
    let met : WorldState → WorldState = λ v. with_met_by v call (option_map WriterFailed fault) in
    let answer : Bytes → WriteAnswer = report_for one.0.kind left fault in
    let keys : List Bytes = keys_reported (reported_now w call one.0) in
    let m : WorldState = after_reports (met (with_past w ss o)) call answer keys in
    let like : WorldsAlike (met w) (met (with_past w ss o)) = record { is = refl; alike = alike } in
    (m, (one.0, one.1, one.2, refl), subst (λ (x : WorldState). WorldsAlike x m) (sym one.3) (reports-past (met w) (met (with_past w ss o)) call answer keys like))
happens-past w n ss o (event.Process call key source calls fail) s alike one =
    let done = run_result one.0.reservation (load_from source (entry_at w.store key)) calls fail in
    let m : WorldState = after_process (with_past w ss o) key one.0 done in
    (m, (one.0, one.1, one.2, refl), alike-as n (after_process w key one.0 done) m one.3 refl alike)
happens-past w n ss o (event.Commit call key) s alike one =
    let there = like-at w.stripes ss (home w key) one.2 alike one.3 in
    let made = ends-past w n ss o call key one.0 one.2 one.4 there.0 s.outcome alike there.2 one.5 in
    (made.0, (one.0, one.1, there.0, there.1, made.1, made.2, one.6 ∙ sym (over-same w ss o call key s.outcome)), made.3)
happens-past w n ss o (event.Withdraw call key) s alike one =
    let there = like-at w.stripes ss (home w key) one.2 alike one.3 in
    let made = gives_back-like one.2 there.0 one.4 one.0.reservation there.2 one.5 in
    let m : WorldState = without_part (with_phase (with_past w ss o) key there.0 made.0) key in
    let shows = one.6 ∙ ap (λ (x : Option EvictionPlace). not_over (outcome.Withdrawn x)) (same-place (home w key) one.2 one.4 there.0 made.0 there.2 made.2) in
    (m, (one.0, one.1, there.0, there.1, made.0, made.1, shows, refl), alike-as n (without_part (with_phase w key one.2 one.4) key) m one.7 refl (like-set w.stripes ss (home w key) one.4 made.0 alike made.2))
happens-past w n ss o (event.Leave call) s alike one =
    let m : WorldState = without_call (with_past w ss o) call in
    (m, (one.0, refl), alike-as n (without_call w call) m one.1 refl alike)
happens-past w n ss o (event.PickUp call key) s alike one =
    let there = like-at w.stripes ss (home w key) one.2 alike one.3 in
    let made = picks-world w n ss o call key one.0 one.2 one.4 there.0 s.outcome alike there.2 one.5 in
    (made.0, (one.0, one.1, there.0, there.1, made.1, made.2, one.6 ∙ sym (over-same w ss o call key s.outcome)), made.3)
happens-past w n ss o (event.Foreign key value) s alike one =
    let m : WorldState = after_foreign (with_past w ss o) key value in
    (m, (one.0, refl), alike-as n (after_foreign w key value) m one.1 refl alike)
happens-past w n ss o (event.Invalidate key) s alike one =
    let there = like-at w.stripes ss (home w key) one.0 alike one.1 in
    let made = invalidates-like one.0 there.0 one.2 key there.2 one.3 in
    let m : WorldState = record (with_phase (with_past w ss o) key there.0 made.0) { is_fresh = false } in
    let reserved : is_reserved there.0 key ≡ is_reserved one.0 key = ap (λ (x : State). is_reserved x key) there.2.is in
    let place : eviction_place (home w key) one.0 one.2 ≡ eviction_place (home w key) there.0 made.0 = same-place (home w key) one.0 one.2 there.0 made.0 there.2 made.2 in
    let shows = one.4 ∙ (λ i. not_over (if sym reserved i then outcome.Marked else outcome.Invalidated (place i))) in
    (m, (there.0, there.1, made.0, made.1, shows, refl), alike-as n (record (with_phase w key one.0 one.2) { is_fresh = false }) m one.5 refl (like-set w.stripes ss (home w key) one.2 made.0 alike made.2))
happens-past w n ss o (event.Reopen config) s alike one =
    let same : all_entries ss ≡ all_entries w.stripes = like-entries w.stripes ss alike in
    let m : WorldState = after_reopening config (with_past w ss o) in
    let is : n ≡ m = one.1 ∙ ap (λ (es : List (Bytes × Bytes)). reopened_from config w es) (sym same) in
    (m, (one.0 ∙ ap (λ (es : List (Bytes × Bytes)). not_over (outcome.Reopened (map_keys (dropped config es)))) (sym same), refl), subst (WorldsAlike n) is (worlds-refl n))

-- 6. Steps and runs.

step-past : (w n : WorldState) (ss : List State) (o : List Event) (e : WorldEvent) (s : Shown) → AreLike w.stripes ss → Step w e s n
    → (m : WorldState) × Step (with_past w ss o) e s m × WorldsAlike n m
step-past w n ss o e s alike (inl one) =
    let made = happens-past w n ss o e s alike one.1 in
    (made.0, inl (fits-same w ss o e alike ∙ one.0, made.1), made.2)
step-past w n ss o e s alike (inr one) =
    (with_past w ss o, inr (fits-same w ss o e alike ∙ one.0, one.1, refl), alike-as n w (with_past w ss o) one.2 refl alike)

pub step-alike : (w v n : WorldState) (e : WorldEvent) (s : Shown) → WorldsAlike w v → Step w e s n → (m : WorldState) × Step v e s m × WorldsAlike n m
step-alike w v n e s like one =
    let P : WorldState → Type 0 = λ x. (m : WorldState) × Step x e s m × WorldsAlike n m in
    subst P (sym like.is) (step-past w n v.stripes v.order e s like.alike one)

pub run-alike : (w v n : WorldState) (es : List WorldEvent) (seen : List Shown) → WorldsAlike w v → Run w es seen n
    → (m : WorldState) × Run v es seen m × WorldsAlike n m
run-alike w v n [] [] like run = (v, refl, subst (λ (x : WorldState). WorldsAlike x v) (sym run) like)
run-alike w v n [] (s ∷ ss) like run = absurd run
run-alike w v n (e ∷ es) [] like run = absurd run
run-alike w v n (e ∷ es) (s ∷ ss) like run =
    let first = step-alike w v run.0 e s like run.1 in
    let rest = run-alike run.0 first.0 n es ss first.2 run.2 in
    (rest.0, (first.0, first.1, rest.1), rest.2)

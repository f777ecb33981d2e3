-- What a row of seats has noted, and seen.
--     noted_there    the state that the seat at a place has noted; whose it is
--     noted_push, fronts_push  a row with one more seat
--     noted_same, fronts_same, logs_same  views that change in something else
--     handed_back              the seats of a cache that was not closed
--     log_there, log_at, logs_set    a seat's log; whose a log is; a row whose seat at one place is another one, with the same log
--     rest_set                 the seats that are as they were, when the next one is replaced
--     idle_set, idle_logs      the first seats, and all, have looked once and found nothing out
--     row_refusal, refusal_since    the stripe of one seat is not taken; since when
--     opening_histories, opening_len, new_history, new_within    stripes in which nothing has happened: each history is empty; how
--                              many there are; one of them
--     first_push, new_each     first seats at their locks
use Rattle.jc_cache.proofs.Common.{◌≡◌, ◌∙◌, ◌⊎◌, ⊎_elim, inl, inr, ◌+◌, ◌<◌, ◌≤◌, ℕ, zero, suc, Bool, true, false, Some, List, [], ◌∷◌, ◌++◌, length, map, set, replicate, slice_get, option_map, refl, sym, ap, subst, subst₂, append_assoc, length-append, le_refl, arith, length-map, map-append, same_Some, none-some, slice_get-map, AllZip, Config, Refusal, Bytes, Event, State, IsIdle, whole_history, IsOfSameStripe, live_on, kept, opened_stripe, opened_stripes, opened_len, first_view, View, Log, log_of, noted_by, fronts_of, logs_of, stripes_opening, IsOwnSeat, AreIdle, HasFoundHeld, HasLastFound, HasLookedOnce, HasOnlyLooked, IsInUse, KeepsSeat, KeepSeats, LeavesUnchanged, IsTakeRefusal, IsRowRefusal}
use mathlib.Core.List.{IsPrefix}
use Rattle.jc_outside.specs.declared.done.Origin.{Origin}
use Rattle.jc_outside.specs.declared.done.Origin.TheVariants.{Live}
use Rattle.jc_cache.proofs.ClosingSeats.{keep_at}
use Rattle.jc_cache.proofs.Meetings.{got_other}
use Rattle.jc_cache.proofs.Rows.{Seated, map_get, push_get}

-- 1. Places.

pub noted_there : (seats : List Seated) (i : ℕ) (seat : Seated) → slice_get seats i ≡ Some seat → slice_get (noted_by seats) i ≡ Some seat.1.noted
noted_there seats i seat at = slice_get-map (λ (s : Seated). s.1.noted) seats i ∙ ap (option_map (λ (s : Seated). s.1.noted)) at

pub noted_push : (seats : List Seated) (states : List State) (seat : Seated) (state : State) → noted_by seats ≡ states → seat.1.noted ≡ state → noted_by (seats ++ seat ∷ []) ≡ states ++ state ∷ []
noted_push seats states seat state are is =
    map-append (λ (s : Seated). s.1.noted) seats (seat ∷ []) ∙ ap (λ (ss : List State). ss ++ seat.1.noted ∷ []) are ∙ ap (λ (s : State). states ++ s ∷ []) is

pub fronts_push : (seats : List Seated) (states : List State) (seat : Seated) (state : State) → fronts_of seats ≡ map whole_history states → seat.1.front ≡ whole_history state
    → fronts_of (seats ++ seat ∷ []) ≡ map whole_history (states ++ state ∷ [])
fronts_push seats states seat state are is =
    map-append (λ (s : Seated). s.1.front) seats (seat ∷ []) ∙ ap (λ (ss : List (List Event)). ss ++ seat.1.front ∷ []) are
    ∙ ap (λ (front : List Event). map whole_history states ++ front ∷ []) is ∙ sym (map-append whole_history states (state ∷ []))

-- 2. Whole rows.

pub noted_same : (f : View → View) → ((v : View) → (f v).noted ≡ v.noted) → (seats : List Seated) → noted_by (map (λ (seat : Seated). (seat.0, f seat.1)) seats) ≡ noted_by seats
noted_same f same [] = refl
noted_same f same (seat ∷ seats) = let head = same seat.1 in let tail = noted_same f same seats in λ j. head j ∷ tail j

pub fronts_same : (f : View → View) → ((v : View) → (f v).front ≡ v.front) → (seats : List Seated) → fronts_of (map (λ (seat : Seated). (seat.0, f seat.1)) seats) ≡ fronts_of seats
fronts_same f same [] = refl
fronts_same f same (seat ∷ seats) = let head = same seat.1 in let tail = fronts_same f same seats in λ j. head j ∷ tail j

pub logs_same : (f : View → View) → ((v : View) → log_of (f v) ≡ log_of v) → (seats : List Seated) → logs_of (map (λ (seat : Seated). (seat.0, f seat.1)) seats) ≡ logs_of seats
logs_same f same [] = refl
logs_same f same (seat ∷ seats) = let head = same seat.1 in let tail = logs_same f same seats in λ j. head j ∷ tail j

pub handed_back : (old new : List Seated) → KeepSeats LeavesUnchanged old new → AllZip IsOfSameStripe (noted_by old) (noted_by new) × AllZip IsPrefix (fronts_of old) (fronts_of new) × AllZip HasOnlyLooked (logs_of old) (logs_of new)
handed_back [] [] keeps = (tt, tt, tt)
handed_back [] (y ∷ new) keeps = absurd keeps
handed_back (x ∷ old) [] keeps = absurd keeps
handed_back (x ∷ old) (y ∷ new) keeps = let rest = handed_back old new keeps.1 in ((keeps.0.same, rest.0), (keeps.0.front, rest.1), (record { row = keeps.0.row; lendings = keeps.0.lendings; looked = keeps.0.each; misses = keeps.0.misses }, rest.2))

-- 3. What is out.

pub log_there : (seats : List Seated) (i : ℕ) (seat : Seated) → slice_get seats i ≡ Some seat → slice_get (logs_of seats) i ≡ Some (log_of seat.1)
log_there seats i seat at = slice_get-map (λ (s : Seated). log_of s.1) seats i ∙ ap (option_map (λ (s : Seated). log_of s.1)) at

pub log_at : (seats : List Seated) (i : ℕ) (log : Log) → slice_get (logs_of seats) i ≡ Some log → (seat : Seated) × (slice_get seats i ≡ Some seat) × (log ≡ log_of seat.1)
log_at seats i log at = map_get (λ (s : Seated). log_of s.1) seats i log at

pub logs_set : (seats : List Seated) (i : ℕ) (x y : Seated) → slice_get seats i ≡ Some x → log_of y.1 ≡ log_of x.1 → logs_of (set seats i y) ≡ logs_of seats
logs_set [] i x y at is = absurd (none-some x at)
logs_set (a ∷ seats) zero x y at is = ap (λ (log : Log). log ∷ logs_of seats) (is ∙ ap (λ (s : Seated). log_of s.1) (sym (same_Some a x at)))
logs_set (a ∷ seats) (suc i) x y at is = ap (λ (logs : List Log). log_of a.1 ∷ logs) (logs_set seats i x y at is)

-- what a seat has last found since later, it has last found since earlier
last_since : {lends : State → State → Type 0} (x y : Seated) (after : List (State × State)) (found : State) → KeepsSeat lends x y → HasLastFound y.1.lendings after found → HasLastFound x.1.lendings after found
last_since x y after found keeps last = record {
  earlier = keeps.row ++ last.earlier;
  lendings =
      last.lendings ∙ ap (λ (ls : List (State × State)). ls ++ (last.earlier ++ (found, found) ∷ [])) keeps.lendings
      ∙ append_assoc x.1.lendings keeps.row (last.earlier ++ (found, found) ∷ [])
      ∙ ap (λ (ls : List (State × State)). x.1.lendings ++ ls) (sym (append_assoc keeps.row last.earlier ((found, found) ∷ [])));
}

-- the first seats have looked once, and have found nothing out
abbrev pub AreIdleBelow : ℕ → List Seated → List Seated → Type 0
AreIdleBelow n old new = (k : ℕ) (x y : Seated) → k < n → slice_get old k ≡ Some x → slice_get new k ≡ Some y → HasLookedOnce (log_of x.1) (log_of y.1) y.1.noted × IsIdle y.1.noted

-- the others are as they were
abbrev pub AreAsBefore : ℕ → List Seated → List Seated → Type 0
AreAsBefore n old new = (k : ℕ) → n ≤ k → slice_get new k ≡ slice_get old k

set_here : (seats : List Seated) (i k : ℕ) (x y z : Seated) → slice_get seats i ≡ Some x → slice_get (set seats i y) k ≡ Some z → ((k ≡ i) × (z ≡ y)) ⊎ ((k ≡ i → ⊥) × (slice_get seats k ≡ Some z))
set_here [] i k x y z at there = absurd (none-some x at)
set_here (a ∷ seats) zero zero x y z at there = inl (refl, sym (same_Some y z there))
set_here (a ∷ seats) zero (suc k) x y z at there = inr ((λ e. absurd (omega arith)), there)
set_here (a ∷ seats) (suc i) zero x y z at there = inr ((λ e. absurd (omega arith)), there)
set_here (a ∷ seats) (suc i) (suc k) x y z at there = ⊎_elim (λ t. inl (ap suc t.0, t.1)) (λ t. inr ((λ e. t.0 (omega arith)), t.1)) (set_here seats i k x y z at there)

pub rest_set : (old seats : List Seated) (i : ℕ) (y : Seated) → AreAsBefore i old seats → AreAsBefore (i + 1) old (set seats i y)
rest_set old seats i y rest k le = got_other seats i k y (λ e. omega arith) ∙ rest k (omega arith)

pub idle_set : (old seats : List Seated) (i : ℕ) (x y : Seated) → AreAsBefore i old seats → AreIdleBelow i old seats → slice_get seats i ≡ Some x → HasLookedOnce (log_of x.1) (log_of y.1) y.1.noted × IsIdle y.1.noted → AreIdleBelow (i + 1) old (set seats i y)
idle_set old seats i x y rest idle at is k w z near first there =
    ⊎_elim
    (λ t.
    let same : x ≡ w = same_Some x w (sym at ∙ rest i (le_refl i) ∙ ap (slice_get old) (sym t.0) ∙ first) in
    subst₂ (λ (a b : Seated). HasLookedOnce (log_of a.1) (log_of b.1) b.1.noted × IsIdle b.1.noted) same (sym t.1) is)
    (λ t. idle k w z (omega (arith, t.0)) first t.1)
    (set_here seats i k x y z at there)

pub idle_logs : (old new : List Seated) → ((k : ℕ) (x y : Seated) → slice_get old k ≡ Some x → slice_get new k ≡ Some y → HasLookedOnce (log_of x.1) (log_of y.1) y.1.noted × IsIdle y.1.noted) → AreIdle (logs_of old) (logs_of new)
idle_logs old new idle i before after there at =
    let x = log_at old i before there in
    let y = log_at new i after at in
    let found = idle i x.0 y.0 x.1 y.1 in
    (y.0.1.noted, subst₂ (λ (b a : Log). HasLookedOnce b a y.0.1.noted) (sym x.2) (sym y.2) found.0, found.1)

-- the stripe of the seat at one place isn't taken
pub row_refusal : (old seats new : List Seated) (i : ℕ) (x y : Seated) (refusal : Refusal) → KeepSeats LeavesUnchanged old seats → slice_get seats i ≡ Some x → slice_get new i ≡ Some y → IsTakeRefusal refusal x.1 y.1 → IsRowRefusal refusal old new
row_refusal old seats new i x y refusal keeps at now why =
    let was = keep_at _ old seats i x keeps at in
    ⊎_elim
    (λ t. inl (t.0, (i, log_of was.0.1, log_of y.1, log_there old i was.0 was.1, log_there new i y now, (y.1.noted, last_since was.0 x y.1.lendings y.1.noted was.2 t.1, t.2))))
    (λ t. inr (t.0, (i, log_of was.0.1, log_of y.1, log_there old i was.0 was.1, log_there new i y now, (let one = was.2.misses in let two = t.1 in omega arith))))
    why

pub refusal_since : (old mid new : List Seated) (refusal : Refusal) → KeepSeats LeavesUnchanged old mid → IsRowRefusal refusal mid new → IsRowRefusal refusal old new
refusal_since old mid new refusal keeps why = ⊎_elim (λ out. inl (out.0, used_since out.1)) (λ busy. inr (busy.0, missed_since busy.1)) why
  where
    used_since : IsInUse (logs_of mid) (logs_of new) → IsInUse (logs_of old) (logs_of new)
    used_since u =
        let seat = log_at mid u.0 u.1 u.3 in
        let was = keep_at _ old mid u.0 seat.0 keeps seat.1 in
        let last = subst (λ (log : Log). HasLastFound log.lendings u.2.lendings u.5.0) seat.2 u.5.1 in
        (u.0, log_of was.0.1, u.2, log_there old u.0 was.0 was.1, u.4, (u.5.0, last_since was.0 seat.0 u.2.lendings u.5.0 was.2 last, u.5.2))

    missed_since : HasFoundHeld (logs_of mid) (logs_of new) → HasFoundHeld (logs_of old) (logs_of new)
    missed_since m =
        let seat = log_at mid m.0 m.1 m.3 in
        let was = keep_at _ old mid m.0 seat.0 keeps seat.1 in
        let counted : m.1.misses ≡ seat.0.1.misses = ap (λ (log : Log). log.misses) seat.2 in
        (m.0, log_of was.0.1, m.2, log_there old m.0 was.0 was.1, m.4, (let one = m.5 in let two = was.2.misses in omega arith))

-- 4. Stripes in which nothing has happened.

new_histories : (config : Config) (origin : Origin) (entries : List (Bytes × Bytes)) (number count : ℕ) → map whole_history (opened_stripes config origin entries number count) ≡ replicate count []
new_histories config origin entries number zero = refl
new_histories config origin entries number (suc count) = ap (λ (hs : List (List Event)). [] ∷ hs) (new_histories config origin entries (number + 1) count)

new_there : (config : Config) (origin : Origin) (entries : List (Bytes × Bytes)) (number count i : ℕ) (state : State) → slice_get (opened_stripes config origin entries number count) i ≡ Some state
    → state ≡ opened_stripe config origin (number + i) (kept config (number + i) entries)
new_there config origin entries number zero i state at = absurd (none-some state at)
new_there config origin entries number (suc count) zero state at =
    let n : number ≡ number + 0 = omega arith in
    sym (same_Some (opened_stripe config origin number (kept config number entries)) state at) ∙ ap (λ (k : ℕ). opened_stripe config origin k (kept config k entries)) n
new_there config origin entries number (suc count) (suc i) state at =
    let n : number + 1 + i ≡ number + suc i = omega arith in
    new_there config origin entries (number + 1) count i state at ∙ ap (λ (k : ℕ). opened_stripe config origin k (kept config k entries)) n

seam : (done rest : List State) (state : State) → slice_get (done ++ state ∷ rest) (length done) ≡ Some state
seam [] rest state = refl
seam (a ∷ done) rest state = seam done rest state

living_histories : (states : List State) → map whole_history (map live_on states) ≡ map whole_history states
living_histories [] = refl
living_histories (state ∷ states) = ap (λ (hs : List (List Event)). whole_history state ∷ hs) (living_histories states)

pub opening_histories : (lives : Bool) (config : Config) (entries : List (Bytes × Bytes)) → map whole_history (stripes_opening lives config entries) ≡ replicate config.stripes []
opening_histories false config entries = new_histories config Live entries 0 config.stripes
opening_histories true config entries = living_histories (opened_stripes config Live entries 0 config.stripes) ∙ new_histories config Live entries 0 config.stripes

pub opening_len : (lives : Bool) (config : Config) (entries : List (Bytes × Bytes)) → length (stripes_opening lives config entries) ≡ config.stripes
opening_len false config entries = opened_len config Live entries 0 config.stripes
opening_len true config entries = length-map (opened_stripes config Live entries 0 config.stripes) live_on ∙ opened_len config Live entries 0 config.stripes

-- one of them
record IsNew (config : Config) (stripe : ℕ) (state : State) : Type 0 where
  pub config_is : state.config ≡ config
  pub stripe_is : state.stripe ≡ stripe
  pub origin_is : state.origin ≡ Live
  pub history : whole_history state ≡ []

new_one : (config : Config) (entries : List (Bytes × Bytes)) (i : ℕ) (state : State) → slice_get (opened_stripes config Live entries 0 config.stripes) i ≡ Some state → IsNew config i state
new_one config entries i state at =
    let n : 0 + i ≡ i = omega arith in
    let is = new_there config Live entries 0 config.stripes i state at in record {
      config_is = ap (λ (s : State). s.config) is;
      stripe_is = ap (λ (s : State). s.stripe) is ∙ n;
      origin_is = ap (λ (s : State). s.origin) is;
      history = ap whole_history is;
    }

opening_at : (lives : Bool) (config : Config) (entries : List (Bytes × Bytes)) (i : ℕ) (state : State) → slice_get (stripes_opening lives config entries) i ≡ Some state → IsNew config i state
opening_at false config entries i state at = new_one config entries i state at
opening_at true config entries i state at =
    let there = map_get live_on (opened_stripes config Live entries 0 config.stripes) i state at in
    let new = new_one config entries i there.0 there.1 in record {
      config_is = ap (λ (s : State). s.config) there.2 ∙ new.config_is;
      stripe_is = ap (λ (s : State). s.stripe) there.2 ∙ new.stripe_is;
      origin_is = ap (λ (s : State). s.origin) there.2 ∙ new.origin_is;
      history = ap whole_history there.2 ∙ new.history;
    }

pub new_history : (lives : Bool) (config : Config) (entries : List (Bytes × Bytes)) (done rest : List State) (state : State) → done ++ state ∷ rest ≡ stripes_opening lives config entries → whole_history state ≡ []
new_history lives config entries done rest state are =
    (opening_at lives config entries (length done) state (ap (λ (ss : List State). slice_get ss (length done)) (sym are) ∙ seam done rest state)).history

pub new_within : (lives : Bool) (config : Config) (entries : List (Bytes × Bytes)) (done rest : List State) (state : State) → done ++ state ∷ rest ≡ stripes_opening lives config entries → length done < config.stripes
new_within lives config entries done rest state are =
    let all = ap length are ∙ opening_len lives config entries in
    let long = length-append done (state ∷ rest) in
    omega arith

-- every seat of a row is the first one of its lock
abbrev pub AreFirst : List Seated → Type 0
AreFirst seats = (i : ℕ) (seat : Seated) → slice_get seats i ≡ Some seat → seat.1 ≡ first_view seat.1.noted

pub first_push : (seats : List Seated) (seat : Seated) (state : State) → AreFirst seats → seat.1 ≡ first_view state → AreFirst (seats ++ seat ∷ [])
first_push seats seat state are is i other there =
    let noted : seat.1.noted ≡ state = ap (λ (v : View). v.noted) is in
    ⊎_elim
    (λ t. subst (λ (s : Seated). s.1 ≡ first_view s.1.noted) (sym t.1) (is ∙ ap first_view (sym noted)))
    (λ t. are i other t)
    (push_get seats seat (length seats) i other refl there)

own_seat : (config : Config) (stripe : ℕ) (view : View) (state : State) → view ≡ first_view state → IsNew config stripe state → IsOwnSeat config stripe 0 view
own_seat config stripe view state seen new =
    subst (IsOwnSeat config stripe 0) (sym seen)
    record { of_none = refl; gives = refl; free = refl; unspent = refl; config_is = new.config_is; stripe_is = new.stripe_is; origin_is = new.origin_is }

pub new_each : (lives : Bool) (config : Config) (entries : List (Bytes × Bytes)) (stripes : List State) (seats : List Seated) → stripes ≡ stripes_opening lives config entries → noted_by seats ≡ stripes → AreFirst seats
    → (i : ℕ) (seat : Seated) → slice_get seats i ≡ Some seat → IsOwnSeat config i 0 seat.1
new_each lives config entries stripes seats are noted first i seat at =
    own_seat config i seat.1 seat.1.noted (first i seat at)
    (opening_at lives config entries i seat.1.noted (ap (λ (ss : List State). slice_get ss i) (sym (noted ∙ are)) ∙ noted_there seats i seat at))

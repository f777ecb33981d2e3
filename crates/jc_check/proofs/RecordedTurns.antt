-- The turns that a legal history makes at a key, and that they explain its record.
use Rattle.std.proofs.Common.{◌≡◌, ◌==◌, ◌<◌, ◌≤◌, ℕ, zero, suc, inl, inr, List, [], ◌∷◌, Bool, true, false, not, ◌&&◌, ◌||◌, nat_lt, Option, Some, None, is_some, slice_get, if◌then◌else◌, sym, subst, ap, refl, ◌∙◌, arith}
use Rattle.std.specs.List.{All, AllPairs, list_all}
use Rattle.std.specs.Cmp.Lexicographic.{pointwise}
use Rattle.std.proofs.lemmas.Bool.{and_parts, eq-eqb, ltb-true}
use Rattle.std.proofs.lemmas.Cmp.{nat_list_eq_equiv}
use Rattle.std.specs.FinMap.{from_entries}
use Rattle.jc_types.specs.declared.caller.Caller.{Caller}
use Rattle.jc_types.specs.declared.config.Config.{Config}
use Rattle.jc_model.specs.declared.event.Event.{Event}
use Rattle.jc_model.specs.declared.event.Event.TheVariants as event
use Rattle.jc_model.specs.declared.event.Op.{Op}
use Rattle.jc_model.specs.declared.event.Out.{Out}
use Rattle.jc_model.specs.declared.event.Reply.{Reply}
use Rattle.jc_model.specs.Cache.{Bytes, entry_at}
use Rattle.jc_model.specs.Group.{nothing_said}
use Rattle.jc_model.specs.Legal.{Legal, in_order, may_follow}
use Rattle.jc_model.specs.Table.{entry_after}
use Rattle.jc_check.specs.declared.record.Act.{Act}
use Rattle.jc_check.specs.declared.record.Act.TheVariants.{Step, Share}
use Rattle.jc_check.specs.declared.record.Recorded.{Recorded}
use Rattle.jc_check.specs.declared.record.Rules.{Rules}
use Rattle.jc_check.specs.declared.record.Spot.{Spot}
use Rattle.jc_check.specs.declared.record.Turn.{Turn}
use Rattle.jc_check.specs.declared.record.Turn.TheVariants.{Vanish, Call}
use Rattle.jc_check.specs.Explains.{ActGoes, AreApart, CallGoes, CallsPrecede, Differ, Goes, IsExplained, IsPlaced, MustPrecede, PlaysTurns, call_at, changes_at, is_forgotten, must_be_placed, placed_call, places, some_if, stored_call}
use Rattle.jc_check.specs.Recording.{AreTableRules, IsCallOf, IsRecordOf, IsStepAt, Tells, TellsEvent, entry_after_event, entry_before, entry_left, is_at}
use Rattle.jc_check.proofs.Landings.{not-more}
use Rattle.jc_check.proofs.Quantified.{all-cons, any-here, any-there, pairs-cons}
use Rattle.jc_check.proofs.RecordedSteps.{fits-removal, fits-share, fits-step, left-by-removal, left-by-step, spot_after_step}
use Rattle.jc_check.proofs.RecordedWalks.{EventFits, FitsIf, Walks, is-key, lawful-walks, spot_after_event, spot_if, spot_over}

-- 1. The turns.

abbrev act_of : Option ℕ → Act
act_of None = Step
act_of (Some place) = Share

abbrev turn_of : ℕ → Event → Turn
turn_of i (event.Step caller op key out shared reply) = Call i (act_of shared)
turn_of i (event.Evict key cause) = Vanish

abbrev has_reply : Option Recorded → Bool
has_reply None = false
has_reply (Some c) = is_some c.reply

-- a step that shares a load changes nothing: if its call hasn't ended, there is no turn for it
abbrev is_made : Event → Option Recorded → Bool
is_made (event.Step caller op key out None reply) c = true
is_made (event.Step caller op key out (Some place) reply) c = has_reply c
is_made (event.Evict key cause) c = true

abbrev cons_if : Bool → Turn → List Turn → List Turn
cons_if true t ts = t ∷ ts
cons_if false t ts = ts

abbrev makes : Bytes → List Recorded → ℕ → Event → Bool
makes key calls i e = is_at key e && is_made e (slice_get calls i)

-- f: which call has the step at a place
abbrev turns_of : Bytes → List Recorded → (ℕ → ℕ) → List Event → List Turn
turns_of key calls f [] = []
turns_of key calls f (e ∷ es) = cons_if (makes key calls (f 0) e) (turn_of (f 0) e) (turns_of key calls (λ k. f (suc k)) es)

no : false ≡ true → ⊥
no h = cc

-- 2. They can be played.

step-goes : (clock : ℕ → ℕ → ℕ) (config : Config) (rules : Rules) (s : Spot) (caller : Caller) (op : Op) (key : Bytes) (out : Out) (reply : Reply) (o : Option Recorded)
    → AreTableRules config rules → EventFits rules s (event.Step caller op key out None reply)
    → Tells clock config.read_through s.entry (Some (event.Step caller op key out None reply)) o
    → ActGoes rules o s Step (spot_after_step rules s op out)
step-goes clock config rules s caller op key out reply None table fits is = absurd is
step-goes clock config rules s caller op key out reply (Some c) table fits (inl is) =
    (is.role, fits-step clock config rules s caller op out reply c table fits.0 fits.1 is, left-by-step clock config rules s caller op out reply c table is)
step-goes clock config rules s caller op key out reply (Some c) table fits (inr is) = (
  is.call.role,
  fits-removal clock config rules s caller op out c table fits.0 is,
  left-by-removal clock config rules s caller op out c table fits.0 is,
)

share-told : (clock : ℕ → ℕ → ℕ) (config : Config) (rules : Rules) (s : Spot) (caller : Caller) (op : Op) (key : Bytes) (out : Out) (place : ℕ) (reply : Reply) (c : Recorded) (r : Option Reply)
    → EventFits rules s (event.Step caller op key out (Some place) reply) → IsCallOf clock config.read_through s.entry caller op nothing_said reply c
    → c.reply ≡ r → is_some r ≡ true → CallGoes rules c s Share s
share-told clock config rules s caller op key out place reply c None fits is ended h = absurd (no h)
share-told clock config rules s caller op key out place reply c (Some told) fits is ended h =
    (is.role, fits-share clock config.read_through s.entry s caller op reply told c fits.0 fits.1 fits.2 ended is, refl)

share-goes : (clock : ℕ → ℕ → ℕ) (config : Config) (rules : Rules) (s : Spot) (caller : Caller) (op : Op) (key : Bytes) (out : Out) (place : ℕ) (reply : Reply) (o : Option Recorded)
    → EventFits rules s (event.Step caller op key out (Some place) reply)
    → Tells clock config.read_through s.entry (Some (event.Step caller op key out (Some place) reply)) o → has_reply o ≡ true
    → ActGoes rules o s Share s
share-goes clock config rules s caller op key out place reply None fits is h = absurd is
share-goes clock config rules s caller op key out place reply (Some c) fits is h =
    share-told clock config rules s caller op key out place reply c c.reply fits is refl h

event-goes : (clock : ℕ → ℕ → ℕ) (config : Config) (rules : Rules) (key : Bytes) (s : Spot) (calls : List Recorded) (i : ℕ) (e : Event)
    → AreTableRules config rules → is_at key e ≡ true → EventFits rules s e
    → (IsStepAt key (Some e) → Tells clock config.read_through s.entry (Some e) (slice_get calls i)) → is_made e (slice_get calls i) ≡ true
    → Goes rules calls s (turn_of i e) (spot_after_event rules s e)
event-goes clock config rules key s calls i (event.Evict gone cause) table at fits tells made = (table.vanish, refl)
event-goes clock config rules key s calls i (event.Step caller op own out None reply) table at fits tells made =
    step-goes clock config rules s caller op own out reply (slice_get calls i) table fits (tells (is-key own key at))
event-goes clock config rules key s calls i (event.Step caller op own out (Some place) reply) table at fits tells made =
    share-goes clock config rules s caller op own out place reply (slice_get calls i) fits (tells (is-key own key at)) made

goes-if : (b : Bool) (clock : ℕ → ℕ → ℕ) (config : Config) (rules : Rules) (key : Bytes) (s : Spot) (calls : List Recorded) (i : ℕ) (e : Event)
    → AreTableRules config rules → is_at key e ≡ b → FitsIf b rules s e
    → (IsStepAt key (Some e) → Tells clock config.read_through s.entry (Some e) (slice_get calls i)) → (b && is_made e (slice_get calls i)) ≡ true
    → Goes rules calls s (turn_of i e) (spot_if b rules s e)
goes-if true clock config rules key s calls i e table at fits tells made = event-goes clock config rules key s calls i e table at fits tells made
goes-if false clock config rules key s calls i e table at fits tells made = absurd (no made)

event-stays : (rules : Rules) (s : Spot) (e : Event) (o : Option Recorded) → is_made e o ≡ false → spot_after_event rules s e ≡ s
event-stays rules s (event.Evict gone cause) o unmade = absurd (no (sym unmade))
event-stays rules s (event.Step caller op own out None reply) o unmade = absurd (no (sym unmade))
event-stays rules s (event.Step caller op own out (Some place) reply) o unmade = refl

stays-if : (b : Bool) (rules : Rules) (s : Spot) (e : Event) (o : Option Recorded) → (b && is_made e o) ≡ false → spot_if b rules s e ≡ s
stays-if true rules s e o unmade = event-stays rules s e o unmade
stays-if false rules s e o unmade = refl

event-leaves : (rules : Rules) (s : Spot) (e : Event) (entry : Option Bytes) → s.entry ≡ entry → (spot_after_event rules s e).entry ≡ entry_left entry e
event-leaves rules s (event.Evict gone cause) entry is = refl
event-leaves rules s (event.Step caller op own out None reply) entry is = ap (λ (x : Option Bytes). entry_after op x out) is
event-leaves rules s (event.Step caller op own out (Some place) reply) entry is = is

pub leaves-if : (b : Bool) (rules : Rules) (s : Spot) (e : Event) (entry : Option Bytes) → s.entry ≡ entry
    → (spot_if b rules s e).entry ≡ (if b then entry_left entry e else entry)
leaves-if true rules s e entry is = event-leaves rules s e entry is
leaves-if false rules s e entry is = is

cons-plays : (b : Bool) (rules : Rules) (calls : List Recorded) (t : Turn) (ts : List Turn) (s next last : Spot) → (b ≡ true → Goes rules calls s t next)
    → (b ≡ false → next ≡ s) → PlaysTurns rules calls next ts last → PlaysTurns rules calls s (cons_if b t ts) last
cons-plays true rules calls t ts s next last goes stays rest = (next, goes refl, rest)
cons-plays false rules calls t ts s next last goes stays rest = subst (λ (x : Spot). PlaysTurns rules calls x ts last) (stays refl) rest

abbrev AreTold : (ℕ → ℕ → ℕ) → Bool → Bytes → Option Bytes → List Event → List Recorded → (ℕ → ℕ) → Type 0
AreTold clock read_through key entry es calls f =
    (k : ℕ) → IsStepAt key (slice_get es k) → Tells clock read_through (entry_before key entry es k) (slice_get es k) (slice_get calls (f k))

plays : (clock : ℕ → ℕ → ℕ) (config : Config) (rules : Rules) (key : Bytes) (calls : List Recorded) (es : List Event) (f : ℕ → ℕ) (s : Spot) (entry : Option Bytes)
    → AreTableRules config rules → s.entry ≡ entry → Walks rules key s es → AreTold clock config.read_through key entry es calls f
    → PlaysTurns rules calls s (turns_of key calls f es) (spot_over rules key s es)
plays clock config rules key calls [] f s entry table is walks told = refl
plays clock config rules key calls (e ∷ es) f s entry table is walks told =
    cons-plays (makes key calls (f 0) e) rules calls (turn_of (f 0) e) (turns_of key calls (λ k. f (suc k)) es) s
    (spot_if (is_at key e) rules s e) (spot_over rules key (spot_if (is_at key e) rules s e) es)
    (goes-if (is_at key e) clock config rules key s calls (f 0) e table refl walks.0
    (λ at. subst (λ (x : Option Bytes). Tells clock config.read_through x (Some e) (slice_get calls (f 0))) (sym is) (told 0 at)))
    (stays-if (is_at key e) rules s e (slice_get calls (f 0)))
    (plays clock config rules key calls es (λ k. f (suc k)) (spot_if (is_at key e) rules s e) (entry_after_event key entry e) table
    (leaves-if (is_at key e) rules s e entry is) walks.1 (λ k at. told (suc k) at))

-- 3. What holds of each turn, and of each two.

event-holds : (P : Turn → Type 0) (key : Bytes) (e : Event) (i : ℕ) → is_at key e ≡ true → P Vanish
    → ((act : Act) → IsStepAt key (Some e) → P (Call i act)) → P (turn_of i e)
event-holds P key (event.Evict gone cause) i at vanish each = vanish
event-holds P key (event.Step caller op own out shared reply) i at vanish each = each (act_of shared) (is-key own key at)

all-if : (b : Bool) (P : Turn → Type 0) (t : Turn) (ts : List Turn) → (b ≡ true → P t) → All P ts → All P (cons_if b t ts)
all-if true P t ts first rest = all-cons P t ts (first refl) rest
all-if false P t ts first rest = rest

turns-all : (P : Turn → Type 0) (key : Bytes) (calls : List Recorded) (es : List Event) (f : ℕ → ℕ) → P Vanish
    → ((k : ℕ) (act : Act) → IsStepAt key (slice_get es k) → P (Call (f k) act)) → All P (turns_of key calls f es)
turns-all P key calls [] f vanish each = λ k d h. absurd (omega (arith, h))
turns-all P key calls (e ∷ es) f vanish each =
    all-if (makes key calls (f 0) e) P (turn_of (f 0) e) (turns_of key calls (λ k. f (suc k)) es)
    (λ made. event-holds P key e (f 0) (and_parts (is_at key e) (is_made e (slice_get calls (f 0))) made).0 vanish (each 0))
    (turns-all P key calls es (λ k. f (suc k)) vanish (λ k act at. each (suc k) act at))

pairs-if : (b : Bool) (R : Turn → Turn → Type 0) (t : Turn) (ts : List Turn) → (b ≡ true → All (R t) ts) → AllPairs R ts → AllPairs R (cons_if b t ts)
pairs-if true R t ts first rest = pairs-cons R t ts (first refl) rest
pairs-if false R t ts first rest = rest

turns-pairs : (R : Turn → Turn → Type 0) (key : Bytes) (calls : List Recorded) (es : List Event) (f : ℕ → ℕ) → ((t : Turn) → R t Vanish)
    → ((t : Turn) → R Vanish t)
    → ((j k : ℕ) (a b : Act) → j < k → IsStepAt key (slice_get es j) → IsStepAt key (slice_get es k) → R (Call (f j) a) (Call (f k) b))
    → AllPairs R (turns_of key calls f es)
turns-pairs R key calls [] f late early both = λ i j d less h. absurd (omega (arith, h))
turns-pairs R key calls (e ∷ es) f late early both =
    pairs-if (makes key calls (f 0) e) R (turn_of (f 0) e) (turns_of key calls (λ k. f (suc k)) es)
    (λ made.
    turns-all (R (turn_of (f 0) e)) key calls es (λ k. f (suc k)) (late (turn_of (f 0) e))
    (λ k b at.
    event-holds (λ (t : Turn). R t (Call (f (suc k)) b)) key e (f 0)
    (and_parts (is_at key e) (is_made e (slice_get calls (f 0))) made).0 (early (Call (f (suc k)) b))
    (λ a here. both 0 (suc k) a b (omega arith) here at)))
    (turns-pairs R key calls es (λ k. f (suc k)) late early (λ j k a b less x y. both (suc j) (suc k) a b (omega (arith, less)) x y))

-- 4. Each call that has ended is placed.

pub key-at : (own key : Bytes) → own ≡ key → pointwise ◌==◌ own key ≡ true
key-at own key is = ap (pointwise ◌==◌ own) (sym is) ∙ nat_list_eq_equiv.refl own

step-makes : (key : Bytes) (e : Event) (o : Option Recorded) → IsStepAt key (Some e) → has_reply o ≡ true → (is_at key e && is_made e o) ≡ true
step-makes key (event.Evict gone cause) o at replied = absurd at
step-makes key (event.Step caller op own out None reply) o at replied = ap (λ (b : Bool). b && true) (key-at own key at)
step-makes key (event.Step caller op own out (Some place) reply) o at replied =
    ap (λ (b : Bool). b && has_reply o) (key-at own key at) ∙ replied

step-places : (key : Bytes) (e : Event) (i : ℕ) → IsStepAt key (Some e) → placed_call (turn_of i e) ≡ Some i
step-places key (event.Evict gone cause) i at = absurd at
step-places key (event.Step caller op own out None reply) i at = refl
step-places key (event.Step caller op own out (Some place) reply) i at = refl

first-placed : (b : Bool) (i : ℕ) (t : Turn) (ts : List Turn) → b ≡ true → placed_call t ≡ Some i → IsPlaced (cons_if b t ts) i
first-placed true i t ts made is = any-here (λ (u : Turn). placed_call u ≡ Some i) t ts is
first-placed false i t ts made is = absurd (no made)

later-placed : (b : Bool) (i : ℕ) (t : Turn) (ts : List Turn) → IsPlaced ts i → IsPlaced (cons_if b t ts) i
later-placed true i t ts is = any-there (λ (u : Turn). placed_call u ≡ Some i) t ts is
later-placed false i t ts is = is

is-placed : (key : Bytes) (calls : List Recorded) (es : List Event) (f : ℕ → ℕ) (k : ℕ) → IsStepAt key (slice_get es k)
    → has_reply (slice_get calls (f k)) ≡ true → IsPlaced (turns_of key calls f es) (f k)
is-placed key calls [] f k at replied = absurd at
is-placed key calls (e ∷ es) f zero at replied =
    first-placed (makes key calls (f 0) e) (f 0) (turn_of (f 0) e) (turns_of key calls (λ k. f (suc k)) es)
    (step-makes key e (slice_get calls (f 0)) at replied) (step-places key e (f 0) at)
is-placed key calls (e ∷ es) f (suc k) at replied =
    later-placed (makes key calls (f 0) e) (f (suc k)) (turn_of (f 0) e) (turns_of key calls (λ j. f (suc j)) es)
    (is-placed key calls es (λ j. f (suc j)) k at replied)

-- 5. None is placed twice.

apart-if : (x y : Bool) (i j : ℕ) → (i ≡ j → ⊥) → AreApart (some_if x i) (some_if y j)
apart-if false y i j apart = tt
apart-if true false i j apart = tt
apart-if true true i j apart = apart

differ : (calls : List Recorded) (i j : ℕ) (a b : Act) → (i ≡ j → ⊥) → Differ calls (Call i a) (Call j b)
differ calls i j a b apart =
    (apart-if (places a) (places b) i j apart, apart-if (changes_at a (slice_get calls i)) (changes_at b (slice_get calls j)) i j apart)

-- 6. None has to come before an earlier one.

abbrev MayFollow : Option Event → Option Event → Type 0
MayFollow None y = Unit {0}
MayFollow (Some a) None = Unit {0}
MayFollow (Some a) (Some b) = may_follow a b ≡ true

all-follow : (e : Event) (es : List Event) (k : ℕ) → list_all (may_follow e) es ≡ true → MayFollow (Some e) (slice_get es k)
all-follow e [] k h = tt
all-follow e (x ∷ es) zero h = (and_parts (may_follow e x) (list_all (may_follow e) es) h).0
all-follow e (x ∷ es) (suc k) h = all-follow e es k (and_parts (may_follow e x) (list_all (may_follow e) es) h).1

follows : (es : List Event) (j k : ℕ) → in_order es ≡ true → j < k → MayFollow (slice_get es j) (slice_get es k)
follows [] j k h less = tt
follows (e ∷ es) zero zero h less = absurd (omega (arith, less))
follows (e ∷ es) zero (suc k) h less = all-follow e es k (and_parts (list_all (may_follow e) es) (in_order es) h).0
follows (e ∷ es) (suc j) zero h less = absurd (omega (arith, less))
follows (e ∷ es) (suc j) (suc k) h less = follows es j k (and_parts (list_all (may_follow e) es) (in_order es) h).1 (omega (arith, less))

or-middle : (x l e y : Bool) → x ≡ true → y ≡ true → (not x || l || (e && not y)) ≡ true → l ≡ true
or-middle x true e y one same h = refl
or-middle false false e y one same h = one
or-middle true false e false one same h = same
or-middle true false true true one same h = h
or-middle true false false true one same h = h

lower : (key own other : Bytes) (earlier later : Caller) (s t : Op) (a b : Out) (x y : Option ℕ) (r q : Reply) → own ≡ key → other ≡ key
    → earlier.session ≡ later.session → may_follow (event.Step earlier s own a x r) (event.Step later t other b y q) ≡ true
    → earlier.call < later.call
lower key own other earlier later s t a b x y r q is also session may =
    ltb-true earlier.call later.call
    (or-middle (earlier.session == later.session) (nat_lt earlier.call later.call) (earlier.call == later.call) (pointwise ◌==◌ own other)
    (eq-eqb earlier.session later.session session) (key-at own other (is ∙ sym also)) may)

abbrev IsCallers : (ℕ → ℕ → ℕ) → Caller → Recorded → Type 0
IsCallers clock caller c = (c.thread ≡ caller.session) × (c.began ≡ clock caller.session caller.call)

callers : (clock : ℕ → ℕ → ℕ) (read_through : Bool) (entry : Option Bytes) (caller : Caller) (op : Op) (key : Bytes) (out : Out) (shared : Option ℕ) (reply : Reply) (c : Recorded)
    → TellsEvent clock read_through entry (event.Step caller op key out shared reply) c → IsCallers clock caller c
callers clock read_through entry caller op key out None reply c (inl is) = (is.thread, is.began)
callers clock read_through entry caller op key out None reply c (inr is) = (is.call.thread, is.call.began)
callers clock read_through entry caller op key out (Some place) reply c is = (is.thread, is.began)

-- a call of an earlier event, and one of a later event
ordered : (clock : ℕ → ℕ → ℕ) (config : Config) (rules : Rules) (key : Bytes) (before after : Option Bytes) (x y : Option Event) (a b : Option Recorded)
    → AreTableRules config rules → ((session m n : ℕ) → m ≤ n → clock session m ≤ clock session n) → IsStepAt key x → IsStepAt key y → MayFollow x y
    → Tells clock config.read_through before x a → Tells clock config.read_through after y b → CallsPrecede rules b a → ⊥
ordered clock config rules key before after None y a b table forward at also may one other must = at
ordered clock config rules key before after (Some (event.Evict gone cause)) y a b table forward at also may one other must = at
ordered clock config rules key before after (Some (event.Step who op own out shared reply)) None a b table forward at also may one other must = also
ordered clock config rules key before after (Some (event.Step who op own out shared reply)) (Some (event.Evict gone cause)) a b table forward at also may one other must = also
ordered clock config rules key before after (Some (event.Step who op own out shared reply)) (Some (event.Step by t key' out' shared' reply')) None b table forward at also may one other must = one
ordered clock config rules key before after (Some (event.Step who op own out shared reply)) (Some (event.Step by t key' out' shared' reply')) (Some c) None table forward at also may one other must = other
ordered clock config rules key before after (Some (event.Step who op own out shared reply)) (Some (event.Step by t key' out' shared' reply')) (Some c) (Some d) table forward at also may one other (inl real) =
    no (sym (sym real.0 ∙ table.program))
ordered clock config rules key before after (Some (event.Step who op own out shared reply)) (Some (event.Step by t key' out' shared' reply')) (Some c) (Some d) table forward at also may one other (inr thread) =
    let first : IsCallers clock who c = callers clock config.read_through before who op own out shared reply c one in
    let second : IsCallers clock by d = callers clock config.read_through after by t key' out' shared' reply' d other in
    let session : who.session ≡ by.session = sym first.0 ∙ sym thread.one ∙ second.0 in
    let call : who.call < by.call = lower key own key' who by op t out out' shared shared' reply reply' at also session may in
    let clocks : clock who.session who.call ≤ clock by.session by.call =
    subst (λ (n : ℕ). clock who.session who.call ≤ clock n by.call) session (forward who.session who.call by.call (omega (arith, call))) in
    omega (arith, clocks, first.1, second.1, thread.before)

none-precede : (rules : Rules) (x : Option Recorded) → CallsPrecede rules x None → ⊥
none-precede rules None must = must
none-precede rules (Some a) must = must

precede-if : (b : Bool) (rules : Rules) (calls : List Recorded) (i : ℕ) (o : Option Recorded) → CallsPrecede rules (call_at calls (some_if b i)) o
    → CallsPrecede rules (slice_get calls i) o
precede-if true rules calls i o must = must
precede-if false rules calls i o must = absurd must

-- 7. So they explain the record.

pub record-explained : (config : Config) (rules : Rules) (key : Bytes) (events : List Event) (calls : List Recorded) (spot : Spot) (entry : Option Bytes)
    → AreTableRules config rules → spot.entry ≡ entry → Walks rules key spot events → in_order events ≡ true → IsRecordOf config key entry events calls
    → IsExplained rules calls spot
record-explained config rules key events calls spot entry table is walks order told = (
  turns_of key calls told.call events,
  record {
    last = spot_over rules key spot events;
    plays = plays told.clock config rules key calls events told.call spot entry table is walks told.tells;
    once = turns-pairs (Differ calls) key calls events told.call (λ t. (not-more (placed_call t), not-more (stored_call calls t))) (λ t. (tt, tt))
        (λ j k a b less x y. differ calls (told.call j) (told.call k) a b (twice j k less x y));
    each = λ i c at must. each i c at must;
    order = turns-pairs (λ t u. MustPrecede rules calls u t → ⊥) key calls events told.call (λ t must. must)
        (λ t must. none-precede rules (call_at calls (placed_call t)) must)
        (λ j k a b less x y must.
        ordered told.clock config rules key (entry_before key entry events j) (entry_before key entry events k) (slice_get events j) (slice_get events k)
        (slice_get calls (told.call j)) (slice_get calls (told.call k)) table told.forward x y (follows events j k order less)
        (told.tells j x) (told.tells k y)
        (precede-if (places b) rules calls (told.call k) (slice_get calls (told.call j)) must));
  },
)
  where
    twice : (j k : ℕ) → j < k → IsStepAt key (slice_get events j) → IsStepAt key (slice_get events k) → told.call j ≡ told.call k → ⊥
    twice j k less x y same =
        let one : j ≡ k = sym (told.own j x) ∙ ap told.place same ∙ told.own k y in omega (arith, one, less)

    each : (i : ℕ) (c : Recorded) → slice_get calls i ≡ Some c → must_be_placed c ≡ true → IsPlaced (turns_of key calls told.call events) i
    each i c at must =
        let inside = told.inside i c at must in
        let replied : has_reply (slice_get calls (told.call (told.place i))) ≡ true =
        ap (λ (j : ℕ). has_reply (slice_get calls j)) inside ∙ ap has_reply at ∙ (and_parts (not (is_forgotten c.role)) (is_some c.reply) must).1 in
        subst (IsPlaced (turns_of key calls told.call events)) inside
        (is-placed key calls events told.call (told.place i) (told.steps i c at must) replied)

pub legal-explained : (config : Config) (opening : List (Bytes × Bytes)) (events : List Event) (key : Bytes) (rules : Rules) (calls : List Recorded) (spot : Spot)
    → Legal config opening events → AreTableRules config rules → spot.entry ≡ entry_at (from_entries opening) key
    → IsRecordOf config key (entry_at (from_entries opening) key) events calls → IsExplained rules calls spot
legal-explained config opening events key rules calls spot legal table is told =
    record-explained config rules key events calls spot (entry_at (from_entries opening) key) table is
    (subst (Walks rules key spot) (sym legal.history.spelled)
    (lawful-walks config rules key legal.history.parts (from_entries opening) 0 spot table is legal.history.lawful))
    legal.history.order told

-- What the events of a legal history do at a key, one after the other, with the load that a step has left to share.
use Rattle.std.proofs.Common.{◌≡◌, ◌==◌, ℕ, ◌+◌, List, [], ◌∷◌, ◌++◌, length, map, Bool, true, false, cond, ◌&&◌, Option, Some, None, is_none, sym, subst, ap, refl, ◌∙◌, append_assoc}
use Rattle.std.specs.Ordering.{eq_by_cmp}
use Rattle.std.specs.Cmp.Lexicographic.{texts_ties, pointwise}
use Rattle.std.specs.Cmp.{eq_by_cmp_equiv}
use Rattle.std.proofs.lemmas.Cmp.{nat_list_cmp_total}
use Rattle.std.proofs.lemmas.Bool.{and_parts}
use Rattle.std.specs.FinMap.{remove, get-remove}
use Rattle.jc_types.specs.declared.caller.Caller.{Caller}
use Rattle.jc_types.specs.declared.config.Config.{Config}
use Rattle.jc_model.specs.declared.event.Cause.{Cause}
use Rattle.jc_model.specs.declared.event.Cause.TheVariants.{Full, Invalidated}
use Rattle.jc_model.specs.declared.event.Event.{Event}
use Rattle.jc_model.specs.declared.event.Event.TheVariants.{Step, Evict}
use Rattle.jc_model.specs.declared.event.LoadAnswer.{LoadAnswer}
use Rattle.jc_model.specs.declared.event.LoadAnswer.TheVariants as load
use Rattle.jc_model.specs.declared.event.Op.{Op}
use Rattle.jc_model.specs.declared.event.Op.TheVariants.{Get}
use Rattle.jc_model.specs.declared.event.Out.{Out}
use Rattle.jc_model.specs.Cache.{Bytes, Cache, entry_at, key_cmp}
use Rattle.jc_model.specs.Group.{Group, Part, Made, Dropped, cache_after_group, cache_after_part, cache_after_step, cache_before_step, evicted_events, events_of, history_of, part_events, shared_event, step_event, step_place, victim_events, without_own, without_victim}
use Rattle.jc_model.specs.Lawful.{AreLawful, IsLawful, IsLawfulPart, is_joinable, joined_fits, loads_whole}
use Rattle.jc_model.specs.Table.{NewStep, Seq, answers_fit, entry_after, is_load_given, reply_after, seq_cache, seq_entry}
use Rattle.jc_model.proofs.CallerLemmas.{get-with_entry, same_key}
use Rattle.jc_check.specs.declared.record.Rules.{Rules}
use Rattle.jc_check.specs.declared.record.Spot.{Spot}
use Rattle.jc_check.specs.Explains.{spot_vanished}
use Rattle.jc_check.specs.Recording.{AreTableRules, is_at}
use Rattle.jc_check.specs.Spot.{shared_reply}
use Rattle.jc_check.proofs.RecordedSteps.{spot_after_step}

-- 1. An event at the key.

abbrev pub EventFits : Rules → Spot → Event → Type 0
EventFits rules s (Step caller op key out None reply) =
    (answers_fit rules.config op s.entry out ≡ true) × (reply ≡ reply_after op s.entry out)
EventFits rules s (Step caller op key out (Some place) reply) =
    (op ≡ Get) × (is_load_given s.shared ≡ true) × (reply ≡ shared_reply s.shared)
EventFits rules s (Evict key cause) = Unit {0}

abbrev pub spot_after_event : Rules → Spot → Event → Spot
spot_after_event rules s (Step caller op key out None reply) = spot_after_step rules s op out
spot_after_event rules s (Step caller op key out (Some place) reply) = s
spot_after_event rules s (Evict key cause) = spot_vanished s

abbrev pub FitsIf : Bool → Rules → Spot → Event → Type 0
FitsIf true rules s event = EventFits rules s event
FitsIf false rules s event = Unit {0}

abbrev pub spot_if : Bool → Rules → Spot → Event → Spot
spot_if true rules s event = spot_after_event rules s event
spot_if false rules s event = s

-- 2. Events, one after the other.

abbrev pub Walks : Rules → Bytes → Spot → List Event → Type 0
Walks rules key s [] = Unit {0}
Walks rules key s (event ∷ events) = FitsIf (is_at key event) rules s event × Walks rules key (spot_if (is_at key event) rules s event) events

abbrev pub spot_over : Rules → Bytes → Spot → List Event → Spot
spot_over rules key s [] = s
spot_over rules key s (event ∷ events) = spot_over rules key (spot_if (is_at key event) rules s event) events

-- and leave this entry
abbrev Leads : Rules → Bytes → Spot → List Event → Option Bytes → Type 0
Leads rules key s events entry = Walks rules key s events × ((spot_over rules key s events).entry ≡ entry)

leads-on : (rules : Rules) (key : Bytes) (s : Spot) (xs ys : List Event) (entry : Option Bytes) → Walks rules key s xs
    → Leads rules key (spot_over rules key s xs) ys entry → Leads rules key s (xs ++ ys) entry
leads-on rules key s [] ys entry walks leads = leads
leads-on rules key s (x ∷ xs) ys entry walks leads =
    let rest = leads-on rules key (spot_if (is_at key x) rules s x) xs ys entry walks.1 leads in ((walks.0, rest.0), rest.1)

-- 3. Keys.

pub is-key : (a b : Bytes) → pointwise ◌==◌ a b ≡ true → a ≡ b
is-key a b h = same_key a b (sym (texts_ties a b) ∙ h)

compared : (key gone : Bytes) (b : Bool) → pointwise ◌==◌ gone key ≡ b → eq_by_cmp key_cmp key gone ≡ b
compared key gone b is = (eq_by_cmp_equiv nat_list_cmp_total).symm key gone ∙ sym (texts_ties gone key) ∙ is

-- 4. Evictions.

evict-leads : (b : Bool) (rules : Rules) (key gone : Bytes) (cause : Cause) (cache : Cache) (s : Spot) → is_at key (Evict gone cause) ≡ b
    → s.entry ≡ entry_at cache key → FitsIf b rules s (Evict gone cause) × ((spot_if b rules s (Evict gone cause)).entry ≡ entry_at (remove cache gone) key)
evict-leads true rules key gone cause cache s at is =
    (tt, sym (get-remove nat_list_cmp_total cache gone key ∙ ap (λ (b : Bool). cond b None (entry_at cache key)) (compared key gone true at)))
evict-leads false rules key gone cause cache s at is =
    (tt, is ∙ sym (get-remove nat_list_cmp_total cache gone key ∙ ap (λ (b : Bool). cond b None (entry_at cache key)) (compared key gone false at)))

victim-leads : (rules : Rules) (key : Bytes) (victim : Option Bytes) (cache : Cache) (s : Spot) → s.entry ≡ entry_at cache key
    → Leads rules key s (victim_events victim) (entry_at (without_victim cache victim) key)
victim-leads rules key None cache s is = (tt, is)
victim-leads rules key (Some gone) cache s is =
    let one = evict-leads (is_at key (Evict gone Full)) rules key gone Full cache s refl is in ((one.0, tt), one.1)

evicted-leads : (rules : Rules) (key own : Bytes) (evicted : Option Cause) (cache : Cache) (s : Spot) → s.entry ≡ entry_at cache key
    → Leads rules key s (evicted_events own evicted) (entry_at (without_own cache own evicted) key)
evicted-leads rules key own None cache s is = (tt, is)
evicted-leads rules key own (Some cause) cache s is =
    let one = evict-leads (is_at key (Evict own cause)) rules key own cause cache s refl is in ((one.0, tt), one.1)

-- 5. A step.

same-config : (config : Config) (rules : Rules) (op : Op) (entry : Option Bytes) (out : Out) → AreTableRules config rules
    → answers_fit rules.config op entry out ≡ answers_fit config op entry out
same-config config rules op entry out table =
    ap (λ (b : Bool). fit b rules.config.write_through) table.read ∙ ap (λ (b : Bool). fit config.read_through b) table.write
  where
    fit : Bool → Bool → Bool
    fit read write = answers_fit (record config { read_through = read; write_through = write }) op entry out

step-leads : (b : Bool) (config : Config) (rules : Rules) (key : Bytes) (caller : Caller) (step : NewStep) (cache next : Cache) (s : Spot)
    → AreTableRules config rules → pointwise ◌==◌ step.key key ≡ b → s.entry ≡ entry_at cache key → Seq config cache step next
    → FitsIf b rules s (Step caller step.op step.key step.out None step.reply)
    × ((spot_if b rules s (Step caller step.op step.key step.out None step.reply)).entry ≡ entry_at (seq_cache cache step) key)
step-leads true config rules key caller step cache next s table at is seq =
    let found : s.entry ≡ entry_at cache step.key = is ∙ ap (entry_at cache) (sym (is-key step.key key at)) in (
      (
        same-config config rules step.op s.entry step.out table ∙ ap (λ (e : Option Bytes). answers_fit config step.op e step.out) found ∙ seq.answers,
        seq.reply ∙ ap (λ (e : Option Bytes). reply_after step.op e step.out) (sym found),
      ),
      ap (λ (e : Option Bytes). entry_after step.op e step.out) found
          ∙ sym (get-with_entry cache step.key (seq_entry cache step) key
          ∙ ap (λ (b : Bool). cond b (seq_entry cache step) (entry_at cache key)) (compared key step.key true at)),
    )
step-leads false config rules key caller step cache next s table at is seq = (
  tt,
  is ∙ sym (get-with_entry cache step.key (seq_entry cache step) key
      ∙ ap (λ (b : Bool). cond b (seq_entry cache step) (entry_at cache key)) (compared key step.key false at)),
)

-- 6. Those that share its load.

abbrev MayShare : Bool → Spot → LoadAnswer → Type 0
MayShare true s answer = (s.shared ≡ answer) × (is_load_given answer ≡ true)
MayShare false s answer = Unit {0}

shared-fits : (b : Bool) (rules : Rules) (key : Bytes) (place : ℕ) (answer : LoadAnswer) (s : Spot) (caller : Caller) → MayShare b s answer
    → FitsIf b rules s (shared_event place key answer caller) × (spot_if b rules s (shared_event place key answer caller) ≡ s)
shared-fits true rules key place answer s caller may =
    ((refl, ap is_load_given may.0 ∙ may.1, ap shared_reply (sym may.0)), refl)
shared-fits false rules key place answer s caller may = (tt, refl)

-- the events of those that join change nothing
shared-walks : (rules : Rules) (key own : Bytes) (place : ℕ) (answer : LoadAnswer) (s : Spot) (callers : List Caller)
    → MayShare (pointwise ◌==◌ own key) s answer
    → Walks rules key s (map (shared_event place own answer) callers) × (spot_over rules key s (map (shared_event place own answer) callers) ≡ s)
shared-walks rules key own place answer s [] may = (tt, refl)
shared-walks rules key own place answer s (caller ∷ callers) may =
    let one = shared-fits (pointwise ◌==◌ own key) rules own place answer s caller may in
    let rest = shared-walks rules key own place answer s callers may in (
      (one.0, subst (λ (x : Spot). Walks rules key x (map (shared_event place own answer) callers)) (sym one.1) rest.0),
      ap (λ (x : Spot). spot_over rules key x (map (shared_event place own answer) callers)) one.1 ∙ rest.1,
    )

shares : (b : Bool) (config : Config) (rules : Rules) (key : Bytes) (cache : Cache) (group : Group) (s : Spot) → AreTableRules config rules
    → pointwise ◌==◌ group.step.key key ≡ b → s.entry ≡ entry_at (cache_before_step cache group) key → is_joinable config cache group ≡ true
    → MayShare b (spot_if b rules s (step_event group)) group.step.out.load
shares false config rules key cache group s table at is joinable = tt
shares true config rules key cache group s table at is joinable =
    let parts = and_parts (config.read_through && loads_whole group.step.op && is_none (entry_at (cache_before_step cache group) group.step.key))
    (is_load_given group.step.out.load) joinable in
    let found : s.entry ≡ entry_at (cache_before_step cache group) group.step.key =
    is ∙ ap (entry_at (cache_before_step cache group)) (sym (is-key group.step.key key at)) in (
      ap (λ (b : Bool). cond b group.step.out.load load.NotAsked)
          (ap (λ (b : Bool). b && loads_whole group.step.op && is_none s.entry) table.read
          ∙ ap (λ (e : Option Bytes). config.read_through && loads_whole group.step.op && is_none e) found ∙ parts.0),
      parts.1,
    )

joined-walks : (config : Config) (rules : Rules) (key : Bytes) (cache : Cache) (group : Group) (place : ℕ) (s : Spot) (callers : List Caller)
    → AreTableRules config rules → s.entry ≡ entry_at (cache_before_step cache group) key → joined_fits config cache group callers ≡ true
    → let next = spot_if (pointwise ◌==◌ group.step.key key) rules s (step_event group) in
    let events = map (shared_event place group.step.key group.step.out.load) callers in
    Walks rules key next events × (spot_over rules key next events ≡ next)
joined-walks config rules key cache group place s [] table is fits = (tt, refl)
joined-walks config rules key cache group place s (caller ∷ callers) table is fits =
    shared-walks rules key group.step.key place group.step.out.load (spot_if (pointwise ◌==◌ group.step.key key) rules s (step_event group))
    (caller ∷ callers) (shares (pointwise ◌==◌ group.step.key key) config rules key cache group s table refl is fits)

-- 7. Groups, and parts.

after-step : (config : Config) (rules : Rules) (key : Bytes) (cache : Cache) (group : Group) (place : ℕ) (s : Spot) → AreTableRules config rules
    → s.entry ≡ entry_at (cache_before_step cache group) key → IsLawful config cache group
    → Leads rules key s
    (step_event group ∷ map (shared_event place group.step.key group.step.out.load) group.joined ++ evicted_events group.step.key group.evicted)
    (entry_at (cache_after_group cache group) key)
after-step config rules key cache group place s table is lawful =
    let one = step-leads (pointwise ◌==◌ group.step.key key) config rules key group.caller group.step (cache_before_step cache group)
    (cache_after_step cache group) s table refl is lawful.step.seq in
    let next : Spot = spot_if (pointwise ◌==◌ group.step.key key) rules s (step_event group) in
    let events : List Event = map (shared_event place group.step.key group.step.out.load) group.joined in
    let others = joined-walks config rules key cache group place s group.joined table is lawful.joined in
    let last = evicted-leads rules key group.step.key group.evicted (cache_after_step cache group) (spot_over rules key next events)
    (ap (λ (x : Spot). x.entry) others.1 ∙ one.1) in
    let rest = leads-on rules key next events (evicted_events group.step.key group.evicted) (entry_at (cache_after_group cache group) key)
    others.0 last in
    ((one.0, rest.0), rest.1)

group-leads : (config : Config) (rules : Rules) (key : Bytes) (cache : Cache) (group : Group) (place : ℕ) (s : Spot) → AreTableRules config rules
    → s.entry ≡ entry_at cache key → IsLawful config cache group
    → Leads rules key s (events_of place group) (entry_at (cache_after_group cache group) key)
group-leads config rules key cache group place s table is lawful =
    let first = victim-leads rules key group.victim cache s is in
    let own : List Event = step_event group ∷ map (shared_event (step_place place group) group.step.key group.step.out.load) group.joined in
    let entry : Option Bytes = entry_at (cache_after_group cache group) key in
    let all : Leads rules key s (victim_events group.victim ++ (own ++ evicted_events group.step.key group.evicted)) entry =
    leads-on rules key s (victim_events group.victim) (own ++ evicted_events group.step.key group.evicted) entry first.0
    (after-step config rules key cache group (step_place place group) (spot_over rules key s (victim_events group.victim)) table first.1 lawful) in
    subst (λ (events : List Event). Leads rules key s events entry) (sym (append_assoc (victim_events group.victim) own (evicted_events group.step.key group.evicted))) all

walks-on : (rules : Rules) (key : Bytes) (s : Spot) (xs ys : List Event) → Walks rules key s xs → Walks rules key (spot_over rules key s xs) ys
    → Walks rules key s (xs ++ ys)
walks-on rules key s xs ys first next = (leads-on rules key s xs ys _ first (next, refl)).0

part-leads : (config : Config) (rules : Rules) (key : Bytes) (cache : Cache) (part : Part) (place : ℕ) (s : Spot) → AreTableRules config rules
    → s.entry ≡ entry_at cache key → IsLawfulPart config cache part
    → Leads rules key s (part_events place part) (entry_at (cache_after_part cache part) key)
part-leads config rules key cache (Made group) place s table is lawful = group-leads config rules key cache group place s table is lawful
part-leads config rules key cache (Dropped gone) place s table is lawful =
    let one = evict-leads (is_at key (Evict gone Invalidated)) rules key gone Invalidated cache s refl is in ((one.0, tt), one.1)

pub lawful-walks : (config : Config) (rules : Rules) (key : Bytes) (parts : List Part) (cache : Cache) (place : ℕ) (s : Spot)
    → AreTableRules config rules → s.entry ≡ entry_at cache key → AreLawful config cache parts → Walks rules key s (history_of place parts)
lawful-walks config rules key [] cache place s table is lawful = tt
lawful-walks config rules key (part ∷ parts) cache place s table is lawful =
    let one = part-leads config rules key cache part place s table is lawful.0 in
    walks-on rules key s (part_events place part) (history_of (place + length (part_events place part)) parts) one.0
    (lawful-walks config rules key parts (cache_after_part cache part) (place + length (part_events place part))
    (spot_over rules key s (part_events place part)) table one.1 lawful.1)

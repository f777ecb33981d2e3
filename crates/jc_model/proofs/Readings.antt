-- What is read event by event is what groups spell, and nothing else.
use Rattle.std.proofs.Common.{◌≡◌, inl, inr, ⊎_elim, ◌+◌, ℕ, List, [], ◌∷◌, ◌++◌, map, Option, None, Some, refl, sym, ap, ◌∙◌, subst, append_assoc, append-nil}
use Rattle.std.specs.FinMap.{remove}
use Rattle.jc_types.specs.declared.config.Config.{Config}
use Rattle.jc_types.specs.declared.caller.Caller.{Caller}
use Rattle.jc_model.specs.declared.event.Cause.{Cause}
use Rattle.jc_model.specs.declared.event.Cause.TheVariants.{Full, Memory, Invalidated}
use Rattle.jc_model.specs.declared.event.Event.{Event}
use Rattle.jc_model.specs.declared.event.Event.TheVariants.{Step, Evict}
use Rattle.jc_model.specs.Cache.{Bytes, Cache}
use Rattle.jc_model.specs.Group.{Group, Part, Made, Dropped, events_of, victim_events, step_event, evicted_events, step_place, shared_event, history_of, cache_after_group}
use Rattle.jc_model.specs.Lawful.{IsLawful, AreLawful}
use Rattle.jc_model.specs.Table.{NewStep}
use Rattle.jc_model.specs.Reader.{read_group}
use Rattle.jc_model.proofs.Reading.{Phase, Between, Chosen, Open, with_joined, with_evicted, behind, begun, chosen_begun, Reads}

-- the events of a phase's group so far
abbrev so_far : Phase → List Event
so_far (Between place cache) = []
so_far (Chosen place cache key) = Evict key Full ∷ []
so_far (Open place cache group) = events_of place group

abbrev start_of : Phase → ℕ
start_of (Between place cache) = place
start_of (Chosen place cache key) = place
start_of (Open place cache group) = place

abbrev cache_of : Phase → Cache
cache_of (Between place cache) = cache
cache_of (Chosen place cache key) = cache
cache_of (Open place cache group) = cache

-- no eviction has ended the phase's group
abbrev IsFresh : Phase → Type 0
IsFresh (Between place cache) = Unit {0}
IsFresh (Chosen place cache key) = Unit {0}
IsFresh (Open place cache group) = group.evicted ≡ None

-- groups that spell the events, from a place and a cache on
pub record Spells (config : Config) (place : ℕ) (cache : Cache) (events : List Event) : Type 0 where
  pub parts : List Part
  pub spelled : events ≡ history_of place parts
  pub lawful : AreLawful config cache parts

-- a phase reached by one event from between two groups
begun_so_far : (place : ℕ) (cache : Cache) (e : Event) (phase : Phase) → begun place cache e ≡ Some phase → (so_far phase ≡ e ∷ []) × (start_of phase ≡ place) × (cache_of phase ≡ cache) × IsFresh phase
begun_so_far place cache (Step who op key out None reply) phase h =
    let P : Phase → Type 0 = λ p. (so_far p ≡ Step who op key out None reply ∷ []) × (start_of p ≡ place) × (cache_of p ≡ cache) × IsFresh p in
    let is : Open place cache (read_group None who op key out reply) ≡ phase = cc in subst P is (refl, refl, refl, refl)
begun_so_far place cache (Step who op key out (Some other) reply) phase h = cc
begun_so_far place cache (Evict key Full) phase h =
    let P : Phase → Type 0 = λ p. (so_far p ≡ Evict key Full ∷ []) × (start_of p ≡ place) × (cache_of p ≡ cache) × IsFresh p in
    let is : Chosen place cache key ≡ phase = cc in subst P is (refl, refl, refl, tt)
begun_so_far place cache (Evict key Memory) phase h = cc
begun_so_far place cache (Evict key Invalidated) phase h = cc

chosen_so_far : (place : ℕ) (cache : Cache) (key : Bytes) (e : Event) (phase : Phase) → chosen_begun place cache key e ≡ Some phase → (so_far phase ≡ Evict key Full ∷ e ∷ []) × (start_of phase ≡ place) × (cache_of phase ≡ cache) × IsFresh phase
chosen_so_far place cache victim (Step who op key out None reply) phase h =
    let P : Phase → Type 0 = λ p. (so_far p ≡ Evict victim Full ∷ Step who op key out None reply ∷ []) × (start_of p ≡ place) × (cache_of p ≡ cache) × IsFresh p in
    let is : Open place cache (read_group (Some victim) who op key out reply) ≡ phase = cc in subst P is (refl, refl, refl, refl)
chosen_so_far place cache victim (Step who op key out (Some other) reply) phase h = cc
chosen_so_far place cache victim (Evict key cause) phase h = cc

map-push : {A B : Type 0} (f : A → B) (xs : List A) (x : A) → map f (xs ++ x ∷ []) ≡ map f xs ++ f x ∷ []
map-push f [] x = refl
map-push f (y ∷ ys) x = ap (λ zs. f y ∷ zs) (map-push f ys x)

-- a joined step, and an eviction, go to the end of a group that has no eviction yet
pub joined_so_far : (place : ℕ) (group : Group) (caller : Caller) → group.evicted ≡ None → events_of place (with_joined group caller) ≡ events_of place group ++ shared_event (step_place place group) group.step.key group.step.out.load caller ∷ []
joined_so_far place group caller h =
    let f : Caller → Event = shared_event (step_place place group) group.step.key group.step.out.load in
    let front : List Event → List Event = λ m. victim_events group.victim ++ (step_event group ∷ m) in
    ap (λ o. front (map f (group.joined ++ caller ∷ [])) ++ evicted_events group.step.key o) h ∙ append-nil (front (map f (group.joined ++ caller ∷ [])))
    ∙ ap front (map-push f group.joined caller)
    ∙ sym (append_assoc (victim_events group.victim) (step_event group ∷ map f group.joined) (f caller ∷ []))
    ∙ ap (λ y. y ++ f caller ∷ []) (sym (ap (λ o. front (map f group.joined) ++ evicted_events group.step.key o) h ∙ append-nil (front (map f group.joined))))

pub evicted_so_far : (place : ℕ) (group : Group) (cause : Cause) → group.evicted ≡ None → events_of place (with_evicted group cause) ≡ events_of place group ++ Evict group.step.key cause ∷ []
evicted_so_far place group cause h =
    let f : Caller → Event = shared_event (step_place place group) group.step.key group.step.out.load in
    let front : List Event = victim_events group.victim ++ (step_event group ∷ map f group.joined) in
    ap (λ y. y ++ Evict group.step.key cause ∷ []) (sym (ap (λ o. front ++ evicted_events group.step.key o) h ∙ append-nil front))

moved : (config : Config) (p q : ℕ) (c d : Cache) (xs ys : List Event) → p ≡ q → c ≡ d → xs ≡ ys → Spells config p c xs → Spells config q d ys
moved config p q c d xs ys e f g s =
    let P : ℕ → Type 0 = λ p. Spells config p c xs in
    let Q : Cache → Type 0 = λ c. Spells config q c xs in
    let R : List Event → Type 0 = λ xs. Spells config q d xs in
    subst R g (subst Q f (subst P e s))

-- what can be read is spelled by lawful groups
pub sound : (config : Config) (phase : Phase) (es : List Event) → IsFresh phase → Reads config phase es → Spells config (start_of phase) (cache_of phase) (so_far phase ++ es)
sound config (Between p c) [] fresh r = record { parts = []; spelled = refl; lawful = tt }
sound config (Chosen p c key) [] fresh r = absurd r
sound config (Open p c g) [] fresh r = record { parts = Made g ∷ []; spelled = refl; lawful = (r, tt) }
sound config (Between p c) (e ∷ es) fresh (inl r) =
    let k = begun_so_far p c e r.0 r.1 in
    moved config _ _ _ _ _ _ k.1 k.2 (ap (λ x. x ++ es) k.0) (sound config r.0 es k.3 r.2)
sound config (Between p c) (e ∷ es) fresh (inr d) =
    let rest = sound config (Between (p + 1) (remove c d.0)) es tt d.3 in
    record { parts = Dropped d.0 ∷ rest.parts; spelled = ap (λ x. x ∷ es) d.1 ∙ ap (λ h. Evict d.0 Invalidated ∷ h) rest.spelled; lawful = (d.2, rest.lawful) }
sound config (Chosen p c key) (e ∷ es) fresh r =
    let k = chosen_so_far p c key e r.0 r.1 in
    moved config _ _ _ _ _ _ k.1 k.2 (ap (λ x. x ++ es) k.0) (sound config r.0 es k.3 r.2)
sound config (Open p c g) (e ∷ es) fresh (inl a) =
    moved config p p c c _ _ refl refl
    (ap (λ x. x ++ es) (joined_so_far p g a.0 fresh) ∙ append_assoc (events_of p g) _ es ∙ ap (λ y. events_of p g ++ y ∷ es) (sym a.1))
    (sound config (Open p c (with_joined g a.0)) es fresh a.2)
sound config (Open p c g) (e ∷ es) fresh (inr (inl b)) =
    let whole = with_evicted g b.0 in
    let rest = sound config (Between (behind p whole) (cache_after_group c whole)) es tt b.3 in
    record {
      parts = Made whole ∷ rest.parts;
      spelled = ap (λ y. events_of p g ++ y ∷ es) b.1 ∙ sym (append_assoc (events_of p g) (Evict g.step.key b.0 ∷ []) es) ∙ ap (λ x. x ++ es) (sym (evicted_so_far p g b.0 fresh)) ∙ ap (λ h. events_of p whole ++ h) rest.spelled;
      lawful = (b.2, rest.lawful);
    }
sound config (Open p c g) (e ∷ es) fresh (inr (inr (inl d))) =
    let k = begun_so_far (behind p g) (cache_after_group c g) e d.0 d.1 in
    let rest = moved config _ (behind p g) _ (cache_after_group c g) _ (e ∷ es) k.1 k.2 (ap (λ x. x ++ es) k.0) (sound config d.0 es k.3 d.3) in
    record { parts = Made g ∷ rest.parts; spelled = ap (λ h. events_of p g ++ h) rest.spelled; lawful = (d.2, rest.lawful) }
sound config (Open p c g) (e ∷ es) fresh (inr (inr (inr d))) =
    let rest = sound config (Between (behind p g + 1) (remove (cache_after_group c g) d.0)) es tt d.4 in
    record {
      parts = Made g ∷ Dropped d.0 ∷ rest.parts;
      spelled = ap (λ x. events_of p g ++ x ∷ es) d.1 ∙ ap (λ h. events_of p g ++ Evict d.0 Invalidated ∷ h) rest.spelled;
      lawful = (d.2, (d.3, rest.lawful));
    }

-- what is left of a group, and what follows it, can be read
complete_joined : (config : Config) (place : ℕ) (cache : Cache) (g : Group) (js : List Caller) (ev : Option Cause) (rest : List Event) (whole : Group) → whole ≡ record g { joined = g.joined ++ js; evicted = ev } → g.evicted ≡ None
    → IsLawful config cache whole → Reads config (Between (behind place whole) (cache_after_group cache whole)) rest
    → Reads config (Open place cache g) ((map (shared_event (step_place place g) g.step.key g.step.out.load) js ++ evicted_events g.step.key ev) ++ rest)
complete_joined config place cache g (c ∷ js) ev rest whole is fresh lawful reads =
    inl (c, refl, complete_joined config place cache (with_joined g c) js ev rest whole (is ∙ ap (λ j. record g { joined = j; evicted = ev }) (sym (append_assoc g.joined (c ∷ []) js))) fresh lawful reads)
complete_joined config place cache g [] (Some cause) rest whole is fresh lawful reads =
    let same : whole ≡ with_evicted g cause = is ∙ ap (λ j. record g { joined = j; evicted = Some cause }) (append-nil g.joined) in
    let P : Group → Type 0 = λ w. IsLawful config cache w in
    let Q : Group → Type 0 = λ w. Reads config (Between (behind place w) (cache_after_group cache w)) rest in
    inr (inl (cause, refl, subst P same lawful, subst Q same reads))
complete_joined config place cache g [] None [] whole is fresh lawful reads =
    let same : whole ≡ g = is ∙ (λ i. record g { joined = append-nil g.joined i; evicted = sym fresh i }) in
    let P : Group → Type 0 = λ w. IsLawful config cache w in
    subst P same lawful
complete_joined config place cache g [] None (e ∷ es) whole is fresh lawful reads =
    let same : whole ≡ g = is ∙ (λ i. record g { joined = append-nil g.joined i; evicted = sym fresh i }) in
    let P : Group → Type 0 = λ w. IsLawful config cache w in
    let Q : Group → Type 0 = λ w. Reads config (Between (behind place w) (cache_after_group cache w)) (e ∷ es) in
    let whole_lawful = subst P same lawful in
    ⊎_elim (λ next. inr (inr (inl (next.0, next.1, whole_lawful, next.2)))) (λ d. inr (inr (inr (d.0, d.1, whole_lawful, d.2, d.3)))) (subst Q same reads)

complete_group : (config : Config) (place : ℕ) (cache : Cache) (victim : Option Bytes) (who : Caller) (made : NewStep) (joined : List Caller) (ev : Option Cause) (rest : List Event)
    → IsLawful config cache (record { victim = victim; caller = who; step = made; joined = joined; evicted = ev })
    → Reads config (Between (behind place (record { victim = victim; caller = who; step = made; joined = joined; evicted = ev })) (cache_after_group cache (record { victim = victim; caller = who; step = made; joined = joined; evicted = ev }))) rest
    → Reads config (Between place cache) (events_of place (record { victim = victim; caller = who; step = made; joined = joined; evicted = ev }) ++ rest)
complete_group config place cache None who made joined ev rest lawful reads =
    let g = read_group None who made.op made.key made.out made.reply in
    inl (Open place cache g, refl, complete_joined config place cache g joined ev rest _ refl refl lawful reads)
complete_group config place cache (Some v) who made joined ev rest lawful reads =
    let g = read_group (Some v) who made.op made.key made.out made.reply in
    inl (Chosen place cache v, refl, (Open place cache g, refl, complete_joined config place cache g joined ev rest _ refl refl lawful reads))

-- what lawful parts spell can be read
pub complete : (config : Config) (place : ℕ) (cache : Cache) (parts : List Part) → AreLawful config cache parts → Reads config (Between place cache) (history_of place parts)
complete config place cache [] lawful = tt
complete config place cache (Made g ∷ ps) lawful =
    complete_group config place cache g.victim g.caller g.step g.joined g.evicted (history_of (behind place g) ps) lawful.0 (complete config (behind place g) (cache_after_group cache g) ps lawful.1)
complete config place cache (Dropped key ∷ ps) lawful = inr (key, refl, lawful.0, complete config (place + 1) (remove cache key) ps lawful.1)

-- to be read is to be spelled
pub reads_iff : (config : Config) (cache : Cache) (es : List Event) → (Reads config (Between 0 cache) es → Spells config 0 cache es) × (Spells config 0 cache es → Reads config (Between 0 cache) es)
reads_iff config cache es = (
  λ r. sound config (Between 0 cache) es tt r,
  λ s. let P : List Event → Type 0 = λ es. Reads config (Between 0 cache) es in subst P (sym s.spelled) (complete config 0 cache s.parts s.lawful),
)

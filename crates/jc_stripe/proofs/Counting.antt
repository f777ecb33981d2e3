-- What is counted of a group that is appended is what occurred.
--     occurrences-append    a row of events finds what the first part of it left, and then the rest
--     occurrences-past      what occurred in one more generation that has ended comes behind
--     append_none           the past with no event more
--     appended_group        what is appended in parts is appended as a group
--     counted_group         a stripe's counts with a group are those of what occurred with it
use Rattle.std.proofs.Common.{◌≡◌, ℕ, ◌+◌, ◌-◌, ◌≤◌, List, [], ◌∷◌, ◌++◌, Bool, true, false, map, length, cond, Option, None, Some, is_none, is_some, refl, sym, ap, ◌∙◌, append_assoc, arith}
use Rattle.std.specs.FinMap as finite
use Rattle.std.proofs.Math.Nat.{sub-zero}
use Rattle.std.proofs.lemmas.List.{append-nil, length-append}
use Rattle.std.proofs.lemmas.Bool.{and_parts}
use Rattle.jc_types.specs.declared.caller.Caller.{Caller}
use Rattle.jc_model.specs.declared.event.Cause.{Cause}
use Rattle.jc_model.specs.declared.event.Event.{Event}
use Rattle.jc_model.specs.declared.event.LoadAnswer.{LoadAnswer}
use Rattle.jc_model.specs.declared.event.Op.{Op}
use Rattle.jc_model.specs.declared.event.Out.{Out}
use Rattle.jc_model.specs.declared.statistics.Statistics.{Statistics}
use Rattle.jc_model.specs.Cache.{Bytes, key_cmp}
use Rattle.jc_model.specs.Group.{victim_events, shared_event, evicted_events}
use Rattle.jc_model.specs.Listed.{others}
use Rattle.jc_model.specs.Statistics.{Occurrence, StatisticsLaws, statistics_of, with_event}
use Rattle.jc_model.specs.Table.{entry_after}
use Rattle.jc_model.proofs.CallerLemmas.{missing-others}
use Rattle.jc_entries.specs.ByUse.{ByUse, lru_victim}
use Rattle.jc_history.specs.Past.{Past, unpromise}
use Rattle.jc_stripe.specs.OrderOfUse.{by_use, order_after_event}
use Rattle.jc_stripe.specs.State.{Generation}
use Rattle.jc_stripe.specs.Occurrences.{has_entry, occurrences, past_occurrences}
use Rattle.jc_stripe.specs.Appending.{NewGroup, new_step, group_events, count_all, append_all, append_group, inserts_into, overflows_in, victim_in}

-- 1. Rows of events.

pub occurrences-append : (entries : List (Bytes × Bytes)) (first second : List Event) → occurrences entries (first ++ second) ≡ occurrences entries first ++ occurrences (by_use entries first) second
occurrences-append entries [] second = refl
occurrences-append entries (e ∷ es) second = ap (λ (os : List Occurrence). record { found = has_entry entries e; event = e } ∷ os) (occurrences-append (order_after_event entries e) es second)

pub occurrences-past : (ended : List Generation) (last : Generation) → past_occurrences (ended ++ last ∷ []) ≡ past_occurrences ended ++ occurrences last.opening last.history
occurrences-past [] last = append-nil (occurrences last.opening last.history)
occurrences-past (g ∷ gs) last = ap (λ os. occurrences g.opening g.history ++ os) (occurrences-past gs last) ∙ sym (append_assoc (occurrences g.opening g.history) (past_occurrences gs) (occurrences last.opening last.history))

-- the counts with more that occurred
abbrev add_all : List Occurrence → Statistics → Statistics
add_all [] counts = counts
add_all (o ∷ os) counts = add_all os (with_event counts o.found o.event)

add_all-of : StatisticsLaws → (before more : List Occurrence) → statistics_of (before ++ more) ≡ add_all more (statistics_of before)
add_all-of laws before [] = ap statistics_of (append-nil before)
add_all-of laws before (o ∷ os) =
    ap statistics_of (sym (append_assoc before (o ∷ []) os)) ∙ add_all-of laws (before ++ o ∷ []) os ∙ ap (add_all os) (laws.one_more before o)

-- 2. Events that count alike, whatever they found.

abbrev Blind : Event → Type 0
Blind event = (counts : Statistics) (found other : Bool) → with_event counts found event ≡ with_event counts other event

abbrev AllBlind : List Event → Type 0
AllBlind [] = Unit {0}
AllBlind (e ∷ es) = Blind e × AllBlind es

blind_rest : (found : Bool) (entries : List (Bytes × Bytes)) (events : List Event) (counts : Statistics) → AllBlind events → count_all found events counts ≡ add_all (occurrences entries events) counts
blind_rest found entries [] counts all = refl
blind_rest found entries (e ∷ es) counts all =
    ap (count_all found es) (all.0 counts found _) ∙ blind_rest found (order_after_event entries e) es _ all.1

blind_gone : (key : Bytes) (evicted : Option Cause) → AllBlind (evicted_events key evicted)
blind_gone key None = tt
blind_gone key (Some cause) = (λ counts found other. refl, tt)

blind_shared : (place : ℕ) (key : Bytes) (answer : LoadAnswer) (callers : List Caller) (rest : List Event) → AllBlind rest → AllBlind (map (shared_event place key answer) callers ++ rest)
blind_shared place key answer [] rest all = all
blind_shared place key answer (c ∷ cs) rest all = (λ counts found other. refl, blind_shared place key answer cs rest all)

-- 3. A step, and what belongs to it.

-- a step whose victim goes before it has found no entry
victim_missing : (entries : ByUse) (keys : List Bytes) (key gone : Bytes) (op : Op) (out : Out) → Some gone ≡ victim_in entries keys key op out → is_none (finite.find key_cmp key entries.list) ≡ true
victim_missing entries keys key gone op out is = of_victim (overflows_in entries key op out) refl is
  where
    of_victim : (b : Bool) → overflows_in entries key op out ≡ b → Some gone ≡ cond b (lru_victim entries.list keys) None → is_none (finite.find key_cmp key entries.list) ≡ true
    of_victim true e h =
        (and_parts (is_none (finite.find key_cmp key entries.list)) (is_some (entry_after op (finite.find key_cmp key entries.list) out))
        (and_parts (inserts_into entries.list key op out) _ e).0).0
    of_victim false e h = cc

not_there : (o : Option Bytes) → is_none o ≡ true → is_some o ≡ false
not_there None h = refl
not_there (Some value) h = cc

-- it finds the same without its victim
same_found : (entries : ByUse) (keys : List Bytes) (key gone : Bytes) (op : Op) (out : Out) → Some gone ≡ victim_in entries keys key op out
    → is_some (finite.find key_cmp key entries.list) ≡ is_some (finite.find key_cmp key (others gone entries.list))
same_found entries keys key gone op out is =
    let missing = victim_missing entries keys key gone op out is in
    not_there _ missing ∙ sym (not_there _ (missing-others gone key entries.list missing))

count_group : (entries : ByUse) (keys : List Bytes) (place : ℕ) (made : NewGroup) (callers : List Caller) (counts : Statistics) → made.victim ≡ victim_in entries keys made.key made.op made.out
    → made.found ≡ is_some (finite.find key_cmp made.key entries.list)
    → count_all made.found (group_events place made callers) counts ≡ add_all (occurrences entries.list (group_events place made callers)) counts
count_group entries keys place made callers counts victim_is found_is = of_victim made.victim refl
  where
    rest : (at : ℕ) → List Event
    rest at = map (shared_event at made.key made.out.load) callers ++ evicted_events made.key made.evicted

    step : (list : List (Bytes × Bytes)) (at : ℕ) (now : Statistics) → made.found ≡ is_some (finite.find key_cmp made.key list)
        → count_all made.found (new_step made ∷ rest at) now ≡ add_all (occurrences list (new_step made ∷ rest at)) now
    step list at now same =
        ap (λ b. count_all made.found (rest at) (with_event now b (new_step made))) same
        ∙ blind_rest made.found (order_after_event list (new_step made)) (rest at) _ (blind_shared at made.key made.out.load callers _ (blind_gone made.key made.evicted))

    events : Option Bytes → List Event
    events v = victim_events v ++ new_step made ∷ map (shared_event (place + length (victim_events v)) made.key made.out.load) callers ++ evicted_events made.key made.evicted

    of_victim : (v : Option Bytes) → made.victim ≡ v → count_all made.found (events v) counts ≡ add_all (occurrences entries.list (events v)) counts
    of_victim None v = step entries.list (place + length (victim_events None)) counts found_is
    of_victim (Some gone) v =
        step (others gone entries.list) (place + length (victim_events (Some gone))) _ (found_is ∙ same_found entries keys made.key gone made.op made.out (sym v ∙ victim_is))

-- 4. A group that is appended in parts.

count-append : (found : Bool) (first second : List Event) (counts : Statistics) → count_all found (first ++ second) counts ≡ count_all found second (count_all found first counts)
count-append found [] second counts = refl
count-append found (e ∷ es) second counts = count-append found es second (with_event counts found e)

pub append_none : (found : Bool) (past : Past) → append_all found [] past ≡ past
append_none found past = λ i. record past { events = append-nil past.events i; promised = sub-zero past.promised i }

-- a step with a victim before it, and then what shares it and what goes after it; what of the room isn't used is given back
pub appended_group : (found : Bool) (old middle new : Past) (before : List Event) (step : Event) (shared gone : List Event) (kept back : ℕ)
    → middle ≡ append_all found shared (append_all found (before ++ step ∷ []) old)
    → new ≡ unpromise back (append_all found gone middle)
    → back ≡ kept - (length ((append_all found gone middle).events) - length old.events)
    → length (before ++ step ∷ shared ++ gone) ≤ kept
    → new ≡ append_group found (before ++ step ∷ shared ++ gone) kept old
appended_group found old middle new before step shared gone kept back mid is less few =
    let inner : (before ++ step ∷ []) ++ shared ++ gone ≡ before ++ step ∷ shared ++ gone = simp append_assoc in
    let events : ((old.events ++ (before ++ step ∷ [])) ++ shared) ++ gone ≡ old.events ++ (before ++ step ∷ shared ++ gone) =
    append_assoc (old.events ++ (before ++ step ∷ [])) shared gone ∙ append_assoc old.events (before ++ step ∷ []) (shared ++ gone)
    ∙ ap (λ (es : List Event). old.events ++ es) (sym (append_assoc (before ++ step ∷ []) shared gone) ∙ inner) in
    let counts : count_all found gone (count_all found shared (count_all found (before ++ step ∷ []) old.statistics)) ≡ count_all found (before ++ step ∷ shared ++ gone) old.statistics =
    sym (count-append found ((before ++ step ∷ []) ++ shared) gone old.statistics ∙ ap (count_all found gone) (count-append found (before ++ step ∷ []) shared old.statistics))
    ∙ ap (λ (es : List Event). count_all found es old.statistics) inner in
    let all : new ≡ unpromise back (append_all found gone (append_all found shared (append_all found (before ++ step ∷ []) old))) = is ∙ ap (λ p. unpromise back (append_all found gone p)) mid in
    let long : length ((append_all found gone middle).events) ≡ length old.events + length (before ++ step ∷ shared ++ gone) =
    ap (λ (p : Past). length (p.events ++ gone)) mid ∙ ap length events ∙ length-append old.events (before ++ step ∷ shared ++ gone) in
    let parts : length (before ++ step ∷ shared ++ gone) ≡ length (before ++ step ∷ []) + length shared + length gone =
    ap length (sym inner) ∙ length-append ((before ++ step ∷ []) ++ shared) gone ∙ ap (λ n. n + length gone) (length-append (before ++ step ∷ []) shared) in
    let promised : old.promised - length (before ++ step ∷ []) - length shared - length gone - back ≡ old.promised - kept = omega arith in
    all ∙ (λ i. record old { events = events i; promised = promised i; statistics = counts i })

-- 5. A stripe's counts.

pub counted_group : StatisticsLaws → (entries : ByUse) (keys : List Bytes) (place : ℕ) (made : NewGroup) (callers : List Caller) (opening : List (Bytes × Bytes)) (history : List Event)
    → entries.list ≡ by_use opening history → made.victim ≡ victim_in entries keys made.key made.op made.out → made.found ≡ is_some (finite.find key_cmp made.key entries.list)
    → count_all made.found (group_events place made callers) (statistics_of (occurrences opening history)) ≡ statistics_of (occurrences opening (history ++ group_events place made callers))
counted_group laws entries keys place made callers opening history list victim_is found_is =
    count_group entries keys place made callers _ victim_is found_is
    ∙ ap (λ es. add_all (occurrences es (group_events place made callers)) (statistics_of (occurrences opening history))) list
    ∙ sym (add_all-of laws (occurrences opening history) (occurrences (by_use opening history) (group_events place made callers)))
    ∙ ap statistics_of (sym (occurrences-append opening history (group_events place made callers)))

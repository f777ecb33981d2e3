-- A history over all stripes does at a key what the part of the key's stripe does.
use Rattle.std.proofs.Common.{◌≡◌, ℕ, List, [], ◌∷◌, Bool, true, false, cond, sum, sym, subst, ap, refl, ◌∙◌, true≢false}
use Rattle.std.proofs.lemmas.Bool.{eq-eqb}
use Rattle.std.proofs.lemmas.Nat.{mod_below}
use Rattle.jc_types.proofs.CallerLemmas.{some_stripe}
use Rattle.jc_types.specs.declared.config.Config.{Config}
use Rattle.jc_types.specs.Stripes.{stripe_of}
use Rattle.jc_model.specs.declared.event.Event.{Event}
use Rattle.jc_model.specs.Cache.{Bytes, Cache, entry_at}
use Rattle.jc_model.specs.Legal.{IsWholeHistory, event_key, is_of_stripe, of_stripe}
use Rattle.jc_check.specs.declared.record.Recorded.{Recorded}
use Rattle.jc_check.specs.declared.record.Rules.{Rules}
use Rattle.jc_check.specs.declared.record.Spot.{Spot}
use Rattle.jc_check.specs.Explains.{IsExplained}
use Rattle.jc_check.specs.Recording.{AreTableRules, IsRecordOf, is_at}
use Rattle.jc_check.proofs.RecordedTurns.{record-explained}
use Rattle.jc_check.proofs.RecordedWalks.{FitsIf, Walks, is-key, lawful-walks, spot_if}

other-stripe : (b : Bool) (stripes : ℕ) (key : Bytes) (e : Event) → is_at key e ≡ b → is_of_stripe stripes (stripe_of key stripes) e ≡ false
    → is_at key e ≡ false
other-stripe false stripes key e at other = at
other-stripe true stripes key e at other =
    absurd (true≢false
    (sym (eq-eqb (stripe_of (event_key e) stripes) (stripe_of key stripes) (ap (λ (k : Bytes). stripe_of k stripes) (is-key (event_key e) key at))) ∙ other))

with-event : (b : Bool) (stripes : ℕ) (rules : Rules) (key : Bytes) (s : Spot) (e : Event) (part es : List Event)
    → is_of_stripe stripes (stripe_of key stripes) e ≡ b → Walks rules key s (cond b (e ∷ part) part)
    → ((t : Spot) → Walks rules key t part → Walks rules key t es) → Walks rules key s (e ∷ es)
with-event true stripes rules key s e part es of walks rest = (walks.0, rest (spot_if (is_at key e) rules s e) walks.1)
with-event false stripes rules key s e part es of walks rest =
    subst (λ (b : Bool). FitsIf b rules s e × Walks rules key (spot_if b rules s e) es) (sym (other-stripe (is_at key e) stripes key e refl of))
    (tt, rest s walks)

part-walks : (stripes : ℕ) (rules : Rules) (key : Bytes) (es : List Event) (s : Spot)
    → Walks rules key s (of_stripe stripes (stripe_of key stripes) es) → Walks rules key s es
part-walks stripes rules key [] s walks = tt
part-walks stripes rules key (e ∷ es) s walks =
    with-event (is_of_stripe stripes (stripe_of key stripes) e) stripes rules key s e (of_stripe stripes (stripe_of key stripes) es) es refl walks
    (λ t rest. part-walks stripes rules key es t rest)

pub whole-explained : (config : Config) (opening : ℕ → Cache) (events : List Event) (next : ℕ → Cache) (key : Bytes) (rules : Rules)
    (calls : List Recorded) (spot : Spot) → IsWholeHistory config opening events next → AreTableRules config rules
    → spot.entry ≡ entry_at (opening (stripe_of key config.stripes)) key
    → IsRecordOf config key (entry_at (opening (stripe_of key config.stripes)) key) events calls → IsExplained rules calls spot
whole-explained config opening events next key rules calls spot whole table is told =
    let stripe : ℕ = stripe_of key config.stripes in
    let part = whole.parts stripe (mod_below (sum key) config.stripes (some_stripe config whole.config_fits)) in
    record-explained config rules key events calls spot (entry_at (opening stripe) key) table is
    (part-walks config.stripes rules key events spot
    (subst (Walks rules key spot) (sym part.spelled) (lawful-walks config rules key part.parts (opening stripe) 0 spot table is part.lawful)))
    whole.order told

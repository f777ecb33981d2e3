-- What keeps the joiners as every list of joiners is.
use Rattle.std.proofs.Common.{◌≡◌, ℕ, ◌<◌, ◌==◌, ◌&&◌, List, Some, None, true, false, not, length, get_or, map, refl, ap, sym, ◌∙◌, subst, arith, length-append}
use Rattle.std.proofs.lemmas.Cmp.{nat_eq_equiv}
use Rattle.std.proofs.lemmas.List.{length-map, get_or-map}
use Rattle.std.proofs.lemmas.List.Folds.{list_any_at}
use Rattle.std.proofs.lemmas.List.Kept.{AllPairs-filter}
use Rattle.std.proofs.lemmas.List.Quantifiers.{all_pairs_push}
use Rattle.std.proofs.lemmas.List.Sums.{length-filter, count_by-le-length}
use Rattle.std.specs.List.{AllPairs, position, remove}
use Rattle.std.specs.Option.{option_map}
use Rattle.std.specs.Cmp.Lexicographic.{pointwise, nat_list_eq_equiv}
use Rattle.jc_types.specs.declared.caller.Caller.{Caller}
use Rattle.jc_types.specs.declared.limits.TheConstants.{JOINERS_MAX}
use Rattle.jc_model.specs.Cache.{Bytes}
use Rattle.jc_inflight.specs.declared.joiner.Joiner.{Joiner}
use Rattle.jc_inflight.specs.declared.joiner.JoinState.TheVariants.{Waiting}
use Rattle.jc_inflight.specs.Joining.{belongs_to, has_joined, joiners_with}
use Rattle.jc_inflight.specs.Taking.{join_state_of, joiners_without}
use Rattle.jc_inflight.specs.IsJoinerList.{IsJoinerList}
use Rattle.jc_types.proofs.CallerLemmas.{find_at_place, find_nowhere, remove_at_place}
use Rattle.jc_inflight.proofs.CallerLemmas.{call_of, belongs_to_one}

-- what holds of each two calls holds in every list of the same calls
alike_pairs : {X C : Type 0} (f : X → C) (R : C → C → Type 0) (xs ys : List X) → map f xs ≡ map f ys → AllPairs (λ x y. R (f x) (f y)) xs → AllPairs (λ x y. R (f x) (f y)) ys
alike_pairs {X} {C} f R xs ys same h i j d lt within =
    let long : length xs ≡ length ys = sym (length-map xs f) ∙ ap length same ∙ length-map ys f in
    let at : (k : ℕ) → k < length ys → f (get_or xs k d) ≡ f (get_or ys k d) = λ k l.
    sym (get_or-map f xs k d (f d) (omega arith)) ∙ ap (λ cs. get_or cs k (f d)) same ∙ get_or-map f ys k d (f d) l
    in
    let P : C → Type 0 = λ x. R x (f (get_or xs j d)) in
    let Q : C → Type 0 = λ y. R (f (get_or ys i d)) y in
    subst Q (at j within) (subst P (at i (omega arith)) (h i j d lt (omega arith)))

abbrev Differ : Caller × Bytes → Caller × Bytes → Type 0
Differ a b = ((b.0.session == a.0.session) && (b.0.call == a.0.call) && pointwise ◌==◌ a.1 b.1) ≡ false

pub IsJoinerList-alike : (joiners others : List Joiner) → map call_of joiners ≡ map call_of others → IsJoinerList joiners → IsJoinerList others
IsJoinerList-alike joiners others same is =
    let long : length joiners ≡ length others = sym (length-map joiners call_of) ∙ ap length same ∙ length-map others call_of in
    record {
      few = let f = is.few in omega arith;
      once = alike_pairs call_of Differ joiners others same is.once;
    }

-- whether two joiners are of one call is asked of either
belongs_to-symmetric : (a b : Joiner) → belongs_to a.caller a.key b ≡ belongs_to b.caller b.key a
belongs_to-symmetric a b = λ i. nat_eq_equiv.symm b.caller.session a.caller.session i && nat_eq_equiv.symm b.caller.call a.caller.call i && nat_list_eq_equiv.symm a.key b.key i

-- a call that has not joined is that of no joiner
other_call : (new : Joiner) (joiners : List Joiner) (k : ℕ) (d : Joiner) → k < length joiners → has_joined new.caller new.key joiners ≡ false
    → belongs_to (get_or joiners k d).caller (get_or joiners k d).key new ≡ false
other_call new joiners k d within free =
    let j = get_or joiners k d in
    elim (belongs_to new.caller new.key j) as (λ b. belongs_to new.caller new.key j ≡ b → belongs_to j.caller j.key new ≡ false) [
      | true ↦ λ e. let found = list_any_at (belongs_to new.caller new.key) joiners k d within e in cc
      | false ↦ λ e. belongs_to-symmetric j new ∙ e
    ] refl

pub IsJoinerList-with : (caller : Caller) (key : Bytes) (load : ℕ) (joiners : List Joiner) → IsJoinerList joiners → length joiners < JOINERS_MAX → has_joined caller key joiners ≡ false
    → IsJoinerList (joiners_with caller key load joiners)
IsJoinerList-with caller key load joiners is room free =
    let new : Joiner = record { caller = caller; key = key; load = load; state = Waiting } in
    record {
      few = simp length-append (omega arith);
      once = all_pairs_push (λ j later. belongs_to j.caller j.key later ≡ false) joiners new is.once (λ k d l. other_call new joiners k d l free);
    }

pub IsJoinerList-without : (caller : Caller) (key : Bytes) (joiners : List Joiner) → IsJoinerList joiners → IsJoinerList (joiners_without caller key joiners)
IsJoinerList-without caller key joiners is =
    let others = λ (j : Joiner). not (belongs_to caller key j) in
    record {
      few = let f = is.few in omega (arith, length-filter others joiners, count_by-le-length others joiners);
      once = AllPairs-filter (λ j later. belongs_to j.caller j.key later ≡ false) others joiners is.once;
    }

-- the joiner at a caller's place, and the joiners without it
pub state_at_place : (caller : Caller) (key : Bytes) (joiners : List Joiner) (i : ℕ) (j : Joiner) → position (belongs_to caller key) joiners ≡ Some i → j ≡ get_or joiners i j
    → join_state_of caller key joiners ≡ Some j.state
state_at_place caller key joiners i j at is = ap (option_map (λ x. x.state)) (find_at_place (belongs_to caller key) joiners i j at is)

pub remove_joiner : (caller : Caller) (key : Bytes) (joiners : List Joiner) (i : ℕ) → IsJoinerList joiners → position (belongs_to caller key) joiners ≡ Some i
    → remove joiners i ≡ joiners_without caller key joiners
remove_joiner caller key joiners i is at =
    remove_at_place (belongs_to caller key) joiners i at (λ a b d lt within. belongs_to_one caller key (get_or joiners a d) (get_or joiners b d) (is.once a b d lt within))

-- a call with no place has no joiner
pub state_nowhere : (caller : Caller) (key : Bytes) (joiners : List Joiner) → position (belongs_to caller key) joiners ≡ None → join_state_of caller key joiners ≡ None
state_nowhere caller key joiners none = ap (option_map (λ x. x.state)) (find_nowhere (belongs_to caller key) joiners none)

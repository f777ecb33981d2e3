-- The stripes of a world that is made again, one after the other.
--     IsRestartable      what holds of each stripe, before it is made again and then
--     AreRestarted       that holds of all, and the first of them, as many, are empty
--     restarts_start     none is made again yet
--     restarted_next     one more is
--     restarted_all      all are
use Rattle.std.proofs.lemmas.List.{take_more_set, take_all}
use Rattle.jc_world.proofs.Common.{◌≡◌, ℕ, ◌+◌, ◌-◌, ◌<◌, ◌≤◌, List, [], ◌++◌, append-nil, length, take, get_or, slice_get, slice_set, slice_get_read, Some, refl, sym, ap, ◌∙◌, subst, arith, Config, Played, State, AreLeft, NoneReserved, fresh_stripe, fresh_stripes}
use Rattle.jc_stripe.specs.Reopening.{opened_stripe}
use Rattle.jc_world.proofs.Shares.{set_cases, length-slice_set}
use Rattle.jc_world.proofs.Numbered.{made_more}

pub record IsRestartable (config : Config) (number : ℕ) (s : State) : Type 0 where
  pub config_is : s.config ≡ config
  pub number_is : s.stripe ≡ number
  pub origin_is : s.origin ≡ Played
  pub none : s.reservations ≡ []

pub record AreRestarted (config : Config) (count : ℕ) (ss : List State) : Type 0 where
  pub each : (number : ℕ) (s : State) → slice_get ss number ≡ Some s → IsRestartable config number s
  pub made : take count ss ++ fresh_stripes config count (config.stripes - count) ≡ fresh_stripes config 0 config.stripes
  pub long : length ss ≡ config.stripes

pub restarts_start : (config : Config) (ss : List State) → AreLeft config ss → NoneReserved ss → AreRestarted config 0 ss
restarts_start config ss left none =
    let all : config.stripes - 0 ≡ config.stripes = omega arith in
    record {
      each = λ n s at. let h = left.each n s at in record { config_is = h.config_is; number_is = h.number_is; origin_is = h.origin_is; none = none n s at };
      made = ap (fresh_stripes config 0) all;
      long = left.count;
    }

pub restartable : (config : Config) (n : ℕ) (ss : List State) (from : State) → AreRestarted config n ss → n < length ss → from ≡ get_or ss n from → IsRestartable config n from
restartable config n ss from are within is = are.each n from (slice_get_read ss (length ss) n from refl within is)

pub restarted_next : (config : Config) (n : ℕ) (ss : List State) (from to : State) → AreRestarted config n ss → n < length ss → from ≡ get_or ss n from → to ≡ opened_stripe from.config from.origin from.stripe [] → AreRestarted config (n + 1) (slice_set ss n to)
restarted_next config n ss from to are within is made =
    let h = restartable config n ss from are within is in
    let empty_is : to ≡ fresh_stripe config n = made ∙ (λ k. opened_stripe (h.config_is k) (h.origin_is k) (h.number_is k) []) in
    let mine : IsRestartable config n (fresh_stripe config n) = record { config_is = refl; number_is = refl; origin_is = refl; none = refl } in
    let long = are.long in
    record {
      each = λ m s. set_cases ss n m to s
          (λ same here. subst (λ (k : ℕ). IsRestartable config k s) same (subst (λ (x : State). IsRestartable config n x) (sym empty_is ∙ here) mine))
          (λ apart there. are.each m s there);
      made = ap (λ (xs : List State). xs ++ fresh_stripes config (n + 1) (config.stripes - (n + 1))) (take_more_set ss n to within)
          ∙ made_more config (take n ss) to n config.stripes (omega arith) empty_is ∙ are.made;
      long = length-slice_set ss n to ∙ long;
    }

pub restarted_all : (config : Config) (n : ℕ) (ss : List State) → AreRestarted config n ss → length ss ≤ n → ss ≡ fresh_stripes config 0 config.stripes
restarted_all config n ss are end =
    let long = are.long in
    let rest : config.stripes - n ≡ 0 = omega arith in
    sym (take_all n ss end) ∙ sym (append-nil (take n ss)) ∙ ap (λ m. take n ss ++ fresh_stripes config n m) (sym rest) ∙ are.made

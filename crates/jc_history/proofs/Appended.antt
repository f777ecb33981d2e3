-- Two appends one after the other.
--     first_fits, second_fits    there is room for each
--     two_appended               both are appended
use Rattle.std.proofs.Common.{◌≡◌, ℕ, ◌≤◌, ◌+◌, List, ◌++◌, length, vec_len, vec_capacity, ap, ◌∙◌, append_assoc, arith}
use Rattle.std.specs.Global.{Vec}
use Rattle.jc_history.specs.Appending.{Appends}

module _ (old mid : Vec ℕ) (first second one two : List ℕ) (most : ℕ) (one_is : one ≡ first) (two_is : two ≡ second)
    (both : length first + length second ≤ most) where
  pub first_fits : vec_len old + most ≤ vec_capacity old → vec_len old + length one ≤ vec_capacity old
  first_fits room = omega (arith, ap length one_is)

  module _ (len : vec_len mid ≡ vec_len old + length one) (kept : vec_capacity old ≤ vec_capacity mid) where
    pub second_fits : vec_len old + most ≤ vec_capacity old → vec_len mid + length two ≤ vec_capacity mid
    second_fits room = omega (arith, ap length one_is, ap length two_is)

    pub two_appended : (new : Vec ℕ) → mid.items ≡ old.items ++ one → new.items ≡ mid.items ++ two
        → vec_len new ≡ vec_len mid + length two → vec_capacity mid ≤ vec_capacity new → Appends old new (first ++ second) most
    two_appended new put_one put_two len_two kept_two = record {
      items = put_two ∙ ap (λ items. items ++ two) (put_one ∙ ap (λ one. old.items ++ one) one_is) ∙ append_assoc old.items first two
          ∙ ap (λ two. old.items ++ (first ++ two)) two_is;
      few = omega (arith, ap length one_is, ap length two_is);
      capacity = omega arith;
    }

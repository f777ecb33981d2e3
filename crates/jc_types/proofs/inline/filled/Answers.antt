use Rattle.std.proofs.Common.{◌≤◌, length, ℕ, ◌-◌, List, ◌++◌, drop, replicate, sym, ap, arith}
use Rattle.std.proofs.lemmas.List.{length-append, length-replicate, drop-replicate}
use Rattle.std.proofs.Math.Seq.{take-append_seam}
use Rattle.jc_types.specs.Inline.{IsInline}
use Rattle.jc_types.proofs.inline.filled.Goals as goal

at_front : (n : ℕ) (bytes : List ℕ) → length bytes ≤ n → IsInline (length bytes) n (bytes ++ drop (length bytes) (replicate n 0)) (length bytes)
at_front n bytes h = rw drop-replicate record {
  full = omega (arith, length-append bytes (replicate (n - length bytes) 0), length-replicate {A = ℕ} (n - length bytes) 0);
  least_len = omega arith;
  most_len = h;
  zeros = ap (λ front. front ++ replicate (n - length bytes) 0) (sym (take-append_seam bytes (replicate (n - length bytes) 0)));
}

pub returns-clause-kept : goal.returns-clause-kept
returns-clause-kept g c = rw c.copy_from_slice.ensures.after (at_front g.row.N c.args.bytes.now c.requires)

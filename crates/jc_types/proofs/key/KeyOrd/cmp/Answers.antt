use Rattle.std.proofs.Common.{◌≡◌, ◌-◌, ◌∙◌, ◌++◌, ap, sym, replicate, take, length, List, ℕ, arith}
use Rattle.std.specs.Ordering.{nat_cmp, ordering_then}
use Rattle.std.specs.Cmp.Lexicographic.{slice_cmp}
use Rattle.jc_types.specs.Inline.{IsInline, length-inline}
use Rattle.jc_types.proofs.WordOrder.{padded_order}
use Rattle.jc_types.proofs.key.KeyOrd.cmp.Goals as goal

-- buffers, and then how many bytes count, order as the bytes that count do
inline_order : (a b : List ℕ) (m n : ℕ) → IsInline 1 32 a m → IsInline 1 32 b n → ordering_then (slice_cmp nat_cmp a b) (nat_cmp m n) ≡ slice_cmp nat_cmp (take m a) (take n b)
inline_order a b m n ha hb =
    let la = length-inline 1 32 a m ha in
    let lb = length-inline 1 32 b n hb in
    ap (λ xs. ordering_then (slice_cmp nat_cmp xs b) (nat_cmp m n)) ha.zeros
    ∙ ap (λ ys. ordering_then (slice_cmp nat_cmp (take m a ++ replicate (32 - m) 0) ys) (nat_cmp m n)) hb.zeros
    ∙ ap (λ k. ordering_then (slice_cmp nat_cmp (take m a ++ replicate (32 - m) 0) (take n b ++ replicate (32 - n) 0)) (nat_cmp k n)) (sym la)
    ∙ ap (λ k. ordering_then (slice_cmp nat_cmp (take m a ++ replicate (32 - m) 0) (take n b ++ replicate (32 - n) 0)) (nat_cmp (length (take m a)) k)) (sym lb)
    ∙ padded_order (take m a) (take n b) (32 - m) (32 - n) (omega (arith, la, lb, ha.most_len, hb.most_len))

pub returns : goal.returns
returns c =
    c.then.ensures
    ∙ ap (λ o. ordering_then o c.cmp.result) c.cmp_words.ensures
    ∙ ap (λ o. ordering_then (slice_cmp nat_cmp c.self.inside.buf c.other.inside.buf) o) c.cmp.ensures
    ∙ inline_order c.self.inside.buf c.other.inside.buf c.self.inside.len c.other.inside.len c.self.invariant c.other.invariant
    ∙ ap (λ xs. slice_cmp nat_cmp xs (take c.other.inside.len c.other.inside.buf)) c.self.view_is
    ∙ ap (λ ys. slice_cmp nat_cmp c.args.self.now ys) c.other.view_is

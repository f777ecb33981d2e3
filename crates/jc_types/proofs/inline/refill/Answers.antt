use Rattle.std.proofs.Common.{◌≡◌, ◌≤◌, ◌<◌, ◌+◌, length, take, drop, ℕ, ◌-◌, List, ◌++◌, replicate, sym, ap, ◌∙◌, arith}
use Rattle.std.proofs.lemmas.List.{length-append, length-replicate, drop-replicate, drop-drop, drop_at, length-take-le, length-drop, replicate-append-replicate}
use borrow.Rule.Slice.PartMut.{put_mid}
use Rattle.std.proofs.Math.Seq.{take-append_seam}
use Rattle.jc_types.specs.Inline.{IsInline, length-inline}
use Rattle.jc_types.proofs.inline.refill.Goals as goal
use Rattle.jc_types.proofs.inline.refill.Goals.{then-bytes-old_len, else-bytes-old_len}

at_front : (n : ℕ) (bytes rest : List ℕ) → length bytes ≤ n → rest ≡ replicate (n - length bytes) 0 → IsInline 0 n (bytes ++ rest) (length bytes)
at_front n bytes rest h zeros = rw zeros record {
  full = omega (arith, length-append bytes (replicate (n - length bytes) 0), length-replicate {A = ℕ} (n - length bytes) 0);
  least_len = omega arith;
  most_len = h;
  zeros = ap (λ front. front ++ replicate (n - length bytes) 0) (sym (take-append_seam bytes (replicate (n - length bytes) 0)));
}

-- behind the bytes that count all are 0
zeros_from : (n old k : ℕ) (buf : List ℕ) → IsInline 0 n buf old → old ≤ k → k ≤ n → drop k buf ≡ replicate (n - k) 0
zeros_from n old k buf h from within =
    let there : old + (k - old) ≡ k = omega arith in
    let left : n - old - (k - old) ≡ n - k = omega arith in
    let behind : drop old buf ≡ replicate (n - old) 0 =
    ap (λ xs. drop old xs) h.zeros ∙ drop_at (take old buf) (replicate (n - old) 0) old (length-inline 0 n buf old h) in
    ap (λ j. drop j buf) (sym there)
    ∙ sym (drop-drop (k - old) old buf)
    ∙ ap (λ xs. drop (k - old) xs) behind
    ∙ drop-replicate (k - old) (n - old) 0
    ∙ ap (λ j. replicate j 0) left

-- after some of the bytes that counted are cleared
cleared : (n old k : ℕ) (buf zeros : List ℕ) → IsInline 0 n buf old → k < old → zeros ≡ replicate (length (take (old - k) (drop k buf))) 0
    → drop k (put_mid k (old - k) buf zeros) ≡ replicate (n - k) 0
cleared n old k buf zeros h less are =
    let long : length (take k buf) ≡ k = length-take-le k buf (omega (arith, h.full, h.most_len)) in
    let some : length (take (old - k) (drop k buf)) ≡ old - k = length-take-le (old - k) (drop k buf) (omega (arith, h.full, h.most_len, length-drop k buf)) in
    let end : k + (old - k) ≡ old = omega arith in
    let all : old - k + (n - old) ≡ n - k = omega (arith, h.most_len) in
    drop_at (take k buf) (zeros ++ drop (old - k) (drop k buf)) k long
    ∙ ap (λ xs. xs ++ drop (old - k) (drop k buf)) (are ∙ ap (λ j. replicate j 0) some)
    ∙ ap (λ xs. replicate (old - k) 0 ++ xs) (drop-drop (old - k) k buf)
    ∙ ap (λ j. replicate (old - k) 0 ++ drop j buf) end
    ∙ ap (λ xs. replicate (old - k) 0 ++ xs) (zeros_from n old old buf h (omega arith) h.most_len)
    ∙ replicate-append-replicate (old - k) (n - old) 0
    ∙ ap (λ j. replicate j 0) all

pub returns-clause-kept : goal.returns-clause-kept
returns-clause-kept c =
    rw c.copy_from_slice.ensures.after (at_front (length c.args.buf.now) c.args.bytes.now (drop (length c.args.bytes.now) c.if-bytes-old_len.buf) c.requires.few
    (elim c.if-bytes-old_len.branch [
      | then-bytes-old_len w ↦
          rw w.buf-is (cleared (length c.args.buf.now) c.args.old_len (length c.args.bytes.now) c.args.buf.now w.fill.new.self c.requires.was w.if-bytes-old_len.true (w.fill.ensures.after (λ y e. e)))
      | else-bytes-old_len w ↦
          rw w.buf-is (zeros_from (length c.args.buf.now) c.args.old_len (length c.args.bytes.now) c.args.buf.now c.requires.was w.if-bytes-old_len.false c.requires.few)
    ]))

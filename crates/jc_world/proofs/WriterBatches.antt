-- For which keys of a call the writer is asked now.
--     asked_waits    at a key for which it is asked it hasn't returned
--     change_kept    once it has changed the store at a key, it is asked for the same keys
--     report_kept    and so it may return as before
use Rattle.jc_world.proofs.Common.{◌≡◌, ℕ, true, cond, Some, None, Option, list_any, sym, refl, ap, ◌∙◌, eq-eqb, and_parts, nat_list_cmp_total, get, insert, get-insert, Bytes, Change, Part, CallState, open_keys, with_change, after_change, passes_in, is_in_batch, batch_of, writer_batch, is_asked_in, may_change, is_being_written, may_report, is_write, waits_for_process, waits_for_report, waits_for_write, WorldState, open_call, of_call, part_of, has_progress, Bool}
use Rattle.jc_world.specs.declared.reports.WriterBatch.{WriterBatch}
use Rattle.jc_world.specs.declared.reports.WriterBatch.TheVariants.{Nothing, Writes, All}
use Rattle.jc_world.proofs.Lemmas.{of_call-at, split}

-- 1. Keys for which it is asked.

batch_waits : (b : WriterBatch) (part : Part) → is_in_batch b part ≡ true → waits_for_report part ≡ true
batch_waits Nothing part h = cc
batch_waits Writes part h = (and_parts (waits_for_report part) (is_write part.progress.change) h).0
batch_waits All part h = h

passes_more : (p q : Part → Bool) → ((part : Part) → p part ≡ true → q part ≡ true) → (o : Option Part) → has_progress p o ≡ true → has_progress q o ≡ true
passes_more p q f None h = cc
passes_more p q f (Some part) h = f part h

pub asked_waits : (w : WorldState) (call : ℕ) (key : Bytes) → is_being_written w call key ≡ true → has_progress waits_for_report (part_of w call key) ≡ true
asked_waits w call key h = go (open_call w call) h
  where
    go : (o : Option CallState) → may_change w call key o ≡ true → has_progress waits_for_report (part_of w call key) ≡ true
    go None h = cc
    go (Some u) h =
        let b = writer_batch w.parts call u in passes_more (is_in_batch b) waits_for_report (batch_waits b) (part_of w call key) h

-- 2. A change of the store at a key.

-- a test that doesn't see it
same_passes : (test : Part → Bool) → ((part : Part) → test (record part { progress = with_change part.progress }) ≡ test part) → (w : WorldState) (call : ℕ) (key q : Bytes) (part : Part) → part_of w call key ≡ Some part
    → passes_in test (insert w.parts key (record part { progress = with_change part.progress })) call q ≡ passes_in test w.parts call q
same_passes test same w call key q part is =
    let next : Part = record part { progress = with_change part.progress } in
    let at = of_call-at call (get w.parts key) part is in
    ap (λ o. has_progress test (of_call call o)) (get-insert nat_list_cmp_total w.parts key next q)
    ∙ split q key (λ b. has_progress test (of_call call (cond b (Some next) (get w.parts q))) ≡ has_progress test (of_call call (get w.parts q)))
    (λ here. ap (λ b. has_progress test (cond b (Some next) None)) (eq-eqb part.reservation.caller.call call at.1)
    ∙ same part ∙ sym (ap (has_progress test) is) ∙ ap (λ k. has_progress test (part_of w call k)) (sym here))
    (λ apart. refl)

batch_same : (b : WriterBatch) (part : Part) → is_in_batch b (record part { progress = with_change part.progress }) ≡ is_in_batch b part
batch_same Nothing part = refl
batch_same Writes part = refl
batch_same All part = refl

asked_kept : (w : WorldState) (call : ℕ) (key q : Bytes) (part : Part) → part_of w call key ≡ Some part → (u : CallState)
    → is_asked_in (insert w.parts key (record part { progress = with_change part.progress })) call u q ≡ is_asked_in w.parts call u q
asked_kept w call key q part is u =
    let next = insert w.parts key (record part { progress = with_change part.progress }) in
    let batches : writer_batch next call u ≡ writer_batch w.parts call u = λ i. batch_of u.kind
    (list_any (λ k. same_passes waits_for_process (λ p. refl) w call key k part is i) (open_keys u))
    (list_any (λ k. same_passes waits_for_write (λ p. refl) w call key k part is i) (open_keys u)) in
    ap (λ b. passes_in (is_in_batch b) next call q) batches
    ∙ same_passes (is_in_batch (writer_batch w.parts call u)) (batch_same (writer_batch w.parts call u)) w call key q part is

pub change_kept : (w : WorldState) (call : ℕ) (key q : Bytes) (part : Part) (change : Change) → part_of w call key ≡ Some part → is_being_written (after_change w key part change) call q ≡ is_being_written w call q
change_kept w call key q part change is = go (open_call w call)
  where
    go : (o : Option CallState) → may_change (after_change w key part change) call q o ≡ may_change w call q o
    go None = refl
    go (Some u) = asked_kept w call key q part is u

pub report_kept : (w : WorldState) (call : ℕ) (key : Bytes) (part : Part) (change : Change) → part_of w call key ≡ Some part
    → may_report (after_change w key part change) call (open_call w call) ≡ may_report w call (open_call w call)
report_kept w call key part change is = go (open_call w call)
  where
    go : (o : Option CallState) → may_report (after_change w key part change) call o ≡ may_report w call o
    go None = refl
    go (Some u) = λ i. list_any (λ q. asked_kept w call key q part is u i) (open_keys u)

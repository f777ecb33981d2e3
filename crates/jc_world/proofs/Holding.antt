-- What is known of a held key whose event fits.
use Rattle.jc_world.proofs.Common.{◌≡◌, ℕ, Bool, true, false, cond, not, IsSomeAnd, ◌==◌, Some, None, Option, sym, refl, ap, ◌∙◌, get, Bytes, and_parts, is_key, Part, WorldEvent, op_at, fits, IsHeld, IsCallOf, IsOwned, IsSoundWorld, WorldState, home, stripe_for, open_call, of_call, part_of, has_progress, is_all_answered, is_unanswered, is_untouched}
use Rattle.jc_world.proofs.Lemmas.{fact_found, some_of}

pub is_part : (o : Option Part) (call : ℕ) (part : Part) → of_call call o ≡ Some part → o ≡ Some part
is_part None call part h = cc
is_part (Some p) call part h =
    elim (p.reservation.caller.call == call) as (λ b. cond b (Some p) None ≡ Some part → Some p ≡ Some part) [ true ↦ λ h. h | false ↦ λ h. cc ] h

-- what holds of a call's part, and of none doesn't, holds of the key's: it is the same part
pub of_key : (test : Option Part → Bool) (o : Option Part) (call : ℕ) → (test None ≡ true → ⊥) → test (of_call call o) ≡ true → (part : Part) × (of_call call o ≡ Some part) × (o ≡ Some part) × (test o ≡ true)
of_key test o call none h = go (of_call call o) refl h
  where
    go : (is : Option Part) → of_call call o ≡ is → test is ≡ true → (part : Part) × (of_call call o ≡ Some part) × (o ≡ Some part) × (test o ≡ true)
    go None e h = absurd (none h)
    go (Some part) e h = let there = is_part o call part e in (part, e, there, ap test there ∙ h)

-- a call whose commit fits has its key, and so what is held of that is its part
pub fits_commit : (v w : WorldState) (call : ℕ) (key : Bytes) → v ≡ w → fits w (WorldEvent.Commit call key) ≡ true → (part : Part) × (part_of v call key ≡ Some part) × (get v.parts key ≡ Some part) × (has_progress is_all_answered (get v.parts key) ≡ true)
fits_commit v w call key same fit =
    of_key (has_progress is_all_answered) (get v.parts key) call (λ h. cc) (rw same fit)

pub may_commit : (v w : WorldState) (call : ℕ) (key : Bytes) (part : Part) → v ≡ w → fits w (WorldEvent.Commit call key) ≡ true → get v.parts key ≡ Some part → (part_of v call key ≡ Some part) × (has_progress is_all_answered (Some part) ≡ true)
may_commit v w call key part same fit there =
    let one = fits_commit v w call key same fit in
    (one.1 ∙ sym one.2 ∙ there, ap (has_progress is_all_answered) (sym there) ∙ one.3)

-- and so has a call that may withdraw
pub fits_withdrawal : (v w : WorldState) (call : ℕ) (key : Bytes) → v ≡ w → fits w (WorldEvent.Withdraw call key) ≡ true → (part : Part) × (part_of v call key ≡ Some part) × (get v.parts key ≡ Some part) × (has_progress is_untouched (get v.parts key) ≡ true)
fits_withdrawal v w call key same fit =
    of_key (has_progress is_untouched) (get v.parts key) call (λ h. cc) (rw same fit)

pub may_withdraw : (v w : WorldState) (call : ℕ) (key : Bytes) (part : Part) → v ≡ w → fits w (WorldEvent.Withdraw call key) ≡ true → get v.parts key ≡ Some part → (part_of v call key ≡ Some part) × (is_unanswered part.progress.out ≡ true)
may_withdraw v w call key part same fit there =
    let one = fits_withdrawal v w call key same fit in
    (one.1 ∙ sym one.2 ∙ there, (and_parts (is_unanswered part.progress.out) (not part.progress.is_changed) (ap (has_progress is_untouched) (sym there) ∙ one.3)).0)

-- the call of a held key is under way, with its operation open at that key: its reservation says so
pub call_on : (w : WorldState) (key : Bytes) (part : Part) → get w.parts key ≡ Some part → IsSoundWorld w → IsSomeAnd (open_call w part.reservation.caller.call) (λ u. op_at u key ≡ Some part.reservation.op)
call_on w key part there old =
    let r = part.reservation in
    let held = some_of (stripe_for w key) (λ s. IsHeld s key part) (old.held key part there) in
    let own = fact_found (IsOwned w) (is_key r.key) held.0.reservations r held.2.out (old.owned (home w key) held.0 held.1) in
    let call = some_of (open_call w r.caller.call) (IsCallOf r.caller.session r.key r.op) own.call in
    rw call.1 (ap (op_at call.0) (sym held.2.key_is) ∙ call.2.1)

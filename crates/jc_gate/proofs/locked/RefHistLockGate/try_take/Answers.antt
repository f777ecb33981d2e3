use Rattle.std.proofs.Common.{◌≡◌, None, Some, subst}
use Rattle.std.specs.Option.{IfNone}
use Rattle.jc_stripe.specs.State.{State}
use Rattle.jc_lock.specs.declared.view.View.{View}
use Rattle.jc_lock.specs.Views.{Finds, after_miss}
use Rattle.jc_gate.proofs.locked.RefHistLockGate.try_take.Goals as goal

-- a miss leaves what a later take may find
found_before : (v : View) (a : State) → Finds (after_miss v) a → Finds v a
found_before v a f = record { reached = f.reached; front = f.front; next = f.next; ended = f.ended; same = f.same; own = f.own; later = f.later }

pub returns-clause-still : goal.returns-clause-still
returns-clause-still c = elim c.try_take.result as (λ o. IfNone o (c.try_take.new.seat ≡ (c.args.token.now.0, after_miss c.args.token.now.1))
    → IfNone o ((a : State) → Finds c.try_take.new.seat.1 a → Finds c.args.token.now.1 a)) [
      | None ↦ λ missed a f. found_before c.args.token.now.1 a (subst (λ seat. Finds seat.1 a) missed f)
      | Some s ↦ λ missed. tt
    ] c.try_take.ensures.none

use Rattle.std.proofs.Common.{ℕ, ◌<◌, ◌∷◌, ◌++◌, [], length, None, ap, sym, ◌∙◌, subst, arith}
use Rattle.jc_stripe.specs.Reached.{IsReached}
use Rattle.jc_lock.proofs.Steps.{starts, opens_at}
use Rattle.jc_lock.proofs.lock.HistLock.new.Goals as goal

pub new-requires : goal.new-requires
new-requires c = rw (c.push_reserved.ensures.items, c.in_ok-slots.ensures.items, c.deref-2.ensures) (starts (λ b. b.value) c.args.stripe.value (subst IsReached c.deref.ensures c.events_len.ensures.reached) c.requires)

pub load-requires : goal.load-requires
load-requires c = let made = c.in-Ok.ensures.ok in (
  made.2,
  subst (λ (n : ℕ). 0 < n) (sym made.0) (omega arith),
  opens_at (λ b. b.value) _ _ _ (made.1 ∙ ap length c.push_reserved.ensures.items ∙ ap (λ l. length (l ++ None ∷ [])) c.in_ok-slots.ensures.items) (ap (λ m. m.0.spent) made.4) (ap (λ m. m.0.holds) made.4),
)

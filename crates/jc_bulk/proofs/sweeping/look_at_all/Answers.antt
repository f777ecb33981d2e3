use Rattle.jc_bulk.proofs.Common.{none_twice, stripe_of, ◌==◌, ◌+◌, ◌∙◌, nat_lt, length, refl, sym, ap, subst, arith, le_refl, pointwise, IsDistinct, list_all}
use Rattle.std.proofs.lemmas.Nat.{row_fits}
use Rattle.jc_bulk.proofs.Looking.{apart_next, elsewhere, look_told, looked_next, looked_none, looks_at, looks_itself, looks_on, may_still}
use Rattle.jc_bulk.proofs.sweeping.look_at_all.Goals as goal

pub loop-number-init : goal.loop-number-init
loop-number-init g c =
    let none = c.in_ok-keys.ensures.items in (
      c.requires.may,
      looks_itself c.args.session.now,
      looked_none c.args.session.now.seats.items c.args.session.now.seats.items c.in_ok-keys.keys.items none,
      subst (IsDistinct (pointwise ◌==◌)) (sym none) none_twice,
      ap (list_all (λ k. nat_lt (stripe_of k c.args.cache.now.config.stripes) 0)) none,
      omega (arith, c.in_ok-keys.ensures.len),
      omega (arith, c.in_ok-keys.ensures.capacity, c.most_entries.ensures),
      λ i from. refl,
    )

pub loop-number-preserved : goal.loop-number-preserved
loop-number-preserved g c =
    let old = c.loop-number.invariant in
    let i = c.loop-number.number in
    let config = c.args.cache.now.config in
    let keys = c.loop-number.keys.items in
    let session = c.loop-number.session in
    let more = c.look.new.out.items in
    let phase = c.look.ensures.phase.phase in
    let others = elsewhere c.is_uniform.ensures c.args.cache.now session c.look.new.session old.0.own i keys more phase in
    let looks = looks_at c.is_uniform.ensures c.args.cache.now session c.look.new.session old.0.own i keys more phase in
    let told = look_told c.is_uniform.ensures c.args.cache.now session c.look.new.session old.0.own i keys more phase in
    let next = apart_next config.stripes i keys told.0 more told.1 old.4 told.4 old.3 told.3 in (
      may_still c.args.cache.now session c.look.new.session old.0 c.look.ensures.phase.own looks,
      looks_on i c.args.session.now session c.look.new.session (old.7 i (le_refl i)) others old.1 looks,
      looked_next i c.args.session.now.seats.items session.seats.items c.look.new.session.seats.items keys more told.0 (old.7 i (le_refl i)) others old.2 told.2 told.1,
      next.0,
      next.1,
      omega (arith, row_fits i config.capacity (i + 1) config.capacity (omega arith) (le_refl config.capacity), c.look.ensures.room.0, old.5),
      omega (arith, c.look.ensures.room.1, old.6),
      λ j from. others j (λ is. absurd (omega (arith, from, is))) ∙ old.7 j (omega (arith, from)),
    )

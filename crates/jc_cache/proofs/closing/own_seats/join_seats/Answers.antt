use Rattle.jc_cache.proofs.Common.{set, ap, ◌∙◌, ◌<◌, [], ◌∷◌, ℕ, sym, subst, length, append-nil}
use Rattle.jc_cache.proofs.Rows.{length_locks}
use Rattle.jc_cache.proofs.ClosingSeats.{HandedFrom, HasFrontFrom, handed_next, handed_none, no_front, keep_all, keep_set, near_row, popped_at, popped_done, popped_long, join_near, join_there, join_step}
use Rattle.jc_cache.proofs.closing.own_seats.join_seats.Goals as goal

pub loop-seat-init : goal.loop-seat-init
loop-seat-init c = record { keeps = keep_all _ _; taken = c.requires.own.taken; done = ([], sym (append-nil _)); handed = handed_none _ _; front = no_front _ _ }

pub index_mut-requires : goal.index_mut-requires
index_mut-requires c =
    let at = popped_at _ _ _ _ _ c.len-i.result c.loop-seat.invariant.done.1 c.in-Some.ensures.items (c.len-i.ensures ∙ c.pop.new.self.ok.0) in
    subst (λ (n : ℕ). c.len-i.result < n) (sym c.loop-seat.own.ok.0) (near_row _ _ _ _ c.len-i.result c.requires.own.locks c.loop-seat.invariant.keeps (join_near _ _ c.len-i.result _ c.requires.seats at))

pub join-requires-clause-lock : goal.join-requires-clause-lock
join-requires-clause-lock c =
    let i = c.loop-seat.invariant in
    let at = popped_at _ _ _ _ _ c.len-i.result i.done.1 c.in-Some.ensures.items (c.len-i.ensures ∙ c.pop.new.self.ok.0) in
    let there = join_there _ _ _ _ _ c.len-i.result _ _ _ c.requires.own.locks i.keeps c.requires.seats at c.index_mut.ensures.value c.index-locks-i.is in
    (there.1, there.2)

pub join-requires-clause-free : goal.join-requires-clause-free
join-requires-clause-free c =
    c.requires.seats.free c.len-i.result c.in-Some.seat (popped_at _ _ _ _ _ c.len-i.result c.loop-seat.invariant.done.1 c.in-Some.ensures.items (c.len-i.ensures ∙ c.pop.new.self.ok.0))

pub loop-seat-preserved : goal.loop-seat-preserved
loop-seat-preserved c =
    let i = c.loop-seat.invariant in
    let at = popped_at _ _ _ _ _ c.len-i.result i.done.1 c.in-Some.ensures.items (c.len-i.ensures ∙ c.pop.new.self.ok.0) in
    let there = join_there _ _ _ _ _ c.len-i.result _ _ _ c.requires.own.locks i.keeps c.requires.seats at c.index_mut.ensures.value c.index-locks-i.is in
    let next = popped_long _ _ _ c.len-i.result c.in-Some.ensures.items (c.len-i.ensures ∙ c.pop.new.self.ok.0) in
    let s = join_step _ _ _ c.len-i.result (length c.loop-seat.seats.items) _ _ _ (c.requires.count ∙ sym (length_locks _ _ c.requires.seats.at)) i.taken there.0 at next
    (ap (λ z. z.0) c.join.ensures.seat) (ap (λ z. z.1) c.join.ensures.seat) c.join.ensures.fronts.0 c.join.ensures.fronts.1 c.join.ensures.held i.front in
    record {
      keeps = keep_set _ _ _ c.len-i.result _ _ i.keeps there.0 s.0;
      taken = s.1;
      done = (c.in-Some.seat ∷ i.done.0, popped_done _ _ _ _ _ i.done.1 c.in-Some.ensures.items);
      handed = subst (λ (n : ℕ). HandedFrom n c.args.own.now.items c.args.seats.items (set c.loop-seat.own.items c.len-i.result c.join.new.seat)) (c.len-i.ensures ∙ c.pop.new.self.ok.0)
          (handed_next c.len-i.result (length c.loop-seat.seats.items) _ _ _ _ _ _ next there.0 at (ap (λ z. z.1.lendings) c.join.ensures.seat) i.handed);
      front = subst (λ (n : ℕ). HasFrontFrom n c.args.stripes.now c.args.seats.items) (c.len-i.ensures ∙ c.pop.new.self.ok.0) s.2;
    }

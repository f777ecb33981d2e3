use Rattle.jc_cache.proofs.Common.{ap, le_refl, ◌∙◌, ◌<◌, ℕ, refl, sym, subst, rules}
use Rattle.jc_cache.proofs.ClosingSeats.{keep_all, keep_set, none_phase, given_back, near_row, fewer, give_near, give_there, give_step, not_beyond}
use Rattle.jc_cache.proofs.Meetings.{got_other}
use Rattle.jc_cache.proofs.closing.own_seats.give_all.Goals as goal

pub loop-closed-init : goal.loop-closed-init
loop-closed-init c = record { keeps = keep_all _ _; taken = c.requires.taken; most = le_refl _; rest = λ i le. refl }

pub offset_bounds-locks-i : goal.offset_bounds-locks-i
offset_bounds-locks-i c =
    let near = give_near _ _ _ _ _ _ _ c.len-i.result c.requires.locks c.loop-closed.invariant.keeps c.loop-closed.invariant.taken c.in-Some.ensures.items (c.len-i.ensures ∙ c.pop.new.self.ok.0) in
    search rules

pub bounds-locks-i : goal.bounds-locks-i
bounds-locks-i c = give_near _ _ _ _ _ _ _ c.len-i.result c.requires.locks c.loop-closed.invariant.keeps c.loop-closed.invariant.taken c.in-Some.ensures.items (c.len-i.ensures ∙ c.pop.new.self.ok.0)

pub index_mut-requires : goal.index_mut-requires
index_mut-requires c =
    let near = give_near _ _ _ _ _ _ _ c.len-i.result c.requires.locks c.loop-closed.invariant.keeps c.loop-closed.invariant.taken c.in-Some.ensures.items (c.len-i.ensures ∙ c.pop.new.self.ok.0) in
    subst (λ (n : ℕ). c.len-i.result < n) (sym c.loop-closed.own.ok.0) (near_row _ _ _ _ c.len-i.result c.requires.locks c.loop-closed.invariant.keeps near)

pub give-requires-clause-held : goal.give-requires-clause-held
give-requires-clause-held c =
    let there = give_there _ _ _ _ _ _ _ c.len-i.result _ _ c.requires.locks c.loop-closed.invariant.keeps c.loop-closed.invariant.taken c.in-Some.ensures.items (c.len-i.ensures ∙ c.pop.new.self.ok.0) c.index_mut.ensures.value c.index-locks-i.is in
    (there.1, there.2.holds)

pub give-requires-clause-phase : goal.give-requires-clause-phase
give-requires-clause-phase c =
    let there = give_there _ _ _ _ _ _ _ c.len-i.result _ _ c.requires.locks c.loop-closed.invariant.keeps c.loop-closed.invariant.taken c.in-Some.ensures.items (c.len-i.ensures ∙ c.pop.new.self.ok.0) c.index_mut.ensures.value c.index-locks-i.is in
    none_phase _ _ _ there.2 c.closed.view_is

pub loop-closed-preserved : goal.loop-closed-preserved
loop-closed-preserved c =
    let there = give_there _ _ _ _ _ _ _ c.len-i.result _ _ c.requires.locks c.loop-closed.invariant.keeps c.loop-closed.invariant.taken c.in-Some.ensures.items (c.len-i.ensures ∙ c.pop.new.self.ok.0) c.index_mut.ensures.value c.index-locks-i.is in
    let given = given_back _ _ _ _ there.2 c.closed.view_is (ap (λ z. z.0) c.give.ensures) (ap (λ z. z.1) c.give.ensures) in
    record {
      keeps = keep_set _ _ _ c.len-i.result _ _ c.loop-closed.invariant.keeps there.0 given.0;
      taken = give_step _ _ _ _ c.len-i.result _ c.loop-closed.invariant.taken c.in-Some.ensures.items (c.len-i.ensures ∙ c.pop.new.self.ok.0) given.1;
      most = fewer _ _ _ _ c.in-Some.ensures.items c.loop-closed.invariant.most;
      rest = λ i le. got_other _ c.len-i.result i _ (not_beyond _ _ _ _ i c.len-i.result c.in-Some.ensures.items c.loop-closed.invariant.most (c.len-i.ensures ∙ c.pop.new.self.ok.0) le) ∙ c.loop-closed.invariant.rest i le;
    }

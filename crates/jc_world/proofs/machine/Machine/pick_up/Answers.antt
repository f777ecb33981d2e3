use Rattle.jc_world.proofs.Common.{◌≡◌, true, Some, sym, refl, ap, ◌∙◌, subst, get, insert, remove, JoinClaim, Picked, polled_with, JoinAnswer, WorldEvent, settle, over_settled, fits, joins_of, world_of, IsSoundWorld, IsQuietPhase, JoinKey, join_key, Joins, WorldState, join_of, has_join}
use Rattle.jc_world.proofs.Maps.{joins_ordered, get-gone, insert-back}
use Rattle.jc_world.proofs.Phased.{changed_from, PicksAs, joiner_at, picked_answer, picked_again, picked_nothing, Changed, shown_as}
use Rattle.jc_world.proofs.machine.Machine.pick_up.Goals.{After-take_join-join, After-pick_up}
use Rattle.jc_world.proofs.machine.Machine.pick_up.Goals as goal

-- 1. What is known after a call.

-- the join that was taken out was there
there : (c : After-take_join-join) → join_of (world_of c.self.inside) c.args.call c.args.key.now ≡ Some c.take_join-join.result
there c = ap (λ m. get m (c.args.call, c.args.key.now)) (sym c.in_ok-make_join_room.ensures.joins) ∙ c.take_join-join.ensures.join

-- and is out
left : (c : After-take_join-join) → joins_of c.take_join-join.new.joins ≡ remove (world_of c.self.inside).joins (c.args.call, c.args.key.now)
left c = c.take_join-join.ensures.joins ∙ ap (λ m. remove m (c.args.call, c.args.key.now)) c.in_ok-make_join_room.ensures.joins

-- it is the join of that call and key
own : (c : After-take_join-join) → join_key c.take_join-join.result ≡ (c.args.call, c.args.key.now)
own c = ((subst IsSoundWorld (sym c.self.view_is) c.requires.sound).joins (c.args.call, c.args.key.now) c.take_join-join.result (there c)).0

-- what was picked up at the stripe of the key
ran : (c : After-pick_up) → (p : Picked) → c.pick_up.result ≡ p → IsQuietPhase c.self.inside.stripes c.stripe_of-stripe.result (PicksAs c.take_join-join.result (polled_with p c.pick_up.new.reply)) c.pick_up.new.self
ran c p is = subst (λ x. IsQuietPhase c.self.inside.stripes c.stripe_of-stripe.result (PicksAs c.take_join-join.result (polled_with x c.pick_up.new.reply)) c.pick_up.new.self) is c.pick_up.ensures

changed : (c : After-pick_up) → (p : Picked) → c.pick_up.result ≡ p → Changed (world_of c.self.inside) c.stripe_of-stripe.result (PicksAs c.take_join-join.result (polled_with p c.pick_up.new.reply)) c.pick_up.new.self.stripes
changed c p is = changed_from (world_of c.self.inside) c.self.inside.stripes c.pick_up.new.self c.stripe_of-stripe.result (PicksAs c.take_join-join.result (polled_with p c.pick_up.new.reply)) refl (ran c p is)

-- a join that is put back is there as before
restored : (before after next : Joins) (at : JoinKey) (join back : JoinClaim) → get before at ≡ Some join → after ≡ remove before at → next ≡ insert after (join_key back) back → back ≡ join → join_key join ≡ at → next ≡ before
restored before after next at join back there left put same own = put ∙ (λ i. insert (left i) ((ap join_key same ∙ own) i) (same i)) ∙ insert-back joins_ordered before at join there

-- 2. What the calls require.

pub take_join-join-requires : goal.take_join-join-requires
take_join-join-requires c =
    let F : WorldState → Type 0 = λ w. fits w (WorldEvent.PickUp c.args.call c.args.key.now) ≡ true in
    ap (λ m. has_join m c.args.call c.args.key.now) c.in_ok-make_join_room.ensures.joins ∙ subst F (sym c.self.view_is) c.requires.fits

pub pick_up-requires : goal.pick_up-requires
pick_up-requires c =
    let at = there (goal.at.pick_up-requires c).After-take_join-join in
    joiner_at (world_of c.self.inside) c.args.call c.args.key.now c.take_join-join.result c.stripe_of-stripe.result at c.stripe_of-stripe.ensures (subst IsSoundWorld (sym c.self.view_is) c.requires.sound)

pub put_join-requires-clause-free : goal.put_join-requires-clause-free
put_join-requires-clause-free c =
    let at = goal.at.put_join-requires-clause-free c in
    let p = changed at.After-pick_up (Picked.NotYet c.in-NotYet.join) c.in-NotYet.is in
    (λ i. get (c.take_join-join.ensures.joins i) ((ap join_key p.made.2 ∙ own at.After-take_join-join) i)) ∙ get-gone joins_ordered _ (c.args.call, c.args.key.now)

-- 3. What happens.

pub returns-in-Answer-clause-ok : goal.returns-in-Answer-clause-ok
returns-in-Answer-clause-ok c =
    let v : WorldState = world_of c.self.inside in
    let key = c.args.key.now in
    let at = goal.at.returns-in-Answer-clause-ok c in
    let number = c.stripe_of-stripe.result in
    let seen : JoinAnswer = record { reply = c.pick_up.new.reply; stripe = number; place = c.in-Answer.step; shared = c.in-Answer.shared } in
    let p : Picked = Picked.Answer seen.place seen.shared in
    let next = world_of (record c.self.inside { stripes = c.pick_up.new.self; calls = c.settle-over.new.calls; joins = c.take_join-join.new.joins }) in
    let calls = c.settle-over.ensures.calls ∙ ap (λ m. settle c.args.call key m v.calls) c.fault_in.ensures in
    shown_as _ v next (WorldEvent.PickUp c.args.call key) _ _ c.self.view_is c.show_end.ensures
    (picked_answer v next c.args.call key c.take_join-join.result number seen c.settle-over.result c.pick_up.new.self.stripes (there at.After-take_join-join) c.stripe_of-stripe.ensures refl (changed at.After-pick_up p c.in-Answer.is)
    (c.settle-over.ensures.over ∙ ap (λ m. over_settled c.args.call key m v.calls) c.fault_in.ensures)
    (λ i. record v { stripes = c.pick_up.new.self.stripes; order = (ran at.After-pick_up p c.in-Answer.is).order_is i; joins = left at.After-take_join-join i; calls = calls i }))

pub returns-in-Again-clause-ok : goal.returns-in-Again-clause-ok
returns-in-Again-clause-ok c =
    let v : WorldState = world_of c.self.inside in
    let key = c.args.key.now in
    let at = goal.at.returns-in-Again-clause-ok c in
    let next = world_of (record c.self.inside { stripes = c.pick_up.new.self; joins = c.take_join-join.new.joins }) in
    shown_as _ v next (WorldEvent.PickUp c.args.call key) _ _ c.self.view_is c.show.ensures
    (picked_again v next c.args.call key c.take_join-join.result c.stripe_of-stripe.result c.pick_up.new.self.stripes (there at.After-take_join-join) c.stripe_of-stripe.ensures (changed at.After-pick_up Picked.Again c.in-Again.is)
    (λ i. record v { stripes = c.pick_up.new.self.stripes; order = (ran at.After-pick_up Picked.Again c.in-Again.is).order_is i; joins = left at.After-take_join-join i }))

pub returns-in-NotYet-clause-ok : goal.returns-in-NotYet-clause-ok
returns-in-NotYet-clause-ok c =
    let v : WorldState = world_of c.self.inside in
    let key = c.args.key.now in
    let at = goal.at.returns-in-NotYet-clause-ok c in
    let back = c.in-NotYet.join in
    let p = changed at.After-pick_up (Picked.NotYet back) c.in-NotYet.is in
    let before = at.After-take_join-join in
    let joins = restored v.joins _ _ (c.args.call, key) c.take_join-join.result back (there before) (left before) c.put_join.ensures p.made.2 (own before) in
    let next = world_of (record c.self.inside { stripes = c.pick_up.new.self; joins = c.put_join.new.joins }) in
    shown_as _ v next (WorldEvent.PickUp c.args.call key) _ _ c.self.view_is c.show-in-NotYet.ensures
    (picked_nothing v next c.args.call key c.take_join-join.result back c.stripe_of-stripe.result c.pick_up.new.self.stripes (there before) c.stripe_of-stripe.ensures p
    (λ i. record v { stripes = c.pick_up.new.self.stripes; order = (ran at.After-pick_up (Picked.NotYet back) c.in-NotYet.is).order_is i; joins = joins i }))

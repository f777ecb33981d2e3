use Rattle.jc_cache.proofs.Common.{◌≡◌, ◌∷◌, [], List, length, map, refl, sym, ap, ◌∙◌, append_assoc, append-nil, length-append, arith, into_iter_items, State, whole_history, first_view}
use Rattle.jc_cache.proofs.Rows.{locks_push}
use Rattle.jc_cache.proofs.Noted.{noted_push, fronts_push, first_push, new_each, new_history, new_within, opening_histories, opening_len}
use Rattle.jc_cache.proofs.owner.locks.Goals as goal

nothing_left : (states : List State) → length states ≡ 0 → states ≡ []
nothing_left [] h = refl
nothing_left (x ∷ xs) h = absurd (omega arith)

pub new-requires-in-loop-stripe : goal.new-requires-in-loop-stripe
new-requires-in-loop-stripe c =
    let at = c.loop-stripe in
    let x = c.in-Some.stripe in
    let steps : into_iter_items at.stripe-iterator ≡ x ∷ into_iter_items c.next.new.self = c.in-Some.ensures.steps.0 in
    let are = rw steps at at.invariant.all ∙ c.into_iter-stripe-iterator.ensures.into_iter_gives.0 ∙ c.requires.opened.2 in
    ap whole_history c.in_ok-new.ensures.ok ∙ new_history c.requires.opened.0 c.args.config.now c.requires.opened.1 at.yielded (into_iter_items c.next.new.self) x are

pub push_reserved-requires : goal.push_reserved-requires
push_reserved-requires c =
    let at = c.loop-stripe in
    let x = c.in-Some.stripe in
    let steps : into_iter_items at.stripe-iterator ≡ x ∷ into_iter_items c.next.new.self = c.in-Some.ensures.steps.0 in
    let are = rw steps at at.invariant.all ∙ c.into_iter-stripe-iterator.ensures.into_iter_gives.0 ∙ c.requires.opened.2 in
    let near = new_within c.requires.opened.0 c.args.config.now c.requires.opened.1 at.yielded (into_iter_items c.next.new.self) x are in
    let long = at.invariant.long in
    let room = at.invariant.room in
    omega arith

pub push_reserved-requires-in-loop-stripe : goal.push_reserved-requires-in-loop-stripe
push_reserved-requires-in-loop-stripe c =
    let at = c.loop-stripe in
    let x = c.in-Some.stripe in
    let steps : into_iter_items at.stripe-iterator ≡ x ∷ into_iter_items c.next.new.self = c.in-Some.ensures.steps.0 in
    let are = rw steps at at.invariant.all ∙ c.into_iter-stripe-iterator.ensures.into_iter_gives.0 ∙ c.requires.opened.2 in
    let near = new_within c.requires.opened.0 c.args.config.now c.requires.opened.1 at.yielded (into_iter_items c.next.new.self) x are in
    let long = at.invariant.seated in
    let room = at.invariant.rooms in
    omega arith

pub loop-stripe-preserved : goal.loop-stripe-preserved
loop-stripe-preserved c =
    let at = c.loop-stripe in
    let i = at.invariant in
    let x = c.in-Some.stripe in
    let steps : into_iter_items at.stripe-iterator ≡ x ∷ into_iter_items c.next.new.self = c.in-Some.ensures.steps.0 in
    let made = c.in_ok-new.ensures.ok in
    let lock = c.in_ok-lock.ensures in
    let seat = c.push_reserved-in-loop-stripe.ensures in
    let view = lock.1 ∙ ap first_view made in
    record {
      all = append_assoc at.yielded (x ∷ []) _ ∙ rw (← steps) i.all;
      count = let was = i.count in let gone = c.in-Some.ensures.steps.1 in let short = ap length steps in omega arith;
      noted = rw seat.items (noted_push at.seats.items at.yielded c.in_ok-lock.seat x i.noted (ap (λ v. v.noted) view));
      fronts = rw seat.items (fronts_push at.seats.items at.yielded c.in_ok-lock.seat x i.fronts (ap (λ v. v.front) view));
      own = rw seat.items (rw c.push_reserved.ensures.items (locks_push at.seats.items at.locks.items c.in_ok-lock.seat c.in_ok-lock.lock i.own lock.0));
      first = rw seat.items (first_push at.seats.items c.in_ok-lock.seat x i.first view);
      long = let was = i.long in let more = c.push_reserved.ensures.len in let longer = length-append at.yielded (x ∷ []) in omega arith;
      seated = let was = i.seated in let more = seat.len in let longer = length-append at.yielded (x ∷ []) in omega arith;
      room = let was = i.room in let same = c.push_reserved.ensures.capacity in omega arith;
      rooms = let was = i.rooms in let same = seat.capacity in omega arith;
    }

pub returns : goal.returns
returns c =
    let at = c.loop-stripe in
    let i = at.invariant in
    let given = c.into_iter-stripe-iterator.ensures.into_iter_gives.0 in
    let empty : into_iter_items at.stripe-iterator ≡ [] = nothing_left _ (sym i.count ∙ c.in-None.ensures.steps.0) in
    let all = sym (append-nil at.yielded) ∙ rw empty at i.all ∙ given in
    let many = ap length (all ∙ c.requires.opened.2) ∙ opening_len c.requires.opened.0 c.args.config.now c.requires.opened.1 in (
      record {
        fits = c.requires.fits;
        few = omega arith;
        count = sym at.locks.ok.0 ∙ i.long ∙ many;
        own = i.own;
        each = new_each c.requires.opened.0 c.args.config.now c.requires.opened.1 c.args.stripes.items at.seats.items c.requires.opened.2 (i.noted ∙ all) i.first;
      },
      i.noted ∙ all,
      i.fronts ∙ ap (map whole_history) (all ∙ c.requires.opened.2) ∙ opening_histories c.requires.opened.0 c.args.config.now c.requires.opened.1,
    )

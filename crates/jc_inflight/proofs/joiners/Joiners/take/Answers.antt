use Rattle.std.proofs.Common.{Some, position, subst, sym, ap, ◌∙◌, get_or}
use Rattle.jc_inflight.specs.declared.joiner.Joiner.{Joiner}
use Rattle.jc_inflight.specs.Joining.{belongs_to, is_waiting}
use Rattle.jc_inflight.specs.Taking.{join_state_of, joiners_after_take}
use Rattle.jc_inflight.specs.IsJoinerList.{IsJoinerList}
use Rattle.jc_inflight.proofs.CallerLemmas.{after_take_over, after_take_waiting, after_take_nobody}
use Rattle.jc_inflight.proofs.JoinerList.{IsJoinerList-without, state_at_place, remove_joiner, state_nowhere}
use Rattle.jc_inflight.proofs.joiners.Joiners.take.Goals as goal

pub returns-in_err-place-clause-state : goal.returns-in_err-place-clause-state
returns-in_err-place-clause-state c =
    let none = ap (position (belongs_to c.args.caller c.args.key.now)) (sym c.deref.ensures.0) ∙ sym c.place_of.ensures ∙ c.in_err-place.was in
    c.from_residual.ensures ∙ sym (state_nowhere c.args.caller c.args.key.now c.self.inside.joiners.items none) ∙ ap (join_state_of c.args.caller c.args.key.now) c.self.view_is

pub returns-in_err-place-clause-left : goal.returns-in_err-place-clause-left
returns-in_err-place-clause-left c =
    let none = ap (position (belongs_to c.args.caller c.args.key.now)) (sym c.deref.ensures.0) ∙ sym c.place_of.ensures ∙ c.in_err-place.was in
    let nobody = state_nowhere c.args.caller c.args.key.now c.self.inside.joiners.items none in
    sym c.self.view_is ∙ sym (after_take_nobody c.args.caller c.args.key.now c.self.inside.joiners.items nobody) ∙ ap (joiners_after_take c.args.caller c.args.key.now) c.self.view_is

pub returns-then-not-is_waiting-clause-state : goal.returns-then-not-is_waiting-clause-state
returns-then-not-is_waiting-clause-state c =
    let at = ap (position (belongs_to c.args.caller c.args.key.now)) (sym c.deref.ensures.0) ∙ sym c.place_of.ensures ∙ c.in_ok-place.was in
    let j = c.index-deref-place.result in
    let is = c.index-deref-place.is ∙ ap (λ js. get_or js c.in_ok-place.place j) c.deref-2.ensures.0 in
    ap (λ (x : Joiner). Some x.state) (sym c.index-deref-place.is) ∙ sym (state_at_place c.args.caller c.args.key.now c.self.inside.joiners.items c.in_ok-place.place j at is)
    ∙ ap (join_state_of c.args.caller c.args.key.now) c.self.view_is

pub returns-else-not-is_waiting-clause-state : goal.returns-else-not-is_waiting-clause-state
returns-else-not-is_waiting-clause-state c =
    let at = ap (position (belongs_to c.args.caller c.args.key.now)) (sym c.deref.ensures.0) ∙ sym c.place_of.ensures ∙ c.in_ok-place.was in
    let j = c.index-deref-place.result in
    let is = c.index-deref-place.is ∙ ap (λ js. get_or js c.in_ok-place.place j) c.deref-2.ensures.0 in
    ap (λ (x : Joiner). Some x.state) (sym c.index-deref-place.is) ∙ sym (state_at_place c.args.caller c.args.key.now c.self.inside.joiners.items c.in_ok-place.place j at is)
    ∙ ap (join_state_of c.args.caller c.args.key.now) c.self.view_is

pub returns-then-not-is_waiting-clause-left : goal.returns-then-not-is_waiting-clause-left
returns-then-not-is_waiting-clause-left c =
    let at = ap (position (belongs_to c.args.caller c.args.key.now)) (sym c.deref.ensures.0) ∙ sym c.place_of.ensures ∙ c.in_ok-place.was in
    let j = c.index-deref-place.result in
    let is = c.index-deref-place.is ∙ ap (λ js. get_or js c.in_ok-place.place j) c.deref-2.ensures.0 in
    let state = state_at_place c.args.caller c.args.key.now c.self.inside.joiners.items c.in_ok-place.place j at is in
    let over = ap (λ (x : Joiner). is_waiting x.state) c.index-deref-place.is ∙ sym c.is_waiting.ensures ∙ c.if-not-is_waiting.true in
    c.remove.ensures.items ∙ remove_joiner c.args.caller c.args.key.now c.self.inside.joiners.items c.in_ok-place.place c.self.invariant.list at
    ∙ sym (after_take_over c.args.caller c.args.key.now c.self.inside.joiners.items j.state state over) ∙ ap (joiners_after_take c.args.caller c.args.key.now) c.self.view_is

pub returns-else-not-is_waiting-clause-left : goal.returns-else-not-is_waiting-clause-left
returns-else-not-is_waiting-clause-left c =
    let at = ap (position (belongs_to c.args.caller c.args.key.now)) (sym c.deref.ensures.0) ∙ sym c.place_of.ensures ∙ c.in_ok-place.was in
    let j = c.index-deref-place.result in
    let is = c.index-deref-place.is ∙ ap (λ js. get_or js c.in_ok-place.place j) c.deref-2.ensures.0 in
    let state = state_at_place c.args.caller c.args.key.now c.self.inside.joiners.items c.in_ok-place.place j at is in
    let waiting = ap (λ (x : Joiner). is_waiting x.state) c.index-deref-place.is ∙ sym c.is_waiting.ensures ∙ c.if-not-is_waiting.false in
    sym c.self.view_is ∙ sym (after_take_waiting c.args.caller c.args.key.now c.self.inside.joiners.items j.state state waiting)
    ∙ ap (joiners_after_take c.args.caller c.args.key.now) c.self.view_is

pub invariant_of-self : goal.invariant_of-self
invariant_of-self c =
    let at = ap (position (belongs_to c.args.caller c.args.key.now)) (sym c.deref.ensures.0) ∙ sym c.place_of.ensures ∙ c.in_ok-place.was in
    let same = remove_joiner c.args.caller c.args.key.now c.self.inside.joiners.items c.in_ok-place.place c.self.invariant.list at in
    record { list = subst IsJoinerList (sym (c.remove.ensures.items ∙ same)) (IsJoinerList-without c.args.caller c.args.key.now c.self.inside.joiners.items c.self.invariant.list) }

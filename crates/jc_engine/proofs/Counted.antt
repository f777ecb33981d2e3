-- What a phase counts says how many own steps it adds.
--     one_longer        with one own step more the list is one longer
--     counted_longer    at most one phase of a session, which changes this of its counts, adds this number of own steps
use Rattle.jc_engine.proofs.Common.{◌≡◌, ◌+◌, ◌∙◌, inl, inr, ℕ, List, ◌∷◌, None, length, ap, sym, subst, arith, length-append, Caller, Bytes, nothing_said, Event, Step, Op, State, IsReached, own_steps, OwnSteps, HasOneMore, MayBegin, Begins, PicksUp, JoinClaim, Begun, adds_one, gains_one, IsCounted, counted_begun, counted_polled, Nothing, Reserved, Committed, Joined, Answered, Retried, Withdrawn}
use Rattle.jc_stripe.specs.Polled.{Polled}
use Rattle.jc_stripe.specs.Outcomes as begun
use Rattle.jc_stripe.specs.Polled as polled
use Rattle.jc_session.specs.declared.counts.Counted.{Counted}
use Rattle.jc_session.specs.declared.counts.Counted.TheVariants.{Step as OneStep}

abbrev pub steps_in : Counted → ℕ
steps_in Nothing = 0
steps_in OneStep = 1
steps_in Reserved = 0
steps_in Committed = 1
steps_in Joined = 0
steps_in Answered = 1
steps_in Retried = 0
steps_in Withdrawn = 0

abbrev pub HasLonger : ℕ → Counted → State → State → Type 0
HasLonger session counted old new = length (own_steps session new) ≡ length (own_steps session old) + steps_in counted

as_long : (session : ℕ) (old new : State) → own_steps session new ≡ own_steps session old → length (own_steps session new) ≡ length (own_steps session old) + 0
as_long session old new same = let long = ap length same in omega arith

pub one_longer : (event : Event) (old new : List Event) → HasOneMore event old new → length new ≡ length old + 1
one_longer event old new more =
    let was = ap length more.was ∙ length-append more.before more.after in
    let is = ap length more.is ∙ length-append more.before (event ∷ more.after) in
    omega arith

begun_longer : OwnSteps → (caller : Caller) (key : Bytes) (op : Op) (b : Begun) (old new : State) → MayBegin old caller key → Begins old caller key op b new → HasLonger caller.session (counted_begun b) old new
begun_longer law caller key op (begun.Done done) old new may begins =
    one_longer _ _ _ (adds_one caller.session old new (Step caller op key nothing_said None done.reply) done.place (law.done old new caller key op done may begins))
begun_longer law caller key op (begun.Asks ticket) old new may begins = as_long caller.session old new (law.reserves old new caller key op ticket begins)
begun_longer law caller key op (begun.Joined join) old new may begins = as_long caller.session old new (law.joins old new caller key op join begins)
begun_longer law caller key op (begun.Refused refusal) old new may begins = as_long caller.session old new (law.refused old new caller key op refusal begins)

picked_longer : OwnSteps → (join : JoinClaim) (p : Polled) (old new : State) → IsReached old → PicksUp old join p new → HasLonger join.caller.session (counted_polled p) old new
picked_longer law join (polled.Answer reply place shared_with) old new reached picks =
    let gains = law.picks_up old new join reply place shared_with reached picks in
    one_longer _ _ _ (gains_one join.caller.session old new _ place gains.1)
picked_longer law join polled.Again old new reached picks = as_long join.caller.session old new (law.again old new join reached picks)
picked_longer law join (polled.NotYet back) old new reached picks = as_long join.caller.session old new (law.not_yet old new join back picks)

moved : (n session : ℕ) (one counted : Counted) (old new : State) → n ≡ session → counted ≡ one → HasLonger n one old new → HasLonger session counted old new
moved n session one counted old new own is longer = subst (λ (m : ℕ). HasLonger m counted old new) own (subst (λ (k : Counted). HasLonger n k old new) (sym is) longer)

pub counted_longer : OwnSteps → (counted : Counted) (session : ℕ) (old new : State) → IsReached old → IsCounted counted session old new → HasLonger session counted old new
counted_longer law counted session old new reached (inl same) =
    subst (λ (k : Counted). HasLonger session k old new) (sym same.1) (as_long session old new (ap (own_steps session) same.0))
counted_longer law counted session old new reached (inr (inl first)) =
    let f = first.0 in moved f.caller.session session _ counted old new f.own first.1 (begun_longer law f.caller f.key f.op f.begun old new f.may f.begins)
counted_longer law counted session old new reached (inr (inr (inl last))) =
    let l = last.0 in moved l.reservation.caller.session session Committed counted old new l.own last.1
    (one_longer _ _ _ (adds_one l.reservation.caller.session old new (Step l.reservation.caller l.reservation.op l.reservation.key l.out None l.done.reply) l.done.place (law.ends old new l.reservation l.out l.done reached l.ends)))
counted_longer law counted session old new reached (inr (inr (inr (inl pick)))) =
    let p = pick.0 in moved p.join.caller.session session _ counted old new p.own pick.1 (picked_longer law p.join p.picked old new reached p.picks_up)
counted_longer law counted session old new reached (inr (inr (inr (inr (inl back))))) =
    moved session session Withdrawn counted old new (λ i. session) back.1 (as_long session old new (law.gives_back old new session back.0.reservation reached back.0.gives_back))
counted_longer law counted session old new reached (inr (inr (inr (inr (inr forgets))))) =
    moved session session Nothing counted old new (λ i. session) forgets.1 (as_long session old new (law.forgets old new session reached forgets.0))

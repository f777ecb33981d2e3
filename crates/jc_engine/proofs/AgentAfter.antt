-- What a call leaves of its agent.
--     session_is, session_joined, session_asked
--                    the session's number: of the same agent, after a join, after a first phase and an outside call
--     writer_stays   the writer is there after a first phase
--     after_first    after a first phase that ends the call: the counts are other ones
--     after_begun    after a first phase of the same agent, whatever it is counted as
--     after_both     after a first phase that reserves, an outside call, and a last phase
--     after_answer   after a join and its answer
--     after_retry    after a join that was told to retry
use Rattle.jc_engine.proofs.Common.{◌≡◌, ◌-◌, IsSome, sym, ap, subst, ◌∙◌, one_more, counts_after, counts_ended, Joined, Answered, Retried, Agent}
use Rattle.jc_session.specs.declared.counts.Counts.{Counts}
use Rattle.jc_session.specs.declared.counts.Counted.{Counted}

ended : (counts : Counts) → counts.reservations ≡ 0 → counts_ended (record counts { reservations = one_more counts.reservations }) ≡ record counts { own = one_more counts.own }
ended counts none = (λ i. record counts { reservations = one_more (none i) - 1; own = one_more counts.own }) ∙ (λ i. record counts { reservations = sym none i; own = one_more counts.own })

joined : (counts : Counts) → counts.joins ≡ 0 → record counts { joins = one_more counts.joins - 1 } ≡ counts
joined counts none = (λ i. record counts { joins = one_more (none i) - 1 }) ∙ (λ i. record counts { joins = sym none i })

module _ {I J : Type 0} {D : I → Type 0} {E : J → Type 0} where
  pub session_is : (old start : Agent I J D E) → start ≡ old → start.caller.session ≡ old.caller.session
  session_is old start same = ap (λ (s : Agent I J D E). s.caller.session) same

  pub session_joined : (old start mid : Agent I J D E) → start ≡ old → mid ≡ record start { counts = counts_after start.counts Joined } → mid.caller.session ≡ old.caller.session
  session_joined old start mid same first = ap (λ (s : Agent I J D E). s.caller.session) first ∙ session_is old start same

  pub session_asked : (old mid asked : Agent I J D E) (counts : Counts) → mid ≡ record old { counts = counts } → asked ≡ record mid { hands = asked.hands } → asked.caller.session ≡ old.caller.session
  session_asked old mid asked counts first rest = ap (λ (s : Agent I J D E). s.caller.session) rest ∙ ap (λ (s : Agent I J D E). s.caller.session) first

  pub writer_stays : (old new : Agent I J D E) (counts : Counts) → new ≡ record old { counts = counts } → IsSome old.hands.outside.writer → IsSome new.hands.outside.writer
  writer_stays old new counts e there = subst IsSome (sym (ap (λ (s : Agent I J D E). s.hands.outside.writer) e)) there

  pub after_first : (old new : Agent I J D E) (counts : Counts) → new ≡ record old { counts = counts } → new ≡ record old { counts = counts; hands = new.hands }
  after_first old new counts e = e ∙ sym (ap (λ (s : Agent I J D E). record old { counts = counts; hands = s.hands }) e)

  pub after_begun : (old start new : Agent I J D E) (counted : Counted) → start ≡ old → new ≡ record start { counts = counts_after start.counts counted } → new ≡ record old { counts = counts_after old.counts counted }
  after_begun old start new counted same first = first ∙ ap (λ (s : Agent I J D E). record s { counts = counts_after s.counts counted }) same

  pub after_both : (old mid asked new : Agent I J D E) → old.counts.reservations ≡ 0
      → mid ≡ record old { counts = record old.counts { reservations = one_more old.counts.reservations } } → asked ≡ record mid { hands = asked.hands } → new ≡ record asked { counts = counts_ended asked.counts }
      → new ≡ record old { counts = record old.counts { own = one_more old.counts.own }; hands = new.hands }
  after_both old mid asked new none first rest last =
      let counts : asked.counts ≡ record old.counts { reservations = one_more old.counts.reservations } = ap (λ s. s.counts) rest ∙ ap (λ s. s.counts) first in
      let count : counts_ended asked.counts ≡ record old.counts { own = one_more old.counts.own } = ap counts_ended counts ∙ ended old.counts none in
      last
      ∙ (λ i. record asked { counts = count i })
      ∙ ap (λ (s : Agent I J D E). record s { counts = record old.counts { own = one_more old.counts.own } }) rest
      ∙ ap (λ (s : Agent I J D E). record s { counts = record old.counts { own = one_more old.counts.own }; hands = asked.hands }) first
      ∙ sym (ap (λ (s : Agent I J D E). record old { counts = record old.counts { own = one_more old.counts.own }; hands = s.hands }) last)

  pub after_answer : (old start mid new : Agent I J D E) → old.counts.joins ≡ 0 → start ≡ old
      → mid ≡ record start { counts = counts_after start.counts Joined } → new ≡ record mid { counts = counts_after mid.counts Answered }
      → new ≡ record old { counts = record old.counts { own = one_more old.counts.own } }
  after_answer old start mid new none same first last =
      last ∙ ap (λ (s : Agent I J D E). record s { counts = counts_after s.counts Answered }) (first ∙ ap (λ (s : Agent I J D E). record s { counts = counts_after s.counts Joined }) same)
      ∙ (λ i. record old { counts = record (joined old.counts none i) { own = one_more old.counts.own } })

  pub after_retry : (old start mid new : Agent I J D E) → old.counts.joins ≡ 0 → start ≡ old
      → mid ≡ record start { counts = counts_after start.counts Joined } → new ≡ record mid { counts = counts_after mid.counts Retried } → new ≡ old
  after_retry old start mid new none same first last =
      last ∙ ap (λ (s : Agent I J D E). record s { counts = counts_after s.counts Retried }) (first ∙ ap (λ (s : Agent I J D E). record s { counts = counts_after s.counts Joined }) same) ∙ (λ i. record old { counts = joined old.counts none i })

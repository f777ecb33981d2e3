-- A call that has somebody to ask.
--     of_caller       its reservation is the caller's, of the key
--     asked_since     what the next take finds comes after what a take could have found at first
use Rattle.jc_engine.proofs.Common.{◌≡◌, List, ap, Caller, Bytes, Op, State, Asks, TicketClaim, PhaseLaws, Row, IsBegunRow}
use Rattle.jc_engine.proofs.Rows.{Since, asked_keeps, row_since, since_found}

module _ (caller : Caller) (key : Bytes) (op : Op) (ticket : TicketClaim) (row : List (State × State)) (x : IsBegunRow caller key op (Asks ticket) row) where
  pub of_caller : (ticket.reservation.caller ≡ caller) × (ticket.reservation.key ≡ key)
  of_caller = let is = x.starts.made.first.begins.4 in (ap (λ (k : TicketClaim). k.reservation.caller) is, ap (λ (k : TicketClaim). k.reservation.key) is)

  pub asked_since : {G T : Type 0} (takes gives : G → T → State → G → T → Type 0) (finds : G → T → State → Type 0) → PhaseLaws → (g : G) (t : T) (h : G) (u : T) → Row takes gives finds caller.session g t row h u
      → (a : State) → finds h u a → Since takes gives finds caller.session g t a
  asked_since takes gives finds law g t h u lent a found = row_since takes gives finds caller.session law g t row h u lent (asked_keeps law caller key op ticket row x) a (since_found takes gives finds caller.session h u a found)

-- Whom a first phase asks.
--     asks_one            a call that runs no processor asks the loader or the writer
--     runs_processor      an `Invoke` asks its processor
--     no_done, no_join    and it is given nothing else, unless it is refused
--     no_ticket, no_share
--                         a call that asks nobody outside is given neither a ticket nor a join
use Rattle.jc_engine.proofs.Common.{◌≡◌, ◌∙◌, ◌&&◌, ◌||◌, if◌then◌else◌, ℕ, Bool, true, false, Option, None, Some, is_none, refl, sym, ap, Caller, Config, Change, Op, Get, Invoke, Bytes, entry_at, is_invoke, loader_ask, StepDone, First, Nobody, Loader, Writer, Processor, first_asked, first_by, may_join, reserves, TicketClaim, JoinClaim, asks_loader, asks_processor, asks_writer, State, Begins, invokes}
use Rattle.jc_stripe.specs.Outcomes as begun
use Rattle.jc_stripe.specs.Tests.{asks_outside}
use Rattle.jc_stripe.proofs.CallerLemmas.{clash}

one_of : (first : First) → reserves first ≡ true → (asks_processor first ≡ true → ⊥) → (asks_loader first || asks_writer first) ≡ true
one_of Nobody reserved other = cc
one_of Loader reserved other = refl
one_of (Writer change) reserved other = refl
one_of (Processor entry loads) reserved other = absurd (other refl)

pub asks_one : (old new : State) (caller : Caller) (key : Bytes) (op : Op) (ticket : TicketClaim) → is_invoke op ≡ false → Begins old caller key op (begun.Asks ticket) new
    → (asks_loader ticket.reservation.first || asks_writer ticket.reservation.first) ≡ true
asks_one old new caller key op ticket other h = one_of ticket.reservation.first h.3 (λ runs. clash (is_invoke op) (invokes old new caller key op ticket h runs) other)

pub runs_processor : (old new : State) (caller : Caller) (key : Bytes) (ticket : TicketClaim) → Begins old caller key Invoke (begun.Asks ticket) new → asks_processor ticket.reservation.first ≡ true
runs_processor old new caller key ticket h = sym (ap asks_processor h.2)

pub no_done : (old new : State) (caller : Caller) (key : Bytes) (done : StepDone) → Begins old caller key Invoke (begun.Done done) new → ⊥
no_done old new caller key done h = clash true (λ i. true) (ap asks_processor h.1)

pub no_join : (old new : State) (caller : Caller) (key : Bytes) (join : JoinClaim) → Begins old caller key Invoke (begun.Joined join) new → ⊥
no_join old new caller key join h = let none = h.1 in cc

-- a call joins the load that it would else ask for
get_asked : (read_through : Bool) (entry : Option Bytes) (change : Option Change) (found : Option ℕ) (load : ℕ) → (if read_through && is_none entry then found else None) ≡ Some load
    → reserves (first_by (loader_ask read_through Get entry) change) ≡ true
get_asked true None change found load joins = refl
get_asked true (Some value) change found load joins = cc
get_asked false entry change found load joins = cc

load_asked : (config : Config) (op : Op) (entry : Option Bytes) (found : Option ℕ) (load : ℕ) → (if may_join op && config.read_through && is_none entry then found else None) ≡ Some load
    → reserves (first_asked config op entry) ≡ true
load_asked config Get entry found load joins = get_asked config.read_through entry _ found load joins
load_asked config op entry found load joins = cc

pub no_ticket : (old new : State) (caller : Caller) (key : Bytes) (op : Op) (ticket : TicketClaim) → asks_outside old key op ≡ false → Begins old caller key op (begun.Asks ticket) new → ⊥
no_ticket old new caller key op ticket alone h = clash (asks_outside old key op) (ap reserves h.2 ∙ h.3) alone

pub no_share : (old new : State) (caller : Caller) (key : Bytes) (op : Op) (join : JoinClaim) → asks_outside old key op ≡ false → Begins old caller key op (begun.Joined join) new → ⊥
no_share old new caller key op join alone h = clash (asks_outside old key op) (load_asked old.config op (entry_at old.cache key) _ join.load h.1) alone

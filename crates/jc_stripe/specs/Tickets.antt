-- What contracts see of the tickets that stand for a stripe's reservations, of their asks, and of the joins that stand for joined
-- loads.
--     TicketClaim       the ticket of a reservation: the whole reservation, whether the one whom it asks first was asked, and
--                       whether the writer was asked after a processor
--     Claim             the content of an ask for a reservation: the reservation's key and number, and whom the ask is of
--     claim_of          the content of the first ask for a reservation
--     writer_for        the ask is of the writer, for this change, or of nobody if there is none
--     report_claim      the content of a reservation's ask of the writer after its processor, for this change
--     asks_loader       a reservation asks the loader first
--     asks_writer       a reservation asks the writer first
--     asks_processor    a reservation asks the processor first
--     change_asked      the change of the store that the writer is asked for, if the writer is asked first
--     entry_seen        the entry that a processor is asked about, if the processor is asked first
--     is_loadable       the processor is asked first, and its key may be loaded for it
--     JoinClaim         a call that has joined the load of its key
use Rattle.std.specs.Prelude.{ℕ, Bool, true, false, Option, None, Some}
use Rattle.jc_types.specs.declared.caller.Caller.{Caller}
use Rattle.jc_model.specs.Cache.{Bytes}
use Rattle.jc_model.specs.declared.event.Change.{Change}
use Rattle.jc_stripe.specs.declared.ticket.First.{First}
use Rattle.jc_stripe.specs.declared.ticket.First.TheVariants.{Nobody, Loader, Writer, Processor}
use Rattle.jc_stripe.specs.declared.ticket.Reservation.{Reservation}

pub record TicketClaim : Type 0 where
  pub reservation : Reservation
  pub asked : Bool
  pub writer_asked : Bool  -- after the processor

pub record Claim : Type 0 where
  pub key : Bytes
  pub number : ℕ
  pub asked : First  -- the writer after a processor, too

abbrev pub asks_loader : First → Bool
asks_loader Nobody = false
asks_loader Loader = true
asks_loader (Writer change) = false
asks_loader (Processor entry loads) = false

abbrev pub asks_writer : First → Bool
asks_writer Nobody = false
asks_writer Loader = false
asks_writer (Writer change) = true
asks_writer (Processor entry loads) = false

abbrev pub asks_processor : First → Bool
asks_processor Nobody = false
asks_processor Loader = false
asks_processor (Writer change) = false
asks_processor (Processor entry loads) = true

abbrev pub change_asked : First → Option Change
change_asked Nobody = None
change_asked Loader = None
change_asked (Writer change) = Some change
change_asked (Processor entry loads) = None

abbrev pub claim_of : Reservation → Claim
claim_of r = record { key = r.key; number = r.number; asked = r.first }

abbrev pub writer_for : Option Change → First
writer_for None = Nobody
writer_for (Some change) = Writer change

abbrev pub report_claim : Reservation → Option Change → Claim
report_claim r change = record { key = r.key; number = r.number; asked = writer_for change }

abbrev pub entry_seen : First → Option Bytes
entry_seen Nobody = None
entry_seen Loader = None
entry_seen (Writer change) = None
entry_seen (Processor entry loads) = entry

abbrev pub is_loadable : First → Bool
is_loadable Nobody = false
is_loadable Loader = false
is_loadable (Writer change) = false
is_loadable (Processor entry loads) = loads

-- `load` is the number of the reservation whose load it joined
pub record JoinClaim : Type 0 where
  pub caller : Caller
  pub key : Bytes
  pub load : ℕ

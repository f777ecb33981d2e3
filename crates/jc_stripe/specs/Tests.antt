-- The tests of a stripe by which a driver knows whether a condition of a phase holds.
--     is_clear        the part of the condition on a first phase that looks at no event: the key is of this stripe, and no
--                     reservation and no joiner of the session is of another call or of this key
--     asks_outside    a call asks the loader, the writer or the processor, or joins a load, unless it is refused
use Rattle.std.specs.Prelude.{Bool, ◌&&◌}
use Rattle.std.specs.List.{list_all}
use Rattle.jc_types.specs.declared.caller.Caller.{Caller}
use Rattle.jc_model.specs.declared.event.Op.{Op}
use Rattle.jc_model.specs.Cache.{Bytes, entry_at}
use Rattle.jc_stripe.specs.State.{State, is_of}
use Rattle.jc_stripe.specs.Refusals.{first_asked, reserves}
use Rattle.jc_stripe.specs.Phases.{is_other_call, is_other_join}

abbrev pub is_clear : State → Caller → Bytes → Bool
is_clear state caller key =
    is_of state key && list_all (is_other_call caller key) state.reservations && list_all (is_other_join caller key) state.joiners

abbrev pub asks_outside : State → Bytes → Op → Bool
asks_outside state key op = reserves (first_asked state.config op (entry_at state.cache key))

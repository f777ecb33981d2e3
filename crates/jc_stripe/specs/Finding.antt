-- What the first phase of a call finds at its key, and keeps while it decides. No contract of a public function cites this.
--     found_at         the load that the call joins, whether it asks anybody, whether it needs its key free, and whether the key
--                      is barred, or reserved though the call needs it free
--     is_to_reserve    whether the call reserves its key, by what it has found
use Rattle.std.specs.Prelude.{Bool, ◌&&◌, ◌||◌, is_none}
use Rattle.jc_model.specs.declared.event.Op.{Op}
use Rattle.jc_model.specs.Cache.{Bytes, entry_at}
use Rattle.jc_stripe.specs.declared.call_rules.Found.{Found}
use Rattle.jc_stripe.specs.State.{State, is_reserved, is_barred}
use Rattle.jc_stripe.specs.Refusals.{first_asked, reserves, load_joined, needs_free_key}

abbrev pub found_at : State → Bytes → Op → Found
found_at state key op =
    record {
      load = load_joined state key op;
      asks = reserves (first_asked state.config op (entry_at state.cache key));
      needs_free_key = needs_free_key state key op;
      is_busy = is_barred state key || (is_reserved state key && needs_free_key state key op);
    }

abbrev pub is_to_reserve : Found → Bool
is_to_reserve found = found.asks && is_none found.load

-- A world after its cache was closed and opened again, in any shape: what is kept of its entries, and the premises from there on.
--     keys_dropped        the keys that a reopening drops
--     stripes_reopened    the stripes of the new shape, each with what it keeps
--     foreign_reopened    the foreign keys, once it is opened again: none if what is kept is the store's
--     after_reopening     the world once it is opened again: as a new one, but for what is cached, the store, the foreign keys, and
--                         the numbers of calls. Its premises count from here: the opening is coherent if what is kept is the
--                         store's, but for foreign keys
use Rattle.std.specs.Prelude.{List, Bool, true, false, map}
use Rattle.std.specs.FinMap.{empty}
use Rattle.jc_types.specs.declared.config.Config.{Config}
use Rattle.jc_model.specs.Cache.{Bytes, Cache}
use Rattle.jc_outside.specs.declared.done.Origin.TheVariants.{Played}
use Rattle.jc_stripe.specs.State.{State}
use Rattle.jc_stripe.specs.Reopening.{all_entries, dropped, opened_stripes}
use Rattle.jc_world.specs.World.{WorldState, start}
use Rattle.jc_world.specs.Premises.{opens_coherent, opens_as_told}

-- in the order of all entries
abbrev pub keys_dropped : Config → WorldState → List Bytes
keys_dropped config w = map (λ entry. entry.0) (dropped config (all_entries w.stripes))

abbrev pub stripes_reopened : Config → WorldState → List State
stripes_reopened config w = opened_stripes config Played (all_entries w.stripes) 0 config.stripes

-- if all that is kept is the store's, no write of others counts any longer
abbrev pub foreign_reopened : Cache → Bool → Cache
foreign_reopened foreign true = empty
foreign_reopened foreign false = foreign

-- the store stays, and the highest number of a call
abbrev pub after_reopening : Config → WorldState → WorldState
after_reopening config w =
    let stripes = stripes_reopened config w in
    record (start config) {
      stripes = stripes;
      store = w.store;
      foreign = foreign_reopened w.foreign (opens_coherent w.store stripes);
      last = w.last;
      premises = record { writers = true; loaders = true; opening = opens_as_told w.foreign w.store stripes };
      is_fresh = false;
    }

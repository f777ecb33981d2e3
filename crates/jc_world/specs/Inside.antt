-- What the fields of a `Machine` mean, which plays the events of a world: callers see the world's state alone. No contract of a
-- public function cites this.
--     world_of      the state that the fields mean
use Rattle.jc_world.specs.declared.machine.Machine.TheInside.{Inside}
use Rattle.jc_world.specs.World.{WorldState}
use Rattle.jc_world.specs.Held.{parts_of, joins_of}

abbrev pub world_of : Inside → WorldState
world_of m =
    record {
      config = m.config;
      stripes = m.stripes.stripes;
      order = m.stripes.order;
      store = m.store;
      foreign = m.foreign;
      last = m.last;
      calls = m.calls.items;
      parts = parts_of m.held;
      joins = joins_of m.joins;
      premises = m.premises;
      is_fresh = m.is_fresh;
    }

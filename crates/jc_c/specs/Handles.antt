-- The desk that a handle owns. No contract of a public function cites this.
--     heap           the allocator of C
--     handle_owns    an open handle owns the box of its desk, at its pointer; one that isn't open owns nothing
use Rattle.std.specs.Prelude.{Bool, true, false}
use base.Fml.{Fml, ftrue}
use denote.RawPtr.{Ptr}
use Rattle.std_alloc.specs.Box.Ownership.{box_owns}
use Rattle.std_heap.specs.declared.Global.{Global}
use Rattle.std_heap.specs.contracts.GlobalAllocator.TheImpl.{ghosts}
use Rattle.jc_c.specs.contracts.rooms.DeskRooms.{the_row}

abbrev pub heap : Global
heap = record { memory = record { seal = tt } }

abbrev pub handle_owns : Bool → Ptr → the_row.Denot → Fml
handle_owns false p d = ftrue
handle_owns true p d = box_owns (ghosts.dealloc_token heap) the_row p d

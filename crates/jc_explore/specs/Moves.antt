-- The moves that a program can have.
--     is_begin          an act by which a thread's next item begins
--     moves_of_thread   each move of one thread
--     moves_up_to       each move of a number of threads
use Rattle.std.specs.Prelude.{ℕ, zero, suc, List, [], ◌∷◌, ◌++◌, Bool, true, false}
use Rattle.jc_explore.specs.declared.moves.Act.{Act}
use Rattle.jc_explore.specs.declared.moves.Act.TheVariants.{Begin, Read, LoadFails, Process, ProcessLoadFails, ProcessFails, Write}
use Rattle.jc_explore.specs.declared.moves.Act.TheVariants.{WriteFails, WriteLies, Commit, PickUp}
use Rattle.jc_explore.specs.declared.moves.Move.{Move}

abbrev pub is_begin : Act → Bool
is_begin Begin = true
is_begin Read = false
is_begin LoadFails = false
is_begin Process = false
is_begin ProcessLoadFails = false
is_begin ProcessFails = false
is_begin Write = false
is_begin WriteFails = false
is_begin WriteLies = false
is_begin Commit = false
is_begin PickUp = false

abbrev pub moves_of_thread : ℕ → List Move
moves_of_thread thread =
    record { thread = thread; act = Begin } ∷ record { thread = thread; act = Read }
    ∷ record { thread = thread; act = LoadFails } ∷ record { thread = thread; act = Process }
    ∷ record { thread = thread; act = ProcessLoadFails } ∷ record { thread = thread; act = ProcessFails }
    ∷ record { thread = thread; act = Write } ∷ record { thread = thread; act = WriteFails }
    ∷ record { thread = thread; act = WriteLies } ∷ record { thread = thread; act = Commit }
    ∷ record { thread = thread; act = PickUp } ∷ []

abbrev pub moves_up_to : ℕ → List Move
moves_up_to zero = []
moves_up_to (suc threads) = moves_up_to threads ++ moves_of_thread threads

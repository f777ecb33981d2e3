-- The name of a refusal, and its kind.
--     refusal_name     the letters of the variant's name, without its code or field: what a transcript shows
--     is_fault         the loader, the writer or the processor failed: the refusal is the reply of a step
--     is_put_off       a bulk call tries the key again in its next round
use Rattle.std.specs.Prelude.{ℕ, List, Bool, true, false, codes}
use Rattle.jc_types.specs.declared.refusal.Refusal.{Refusal}
use Rattle.jc_types.specs.declared.refusal.Refusal.TheVariants.{HistoryFull, Busy, TooManyInFlight, TooManyJoiners, LoaderFailed}
use Rattle.jc_types.specs.declared.refusal.Refusal.TheVariants.{WriterFailed, ProcessorFailed, OutOfMemory, TooManyKeys, BadConfig}
use Rattle.jc_types.specs.declared.refusal.Refusal.TheVariants.{NoLoader, NoWriter, TooManySessions, StillReserved, RepeatedKey}

-- the letters of the variant's name, without its code or field
abbrev pub refusal_name : Refusal → List ℕ
refusal_name HistoryFull = codes "HistoryFull"
refusal_name Busy = codes "Busy"
refusal_name TooManyInFlight = codes "TooManyInFlight"
refusal_name TooManyJoiners = codes "TooManyJoiners"
refusal_name (LoaderFailed code) = codes "LoaderFailed"
refusal_name (WriterFailed code) = codes "WriterFailed"
refusal_name (ProcessorFailed code) = codes "ProcessorFailed"
refusal_name OutOfMemory = codes "OutOfMemory"
refusal_name TooManyKeys = codes "TooManyKeys"
refusal_name (BadConfig field) = codes "BadConfig"
refusal_name NoLoader = codes "NoLoader"
refusal_name NoWriter = codes "NoWriter"
refusal_name TooManySessions = codes "TooManySessions"
refusal_name StillReserved = codes "StillReserved"
refusal_name RepeatedKey = codes "RepeatedKey"

-- the loader, the writer or the processor failed
abbrev pub is_fault : Refusal → Bool
is_fault HistoryFull = false
is_fault Busy = false
is_fault TooManyInFlight = false
is_fault TooManyJoiners = false
is_fault (LoaderFailed code) = true
is_fault (WriterFailed code) = true
is_fault (ProcessorFailed code) = true
is_fault OutOfMemory = false
is_fault TooManyKeys = false
is_fault (BadConfig field) = false
is_fault NoLoader = false
is_fault NoWriter = false
is_fault TooManySessions = false
is_fault StillReserved = false
is_fault RepeatedKey = false

-- a bulk call tries the key again in its next round
abbrev pub is_put_off : Refusal → Bool
is_put_off HistoryFull = false
is_put_off Busy = true
is_put_off TooManyInFlight = true
is_put_off TooManyJoiners = true
is_put_off (LoaderFailed code) = false
is_put_off (WriterFailed code) = false
is_put_off (ProcessorFailed code) = false
is_put_off OutOfMemory = false
is_put_off TooManyKeys = false
is_put_off (BadConfig field) = false
is_put_off NoLoader = false
is_put_off NoWriter = false
is_put_off TooManySessions = false
is_put_off StillReserved = false
is_put_off RepeatedKey = false

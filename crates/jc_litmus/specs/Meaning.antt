-- The meaning of verdicts and ends, for all schedules of a program.
--     IsDecided                   some whole schedule ends in an outcome that decides an expectation
--     IsUndecided                 no whole schedule ends in such an outcome
--     FulfilledBy, IsFulfilled    an expectation is fulfilled: a `sometimes` that is decided, a `never` or an `always` that isn't
--     MissedBy, IsMissed          an expectation isn't fulfilled
--     MeansBy, Means              the meaning of a verdict: that the expectation is fulfilled, that it isn't, or nothing
--     EndMeans                    the meaning of an end: that each expectation is fulfilled, that one isn't, or nothing
use Rattle.std.specs.Prelude.{◌≡◌, List, true, false}
use Rattle.std.specs.List.{All, Any}
use Rattle.jc_explore.specs.declared.moves.Move.{Move}
use Rattle.jc_explore.specs.declared.program.Program.{Program}
use Rattle.jc_explore.specs.Explored.{IsWholeSchedule}
use Rattle.jc_explore.specs.Final.{FinalValue}
use Rattle.jc_litmus.specs.declared.judge.Verdict.{Verdict}
use Rattle.jc_litmus.specs.declared.judge.Verdict.TheVariants as verdict
use Rattle.jc_litmus.specs.declared.program.Expectation.{Expectation}
use Rattle.jc_litmus.specs.declared.program.Quantifier.{Quantifier}
use Rattle.jc_litmus.specs.declared.program.Quantifier.TheVariants.{Never, Sometimes, Always}
use Rattle.jc_litmus.specs.declared.run.LitmusEnd.{LitmusEnd}
use Rattle.jc_litmus.specs.declared.run.LitmusEnd.TheVariants as end
use Rattle.jc_litmus.specs.Judging.{decides}

abbrev pub IsDecided : Program → Expectation → Type 0
IsDecided p e = (schedule : List Move) × (f : FinalValue) × IsWholeSchedule p schedule f × (decides e f ≡ true)

abbrev pub IsUndecided : Program → Expectation → Type 0
IsUndecided p e = (schedule : List Move) (f : FinalValue) → IsWholeSchedule p schedule f → decides e f ≡ false

abbrev pub FulfilledBy : Program → Expectation → Quantifier → Type 0
FulfilledBy p e Sometimes = IsDecided p e
FulfilledBy p e Never = IsUndecided p e
FulfilledBy p e Always = IsUndecided p e

abbrev pub MissedBy : Program → Expectation → Quantifier → Type 0
MissedBy p e Sometimes = IsUndecided p e
MissedBy p e Never = IsDecided p e
MissedBy p e Always = IsDecided p e

abbrev pub IsFulfilled : Program → Expectation → Type 0
IsFulfilled p e = FulfilledBy p e e.quantifier

abbrev pub IsMissed : Program → Expectation → Type 0
IsMissed p e = MissedBy p e e.quantifier

abbrev pub MeansBy : Program → Expectation → Quantifier → Verdict → Type 0
MeansBy p e q (verdict.Holds first) = FulfilledBy p e q
MeansBy p e q (verdict.Fails first) = MissedBy p e q
MeansBy p e q verdict.Open = Unit {0}

abbrev pub Means : Program → Expectation → Verdict → Type 0
Means p e v = MeansBy p e e.quantifier v

abbrev pub EndMeans : Program → List Expectation → LitmusEnd → Type 0
EndMeans p es end.Holds = All (IsFulfilled p) es
EndMeans p es end.Fails = Any (IsMissed p) es
EndMeans p es end.Open = Unit {0}
EndMeans p es end.LineFault = Unit {0}

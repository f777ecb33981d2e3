-- What a function that reads a line of a program of threads returns, and that a fault changes nothing. No contract of a public
-- function cites this.
--     error_of        an error of a script's reader, as one of a program's
--     ReadsAs         a function returned what the definition states, unless an allocation failed
--     KeepsAtFault    at a fault nothing has changed
use Rattle.std.specs.Prelude.{◌≡◌, Result, Ok, Err}
use Rattle.jc_text.specs.declared.fault.ReadError.{ReadError}
use Rattle.jc_text.specs.declared.fault.ReadError.TheVariants as script
use Rattle.jc_litmus.specs.declared.program.LineFault.{LineFault}
use Rattle.jc_litmus.specs.declared.program.LineFault.TheVariants as faults
use Rattle.jc_litmus.specs.declared.line_error.LineError.{LineError}
use Rattle.jc_litmus.specs.declared.line_error.LineError.TheVariants as errors

abbrev pub error_of : ReadError → LineError
error_of script.Memory = errors.Memory
error_of (script.Fault fault) = errors.Fault (faults.Script fault)

abbrev pub ReadsAs : {X : Type 0} → Result X LineError → Result X LineFault → Type 0
ReadsAs (Ok x) said = said ≡ Ok x
ReadsAs (Err errors.Memory) said = Unit {0}
ReadsAs (Err (errors.Fault fault)) said = said ≡ Err fault

abbrev pub KeepsAtFault : {X Y : Type 0} → (old new : X) → Result Y LineError → Type 0
KeepsAtFault old new (Ok y) = Unit {0}
KeepsAtFault old new (Err errors.Memory) = Unit {0}
KeepsAtFault old new (Err (errors.Fault fault)) = new ≡ old

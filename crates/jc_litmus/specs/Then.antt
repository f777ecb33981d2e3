-- A step that may fail, and the step that follows it.
use Rattle.std.specs.Prelude.{Result, Ok, Err}
use Rattle.jc_litmus.specs.declared.program.LineFault.{LineFault}

infixl 10 ◌>>=◌
abbrev pub ◌>>=◌ : {A B : Type 0} → Result A LineFault → (A → Result B LineFault) → Result B LineFault
(Ok x) >>= f = f x
(Err e) >>= f = Err e

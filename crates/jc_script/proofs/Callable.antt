-- What is read may be begun: a call's operation is a call by itself, and its session is one of the 32.
use Rattle.jc_script.proofs.Common.{◌≡◌, ℕ, List, true, Option, None, Some, Result, Ok, Err, refl, IfOk, IfSome, and_from, Op, is_single, Fault, Line, Begin, BeginBulk, read_line, is_callable, IsOperation, SaysWords}
use Rattle.jc_model.specs.declared.event.Op.TheVariants as op
use Rattle.jc_text.proofs.CallerLemmas.{line_spelled}

-- each operation that has a name is a call by itself
operation_single : (o : Op) → IsOperation o → is_single o ≡ true
operation_single (op.LoadAll replace) known = absurd known
operation_single single known = refl

-- what a script can say may be begun
line_callable : (line : Line) → SaysWords line → is_callable line ≡ true
line_callable (Begin call session command) known = and_from _ _ (operation_single command.op known.2) known.1
line_callable (BeginBulk call session bulk) known = known.1
line_callable other known = refl

-- what the line begins, if it asks for anything and begins a call, may be begun
abbrev pub MayBegin : Option Line → Type 0
MayBegin line = IfSome line (λ line. is_callable line ≡ true)

-- the bytes of a line
pub read_callable : (text : List ℕ) → IfOk (read_line text) MayBegin
read_callable text = given (read_line text) (λ line read. line_callable line (line_spelled text line read).0.0)
  where
    given : (r : Result (Option Line) Fault) → ((line : Line) → r ≡ Ok (Some line) → is_callable line ≡ true) → IfOk r MayBegin
    given (Ok None) callable = tt
    given (Ok (Some line)) callable = callable line refl
    given (Err fault) callable = tt

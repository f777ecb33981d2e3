use Rattle.std.proofs.Common.{Ok, Err, subst}
use Rattle.jc_sqlite.specs.declared.failure.OpenCause.TheVariants.{OtherTable, Failed}
use Rattle.jc_sqlite.proofs.Turns.{ends, goes, is_opened}
use Rattle.jc_sqlite.proofs.opening.open_in_turns.Goals as goal

pub returns-in-Ok : goal.returns-in-Ok
returns-in-Ok g c =
    ends g.O.Opening.opens g.O.Opening.pauses c.args.retries c.loop.counter c.args.opening.now c.loop.opening c.open.new.self (Ok c.in-Ok.opened) c.loop-test.true c.loop.invariant c.in-Ok.ensures (is_opened g.O.Opening.opens g.O.Opening.pauses c.in-Ok.opened)

pub returns-in-Err-OtherTable : goal.returns-in-Err-OtherTable
returns-in-Err-OtherTable g c =
    ends g.O.Opening.opens g.O.Opening.pauses c.args.retries c.loop.counter c.args.opening.now c.loop.opening c.open.new.self (Err OtherTable) c.loop-test.true c.loop.invariant
    (subst (λ cause. g.O.Opening.opens c.loop.opening (Err cause) c.open.new.self) c.in-Err-OtherTable.field-0-is c.in-Err-OtherTable.ensures) (λ same. let no = same in cc)

pub returns-in-Err-Failed : goal.returns-in-Err-Failed
returns-in-Err-Failed g c =
    ends g.O.Opening.opens g.O.Opening.pauses c.args.retries c.loop.counter c.args.opening.now c.loop.opening c.open.new.self (Err (Failed c.in-Err-Failed.error)) c.loop-test.true c.loop.invariant
    (subst (λ cause. g.O.Opening.opens c.loop.opening (Err cause) c.open.new.self) c.in-Err-Failed.field-0-is c.in-Err-Failed.ensures) (λ same. let no = same in cc)

pub loop-preserved : goal.loop-preserved
loop-preserved g c =
    goes g.O.Opening.opens g.O.Opening.pauses c.args.retries c.loop.counter c.args.opening.now c.loop.opening c.open.new.self c.pause.new.self c.loop-test.true c.loop.invariant
    (subst (λ cause. g.O.Opening.opens c.loop.opening (Err cause) c.open.new.self) c.in-Err-Locked.field-0-is c.in-Err-Locked.ensures) c.pause.ensures

use Rattle.std.proofs.Common.{Ok, subst}
use Rattle.sqlite.specs.Held.{state}
use Rattle.jc_sqlite.specs.Statements.{TellsOwn}
use Rattle.jc_sqlite.proofs.opening.make_own.Goals as goal

pub returns-then-branch : goal.returns-then-branch
returns-then-branch g c clean = (
  c.create.new.conn,
  subst (λ own. TellsOwn (state g.S.Store c.create.new.conn) (state g.S.Store c.is_own.new.conn) (Ok own)) c.if-branch.true (c.in_ok-is_own.ensures.own clean),
)

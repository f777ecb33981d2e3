use Rattle.jc_world.proofs.machine.Machine.apply.Goals as goal

pub returns-in-Commit-clause-ok : goal.returns-in-Commit-clause-ok
returns-in-Commit-clause-ok c = rw c.in-Commit.is c.commit.ensures.ok

pub returns-in-Withdraw-clause-ok : goal.returns-in-Withdraw-clause-ok
returns-in-Withdraw-clause-ok c = rw c.in-Withdraw.is c.withdraw.ensures.ok

pub returns-in-Invalidate-clause-ok : goal.returns-in-Invalidate-clause-ok
returns-in-Invalidate-clause-ok c = rw c.in-Invalidate.is c.invalidate.ensures.ok

pub returns-in-PickUp-clause-ok : goal.returns-in-PickUp-clause-ok
returns-in-PickUp-clause-ok c = rw c.in-PickUp.is c.pick_up.ensures.ok

pub returns-in-Read-clause-ok : goal.returns-in-Read-clause-ok
returns-in-Read-clause-ok c = rw c.in-Read.is c.read.ensures

pub returns-in-Report-clause-ok : goal.returns-in-Report-clause-ok
returns-in-Report-clause-ok c = rw c.in-Report.is c.writer_returns.ensures.ok

pub returns-in-Start-clause-ok : goal.returns-in-Start-clause-ok
returns-in-Start-clause-ok c = rw c.in-Start.is c.start.ensures.ok

pub returns-in-Look-clause-ok : goal.returns-in-Look-clause-ok
returns-in-Look-clause-ok c = rw c.in-Look.is c.look.ensures.ok

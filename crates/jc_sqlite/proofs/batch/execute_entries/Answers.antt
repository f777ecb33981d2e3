use Rattle.std.proofs.Common.{rules, ◌≡◌, false, map, IsTrue, refl, sym, subst, subst₂, ◌∙◌}
use Rattle.sqlite.specs.Held.{state}
use Rattle.jc_sqlite.specs.Batch.{in_transaction, RunsAsOne}
use Rattle.jc_sqlite.specs.Statements.{entry_row}
use Rattle.jc_sqlite.proofs.Batches.{starts, goes, stopped, ended}
use Rattle.jc_sqlite.proofs.Statements.{same_error}
use Rattle.jc_sqlite.proofs.batch.execute_entries.Goals as goal

pub loop-key-init : goal.loop-key-init
loop-key-init g c =
    let es = c.args.entries.now.entries in
    let begun = in_transaction c.args.conn.now in
    let first = starts g.S.Store c.args.sql.now entry_row es begun refl in
    (rw (c.transaction-transaction.ensures.begun, c.into_iter-key-iterator.ensures.into_iter_gives, c.iter-key-items.ensures.rest) first, refl)

pub loop-key-preserved : goal.loop-key-preserved
loop-key-preserved g c =
    let u = c.loop-key.invariant.0 in
    let es = c.args.entries.now.entries in (
      goes g.S.Store c.args.sql.now entry_row es c.loop-key.key-iterator c.next.new.self (c.in-Some.key.now, c.in-Some.value.now) (in_transaction c.args.conn.now)
          c.loop-key.transaction.conn.now c.execute_entry.new.transaction.conn.now c.in_ok-execute_entry.field-0 u c.in-Some.ensures.steps c.in_ok-execute_entry.ensures.runs c.execute_entry.ensures.survives,
      c.execute_entry.ensures.same ∙ c.loop-key.invariant.1,
    )

pub returns-in_err-execute_entry : goal.returns-in_err-execute_entry
returns-in_err-execute_entry g c =
    let old = c.args.conn.now in
    let end = c.drop-transaction.new.self.0 in
    let same : end ≡ c.conn-1.given.0 = search rules in
    let autocommit : old.in_transaction ≡ false = search rules in
    let settled : IsTrue (state g.S.Store old).is_open → (state g.S.Store old).now ≡ (state g.S.Store old).committed = c.is_autocommit.ensures.settled (search rules) in
    subst₂ (λ h r. RunsAsOne g.S.Store c.args.sql.now (map entry_row c.args.entries.now.entries) old h r) same (sym (same_error c.from_residual.result c.in_err-execute_entry.field-0.0 c.from_residual.ensures.1))
    (stopped g.S.Store c.args.sql.now entry_row c.args.entries.now.entries old autocommit settled _ _ (c.in-Some.key.now, c.in-Some.value.now) c.loop-key.transaction.conn.now c.execute_entry.new.transaction.conn.now end _ c.loop-key.invariant.0 c.in-Some.ensures.steps
    c.in_err-execute_entry.ensures.runs c.execute_entry.ensures.survives c.drop-transaction.ensures.ended c.drop-transaction.ensures.undone c.drop-transaction.ensures.survives)

pub returns : goal.returns
returns g c =
    let old = c.args.conn.now in
    let end = c.commit.new.self.0 in
    let same : end ≡ c.conn-2-1.given.0 = search rules in
    let autocommit : old.in_transaction ≡ false = search rules in
    let settled : IsTrue (state g.S.Store old).is_open → (state g.S.Store old).now ≡ (state g.S.Store old).committed = c.is_autocommit.ensures.settled (search rules) in
    subst (λ h. RunsAsOne g.S.Store c.args.sql.now (map entry_row c.args.entries.now.entries) old h c.commit.result) same
    (ended g.S.Store c.args.sql.now entry_row c.args.entries.now.entries old autocommit settled _ c.loop-key.transaction.conn.now end c.commit.result c.loop-key.invariant.0 c.in-None.ensures.steps.0 c.commit.ensures.ended (λ clean. c.commit.ensures.ok clean)
    (λ clean. c.commit.ensures.err clean) c.commit.ensures.survives)

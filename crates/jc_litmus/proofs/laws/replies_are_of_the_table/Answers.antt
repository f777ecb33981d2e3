use Rattle.jc_litmus.proofs.ReplyKinds.{read_of_kind, table_of_kind}
use Rattle.jc_litmus.proofs.laws.replies_are_of_the_table.Goals as goal

pub returns-clause-read : goal.returns-clause-read
returns-clause-read c = read_of_kind

pub returns-clause-table : goal.returns-clause-table
returns-clause-table c = table_of_kind

use Rattle.jc_rows.proofs.Columns.{is_table}
use Rattle.jc_rows.proofs.laws.table_is_rows.Goals as goal

pub returns : goal.returns
returns c = is_table

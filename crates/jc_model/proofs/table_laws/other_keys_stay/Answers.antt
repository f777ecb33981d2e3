use Rattle.jc_model.proofs.TableLaws.{other_keys_stay}
use Rattle.jc_model.proofs.table_laws.other_keys_stay.Goals as goal

pub returns : goal.returns
returns c = other_keys_stay

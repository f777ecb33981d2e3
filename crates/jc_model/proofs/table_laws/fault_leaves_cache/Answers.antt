use Rattle.jc_model.proofs.TableLaws.{fault_leaves_cache}
use Rattle.jc_model.proofs.table_laws.fault_leaves_cache.Goals as goal

pub returns : goal.returns
returns c = fault_leaves_cache

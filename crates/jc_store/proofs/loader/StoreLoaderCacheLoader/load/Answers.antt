use Rattle.std.proofs.Common.{Ok, ap, sym, ◌∙◌, option_copied}
use Rattle.jc_store.proofs.loader.StoreLoaderCacheLoader.load.Goals as goal

-- the store that was locked
pub returns-in-Some : goal.returns-in-Some
returns-in-Some g c = (_, ap Ok (sym (ap option_copied c.in-Some.is) ∙ c.read.ensures))

pub returns : goal.returns
returns g c = (_, ap Ok (sym (ap option_copied c.in-None.is) ∙ c.read.ensures))

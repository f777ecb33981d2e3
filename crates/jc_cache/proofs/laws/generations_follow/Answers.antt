use Rattle.jc_cache.proofs.Following.{generations_follow}
use Rattle.jc_cache.proofs.laws.generations_follow.Goals as goal

pub returns : goal.returns
returns c = generations_follow

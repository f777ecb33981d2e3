use Rattle.jc_loadall.proofs.Common.{rules}
use Rattle.jc_cache.specs.Sessions.{MayCall}
use Rattle.jc_loadall.proofs.LoadedPieces.{ended, ended_kept}
use Rattle.jc_loadall.proofs.loading.load_all.Goals as goal

pub returns-clause-may : goal.returns-clause-may
returns-clause-may g c =
    let all = c.load_or_refuse-ended in
    ended_kept _ _ c.args.keys.now.keys c.args.sessions.now all.new.tools all.result all.ensures (MayCall c.args.cache.now) (λ shown lent back result post before. search rules) c.requires.may

pub returns-clause-ended : goal.returns-clause-ended
returns-clause-ended g c =
    let all = c.load_or_refuse-ended in
    ended _ c.args.replace _ _ c.args.keys.now.keys c.args.sessions.now all.new.tools all.result (λ shown lent back result post. search rules) all.ensures

use Rattle.jc_loadall.proofs.Common.{rules}
use Rattle.jc_loadall.proofs.LoadedPieces.{ended, ended_same, on_return}
use Rattle.jc_loadall.proofs.clients.load_all_by_clients.Goals as goal

pub returns-clause-caches : goal.returns-clause-caches
returns-clause-caches g c =
    let all = c.load_or_refuse-ended in
    ended_same _ _ c.args.keys.now.keys c.args.clients.now all.new.tools all.result all.ensures (λ client. client.cache) (λ shown lent back result post. search rules)

pub returns-clause-ended : goal.returns-clause-ended
returns-clause-ended g c =
    let all = c.load_or_refuse-ended in
    on_return all.result c.of_clients.result _ _ c.of_clients.ensures
    (search rules, ended _ c.args.replace _ _ c.args.keys.now.keys c.args.clients.now all.new.tools all.result (λ shown lent back result post. search rules) all.ensures, c.tell.ensures)

use Rattle.std.proofs.Common.{rules}
use Rattle.jc_client.specs.Clients.{client_state}
use Rattle.jc_client.proofs.Served.{all_work}
use Rattle.jc_client.proofs.serving.work_all.Goals as goal

pub returns : goal.returns
returns g c = record {
  each = all_work _ _ (λ client. client.session) client_state _ (λ client returned post. search rules) c.args.clients c.map_vec.result c.map_vec.ensures.len c.map_vec.ensures.each;
}

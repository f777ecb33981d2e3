use Rattle.std.proofs.Common.{◌≡◌, length, rules}
use Rattle.jc_history.proofs.Stored.{appends_event}
use Rattle.jc_history.proofs.history.append_step.Goals as goal

pub returns : goal.returns
returns c =
    let here : c.len.result ≡ length c.args.bytes.now.items = search rules in
    appends_event _ _ _ _ _ _ c.requires.can here c.push_reserved.ensures.items c.push_reserved.ensures.len c.push_reserved.ensures.capacity c.encode_step.ensures.appends c.encode_step.ensures.encodable

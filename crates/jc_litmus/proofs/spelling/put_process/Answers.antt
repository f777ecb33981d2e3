use Rattle.jc_litmus.proofs.Joined.{put_four, spelled_process}
use Rattle.jc_litmus.proofs.spelling.put_process.Goals as goal

pub returns : goal.returns
returns c =
    put_four _ _ _ _ _ _ _ _ _ _ c.in_ok-put_lone.ensures c.in_ok-put_source.ensures c.in_ok-put_entry_calls.ensures c.in_ok-put_fail.ensures
    (spelled_process c.args.call c.args.load.now c.args.calls.now c.args.fail)

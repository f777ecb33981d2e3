use Rattle.std.proofs.Common.{get_or}
use Rattle.jc_litmus.proofs.Meanings.{end_means, verdict_means}
use Rattle.jc_litmus.proofs.run.answer_to.Goals as goal

pub returns : goal.returns
returns c =
    let expectations = c.args.litmus.now.expectations.items in
    record {
      explored = c.args.explored.now;
      is_explored = c.requires;
      out_is = c.in_ok-out.ensures;
      verdicts = λ k d inside. verdict_means c.args.litmus.now.program c.args.states c.args.explored.now (get_or expectations k d) c.requires;
      end_is = c.end_with.ensures;
      means = rw c.end_with.ensures (end_means c.args.litmus.now.program c.args.states c.args.explored.now expectations c.requires);
    }

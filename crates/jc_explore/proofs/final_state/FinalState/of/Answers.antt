use Rattle.std.proofs.Common.{◌∙◌}
use Rattle.jc_explore.proofs.final_state.FinalState.of.Goals as goal

pub returns : goal.returns
returns c =
    let audit = c.in_ok-audit.ensures.audit in
    record {
      cache = audit.cache;
      cache_is = audit.cache_is;
      replies_are = c.in_ok-replies.ensures.items ∙ c.deref.ensures.value;
      cached_are = audit.entries_are;
      stored_are = audit.stored_are;
      differing_are = audit.keys_are;
    }

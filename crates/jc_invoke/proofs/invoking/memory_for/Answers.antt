use Rattle.jc_invoke.proofs.Common.{spare, IsRoundRoomFor, ops_of, AreRooms, IsNew, ◌≤◌, ap, sym, subst}
use Rattle.jc_invoke.proofs.invoking.memory_for.Goals as goal

pub end-progress-requires : goal.end-progress-requires
end-progress-requires c =
    let stripes = c.args.config.now.stripes in
    let new = c.new-call.ensures.new stripes (subst (λ n. AreRooms n stripes c.in_ok-rooms.rooms) c.len-keys.ensures c.in_ok-rooms.ensures) in
    (new.no_tickets, new.no_joins)

pub returns-in-Ok : goal.returns-in-Ok
returns-in-Ok c =
    let stripes = c.args.config.now.stripes in
    let new = c.new-call.ensures.new stripes (subst (λ n. AreRooms n stripes c.in_ok-rooms.rooms) c.len-keys.ensures c.in_ok-rooms.ensures) in
    record {
      no_results = c.in_ok-results.ensures.empty;
      results_room = subst (λ n. n ≤ spare c.in_ok-results.results) c.len-keys.ensures c.in_ok-results.ensures.spare;
      targets_are = ap ops_of new.targets_are;
      call_is = subst (λ t. IsNew t stripes c.new-call.result) (sym new.targets_are) new;
      room_is = subst (λ n. IsRoundRoomFor n c.args.config.now.write_through c.in-Ok.room) c.most.ensures c.in-Ok.ensures;
    }

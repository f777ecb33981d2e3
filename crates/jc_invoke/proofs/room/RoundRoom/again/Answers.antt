use Rattle.jc_invoke.proofs.Common.{ProcessAll, ◌≤◌, refl, sym, subst}
use Rattle.jc_invoke.proofs.RunEach.{room_of}
use Rattle.jc_invoke.proofs.room.RoundRoom.again.Goals as goal

pub end-requires : goal.end-requires
end-requires c = let r = c.requires in (r.0, ProcessAll r.1, r.2)

pub returns-in-Some : goal.returns-in-Some
returns-in-Some c =
    room_of c.args.rest _ c.args.answers _ c.in-Some.is (λ keys few writes deletes. record {
      through_is = refl;
      no_runs = c.into_runs.ensures.none;
      runs_room = subst (λ n. keys ≤ n) (sym c.into_runs.ensures.room) few;
      writes_are = writes;
      deletes_are = deletes;
    })

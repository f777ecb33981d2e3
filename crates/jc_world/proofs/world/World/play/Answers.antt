use Rattle.jc_world.proofs.Common.{◌+◌, List, [], ◌∷◌, ◌++◌, ap, ◌∙◌, append_assoc, arith, slice_set, Shown}
use Rattle.std.proofs.Math.Seq.{set-append_seam}
use Rattle.jc_world.proofs.Runs.{run-more}
use Rattle.jc_world.proofs.Sounding.{sound_step}
use Rattle.jc_world.proofs.world.World.play.Goals as goal

pub loop-event-preserved : goal.loop-event-preserved
loop-event-preserved c =
    let i = c.loop-event.invariant in
    let index = c.loop-event.event-index in
    let seen = c.step.new.seen in
    let first = i.run.0 in
    record {
      run = (
        first ++ seen ∷ [],
        run-more c.args.self.now.world c.loop-event.self-inside.machine c.step.new.self c.args.events.now index c.event-item.result first seen c.loop-event-test.true c.event-item.is i.run.1 c.in_default.ensures.step,
        (λ x. slice_set (c.push_reserved.ensures.items x) ((c.len-place.ensures ∙ c.loop-event.shown.ok.0) x) seen) ∙ set-append_seam c.loop-event.shown.items c.nothing_shown.result [] seen ∙ ap (λ (ss : List Shown). ss ++ seen ∷ []) i.run.2 ∙ append_assoc c.args.shown.now.items first (seen ∷ []),
      );
      sound = sound_step (record { stays = c.stays_reached.ensures; kept = c.keeps_reserved.ensures }) c.loop-event.self-inside.machine c.event-item.result seen c.step.new.self c.in_default.ensures.step i.sound;
      taken = ap (λ n. n + 1) i.taken;
      room = let l = c.push_reserved.ensures.len in let h = c.push_reserved.ensures.capacity in let r = i.room in let t = c.loop-event-test.true in omega arith;
    }

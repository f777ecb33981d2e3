use Rattle.jc_script.proofs.Common.{◌≡◌, ◌∙◌, ap, ℕ, List, [], ◌++◌, length, rules, arith, append-nil, IsTranscript, pieces_of, opened_world, Clean, LineFault, fault_line}
use Rattle.jc_script.proofs.TranscriptLines.{at_fault, at_end, after_line, at_next, explains}
use Rattle.jc_script.proofs.run.lines.Goals as goal

pub loop-text-preserved : goal.loop-text-preserved
loop-text-preserved c =
    let told = rw c.in-None.is at c.in_ok-play.ensures in (
      omega (arith, c.loop-text.invariant.0, c.in-Some.ensures.1),
      at_next c.args.input.now c.loop-text.rest.now c.in-Some.text.now c.in-Some.after.now c.loop-text.number c.loop-text.invariant.1 c.in-Some.ensures.0,
      c.loop-text.invariant.2,
      after_line c.args.input.now c.loop-text.rest.now (opened_world c.loop-text.player.world) (opened_world c.play.new.self.world) c.loop-text.number c.in-Some.text.now c.in-Some.after.now
          c.loop-text.out.items told.0 c.play.new.out.items c.loop-text.invariant.3 c.in-Some.ensures.0 told.1 told.2,
    )

pub returns-in-Some-2 : goal.returns-in-Some-2
returns-in-Some-2 c =
    let f = c.in-Some-2.fault in
    let n = c.loop-text.number in
    let told = rw c.in-Some-2.is at c.in_ok-play.ensures in
    let e : c.put_fault.new.out.items ≡ c.loop-text.out.items ++ fault_line n f = c.in_ok-put_fault-in-Some-2.ensures ∙ ap (λ (t : List ℕ). t ++ fault_line n f) told.1 in
    let transcript : IsTranscript c.args.input.now (c.loop-text.out.items ++ fault_line n f) (LineFault n) =
    c.loop-text.invariant.3 (fault_line n f) (LineFault n)
    (at_fault (opened_world c.loop-text.player.world) n c.in-Some.text.now c.in-Some.after.now (pieces_of c.loop-text.rest.now) f c.in-Some.ensures.0 told.0) in
    record {
      transcript = rw e transcript;
      told = explains c.args.input.now c.loop-text.rest.now c.in-Some.text.now (pieces_of c.in-Some.after.now) n f c.loop-text.out.items _ _ _ c.loop-text.invariant.1 c.in-Some.ensures.0 e (rw (← c.loop-text.invariant.2) c.in_ok-put_complaint-in-Some-2.ensures);
    }

pub returns-then-is_empty : goal.returns-then-is_empty
returns-then-is_empty c =
    let none : length c.loop-text.rest.now ≡ 0 = search rules in
    record {
      transcript = rw (← append-nil c.loop-text.out.items) (c.loop-text.invariant.3 [] Clean (at_end (opened_world c.loop-text.player.world) c.loop-text.number c.loop-text.rest.now none));
      told = c.loop-text.invariant.2;
    }

use Rattle.std.proofs.Common.{◌++◌, Ok, None, sym, ap, ◌∙◌}
use Rattle.std.specs.Option.{unwrap_or}
use Rattle.jc_model.specs.Processor.{net_effect, process_answer, played_calls, played_return, last_value}
use Rattle.jc_mutentry.specs.Done.{ProcessResult}
use Rattle.jc_mutentry.specs.Entries.{EntryState}
use Rattle.jc_mutentry.specs.Playing.{played_answers}
use Rattle.jc_mutentry.proofs.Playing.{played_answers-is, played-net}
use Rattle.jc_mutentry.proofs.played.played_process.Goals.{in-Some, in-None}
use Rattle.jc_mutentry.proofs.played.played_process.Goals as goal

pub returns-clause-answers : goal.returns-clause-answers
returns-clause-answers g c =
    let p = c.play_calls-last.ensures.played in
    let may = c.play_calls-last.ensures.same.1 ∙ ap (λ (s : EntryState). s.may_load) c.new-entry.ensures.entry ∙ c.may_load.ensures in
    let first = c.play_calls-last.ensures.same.0 ∙ ap (λ (s : EntryState). s.initial) c.new-entry.ensures.entry ∙ c.initial.ensures in
    p.2 ∙ ap (λ more. c.args.answers.now.items ++ more)
    (played_answers-is c.play_calls-last.new.entry c.args.load c.args.calls.now p.0 c.play_calls-last.result p.1
    ∙ (λ k. played_answers (may k) (first k) c.args.load c.args.calls.now))

pub returns-clause-process : goal.returns-clause-process
returns-clause-process g c =
    let p = c.play_calls-last.ensures.played in
    let may = c.play_calls-last.ensures.same.1 ∙ ap (λ (s : EntryState). s.may_load) c.new-entry.ensures.entry ∙ c.may_load.ensures in
    let first = c.play_calls-last.ensures.same.0 ∙ ap (λ (s : EntryState). s.initial) c.new-entry.ensures.entry ∙ c.initial.ensures in
    let given = played_answers-is c.play_calls-last.new.entry c.args.load c.args.calls.now p.0 c.play_calls-last.result p.1
    ∙ (λ k. played_answers (may k) (first k) c.args.load c.args.calls.now) in
    let net = c.effect-effect.ensures ∙ played-net c.play_calls-last.new.entry c.args.load c.args.calls.now p.0 c.play_calls-last.result p.1
    ∙ (λ k. net_effect (may k) (first k) c.args.load (played_calls (may k) (first k) c.args.load c.args.calls.now)) in
    ap (λ (d : ProcessResult _). d.process) c.new.ensures ∙ c.process_answer.ensures
    ∙ elim c.match-fail.branch [
      | in-Some w ↦ (λ k. process_answer (net k) ((w.returned-is ∙ ap (λ f. played_return f (played_answers (g.A.AskProcess.may_load c.args.ask) (g.A.AskProcess.initial c.args.ask) c.args.load c.args.calls.now)) (sym w.in-Some.is)) k))
      | in-None w ↦ (λ k. process_answer (net k) ((w.returned-is ∙ ap (λ v. Ok v) (p.1.value ∙ ap (λ answers. unwrap_or (last_value answers) None) given)
          ∙ ap (λ f. played_return f (played_answers (g.A.AskProcess.may_load c.args.ask) (g.A.AskProcess.initial c.args.ask) c.args.load c.args.calls.now)) (sym w.in-None.is)) k))
    ]

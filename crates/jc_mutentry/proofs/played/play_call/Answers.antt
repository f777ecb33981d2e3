use Rattle.std.proofs.Common.{[], ◌∷◌, ◌++◌, sym, ap, subst, ◌∙◌}
use Rattle.std.proofs.lemmas.List.{append-nil}
use Rattle.jc_mutentry.specs.Inside.{is_load_failed}
use Rattle.jc_mutentry.specs.Playing.{IsPlayed}
use Rattle.jc_mutentry.proofs.Playing.{play-failed, play-more}
use Rattle.jc_mutentry.proofs.played.play_call.Goals as goal

pub returns-then-has_failed-clause-played : goal.returns-then-has_failed-clause-played
returns-then-has_failed-clause-played c = λ calls answers p.
    let failed = sym (c.has_failed.ensures ∙ ap is_load_failed c.load_answer.ensures) ∙ c.if-has_failed.true in (
      [],
      subst (λ given. IsPlayed c.args.entry.now c.args.load.now (calls ++ c.args.call.now ∷ []) given c.args.last.now) (sym (append-nil answers))
          (play-failed c.args.entry.now c.args.load.now calls c.args.call.now answers c.args.last.now failed p),
      sym (append-nil c.args.answers.now.items),
    )

pub returns-clause-played : goal.returns-clause-played
returns-clause-played c = λ calls answers p.
    let unfailed = sym (c.has_failed.ensures ∙ ap is_load_failed c.load_answer.ensures) ∙ c.if-has_failed.false in (
      c.make_call-answer.result ∷ [],
      play-more c.args.entry.now c.make_call-answer.new.entry c.args.load.now calls c.args.call.now answers c.make_call-answer.result c.args.last.now c.note.new.last
          c.requires.given unfailed c.make_call-answer.ensures.makes c.make_call-answer.ensures.load c.note.ensures p,
      c.push_reserved.ensures.items,
    )

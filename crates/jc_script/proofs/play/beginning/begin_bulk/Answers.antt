use Rattle.jc_script.proofs.Common.{◌∙◌, ◌++◌, ℕ, List, ap, refl, subst, sym, append_assoc, WorldEvent, AllFit, Run, opening_events, PlaysEvents}
use Rattle.jc_script.proofs.play.beginning.begin_bulk.Goals as goal

pub play-requires : goal.play-requires
play-requires c =
    let P : List WorldEvent → Type 0 = λ events. AllFit c.args.world.now.world events in
    let these = c.in_ok-put_opening.ensures ∙ ap (opening_events c.args.number c.args.session c.args.command) c.stripes.ensures in
    subst P (sym these) (c.lets_calls_begin.ensures.opening c.args.number c.args.session c.args.command c.requires)

pub put_starts-requires : goal.put_starts-requires
put_starts-requires c =
    let w = c.args.world.now.world in
    let mid = c.play.new.world.world in
    let played = c.in_ok-play.ensures.1 in
    let P : List WorldEvent → Type 0 = λ events. Run w events played.seen mid in
    let these = c.in_ok-put_opening.ensures ∙ ap (opening_events c.args.number c.args.session c.args.command) c.stripes.ensures in
    λ key. c.lets_calls_begin.ensures.free c.args.number c.args.session c.args.command played.seen mid key c.requires (subst P these played.runs)

pub returns : goal.returns
returns c =
    let w = c.args.world.now.world in
    let mid = c.play.new.world.world in
    let after = c.play-2.new.world.world in
    let first = c.in_ok-play.ensures in
    let next = c.in_ok-play-2.ensures in
    let before = c.args.out.now.items in
    let these = c.in_ok-put_opening.ensures ∙ ap (opening_events c.args.number c.args.session c.args.command) c.stripes.ensures in
    let P : List WorldEvent → Type 0 = λ events. PlaysEvents w events first.0 mid in
    let Q : List WorldEvent → Type 0 = λ events. PlaysEvents mid events next.0 after in (
      first.0 ++ next.0,
      record {
        opening = first.0;
        begun = mid;
        started = next.0;
        after = after;
        opens = subst P these first.1;
        starts = subst Q c.in_ok-put_starts.ensures.events next.1;
        text_is = refl;
        new_is = refl;
      },
      next.2 ∙ ap (λ (front : List ℕ). front ++ next.0) first.2 ∙ append_assoc before first.0 next.0,
    )

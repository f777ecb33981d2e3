use Rattle.jc_engine.proofs.Common.{Bool, [], ◌∷◌, rules, ◌∙◌, ap, refl, subst, sym, IsPhaseOf, HasWaited, IsLending}
use Rattle.jc_engine.proofs.Rows.{once, waited_keeps}
use Rattle.jc_engine.proofs.Tries.{Once, made_again, tried_once, tried_since, tried_twice}
use Rattle.jc_engine.proofs.access.Access.try_lend.Goals as goal

pub lend_once-requires-2-clause-fits : goal.lend_once-requires-2-clause-fits
lend_once-requires-2-clause-fits g c =
    let back = c.in-Err.ensures.back in
    let session = c.args.self.now.agent.now.caller.session in
    let law = c.one_lending.ensures in
    record {
      who_is = ap g.P.Phase.who back.0 ∙ c.requires.fits.who_is ∙ sym (ap (λ a. a.caller.session) back.1);
      needs_it = λ a later.
          let since = tried_since g.G.Gate.takes g.G.Gate.gives g.G.Gate.finds g.G.Gate.misses session (HasWaited (g.P.Phase.due c.args.phase) (g.P.Phase.puts_off c.args.phase)) law (waited_keeps law session _ _) _
          c.args.self.now.gate.now c.args.self.now.token.now c.lend_once.new.self.gate.now c.lend_once.new.self.token.now back.2 a later in
          rw back.0 (g.met.P.Phase.stays c.args.phase since.0 a (rw c.requires.fits.who_is since.2) (c.requires.fits.needs_it since.0 since.1));
    }

pub returns-then-not-ends-clause-back : goal.returns-then-not-ends-clause-back
returns-then-not-ends-clause-back g c =
    let back = c.in-Err.ensures.back in
    let waits = HasWaited (g.P.Phase.due c.args.phase) (g.P.Phase.puts_off c.args.phase) in (
      back.0,
      back.1,
      tried_once g.G.Gate.takes g.G.Gate.gives g.G.Gate.finds g.G.Gate.misses c.args.self.now.agent.now.caller.session waits c.args.self.now.gate.now c.args.self.now.token.now c.lend_once.new.self.gate.now c.lend_once.new.self.token.now
          (subst (λ (again : Bool). Once g.G.Gate.takes g.G.Gate.gives g.G.Gate.finds g.G.Gate.misses c.args.self.now.agent.now.caller.session waits again c.args.self.now.gate.now c.args.self.now.token.now c.lend_once.new.self.gate.now c.lend_once.new.self.token.now) c.if-not-ends.true back.2),
    )

pub returns-in-Ok-clause-made : goal.returns-in-Ok-clause-made
returns-in-Ok-clause-made g c =
    let made = c.in-Ok.ensures.made in (
      made.0,
      record {
        row = (made.1, made.2) ∷ [];
        lent = once g.G.Gate.takes g.G.Gate.gives g.G.Gate.finds c.args.self.now.agent.now.caller.session c.args.self.now.gate.now c.args.self.now.token.now made.1 made.2 c.lend_once.new.self.gate.now c.lend_once.new.self.token.now made.5;
        did = record { waits = []; found = made.1; left = made.2; row_is = refl; waited = tt; made = made.3 };
        one = made.4;
      },
      tt,
    )

pub returns-in-Ok-lend_once-clause-made : goal.returns-in-Ok-lend_once-clause-made
returns-in-Ok-lend_once-clause-made g c =
    let takes = g.G.Gate.takes in
    let gives = g.G.Gate.gives in
    let finds = g.G.Gate.finds in
    let session = c.args.self.now.agent.now.caller.session in
    let answer = c.in-Ok-lend_once.answer in
    let gate = c.lend_once.new.self.gate.now in
    let token = c.lend_once.new.self.token.now in
    let last = c.lend_once-2.new in
    let back = c.in-Err.ensures.back in
    let made = c.in-Ok-lend_once.ensures.made in
    let waits = HasWaited (g.P.Phase.due c.args.phase) (g.P.Phase.puts_off c.args.phase) in
    let both = made_again takes gives finds g.G.Gate.misses session waits (λ a b. g.P.Phase.makes c.args.phase a answer last.reply b) c.args.self.now.gate.now c.args.self.now.token.now gate token made.1 made.2 last.self.gate.now last.self.token.now
    (subst (λ (again : Bool). Once takes gives finds g.G.Gate.misses session waits again c.args.self.now.gate.now c.args.self.now.token.now gate token) c.if-not-ends.false back.2)
    (subst (λ p. g.P.Phase.makes p made.1 answer last.reply made.2) back.0 made.3)
    (subst (λ s. IsPhaseOf s made.1 made.2) (ap (λ x. x.caller.session) back.1) made.4)
    (subst (λ s. IsLending takes gives finds s gate token made.1 made.2 last.self.gate.now last.self.token.now) (ap (λ x. x.caller.session) back.1) made.5) in
    (search rules, both.0, both.1)

pub returns-in-Err-lend_once-clause-back : goal.returns-in-Err-lend_once-clause-back
returns-in-Err-lend_once-clause-back g c =
    let takes = g.G.Gate.takes in
    let gives = g.G.Gate.gives in
    let finds = g.G.Gate.finds in
    let session = c.args.self.now.agent.now.caller.session in
    let gate = c.lend_once.new.self.gate.now in
    let token = c.lend_once.new.self.token.now in
    let last = c.lend_once-2.new in
    let again = c.in-Err-lend_once.ensures.back in
    let back = c.in-Err.ensures.back in
    let waits = HasWaited (g.P.Phase.due c.args.phase) (g.P.Phase.puts_off c.args.phase) in (
      c.in-Err-lend_once.back-is ∙ again.0 ∙ back.0,
      again.1 ∙ back.1,
      tried_twice takes gives finds g.G.Gate.misses session waits c.in-Err-lend_once.field-0-1 c.args.self.now.gate.now c.args.self.now.token.now gate token last.self.gate.now last.self.token.now
          (subst (λ (b : Bool). Once takes gives finds g.G.Gate.misses session waits b c.args.self.now.gate.now c.args.self.now.token.now gate token) c.if-not-ends.false back.2)
          (subst (λ p. Once takes gives finds g.G.Gate.misses session (HasWaited (g.P.Phase.due p) (g.P.Phase.puts_off p)) c.in-Err-lend_once.field-0-1 gate token last.self.gate.now last.self.token.now) back.0
          (subst (λ s. Once takes gives finds g.G.Gate.misses s (HasWaited (g.P.Phase.due c.in-Err.back.0) (g.P.Phase.puts_off c.in-Err.back.0)) c.in-Err-lend_once.field-0-1 gate token last.self.gate.now last.self.token.now) (ap (λ x. x.caller.session) back.1)
          again.2)),
    )

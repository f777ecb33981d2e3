use Rattle.jc_engine.proofs.Common.{sym, ◌∙◌, ap, inl, inr, refl, subst, Started, Begins, begun_with, counted_with, puts_off}
use Rattle.jc_engine.proofs.Beginning.{may-start, asks-nobody}
use Rattle.jc_engine.proofs.first.BeginCallPhase.make.Goals as goal

pub begin-started-requires : goal.begin-started-requires
begin-started-requires c = record { begins = may-start c.caller_numbers.ensures c.args.self.how c.args.stripe.now c.args.self.caller c.args.self.key.now c.args.self.op.now c.requires.due c.requires.needs }

pub returns-then-not-puts_off-clause-made : goal.returns-then-not-puts_off-clause-made
returns-then-not-puts_off-clause-made c =
    let may = may-start c.caller_numbers.ensures c.args.self.how c.args.stripe.now c.args.self.caller c.args.self.key.now c.args.self.op.now c.requires.due c.requires.needs in (
      record {
        first = record { live = c.requires.needs.live; may = may; begins = c.begin-started.ensures.begins };
        last = sym (c.puts_off.ensures c.begin-started.new.reply) ∙ c.if-not-puts_off.true;
        alone = asks-nobody c.args.self.how c.args.stripe.now c.args.self.caller c.args.self.key.now c.args.self.op.now c.requires.due;
      },
      inr (inl (
        record { caller = c.args.self.caller; key = c.args.self.key.now; op = c.args.self.op.now; begun = begun_with c.begin-started.result c.begin-started.new.reply; own = refl; may = may; begins = c.begin-started.ensures.begins },
        sym (counted_with c.begin-started.result c.begin-started.new.reply),
      )),
    )

pub returns-clause-back : goal.returns-clause-back
returns-clause-back c =
    let refused = subst (λ (s : Started). Begins c.args.stripe.now c.args.self.caller c.args.self.key.now c.args.self.op.now (begun_with s c.begin-started.new.reply) c.begin-started.new.self) c.in-Refused.is c.begin-started.ensures.begins in (
      refl,
      refused.1,
      record {
        refusal = c.in-Refused._refusal;
        refused = refused.0;
        put_off = sym (ap (λ (s : Started). puts_off c.args.self.how (begun_with s c.begin-started.new.reply)) c.in-Refused.is) ∙ sym (c.puts_off.ensures c.begin-started.new.reply) ∙ c.if-not-puts_off.false;
      },
    )

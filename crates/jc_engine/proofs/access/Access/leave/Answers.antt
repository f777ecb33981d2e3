use Rattle.jc_engine.proofs.Common.{subst, MakesWay}
use Rattle.jc_engine.proofs.Rows.{comes_way, way_apart}
use Rattle.jc_engine.proofs.access.Access.leave.Goals as goal

pub give_back-requires-clause-rest : goal.give_back-requires-clause-rest
give_back-requires-clause-rest g c = (c.args.stripe.value, c.requires.taken.0, way_apart _ _ (subst (λ s. MakesWay s c.make_way-has_made_way.new.stripe) c.deref_mut.ensures.value c.make_way-has_made_way.ensures))

pub returns-clause-left : goal.returns-clause-left
returns-clause-left g c =
    let way : MakesWay c.args.stripe.value c.make_way-has_made_way.new.stripe = subst (λ s. MakesWay s c.make_way-has_made_way.new.stripe) c.deref_mut.ensures.value c.make_way-has_made_way.ensures in
    record {
      left = c.make_way-has_made_way.new.stripe;
      after = λ session. comes_way c.one_lending.ensures session c.args.stripe.value c.make_way-has_made_way.new.stripe c.requires.taken.1 way;
      way = way;
      gave = c.give_back.ensures.gives;
      free = c.give_back.ensures.free;
      speaks = c.give_back.ensures.speaks;
      next = c.give_back.ensures.next;
    }

use Rattle.jc_engine.proofs.ending.CommitPhase.make.Goals as goal

pub returns-clause-made : goal.returns-clause-made
returns-clause-made g c = (c.commit.ensures.ends, c.commit.ensures.counted)

-- What contracts see of done values, each the answer of a loader or the report of a writer to one ask.
--     LoadResult      the answer of a loader to an ask, and where it comes from
--     WriteResult     the report of a writer to an ask, and where it comes from
use Rattle.jc_model.specs.declared.event.LoadAnswer.{LoadAnswer}
use Rattle.jc_model.specs.declared.event.WriteAnswer.{WriteAnswer}
use Rattle.jc_outside.specs.declared.done.Origin.{Origin}

pub record LoadResult (A : Type 0) : Type 0 where
  pub ask : A
  pub origin : Origin
  pub answer : LoadAnswer

pub record WriteResult (A : Type 0) : Type 0 where
  pub ask : A
  pub origin : Origin
  pub answer : WriteAnswer

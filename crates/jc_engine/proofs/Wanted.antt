-- What the writer is asked for.
--     writes_through    the writer is asked only with write-through on
--     wanted_is_asked   and then for the change that the writer table asks for
use Rattle.jc_engine.proofs.Common.{◌≡◌, Bool, true, false, cond, Option, None, Some, ap, refl, ◌∙◌, Config, Change, Op, NotAsked, Bytes, loader_ask, write_ask, is_invoke, First, Processor, asks_writer, change_asked, first_asked, first_by, is_wanted}
use Rattle.jc_model.specs.declared.event.ProcessAnswer.{ProcessAnswer}
use Rattle.jc_model.specs.declared.table.LoaderAsk.{LoaderAsk}
use Rattle.jc_model.specs.declared.table.LoaderAsk.TheVariants.{Never, Always, IfWanted}

asks_through : (invokes : Bool) (seen : Option Bytes) (wanted : Bool) (ask : LoaderAsk) (through : Bool) (change : Option Change) (first : First) → cond invokes (Processor seen wanted) (first_by ask (cond through change None)) ≡ first
    → asks_writer first ≡ true → through ≡ true
asks_through true seen wanted ask through change first h asks = absurd (differs (ap asks_writer h ∙ asks))
  where
    differs : false ≡ true → ⊥
    differs h = cc
asks_through false seen wanted Always through change first h asks = absurd (differs (ap asks_writer h ∙ asks))
  where
    differs : false ≡ true → ⊥
    differs h = cc
asks_through false seen wanted IfWanted through change first h asks = absurd (differs (ap asks_writer h ∙ asks))
  where
    differs : false ≡ true → ⊥
    differs h = cc
asks_through false seen wanted Never true change first h asks = refl
asks_through false seen wanted Never false change first h asks = absurd (differs (ap asks_writer h ∙ asks))
  where
    differs : false ≡ true → ⊥
    differs h = cc

pub writes_through : (config : Config) (op : Op) (entry : Option Bytes) (first : First) → first_asked config op entry ≡ first → asks_writer first ≡ true → config.write_through ≡ true
writes_through config op entry first h asks = asks_through (is_invoke op) entry (is_wanted (loader_ask config.read_through op entry)) (loader_ask config.read_through op entry) config.write_through (write_ask op entry NotAsked) first h asks

wanted_by : (invokes : Bool) (seen : Option Bytes) (wanted : Bool) (ask : LoaderAsk) (change : Option Change) (first : First) → cond invokes (Processor seen wanted) (first_by ask change) ≡ first
    → asks_writer first ≡ true → change ≡ change_asked first
wanted_by true seen wanted ask change first h asks = absurd (unasked (ap asks_writer h ∙ asks))
  where
    unasked : false ≡ true → ⊥
    unasked h = cc
wanted_by false seen wanted Always change first h asks = absurd (unasked (ap asks_writer h ∙ asks))
  where
    unasked : false ≡ true → ⊥
    unasked h = cc
wanted_by false seen wanted IfWanted change first h asks = absurd (unasked (ap asks_writer h ∙ asks))
  where
    unasked : false ≡ true → ⊥
    unasked h = cc
wanted_by false seen wanted Never (Some change) first h asks = ap change_asked h
wanted_by false seen wanted Never None first h asks = absurd (unasked (ap asks_writer h ∙ asks))
  where
    unasked : false ≡ true → ⊥
    unasked h = cc

wanted_is : (config : Config) (op : Op) (entry : Option Bytes) (first : First) → first_asked config op entry ≡ first → asks_writer first ≡ true
    → cond config.write_through (write_ask op entry NotAsked) None ≡ change_asked first
wanted_is config op entry first h asks = wanted_by (is_invoke op) entry (is_wanted (loader_ask config.read_through op entry)) (loader_ask config.read_through op entry) (cond config.write_through (write_ask op entry NotAsked) None) first h asks

pub wanted_is_asked : (config : Config) (op : Op) (entry : Option Bytes) (first : First) (answer : ProcessAnswer) → answer ≡ NotAsked → first_asked config op entry ≡ first → asks_writer first ≡ true
    → cond config.write_through (write_ask op entry answer) None ≡ change_asked first
wanted_is_asked config op entry first answer unasked h asks = ap (λ (w : ProcessAnswer). cond config.write_through (write_ask op entry w) None) unasked ∙ wanted_is config op entry first h asks

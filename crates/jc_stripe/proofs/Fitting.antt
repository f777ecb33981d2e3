-- Answers of whom was asked first fit the tables.
use Rattle.std.proofs.Common.{◌≡◌, ◌&&◌, ◌||◌, cond, is_none, Bool, true, false, not, IsTrue, Option, None, Some, is_some, refl, sym, ap, ◌∙◌}
use Rattle.std.specs.Bool.{beq}
use Rattle.jc_types.specs.declared.config.Config.{Config}
use Rattle.jc_model.specs.declared.event.Op.{Op}
use Rattle.jc_model.specs.declared.event.Op.TheVariants.{Get, LoadAll, Invoke}
use Rattle.jc_model.specs.declared.event.Out.{Out}
use Rattle.jc_model.specs.declared.event.Change.{Change}
use Rattle.jc_model.specs.declared.event.LoadAnswer.{LoadAnswer}
use Rattle.jc_model.specs.declared.event.WriteAnswer.{WriteAnswer}
use Rattle.jc_model.specs.declared.event.ProcessAnswer.TheVariants as process
use Rattle.jc_model.specs.Cache.{Bytes}
use Rattle.jc_model.specs.Table.{answers_fit, always_if, wanted_if, load_fits, early_fault, is_load_given, is_write_given, is_process_given, write_ask}
use Rattle.jc_model.specs.Group.{load_only, write_only, nothing_said}
use Rattle.jc_stripe.specs.declared.ticket.First.{First}
use Rattle.jc_stripe.specs.declared.ticket.First.TheVariants.{Nobody, Loader, Writer, Processor}
use Rattle.jc_stripe.specs.Refusals.{first_asked, first_by, is_wanted}
use Rattle.jc_stripe.specs.Tickets.{writer_for}
use Rattle.jc_stripe.specs.Appending.{AnswersFirst, AnswersProcess, is_write_due}

-- a writer's request is none of the loader's
pub not_loader : (b : Bool) (change : Option Change) → writer_for (cond b change None) ≡ Loader → (A : Type 0) → A
not_loader true None h A = cc
not_loader true (Some change) h A = cc
not_loader false change h A = cc

loader_due : (b w : Bool) → first_by (always_if b) (cond w None None) ≡ Loader → b ≡ true
loader_due true w h = refl
loader_due false true h = cc
loader_due false false h = cc

shape : (g b v : Bool) → g ≡ true → b ≡ true → (load_fits (always_if b) g && true && not (v && false)) ≡ true
shape true true true g b = refl
shape true true false g b = refl
shape true false v g b = cc
shape false b' v g b = cc

-- where the loader was asked first, its answer is what the tables ask for
pub loader_fits : (config : Config) (op : Op) (entry : Option Bytes) (answer : LoadAnswer) → first_asked config op entry ≡ Loader → is_load_given answer ≡ true → IsTrue (answers_fit config op entry (load_only answer))
loader_fits config Get entry answer h given =
    shape (is_load_given answer) (config.read_through && is_none entry) (config.write_through && is_none (early_fault (load_only answer))) given (loader_due (config.read_through && is_none entry) config.write_through h)
loader_fits config (LoadAll replace) entry answer h given =
    shape (is_load_given answer) (replace || is_none entry) (config.write_through && is_none (early_fault (load_only answer))) given (loader_due (replace || is_none entry) config.write_through h)
loader_fits config Invoke entry answer h given = cc
loader_fits config op entry answer h given = not_loader config.write_through (write_ask op entry process.NotAsked) h _

no_writer : (b w : Bool) (change : Change) → first_by (always_if b) (cond w None None) ≡ Writer change → (A : Type 0) → A
no_writer true w change h A = cc
no_writer false true change h A = cc
no_writer false false change h A = cc

written_shape : (w given : Bool) (asked : Option Change) (change : Change) → writer_for (cond w asked None) ≡ Writer change → given ≡ true → (true && true && beq given (w && true && is_some asked)) ≡ true
written_shape true true (Some asked) change h g = refl
written_shape true given None change h g = cc
written_shape false given asked change h g = cc
written_shape w false asked change h g = cc

-- where the writer was asked first, its answer is what the tables ask for
pub writer_fits : (config : Config) (op : Op) (entry : Option Bytes) (answer : WriteAnswer) (change : Change) → first_asked config op entry ≡ Writer change → is_write_given answer ≡ true → IsTrue (answers_fit config op entry (write_only answer))
writer_fits config Get entry answer change h given = no_writer (config.read_through && is_none entry) config.write_through change h _
writer_fits config (LoadAll replace) entry answer change h given = no_writer (replace || is_none entry) config.write_through change h _
writer_fits config Invoke entry answer change h given = cc
writer_fits config op entry answer change h given = written_shape config.write_through (is_write_given answer) (write_ask op entry process.NotAsked) change h given

-- no call but an `Invoke` asks the processor first
no_processor : (b w : Bool) (change : Option Change) (seen : Option Bytes) (loads : Bool) → first_by (always_if b) (cond w change None) ≡ Processor seen loads → (A : Type 0) → A
no_processor true w change seen loads h A = cc
no_processor false true None seen loads h A = cc
no_processor false true (Some change) seen loads h A = cc
no_processor false false change seen loads h A = cc

processed_shape : (load process write due : Bool) → load ≡ true → process ≡ true → write ≡ due → (load && beq process true && beq write due) ≡ true
processed_shape true true true true l p w = refl
processed_shape true true false false l p w = refl
processed_shape true true true false l p w = cc
processed_shape true true false true l p w = cc
processed_shape true false write due l p w = cc
processed_shape false process write due l p w = cc

-- what a reservation keeps of the loader table
kept_wanted : (wanted loads : Bool) (entry seen : Option Bytes) → Processor entry (is_wanted (wanted_if wanted)) ≡ Processor seen loads → loads ≡ wanted
kept_wanted true loads entry seen h = cc
kept_wanted false loads entry seen h = cc

-- where the processor was asked first, the answers are what the tables ask for
pub processor_fits : (config : Config) (op : Op) (entry seen : Option Bytes) (loads : Bool) (out : Out) → first_asked config op entry ≡ Processor seen loads → AnswersProcess config loads out → IsTrue (answers_fit config op entry out)
processor_fits config Invoke entry seen loads out h said =
    let wanted : Bool = config.read_through && is_none entry in
    let same : loads ≡ wanted = kept_wanted wanted loads entry seen h in
    processed_shape (load_fits (wanted_if wanted) (is_load_given out.load)) (is_process_given out.process) (is_write_given out.write) (is_write_due config out)
    (ap (λ w. load_fits (wanted_if w) (is_load_given out.load)) (sym same) ∙ said.load) said.process said.write
processor_fits config Get entry seen loads out h said = no_processor (config.read_through && is_none entry) config.write_through None seen loads h _
processor_fits config (LoadAll replace) entry seen loads out h said = no_processor (replace || is_none entry) config.write_through None seen loads h _
processor_fits config op entry seen loads out h said = no_processor false config.write_through (write_ask op entry process.NotAsked) seen loads h _

-- what answers whom the call asked first fits
pub said_fits : (config : Config) (op : Op) (entry : Option Bytes) (first : First) (out : Out) → first_asked config op entry ≡ first → AnswersFirst config first out → IsTrue (answers_fit config op entry out)
said_fits config op entry Nobody out asks said = absurd said
said_fits config op entry Loader out asks said = ap (answers_fit config op entry) said.1 ∙ loader_fits config op entry said.0 asks said.2
said_fits config op entry (Writer change) out asks said = ap (answers_fit config op entry) said.1 ∙ writer_fits config op entry said.0 change asks said.2
said_fits config op entry (Processor seen loads) out asks said = processor_fits config op entry seen loads out asks said

-- a loader that was asked has answered
pub said_given : (config : Config) (first : First) (out : Out) → first ≡ Loader → AnswersFirst config first out → is_load_given out.load ≡ true
said_given config Nobody out h said = absurd said
said_given config Loader out h said = ap (λ (o : Out). is_load_given o.load) said.1 ∙ said.2
said_given config (Writer change) out h said = cc
said_given config (Processor seen loads) out h said = cc

loads_nobody : (b w : Bool) → first_by (always_if b) (cond w None None) ≡ Nobody → b ≡ false
loads_nobody true w h = cc
loads_nobody false w h = refl

shape_unread : (b v : Bool) → b ≡ false → (load_fits (always_if b) false && true && not (v && false)) ≡ true
shape_unread true v h = cc
shape_unread false true h = refl
shape_unread false false h = refl

shape_unwritten : (w : Bool) (asked : Option Change) → writer_for (cond w asked None) ≡ Nobody → (true && true && not (w && true && is_some asked)) ≡ true
shape_unwritten true None h = refl
shape_unwritten true (Some change) h = cc
shape_unwritten false asked h = refl

-- where nobody was asked, nothing said fits
pub nobody_fits : (config : Config) (op : Op) (entry : Option Bytes) → first_asked config op entry ≡ Nobody → IsTrue (answers_fit config op entry nothing_said)
nobody_fits config Get entry h = shape_unread (config.read_through && is_none entry) (config.write_through && true) (loads_nobody (config.read_through && is_none entry) config.write_through h)
nobody_fits config (LoadAll replace) entry h = shape_unread (replace || is_none entry) (config.write_through && true) (loads_nobody (replace || is_none entry) config.write_through h)
nobody_fits config Invoke entry h = cc
nobody_fits config op entry h = shape_unwritten config.write_through (write_ask op entry process.NotAsked) h

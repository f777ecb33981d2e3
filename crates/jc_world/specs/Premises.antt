-- The premises of coherence in a world: honest loaders, honest writers, and an opening that agrees with the store.
--     read_answer                  what a loader that reads the store answers
--     load_from                    what the loader of a played processor answers, with this in the store
--     changed_to                   what the store holds at a key once the writer did as it was asked
--     report_of                    the writer's report, from its fault or none
--     report_for                   what a writer's return says for a key of a call of a kind: its fault or none in a call of one
--                                  key, else whether the key is left, and with which code it then fails
--     is_true_load                 honest loaders: an answer is a failure, or what the store holds for the key
--     is_done                      a report says that the writer did as it was asked
--     is_true_report               honest writers: a report says done exactly where the store was changed. So in a batch the
--                                  changed keys are exactly those that aren't left
--     with_loader, with_writer     the premises behind an answer of a loader, and behind a report of a writer, by whether it was
--                                  honest
--     is_stored                    an entry is the store's
--     is_as_told                   an entry is the store's, or its key is foreign
--     opens                        each entry with which these stripes opened passes a test
--     opens_coherent, opens_as_told
--                                  each of them is the store's; and but for foreign keys
--     is_agreed                    what is cached of a key is what the store holds, or nothing is
--     are_honest                   each loader and each writer was honest so far
use Rattle.std.specs.Prelude.{ℕ, List, Bool, true, false, ◌&&◌, ◌||◌, Option, None, Some, is_none, is_some}
use Rattle.std.specs.Bool.{beq}
use Rattle.std.specs.List.{list_all}
use Rattle.jc_model.specs.declared.event.Change.{Change}
use Rattle.jc_model.specs.declared.event.Change.TheVariants.{Write, Delete}
use Rattle.jc_model.specs.declared.event.LoadAnswer.{LoadAnswer}
use Rattle.jc_model.specs.declared.event.LoadAnswer.TheVariants as load
use Rattle.jc_model.specs.declared.event.WriteAnswer.{WriteAnswer}
use Rattle.jc_model.specs.declared.event.WriteAnswer.TheVariants as write
use Rattle.jc_model.specs.Batches.{answer_in_batch}
use Rattle.jc_model.specs.Cache.{Bytes, Cache, entry_at}
use Rattle.jc_model.specs.Table.{holds}
use Rattle.jc_stripe.specs.State.{State}
use Rattle.jc_world.specs.declared.command.CallKind.{CallKind}
use Rattle.jc_world.specs.declared.command.CallKind.TheVariants as kind
use Rattle.jc_world.specs.declared.event.Premises.{Premises}
use Rattle.jc_world.specs.declared.process.LoadSource.{LoadSource}
use Rattle.jc_world.specs.declared.process.LoadSource.TheVariants.{Store, Stated, Failing}

abbrev pub read_answer : Option Bytes → LoadAnswer
read_answer None = load.Nothing
read_answer (Some value) = load.Found value

abbrev pub load_from : LoadSource → Option Bytes → LoadAnswer
load_from Store stored = read_answer stored
load_from (Stated value) stored = read_answer value
load_from (Failing code) stored = load.Failed code

abbrev pub changed_to : Change → Option Bytes
changed_to (Write value) = Some value
changed_to Delete = None

abbrev pub report_of : Option ℕ → WriteAnswer
report_of None = write.Done
report_of (Some code) = write.Failed code

-- of a batch exactly the keys outside `left` are written
abbrev pub report_for : CallKind → List Bytes → Option ℕ → Bytes → WriteAnswer
report_for kind.Single left fault key = report_of fault
report_for kind.Batch left fault key = answer_in_batch left fault key
report_for kind.InvokeAll left fault key = answer_in_batch left fault key

abbrev pub is_true_load : LoadAnswer → Option Bytes → Bool
is_true_load load.NotAsked stored = true
is_true_load (load.Found value) stored = holds stored value
is_true_load load.Nothing stored = is_none stored
is_true_load (load.Failed code) stored = true

abbrev pub is_done : WriteAnswer → Bool
is_done write.Done = true
is_done write.NotAsked = false
is_done (write.Failed code) = false

abbrev pub is_true_report : WriteAnswer → Bool → Bool
is_true_report report is_changed = beq is_changed (is_done report)

abbrev pub with_loader : Premises → Bool → Premises
with_loader p honest = record p { loaders = p.loaders && honest }

abbrev pub with_writer : Premises → Bool → Premises
with_writer p honest = record p { writers = p.writers && honest }

abbrev pub is_stored : Cache → Bytes × Bytes → Bool
is_stored store entry = holds (entry_at store entry.0) entry.1

abbrev pub opens : (Bytes × Bytes → Bool) → List State → Bool
opens test stripes = list_all (λ s. list_all test s.opening) stripes

abbrev pub opens_coherent : Cache → List State → Bool
opens_coherent store stripes = opens (is_stored store) stripes

abbrev pub is_as_told : Cache → Cache → Bytes × Bytes → Bool
is_as_told foreign store entry = is_some (entry_at foreign entry.0) || is_stored store entry

abbrev pub opens_as_told : Cache → Cache → List State → Bool
opens_as_told foreign store stripes = opens (is_as_told foreign store) stripes

abbrev pub is_agreed : Option Bytes → Option Bytes → Bool
is_agreed None stored = true
is_agreed (Some value) stored = holds stored value

abbrev pub are_honest : Premises → Bool
are_honest p = p.writers && p.loaders

-- What is told of a key fits whom its reservation asks first: each event keeps that.
use Rattle.jc_world.proofs.Common.{◌≡◌, Bool, true, false, None, Some, Option, sym, refl, ap, ◌∙◌, is_some, and_parts, not-true, Change, LoadAnswer, WriteAnswer, Out, ProcessResult, Claim, reserves, asks_loader, asks_processor, First, Loader, Nobody, Processor, Writer, PartProgress, is_load_given, is_process_given, with_heard, with_loaded, with_change, with_report, progress_after, new_progress, FitsAsked, is_unanswered}

pub asked_new : (first : First) → reserves first ≡ true → FitsAsked first (new_progress first)
asked_new Nobody due = cc
asked_new Loader due = (refl, refl)
asked_new (Writer change) due = (refl, refl)
asked_new (Processor entry may_load) due = (λ e. refl, λ e. (refl, refl, refl))

-- whether it was honest doesn't count
pub asked_heard : (first : First) (p : PartProgress) (was honest : Bool) → FitsAsked first p → FitsAsked first (with_heard p was honest)
asked_heard Nobody p was honest h = h
asked_heard Loader p was honest h = h
asked_heard (Writer change) p was honest h = h
asked_heard (Processor entry may_load) p was honest h = h

pub asked_answer : (first : First) (p : PartProgress) (answer : LoadAnswer) → asks_loader first ≡ true → FitsAsked first p → FitsAsked first (with_loaded p answer)
asked_answer Loader p answer due h = (h.0, ap (λ (o : Out). record o { load = answer }) h.1)
asked_answer first p answer due h = cc

some_not_none : (o : Option Change) → is_some o ≡ true → o ≡ None → ⊥
some_not_none None due none = cc
some_not_none (Some change) due none = cc

pub asked_change : (first : First) (p : PartProgress) → is_some p.change ≡ true → FitsAsked first p → FitsAsked first (with_change p)
asked_change Nobody p due h = h
asked_change Loader p due h = h
asked_change (Writer change) p due h = h
asked_change (Processor entry may_load) p due h = (h.0, λ unrun. absurd (some_not_none p.change due (h.1 unrun).0))

pub asked_report : (first : First) (p : PartProgress) (report : WriteAnswer) → is_some p.change ≡ true → FitsAsked first p → FitsAsked first (with_report p report)
asked_report Nobody p report due h = h
asked_report Loader p report due h = absurd (some_not_none p.change due h.0)
asked_report (Writer change) p report due h = (h.0, ap (λ (o : Out). record o { write = report }) h.1)
asked_report (Processor entry may_load) p report due h = (λ none. absurd (some_not_none p.change due none), λ unrun. absurd (some_not_none p.change due (h.1 unrun).0))

pub asked_run : (first : First) (change : Option Change) (done : ProcessResult Claim) → asks_processor first ≡ true → is_process_given done.process ≡ true → FitsAsked first (progress_after change done)
asked_run (Processor entry may_load) change done due given = (λ e. refl, λ e. absurd (let t : true ≡ false = sym given ∙ e in cc))
asked_run first change done due given = cc

-- of what is unanswered, nothing is given
pub unanswered_load : (out : Out) → is_unanswered out ≡ true → is_load_given out.load ≡ false
unanswered_load out h = not-true (is_load_given out.load) (and_parts _ _ (and_parts _ _ h).0).0

pub unanswered_run : (out : Out) → is_unanswered out ≡ true → is_process_given out.process ≡ false
unanswered_run out h = not-true (is_process_given out.process) (and_parts _ _ h).1

-- while the loader or the processor is waited for, no writer is asked
pub unwritten_load : (first : First) (p : PartProgress) → asks_loader first ≡ true → FitsAsked first p → p.change ≡ None
unwritten_load Loader p due h = h.0
unwritten_load first p due h = cc

pub unwritten_run : (first : First) (p : PartProgress) → asks_processor first ≡ true → is_unanswered p.out ≡ true → FitsAsked first p → p.change ≡ None
unwritten_run (Processor entry may_load) p due none h = (h.1 (unanswered_run p.out none)).0
unwritten_run first p due none h = cc

-- nor has any changed the store
pub unchanged_run : (first : First) (p : PartProgress) → asks_processor first ≡ true → is_unanswered p.out ≡ true → FitsAsked first p → p.is_changed ≡ false
unchanged_run (Processor entry may_load) p due none h = (h.1 (unanswered_run p.out none)).2
unchanged_run first p due none h = cc

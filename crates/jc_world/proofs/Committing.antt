-- The last phase of a reserved key: what its ticket, its run and its progress say of what was answered.
--     unwritten_of, due_of       of a processor: a writer that wasn't asked has said nothing, and it was asked for what is due
--     is_reported                a key of which all is answered has the writer's report
--     load_answered, write_answered
--                                of a loader, and of a writer: it has answered
--     somebody_asks              somebody is asked first, and a processor whose key is answered has run
--     change_is, change_some     what is due, by the answers as the run has them
--     given_if, has_report, no_report
--                                the writer's report is there if it was asked
--     answered_failed, due_told  a writer that fails leaves a key of which all is answered, and what was due
use Rattle.jc_world.proofs.Common.{with_heard, ◌≡◌, Bool, true, false, cond, not, ◌&&◌, is_some, ◌⊎◌, inl, inr, Option, Some, None, sym, refl, ap, ◌∙◌, subst, Config, Bytes, Change, WriteAnswer, Out, is_load_given, is_write_given, is_process_given, effect_change, change_due, ProcessResult, TicketClaim, Claim, Reservation, First, Loader, Nobody, Processor, Writer, asks_loader, asks_processor, load_only, write_only, Part, PartProgress, FitsAsked, change_in, IsDueIn, is_unanswered, is_all_answered, waits_for_report, with_report}
use Rattle.jc_model.specs.declared.event.WriteAnswer.TheVariants as write
use Rattle.jc_outside.specs.Done.{WriteResult}
use Rattle.jc_outside.specs.declared.done.Origin.{Origin}
use Rattle.jc_stripe.specs.Effects.{HasReport}
use Rattle.jc_stripe.specs.Tickets.{report_claim}
use Rattle.jc_world.specs.Held.{HasPlayedRun}

-- 1. Of a processor.

pub unwritten_of : (first : First) (p : PartProgress) → asks_processor first ≡ true → FitsAsked first p → p.change ≡ None → p.out.write ≡ write.NotAsked
unwritten_of (Processor entry may_load) p asks fits none = fits.0 none
unwritten_of first p asks fits none = cc

pub due_of : (config : Config) (first : First) (p : PartProgress) → asks_processor first ≡ true → IsDueIn config first p → p.change ≡ change_in config p.out
due_of config (Processor entry may_load) p asks due = due
due_of config first p asks due = cc

-- 2. All is answered.

not_false : (b : Bool) → not b ≡ false → b ≡ true
not_false true h = refl
not_false false h = cc

last_of : (a b c : Bool) → (not a && not b && not c) ≡ true → c ≡ false
last_of false false false h = refl
last_of a b c h = cc

first_of : (a b c : Bool) → (not a && not b && not c) ≡ true → a ≡ false
first_of false b c h = refl
first_of true b c h = cc

mid_of : (a b c : Bool) → (not a && not b && not c) ≡ true → b ≡ false
mid_of false false c h = refl
mid_of a b c h = cc

pub is_reported : (part : Part) → is_all_answered part ≡ true → waits_for_report part ≡ false
is_reported part h = last_of _ _ (waits_for_report part) h

-- one alone is asked, and has answered
alone_given : (b : Bool) → (not b && not false && not false) ≡ false → b ≡ true
alone_given true h = refl
alone_given false h = cc

pub load_answered : (part : Part) → part.reservation.first ≡ Loader → FitsAsked part.reservation.first part.progress → is_all_answered part ≡ true → is_load_given part.progress.out.load ≡ true
load_answered part is fits all =
    let out = part.progress.out in
    let told : out ≡ load_only out.load = (subst (λ first. FitsAsked first part.progress) is fits).1 in
    let asked : (asks_loader part.reservation.first && is_unanswered out) ≡ false = first_of _ _ _ all in
    let known : is_unanswered out ≡ false = subst (λ first. (asks_loader first && is_unanswered out) ≡ false) is asked in
    alone_given (is_load_given out.load) (subst (λ o. is_unanswered o ≡ false) told known)

pub write_answered : (part : Part) (change : Change) → part.reservation.first ≡ Writer change → FitsAsked part.reservation.first part.progress → is_all_answered part ≡ true → is_write_given part.progress.out.write ≡ true
write_answered part change is fits all =
    let some : part.progress.change ≡ Some change = (subst (λ first. FitsAsked first part.progress) is fits).0 in
    not_false (is_write_given part.progress.out.write)
    (subst (λ o. (is_some o && not (is_write_given part.progress.out.write)) ≡ false) some (is_reported part all))

pub loaded_only : (part : Part) → part.reservation.first ≡ Loader → FitsAsked part.reservation.first part.progress → load_only part.progress.out.load ≡ part.progress.out
loaded_only part is fits = sym (subst (λ first. FitsAsked first part.progress) is fits).1

pub written_only : (part : Part) (change : Change) → part.reservation.first ≡ Writer change → FitsAsked part.reservation.first part.progress → write_only part.progress.out.write ≡ part.progress.out
written_only part change is fits = sym (subst (λ first. FitsAsked first part.progress) is fits).1

-- somebody is asked, and a processor has run
pub somebody_asks : (ticket : TicketClaim) (p : PartProgress) (changed : Part) → changed ≡ record { reservation = ticket.reservation; progress = p } → (ticket.reservation.first ≡ Nobody) ⊎ ((entry : Option Bytes) × (may_load : Bool) × (ticket.reservation.first ≡ Processor entry may_load)) → FitsAsked ticket.reservation.first p → HasPlayedRun ticket None p.out → is_all_answered changed ≡ true → ⊥
somebody_asks ticket p part same (inl is) fits ran all = subst (λ first. FitsAsked first p) is fits
somebody_asks ticket p part same (inr is) fits ran all =
    let un : is_unanswered p.out ≡ true = ((subst (λ first. FitsAsked first p) is.2 fits).1 ran.1).1 in
    let at : is_all_answered (record { reservation = ticket.reservation; progress = p }) ≡ true = ap is_all_answered (sym same) ∙ all in
    let asks : asks_processor ticket.reservation.first ≡ true = ap asks_processor is.2 in
    let over : (asks_processor ticket.reservation.first && is_unanswered p.out) ≡ false = mid_of _ _ _ at in
    let both : (true && true) ≡ false = (λ i. sym asks i && sym un i) ∙ over in
    cc

-- 3. The writer that is asked after a processor.

pub change_is : (config : Config) (done : ProcessResult Claim) (out : Out) → done.load ≡ out.load → done.process ≡ out.process → change_due config done ≡ change_in config out
change_is config done out load process = λ i. cond config.write_through (effect_change (load i) (process i)) None

-- a change that is due is the net effect
pub change_some : (config : Config) (done : ProcessResult Claim) (change : Change) → change_due config done ≡ Some change → effect_change done.load done.process ≡ Some change
change_some config done change h = if_some config.write_through (effect_change done.load done.process) change h
  where
    if_some : (b : Bool) (o : Option Change) (x : Change) → cond b o None ≡ Some x → o ≡ Some x
    if_some true o x h = h
    if_some false o x h = cc

pub given_if : (o : Option Change) (change : Change) (b : Bool) → o ≡ Some change → (is_some o && not b) ≡ false → b ≡ true
given_if (Some x) change b is h = not_false b h
given_if None change b is h = cc

pub has_report : (origin : Origin) (r : Reservation) (due : Option Change) (change : Change) (report : WriteResult Claim) → due ≡ Some change → report.ask ≡ report_claim r due → report.origin ≡ origin → HasReport origin r due (Some report)
has_report origin r (Some x) change report is asked from = (asked, from)
has_report origin r None change report is asked from = cc

pub no_report : (origin : Origin) (r : Reservation) (due : Option Change) → due ≡ None → HasReport origin r due None
no_report origin r None is = tt
no_report origin r (Some x) is = cc

-- 4. A writer that fails.

pub answered_failed : (part : Part) (code : _) → is_all_answered (record part { progress = with_report part.progress (write.Failed code) }) ≡ true
answered_failed part code =
    let load = is_load_given part.progress.out.load in
    let process = is_process_given part.progress.out.process in
    told (asks_loader part.reservation.first) (asks_processor part.reservation.first) (is_some part.progress.change) load process
  where
    silent : (x l p : Bool) → (x && (not l && not true && not p)) ≡ false
    silent true true p = refl
    silent true false p = refl
    silent false l p = refl

    unwritten : (s : Bool) → (s && not true) ≡ false
    unwritten true = refl
    unwritten false = refl

    told : (x y s l p : Bool) → (not (x && (not l && not true && not p)) && not (y && (not l && not true && not p)) && not (s && not true)) ≡ true
    told x y s l p = rw (silent x l p, silent y l p, unwritten s) refl

pub due_told : (config : Config) (first : First) (p : PartProgress) (report : WriteAnswer) → IsDueIn config first p → IsDueIn config first (with_report p report)
due_told config Nobody p report due = due
due_told config first p report due = due

-- whether it was honest doesn't count
pub due_heard : (config : Config) (first : First) (p : PartProgress) (was honest : Bool) → IsDueIn config first p → IsDueIn config first (with_heard p was honest)
due_heard config (Processor entry may_load) p was honest h = h
due_heard config first p was honest h = tt

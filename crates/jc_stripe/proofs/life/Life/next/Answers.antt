use Rattle.std.proofs.Common.{◌≡◌, ◌∙◌, ap, sym, length, List, [], ◌∷◌, ◌++◌, arith}
use Rattle.std.proofs.lemmas.List.{length-append, map-append}
use Rattle.jc_history.specs.Past.{Past}
use Rattle.jc_entries.specs.ByUse.{ByUse}
use Rattle.jc_model.specs.Statistics.{statistics_of, together}
use Rattle.jc_stripe.specs.declared.log.Log.{Log}
use Rattle.jc_stripe.specs.State.{Generation}
use Rattle.jc_stripe.specs.Occurrences.{occurrences, past_occurrences}
use Rattle.jc_stripe.specs.Life.{Life, noted_in, ended_in}
use Rattle.jc_stripe.proofs.Counting.{occurrences-past}
use Rattle.jc_stripe.proofs.life.Life.next.Goals as goal

abbrev generation_of : Log ByUse (Unit {0}) × Past → Generation
generation_of note = record { opening = noted_in note.0.items; history = note.1.events }

past-noted : (notes : List (Log ByUse (Unit {0}) × Past)) (note : Log ByUse (Unit {0}) × Past) → past_occurrences (ended_in (notes ++ note ∷ [])) ≡ past_occurrences (ended_in notes) ++ occurrences (noted_in note.0.items) note.1.events
past-noted notes note = ap past_occurrences (map-append generation_of notes (note ∷ [])) ∙ occurrences-past (ended_in notes) (generation_of note)

counted : (c : goal.After-together) → c.args.history.now.statistics ≡ statistics_of (occurrences (noted_in c.self.inside.opening.items) c.args.history.now.events)
counted c = c.requires ∙ ap (λ (l : Life). statistics_of (occurrences l.opening c.args.history.now.events)) (sym c.self.view_is)

pub invariant_of-result : goal.invariant_of-result
invariant_of-result c =
    let notes = c.self.inside.ended.items in
    let note : Log ByUse (Unit {0}) × Past = (c.self.inside.opening, c.args.history.now) in
    let longer = ap length c.and-2.ensures ∙ length-append notes (note ∷ []) in
    let count = c.self.invariant.0 in
    let more = c.saturating_add.ensures in (
      omega (arith, longer, count, more),
      c.together.ensures
          ∙ (λ i. together (c.self.invariant.1 i) ((c.statistics.ensures ∙ counted c) i))
          ∙ sym (c.statistics_laws.ensures.append (past_occurrences (ended_in notes)) (occurrences (noted_in c.self.inside.opening.items) c.args.history.now.events))
          ∙ ap statistics_of (sym (past-noted notes note))
          ∙ ap (λ (ns : List (Log ByUse (Unit {0}) × Past)). statistics_of (past_occurrences (ended_in ns))) (sym c.and-2.ensures),
    )

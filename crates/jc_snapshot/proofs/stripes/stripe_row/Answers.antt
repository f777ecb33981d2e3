use Rattle.jc_snapshot.proofs.Common.{[], ◌∷◌, ◌++◌, Some, length, sym, ap, subst, ◌∙◌, AreNumbers, framed, flat, bit, origin_word}
use Rattle.jc_snapshot.proofs.FlatRows.{flat_push}
use Rattle.jc_snapshot.proofs.stripes.stripe_row.Goals as goal

pub returns-clause-row : goal.returns-clause-row
returns-clause-row c =
    let x = c.args.stripe.now in
    let config = c.in_ok-config.config in
    let number = c.number.ensures in
    let origin = c.origin_word.ensures ∙ ap origin_word c.origin.ensures in
    let lives = c.bit.ensures ∙ ap bit c.lives.ensures in
    let shut = c.bit-2.ensures ∙ ap bit c.is_shut.ensures in
    let events = c.events_len.ensures.len in
    let next = c.next_number.ensures in
    let entries = c.deref.ensures.value in
    let reservations = c.deref-2.ensures.value in
    let joiners = c.deref-3.ensures.value in
    let answers = c.deref-4.ensures.value in
    let marks = c.deref-5.ensures.value in
    let ended = c.requires in
    let cache = sym c.entry_numbers.ensures.cache in
    let scalars = config ∷ x.stripe ∷ origin_word x.origin ∷ bit x.lives ∷ bit x.shut ∷ length x.history ∷ x.next ∷ [] in
    record {
      config = config;
      entries = c.in_ok-entries.entries.items;
      reservations = c.in_ok-reservations.reservations.items;
      joiners = c.in_ok-joiners.joiners.items;
      answers = c.in_ok-answers.answers.items;
      marks = c.in_ok-marks.marks.items;
      row_is =
          c.in_ok-push_row.ensures
          ∙ (λ i. (c.in_ok-row.ensures ∙ (λ j. flat (entries j ∷ reservations j ∷ joiners j ∷ answers j ∷ (config ∷ number j ∷ origin j ∷ lives j ∷ shut j ∷ events j ∷ next j ∷ []) ∷ []))) i ++ framed (marks i))
          ∙ sym (flat_push (c.in_ok-entries.entries.items ∷ c.in_ok-reservations.reservations.items ∷ c.in_ok-joiners.joiners.items ∷ c.in_ok-answers.answers.items ∷ scalars ∷ []) c.in_ok-marks.marks.items);
      config_is = c.in_ok-config.ensures.number ∙ ap (λ y. Some y) c.config.ensures;
      entries_are = c.in_ok-entries.ensures.numbers;
      reservations_are = subst (λ rs. AreNumbers c.numbers_of.new.table rs c.in_ok-reservations.reservations.items) c.reservations.ensures c.in_ok-reservations.ensures.numbers;
      joiners_are = subst (λ js. AreNumbers c.numbers_of-2.new.table js c.in_ok-joiners.joiners.items) c.joiners.ensures c.in_ok-joiners.ensures.numbers;
      answers_are = c.in_ok-answers.ensures.numbers;
      marks_are = subst (λ ms. AreNumbers c.numbers_of-3.new.table ms c.in_ok-marks.marks.items) c.marks.ensures c.in_ok-marks.ensures.numbers;
      rest_is = λ i. record x { ended = ended i; opening = []; cache = cache i; history = [] };
    }

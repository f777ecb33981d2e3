use Rattle.jc_snapshot.proofs.Common.{[], ◌∷◌, ◌++◌, Some, sym, ap, ◌∙◌, framed, flat, bit, last_row}
use Rattle.jc_snapshot.proofs.FlatRows.{flat_push}
use Rattle.jc_snapshot.proofs.TableNumbers.{extends_self, extends_twice, numbers_stay}
use Rattle.jc_snapshot.proofs.snapshot.own_words.Goals as goal

pub returns-clause-rows : goal.returns-clause-rows
returns-clause-rows c =
    let config = c.in_ok-config.config in
    let premises = c.in_ok-premises.premises in
    let fresh = c.bit.ensures ∙ ap bit c.is_fresh.ensures in
    let last = c.deref.ensures.value ∙ c.in_ok-last.ensures ∙ ap last_row c.last.ensures in
    let store = c.deref-2.ensures.value in
    let parts = c.deref-3.ensures.value in
    let joins = c.deref-4.ensures.value in
    let foreign = c.deref-5.ensures.value in (
      record { config = config; premises = premises; store = c.in_ok-store.store.items; parts = c.in_ok-parts.parts.items; joins = c.in_ok-joins.joins.items; foreign = c.in_ok-foreign.foreign.items },
      c.in_ok-push_row.ensures
          ∙ (λ i. (c.in_ok-words.ensures ∙ (λ j. flat ((config ∷ premises ∷ fresh j ∷ []) ∷ last j ∷ store j ∷ parts j ∷ joins j ∷ []))) i ++ framed (foreign i))
          ∙ sym (flat_push ((config ∷ premises ∷ bit c.args.world.now.world.is_fresh ∷ []) ∷ last_row c.args.world.now.world.last ∷ c.in_ok-store.store.items ∷ c.in_ok-parts.parts.items ∷ c.in_ok-joins.joins.items ∷ []) c.in_ok-foreign.foreign.items),
      record {
        config_is = c.in_ok-config.ensures.number ∙ ap (λ x. Some x) c.config.ensures;
        premises_are = c.in_ok-premises.ensures.number ∙ ap (λ x. Some x) c.premises.ensures;
        store_is = c.in_ok-store.ensures.numbers;
        parts_are = c.in_ok-parts.ensures.numbers;
        joins_are = c.in_ok-joins.ensures.numbers;
        foreign_are = numbers_stay _ _ _ _ c.store_numbers.ensures.grows c.in_ok-foreign.ensures.numbers;
      },
    )

pub returns-in_err-store-clause-grows : goal.returns-in_err-store-clause-grows
returns-in_err-store-clause-grows c = record {
  configs = c.number_of.ensures.grows;
  premises = c.number_of-2.ensures.grows;
  entries = extends_twice _ _ _ c.foreign_numbers.ensures.grows c.store_numbers.ensures.grows;
  reservations = extends_self _;
  joiners = extends_self _;
  answers = extends_self _;
  marks = extends_self _;
  parts = extends_self _;
  joins = extends_self _;
  heads = extends_self _;
  tasks = extends_self _;
}

pub returns-in_err-parts-clause-grows : goal.returns-in_err-parts-clause-grows
returns-in_err-parts-clause-grows c = record {
  configs = c.number_of.ensures.grows;
  premises = c.number_of-2.ensures.grows;
  entries = extends_twice _ _ _ c.foreign_numbers.ensures.grows c.store_numbers.ensures.grows;
  reservations = extends_self _;
  joiners = extends_self _;
  answers = extends_self _;
  marks = extends_self _;
  parts = c.part_numbers.ensures.grows;
  joins = extends_self _;
  heads = extends_self _;
  tasks = extends_self _;
}

pub returns-in_err-joins-clause-grows : goal.returns-in_err-joins-clause-grows
returns-in_err-joins-clause-grows c = record {
  configs = c.number_of.ensures.grows;
  premises = c.number_of-2.ensures.grows;
  entries = extends_twice _ _ _ c.foreign_numbers.ensures.grows c.store_numbers.ensures.grows;
  reservations = extends_self _;
  joiners = extends_self _;
  answers = extends_self _;
  marks = extends_self _;
  parts = c.part_numbers.ensures.grows;
  joins = c.join_numbers.ensures.grows;
  heads = extends_self _;
  tasks = extends_self _;
}

pub returns-in_err-last-clause-grows : goal.returns-in_err-last-clause-grows
returns-in_err-last-clause-grows c = record {
  configs = c.number_of.ensures.grows;
  premises = c.number_of-2.ensures.grows;
  entries = extends_twice _ _ _ c.foreign_numbers.ensures.grows c.store_numbers.ensures.grows;
  reservations = extends_self _;
  joiners = extends_self _;
  answers = extends_self _;
  marks = extends_self _;
  parts = c.part_numbers.ensures.grows;
  joins = c.join_numbers.ensures.grows;
  heads = extends_self _;
  tasks = extends_self _;
}

pub returns-in_err-words-clause-grows : goal.returns-in_err-words-clause-grows
returns-in_err-words-clause-grows c = record {
  configs = c.number_of.ensures.grows;
  premises = c.number_of-2.ensures.grows;
  entries = extends_twice _ _ _ c.foreign_numbers.ensures.grows c.store_numbers.ensures.grows;
  reservations = extends_self _;
  joiners = extends_self _;
  answers = extends_self _;
  marks = extends_self _;
  parts = c.part_numbers.ensures.grows;
  joins = c.join_numbers.ensures.grows;
  heads = extends_self _;
  tasks = extends_self _;
}

pub returns-in_err-push_row-clause-grows : goal.returns-in_err-push_row-clause-grows
returns-in_err-push_row-clause-grows c = record {
  configs = c.number_of.ensures.grows;
  premises = c.number_of-2.ensures.grows;
  entries = extends_twice _ _ _ c.foreign_numbers.ensures.grows c.store_numbers.ensures.grows;
  reservations = extends_self _;
  joiners = extends_self _;
  answers = extends_self _;
  marks = extends_self _;
  parts = c.part_numbers.ensures.grows;
  joins = c.join_numbers.ensures.grows;
  heads = extends_self _;
  tasks = extends_self _;
}

pub returns-clause-grows : goal.returns-clause-grows
returns-clause-grows c = record {
  configs = c.number_of.ensures.grows;
  premises = c.number_of-2.ensures.grows;
  entries = extends_twice _ _ _ c.foreign_numbers.ensures.grows c.store_numbers.ensures.grows;
  reservations = extends_self _;
  joiners = extends_self _;
  answers = extends_self _;
  marks = extends_self _;
  parts = c.part_numbers.ensures.grows;
  joins = c.join_numbers.ensures.grows;
  heads = extends_self _;
  tasks = extends_self _;
}

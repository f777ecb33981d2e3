use Rattle.jc_snapshot.proofs.Common.{[], ◌∷◌, Some, ap, ◌∙◌, flat}
use Rattle.jc_snapshot.proofs.calls.call_row.Goals as goal

pub returns-clause-row : goal.returns-clause-row
returns-clause-row c =
    let head = c.in_ok-head.head in
    let tasks = c.deref.ensures.value in
    let looked = c.deref-2.ensures.value ∙ c.in_ok-looked.ensures in
    record {
      head = head;
      tasks = c.in_ok-tasks.tasks.items;
      row_is = c.in_ok-row.ensures ∙ (λ i. flat ((head ∷ []) ∷ tasks i ∷ looked i ∷ []));
      head_is = c.in_ok-head.ensures.number ∙ ap (λ h. Some h) c.head_of.ensures;
      tasks_are = c.in_ok-tasks.ensures.numbers;
    }

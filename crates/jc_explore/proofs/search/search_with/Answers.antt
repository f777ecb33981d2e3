use Rattle.jc_explore.proofs.Common.{◌∙◌, [], refl}
use Rattle.std.proofs.lemmas.Result.{err_from_is_err_and}
use Rattle.jc_explore.proofs.Counting.{are-counted}
use Rattle.jc_explore.proofs.Meeting.{each-outcome}
use Rattle.jc_explore.proofs.Telling.{none-told, tells-none, told-before, told-whole}
use Rattle.jc_explore.proofs.search.search_with.Goals as goal

pub returns-in_err-search-clause-told : goal.returns-in_err-search-clause-told
returns-in_err-search-clause-told g c =
    let p = err_from_is_err_and c.from_residual.result c.from_residual.ensures.1 in
    rw p.1 ([], tells-none _, none-told c.args.program.now c.args.states)

pub returns-in_err-is_whole-clause-told : goal.returns-in_err-is_whole-clause-told
returns-in_err-is_whole-clause-told g c =
    let e = c.in_err-is_whole.ensures in
    let t = e.2.1 in
    let p = err_from_is_err_and c.from_residual-in_err-is_whole.result c.from_residual-in_err-is_whole.ensures.1 in
    rw p.1 (e.0, e.1, told-before c.runs_are_determined.ensures c.args.program.now c.args.states e.0 t.0 e.2.0 t.1 t.2)

pub returns-clause-explored : goal.returns-clause-explored
returns-clause-explored g c =
    let rows = c.in_ok-is_whole.ensures.0 in
    let e = c.in_ok-is_whole.ensures.2 in
    let p = c.args.program.now in
    let search = c.visit_all.new.search in
    let count = c.len.ensures ∙ search.known.list.ok.0 in
    record {
      witnessed = e.search.witnessed;
      distinct = e.search.distinct;
      shortest = e.shortest;
      ordered = e.ordered;
      all = λ whole. each-outcome p search.known.list.items search.found.items e.followed e.meets (e.whole whole);
      counted = (are-counted c.runs_are_determined.ensures p c.args.states rows search _ c.has_one_snapshot.ensures e count refl).0;
    }

pub returns-clause-told : goal.returns-clause-told
returns-clause-told g c =
    let e = c.in_ok-is_whole.ensures in
    let search = c.visit_all.new.search in
    let count = c.len.ensures ∙ search.known.list.ok.0 in
    (e.0, e.1, told-whole c.runs_are_determined.ensures c.args.program.now c.args.states e.0 search _ c.has_one_snapshot.ensures e.2 count refl)

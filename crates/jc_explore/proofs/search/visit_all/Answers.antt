use Rattle.jc_explore.proofs.Common.{◌≡◌, eqb, ◌<◌, List, [], ◌∷◌, ◌++◌, refl, ◌≤◌, Some, get_or, length, slice_get, ◌∙◌, ap, subst, arith, true≢false, sym, inl, inr, eqb-true, eqb-false, length-append, KnownState, Move, Finding, OUTCOMES_MAX, AreNew, AreNext, IsClosedSchedule, Progress, progress_of}
use Rattle.std.proofs.lemmas.Result.{err_from_is_err_and}
use Rattle.jc_explore.proofs.Meeting.{first-meets, more-meets}
use Rattle.jc_explore.proofs.Searching.{same-at, there-at}
use Rattle.jc_explore.proofs.Shortest.{first-breadth, more-breadth, nearest-known}
use Rattle.jc_explore.proofs.Telling.{no-progress, progress-grown, progress-push, tells-more, tells-none}
use Rattle.jc_explore.proofs.search.visit_all.Goals as goal

pub returns-then-place-len : goal.returns-then-place-len
returns-then-place-len g c =
    let p = c.args.program.now in
    let i = c.loop-place.invariant in
    let known = c.loop-place.search.known.list.items in
    let found = c.loop-place.search.found.items in (
      i.told.0,
      i.told.1,
      record {
        search = i.search;
        shortest = i.breadth.shortest;
        ordered = i.breadth.ordered;
        sorted = i.breadth.sorted;
        nearest = nearest-known p known found c.loop-place.place i.breadth;
        followed = c.loop-place.place;
        within = (i.budget, i.within);
        meets = i.meets;
        told = (i.told.2, i.told.3);
        whole = λ _. c.if-place-len.true ∙ c.len-in-loop-place.ensures ∙ c.loop-place.search.known.list.ok.0;
        stopped = λ f. absurd (true≢false f);
      },
    )

pub returns-then-has_too_many : goal.returns-then-has_too_many
returns-then-has_too_many g c =
    let p = c.args.program.now in
    let i = c.loop-place.invariant in
    let known = c.loop-place.search.known.list.items in
    let found = c.loop-place.search.found.items in
    let left : c.loop-place.place < length known =
    omega (arith, i.within, c.if-place-len.false, c.len-in-loop-place.ensures, c.loop-place.search.known.list.ok.0) in
    let many : OUTCOMES_MAX < length found = subst (λ (xs : List Finding). OUTCOMES_MAX < length xs) c.deref.ensures.value (c.has_too_many.ensures.many c.if-has_too_many.true) in (
      i.told.0,
      i.told.1,
      record {
        search = i.search;
        shortest = i.breadth.shortest;
        ordered = i.breadth.ordered;
        sorted = i.breadth.sorted;
        nearest = nearest-known p known found c.loop-place.place i.breadth;
        followed = c.loop-place.place;
        within = (i.budget, i.within);
        meets = i.meets;
        told = (i.told.2, i.told.3);
        whole = λ t. absurd (true≢false (sym t));
        stopped = λ _. (left, inr many);
      },
    )

pub loop-place-init : goal.loop-place-init
loop-place-init g c =
    let p = c.args.program.now in
    let s = c.requires.search in
    let known = c.args.search.now.known.list.items in
    let found = c.args.search.now.found.items in
    record {
      search = s.search;
      meets = first-meets p known found s.first s.opening s.none;
      breadth = first-breadth p known found s.first s.opening s.none;
      within = omega arith;
      budget = omega arith;
      told = ([], tells-none _, refl, no-progress p known found);
    }

pub loop-place-preserved : goal.loop-place-preserved
loop-place-preserved g c =
    let p = c.args.program.now in
    let i = c.loop-place.invariant in
    let e = c.in_ok-visit.ensures in
    let place = c.loop-place.place in
    let was = c.loop-place.search.known.list.items in
    let now = c.visit.new.search.known.list.items in
    let before = c.loop-place.search.found.items in
    let found = c.visit.new.search.found.items in
    let apart = c.if-place-len.false in
    let h : place < length was = omega (arith, i.within, apart, c.len-in-loop-place.ensures, c.loop-place.search.known.list.ok.0) in
    let followed = λ (m : KnownState) (at : slice_get was place ≡ Some m).
    c.deref-in-loop-place-3.ensures.value ∙ c.in_ok-schedule.ensures.items ∙ c.deref-in-loop-place.ensures.value
    ∙ ap (λ (x : KnownState). x.schedule.items) (c.index.ensures ∙ same-at was place c.index.result.now m h at) in
    let one : KnownState = get_or was place c.index.result.now in
    let here : slice_get was place ≡ Some one = there-at was place c.index.result.now h in
    let told = i.told in
    let row : Progress = progress_of place c.loop-place.search in
    let few : length before ≤ OUTCOMES_MAX = subst (λ (xs : List Finding). length xs ≤ OUTCOMES_MAX) c.deref.ensures.value (c.has_too_many.ensures.few c.if-has_too_many.false) in
    let next = subst (λ (ms : List Move). AreNext ms was now) (followed one here) e.added in
    let fresh = subst (λ (ms : List Move). AreNew ms before found) (followed one here) e.fresh in
    record {
      search = e.search;
      meets = more-meets p was now before found place one i.meets here e.known_kept e.found_kept next fresh
          (λ m at. subst (λ (ms : List Move). IsClosedSchedule p now found ms) (followed m at) e.closed);
      breadth = more-breadth p was now before found place one i.breadth i.meets here e.known_kept e.found_kept next fresh
          (subst (λ (ms : List Move). IsClosedSchedule p now found ms) (followed one here) e.closed);
      within = omega (arith, h, length-append was e.known_kept.0, ap (λ (ks : List KnownState). length ks) e.known_kept.1);
      budget = omega (arith, c.loop-place-test.true);
      told = (
        told.0 ++ row ∷ [],
        tells-more _ _ _ told.0 row told.1 c.tell.ensures,
        omega (arith, told.2, length-append told.0 (row ∷ [])),
        progress-grown p was now before found (told.0 ++ row ∷ []) e.known_kept e.found_kept (progress-push p was before told.0 place told.3 told.2 i.within few i.meets),
      );
    }

pub returns : goal.returns
returns g c =
    let p = c.args.program.now in
    let i = c.loop-place.invariant in
    let known = c.loop-place.search.known.list.items in
    let found = c.loop-place.search.found.items in
    let place = c.loop-place.place in
    let b = c.loop-place-test.false in
    let count : c.len-count.result ≡ length known = c.len-count.ensures ∙ c.loop-place.search.known.list.ok.0 in
    let spent : place ≡ c.args.states = omega (arith, b, i.budget) in (
      i.told.0,
      i.told.1,
      record {
        search = i.search;
        shortest = i.breadth.shortest;
        ordered = i.breadth.ordered;
        sorted = i.breadth.sorted;
        nearest = nearest-known p known found place i.breadth;
        followed = place;
        within = (i.budget, i.within);
        meets = i.meets;
        told = (i.told.2, i.told.3);
        whole = λ whole. let same = eqb-true c.len-count.result c.args.states whole in omega (arith, spent, same, count);
        stopped = λ f.
            let apart = eqb-false c.len-count.result c.args.states f in
            (omega (arith, spent, i.within, apart, count), inl spent);
      },
    )

-- an allocation failed

pub returns-in_err-moves : goal.returns-in_err-moves
returns-in_err-moves g c =
    let s = c.args.search.now in
    let p = err_from_is_err_and c.from_residual.result c.from_residual.ensures.1 in
    rw p.1 ([], tells-none _, (omega arith, (s, c.requires.search.search, no-progress c.args.program.now s.known.list.items s.found.items)))

pub returns-in_err-schedule : goal.returns-in_err-schedule
returns-in_err-schedule g c =
    let i = c.loop-place.invariant in
    let s = c.loop-place.search in
    let row : Progress = progress_of c.loop-place.place s in
    let few : length s.found.items ≤ OUTCOMES_MAX = subst (λ (xs : List Finding). length xs ≤ OUTCOMES_MAX) c.deref.ensures.value (c.has_too_many.ensures.few c.if-has_too_many.false) in
    let p = err_from_is_err_and c.from_residual-in_err-schedule.result c.from_residual-in_err-schedule.ensures.1 in
    rw p.1 (
      i.told.0 ++ row ∷ [],
      tells-more _ _ _ i.told.0 row i.told.1 c.tell.ensures,
      (
        omega (arith, i.told.2, length-append i.told.0 (row ∷ []), c.loop-place-test.true),
        (s, i.search, progress-push c.args.program.now s.known.list.items s.found.items i.told.0 c.loop-place.place i.told.3 i.told.2 i.within few i.meets),
      ),
    )

pub returns-in_err-visit : goal.returns-in_err-visit
returns-in_err-visit g c =
    let i = c.loop-place.invariant in
    let s = c.loop-place.search in
    let row : Progress = progress_of c.loop-place.place s in
    let few : length s.found.items ≤ OUTCOMES_MAX = subst (λ (xs : List Finding). length xs ≤ OUTCOMES_MAX) c.deref.ensures.value (c.has_too_many.ensures.few c.if-has_too_many.false) in
    let p = err_from_is_err_and c.from_residual-in_err-visit.result c.from_residual-in_err-visit.ensures.1 in
    rw p.1 (
      i.told.0 ++ row ∷ [],
      tells-more _ _ _ i.told.0 row i.told.1 c.tell.ensures,
      (
        omega (arith, i.told.2, length-append i.told.0 (row ∷ []), c.loop-place-test.true),
        (s, i.search, progress-push c.args.program.now s.known.list.items s.found.items i.told.0 c.loop-place.place i.told.3 i.told.2 i.within few i.meets),
      ),
    )

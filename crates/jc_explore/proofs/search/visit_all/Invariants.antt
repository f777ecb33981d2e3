use Rattle.jc_explore.proofs.Common.{◌≡◌, ◌≤◌, List, length, map, AreStateProgress, IsSearchOf, MeetsStates, OnStates, Progress, Tells}
use Rattle.jc_explore.proofs.Shortest.{IsBreadthFirst}
use Rattle.jc_explore.proofs.search.visit_all.Given as goal

abbrev pub invariant-loop-place : goal.invariant-loop-place
invariant-loop-place g l = record {
  search : IsSearchOf l.program l.search.known l.search.found.items;
  meets : MeetsStates l.program l.search.known.list.items l.search.found.items l.place;
  breadth : IsBreadthFirst l.program l.search.known.list.items l.search.found.items l.place;
  within : l.place ≤ length l.search.known.list.items;
  budget : l.place ≤ l.states;
  told : (rows : List Progress) × Tells (g.W.Watch.told l.fn.watch) (g.W.Watch.told l.watch) (map OnStates rows) × (length rows ≡ l.place)
      × AreStateProgress l.program l.search.known.list.items l.search.found.items rows;
}

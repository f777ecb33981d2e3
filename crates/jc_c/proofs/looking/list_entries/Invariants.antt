use Rattle.std.proofs.Common.{◌≡◌, true, map, take, drop, length}
use Rattle.std.specs.List.{list_all}
use Rattle.jc_c.specs.Layouts.{inline_entry}
use Rattle.jc_c.specs.Requests.{entry_fits}
use Rattle.jc_c.proofs.looking.list_entries.Given as goal

abbrev pub invariant-loop-place : goal.invariant-loop-place
invariant-loop-place l = record {
  written : map inline_entry (take l.place l.out) ≡ take l.place l.entries;
  fit : list_all entry_fits (take l.place l.out) ≡ true;
  stays : drop l.place l.out ≡ drop l.place l.fn.out;
  long : length l.out ≡ length l.fn.out;
}

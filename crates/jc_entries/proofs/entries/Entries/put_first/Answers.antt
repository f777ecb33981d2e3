use Rattle.std.proofs.Common.{◌∷◌, ap, sym, ◌∙◌, subst}
use Rattle.std.specs.FinMap as finite
use Rattle.std.proofs.lemmas.Result.{err_from_is_err_and}
use Rattle.jc_model.specs.Cache.{key_cmp}
use Rattle.jc_model.specs.Listed.{others}
use Rattle.jc_entries.specs.ByUse.{ByUse, IsValidByUse}
use Rattle.jc_entries.specs.Inserting.{has_room_for}
use Rattle.jc_entries.specs.EntriesInside.{by_use_of}
use Rattle.jc_entries.proofs.IsValidByUse.{IsValidByUse-first}
use Rattle.jc_entries.proofs.Lru.{missing, by_use-put}
use Rattle.jc_entries.proofs.entries.Entries.put_first.Goals as goal

pub invariant_of-self-2 : goal.invariant_of-self-2
invariant_of-self-2 c =
    let room = ap (has_room_for c.args.key.now) c.self.view_is ∙ c.requires.room in
    let after = by_use-put _ _ c.args.key.now c.args.value.now c.self.invariant room c.in_ok-put.ensures.entries in
    subst IsValidByUse (sym after) (IsValidByUse-first (by_use_of c.self.inside) c.args.key.now c.args.value.now c.self.invariant room)

pub returns-clause-ok : goal.returns-clause-ok
returns-clause-ok c =
    let room = ap (has_room_for c.args.key.now) c.self.view_is ∙ c.requires.room in
    by_use-put _ _ c.args.key.now c.args.value.now c.self.invariant room c.in_ok-put.ensures.entries
    ∙ ap (λ (s : ByUse). record s { list = (c.args.key.now, c.args.value.now) ∷ others c.args.key.now s.list }) c.self.view_is

pub returns-clause-valid : goal.returns-clause-valid
returns-clause-valid c = invariant_of-self-2 c

pub returns-in_err-put-clause-is_new : goal.returns-in_err-put-clause-is_new
returns-in_err-put-clause-is_new c =
    let none = missing c.args.key.now c.self.inside.cache.entries (λ s. let e = c.in_err-put.ensures.succeeds s in cc) in
    rw (err_from_is_err_and c.from_residual.result c.from_residual.ensures.1).1 (sym (ap (λ (s : ByUse). finite.find key_cmp c.args.key.now s.list) c.self.view_is) ∙ none)

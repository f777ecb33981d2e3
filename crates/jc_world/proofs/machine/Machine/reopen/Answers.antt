use Rattle.jc_world.proofs.Common.{List, map, sym, ap, ◌∙◌, subst, length, ◌≤◌, STRIPES_MAX, list_all, Bytes, Config, Played, State, Outcome, not_over, history_at, is_stored, is_as_told, WorldState, true, false}
use Rattle.jc_model.specs.Listed.{has_distinct_keys}
use Rattle.jc_stripe.specs.Reopening.{all_entries, opened_stripes, dropped}
use Rattle.jc_world.specs.Reopening.{foreign_reopened}
use Rattle.jc_world.proofs.Reopening.{no_calls, no_parts, no_joins, entries_once, reopened_history, few_reopened, passed_reopened, may_reopen}
use Rattle.jc_world.proofs.machine.Machine.reopen.Goals as goal

pub reopen-requires-clause-once : goal.reopen-requires-clause-once
reopen-requires-clause-once c =
    let old : WorldState = c.args.self.now in
    ap has_distinct_keys (c.deref.ensures.value ∙ c.in_ok-entries.ensures ∙ ap all_entries (c.items.ensures ∙ ap (λ (w : WorldState). w.stripes) c.self.view_is))
    ∙ entries_once old c.requires.sound

pub of-requires-clause-count : goal.of-requires-clause-count
of-requires-clause-count c =
    let old : WorldState = c.args.self.now in
    let config : Config = c.args.config.now in
    let entries = c.deref.ensures.value ∙ c.in_ok-entries.ensures ∙ ap all_entries (c.items.ensures ∙ ap (λ (w : WorldState). w.stripes) c.self.view_is) in
    let stripes = c.in_ok-stripes.ensures.stripes ∙ ap (λ es. opened_stripes config Played es 0 config.stripes) entries in
    subst (λ (ss : List State). length ss ≤ STRIPES_MAX) (sym stripes) (few_reopened config old (may_reopen old config c.requires.fits).1)

pub of-requires-clause-empty : goal.of-requires-clause-empty
of-requires-clause-empty c number =
    let old : WorldState = c.args.self.now in
    let config : Config = c.args.config.now in
    let entries = c.deref.ensures.value ∙ c.in_ok-entries.ensures ∙ ap all_entries (c.items.ensures ∙ ap (λ (w : WorldState). w.stripes) c.self.view_is) in
    let stripes = c.in_ok-stripes.ensures.stripes ∙ ap (λ es. opened_stripes config Played es 0 config.stripes) entries in
    ap (λ (ss : List State). history_at ss number) stripes ∙ reopened_history config old number

pub returns-clause-ok : goal.returns-clause-ok
returns-clause-ok c =
    let old : WorldState = c.args.self.now in
    let config : Config = c.args.config.now in
    let is = c.self.view_is in
    let entries = c.deref.ensures.value ∙ c.in_ok-entries.ensures ∙ ap all_entries (c.items.ensures ∙ ap (λ (w : WorldState). w.stripes) is) in
    let stripes = c.in_ok-stripes.ensures.stripes ∙ ap (λ es. opened_stripes config Played es 0 config.stripes) entries in
    let gone = c.deref-2.ensures.value ∙ c.in_ok-stripes.ensures.dropped ∙ ap (dropped config) entries in
    let keys = c.new.ensures ∙ c.in_ok-keys.ensures ∙ ap (map (λ (entry : Bytes × Bytes). entry.0)) gone in
    let opened = c.deref-4.ensures.value ∙ c.in_ok-opened.ensures ∙ ap all_entries (c.deref-3.ensures.value ∙ stripes) in
    let opening =
    c.are_as_told-opening.ensures ∙ (λ i. list_all (is_as_told (is i).foreign (is i).store) (opened i)) ∙ passed_reopened (is_as_told old.foreign old.store) config old
    in
    let also = c.deref-5.ensures.value ∙ c.in_ok-opened.ensures ∙ ap all_entries (c.deref-3.ensures.value ∙ stripes) in
    let stored =
    c.are_stored-stored.ensures ∙ (λ i. list_all (is_stored (is i).store) (also i)) ∙ passed_reopened (is_stored old.store) config old
    in
    let foreign = c.forget_all.ensures ∙ (λ i. foreign_reopened (is i).foreign (stored i)) in
    let idle = (may_reopen old config c.requires.fits).0 in
    let calls = ap (λ (w : WorldState). w.calls) is ∙ no_calls old idle in
    let parts = ap (λ (w : WorldState). w.parts) is ∙ no_parts old c.requires.sound idle in
    let joins = ap (λ (w : WorldState). w.joins) is ∙ no_joins old c.requires.sound idle in (
      c.show.ensures ∙ ap (λ ks. not_over (Outcome.Reopened ks)) keys,
      λ i. record {
        config = config;
        stripes = (c.of.ensures.stripes ∙ stripes) i;
        order = c.of.ensures.order i;
        store = (is i).store;
        foreign = foreign i;
        last = (is i).last;
        calls = calls i;
        parts = parts i;
        joins = joins i;
        premises = record { writers = true; loaders = true; opening = opening i };
        is_fresh = false;
      },
    )

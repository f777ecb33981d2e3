use Rattle.jc_world.proofs.Common.{◌≡◌, length, None, refl, ap, ◌∙◌, entries, list_all, IsCache, differing, found_after, WorldState, is_untold}
use Rattle.jc_world.proofs.Callers.{order_is}
use Rattle.jc_world.proofs.Kept.{coherent}
use Rattle.jc_world.proofs.Homes.{gathered, all_untold}
use Rattle.jc_world.proofs.machine.Machine.audit.Goals as goal

-- what is gathered is what the world caches
cache_is : (c : goal.After-drop-all-inside-2) → IsCache c.args.self.now c.in_ok-all.all
cache_is c key =
    c.in_ok-all.ensures key
    ∙ ap (λ ss. found_after None ss key) (c.items.ensures ∙ ap (λ (w : WorldState). w.stripes) c.self.view_is)
    ∙ gathered c.args.self.now key c.requires

-- the keys that are listed are those of the entries that differ
keys_are : (c : goal.After-drop-all-inside-2) → c.in_ok-differing.differing.items ≡ differing c.args.self.now c.in_ok-cache.cache.items
keys_are c = c.in_ok-differing.ensures ∙ ap (differing c.args.self.now) c.deref.ensures.value

pub returns-clause-audit : goal.returns-clause-audit
returns-clause-audit c = record {
  cache = c.in_ok-all.all;
  cache_is = cache_is c;
  entries_are = c.in_ok-cache.ensures;
  stored_are = c.in_ok-store.ensures ∙ ap (λ (w : WorldState). entries w.store) c.self.view_is;
  keys_are = keys_are c;
  events_are = c.events_len.ensures ∙ ap (λ (w : WorldState). length w.order) c.self.view_is;
  legal_is = (λ t. order_is c.args.self.now c.requires, λ o. refl);
}

pub returns-clause-coherent : goal.returns-clause-coherent
returns-clause-coherent c hold =
    let is = coherent c.args.self.now c.requires hold in
    (is, ap (list_all (is_untold c.args.self.now)) (keys_are c ∙ ap (differing c.args.self.now) c.in_ok-cache.ensures) ∙ all_untold c.args.self.now c.in_ok-all.all (cache_is c) is)

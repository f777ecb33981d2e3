use Rattle.std.proofs.Common.{◌∷◌, List, ap, sym, ◌∙◌}
use Rattle.jc_model.specs.Cache.{Bytes}
use Rattle.jc_model.specs.Listed.{others}
use Rattle.jc_entries.specs.ByUse.{ByUse}
use Rattle.jc_entries.specs.Inserting.{has_room_for}
use Rattle.jc_entries.proofs.CallerLemmas.{lru_victim-found}
use Rattle.jc_entries.proofs.IsValidByUse.{no_room-new, has_room_for-eviction, others-new}
use Rattle.jc_entries.proofs.entries.Entries.insert.Goals as goal

pub put_first-requires-2 : goal.put_first-requires-2
put_first-requires-2 c =
    let old = c.args.self.now in
    let found = lru_victim-found old.list c.args.pinned.now c.in-Some.victim (sym c.lru_victim.ensures ∙ c.in-Some.is) in
    record { room = ap (has_room_for c.args.key.now) c.remove.ensures.after ∙ has_room_for-eviction old c.args.key.now c.in-Some.victim c.has_room_for.ensures.valid found }

pub returns-in-Ok-put_first-clause-inserts : goal.returns-in-Ok-put_first-clause-inserts
returns-in-Ok-put_first-clause-inserts c =
    let old = c.args.self.now in
    let key = c.args.key.now in
    let full = sym c.has_room_for.ensures.room ∙ c.if-has_room_for.false in
    record {
      no_room = full;
      victim_is = sym c.lru_victim.ensures ∙ c.in-Some.is;
      after =
          c.in-Ok-put_first.ensures.ok
          ∙ ap (λ (s : ByUse). record s { list = (key, c.args.value.now) ∷ others key s.list }) c.remove.ensures.after
          ∙ ap (λ (es : List (Bytes × Bytes)). record old { list = (key, c.args.value.now) ∷ es }) (others-new key c.in-Some.victim old.list (no_room-new old key full));
    }

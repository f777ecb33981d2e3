-- What snapshots tell.
--     tell        equal snapshots are of one essence
--     stay        a snapshot stays one while the tables grow
--     only        over tables without repetitions there is one
use Rattle.jc_snapshot.proofs.Common.{◌≡◌, ℕ, List, [], ◌∷◌, Option, Some, None, sym, refl, ap, ◌∙◌, subst, same_entries_map, WorldState, WorldEssence, Seen, flat, AreRows, bit, last_row, OwnRows, HasOwnRows, rows_of, IsSnapshot, IsStripeRow, IsOpenCallRow, GrowsTo, AreTables}
use Rattle.std.specs.FinMap as map
use Rattle.jc_snapshot.specs.Laws.{SnapshotsTell, SnapshotsStay}
use Rattle.jc_snapshot.proofs.FlatRows.{flat_equal, rows_equal, things_of_rows, rows_stay}
use Rattle.jc_snapshot.proofs.TableNumbers.{number_stays, numbers_stay, numbers_equal}
use Rattle.jc_snapshot.proofs.StripeRows.{stripe_stays, call_stays, thing_equal, list_equal, bit_equal, stripe_told, call_told, stripe_row_is, call_row_is}

pub own_stays : (s t : Seen) (w : WorldState) (n : OwnRows) → GrowsTo s t → HasOwnRows s w n → HasOwnRows t w n
own_stays s t w n g h = record {
  config_is = number_stays _ _ _ _ g.configs h.config_is;
  premises_are = number_stays _ _ _ _ g.premises h.premises_are;
  store_is = numbers_stay _ _ _ _ g.entries h.store_is;
  parts_are = numbers_stay _ _ _ _ g.parts h.parts_are;
  joins_are = numbers_stay _ _ _ _ g.joins h.joins_are;
  foreign_are = numbers_stay _ _ _ _ g.entries h.foreign_are;
}

pub stay : SnapshotsStay
stay s t e words g h =
    let rows = h.1 in (
      h.0,
      record {
        own = own_stays s t e.rest h.0.own g rows.own;
        stripes_are = rows_stay (IsStripeRow s) (IsStripeRow t) (stripe_stays s t g) e.stripes h.0.stripes rows.stripes_are;
        calls_are = rows_stay (IsOpenCallRow s) (IsOpenCallRow t) (call_stays s t g) e.rest.calls h.0.calls rows.calls_are;
        rest_is = rows.rest_is;
      },
      h.2,
    )

last_equal : (a b : Option ℕ) → last_row a ≡ last_row b → a ≡ b
last_equal None None e = refl
last_equal None (Some b) e = cc
last_equal (Some a) None e = cc
last_equal (Some a) (Some b) e = let h : a ≡ b = cc in ap (λ n. Some n) h

pub tell : SnapshotsTell
tell s e f words h k =
    let n = h.0 in
    let m = k.0 in
    let rows : rows_of n e ≡ rows_of m f = flat_equal (rows_of n e) (rows_of m f) (sym h.2 ∙ k.2) in
    let config : n.own.config ≡ m.own.config = cc in
    let premises : n.own.premises ≡ m.own.premises = cc in
    let fresh : bit e.rest.is_fresh ≡ bit f.rest.is_fresh = cc in
    let last : last_row e.rest.last ≡ last_row f.rest.last = cc in
    let store : n.own.store ≡ m.own.store = cc in
    let parts : n.own.parts ≡ m.own.parts = cc in
    let joins : n.own.joins ≡ m.own.joins = cc in
    let foreign : n.own.foreign ≡ m.own.foreign = cc in
    let stripes : flat n.stripes ≡ flat m.stripes = cc in
    let calls : flat n.calls ≡ flat m.calls = cc in
    let a = h.1 in
    let b = k.1 in
    let c = thing_equal s.configs e.rest.config f.rest.config n.own.config m.own.config config a.own.config_is b.own.config_is in
    let p = thing_equal s.premises e.rest.premises f.rest.premises n.own.premises m.own.premises premises a.own.premises_are b.own.premises_are in
    let fr = bit_equal e.rest.is_fresh f.rest.is_fresh fresh in
    let la = last_equal e.rest.last f.rest.last last in
    let st = same_entries_map e.rest.store f.rest.store (list_equal s.entries (map.entries e.rest.store) (map.entries f.rest.store) n.own.store m.own.store store a.own.store_is b.own.store_is) in
    let pa = same_entries_map e.rest.parts f.rest.parts (list_equal s.parts (map.entries e.rest.parts) (map.entries f.rest.parts) n.own.parts m.own.parts parts a.own.parts_are b.own.parts_are) in
    let jo = same_entries_map e.rest.joins f.rest.joins (list_equal s.joins (map.entries e.rest.joins) (map.entries f.rest.joins) n.own.joins m.own.joins joins a.own.joins_are b.own.joins_are) in
    let fo = same_entries_map e.rest.foreign f.rest.foreign (list_equal s.entries (map.entries e.rest.foreign) (map.entries f.rest.foreign) n.own.foreign m.own.foreign foreign a.own.foreign_are b.own.foreign_are) in
    let ss = things_of_rows (IsStripeRow s) (stripe_told s) e.stripes f.stripes n.stripes a.stripes_are (subst (λ rs. AreRows (IsStripeRow s) f.stripes rs) (sym (flat_equal n.stripes m.stripes stripes)) b.stripes_are) in
    let cs = things_of_rows (IsOpenCallRow s) (call_told s) e.rest.calls f.rest.calls n.calls a.calls_are (subst (λ rs. AreRows (IsOpenCallRow s) f.rest.calls rs) (sym (flat_equal n.calls m.calls calls)) b.calls_are) in
    let rest : e.rest ≡ f.rest =
    a.rest_is
    ∙ (λ i. record {
      config = c i;
      stripes = [];
      order = [];
      store = st i;
      foreign = fo i;
      last = la i;
      calls = cs i;
      parts = pa i;
      joins = jo i;
      premises = p i;
      is_fresh = fr i;
    })
    ∙ sym b.rest_is
    in
    λ i. record { rest = rest i; stripes = ss i }

pub only : (s : Seen) → AreTables s → (e : WorldEssence) (words others : List ℕ) → IsSnapshot e s words → IsSnapshot e s others → words ≡ others
only s d e words others h k =
    let n = h.0 in
    let m = k.0 in
    let a = h.1 in
    let b = k.1 in
    let c = d.configs n.own.config m.own.config e.rest.config a.own.config_is b.own.config_is in
    let p = d.premises n.own.premises m.own.premises e.rest.premises a.own.premises_are b.own.premises_are in
    let st = numbers_equal s.entries (map.entries e.rest.store) n.own.store m.own.store d.entries a.own.store_is b.own.store_is in
    let pa = numbers_equal s.parts (map.entries e.rest.parts) n.own.parts m.own.parts d.parts a.own.parts_are b.own.parts_are in
    let jo = numbers_equal s.joins (map.entries e.rest.joins) n.own.joins m.own.joins d.joins a.own.joins_are b.own.joins_are in
    let fo = numbers_equal s.entries (map.entries e.rest.foreign) n.own.foreign m.own.foreign d.entries a.own.foreign_are b.own.foreign_are in
    let ss = rows_equal (IsStripeRow s) (stripe_row_is s d) e.stripes n.stripes m.stripes a.stripes_are b.stripes_are in
    let cs = rows_equal (IsOpenCallRow s) (call_row_is s d) e.rest.calls n.calls m.calls a.calls_are b.calls_are in
    h.2 ∙ (λ i. flat ((c i ∷ p i ∷ bit e.rest.is_fresh ∷ []) ∷ last_row e.rest.last ∷ st i ∷ pa i ∷ jo i ∷ fo i ∷ flat (ss i) ∷ flat (cs i) ∷ [])) ∙ sym k.2

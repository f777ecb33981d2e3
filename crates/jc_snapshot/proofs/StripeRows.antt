-- Rows of stripes and of calls.
--     grows_self, grows_twice   tables grow to themselves, and on
--     stripe_stays, call_stays  a row stays one while the tables grow
--     stripe_told, call_told    a row is of one stripe's essence, and of one call
--     stripe_row_is, call_row_is
--                               over tables without repetitions there is one row
use Rattle.jc_snapshot.proofs.Common.{◌≡◌, ℕ, List, [], ◌∷◌, Bool, true, false, Option, Some, None, slice_get, sym, refl, ap, ◌∙◌, subst, same_Some, StripeEssence, Seen, IsNumberOf, AreNumbers, flat, origin_word, bit, scalars_of, IsStripeRow, head_of, IsOpenCallRow, GrowsTo, AreTables}
use Rattle.std.specs.FinMap as map
use Rattle.jc_outside.specs.declared.done.Origin.{Origin}
use Rattle.jc_outside.specs.declared.done.Origin.TheVariants.{Live, Played}
use Rattle.jc_world.specs.Calls.{CallState, SweepState, op_found, looked_in}
use Rattle.jc_snapshot.specs.declared.heads.CallHead.{CallHead}
use Rattle.jc_snapshot.proofs.FlatRows.{flat_equal}
use Rattle.jc_snapshot.proofs.TableNumbers.{extends_self, extends_twice, number_stays, numbers_stay, things_equal, numbers_equal}

-- 1. Tables that grow.

pub grows_self : (s : Seen) → GrowsTo s s
grows_self s =
    record { configs = extends_self _; premises = extends_self _; entries = extends_self _; reservations = extends_self _; joiners = extends_self _; answers = extends_self _; marks = extends_self _; parts = extends_self _; joins = extends_self _; heads = extends_self _; tasks = extends_self _ }

pub grows_twice : (s t u : Seen) → GrowsTo s t → GrowsTo t u → GrowsTo s u
grows_twice s t u g h =
    record { configs = extends_twice _ _ _ g.configs h.configs; premises = extends_twice _ _ _ g.premises h.premises; entries = extends_twice _ _ _ g.entries h.entries; reservations = extends_twice _ _ _ g.reservations h.reservations; joiners = extends_twice _ _ _ g.joiners h.joiners; answers = extends_twice _ _ _ g.answers h.answers; marks = extends_twice _ _ _ g.marks h.marks; parts = extends_twice _ _ _ g.parts h.parts; joins = extends_twice _ _ _ g.joins h.joins; heads = extends_twice _ _ _ g.heads h.heads; tasks = extends_twice _ _ _ g.tasks h.tasks }

pub stripe_stays : (s t : Seen) → GrowsTo s t → (x : StripeEssence) (row : List ℕ) → IsStripeRow s x row → IsStripeRow t x row
stripe_stays s t g x row h = record {
  config = h.config;
  entries = h.entries;
  reservations = h.reservations;
  joiners = h.joiners;
  answers = h.answers;
  marks = h.marks;
  row_is = h.row_is;
  config_is = number_stays _ _ _ _ g.configs h.config_is;
  entries_are = numbers_stay _ _ _ _ g.entries h.entries_are;
  reservations_are = numbers_stay _ _ _ _ g.reservations h.reservations_are;
  joiners_are = numbers_stay _ _ _ _ g.joiners h.joiners_are;
  answers_are = numbers_stay _ _ _ _ g.answers h.answers_are;
  marks_are = numbers_stay _ _ _ _ g.marks h.marks_are;
  rest_is = h.rest_is;
}

pub call_stays : (s t : Seen) → GrowsTo s t → (u : CallState) (row : List ℕ) → IsOpenCallRow s u row → IsOpenCallRow t u row
call_stays s t g u row h = record {
  head = h.head;
  tasks = h.tasks;
  row_is = h.row_is;
  head_is = number_stays _ _ _ _ g.heads h.head_is;
  tasks_are = numbers_stay _ _ _ _ g.tasks h.tasks_are;
}

-- 2. What a row tells.

-- a number is of one thing
pub thing_equal : {A : Type 0} (t : List A) (x y : A) (n m : ℕ) → n ≡ m → IsNumberOf t x n → IsNumberOf t y m → x ≡ y
thing_equal t x y n m e is be = same_Some x y (sym is ∙ ap (slice_get t) e ∙ be)

-- numbers are of one list of things
pub list_equal : {A : Type 0} (t xs ys : List A) (ns ms : List ℕ) → ns ≡ ms → AreNumbers t xs ns → AreNumbers t ys ms → xs ≡ ys
list_equal t xs ys ns ms e are be = things_equal t xs ys ns are (subst (λ ls. AreNumbers t ys ls) (sym e) be)

pub bit_equal : (a b : Bool) → bit a ≡ bit b → a ≡ b
bit_equal true true e = refl
bit_equal true false e = cc
bit_equal false true e = cc
bit_equal false false e = refl

origin_equal : (a b : Origin) → origin_word a ≡ origin_word b → a ≡ b
origin_equal Live Live e = refl
origin_equal Live Played e = cc
origin_equal Played Live e = cc
origin_equal Played Played e = refl

pub stripe_told : (s : Seen) (x y : StripeEssence) (row : List ℕ) → IsStripeRow s x row → IsStripeRow s y row → x ≡ y
stripe_told s x y row h k =
    let ours : List (List ℕ) = h.entries ∷ h.reservations ∷ h.joiners ∷ h.answers ∷ scalars_of h.config x ∷ h.marks ∷ [] in
    let theirs : List (List ℕ) = k.entries ∷ k.reservations ∷ k.joiners ∷ k.answers ∷ scalars_of k.config y ∷ k.marks ∷ [] in
    let rows : ours ≡ theirs = flat_equal ours theirs (sym h.row_is ∙ k.row_is) in
    let entries : h.entries ≡ k.entries = cc in
    let reservations : h.reservations ≡ k.reservations = cc in
    let joiners : h.joiners ≡ k.joiners = cc in
    let answers : h.answers ≡ k.answers = cc in
    let marks : h.marks ≡ k.marks = cc in
    let config : h.config ≡ k.config = cc in
    let stripe : x.rest.stripe ≡ y.rest.stripe = cc in
    let origin : origin_word x.rest.origin ≡ origin_word y.rest.origin = cc in
    let lives : bit x.rest.lives ≡ bit y.rest.lives = cc in
    let shut : bit x.rest.shut ≡ bit y.rest.shut = cc in
    let events : x.events ≡ y.events = cc in
    let next : x.rest.next ≡ y.rest.next = cc in
    let c = thing_equal s.configs x.rest.config y.rest.config h.config k.config config h.config_is k.config_is in
    let o = origin_equal x.rest.origin y.rest.origin origin in
    let l = bit_equal x.rest.lives y.rest.lives lives in
    let sh = bit_equal x.rest.shut y.rest.shut shut in
    let es = list_equal s.entries x.entries y.entries h.entries k.entries entries h.entries_are k.entries_are in
    let rs = list_equal s.reservations x.rest.reservations y.rest.reservations h.reservations k.reservations reservations h.reservations_are k.reservations_are in
    let js = list_equal s.joiners x.rest.joiners y.rest.joiners h.joiners k.joiners joiners h.joiners_are k.joiners_are in
    let as_ = list_equal s.answers x.answers y.answers h.answers k.answers answers h.answers_are k.answers_are in
    let ms = list_equal s.marks x.rest.marked y.rest.marked h.marks k.marks marks h.marks_are k.marks_are in
    let rest : x.rest ≡ y.rest =
    h.rest_is
    ∙ (λ i. record {
      config = c i;
      stripe = stripe i;
      origin = o i;
      lives = l i;
      ended = [];
      opening = [];
      cache = map.from_entries (es i);
      reservations = rs i;
      joiners = js i;
      history = [];
      marked = ms i;
      shut = sh i;
      next = next i;
    })
    ∙ sym k.rest_is
    in
    λ i. record { rest = rest i; entries = es i; events = events i; answers = as_ i }

-- a sweep by what it does and where it has looked
sweep_equal : (a b : Option SweepState) → op_found a ≡ op_found b → looked_in a ≡ looked_in b → a ≡ b
sweep_equal None None op looked = refl
sweep_equal None (Some b) op looked = cc
sweep_equal (Some a) None op looked = cc
sweep_equal (Some a) (Some b) op looked = let o : a.op ≡ b.op = same_Some a.op b.op op in λ i. Some (record { op = o i; looked = looked i })

pub call_told : (s : Seen) (u v : CallState) (row : List ℕ) → IsOpenCallRow s u row → IsOpenCallRow s v row → u ≡ v
call_told s u v row h k =
    let ours : List (List ℕ) = (h.head ∷ []) ∷ h.tasks ∷ looked_in u.sweep ∷ [] in
    let theirs : List (List ℕ) = (k.head ∷ []) ∷ k.tasks ∷ looked_in v.sweep ∷ [] in
    let rows : ours ≡ theirs = flat_equal ours theirs (sym h.row_is ∙ k.row_is) in
    let head : h.head ≡ k.head = cc in
    let tasks : h.tasks ≡ k.tasks = cc in
    let looked : looked_in u.sweep ≡ looked_in v.sweep = cc in
    let heads = thing_equal s.heads (head_of u) (head_of v) h.head k.head head h.head_is k.head_is in
    let ts = list_equal s.tasks u.tasks v.tasks h.tasks k.tasks tasks h.tasks_are k.tasks_are in
    let sw = sweep_equal u.sweep v.sweep (ap (λ (c : CallHead). c.op_found) heads) looked in
    λ i. record { caller = (heads i).caller; kind = (heads i).kind; tasks = ts i; sweep = sw i; cause = (heads i).cause }

-- 3. One row.

pub stripe_row_is : (s : Seen) → AreTables s → (x : StripeEssence) (row other : List ℕ) → IsStripeRow s x row → IsStripeRow s x other → row ≡ other
stripe_row_is s d x row other h k =
    let c = d.configs h.config k.config x.rest.config h.config_is k.config_is in
    let es = numbers_equal s.entries x.entries h.entries k.entries d.entries h.entries_are k.entries_are in
    let rs = numbers_equal s.reservations x.rest.reservations h.reservations k.reservations d.reservations h.reservations_are k.reservations_are in
    let js = numbers_equal s.joiners x.rest.joiners h.joiners k.joiners d.joiners h.joiners_are k.joiners_are in
    let as_ = numbers_equal s.answers x.answers h.answers k.answers d.answers h.answers_are k.answers_are in
    let ms = numbers_equal s.marks x.rest.marked h.marks k.marks d.marks h.marks_are k.marks_are in
    h.row_is ∙ (λ i. flat (es i ∷ rs i ∷ js i ∷ as_ i ∷ scalars_of (c i) x ∷ ms i ∷ [])) ∙ sym k.row_is

pub call_row_is : (s : Seen) → AreTables s → (u : CallState) (row other : List ℕ) → IsOpenCallRow s u row → IsOpenCallRow s u other → row ≡ other
call_row_is s d u row other h k =
    let n = d.heads h.head k.head (head_of u) h.head_is k.head_is in
    let ts = numbers_equal s.tasks u.tasks h.tasks k.tasks d.tasks h.tasks_are k.tasks_are in
    h.row_is ∙ (λ i. flat ((n i ∷ []) ∷ ts i ∷ looked_in u.sweep ∷ [])) ∙ sym k.row_is

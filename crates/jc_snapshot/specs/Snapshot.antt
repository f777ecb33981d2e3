-- Snapshots: the essence of a world as numbers.
--     origin_word       a number for the origin of a stripe's outside answers
--     bit               a number for a flag
--     scalars_of        the parts of a stripe's essence that are no lists, by the number of its shape
--     IsStripeRow       a row is a stripe's essence, by the numbers of the tables
--     head_of           the parts of a call that are no lists
--     IsOpenCallRow     a row is a call, by the numbers of the tables
--     last_row          the highest number of a call so far, as a row
--     OwnRows           the numbers of the parts of a world beside its stripes and calls
--     own_rows          the rows of those parts
--     HasOwnRows        these numbers are a world's, by the tables
--     WorldRows         the numbers of a world, with the rows of its stripes and calls
--     rows_of           all rows of a world's essence
--     HasRows           these rows are a world's essence, by the numbers of the tables
--     IsSnapshot        a list of numbers is these rows, written one after another
--     GrowsTo           each table of another state extends that of the first
--     AreTables         nothing is twice in a table
use Rattle.std.specs.Prelude.{◌≡◌, ℕ, List, [], ◌∷◌, ◌++◌, Bool, true, false, Option, None, Some}
use Rattle.std.specs.FinMap as map
use Rattle.jc_outside.specs.declared.done.Origin.{Origin}
use Rattle.jc_outside.specs.declared.done.Origin.TheVariants.{Live, Played}
use Rattle.jc_world.specs.Calls.{CallState, op_found, looked_in}
use Rattle.jc_world.specs.World.{WorldState}
use Rattle.jc_world.specs.Essence.{StripeEssence, WorldEssence}
use Rattle.jc_snapshot.specs.declared.heads.CallHead.{CallHead}
use Rattle.jc_snapshot.specs.declared.seen.Seen.{Seen}
use Rattle.jc_snapshot.specs.Numbers.{IsNumberOf, AreNumbers, Continues, IsDistinctTable}
use Rattle.jc_snapshot.specs.Rows.{flat, AreRows}

-- 1. Stripes.

abbrev pub origin_word : Origin → ℕ
origin_word Live = 0
origin_word Played = 1

abbrev pub bit : Bool → ℕ
bit false = 0
bit true = 1

abbrev pub scalars_of : ℕ → StripeEssence → List ℕ
scalars_of config x =
    config ∷ x.rest.stripe ∷ origin_word x.rest.origin ∷ bit x.rest.lives ∷ bit x.rest.shut ∷ x.events ∷ x.rest.next ∷ []

-- no generation of it has ended, and its entries are the cached ones
pub record IsStripeRow (seen : Seen) (x : StripeEssence) (row : List ℕ) : Type 0 where
  pub config : ℕ
  pub entries : List ℕ
  pub reservations : List ℕ
  pub joiners : List ℕ
  pub answers : List ℕ
  pub marks : List ℕ
  pub row_is : row ≡ flat (entries ∷ reservations ∷ joiners ∷ answers ∷ scalars_of config x ∷ marks ∷ [])
  pub config_is : IsNumberOf seen.configs x.rest.config config
  pub entries_are : AreNumbers seen.entries x.entries entries
  pub reservations_are : AreNumbers seen.reservations x.rest.reservations reservations
  pub joiners_are : AreNumbers seen.joiners x.rest.joiners joiners
  pub answers_are : AreNumbers seen.answers x.answers answers
  pub marks_are : AreNumbers seen.marks x.rest.marked marks
  pub rest_is : x.rest ≡ record x.rest { ended = []; opening = []; cache = map.from_entries x.entries; history = [] }

-- 2. Calls.

abbrev pub head_of : CallState → CallHead
head_of u = record { caller = u.caller; kind = u.kind; op_found = op_found u.sweep; cause = u.cause }

pub record IsOpenCallRow (seen : Seen) (u : CallState) (row : List ℕ) : Type 0 where
  pub head : ℕ
  pub tasks : List ℕ
  pub row_is : row ≡ flat ((head ∷ []) ∷ tasks ∷ looked_in u.sweep ∷ [])
  pub head_is : IsNumberOf seen.heads (head_of u) head
  pub tasks_are : AreNumbers seen.tasks u.tasks tasks

-- 3. Worlds.

abbrev pub last_row : Option ℕ → List ℕ
last_row None = []
last_row (Some last) = last ∷ []

pub record OwnRows : Type 0 where
  pub config : ℕ
  pub premises : ℕ
  pub store : List ℕ
  pub parts : List ℕ
  pub joins : List ℕ
  pub foreign : List ℕ

abbrev pub own_rows : OwnRows → WorldState → List (List ℕ)
own_rows n w =
    (n.config ∷ n.premises ∷ bit w.is_fresh ∷ []) ∷ last_row w.last ∷ n.store ∷ n.parts ∷ n.joins ∷ n.foreign ∷ []

pub record HasOwnRows (seen : Seen) (w : WorldState) (n : OwnRows) : Type 0 where
  pub config_is : IsNumberOf seen.configs w.config n.config
  pub premises_are : IsNumberOf seen.premises w.premises n.premises
  pub store_is : AreNumbers seen.entries (map.entries w.store) n.store
  pub parts_are : AreNumbers seen.parts (map.entries w.parts) n.parts
  pub joins_are : AreNumbers seen.joins (map.entries w.joins) n.joins
  pub foreign_are : AreNumbers seen.entries (map.entries w.foreign) n.foreign

pub record WorldRows : Type 0 where
  pub own : OwnRows
  pub stripes : List (List ℕ)
  pub calls : List (List ℕ)

abbrev pub rows_of : WorldRows → WorldEssence → List (List ℕ)
rows_of n e = own_rows n.own e.rest ++ flat n.stripes ∷ flat n.calls ∷ []

pub record HasRows (seen : Seen) (e : WorldEssence) (n : WorldRows) : Type 0 where
  pub own : HasOwnRows seen e.rest n.own
  pub stripes_are : AreRows (IsStripeRow seen) e.stripes n.stripes
  pub calls_are : AreRows (IsOpenCallRow seen) e.rest.calls n.calls
  pub rest_is : e.rest ≡ record e.rest { stripes = []; order = [] }

abbrev pub IsSnapshot : WorldEssence → Seen → List ℕ → Type 0
IsSnapshot e seen words = (n : WorldRows) × HasRows seen e n × (words ≡ flat (rows_of n e))

-- 4. Tables.

pub record GrowsTo (old new : Seen) : Type 0 where
  pub configs : Continues old.configs new.configs
  pub premises : Continues old.premises new.premises
  pub entries : Continues old.entries new.entries
  pub reservations : Continues old.reservations new.reservations
  pub joiners : Continues old.joiners new.joiners
  pub answers : Continues old.answers new.answers
  pub marks : Continues old.marks new.marks
  pub parts : Continues old.parts new.parts
  pub joins : Continues old.joins new.joins
  pub heads : Continues old.heads new.heads
  pub tasks : Continues old.tasks new.tasks

pub record AreTables (seen : Seen) : Type 0 where
  pub configs : IsDistinctTable seen.configs
  pub premises : IsDistinctTable seen.premises
  pub entries : IsDistinctTable seen.entries
  pub reservations : IsDistinctTable seen.reservations
  pub joiners : IsDistinctTable seen.joiners
  pub answers : IsDistinctTable seen.answers
  pub marks : IsDistinctTable seen.marks
  pub parts : IsDistinctTable seen.parts
  pub joins : IsDistinctTable seen.joins
  pub heads : IsDistinctTable seen.heads
  pub tasks : IsDistinctTable seen.tasks

-- A look for a hit in vain is one more lending in which a get waited.
--     later_row     the row of a whole call after it
--     later_call    the whole call
use Rattle.jc_engine.proofs.Common.{◌≡◌, ◌∙◌, inr, ℕ, zero, suc, List, [], ◌∷◌, ◌++◌, Result, refl, sym, ap, subst, Caller, Refusal, Bytes, Get, Out, Reply, LoadRelation, WriteRelation, State, Begun, boxed, Agent, AsksWriter, change_wanted, HasMissed, IsLending, IsTurn, AreRejoins, IsBegunRow, IsCallRow, starting, state_found, IsCall}
use Rattle.jc_stripe.specs.Outcomes as begun

module _ (caller : Caller) (key : Bytes) (a b : State) (missed : HasMissed caller key a b) where
  abbrev pub later_turn : (begun : Begun) (row : List (State × State)) → IsTurn (starting caller key Get begun) row → IsTurn (starting caller key Get begun) ((a, b) ∷ row)
  later_turn begun row x =
      record { waits = (a, b) ∷ x.waits; found = x.found; left = x.left; row_is = ap (λ (ps : List (State × State)). (a, b) ∷ ps) x.row_is; waited = (inr (refl, missed), x.waited); made = x.made }

  pub later_rejoins : (n : ℕ) (row : List (State × State)) → AreRejoins caller key Get (suc n) row → AreRejoins caller key Get (suc n) ((a, b) ∷ row)
  later_rejoins zero row x =
      let last = x.4 in (
        [],
        (a, b) ∷ x.1,
        ap (λ (ps : List (State × State)). (a, b) ∷ ps) (x.2 ∙ ap (λ (ps : List (State × State)). ps ++ x.1) x.3),
        refl,
        record { join = last.join; joins = (a, b) ∷ last.joins; retries = last.retries; row_is = ap (λ (ps : List (State × State)). (a, b) ∷ ps) last.row_is; joined = later_turn (begun.Joined last.join) last.joins last.joined; retried = last.retried },
      )
  later_rejoins (suc n) row x = ((a, b) ∷ x.0, x.1, ap (λ (ps : List (State × State)). (a, b) ∷ ps) x.2, later_rejoins n x.0 x.3, x.4)

  pub later_begun : (begun : Begun) (row : List (State × State)) (n : ℕ) (rejoins first : List (State × State)) → row ≡ rejoins ++ first → AreRejoins caller key Get n rejoins → (x : IsTurn (starting caller key Get begun) first)
      → (y : IsBegunRow caller key Get begun ((a, b) ∷ row)) × (y.starts.found ≡ x.found)
  later_begun begun row zero rejoins first is rejoined x = (
    record {
      rounds = zero;
      rejoins = [];
      first = (a, b) ∷ first;
      row_is = ap (λ (ps : List (State × State)). (a, b) ∷ ps) (is ∙ ap (λ (ps : List (State × State)). ps ++ first) rejoined);
      rejoined = refl;
      starts = later_turn begun first x;
    },
    refl,
  )
  later_begun begun row (suc n) rejoins first is rejoined x = (
    record { rounds = suc n; rejoins = (a, b) ∷ rejoins; first = first; row_is = ap (λ (ps : List (State × State)). (a, b) ∷ ps) is; rejoined = later_rejoins n rejoins rejoined; starts = x },
    refl,
  )

  pub later_row : (asked : Out) (ended : Result Reply Refusal) (row : List (State × State)) → (x : IsCallRow caller key Get asked ended row) → (y : IsCallRow caller key Get asked ended ((a, b) ∷ row)) × (state_found y ≡ state_found x)
  later_row asked ended row x =
      let begins = x.begins in
      let later = later_begun x.begun x.start begins.rounds begins.rejoins begins.first begins.row_is begins.rejoined begins.starts in
      (record { begun = x.begun; start = (a, b) ∷ x.start; last = x.last; row_is = ap (λ (ps : List (State × State)). (a, b) ∷ ps) x.row_is; begins = later.0; ends = x.ends }, later.1)

module _ {I J G T : Type 0} {D : I → Type 0} {E : J → Type 0}
    (loads : LoadRelation ((i : I) × D i)) (load_state : (i : I) × D i → List ℕ)
    (writes : WriteRelation ((j : J) × E j)) (write_state : (j : J) × E j → List ℕ)
    (takes gives : G → T → State → G → T → Type 0) (finds : G → T → State → Type 0) where
  abbrev pub later_call : (old mid new : Agent I J D E) (key : Bytes) (g : G) (t : T) (a b : State) (h : G) (u : T) (ended : Result Reply Refusal) (k : G) (v : T)
      → mid ≡ old → HasMissed old.caller key a b → IsLending takes gives finds old.caller.session g t a b h u
      → IsCall loads load_state writes write_state takes gives finds mid key Get h u ended new k v
      → IsCall loads load_state writes write_state takes gives finds old key Get g t ended new k v
  later_call old mid new key g t a b h u ended k v is missed lending call =
      let x : IsCall loads load_state writes write_state takes gives finds old key Get h u ended new k v =
      subst (λ (z : Agent I J D E). IsCall loads load_state writes write_state takes gives finds z key Get h u ended new k v) is call in
      let later = later_row old.caller key a b missed x.asked ended x.row x.did in
      record {
        row = (a, b) ∷ x.row;
        lent = (h, u, lending, x.lent);
        asked = x.asked;
        did = later.0;
        loader = x.loader;
        writer = subst (λ (s : State). AsksWriter (boxed writes) (boxed write_state) old.hands.outside.writer key (change_wanted s key Get x.asked.process) x.asked.write new.hands.outside.writer) (sym later.1) x.writer;
        types = x.types;
        held = x.held;
        agent = x.agent;
      }

-- A whole call, from the rows of its phases.
--     unasked_call    one that asks nobody
--     asked_ends      a call that was asked and committed, from where it had somebody to ask
--     asked_call      one that reserves its key, asks, and commits
use Rattle.jc_engine.proofs.Common.{◌≡◌, ◌∙◌, ◌++◌, ℕ, List, Result, Ok, Some, option_map, refl, ap, subst, Refusal, Bytes, nothing_said, Op, Out, Reply, LoadRelation, WriteRelation, State, TicketClaim, Asks, StepDone, Reservation, boxed, counts_ended, Agent, CallAnswer, out_of, AsksLoader, AsksWriter, KeepsTypes, change_wanted, own_after, counts_entered, LentPhase, Row, IsBegunRow, IsCallRow, committing, AsksAndEnds, IsCall}
use Rattle.jc_engine.proofs.AgentAfter.{after_first, after_both}
use Rattle.jc_engine.proofs.Asked.{of_caller}
use Rattle.jc_engine.proofs.Asking.{IsAsked, loader_for, writer_for}
use Rattle.jc_engine.proofs.Rows.{row_append}

module _ {G T : Type 0} (takes gives : G → T → State → G → T → Type 0) (finds : G → T → State → Type 0) where
  -- a commit, under other names of its reservation and of its session
  pub ends_by : (n session : ℕ) (its r : Reservation) (out : Out) (done : StepDone) (g : G) (t : T) (h : G) (u : T) → n ≡ session → r ≡ its
      → LentPhase takes gives finds n g t (committing r out done) h u → LentPhase takes gives finds session g t (committing its out done) h u
  ends_by n session its r out done g t h u who is x =
      subst (λ (z : ℕ × Reservation). LentPhase takes gives finds z.0 g t (committing z.1 out done) h u) (λ i. (who i, is i)) x

module _ {I J G T : Type 0} {D : I → Type 0} {E : J → Type 0}
    (loads : LoadRelation ((i : I) × D i)) (load_state : (i : I) × D i → List ℕ)
    (writes : WriteRelation ((j : J) × E j)) (write_state : (j : J) × E j → List ℕ)
    (takes gives : G → T → State → G → T → Type 0) (finds : G → T → State → Type 0) where
  abbrev pub unasked_call : (old new : Agent I J D E) (key : Bytes) (op : Op) (g : G) (t : T) (row : List (State × State)) (ended : Result Reply Refusal) (h : G) (u : T)
      → Row takes gives finds old.caller.session g t row h u → IsCallRow old.caller key op nothing_said ended row
      → new ≡ record old { counts = record old.counts { own = own_after old.counts.own ended } } → old.hands.held ≡ 0
      → IsCall loads load_state writes write_state takes gives finds old key op g t ended new h u
  unasked_call old new key op g t row ended h u lent did first held = record {
    row = row;
    lent = lent;
    asked = nothing_said;
    did = did;
    loader = ap (λ s. s.hands.outside.loader) first;
    writer = ap (λ s. s.hands.outside.writer) first;
    types = (ap (λ s. option_map (λ b. b.vtable) s.hands.outside.loader) first, ap (λ s. option_map (λ b. b.vtable) s.hands.outside.writer) first);
    held = ap (λ s. s.hands.held) first ∙ held;
    agent = after_first old new _ first;
  }

  abbrev pub asked_ends : (old asked new : Agent I J D E) (ticket given : TicketClaim) (answer : CallAnswer) (done : StepDone) (g : G) (t : T) (h : G) (u : T)
      → IsAsked loads load_state writes write_state old ticket answer asked given
      → new ≡ record asked { counts = counts_ended asked.counts } → LentPhase takes gives finds asked.caller.session g t (committing given.reservation (out_of answer) done) h u
      → AsksAndEnds loads load_state writes write_state takes gives finds ticket.reservation old g t done.reply new h u
  asked_ends old asked new ticket given answer done g t h u d last x = record {
    asked = asked;
    out = out_of answer;
    done = done;
    replies = refl;
    loader = d.loader;
    writer = d.writer;
    process = d.process;
    types = d.types;
    held = d.held;
    rest = d.rest;
    last = last;
    phase = ends_by takes gives finds asked.caller.session old.caller.session ticket.reservation given.reservation (out_of answer) done g t h u (ap (λ (s : Agent I J D E). s.caller.session) d.rest) d.reservation x;
  }

  abbrev pub asked_call : (n : ℕ) (old mid asked new : Agent I J D E) (key : Bytes) (op : Op) (g : G) (t : T) (ticket : TicketClaim) (row : List (State × State)) (h : G) (u : T) (r : Reservation) (out : Out) (done : StepDone) (k : G) (v : T)
      → Row takes gives finds old.caller.session g t row h u → (x : IsBegunRow old.caller key op (Asks ticket) row)
      → LentPhase takes gives finds n h u (committing r out done) k v → n ≡ old.caller.session → r ≡ ticket.reservation
      → old.counts.reservations ≡ 0 → mid ≡ record old { counts = counts_entered old.counts (Ok (Some ticket)) } → asked ≡ record mid { hands = asked.hands } → asked.hands.held ≡ 0
      → new ≡ record asked { counts = counts_ended asked.counts }
      → AsksLoader (boxed loads) (boxed load_state) mid.hands.outside.loader ticket.reservation.key out.load asked.hands.outside.loader
      → AsksWriter (boxed writes) (boxed write_state) mid.hands.outside.writer ticket.reservation.key (change_wanted x.starts.found key op out.process) out.write asked.hands.outside.writer
      → KeepsTypes mid asked
      → IsCall loads load_state writes write_state takes gives finds old key op g t (Ok done.reply) new k v
  asked_call n old mid asked new key op g t ticket row h u r out done k v lent x y who its none first rest held last loader writer types =
      let its_own = of_caller old.caller key op ticket row x in
      let end = ends_by takes gives finds n old.caller.session ticket.reservation r out done h u k v who its y in
      record {
        row = row ++ end.row;
        lent = row_append takes gives finds old.caller.session g t row h u end.row k v lent end.lent;
        asked = out;
        did = record { begun = Asks ticket; start = row; last = end.row; row_is = refl; begins = x; ends = (done, refl, end.did) };
        loader = loader_for (boxed loads) (boxed load_state) _ _ _ _ _ _ _ (ap (λ s. s.hands.outside.loader) first) its_own.1 loader (ap (λ s. s.hands.outside.loader) last);
        writer = writer_for (boxed writes) (boxed write_state) _ _ _ _ _ _ _ _ (ap (λ s. s.hands.outside.writer) first) its_own.1 writer (ap (λ s. s.hands.outside.writer) last);
        types = (
          ap (λ s. option_map (λ b. b.vtable) s.hands.outside.loader) last ∙ types.0 ∙ ap (λ s. option_map (λ b. b.vtable) s.hands.outside.loader) first,
          ap (λ s. option_map (λ b. b.vtable) s.hands.outside.writer) last ∙ types.1 ∙ ap (λ s. option_map (λ b. b.vtable) s.hands.outside.writer) first,
        );
        held = ap (λ s. s.hands.held) last ∙ held;
        agent = after_both old mid asked new none first rest last;
      }

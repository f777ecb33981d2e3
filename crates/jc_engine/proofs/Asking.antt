-- What a call says of the loader and the writer, by what its step says.
--     loader_for, writer_for    the same of an equal one before and after, for an equal key
--     IsAsked                   a ticket's loader or writer, whichever its reservation asks first, was asked once, and answered this; all
--                               else of the agent stays
--     loader_asked, writer_asked
--                               so it is after the agent has asked
use Rattle.jc_engine.proofs.Common.{◌≡◌, ◌∙◌, ℕ, List, true, MatchBool, Option, option_map, refl, sym, subst, ap, Bytes, Change, LoadAnswer, NotAsked, LoadRelation, LoadsOnce, WriteRelation, WritesOnce, Claim, TicketClaim, asks_loader, asks_writer, change_asked, claim_of, boxed, Agent, CallAnswer, IsAnswered, Loaded, Written, out_of, AsksLoader, AsksWriter, KeepsTypes}
use Rattle.jc_model.specs.declared.event.WriteAnswer.{WriteAnswer}
use Rattle.jc_outside.specs.Done.{LoadResult, WriteResult}
use Rattle.jc_session.specs.Asked.{LoaderAsked, WriterAsked}

module _ {L : Type 0} (loads : LoadRelation L) (state : L → List ℕ) where
  pub loader_for : (old start now new : Option L) (key asked : Bytes) (answer : LoadAnswer)
      → start ≡ old → asked ≡ key → AsksLoader loads state start asked answer now → new ≡ now → AsksLoader loads state old key answer new
  loader_for old start now new key asked answer same_start same_key once same =
      subst (λ (x : Option L × Bytes × Option L). AsksLoader loads state x.0 x.1 answer x.2) (λ i. (same_start i, same_key i, sym same i)) once

module _ {W : Type 0} (writes : WriteRelation W) (state : W → List ℕ) where
  pub writer_for : (old start now new : Option W) (key asked : Bytes) (change : Option Change) (answer : WriteAnswer)
      → start ≡ old → asked ≡ key → AsksWriter writes state start asked change answer now → new ≡ now → AsksWriter writes state old key change answer new
  writer_for old start now new key asked change answer same_start same_key once same =
      subst (λ (x : Option W × Bytes × Option W). AsksWriter writes state x.0 x.1 change answer x.2) (λ i. (same_start i, same_key i, sym same i)) once

pub record IsAsked
    {I J : Type 0} {D : I → Type 0} {E : J → Type 0}
    (loads : LoadRelation ((i : I) × D i)) (load_state : (i : I) × D i → List ℕ)
    (writes : WriteRelation ((j : J) × E j)) (write_state : (j : J) × E j → List ℕ)
    (old : Agent I J D E) (ticket : TicketClaim) (answer : CallAnswer) (new : Agent I J D E) (ticket' : TicketClaim) : Type 0 where
  pub reservation : ticket'.reservation ≡ ticket.reservation
  pub answered : IsAnswered ticket' answer
  pub loader : AsksLoader (boxed loads) (boxed load_state) old.hands.outside.loader ticket.reservation.key (out_of answer).load new.hands.outside.loader
  pub writer : (wanted : Option Change) → (asks_writer ticket.reservation.first ≡ true → wanted ≡ change_asked ticket.reservation.first)
      → AsksWriter (boxed writes) (boxed write_state) old.hands.outside.writer ticket.reservation.key wanted (out_of answer).write new.hands.outside.writer
  pub process : (out_of answer).process ≡ NotAsked
  pub types : KeepsTypes old new
  pub held : new.hands.held ≡ 0
  pub rest : new ≡ record old { hands = new.hands }

module _ {I J : Type 0} {D : I → Type 0} {E : J → Type 0}
    (loads : LoadRelation ((i : I) × D i)) (load_state : (i : I) × D i → List ℕ)
    (writes : WriteRelation ((j : J) × E j)) (write_state : (j : J) × E j → List ℕ) where
  pub loader_asked : (old new : Agent I J D E) (ticket after : TicketClaim) (asked : Claim) (done : LoadResult Claim)
      → asks_loader ticket.reservation.first ≡ true → asked ≡ claim_of ticket.reservation → after ≡ record ticket { asked = true }
      → LoaderAsked loads load_state old asked done new → IsAsked loads load_state writes write_state old ticket (Loaded done) new after
  loader_asked old new ticket after asked done first is spent d = record {
    reservation = ap (λ (t : TicketClaim). t.reservation) spent;
    answered = subst (λ (t : TicketClaim). IsAnswered t (Loaded done)) (sym spent) (first, d.ask ∙ is, d.origin);
    loader = subst (λ b. MatchBool b (LoadsOnce (boxed loads) (boxed load_state) old.hands.outside.loader ticket.reservation.key done.answer new.hands.outside.loader) (new.hands.outside.loader ≡ old.hands.outside.loader)) (sym d.given)
        (subst (λ (a : Claim). LoadsOnce (boxed loads) (boxed load_state) old.hands.outside.loader a.key done.answer new.hands.outside.loader) is d.loader);
    writer = λ wanted same. d.writer;
    process = refl;
    types = (d.loader_type, ap (λ w. option_map (λ b. b.vtable) w) d.writer);
    held = d.held;
    rest = d.rest;
  }

  pub writer_asked : (old new : Agent I J D E) (ticket after : TicketClaim) (asked : Claim) (done : WriteResult Claim)
      → asks_writer ticket.reservation.first ≡ true → asked ≡ claim_of ticket.reservation → after ≡ record ticket { asked = true }
      → WriterAsked writes write_state old asked done new → IsAsked loads load_state writes write_state old ticket (Written done) new after
  writer_asked old new ticket after asked done first is spent d = record {
    reservation = ap (λ (t : TicketClaim). t.reservation) spent;
    answered = subst (λ (t : TicketClaim). IsAnswered t (Written done)) (sym spent) (first, d.ask ∙ is, d.origin);
    loader = d.loader;
    writer = λ wanted same. subst (λ b. MatchBool b (WritesOnce (boxed writes) (boxed write_state) old.hands.outside.writer ticket.reservation.key wanted done.answer new.hands.outside.writer) (new.hands.outside.writer ≡ old.hands.outside.writer)) (sym d.given)
        (subst (λ (c : Option Change). WritesOnce (boxed writes) (boxed write_state) old.hands.outside.writer ticket.reservation.key c done.answer new.hands.outside.writer) (sym (same first))
        (subst (λ (a : Claim). WritesOnce (boxed writes) (boxed write_state) old.hands.outside.writer a.key (change_asked a.asked) done.answer new.hands.outside.writer) is d.writer));
    process = refl;
    types = (ap (λ l. option_map (λ b. b.vtable) l) d.loader, d.writer_type);
    held = d.held;
    rest = d.rest;
  }

-- The rounds of a call, from their phases, and one after the other.
--     no_more, more_rounds   no round more, and these and then those
--     quiet_run              a round that has reserved no key
--     has_reserved           one that has
--     holds_none             between two calls a session holds no stripe
--     told_call, told_run    one that was answered
--     ran_none               before the first round
--     ran_quiet, ran_more    after rounds more
--     ran_refused            each key that waits is refused
use Rattle.jc_rounds.proofs.Common.{◌≡◌, ◌++◌, append-nil, append_assoc, List, [], ◌∷◌, map, length, slice_get, Option, Some, refl, sym, ap, ◌∙◌, subst, arith, option_or, Caller, Refusal, Agent, CacheState, HoldsNothing, IsOf, Session, RoundAnswers, BulkCall, AreAnswers, reserved_keys, IsNoted, KeepsCause, failures, refused_if_waiting, Round, keys_asked, round_fault, EachTakesMemory, HasRun, with_rounds, KeysAdvance, ops_of, Advances, CallPast, HasStarted, IsAnswered, IsBetween, reserved_by, with_round}
use Rattle.jc_rounds.specs.AskingRounds.{HasReserved, IsRoundTold, RunsRounds}
use Rattle.jc_rounds.proofs.Asked.{among_there}
use Rattle.jc_rounds.proofs.Failures.{keeps_both, keeps_noted, keeps_or}
use Rattle.jc_rounds.proofs.OnCall.{advances_both}
use Rattle.jc_rounds.proofs.Started.{run_more, some_more}
use Rattle.jc_rounds.proofs.Whole.{asked_call, refused_call, refused_round, round_of}

pub no_more : (past : CallPast) → with_rounds past [] ≡ past
no_more past = λ i. record past { rounds = append-nil past.rounds i }

pub more_rounds : (past : CallPast) (rs more : List Round) → with_rounds (with_rounds past rs) more ≡ with_rounds past (rs ++ more)
more_rounds past rs more = λ i. record past { rounds = append_assoc past.rounds rs more i }

last_there : {A : Type 0} (xs : List A) (x : A) → slice_get (xs ++ x ∷ []) (length xs) ≡ Some x
last_there [] x = refl
last_there (y ∷ xs) x = last_there xs x

some_last : {A : Type 0} (xs : List A) (x : A) → xs ++ x ∷ [] ≡ [] → ⊥
some_last [] x is = cc
some_last (y ∷ xs) x is = cc

module _ {I J : Type 0} {D : I → Type 0} {E : J → Type 0} (cache : CacheState) (past : CallPast) where
  -- 1. One round.

  pub quiet_run : (old mid new : Session I J D E) (call begun later : BulkCall) → HasRun cache past old call → HasStarted cache past old mid begun → Advances old mid call begun → begun.tickets.items ≡ []
      → IsBetween cache past new later → Advances mid new begun later → HasRun cache past new later
  quiet_run old mid new call begun later run started one none between two =
      subst (λ p. HasRun cache p new later) (no_more past)
      (run_more cache past old new call later [] (two.targets ∙ one.targets)
      (round_of cache past old mid new call begun later [] run.between started one.targets one.goes two.goes (omega arith) (sym (ap (λ ts. reserved_keys (map reserved_by ts)) none)))
      (keeps_both call.cause begun.cause later.cause one.cause two.cause) (subst (λ p. IsBetween cache p new later) (sym (no_more past)) between) run)

  pub holds_none : (session : Session I J D E) → IsOf cache session → HoldsNothing session
  holds_none session own = record { held = own.held; seats = λ i seat there. (own.seats i seat there).free }

  pub has_reserved : (old mid : Session I J D E) (call begun : BulkCall) → HasRun cache past old call → HasStarted cache past old mid begun → Advances old mid call begun → (begun.tickets.items ≡ [] → ⊥) → HasReserved cache past mid begun
  has_reserved old mid call begun run started one some = record { old = old; before = call; run = run; started = started; advances = one; some = some }

  module _ (round : Round) (session : Session I J D E) (call noted : BulkCall) (answers : RoundAnswers) (fault : Option Refusal) (told : IsRoundTold cache past round session call answers fault) (note : noted ≡ record call { cause = option_or call.cause fault }) where
    noted_is : noted ≡ record told.reserving { tickets = call.tickets; cause = option_or told.reserving.cause (round_fault round) }
    noted_is = note ∙ ap (λ (x : BulkCall). record x { cause = option_or x.cause fault }) told.call_is
        ∙ ap (λ (f : Option Refusal). record told.reserving { tickets = call.tickets; cause = option_or told.reserving.cause f }) told.fault_is

    pub told_call : IsAnswered cache (with_round past round) round session noted answers
    told_call = record {
      on = asked_call cache past told.reserved.old told.asking session told.reserving noted call.tickets round told.reserved.started noted_is told.kept.reservations told.kept.room told.reserved.some told.keys told.asks told.own told.rest;
      among = among_there (past.rounds ++ round ∷ []) (length past.rounds) round (last_there past.rounds round);
      answered = subst (AreAnswers cache.config round answers) (sym (ap (λ (x : BulkCall). map reserved_by x.tickets.items) noted_is ∙ told.kept.reservations)) told.answered;
    }

    pub told_advances : (late new : Session I J D E) (committed later : BulkCall) → Advances session late noted committed → Advances late new committed later → Advances session new call later
    told_advances late new committed later two three =
        let all = advances_both session late new noted committed later two three in
        let is = sym note in
        record {
          goes = subst (λ (x : BulkCall). KeysAdvance session.seats.items new.seats.items x.progress.items later.progress.items) note all.goes;
          agent = all.agent;
          targets = all.targets ∙ ap (λ (x : BulkCall). x.targets) note;
          most = all.most ∙ ap (λ (x : BulkCall). x.most) note;
          cause = keeps_both call.cause noted.cause later.cause (subst (λ (x : BulkCall). KeepsCause call.cause x.cause) is (keeps_or call.cause fault)) all.cause;
        }

    pub told_run : (late new : Session I J D E) (committed later : BulkCall) → Advances session late noted committed → Advances late new committed later → IsBetween cache (with_round past round) new later → HasRun cache (with_round past round) new later
    unfolding told_advances
    told_run late new committed later two three between =
        let r = told.reserved in
        let on = told_advances late new committed later two three in
        let goes : KeysAdvance told.asking.seats.items new.seats.items told.reserving.progress.items later.progress.items =
        subst (λ (s : Session I J D E). KeysAdvance s.seats.items new.seats.items told.reserving.progress.items later.progress.items) told.rest
        (subst (λ (x : BulkCall). KeysAdvance session.seats.items new.seats.items x.progress.items later.progress.items) told.call_is on.goes) in
        let targets : later.targets ≡ told.reserving.targets = on.targets ∙ ap (λ (x : BulkCall). x.targets) told.call_is in
        let keeps : KeepsCause told.reserving.cause later.cause = subst (λ (x : BulkCall). KeepsCause x.cause later.cause) told.call_is on.cause in
        run_more cache past r.old new r.before later (round ∷ []) (targets ∙ r.advances.targets)
        (round_of cache past r.old told.asking new r.before told.reserving later (round ∷ []) r.run.between r.started r.advances.targets r.advances.goes goes (omega arith) (append-nil (keys_asked round) ∙ told.keys))
        (keeps_both r.before.cause told.reserving.cause later.cause r.advances.cause keeps) between r.run

-- 2. Rounds after rounds.

module _ {I J : Type 0} {D : I → Type 0} {E : J → Type 0} (Asked : List Round → Type 0) (cache : CacheState) (past : CallPast) (old : Session I J D E) (call : BulkCall) where
  same_agent : (new : Session I J D E) → new.agent.caller ≡ old.agent.caller → new.agent ≡ record old.agent { counts = new.agent.counts; hands = new.agent.hands }
  same_agent new is = ap (λ (c : Caller). record new.agent { caller = c }) is

  pub ran_none : Asked [] → HasRun cache past old call → RunsRounds Asked cache past old call old call
  ran_none none run = record { rounds = []; asked = none; run = subst (λ p. HasRun cache p old call) (sym (no_more past)) run; agent = refl; targets = refl; most = refl }

  -- rounds that have asked nobody
  pub ran_quiet : (Before : List Round → Type 0) (mid new : Session I J D E) (between later : BulkCall) (one : RunsRounds Before cache past old call mid between) → Asked one.rounds → HasRun cache (with_rounds past one.rounds) new later → Advances mid new between later
      → RunsRounds Asked cache past old call new later
  ran_quiet Before mid new between later one asked run on = record {
    rounds = one.rounds;
    asked = asked;
    run = run;
    agent = same_agent new (ap (λ (a : Agent I J D E). a.caller) on.agent ∙ ap (λ (a : Agent I J D E). a.caller) one.agent);
    targets = on.targets ∙ one.targets;
    most = on.most ∙ one.most;
  }

  -- rounds of which the last one has asked
  pub ran_more : (Before : List Round → Type 0) (mid asking told new : Session I J D E) (between reserving filled later : BulkCall) (one : RunsRounds Before cache past old call mid between) (round : Round) → Asked (one.rounds ++ round ∷ []) → HasRun cache (with_round (with_rounds past one.rounds) round) new later
      → Advances mid asking between reserving → told ≡ record asking { agent = record asking.agent { hands = told.agent.hands } } → filled ≡ record reserving { tickets = filled.tickets } → Advances told new filled later
      → (ran : RunsRounds Asked cache past old call new later) × (ran.rounds ≡ [] → ⊥)
  ran_more Before mid asking told new between reserving filled later one round asked run start rest is end = (
    record {
      rounds = one.rounds ++ round ∷ [];
      asked = asked;
      run = subst (λ p. HasRun cache p new later) (more_rounds past one.rounds (round ∷ [])) run;
      agent = same_agent new (ap (λ (a : Agent I J D E). a.caller) end.agent ∙ ap (λ (s : Session I J D E). s.agent.caller) rest ∙ ap (λ (a : Agent I J D E). a.caller) start.agent ∙ ap (λ (a : Agent I J D E). a.caller) one.agent);
      targets = end.targets ∙ ap (λ (x : BulkCall). x.targets) is ∙ start.targets ∙ one.targets;
      most = end.most ∙ ap (λ (x : BulkCall). x.most) is ∙ start.most ∙ one.most;
    },
    some_last one.rounds round,
  )

  -- the memory for one more round could not be taken
  pub ran_refused : (mid : Session I J D E) (between later : BulkCall) (one : RunsRounds Asked cache past old call mid between) → later ≡ record between { progress = later.progress; cause = later.cause } → later.progress.items ≡ map refused_if_waiting between.progress.items
      → IsNoted between.cause (failures later.progress.items) later.cause → (one.rounds ≡ [] → ⊥) → EachTakesMemory cache.config (ops_of between.targets.now) → RunsRounds Asked cache past old call mid later
  ran_refused mid between later one rest is noted some takes =
      let then = with_rounds past one.rounds in
      let targets = ap (λ (x : BulkCall). x.targets) rest in
      record {
        rounds = one.rounds;
        asked = one.asked;
        run = subst (λ p. HasRun cache p mid later) (no_more then)
            (run_more cache then mid mid between later [] targets (refused_round cache then mid between later is one.run.between) (keeps_noted between.cause later.cause (failures later.progress.items) noted)
            (subst (λ p. IsBetween cache p mid later) (sym (no_more then)) (refused_call cache then mid between later rest is noted (some_more past.rounds one.rounds some) takes one.run.between)) one.run);
        agent = one.agent;
        targets = targets ∙ one.targets;
        most = ap (λ (x : BulkCall). x.most) rest ∙ one.most;
      }

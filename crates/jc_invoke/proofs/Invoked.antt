-- A whole call with many keys, each with a processor, from its rounds.
--     before_it      what the session's next call has behind it
--     has_begun      it has made no round yet
--     over           after the last round nothing is out, and each key has an end
--     invoked        then the call is carried out
--     left_as        the processor that is left, under whichever name
use Rattle.jc_invoke.proofs.Common.{CacheState, MayCall, Session, IsInvokedAll, RunsOn, RunBehavior, Bytes, Invoke, carried_out, may_again, none_run, opens_call, KeyEnd, key_ends, ProcessAll, ProcessRound, HasRun, IsCarriedOut, with_rounds, ops_of, ops_with, IsBetween, IsNew, IsOver, CallPast, BulkCall, ◌≡◌, ◌==◌, List, [], length, map, refl, sym, ap, subst, ◌∙◌, pointwise, IsDistinct, keys_of, DynBox}
use Rattle.jc_session.specs.Sessions.{next_call}
use Rattle.jc_invoke.proofs.KeyResults.{as_many, keys_distinct}

module _ {I J : Type 0} {D : I → Type 0} {E : J → Type 0} (cache : CacheState) (old mid : Session I J D E) (call : BulkCall) (keys : List Bytes) where
  abbrev pub before_it : CallPast
  before_it = record { caller = (next_call old).agent.caller; first = old.seats.items; rounds = [] }

  between : MayCall cache old → mid ≡ next_call old → IsNew call.targets.now cache.config.stripes call → ops_of call.targets.now ≡ ops_with Invoke keys → IsDistinct (pointwise ◌==◌) keys → IsBetween cache before_it mid call
  between may begun new are distinct =
      subst (λ (s : Session I J D E). IsBetween cache before_it s call) (sym begun)
      (opens_call cache old call.targets.now call may (subst (λ ops. IsDistinct (pointwise ◌==◌) (keys_of ops)) (sym are) (keys_distinct Invoke keys distinct)) new)

  pub has_begun : MayCall cache old → mid ≡ next_call old → IsNew call.targets.now cache.config.stripes call → ops_of call.targets.now ≡ ops_with Invoke keys → IsDistinct (pointwise ◌==◌) keys → HasRun cache before_it mid call
  has_begun may begun new are distinct = none_run cache before_it mid call refl (ap (λ (s : Session I J D E). s.seats.items) (sym begun)) (between may begun new are distinct)

module _ {I J P Z : Type 0} {D : I → Type 0} {E : J → Type 0} {F : P → Type 0}
    (behavior : RunBehavior ((i : I) × D i) ((j : J) × E j) (DynBox P Z F)) (args : List Bytes) (cache : CacheState)
    (old mid new : Session I J D E) (call later : BulkCall) (processor p : DynBox P Z F) (keys : List Bytes) where
  abbrev Made : Session I J D E → Type 0
  Made session = RunsOn behavior args cache (before_it cache old mid call keys) session call processor new later p

  targets_later : Made mid → ops_of call.targets.now ≡ ops_with Invoke keys → ops_of later.targets.now ≡ ops_with Invoke keys
  targets_later made are = ap (λ t. ops_of t.now) made.targets ∙ are

  pub over : ops_of call.targets.now ≡ ops_with Invoke keys → Made mid → MayCall cache new × ((later.tickets.items ≡ []) × (later.joins.items ≡ [])) × (length later.progress.items ≡ length keys)
  over are made =
      let after = with_rounds (before_it cache old mid call keys) made.rounds in
      let b = made.run.between in
      (may_again cache after new later b, (b.no_tickets, b.no_joins), b.on.under.so_far.many ∙ ap length (targets_later made are) ∙ as_many Invoke keys)

  pub invoked : mid ≡ next_call old → ops_of call.targets.now ≡ ops_with Invoke keys → IsOver later → Made mid
      → (rounds : List ProcessRound) × IsInvokedAll behavior cache old keys args processor (key_ends (ops_with Invoke keys) later.progress.items) rounds new p
  invoked begun are late many =
      let past = before_it cache old mid call keys in
      let made : Made (next_call old) = subst Made begun many in
      let asked = made.asked in
      let after = with_rounds past made.rounds in (
        asked.runs,
        record {
          carried = subst (λ ops. IsCarriedOut cache old ops (key_ends ops later.progress.items) (map ProcessAll asked.runs) new) (targets_later many are)
              (subst (λ rs. IsCarriedOut cache old (ops_of later.targets.now) (key_ends (ops_of later.targets.now) later.progress.items) rs new) asked.rounds_are
              (carried_out cache after old new later refl refl late made.agent made.run).0);
          calls = asked.calls;
          types = asked.types;
          processor_type = asked.processor_type;
        },
      )

-- the processor that is left, under whichever name
pub left_as : {I J P Z : Type 0} {D : I → Type 0} {E : J → Type 0} {F : P → Type 0} (behavior : RunBehavior ((i : I) × D i) ((j : J) × E j) (DynBox P Z F)) (cache : CacheState)
    (old new : Session I J D E) (keys args : List Bytes) (processor p q : DynBox P Z F) (ends : List KeyEnd) (rounds : List ProcessRound)
    → IsInvokedAll behavior cache old keys args processor ends rounds new p → q ≡ p → IsInvokedAll behavior cache old keys args processor ends rounds new q
left_as behavior cache old new keys args processor p q ends rounds is same = subst (IsInvokedAll behavior cache old keys args processor ends rounds new) (sym same) is

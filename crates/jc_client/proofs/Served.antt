-- A service whole.
--     err_is           what is so of an error, by what the error is
--     as_many          as many sessions were given out as brought something
--     all_given        its owner, who has given them out
--     not_enlisted, not_ended    why it wasn't served whole
--     work_of_each, all_work    what each call of a service's work says tells what is said of all clients
--     are_new          clients of sessions that were just given out
--     have_worked      so each client's work is that of a new one
use Rattle.std.proofs.Common.{◌≡◌, ◌+◌, ◌∙◌, inl, inr, ℕ, suc, List, [], ◌∷◌, All, true, Result, Ok, Err, length, map, refl, sym, ap, subst, arith}
use denote.Param.Members.{Shared}
use Rattle.std.specs.Fork.{GivesJobs}
use Rattle.std.specs.Global.{Vec}
use Rattle.std.specs.Prelude.{vec_len}
use Rattle.std.specs.Result.{IfErr, IfOk, IsErrAnd}
use Rattle.std.specs.declared.alloc.AllocError.{AllocError}
use Rattle.std.proofs.lemmas.List.{length-map}
use Rattle.jc_types.specs.declared.config.Config.{Config}
use Rattle.jc_types.specs.declared.refusal.Refusal.{Refusal}
use Rattle.jc_outside.specs.declared.hands.Outside.{Outside}
use Rattle.jc_session.specs.declared.session.Session.{Session}
use Rattle.jc_cache.specs.Caches.{CacheOwnerState, OpensWith}
use Rattle.jc_cache.specs.Enlisting.{AreGivenOut, HaveNumbers, IsNotEnlisted}
use Rattle.jc_client.specs.Clients.{ClientState, HasWorked, IsServeRefusal, WorksEach, client_state, new_clients}
use Rattle.jc_cache.specs.Closing.{IsEndRefusal}
use Rattle.jc_cache.specs.Sessions.{BeginsAt}

pub err_is : {T E : Type 0} (r : Result T E) (Q P : E → Type 0) → ((e : E) → Q e → P e) → IsErrAnd r Q → IfErr r P
err_is (Ok x) Q P leads is = absurd is
err_is (Err e) Q P leads is = leads e is

module _ {F J S X : Type 0} (g : Shared F (J × Unit {0}) X) (f : F) (session : J → S) (state : S → ClientState) (works : ClientState → X → ClientState → Type 0)
    (says : (client : J) (returned : X) → g.post f (client, tt) returned → HasWorked works (state (session client)) returned) where
  work_of_each : (clients : List J) (returned : List X) → length returned ≡ length clients → GivesJobs g f clients returned → WorksEach works (map state (map session clients)) returned
  work_of_each [] [] many gives = tt
  work_of_each [] (one ∷ rest) many gives = absurd (omega arith)
  work_of_each (client ∷ clients) [] many gives = absurd (omega arith)
  work_of_each (client ∷ clients) (one ∷ rest) many gives =
      let first = (gives 0 one (omega arith)).1 in (
        subst (λ (c : J). HasWorked works (state (session c)) one) (sym (first.job_is client)) (says first.job one first.call.met),
        work_of_each clients rest (omega arith) (λ i d low. let later = (gives (suc i) d (omega arith)).1 in (refl, record { job = later.job; job_read = later.job_read; job_is = later.job_is; call = later.call })),
      )

  pub all_work : (clients : Vec J) (result : Result (Vec X) AllocError) → IfOk result (λ v. vec_len v ≡ vec_len clients) → IfOk result (λ v. GivesJobs g f clients.items v.items)
      → IfOk result (λ v. WorksEach works (map state (map session clients.items)) v.items)
  all_work clients (Ok v) many gives = work_of_each clients.items v.items (sym v.ok.0 ∙ many ∙ clients.ok.0) gives
  all_work clients (Err e) many gives = tt

module _ {I J : Type 0} {D : I → Type 0} {E : J → Type 0} where
  pub as_many : (from left : CacheOwnerState) (outside : List (Outside I J D E)) (sessions : List (Session I J D E)) → AreGivenOut from left outside sessions → length sessions ≡ length outside
  as_many from left outside sessions are = sym (length-map sessions (λ (s : Session I J D E). s.agent.hands.outside)) ∙ ap length are.boxes

  pub all_given : (config : Config) (opened left : CacheOwnerState) (outside : List (Outside I J D E)) (sessions : List (Session I J D E)) → OpensWith true config [] opened → AreGivenOut opened left outside sessions
      → left ≡ record opened { given = length outside }
  all_given config opened left outside sessions opens are =
      let many = as_many opened left outside sessions are in
      let none = opens.given in
      let given : opened.given + length sessions ≡ length outside = omega arith in
      are.owner ∙ ap (λ (n : ℕ). record opened { given = n }) given

  pub not_enlisted : (config : Config) (opened left : CacheOwnerState) (outside : List (Outside I J D E)) (refusal : Refusal) → OpensWith true config [] opened → IsNotEnlisted opened left outside refusal → IsServeRefusal config outside refusal
  not_enlisted config opened left outside refusal opens is = record { why = inr (inr (opened, left, opens, inl is)) }

  pub not_ended : (config : Config) (opened owner left : CacheOwnerState) (outside : List (Outside I J D E)) (sessions : List (Session I J D E)) (refusal : Refusal) → OpensWith true config [] opened → AreGivenOut opened owner outside sessions
      → IsEndRefusal refusal owner left → IsServeRefusal config outside refusal
  not_ended config opened owner left outside sessions refusal opens are why =
      record { why = inr (inr (opened, left, opens, inr (subst (λ (o : CacheOwnerState). IsEndRefusal refusal o left) (all_given config opened owner outside sessions opens are) why))) }

  are_new : (owner : CacheOwnerState) (number : ℕ) (sessions : List (Session I J D E)) → All (λ (s : Session I J D E). (s.agent.counts.own ≡ 0) × BeginsAt owner s) sessions → HaveNumbers number sessions
      → map client_state sessions ≡ new_clients number (length sessions)
  are_new owner number [] fresh numbers = refl
  are_new owner number (s ∷ sessions) fresh numbers =
      let none = (fresh 0 s (omega arith)).0 in
      λ i. record { caller = numbers.0 i; own = none i } ∷ are_new owner (number + 1) sessions (λ k d low. fresh (suc k) d (omega arith)) numbers.1 i

  pub have_worked : {X : Type 0} (works : ClientState → X → ClientState → Type 0) (config : Config) (opened left : CacheOwnerState) (outside : List (Outside I J D E)) (sessions seen : List (Session I J D E)) (returned : List X)
      → OpensWith true config [] opened → AreGivenOut opened left outside sessions → seen ≡ sessions → WorksEach works (map client_state seen) returned → WorksEach works (new_clients 0 (length outside)) returned
  have_worked works config opened left outside sessions seen returned opens are same each =
      let new : map client_state seen ≡ new_clients 0 (length outside) =
      ap (map client_state) same ∙ are_new opened opened.given sessions are.fresh are.numbers ∙ (λ i. new_clients (opens.given i) (as_many opened left outside sessions are i)) in
      subst (λ (clients : List ClientState). WorksEach works clients returned) new each

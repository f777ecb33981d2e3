-- Sessions that are given out one after another.
--     given_none, given_next     none was, and one more was
--     none_enlisted, not_enlisted    nobody was, since there was no memory; and only the first ones
use Rattle.jc_cache.proofs.Common.{◌≡◌, ⊎_elim, inl, inr, ◌∙◌, ◌+◌, ◌++◌, ℕ, Some, List, [], ◌∷◌, length, refl, sym, ap, subst, length-append, arith, map-append, All-nil, All-push, All, Session, CacheOwnerState, BeginsAt, IsGivenOut, MayCall, session_refusal}
use Rattle.std.specs.Prelude.{is_some}
use Rattle.jc_types.specs.declared.refusal.Refusal.TheVariants.{OutOfMemory}
use Rattle.jc_outside.specs.declared.hands.Outside.{Outside}
use Rattle.jc_session.specs.declared.fault.SessionFault.{SessionFault}
use Rattle.jc_cache.specs.Enlisting.{AreGivenOut, HaveNumbers, IsNotEnlisted}
use Rattle.jc_cache.specs.Sessions.{IsNotGivenOut}

numbered_next : {I J : Type 0} {D : I → Type 0} {E : J → Type 0} (number last : ℕ) (sessions : List (Session I J D E)) (session : Session I J D E) → HaveNumbers number sessions
    → last ≡ number + length sessions → session.agent.caller ≡ record { session = last; call = 0 } → HaveNumbers number (sessions ++ session ∷ [])
numbered_next number last [] session have is caller = (let e : last ≡ number = omega arith in caller ∙ ap (λ (n : ℕ). record { session = n; call = 0 }) e, tt)
numbered_next number last (s ∷ sessions) session have is caller = (have.0, numbered_next (number + 1) last sessions session have.1 (omega arith) caller)

pub given_next : {I J : Type 0} {D : I → Type 0} {E : J → Type 0} (from mid left : CacheOwnerState) (outside : List (Outside I J D E)) (sessions : List (Session I J D E)) (one : Outside I J D E) (session : Session I J D E)
    → AreGivenOut from mid outside sessions → IsGivenOut mid left one session → AreGivenOut from left (outside ++ one ∷ []) (sessions ++ session ∷ [])
given_next {I} {J} {D} {E} from mid left outside sessions one session are is = record {
  owner =
      let long = length-append sessions (session ∷ []) in
      let e : from.given + length sessions + 1 ≡ from.given + length (sessions ++ session ∷ []) = omega arith in
      is.owner ∙ ap (λ (o : CacheOwnerState). record o { given = o.given + 1 }) are.owner ∙ ap (λ (n : ℕ). record from { given = n }) e;
  boxes =
      map-append (λ (s : Session I J D E). s.agent.hands.outside) sessions (session ∷ [])
      ∙ ap (λ (l : List (Outside I J D E)). l ++ session.agent.hands.outside ∷ []) are.boxes
      ∙ ap (λ (o : Outside I J D E). outside ++ o ∷ []) is.boxes;
  fresh = All-push (λ (s : Session I J D E). (s.agent.counts.own ≡ 0) × BeginsAt from s) sessions session are.fresh (
    is.none,
    record {
      noted = is.begins.noted ∙ ap (λ (o : CacheOwnerState). o.noted) are.owner;
      fronts = is.begins.fronts ∙ ap (λ (o : CacheOwnerState). o.fronts) are.owner;
      none_lent = is.begins.none_lent;
    },
  );
  numbers = numbered_next from.given mid.given sessions session are.numbers (ap (λ (o : CacheOwnerState). o.given) are.owner) is.caller;
  may = All-push (λ (s : Session I J D E). MayCall left.cache s) sessions session (subst (λ cache. All (λ (s : Session I J D E). MayCall cache s) sessions) (sym (ap (λ (o : CacheOwnerState). o.cache) is.owner)) are.may) is.may;
}

given_none : {I J : Type 0} {D : I → Type 0} {E : J → Type 0} (from : CacheOwnerState) → AreGivenOut {I = I} {J = J} {D = D} {E = E} from from [] []
given_none {I} {J} {D} {E} from = record {
  owner = let e : from.given ≡ from.given + 0 = omega arith in ap (λ (n : ℕ). record from { given = n }) e;
  boxes = refl;
  fresh = All-nil (λ (s : Session I J D E). (s.agent.counts.own ≡ 0) × BeginsAt from s);
  numbers = tt;
  may = All-nil (λ (s : Session I J D E). MayCall from.cache s);
}

pub none_enlisted : {I J : Type 0} {D : I → Type 0} {E : J → Type 0} (from : CacheOwnerState) (outside : List (Outside I J D E)) → IsNotEnlisted from from outside OutOfMemory
none_enlisted from outside = record { before = []; rest = outside; made = []; outside_is = refl; given = given_none from; why = inl refl }

pub not_enlisted : {I J : Type 0} {D : I → Type 0} {E : J → Type 0} (from mid left : CacheOwnerState) (outside before others : List (Outside I J D E)) (made : List (Session I J D E)) (one : Outside I J D E) (fault : SessionFault I J D E)
    → outside ≡ before ++ one ∷ others → AreGivenOut from mid before made → IsNotGivenOut mid left one fault → IsNotEnlisted from left outside fault.refusal
not_enlisted from mid left outside before others made one fault is are isnt = record {
  before = before;
  rest = one ∷ others;
  made = made;
  outside_is = is;
  given = subst (λ (o : CacheOwnerState). AreGivenOut from o before made) (sym isnt.same) are;
  why = ⊎_elim (λ refused. inr (one, others, refl, subst (λ (o : CacheOwnerState). session_refusal o (is_some one.loader) (is_some one.writer) ≡ Some fault.refusal) (sym isnt.same) refused)) (λ full. inl full.1) isnt.why;
}

-- What a call says in the end.
--     Says        what the function that loads a piece says of each call
--     ended       what is known of the results tells how the call ended
--     on_return   of a call of clients, by what it returns
--     ended_kept, ended_same    what each call keeps of its tool, all calls keep of all tools
use Rattle.jc_loadall.proofs.Common.{◌≡◌, ◌<◌, ◌⊎◌, inl, inr, ⊎_elim, ℕ, suc, List, [], ◌∷◌, Bool, Option, length, map, get_or, All, Result, Ok, Err, refl, sym, ap, subst, ◌∙◌, arith, Bor, MutBor, Shared, IndexSet, Refusal, Bytes, Op, BulkFault, OrRefused, TellsDone, LeadsTo, PieceResult, EndsInPieces, OnReturn, PieceEnd, of_clients, LoadsAndNotes, piece_at, piece_count, AreLoadedBy, EndsByTeam, LoadsBy}
use Rattle.jc_loadall.specs.declared.fault.LoadAllFault.{LoadAllFault}
use Rattle.jc_loadall.proofs.ToolWork.{Told, causes_are, failed_are, tools_loaded}

pointwise_same : {T X : Type 0} (f : T → X) (xs ys : List T) → length ys ≡ length xs → ((k : ℕ) (d : T) → k < length xs → f (get_or ys k d) ≡ f (get_or xs k d)) → map f ys ≡ map f xs
pointwise_same f [] [] many each = refl
pointwise_same f [] (y ∷ ys) many each = absurd (omega arith)
pointwise_same f (x ∷ xs) [] many each = absurd (omega arith)
pointwise_same f (x ∷ xs) (y ∷ ys) many each = λ i. each 0 x (omega arith) i ∷ pointwise_same f xs ys (omega arith) (λ k d lt. each (suc k) d (omega arith)) i

module _ {F S T : Type 0} (Loads : List (Bytes × Op) → PieceEnd → T → T → Type 0) (replace : Bool)
    (g : Shared F (Bor (IndexSet Bytes S) × (MutBor T × Unit {0})) (PieceResult × (MutBor T × Unit {0}))) (load : F) (keys : List Bytes) (olds news : List T) where
  abbrev pub Says : Type 0
  Says = (shown : Bor (IndexSet Bytes S)) (lent back : MutBor T) (result : PieceResult) → g.post load (shown, (lent, tt)) (result, (back, tt)) → LoadsAndNotes Loads replace shown.now.keys lent.now result back.now

  said_by : Says → (ks : List Bytes) (old : T) (result : PieceResult) (new : T) → LoadsBy g load ks old result new → LoadsAndNotes Loads replace ks old result new
  said_by says ks old result new by =
      subst (λ (z : List Bytes × T × T). LoadsAndNotes Loads replace z.0 z.1 result z.2) (λ i. (by.keys_are i, by.before i, by.after i)) (says by.shown by.lent by.back result by.call)

  module _ (returned : Result (Unit {0}) BulkFault) (says : Says) where
    in_pieces : EndsByTeam g load keys olds returned news → EndsInPieces Loads keys replace olds returned news
    in_pieces h =
        let told : Told Loads replace g load keys h.0 (said_by says) olds news = tools_loaded Loads replace g load keys h.0 (said_by says) olds news h.1 in (
          told.0,
          told.1,
          subst (λ (z : Option Refusal × List (Bytes × Refusal)). TellsDone returned z.0 z.1)
              (λ i. (causes_are keys h.0 told.0 (piece_count (length keys)) told.2 i, failed_are keys h.0 told.0 (piece_count (length keys)) told.2 i)) h.2,
        )

    pub ended : OrRefused (EndsByTeam g load keys olds) (length keys) olds returned news → OrRefused (EndsInPieces Loads keys replace olds) (length keys) olds returned news
    ended (inl h) = inl (h.0, ⊎_elim (λ e. inl (in_pieces e)) (λ r. inr r) h.1)
    ended (inr h) = inr h

-- what each call keeps of its tool, all calls keep of all tools
module _ {F S T : Type 0} (g : Shared F (Bor (IndexSet Bytes S) × (MutBor T × Unit {0})) (PieceResult × (MutBor T × Unit {0}))) (load : F) (keys : List Bytes) where
  abbrev pub Keeps : (T → T → Type 0) → Type 0
  Keeps K = (shown : Bor (IndexSet Bytes S)) (lent back : MutBor T) (result : PieceResult) → g.post load (shown, (lent, tt)) (result, (back, tt)) → K lent.now back.now

  again : (P : T → Type 0) → Keeps (λ old new. P old → P new) → (results : ℕ → PieceResult) (old new : T) (share : List ℕ)
      → LeadsTo (λ o p n. LoadsBy g load (piece_at keys p) o (results p) n) old share new → P old → P new
  again P keeps results old new [] led holds = subst P (sym led) holds
  again P keeps results old new (p ∷ share) led holds =
      let by = led.1 in
      again P keeps results led.0 new share led.2 (subst P by.after (keeps by.shown by.lent by.back (results p) by.call (subst P (sym by.before) holds)))

  module _ (olds news : List T) where
    again_all : (P : T → Type 0) → Keeps (λ old new. P old → P new) → (results : ℕ → PieceResult) → AreLoadedBy g load keys results olds news → All P olds → All P news
    again_all P keeps results loaded all k d lt =
        let many : length news ≡ length olds = loaded.count in
        let l : k < length olds = omega arith in
        again P keeps results (get_or olds k d) (get_or news k d) (get_or loaded.shares k []) (loaded.each k d l) (all k d l)

    same_all : {X : Type 0} (f : T → X) → Keeps (λ old new. f new ≡ f old) → (results : ℕ → PieceResult) → AreLoadedBy g load keys results olds news → map f news ≡ map f olds
    same_all f same results loaded = pointwise_same f olds news loaded.count
        (λ k d lt. again (λ t. f t ≡ f (get_or olds k d)) (λ shown lent back result post before. same shown lent back result post ∙ before) results (get_or olds k d) (get_or news k d) (get_or loaded.shares k [])
        (loaded.each k d lt) refl)

    module _ (returned : Result (Unit {0}) BulkFault) (is : OrRefused (EndsByTeam g load keys olds) (length keys) olds returned news) where
      -- all tools were lent to calls, or none was
      lent : ((results : ℕ → PieceResult) × AreLoadedBy g load keys results olds news) ⊎ (news ≡ olds)
      lent = ⊎_elim (λ h. ⊎_elim (λ e. inl (e.0, e.1)) (λ r. inr r.1) h.1) (λ h. inr h.2) is

      pub ended_kept : (P : T → Type 0) → Keeps (λ old new. P old → P new) → All P olds → All P news
      ended_kept P keeps all = ⊎_elim (λ h. again_all P keeps h.0 h.1 all) (λ same. subst (All P) (sym same) all) lent

      pub ended_same : {X : Type 0} (f : T → X) → Keeps (λ old new. f new ≡ f old) → map f news ≡ map f olds
      ended_same f same = ⊎_elim (λ h. same_all f same h.0 h.1) (λ none. ap (map f) none) lent

pub on_return : (ended : Result (Unit {0}) BulkFault) (returned : Result (Unit {0}) LoadAllFault) (Nobody : Type 0) (Ends : Result (Unit {0}) BulkFault → Type 0) → returned ≡ of_clients ended → Ends ended → OnReturn returned Nobody Ends
on_return (Ok done) returned Nobody Ends is ends = subst (λ r. OnReturn r Nobody Ends) (sym is) ends
on_return (Err fault) returned Nobody Ends is ends = subst (λ r. OnReturn r Nobody Ends) (sym is) ends

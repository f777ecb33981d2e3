-- Tools with which pieces are loaded, by what is known of each call.
--     tools_loaded       what is known of the pieces and of their results tells how each ended
--     causes_are, failed_are    the first cause, and what failed, by the results and by the ends
use Rattle.jc_loadall.proofs.Common.{◌≡◌, ◌<◌, ◌++◌, ℕ, zero, suc, List, [], ◌∷◌, Bool, length, get_or, None, refl, sym, ◌∙◌, arith, nat_lt, true, lt-ltb, filter_map-append, option_or, Bor, MutBor, Shared, IndexSet, Bytes, Op, failed_entries, load_ops, LeadsTo, once_below, PieceResult, LoadsInPieces, PieceEnd, all_ends, first_cause, IsNoteOf, all_noted, first_noted, piece_at, piece_count, AreLoadedBy, LoadsBy}
use Rattle.jc_loadall.proofs.Gathered.{Gathering, SomeStep, counted, every, fact_at, fits_at, gathered, joined, led_each, often, seen}

-- 1. What the results say.

module _ (keys : List Bytes) (results : ℕ → PieceResult) (ends : ℕ → PieceEnd) where
  pub causes_are : (n : ℕ) → ((p : ℕ) → p < n → IsNoteOf (piece_at keys p) (results p) (ends p)) → first_noted results n ≡ first_cause ends n
  causes_are zero fits = refl
  causes_are (suc n) fits = λ i. option_or (causes_are n (λ p lt. fits p (omega arith)) i) ((fits n (omega arith)).cause i)

  pub failed_are : (n : ℕ) → ((p : ℕ) → p < n → IsNoteOf (piece_at keys p) (results p) (ends p)) → all_noted results keys n ≡ failed_entries (all_ends ends n)
  failed_are zero fits = refl
  failed_are (suc n) fits =
      (λ i. failed_are n (λ p lt. fits p (omega arith)) i ++ (fits n (omega arith)).failed i) ∙ sym (filter_map-append _ (all_ends ends n) (ends n).ends)

once_is : (p n : ℕ) → p < n → once_below p n ≡ 1
once_is p n lt = let yes : nat_lt p n ≡ true = lt-ltb p n lt in counted (nat_lt p n) yes

-- 2. The tools.

-- `Loads` is what was done with one to load a piece
module _ {F S T : Type 0} (Loads : List (Bytes × Op) → PieceEnd → T → T → Type 0) (replace : Bool)
    (g : Shared F (Bor (IndexSet Bytes S) × (MutBor T × Unit {0})) (PieceResult × (MutBor T × Unit {0}))) (load : F) (keys : List Bytes) (results : ℕ → PieceResult)
    (says : (ks : List Bytes) (old : T) (result : PieceResult) (new : T) → LoadsBy g load ks old result new
    → (end : PieceEnd) × Loads (load_ops replace ks) end old new × IsNoteOf ks result end) where
  abbrev Step : T → ℕ → PieceEnd → T → Type 0
  Step old p end new = Loads (load_ops replace (piece_at keys p)) end old new × IsNoteOf (piece_at keys p) (results p) end

  told : (old new : T) (share : List ℕ) → LeadsTo (λ o p n. LoadsBy g load (piece_at keys p) o (results p) n) old share new → LeadsTo (SomeStep Step) old share new
  told old new [] led = led
  told old new (p ∷ share) led =
      let said = says (piece_at keys p) old (results p) led.0 led.1 in
      (led.0, (said.0, (said.1, said.2)), told led.0 new share led.2)

  only : (old new : T) (share : List ℕ) (f : ℕ → PieceEnd) → LeadsTo (λ o p n. Step o p (f p) n) old share new
      → LeadsTo (λ o p n. Loads (load_ops replace (piece_at keys p)) (f p) o n) old share new
  only old new [] f led = led
  only old new (p ∷ share) f led = (led.0, led.1.0, only led.0 new share f led.2)

  abbrev pub Told : List T → List T → Type 0
  Told olds news =
      (ends : ℕ → PieceEnd) × LoadsInPieces Loads keys replace ends olds news
      × ((p : ℕ) → p < piece_count (length keys) → IsNoteOf (piece_at keys p) (results p) (ends p))

  pub tools_loaded : (olds news : List T) → AreLoadedBy g load keys results olds news → Told olds news
  tools_loaded olds news loaded = (
    fact_at (joined team.dss) nothing,
    record {
      loads = record {
        shares = loaded.shares;
        share_each = loaded.share_each;
        count = loaded.count;
        each = λ k d lt. only (get_or olds k d) (get_or news k d) (get_or loaded.shares k []) (fact_at (joined team.dss) nothing)
            (led_each Step olds news loaded.shares team nothing (piece_count (length keys)) loaded.once k d lt);
        once = loaded.once;
      };
    },
    λ p lt. fits_at (λ e. IsNoteOf (piece_at keys e.0) (results e.0) e.1) (joined team.dss) nothing p
        (every Step (λ e. IsNoteOf (piece_at keys e.0) (results e.0) e.1) (λ o p x n step. step.1) olds news team.dss team.chains) (there p lt),
  )
    where
      nothing : PieceEnd
      nothing = record { ends = []; cause = None }

      team : Gathering Step olds news loaded.shares
      team = gathered Step olds news loaded.shares loaded.count loaded.share_each (λ k d lt. told (get_or olds k d) (get_or news k d) (get_or loaded.shares k []) (loaded.each k d lt))

      there : (p : ℕ) → p < piece_count (length keys) → 0 < seen p (joined team.dss)
      there p lt = let a = often Step olds news loaded.shares team nothing (piece_count (length keys)) loaded.once p in let b = once_is p (piece_count (length keys)) lt in omega arith

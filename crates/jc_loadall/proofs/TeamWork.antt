-- Workers side by side, each with a tool.
--     front          a prefix, taken from its list
--     able_all       workers who have loaded nothing can load each piece
--     team_loaded    what the pool says of them, said of the tools, and of what they noted
use Rattle.jc_loadall.proofs.Common.{◌≡◌, ◌<◌, ◌≤◌, ◌+◌, ◌++◌, ℕ, zero, suc, List, [], ◌∷◌, true, false, cond, eqb, length, take, map, get_or, zip, All, vec_len, vec_capacity, Some, unwrap_or, refl, sym, ap, subst, ◌∙◌, arith, flat_map-cons, AllByRecursion, IsDistinct, flat_map, pointwise, Bor, MutBor, Shared, IndexSet, spare, Bytes, CanDoAll, DoesEachOnce, LeadsTo, once_below, Note, PieceResult, Loaded, Worker, find_note, result_in, piece_at, piece_count, AreLoadedBy, CanLoad, CanLoadBy, DoesPiece, IsIdleWorker, Keeps, LoadsBy}
use Rattle.std.specs.Prelude.{◌==◌}
use Rattle.jc_pool.proofs.CallerLemmas.{length-zip, zip_at}
use Rattle.jc_loadall.proofs.Gathered.{Gathering, SomeStep, fact_at, gathered, joined, kept_all, led_each}

-- what is written back of all of a list is that
pub front : {X : Type 0} (xs ys : List X) (n : ℕ) → n ≡ length xs → take n (xs ++ ys) ≡ xs
front xs ys n is = ap (λ m. take m (xs ++ ys)) is ∙ all xs ys
  where
    all : {X : Type 0} (xs ys : List X) → take (length xs) (xs ++ ys) ≡ xs
    all [] [] = refl
    all [] (y ∷ ys) = refl
    all (x ∷ xs) ys = ap (λ l. x ∷ l) (all xs ys)

-- 1. Notes.

abbrev to_note : ℕ × PieceResult → Note
to_note e = record { piece = e.0; result = e.1 }

found_fact : (all : List (ℕ × PieceResult)) (p : ℕ) → result_in (map to_note all) p ≡ fact_at all Loaded p
found_fact [] p = refl
found_fact (e ∷ all) p =
    let ih = found_fact all p in
    elim (eqb e.0 p) as (λ b. unwrap_or (cond b (Some e.1) (find_note p (map to_note all))) Loaded ≡ cond b e.1 (fact_at all Loaded p)) [ true ↦ refl | false ↦ ih ]

module _ {F S T : Type 0} (g : Shared F (Bor (IndexSet Bytes S) × (MutBor T × Unit {0})) (PieceResult × (MutBor T × Unit {0}))) (load : F) (keys : List Bytes) where
  abbrev pub Can : Worker F × T → ℕ → Type 0
  Can both piece = CanLoad g both.0.load.now both.0.keys.now both.1 (length both.0.piece_keys.keys + spare both.0.piece_keys) (vec_len both.0.notes) (vec_capacity both.0.notes) piece

  abbrev pub Does : Worker F × T → ℕ → Worker F × T → Type 0
  Does old piece new =
      (new.0.load.now ≡ old.0.load.now) × (new.0.keys.now ≡ old.0.keys.now)
      × DoesPiece g old.0.load.now old.0.keys.now old.0.notes.items old.1 piece new.0.notes.items new.1

  able_one : (pieces : ℕ) (w : Worker F) (t : T) → IsIdleWorker load keys pieces w → CanLoadBy g load t → Keeps g load → IsDistinct (pointwise ◌==◌) keys → pieces ≡ piece_count (length keys)
      → CanDoAll Can pieces (w, t)
  able_one pieces w t idle may keeps distinct is piece lt =
      let there : piece < piece_count (length keys) = omega arith in
      let none : length w.notes.items ≡ 0 = ap length idle.none in
      let noted : vec_len w.notes ≤ piece = omega arith in
      let room = idle.room_to_note in
      let fits : piece < vec_capacity w.notes = omega arith in
      record {
        there = subst (λ ks. piece < piece_count (length ks)) (sym idle.keys_are) there;
        distinct = subst (IsDistinct (pointwise ◌==◌)) (sym idle.keys_are) distinct;
        room_for_keys = idle.room_for_keys;
        noted_before = noted;
        room_to_note = fits;
        may = subst (λ f. CanLoadBy g f t) (sym idle.load_is) may;
        keeps = subst (λ f. Keeps g f) (sym idle.load_is) keeps;
      }

  pub able_all : (pieces : ℕ) (ws : List (Worker F)) (ts : List T) → length ts ≡ length ws → All (IsIdleWorker load keys pieces) ws → All (CanLoadBy g load) ts → Keeps g load
      → IsDistinct (pointwise ◌==◌) keys → pieces ≡ piece_count (length keys) → All (CanDoAll Can pieces) (zip ws ts)
  able_all pieces ws ts each idle may keeps distinct is k d within =
      let len = length-zip ws ts each in
      let l : k < length ws = omega arith in
      subst (CanDoAll Can pieces) (sym (zip_at ws ts each k d.0 d.1 l)) (able_one pieces (get_or ws k d.0) (get_or ts k d.1) (idle k d.0 l) (may k d.1 (omega arith)) keeps distinct is)

  -- 2. What was done.

  abbrev Step : Worker F × T → ℕ → PieceResult → Worker F × T → Type 0
  Step old piece result new = (new.0.notes.items ≡ old.0.notes.items ++ to_note (piece, result) ∷ []) × LoadsBy g load (piece_at keys piece) old.1 result new.1

  fixed : (old new : Worker F × T) (share : List ℕ) → old.0.load.now ≡ load → old.0.keys.now ≡ keys → LeadsTo Does old share new → LeadsTo (SomeStep Step) old share new
  fixed old new [] same_load same_keys led = led
  fixed old new (p ∷ share) same_load same_keys led = (
    led.0,
    (led.1.2.result, (led.1.2.noted, subst (λ (z : F × List Bytes). LoadsBy g z.0 (piece_at z.1 p) old.1 led.1.2.result led.0.1) (λ i. (same_load i, same_keys i)) led.1.2.loads)),
    fixed led.0 new share (led.1.0 ∙ same_load) (led.1.1 ∙ same_keys) led.2,
  )

  tool_led : (f : ℕ → PieceResult) (old new : Worker F × T) (share : List ℕ) → LeadsTo (λ o p n. Step o p (f p) n) old share new
      → LeadsTo (λ o p n. LoadsBy g load (piece_at keys p) o (f p) n) old.1 share new.1
  tool_led f old new [] led = ap (λ b. b.1) led
  tool_led f old new (p ∷ share) led = (led.0.1, led.1.1, tool_led f led.0 new share led.2)

  tools_led : (f : ℕ → PieceResult) (ws ws' : List (Worker F)) (ts ts' : List T) (shares : List (List ℕ)) → length ts ≡ length ws → length ws' ≡ length ws → length ts' ≡ length ts
      → length shares ≡ length ws
      → ((k : ℕ) (d : Worker F × T) → k < length (zip ws ts) → LeadsTo (λ o p n. Step o p (f p) n) (get_or (zip ws ts) k d) (get_or shares k []) (get_or (zip ws' ts') k d))
      → (k : ℕ) (d : T) → k < length ts → LeadsTo (λ o p n. LoadsBy g load (piece_at keys p) o (f p) n) (get_or ts k d) (get_or shares k []) (get_or ts' k d)
  tools_led f [] ws' ts ts' shares a b c s led k d lt = absurd (omega arith)
  tools_led f (w ∷ ws) ws' [] ts' shares a b c s led k d lt = absurd (omega arith)
  tools_led f (w ∷ ws) [] (t ∷ ts) ts' shares a b c s led k d lt = absurd (omega arith)
  tools_led f (w ∷ ws) (w' ∷ ws') (t ∷ ts) [] shares a b c s led k d lt = absurd (omega arith)
  tools_led f (w ∷ ws) (w' ∷ ws') (t ∷ ts) (t' ∷ ts') [] a b c s led k d lt = absurd (omega arith)
  tools_led f (w ∷ ws) (w' ∷ ws') (t ∷ ts) (t' ∷ ts') (h ∷ shares) a b c s led zero d lt = tool_led f (w, t) (w', t') h (led 0 (w, t) (omega arith))
  tools_led f (w ∷ ws) (w' ∷ ws') (t ∷ ts) (t' ∷ ts') (h ∷ shares) a b c s led (suc k) d lt =
      tools_led f ws ws' ts ts' shares (omega arith) (omega arith) (omega arith) (omega arith) (λ k d lt. led (suc k) d (omega arith)) k d (omega arith)

  no_notes : (pieces : ℕ) (ws : List (Worker F)) (ts : List T) → All (IsIdleWorker load keys pieces) ws → AllByRecursion (λ (b : Worker F × T). b.0.notes.items ≡ []) (zip ws ts)
  no_notes pieces [] ts idle = tt
  no_notes pieces (w ∷ ws) [] idle = tt
  no_notes pieces (w ∷ ws) (t ∷ ts) idle = ((idle 0 w (omega arith)).none, no_notes pieces ws ts (λ k d lt. idle (suc k) d (omega arith)))

  notes_of : (ws : List (Worker F)) (ts : List T) → length ts ≡ length ws → joined (map (λ (b : Worker F × T). b.0.notes.items) (zip ws ts)) ≡ flat_map (λ (w : Worker F). w.notes.items) ws
  notes_of [] ts each = refl
  notes_of (w ∷ ws) [] each = absurd (omega arith)
  notes_of (w ∷ ws) (t ∷ ts) each = ap (λ l. w.notes.items ++ l) (notes_of ws ts (omega arith)) ∙ sym (flat_map-cons (λ (w : Worker F). w.notes.items) w ws)

  pub team_loaded : {J : Type 0} (did : Worker F × T → List ℕ) (job : Worker F × T → J) (pieces : ℕ) (ws ws' : List (Worker F)) (ts ts' : List T)
      → length ts ≡ length ws → length ws' ≡ length ws → length ts' ≡ length ts → All (IsIdleWorker load keys pieces) ws → pieces ≡ piece_count (length keys)
      → DoesEachOnce did job Can Does pieces (zip ws ts) (zip ws' ts')
      → AreLoadedBy g load keys (result_in (flat_map (λ (w : Worker F). w.notes.items) ws')) ts ts'
  team_loaded did job pieces ws ws' ts ts' each many many_tools idle is done = subst (λ (f : ℕ → PieceResult). AreLoadedBy g load keys f ts ts') (λ i p. sym (same p) i) loaded
    where
      len : length (zip ws ts) ≡ length ws
      len = length-zip ws ts each

      team : Gathering Step (zip ws ts) (zip ws' ts') done.shares
      team = gathered Step (zip ws ts) (zip ws' ts') done.shares done.each_worker.workers done.each_worker.share_each
          (λ k d lt. let l : k < length ws = omega (arith, len) in let here = zip_at ws ts each k d.0 d.1 l in
          fixed (get_or (zip ws ts) k d) (get_or (zip ws' ts') k d) (get_or done.shares k []) (ap (λ b. b.0.load.now) here ∙ (idle k d.0 l).load_is) (ap (λ b. b.0.keys.now) here ∙ (idle k d.0 l).keys_are)
          (done.each_worker.each k d lt).led)

      same : (p : ℕ) → result_in (flat_map (λ (w : Worker F). w.notes.items) ws') p ≡ fact_at (joined team.dss) Loaded p
      same p =
          ap (λ notes. result_in notes p)
          (sym (notes_of ws' ts' (many_tools ∙ each ∙ sym many))
          ∙ kept_all Step (λ (b : Worker F × T). b.0.notes.items) to_note (λ o p x n step. step.0) (zip ws ts) (zip ws' ts') team.dss (no_notes pieces ws ts idle) team.chains)
          ∙ found_fact (joined team.dss) p

      loaded : AreLoadedBy g load keys (fact_at (joined team.dss) Loaded) ts ts'
      loaded = record {
        shares = done.shares;
        share_each = done.each_worker.share_each ∙ len ∙ sym each;
        count = many_tools;
        each = tools_led (fact_at (joined team.dss) Loaded) ws ws' ts ts' done.shares each many many_tools (done.each_worker.share_each ∙ len)
            (led_each Step (zip ws ts) (zip ws' ts') done.shares team Loaded pieces done.each_piece);
        once = λ p. done.each_piece p ∙ ap (once_below p) is;
      }

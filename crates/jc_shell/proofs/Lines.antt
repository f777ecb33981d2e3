-- The lines of a script: its first line, and what is after it.
use Rattle.jc_shell.proofs.Common.{◌≡◌, ◌==◌, ℕ, ◌+◌, Bool, true, false, cond, List, [], ◌∷◌, ◌++◌, Some, refl, sym, ap, ◌∙◌, inl, inr, arith, pieces_some, pieces_of, OpenedWorld, Prints, Transcript, fault_of, Fault, LineFault, fault_line, has_feed}
use Rattle.std.proofs.lemmas.Bool.{or_parts}
use Rattle.jc_script.specs.declared.run.RunEnd.{RunEnd}

-- ---- a line with its line feed is a piece

pub cut : (line rest : List ℕ) → has_feed line ≡ false → pieces_of (line ++ 10 ∷ rest) ≡ line ∷ pieces_of rest
cut [] rest e = refl
cut (b ∷ bs) rest e =
    let none = or_parts (b == 10) (has_feed bs) e in
    rw (none.0, cut bs rest none.1) refl

-- ---- and the first piece is a line, with its line feed if there is another piece

whole_first : (t : Bool) (x : ℕ) (p : List ℕ) (ps : List (List ℕ)) (q : List ℕ) (qs : List (List ℕ))
    → (x == 10) ≡ t → has_feed p ≡ false → cond t ([] ∷ p ∷ ps) ((x ∷ p) ∷ ps) ≡ q ∷ qs → has_feed q ≡ false
whole_first true x p ps q qs test whole e =
    let is : [] ≡ q = cc in
    rw (← is) refl
whole_first false x p ps q qs test whole e =
    let is : x ∷ p ≡ q = cc in
    rw (← is) (rw (test, whole) refl)

pub first_is_whole : (bs q : List ℕ) (qs : List (List ℕ)) → pieces_of bs ≡ q ∷ qs → has_feed q ≡ false
first_is_whole [] q qs e =
    let is : [] ≡ q = cc in
    rw (← is) refl
first_is_whole (b ∷ bs) q qs e =
    let s = pieces_some bs in
    whole_first (b == 10) b s.0 s.1 q qs refl (first_is_whole bs s.0 s.1 s.2) (rw s.2 at e)

join : List (List ℕ) → List ℕ
join [] = []
join (p ∷ []) = p
join (p ∷ q ∷ qs) = p ++ 10 ∷ join (q ∷ qs)

feed_of : (x : ℕ) → (x == 10) ≡ true → x ≡ 10
feed_of x e = grind arith

joined : (t : Bool) (x : ℕ) (p : List ℕ) (ps : List (List ℕ)) → (x == 10) ≡ t → join (cond t ([] ∷ p ∷ ps) ((x ∷ p) ∷ ps)) ≡ x ∷ join (p ∷ ps)
unfolding join
joined true x p ps test = rw (feed_of x test) refl
joined false x p [] test = refl
joined false x p (q ∷ qs) test = refl

join_pieces : (bs : List ℕ) → join (pieces_of bs) ≡ bs
unfolding join
join_pieces [] = refl
join_pieces (b ∷ bs) =
    let s = pieces_some bs in
    rw s.2 (joined (b == 10) b s.0 s.1 refl ∙ ap (λ (xs : List ℕ). b ∷ xs) (rw s.2 at (join_pieces bs)))

pub line_and_rest : (bytes line after : List ℕ) → pieces_of bytes ≡ line ∷ pieces_of after → bytes ≡ line ++ 10 ∷ after
unfolding join
line_and_rest bytes line after e =
    let s = pieces_some after in
    let same : join (line ∷ pieces_of after) ≡ line ++ 10 ∷ join (pieces_of after) = rw s.2 refl in
    sym (join_pieces bytes) ∙ ap join e ∙ same ∙ ap (λ (xs : List ℕ). line ++ 10 ∷ xs) (join_pieces after)

-- ---- a transcript from a line on

pub at_line : (old new : OpenedWorld) (n : ℕ) (line rest text out : List ℕ) (end : RunEnd) → has_feed line ≡ false → Prints old line text new
    → Transcript new (n + 1) (pieces_of rest) out end → Transcript old n (pieces_of (line ++ 10 ∷ rest)) (text ++ out) end
at_line old new n line rest text out end whole prints t =
    let s = pieces_some rest in
    rw (cut line rest whole, s.2) (inl (text, out, new, prints, rw s.2 at t, refl))

pub at_fault : (old : OpenedWorld) (n : ℕ) (line rest : List ℕ) (f : Fault) → has_feed line ≡ false → fault_of old line ≡ Some f
    → Transcript old n (pieces_of (line ++ 10 ∷ rest)) (fault_line n f) (LineFault n)
at_fault old n line rest f whole h =
    let s = pieces_some rest in
    rw (cut line rest whole, s.2) (inr (f, h, refl, refl))

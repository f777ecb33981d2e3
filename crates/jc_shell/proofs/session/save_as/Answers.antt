use Rattle.jc_shell.proofs.Common.{◌≡◌, ◌∙◌, ◌++◌, ℕ, List, [], ◌∷◌, Some, length, take, ap, append_assoc, inr, refl, codes, take-append_seam, not_saved_text}
use Rattle.jc_shell.proofs.session.save_as.Goals as goal

-- what was there before comes back
front : (before a b c : List ℕ) → take (length before) (((before ++ a) ++ b) ++ c) ≡ before
front before a b c =
    ap (λ (t : List ℕ). take (length before) t) (append_assoc (before ++ a) b c ∙ append_assoc before a (b ++ c)) ∙ take-append_seam before (a ++ (b ++ c))

pub returns-in_ok-put_not_saved-in-Err-clause-ok : goal.returns-in_ok-put_not_saved-in-Err-clause-ok
returns-in_ok-put_not_saved-in-Err-clause-ok g c =
    let before = c.args.out.now.items in
    let name = c.args.name.now in
    let why = c.in-Err.why.now in
    let a = codes "saved " in
    let made = c.in_ok-put-2.ensures
    ∙ ap (λ (t : List ℕ). t ++ 10 ∷ []) (c.in_ok-extend_from_slice.ensures.items ∙ ap (λ (t : List ℕ). t ++ name) c.in_ok-put.ensures) in
    let kept = c.truncate.ensures.items ∙ ap (λ (t : List ℕ). take c.len-before.result t) made
    ∙ ap (λ (n : ℕ). take n (((before ++ a) ++ name) ++ 10 ∷ [])) (c.len-before.ensures ∙ c.args.out.now.ok.0) ∙ front before a name (10 ∷ []) in (
      not_saved_text name why,
      record { name = name; script = c.args.script.now; refusal = Some why } ∷ [],
      inr (why, refl, refl),
      c.in_ok-put_not_saved-in-Err.ensures ∙ ap (λ (t : List ℕ). t ++ not_saved_text name why) kept,
      c.in-Err.ensures.err,
    )

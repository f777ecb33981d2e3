-- Words that are joined to a line.
--     joined_spaced     a first word, and each other one after a space
--     spelled_open      the line that opens a cache
--     begun_spaced      the line by which a session begins a call: its first words, and each word of the operation after a space
--     put_four          what is behind something after four steps
--     spelled_process   the line of a processor's run
use Rattle.jc_litmus.proofs.Common.{◌≡◌, ◌∙◌, sym, ap, ℕ, List, [], ◌∷◌, ◌++◌, append-nil, append_assoc, refl, map, Option, codes, decimal, join_with_byte, flat_map-append, call_text, fail_words, source_words, flag_words, spelling, lone_text, open_text, spaced}
use Rattle.jc_types.specs.declared.config.Config.{Config}
use Rattle.jc_model.specs.declared.processor.EntryCall.{EntryCall}
use Rattle.jc_world.specs.declared.process.LoadSource.{LoadSource}
use Rattle.jc_text.specs.Spelled.{session_text}
use Rattle.jc_litmus.specs.Spaced.{begin_text}
use Rattle.jc_text.specs.declared.read.line.ScriptAct.TheVariants.{Process}
use Rattle.jc_text.specs.declared.read.line.Line.TheVariants.{OfCall, Open}

pub joined_spaced : (w : List ℕ) (ws : List (List ℕ)) → join_with_byte 32 (w ∷ ws) ≡ w ++ spaced ws
joined_spaced w [] = sym (append-nil w)
joined_spaced w (v ∷ vs) = ap (λ x. w ++ 32 ∷ x) (joined_spaced v vs)

pub spelled_open : (config : Config) → spelling (Open config) ≡ open_text config (spaced (flag_words config.read_through config.write_through))
spelled_open config =
    ap (λ (x : List ℕ). join_with_byte 32 (codes "open" ∷ decimal config.stripes ∷ decimal config.capacity ∷ x ∷ []))
    (joined_spaced (decimal config.history) (flag_words config.read_through config.write_through))

pub begun_spaced : (call session : ℕ) (words : List (List ℕ)) → begin_text call session words ≡ begin_text call session [] ++ spaced words
begun_spaced call session words =
    joined_spaced (codes "begin") (decimal call ∷ session_text session ∷ words)
    ∙ regroup
  where
    regroup : codes "begin" ++ spaced (decimal call ∷ session_text session ∷ words) ≡ begin_text call session [] ++ spaced words
    regroup =
        ap (λ (x : List ℕ). codes "begin" ++ x) (flat_map-append (λ (word : List ℕ). 32 ∷ word) (decimal call ∷ session_text session ∷ []) words)
        ∙ sym (append_assoc (codes "begin") (spaced (decimal call ∷ session_text session ∷ [])) (spaced words))
        ∙ ap (λ (x : List ℕ). x ++ spaced words) (sym (joined_spaced (codes "begin") (decimal call ∷ session_text session ∷ [])))

pub put_four : (o o1 o2 o3 o4 a b d e s : List ℕ) → o1 ≡ o ++ a → o2 ≡ o1 ++ b → o3 ≡ o2 ++ d → o4 ≡ o3 ++ e → s ≡ a ++ (b ++ (d ++ e)) → o4 ≡ o ++ s
put_four o o1 o2 o3 o4 a b d e s e1 e2 e3 e4 es =
    e4
    ∙ ap (λ (x : List ℕ). x ++ e) (e3 ∙ ap (λ (x : List ℕ). x ++ d) (e2 ∙ ap (λ (x : List ℕ). x ++ b) e1))
    ∙ append_assoc ((o ++ a) ++ b) d e
    ∙ append_assoc (o ++ a) b (d ++ e)
    ∙ append_assoc o a (b ++ (d ++ e))
    ∙ ap (λ (x : List ℕ). o ++ x) (sym es)

pub spelled_process : (call : ℕ) (load : LoadSource) (calls : List EntryCall) (fail : Option ℕ) → spelling (OfCall call (Process load calls fail)) ≡ lone_text (codes "process") call ++ (spaced (source_words load) ++ (spaced (map call_text calls) ++ spaced (fail_words fail)))
spelled_process call load calls fail =
    joined_spaced (codes "process") (decimal call ∷ (source_words load ++ (map call_text calls ++ fail_words fail)))
    ∙ ap (λ x. codes "process" ++ (32 ∷ decimal call ++ x)) (flat_map-append (λ (word : List ℕ). 32 ∷ word) (source_words load) (map call_text calls ++ fail_words fail)
    ∙ ap (λ x. spaced (source_words load) ++ x) (flat_map-append (λ (word : List ℕ). 32 ∷ word) (map call_text calls) (fail_words fail)))
    ∙ regroup
  where
    regroup : codes "process" ++ (32 ∷ decimal call ++ (spaced (source_words load) ++ (spaced (map call_text calls) ++ spaced (fail_words fail)))) ≡ lone_text (codes "process") call ++ (spaced (source_words load) ++ (spaced (map call_text calls) ++ spaced (fail_words fail)))
    regroup = refl

-- Only a write by somebody else makes a key one that somebody else has written.
--     unwritten_run       over a run
--     unwritten_opening   a coherent opening counts none, if the world at the begin of the run doesn't
--     unwritten_since     so none is counted if nobody else has written the store since
use Rattle.jc_world.proofs.Common.{Change, Claim, after_answer, after_process, after_report, and_from, foreign_committed, has_changed, insert, is_agreed, is_true_load, is_true_report, load_from, part_of, remove, with_doubt, run_result, WriteAnswer, ProcessResult, LoadAnswer, State, and_parts, not, is_misled, get, Some, reopens, read_answer, new_part, ◌&&◌, ◌||◌, Parts, are_honest, Part, ◌≡◌, ◌⊎◌, ℕ, Bool, true, false, cond, List, [], ◌∷◌, ◌++◌, is_none, None, option_map, sym, refl, ap, ◌∙◌, subst, subst₂, inl, inr, or_parts, list_any, empty, get-empty, same_cache, get-with_entry, Config, WriterFailed, Bytes, Cache, entry_at, key_cmp, Shown, WorldEvent, Happens, Step, Run, with_met_by, report_for, keys_reported, reported_now, after_reopening, Coherent, IsOpeningWorld, is_reopening, WorldState, cached_entry, without_foreign}
use Rattle.jc_world.specs.Openings.{is_by_others, LastOpening, EndsInReopening}
use Rattle.jc_world.specs.Reopening.{foreign_reopened}
use Rattle.jc_world.proofs.Lemmas.{split, each_report, KeyChange, by_nothing, by_refusal, by_step, by_reservation, by_join, by_commit, by_withdrawal, by_mark, by_answer, by_retry, key_change, ends_as}
use Rattle.jc_world.proofs.Reopened.{stored_opened}
use Rattle.jc_world.proofs.Runs.{run-last}
use Rattle.jc_world.proofs.Holding.{is_part}
use Rattle.jc_world.proofs.Maps.{keys_ordered, each_put, each_left}

-- no key is counted, and nobody has lied
pub record CountsNone (w : WorldState) : Type 0 where
  pub none : w.foreign ≡ empty
  pub honest : (key : Bytes) (part : Part) → get w.parts key ≡ Some part → is_misled part ≡ false

-- as long as everyone was honest
abbrev Unwritten : WorldState → Type 0
Unwritten w = are_honest w.premises ≡ true → CountsNone w

-- of no keys none is left
left_empty : (m : Cache) (key : Bytes) (over : Bool) → m ≡ empty → without_foreign m key over ≡ empty
left_empty m key false none = none
left_empty m key true none =
    same_cache _ empty (λ q.
    get-with_entry m key None q
    ∙ split q key (λ b. cond b None (entry_at m q) ≡ entry_at empty q) (λ same. sym (get-empty key_cmp q)) (λ apart. ap (λ c. entry_at c q) none))

reopened_empty : (m : Cache) (stored : Bool) → m ≡ empty → foreign_reopened m stored ≡ empty
reopened_empty m true none = refl
reopened_empty m false none = none

-- nobody has lied about a part more, or about one less
put_honest : (parts : Parts) (key : Bytes) (new : Part) → is_misled new ≡ false → ((q : Bytes) (part : Part) → get parts q ≡ Some part → is_misled part ≡ false) → (q : Bytes) (part : Part) → get (insert parts key new) q ≡ Some part → is_misled part ≡ false
put_honest parts key new one all = each_put keys_ordered (λ q part. is_misled part ≡ false) parts key new one all

left_honest : (parts : Parts) (key : Bytes) → ((q : Bytes) (part : Part) → get parts q ≡ Some part → is_misled part ≡ false) → (q : Bytes) (part : Part) → get (remove parts key) q ≡ Some part → is_misled part ≡ false
left_honest parts key all = each_left keys_ordered (λ q part. is_misled part ≡ false) parts key (λ q part apart is. all q part is)

-- of a part about which nobody has lied, an honest answer makes another one
heard_honest : (was honest : Bool) → was ≡ false → honest ≡ true → (was || not honest) ≡ false
heard_honest was honest w h = λ i. w i || not (h i)

-- whom an answer leaves honest, was so before, and was with it
loader_honest : (w l h : Bool) → (w && (l && h)) ≡ true → ((w && l) ≡ true) × (h ≡ true)
loader_honest w l h e =
    let a = and_parts w (l && h) e in
    let b = and_parts l h a.1 in
    (and_from w l a.0 b.0, b.1)

writer_honest : (w h l : Bool) → ((w && h) && l) ≡ true → ((w && l) ≡ true) × (h ≡ true)
writer_honest w h l e =
    let a = and_parts (w && h) l e in
    let b = and_parts w h a.0 in
    (and_from w l b.0 a.1, b.1)

-- a commit about which nobody has lied
left_committed : (w : WorldState) (key : Bytes) (part : Part) (to : State) → is_misled part ≡ false → w.foreign ≡ empty → foreign_committed w key part to ≡ empty
left_committed w key part to honest none =
    left_empty (with_doubt w.foreign key (is_misled part)) key (is_agreed (entry_at to.cache key) (entry_at w.store key)) (ap (with_doubt w.foreign key) honest ∙ none)

-- by the kind of the change at a key
unwritten_key : (w new : WorldState) (e : WorldEvent) (key : Bytes) (seen : Shown) → KeyChange w new e key seen → Unwritten w → Unwritten new
unwritten_key w new e key seen (by_nothing is none ends) old = subst Unwritten (sym is) old
unwritten_key w new e key seen (by_refusal u op refusal may is none ends) old = subst Unwritten (sym is) (λ hold. let o = old hold in record { none = o.none; honest = o.honest })
unwritten_key w new e key seen (by_step u op from to x may there h home_is is shows ends) old = subst Unwritten (sym is) (λ hold. let o = old hold in record { none = o.none; honest = o.honest })
unwritten_key w new e key seen (by_reservation u op from to p r may there h is none ends) old =
    subst Unwritten (sym is) (λ hold.
    let o = old hold in
    record { none = left_empty w.foreign key (is_none (cached_entry w key)) o.none; honest = put_honest w.parts key (new_part p r) h.unmisled o.honest })
unwritten_key w new e key seen (by_join u op from to join may there h is none ends) old = subst Unwritten (sym is) (λ hold. let o = old hold in record { none = o.none; honest = o.honest })
unwritten_key w new e key seen (by_commit call part from to x e_is part_is there h home_is is shows) old =
    subst Unwritten (sym is) (λ hold.
    let o = old hold in
    record { none = left_committed w key part to (o.honest key part (is_part (get w.parts key) call part part_is)) o.none; honest = left_honest w.parts key o.honest })
unwritten_key w new e key seen (by_withdrawal call part from to e_is part_is there h is shows) old =
    subst Unwritten (sym is) (λ hold. let o = old hold in record { none = o.none; honest = left_honest w.parts key o.honest })
unwritten_key w new e key seen (by_mark from to there out h reached is none ends) old = subst Unwritten (sym is) (λ hold. let o = old hold in record { none = o.none; honest = o.honest })
unwritten_key w new e key seen (by_answer call join from to x e_is join_is there h home_is is shows ends) old = subst Unwritten (sym is) (λ hold. let o = old hold in record { none = o.none; honest = o.honest })
unwritten_key w new e key seen (by_retry call join from to e_is join_is there h is shows ends) old = subst Unwritten (sym is) (λ hold. let o = old hold in record { none = o.none; honest = o.honest })

-- the loader has answered
unwritten_answer : (w : WorldState) (call : ℕ) (key : Bytes) (part : Part) (answer : LoadAnswer) → part_of w call key ≡ Some part → Unwritten w → Unwritten (after_answer w key part answer)
unwritten_answer w call key part answer is old hold =
    let honest = is_true_load answer (entry_at w.store key) in
    let h = loader_honest w.premises.writers w.premises.loaders honest hold in
    let o = old h.0 in
    record { none = o.none; honest = put_honest w.parts key _ (heard_honest (is_misled part) honest (o.honest key part (is_part (get w.parts key) call part is)) h.1) o.honest }

-- the processor has run
unwritten_process : (w : WorldState) (call : ℕ) (key : Bytes) (part : Part) (done : ProcessResult Claim) → part_of w call key ≡ Some part → Unwritten w → Unwritten (after_process w key part done)
unwritten_process w call key part done is old hold =
    let honest = is_true_load done.load (entry_at w.store key) in
    let h = loader_honest w.premises.writers w.premises.loaders honest hold in
    let o = old h.0 in
    record { none = o.none; honest = put_honest w.parts key _ (heard_honest (is_misled part) honest (o.honest key part (is_part (get w.parts key) call part is)) h.1) o.honest }

-- the writer has returned
unwritten_report : (w : WorldState) (call : ℕ) (key : Bytes) (part : Part) (report : WriteAnswer) → part_of w call key ≡ Some part → Unwritten w → Unwritten (after_report w key part report)
unwritten_report w call key part report is old hold =
    let honest = is_true_report report (has_changed part) in
    let h = writer_honest w.premises.writers honest w.premises.loaders hold in
    let o = old h.0 in
    record { none = o.none; honest = put_honest w.parts key _ (heard_honest (is_misled part) honest (o.honest key part (is_part (get w.parts key) call part is)) h.1) o.honest }

unwritten_happens : (w new : WorldState) (e : WorldEvent) (seen : Shown) → is_reopening seen.outcome ≡ false → is_by_others e ≡ false → Happens w e seen new → Unwritten w → Unwritten new
unwritten_happens w new (WorldEvent.Look call stripe) seen none ours h old = subst Unwritten (sym h.9) (λ hold. let o = old hold in record { none = o.none; honest = o.honest })
unwritten_happens w new (WorldEvent.Read call key) seen none ours h old = subst Unwritten (sym h.3) (unwritten_answer w call key h.0 (read_answer (entry_at w.store key)) h.1 old)
unwritten_happens w new (WorldEvent.Say call key answer) seen none ours h old = subst Unwritten (sym h.3) (unwritten_answer w call key h.0 answer h.1 old)
unwritten_happens w new (WorldEvent.Process call key source calls fail) seen none ours h old =
    subst Unwritten (sym h.3) (unwritten_process w call key h.0 (run_result h.0.reservation (load_from source (entry_at w.store key)) calls fail) h.1 old)
unwritten_happens w new (WorldEvent.Change call key) seen none ours h old =
    subst Unwritten (sym h.5) (λ hold. let o = old hold in record { none = left_empty w.foreign key true o.none; honest = put_honest w.parts key _ refl o.honest })
unwritten_happens w new (WorldEvent.Report call left fault) seen none ours h old =
    let answer = report_for h.0.kind left fault in
    subst Unwritten (sym h.3)
    (each_report Unwritten call answer (λ v key part at waits o. unwritten_report v call key part (answer key) at o) (with_met_by w call (option_map WriterFailed fault)) (keys_reported (reported_now w call h.0))
    (λ hold. let o = old hold in record { none = o.none; honest = o.honest }))
unwritten_happens w new (WorldEvent.Call call session command) seen none ours h old = subst Unwritten (sym h.1) (λ hold. let o = old hold in record { none = o.none; honest = o.honest })
unwritten_happens w new (WorldEvent.Commit call key) seen none ours h old =
    subst Unwritten (sym (ends_as w new call key h.0 h.2 h.4 seen.outcome h.5).4) (λ hold.
    let o = old hold in
    record { none = left_committed w key h.0 h.4 (o.honest key h.0 (is_part (get w.parts key) call h.0 h.1)) o.none; honest = left_honest w.parts key o.honest })
unwritten_happens w new (WorldEvent.Withdraw call key) seen none ours h old =
    subst Unwritten (sym h.7) (λ hold. let o = old hold in record { none = o.none; honest = left_honest w.parts key o.honest })
unwritten_happens w new (WorldEvent.Invalidate key) seen none ours h old = subst Unwritten (sym h.5) (λ hold. let o = old hold in record { none = o.none; honest = o.honest })
unwritten_happens w new (WorldEvent.Leave call) seen none ours h old = subst Unwritten (sym h.1) (λ hold. let o = old hold in record { none = o.none; honest = o.honest })
unwritten_happens w new (WorldEvent.Foreign key value) seen none ours h old = let t : true ≡ false = ours in cc
unwritten_happens w new (WorldEvent.Reopen config) seen none ours h old = let t : true ≡ false = ap (λ (s : Shown). is_reopening s.outcome) (sym h.0) ∙ none in cc
unwritten_happens w new e seen none ours h old = let k = key_change w new e seen refl h in unwritten_key w new e k.0 seen k.1 old

unwritten_step : (w new : WorldState) (e : WorldEvent) (seen : Shown) → Step w e seen new → is_reopening seen.outcome ≡ false → is_by_others e ≡ false → Unwritten w → Unwritten new
unwritten_step w new e seen (inl (fit, happens)) none ours old = unwritten_happens w new e seen none ours happens old
unwritten_step w new e seen (inr (unfit, shows, is)) none ours old = subst Unwritten (sym is) old

pub unwritten_run : (w new : WorldState) (es : List WorldEvent) (ss : List Shown) → Run w es ss new → reopens ss ≡ false → list_any is_by_others es ≡ false → Unwritten w → Unwritten new
unwritten_run w new [] [] run none ours old = subst Unwritten (sym run) old
unwritten_run w new (e ∷ es) (s ∷ ss) (mid, step, rest) none ours old =
    let shown = or_parts (is_reopening s.outcome) (reopens ss) none in
    let parts = or_parts (is_by_others e) (list_any is_by_others es) ours in
    unwritten_run mid new es ss rest shown.1 parts.1 (unwritten_step w mid e s step shown.0 parts.0 old)
unwritten_run w new es ss run none ours old = absurd run

-- what a run opened with last

opening_reopened : (config : Config) (w new : WorldState) (s : Shown) → Step w (WorldEvent.Reopen config) s new → is_reopening s.outcome ≡ true → new ≡ after_reopening config w
opening_reopened config w new s (inl (fit, happens)) says = happens.1
opening_reopened config w new s (inr (unfit, shows, is)) says = absurd (let t : false ≡ true = sym (ap (λ (x : Shown). is_reopening x.outcome) shows) ∙ says in cc)

-- an opening about whose keys nobody is asked
opened_none : (w : WorldState) → IsOpeningWorld w → w.foreign ≡ empty → CountsNone w
opened_none w begins none = record { none = none; honest = λ key part is. absurd (let t : None ≡ Some part = sym (ap (λ m. get m key) begins.parts ∙ get-empty key_cmp key) ∙ is in cc) }

none_kept : (config : Config) (w : WorldState) → IsOpeningWorld (after_reopening config w) → Coherent (after_reopening config w) → (after_reopening config w).foreign ≡ empty
none_kept config w begins coherent = ap (foreign_reopened w.foreign) (stored_opened config w begins coherent)

reopened_none : (first opening : WorldState) (before : List WorldEvent) (shown : List Shown) → EndsInReopening before shown → Run first before shown opening → IsOpeningWorld opening → Coherent opening → opening.foreign ≡ empty
reopened_none first opening before shown ends run begins coherent =
    let R : List WorldEvent → List Shown → Type 0 = λ es ss. Run first es ss opening in
    let at : R (ends.before ++ WorldEvent.Reopen ends.config ∷ []) (ends.shown ++ ends.last ∷ []) = subst₂ R ends.events_are ends.seen_are run in
    let last = run-last first opening ends.before ends.shown (WorldEvent.Reopen ends.config) ends.last at in
    let is = opening_reopened ends.config last.0 opening ends.last last.2 ends.reopening in
    ap (λ (w : WorldState). w.foreign) is ∙ none_kept ends.config last.0 (subst IsOpeningWorld is begins) (subst Coherent is coherent)

unwritten_opening : (first new : WorldState) (es : List WorldEvent) (ss : List Shown) (last : LastOpening first es ss new) → first.foreign ≡ empty → Coherent last.opening → last.opening.foreign ≡ empty
unwritten_opening first new es ss last none coherent = go last.which
  where
    go : ((last.before ≡ []) × (last.opening ≡ first)) ⊎ EndsInReopening last.before last.shown_before → last.opening.foreign ≡ empty
    go (inl (nothing, is)) = ap (λ (w : WorldState). w.foreign) is ∙ none
    go (inr ends) = reopened_none first last.opening last.before last.shown_before ends last.run last.reached.0.0 coherent

pub unwritten_since : (first new : WorldState) (es : List WorldEvent) (ss : List Shown) (last : LastOpening first es ss new) → first.foreign ≡ empty → Coherent last.opening → list_any is_by_others last.since ≡ false → are_honest new.premises ≡ true → new.foreign ≡ empty
unwritten_since first new es ss last none coherent ours honest =
    (unwritten_run last.opening new last.since last.shown_since last.reached.0.1 last.reached.1 ours (λ hold. opened_none last.opening last.reached.0.0 (unwritten_opening first new es ss last none coherent)) honest).none

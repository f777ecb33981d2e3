-- How the numbers of a witness mirror a scene, move by move.
--     Mirrors               the last number is that of the world, each thread has begun as many items, each call under way has its
--                           thread's number, and no two threads have one number
--     MovesAs               a move has a line that plays it, and the numbers then mirror the scene after it
--     goes_on, begins       so it is of a move of a call under way, and of one by which an item begins
--     PlaysLinesOf          a schedule has lines that play it, and they are those of its witness
--     schedule_plays        so it is of each schedule from a scene that the numbers mirror
use Rattle.jc_litmus.proofs.Common.{[], and_from, ap, arith, Bool, Bytes, cond, false, flat_map, inl, inr, List, list_all, map, nat_lt, None, not, Option, refl, slice_get, Some, subst, subst₂, suc, sym, true, ℕ, ◌&&◌, ◌++◌, ◌+◌, ◌<◌, ◌==◌, ◌∙◌, ◌∷◌, ◌≡◌, ◌≤◌}
use Rattle.std.specs.Prelude.{find, if◌then◌else◌, option_map, slice_set, zero, ◌-◌, ◌||◌}
use Rattle.std.specs.List.{AllByRecursion}
use Rattle.std.proofs.Common.{eq-eqb, eqb-true, true≢false}
use Rattle.std.specs.Prelude.{◌⊎◌}
use Rattle.std.proofs.lemmas.List.{map-set}
use Rattle.std.proofs.lemmas.Option.{slice_get-map}
use Rattle.jc_types.proofs.CallerLemmas.{found_test}
use Rattle.jc_types.specs.declared.limits.TheConstants.{NUMBER_MAX}
use Rattle.jc_model.specs.declared.event.Op.{Op}
use Rattle.jc_model.specs.declared.event.Op.TheVariants.{Invoke}
use Rattle.jc_model.specs.declared.processor.EntryCall.{EntryCall}
use Rattle.jc_world.specs.Calls.{CallState, has_number, is_of_session, new_call}
use Rattle.jc_world.specs.Runs.{Run}
use Rattle.jc_world.specs.World.{open_call, WorldState}
use Rattle.jc_world.specs.declared.command.Command.TheVariants as command
use Rattle.jc_world.specs.declared.command.CallKind.TheVariants as kind
use Rattle.jc_world.specs.declared.event.Shown.{Shown}
use Rattle.jc_world.specs.declared.event.WorldEvent.{WorldEvent}
use Rattle.jc_world.specs.declared.event.WorldEvent.TheVariants as event
use Rattle.jc_explore.specs.declared.moves.Act.{Act}
use Rattle.jc_explore.specs.declared.moves.Act.TheVariants as act
use Rattle.jc_explore.specs.declared.moves.Move.{Move}
use Rattle.jc_explore.specs.declared.program.Faults.{Faults}
use Rattle.jc_explore.specs.declared.program.Item.{Item}
use Rattle.jc_explore.specs.declared.program.Item.TheVariants as item
use Rattle.jc_explore.specs.declared.program.Program.{Program}
use Rattle.jc_explore.specs.declared.scene.Position.{Position}
use Rattle.jc_explore.specs.Moves.{is_begin}
use Rattle.jc_explore.specs.Schedule.{act_events, begin_events, call_events, call_under_way, has_number_left, if_failing, if_idle, is_proper, item_at, move_events, move_events_at, Moves, next_number, PlaysSchedule, positions_after, positions_at, SceneState, under_way}
use Rattle.jc_text.specs.declared.read.line.Line.{Line}
use Rattle.jc_text.specs.declared.read.line.Line.TheVariants.{Begin, Foreign, Invalidate}
use Rattle.jc_litmus.specs.declared.witness.Progress.{Progress}
use Rattle.jc_litmus.specs.Playing.{IsPlayedAs, PlaysMoves}
use Rattle.jc_litmus.specs.Witness.{begin_line, begun_by, begun_item, call_line, has_numbers, last_after, last_at, last_by, line_at, line_of_move, piped, piped_if, steps_text, thread_progress_after, threads_at}
use Rattle.jc_litmus.proofs.Mirroring.{AllMirrored, asked_in, is_within, IsFree, IsMirrored, Keeps, keeps_happens, keeps_run, mirrored_as}
use Rattle.jc_litmus.proofs.MoveLines.{act_plays, HasLine}
use Rattle.jc_litmus.proofs.BeginLines.{begins_call, foreign_plays, invalidate_plays}

-- 1. Scenes.

abbrev pub of_thread : Progress → ℕ
of_thread t = t.begun

abbrev pub of_position : Position → ℕ
of_position q = q.begun

pub record Mirrors (p : Program) (s : SceneState) (last : ℕ) (threads : List Progress) : Type 0 where
  pub last_is : next_number s.world.last ≡ last + 1
  pub begun : map of_thread threads ≡ map of_position s.positions
  pub calls : AllMirrored p threads s.world.calls
  pub free : IsFree s.world
  pub few : (at : ℕ) (t : Progress) → slice_get threads at ≡ Some t → t.call ≤ last
  pub apart : (at other : ℕ) (one two : Progress) → slice_get threads at ≡ Some one → slice_get threads other ≡ Some two → one.call ≡ two.call → (one.call ≡ 0 → ⊥) → at ≡ other

-- a thread has begun as many items as its numbers say
thread_of : (p : Program) (s : SceneState) (last : ℕ) (threads : List Progress) → Mirrors p s last threads → (at : ℕ) (q : Position) → slice_get s.positions at ≡ Some q
    → (t : Progress) × (slice_get threads at ≡ Some t) × (t.begun ≡ q.begun)
thread_of p s last threads m at q there =
    by (slice_get threads at) refl (sym (slice_get-map of_thread threads at) ∙ ap (λ ns. slice_get ns at) m.begun ∙ slice_get-map of_position s.positions at ∙ ap (option_map of_position) there)
  where
    by : (o : Option Progress) → slice_get threads at ≡ o → option_map of_thread o ≡ Some q.begun → (t : Progress) × (slice_get threads at ≡ Some t) × (t.begun ≡ q.begun)
    by None here h = cc
    by (Some t) here h = let same : t.begun ≡ q.begun = cc in (t, here, same)

-- 2. Lists of which one place is another.

set_same : {A : Type 0} (xs : List A) (i : ℕ) (x : A) → slice_get xs i ≡ Some x → slice_set xs i x ≡ xs
set_same [] i x h = cc
set_same (y ∷ ys) zero x h = let is : y ≡ x = cc in ap (λ z. z ∷ ys) (sym is)
set_same (y ∷ ys) (suc i) x h = ap (λ zs. y ∷ zs) (set_same ys i x h)

set_here : {A : Type 0} (xs : List A) (i : ℕ) (old x : A) → slice_get xs i ≡ Some old → slice_get (slice_set xs i x) i ≡ Some x
set_here [] i old x h = cc
set_here (y ∷ ys) zero old x h = refl
set_here (y ∷ ys) (suc i) old x h = set_here ys i old x h

set_there : {A : Type 0} (xs : List A) (i j : ℕ) (x : A) → (i ≡ j → ⊥) → slice_get (slice_set xs i x) j ≡ slice_get xs j
set_there [] i j x apart = refl
set_there (y ∷ ys) zero zero x apart = absurd (apart refl)
set_there (y ∷ ys) zero (suc j) x apart = refl
set_there (y ∷ ys) (suc i) zero x apart = refl
set_there (y ∷ ys) (suc i) (suc j) x apart = set_there ys i j x (λ e. apart (ap suc e))

same_place : (i j : ℕ) (P : Type 0) → (i ≡ j → P) → ((i ≡ j → ⊥) → P) → P
same_place i j P here there =
    elim (i == j) as (λ b. (i == j) ≡ b → P) [
      | true ↦ λ e. here (eqb-true i j e)
      | false ↦ λ e. there (λ is. let t : true ≡ false = sym (eq-eqb i j is) ∙ e in cc)
    ] refl

-- 3. Calls that are found.

-- of a session that has no call under way
no_session : (session : ℕ) (us : List CallState) → find (is_of_session session) us ≡ None → AllByRecursion (λ (u : CallState). (u.caller.session == session) ≡ false) us
no_session session [] none = tt
no_session session (u ∷ us) none =
    elim (is_of_session session u) as (λ b. is_of_session session u ≡ b → cond b (Some u) (find (is_of_session session) us) ≡ None → AllByRecursion (λ (u : CallState). (u.caller.session == session) ≡ false) (u ∷ us)) [
      | true ↦ λ e h. cc
      | false ↦ λ e h. (e, no_session session us h)
    ] refl none

find_none : (test : CallState → Bool) (us : List CallState) → AllByRecursion (λ u. test u ≡ false) us → find test us ≡ None
find_none test [] all = refl
find_none test (u ∷ us) all = (λ i. cond (all.0 i) (Some u) (find_none test us all.1 i))

all_found : (P : CallState → Type 0) (test : CallState → Bool) (us : List CallState) (u : CallState) → AllByRecursion P us → find test us ≡ Some u → P u
all_found P test [] u all h = cc
all_found P test (x ∷ us) u all h =
    elim (test x) as (λ b. cond b (Some x) (find test us) ≡ Some u → P u) [
      | true ↦ λ h. let is : x ≡ u = cc in subst P is all.0
      | false ↦ λ h. all_found P test us u all.1 h
    ] h

-- a call that passes one test and is found by it is among those of which one passes another that it passes
found_other : (one other : CallState → Bool) (us : List CallState) (u : CallState) → find one us ≡ Some u → other u ≡ true → (v : CallState) × (find other us ≡ Some v)
found_other one other [] u h passes = cc
found_other one other (x ∷ us) u h passes =
    elim (other x) as (λ b. other x ≡ b → (v : CallState) × (cond b (Some x) (find other us) ≡ Some v)) [
      | true ↦ λ e. (x, refl)
      | false ↦ λ e.
          elim (one x) as (λ b. cond b (Some x) (find one us) ≡ Some u → (v : CallState) × (find other us ≡ Some v)) [
            | true ↦ λ h. let is : x ≡ u = cc in let t : true ≡ false = sym passes ∙ ap other (sym is) ∙ e in cc
            | false ↦ λ h. found_other one other us u h passes
          ] h
    ] refl

all_mapped : (P Q : CallState → Type 0) (us : List CallState) → ((u : CallState) → P u → Q u) → AllByRecursion P us → AllByRecursion Q us
all_mapped P Q [] f all = tt
all_mapped P Q (u ∷ us) f all = (f u all.0, all_mapped P Q us f all.1)

all_both : (P Q R : CallState → Type 0) (us : List CallState) → ((u : CallState) → P u → Q u → R u) → AllByRecursion P us → AllByRecursion Q us → AllByRecursion R us
all_both P Q R [] f one other = tt
all_both P Q R (u ∷ us) f one other = (f u one.0 other.0, all_both P Q R us f one.1 other.1)

all_more : (P : CallState → Type 0) (us : List CallState) (u : CallState) → AllByRecursion P us → P u → AllByRecursion P (us ++ u ∷ [])
all_more P [] u all one = (one, tt)
all_more P (x ∷ us) u all one = (all.0, all_more P us u all.1 one)

-- 4. A move of a call under way.

pub record MovesAs (p : Program) (old mid : SceneState) (m : Move) (seen : List Shown) (last : ℕ) (threads : List Progress) : Type 0 where
  pub line : Line
  pub line_is : line_of_move p last threads m ≡ Some line
  pub played : IsPlayedAs old.world line seen mid.world
  pub mirrors : Mirrors p mid (last_after p last threads m) (thread_progress_after p last threads m)

failing_within : (o : Option ℕ) (events : ℕ → List WorldEvent) → ((code : ℕ) → list_all is_within (events code) ≡ true) → list_all is_within (if_failing o events) ≡ true
failing_within None events h = refl
failing_within (Some code) events h = h code

act_within : (f : Faults) (c : ℕ) (key : Bytes) (calls : List EntryCall) (a : Act) → list_all is_within (act_events f c key calls a) ≡ true
act_within f c key calls act.Begin = refl
act_within f c key calls act.Read = refl
act_within f c key calls act.LoadFails = failing_within f.load _ (λ code. refl)
act_within f c key calls act.Process = refl
act_within f c key calls act.ProcessLoadFails = failing_within f.load _ (λ code. refl)
act_within f c key calls act.ProcessFails = failing_within f.process _ (λ code. refl)
act_within f c key calls act.Write = refl
act_within f c key calls act.WriteFails = failing_within f.write _ (λ code. refl)
act_within f c key calls act.WriteLies = failing_within f.lie _ (λ code. refl)
act_within f c key calls act.Commit = refl
act_within f c key calls act.PickUp = refl

-- no event shows nothing
nothing_proper : {P : Type 0} (w after : WorldState) (seen : List Shown) → Run w [] seen after → is_proper seen ≡ true → P
nothing_proper w after [] run proper = absurd (true≢false (sym proper))
nothing_proper w after (s ∷ seen) run proper = absurd run

module _ (p : Program) (threads : List Progress) (w after : WorldState) (free : IsFree w) where
  -- the line of an act of the item that the call is of
  item_plays : (c : ℕ) (v : CallState) (op : Op) (key : Bytes) (x : Option Item) (a : Act) (seen : List Shown) → open_call w c ≡ Some v → v.kind ≡ kind.Single → v.tasks ≡ (key, Some op) ∷ [] → asked_in x ≡ Some (op, key) → is_begin a ≡ false
      → Run w (call_events p.faults c x a) seen after → is_proper seen ≡ true → HasLine w after (call_line p.faults c x a) seen × Keeps p threads w after
  item_plays c v op key None a seen here one tasks asked goes run proper = cc
  item_plays c v op key (Some (item.Call o k)) a seen here one tasks asked goes run proper =
      let is : (o, k) ≡ (op, key) = cc in
      let at : v.tasks ≡ (k, Some o) ∷ [] = tasks ∙ sym (ap (λ (x : Op × Bytes). (x.1, Some x.0) ∷ []) is) in
      (act_plays w after p.faults c v o k [] here one at free a goes seen run proper, keeps_run p threads w after (act_events p.faults c k [] a) seen (act_within p.faults c k [] a) run)
  item_plays c v op key (Some (item.Invoke k calls)) a seen here one tasks asked goes run proper =
      let is : (Invoke, k) ≡ (op, key) = cc in
      let at : v.tasks ≡ (k, Some Invoke) ∷ [] = tasks ∙ sym (ap (λ (x : Op × Bytes). (x.1, Some x.0) ∷ []) is) in
      (act_plays w after p.faults c v Invoke k calls here one at free a goes seen run proper, keeps_run p threads w after (act_events p.faults c k calls a) seen (act_within p.faults c k calls a) run)
  item_plays c v op key (Some (item.Foreign k value)) a seen here one tasks asked goes run proper = cc
  item_plays c v op key (Some (item.Invalidate k)) a seen here one tasks asked goes run proper = cc

-- the call that a thread has under way
call_plays : (p : Program) (s : SceneState) (after : WorldState) (last : ℕ) (threads : List Progress) (m : Move) (q : Position) (t : Progress) (u : CallState) (seen : List Shown) → Mirrors p s last threads
    → slice_get threads m.thread ≡ Some t → t.begun ≡ q.begun → find (is_of_session (m.thread + 1)) s.world.calls ≡ Some u → is_begin m.act ≡ false
    → Run s.world (call_events p.faults u.caller.call (item_at p m.thread (q.begun - 1)) m.act) seen after → is_proper seen ≡ true
    → HasLine s.world after (call_line p.faults t.call (item_at p m.thread (t.begun - 1)) m.act) seen × Keeps p threads s.world after
call_plays p s after last threads m q t u seen mirrors there same found goes run proper =
    let w : WorldState = s.world in
    let M : CallState → Type 0 = IsMirrored p threads in
    let c : ℕ = u.caller.call in
    let mu = all_found M (is_of_session (m.thread + 1)) w.calls u mirrors.calls found in
    let session : u.caller.session ≡ m.thread + 1 = eqb-true u.caller.session (m.thread + 1) (found_test (is_of_session (m.thread + 1)) w.calls u found) in
    let place : mu.thread ≡ m.thread = omega (arith, mu.session_is, session) in
    let other = found_other (is_of_session (m.thread + 1)) (has_number c) w.calls u found (eq-eqb c c refl) in
    let v : CallState = other.0 in
    let mv = all_found M (has_number c) w.calls v mirrors.calls other.1 in
    let number : v.caller.call ≡ c = eqb-true v.caller.call c (found_test (has_number c) w.calls v other.1) in
    let calls : mv.progress.call ≡ mu.progress.call = sym mv.number_is ∙ number ∙ mu.number_is in
    let threads_are : mv.thread ≡ mu.thread = mirrors.apart mv.thread mu.thread mv.progress mu.progress mv.there mu.there calls mv.counts in
    let of_v : mv.progress ≡ t = some_same (sym mv.there ∙ ap (slice_get threads) (threads_are ∙ place) ∙ there) in
    let of_u : mu.progress ≡ t = some_same (sym mu.there ∙ ap (slice_get threads) place ∙ there) in
    let asked : asked_in (item_at p m.thread (q.begun - 1)) ≡ Some (mv.op, mv.key) =
    ap (λ n. asked_in (item_at p m.thread (n - 1))) (sym same) ∙ (λ i. asked_in (item_at p (sym (threads_are ∙ place) i) ((sym of_v i).begun - 1))) ∙ mv.asked
    in
    let plays = item_plays p threads w after mirrors.free c v mv.op mv.key (item_at p m.thread (q.begun - 1)) m.act seen other.1 mv.kind_is mv.tasks_are asked goes run proper in
    let mine : c ≡ t.call = mu.number_is ∙ ap (λ (x : Progress). x.call) of_u in
    let P : Option Line → Type 0 = λ l. HasLine w after l seen in
    (subst P (λ i. call_line p.faults (mine i) (item_at p m.thread (sym same i - 1)) m.act) plays.0, plays.1)
  where
    some_same : {a b : Progress} → Some a ≡ Some b → a ≡ b
    some_same e = cc

goes_on : (p : Program) (old mid : SceneState) (m : Move) (move : Moves p old m mid) (last : ℕ) (threads : List Progress) (q : Position) → Mirrors p old last threads → slice_get old.positions m.thread ≡ Some q → is_begin m.act ≡ false
    → MovesAs p old mid m move.seen last threads
goes_on p old mid m move last threads q mirrors there goes =
    let w : WorldState = old.world in
    let found = thread_of p old last threads mirrors m.thread q there in
    let t : Progress = found.0 in
    let session : ℕ = m.thread + 1 in
    let events : move_events p old m ≡ under_way p.faults (call_under_way w session) (item_at p m.thread (q.begun - 1)) m.act =
    ap (move_events_at p w m) there
    ∙ (λ i. if (not (goes i) || has_number_left w.last q)
    then (if goes i then if_idle (call_under_way w session) (begin_events (next_number w.last) session (item_at p m.thread q.begun)) else under_way p.faults (call_under_way w session) (item_at p m.thread (q.begun - 1)) m.act)
    else []) in
    let run = subst (λ (es : List WorldEvent). Run w es move.seen mid.world) events move.runs in
    let plays : HasLine w mid.world (call_line p.faults t.call (item_at p m.thread (t.begun - 1)) m.act) move.seen × Keeps p threads w mid.world = by t found.1 found.2 (find (is_of_session session) w.calls) refl run in
    let keeps = plays.1 in
    let line_is : line_of_move p last threads m ≡ call_line p.faults t.call (item_at p m.thread (t.begun - 1)) m.act =
    ap (line_at p last m) found.1
    ∙ (λ i. if goes i then (if has_numbers last t then begin_line (last + 1) (m.thread + 1) (item_at p m.thread t.begun) else None) else call_line p.faults t.call (item_at p m.thread (t.begun - 1)) m.act) in
    let none : begun_item p last m t ≡ None = (λ i. if goes i && has_numbers last t then item_at p m.thread t.begun else None) in
    let last_is : last_after p last threads m ≡ last = ap (last_at p last m) found.1 ∙ ap (last_by last) none in
    let threads_are : thread_progress_after p last threads m ≡ threads = ap (threads_at p last threads m) found.1 ∙ ap (λ x. slice_set threads m.thread (begun_by last t x)) none ∙ set_same threads m.thread t found.1 in
    let stay : positions_after old m ≡ old.positions = ap (positions_at m old.positions) there ∙ (λ i. slice_set old.positions m.thread (if goes i then record { begun = q.begun + 1 } else q)) ∙ set_same old.positions m.thread q there in
    let after : Mirrors p mid last threads = record {
      last_is = ap next_number keeps.last_is ∙ mirrors.last_is;
      begun = mirrors.begun ∙ ap (map of_position) (sym (move.positions_are ∙ stay));
      calls = keeps.calls mirrors.calls;
      free = keeps.free mirrors.free;
      few = mirrors.few;
      apart = mirrors.apart;
    } in
    record {
      line = plays.0.line;
      line_is = line_is ∙ plays.0.line_is;
      played = plays.0.played;
      mirrors = subst₂ (Mirrors p mid) (sym last_is) (sym threads_are) after;
    }
  where
    by : (t : Progress) → slice_get threads m.thread ≡ Some t → t.begun ≡ q.begun → (o : Option CallState) → find (is_of_session (m.thread + 1)) old.world.calls ≡ o
        → Run old.world (under_way p.faults (option_map (λ (u : CallState). u.caller.call) o) (item_at p m.thread (q.begun - 1)) m.act) move.seen mid.world
        → HasLine old.world mid.world (call_line p.faults t.call (item_at p m.thread (t.begun - 1)) m.act) move.seen × Keeps p threads old.world mid.world
    by t here same None none run = nothing_proper old.world mid.world move.seen run move.proper
    by t here same (Some u) found run = call_plays p old mid.world last threads m q t u move.seen mirrors here same found goes run move.proper

-- 5. An item that begins.

-- the calls of other threads stay those of their items
others_stay : (p : Program) (threads : List Progress) (thread : ℕ) (t : Progress) (us : List CallState) → AllByRecursion (λ (u : CallState). (u.caller.session == (thread + 1)) ≡ false) us → AllMirrored p threads us → AllMirrored p (slice_set threads thread t) us
others_stay p threads thread t us idle all = all_both _ _ (IsMirrored p (slice_set threads thread t)) us stay idle all
  where
    stay : (u : CallState) → (u.caller.session == (thread + 1)) ≡ false → IsMirrored p threads u → IsMirrored p (slice_set threads thread t) u
    stay u other m =
        let apart : thread ≡ m.thread → ⊥ = λ same.
        let mine : u.caller.session ≡ thread + 1 = m.session_is ∙ ap (λ n. n + 1) (sym same) in
        let t : true ≡ false = sym (eq-eqb u.caller.session (thread + 1) mine) ∙ other in cc
        in
        mirrored_as p threads (slice_set threads thread t) u u refl refl refl refl m (set_there threads thread m.thread t apart ∙ m.there)

-- the last number is the one before or one more, and so is the thread's
module _ (p : Program) (old mid : SceneState) (thread : ℕ) (q : Position) (t next : Progress) (last more : ℕ) (threads : List Progress) (mirrors : Mirrors p old last threads) (there : slice_get old.positions thread ≡ Some q) (here : slice_get threads thread ≡ Some t) (same : t.begun ≡ q.begun) where
  begins_on : next_number mid.world.last ≡ more + 1 → mid.positions ≡ slice_set old.positions thread (record { begun = q.begun + 1 }) → next.begun ≡ t.begun + 1 → last ≤ more → next.call ≤ more → (next.call ≡ t.call) ⊎ (last < next.call)
      → AllMirrored p (slice_set threads thread next) mid.world.calls → IsFree mid.world → Mirrors p mid more (slice_set threads thread next)
  begins_on last_is positions begun up few_now new calls free = record {
    last_is = last_is;
    begun =
        map-set of_thread threads thread next
        ∙ (λ i. slice_set (mirrors.begun i) thread ((begun ∙ ap (λ n. n + 1) same) i))
        ∙ sym (map-set of_position old.positions thread (record { begun = q.begun + 1 }))
        ∙ ap (map of_position) (sym positions);
    calls = calls;
    free = free;
    few = λ at x is. same_place thread at (x.call ≤ more)
        (λ e.
        let mine : next ≡ x = some_same (sym (set_here threads thread t next here) ∙ ap (slice_get (slice_set threads thread next)) e ∙ is) in
        subst (λ (y : Progress). y.call ≤ more) mine few_now)
        (λ apart.
        let before : x.call ≤ last = mirrors.few at x (sym (set_there threads thread at next apart) ∙ is) in
        omega (arith, before, up));
    apart = λ at other one two is this same_call counts. same_place thread at (at ≡ other)
        (λ e.
        let mine : next ≡ one = some_same (sym (set_here threads thread t next here) ∙ ap (slice_get (slice_set threads thread next)) e ∙ is) in
        same_place thread other (at ≡ other) (λ e2. sym e ∙ e2)
        (λ apart. sym e ∙ alone other two (sym (set_there threads thread other next apart) ∙ this) (ap (λ (y : Progress). y.call) mine ∙ same_call) (λ z. counts (sym (ap (λ (y : Progress). y.call) mine) ∙ z))))
        (λ apart.
        let was : slice_get threads at ≡ Some one = sym (set_there threads thread at next apart) ∙ is in
        same_place thread other (at ≡ other)
        (λ e2.
        let mine : next ≡ two = some_same (sym (set_here threads thread t next here) ∙ ap (slice_get (slice_set threads thread next)) e2 ∙ this) in
        sym (alone at one was (ap (λ (y : Progress). y.call) mine ∙ sym same_call) (λ z. counts (same_call ∙ sym (ap (λ (y : Progress). y.call) mine) ∙ z))) ∙ e2)
        (λ apart2. mirrors.apart at other one two was (sym (set_there threads thread other next apart2) ∙ this) same_call counts));
  }
    where
      some_same : {a b : Progress} → Some a ≡ Some b → a ≡ b
      some_same e = cc

      -- no other thread has its number
      alone : (other : ℕ) (x : Progress) → slice_get threads other ≡ Some x → next.call ≡ x.call → (next.call ≡ 0 → ⊥) → thread ≡ other
      alone other x is call counts = by new
        where
          by : (next.call ≡ t.call) ⊎ (last < next.call) → thread ≡ other
          by (inl e) = mirrors.apart thread other t x here is (sym e ∙ call) (λ z. counts (e ∙ z))
          by (inr lt) = let before : x.call ≤ last = mirrors.few other x is in absurd (omega (arith, before, lt, call))

-- an item of a thread whose calls are over
pub record BeginsItem (p : Program) (old mid : SceneState) (m : Move) (t : Progress) (x : Option Item) (seen : List Shown) (last : ℕ) (threads : List Progress) : Type 0 where
  pub line : Line
  pub line_is : begin_line (last + 1) (m.thread + 1) x ≡ Some line
  pub played : IsPlayedAs old.world line seen mid.world
  pub mirrors : Mirrors p mid (last_by last x) (slice_set threads m.thread (begun_by last t x))

module _ (p : Program) (old mid : SceneState) (m : Move) (q : Position) (t : Progress) (last : ℕ) (threads : List Progress) (seen : List Shown) (mirrors : Mirrors p old last threads) (there : slice_get old.positions m.thread ≡ Some q) (here : slice_get threads m.thread ≡ Some t) (same : t.begun ≡ q.begun)
    (positions : mid.positions ≡ slice_set old.positions m.thread (record { begun = q.begun + 1 })) (idle : find (is_of_session (m.thread + 1)) old.world.calls ≡ None) (proper : is_proper seen ≡ true) where
  abbrev n : ℕ
  n = next_number old.world.last

  -- no call under way has the next number
  new_number : find (has_number n) old.world.calls ≡ None
  new_number = find_none (has_number n) old.world.calls (all_mapped (IsMirrored p threads) _ old.world.calls (λ u mu. by u mu (u.caller.call == n) refl) mirrors.calls)
    where
      by : (u : CallState) → IsMirrored p threads u → (b : Bool) → (u.caller.call == n) ≡ b → (u.caller.call == n) ≡ false
      by u mu true e =
          let few : mu.progress.call ≤ last = mirrors.few mu.thread mu.progress mu.there in
          let is : u.caller.call ≡ n = eqb-true u.caller.call n e in
          let number : mu.progress.call ≡ last + 1 = sym mu.number_is ∙ is ∙ mirrors.last_is in
          absurd (omega (arith, few, number))
      by u mu false e = e

  call_begins : (op : Op) (key : Bytes) → asked_in (item_at p m.thread q.begun) ≡ Some (op, key) → Run old.world (event.Call n (m.thread + 1) (command.Single op key) ∷ event.Start n key ∷ []) seen mid.world
      → IsPlayedAs old.world (Begin (last + 1) (m.thread + 1) (record { op = op; key = key })) seen mid.world × Mirrors p mid (last + 1) (slice_set threads m.thread (record { begun = t.begun + 1; call = last + 1 }))
  call_begins op key asked run =
      let next : Progress = record { begun = t.begun + 1; call = last + 1 } in
      let threads_now : List Progress = slice_set threads m.thread next in
      let u : CallState = new_call n (m.thread + 1) (command.Single op key) in
      let begins = begins_call old.world mid.world n (m.thread + 1) op key seen new_number run proper in
      let keeps : Keeps p threads_now begins.mid mid.world = keeps_happens p threads_now begins.mid mid.world (event.Start n key) begins.second refl begins.fit begins.happens in
      let back : (t.begun + 1) - 1 ≡ q.begun = omega (arith, same) in
      let one : IsMirrored p threads_now u = record {
        thread = m.thread;
        progress = next;
        op = op;
        key = key;
        there = set_here threads m.thread t next here;
        session_is = refl;
        number_is = mirrors.last_is;
        counts = λ z. omega (arith, z);
        asked = ap (λ k. asked_in (item_at p m.thread k)) back ∙ asked;
        kind_is = refl;
        tasks_are = refl;
        sweep_is = refl;
      } in
      let others = others_stay p threads m.thread next old.world.calls (no_session (m.thread + 1) old.world.calls idle) mirrors.calls in
      let all : AllMirrored p threads_now begins.mid.calls = subst (λ (x : WorldState). AllMirrored p threads_now x.calls) (sym begins.mid_is) (all_more (IsMirrored p threads_now) old.world.calls u others one) in
      let free : IsFree begins.mid = subst IsFree (sym begins.mid_is) mirrors.free in
      let last_is : next_number mid.world.last ≡ (last + 1) + 1 = ap next_number (keeps.last_is ∙ ap (λ (x : WorldState). x.last) begins.mid_is) ∙ ap (λ k. k + 1) mirrors.last_is in
      let P : ℕ → Type 0 = λ k. IsPlayedAs old.world (Begin k (m.thread + 1) (record { op = op; key = key })) seen mid.world in (
        subst P mirrors.last_is begins.played,
        begins_on p old mid m.thread q t next last (last + 1) threads mirrors there here same last_is positions refl (omega (arith)) (omega (arith)) (inr (omega (arith))) (keeps.calls all) (keeps.free free),
      )

  -- what isn't a call
  other_begins : (e : WorldEvent) → is_within e ≡ true → Run old.world (e ∷ []) seen mid.world → Mirrors p mid last (slice_set threads m.thread (record { begun = t.begun + 1; call = t.call }))
  other_begins e within run =
      let next : Progress = record { begun = t.begun + 1; call = t.call } in
      let threads_now : List Progress = slice_set threads m.thread next in
      let keeps = keeps_run p threads_now old.world mid.world (e ∷ []) seen (and_from _ _ within refl) run in
      let others = others_stay p threads m.thread next old.world.calls (no_session (m.thread + 1) old.world.calls idle) mirrors.calls in
      begins_on p old mid m.thread q t next last last threads mirrors there here same (ap next_number keeps.last_is ∙ mirrors.last_is) positions refl (omega (arith)) (mirrors.few m.thread t here) (inl refl) (keeps.calls others) (keeps.free mirrors.free)

  item_begins : (x : Option Item) → item_at p m.thread q.begun ≡ x → Run old.world (begin_events n (m.thread + 1) x) seen mid.world → BeginsItem p old mid m t x seen last threads
  item_begins None is run = nothing_proper old.world mid.world seen run proper
  item_begins (Some (item.Call op key)) is run =
      let begins = call_begins op key (ap asked_in is) run in
      record { line = Begin (last + 1) (m.thread + 1) (record { op = op; key = key }); line_is = refl; played = begins.0; mirrors = begins.1 }
  item_begins (Some (item.Invoke key calls)) is run =
      let begins = call_begins Invoke key (ap asked_in is) run in
      record { line = Begin (last + 1) (m.thread + 1) (record { op = Invoke; key = key }); line_is = refl; played = begins.0; mirrors = begins.1 }
  item_begins (Some (item.Foreign key value)) is run =
      record { line = Foreign key value; line_is = refl; played = foreign_plays old.world mid.world key value seen run proper; mirrors = other_begins (event.Foreign key value) refl run }
  item_begins (Some (item.Invalidate key)) is run =
      record { line = Invalidate key; line_is = refl; played = invalidate_plays old.world mid.world key seen run proper; mirrors = other_begins (event.Invalidate key) refl run }

begins : (p : Program) (old mid : SceneState) (m : Move) (move : Moves p old m mid) (last : ℕ) (threads : List Progress) (q : Position) → Mirrors p old last threads → slice_get old.positions m.thread ≡ Some q → is_begin m.act ≡ true
    → MovesAs p old mid m move.seen last threads
begins p old mid m move last threads q mirrors there starts =
    let w : WorldState = old.world in
    let found = thread_of p old last threads mirrors m.thread q there in
    let t : Progress = found.0 in
    let session : ℕ = m.thread + 1 in
    let x : Option Item = item_at p m.thread q.begun in
    let events : move_events p old m ≡ (if has_number_left w.last q then if_idle (call_under_way w session) (begin_events (next_number w.last) session x) else []) =
    ap (move_events_at p w m) there
    ∙ (λ i. if (not (starts i) || has_number_left w.last q)
    then (if starts i then if_idle (call_under_way w session) (begin_events (next_number w.last) session x) else under_way p.faults (call_under_way w session) (item_at p m.thread (q.begun - 1)) m.act)
    else []) in
    let run = subst (λ (es : List WorldEvent). Run w es move.seen mid.world) events move.runs in
    let positions : mid.positions ≡ slice_set old.positions m.thread (record { begun = q.begun + 1 }) =
    move.positions_are ∙ ap (positions_at m old.positions) there ∙ (λ i. slice_set old.positions m.thread (if starts i then record { begun = q.begun + 1 } else q)) in
    let numbered = has_left (has_number_left w.last q) (if_idle (call_under_way w session) (begin_events (next_number w.last) session x)) run in
    let numbers : has_numbers last t ≡ true = (λ i. nat_lt (sym mirrors.last_is i) NUMBER_MAX && nat_lt (found.2 i) NUMBER_MAX) ∙ numbered.0 in
    let free = is_idle (find (is_of_session session) w.calls) (begin_events (next_number w.last) session x) numbered.1 in
    let item = item_begins p old mid m q t last threads move.seen mirrors there found.1 found.2 positions free.0 move.proper x refl free.1 in
    let begun : begun_item p last m t ≡ x = (λ i. if starts i && numbers i then item_at p m.thread (found.2 i) else None) in
    let line_is : line_of_move p last threads m ≡ begin_line (last + 1) session x =
    ap (line_at p last m) found.1
    ∙ (λ i. if starts i then (if numbers i then begin_line (last + 1) (m.thread + 1) (item_at p m.thread (found.2 i)) else None) else call_line p.faults t.call (item_at p m.thread (t.begun - 1)) m.act) in
    let last_is : last_after p last threads m ≡ last_by last x = ap (last_at p last m) found.1 ∙ ap (last_by last) begun in
    let threads_are : thread_progress_after p last threads m ≡ slice_set threads m.thread (begun_by last t x) = ap (threads_at p last threads m) found.1 ∙ ap (λ y. slice_set threads m.thread (begun_by last t y)) begun in
    record { line = item.line; line_is = line_is ∙ item.line_is; played = item.played; mirrors = subst₂ (Mirrors p mid) (sym last_is) (sym threads_are) item.mirrors }
  where
    has_left : (b : Bool) (es : List WorldEvent) → Run old.world (if b then es else []) move.seen mid.world → (b ≡ true) × Run old.world es move.seen mid.world
    has_left true es run = (refl, run)
    has_left false es run = nothing_proper old.world mid.world move.seen run move.proper

    is_idle : (o : Option CallState) (es : List WorldEvent) → Run old.world (if_idle (option_map (λ (u : CallState). u.caller.call) o) es) move.seen mid.world → (o ≡ None) × Run old.world es move.seen mid.world
    is_idle None es run = (refl, run)
    is_idle (Some u) es run = nothing_proper old.world mid.world move.seen run move.proper

-- 6. Schedules.

move_plays : (p : Program) (old mid : SceneState) (m : Move) (move : Moves p old m mid) (last : ℕ) (threads : List Progress) → Mirrors p old last threads → MovesAs p old mid m move.seen last threads
move_plays p old mid m move last threads mirrors = by (slice_get old.positions m.thread) refl (is_begin m.act) refl
  where
    by : (o : Option Position) → slice_get old.positions m.thread ≡ o → (b : Bool) → is_begin m.act ≡ b → MovesAs p old mid m move.seen last threads
    by None there b e = nothing_proper old.world mid.world move.seen (subst (λ (es : List WorldEvent). Run old.world es move.seen mid.world) (ap (move_events_at p old.world m) there) move.runs) move.proper
    by (Some q) there true e = begins p old mid m move last threads q mirrors there e
    by (Some q) there false e = goes_on p old mid m move last threads q mirrors there e

pub record PlaysLinesOf (p : Program) (old new : SceneState) (ms : List Move) (last : ℕ) (threads : List Progress) : Type 0 where
  pub lines : List Line
  pub text_is : steps_text p last threads ms ≡ flat_map piped lines
  pub moves : PlaysMoves p old ms lines new

pub schedule_plays : (p : Program) (old new : SceneState) (ms : List Move) (last : ℕ) (threads : List Progress) → Mirrors p old last threads → PlaysSchedule p old ms new → PlaysLinesOf p old new ms last threads
schedule_plays p old new [] last threads mirrors plays = record { lines = []; text_is = refl; moves = plays }
schedule_plays p old new (m ∷ ms) last threads mirrors (mid, move, rest) =
    let one = move_plays p old mid m move last threads mirrors in
    let more = schedule_plays p mid new ms (last_after p last threads m) (thread_progress_after p last threads m) one.mirrors rest in
    record {
      lines = one.line ∷ more.lines;
      text_is = (λ i. piped_if (one.line_is i) ++ more.text_is i);
      moves = (mid, move, one.played, more.moves);
    }

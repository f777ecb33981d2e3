-- A recorded call of a lawful step fits as a step, or shares the load of the one before it.
use Rattle.std.proofs.Common.{◌≡◌, ℕ, Bool, true, false, cond, ◌&&◌, Option, Some, None, is_some, is_none, option_map, sym, subst, ap, refl, ◌∙◌}
use Rattle.std.specs.Bool.{beq}
use Rattle.std.proofs.lemmas.Bool.{and_from, and_parts}
use Rattle.jc_types.specs.declared.caller.Caller.{Caller}
use Rattle.jc_types.specs.declared.config.Config.{Config}
use Rattle.jc_model.specs.declared.event.Change.{Change}
use Rattle.jc_model.specs.declared.event.Effect.TheVariants as effect
use Rattle.jc_model.specs.declared.event.LoadAnswer.{LoadAnswer}
use Rattle.jc_model.specs.declared.event.LoadAnswer.TheVariants as load
use Rattle.jc_model.specs.declared.event.Op.{Op}
use Rattle.jc_model.specs.declared.event.Op.TheVariants as op
use Rattle.jc_model.specs.declared.event.Out.{Out}
use Rattle.jc_model.specs.declared.event.ProcessAnswer.{ProcessAnswer}
use Rattle.jc_model.specs.declared.event.ProcessAnswer.TheVariants as process
use Rattle.jc_model.specs.declared.event.Reply.{Reply}
use Rattle.jc_model.specs.declared.event.WriteAnswer.{WriteAnswer}
use Rattle.jc_model.specs.Cache.{Bytes}
use Rattle.jc_model.specs.Group.{nothing_said}
use Rattle.jc_model.specs.Lawful.{loads_whole}
use Rattle.jc_model.specs.Table.{answers_fit, ask_if, early_fault, entry_after, is_invoke, is_load_given, is_process_given, is_write_given, load_fits, loader_ask, reply_after, wanted_if, write_ask}
use Rattle.jc_check.specs.declared.record.Recorded.{Recorded}
use Rattle.jc_check.specs.declared.record.Rules.{Rules}
use Rattle.jc_check.specs.declared.record.Spot.{Spot}
use Rattle.jc_check.specs.declared.record.Stored.{Stored}
use Rattle.jc_check.specs.Explains.{entry_of_op}
use Rattle.jc_check.specs.Recording.{AreTableRules, IsCallOf, IsRemovalOf, asked_change, change_of_entry, removal_out}
use Rattle.jc_check.specs.Spot.{FitsLoad, FitsReply, FitsShare, FitsSights, FitsStep, shared_reply, spot_after, store_after}
use Rattle.jc_check.proofs.Runs.{has-run-fits}

-- 1. What the writer was asked for.

asked-if : (b : Bool) (change : Change) → is_some (ask_if b change) ≡ true → Some change ≡ ask_if b change
asked-if true change h = refl
asked-if false change h = cc

asks : (o : Op) (entry : Option Bytes) (answer : ProcessAnswer) → is_some (write_ask o entry answer) ≡ true
    → option_map change_of_entry (entry_of_op o answer) ≡ write_ask o entry answer
asks op.Get entry answer h = refl
asks op.ContainsKey entry answer h = refl
asks (op.Put value) entry answer h = refl
asks (op.GetAndPut value) entry answer h = refl
asks (op.PutIfAbsent value) entry answer h = asked-if _ _ h
asks op.Remove entry answer h = refl
asks (op.RemoveIf old) entry answer h = asked-if _ _ h
asks op.GetAndRemove entry answer h = refl
asks (op.Replace value) entry answer h = asked-if _ _ h
asks (op.ReplaceIf old new) entry answer h = asked-if _ _ h
asks (op.GetAndReplace value) entry answer h = asked-if _ _ h
asks op.Clear entry answer h = cc
asks (op.LoadAll replace) entry answer h = refl
asks op.Invoke entry process.NotAsked h = refl
asks op.Invoke entry (process.Failed code) h = refl
asks op.Invoke entry (process.Ended (effect.Set value) outcome) h = refl
asks op.Invoke entry (process.Ended effect.Remove outcome) h = refl
asks op.Invoke entry (process.Ended effect.Keep outcome) h = refl

beq-true : (b : Bool) → beq true b ≡ true → b ≡ true
beq-true true h = refl
beq-true false h = cc

asked-given : (w : Bool) (o : Op) (entry : Option Bytes) (answer : ProcessAnswer) (may : Bool) → beq w (may && is_some (write_ask o entry answer)) ≡ true
    → cond w (option_map change_of_entry (entry_of_op o answer)) None ≡ cond w (write_ask o entry answer) None
asked-given false o entry answer may h = refl
asked-given true o entry answer true h = asks o entry answer (beq-true (is_some (write_ask o entry answer)) h)
asked-given true o entry answer false h = cc

asked : (config : Config) (o : Op) (entry : Option Bytes) (out : Out) → answers_fit config o entry out ≡ true
    → asked_change o out ≡ cond (is_write_given out.write) (write_ask o entry out.process) None
asked config o entry out h =
    asked-given (is_write_given out.write) o entry out.process (config.write_through && is_none (early_fault out))
    (and_parts
    (load_fits (loader_ask config.read_through o entry) (is_load_given out.load) && beq (is_process_given out.process) (is_invoke o))
    (beq (is_write_given out.write) (config.write_through && is_none (early_fault out) && is_some (write_ask o entry out.process))) h).1

-- 2. A step.

pub fits-step : (clock : ℕ → ℕ → ℕ) (config : Config) (rules : Rules) (s : Spot) (caller : Caller) (o : Op) (out : Out) (reply : Reply) (c : Recorded)
    → AreTableRules config rules → answers_fit rules.config o s.entry out ≡ true → reply ≡ reply_after o s.entry out
    → IsCallOf clock config.read_through s.entry caller o out reply c → FitsStep rules s c
fits-step clock config rules s caller o out reply c table answers replied is =
    record {
      answers = ap (λ (x : Op). answers_fit rules.config x s.entry c.out) is.op_is ∙ ap (answers_fit rules.config o s.entry) is.out_is ∙ answers;
      change = is.change ∙ asked rules.config o s.entry out answers
          ∙ sym (ap (λ (x : Op). cond (is_write_given c.out.write) (write_ask x s.entry c.out.process) None) is.op_is
          ∙ ap (λ (x : Out). cond (is_write_given x.write) (write_ask o s.entry x.process) None) is.out_is);
      load = subst (λ (b : Bool). FitsLoad b s.store c.out.load) (sym table.table) tt;
      reply = subst (FitsReply c.reply) (replied ∙ sym (ap (λ (x : Op). reply_after x s.entry c.out) is.op_is ∙ ap (reply_after o s.entry) is.out_is)) is.reply_is;
      sights = subst (λ (x : Op). FitsSights (is_invoke x) rules.config.read_through s.entry c.sights.items c.out) (sym is.op_is)
          (subst (λ (x : Out). FitsSights (is_invoke o) rules.config.read_through s.entry c.sights.items x) (sym is.out_is)
          (subst (λ (b : Bool). FitsSights (is_invoke o) b s.entry c.sights.items out) (sym table.read)
          (has-run-fits (is_invoke o) config.read_through s.entry c.sights.items out is.run)));
    }

-- what others may share after a step
abbrev pub shared_after : Rules → Op → Option Bytes → LoadAnswer → LoadAnswer
shared_after rules o entry answer = cond (rules.config.read_through && loads_whole o && is_none entry) answer load.NotAsked

abbrev pub spot_after_step : Rules → Spot → Op → Out → Spot
spot_after_step rules s o out = record { entry = entry_after o s.entry out; store = s.store; shared = shared_after rules o s.entry out.load }

same-store : (b : Bool) (c : Recorded) (store : Stored) → b ≡ false → store_after b c store ≡ store
same-store b c store is = ap (λ (x : Bool). store_after x c store) is

pub left-by-step : (clock : ℕ → ℕ → ℕ) (config : Config) (rules : Rules) (s : Spot) (caller : Caller) (o : Op) (out : Out) (reply : Reply) (c : Recorded)
    → AreTableRules config rules → IsCallOf clock config.read_through s.entry caller o out reply c → spot_after_step rules s o out ≡ spot_after rules s c
left-by-step clock config rules s caller o out reply c table is =
    let to-op : spot_after_step rules s c.op c.out ≡ spot_after_step rules s o c.out = ap (λ (x : Op). spot_after_step rules s x c.out) is.op_is in
    let to-out : spot_after_step rules s o c.out ≡ spot_after_step rules s o out = ap (λ (x : Out). spot_after_step rules s o x) is.out_is in
    let stored : spot_after rules s c ≡ spot_after_step rules s c.op c.out =
    ap (λ (x : Stored). spot_of c x) (same-store rules.is_store_known c s.store table.table) in
    sym (stored ∙ to-op ∙ to-out)
  where
    spot_of : Recorded → Stored → Spot
    spot_of c store =
        record { entry = entry_after c.op s.entry c.out; store = store; shared = shared_after rules c.op s.entry c.out.load }

-- 3. A removal, as the run of a processor.

no : false ≡ true → ⊥
no h = cc

wanted : (b : Bool) → load_fits (wanted_if b) false ≡ true
wanted true = refl
wanted false = refl

answers-as-run : (config : Config) (entry : Option Bytes) (l : LoadAnswer) (w : WriteAnswer) (p : ProcessAnswer)
    → answers_fit config op.Remove entry (record { load = l; write = w; process = p }) ≡ true
    → answers_fit config op.Invoke entry (removal_out (record { load = l; write = w; process = p })) ≡ true
answers-as-run config entry load.NotAsked w process.NotAsked h =
    and_from _ _ (and_from _ _ (wanted (config.read_through && is_none entry)) refl) h
answers-as-run config entry load.NotAsked w (process.Ended net outcome) h = absurd (no h)
answers-as-run config entry load.NotAsked w (process.Failed code) h = absurd (no h)
answers-as-run config entry (load.Found value) w p h = absurd (no h)
answers-as-run config entry load.Nothing w p h = absurd (no h)
answers-as-run config entry (load.Failed code) w p h = absurd (no h)

leaves-as-run : (config : Config) (entry : Option Bytes) (l : LoadAnswer) (w : WriteAnswer) (p : ProcessAnswer)
    → answers_fit config op.Remove entry (record { load = l; write = w; process = p }) ≡ true
    → entry_after op.Remove entry (record { load = l; write = w; process = p })
    ≡ entry_after op.Invoke entry (removal_out (record { load = l; write = w; process = p }))
leaves-as-run config entry load.NotAsked w process.NotAsked h = refl
leaves-as-run config entry load.NotAsked w (process.Ended net outcome) h = absurd (no h)
leaves-as-run config entry load.NotAsked w (process.Failed code) h = absurd (no h)
leaves-as-run config entry (load.Found value) w p h = absurd (no h)
leaves-as-run config entry load.Nothing w p h = absurd (no h)
leaves-as-run config entry (load.Failed code) w p h = absurd (no h)

removes : (rules : Rules) (s : Spot) (o : Op) (out : Out) → o ≡ op.Remove → answers_fit rules.config o s.entry out ≡ true
    → answers_fit rules.config op.Remove s.entry out ≡ true
removes rules s o out is answers = ap (λ (x : Op). answers_fit rules.config x s.entry out) (sym is) ∙ answers

pub fits-removal : (clock : ℕ → ℕ → ℕ) (config : Config) (rules : Rules) (s : Spot) (caller : Caller) (o : Op) (out : Out) (c : Recorded)
    → AreTableRules config rules → answers_fit rules.config o s.entry out ≡ true → IsRemovalOf clock config.read_through s.entry caller o out c
    → FitsStep rules s c
fits-removal clock config rules s caller o out c table answers is =
    fits-step clock config rules s caller op.Invoke (removal_out out) (reply_after op.Invoke None (removal_out out)) c table
    (answers-as-run rules.config s.entry out.load out.write out.process (removes rules s o out is.removes answers)) refl is.call

pub left-by-removal : (clock : ℕ → ℕ → ℕ) (config : Config) (rules : Rules) (s : Spot) (caller : Caller) (o : Op) (out : Out) (c : Recorded)
    → AreTableRules config rules → answers_fit rules.config o s.entry out ≡ true → IsRemovalOf clock config.read_through s.entry caller o out c
    → spot_after_step rules s o out ≡ spot_after rules s c
left-by-removal clock config rules s caller o out c table answers is =
    ap (λ (x : Op). spot_after_step rules s x out) is.removes
    ∙ ap (λ (e : Option Bytes). spot_with e)
    (leaves-as-run rules.config s.entry out.load out.write out.process (removes rules s o out is.removes answers))
    ∙ left-by-step clock config rules s caller op.Invoke (removal_out out) (reply_after op.Invoke None (removal_out out)) c table is.call
  where
    spot_with : Option Bytes → Spot
    spot_with e = record { entry = e; store = s.store; shared = shared_after rules op.Remove s.entry out.load }

-- 4. A shared load.

pub fits-share : (clock : ℕ → ℕ → ℕ) (read_through : Bool) (entry : Option Bytes) (s : Spot) (caller : Caller) (o : Op) (reply told : Reply) (c : Recorded)
    → o ≡ op.Get → is_load_given s.shared ≡ true → reply ≡ shared_reply s.shared → c.reply ≡ Some told
    → IsCallOf clock read_through entry caller o nothing_said reply c → FitsShare s c
fits-share clock read_through entry s caller o reply told c get given replied ended is =
    record {
      op = is.op_is ∙ get;
      alone = is.out_is;
      change = is.change;
      shared = given;
      reply = ended ∙ ap Some (subst (λ (x : Option Reply). FitsReply x reply) ended is.reply_is ∙ replied);
    }

-- A whole call on a stripe that nobody else has.
--     next_after      the number of the next reservation after a call: one more if the call had to reserve its key
--     OneStep         the stripe appends the group of one step, which no other step shares, with this reply
--     EndsCall        the end of a call: one step; or the refusal of its first phase, and then nobody is asked and nothing
--                     changes
--     AreSweeps       so many sweeps lead from one state to another
--     IsOwnedCall     a whole call on an owner's stripe, which was swept before if it was shut: its end there, and its effect on
--                     the agent, the loader and the writer
--     IsOwnedInvocation    a whole call that runs a processor, which is shown the entry that the stripe had, and whose type stays
--                          the same
use Rattle.std.specs.declared.dyn_box.DynBox.{DynBox}
use Rattle.std.specs.Prelude.{◌≡◌, ◌+◌, ℕ, zero, suc, List, [], Option, None, Some, Result, Ok, Err, if◌then◌else◌}
use Rattle.jc_types.specs.declared.caller.Caller.{Caller}
use Rattle.jc_types.specs.declared.refusal.Refusal.{Refusal}
use Rattle.jc_model.specs.Cache.{Bytes, entry_at}
use Rattle.jc_model.specs.Group.{nothing_said}
use Rattle.jc_model.specs.declared.event.Op.{Op}
use Rattle.jc_model.specs.declared.event.Op.TheVariants.{Invoke}
use Rattle.jc_model.specs.declared.event.Out.{Out}
use Rattle.jc_model.specs.declared.event.Reply.{Reply}
use Rattle.jc_outside.specs.Calling.{LoadRelation, WriteRelation}
use Rattle.jc_mutentry.specs.Running.{ProcessRelation}
use Rattle.jc_stripe.specs.Outcomes.{StepDone}
use Rattle.jc_stripe.specs.State.{State}
use Rattle.jc_stripe.specs.Refusals.{first_asked, first_refusal, reserves}
use Rattle.jc_stripe.specs.Phases.{Steps}
use Rattle.jc_stripe.specs.Invalidating.{Sweeps}
use Rattle.jc_session.specs.Boxed.{boxed}
use Rattle.jc_session.specs.declared.agent.Agent.{Agent}
use Rattle.jc_engine.specs.Asking.{AsksLoader, AsksWriter, KeepsTypes, RunsProcessor, change_wanted, own_after}

abbrev pub next_after : State → Bytes → Op → ℕ
next_after old key op = if reserves (first_asked old.config op (entry_at old.cache key)) then old.next + 1 else old.next

pub record OneStep (old : State) (caller : Caller) (key : Bytes) (op : Op) (out : Out) (reply : Reply) (new : State) : Type 0 where
  pub done : StepDone
  pub reply_is : done.reply ≡ reply
  pub steps : Steps (record old { next = next_after old key op }) caller key op out [] done new

abbrev pub EndsCall : State → Caller → Bytes → Op → Out → Result Reply Refusal → State → Type 0
EndsCall old caller key op out (Ok reply) new = (first_refusal old caller key op ≡ None) × OneStep old caller key op out reply new
EndsCall old caller key op out (Err refusal) new =
    (first_refusal old caller key op ≡ Some refusal) × (out ≡ nothing_said) × (new ≡ old)

-- a stripe that isn't shut stays
abbrev pub AreSweeps : ℕ → State → State → Type 0
AreSweeps zero old new = new ≡ old
AreSweeps (suc n) old new = (swept : State) × Sweeps old swept × AreSweeps n swept new

pub record IsOwnedCall
    {I J : Type 0} {D : I → Type 0} {E : J → Type 0}
    (loads : LoadRelation ((i : I) × D i)) (load_state : (i : I) × D i → List ℕ)
    (writes : WriteRelation ((j : J) × E j)) (write_state : (j : J) × E j → List ℕ)
    (old : Agent I J D E) (key : Bytes) (op : Op) (owner : Option State) (ended : Result Reply Refusal) (new : Agent I J D E)
    (owner' : Option State) : Type 0 where
  pub was_in : State
  pub sweeps : ℕ
  pub before : State
  pub after : State
  pub out : Out
  pub was : owner ≡ Some was_in
  pub swept : AreSweeps sweeps was_in before
  pub is : owner' ≡ Some after
  pub ends : EndsCall before old.caller key op out ended after
  pub loader : AsksLoader (boxed loads) (boxed load_state) old.hands.outside.loader key out.load new.hands.outside.loader
  pub writer : AsksWriter (boxed writes) (boxed write_state) old.hands.outside.writer key (change_wanted before key op out.process)
      out.write new.hands.outside.writer
  pub types : KeepsTypes old new
  pub held : new.hands.held ≡ 0
  pub agent : new ≡ record old { counts = record old.counts { own = own_after old.counts.own ended }; hands = new.hands }

pub record IsOwnedInvocation
    {I J P Z : Type 0} {D : I → Type 0} {E : J → Type 0} {F : P → Type 0}
    (loads : LoadRelation ((i : I) × D i)) (load_state : (i : I) × D i → List ℕ)
    (writes : WriteRelation ((j : J) × E j)) (write_state : (j : J) × E j → List ℕ)
    (processes : ProcessRelation (DynBox P Z F)) (process_state : DynBox P Z F → List ℕ)
    (old : Agent I J D E) (key : Bytes) (args : List Bytes) (processor : DynBox P Z F) (owner : Option State)
    (ended : Result Reply Refusal) (new : Agent I J D E) (processor' : DynBox P Z F) (owner' : Option State) : Type 0 where
  pub call : IsOwnedCall loads load_state writes write_state old key Invoke owner ended new owner'
  pub run : RunsProcessor processes process_state processor call.before key args call.out processor'
  pub type : processor'.vtable ≡ processor.vtable

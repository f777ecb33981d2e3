use Rattle.std.proofs.Common.{◌≡◌, ◌∙◌, None, cond, is_some, option_map, sym, refl, subst, inl, inr}
use Rattle.jc_model.specs.Cache.{entry_at}
use Rattle.jc_model.specs.declared.event.Op.TheVariants.{Get}
use Rattle.jc_stripe.specs.State.{State}
use Rattle.jc_stripe.specs.OrderOfUse.{next_victim}
use Rattle.jc_stripe.specs.Phases.{Begins, begun_with, with_reply}
use Rattle.jc_stripe.specs.declared.begun.Appended.{Appended}
use Rattle.jc_stripe.specs.declared.begun.Started.{Started}
use Rattle.jc_stripe.specs.declared.begun.Started.TheVariants as started
use Rattle.jc_stripe.specs.Outcomes as begun
use Rattle.jc_stripe.specs.ValuesMoved.{MovesMade, MovesValues, HasMovesIfDone, victim_entry}
use Rattle.jc_stripe.proofs.ValuesMoved.{victim_next, moved, others_stay, get_moves}
use Rattle.jc_stripe.proofs.desk.moves.ValueMoves.note_begin.Goals as goal

-- a hit moves nothing
pub returns-in-Some-clause-moves : goal.returns-in-Some-clause-moves
returns-in-Some-clause-moves c =
    let old = c.args.stripe.now in
    let new = c.hit_or_entry.new.self in
    let hit = c.in-Some.ensures.hit in
    let none = get_moves old new c.args.caller c.args.key.now _ hit.1.2 in
    subst (λ (x : Appended × MovesMade). MovesValues old c.args.key.now x.0.victim x.0.evicted x.1 new) (λ i. (sym c.appended_alone.ensures i, sym c.clear.ensures i)) none

pub returns-in-Some-clause-phase : goal.returns-in-Some-clause-phase
returns-in-Some-clause-phase c =
    let hit = c.in-Some.ensures.hit in
    inr (inl (record {
      caller = c.args.caller;
      key = c.args.key.now;
      op = Get;
      begun = begun.Done (with_reply (record { place = c.in-Some.place; victim = None; evicted = None }) c.hit_or_entry.new.reply);
      own = refl;
      may = c.requires.begins;
      begins = hit.1;
    }))

pub returns-in-Done-clause-moves : goal.returns-in-Done-clause-moves
returns-in-Done-clause-moves c =
    let old = c.args.stripe.now in
    let new = c.begin_on-started.new.self in
    let key = c.args.key.now in
    let step = c.in-Done.step in
    let reply = c.begin_on-started.new.reply in
    let same : c.hit_or_entry.new.self ≡ old = c.in_default.ensures.none.0 in
    let entry : c.hit_or_entry.new.entry ≡ entry_at old.cache key = c.in_default.ensures.none.1 in
    let begins : Begins old c.args.caller key c.args.op.now (begun_with (started.Done step) reply) new =
    subst (λ (x : State × Started). Begins x.0 c.args.caller key c.args.op.now (begun_with x.1 reply) new) (λ i. (same i, c.in-Done.is i)) c.begin_on-started.ensures in
    let before : MovesMade = record { kept = c.self.inside.is_kept; left = c.hit_or_entry.new.entry; victim = option_map (λ key. (key, c.note_victim.new.evicted)) c.note_victim.new.victim; own = c.self.inside.own } in
    let moves : MovesValues old key step.victim step.evicted c.note_after.new.self new =
    moved old new key key step.victim step.evicted before c.note_after.new.self refl entry
    (c.note_victim.ensures ∙ (λ i. cond (is_some (entry i)) None (victim_entry (same i) (next_victim (same i)))))
    c.note_after.ensures.kept c.note_after.ensures.left c.note_after.ensures.victim c.note_after.ensures.own
    (λ v h. victim_next old new c.args.caller key v c.args.op.now _ _ (with_reply step reply) begins.2 h) (others_stay old new c.args.caller key c.args.op.now _ _ (with_reply step reply) begins.2) in
    subst (λ (s : Started). HasMovesIfDone old key s c.note_after.new.self new) (sym c.in-Done.is) moves

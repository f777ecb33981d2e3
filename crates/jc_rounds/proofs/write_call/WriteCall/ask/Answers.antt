use Rattle.jc_rounds.proofs.Common.{length, reverse, refl, ◌∙◌, ap, subst, sym, writes_done, asked_key, WritesBatch, wanted}
use Rattle.jc_model.specs.declared.event.WriteAnswer.TheVariants.{NotAsked}
use Rattle.jc_session.specs.Boxed.{boxed}
use Rattle.jc_cache.proofs.CallerLemmas.{after_asking, same_type}
use Rattle.jc_rounds.proofs.OutsideCalls.{done_back, full_batch, no_batch, none_long}
use Rattle.jc_rounds.proofs.write_call.WriteCall.ask.Goals as goal

pub returns-then-len-eq0 : goal.returns-then-len-eq0
returns-then-len-eq0 g c =
    let none = sym (ap (λ s. s.items) c.self.view_is) ∙ none_long c.self.inside.asks.items (sym c.self.inside.asks.ok.0 ∙ sym c.len.ensures ∙ c.if-len-eq0.true) in
    record {
      asked = record {
        said = λ key. NotAsked;
        writes = no_batch (boxed (λ v. (goal.CacheWriter-dyn g v).writes_all v.1)) (boxed (λ v. (goal.CacheWriter-dyn g v).deletes_all v.1)) (boxed (λ v. (goal.CacheWriter-dyn g v).write_state v.1)) c.args.self.deletes c.args.self.items c.args.session.now.agent.hands.outside.writer (λ key. NotAsked) none;
        done_are = ap reverse c.self.invariant.none ∙ ap (writes_done asked_key (λ key. NotAsked)) (sym none);
        writer_type = refl;
        loader = refl;
      };
      rest = refl;
      own = λ cache of. of;
    }

pub returns : goal.returns
returns g c =
    let e = c.ask_writer_all-returned.ensures.asked in
    let items = ap (λ s. s.items) c.self.view_is in
    record {
      asked = record {
        said = e.said;
        writes = subst (λ xs. WritesBatch (boxed (λ v. (goal.CacheWriter-dyn g v).writes_all v.1)) (boxed (λ v. (goal.CacheWriter-dyn g v).deletes_all v.1)) (boxed (λ v. (goal.CacheWriter-dyn g v).write_state v.1)) c.args.self.deletes (wanted xs) c.args.session.now.agent.hands.outside.writer c.ask_writer_all-returned.result e.said c.ask_writer_all-returned.new.self.hands.outside.writer) items
            (full_batch (boxed (λ v. (goal.CacheWriter-dyn g v).writes_all v.1)) (boxed (λ v. (goal.CacheWriter-dyn g v).deletes_all v.1)) (boxed (λ v. (goal.CacheWriter-dyn g v).write_state v.1)) c.args.self.deletes c.self.inside.asks.items c.self.inside.batch c.ask_writer_all-returned.result e.said c.args.session.now.agent.hands.outside.writer c.ask_writer_all-returned.new.self.hands.outside.writer (λ is. c.if-len-eq0.false (c.len.ensures ∙ c.self.inside.asks.ok.0 ∙ ap length is)) (ap (λ s. s.deletes) c.self.view_is) c.self.invariant.batch_is e.writer);
        done_are = done_back c.self.inside.done.items c.ask_writer_all-returned.new.done.items c.reverse.new.self.items _ c.self.invariant.none e.done c.reverse.ensures.items ∙ ap (writes_done asked_key e.said) items;
        writer_type = e.writer_type;
        loader = e.loader;
      };
      rest = ap (λ agent. record c.args.session.now { agent = agent }) e.rest;
      own = λ cache of. after_asking cache c.args.session.now c.ask_writer_all-returned.new.self e.rest e.held (same_type _ _ e.loader) e.writer_type of;
    }

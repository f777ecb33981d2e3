use Rattle.jc_rounds.proofs.Common.{◌≡◌, ◌∙◌, length, vec_len, ap, subst, sym, arith, length-map, LoadsAllOnce, loads_done, asked_key, asked_keys}
use Rattle.jc_session.specs.Boxed.{boxed}
use Rattle.jc_cache.proofs.CallerLemmas.{after_asking, same_type}
use Rattle.jc_rounds.proofs.OutsideCalls.{done_back}
use Rattle.jc_rounds.proofs.load_call.LoadCall.ask.Goals as goal

pub returns-clause-asked : goal.returns-clause-asked
returns-clause-asked g c =
    let e = c.ask_loader_all-batch.ensures.asked in
    let items = ap (λ s. s.items) c.self.view_is in
    record {
      asked = record {
        said = e.said;
        loads = subst (λ ks. LoadsAllOnce (boxed (λ v. (goal.CacheLoader-dyn g v).loads_all v.1)) (boxed (λ v. (goal.CacheLoader-dyn g v).load_state v.1)) c.args.session.now.agent.hands.outside.loader ks e.said c.ask_loader_all-batch.new.self.hands.outside.loader) (c.self.invariant.keys_are ∙ ap asked_keys items) e.loader;
        done_are = done_back c.self.inside.done.items c.ask_loader_all-batch.new.done.items c.reverse.new.self.items _ c.self.invariant.none e.done c.reverse.ensures.items ∙ ap (loads_done asked_key e.said) items;
        loader_type = e.loader_type;
        writer = e.writer;
      };
      rest = ap (λ agent. record c.args.session.now { agent = agent }) e.rest;
      own = λ cache of. after_asking cache c.args.session.now c.ask_loader_all-batch.new.self e.rest e.held e.loader_type (same_type _ _ e.writer) of;
    }

pub returns-clause-spent : goal.returns-clause-spent
returns-clause-spent g c =
    let kept = c.ask_loader_all-batch.ensures.room in
    let room = ap (λ b. b.room) kept.batch_is in
    let many : length c.self.inside.batch.items ≡ vec_len c.self.inside.asks = ap length c.self.invariant.keys_are ∙ length-map c.self.inside.asks.items asked_key ∙ sym c.self.inside.asks.ok.0 in
    record {
      no_asks = kept.no_asks;
      no_keys = ap (λ b. b.items) kept.batch_is;
      asks_room = omega (arith, room, many, kept.asks_room, c.self.invariant.asks_room);
    }

pub returns-clause-room : goal.returns-clause-room
returns-clause-room g c =
    let kept = c.ask_loader_all-batch.ensures.room in
    let room = ap (λ b. b.room) kept.batch_is in
    let keys : length c.self.inside.batch.items ≡ length c.self.inside.asks.items = ap length c.self.invariant.keys_are ∙ length-map c.self.inside.asks.items asked_key in
    let items = ap (λ s. length s.items) c.self.view_is in
    let free = ap (λ s. s.room) c.self.view_is in (
      omega (arith, room, keys, items, free),
      omega (arith, items, free, c.self.inside.asks.ok.0, c.reverse.ensures.capacity, kept.done_room, c.self.invariant.done_room),
    )

use Rattle.jc_rounds.proofs.Common.{refl, reverse, polled_with, Joined}
use Rattle.jc_rounds.proofs.Loops.{next_pick, no_items, pick_none}
use Rattle.jc_rounds.proofs.OnCall.{may_pick, near_in, picking_on, unnoted_by}
use Rattle.jc_rounds.proofs.bulk_call.BulkCall.pick_at.Goals as goal

pub unreachable-requires : goal.unreachable-requires
unreachable-requires g c =
    let r = c.requires.picking in
    pick_none c.args.cache.now r.0 c.args.session.now c.args.self.now c.args.place c.requires.there (no_items c.args.self.now.joins c.in-None.ensures.cases.0) r.1

pub pick_key-picked-requires-clause-may : goal.pick_key-picked-requires-clause-may
pick_key-picked-requires-clause-may g c =
    let r = c.requires.picking in
    (may_pick c.args.cache.now r.0 c.args.session.now (record c.args.self.now { joins = c.pop.new.self }) c.args.place c.in-Some.join (reverse c.pop.new.self.items) c.requires.there (next_pick c.args.cache.now r.0 c.args.session.now c.args.self.now c.pop.new.self c.in-Some.join c.args.place c.in-Some.ensures.items c.in-Some.ensures.capacity r.1)).0

pub pick_key-picked-requires-clause-caller : goal.pick_key-picked-requires-clause-caller
pick_key-picked-requires-clause-caller g c =
    let r = c.requires.picking in
    (may_pick c.args.cache.now r.0 c.args.session.now (record c.args.self.now { joins = c.pop.new.self }) c.args.place c.in-Some.join (reverse c.pop.new.self.items) c.requires.there (next_pick c.args.cache.now r.0 c.args.session.now c.args.self.now c.pop.new.self c.in-Some.join c.args.place c.in-Some.ensures.items c.in-Some.ensures.capacity r.1)).1

pub index_mut-requires : goal.index_mut-requires
index_mut-requires g c = near_in c.args.self.now.progress c.args.place Joined c.requires.there

pub returns-clause-advances : goal.returns-clause-advances
returns-clause-advances g c =
    unnoted_by c.args.cache.now c.requires.picking.0 c.args.session.now c.pick_key-picked.new.session c.args.self.now _ (record { targets = refl; most = refl; cause = refl; tickets_room = refl; joins_room = c.in-Some.ensures.capacity })
    _ c.in-Some.join.key _ c.args.place Joined c.after_pick_up.result refl c.requires.there (λ e bad. cc) (λ held. refl) c.pick_key-picked.ensures.phase

pub returns-clause-picking : goal.returns-clause-picking
returns-clause-picking g c past is =
    picking_on c.args.cache.now past c.args.session.now c.pick_key-picked.new.session (record c.args.self.now { joins = c.pop.new.self }) _ (record { targets = refl; most = refl; cause = refl; tickets_room = refl; joins_room = refl })
    c.args.place c.in-Some.join (reverse c.pop.new.self.items) (polled_with c.pick_key-picked.result c.pick_key-picked.new.reply) c.after_pick_up.result refl refl c.requires.there c.after_pick_up.ensures c.pick_key-picked.ensures.phase (next_pick c.args.cache.now past c.args.session.now c.args.self.now c.pop.new.self c.in-Some.join c.args.place c.in-Some.ensures.items c.in-Some.ensures.capacity is)

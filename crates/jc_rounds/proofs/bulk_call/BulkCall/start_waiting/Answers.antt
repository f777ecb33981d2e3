use Rattle.jc_rounds.proofs.Common.{◌<◌, refl, ap, sym, set, subst, vec_len, begun_with, BulkCall, Waiting}
use Rattle.jc_rounds.proofs.OnCall.{held_by, kept_joined, kept_more, may_start, near_in, progress_kept, same_kept, starting_on, unnoted_by}
use Rattle.jc_rounds.proofs.bulk_call.BulkCall.start_waiting.Goals as goal

pub start_key-started-requires-clause-may : goal.start_key-started-requires-clause-may
start_key-started-requires-clause-may g c =
    let r = c.requires.starting in (may_start c.args.cache.now r.0 c.args.session.now c.args.self.now c.args.place c.key.result.now c.op-op.result (c.op-op.ensures _ c.key.ensures) c.requires.waits r.1).0

pub index_mut-requires : goal.index_mut-requires
index_mut-requires g c = subst (λ (x : BulkCall). c.args.place < vec_len x.progress) (sym c.keep-progress.ensures.rest.rest) (near_in c.args.self.now.progress c.args.place Waiting c.requires.waits)

pub returns-clause-advances : goal.returns-clause-advances
returns-clause-advances g c =
    let later = c.keep-progress.new.self in
    unnoted_by c.args.cache.now c.requires.starting.0 c.args.session.now c.start_key-started.new.session c.args.self.now _ (same_kept c.args.self.now later _ c.keep-progress.ensures.rest)
    _ c.key.result.now _ c.args.place Waiting c.keep-progress.result (ap (λ ps. set ps c.args.place c.keep-progress.result) (progress_kept c.args.self.now later c.keep-progress.ensures.rest)) c.requires.waits (λ e bad. cc) (λ held. refl) c.start_key-started.ensures

pub returns-clause-starting : goal.returns-clause-starting
returns-clause-starting g c past starting =
    let mid = c.keep-progress.new.self in
    let p = c.keep-progress.result in
    let same = same_kept c.args.self.now mid _ c.keep-progress.ensures.rest in
    let is = ap (λ ps. set ps c.args.place p) (progress_kept c.args.self.now mid c.keep-progress.ensures.rest) in
    let at = c.op-op.ensures _ c.key.ensures in (
      starting_on c.args.cache.now past c.args.session.now c.start_key-started.new.session c.args.self.now _ same c.args.place c.key.result.now c.op-op.result (begun_with c.start_key-started.result c.start_key-started.new.reply) p is at c.requires.waits c.requires.room c.keep-progress.ensures.kept c.start_key-started.ensures starting,
      (kept_more (begun_with c.start_key-started.result c.start_key-started.new.reply) p c.args.self.now.tickets.items mid.tickets.items c.args.self.now.joins.items mid.joins.items c.keep-progress.ensures.kept).0,
      held_by c.args.cache.now past c.args.session.now c.start_key-started.new.session c.args.self.now _ same c.args.place c.key.result.now c.op-op.result (begun_with c.start_key-started.result c.start_key-started.new.reply) p is at c.requires.waits c.keep-progress.ensures.kept c.start_key-started.ensures starting,
      kept_joined c.args.cache.now past c.args.session.now c.start_key-started.new.session c.args.self.now _ same c.args.place c.key.result.now c.op-op.result (begun_with c.start_key-started.result c.start_key-started.new.reply) p is at c.keep-progress.ensures.kept c.start_key-started.ensures starting,
    )

use Rattle.jc_cache.proofs.Common.{◌≡◌, ◌<◌, length, refl, sym, ◌∙◌, arith, slice_get_read, after_split, session_view}
use Rattle.jc_cache.proofs.Rows.{lock_there}
use Rattle.jc_cache.proofs.OwnSeats.{split_read, split_own, split_seats}
use Rattle.jc_cache.proofs.owner.split.Goals as goal

pub loop-i-preserved : goal.loop-i-preserved
loop-i-preserved c = let inv = c.loop-i.invariant in let split = c.split.ensures in
    let own = c.args.own.now.items in let i = c.loop-i.i in let t = c.index_mut.result.now in
    let near : i < length own = grind arith in
    let near' : i < length c.args.locks.now = grind arith in
    let at = split_read own c.loop-i.own.items i t near (λ seat. (seat.0, after_split seat.1)) inv.own c.index_mut.ensures.value in
    let of = lock_there own c.args.locks.now i t c.index-locks-i.result c.requires.locks (slice_get_read own (length own) i t refl near at)
    (slice_get_read c.args.locks.now (length c.args.locks.now) i c.index-locks-i.result refl near' c.index-locks-i.is) in
    let given : c.split.result ≡ (t.0, session_view t.1) = split.session ∙ λ k. (sym of k, session_view t.1) in
    record {
      own = split_own own c.loop-i.own.items i t near (λ seat. (seat.0, after_split seat.1)) c.split.new.seat inv.own c.index_mut.ensures.value split.seat;
      seats = c.push_reserved.ensures.items ∙ split_seats own c.loop-i.own.items i t near (λ seat. (seat.0, session_view seat.1)) c.args.seats.now.items c.loop-i.seats.items c.split.result at inv.seats given;
      long = inv.long;
      seated = grind arith;
      room = grind arith;
    }

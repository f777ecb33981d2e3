use Rattle.std.proofs.Common.{ℕ, ◌≤◌, ◌+◌, length, refl, arith}
use Rattle.std.specs.Int.{w32, w64, to_le_bytes}
use Rattle.jc_history.specs.declared.room.TheConstants.{CALLER_ROOM}
use Rattle.jc_history.proofs.Appended.{first_fits, second_fits, two_appended}
use Rattle.jc_history.proofs.codec.encoding.encode_caller.Goals as goal

both : (session call : ℕ) → length (to_le_bytes w32 session) + length (to_le_bytes w64 call) ≤ CALLER_ROOM
both session call = omega arith

pub append-requires : goal.append-requires
append-requires c =
    let caller = c.args.caller.now in
    let o = c.args.out.now in
    first_fits o o (to_le_bytes w32 caller.session) (to_le_bytes w64 caller.call) c.to_le_bytes.result (to_le_bytes w64 caller.call) CALLER_ROOM
    c.to_le_bytes.ensures refl (both caller.session caller.call) c.requires

pub append-requires-2 : goal.append-requires-2
append-requires-2 c =
    let caller = c.args.caller.now in
    second_fits c.args.out.now c.append.new.out (to_le_bytes w32 caller.session) (to_le_bytes w64 caller.call) c.to_le_bytes.result c.to_le_bytes-2.result CALLER_ROOM
    c.to_le_bytes.ensures c.to_le_bytes-2.ensures (both caller.session caller.call) c.append.ensures.len c.append.ensures.capacity c.requires

pub returns-clause-appends : goal.returns-clause-appends
returns-clause-appends c =
    let caller = c.args.caller.now in
    two_appended c.args.out.now c.append.new.out (to_le_bytes w32 caller.session) (to_le_bytes w64 caller.call) c.to_le_bytes.result c.to_le_bytes-2.result CALLER_ROOM
    c.to_le_bytes.ensures c.to_le_bytes-2.ensures (both caller.session caller.call) c.append.ensures.len c.append.ensures.capacity c.append-2.new.out
    c.append.ensures.items c.append-2.ensures.items c.append-2.ensures.len c.append-2.ensures.capacity

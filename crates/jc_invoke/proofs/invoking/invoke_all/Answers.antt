use Rattle.jc_invoke.proofs.Common.{rules, ◌≤◌, length, arith}
use Rattle.jc_types.specs.declared.limits.TheConstants.{BULK_KEYS_MAX}
use Rattle.jc_invoke.proofs.Invoked.{left_as}
use Rattle.jc_invoke.proofs.invoking.invoke_all.Goals as goal

pub returns-in-Ok : goal.returns-in-Ok
returns-in-Ok g c =
    let is = c.carry_out.ensures.call in
    let few : length c.args.keys.now.keys ≤ BULK_KEYS_MAX = omega (arith, c.if-len-gt-BULK_KEYS_MAX.false, c.len.ensures.len) in
    record {
      may = c.carry_out.ensures.may;
      call = (
        few,
        is.1,
        is.2,
        left_as _ c.args.cache.now c.args.session.now c.carry_out.new.session c.args.keys.now.keys c.args.args.now c.args.processor.now c.carry_out.new.processing.processor.now _ is.1 is.2 is.3 (search rules),
        is.4,
      );
    }

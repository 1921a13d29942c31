use Rattle.std.proofs.Common.{arith}
use Rattle.std.proofs.Math.Nat.{pow-le-pow_right}
use Rattle.gtp_capture.proofs.clock.power.Goals as goal

pub returns-then-n-ge-MANY-clause-none : goal.returns-then-n-ge-MANY-clause-none
returns-then-n-ge-MANY-clause-none c =
    let more = pow-le-pow_right {n = c.args.base} c.requires {i = c.loop.counter} {j = c.args.exponent} c.loop.invariant.within in
    omega (arith, more, c.if-n-ge-MANY.true, c.loop.invariant.value)

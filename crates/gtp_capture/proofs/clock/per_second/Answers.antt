use Rattle.std.proofs.Common.{◌≡◌, ℕ, ◌<◌, ◌^◌, Option, Some, None, arith}
use Rattle.std.specs.Prelude.{IfSome}
use Rattle.std.proofs.Math.Nat.{one-le-pow}
use Rattle.gtp_capture.proofs.clock.per_second.Goals as goal

some_positive : (base exponent : ℕ) (r : Option ℕ) → 0 < base → IfSome r (λ n. n ≡ base ^ exponent) → IfSome r (λ n. 0 < n)
some_positive base exponent None some is = tt
some_positive base exponent (Some n) some is = omega (arith, is, one-le-pow exponent base some)

pub returns-then-resolution-lt128-clause-some : goal.returns-then-resolution-lt128-clause-some
returns-then-resolution-lt128-clause-some c = some_positive 10 c.args.resolution c.power.result (omega arith) c.power.ensures.found

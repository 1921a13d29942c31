use Rattle.std.proofs.Common.{◌≡◌, length, map, nat_eq, drop}
use Rattle.std.specs.Cmp.Lexicographic.{pointwise}
use Rattle.gtp_machine.specs.AccessPoints.{plain, plain_operator, is_operator}
use Rattle.gtp_gateway.proofs.config.access_points.is_operator.Given as goal

abbrev pub invariant-loop-place : goal.invariant-loop-place
invariant-loop-place l = (length l.labels ≡ 19) × (is_operator l.labels ≡ pointwise nat_eq (map plain (drop l.place l.labels)) (drop l.place plain_operator))

use Rattle.std.proofs.Common.{◌≡◌, drop}
use Rattle.gtp_machine.specs.Config.{meant_among}
use Rattle.gtp_gateway.proofs.config.access_points.meant_among.Given as goal

abbrev pub invariant-loop-place : goal.invariant-loop-place
invariant-loop-place l = meant_among l.by_network l.access_points l.name ≡ meant_among l.by_network (drop l.place l.access_points) l.name

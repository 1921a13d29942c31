use Rattle.gtp_gateway.proofs.Templates.{IsSought}
use Rattle.gtp_gateway.proofs.config.access_points.place_of.Given as goal

abbrev pub invariant-loop-place : goal.invariant-loop-place
invariant-loop-place l = IsSought l.name l.access_points l.place

use Rattle.std.proofs.Common.{◌≡◌, drop}
use Rattle.gtp_machine.specs.Config.{template_for}
use Rattle.gtp_gateway.specs.Settings.{templates_in}
use Rattle.gtp_gateway.proofs.config.access_points.template_at.Given as goal

abbrev pub invariant-loop-place : goal.invariant-loop-place
invariant-loop-place l = template_for l.name (templates_in l.access_points l.templates) ≡ template_for l.name (templates_in (drop l.place l.access_points) (drop l.place l.templates))

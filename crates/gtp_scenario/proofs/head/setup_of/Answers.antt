use Rattle.std.proofs.Common.{◌≡◌, Some, sym, subst}
use Rattle.gtp_gateway.specs.Settings.{Settings}
use Rattle.gtp_world.specs.Runs.{AreFacing}
use Rattle.gtp_scenario.specs.Heads.{set_up, with_templates_at}
use Rattle.gtp_scenario.specs.Trees.{view}
use Rattle.gtp_scenario.specs.Views.{serving_head, packet_head}
use Rattle.gtp_scenario.proofs.Templates.{templates_keep, faces}
use Rattle.gtp_scenario.proofs.head.setup_of.Goals as goal

pub world_of-requires : goal.world_of-requires
world_of-requires c =
    let timers = c.in_ok-timers.timers in
    let serving = serving_head c.in_ok-serving-2.serving in
    let packet = packet_head c.in_ok-packet.packet in
    let set = c.set_up-from_serving.ensures in
    let left = c.in_ok-from_packet.from_packet in
    let given = subst (λ (s : Settings). with_templates_at (view c.in_ok-said.said) s ≡ Some left) set.packet c.in_ok-from_packet.ensures in
    subst (λ (s : Settings). AreFacing s left) (sym set.serving) (faces timers serving packet left (templates_keep (view c.in_ok-said.said) (set_up timers serving packet).packet left given))

-- How a gateway is set up stays so in each run.
use Rattle.std.proofs.Common.{◌≡◌, List}
use Rattle.gtp_machine.specs.declared.role.Role.{Role}
use Rattle.gtp_machine.specs.declared.role.Role.TheVariants.{Serving, Packet}
use Rattle.gtp_machine.specs.World.{World, Event, Run, side_of, start}
use Rattle.gtp_machine.proofs.Worlds.Configs as machine
use Rattle.gtp_world.specs.Runs.{Setup, config_in}

-- in each run from a start
pub set_up : (setup : Setup) (events : List Event) (w : World)
    → Run (start setup.serving.config setup.packet.config setup.serving_counter setup.packet_counter) events w → (role : Role)
    → (side_of w role).node.config ≡ config_in setup role
set_up setup events w r Serving = machine.set_up setup.serving.config setup.packet.config setup.serving_counter setup.packet_counter events w r Serving
set_up setup events w r Packet = machine.set_up setup.serving.config setup.packet.config setup.serving_counter setup.packet_counter events w r Packet

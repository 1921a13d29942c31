-- The two gateways of a world, by their roles.
use Rattle.std.specs.Borrow.{Lends, MutBor, Fml}
use Rattle.gtp_machine.specs.declared.role.Role.{Role}
use Rattle.gtp_machine.specs.declared.role.Role.TheVariants.{Serving, Packet}
use Rattle.gtp_world.specs.declared.simulated_gateway.SimulatedGateway.{SimulatedGateway}
use Rattle.gtp_world.specs.declared.gateways.Gateways.{Gateways}
use Rattle.gtp_world.specs.contracts.gateways.Gateways.{the_row as gateways_row}
use Rattle.gtp_world.specs.contracts.simulated_gateway.SimulatedGateway.{the_row as side_row}

-- the gateway of a role
abbrev pub side_of : Role → Gateways → SimulatedGateway
side_of Serving gateways = gateways.serving
side_of Packet gateways = gateways.packet

-- both, with another in the place of the gateway of a role
abbrev pub with_side : Role → Gateways → SimulatedGateway → Gateways
with_side Serving gateways side = record gateways { serving = side }
with_side Packet gateways side = record gateways { packet = side }

-- once the borrow ends, the gateway of the role is what was last written through it
abbrev pub LendsSide : Role → MutBor Gateways → MutBor SimulatedGateway → Fml
LendsSide role gateways side = Lends gateways_row side_row gateways side (with_side role gateways.now)

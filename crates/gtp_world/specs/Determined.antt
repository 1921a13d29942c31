-- Worlds that the same events leave: their logs are equal, and so are the nodes and timers of their gateways.
use Rattle.std.specs.Prelude.{◌≡◌, List}
use Rattle.gtp_machine.specs.World.{Event}
use Rattle.gtp_gateway.specs.Determined.{AreLeftAlike}
use Rattle.gtp_world.specs.Record.{GatewayRecord, WorldRecord}
use Rattle.gtp_world.specs.Runs.{Setup, begun}
use Rattle.gtp_world.specs.Stepped.{EventsLeave}

-- the same is kept of a gateway: its role, its node and what its ticks go by, how it is set up and how often it was restarted, and what it has heard, given up
-- and made
pub record GatewaysAlike (one other : GatewayRecord) : Type 0 where
  pub settings : one.settings ≡ other.settings
  pub state : AreLeftAlike one.state other.state
  pub first : one.first ≡ other.first
  pub restarts : one.restarts ≡ other.restarts
  pub seen : one.seen ≡ other.seen
  pub forgotten : one.forgotten ≡ other.forgotten
  pub made : one.made ≡ other.made

-- the same is kept of both gateways, and the logs are one: each datagram, octet for octet, each packet that was handed in and that was accepted, how many deliveries
-- were late, and what came of each event
pub record WorldsAlike (one other : WorldRecord) : Type 0 where
  pub serving : GatewaysAlike one.serving other.serving
  pub packet : GatewaysAlike one.packet other.packet
  pub log : one.log ≡ other.log

-- Whatever happens from whatever setup, it leaves one world: one log, and the same of both gateways.
abbrev pub EventsLeaveOneWorld : Type 0
EventsLeaveOneWorld =
    (setup : Setup) (events : List Event) (one other : WorldRecord)
    → EventsLeave (begun setup) events one
    → EventsLeave (begun setup) events other
    → WorldsAlike one other

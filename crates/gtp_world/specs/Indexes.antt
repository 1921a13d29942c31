-- Lists with an index of what is in them.
use Rattle.std.specs.Prelude.{ℕ, ◌≤◌, ◌↔◌, List, length}
use Rattle.gtp_values.specs.FiniteMap.{Among}
use Rattle.gtp_machine.specs.Input.{Entry as Packet}
use Rattle.gtp_machine.specs.Node.{Arrival}
use Rattle.gtp_machine.specs.World.{By, other}
use Rattle.gtp_gateway.specs.Parts.{arrival_of}
use Rattle.gtp_world.specs.declared.request_key.RequestKey.{RequestKey}
use Rattle.gtp_world.specs.declared.log.Entry.{Entry}

-- requests in order, and for how many more there is room without an allocation
pub record Arrivals : Type 0 where
  pub list : List Arrival
  pub room : ℕ

-- packets in order, with the gateway of each, and for how many more there is room without an allocation
pub record Packets : Type 0 where
  pub list : List (By Packet)
  pub room : ℕ

-- the index has what the list has, and nothing else, and nothing twice
pub record IsIndexed {X : Type 0} (list index : List X) : Type 0 where
  pub same : (x : X) → Among x index ↔ Among x list
  pub few : length index ≤ length list

-- the request that a key stands for
abbrev pub asked : RequestKey → Arrival
asked a = arrival_of a.source a.octets.items

abbrev pub packet_in : Entry → Packet
packet_in e = record { target = e.teid; payload = e.payload.items; imsi = e.imsi; access_point = e.apn; identity = e.ebi }

-- a packet, and the gateway
abbrev pub entry_by : Entry → By Packet
entry_by e = record { role = e.node; what = packet_in e }

-- the packet of an entry, at the other gateway
abbrev pub owed_by : Entry → By Packet
owed_by e = record { role = other e.node; what = packet_in e }

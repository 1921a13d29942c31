-- Packets that are owed.
use Rattle.gtp_machine.specs.Input.{Entry}
use Rattle.gtp_machine.specs.Safety.{IsOwed}
use Rattle.gtp_machine.specs.World.{By}
use Rattle.gtp_world.specs.Record.{Log}

-- the packet was handed in at the other gateway, octet for octet, for the same TEID, subscriber, access point and bearer
abbrev pub WasOwed : Log → By Entry → Type 0
WasOwed log a = IsOwed log.handed a.role a.what

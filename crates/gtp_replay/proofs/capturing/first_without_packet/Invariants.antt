use Rattle.std.proofs.Common.{map, take}
use Rattle.gtp_world.specs.Record.{sent_by}
use Rattle.gtp_replay.specs.Captures.{HavePackets}
use Rattle.gtp_replay.proofs.capturing.first_without_packet.Given as goal

-- a packet carries each datagram before
abbrev pub invariant-loop-number : goal.invariant-loop-number
invariant-loop-number l = HavePackets (take l.number (map sent_by l.datagrams))

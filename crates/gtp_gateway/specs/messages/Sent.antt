-- What a gateway sends, as the machine's datagrams.
use Rattle.std.specs.Prelude.{◌≡◌, List, [], ◌∷◌, map, All}
use Rattle.gtp_machine.specs.Config.{Config}
use Rattle.gtp_machine.specs.Input.{Sending}
use Rattle.gtp_machine.specs.Message.{Message, Plane, Control, User}
use Rattle.gtp_machine.specs.Reading.{DatagramReads, reading_of}
use Rattle.gtp_machine.specs.Spelling.{Datagram, ReadsAs, spelled, datagram_plane, spelled_all, datagram_of}
use Rattle.gtp_gateway.specs.declared.sent.Sent.{Sent}
use Rattle.gtp_gateway.specs.messages.Spelled.{LieApart}

abbrev pub datagram_by : Sent → Datagram
datagram_by s = record { plane = s.plane; from = s.from; to = s.to; octets = s.octets.items }

-- the octets of a datagram of these messages read as them, and of two each lies as it is spelled; on the user plane it is one message
abbrev pub ReadsBackOn : Plane → List Message → Type 0
ReadsBackOn Control datagram = DatagramReads (spelled_all datagram) (reading_of datagram) × LieApart datagram
ReadsBackOn User (message ∷ []) = ReadsAs User (spelled message) message
ReadsBackOn User datagram = ⊥

-- what a gateway sends as a datagram of these messages reads as them
abbrev pub ReadsBack : List Message → Type 0
ReadsBack datagram = ReadsBackOn (datagram_plane datagram) datagram

-- a datagram that is sent reads as its messages
abbrev pub SendingReads : Sending → Type 0
SendingReads s = ReadsBack s.messages

-- the datagrams are those that are sent, in order, and each reads as its messages
pub record AreSent (config : Config) (datagrams : List Datagram) (sent : List Sending) : Type 0 where
  pub octets : datagrams ≡ map (datagram_of config) sent
  pub read : All SendingReads sent

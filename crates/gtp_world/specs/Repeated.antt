-- What is sent in answer to a create request that comes again, as datagrams.
use Rattle.std.specs.Prelude.{◌≡◌, ℕ, List, ◌++◌}
use Rattle.gtp_values.specs.FiniteMap.{Among}
use Rattle.gtp_machine.specs.Input.{Control_message}
use Rattle.gtp_machine.specs.Message.{Message, Control}
use Rattle.gtp_machine.specs.Once.{Makes}
use Rattle.gtp_machine.specs.Reading.{DatagramReading, Alone, Both, datagram_reading}
use Rattle.gtp_machine.specs.Spelling.{Datagram}
use Rattle.gtp_machine.specs.World.{By, Event, Deliver, Restart, other}
use Rattle.gtp_machine.specs.declared.role.Role.{Role}
use Rattle.gtp_world.specs.Record.{WorldRecord, gateway_in}
use Rattle.gtp_world.specs.Runs.{Setup, LeftByRun}
use Rattle.gtp_world.specs.Last.{last_octets}
use Rattle.gtp_world.specs.Stepped.{EventLeaves, EventsLeave, IsThere, IsLate}

-- octets that read so hold this message, by itself or as the second of two
abbrev pub HoldLast : DatagramReading → Message → Type 0
HoldLast (Alone reading) m = reading ≡ Control_message m
HoldLast (Both first second) m = second ≡ m

-- The datagram holds a request for which its receiver makes a context, by itself or as the second message: a Create Session Request to the packet gateway, or a
-- Create Bearer Request to the serving gateway.
pub record IsCreateRequest (d : By Datagram) : Type 0 where
  pub request : Message
  pub makes : Makes (other d.role) request
  pub plane : d.what.plane ≡ Control
  pub reads : HoldLast (datagram_reading d.what.octets) request

-- the datagrams have one sender, and their last messages the same octets: the one is the other sent again, or a request by itself that went with an answer before
pub record AreRepeats (one other : By Datagram) : Type 0 where
  pub role : one.role ≡ other.role
  pub plane : one.what.plane ≡ other.what.plane
  pub from : one.what.from ≡ other.what.from
  pub octets : last_octets one.what.octets ≡ last_octets other.what.octets

-- The datagram with the first number is delivered, then these events happen, and then the datagram with the second number is delivered.
pub record AreDelivered (number second_number : ℕ) (between : List Event) (first answered second again : WorldRecord) : Type 0 where
  pub comes : EventLeaves first (Deliver number) answered
  pub goes_on : EventsLeave answered between second
  pub comes_again : EventLeaves second (Deliver second_number) again

-- none of the events restarts the gateway
abbrev pub NeverRestarts : Role → List Event → Type 0
NeverRestarts role events = Among (Restart role) events → ⊥

-- the datagram was sent between these two worlds
pub record IsSentBetween (old new : WorldRecord) (d : By Datagram) : Type 0 where
  pub sent : List (By Datagram)
  pub are : new.log.datagrams ≡ old.log.datagrams ++ sent
  pub among : Among d sent

-- At each time in a run: if a create request is delivered from then on, and after some events it is delivered again, in the same datagram or in one that was sent
-- again, then all that is sent at both deliveries has the same octets. The second delivery is not late, and the receiver is not restarted between the two.
abbrev pub IsAnsweredAgainAlike : WorldRecord → Type 0
IsAnsweredAgainAlike first =
    (setup : Setup) (events : List Event) (r : LeftByRun setup events first)
    → (number second_number : ℕ) (between : List Event) (answered second again : WorldRecord)
    → AreDelivered number second_number between first answered second again
    → (found : IsThere first.log.datagrams number) (found_again : IsThere second.log.datagrams second_number)
    → AreRepeats found_again.sent found.sent
    → IsCreateRequest found.sent
    → (IsLate (gateway_in second (other found.sent.role)) found.sent.what → ⊥)
    → NeverRestarts (other found.sent.role) between
    → (answer second_answer : By Datagram) → IsSentBetween first answered answer → IsSentBetween second again second_answer
    → answer.what.octets ≡ second_answer.what.octets

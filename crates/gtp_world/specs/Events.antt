-- Events of the program, as the machine's.
use Rattle.gtp_machine.specs.declared.role.Role.TheVariants.{Serving, Packet}
use Rattle.gtp_machine.specs.World as machine
use Rattle.gtp_world.specs.Commands.{command_of}
use Rattle.gtp_world.specs.declared.event.Event.{Event}
use Rattle.gtp_world.specs.declared.event.Event.TheVariants.{CreateSession, DeleteSession, CreateBearer, DeleteBearer, ReleaseSession, EndMarker, Echo, SendUser, Tick, Deliver, Cut, Restart}

abbrev pub event_of : Event → machine.Event
event_of (CreateSession spec) = machine.Does Serving (command_of (CreateSession spec))
event_of (DeleteSession session) = machine.Does Serving (command_of (DeleteSession session))
event_of (CreateBearer session tft qos) = machine.Does Packet (command_of (CreateBearer session tft qos))
event_of (DeleteBearer session ebi) = machine.Does Packet (command_of (DeleteBearer session ebi))
event_of (ReleaseSession session) = machine.Does Packet (command_of (ReleaseSession session))
event_of (EndMarker bearer) = machine.Does Packet (command_of (EndMarker bearer))
event_of (Echo node) = machine.Does node (command_of (Echo node))
event_of (SendUser node bearer payload) = machine.Does node (command_of (SendUser node bearer payload))
event_of (Tick node) = machine.Tick node
event_of (Deliver datagram) = machine.Deliver datagram
event_of (Cut datagram length) = machine.Cut datagram length
event_of (Restart node) = machine.Restart node

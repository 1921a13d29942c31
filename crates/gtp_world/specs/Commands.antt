-- Events that are commands, as the machine's.
use Rattle.std.specs.Prelude.{Bool, Option, Some, None, is_some}
use Rattle.gtp_machine.specs.declared.role.Role.{Role}
use Rattle.gtp_machine.specs.declared.role.Role.TheVariants.{Serving, Packet}
use Rattle.gtp_machine.specs.Input as machine
use Rattle.gtp_machine.specs.Input.{Create_session, Delete_session, Create_bearer, Delete_bearer, Release_session, Mark_end, Send_echo, Send_user}
use Rattle.gtp_gateway.specs.command.CreateSession.{specification}
use Rattle.gtp_world.specs.declared.event.Event.{Event}
use Rattle.gtp_world.specs.declared.event.Event.TheVariants.{CreateSession, DeleteSession, CreateBearer, DeleteBearer, ReleaseSession, EndMarker, Echo, SendUser}

-- the gateway of an event that is a command
abbrev pub role_of : Event → Option Role
role_of (CreateSession spec) = Some Serving
role_of (DeleteSession session) = Some Serving
role_of (CreateBearer session tft qos) = Some Packet
role_of (DeleteBearer session ebi) = Some Packet
role_of (ReleaseSession session) = Some Packet
role_of (EndMarker bearer) = Some Packet
role_of (Echo node) = Some node
role_of (SendUser node bearer payload) = Some node
role_of _ = None

-- the event is a command
abbrev pub is_command : Event → Bool
is_command event = is_some (role_of event)

-- the command of an event that is one
abbrev pub command_of : Event → machine.Command
command_of (CreateSession spec) = Create_session (specification spec)
command_of (DeleteSession session) = Delete_session session
command_of (CreateBearer session tft qos) = Create_bearer session tft qos
command_of (DeleteBearer session ebi) = Delete_bearer session ebi
command_of (ReleaseSession session) = Release_session session
command_of (EndMarker bearer) = Mark_end bearer
command_of (SendUser node bearer payload) = Send_user bearer payload.items
command_of _ = Send_echo

-- The words by which scenarios and reports name gateways and events.
use Rattle.std.specs.Prelude.{List, ℕ, codes}
use Rattle.gtp_machine.specs.declared.role.Role.{Role}
use Rattle.gtp_machine.specs.declared.role.Role.TheVariants.{Serving, Packet}
use Rattle.gtp_machine.specs.Input.{Command, Create_session, Delete_session, Create_bearer, Delete_bearer, Release_session, Mark_end, Send_echo, Send_user}
use Rattle.gtp_machine.specs.World.{Event, Does, Tick, Deliver, Cut, Restart}

abbrev pub role_text : Role → List ℕ
role_text Serving = codes "serving"
role_text Packet = codes "packet"

abbrev pub command_word : Command → List ℕ
command_word (Create_session spec) = codes "create_session"
command_word (Delete_session teid) = codes "delete_session"
command_word (Create_bearer teid tft of) = codes "create_bearer"
command_word (Delete_bearer teid ebi) = codes "delete_bearer"
command_word (Release_session teid) = codes "release_session"
command_word (Mark_end teid) = codes "end_marker"
command_word Send_echo = codes "echo"
command_word (Send_user teid payload) = codes "send"

abbrev pub word_of : Event → List ℕ
word_of (Does node command) = command_word command
word_of (Tick node) = codes "tick"
word_of (Deliver datagram) = codes "deliver"
word_of (Cut datagram size) = codes "cut"
word_of (Restart node) = codes "restart"

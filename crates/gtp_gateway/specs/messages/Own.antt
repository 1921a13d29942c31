-- Messages that a gateway sends.
use Rattle.std.specs.Prelude.{◌≡◌, ◌+◌, ◌≤◌, length}
use Rattle.gtp_v2.specs.declared.message.Message as decoded
use Rattle.gtp_v2.specs.Body.{message_value, OctetsOnlyWithoutTable}
use Rattle.gtp_v2.specs.Priority.{PriorityNeedsTeid}
use Rattle.gtp_v2.specs.Marks.{MeetsMarks}
use Rattle.gtp_v2.specs.Room.{members}
use Rattle.gtp_user.specs.declared.message.UserMessage.{UserMessage}
use Rattle.gtp_user.specs.Message as user_messages
use Rattle.gtp_user.specs.Encoding as user_encodings
use Rattle.gtp_machine.specs.Message.{Control, User, plane_of}
use Rattle.gtp_machine.specs.Reading.{control_message, user_message}
use Rattle.gtp_machine.specs.Spelling.{control_value, user_value, IsOfOwnKind}

-- a message that a gateway sends: it says just what the machine's message says, of a kind that gateways send, and meets the marks of its table; its lists
-- are short
pub record IsOwn (m : decoded.Message) : Type 0 where
  pub header : PriorityNeedsTeid m.teid m.priority
  pub kind : OctetsOnlyWithoutTable m.body
  pub marks : MeetsMarks (message_value m)
  pub few : members (message_value m) ≤ 48
  pub control : plane_of (control_message m) ≡ Control
  pub own : IsOfOwnKind (control_message m)
  pub says : message_value m ≡ control_value (control_message m)

-- a message of the user plane that a gateway sends: it says just what the machine's message says, and has an encoding that two octets state the length of
pub record IsUserOwn (m : UserMessage) : Type 0 where
  pub encodable : user_encodings.IsEncodable (user_messages.message_value m)
  pub short : length (user_encodings.encoding (user_messages.message_value m)) ≤ 65535 + 8
  pub user : plane_of (user_message m) ≡ User
  pub says : user_messages.message_value m ≡ user_value (user_message m)

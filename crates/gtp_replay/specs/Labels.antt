-- What a diagram says of a datagram: its number, the names of its messages, and the TEID of the first.
use Rattle.std.specs.Prelude.{◌≡◌, ◌⊎◌, ℕ, List, ◌++◌, Option, Some, None, unwrap_or, codes, decimal}
use Rattle.gtp_values.specs.Teid.{teid_text}
use Rattle.gtp_values.specs.declared.plane.Plane.{Plane}
use Rattle.gtp_values.specs.declared.plane.Plane.TheVariants as planes
use Rattle.gtp_v2.specs.declared.fault.V2Fault.{V2Fault}
use Rattle.gtp_v2.specs.Message.{MessageValue}
use Rattle.gtp_v2.specs.Pair.{DatagramValue, IsDatagram, IsDatagramFault}
use Rattle.gtp_user.specs.declared.fault.UserFault.{UserFault}
use Rattle.gtp_user.specs.Message.{Content, EndMarker, Packet, Other}
use Rattle.gtp_user.specs.Message.{MessageValue as UserMessage}
use Rattle.gtp_user.specs.Datagram.{IsUserMessage, IsUserFault}
use Rattle.gtp_lines.specs.Control.{message_name}
use Rattle.gtp_lines.specs.User.{body_name}
use Rattle.gtp_replay.specs.Rows.{Numbered}

-- a name, and a TEID, where there is one
abbrev pub named : List ℕ → Option ℕ → List ℕ
named name None = name
named name (Some teid) = name ++ codes " " ++ teid_text teid

-- the names of a message, or of two in one datagram, and the TEID of the first
abbrev pub control_names : MessageValue → Option MessageValue → List ℕ
control_names first None = named (message_name first.kind) first.teid
control_names first (Some second) = message_name first.kind ++ codes " + " ++ named (message_name second.kind) first.teid

-- the TEID of a message of the user plane, where it has one that counts: in the messages of a tunnel and of other types
abbrev pub counted_teid : Content → Option ℕ
counted_teid (EndMarker teid) = Some teid
counted_teid (Packet teid payload) = Some teid
counted_teid (Other kind teid octets) = Some teid
counted_teid content = None

-- the name of a message of the user plane, and this TEID
abbrev pub user_names : Content → List ℕ
user_names content = named (unwrap_or (body_name content) (codes "other")) (counted_teid content)

-- the names of what octets are on a plane
abbrev pub AreNames : Plane → List ℕ → List ℕ → Type 0
AreNames planes.Control octets names =
    ((d : DatagramValue) × IsDatagram octets d × (names ≡ control_names d.first d.second))
    ⊎ ((f : V2Fault) × IsDatagramFault octets f × (names ≡ codes "fault"))
AreNames planes.User octets names =
    ((m : UserMessage) × IsUserMessage octets m × (names ≡ user_names m.content))
    ⊎ ((f : UserFault) × IsUserFault octets f × (names ≡ codes "fault"))

-- the number of a datagram, and these names
abbrev pub IsLabel : Numbered → List ℕ → Type 0
IsLabel d label = (names : List ℕ) × AreNames d.1.what.plane d.1.what.octets names × (label ≡ decimal d.0 ++ codes " " ++ names)

-- The one line of a datagram of a capture, after its frame, time and ends.
use Rattle.std.specs.Prelude.{◌≡◌, ℕ, Bool, true, false, List, ◌++◌, Option, Some, None, codes}
use Rattle.gtp_values.specs.declared.plane.Plane.{Plane}
use Rattle.gtp_values.specs.declared.plane.Plane.TheVariants as planes
use Rattle.gtp_v2.specs.declared.fault.V2Fault.{V2Fault}
use Rattle.gtp_v2.specs.Message.{MessageValue}
use Rattle.gtp_v2.specs.Pair.{DatagramValue, IsDatagram, IsDatagramFault}
use Rattle.gtp_user.specs.declared.fault.UserFault.{UserFault}
use Rattle.gtp_user.specs.Message.{Content}
use Rattle.gtp_user.specs.Message.{MessageValue as UserMessage}
use Rattle.gtp_user.specs.Datagram.{IsUserMessage, IsUserFault}
use Rattle.gtp_user.specs.Encoding.{kind_of}
use Rattle.gtp_names.specs.declared.names.Names.{Names}
use Rattle.gtp_lines.specs.Named.{name_in}
use Rattle.gtp_lines.specs.Values.{field_shown}
use Rattle.gtp_lines.specs.Control.{teid_shown, fault_line}
use Rattle.gtp_lines.specs.User.{body_name, target_shown, some_shown, user_fault_line}

-- the name of a message, or the number of its type, where it has none
abbrev pub brief_named : ℕ → Option (List ℕ) → List ℕ
brief_named kind None = field_shown (codes "type ") kind
brief_named kind (Some name) = name

-- its name, its TEID, where it has one, and its sequence number
abbrev pub brief_message : Names → MessageValue → List ℕ
brief_message names m = brief_named m.kind (name_in names m.kind) ++ (teid_shown m.teid ++ field_shown (codes " seq ") m.seq)

-- a second message behind it
abbrev pub brief_second : Names → Option MessageValue → List ℕ
brief_second names None = codes "\n"
brief_second names (Some m) = codes " then " ++ (brief_message names m ++ codes "\n")

abbrev pub brief_datagram : Names → MessageValue → Option MessageValue → List ℕ
brief_datagram names first second = brief_message names first ++ brief_second names second

-- the name of a message of the user plane
abbrev pub brief_user_name : Content → List ℕ
brief_user_name content = brief_named (kind_of content) (body_name content)

abbrev pub brief_user : UserMessage → List ℕ
brief_user m = brief_user_name m.content ++ (target_shown m.content ++ (some_shown (codes " seq ") m.seq ++ codes "\n"))

-- The end of the line: what the datagram's message or its two are; or its first fault.
abbrev pub BriefLine : Names → Plane → List ℕ → List ℕ → Bool → Type 0
BriefLine names planes.Control octets text true = (f : V2Fault) × IsDatagramFault octets f × (text ≡ fault_line f)
BriefLine names planes.Control octets text false = (d : DatagramValue) × IsDatagram octets d × (text ≡ brief_datagram names d.first d.second)
BriefLine names planes.User octets text true = (f : UserFault) × IsUserFault octets f × (text ≡ user_fault_line f)
BriefLine names planes.User octets text false = (m : UserMessage) × IsUserMessage octets m × (text ≡ brief_user m)

-- A datagram of the user plane as JSON: the reading of `gtp_lines`, by members of objects.
use Rattle.std.specs.Prelude.{ℕ, List, [], ◌++◌, map, Option, Some, None, codes}
use Rattle.json.specs.Json.{Json, string}
use Rattle.gtp_user.specs.declared.fault.UserFault.{UserFault}
use Rattle.gtp_user.specs.declared.fault.UserFault.TheVariants as faults
use Rattle.gtp_user.specs.Chain.{Extension}
use Rattle.gtp_user.specs.Message.{Content, ErrorIndication, Notification, EndMarker, Packet, Other, MessageValue}
use Rattle.gtp_user.specs.Encoding.{kind_of}
use Rattle.gtp_values.specs.declared.address.Ip.{Ip}
use Rattle.gtp_values.specs.Address.{ip_text}
use Rattle.gtp_lines.specs.User.{body_name}
use Rattle.gtp_json.specs.Tree.{member, object_of, array_of, number_of}
use Rattle.gtp_json.specs.Values.{hexadecimal, teid_value, octets_members}

-- the type of a message, by its number and, where it has one, its name
abbrev pub named : ℕ → Option (List ℕ) → List (List ℕ × Json)
named kind None = member (codes "type") (number_of kind)
named kind (Some name) = member (codes "type") (number_of kind) ++ member (codes "name") (string name)

abbrev pub user_title : Content → List (List ℕ × Json)
user_title content = named (kind_of content) (body_name content)

-- the TEID of the header, of the messages of a tunnel and of other types
abbrev pub target_members : Content → List (List ℕ × Json)
target_members (EndMarker teid) = member (codes "teid") (teid_value teid)
target_members (Packet teid payload) = member (codes "teid") (teid_value teid)
target_members (Other kind teid octets) = member (codes "teid") (teid_value teid)
target_members content = []

-- a number, where there is one
abbrev pub some_member : List ℕ → Option ℕ → List (List ℕ × Json)
some_member name None = []
some_member name (Some number) = member name (number_of number)

abbrev pub user_head : MessageValue → List (List ℕ × Json)
user_head m = user_title m.content ++ (target_members m.content ++ (some_member (codes "seq") m.seq ++ some_member (codes "npdu") m.npdu))

abbrev pub extension_members : Extension → List (List ℕ × Json)
extension_members e = member (codes "type") (number_of e.kind) ++ octets_members e.content

abbrev pub extension_json : Extension → Json
extension_json e = object_of (extension_members e)

-- extension headers in order
abbrev pub extensions_members : List Extension → List (List ℕ × Json)
extensions_members es = member (codes "extensions") (array_of (map extension_json es))

-- the TEID and the address of a packet that found no context (TS 29.281 7.3.1)
abbrev pub indication_members : ℕ → Ip → List (List ℕ × Json)
indication_members teid peer = member (codes "teid_data") (teid_value teid) ++ member (codes "peer") (string (ip_text peer))

-- what a message carries
abbrev pub user_carried : Content → List (List ℕ × Json)
user_carried (ErrorIndication teid peer) = indication_members teid peer
user_carried (Notification types) = member (codes "types") (hexadecimal types)
user_carried (Packet teid payload) = member (codes "payload") (hexadecimal payload)
user_carried (Other kind teid octets) = octets_members octets
user_carried content = []

-- the members of a message: its header, its extension headers and what it carries
abbrev pub user_members : MessageValue → List (List ℕ × Json)
user_members m = user_head m ++ (extensions_members m.ext ++ user_carried m.content)

-- the code of a fault
abbrev pub user_code : UserFault → List ℕ
user_code (faults.Short held) = codes "U1"
user_code (faults.Version version) = codes "U2"
user_code faults.Protocol = codes "U3"
user_code (faults.Length stated held) = codes "U4"
user_code (faults.ExtensionZero at) = codes "U5"
user_code (faults.ExtensionPast at) = codes "U6"
user_code (faults.ExtensionNeeded kind at) = codes "U7"
user_code (faults.Missing kind) = codes "U8"
user_code (faults.Element at) = codes "U9"
user_code faults.Memory = codes "U10"
user_code faults.TooLong = codes "U11"

-- what follows it
abbrev pub user_fault_detail : UserFault → List (List ℕ × Json)
user_fault_detail (faults.Short held) = member (codes "held") (number_of held)
user_fault_detail (faults.Version version) = member (codes "version") (number_of version)
user_fault_detail (faults.Length stated held) = member (codes "stated") (number_of stated) ++ member (codes "held") (number_of held)
user_fault_detail (faults.ExtensionZero at) = member (codes "at") (number_of at)
user_fault_detail (faults.ExtensionPast at) = member (codes "at") (number_of at)
user_fault_detail (faults.ExtensionNeeded kind at) = member (codes "type") (number_of kind)
user_fault_detail (faults.Missing kind) = member (codes "type") (number_of kind)
user_fault_detail (faults.Element at) = member (codes "at") (number_of at)
user_fault_detail fault = []

abbrev pub user_fault_members : UserFault → List (List ℕ × Json)
user_fault_members f = member (codes "code") (string (user_code f)) ++ user_fault_detail f

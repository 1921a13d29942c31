-- The lines of a datagram of the user plane.
use Rattle.std.specs.Prelude.{◌≡◌, ℕ, ◌==◌, if◌then◌else◌, Bool, true, false, List, [], ◌∷◌, ◌++◌, Option, Some, None, unwrap_or, codes, decimal}
use Rattle.std.specs.List.{flat_map}
use Rattle.hex.specs.Hex.{encode_lower}
use Rattle.gtp_user.specs.declared.fault.UserFault.{UserFault}
use Rattle.gtp_user.specs.declared.fault.UserFault.TheVariants as faults
use Rattle.gtp_user.specs.declared.kinds.TheConstants.{ECHO_REQUEST, ECHO_RESPONSE, ERROR_INDICATION, SUPPORTED_EXTENSION_HEADERS_NOTIFICATION, END_MARKER, G_PDU}
use Rattle.gtp_user.specs.Codes.{number_of}
use Rattle.gtp_user.specs.Chain.{Extension}
use Rattle.gtp_user.specs.Message.{Content, ErrorIndication, Notification, EndMarker, Packet, Other, MessageValue}
use Rattle.gtp_user.specs.Datagram.{IsUserMessage, IsUserFault}
use Rattle.gtp_user.specs.Encoding.{kind_of}
use Rattle.gtp_values.specs.Address.{ip_text}
use Rattle.gtp_values.specs.Teid.{teid_text}
use Rattle.gtp_lines.specs.Text.{octets_text}
use Rattle.gtp_lines.specs.Values.{field_shown}

-- the name of a type of message that has a form of its own
abbrev pub user_name : ℕ → Option (List ℕ)
user_name kind =
    if kind == ECHO_REQUEST then Some (codes "echo-request")
    else (if kind == ECHO_RESPONSE then Some (codes "echo-response")
    else (if kind == ERROR_INDICATION then Some (codes "error-indication")
    else (if kind == SUPPORTED_EXTENSION_HEADERS_NOTIFICATION then Some (codes "supported-extensions")
    else (if kind == END_MARKER then Some (codes "end-marker")
    else (if kind == G_PDU then Some (codes "g-pdu") else None)))))

-- the name of a message, that of its type; a message of another type has none, whatever its number
abbrev pub body_name : Content → Option (List ℕ)
body_name (Other kind teid octets) = None
body_name content = user_name (kind_of content)

-- the type of a message, by its number and its name
abbrev pub named : ℕ → Option (List ℕ) → List ℕ
named kind name = field_shown (codes "gtpu type ") kind ++ (codes " " ++ unwrap_or name (codes "other"))

-- the same by its number alone
abbrev pub kind_title : ℕ → List ℕ
kind_title kind = named kind (user_name kind)

abbrev pub user_title : Content → List ℕ
user_title content = named (kind_of content) (body_name content)

-- the TEID of the header, of the messages of a tunnel and of other types
abbrev pub target_shown : Content → List ℕ
target_shown (EndMarker teid) = codes " teid " ++ teid_text teid
target_shown (Packet teid payload) = codes " teid " ++ teid_text teid
target_shown (Other kind teid octets) = codes " teid " ++ teid_text teid
target_shown content = []

-- a number, where there is one
abbrev pub some_shown : List ℕ → Option ℕ → List ℕ
some_shown mark None = []
some_shown mark (Some number) = field_shown mark number

abbrev pub user_head_line : MessageValue → List ℕ
user_head_line m = user_title m.content ++ (target_shown m.content ++ (some_shown (codes " seq ") m.seq ++ (some_shown (codes " npdu ") m.npdu ++ codes "\n")))

-- an extension header
abbrev pub extension_line : Extension → List ℕ
extension_line e = codes "ext " ++ (encode_lower (e.kind ∷ []) ++ (codes " " ++ (octets_text e.content ++ codes "\n")))

-- a mark and octets
abbrev pub octets_line : List ℕ → List ℕ → List ℕ
octets_line mark octets = mark ++ (octets_text octets ++ codes "\n")

-- what a message carries
abbrev pub carried_shown : Content → List ℕ
carried_shown (ErrorIndication teid peer) = codes "teid " ++ (teid_text teid ++ (codes "\npeer " ++ (ip_text peer ++ codes "\n")))
carried_shown (Notification types) = octets_line (codes "types ") types
carried_shown (Packet teid payload) = octets_line (codes "payload ") payload
carried_shown (Other kind teid octets) = octets_line (codes "octets ") octets
carried_shown content = []

-- what follows the number of a fault
abbrev pub user_fault_detail : UserFault → List ℕ
user_fault_detail (faults.Short held) = codes " held " ++ decimal held
user_fault_detail (faults.Version version) = codes " version " ++ decimal version
user_fault_detail (faults.Length stated held) = codes " stated " ++ (decimal stated ++ (codes " held " ++ decimal held))
user_fault_detail (faults.ExtensionZero at) = codes " at " ++ decimal at
user_fault_detail (faults.ExtensionPast at) = codes " at " ++ decimal at
user_fault_detail (faults.ExtensionNeeded kind at) = codes " type " ++ encode_lower (kind ∷ [])
user_fault_detail (faults.Missing kind) = codes " type " ++ decimal kind
user_fault_detail (faults.Element at) = codes " at " ++ decimal at
user_fault_detail fault = []

-- what follows the word of a fault
abbrev pub user_fault_shown : UserFault → List ℕ
user_fault_shown f = field_shown (codes "U") (number_of f) ++ user_fault_detail f

abbrev pub user_fault_line : UserFault → List ℕ
user_fault_line f = codes "fault " ++ (user_fault_shown f ++ codes "\n")

-- the lines of a message: its head, its extension headers in order, and what it carries
abbrev pub user_lines : MessageValue → List ℕ
user_lines m = user_head_line m ++ (flat_map extension_line m.ext ++ carried_shown m.content)

-- the lines of a datagram of the user plane, and whether they are a fault's
abbrev pub UserLines : List ℕ → List ℕ → Bool → Type 0
UserLines octets text true = (f : UserFault) × IsUserFault octets f × (text ≡ user_fault_line f)
UserLines octets text false = (m : MessageValue) × IsUserMessage octets m × (text ≡ user_lines m)

-- A datagram as one JSON object on one line.
use Rattle.std.specs.Prelude.{◌≡◌, ℕ, Bool, true, false, if◌then◌else◌, List, [], ◌++◌, ◌⊎◌, codes}
use Rattle.json.specs.Json.{Json, string}
use Rattle.gtp_values.specs.declared.plane.Plane.{Plane}
use Rattle.gtp_values.specs.declared.plane.Plane.TheVariants.{Control, User}
use Rattle.gtp_v2.specs.declared.fault.V2Fault.{V2Fault}
use Rattle.gtp_v2.specs.Pair.{DatagramValue, IsDatagramBy, IsDatagramFaultBy}
use Rattle.gtp_user.specs.declared.fault.UserFault.{UserFault}
use Rattle.gtp_user.specs.Message.{MessageValue as UserMessage}
use Rattle.gtp_user.specs.Datagram.{IsUserMessage, IsUserMessageBy, IsUserFaultBy}
use Rattle.gtp_interfaces.specs.declared.interface.Interface.{Interface}
use Rattle.gtp_interfaces.specs.declared.interface.Interface.TheVariants as interfaces
use Rattle.gtp_interfaces.specs.Interface.{asked_on, understood_on}
use Rattle.gtp_names.specs.declared.names.Names.{Names}
use Rattle.gtp_lines.specs.All.{user_head_at}
use Rattle.gtp_lines.specs.Fronts.{chain_at}
use Rattle.gtp_json.specs.declared.datagram.Members.{Members}
use Rattle.gtp_json.specs.declared.datagram.Members.TheVariants.{Plain, All}
use Rattle.gtp_json.specs.Tree.{member, object_of, line_of}
use Rattle.gtp_json.specs.Values.{hexadecimal}
use Rattle.gtp_json.specs.Control.{MessageMembers, PairMembers, fault_member}
use Rattle.gtp_json.specs.Places.{FaultMembers, user_members_at}
use Rattle.gtp_json.specs.User.{user_members}
use Rattle.gtp_json.specs.Named.{named_user_members}
use Rattle.gtp_json.specs.All.{ControlShown, user_shown}

abbrev pub plane_word : Plane → List ℕ
plane_word Control = codes "control"
plane_word User = codes "user"

abbrev pub plane_member : Plane → List (List ℕ × Json)
plane_member plane = member (codes "plane") (string (plane_word plane))

-- the interface on which a datagram is judged
abbrev pub interface_of : Members → Interface
interface_of Plain = interfaces.S5S8
interface_of (All names interface places) = interface

-- the members of a control datagram without a fault: those of its message or of its two; or all that can be shown of it, where it spells these
abbrev pub ControlMembers : Members → List ℕ → List (List ℕ × Json) → Type 0
ControlMembers Plain octets ms = MessageMembers octets ms ⊎ PairMembers octets ms
ControlMembers (All names interface places) octets ms = ((d : DatagramValue) × IsDatagramBy (asked_on interface) octets d) × ControlShown places names octets ms

-- what stands before a fault: nothing; or all that can be shown
abbrev pub BeforeFault : Members → Plane → List ℕ → List (List ℕ × Json) → Type 0
BeforeFault Plain plane octets ms = ms ≡ []
BeforeFault (All names interface places) Control octets ms = ControlShown places names octets ms
BeforeFault (All names interface places) User octets ms = ms ≡ user_shown names (user_head_at octets) (chain_at octets)

-- and then the fault, of these members
abbrev pub WithFault : Members → Plane → List ℕ → List (List ℕ × Json) → List (List ℕ × Json) → Type 0
WithFault members plane octets fault ms = (before : List (List ℕ × Json)) × BeforeFault members plane octets before × (ms ≡ before ++ fault_member fault)

-- whether places are asked for
abbrev pub has_places : Members → Bool
has_places Plain = false
has_places (All names interface places) = places

-- what is shown of a user datagram without a fault: its message; or, where some of its extension headers are not understood on S5/S8, all that can be shown
abbrev pub UserShown : Names → List ℕ → List (List ℕ × Json) → Type 0
UserShown names octets ms =
    ((m : UserMessage) × IsUserMessage octets m × (ms ≡ named_user_members names m))
    ⊎ (((m : UserMessage) → IsUserMessage octets m → ⊥) × (ms ≡ user_shown names (user_head_at octets) (chain_at octets)))

-- its members: those of its message; or what is shown of it
abbrev pub UserMembers : Members → List ℕ → List (List ℕ × Json) → Type 0
UserMembers Plain octets ms = (m : UserMessage) × IsUserMessage octets m × (ms ≡ user_members m)
UserMembers (All names interface places) octets ms = ((m : UserMessage) × IsUserMessageBy (understood_on interface) octets m) × UserShown names octets ms

-- the members of a control datagram with this fault
abbrev pub FaultShown : Members → List ℕ → V2Fault → List (List ℕ × Json) → Type 0
FaultShown members octets f ms = (fault : List (List ℕ × Json)) × FaultMembers (has_places members) octets f fault × WithFault members Control octets fault ms

-- The members of a datagram after its plane, and whether it has a fault on the interface, which is its first.
abbrev pub MembersBy : Members → Plane → List ℕ → List (List ℕ × Json) → Bool → Type 0
MembersBy members Control octets ms true = (f : V2Fault) × IsDatagramFaultBy (asked_on (interface_of members)) octets f × FaultShown members octets f ms
MembersBy members Control octets ms false = ControlMembers members octets ms
MembersBy members User octets ms true = (f : UserFault) × IsUserFaultBy (understood_on (interface_of members)) octets f × WithFault members User octets (user_members_at (has_places members) f) ms
MembersBy members User octets ms false = UserMembers members octets ms

-- its octets, where places are asked for
abbrev pub octets_shown : Members → List ℕ → List (List ℕ × Json)
octets_shown members octets = if has_places members then member (codes "datagram") (hexadecimal octets) else []

-- both
abbrev pub WholeMembers : Members → Plane → List ℕ → List (List ℕ × Json) → Bool → Type 0
WholeMembers members plane octets ms faulty = (said : List (List ℕ × Json)) × MembersBy members plane octets said faulty × (ms ≡ octets_shown members octets ++ said)

-- the JSON of a datagram: its plane, and then these members
abbrev pub IsDatagramJson : Members → Plane → List ℕ → Json → Bool → Type 0
IsDatagramJson members plane octets j faulty = (ms : List (List ℕ × Json)) × WholeMembers members plane octets ms faulty × (j ≡ object_of (plane_member plane ++ ms))

-- and its line
abbrev pub DatagramJson : Members → Plane → List ℕ → List ℕ → Bool → Type 0
DatagramJson members plane octets text faulty = (j : Json) × IsDatagramJson members plane octets j faulty × (text ≡ line_of j)

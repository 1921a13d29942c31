-- What holds of all octets.
use Rattle.std.specs.Prelude.{◌≡◌, ℕ, ◌++◌, ◌⊎◌, Bool, true, false, List, []}
use Rattle.json.specs.Json.{Json}
use Rattle.gtp_values.specs.declared.plane.Plane.{Plane}
use Rattle.gtp_values.specs.declared.plane.Plane.TheVariants as planes
use Rattle.gtp_v2.specs.declared.fault.V2Fault.{V2Fault}
use Rattle.gtp_v2.specs.Pair.{DatagramValue, IsDatagramBy, IsDatagramFaultBy}
use Rattle.gtp_user.specs.declared.fault.UserFault.{UserFault}
use Rattle.gtp_user.specs.Message.{MessageValue as UserValue}
use Rattle.gtp_user.specs.Datagram.{IsUserMessage, IsUserFaultBy}
use Rattle.gtp_interfaces.specs.Interface.{asked_on, understood_on}
use Rattle.gtp_capture.specs.Seen.{Seen}
use Rattle.gtp_lines.specs.Control.{fault_line}
use Rattle.gtp_lines.specs.Lines.{LinesOf}
use Rattle.gtp_lines.specs.Fronts.{chain_at}
use Rattle.gtp_lines.specs.All.{ControlShown, context_line, fault_context, user_shown, user_head_at, AllLines}
use Rattle.gtp_lines.specs.User.{user_lines, user_fault_line}
use Rattle.gtp_lines.specs.Named.{named_user_lines}
use Rattle.gtp_json.specs.declared.datagram.Members.{Members}
use Rattle.gtp_json.specs.declared.datagram.Members.TheVariants.{Plain, All}
use Rattle.gtp_json.specs.Tree.{object_of}
use Rattle.gtp_json.specs.Places.{FaultMembers, user_members_at}
use Rattle.gtp_json.specs.User.{user_members}
use Rattle.gtp_json.specs.Named.{named_user_members}
use Rattle.gtp_json.specs.All.{user_shown as shown_members}
use Rattle.gtp_json.specs.Datagram.{interface_of, plane_member, has_places, octets_shown, WithFault, IsDatagramJson, DatagramJson}
use Rattle.gtp_json.specs.Frames.{FrameJson}

-- a datagram has one line, in each form, and whether it has a fault is determined
abbrev pub OneLine : Type 0
OneLine =
    (members : Members) (plane : Plane) (octets : List ℕ) (text : List ℕ) (faulty : Bool) (other : List ℕ) (wrong : Bool)
    → DatagramJson members plane octets text faulty → DatagramJson members plane octets other wrong → (text ≡ other) × (faulty ≡ wrong)

-- and so has a datagram of a capture
abbrev pub OneFrameLine : Type 0
OneFrameLine =
    (members : Members) (d : Seen) (text : List ℕ) (faulty : Bool) (other : List ℕ) (wrong : Bool)
    → FrameJson members d text faulty → FrameJson members d other wrong → (text ≡ other) × (faulty ≡ wrong)

-- the lines of a datagram: those of its message or of its two, or of its first fault; or all that can be shown of it, and then the fault
abbrev pub LinesBy : Members → Plane → List ℕ → List ℕ → Bool → Type 0
LinesBy Plain plane octets text faulty = LinesOf plane octets text faulty
LinesBy (All names interface places) plane octets text faulty = AllLines names interface plane octets text faulty

-- what stands before the line of a fault: nothing; or all that can be shown
abbrev pub LinesBefore : Members → Plane → List ℕ → List ℕ → Type 0
LinesBefore Plain plane octets text = text ≡ []
LinesBefore (All names interface places) planes.Control octets text = ControlShown names octets text
LinesBefore (All names interface places) planes.User octets text = text ≡ user_shown names (user_head_at octets) (chain_at octets)

-- and then the line
abbrev pub EndsInLine : Members → Plane → List ℕ → List ℕ → List ℕ → Type 0
EndsInLine members plane octets line text = (before : List ℕ) × LinesBefore members plane octets before × (text ≡ before ++ line)

-- an object whose last member is a fault
abbrev pub EndsInFault : Members → Plane → List ℕ → List (List ℕ × Json) → Json → Type 0
EndsInFault members plane octets fault j = (ms : List (List ℕ × Json)) × WithFault members plane octets fault ms × (j ≡ object_of (plane_member plane ++ (octets_shown members octets ++ ms)))

-- the line of a fault; and, of all that can be shown, that of the bearer context in which it lies
abbrev pub fault_lines : Members → List ℕ → V2Fault → List ℕ
fault_lines Plain octets f = fault_line f
fault_lines (All names interface places) octets f = fault_line f ++ context_line (fault_context octets f)

-- an object of these members of the user plane
abbrev pub IsUserObject : Members → List ℕ → List (List ℕ × Json) → Json → Type 0
IsUserObject members octets ms j = j ≡ object_of (plane_member planes.User ++ (octets_shown members octets ++ ms))

-- the text and the object are of the one message of the user plane that octets spell; or both are all that can be shown of octets that spell none on S5/S8
abbrev pub OfMessage : Members → List ℕ → List ℕ → Json → Type 0
OfMessage Plain octets text j = (m : UserValue) × IsUserMessage octets m × (text ≡ user_lines m) × IsUserObject Plain octets (user_members m) j
OfMessage (All names interface places) octets text j =
    ((m : UserValue) × IsUserMessage octets m × (text ≡ named_user_lines names m) × IsUserObject (All names interface places) octets (named_user_members names m) j)
    ⊎ (((m : UserValue) → IsUserMessage octets m → ⊥) × (text ≡ user_shown names (user_head_at octets) (chain_at octets))
    × IsUserObject (All names interface places) octets (shown_members names (user_head_at octets) (chain_at octets)) j)

-- the text and the object say the one fault of the octets on the interface, or their one message of the user plane; of a datagram of the control plane the octets spell one and
-- no other, so both are of that
abbrev pub OfOne : Members → Plane → List ℕ → Bool → List ℕ → Json → Type 0
OfOne members planes.Control octets true text j =
    (f : V2Fault) × IsDatagramFaultBy (asked_on (interface_of members)) octets f × EndsInLine members planes.Control octets (fault_lines members octets f) text
    × ((fault : List (List ℕ × Json)) × FaultMembers (has_places members) octets f fault × EndsInFault members planes.Control octets fault j)
OfOne members planes.Control octets false text j =
    (d : DatagramValue) × IsDatagramBy (asked_on (interface_of members)) octets d
    × ((other : DatagramValue) → IsDatagramBy (asked_on (interface_of members)) octets other → other ≡ d)
OfOne members planes.User octets true text j =
    (f : UserFault) × IsUserFaultBy (understood_on (interface_of members)) octets f × EndsInLine members planes.User octets (user_fault_line f) text × EndsInFault members planes.User octets (user_members_at (has_places members) f) j
OfOne members planes.User octets false text j = OfMessage members octets text j

-- the lines of a datagram and its object are of one reading
abbrev pub OneReading : Type 0
OneReading =
    (members : Members) (plane : Plane) (octets : List ℕ) (text : List ℕ) (faulty : Bool) (j : Json) (wrong : Bool)
    → LinesBy members plane octets text faulty → IsDatagramJson members plane octets j wrong → (faulty ≡ wrong) × OfOne members plane octets faulty text j

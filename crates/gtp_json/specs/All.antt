-- All that can be shown of a datagram as JSON: what `gtp_lines` shows as lines, by members of objects.
use Rattle.std.specs.Prelude.{◌≡◌, ℕ, ◌==◌, ◌&&◌, if◌then◌else◌, Bool, List, [], ◌∷◌, ◌++◌, Option, Some, None, codes}
use Rattle.json.specs.Json.{Json}
use Rattle.gtp_ie.specs.Element.{Element}
use Rattle.gtp_v2.specs.Headed.{Headed}
use Rattle.gtp_lines.specs.All.{IsFront, UserHead, head_at, pair_at}
use Rattle.gtp_lines.specs.User.{user_name}
use Rattle.gtp_json.specs.Tree.{member}
use Rattle.gtp_json.specs.Values.{hexadecimal, teid_value}
use Rattle.gtp_names.specs.declared.names.Names.{Names}
use Rattle.gtp_lines.specs.Named.{name_in}
use Rattle.gtp_json.specs.Control.{header_members, second_member}
use Rattle.gtp_lines.specs.Fronts.{Front, front_of}
use Rattle.gtp_json.specs.Named.{named_elements, named_extensions}
use Rattle.gtp_json.specs.User.{named, some_member}

-- octets that are left, where there are some
abbrev pub rest_members : List ℕ → List (List ℕ × Json)
rest_members [] = []
rest_members (octet ∷ octets) = member (codes "rest") (hexadecimal (octet ∷ octets))

-- ---- the control plane

-- a message by its header: the elements by their names and forms, as many as are whole, with their places or without, and the octets that are left
abbrev pub MessageShown : Bool → Names → Headed → List (List ℕ × Json) → Type 0
MessageShown places names h ms = (es : List Element) × (rest : List ℕ) × IsFront h.at h.rest es rest × (ms ≡ header_members (name_in names h.kind) h.kind h.teid h.seq h.priority ++ (named_elements places names h.kind es ++ rest_members rest))

-- a message without a header shows nothing
abbrev pub AloneShown : Bool → Names → Option Headed → List (List ℕ × Json) → Type 0
AloneShown places names None ms = ms ≡ []
AloneShown places names (Some h) ms = MessageShown places names h ms

-- a second message without one shows its octets
abbrev pub SecondShown : Bool → Names → List ℕ → Option Headed → List (List ℕ × Json) → Type 0
SecondShown places names octets None ms = ms ≡ rest_members octets
SecondShown places names octets (Some h) ms = MessageShown places names h ms

-- a first message, and an object of the octets after it
abbrev pub PairShown : Bool → Names → Headed → List ℕ → List (List ℕ × Json) → Type 0
PairShown places names h back ms = (a : List (List ℕ × Json)) × (b : List (List ℕ × Json)) × MessageShown places names h a × SecondShown places names back (head_at back) b × (ms ≡ a ++ second_member b)

-- two messages, or one
abbrev pub ShownBy : Bool → Names → Option (Headed × List ℕ) → Option Headed → List (List ℕ × Json) → Type 0
ShownBy places names None whole ms = AloneShown places names whole ms
ShownBy places names (Some pair) whole ms = PairShown places names pair.0 pair.1 ms

-- what can be shown of a datagram
abbrev pub ControlShown : Bool → Names → List ℕ → List (List ℕ × Json) → Type 0
ControlShown places names octets ms = ShownBy places names (pair_at octets) (head_at octets) ms

-- ---- the user plane

-- the type of a message, and its name where it has one
abbrev pub kind_members : ℕ → List (List ℕ × Json)
kind_members kind = named kind (user_name kind)

-- the packet of a G-PDU, whose extension headers are whole
abbrev pub packet_members : ℕ → ℕ → List ℕ → List (List ℕ × Json)
packet_members kind next rest = if (next == 0) && (kind == 255) then member (codes "payload") (hexadecimal rest) else []

-- extension headers, as far as they are whole, and the packet after them
abbrev pub front_members : Names → ℕ → Front → List (List ℕ × Json)
front_members names kind f = named_extensions names f.headers ++ packet_members kind f.next f.rest

-- those of a datagram at fault, where it says that it has some
abbrev pub chain_members : Names → ℕ → Option (ℕ × List ℕ) → List (List ℕ × Json)
chain_members names kind None = []
chain_members names kind (Some chain) = front_members names kind (front_of chain.0 chain.1)

-- what can be shown of a datagram at fault: its header, the octets after that, and its extension headers
abbrev pub user_shown : Names → Option UserHead → Option (ℕ × List ℕ) → List (List ℕ × Json)
user_shown names None chain = []
user_shown names (Some h) chain =
    kind_members h.kind ++ (member (codes "teid") (teid_value h.teid) ++ (some_member (codes "seq") h.seq ++ (rest_members h.rest ++ chain_members names h.kind chain)))

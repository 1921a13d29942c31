-- The one encoding of a message, and which messages have one.
use Rattle.std.specs.Prelude.{◌≡◌, ℕ, ◌+◌, ◌<◌, ◌^◌, not, List, [], ◌∷◌, ◌++◌, length, Option, is_some, unwrap_or, IsSome, IfSome, ◌==◌, if◌then◌else◌}
use Rattle.gtp_values.specs.declared.address.Ip.{Ip}
use Rattle.gtp_values.specs.declared.address.Ip.TheVariants as addresses
use Rattle.gtp_values.specs.Numbers.{two, four}
use Rattle.gtp_user.specs.Chain.{AreExtensions, first_kind, chain_encoding}
use Rattle.gtp_user.specs.Flags.{Flags, bits, version_1, protocol_type}
use Rattle.gtp_user.specs.Message.{Content, EchoRequest, EchoResponse, ErrorIndication, Notification, EndMarker, Packet, Other, MessageValue}
use Rattle.gtp_user.specs.Datagram.{IsOtherKind}

abbrev pub kind_of : Content → ℕ
kind_of EchoRequest = 1
kind_of EchoResponse = 2
kind_of (ErrorIndication teid peer) = 26
kind_of (Notification types) = 31
kind_of (EndMarker teid) = 254
kind_of (Packet teid payload) = 255
kind_of (Other kind teid octets) = kind

-- the TEID in the header: 0 in the messages that always have a sequence number
abbrev pub teid_of : Content → ℕ
teid_of EchoRequest = 0
teid_of EchoResponse = 0
teid_of (ErrorIndication teid peer) = 0
teid_of (Notification types) = 0
teid_of (EndMarker teid) = teid
teid_of (Packet teid payload) = teid
teid_of (Other kind teid octets) = teid

abbrev pub octets_of : Ip → List ℕ
octets_of (addresses.V4 address) = address
octets_of (addresses.V6 address) = address

-- an address has four octets, or sixteen
abbrev pub HasAddressSize : Ip → Type 0
HasAddressSize (addresses.V4 address) = length address ≡ 4
HasAddressSize (addresses.V6 address) = length address ≡ 16

-- a length in two octets, and the address
abbrev pub address_encoding : Ip → List ℕ
address_encoding address = 0 ∷ length (octets_of address) ∷ octets_of address

-- the octets after the chain
unfoldable pub content_encoding : Content → List ℕ
content_encoding EchoRequest = []
content_encoding EchoResponse = 14 ∷ 0 ∷ []
content_encoding (ErrorIndication teid peer) = 16 ∷ four teid (133 ∷ address_encoding peer)
content_encoding (Notification types) = 141 ∷ length types ∷ types
content_encoding (EndMarker teid) = []
content_encoding (Packet teid payload) = payload
content_encoding (Other kind teid octets) = octets

-- the flags of a message: each part that it has
abbrev pub flags_of : MessageValue → Flags
flags_of m = record { chain = not (first_kind m.ext == 0); seq = is_some m.seq; npdu = is_some m.npdu }

-- sequence number, N-PDU number and type of the first extension header, where a flag is set; what the message has not is 0
unfoldable pub options_encoding : MessageValue → List ℕ
options_encoding m = if bits (flags_of m) == 0 then [] else two (unwrap_or m.seq 0) (unwrap_or m.npdu 0 ∷ first_kind m.ext ∷ [])

-- the octets after the first eight
abbrev pub rest_encoding : MessageValue → List ℕ
rest_encoding m = options_encoding m ++ (chain_encoding m.ext ++ content_encoding m.content)

-- the first eight octets with this length
abbrev pub opening_encoding : ℕ → MessageValue → List ℕ
opening_encoding size m = (version_1 + protocol_type + bits (flags_of m)) ∷ kind_of m.content ∷ two size (four (teid_of m.content) [])

-- the whole encoding: spare bits 0
abbrev pub encoding : MessageValue → List ℕ
encoding m = opening_encoding (length (rest_encoding m)) m ++ rest_encoding m

-- a list of types has a length of one octet
abbrev pub HasShortList : Content → Type 0
HasShortList (Notification types) = length types < 256
HasShortList content = Unit {0}

-- a message that can be written: an echo, an Error Indication and a notification have a sequence number, a list of types has a length of one octet, and another type has no form of its own
abbrev pub IsEncodableBy : Content → Option ℕ → Type 0
IsEncodableBy EchoRequest seq = IsSome seq
IsEncodableBy EchoResponse seq = IsSome seq
IsEncodableBy (ErrorIndication teid peer) seq = IsSome seq
IsEncodableBy (Notification types) seq = IsSome seq × (length types < 256)
IsEncodableBy (EndMarker teid) seq = Unit {0}
IsEncodableBy (Packet teid payload) seq = Unit {0}
IsEncodableBy (Other kind teid octets) seq = IsOtherKind kind

abbrev pub IsEncodable : MessageValue → Type 0
IsEncodable m = IsEncodableBy m.content m.seq

-- ---- what reads again

-- the ranges of what an element says
abbrev pub IsInRange : Content → Type 0
IsInRange (ErrorIndication teid peer) = (teid < 2 ^ 32) × HasAddressSize peer
IsInRange content = Unit {0}

-- a message whose encoding spells it
pub record Meets (m : MessageValue) : Type 0 where
  pub encodable : IsEncodable m
  pub seq : IfSome m.seq (λ n. n < 2 ^ 16)
  pub ext : AreExtensions m.ext
  pub teid : teid_of m.content < 2 ^ 32
  pub range : IsInRange m.content
  pub short : length (rest_encoding m) < 65536

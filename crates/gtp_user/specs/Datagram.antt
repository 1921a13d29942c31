-- The grammar of datagrams of the user plane (TS 29.281 5, 7 and 8): which message one spells, and which fault is its first.
use Rattle.std.specs.Prelude.{◌≡◌, ◌≢◌, ℕ, true, false, List, [], length, Some, None, ◌⊎◌}
use Rattle.gtp_user.specs.declared.fault.UserFault.{UserFault}
use Rattle.gtp_user.specs.declared.fault.UserFault.TheVariants as faults
use Rattle.gtp_values.specs.Decides.{First_or_later}
use Rattle.gtp_user.specs.Chain.{Extension, IsChainBy, ChainFailsBy}
use Rattle.gtp_user.specs.Headed.{Headed}
use Rattle.gtp_user.specs.Header.{IsHeaded, HeaderFails}
use Rattle.gtp_user.specs.Element.{Element, AreElements, IsCut, has_recovery, first_teid, first_peer, first_types}
use Rattle.gtp_user.specs.Message.{Content, EchoRequest, EchoResponse, ErrorIndication, Notification, EndMarker, Packet, Other, MessageValue, numbered}

-- a type that has a form of its own is none of the others
abbrev pub IsOtherKind : ℕ → Type 0
IsOtherKind kind = (kind ≢ 1) × (kind ≢ 2) × (kind ≢ 26) × (kind ≢ 31) × (kind ≢ 254) × (kind ≢ 255)

-- a message of this type and TEID carries this in the octets after its chain: elements in types 2, 26 and 31, the first one of a type counting;
-- nothing is looked at in types 1 and 254; in all others the octets themselves
abbrev pub Carries : ℕ → ℕ → List ℕ → Content → Type 0
Carries kind teid octets EchoRequest = kind ≡ 1
Carries kind teid octets EchoResponse = (kind ≡ 2) × ((es : List Element) × AreElements octets es × (has_recovery es ≡ true))
Carries kind teid octets (ErrorIndication data_teid peer) = (kind ≡ 26) × ((es : List Element) × AreElements octets es × (first_teid es ≡ Some data_teid) × (first_peer es ≡ Some peer))
Carries kind teid octets (Notification types) = (kind ≡ 31) × ((es : List Element) × AreElements octets es × (first_types es ≡ Some types))
Carries kind teid octets (EndMarker t) = (kind ≡ 254) × (t ≡ teid)
Carries kind teid octets (Packet t payload) = (kind ≡ 255) × (t ≡ teid) × (payload ≡ octets)
Carries kind teid octets (Other k t os) = IsOtherKind kind × (k ≡ kind) × (t ≡ teid) × (os ≡ octets)

-- the first type of element that a message must have, and has not
abbrev pub Lacks : ℕ → List Element → UserFault → Type 0
Lacks kind es f =
    ((kind ≡ 2) × (has_recovery es ≡ false) × (f ≡ faults.Missing 14))
    ⊎ (((kind ≡ 26) × (first_teid es ≡ None) × (f ≡ faults.Missing 16))
    ⊎ (((kind ≡ 26) × ((teid : ℕ) × (first_teid es ≡ Some teid)) × (first_peer es ≡ None) × (f ≡ faults.Missing 133))
    ⊎ ((kind ≡ 31) × (first_types es ≡ None) × (f ≡ faults.Missing 141))))

-- a message whose octets are elements
abbrev pub HasElements : ℕ → Type 0
HasElements kind = (kind ≡ 2) ⊎ ((kind ≡ 26) ⊎ (kind ≡ 31))

-- why it carries nothing: octets that are no elements, and then an element that it must have
abbrev pub CarriesNone : ℕ → ℕ → List ℕ → UserFault → Type 0
CarriesNone end kind octets f = HasElements kind × First_or_later (AreElements octets) (IsCut end octets) (λ es. Lacks kind es) f

-- the octets spell the message, where these types of extension headers are understood: a header, a chain of extension headers, and what is carried after it
abbrev pub IsUserMessageBy : List ℕ → List ℕ → MessageValue → Type 0
IsUserMessageBy understood octets m =
    (h : Headed) × IsHeaded octets h × ((tail : List ℕ) × IsChainBy understood h.first h.rest m.ext tail × Carries h.kind h.teid tail m.content
    × (m.seq ≡ numbered m.content h.seq) × (m.npdu ≡ h.npdu))

-- what a fault after the header is: of the chain, or after a whole chain of what is carried
abbrev pub FailsAfterHeaderBy : List ℕ → ℕ → Headed → UserFault → Type 0
FailsAfterHeaderBy understood end h f =
    ChainFailsBy understood end h.first h.rest f ⊎ ((es : List Extension) × (tail : List ℕ) × IsChainBy understood h.first h.rest es tail × CarriesNone end h.kind tail f)

-- the first fault of the octets: of the header, or after it
abbrev pub IsUserFaultBy : List ℕ → List ℕ → UserFault → Type 0
IsUserFaultBy understood octets = First_or_later (IsHeaded octets) (HeaderFails octets) (λ h. FailsAfterHeaderBy understood (length octets) h)

-- ---- where no type from 128 on is understood

-- the octets spell the message
abbrev pub IsUserMessage : List ℕ → MessageValue → Type 0
IsUserMessage = IsUserMessageBy []

-- what a fault after the header is
abbrev pub FailsAfterHeader : ℕ → Headed → UserFault → Type 0
FailsAfterHeader = FailsAfterHeaderBy []

-- the first fault of the octets
abbrev pub IsUserFault : List ℕ → UserFault → Type 0
IsUserFault = IsUserFaultBy []

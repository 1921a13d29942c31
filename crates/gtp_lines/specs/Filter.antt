-- Which datagrams of a capture are chosen.
use Rattle.std.specs.Prelude.{◌≡◌, ℕ, ◌⊎◌, List, [], ◌∷◌, Option, Some, None, IfSome, IsSomeAnd, option_to_list}
use Rattle.gtp_values.specs.declared.fteid.FTeid.{FTeid}
use Rattle.gtp_values.specs.declared.plane.Plane.{Plane}
use Rattle.gtp_values.specs.declared.plane.Plane.TheVariants as planes
use Rattle.gtp_ie.specs.Element.{Element, elements_of, list_of}
use Rattle.gtp_ie.specs.Form.{bearer_context, number_of}
use Rattle.gtp_ie.specs.declared.form.Form.TheVariants as forms
use Rattle.gtp_ie.specs.Value.{OfImsi, OfFTeid}
use Rattle.gtp_ie.specs.Spelling.{Spells}
use Rattle.gtp_v2.specs.Headed.{Headed}
use Rattle.gtp_v2.specs.Viewed.{inner_of}
use Rattle.gtp_capture.specs.Packet.{Packet}
use Rattle.gtp_lines.specs.All.{UserHead, head_at, pair_at, user_head_at}
use Rattle.gtp_lines.specs.declared.filter.Filter.{Filter}

-- one of them has a property
abbrev pub SomeOf : {X : Type 0} → (X → Type 0) → List X → Type 0
SomeOf P [] = ⊥
SomeOf P (x ∷ xs) = P x ⊎ SomeOf P xs

-- an element tells this subscriber (TS 29.274 8.3)
abbrev pub TellsImsi : List ℕ → Element → Type 0
TellsImsi digits e = (e.kind ≡ number_of forms.Imsi) × Spells (number_of forms.Imsi) e.body (OfImsi digits)

-- an element is an F-TEID with this TEID (8.22)
abbrev pub TellsTeid : ℕ → Element → Type 0
TellsTeid teid e = (e.kind ≡ number_of forms.FTeid) × ((f : FTeid) × (f.teid ≡ teid) × Spells (number_of forms.FTeid) e.body (OfFTeid f))

-- it is one, or a bearer context whose elements are whole and have one among them
abbrev pub HoldsTeid : ℕ → Element → Type 0
HoldsTeid teid e = TellsTeid teid e ⊎ ((e.kind ≡ bearer_context) × SomeOf (TellsTeid teid) (inner_of e))

-- the elements behind a header, where they are whole
abbrev pub elements_behind : Headed → List Element
elements_behind h = list_of (elements_of h.at h.rest)

-- a message has all that is asked for: its type, its subscriber, and the TEID in its header or in one of its elements
pub record HasAsked (f : Filter) (h : Headed) : Type 0 where
  pub kind : IfSome f.kinds (λ kinds. kinds.control ≡ Some h.kind)
  pub imsi : IfSome f.imsi (λ digits. SomeOf (TellsImsi digits) (elements_behind h))
  pub teid : IfSome f.teid (λ teid. (h.teid ≡ Some teid) ⊎ SomeOf (HoldsTeid teid) (elements_behind h))

-- one of the user plane has: no subscriber, which it never tells
pub record UserHasAsked (f : Filter) (h : UserHead) : Type 0 where
  pub kind : IfSome f.kinds (λ kinds. kinds.user ≡ Some h.kind)
  pub imsi : f.imsi ≡ None
  pub teid : IfSome f.teid (λ teid. h.teid ≡ teid)

-- the headers of the messages of a datagram of the control plane: of one message, or of two
abbrev pub headers_by : List ℕ → Option (Headed × List ℕ) → List Headed
headers_by octets None = option_to_list (head_at octets)
headers_by octets (Some pair) = pair.0 ∷ option_to_list (head_at pair.1)

abbrev pub MessageHasAsked : Filter → Plane → List ℕ → Type 0
MessageHasAsked f planes.Control octets = SomeOf (HasAsked f) (headers_by octets (pair_at octets))
MessageHasAsked f planes.User octets = IsSomeAnd (user_head_at octets) (UserHasAsked f)

-- nothing is asked of a message
pub record AsksNothing (f : Filter) : Type 0 where
  pub kinds : f.kinds ≡ None
  pub imsi : f.imsi ≡ None
  pub teid : f.teid ≡ None

-- A datagram is chosen: it is from or to the address that is asked for, and one of its messages has all that is asked of one.
pub record IsChosen (f : Filter) (p : Packet) : Type 0 where
  pub address : IfSome f.address (λ address. (p.from.ip ≡ address) ⊎ (p.to.ip ≡ address))
  pub message : AsksNothing f ⊎ MessageHasAsked f p.plane p.octets

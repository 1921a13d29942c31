-- What C is told of a datagram that is read in place.
use Rattle.std.specs.Prelude.{◌≡◌, ℕ, ◌+◌, ◌≤◌, List, ◌∷◌, drop, take, length, Option, Some, is_some, is_none, option_map, unwrap_or}
use Rattle.std.specs.Borrow.{Bor}
use Rattle.gtp_ie.specs.View.{element_of}
use Rattle.gtp_ie.specs.declared.view.ElementView.{ElementView}
use Rattle.gtp_ie.specs.Element.{Element, elements_of, first_of, front_of, list_of}
use Rattle.gtp_user.specs.Chain.{chain_encoding, first_kind}
use Rattle.gtp_user.specs.Datagram.{IsUserMessage, IsUserFault}
use Rattle.gtp_user.specs.Encoding.{kind_of}
use Rattle.gtp_user.specs.Message as user
use Rattle.gtp_user.specs.declared.fault.UserFault.{UserFault}
use Rattle.gtp_v2.specs.Message.{raw_of}
use Rattle.gtp_v2.specs.Pair.{IsDatagram, IsDatagramFault, LieIn, datagram_seen}
use Rattle.gtp_v2.specs.Viewed.{ViewedDatagram, place_of}
use Rattle.gtp_v2.specs.declared.fault.V2Fault.{V2Fault}
use Rattle.gtp_c.specs.Ends.{ip_at}
use Rattle.gtp_c.specs.Faults.{control_told, user_told}
use Rattle.gtp_c.specs.Common.{AreLast, flag}
use Rattle.gtp_c.specs.declared.control.Head.{Head}
use Rattle.gtp_c.specs.declared.elements.Element as found
use Rattle.gtp_c.specs.declared.ends.Address.{Address}
use Rattle.gtp_c.specs.declared.fault.Fault.{Fault}
use Rattle.gtp_c.specs.declared.user.Carried.{Carried}
use Rattle.gtp_c.specs.declared.user.UserHead.{UserHead}

-- the head of a datagram's first message
abbrev pub head_told : ViewedDatagram → Head
head_told v =
    let m = v.message.message in
    record {
      list_at = place_of m.teid;
      list_len = length v.message.octets;
      second_len = length v.back;
      teid = unwrap_or m.teid 0;
      seq = m.seq;
      kind = m.kind;
      has_teid = flag (is_some m.teid);
      has_priority = flag (is_some m.priority);
      priority = unwrap_or m.priority 0;
      has_elements = flag (is_none (raw_of m.content));
    }

-- the octets spell one message or two, of which the head tells the first and where it lies
pub record IsRead (octets : List ℕ) (head : Head) : Type 0 where
  pub view : ViewedDatagram
  pub spelled : IsDatagram octets (datagram_seen view)
  pub lies : LieIn octets view.message view.second view.back
  pub tells : head ≡ head_told view

-- this is the first fault of the octets
pub record IsFaulty (octets : List ℕ) (fault : Fault) : Type 0 where
  pub first : V2Fault
  pub is_first : IsDatagramFault octets first
  pub tells : fault ≡ control_told first

-- where an element stands
pub record IsElement (told : found.Element) (e : Element) : Type 0 where
  pub kind : told.kind ≡ e.kind
  pub spare : told.spare ≡ e.spare
  pub instance : told.instance ≡ e.instance
  pub at : told.at ≡ e.at
  pub body : told.body_at ≡ e.at + 4
  pub len : told.len ≡ length e.body

-- what was found at the front of octets
abbrev pub IsFound : Option (ElementView × Bor (List ℕ)) → Option (Element × List ℕ) → Type 0
IsFound found front = option_map (λ p. (element_of p.0, p.1.now)) found ≡ front

-- a whole element stands at the front of these octets, of which the first has this place
pub record IsFront (place : ℕ) (octets : List ℕ) (told : found.Element) : Type 0 where
  pub element : Element
  pub rest : List ℕ
  pub front : front_of place octets ≡ Some (element, rest)
  pub is : IsElement told element

-- it is the first element of a type and instance from this place on
pub record IsFirst (octets : List ℕ) (place kind instance : ℕ) (told : found.Element) : Type 0 where
  pub element : Element
  pub first : first_of kind instance (list_of (elements_of place (drop place octets))) ≡ Some element
  pub is : IsElement told element

-- ---- the user plane

-- the TEID that it carries
abbrev pub user_teid : user.Content → ℕ
user_teid (user.ErrorIndication teid peer) = teid
user_teid (user.EndMarker teid) = teid
user_teid (user.Packet teid payload) = teid
user_teid (user.Other kind teid octets) = teid
user_teid content = 0

-- how many octets it carries
abbrev pub user_length : user.Content → ℕ
user_length (user.Notification types) = length types
user_length (user.Packet teid payload) = length payload
user_length (user.Other kind teid octets) = length octets
user_length content = 0

-- the address that it carries
abbrev pub IsPeer : user.Content → Address → Type 0
IsPeer (user.ErrorIndication teid peer) a = ip_at a ≡ Some peer
IsPeer content a = a.version ≡ 0

-- what a message carries
pub record IsCarried (content : user.Content) (told : Carried) : Type 0 where
  pub teid : told.teid ≡ user_teid content
  pub payload : told.payload_len ≡ user_length content
  pub peer : IsPeer content told.peer

pub record IsUserTold (m : user.MessageValue) (told : UserHead) : Type 0 where
  pub kind : told.kind ≡ kind_of m.content
  pub teid : told.teid ≡ user_teid m.content
  pub payload : told.payload_len ≡ user_length m.content
  pub peer : IsPeer m.content told.peer
  pub has_seq : told.has_seq ≡ flag (is_some m.seq)
  pub seq : told.seq ≡ unwrap_or m.seq 0
  pub has_npdu : told.has_npdu ≡ flag (is_some m.npdu)
  pub npdu : told.npdu ≡ unwrap_or m.npdu 0
  pub extension : told.extension ≡ first_kind m.ext
  pub extensions : told.extensions_len ≡ length (chain_encoding m.ext)

-- the packet of a G-PDU, and what a message of a type carries that has no form of its own, are the last octets of the datagram
abbrev pub LiesAtEnd : user.Content → List ℕ → Type 0
LiesAtEnd (user.Packet teid payload) octets = AreLast payload octets
LiesAtEnd (user.Other kind teid payload) octets = AreLast payload octets
LiesAtEnd content octets = Unit {0}

-- these stand in the octets, from this place on
abbrev pub StandAt : List ℕ → List ℕ → ℕ → Type 0
StandAt these octets place = (place + length these ≤ length octets) × (take (length these) (drop place octets) ≡ these)

-- these are the octets from this place on
abbrev pub EndsFrom : List ℕ → List ℕ → ℕ → Type 0
EndsFrom last octets place = (place + length last ≡ length octets) × (drop place octets ≡ last)

-- the types begin at this place, behind the type of their element and its length (TS 29.281 8.5)
abbrev pub AreTypesAt : List ℕ → List ℕ → ℕ → Type 0
AreTypesAt types octets place = (at : ℕ) × (place ≡ 2 + at) × StandAt (141 ∷ length types ∷ types) octets at

-- what a message carries begins at this place of the datagram; 0 where it carries nothing
abbrev pub LiesAt : user.Content → List ℕ → ℕ → Type 0
LiesAt (user.Notification types) octets place = AreTypesAt types octets place
LiesAt (user.Packet teid payload) octets place = EndsFrom payload octets place
LiesAt (user.Other kind teid payload) octets place = EndsFrom payload octets place
LiesAt content octets place = place ≡ 0

-- the octets spell this message of the user plane
pub record IsUserRead (octets : List ℕ) (told : UserHead) : Type 0 where
  pub message : user.MessageValue
  pub spelled : IsUserMessage octets message
  pub is : IsUserTold message told
  pub lies : LiesAtEnd message.content octets
  pub place : LiesAt message.content octets told.payload_at

pub record IsUserFaulty (octets : List ℕ) (fault : Fault) : Type 0 where
  pub first : UserFault
  pub is_first : IsUserFault octets first
  pub tells : fault ≡ user_told first

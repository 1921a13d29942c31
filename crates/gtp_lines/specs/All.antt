-- All that can be shown of a datagram, and then its fault.
use Rattle.std.specs.Prelude.{◌≡◌, ℕ, ◌+◌, ◌-◌, ◌*◌, ◌/◌, ◌%◌, ◌==◌, ◌&&◌, nat_le, nat_lt, if◌then◌else◌, Bool, true, false, List, [], ◌∷◌, ◌++◌, length, take, drop, Option, Some, None, option_map, codes, decimal, ◌⊎◌}
use Rattle.std.specs.Int.{w32, from_be_bytes}
use Rattle.std.specs.List.{flat_map}
use Rattle.byteorder.specs.Endian.{big_number}
use Rattle.gtp_values.specs.declared.plane.Plane.{Plane}
use Rattle.gtp_values.specs.declared.plane.Plane.TheVariants as planes
use Rattle.gtp_values.specs.Teid.{teid_text}
use Rattle.gtp_ie.specs.declared.fault.IeFault.{IeFault}
use Rattle.gtp_ie.specs.declared.fault.IeFault.TheVariants as elements
use Rattle.gtp_ie.specs.Element.{Element, elements_of, list_of}
use Rattle.gtp_ie.specs.Form.{bearer_context}
use Rattle.gtp_ie.specs.Octets.{BeginsWith, Spans}
use Rattle.gtp_v2.specs.declared.fault.V2Fault.{V2Fault}
use Rattle.gtp_v2.specs.declared.fault.V2Fault.TheVariants as faults
use Rattle.gtp_v2.specs.Headed.{Headed}
use Rattle.gtp_v2.specs.Pair.{DatagramValue, IsDatagramBy, IsDatagramFaultBy}
use Rattle.gtp_user.specs.declared.fault.UserFault.{UserFault}
use Rattle.gtp_user.specs.Message.{MessageValue as UserMessage}
use Rattle.gtp_user.specs.Datagram.{IsUserMessage, IsUserMessageBy, IsUserFaultBy}
use Rattle.gtp_interfaces.specs.declared.interface.Interface.{Interface}
use Rattle.gtp_interfaces.specs.Interface.{asked_on, understood_on}
use Rattle.gtp_lines.specs.Text.{octets_text}
use Rattle.gtp_names.specs.declared.names.Names.{Names}
use Rattle.gtp_lines.specs.Control.{first_line, fault_line}
use Rattle.gtp_lines.specs.Fronts.{front_of, front_lines, chain_at}
use Rattle.gtp_lines.specs.Named.{title_in, named_lines, named_user_lines}
use Rattle.gtp_lines.specs.User.{kind_title, some_shown, user_fault_line}

-- ---- elements

-- the octets are those of whole elements in order (TS 29.274 8.2), and then the rest, which begins with no element: none that is whole is left out
abbrev pub IsFront : ℕ → List ℕ → List Element → List ℕ → Type 0
IsFront at octets es rest = (place : ℕ) × Spans at octets es rest place × ((e : Element) (after : List ℕ) → BeginsWith place rest e after → ⊥)

-- octets that are left, where there are some
abbrev pub rest_line : List ℕ → List ℕ
rest_line [] = []
rest_line (octet ∷ octets) = codes "rest " ++ (octets_text (octet ∷ octets) ++ codes "\n")

-- ---- headers of the control plane, whatever length they state (TS 29.274 5.1)

-- after the first four octets, without a TEID: a sequence number in three octets, and one that is spare
abbrev pub after_no_teid : ℕ → List ℕ → Option Headed
after_no_teid kind (a ∷ b ∷ c ∷ spare ∷ rest) = Some (record { kind = kind; teid = None; seq = big_number 3 (a ∷ b ∷ c ∷ []); priority = None; rest = rest; at = 8 })
after_no_teid kind octets = None

-- with a TEID in four octets; the last octet has the priority where MP is set
abbrev pub after_teid : Bool → ℕ → List ℕ → Option Headed
after_teid ranked kind (a ∷ b ∷ c ∷ d ∷ e ∷ f ∷ g ∷ last ∷ rest) =
    Some (record {
      kind = kind;
      teid = Some (big_number 4 (a ∷ b ∷ c ∷ d ∷ []));
      seq = big_number 3 (e ∷ f ∷ g ∷ []);
      priority = if ranked then Some (last / 16) else None;
      rest = rest;
      at = 12;
    })
after_teid ranked kind octets = None

-- the header of a message of version 2 by its first octet and its type, where the octets after the first four have all of it: T says whether there is a TEID
abbrev pub head_of : ℕ → ℕ → List ℕ → Option Headed
head_of first kind following =
    if first / 32 == 2 then (if (first / 8) % 2 == 1 then after_teid ((first / 4) % 2 == 1) kind following else after_no_teid kind following) else None

-- the header at the front of octets
abbrev pub head_at : List ℕ → Option Headed
head_at (first ∷ kind ∷ high ∷ low ∷ following) = head_of first kind following
head_at octets = None

-- the header of a first message of this size which announces a second one (P is set, 5.5.1) and is held as far as it states, and the octets after that message
abbrev pub first_of : ℕ → ℕ → ℕ → List ℕ → Option (Headed × List ℕ)
first_of first kind size held =
    if (first / 16) % 2 == 1
    then (if nat_lt (length held) size then None
    else option_map (λ (h : Headed). (h, drop size held)) (head_of first kind (take size held)))
    else None

-- the same, at the front of octets
abbrev pub pair_at : List ℕ → Option (Headed × List ℕ)
pair_at (first ∷ kind ∷ high ∷ low ∷ held) = first_of first kind (256 * high + low) held
pair_at octets = None

-- ---- the bearer context in which an element at fault lies, or is missing

-- an element, of which the first four octets are the header, has this place
abbrev pub holds : ℕ → Element → Bool
holds at e = nat_le e.at at && nat_lt (at - e.at) (4 + length e.body)

-- the number of the bearer context that has a place, after so many others
abbrev pub context_among : ℕ → ℕ → List Element → Option ℕ
context_among at before [] = None
context_among at before (e ∷ es) = if e.kind == bearer_context then (if holds at e then Some (before + 1) else context_among at (before + 1) es) else context_among at before es

-- from 1, among the elements after a header, where these are whole; the place is one in the message
abbrev pub context_in : ℕ → Headed → Option ℕ
context_in at h = context_among at 0 (list_of (elements_of h.at h.rest))

abbrev pub context_alone : ℕ → Option Headed → Option ℕ
context_alone at None = None
context_alone at (Some h) = context_in at h

abbrev pub or_else : Option ℕ → Option ℕ → Option ℕ
or_else None other = other
or_else (Some number) other = Some number

-- in a datagram: of its first message, or of its second one, which begins where the first one ends
abbrev pub context_by : ℕ → List ℕ → Option (Headed × List ℕ) → Option ℕ
context_by at octets None = context_alone at (head_at octets)
context_by at octets (Some pair) = or_else (context_in at pair.0) (context_alone (at - (length octets - length pair.1)) (head_at pair.1))

abbrev pub context_at : List ℕ → ℕ → Option ℕ
context_at octets at = context_by at octets (pair_at octets)

abbrev pub element_context : List ℕ → IeFault → Option ℕ
element_context octets (elements.Truncated at) = context_at octets at
element_context octets (elements.ShortValue kind instance at) = context_at octets at
element_context octets (elements.BadValue kind instance at) = context_at octets at
element_context octets fault = None

-- that of a fault, where it tells the place of an element in one, or of the one that lacks an element
unfoldable pub fault_context : List ℕ → V2Fault → Option ℕ
fault_context octets (faults.Missing kind instance conditional (Some at) head) = context_at octets at
fault_context octets (faults.Element fault head) = element_context octets fault
fault_context octets fault = None

-- and its line
abbrev pub numbered_line : ℕ → List ℕ
numbered_line number = codes "in bearer-context " ++ (decimal number ++ codes "\n")

abbrev pub context_line : Option ℕ → List ℕ
context_line None = []
context_line (Some number) = numbered_line number

-- ---- lines of the control plane

-- the first line of a message, the lines of its elements by their names and forms, as many as are whole, and the octets that are left
abbrev pub MessageShown : Names → Headed → List ℕ → Type 0
MessageShown names h text =
    (es : List Element) × (rest : List ℕ) × IsFront h.at h.rest es rest × (text ≡ first_line (title_in names h.kind) h.kind h.teid h.seq h.priority ++ (flat_map (named_lines names h.kind) es ++ rest_line rest))

-- a message without a header shows nothing
abbrev pub AloneShown : Names → Option Headed → List ℕ → Type 0
AloneShown names None text = text ≡ []
AloneShown names (Some h) text = MessageShown names h text

-- a second message without one shows its octets
abbrev pub SecondShown : Names → List ℕ → Option Headed → List ℕ → Type 0
SecondShown names octets None text = text ≡ rest_line octets
SecondShown names octets (Some h) text = MessageShown names h text

-- the lines of a first message, and then those of the octets after it
abbrev pub PairShown : Names → Headed → List ℕ → List ℕ → Type 0
PairShown names h back text = (first : List ℕ) × (second : List ℕ) × MessageShown names h first × SecondShown names back (head_at back) second × (text ≡ first ++ second)

-- two messages, or one
abbrev pub ShownBy : Names → Option (Headed × List ℕ) → Option Headed → List ℕ → Type 0
ShownBy names None whole text = AloneShown names whole text
ShownBy names (Some pair) whole text = PairShown names pair.0 pair.1 text

-- what can be shown of a datagram: where no second message is announced, or the first is not whole, all its octets are those of one
abbrev pub ControlShown : Names → List ℕ → List ℕ → Type 0
ControlShown names octets text = ShownBy names (pair_at octets) (head_at octets) text

-- and then the line of its first fault on an interface, if it has one, and of the bearer context in which that lies
abbrev pub AllControl : Names → Interface → List ℕ → List ℕ → Bool → Type 0
AllControl names interface octets text true = (f : V2Fault) × IsDatagramFaultBy (asked_on interface) octets f × ((shown : List ℕ) × ControlShown names octets shown × (text ≡ shown ++ (fault_line f ++ context_line (fault_context octets f))))
AllControl names interface octets text false = ((d : DatagramValue) × IsDatagramBy (asked_on interface) octets d) × ControlShown names octets text

-- ---- the user plane

-- what the first octets of a datagram say, and those after them
pub record UserHead : Type 0 where
  pub kind : ℕ
  pub teid : ℕ
  pub seq : Option ℕ
  pub rest : List ℕ

-- after the first eight octets: where S is set and four more octets are there, these with their sequence number
abbrev pub numbered_head : Bool → ℕ → ℕ → List ℕ → UserHead
numbered_head true kind teid (a ∷ b ∷ npdu ∷ next ∷ rest) = record { kind = kind; teid = teid; seq = Some (256 * a + b); rest = rest }
numbered_head set kind teid rest = record { kind = kind; teid = teid; seq = None; rest = rest }

-- the header of version 1 and protocol type 1 at the front of octets, whatever length it states (TS 29.281 5.1)
abbrev pub user_head_at : List ℕ → Option UserHead
user_head_at (first ∷ kind ∷ high ∷ low ∷ a ∷ b ∷ c ∷ d ∷ rest) =
    if first / 16 == 3 then Some (numbered_head ((first / 2) % 2 == 1) kind (from_be_bytes w32 (a ∷ b ∷ c ∷ d ∷ [])) rest) else None
user_head_at octets = None

-- what follows the first line of a datagram at fault: its extension headers, where it says that it has some, and what is after them
abbrev pub behind_head : Names → UserHead → Option (ℕ × List ℕ) → List ℕ
behind_head names h None = rest_line h.rest
behind_head names h (Some chain) = front_lines names h.kind (front_of chain.0 chain.1)

-- what can be shown of it
abbrev pub user_shown : Names → Option UserHead → Option (ℕ × List ℕ) → List ℕ
user_shown names None chain = []
user_shown names (Some h) chain = kind_title h.kind ++ (codes " teid " ++ (teid_text h.teid ++ (some_shown (codes " seq ") h.seq ++ (codes "\n" ++ behind_head names h chain))))

-- what is shown of a datagram without a fault: the lines of its message; or, where some of its extension headers are not understood on S5/S8, all that can be shown
abbrev pub UserShown : Names → List ℕ → List ℕ → Type 0
UserShown names octets text =
    ((m : UserMessage) × IsUserMessage octets m × (text ≡ named_user_lines names m))
    ⊎ (((m : UserMessage) → IsUserMessage octets m → ⊥) × (text ≡ user_shown names (user_head_at octets) (chain_at octets)))

-- and of any, by whether it has a fault on an interface
abbrev pub AllUser : Names → Interface → List ℕ → List ℕ → Bool → Type 0
AllUser names interface octets text true = (f : UserFault) × IsUserFaultBy (understood_on interface) octets f × (text ≡ user_shown names (user_head_at octets) (chain_at octets) ++ user_fault_line f)
AllUser names interface octets text false = ((m : UserMessage) × IsUserMessageBy (understood_on interface) octets m) × UserShown names octets text

-- All that can be shown of a datagram; and then the line of its first fault on an interface, if it has one.
abbrev pub AllLines : Names → Interface → Plane → List ℕ → List ℕ → Bool → Type 0
AllLines names interface planes.Control octets text faulty = AllControl names interface octets text faulty
AllLines names interface planes.User octets text faulty = AllUser names interface octets text faulty

-- The grammar of datagrams of one or two messages (TS 29.274 5.5.1): which messages one spells, and which fault is its first.
use Rattle.std.specs.Prelude.{◌≡◌, ℕ, ◌+◌, ◌*◌, ◌%◌, ◌<◌, List, [], ◌∷◌, ◌++◌, length, Option, Some, None, option_map, IsSome, ◌⊎◌}
use Rattle.gtp_values.specs.Decides.{First_or_later}
use Rattle.gtp_ie.specs.declared.fault.IeFault.{IeFault}
use Rattle.gtp_ie.specs.declared.fault.IeFault.TheVariants as elements
use Rattle.gtp_v2.specs.declared.fault.V2Fault.{V2Fault}
use Rattle.gtp_v2.specs.declared.fault.V2Fault.TheVariants as faults
use Rattle.gtp_v2.specs.declared.message.Datagram.{Datagram}
use Rattle.std.specs.Global.{Box}
use Rattle.gtp_v2.specs.declared.message.Message.{Message}
use Rattle.gtp_v2.specs.Body.{message_value}
use Rattle.gtp_v2.specs.Asks.{Asks, asks_of}
use Rattle.gtp_v2.specs.Datagram.{IsMessage, IsMessageBy, IsFaultBy}
use Rattle.gtp_v2.specs.Flags.{version_2, piggybacking}
use Rattle.gtp_v2.specs.Message.{MessageValue, MessageAllocates}
use Rattle.gtp_v2.specs.Viewed.{Viewed, ViewedDatagram, Follows, Carries}

-- what a datagram says: a message, and perhaps a second one
pub record DatagramValue : Type 0 where
  pub first : MessageValue
  pub second : Option MessageValue

-- one message alone
abbrev pub alone : MessageValue → DatagramValue
alone m = record { first = m; second = None }

-- two messages
abbrev pub both : MessageValue → MessageValue → DatagramValue
both a b = record { first = a; second = Some b }

-- the first four octets of a message of version 2 that announces another (P is set), and all that is held after them
abbrev pub Begins : List ℕ → ℕ → ℕ → ℕ → ℕ → List ℕ → Type 0
Begins octets flags kind high low held = (flags < 16) × (octets ≡ (version_2 + piggybacking + flags) ∷ kind ∷ high ∷ low ∷ held)

-- no other message is announced
abbrev pub IsUnannounced : List ℕ → Type 0
IsUnannounced octets = (flags kind high low : ℕ) (held : List ℕ) → Begins octets flags kind high low held → ⊥

-- a first message announces another: its octets, as they are without the announcement, and the octets after it
abbrev pub Announces : List ℕ → List ℕ → List ℕ → Type 0
Announces octets front back =
    (flags : ℕ) × (kind : ℕ) × (high : ℕ) × (low : ℕ) × (following : List ℕ)
    × Begins octets flags kind high low (following ++ back)
    × (256 * high + low ≡ length following)
    × (front ≡ (version_2 + flags) ∷ kind ∷ high ∷ low ∷ following)

-- two messages as one datagram, from the octets of each: the first announces the second
abbrev pub paired : List ℕ → List ℕ → List ℕ
paired [] back = back
paired (first ∷ front) back = ((first + piggybacking) % 256) ∷ (front ++ back)

-- a first message announces another, and states more octets than are held
abbrev pub AnnouncesMore : List ℕ → V2Fault → Type 0
AnnouncesMore octets f =
    (flags : ℕ) × (kind : ℕ) × (high : ℕ) × (low : ℕ) × (held : List ℕ)
    × Begins octets flags kind high low held
    × (length held < 256 * high + low)
    × (f ≡ faults.Length (256 * high + low) (length held))

-- the octets spell these messages, by what is asked of each type: one, or two, of which the first announces the second
abbrev pub IsDatagramBy : (ℕ → Option Asks) → List ℕ → DatagramValue → Type 0
IsDatagramBy asked octets d =
    ((m : MessageValue) × IsMessageBy asked octets m × (d ≡ alone m))
    ⊎ ((front : List ℕ) × (back : List ℕ) × Announces octets front back
    × ((a : MessageValue) × IsMessageBy asked front a × ((b : MessageValue) × IsMessageBy asked back b × (d ≡ both a b))))

-- a fault of an element, its place counted from so many octets earlier
abbrev pub element_moved : ℕ → IeFault → IeFault
element_moved place (elements.Truncated at) = elements.Truncated (place + at)
element_moved place (elements.ShortValue kind instance at) = elements.ShortValue kind instance (place + at)
element_moved place (elements.BadValue kind instance at) = elements.BadValue kind instance (place + at)
element_moved place fault = fault

-- the fault of a message, its place counted from so many octets earlier
abbrev pub moved : ℕ → V2Fault → V2Fault
moved place (faults.BadPiggyback at) = faults.BadPiggyback (place + at)
moved place (faults.Missing kind instance conditional (Some at) head) = faults.Missing kind instance conditional (Some (place + at)) head
moved place (faults.Element fault head) = faults.Element (element_moved place fault) head
moved place fault = fault

-- why there is no second message at a place: there are no octets, or it is at fault, its places counted from the start of the datagram
abbrev pub SecondFailsBy : (ℕ → Option Asks) → ℕ → List ℕ → V2Fault → Type 0
SecondFailsBy asked place back f =
    ((back ≡ []) × (f ≡ faults.BadPiggyback place))
    ⊎ ((0 < length back) × ((g : V2Fault) × IsFaultBy asked back g × (f ≡ moved place g)))

-- The first fault of a datagram, by what is asked of each type: of the message, where it announces no other; else its stated length, then all checks of the first
-- message, and then those of the second.
abbrev pub IsDatagramFaultBy : (ℕ → Option Asks) → List ℕ → V2Fault → Type 0
IsDatagramFaultBy asked octets f =
    (IsUnannounced octets × IsFaultBy asked octets f)
    ⊎ (AnnouncesMore octets f
    ⊎ ((front : List ℕ) × (back : List ℕ) × Announces octets front back
    × First_or_later (IsMessageBy asked front) (IsFaultBy asked front) (λ a. SecondFailsBy asked (length front) back) f))

-- ---- by the tables here

-- the octets spell these messages
abbrev pub IsDatagram : List ℕ → DatagramValue → Type 0
IsDatagram = IsDatagramBy asks_of

-- why there is no second message at a place
abbrev pub SecondFails : ℕ → List ℕ → V2Fault → Type 0
SecondFails = SecondFailsBy asks_of

-- the first fault of a datagram
abbrev pub IsDatagramFault : List ℕ → V2Fault → Type 0
IsDatagramFault = IsDatagramFaultBy asks_of

-- ---- what the program's datagrams say

-- the second message of a datagram
abbrev pub second_of : Datagram → Option Message
second_of d = option_map (λ (b : Box Message). b.value) d.second

-- what a datagram says
abbrev pub datagram_value : Datagram → DatagramValue
datagram_value d = record { first = message_value d.message; second = option_map message_value (second_of d) }

-- what a view says
abbrev pub datagram_seen : ViewedDatagram → DatagramValue
datagram_seen v = record { first = v.message.message; second = option_map (λ (s : Viewed). s.message) v.second }

-- P holds of the first, and of the second where there is one
abbrev pub OfEach : {X : Type 0} → (X → Type 0) → X → Option X → Type 0
OfEach P first None = P first
OfEach P first (Some second) = P first × P second

-- memory is allocated for the message, or for a second one
abbrev pub DatagramAllocates : DatagramValue → Type 0
DatagramAllocates d = MessageAllocates d.first ⊎ IsSome d.second

-- memory may be allocated for what the octets spell
abbrev pub MayAllocate : List ℕ → Type 0
MayAllocate octets = (d : DatagramValue) × IsDatagram octets d × DatagramAllocates d

-- a message lies in these octets: they spell it, and its elements and the octets after its header are theirs
pub record LiesIn (octets : List ℕ) (v : Viewed) : Type 0 where
  pub spelled : IsMessage octets v.message
  pub rest : Follows octets v
  pub elements : Carries octets v

-- where the messages of a datagram lie: one in all its octets, with none after it; or the first in its own, without the announcement, and the second in those after them
abbrev pub LieIn : List ℕ → Viewed → Option Viewed → List ℕ → Type 0
LieIn octets first None back = LiesIn octets first × (back ≡ [])
LieIn octets first (Some second) back = (front : List ℕ) × Announces octets front back × LiesIn front first × LiesIn back second

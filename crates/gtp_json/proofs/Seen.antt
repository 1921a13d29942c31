-- The members of a message that is viewed.
use Rattle.std.proofs.Common.{◌≡◌, ℕ, ◌++◌, List, Option, Some, None, inl, inr, refl, sym, subst}
use Rattle.std.proofs.lemmas.List.{append-nil}
use Rattle.json.specs.Json.{Json}
use Rattle.gtp_ie.specs.Element.{Element}
use Rattle.gtp_v2.specs.Message.{Content, Fields, Raw, raw_of, MessageValue}
use Rattle.gtp_v2.specs.Pair.{LiesIn, LieIn}
use Rattle.gtp_v2.specs.Viewed.{Viewed, ElementsAre}
use Rattle.gtp_json.specs.Values.{octets_members}
use Rattle.gtp_json.specs.Control.{CarriedMembers, carried_members, elements_members, seen_members, second_members, MessageMembers}
use Rattle.gtp_json.specs.declared.datagram.Members.TheVariants.{Plain}
use Rattle.gtp_json.specs.Datagram.{ControlMembers}

pub raw_members : (content : Content) (es : List Element) (octets : List ℕ) → Some octets ≡ raw_of content → carried_members content es ≡ octets_members octets
raw_members (Raw carried) es octets is = let same : octets ≡ carried = cc in rw same refl
raw_members (Fields fields) es octets is = absurd cc

pub typed_members : (content : Content) (es : List Element) → None ≡ raw_of content → carried_members content es ≡ elements_members es
typed_members (Raw carried) es is = absurd cc
typed_members (Fields fields) es is = refl

-- members of the elements that a datagram carries are its members
carried_are : (octets : List ℕ) (m : MessageValue) (content : Content) (es : List Element) → ElementsAre octets m content es → CarriedMembers octets m content (carried_members content es)
carried_are octets m (Raw carried) es are = refl
carried_are octets m (Fields fields) es are = (es, are, refl)

-- a message has the members of the octets in which it lies
message_lies : (octets : List ℕ) (v : Viewed) → LiesIn octets v → MessageMembers octets (seen_members v)
message_lies octets v lies = (v.message, lies.spelled, (carried_members v.message.content v.elements, carried_are octets v.message v.message.content v.elements lies.elements, refl))

-- and so have the messages of a datagram
pub members_lie : (octets : List ℕ) (first : Viewed) (second : Option Viewed) (back : List ℕ) → LieIn octets first second back
    → ControlMembers Plain octets (seen_members first ++ second_members second)
members_lie octets first None back (lies, none) = inl (subst (λ (ms : List (List ℕ × Json)). MessageMembers octets ms) (sym (append-nil (seen_members first))) (message_lies octets first lies))
members_lie octets first (Some second) back (front, announces, one, other) =
    inr (front, back, announces, (seen_members first, seen_members second, message_lies front first one, message_lies back second other, refl))

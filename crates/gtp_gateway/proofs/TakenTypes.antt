-- Which messages a gateway takes, by their type.
use Rattle.std.proofs.Common.{◌≡◌, ◌⊎◌, inl, inr, ⊎_elim, true, false, List, [], ◌∷◌, Option, Some, None, refl, sym, ◌∙◌, ap, subst}
use Rattle.gtp_ie.specs.Value.{Value}
use Rattle.gtp_v2.specs.Message.{Content, Fields, Raw, MessageValue}
use Rattle.gtp_machine.specs.declared.message_type.MessageType.{MessageType}
use Rattle.gtp_machine.specs.declared.message_type.MessageType.TheVariants as types
use Rattle.gtp_machine.specs.declared.role.Role.{Role}
use Rattle.gtp_machine.specs.declared.role.Role.TheVariants.{Serving, Packet}
use Rattle.gtp_machine.specs.Message.{Message, Control, plane_of}
use Rattle.gtp_machine.specs.MessageType.{type_at, type_of, type_row, is_taker, takes_type, takes_some, takes_message}
use Rattle.gtp_machine.specs.Decoded.{session_request_in, bearer_request_in, message_by, content_message, message_of}

-- what is so at each gateway that takes the messages of a type: at both, where none is named
abbrev pub AtTakers : (Role → Type 0) → Option Role → Type 0
AtTakers P None = P Serving × P Packet
AtTakers P (Some taker) = P taker

taker_is : (P : Role → Type 0) (role : Role) (taker : Option Role) → is_taker role taker ≡ true → AtTakers P taker → P role
taker_is P Serving None takes so = so.0
taker_is P Packet None takes so = so.1
taker_is P Serving (Some Serving) takes so = so
taker_is P Packet (Some Packet) takes so = so
taker_is P role (Some taker) takes so = absurd cc

-- what is so of a message at the gateways that take its type is so at a gateway that takes it
pub at_taker : (P : Role → Message → Type 0) (role : Role) (t u : MessageType) (m k : Message) → takes_type role t ≡ true → t ≡ u → m ≡ k → AtTakers (λ r. P r k) (type_row u).taker → P role m
at_taker P role t u m k takes same is so = subst (P role) (sym is) (taker_is (λ r. P r k) role (type_row u).taker (ap (takes_type role) (sym same) ∙ takes) so)

-- a message of the control plane has the type that its number names, or it is none that gateways take
record IsOf (t : Option MessageType) (m : Message) : Type 0 where
  type : (type_of m ≡ t) ⊎ (type_of m ≡ None)
  plane : plane_of m ≡ Control

session : (m : MessageValue) (groups : List (List (List Value))) → IsOf (Some types.CreateSessionRequest) (session_request_in m groups)
session m [] = record { type = inr refl; plane = refl }
session m (g ∷ groups) = record { type = inl refl; plane = refl }

bearer : (m : MessageValue) (groups : List (List (List Value))) → IsOf (Some types.CreateBearerRequest) (bearer_request_in m groups)
bearer m [] = record { type = inr refl; plane = refl }
bearer m (g ∷ groups) = record { type = inl refl; plane = refl }

fields : (t : Option MessageType) (m : MessageValue) → IsOf t (message_by t m)
fields (Some types.CreateSessionRequest) m = session m _
fields (Some types.CreateBearerRequest) m = bearer m _
fields t m = record { type = inl refl; plane = refl }

content : (m : MessageValue) (c : Content) → IsOf (type_at m.kind) (content_message c m)
content m (Fields f) = fields (type_at m.kind) m
content m (Raw octets) = record { type = inr refl; plane = refl }

-- what a message was read as is of the control plane
pub on_control : (m : MessageValue) → plane_of (message_of m) ≡ Control
on_control m = (content m m.content).plane

pub type_is_of : (m : MessageValue) → (type_of (message_of m) ≡ type_at m.kind) ⊎ (type_of (message_of m) ≡ None)
type_is_of m = (content m m.content).type

-- a message of a type that the gateway does not take is not taken
pub not_taken : (role : Role) (m : MessageValue) → takes_some role (type_at m.kind) ≡ false → takes_message role (message_of m) ≡ false
not_taken role m not = ⊎_elim (λ is. ap (takes_some role) is ∙ not) (λ none. ap (takes_some role) none) (type_is_of m)

-- and the type of a message is the one that its number names
pub type_said : (m : MessageValue) (t : MessageType) → type_of (message_of m) ≡ Some t → type_at m.kind ≡ Some t
type_said m t is = ⊎_elim (λ same. sym same ∙ is) (λ none. absurd (let never : None ≡ Some t = sym none ∙ is in cc)) (type_is_of m)

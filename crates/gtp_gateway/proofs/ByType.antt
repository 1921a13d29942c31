-- Which message octets spell, by its type, and what either gateway does with it.
use Rattle.std.proofs.Common.{◌≡◌, ℕ, List, Some, ap, true, None, refl, sym, ◌∙◌, subst}
use Rattle.gtp_v2.specs.Message.{MessageValue}
use Rattle.gtp_v2.specs.Datagram.{IsMessage}
use Rattle.gtp_machine.specs.Decoded.{message_of}
use Rattle.gtp_machine.specs.Message.{CreateSessionResponse, CreateBearerRequest, Create_session_response, Create_bearer_request, Message, recovery_of}
use Rattle.gtp_machine.specs.declared.message_type.MessageType.TheVariants as types
use Rattle.gtp_machine.specs.MessageType.{type_at, type_of, takes_type, takes_some, takes_message, type_row}
use Rattle.gtp_machine.proofs.Octets.Readings.{reads_as, create_bearer_request_read, create_session_request_read}
use Rattle.gtp_gateway.proofs.TakenTypes.{type_said, AtTakers, at_taker}
use Rattle.gtp_machine.specs.declared.role.Role.{Role}
use Rattle.gtp_machine.specs.Node.{Arrival, Node}
use Rattle.gtp_machine.specs.Input.{Effect}
use Rattle.gtp_machine.specs.declared.message_type.MessageType.{MessageType}
use Rattle.gtp_gateway.specs.declared.receive.restart_counter.Heard.{Heard}
use Rattle.gtp_gateway.specs.declared.step.ControlStep.{ControlStep}
use Rattle.gtp_gateway.specs.receive.RestartCounter.{node_heard}
use Rattle.gtp_gateway.specs.receive.Row.{IsRow, IsHeardRow, IsWeighed}
use Rattle.gtp_gateway.specs.receive.Allocations.{AlwaysSendsOrOpens}
use Rattle.gtp_gateway.specs.GatewayState.{GatewayState}
use Rattle.gtp_machine.specs.Step.{TakesBy}
use Rattle.gtp_gateway.proofs.Rows.{as_row}
use Rattle.gtp_gateway.proofs.Allocations.{needs_by}

-- the message tells no counter, and so nothing was heard
pub unheard : (heard : Heard) (m : Message) (s : GatewayState) → IsWeighed heard m s → recovery_of m ≡ None → s.node ≡ node_heard heard s.node
unheard heard m s (None, tells, is) none = ap (λ (h : Heard). node_heard h s.node) (sym is)
unheard heard m s (Some counter, tells, is) none = absurd (let no : Some counter.0 ≡ None = tells ∙ none in cc)

-- ---- a gateway takes the messages of the types that it takes

-- a message in a datagram has the type that its number names
pub type_read : (octets : List ℕ) (m : MessageValue) (t : MessageType) → IsMessage octets m → type_at m.kind ≡ Some t → type_of (message_of m) ≡ Some t
type_read octets m types.CreateSessionRequest is at = ap type_of (create_session_request_read octets m is at).2
type_read octets m types.CreateBearerRequest is at = ap type_of (create_bearer_request_read octets m is at).2
type_read octets m t is at = ap type_of (reads_as t octets m is at)

pub is_taken : (role : Role) (octets : List ℕ) (m : MessageValue) (t : MessageType) → IsMessage octets m → type_at m.kind ≡ Some t → takes_type role t ≡ true → takes_message role (message_of m) ≡ true
is_taken role octets m t is at takes = ap (takes_some role) (type_read octets m t is at) ∙ takes

-- what is done with a message of a type that the gateway takes, once its counter was heard, by the rule of its type
module _ (request : Arrival) (t u : MessageType) (m k : Message) (heard : Heard) (old : GatewayState) (takes : takes_type old.role t ≡ true) (same : t ≡ u) (is : m ≡ k) where
  -- a row, and what takes memory
  pub row_by : (T : Node → Effect → Type 0) (there : Role) (left : Node) (step : ControlStep) (new : GatewayState) → there ≡ old.role
      → left ≡ node_heard heard old.node → ((n : Node) (e : Effect) → T n e → AtTakers (λ r. TakesBy r request k n e) (type_row u).taker)
      → IsRow T request there left step new → IsHeardRow request m heard old step new
  row_by T there left step new same_role same_node each =
      as_row T (TakesBy old.role request m) request old.role there (node_heard heard old.node) left step new same_role same_node
      (λ n e row. at_taker (λ r x. TakesBy r request x n e) old.role t u m k takes same is (each n e row))

  pub row_heard : (T : Node → Effect → Type 0) (step : ControlStep) (new : GatewayState)
      → ((n : Node) (e : Effect) → T n e → AtTakers (λ r. TakesBy r request k n e) (type_row u).taker)
      → IsRow T request old.role (node_heard heard old.node) step new → IsHeardRow request m heard old step new
  row_heard T step new = row_by T old.role (node_heard heard old.node) step new refl refl

  pub needs_heard : AtTakers (λ r. AlwaysSendsOrOpens (TakesBy r request k) (node_heard heard old.node)) (type_row u).taker
      → AlwaysSendsOrOpens (TakesBy old.role request m) (node_heard heard old.node)
  needs_heard needs = needs_by old.role request m (node_heard heard old.node) t u k takes same is needs

  -- the same of a message that tells no counter
  module _ (weighed : IsWeighed heard m old) (none : recovery_of k ≡ None) where
    pub row_unheard : (T : Node → Effect → Type 0) (step : ControlStep) (new : GatewayState)
        → ((n : Node) (e : Effect) → T n e → AtTakers (λ r. TakesBy r request k n e) (type_row u).taker) → IsRow T request old.role old.node step new
        → IsHeardRow request m heard old step new
    row_unheard T step new = row_by T old.role old.node step new refl (unheard heard m old weighed (ap recovery_of is ∙ none))

    pub needs_unheard : AtTakers (λ r. AlwaysSendsOrOpens (TakesBy r request k) old.node) (type_row u).taker → AlwaysSendsOrOpens (TakesBy old.role request m) (node_heard heard old.node)
    needs_unheard needs =
        subst (λ (n : Node). AlwaysSendsOrOpens (TakesBy old.role request m) n) (unheard heard m old weighed (ap recovery_of is ∙ none))
        (needs_by old.role request m old.node t u k takes same is needs)

-- ---- the two messages of a pair

pub answer_kind : (a : CreateSessionResponse) (m : MessageValue) → message_of m ≡ Create_session_response a → type_at m.kind ≡ Some types.CreateSessionResponse
answer_kind a m is = type_said m types.CreateSessionResponse (ap type_of is)

pub request_kind : (q : CreateBearerRequest) (m : MessageValue) → message_of m ≡ Create_bearer_request q → type_at m.kind ≡ Some types.CreateBearerRequest
request_kind q m is = type_said m types.CreateBearerRequest (ap type_of is)

-- octets that spell a message of either type read as one
pub answer_of : (octets : List ℕ) (m : MessageValue) → IsMessage octets m → type_at m.kind ≡ Some types.CreateSessionResponse → (a : CreateSessionResponse) × (message_of m ≡ Create_session_response a)
answer_of octets m is at = (_, reads_as types.CreateSessionResponse octets m is at)

pub request_of : (octets : List ℕ) (m : MessageValue) → IsMessage octets m → type_at m.kind ≡ Some types.CreateBearerRequest → (q : CreateBearerRequest) × (message_of m ≡ Create_bearer_request q)
request_of octets m is at = (_, (create_bearer_request_read octets m is at).2)

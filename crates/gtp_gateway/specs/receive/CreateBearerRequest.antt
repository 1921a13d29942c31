-- Create Bearer Requests, as the serving gateway takes them.
use Rattle.gtp_machine.specs.declared.message_type.MessageType.TheVariants as types
use Rattle.gtp_ie.specs.Form.{number_of}
use Rattle.gtp_ie.specs.declared.form.Form.TheVariants as forms
use Rattle.std.specs.Prelude.{◌≡◌, ◌↔◌, ℕ, Bool, true, false, IsTrue, IsSome, List, [], ◌∷◌, Option, Some, None}
use Rattle.std.specs.FinMap.{get}
use Rattle.gtp_values.specs.Cause.{is_accepting_value}
use Rattle.gtp_values.specs.FiniteMap.{FiniteMap}
use Rattle.gtp_tables.specs.Identity.{HasIdentity, IsLowestUnused}
use Rattle.gtp_ie.specs.Value.{Value, OfEbi, OfFTeid}
use Rattle.gtp_v2.specs.CreateBearerRequest.{bearer_request_context_rows}
use Rattle.gtp_v2.specs.Message.{MessageValue}
use Rattle.gtp_v2.specs.Viewed.{row_of, contexts_of}
use Rattle.gtp_machine.specs.declared.causes.TheConstants.{REQUEST_ACCEPTED, NO_RESOURCES_AVAILABLE}
use Rattle.gtp_machine.specs.Answer.{refusing}
use Rattle.gtp_machine.specs.Decoded.{context_row}
use Rattle.gtp_machine.specs.Element.{cause_of, tunnel_end}
use Rattle.gtp_machine.specs.Input.{Effect, dropped}
use Rattle.gtp_machine.specs.declared.outcome.DropReason.TheVariants.{ContextNotActive}
use Rattle.gtp_machine.specs.Message.{Message, Create_bearer_response}
use Rattle.gtp_machine.specs.Message as messages
use Rattle.gtp_machine.specs.Node.{Arrival, Node, Session, Bearer, Dedicated, Active, written}
use Rattle.gtp_machine.specs.Serving.{no_resources, BearerJudged, CreateBearerAsked}
use Rattle.gtp_gateway.specs.declared.tables.change.Change.{Change}
use Rattle.gtp_gateway.specs.declared.tables.change.Change.TheVariants.{Stays, MakesBearer}
use Rattle.gtp_gateway.specs.declared.receive.create_bearer_request.BearerRequest.{BearerRequest}
use Rattle.gtp_gateway.specs.declared.receive.create_bearer_request.judge.BearerGrant.{BearerGrant}
use Rattle.gtp_gateway.specs.declared.receive.create_bearer_request.judge.CreateBearerAnswer.{CreateBearerAnswer}
use Rattle.gtp_gateway.specs.declared.receive.create_bearer_request.judge.CreateBearerAnswer.TheVariants.{Refused, NoResources, Granted}
use Rattle.gtp_gateway.specs.declared.receive.create_bearer_request.judge.CreateBearerVerdict.{CreateBearerVerdict}
use Rattle.gtp_gateway.specs.declared.step.ControlStep.{ControlStep}
use Rattle.gtp_gateway.specs.receive.Answer.{answering}
use Rattle.gtp_gateway.specs.tables.Change.{changed_by}
use Rattle.gtp_gateway.specs.tables.Teids.{IsOneDrawn}
use Rattle.gtp_gateway.specs.receive.Row.{IsRow}
use Rattle.gtp_gateway.specs.GatewayState.{GatewayState}

-- what was read of a message is what stands in its rows
pub record ReadsCreateBearer (m : MessageValue) (r : BearerRequest) : Type 0 where
  pub number : r.seq ≡ m.seq
  pub header : r.header ≡ written m.teid
  pub linked : row_of (number_of forms.Ebi) 0 m ≡ OfEbi r.linked ∷ []
  pub first : List (List Value)
  pub further : List (List (List Value))
  pub contexts : contexts_of m ≡ first ∷ further
  pub user : context_row bearer_request_context_rows forms.FTeid 1 first ≡ OfFTeid r.user ∷ []
  pub alone : IsTrue r.is_alone ↔ (further ≡ [])

-- the machine's message says what was read
pub record SaysCreateBearer (r : BearerRequest) (q : messages.CreateBearerRequest) : Type 0 where
  pub number : q.number ≡ r.seq
  pub header : q.header ≡ r.header
  pub linked : q.linked ≡ r.linked
  pub user : q.context.user ≡ r.user
  pub alone : IsTrue r.is_alone ↔ (q.further ≡ [])

-- the lowest identity that no bearer of the session has, and the next TEID
pub record IsGrant (session : ℕ) (g : BearerGrant) (node : Node) : Type 0 where
  pub identity : IsLowestUnused node.bearers session g.identity
  pub drawn : IsOneDrawn g.drawn node

-- the bearer that is granted
abbrev pub granted_to : BearerRequest → ℕ → Bearer
granted_to r identity = record { remote = Some r.user.teid; session = r.header; identity = Some identity; kind = Dedicated; state = Active; ended = false }

-- the answer to a request, at this node
abbrev pub bearer_answer : CreateBearerAnswer → ℕ → messages.CreateBearerRequest → Node → Message
bearer_answer (Refused cause) header q old = refusing types.CreateBearerRequest header q.number (cause_of cause) old.counter
bearer_answer NoResources header q old = Create_bearer_response (no_resources old q header)
bearer_answer (Granted g) header q old =
    Create_bearer_response (record {
      header = header;
      number = q.number;
      cause = cause_of REQUEST_ACCEPTED;
      contexts = record {
        identity = g.identity;
        cause = cause_of REQUEST_ACCEPTED;
        serving_user = Some (tunnel_end 4 g.drawn.teid old.config.own.user);
        packet_user = Some q.context.user;
      } ∷ [];
      recovery = Some old.counter;
    })

abbrev pub cause_in : CreateBearerAnswer → ℕ
cause_in (Refused cause) = cause
cause_in NoResources = NO_RESOURCES_AVAILABLE
cause_in (Granted g) = REQUEST_ACCEPTED

abbrev pub is_granted : CreateBearerAnswer → Bool
is_granted (Refused cause) = false
is_granted NoResources = false
is_granted (Granted g) = true

abbrev pub change_for : BearerRequest → CreateBearerAnswer → Change
change_for r (Refused cause) = Stays
change_for r NoResources = Stays
change_for r (Granted g) = MakesBearer g.drawn.draws g.drawn.teid (granted_to r g.identity)

-- what is granted may be chosen so, and the cause of a refusal does not accept
abbrev pub IsChosen : ℕ → CreateBearerAnswer → Node → Type 0
IsChosen session (Refused cause) node = is_accepting_value cause ≡ false
IsChosen session NoResources node = Unit {0}
IsChosen session (Granted g) node = IsGrant session g node

-- the effect that a verdict stands for; without one the session is not active
abbrev pub create_bearer_effect : Arrival → BearerRequest → messages.CreateBearerRequest → Option CreateBearerVerdict → Node → Effect
create_bearer_effect request r q None old = dropped old ContextNotActive
create_bearer_effect request r q (Some v) old = answering (is_granted v.answer) request (bearer_answer v.answer v.header q old ∷ []) (cause_in v.answer) (changed_by (change_for r v.answer) old)

-- what a verdict chooses
abbrev pub ChoosesBearer : ℕ → Option CreateBearerVerdict → Node → Type 0
ChoosesBearer session None node = Unit {0}
ChoosesBearer session (Some v) node = IsChosen session v.answer node

-- the verdict is the machine's, and what it grants may be granted
pub record JudgesCreateBearer (r : BearerRequest) (old : Node) (v : Option CreateBearerVerdict) : Type 0 where
  pub judged : (request : Arrival) (q : messages.CreateBearerRequest) → SaysCreateBearer r q → BearerJudged request q old (create_bearer_effect request r q v old)
  pub chosen : ChoosesBearer r.header v old

-- the session under a TEID is the one that was found, and where there is one its bearers have the identities that they have among others; the draws are those of
-- another node, and all bearers stand there
pub record StandsWith (teid : ℕ) (found : Option Session) (bearers : FiniteMap Bearer) (old node : Node) : Type 0 where
  pub session : get node.sessions teid ≡ found
  pub identities : IsSome found → (identity : ℕ) → HasIdentity bearers teid identity ↔ HasIdentity node.bearers teid identity
  pub drawn : node.drawn ≡ old.drawn
  pub counter : node.counter ≡ old.counter
  pub stood : (t : ℕ) (b : Bearer) → get node.bearers t ≡ Some b → (c : Bearer) × (get old.bearers t ≡ Some c)

-- the cause of a refusal does not accept
abbrev pub HasFitCause : CreateBearerAnswer → Type 0
HasFitCause (Refused cause) = is_accepting_value cause ≡ false
HasFitCause NoResources = Unit {0}
HasFitCause (Granted g) = Unit {0}

-- what is granted may be given in the session that was found: it is active, and the TEID is the next one here
abbrev pub CanGive : Option Session → CreateBearerAnswer → Node → Type 0
CanGive found (Refused cause) node = Unit {0}
CanGive found NoResources node = Unit {0}
CanGive found (Granted g) node = (s : Session) × (found ≡ Some s) × (s.state ≡ Active) × IsOneDrawn g.drawn node

-- a Create Bearer Request was taken
abbrev pub TakesCreateBearerRequest : Arrival → BearerRequest → GatewayState → ControlStep → GatewayState → Type 0
TakesCreateBearerRequest arrival r old step new =
    (q : messages.CreateBearerRequest) → SaysCreateBearer r q
    → IsRow (CreateBearerAsked arrival q) arrival old.role old.node step new

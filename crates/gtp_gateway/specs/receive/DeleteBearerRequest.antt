-- Delete Bearer Requests, as the serving gateway takes them.
use Rattle.std.specs.Prelude.{◌≡◌, ◌≢◌, ℕ, ◌==◌, Bool, true, false, List, [], ◌∷◌, ◌++◌, map, Option, Some, None, is_some, unwrap_or}
use Rattle.std.specs.List.{list_any}
use Rattle.std.specs.FinMap.{get}
use Rattle.gtp_values.specs.declared.identifiers.Teid.{Teid}
use Rattle.gtp_ie.specs.declared.value.ebi.EbiValue.{EbiValue}
use Rattle.gtp_ie.specs.Form.{number_of as number_of_form}
use Rattle.gtp_ie.specs.declared.form.Form.TheVariants as forms
use Rattle.gtp_v2.specs.Message.{MessageValue}
use Rattle.gtp_v2.specs.Viewed.{several_of}
use Rattle.gtp_v2.specs.declared.body.delete_bearer_response.RemovalResponseContext.{RemovalResponseContext}
use Rattle.gtp_machine.specs.declared.causes.TheConstants.{REQUEST_ACCEPTED, CONTEXT_NOT_FOUND}
use Rattle.gtp_machine.specs.Answer.{answered}
use Rattle.gtp_machine.specs.Command.{NamesBearer}
use Rattle.gtp_machine.specs.Decoded.{number_of}
use Rattle.gtp_machine.specs.Element.{cause_of}
use Rattle.gtp_machine.specs.Input.{Effect, dropped}
use Rattle.gtp_machine.specs.declared.outcome.DropReason.TheVariants.{ContextNotActive}
use Rattle.gtp_machine.specs.Message.{RemovedBearer, Delete_bearer_response}
use Rattle.gtp_machine.specs.Message as messages
use Rattle.gtp_machine.specs.Node.{Arrival, Session, Node, Pending, written}
use Rattle.gtp_machine.specs.Removal.{without_bearer}
use Rattle.gtp_machine.specs.Serving.{DeleteBearerJudged, DeleteBearerAsked}
use Rattle.gtp_gateway.specs.declared.receive.delete_request.DeleteRequest.{DeleteRequest}
use Rattle.gtp_gateway.specs.declared.receive.delete_bearer_request.identities.NamedBearer.{NamedBearer}
use Rattle.gtp_gateway.specs.declared.receive.delete_bearer_request.DeleteBearerAnswer.{DeleteBearerAnswer}
use Rattle.gtp_gateway.specs.declared.receive.delete_bearer_request.DeleteBearerVerdict.{DeleteBearerVerdict}
use Rattle.gtp_gateway.specs.declared.receive.delete_bearer_request.DeleteBearerVerdict.TheVariants.{NotOpened, Answered, Bearers}
use Rattle.gtp_gateway.specs.declared.step.ControlStep.{ControlStep}
use Rattle.gtp_gateway.specs.tables.Change.{changed_by, CanChange}
use Rattle.gtp_gateway.specs.receive.Row.{IsRow}
use Rattle.gtp_gateway.specs.GatewayState.{GatewayState}

-- the machine's Delete Bearer Request that was read, with these identities in its list
abbrev pub delete_bearer_by : DeleteRequest → List ℕ → messages.DeleteBearerRequest
delete_bearer_by r identities = record { header = r.header; number = r.seq; linked = r.linked; identities = identities }

-- the identities in the list of a message
abbrev pub identities_of : MessageValue → List ℕ
identities_of m = map (λ v. unwrap_or (number_of v) 0) (several_of (number_of_form forms.Ebi) 1 m)

abbrev pub number_in : EbiValue → ℕ
number_in i = i.0

-- ---- bearers that are named

-- the bearer that goes for it has this TEID
abbrev pub is_at : ℕ → Option Teid → Bool
is_at t None = false
is_at t (Some teid) = t == teid

abbrev pub goes_for : ℕ → NamedBearer → Bool
goes_for t n = is_at t n.teid

-- a bearer goes for it
abbrev pub is_found : NamedBearer → Bool
is_found n = is_some n.teid

-- the bearer under this TEID goes for one of them
abbrev pub was_named : ℕ → List NamedBearer → Bool
was_named t named = list_any (goes_for t) named

-- the session's dedicated bearer with the identity goes for it, which goes for none before; where none goes, each that has the identity goes for one before
abbrev pub NamesOne : Node → ℕ → List NamedBearer → ℕ → Option Teid → Type 0
NamesOne old session before identity None = (named : NamesBearer old session identity) → was_named named.key before ≡ true
NamesOne old session before identity (Some teid) = (named : NamesBearer old session identity) × (named.key ≡ teid) × (was_named teid before ≡ false)

-- each of them in turn
abbrev pub NamesEach : Node → ℕ → List NamedBearer → List NamedBearer → Type 0
NamesEach old session before [] = Unit {0}
NamesEach old session before (n ∷ named) = NamesOne old session before n.identity.0 n.teid × NamesEach old session (before ++ n ∷ []) named

abbrev pub identity_named : NamedBearer → ℕ
identity_named n = n.identity.0

-- whether a bearer goes, or there is none
abbrev pub cause_named : Option Teid → ℕ
cause_named None = CONTEXT_NOT_FOUND
cause_named (Some teid) = REQUEST_ACCEPTED

abbrev pub removed_by : NamedBearer → RemovedBearer
removed_by n = record { identity = n.identity.0; cause = cause_of (cause_named n.teid) }

abbrev pub context_by : NamedBearer → RemovalResponseContext
context_by n = record { ebi = n.identity; cause = cause_of (cause_named n.teid) }

-- the node without the bearer that goes, if one does
abbrev pub without_named : Option Teid → Node → Node
without_named None node = node
without_named (Some teid) node = without_bearer node teid

-- the node without all that go
abbrev pub without_each : List NamedBearer → Node → Node
without_each [] node = node
without_each (n ∷ named) node = without_each named (without_named n.teid node)

-- ---- what the request comes to

-- the effect that an answer without bearer contexts stands for, to a request with this number
abbrev pub delete_bearer_effect : Arrival → ℕ → DeleteBearerAnswer → Node → Effect
delete_bearer_effect request number a old =
    answered request (Delete_bearer_response (record {
      header = a.header;
      number = number;
      cause = cause_of a.cause;
      linked = a.linked;
      contexts = [];
      recovery = Some old.counter;
    })) a.cause (changed_by a.change old)

-- the request names dedicated bearers of a session that was opened, whose remote goes into the header of the answer
pub record IsForBearers (r : DeleteRequest) (header : ℕ) (old : Node) : Type 0 where
  pub session : Session
  pub stands : get old.sessions r.header ≡ Some session
  pub opened : session.state ≢ Pending
  pub unlinked : r.linked ≡ None
  pub named : header ≡ written session.remote

-- an answer is the machine's, whatever the list has, and what it changes can change
pub record JudgesAnswer (r : DeleteRequest) (old : Node) (a : DeleteBearerAnswer) : Type 0 where
  pub judged : (request : Arrival) (identities : List ℕ) → DeleteBearerJudged request (delete_bearer_by r identities) old (delete_bearer_effect request r.seq a old)
  pub can : CanChange a.change old

-- the verdict is the machine's, as far as the list is not looked at
abbrev pub JudgesDeleteBearer : DeleteRequest → Node → DeleteBearerVerdict → Type 0
JudgesDeleteBearer r old NotOpened = (request : Arrival) (identities : List ℕ) → DeleteBearerJudged request (delete_bearer_by r identities) old (dropped old ContextNotActive)
JudgesDeleteBearer r old (Answered answer) = JudgesAnswer r old answer
JudgesDeleteBearer r old (Bearers header) = IsForBearers r header old

-- a request with this number was answered so
abbrev pub AnswersDeleteBearer : Arrival → ℕ → DeleteBearerAnswer → GatewayState → ControlStep → GatewayState → Type 0
AnswersDeleteBearer arrival number answer old step new =
    IsRow (λ node e. e ≡ delete_bearer_effect arrival number answer node) arrival old.role old.node step new

-- a Delete Bearer Request with these identities was taken
abbrev pub EndsNamed : Arrival → DeleteRequest → List EbiValue → GatewayState → ControlStep → GatewayState → Type 0
EndsNamed arrival r identities old step new =
    IsRow (DeleteBearerJudged arrival (delete_bearer_by r (map number_in identities))) arrival old.role old.node step new

-- a Delete Bearer Request was taken, with the identities in the list of its message
abbrev pub TakesDeleteBearerRequest : Arrival → MessageValue → DeleteRequest → GatewayState → ControlStep → GatewayState → Type 0
TakesDeleteBearerRequest arrival m r old step new =
    IsRow (DeleteBearerAsked arrival (delete_bearer_by r (identities_of m))) arrival old.role old.node step new

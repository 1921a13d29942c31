-- What responses come to that open sessions and bearers.
use Rattle.std.specs.Prelude.{◌≡◌, ℕ, Bool, true, false, List, Some, None, IsSome}
use Rattle.std.specs.FinMap.{get, insert, remove}
use Rattle.gtp_values.specs.FiniteMap.{FiniteMap}
use Rattle.gtp_values.specs.declared.identifiers.Teid.{Teid}
use Rattle.gtp_reliable.specs.Pending.{others}
use Rattle.gtp_reliable.specs.Waiting.{Waiting}
use Rattle.gtp_machine.specs.Message.{Message}
use Rattle.gtp_machine.specs.Node.{Session, Bearer, Node}
use Rattle.gtp_machine.specs.Input.{Came_to, Effect, nothing}
use Rattle.gtp_machine.specs.Removal.{finished_about}
use Rattle.gtp_machine.specs.declared.outcome.Outcome.{Outcome}
use Rattle.gtp_machine.specs.declared.outcome.Outcome.TheVariants.{Opened, Dropped}
use Rattle.gtp_gateway.specs.declared.receive.restart_counter.Heard.{Heard}
use Rattle.gtp_gateway.specs.declared.receive.restart_counter.Heard.TheVariants.{Nothing, First, Same, Later, Earlier}
use Rattle.gtp_gateway.specs.declared.command.purpose.Purpose.{Purpose}
use Rattle.gtp_gateway.specs.declared.tables.opening.ResponseVerdict.{ResponseVerdict}
use Rattle.gtp_gateway.specs.declared.tables.opening.ResponseVerdict.TheVariants.{Drops, Finishes, OpensSession, OpensBearer}
use Rattle.gtp_gateway.specs.command.SendRequest.{about}
use Rattle.gtp_gateway.specs.receive.RestartCounter.{goes_with}
use Rattle.gtp_gateway.specs.command.Purpose.{session_of, bearer_of}
use Rattle.gtp_gateway.specs.messages.Spelled.{is_for}

-- whether a request goes as the counter is heard
abbrev pub goes_after : Heard → FiniteMap Session → Purpose → Bool
goes_after Nothing sessions purpose = false
goes_after (First counter) sessions purpose = false
goes_after (Same counter) sessions purpose = false
goes_after (Later counter) sessions purpose = goes_with sessions purpose
goes_after (Earlier counter) sessions purpose = false

-- the requests that wait on as the counter is heard
abbrev pub waiting_heard : Heard → FiniteMap Session → List (Waiting Purpose) → List (Waiting Purpose)
waiting_heard heard sessions waiting = others (goes_after heard sessions) waiting

-- a request for the purpose waits under the number
pub record IsWaiting (node : Node) (number : ℕ) (purpose : Purpose) : Type 0 where
  pub message : Message
  pub waits : get node.pending number ≡ Some (about purpose message)
  pub meant : is_for purpose message ≡ true

-- what is told of a verdict
abbrev pub outcome_by : ResponseVerdict → Outcome
outcome_by (Drops why) = Dropped why
outcome_by (Finishes purpose outcome) = outcome
outcome_by (OpensSession session opened teid bearer) = Opened
outcome_by (OpensBearer teid bearer) = Opened

-- a node with this bearer
abbrev pub with_bearer : Teid → Bearer → Node → Node
with_bearer teid bearer node = record node { bearers = insert node.bearers teid bearer }

-- the node after a verdict on the response with the number
abbrev pub node_by : ResponseVerdict → ℕ → Node → Node
node_by (Drops why) number node = node
node_by (Finishes purpose outcome) number node = finished_about node number (session_of purpose) (bearer_of purpose)
node_by (OpensSession session opened teid bearer) number node = record node {
  sessions = insert node.sessions session opened;
  bearers = insert node.bearers teid bearer;
  pending = remove node.pending number;
}
node_by (OpensBearer teid bearer) number node = record node { bearers = insert node.bearers teid bearer; pending = remove node.pending number }

-- the effect that a verdict stands for
abbrev pub effect_by : ResponseVerdict → ℕ → Node → Effect
effect_by verdict number node = record { out = nothing; outcome = Came_to (outcome_by verdict); node = node_by verdict number node }

-- a bearer without a remote stands there, and is opened in its session
pub record IsOpenedAt (bearers : FiniteMap Bearer) (teid : ℕ) (opened : Bearer) : Type 0 where
  pub bearer : Bearer
  pub stands : get bearers teid ≡ Some bearer
  pub blank : bearer.remote ≡ None
  pub of : opened.session ≡ bearer.session

-- what a verdict needs: what is opened stands
abbrev pub CanApply : ResponseVerdict → Node → Type 0
CanApply (Drops why) node = Unit {0}
CanApply (Finishes purpose outcome) node = Unit {0}
CanApply (OpensSession session opened teid bearer) node = IsSome (get node.sessions session) × IsOpenedAt node.bearers teid bearer
CanApply (OpensBearer teid bearer) node = IsOpenedAt node.bearers teid bearer

-- A step is determined, but for what a gateway may choose: TEIDs, an address, an identity and the number of a request.
use Rattle.std.specs.Prelude.{◌≡◌, ℕ, List, [], ◌∷◌, length, Some, None}
use Rattle.std.specs.FinMap.{get}
use Rattle.gtp_values.specs.declared.address.Endpoint.{Endpoint}
use Rattle.gtp_values.specs.FiniteMap.{Among}
use Rattle.gtp_tables.specs.declared.pool.IpVersion.{IpVersion}
use Rattle.gtp_tables.specs.Part.{part_of}
use Rattle.gtp_machine.specs.Config.{Config}
use Rattle.gtp_machine.specs.Message.{CreateSessionResponse, Create_session_response}
use Rattle.gtp_machine.specs.Node.{Role, Serving, Session, Bearer, PendingRequest, Arrival, Held, Node, fresh_node}
use Rattle.gtp_machine.specs.Input.{Input, Commanded, Control_came, Control_message, Sending, Out, Effect, EventOutcome, Came_to, Begun}
use Rattle.gtp_machine.specs.Choice.{HasPending}
use Rattle.gtp_machine.specs.Tick.{Due, Ticks}
use Rattle.gtp_machine.specs.Step.{Step, Done, Steps}
use Rattle.gtp_machine.specs.Sound.{IsSound}

-- at most one answer is held for a request
pub record OneAnswerPerRequest (node : Node) : Type 0 where
  pub once : (g h : Held) → Among g node.held → Among h node.held → g.request ≡ h.request → g.answer ≡ h.answer

-- two steps of a sound gateway, on the same input
pub record StepsTwice (role : Role) (old : Node) (input : Input) (e f : Effect) : Type 0 where
  pub sound : IsSound role old
  pub once : OneAnswerPerRequest old
  pub first : Step role old input e
  pub second : Step role old input f

-- what it comes to without what is chosen: where a command begins a context, its TEID
abbrev pub unchosen : Input → EventOutcome → EventOutcome
unchosen (Commanded command) (Came_to (Begun teid)) = Came_to (Begun None)
unchosen input outcome = outcome

-- what is told besides the datagrams that are sent
abbrev pub unsent : Out → Out
unsent out = record out { sent = [] }

-- where the datagrams are sent to
abbrev pub destinations : List Sending → List Endpoint
destinations [] = []
destinations (s ∷ sent) = s.destination ∷ destinations sent

-- Both tell the same: what it comes to, the counter that was heard, and all else besides the datagrams; as many datagrams are
-- sent, to the same places; the counters are the same after them, the peer's and the own; and as many TEIDs were drawn.
pub record TellAlike (input : Input) (e f : Effect) : Type 0 where
  pub outcome : unchosen input e.outcome ≡ unchosen input f.outcome
  pub told : unsent e.out ≡ unsent f.out
  pub places : destinations e.out.sent ≡ destinations f.out.sent
  pub known : e.node.known ≡ f.node.known
  pub counter : e.node.counter ≡ f.node.counter
  pub draws : length e.node.drawn ≡ length f.node.drawn

-- Both chose the same: they have drawn the same TEIDs; where both give a new session an address of one version, it is the same
-- address; a bearer that is new has the same identity; and where a request waits after the one that did not wait so before, one
-- waits under the same number after the other.
pub record ChooseAlike (old one other : Node) : Type 0 where
  pub drawn : one.drawn ≡ other.drawn
  pub addresses :
      (t : ℕ) (a b : Session) → get old.sessions t ≡ None → get one.sessions t ≡ Some a → get other.sessions t ≡ Some b →
      (version : IpVersion) (x y : List ℕ) → part_of version a.address ≡ Some x → part_of version b.address ≡ Some y → x ≡ y
  pub identities :
      (t : ℕ) (a b : Bearer) → get old.bearers t ≡ None → get one.bearers t ≡ Some a → get other.bearers t ≡ Some b →
      a.identity ≡ b.identity
  pub numbers : (number : ℕ) (p : PendingRequest) → get one.pending number ≡ Some p → (get old.pending number ≡ Some p → ⊥) → HasPending other number

-- Whatever comes to a sound gateway, one thing is told, whatever is chosen.
abbrev pub OneIsTold : Type 0
OneIsTold = (role : Role) (old : Node) (input : Input) (e f : Effect) → StepsTwice role old input e f → TellAlike input e f

-- And where the choices are alike there is one effect: the same datagrams are sent, and the same gateway is left.
abbrev pub OneIsDone : Type 0
OneIsDone = (role : Role) (old : Node) (input : Input) (e f : Effect) → StepsTwice role old input e f → ChooseAlike old e.node f.node → e ≡ f

-- Nothing is chosen for a Create Session Response, so what comes after it in the same datagram finds one gateway.
abbrev pub OneAnswer : Type 0
OneAnswer =
    (old : Node) (request : Arrival) (a : CreateSessionResponse) (e f : Effect) →
    StepsTwice Serving old (Control_came request (Control_message (Create_session_response a))) e f → e ≡ f

-- Nothing is chosen in a tick: where this is due it sends and tells one thing, and leaves one gateway.
abbrev pub OneTick : Type 0
OneTick =
    (old : Node) (due : Due) (out other : Out) (new left : Node) → Ticks old due out new → Ticks old due other left →
    (out ≡ other) × (new ≡ left)

-- A gateway that is reached from a start holds at most one answer for a request.
abbrev pub ReachedHoldsOneAnswer : Type 0
ReachedHoldsOneAnswer =
    (role : Role) (config : Config) (counter : ℕ) (log : List Done) (node : Node) →
    Steps role (fresh_node config counter) log node → OneAnswerPerRequest node

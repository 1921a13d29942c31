-- The steps of one gateway by itself, and what it makes for a request.
use Rattle.std.specs.Prelude.{◌≡◌, ◌⊎◌, ℕ, List, [], ◌∷◌, ◌++◌, Some, None}
use Rattle.std.specs.FinMap.{get}
use Rattle.gtp_values.specs.FiniteMap.{Among}
use Rattle.gtp_machine.specs.Config.{Config}
use Rattle.gtp_machine.specs.Message.{Message, Create_session_request, Create_bearer_request}
use Rattle.gtp_machine.specs.Node.{Role, Serving, Packet, Bearer, Arrival, Held, Node, fresh_node}
use Rattle.gtp_machine.specs.Input.{Input, Control_came, Control_message, Effect, datagrams}
use Rattle.gtp_machine.specs.Step.{Step, Done, Steps}

-- a request by which this gateway makes a session or a bearer
abbrev pub Makes : Role → Message → Type 0
Makes Serving (Create_bearer_request r) = Unit {0}
Makes Packet (Create_session_request q) = Unit {0}
Makes role m = ⊥

-- the step takes the request
abbrev pub TookRequest : Done → Arrival → Message → Type 0
TookRequest done request message = done.input ≡ Control_came request (Control_message message)

-- the step makes a context: a bearer, as a session comes with its default bearer
pub record MakesContext (done : Done) : Type 0 where
  pub key : ℕ
  pub none : get done.before.bearers key ≡ None
  pub bearer : Bearer
  pub comes : get done.effect.node.bearers key ≡ Some bearer

-- the steps do not give up the answer to the request
abbrev pub NeverForgets : List Done → Arrival → Type 0
NeverForgets log request = (done : Done) → Among done log → Among request done.effect.out.forgot → ⊥

-- An answer that is held stays so until it is forgotten, whatever else a gateway does.
abbrev pub HeldUntilForgotten : Type 0
HeldUntilForgotten =
    (role : Role) (old : Node) (input : Input) (effect : Effect) → Step role old input effect → (held : Held) →
    Among held old.held → Among held effect.node.held ⊎ Among held.request effect.out.forgot

-- two steps that take the same create request, with no giving up of its answer between them
pub record ComesTwice (role : Role) (request : Arrival) (message : Message) (first second : Done) : Type 0 where
  pub makes : Makes role message
  pub config : Config
  pub counter : ℕ
  pub before : List Done
  pub between : List Done
  pub start : Node
  pub finish : Node
  pub reached : Steps role (fresh_node config counter) before start
  pub steps : Steps role start (first ∷ (between ++ (second ∷ []))) finish
  pub first_takes : TookRequest first request message
  pub second_takes : TookRequest second request message
  pub kept : NeverForgets between request

-- the second of them makes no context where the first made one, and sends what the first sent
pub record SecondAddsNothing (first second : Done) : Type 0 where
  pub one_context : MakesContext first → MakesContext second → ⊥
  pub one_answer : (a b : List Message) → Among a (datagrams first.effect.out.sent) → Among b (datagrams second.effect.out.sent) → a ≡ b

-- Until its answer is given up, a Create Session or Create Bearer Request makes one context and has one answer, however often it comes.
abbrev pub ActsOnce : Type 0
ActsOnce =
    (role : Role) (request : Arrival) (message : Message) (first second : Done) → ComesTwice role request message first second →
    SecondAddsNothing first second

-- no taking of the create request in these steps is late: its answer was not given up before
abbrev pub NeverLate : Role → List Done → Arrival → Type 0
NeverLate role log request =
    (front back : List Done) (done : Done) (message : Message) → Makes role message → log ≡ front ++ (done ∷ back) →
    TookRequest done request message → NeverForgets front request

-- two steps of one start that take the same create request, where none that takes it is late
pub record TakenInTime (role : Role) (request : Arrival) (message : Message) (first second : Done) : Type 0 where
  pub makes : Makes role message
  pub config : Config
  pub counter : ℕ
  pub before : List Done
  pub between : List Done
  pub after : List Done
  pub finish : Node
  pub steps : Steps role (fresh_node config counter) (before ++ (first ∷ (between ++ (second ∷ after)))) finish
  pub first_takes : TookRequest first request message
  pub second_takes : TookRequest second request message
  pub in_time : NeverLate role (before ++ (first ∷ (between ++ (second ∷ after)))) request

-- Where none of its deliveries is late, a Create Session or Create Bearer Request makes one context in a start and has one answer.
abbrev pub ActsOnceInTime : Type 0
ActsOnceInTime =
    (role : Role) (request : Arrival) (message : Message) (first second : Done) →
    TakenInTime role request message first second → SecondAddsNothing first second

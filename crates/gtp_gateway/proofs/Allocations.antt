-- What takes memory on the control plane, rule by rule.
use Rattle.std.proofs.Common.{◌≡◌, inl, inr, ℕ, Bool, true, cond, [], ◌∷◌, Option, Some, None, option_map, Result, Ok, Err, sym, ◌∙◌, ap, subst}
use Rattle.std.specs.Prelude.{OnErr}
use Rattle.std.specs.FinMap.{get}
use Rattle.gtp_values.specs.Counter.{age_of}
use Rattle.gtp_values.specs.FiniteMap.{Among}
use Rattle.gtp_values.specs.declared.counter.Counter.{Counter}
use Rattle.gtp_values.specs.declared.counter.Age.{Age}
use Rattle.gtp_values.specs.declared.counter.Age.TheVariants as ages
use Rattle.gtp_machine.specs.declared.role.Role.{Role}
use Rattle.gtp_machine.specs.declared.role.Role.TheVariants.{Serving, Packet}
use Rattle.gtp_machine.specs.declared.outcome.Outcome.TheVariants.{Opened}
use Rattle.gtp_machine.specs.Answer.{IsNew, Faulted, TakesReading, answered, echoed, tells_version, version_told}
use Rattle.gtp_machine.specs.Choice.{HasHeldRoom, HasSession}
use Rattle.gtp_machine.specs.Input.{Came_to, Moves_on, Resend, Effect, FaultyRequest, ControlReading, Control_message, Faulty, Control_fault, dropped, undecodable}
use Rattle.gtp_machine.specs.Message.{Control, Message, CreateSessionResponse, CreateBearerRequest, CreateBearerResponse, Echo, recovery_of}
use Rattle.gtp_machine.specs.Node.{Active, Session, Arrival, Held, Node}
use Rattle.gtp_machine.specs.Packet.{CreateBearerAnswered}
use Rattle.gtp_machine.specs.Recovery.{Judges, Weighs, Hears}
use Rattle.gtp_machine.specs.Serving.{BearerJudged, CreateBearerAsked, CreateSessionAnswered}
use Rattle.gtp_machine.proofs.Basics.Facts.{one_value}
use Rattle.gtp_machine.proofs.Determined.Responses.{create_session_answered as session_alike, create_bearer_answered as bearer_alike}
use Rattle.gtp_gateway.specs.declared.receive.restart_counter.Heard.{Heard}
use Rattle.gtp_gateway.specs.receive.Answer.{answering}
use Rattle.gtp_gateway.specs.receive.RestartCounter.{aged, weighed, weighed_by, node_heard, IsEarlier}
use Rattle.gtp_gateway.specs.receive.Allocations.{SendsOrOpens, AlwaysSendsOrOpens, StepSendsOrOpens}
use Rattle.gtp_machine.specs.declared.message_type.MessageType.{MessageType}
use Rattle.gtp_machine.specs.MessageType.{type_row, takes_type, takes_message, answers_type}
use Rattle.gtp_machine.specs.Step.{TakesBy}
use Rattle.gtp_gateway.specs.GatewayState.{GatewayState}
use Rattle.gtp_gateway.proofs.Rules.{follows}
use Rattle.gtp_gateway.proofs.TakenTypes.{AtTakers, at_taker}

-- what follows where there is an error
pub on_err : {A E P : Type 0} (r : Result A E) → P → OnErr r P
on_err (Ok x) is = tt
on_err (Err e) is = is

pub sends : {e f : Effect} → (f.out.sent ≡ [] → ⊥) → e ≡ f → SendsOrOpens e
sends some is = inl (λ none. some (ap (λ (x : Effect). x.out.sent) (sym is) ∙ none))

-- what is answered is sent
pub sends_answer : {P : Type 0} {m : Message} {cause : ℕ} {e : Effect} (request : Arrival) (left : Node) → (P → ⊥) → e ≡ answered request m cause left → SendsOrOpens e
sends_answer request left not is = sends (λ none. cc) is

-- ---- requests

-- its session is active, if it stands
abbrev IsOpen : Node → ℕ → Type 0
IsOpen old session = (at : HasSession old session) → at.session.state ≡ Active

bearer_judged : (request : Arrival) (r : CreateBearerRequest) (old : Node) → IsOpen old r.header → (e : Effect) → BearerJudged request r old e → SendsOrOpens e
bearer_judged request r old active e rule =
    follows (sends_answer request old) (λ at.
    follows (λ idle is. absurd (idle (active at))) (λ opened.
    follows (sends_answer request old) (λ one. follows (sends_answer request old) (λ linked. follows (sends_answer request old) (λ free makes. sends (λ none. cc) makes.gives))))) rule

-- so it is where the request is answered
bearer_open : (request : Arrival) (r : CreateBearerRequest) (old : Node) (made : _) (m : Message) (cause : ℕ) (left : Node)
    → BearerJudged request r old (answering made request (m ∷ []) cause left) → IsOpen old r.header
bearer_open request r old made m cause left (inl f) at = absurd (f.0 at)
bearer_open request r old made m cause left (inr (a, inl f)) at = absurd (let none : (record { destination = request.source; messages = m ∷ [] } ∷ []) ≡ [] = ap (λ (x : Effect). x.out.sent) f.1 in cc)
bearer_open request r old made m cause left (inr (a, inr (active, rest))) at =
    subst (λ (s : Session). s.state ≡ Active) (one_value (get old.sessions r.header) a.session at.session a.stands at.stands) active

pub create_bearer_asked : (request : Arrival) (r : CreateBearerRequest) (old : Node) (made : _) (m : Message) (cause : ℕ) (left : Node) → HasHeldRoom old
    → BearerJudged request r old (answering made request (m ∷ []) cause left) → AlwaysSendsOrOpens (CreateBearerAsked request r) old
create_bearer_asked request r old made m cause left room judged e rule =
    follows (λ full is. absurd (full room)) (λ few. bearer_judged request r old (bearer_open request r old made m cause left judged) e) rule

-- ---- responses that open what was asked for

-- where one answer opens what was asked for, each does: what an answer comes to is not chosen
pub create_session_answered : (a : CreateSessionResponse) (old : Node) (f : Effect) → f.outcome ≡ Came_to Opened → CreateSessionAnswered a old f → AlwaysSendsOrOpens (CreateSessionAnswered a) old
create_session_answered a old f opened is e answers = inr ((session_alike {role = Serving} {first = old} {input = Moves_on (Resend 0)} old a e f answers is).tell.outcome ∙ opened)

pub create_bearer_answered : (x : CreateBearerResponse) (old : Node) (f : Effect) → f.outcome ≡ Came_to Opened → CreateBearerAnswered x old f → AlwaysSendsOrOpens (CreateBearerAnswered x) old
create_bearer_answered x old f opened is e answers = inr ((bearer_alike {role = Packet} {first = old} {input = Moves_on (Resend 0)} old x e f answers is).tell.outcome ∙ opened)

-- ---- wired to the kinds of message

module _ (role : Role) (request : Arrival) (m : Message) (n : Node) where
  abbrev Always : Role → Message → Type 0
  Always r k = AlwaysSendsOrOpens (TakesBy r request k) n

  pub needs_echo : (q : Echo) → AlwaysSendsOrOpens (λ old e. e ≡ echoed request q old) n
  needs_echo q e same = sends (λ none. cc) same

  -- what takes memory by the rule of a type does so where the gateway takes that type
  pub needs_by : (t u : MessageType) (k : Message) → takes_type role t ≡ true → t ≡ u → m ≡ k → AtTakers (λ r. Always r k) (type_row u).taker → Always role m
  needs_by t u k takes same is needs = at_taker Always role t u m k takes same is needs

-- ---- before the message is taken

-- the counter is heard first
module _ (Takes : Node → Effect → Type 0) (old : Node) (counter : Counter) where
  judged_needs : (age : Age) (e : Effect) → (IsEarlier (aged age counter) → ⊥) → AlwaysSendsOrOpens Takes (node_heard (aged age counter) old) → Judges Takes old counter.0 age e → SendsOrOpens e
  judged_needs ages.Earlier e on needs is = absurd (on tt)
  judged_needs age e on needs is = needs e is

  weighed_needs : (known : Option ℕ) (e : Effect) → (IsEarlier (weighed known counter) → ⊥) → AlwaysSendsOrOpens Takes (node_heard (weighed known counter) old)
      → Weighs Takes old counter.0 known e → SendsOrOpens e
  weighed_needs None e on needs is = needs e is
  weighed_needs (Some known) e on needs is = judged_needs (age_of known counter.0) e on needs is

hears_needs : (Takes : Node → Effect → Type 0) (old : Node) (recovery : Option Counter) → (IsEarlier (weighed_by recovery old.known) → ⊥)
    → AlwaysSendsOrOpens Takes (node_heard (weighed_by recovery old.known) old)
    → AlwaysSendsOrOpens (λ n e. Hears Takes n (option_map (λ (c : Counter). c.0) recovery) e) old
hears_needs Takes old None on needs e is = needs e is
hears_needs Takes old (Some counter) on needs e (taken, weighs, is) = subst SendsOrOpens (sym is) (weighed_needs Takes old counter old.known taken on needs weighs)

-- a datagram from the peer: an answer that is held is sent
module _ (request : Arrival) (reading : ControlReading) (old : GatewayState) (peer : request.source.ip ≡ old.node.config.peer.control) where
  pub read_needs : (IsNew old.node request → AlwaysSendsOrOpens (TakesReading old.role (TakesBy old.role) reading request) old.node) → StepSendsOrOpens request reading old
  read_needs each e (inl f) = absurd (f.0 peer)
  read_needs each e (inr (from, inl repeats)) = sends (λ none. cc) repeats.gives
  read_needs each e (inr (from, inr (new, reads))) = each new e reads

-- a request that was answered before
pub repeated_needs : (request : Arrival) (reading : ControlReading) (old : GatewayState) → request.source.ip ≡ old.node.config.peer.control → (pair : Held)
    → Among pair old.node.held → pair.request ≡ request → StepSendsOrOpens request reading old
repeated_needs request reading old peer pair stands same = read_needs request reading old peer (λ new. absurd (new pair stands same))

-- a message that the gateway takes, whose counter is not of an earlier start
pub message_needs : (request : Arrival) (old : GatewayState) (m : Message) (recovery : Option Counter) → request.source.ip ≡ old.node.config.peer.control
    → takes_message old.role m ≡ true → option_map (λ (c : Counter). c.0) recovery ≡ recovery_of m → (heard : Heard)
    → heard ≡ weighed_by recovery old.node.known → (IsEarlier heard → ⊥)
    → AlwaysSendsOrOpens (TakesBy old.role request m) (node_heard heard old.node) → StepSendsOrOpens request (Control_message m) old
message_needs request old m recovery peer takes counter heard is on needs = read_needs request (Control_message m) old peer (λ new. by)
  where
    by : AlwaysSendsOrOpens (TakesReading old.role (TakesBy old.role) (Control_message m) request) old.node
    by e (inl f) = absurd (f.0 takes)
    by e (inr (taken, hears)) =
        let known = subst (λ (h : Heard). AlwaysSendsOrOpens (TakesBy old.role request m) (node_heard h old.node)) is needs in
        hears_needs (TakesBy old.role request m) old.node recovery (λ early. on (subst IsEarlier (sym is) early)) known e
        (subst (λ (o : Option ℕ). Hears (TakesBy old.role request m) old.node o e) (sym counter) hears)

-- octets of another version that the gateway answers
pub version_needs : (request : Arrival) (number : ℕ) (old : GatewayState) → request.source.ip ≡ old.node.config.peer.control
    → tells_version old.node.config request.octets number ≡ true → StepSendsOrOpens request (Control_fault number) old
version_needs request number old peer is =
    read_needs request (Control_fault number) old peer
    (λ new e reads. sends (λ none. cc) (subst (λ (b : Bool). e ≡ cond b (version_told request old.node) (dropped old.node (undecodable Control number))) is reads))

-- a request at fault that the gateway answers
pub fault_needs : (request : Arrival) (f : FaultyRequest) (old : GatewayState) → request.source.ip ≡ old.node.config.peer.control
    → answers_type old.role f.kind ≡ true → StepSendsOrOpens request (Faulty f) old
fault_needs request f old peer is = read_needs request (Faulty f) old peer (λ new e reads. sends (λ none. cc) (subst (λ (b : Bool). Faulted b request f old.node e) is reads))

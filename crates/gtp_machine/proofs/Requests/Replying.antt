-- What each step does with the responses to create requests: which it sends, and which it holds.
use Rattle.std.proofs.Common.{◌≡◌, ◌⊎◌, inl, inr, ⊎_elim, ℕ, Bool, true, false, cond, not, List, [], ◌∷◌, ◌++◌, refl, sym, ◌∙◌, ap, subst}
use Rattle.std.specs.Prelude.{◌&&◌}
use Rattle.gtp_values.specs.FiniteMap.{FiniteMap, Each, Among}
use Rattle.gtp_values.proofs.Tests.{both}
use Rattle.gtp_machine.specs.Message.{Message, Create_session_request, Create_bearer_request, Control, recovery_of}
use Rattle.gtp_machine.specs.Node.{Role, Serving, Packet, PendingRequest, Arrival, Held, Node}
use Rattle.gtp_machine.specs.Input.{Control_message, Control_fault, Control_came, Move, Resend, Give_up, Forget, Out, Effect, dropped, undecodable, messages, datagrams}
use Rattle.gtp_machine.specs.Recovery.{Hears}
use Rattle.gtp_machine.specs.Move.{MoveStep}
use Rattle.gtp_machine.specs.Tick.{TickStep, ticked}
use Rattle.gtp_machine.specs.Step.{TakesBy, Step}
use Rattle.gtp_machine.specs.Answer.{tells_version, version_told, undecoded, TakesReading, ControlStep}
use Rattle.gtp_machine.specs.Serving.{ServingTakes}
use Rattle.gtp_machine.specs.Packet.{PacketTakes}
use Rattle.gtp_machine.specs.Laws.{CreateAsked}
use Rattle.gtp_machine.proofs.Basics.FiniteMaps.{Among-one_more}
use Rattle.gtp_machine.proofs.Basics.Kinds.{creates, is_create_answer}
use Rattle.gtp_machine.proofs.Changes.Shrinking.{Shrunk-finished}
use Rattle.gtp_machine.proofs.Requests.Holding.{held_in, seen_in, are_plain, Calm, Gives, Answers, serving_answers, packet_answers, heard, tick_held}
use Rattle.gtp_machine.proofs.Basics.Datagrams.{both_messages, of_one}

-- no such response is sent, and none comes to be held
pub record IsLesser (old : Node) (e : Effect) : Type 0 where
  pub plain : are_plain (messages e.out.sent) ≡ true
  pub held : (h : Held) → Among h e.node.held → Among h old.held ⊎ (are_plain h.answer ≡ true)

-- the request came before, and gets the answer that is held for it
pub record IsRepeated (request : Arrival) (old : Node) (e : Effect) : Type 0 where
  pub held : Held
  pub stands : Among held old.held
  pub same : held.request ≡ request
  pub says : datagrams e.out.sent ≡ held.answer ∷ []
  pub stays : e.node.held ≡ old.held

-- the request is new, and its answer is given by the rules, and held
pub record IsReplied (role : Role) (m : Message) (request : Arrival) (old : Node) (e : Effect) : Type 0 where
  pub answer : Message
  pub more : List Message
  pub plain : are_plain more ≡ true
  pub asked : CreateAsked role m request old e
  pub says : datagrams e.out.sent ≡ (answer ∷ more) ∷ []
  pub held : e.node.held ≡ old.held ++ (record { request = request; answer = answer ∷ more } ∷ [])

-- what a step on a control message does with these responses
abbrev pub Replies : Role → Message → Arrival → Node → Effect → Type 0
Replies role m request old e = IsLesser old e ⊎ (IsRepeated request old e ⊎ IsReplied role m request old e)

pub lesser_calm : (old : Node) (e : Effect) → Calm old e → IsLesser old e
lesser_calm old e calm = record {
  plain = ap (λ (s : List Held × Bool). s.1) calm;
  held = λ h among. inl (subst (Among h) (ap (λ (s : List Held × Bool). s.0) calm) among);
}

lesser_given : (request : Arrival) (old : Node) (e : Effect) → Gives request false old e → IsLesser old e
lesser_given request old e g = record {
  plain = ap are_plain (of_one e.out.sent (g.answer ∷ g.more) g.sends) ∙ (ap (λ (b : Bool). not b && are_plain g.more) g.is ∙ g.plain);
  held =
      λ h among.
      ⊎_elim (λ was. inl was) (λ is. inr (ap (λ (k : Held). are_plain k.answer) is ∙ (ap (λ (b : Bool). not b && are_plain g.more) g.is ∙ g.plain)))
      (Among-one_more h (record { request = request; answer = g.answer ∷ g.more }) old.held (subst (Among h) g.held among));
}

answered : (role : Role) (m : Message) (request : Arrival) (old : Node) (e : Effect) (create : Bool) → (create ≡ true → CreateAsked role m request old e)
    → Answers request create old e → Replies role m request old e
answered role m request old e create asked (inl calm) = inl (lesser_calm old e calm)
answered role m request old e true asked (inr g) = inr (inr (record { answer = g.answer; more = g.more; plain = g.plain; asked = asked refl; says = g.sends; held = g.held }))
answered role m request old e false asked (inr g) = inl (lesser_given request old e g)

serving_asked : (m : Message) → creates Serving m ≡ true → (request : Arrival) (old : Node) (e : Effect) → Hears (ServingTakes request m) old (recovery_of m) e → CreateAsked Serving m request old e
serving_asked (Create_bearer_request r) is request old e heard = heard
serving_asked m is request old e heard = absurd (cc is)

packet_asked : (m : Message) → creates Packet m ≡ true → (request : Arrival) (old : Node) (e : Effect) → Hears (PacketTakes request m) old (recovery_of m) e → CreateAsked Packet m request old e
packet_asked (Create_session_request q) is request old e heard = heard
packet_asked m is request old e heard = absurd (cc is)

module _ (role : Role) (Takes : Arrival → Message → Node → Effect → Type 0)
    (rows : (request : Arrival) (old : Node) (e : Effect) (m : Message) → Takes request m old e → Answers request (creates role m) old e)
    (asked : (m : Message) → creates role m ≡ true → (request : Arrival) (old : Node) (e : Effect) → Hears (Takes request m) old (recovery_of m) e → CreateAsked role m request old e) where
  replies : (m : Message) (request : Arrival) (old : Node) (e : Effect) → TakesReading role Takes (Control_message m) request old e → Replies role m request old e
  replies m request old e (inl f) = inl (lesser_calm old e (ap seen_in f.1))
  replies m request old e (inr (kind, r)) = answered role m request old e (creates role m) (λ is. asked m is request old e r) (heard role Takes rows request old e m r)

module _ (Reads : Arrival → Node → Effect → Type 0) (request : Arrival) (old : Node) (e : Effect) (X : Type 0) where
  control : (Reads request old e → IsLesser old e ⊎ (IsRepeated request old e ⊎ X)) → ControlStep Reads request old e → IsLesser old e ⊎ (IsRepeated request old e ⊎ X)
  control reads (inl f) = inl (lesser_calm old e (ap seen_in f.1))
  control reads (inr (peer, inl r)) = inr (inl (record { held = r.held; stands = r.stands; same = r.same; says = ap (λ (f : Effect). datagrams f.out.sent) r.gives; stays = ap held_in r.gives }))
  control reads (inr (peer, inr r)) = reads r.1

-- a message of the control plane comes
pub message_replies : (role : Role) (m : Message) (request : Arrival) (old : Node) (e : Effect) → Step role old (Control_came request (Control_message m)) e → Replies role m request old e
message_replies Serving m request old e r =
    control (TakesReading Serving ServingTakes (Control_message m)) request old e (IsReplied Serving m request old e)
    (replies Serving ServingTakes serving_answers serving_asked m request old e) r
message_replies Packet m request old e r =
    control (TakesReading Packet PacketTakes (Control_message m)) request old e (IsReplied Packet m request old e)
    (replies Packet PacketTakes packet_answers packet_asked m request old e) r

-- a Version Not Supported Indication is no such response
undecoded_seen : (fault : ℕ) (request : Arrival) (old : Node) → seen_in (undecoded fault request old) ≡ (old.held, true)
undecoded_seen fault request old = by (tells_version old.config request.octets fault)
  where
    by : (tells : Bool) → seen_in (cond tells (version_told request old) (dropped old (undecodable Control fault))) ≡ (old.held, true)
    by true = refl
    by false = refl

-- what reads as no message comes
pub fault_replies : (role : Role) (fault : ℕ) (request : Arrival) (old : Node) (e : Effect) → Step role old (Control_came request (Control_fault fault)) e
    → IsLesser old e ⊎ (IsRepeated request old e ⊎ ⊥)
fault_replies role fault request old e = control (TakesReading role (TakesBy role) (Control_fault fault)) request old e ⊥ (λ f. inl (lesser_calm old e (ap seen_in f ∙ undecoded_seen fault request old)))

-- no pending request is such a response
abbrev pub AllAsk : FiniteMap PendingRequest → Type 0
AllAsk pending = Each (λ number (p : PendingRequest). is_create_answer p.request ≡ false) pending

move_plain : (old : Node) → AllAsk old.pending → (move : Move) (e : Effect) → MoveStep old move e → are_plain (messages e.out.sent) ≡ true
move_plain old asks (Resend number) e r = ap (λ (f : Effect). are_plain (messages f.out.sent)) r.gives ∙ ap (λ (b : Bool). not b && true) (asks number r.at.pending r.at.waits)
move_plain old asks (Give_up number) e r = ap (λ (f : Effect). are_plain (messages f.out.sent)) r.gives
move_plain old asks (Forget request) e r = ap (λ (f : Effect). are_plain (messages f.out.sent)) r.gives

move_asks : (old : Node) → AllAsk old.pending → (move : Move) (e : Effect) → MoveStep old move e → AllAsk e.node.pending
move_asks old asks (Resend number) e r = subst (λ (f : Effect). AllAsk f.node.pending) (sym r.gives) asks
move_asks old asks (Give_up number) e r =
    subst (λ (f : Effect). AllAsk f.node.pending) (sym r.gives)
    (λ k p stands. asks k p ((Shrunk-finished old number r.at.pending.session r.at.pending.bearer).pending k p stands))
move_asks old asks (Forget request) e r = subst (λ (f : Effect). AllAsk f.node.pending) (sym r.gives) asks

plain_both : (first rest : List Message) → are_plain first ≡ true → are_plain rest ≡ true → are_plain (first ++ rest) ≡ true
plain_both [] rest a b = b
plain_both (m ∷ first) rest a b =
    let s = both (not (is_create_answer m)) (are_plain first) a in
    ap (λ (k : Bool). k && are_plain (first ++ rest)) s.left ∙ plain_both first rest s.right b

-- a tick sends and holds none
tick_plain : (moves : List Move) (old : Node) → AllAsk old.pending → (out : Out) (new : Node) → TickStep old moves out new → are_plain (messages out.sent) ≡ true
tick_plain [] old asks out new t = ap (λ (o : Out). are_plain (messages o.sent)) t.0
tick_plain (move ∷ moves) old asks out new (e, rest, step, others, is) =
    ap (λ (o : Out). are_plain (messages o.sent)) is ∙ ap are_plain (both_messages e.out.sent rest.sent)
    ∙ plain_both (messages e.out.sent) (messages rest.sent) (move_plain old asks move e step) (tick_plain moves e.node (move_asks old asks move e step) rest new others)

pub tick_lesser : (moves : List Move) (old : Node) → AllAsk old.pending → (out : Out) (new : Node) → TickStep old moves out new → IsLesser old (ticked out new)
tick_lesser moves old asks out new t = record { plain = tick_plain moves old asks out new t; held = λ h among. inl (tick_held old moves out new t h among) }

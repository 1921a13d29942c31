-- Each answer that is held is held for a datagram that the other gateway sent.
use Rattle.std.proofs.Common.{◌≡◌, ◌⊎◌, inl, inr, ⊎_elim, ℕ, ◌<◌, List, [], ◌∷◌, ◌++◌, refl, sym, ◌∙◌, ap, subst, arith}
use Rattle.gtp_values.specs.FiniteMap.{Among}
use Rattle.gtp_machine.specs.Reading.{user_cut_fault}
use Rattle.gtp_machine.specs.Config.{Addresses, Config, user_end}
use Rattle.gtp_machine.specs.Message.{CreateSessionResponse, CreateBearerRequest, Message, Echo_request, Create_session_response, Create_bearer_request, Plane, Control, User, plane_of}
use Rattle.gtp_machine.specs.Node.{Role, Serving, Packet, Arrival, Held, Node}
use Rattle.gtp_machine.specs.Input.{Move, Resend, Give_up, Forget, Input, Control_came, Control_message, Control_fault, User_message, User_fault, Out, Effect, messages}
use Rattle.gtp_machine.specs.Move.{MoveStep}
use Rattle.gtp_machine.specs.Tick.{TickStep, ticked}
use Rattle.gtp_machine.specs.Step.{Step}
use Rattle.gtp_machine.specs.Answer.{IsNew}
use Rattle.gtp_machine.specs.Spelling.{spelled, announcing}
use Rattle.gtp_machine.specs.World.{World, Sent, HasSent, Note, Event, MovesTwice, fault_of_cut, first_came, second_came, note_of_both, Run, other}
use Rattle.gtp_machine.specs.World.{side_of, with_side, with_steps, signed, moved, noted, marked_late, arrival, delivered_on, restarted, start}
use Rattle.gtp_machine.specs.World.{quiet_note, No_such_datagram}
use Rattle.gtp_machine.proofs.Basics.FiniteMaps.{Among-one_more}
use Rattle.gtp_machine.proofs.Origins.Drawing.{by_before}
use Rattle.gtp_machine.proofs.Changes.Shrinking.{Shrunk-finished}
use Rattle.gtp_machine.proofs.Requests.Holding.{Keeps, Adds, command_held, user_held, control_held, held_in, tick_held, KeepsHeld}
use Rattle.gtp_machine.proofs.Worlds.Runs as run
use Rattle.gtp_machine.proofs.Worlds.Coming.{both_steps, Brings, Orders, Sends, Joins, Begins, Walks}
use Rattle.gtp_machine.proofs.Basics.Finishing.{on_control}
use Rattle.gtp_machine.proofs.Basics.Versions.{undecoded_leaves}
use Rattle.gtp_machine.proofs.Requests.Opening.{opening, foreign, same_held}

-- what a step holds it held before, or it is for the datagram that came
abbrev HeldBy : Arrival → Node → Effect → Type 0
HeldBy request old e = (h : Held) → Among h e.node.held → Among h old.held ⊎ (h.request ≡ request)

held_by : (request : Arrival) (old : Node) (e : Effect) → Keeps old e ⊎ (IsNew old request × Adds request old e) → HeldBy request old e
held_by request old e (inl kept) h among = inl (subst (λ l. Among h l) kept among)
held_by request old e (inr adds) h among =
    ⊎_elim (λ was. inl was) (λ is. inr (ap (λ (k : Held). k.request) is))
    (Among-one_more h (record { request = request; answer = adds.1.answer }) old.held (subst (λ l. Among h l) adds.1.held among))

-- the datagram for which an answer is held
pub record IsOfSent (history : List Sent) (sender : Role) (from : Addresses) (h : Held) : Type 0 where
  pub message : Message
  pub sent : HasSent history sender message
  pub control : plane_of message ≡ Control
  pub is : h.request ≡ arrival from message

-- no message by itself has the octets of one that announces another
abbrev first_octet : List ℕ → ℕ
first_octet [] = 0
first_octet (octet ∷ octets) = octet

less_announced : (m : Message) (a : CreateSessionResponse) → first_octet (spelled m) < 80 → spelled m ≡ announcing (Create_session_response a) → ⊥
less_announced m a less same = let is : first_octet (spelled m) ≡ 88 = ap first_octet same in omega arith

pub not_announcing : (m : Message) (a : CreateSessionResponse) → plane_of m ≡ Control → spelled m ≡ announcing (Create_session_response a) → ⊥
not_announcing (Echo_request q) a control same = less_announced (Echo_request q) a (omega arith) same
not_announcing m a control same = less_announced m a (omega arith) same

-- each held answer is for a datagram that the other gateway sent
abbrev pub HeldOfSent : World → Type 0
HeldOfSent w = (role : Role) (h : Held) → Among h (side_of w role).node.held → IsOfSent w.history (other role) (side_of w (other role)).node.config.own h

later : (history : List Sent) (by : Role) (sent : List Message) (sender : Role) (from now : Addresses) (h : Held) → now ≡ from
    → IsOfSent history sender from h → IsOfSent (history ++ signed by sent) sender now h
later history by sent sender from now h same is =
    record {
      message = is.message;
      sent = by_before history sender by sent is.message is.sent;
      control = is.control;
      is = is.is ∙ ap (λ k. arrival k is.message) (sym same);
    }

-- what the gateway holds after a step it held before, or it is of what was sent
abbrev HoldsNow : World → Role → Effect → Type 0
HoldsNow w role e = (h : Held) → Among h e.node.held → Among h (side_of w role).node.held ⊎ IsOfSent w.history (other role) (side_of w (other role)).node.config.own h

-- a step of a gateway
stepped_held : (w : World) (role : Role) (e : Effect) (note : Note) (steps : _) → HeldOfSent w → e.node.config ≡ (side_of w role).node.config → HoldsNow w role e
    → HeldOfSent (with_steps (noted (moved w role e) note) role steps)
stepped_held w Serving e note steps held config now Serving h among =
    later w.history Serving (messages e.out.sent) Packet w.packet.node.config.own w.packet.node.config.own h refl
    (⊎_elim (λ was. held Serving h was) (λ is. is) (now h among))
stepped_held w Serving e note steps held config now Packet h among =
    later w.history Serving (messages e.out.sent) Serving w.serving.node.config.own e.node.config.own h (ap (λ (c : Config). c.own) config)
    (held Packet h among)
stepped_held w Packet e note steps held config now Packet h among =
    later w.history Packet (messages e.out.sent) Serving w.serving.node.config.own w.serving.node.config.own h refl
    (⊎_elim (λ was. held Packet h was) (λ is. is) (now h among))
stepped_held w Packet e note steps held config now Serving h among =
    later w.history Packet (messages e.out.sent) Packet w.packet.node.config.own e.node.config.own h (ap (λ (c : Config). c.own) config)
    (held Serving h among)

pub move_config : (old : Node) (move : Move) (e : Effect) → MoveStep old move e → e.node.config ≡ old.config
move_config old (Resend number) e r = ap (λ (k : Effect). k.node.config) r.gives
move_config old (Give_up number) e r = ap (λ (k : Effect). k.node.config) r.gives ∙ (Shrunk-finished old number r.at.pending.session r.at.pending.bearer).config
move_config old (Forget request) e r = ap (λ (k : Effect). k.node.config) r.gives

pub tick_config : (old : Node) (moves : List Move) (out : Out) (new : Node) → TickStep old moves out new → new.config ≡ old.config
tick_config old [] out new t = ap (λ (k : Node). k.config) t.1
tick_config old (move ∷ moves) out new (e, rest, step, others, is) = tick_config e.node moves rest new others ∙ move_config old move e step

fault_held : (role : Role) (request : Arrival) (fault : ℕ) (old : Node) (e : Effect) → Step role old (Control_came request (Control_fault fault)) e → KeepsHeld old e
fault_held role request fault old e r h among = subst (λ l. Among h l) (on_control old e (λ _. ap held_in) request (λ again. ap held_in again.gives) (λ new gives. ap held_in gives ∙ ap (λ (n : Node). n.held) (undecoded_leaves fault request old)) r) among

noted_held : (w : World) (note : Note) → HeldOfSent w → HeldOfSent (noted w note)
noted_held w note held Serving = held Serving
noted_held w note held Packet = held Packet

late_held : (w : World) (role : Role) (a : Arrival) → HeldOfSent w → HeldOfSent (marked_late w role a)
late_held w Serving a held Serving = held Serving
late_held w Serving a held Packet = held Packet
late_held w Packet a held Serving = held Serving
late_held w Packet a held Packet = held Packet

restarted_held : (w : World) (role : Role) (note : Note) → HeldOfSent w → HeldOfSent (with_steps (noted (with_side w role (restarted (side_of w role))) note) role [])
restarted_held w Serving note held Serving h none = absurd none
restarted_held w Serving note held Packet h among = held Packet h among
restarted_held w Packet note held Serving h among = held Serving h among
restarted_held w Packet note held Packet h none = absurd none

module _ (own : Addresses) where
  -- what comes to be held is for the message that came
  brought : (w : World) (role : Role) (p : Plane) (m : Message) → HasSent w.history (other role) m → plane_of m ≡ p → (e : Effect)
      → Step role (side_of w role).node (delivered_on p (side_of w (other role)).node.config.own (m ∷ [])) e → HoldsNow w role e
  brought w role Control m sent on e step h among =
      ⊎_elim
      (λ was. inl was)
      (λ is. inr (record { message = m; sent = sent; control = on; is = is }))
      (held_by _ (side_of w role).node e (control_held role _ (Control_message m) (side_of w role).node e step) h among)
  brought w role User m sent on e step h among = inl (subst (Among h) (user_held role _ (User_message m) (side_of w role).node e step) among)

  brings_held : (w : World) (role : Role) (input : Input) → Brings w role input → (e : Effect) → Step role (side_of w role).node input e → HoldsNow w role e
  brings_held w role input (Orders command) e step h among = inl (subst (Among h) (command_held role command (side_of w role).node e step) among)
  brings_held w role input (Sends m sent timely) e step h among = brought w role (plane_of m) m sent refl e step h among
  brings_held w role input (Joins request) e step h among = inl (subst (Among h) (same_held (side_of w role).node request e (foreign role request 0 (side_of w role).node e step)) among)
  brings_held w role input (Begins Control from datagram count) e step h among = inl (fault_held role _ (fault_of_cut datagram count) (side_of w role).node e step h among)
  brings_held w role input (Begins User from datagram count) e step h among =
      inl (subst (Among h) (user_held role (user_end from.user) (User_fault (user_cut_fault count)) (side_of w role).node e step) among)

  -- the second of a pair comes to be held
  pair_held : (w : World) (inv : run.Invariant own w) → HeldOfSent w → (a : CreateSessionResponse) (r : CreateBearerRequest) → HasSent w.history Packet (Create_session_response a)
      → HasSent w.history Packet (Create_bearer_request r) → (new : World)
      → MovesTwice w Serving (first_came w.packet.node.config.own (Create_session_response a))
      (second_came w.packet.node.config.own (Create_bearer_request r)) new → HeldOfSent new
  pair_held w inv held a r a_sent r_sent new m =
      let w1 = moved w Serving m.effect in
      let first_input = first_came w.packet.node.config.own (Create_session_response a) in
      let second_input = second_came w.packet.node.config.own (Create_bearer_request r) in
      let stays = run.config_stays own w inv Serving first_input m.effect (run.first_carried own w inv a r a_sent r_sent) m.step in
      let first : HeldOfSent w1 =
      by_role w1 (stepped_held w Serving m.effect (quiet_note No_such_datagram) [] held stays
      (λ h among. inl (subst (Among h) (same_held w.serving.node _ m.effect (opening _ a w.serving.node m.effect m.step)) among))) in
      subst HeldOfSent (sym m.becomes)
      (stepped_held w1 Serving m.next (note_of_both m.effect m.next)
      (w.serving_steps ++ both_steps w.serving.node first_input second_input m.effect m.next) first
      (run.config_stays own w1 (run.after_first own w inv a r a_sent r_sent m.effect m.step) Serving second_input m.next
      (run.second_carried own w inv a r a_sent r_sent m.effect m.step) m.follows)
      (λ h among. ⊎_elim (λ was. inl was) (λ is. inr (record
      { message = Create_bearer_request r; sent = run.second_sent own w inv a r a_sent r_sent m.effect m.step; control = refl; is = is }))
      (held_by _ m.effect.node m.next (control_held Serving _ (Control_message (Create_bearer_request r)) m.effect.node m.next m.follows) h among)))
    where
      by_role : (w1 : World) → HeldOfSent (with_steps (noted w1 (quiet_note No_such_datagram)) Serving []) → HeldOfSent w1
      by_role w1 held Serving = held Serving
      by_role w1 held Packet = held Packet

  walks : Walks (run.Invariant own) HeldOfSent
  walks = record {
    notes = noted_held;
    late = λ w role request inv held. late_held w role request held;
    restarts = λ w role note inv held few. restarted_held w role note held;
    ticks =
        λ w role new inv held t. subst HeldOfSent (sym t.becomes)
        (stepped_held w role (ticked t.out t.after) _ _ held (tick_config (side_of w role).node t.moves t.out t.after t.tick)
        (λ h among. inl (tick_held (side_of w role).node t.moves t.out t.after t.tick h among)));
    moves =
        λ w role input new inv held b m. subst HeldOfSent (sym m.becomes)
        (stepped_held w role m.effect _ _ held (run.config_stays own w inv role input m.effect (run.brings_carried own w inv role input b) m.step)
        (brings_held w role input b m.effect m.step));
    pairs = λ w a r new inv held a_sent r_sent timely m. pair_held w inv held a r a_sent r_sent new m;
  }

-- in each run
pub always_held : (serving packet : Config) (serving_counter packet_counter : ℕ) (events : List Event) (w : World) → Run (start serving packet serving_counter packet_counter) events w → HeldOfSent w
always_held serving packet sc pc = run.from_start serving packet sc pc HeldOfSent (walks packet.own) none
  where
    none : HeldOfSent (start serving packet sc pc)
    none Serving h among = absurd among
    none Packet h among = absurd among

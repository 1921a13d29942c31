-- What each step does with the answers that are held.
use Rattle.std.proofs.Common.{◌≡◌, ◌⊎◌, inl, inr, ⊎_elim, ℕ, Bool, true, false, not, ◌&&◌, List, [], ◌∷◌, ◌++◌, Option, Some, None, refl, ◌∙◌, ap, subst}
use Rattle.gtp_values.specs.declared.address.Endpoint.{Endpoint}
use Rattle.gtp_machine.specs.Choice.{HasPending}
use Rattle.gtp_machine.specs.Element.{cause_of}
use Rattle.gtp_machine.specs.Message.{Message, DeleteBearerRequest, Delete_bearer_response, Packet_data, End_marker, Error_indication, recovery_of}
use Rattle.gtp_machine.specs.Node.{Role, Serving, Packet, Session, PendingRequest, Arrival, Held, Node, written}
use Rattle.gtp_machine.specs.Input.{Command, Create_session, Delete_session, Create_bearer, Delete_bearer, Release_session, Mark_end, Send_echo}
use Rattle.gtp_machine.specs.Input.{Send_user, ControlReading, Control_came, UserReading, Outcome, Effect, messages, datagrams, Move, Resend, Give_up}
use Rattle.gtp_machine.specs.Input.{Forget, Out}
use Rattle.gtp_machine.specs.Recovery.{peer_restarted, Hears}
use Rattle.gtp_machine.specs.Response.{finishing, EndsRequest}
use Rattle.gtp_machine.specs.User.{UserTaken, UserStep}
use Rattle.gtp_machine.specs.Step.{Step}
use Rattle.gtp_machine.specs.Answer.{IsNew, TakesReading, ControlStep}
use Rattle.gtp_machine.specs.Command.{CommandStep}
use Rattle.gtp_machine.specs.Serving.{CreateSessionAnswered, CreateBearerAsked, DeleteBearerTaken, DeleteBearerAsked, delete_bearer_cause, ServingTakes}
use Rattle.gtp_machine.specs.Config.{template_asked}
use Rattle.gtp_machine.proofs.Basics.Finishing.{on_session_begun, on_session_deleted, on_bearer_begun, on_bearer_deleted, on_session_released}
use Rattle.gtp_machine.proofs.Basics.Finishing.{on_end_marked, on_echo_begun, on_packet_sent, on_packet_came, on_end_came, on_error_came}
use Rattle.gtp_machine.proofs.Basics.Finishing.{on_user_step, on_finish, on_session_answered, on_bearer_answered, on_bearer_asked, on_session_asked}
use Rattle.gtp_machine.proofs.Basics.Finishing.{on_hears, on_control, on_read}
use Rattle.gtp_machine.proofs.Basics.Templates.{goes}
use Rattle.gtp_machine.specs.Packet.{session_cause, session_response, made_session, session_made, CreateSessionAsked, DeleteSessionAsked, CreateBearerAnswered, PacketTakes}
use Rattle.gtp_machine.proofs.Changes.Shrinking.{Shrunk-finished, removes_each}
use Rattle.gtp_values.specs.FiniteMap.{Among}
use Rattle.gtp_machine.proofs.Changes.Forgetting.{leaves}
use Rattle.gtp_machine.specs.Move.{MoveStep}
use Rattle.gtp_machine.specs.Tick.{TickStep}
use Rattle.gtp_machine.proofs.Basics.Kinds.{creates, is_create_answer, by_serving, by_packet}

-- what is held after a step
abbrev pub held_in : Effect → List Held
held_in e = e.node.held

-- what is held stays as it is
abbrev pub Keeps : Node → Effect → Type 0
Keeps old e = e.node.held ≡ old.held

-- none of the messages is a Create Session or Create Bearer Response
abbrev pub are_plain : List Message → Bool
are_plain [] = true
are_plain (m ∷ sent) = not (is_create_answer m) && are_plain sent

-- what is held after a step, and that it sends no such response
abbrev pub seen_in : Effect → List Held × Bool
seen_in e = (e.node.held, are_plain (messages e.out.sent))

-- what is held stays as it is, and no such response is sent
abbrev pub Calm : Node → Effect → Type 0
Calm old e = seen_in e ≡ (old.held, true)

pub keeps_calm : (old : Node) (e : Effect) → Calm old e → Keeps old e
keeps_calm old e calm = ap (λ (s : List Held × Bool). s.0) calm

pub command_calm : (role : Role) (command : Command) (old : Node) (e : Effect) → CommandStep role command old e → Calm old e
command_calm role (Create_session spec) old e r = on_session_begun old e (λ _. ap seen_in) role spec (λ _ _ _ r. ap seen_in r.gives) r
command_calm role (Delete_session session) old e r = on_session_deleted old e (λ _. ap seen_in) role session (λ _ _ _ r. ap seen_in r.gives) r
command_calm role (Create_bearer session tft qos) old e r = on_bearer_begun old e (λ _. ap seen_in) role session tft qos (λ _ _ _ _ r. ap seen_in r.gives) r
command_calm role (Delete_bearer session identity) old e r = on_bearer_deleted old e (λ _. ap seen_in) role session identity (λ _ _ _ _ r. ap seen_in r.gives) r
command_calm role (Release_session session) old e r = on_session_released old e (λ _. ap seen_in) role session (λ _ _ _ r. ap seen_in r.gives) r
command_calm role (Mark_end bearer) old e r = on_end_marked old e (λ _. ap seen_in) role bearer (λ _ _ gives. ap seen_in gives) r
command_calm role Send_echo old e r = on_echo_begun old e (λ _. ap seen_in) (λ _ r. ap seen_in r.gives) r
command_calm role (Send_user bearer payload) old e r = on_packet_sent old e (λ _. ap seen_in) role bearer payload (λ _ _ r. ap seen_in r.gives) r

user_taken_calm : (role : Role) (source : Endpoint) (m : Message) (old : Node) (e : Effect) → UserTaken role source m old e → Calm old e
user_taken_calm role source (Packet_data target payload) old e r = on_packet_came old e (λ _. ap seen_in) role target payload (ap seen_in) (λ _ _ r. ap seen_in r.gives) r
user_taken_calm role source (End_marker target) old e r = on_end_came old e (λ _. ap seen_in) role target (λ _ _ gives. ap seen_in gives) r
user_taken_calm role source (Error_indication remote address) old e r = on_error_came old e (λ _. ap seen_in) remote (ap seen_in) r
user_taken_calm role source _ old e r = ap seen_in r

pub user_calm : (role : Role) (source : Endpoint) (reading : UserReading) (old : Node) (e : Effect) → UserStep role source reading old e → Calm old e
user_calm role source reading old e r = on_user_step old e (λ _. ap seen_in) role source reading (λ m is r. user_taken_calm role source m old e r) (ap seen_in) r

pub command_held : (role : Role) (command : Command) (old : Node) (e : Effect) → CommandStep role command old e → Keeps old e
command_held role command old e r = keeps_calm old e (command_calm role command old e r)

pub user_held : (role : Role) (source : Endpoint) (reading : UserReading) (old : Node) (e : Effect) → UserStep role source reading old e → Keeps old e
user_held role source reading old e r = keeps_calm old e (user_calm role source reading old e r)

-- a step that holds one more answer to the request
pub record Adds (request : Arrival) (old : Node) (e : Effect) : Type 0 where
  pub answer : List Message
  pub held : e.node.held ≡ old.held ++ (record { request = request; answer = answer } ∷ [])

-- what taking a control message does with what is held
abbrev pub Holds : Arrival → Node → Effect → Type 0
Holds request old e = Keeps old e ⊎ Adds request old e

-- a step that sends one datagram and holds it as the answer to the request; its first message is a response to a create request, or it is none, and no other is
pub record Gives (request : Arrival) (create : Bool) (old : Node) (e : Effect) : Type 0 where
  pub answer : Message
  pub more : List Message
  pub is : is_create_answer answer ≡ create
  pub plain : are_plain more ≡ true
  pub held : e.node.held ≡ old.held ++ (record { request = request; answer = answer ∷ more } ∷ [])
  pub sends : datagrams e.out.sent ≡ (answer ∷ more) ∷ []

-- what a control message gets
abbrev pub Answers : Arrival → Bool → Node → Effect → Type 0
Answers request create old e = Calm old e ⊎ Gives request create old e

holds : (request : Arrival) (create : Bool) (old : Node) (e : Effect) → Answers request create old e → Holds request old e
holds request create old e (inl calm) = inl (keeps_calm old e calm)
holds request create old e (inr g) = inr (record { answer = g.answer ∷ g.more; held = g.held })

module _ (request : Arrival) (old : Node) (e : Effect) where
  drops : {create : Bool} (f : Effect) → e ≡ f → seen_in f ≡ (old.held, true) → Answers request create old e
  drops f gives same = inl (ap seen_in gives ∙ same)

  ends : {create : Bool} (number : ℕ) (p : PendingRequest) (outcome : Outcome) → e ≡ finishing old number p outcome → Answers request create old e
  ends number p outcome gives = inl (ap seen_in gives ∙ ap (λ (hs : List Held). (hs, true)) (Shrunk-finished old number p.session p.bearer).held)

  answers : {create : Bool} (m : Message) (f : Effect) → e ≡ f → f.node.held ≡ old.held ++ (record { request = request; answer = m ∷ [] } ∷ [])
      → is_create_answer m ≡ create → datagrams f.out.sent ≡ (m ∷ []) ∷ [] → Answers request create old e
  answers m f gives same is sends = inr (record { answer = m; more = []; is = is; plain = refl; held = ap held_in gives ∙ same; sends = ap (λ (f : Effect). datagrams f.out.sent) gives ∙ sends })

  finished_answers : {number : ℕ} {Fits : HasPending old number → Type 0} {outcome : Outcome} → EndsRequest old number Fits outcome e → Answers request false old e
  finished_answers r = on_finish old e (λ outcome f. drops _ f refl) (λ at f. ends _ at.pending _ f) r

  session_answered_answers : (a : _) → CreateSessionAnswered a old e → Answers request false old e
  session_answered_answers a r = on_session_answered old e (λ outcome f. drops _ f refl) a (λ at outcome f. ends _ at.pending _ f) (λ at fits accepts new both r. drops _ r.gives refl) r

  bearer_asked_answers : (q : _) → CreateBearerAsked request q old e → Answers request true old e
  bearer_asked_answers q r = on_bearer_asked old e (λ outcome f. drops _ f refl) request q (λ room x cause f. answers _ _ f refl refl refl) (λ room at draws r. answers _ _ r.gives refl refl refl) r

  delete_bearer_taken_answers : (d : DeleteBearerRequest) (linked : Option ℕ) (s : Session) → DeleteBearerTaken request d linked old s e → Answers request false old e
  delete_bearer_taken_answers d (Some identity) s (inl f) = answers _ _ f.1 refl refl refl
  delete_bearer_taken_answers d (Some identity) s (inr (a, r)) = answers _ _ r refl refl refl
  delete_bearer_taken_answers d None s (inl f) = answers _ _ f.1 refl refl refl
  delete_bearer_taken_answers d None s (inr (a, r)) =
      let m =
      Delete_bearer_response
      (record {
        header = written s.remote;
        number = d.number;
        cause = cause_of (delete_bearer_cause r.contexts);
        linked = None;
        contexts = r.contexts;
        recovery = Some old.counter;
      }) in
      inr (record {
        answer = m;
        more = [];
        is = refl;
        plain = refl;
        sends = ap (λ (f : Effect). datagrams f.out.sent) r.gives;
        held = ap held_in r.gives ∙ ap (λ (hs : List Held). hs ++ (record { request = request; answer = m ∷ [] } ∷ []))
            (removes_each d.header d.identities old r.contexts r.left r.removes).held;
      })

  delete_bearer_asked_answers : (d : DeleteBearerRequest) → DeleteBearerAsked request d old e → Answers request false old e
  delete_bearer_asked_answers d (inl f) = drops _ f.1 refl
  delete_bearer_asked_answers d (inr (a, inl f)) = answers _ _ f.1 refl refl refl
  delete_bearer_asked_answers d (inr (a, inr (b, inl f))) = drops _ f.1 refl
  delete_bearer_asked_answers d (inr (a, inr (b, inr (c, r)))) = delete_bearer_taken_answers d d.linked b.session r

  session_asked_answers : (q : _) → CreateSessionAsked request q old e → Answers request true old e
  session_asked_answers q r =
      on_session_asked old e (λ outcome f. drops _ f refl) request q
      (λ room cause high f. answers _ _ f refl refl refl)
      (λ room identity few draws r. ⊎_elim
      (λ alone. answers _ _ alone refl refl refl)
      (λ x. inr (record { answer = _; more = _; is = refl; plain = refl; held = ap held_in x.adds.gives; sends = ap (λ (f : Effect). datagrams f.out.sent) x.adds.gives }))
      (goes request (session_response old q r.control r.user r.address) (session_cause q.pdn r.address) r.control (made_session q r.address)
      (session_made old q r.control r.user r.address) e (template_asked old.config q.access_point) r.gives))
      r

  delete_session_asked_answers : (d : _) → DeleteSessionAsked request d old e → Answers request false old e
  delete_session_asked_answers d (inl f) = drops _ f.1 refl
  delete_session_asked_answers d (inr (a, inl f)) = answers _ _ f.1 refl refl refl
  delete_session_asked_answers d (inr (a, inr (b, inl f))) = answers _ _ f.1 refl refl refl
  delete_session_asked_answers d (inr (a, inr (b, inr (c, r)))) = answers _ _ r refl refl refl

  bearer_answered_answers : (x : _) → CreateBearerAnswered x old e → Answers request false old e
  bearer_answered_answers x r = on_bearer_answered old e (λ outcome f. drops _ f refl) x (λ at outcome f. ends _ at.pending _ f) (λ at fits accepts new both returned can r. drops _ r.gives refl) r

  pub serving_answers : (m : Message) → ServingTakes request m old e → Answers request (creates Serving m) old e
  serving_answers =
      by_serving (λ m. ServingTakes request m old e → Answers request (creates Serving m) old e)
      (λ q r. drops _ r refl)
      (λ d r. finished_answers r)
      session_answered_answers
      (λ d r. finished_answers r)
      bearer_asked_answers
      delete_bearer_asked_answers
      (λ m dropped r. drops _ (dropped.only request old e r) refl)

  pub packet_answers : (m : Message) → PacketTakes request m old e → Answers request (creates Packet m) old e
  packet_answers =
      by_packet (λ m. PacketTakes request m old e → Answers request (creates Packet m) old e)
      (λ q r. drops _ r refl)
      (λ d r. finished_answers r)
      session_asked_answers
      delete_session_asked_answers
      bearer_answered_answers
      (λ d r. finished_answers r)
      (λ m dropped r. drops _ (dropped.only request old e r) refl)

-- hearing the counter first changes nothing that is held
module _ (request : Arrival) (create : Bool) (Takes : Node → Effect → Type 0) (takes : (old : Node) (e : Effect) → Takes old e → Answers request create old e) where
  from : (old mid : Node) (e : Effect) → mid.held ≡ old.held → Answers request create mid e → Answers request create old e
  from old mid e same (inl calm) = inl (calm ∙ ap (λ (hs : List Held). (hs, true)) same)
  from old mid e same (inr g) =
      inr (record {
        answer = g.answer;
        more = g.more;
        is = g.is;
        plain = g.plain;
        held = g.held ∙ ap (λ (hs : List Held). hs ++ (record { request = request; answer = g.answer ∷ g.more } ∷ [])) same;
        sends = g.sends;
      })

  heard_answers : (old : Node) (o : Option ℕ) (e : Effect) → Hears Takes old o e → Answers request create old e
  heard_answers old =
      on_hears (Answers request create old) Takes old (takes old)
      (λ c e r. from old (record old { known = Some c }) e refl (takes (record old { known = Some c }) e r))
      (λ c e r. from old (peer_restarted old c) e refl (takes (peer_restarted old c) e r))
      (λ e outcome gives. inl (ap seen_in gives))
      (λ taken heard learned. ⊎_elim (λ calm. inl calm) (λ g. inr (record { answer = g.answer; more = g.more; is = g.is; plain = g.plain; held = g.held; sends = g.sends })))

-- what comes on the control plane, at either gateway
module _ (role : Role) (Takes : Arrival → Message → Node → Effect → Type 0)
    (rows : (request : Arrival) (old : Node) (e : Effect) (m : Message) → Takes request m old e → Answers request (creates role m) old e)
    (request : Arrival) (old : Node) (e : Effect) where
  pub heard : (m : Message) → Hears (Takes request m) old (recovery_of m) e → Answers request (creates role m) old e
  heard m r = heard_answers request (creates role m) (Takes request m) (λ mid f. rows request mid f m) old (recovery_of m) e r

  control : (reading : ControlReading) → ControlStep (TakesReading role Takes reading) request old e → Keeps old e ⊎ (IsNew old request × Adds request old e)
  control reading =
      on_control old e (λ _ f. inl (ap held_in f)) request (λ r. inl (ap held_in r.gives)) (λ new.
      on_read old e (λ _ f. inl (ap held_in f)) role Takes request reading
      (λ m is kind r. ⊎_elim (λ same. inl same) (λ a. inr (new, a)) (holds request (creates role m) old e (heard m r)))
      (λ f is gives. inl (ap held_in gives))
      (λ fault is tells gives. inl (ap held_in gives)))

pub control_held : (role : Role) (request : Arrival) (reading : ControlReading) (old : Node) (e : Effect) → Step role old (Control_came request reading) e
    → Keeps old e ⊎ (IsNew old request × Adds request old e)
control_held Serving request reading old e r = control Serving ServingTakes serving_answers request old e reading r
control_held Packet request reading old e r = control Packet PacketTakes packet_answers request old e reading r

-- nothing else than a datagram of the control plane makes a gateway hold an answer
abbrev pub KeepsHeld : Node → Effect → Type 0
KeepsHeld old e = (h : Held) → Among h e.node.held → Among h old.held

move_held : (old : Node) (move : Move) (e : Effect) → MoveStep old move e → KeepsHeld old e
move_held old (Resend number) e r h among = subst (λ l. Among h l) (ap held_in r.gives) among
move_held old (Give_up number) e r h among = subst (λ l. Among h l) (ap held_in r.gives ∙ (Shrunk-finished old number r.at.pending.session r.at.pending.bearer).held) among
move_held old (Forget request) e r h among = (leaves request old.held r.rest r.left).only h (subst (λ l. Among h l) (ap held_in r.gives) among)

pub tick_held : (old : Node) (moves : List Move) (out : Out) (new : Node) → TickStep old moves out new → (h : Held) → Among h new.held → Among h old.held
tick_held old [] out new t h among = subst (λ (n : Node). Among h n.held) t.1 among
tick_held old (move ∷ moves) out new (e, rest, step, others, is) h among = move_held old move e step h (tick_held e.node moves rest new others h among)

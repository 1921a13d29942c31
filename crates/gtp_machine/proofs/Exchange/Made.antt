-- The command, the delivery of its request and the delivery of its answer make the session.
use Rattle.std.proofs.Common.{◌≡◌, ◌≢◌, ◌⊎◌, inl, inr, ⊎_elim, ℕ, ◌+◌, ◌%◌, ◌^◌, ◌≤◌, ◌<◌, ◌==◌, length, List, [], ◌∷◌, ◌++◌, Option, Some, Bool}
use Rattle.std.proofs.Common.{true, false, if◌then◌else◌, slice_get, refl, sym, ◌∙◌, ap, subst, arith}
use Rattle.std.specs.Prelude.{◌&&◌, not, is_some}
use Rattle.std.specs.FinMap.{get}
use Rattle.std.proofs.lemmas.List.{append-nil}
use Rattle.std.proofs.lemmas.Option.{same_Some}
use Rattle.gtp_values.proofs.Allocations.{address_back}
use Rattle.gtp_values.specs.Counter.{age_of}
use Rattle.gtp_values.specs.FiniteMap.{Among}
use Rattle.gtp_values.specs.declared.address.Endpoint.{Endpoint}
use Rattle.gtp_values.specs.declared.counter.Age.TheVariants.{Earlier}
use Rattle.gtp_values.specs.Address.{IsIp}
use Rattle.gtp_machine.specs.Config.{Addresses, Config, template_asked, user_end}
use Rattle.gtp_machine.specs.Element.{IsAccepting, PdnAddress, cause_of, tunnel_end, teid_in}
use Rattle.gtp_machine.specs.Message.{CreateSessionRequest, CreateSessionResponse, CreateBearerRequest, Message, Create_session_request}
use Rattle.gtp_machine.specs.Message.{Create_session_response, Packet_data, plane_of, Control, User, Create_bearer_request, Create_bearer_response}
use Rattle.gtp_machine.specs.Message.{Owns}
use Rattle.gtp_machine.specs.Node.{Role, Serving, Packet, Active, Session, Bearer, Arrival, Node, holding, written}
use Rattle.gtp_machine.specs.Input.{Entry, Specification, Create_session, Send_user, entry_for, Commanded, Control_came, User_came, Control_message}
use Rattle.gtp_machine.specs.Input.{User_message, Effect, Came_to, Opened, messages, datagrams}
use Rattle.gtp_machine.specs.Choice.{IsFree, IsGiven, counter_of}
use Rattle.gtp_machine.specs.Command.{bearer_request, BeginsSession, MayGo, SendsPacket, PacketSent, asks, session_request, session_begun, pending_session, pending_bearer}
use Rattle.gtp_machine.specs.User.{MayCome, Accepts, UserStep}
use Rattle.gtp_machine.specs.Answer.{IsNew}
use Rattle.gtp_machine.specs.Serving.{opened_session, opened_bearer}
use Rattle.gtp_machine.specs.Packet.{session_cause, session_response, session_made, made_session, made_bearer}
use Rattle.gtp_machine.specs.Recovery.{heard_by}
use Rattle.gtp_machine.specs.Reading.{control_reading}
use Rattle.gtp_machine.specs.Spelling.{ReadsAs, spelled, announcing, IsSendable}
use Rattle.gtp_machine.specs.Step.{Step}
use Rattle.gtp_machine.specs.World.{World, Sent, SentDatagram, HasSent, Side, Event, Does, Deliver, Happens, Delivers, Moves, Run, other, side_of}
use Rattle.gtp_machine.specs.World.{signed, marked_late, come_from, arrival, first_came, delivered_on, start}
use Rattle.gtp_machine.specs.Exchange.{AllRead, IsOnePath, IsTemplate, IsConfigured, IsSpecified, CanExchange, CameTo, Carries, IsMade, Exchanged, FairExchange, ExchangeSendable}
use Rattle.gtp_machine.proofs.Basics.Ages.{earlier_start}
use Rattle.gtp_machine.proofs.Basics.FiniteMaps.{Among-only, get-insert_same, Among-left, Among-right, Among-last}
use Rattle.gtp_machine.proofs.Origins.Drawing.{Drawing, unowned, by_cases}
use Rattle.gtp_machine.proofs.Worlds.Hearing.{Hearing}
use Rattle.gtp_machine.proofs.Worlds.Runs.{Invariant, always, side_in}
use Rattle.gtp_machine.proofs.Exchange.Held.{HeldOfSent, not_announcing, always_held}
use Rattle.gtp_machine.proofs.Worlds.Coming.{peer_comes, IsMoved, moved_so, Took, took_datagram, TookBoth, took_both, took_both_late}
use Rattle.gtp_machine.proofs.Basics.Templates.{IsAdded}
use Rattle.gtp_machine.proofs.Exchange.Added.{asked_template, wanted_sendable, refusal_sendable, grant_sendable}
use Rattle.gtp_machine.proofs.Exchange.Nodes.{pass, v4_given, v6_given, type_is as asked_type, begins, CanMake, IsAnswered, answers, waiting_for}
use Rattle.gtp_machine.proofs.Exchange.Nodes.{Waits, OpensBy, IsOpened, is_opened_by, GoesOut, goes_out, SaysSo, asked_second}
use Rattle.gtp_machine.proofs.Exchange.Texts.{request_like, response_like, same_request_teid, same_response_teid}
use Rattle.gtp_machine.proofs.Exchange.Ranges.{IsWritten, given_written, request_sendable, request_short, response_sendable, response_short}
use Rattle.gtp_machine.specs.Laws.{OwnsOn, TeidWasDrawn}
use Rattle.gtp_machine.proofs.Changes.After.{Knows}
use Rattle.gtp_machine.proofs.Origins.Naming.{bearer_goes_back}

-- the last of a list
at_end : {X : Type 0} (xs : List X) (x : X) → slice_get (xs ++ (x ∷ [])) (length xs) ≡ Some x
at_end [] x = refl
at_end (y ∷ xs) x = at_end xs x

one_longer : {X : Type 0} (xs : List X) (x : X) → 1 + length xs ≡ length (xs ++ (x ∷ []))
one_longer [] x = refl
one_longer (y ∷ xs) x = omega (arith, one_longer xs x)

delivered_so : (old : World) (sender : Role) (datagram : List Message) (number : ℕ) (new : World)
    → slice_get old.datagrams number ≡ Some (record { role = sender; what = datagram }) → Happens old (Deliver number) new
    → Delivers old sender datagram new
delivered_so old sender datagram number new stands h =
    let found = pass (record { sent = record { role = sender; what = datagram }; is = stands }) h in
    subst (λ (s : SentDatagram). Delivers old s.role s.what new) (same_Some found.0.sent (record { role = sender; what = datagram }) (sym found.0.is ∙ stands)) found.1

brought : (old : World) (sender : Role) (m : Message) (number : ℕ) (new : World) → slice_get old.datagrams number ≡ Some (record { role = sender; what = m ∷ [] }) → Happens old (Deliver number) new
    → Took old (other sender) (delivered_on (plane_of m) (side_of old sender).node.config.own (m ∷ [])) new
brought old sender m number new stands h = took_datagram old sender m new (delivered_so old sender (m ∷ []) number new stands h)

-- a pair comes to the serving gateway from its peer, message by message
brought_apart : (old : World) (a : CreateSessionResponse) (r : CreateBearerRequest) (new : World) → old.packet.node.config.own.control ≡ old.serving.node.config.peer.control
    → Delivers old Packet (Create_session_response a ∷ Create_bearer_request r ∷ []) new → TookBoth old a r new
brought_apart old a r new peer (inl d) = took_both old a r new (peer_comes old Serving old.packet.node.config.own new a r refl peer d.1).moves
brought_apart old a r new peer (inr d) =
    let x = arrival old.packet.node.config.own (Create_bearer_request r) in
    took_both_late old x a r new (peer_comes (marked_late old Serving x) Serving old.packet.node.config.own new a r refl peer d.1).moves

-- the counter that a gateway tells is not earlier than one that was heard of it
not_earlier : (peer : Side) (role : Role) (history : List Sent) (known : Option ℕ) (seen : List ℕ) (counter : ℕ) → Drawing peer role history
    → Hearing peer known seen → counter ≡ peer.node.counter → (k : ℕ) → known ≡ Some k → age_of k counter ≢ Earlier
not_earlier peer role history known seen counter draws hearing same k is early =
    let l = hearing.latest k is in
    let before = earlier_start peer.first l.start peer.restarts k counter (omega (arith, l.by_now, draws.few)) draws.few l.is (same ∙ draws.counter) early in
    omega (arith, before, l.by_now)

pub accepts_cause : (pdn : ℕ) (address : PdnAddress) → IsAccepting (cause_of (session_cause pdn address))
accepts_cause pdn address = by ((pdn == 3) && not (is_some address.v4 && is_some address.v6))
  where
    by : (b : Bool) → IsAccepting (cause_of (if b then 18 else 16))
    by true = record { low = omega arith; high = omega arith }
    by false = record { low = omega arith; high = omega arith }

-- a packet that may go is sent
sends_so : (role : Role) (bearer : ℕ) (payload : List ℕ) (node : Node) (e : Effect) (b : Bearer) → get node.bearers bearer ≡ Some b → b.state ≡ Active
    → b.ended ≡ false → length payload ≤ 65000 → Step role node (Commanded (Send_user bearer payload)) e → SendsPacket node b payload e
sends_so role bearer payload node e b stands active unended short step = by step
  where
    may_go : (role : Role) → MayGo role b
    may_go Serving = tt
    may_go Packet = unended

    by : PacketSent role bearer payload node e → SendsPacket node b payload e
    by r =
        let at = pass (record { bearer = b; stands = stands }) r in
        let same : b ≡ at.0.bearer = same_Some b at.0.bearer (sym stands ∙ at.0.stands) in
        let sends = (pass short (pass (subst (λ k. MayGo role k) same (may_go role)) (pass (ap (λ (k : Bearer). k.state) (sym same) ∙ active) at.1).1).1).1 in
        subst (λ k. SendsPacket node k payload e) (sym same) sends

-- a packet that may come is accepted
accepts_so : (role : Role) (source : Endpoint) (bearer : ℕ) (payload : List ℕ) (node : Node) (e : Effect) (b : Bearer) → source.ip ≡ node.config.peer.user
    → get node.bearers bearer ≡ Some b → b.state ≡ Active → b.ended ≡ false
    → Step role node (User_came source (User_message (Packet_data bearer payload))) e → Accepts node bearer payload b e
accepts_so role source bearer payload node e b peer stands active unended step = by step
  where
    may_come : (role : Role) → MayCome role b
    may_come Serving = unended
    may_come Packet = tt

    by : UserStep role source (User_message (Packet_data bearer payload)) node e → Accepts node bearer payload b e
    by r =
        let at = pass (record { bearer = b; stands = stands }) (pass peer r).1 in
        let same : b ≡ at.0.bearer = same_Some b at.0.bearer (sym stands ∙ at.0.stands) in
        let takes = (pass (subst (λ k. MayCome role k) same (may_come role)) (pass (ap (λ (k : Bearer). k.state) (sym same) ∙ active) at.1).1).1 in
        subst (λ k. Accepts node bearer payload k e) (sym same) takes

-- a bearer that is ends at both ends, of sessions for one subscriber, carries packets
record IsOpenBearer (w : World) (role : Role) (bearer there : ℕ) : Type 0 where
  pub here : Bearer
  pub stands : get (side_of w role).node.bearers bearer ≡ Some here
  pub active : here.state ≡ Active
  pub unended : here.ended ≡ false
  pub remote : here.remote ≡ Some there
  pub session : Session
  pub of : get (side_of w role).node.sessions here.session ≡ Some session
  pub at : Bearer
  pub stands_there : get (side_of w (other role)).node.bearers there ≡ Some at
  pub active_there : at.state ≡ Active
  pub unended_there : at.ended ≡ false
  pub session_there : Session
  pub of_there : get (side_of w (other role)).node.sessions at.session ≡ Some session_there
  pub subscriber : session_there.subscriber ≡ session.subscriber
  pub identity : at.identity ≡ here.identity
  pub path : (side_of w (other role)).node.config.peer ≡ (side_of w role).node.config.own

carries : (w : World) (role : Role) (bearer there : ℕ) → IsOpenBearer w role bearer there → Carries w role bearer
carries w role bearer there ends payload sent came short h1 h2 =
    let m1 : Moves w role (Commanded (Send_user bearer payload)) sent = h1 in
    let f1 = moved_so w role _ sent m1 in
    let sends = sends_so role bearer payload (side_of w role).node m1.effect ends.here ends.stands ends.active ends.unended short m1.step in
    let says : datagrams m1.effect.out.sent ≡ (Packet_data there payload ∷ []) ∷ [] =
    ap (λ (f : Effect). datagrams f.out.sent) sends.gives ∙ ap (λ r. (Packet_data (written r) payload ∷ []) ∷ []) ends.remote in
    let kept : (side_of sent role).node.config ≡ (side_of w role).node.config = ap (λ (n : Node). n.config) (f1.grown.node ∙ ap (λ (f : Effect). f.node) sends.gives) in
    let d =
    brought sent role (Packet_data there payload) (length w.datagrams) came
    (ap (λ ds. slice_get ds (length w.datagrams)) (f1.grown.listed ∙ ap (λ ds. w.datagrams ++ signed role ds) says) ∙ at_end w.datagrams _) h2 in
    let source = user_end (side_of sent role).node.config.own.user in
    let takes =
    accepts_so (other role) source there payload (side_of w (other role)).node d.effect ends.at
    (ap (λ (c : Config). c.own.user) kept ∙ ap (λ (a : Addresses). a.user) (sym ends.path)) ends.stands_there ends.active_there ends.unended_there
    (subst (λ n. Step (other role) n (User_came source (User_message (Packet_data there payload))) d.effect) f1.grown.elsewhere d.step) in
    let packet : Entry = entry_for there payload ends.session.subscriber ends.here.identity in
    let handed : m1.effect.out.handed ≡ packet ∷ [] =
    ap (λ (f : Effect). f.out.handed) sends.gives ∙ ap (λ r. entry_for (written r) payload sends.of.session.subscriber ends.here.identity ∷ []) ends.remote
    ∙ ap (λ (s : Session). entry_for there payload s.subscriber ends.here.identity ∷ []) (same_Some sends.of.session ends.session (sym sends.of.stands ∙ ends.of)) in
    let accepted : d.effect.out.accepted ≡ packet ∷ [] =
    ap (λ (f : Effect). f.out.accepted) takes.gives ∙ ap (λ (s : Session). entry_for there payload s.subscriber ends.at.identity ∷ [])
    (same_Some takes.of.session ends.session_there (sym takes.of.stands ∙ ends.of_there))
    ∙ (λ i. entry_for there payload (ends.subscriber i) (ends.identity i) ∷ []) in
    record {
      outcome = subst (CameTo came) (ap (λ (f : Effect). f.outcome) takes.gives) d.moved.note;
      packet = packet;
      carries = refl;
      handed = f1.handed ∙ ap (λ es. w.handed ++ signed role es) handed;
      accepted = d.moved.accepted ∙ ap (λ es. sent.accepted ++ signed (other role) es) accepted;
    }

-- an F-TEID of the user plane stands as its sender's own
owns_user : (m : Message) (t : ℕ) → OwnsOn User m t → Owns m t
owns_user (Create_session_request q) t owns = inr owns
owns_user (Create_session_response a) t owns = inr owns
owns_user (Create_bearer_request r) t owns = owns
owns_user (Create_bearer_response x) t owns = owns
owns_user _ t none = absurd none

-- messages of the control plane that read as themselves, and have one encoding, are one
apart : (m n : Message) → plane_of m ≡ Control → plane_of n ≡ Control → ReadsAs (plane_of m) (spelled m) m → ReadsAs (plane_of n) (spelled n) n → spelled m ≡ spelled n → m ≡ n
apart m n m_control n_control m_reads n_reads text =
    let first : Control_message m ≡ control_reading (spelled m) = subst (λ p. ReadsAs p (spelled m) m) m_control m_reads in
    let second : Control_message n ≡ control_reading (spelled n) = subst (λ p. ReadsAs p (spelled n) n) n_control n_reads in
    let same : Control_message m ≡ Control_message n = first ∙ ap control_reading text ∙ sym second in
    cc same

-- a TEID of a start is below 2^32
start_small : (t n : ℕ) → counter_of t ≡ n % 256 → t < 2 ^ 32
start_small t n is = omega (arith, is)

-- a TEID that may be drawn
free_small : (side : Side) (role : Role) (history : List Sent) → Drawing side role history → (t : ℕ) → IsFree side.node t → t < 2 ^ 32
free_small side role history draws t free = start_small t (side.first + side.restarts) (free.counted ∙ draws.counter)

-- a TEID that stands as its sender's own
owned_small : (side : Side) (role : Role) (history : List Sent) → Drawing side role history → (m : Message) (t : ℕ) → HasSent history role m → Owns m t → t < 2 ^ 32
owned_small side role history draws m t sent owns = elim (draws.drawn m t sent owns) [
  | inl drawn ↦ start_small t (side.first + side.restarts) (draws.present t drawn ∙ draws.counter)
  | inr earlier ↦ start_small t (side.first + earlier.start) earlier.is
]

module _ (serving packet : Config) (serving_counter packet_counter : ℕ) (events : List Event) (w begun answered opened : World)
    (spec : Specification) (r : Run (start serving packet serving_counter packet_counter) events w)
    (path : IsOnePath w.serving.node.config w.packet.node.config) (can : CanExchange w spec)
    (h1 : Happens w (Does Serving (Create_session spec)) begun) (h2 : Happens begun (Deliver (length w.datagrams)) answered) (h3 : Happens answered (Deliver (1 + length w.datagrams)) opened) where
  inv : Invariant packet.own w
  inv = always serving packet serving_counter packet_counter events w r

  held : HeldOfSent w
  held = always_held serving packet serving_counter packet_counter events w r

  -- the command
  m1 : Moves w Serving (Commanded (Create_session spec)) begun
  m1 = h1

  abbrev r1 : BeginsSession w.serving.node spec m1.effect
  r1 = begins w.serving.node spec m1.effect can.serving_room can.serving_draws can.pending_room m1.step

  abbrev q : CreateSessionRequest
  q = session_request w.serving.node spec r1.control r1.user r1.number

  abbrev e1 : Effect
  e1 = asks w.serving.node r1.number (waiting_for q) (Some r1.control) (session_begun w.serving.node r1.control r1.user q)

  f1 : IsMoved w Serving m1.effect begun
  f1 = moved_so w Serving _ begun m1

  begun_node : begun.serving.node ≡ e1.node
  begun_node = f1.grown.node ∙ ap (λ (f : Effect). f.node) r1.gives

  begun_history : begun.history ≡ w.history ++ signed Serving (Create_session_request q ∷ [])
  begun_history = f1.history ∙ ap (λ (f : Effect). w.history ++ signed Serving (messages f.out.sent)) r1.gives

  begun_list : begun.datagrams ≡ w.datagrams ++ signed Serving ((Create_session_request q ∷ []) ∷ [])
  begun_list = f1.grown.listed ∙ ap (λ (f : Effect). w.datagrams ++ signed Serving (datagrams f.out.sent)) r1.gives

  -- the request comes
  d2 : Took begun Packet (delivered_on Control begun.serving.node.config.own (Create_session_request q ∷ [])) answered
  d2 = brought begun Serving (Create_session_request q) (length w.datagrams) answered (ap (λ ds. slice_get ds (length w.datagrams)) begun_list ∙ at_end w.datagrams _) h2

  abbrev asked : Arrival
  asked = arrival begun.serving.node.config.own (Create_session_request q)

  serving_own : begun.serving.node.config.own ≡ w.serving.node.config.own
  serving_own = ap (λ (n : Node). n.config.own) begun_node

  -- no message with this text was sent before
  abbrev IsUnsent : Role → Message → Type 0
  IsUnsent role now = (m : Message) → HasSent w.history role m → plane_of m ≡ Control → spelled m ≡ spelled now → ⊥

  module _ (request_new : IsUnsent Serving (Create_session_request q)) where
    new2 : IsNew w.packet.node asked
    new2 h among same =
        let s = held Packet h among in
        let octets : arrival w.serving.node.config.own s.message ≡ asked = sym s.is ∙ same in
        request_new s.message s.sent s.control (ap (λ (a : Arrival). a.octets) octets)

    can_make : CanMake w.packet.node q
    can_make = record { room = can.held_room; one = refl; identity = can.identity; configured = can.configured; few = can.packet_room; draws = can.packet_draws }

    a2 : IsAnswered asked q w.serving.node.counter w.packet.node d2.effect
    a2 =
        answers asked q w.serving.node.counter w.packet.node d2.effect (ap (λ (k : Addresses). k.control) (serving_own ∙ sym path.back)) new2 refl
        (not_earlier w.serving Serving w.history w.packet.node.known w.packet.seen w.serving.node.counter inv.serving.draws inv.packet.hearing refl)
        can_make can.give
        (subst (λ n. Step Packet n (Control_came asked (Control_message (Create_session_request q))) d2.effect) f1.grown.elsewhere d2.step)

    abbrev a : CreateSessionResponse
    a = session_response a2.mid q a2.made.control a2.made.user a2.made.address

    -- how it goes
    go2 : GoesOut asked q a2.mid a2.made.control a2.made.user a2.made.address a2.taken
    go2 = goes_out asked q a2.mid a2.taken a2.made

    abbrev said : List Message
    said = Create_session_response a ∷ go2.more

    abbrev made_node : Node
    made_node = holding asked said go2.left

    answered_node : answered.packet.node ≡ made_node
    answered_node = d2.moved.grown.node ∙ a2.node ∙ ap (λ (f : Effect). f.node) go2.gives

    answered_history : answered.history ≡ (w.history ++ signed Serving (Create_session_request q ∷ [])) ++ signed Packet said
    answered_history =
        d2.moved.history ∙ (λ i. begun_history i ++ signed Packet (messages ((a2.sent ∙ ap (λ (f : Effect). f.out.sent) go2.gives) i)))
        ∙ ap (λ l. (w.history ++ signed Serving (Create_session_request q ∷ [])) ++ signed Packet l) (append-nil said)

    answered_list : answered.datagrams ≡ (w.datagrams ++ signed Serving ((Create_session_request q ∷ []) ∷ [])) ++ signed Packet (said ∷ [])
    answered_list = d2.moved.grown.listed ∙ (λ i. begun_list i ++ signed Packet (datagrams ((a2.sent ∙ ap (λ (f : Effect). f.out.sent) go2.gives) i)))

    -- the answer comes
    d3 : Delivers answered Packet said opened
    d3 = delivered_so answered Packet said (1 + length w.datagrams) opened
        (ap (λ n. slice_get answered.datagrams n) (one_longer w.datagrams _)
        ∙ ap (λ ds. slice_get ds (length (w.datagrams ++ signed Serving ((Create_session_request q ∷ []) ∷ [])))) answered_list
        ∙ at_end (w.datagrams ++ signed Serving ((Create_session_request q ∷ []) ∷ [])) _)
        h3

    same3 : answered.serving.node ≡ e1.node
    same3 = d2.moved.grown.elsewhere ∙ begun_node

    packet_own : answered.packet.node.config.own ≡ w.packet.node.config.own
    packet_own = ap (λ (n : Node). n.config.own) answered_node ∙ ap (λ (c : Config). c.own) (go2.config ∙ a2.ready.config)

    from_peer : answered.packet.node.config.own.control ≡ w.serving.node.config.peer.control
    from_peer = ap (λ (k : Addresses). k.control) (packet_own ∙ sym path.there)

    free_before : (t : ℕ) → IsFree a2.mid t → IsFree w.packet.node t
    free_before t free = record { counted = free.counted ∙ a2.ready.counter; numbered = free.numbered; undrawn = subst (λ l. Among t l → ⊥) a2.ready.drawn free.undrawn }

    module _ (answer_new : IsUnsent Packet (Create_session_response a)) where
      waits : Waits e1.node q
      waits =
          record {
            request = get-insert_same w.serving.node.pending r1.number (waiting_for q);
            session = get-insert_same w.serving.node.sessions r1.control (pending_session q);
            bearer = get-insert_same w.serving.node.bearers r1.user (pending_bearer r1.control q);
          }

      opens_by : OpensBy a q a2.made.address
      opens_by =
          record {
            number = refl;
            header = refl;
            accepts = accepts_cause spec.pdn a2.made.address;
            context = record {
              identity = q.context.identity;
              cause = cause_of 16;
              user = Some (tunnel_end 5 a2.made.user a2.mid.config.own.user);
              qos = Some q.context.qos;
              charging = Some a2.made.user;
            };
            alone = refl;
            default = refl;
            both = record { low = omega arith; high = omega arith };
            given = address_back 64 a2.made.address a2.made.given.some_part;
          }

      abbrev at_serving : Session
      at_serving = opened_session (pending_session q) a a2.made.address

      abbrev at_packet : Session
      at_packet = made_session q a2.made.address

      abbrev bearer_at_serving : Bearer
      bearer_at_serving = opened_bearer (pending_bearer r1.control q) a

      abbrev bearer_at_packet : Bearer
      bearer_at_packet = made_bearer q a2.made.control

      abbrev Added : Type 0
      Added =
          IsAdded (template_asked a2.mid.config q.access_point) asked a (session_cause spec.pdn a2.made.address) a2.made.control at_packet
          (session_made a2.mid q a2.made.control a2.made.user a2.made.address) a2.taken

      -- the request of the template's bearer
      abbrev wanted : Added → CreateBearerRequest
      wanted x = bearer_request (session_made a2.mid q a2.made.control a2.made.user a2.made.address) at_packet x.template.tft x.template.qos x.adds.user x.adds.number

      -- what is said to it
      record IsGranted (m : Message) : Type 0 where
        pub added : Added
        pub old : Node
        pub counter : old.counter ≡ w.serving.node.counter
        pub config : old.config ≡ w.serving.node.config
        pub held : old.held ≡ w.serving.node.held
        pub says : SaysSo (wanted added) at_serving old m

      -- what the third event comes to, whether the answer went alone or not
      record IsThird : Type 0 where
        pub session : get opened.serving.node.sessions r1.control ≡ Some at_serving
        pub bearer : get opened.serving.node.bearers r1.user ≡ Some bearer_at_serving
        pub config : opened.serving.node.config ≡ w.serving.node.config
        pub there : opened.packet.node ≡ made_node
        pub extra : List Message
        pub history : opened.history ≡ answered.history ++ signed Serving extra
        pub granted : (m : Message) → Among m extra → IsGranted m
        pub outcome : CameTo opened (Came_to Opened)

      -- the gateway takes the answer
      opens_so : (request : Arrival) (e : Effect) → request.source.ip ≡ w.serving.node.config.peer.control → IsNew e1.node request
          → Step Serving e1.node (Control_came request (Control_message (Create_session_response a))) e → IsOpened a q a2.made.address e1.node e
      opens_so request e peer new step =
          is_opened_by request a q a2.made.address a2.mid.counter e1.node e peer new refl
          (not_earlier w.packet Packet w.history w.serving.node.known w.serving.seen a2.mid.counter inv.packet.draws inv.serving.hearing
          a2.ready.counter) waits opens_by step

      session_in : (e : Effect) (o : IsOpened a q a2.made.address e1.node e) → get e.node.sessions r1.control ≡ Some at_serving
      session_in e o = ap (λ (n : Node). get n.sessions r1.control) o.node ∙ get-insert_same o.mid.sessions r1.control at_serving

      bearer_in : (e : Effect) (o : IsOpened a q a2.made.address e1.node e) → get e.node.bearers r1.user ≡ Some bearer_at_serving
      bearer_in e o = ap (λ (n : Node). get n.bearers r1.user) o.node ∙ get-insert_same o.mid.bearers r1.user bearer_at_serving

      config_in : (e : Effect) (o : IsOpened a q a2.made.address e1.node e) → e.node.config ≡ w.serving.node.config
      config_in e o = ap (λ (n : Node). n.config) o.node ∙ o.ready.config

      third_alone : go2.more ≡ [] → IsThird
      third_alone alone =
          let d = took_datagram answered Packet (Create_session_response a) opened (subst (λ more. Delivers answered Packet (Create_session_response a ∷ more) opened) alone d3) in
          let told = arrival answered.packet.node.config.own (Create_session_response a) in
          let o = opens_so told d.effect from_peer new (subst (λ n. Step Serving n (Control_came told (Control_message (Create_session_response a))) d.effect) same3 d.step) in
          record {
            session = ap (λ (n : Node). get n.sessions r1.control) d.moved.grown.node ∙ session_in d.effect o;
            bearer = ap (λ (n : Node). get n.bearers r1.user) d.moved.grown.node ∙ bearer_in d.effect o;
            config = ap (λ (n : Node). n.config) d.moved.grown.node ∙ config_in d.effect o;
            there = d.moved.grown.elsewhere ∙ answered_node;
            extra = [];
            history = d.moved.history ∙ (λ i. answered.history ++ signed Serving (o.sent i));
            granted = λ m none. absurd none;
            outcome = subst (CameTo opened) o.outcome d.moved.note;
          }
        where
          new : IsNew e1.node (arrival answered.packet.node.config.own (Create_session_response a))
          new h among same =
              let s = held Serving h among in
              let octets : arrival w.packet.node.config.own s.message ≡ arrival answered.packet.node.config.own (Create_session_response a) = sym s.is ∙ same in
              answer_new s.message s.sent s.control (ap (λ (k : Arrival). k.octets) octets)

      third_both : (x : Added) → go2.more ≡ Create_bearer_request (wanted x) ∷ [] → IsThird
      third_both x more =
          let t =
          brought_apart answered a (wanted x) opened (from_peer ∙ ap (λ (n : Node). n.config.peer.control) (sym same3))
          (subst (λ more. Delivers answered Packet (Create_session_response a ∷ more) opened) more d3) in
          let from = answered.packet.node.config.own in
          let o =
          opens_so (come_from from (announcing (Create_session_response a))) t.effect from_peer new
          (subst (λ n. Step Serving n (first_came from (Create_session_response a)) t.effect) same3 t.step) in
          let is =
          asked_second (arrival from (Create_bearer_request (wanted x))) (wanted x) at_serving t.effect.node t.next
          (from_peer ∙ ap (λ (c : Config). c.peer.control) (sym (config_in t.effect o))) (session_in t.effect o) refl refl refl t.follows in
          record {
            session = ap (λ (n : Node). get n.sessions r1.control) t.node ∙ ap (λ m. get m r1.control) is.sessions ∙ session_in t.effect o;
            bearer =
                ap (λ (n : Node). get n.bearers r1.user) t.node
                ∙ is.bearers r1.user bearer_at_serving (subst (Among r1.user) (sym (ap (λ (n : Node). n.drawn) o.node ∙ o.ready.drawn)) (inl refl))
                (bearer_in t.effect o);
            config = ap (λ (n : Node). n.config) t.node ∙ is.config ∙ config_in t.effect o;
            there = t.elsewhere ∙ answered_node;
            extra = messages t.next.out.sent;
            history =
                t.history ∙ (λ i. (answered.history ++ signed Serving (o.sent i)) ++ signed Serving (messages t.next.out.sent))
                ∙ ap (λ h. h ++ signed Serving (messages t.next.out.sent)) (append-nil answered.history);
            granted =
                λ m among. record {
                  added = x;
                  old = t.effect.node;
                  counter = ap (λ (n : Node). n.counter) o.node ∙ o.ready.counter;
                  config = config_in t.effect o;
                  held = ap (λ (n : Node). n.held) o.node ∙ o.ready.held;
                  says = is.says m among;
                };
            outcome = subst (CameTo opened) o.outcome t.note;
          }
        where
          new : IsNew e1.node (come_from answered.packet.node.config.own (announcing (Create_session_response a)))
          new h among same =
              let s = held Serving h among in
              not_announcing s.message a s.control (ap (λ (k : Arrival). k.octets) (sym s.is ∙ same))

      third : IsThird
      third = ⊎_elim third_alone (λ x. third_both x.0 x.1) go2.wanted

      session_stands_there : get opened.packet.node.sessions a2.made.control ≡ Some at_packet
      session_stands_there = ap (λ (n : Node). get n.sessions a2.made.control) third.there ∙ ap (λ m. get m a2.made.control) go2.sessions ∙ get-insert_same a2.mid.sessions a2.made.control at_packet

      bearer_stands_there : get opened.packet.node.bearers a2.made.user ≡ Some bearer_at_packet
      bearer_stands_there = ap (λ (n : Node). get n.bearers a2.made.user) third.there ∙ go2.bearer

      packet_config : opened.packet.node.config ≡ w.packet.node.config
      packet_config = ap (λ (n : Node). n.config) third.there ∙ go2.config ∙ a2.ready.config

      made : IsMade opened spec
      made = record {
        session = r1.control;
        session_there = a2.made.control;
        at_serving = at_serving;
        at_packet = at_packet;
        sessions = record { serving = third.session; packet = session_stands_there; serving_active = refl; packet_active = refl; there = refl; back = refl };
        subscriber = refl;
        subscriber_there = refl;
        bearer = r1.user;
        bearer_there = a2.made.user;
        bearer_at_serving = bearer_at_serving;
        bearer_at_packet = bearer_at_packet;
        bearers = record { serving = third.bearer; packet = bearer_stands_there; serving_active = refl; packet_active = refl; there = refl; back = refl };
        default = refl;
        default_there = refl;
        of = refl;
        of_there = refl;
        identity = refl;
        up =
            carries opened Serving r1.user a2.made.user (record {
              here = bearer_at_serving;
              stands = third.bearer;
              active = refl;
              unended = refl;
              remote = refl;
              session = at_serving;
              of = third.session;
              at = bearer_at_packet;
              stands_there = bearer_stands_there;
              active_there = refl;
              unended_there = refl;
              session_there = at_packet;
              of_there = session_stands_there;
              subscriber = refl;
              identity = refl;
              path = ap (λ (c : Config). c.peer) packet_config ∙ path.back ∙ ap (λ (c : Config). c.own) (sym third.config);
            });
        down =
            carries opened Packet a2.made.user r1.user
            (record {
              here = bearer_at_packet;
              stands = bearer_stands_there;
              active = refl;
              unended = refl;
              remote = refl;
              session = at_packet;
              of = session_stands_there;
              at = bearer_at_serving;
              stands_there = third.bearer;
              active_there = refl;
              unended_there = refl;
              session_there = at_serving;
              of_there = third.session;
              subscriber = refl;
              identity = refl;
              path = ap (λ (c : Config). c.peer) third.config ∙ path.there ∙ ap (λ (c : Config). c.own) (sym packet_config);
            });
      }

      no_bearer : (role : Role) (t : ℕ) → IsFree (side_of w role).node t → (b : Bearer) → get (side_of w role).node.bearers t ≡ Some b → ⊥
      no_bearer role t free b stands = own_on role t free (bearer_goes_back w.history role (side_of w role).node (side_in w inv role).knows t b stands).here
        where
          own_on : (role : Role) (t : ℕ) → IsFree (side_of w role).node t → TeidWasDrawn User w.history role t → ⊥
          own_on Serving t free from = unowned w.serving Serving w.history inv.serving.draws from.message t from.sent (owns_user from.message t from.owns) free
          own_on Packet t free from = unowned w.packet Packet w.history inv.packet.draws from.message t from.sent (owns_user from.message t from.owns) free

      free_no_session : (role : Role) (node : Node) → Knows role w.history node → (t : ℕ) → IsFree node t → (s : Session) → get node.sessions t ≡ Some s → ⊥
      free_no_session role node knows t free s stands = free.undrawn (knows.drawn t s stands)

      exchanged : Exchanged spec w begun answered opened
      unfolding made
      exchanged = record {
        new = record {
          session = free_no_session Serving w.serving.node inv.serving.knows r1.control r1.control_free;
          session_there = free_no_session Packet w.packet.node inv.packet.knows a2.made.control (free_before a2.made.control a2.made.control_free);
          bearer = no_bearer Serving r1.user r1.user_free;
          bearer_there = no_bearer Packet a2.made.user (free_before a2.made.user a2.made.user_free);
        };
        cause = session_cause spec.pdn a2.made.address;
        address = a2.made.address;
        given = subst (λ n. IsGiven n spec.pdn a2.made.address) a2.heard a2.made.given;
        v4_asked = v4_given a2.mid spec.pdn a2.made.address.v4 a2.made.given.v4;
        v6_asked = v6_given a2.mid spec.pdn a2.made.address.v6 a2.made.given.v6;
        has = refl;
        has_there = refl;
        for_address = refl;
        first = subst (CameTo begun) (ap (λ (f : Effect). f.outcome) r1.gives) f1.note;
        second = subst (CameTo answered) (a2.outcome ∙ ap (λ (f : Effect). f.outcome) go2.gives) d2.moved.note;
        answer = a;
        more = go2.more;
        told = answered_list ∙ ap (λ h. h ++ signed Packet (said ∷ [])) (sym begun_list);
        says = refl;
        third = third.outcome;
        made = made;
      }

      -- what was sent is what was sent before, the request, its answer with what goes with it, and what is said to that
      sent_now : (role : Role) (m : Message) → HasSent opened.history role m → HasSent w.history role m ⊎ ((m ≡ Create_session_request q) ⊎ (Among m said ⊎ ((role ≡ Serving) × IsGranted m)))
      sent_now role m sent = ⊎_elim
          (λ before. elim (by_cases (w.history ++ signed Serving (Create_session_request q ∷ [])) role Packet said m (subst (λ h. HasSent h role m) answered_history before)) [
            | inl earlier ↦ ⊎_elim (λ was. inl was) (λ asked. inr (inl (Among-only m _ asked.1))) (by_cases w.history role Serving (Create_session_request q ∷ []) m earlier)
            | inr told ↦ inr (inr (inl told.1))
          ])
          (λ now. inr (inr (inr (now.0, third.granted m now.1))))
          (by_cases answered.history role Serving third.extra m (subst (λ h. HasSent h role m) third.history sent))

  -- where each message that was sent reads as itself
  module _ (reads : AllRead answered) where
    -- what was sent before the answer reads as itself
    reads_before : (role : Role) (m : Message) → HasSent begun.history role m → ReadsAs (plane_of m) (spelled m) m
    reads_before role m sent = reads role m (subst (λ h. HasSent h role m) (sym d2.moved.history) (Among-left _ begun.history _ sent))

    reads_first : (role : Role) (m : Message) → HasSent w.history role m → ReadsAs (plane_of m) (spelled m) m
    reads_first role m sent = reads_before role m (subst (λ h. HasSent h role m) (sym begun_history) (Among-left _ w.history _ sent))

    request_reads : ReadsAs (plane_of (Create_session_request q)) (spelled (Create_session_request q)) (Create_session_request q)
    request_reads = reads_before Serving (Create_session_request q) (subst (λ h. HasSent h Serving (Create_session_request q)) (sym begun_history) (Among-last _ w.history))

    -- a message that reads as itself, of which a TEID is free, was not sent before
    unsent : (role : Role) (m : Message) (t : ℕ) → plane_of m ≡ Control → ReadsAs (plane_of m) (spelled m) m → Owns m t → IsFree (side_of w role).node t → IsUnsent role m
    unsent role m t m_control m_reads owns free n sent control text =
        let message = apart n m control m_control (reads_first role n sent) m_reads text in
        unowned (side_of w role) role w.history (side_in w inv role).draws m t (subst (λ k. HasSent w.history role k) message sent) owns free

    request_apart : IsUnsent Serving (Create_session_request q)
    request_apart = unsent Serving (Create_session_request q) r1.control refl request_reads (inl refl) r1.control_free

    answer_reads : ReadsAs (plane_of (Create_session_response (a request_apart))) (spelled (Create_session_response (a request_apart))) (Create_session_response (a request_apart))
    answer_reads =
        reads Packet (Create_session_response (a request_apart))
        (subst (λ h. HasSent h Packet (Create_session_response (a request_apart))) (sym (answered_history request_apart))
        (Among-right _ (w.history ++ signed Serving (Create_session_request q ∷ [])) (signed Packet (said request_apart)) (inl refl)))

    answer_apart : IsUnsent Packet (Create_session_response (a request_apart))
    answer_apart =
        unsent Packet (Create_session_response (a request_apart)) (a2 request_apart).made.control refl answer_reads (inl refl)
        (free_before request_apart (a2 request_apart).made.control (a2 request_apart).made.control_free)

    by_reading : Exchanged spec w begun answered opened
    by_reading = exchanged request_apart answer_apart

  -- where what they carry has room in the request and in its answer
  module _ (serving_is : IsConfigured w.serving.node.config) (packet_is : IsConfigured w.packet.node.config) (specified : IsSpecified spec) where
    control_small : r1.control < 2 ^ 32
    control_small = free_small w.serving Serving w.history inv.serving.draws r1.control r1.control_free

    user_small : r1.user < 2 ^ 32
    user_small = free_small w.serving Serving w.history inv.serving.draws r1.user r1.user_free

    number_small : r1.number < 2 ^ 24
    number_small = omega (arith, r1.number_free.small)

    -- a counter of a start
    counter_small : (side : Side) (role : Role) (history : List Sent) → Drawing side role history → side.node.counter < 256
    counter_small side role history draws = omega (arith, draws.counter)

    type_is : (spec.pdn ≡ 1) ⊎ ((spec.pdn ≡ 2) ⊎ (spec.pdn ≡ 3))
    type_is = asked_type (heard_by w.packet.node w.serving.node.counter) spec.pdn can.give

    request_is : IsSendable (Create_session_request q)
    request_is =
        request_sendable w.serving.node spec r1.control r1.user r1.number serving_is specified can.identity type_is
        (counter_small w.serving Serving w.history inv.serving.draws) control_small user_small number_small

    request_differs : IsUnsent Serving (Create_session_request q)
    request_differs m sent control text =
        let like = request_like m q control text in
        let was = subst (λ k. HasSent w.history Serving k) like.is sent in
        let short =
        request_short w.serving.node spec r1.control r1.user r1.number serving_is specified can.identity type_is
        (counter_small w.serving Serving w.history inv.serving.draws) control_small user_small number_small in
        let small = owned_small w.serving Serving w.history inv.serving.draws (Create_session_request like.one) like.one.control.teid was (inl refl) in
        let same = same_request_teid like.one q (omega (arith, short)) small control_small like.after in
        unowned w.serving Serving w.history inv.serving.draws (Create_session_request like.one) r1.control was (inl (sym same)) r1.control_free

    abbrev now : CreateSessionResponse
    now = a request_differs

    abbrev at : IsAnswered asked q w.serving.node.counter w.packet.node d2.effect
    at = a2 request_differs

    mid_is : IsConfigured at.mid.config
    mid_is = subst IsConfigured (sym at.ready.config) packet_is

    mid_counter_small : at.mid.counter < 256
    mid_counter_small = omega (arith, at.ready.counter, counter_small w.packet Packet w.history inv.packet.draws)

    control_free : IsFree w.packet.node at.made.control
    control_free = free_before request_differs at.made.control at.made.control_free

    control_there_small : at.made.control < 2 ^ 32
    control_there_small = free_small w.packet Packet w.history inv.packet.draws at.made.control control_free

    user_there_small : at.made.user < 2 ^ 32
    user_there_small = free_small w.packet Packet w.history inv.packet.draws at.made.user (free_before request_differs at.made.user at.made.user_free)

    address_is : IsWritten at.made.address
    address_is = given_written at.mid mid_is spec.pdn at.made.address at.made.given

    response_is : IsSendable (Create_session_response now)
    response_is =
        response_sendable w.serving.node spec r1.control r1.user r1.number serving_is specified can.identity type_is
        (counter_small w.serving Serving w.history inv.serving.draws) control_small user_small number_small at.mid at.made.control at.made.user
        at.made.address mid_is mid_counter_small control_there_small user_there_small address_is

    response_differs : IsUnsent Packet (Create_session_response now)
    response_differs m sent control text =
        let like = response_like m now control text in
        let was = subst (λ k. HasSent w.history Packet k) like.is sent in
        let short =
        response_short w.serving.node spec r1.control r1.user r1.number serving_is specified can.identity type_is
        (counter_small w.serving Serving w.history inv.serving.draws) control_small user_small number_small at.mid at.made.control at.made.user
        at.made.address mid_is mid_counter_small control_there_small user_there_small address_is in
        let names = same_response_teid like.one now (tunnel_end 7 at.made.control at.mid.config.own.control) refl (omega (arith, short)) control_there_small like.after in
        let owns = ap teid_in names.control in
        let small = owned_small w.packet Packet w.history inv.packet.draws (Create_session_response like.one) names.end.teid was (inl owns) in
        unowned w.packet Packet w.history inv.packet.draws (Create_session_response like.one) at.made.control was (inl (owns ∙ ap (λ t. Some t) (names.same small))) control_free

    in_range : Exchanged spec w begun answered opened
    in_range = exchanged request_differs response_differs

    abbrev Adds : Type 0
    Adds = Added request_differs response_differs

    abbrev asked_for : Adds → CreateBearerRequest
    asked_for x = wanted request_differs response_differs x

    added_free : (x : Adds) → IsFree w.packet.node x.adds.user
    added_free x =
        free_before request_differs x.adds.user (record
        { counted = x.adds.user_free.counted; numbered = x.adds.user_free.numbered; undrawn = λ stood. x.adds.user_free.undrawn (inr (inr stood)) })

    added_small : (x : Adds) → x.adds.user < 2 ^ 32
    added_small x = free_small w.packet Packet w.history inv.packet.draws x.adds.user (added_free x)

    added_number : (x : Adds) → x.adds.number < 2 ^ 24
    added_number x = omega (arith, x.adds.number_free.small)

    wanted_is : (x : Adds) → IsSendable (Create_bearer_request (asked_for x))
    wanted_is x =
        let t = asked_template IsTemplate at.mid.config spec.subscriber.access_point x.template mid_is.templates x.is in
        wanted_sendable r1.control x.adds.number spec.subscriber.identity x.template.tft x.template.qos x.adds.user at.mid.config.own.user
        control_small (added_number x) can.identity t.short t.octets t.qos (added_small x) mid_is.user

    -- each message of the answer's datagram can be sent
    said_is : (m : Message) → Among m (said request_differs) → IsSendable m
    said_is m (inl is) = subst IsSendable (sym is) response_is
    said_is m (inr with_it) = ⊎_elim
        (λ alone. absurd (subst (Among m) alone with_it))
        (λ x. subst IsSendable (sym (Among-only m _ (subst (Among m) x.1 with_it))) (wanted_is x.0))
        (go2 request_differs).wanted

    -- and each answer to what went with it, unless it was sent before
    granted_is : (m : Message) → IsGranted request_differs response_differs m → HasSent w.history Serving m ⊎ IsSendable m
    granted_is m g = by g.says
      where
        counter : g.old.counter < 256
        counter = omega (arith, g.counter, counter_small w.serving Serving w.history inv.serving.draws)

        own : IsIp g.old.config.own.user
        own = subst (λ (c : Config). IsIp c.own.user) (sym g.config) serving_is.user

        by : SaysSo (asked_for g.added) (at_serving request_differs response_differs) g.old m → HasSent w.history Serving m ⊎ IsSendable m
        by (inl h) = inl ((inv.serving.knows.held h.0 (subst (Among h.0) g.held h.1)).each m h.2)
        by (inr (inl is)) =
            inr (subst IsSendable (sym is)
            (refusal_sendable at.made.control g.added.adds.number g.old.counter g.added.adds.user at.mid.config.own.user control_there_small
            (added_number g.added) counter (added_small g.added) mid_is.user))
        by (inr (inr (user, identity, free, range, is))) =
            inr (subst IsSendable (sym is)
            (grant_sendable at.made.control g.added.adds.number g.old.counter g.added.adds.user at.mid.config.own.user control_there_small
            (added_number g.added) counter (added_small g.added) mid_is.user identity user g.old.config.own.user range
            (start_small user (w.serving.first + w.serving.restarts) (free.counted ∙ g.counter ∙ inv.serving.draws.counter)) own))

    each_sendable : (role : Role) (m : Message) → HasSent opened.history role m → HasSent w.history role m ⊎ IsSendable m
    each_sendable role m sent = elim (sent_now request_differs response_differs role m sent) [
      | inl was ↦ inl was
      | inr now ↦ ⊎_elim
          (λ is. inr (subst IsSendable (sym is) request_is))
          (λ others. ⊎_elim
          (λ told. inr (said_is m told))
          (λ granted. ⊎_elim (λ was. inl (subst (λ k. HasSent w.history k m) (sym granted.0) was)) (λ can. inr can) (granted_is m granted.1))
          others)
          now
    ]

-- where each message that was sent reads as itself, whatever it carries
pub fair_exchange : (serving packet : Config) (serving_counter packet_counter : ℕ) (events : List Event) (w begun answered opened : World) (spec : Specification)
    → Run (start serving packet serving_counter packet_counter) events w → IsOnePath w.serving.node.config w.packet.node.config → CanExchange w spec
    → Happens w (Does Serving (Create_session spec)) begun → Happens begun (Deliver (length w.datagrams)) answered
    → Happens answered (Deliver (1 + length w.datagrams)) opened → AllRead answered → Exchanged spec w begun answered opened
fair_exchange serving packet sc pc events w begun answered opened spec r path can h1 h2 h3 reads = by_reading serving packet sc pc events w begun answered opened spec r path can h1 h2 h3 reads

pub exchange_made : FairExchange
exchange_made serving packet sc pc events w begun answered opened spec r x =
    in_range serving packet sc pc events w begun answered opened spec r x.path x.can x.begins x.comes x.opens x.serving x.packet x.specified

pub exchange_sendable : ExchangeSendable
exchange_sendable serving packet sc pc events w begun answered opened spec r x =
    each_sendable serving packet sc pc events w begun answered opened spec r x.path x.can x.begins x.comes x.opens x.serving x.packet x.specified

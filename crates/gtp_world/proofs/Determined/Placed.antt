-- What a step needs of a node to be determined stands in each node that is reached, whatever was commanded.
use Rattle.std.proofs.Common.{◌≡◌, ◌≢◌, inl, inr, ⊎_elim, ℕ, false, eqb, List, [], ◌∷◌, Option, Some, None, refl, sym, ◌∙◌, ap, subst}
use Rattle.std.proofs.lemmas.Option.{same_Some}
use Rattle.std.specs.FinMap.{get, insert, remove}
use Rattle.gtp_values.specs.Counter.{age_of}
use Rattle.gtp_values.specs.declared.address.Endpoint.{Endpoint}
use Rattle.gtp_values.specs.declared.counter.Age.{Age}
use Rattle.gtp_values.specs.declared.counter.Age.TheVariants.{Same, Later, Earlier}
use Rattle.gtp_values.specs.declared.qos.Qos.{Qos}
use Rattle.gtp_values.specs.FiniteMap.{FiniteMap, Each, Among}
use Rattle.gtp_values.proofs.Outcomes.{none_some}
use Rattle.gtp_tables.specs.Index.{names}
use Rattle.gtp_machine.specs.MessageType.{answers_type}
use Rattle.gtp_machine.specs.Config.{Template, Config, template_asked}
use Rattle.gtp_machine.specs.Element.{PdnAddress}
use Rattle.gtp_machine.specs.Message.{Echo, CreateSessionRequest, CreateSessionResponse, DeleteSessionRequest, DeleteSessionResponse}
use Rattle.gtp_machine.specs.Message.{CreateBearerRequest, CreateBearerResponse, DeleteBearerRequest, DeleteBearerResponse, Message, Echo_request}
use Rattle.gtp_machine.specs.Message.{Echo_response, Create_session_request, Create_session_response, Delete_session_request, Delete_session_response}
use Rattle.gtp_machine.specs.Message.{Create_bearer_request, Create_bearer_response, Delete_bearer_request, Delete_bearer_response, Packet_data}
use Rattle.gtp_machine.specs.Message.{End_marker, Error_indication, User_echo_request, recovery_of, first_identity}
use Rattle.gtp_machine.specs.declared.role.Role.{Role}
use Rattle.gtp_machine.specs.declared.role.Role.TheVariants.{Serving, Packet}
use Rattle.gtp_machine.specs.Node.{Active, Closing, Session, Bearer, PendingRequest, Arrival, Held, Node, fresh_node}
use Rattle.gtp_machine.specs.Input.{Specification, Command, Create_session, Delete_session, Create_bearer, Delete_bearer, Release_session, Mark_end}
use Rattle.gtp_machine.specs.Input.{Send_echo, Send_user, Move, Resend, Give_up, Forget, ControlReading, Control_message, Faulty, Control_fault}
use Rattle.gtp_machine.specs.Input.{UserReading, User_message, Extension_needed, User_fault, Input, Commanded, Control_came, User_came, Moves_on}
use Rattle.gtp_machine.specs.Input.{Effect}
use Rattle.gtp_machine.specs.Choice.{IsFree, HasSession, HasBearer, HasPending}
use Rattle.gtp_machine.specs.Ordered.{Unless}
use Rattle.gtp_machine.specs.Removal.{finished, without_session, session_closing, is_opened}
use Rattle.gtp_machine.specs.Move.{MoveStep}
use Rattle.gtp_machine.specs.Response.{EchoAnswered}
use Rattle.gtp_machine.specs.Recovery.{peer_restarted, Judges, Weighs, Hears}
use Rattle.gtp_machine.specs.Command.{session_request, pending_session, pending_bearer, pending_dedicated, bearer_request}
use Rattle.gtp_machine.specs.Command.{create_bearer_asked as node_asked, BeginsSession, ClosesSession, ReleasesSession, BeginsBearer, NamesBearer}
use Rattle.gtp_machine.specs.Command.{ClosesBearer, SendsEcho, SendsPacket, CommandStep}
use Rattle.gtp_machine.specs.Answer.{TakesReading, ControlStep}
use Rattle.gtp_machine.proofs.Basics.Versions.{undecoded_leaves}
use Rattle.gtp_machine.specs.Serving.{opened_session, opened_bearer, OpensSession, CreateSessionAnswered, DeleteSessionAnswered, granted_bearer}
use Rattle.gtp_machine.specs.Serving.{MakesBearer, CreateBearerAsked, RemovesBearers, DeleteBearerTaken, DeleteBearerAsked, ServingTakes}
use Rattle.gtp_machine.specs.Packet.{made_session, made_bearer, AnswersWith, MakesSession, CreateSessionAsked, DeleteSessionAsked, FitsCreateBearer}
use Rattle.gtp_machine.specs.Packet.{DescribesBearer, CanOpen, opened_dedicated, OpensBearer, CreateBearerAnswered, DeleteBearerAnswered, PacketTakes}
use Rattle.gtp_machine.specs.User.{Accepts, ended_bearer, default_among, EndCame, UserTaken, UserRead, UserStep}
use Rattle.gtp_machine.specs.Sound.{AreApart}
use Rattle.gtp_machine.specs.Step.{Step, Done, Steps}
use Rattle.gtp_machine.proofs.Basics.FiniteMaps.{found-insert, found-remove, found-empty}
use Rattle.gtp_machine.proofs.Basics.Kinds.{faulted_leaves}
use Rattle.gtp_machine.proofs.Changes.Shrinking.{Shrunk, Shrunk-without, Shrunk-finished, Shrunk-bearer, Shrunk-closing, closing_same, ended_same, removes_each}
use Rattle.gtp_machine.proofs.Determined.Alike.{Fits}
use Rattle.gtp_machine.proofs.Determined.Witnesses.{apart_left}
use Rattle.gtp_gateway.proofs.Left.{BringDrawn}

-- a request that waits: the bearer that it is about was drawn, and where it stands it is of the session that the request is about; and so was the TEID that it
-- brings, where it asks for a bearer
record IsOf (drawn : List ℕ) (bearers : FiniteMap Bearer) (p : PendingRequest) : Type 0 where
  drawn_once : (key : ℕ) → p.bearer ≡ Some key → Among key drawn
  of : (session key : ℕ) (b : Bearer) → p.session ≡ Some session → p.bearer ≡ Some key → get bearers key ≡ Some b → b.session ≡ session
  brings : (r : CreateBearerRequest) → p.request ≡ Create_bearer_request r → Among r.context.user.teid drawn

-- a bearer: its TEID was drawn, and its session's
abbrev IsDrawn : List ℕ → ℕ → Bearer → Type 0
IsDrawn drawn t b = Among t drawn × Among b.session drawn

-- contexts stand under TEIDs that were drawn, an identity names one bearer of a session, and requests wait for what they are about
pub record IsPlaced (node : Node) : Type 0 where
  sessions : Each (λ t (s : Session). Among t node.drawn) node.sessions
  bearers : Each (IsDrawn node.drawn) node.bearers
  apart : AreApart node.bearers
  pending : Each (λ number (p : PendingRequest). IsOf node.drawn node.bearers p) node.pending

pub placed_fits : (node : Node) → IsPlaced node → Fits node
placed_fits node p = record {
  apart = p.apart;
  sessions = λ t s stands free. free (p.sessions t s stands);
  bearers = λ t b stands free. free (p.bearers t b stands).0;
}

pub placed_brings : (node : Node) → IsPlaced node → BringDrawn node
placed_brings node placed n p r waits asks undrawn = undrawn ((placed.pending n p waits).brings r asks)

fresh_placed : (config : Config) (counter : ℕ) → IsPlaced (fresh_node config counter)
fresh_placed config counter = record {
  sessions = λ t s e. absurd (found-empty t s e);
  bearers = λ t b e. absurd (found-empty t b e);
  apart = λ s t a b identity x. absurd (found-empty s a x);
  pending = λ n p e. absurd (found-empty n p e);
}

-- ---- changes

-- what only goes or closes
shrunk_placed : (old new : Node) → Shrunk old new → IsPlaced old → IsPlaced new
shrunk_placed old new s p = record {
  sessions = λ t x e. let was = s.shrinks.sessions t x e in subst (λ k. Among t k) (sym s.drawn) (p.sessions t was.before was.stood);
  bearers = λ t b e.
      let was = s.shrinks.bearers t b e in
      let at = p.bearers t was.before was.stood in
      (subst (λ k. Among t k) (sym s.drawn) at.0, subst (λ k. Among b.session k) (sym s.drawn) (subst (λ k. Among k old.drawn) (sym was.same.session) at.1));
  apart = apart_left old new s.shrinks p.apart;
  pending = λ n q e.
      let was = p.pending n q (s.pending n q e) in
      record {
        drawn_once = λ key is. subst (λ k. Among key k) (sym s.drawn) (was.drawn_once key is);
        of = λ session key b about is stands. let w = s.shrinks.bearers key b stands in w.same.session ∙ was.of session key w.before about is w.stood;
        brings = λ r asks. subst (λ k. Among r.context.user.teid k) (sym s.drawn) (was.brings r asks);
      };
}

-- more TEIDs are drawn
drawn_placed : (node : Node) (more : List ℕ) → ((t : ℕ) → Among t node.drawn → Among t more) → IsPlaced node → IsPlaced (record node { drawn = more })
drawn_placed node more extends p = record {
  sessions = λ t s e. extends t (p.sessions t s e);
  bearers = λ t b e. let at = p.bearers t b e in (extends t at.0, extends b.session at.1);
  apart = p.apart;
  pending =
      λ n q e. let is = p.pending n q e in
      record
      { drawn_once = λ key about. extends key (is.drawn_once key about); of = is.of; brings = λ r asks. extends r.context.user.teid (is.brings r asks) };
}

-- a session comes or is replaced
session_placed : (node : Node) (key : ℕ) (s : Session) → Among key node.drawn → IsPlaced node → IsPlaced (record node { sessions = insert node.sessions key s })
session_placed node key s own p = record {
  sessions = λ t x e. ⊎_elim (λ same. subst (λ k. Among k node.drawn) (sym same.0) own) (λ other. p.sessions t x other.1) (found-insert node.sessions key s t x e);
  bearers = p.bearers;
  apart = p.apart;
  pending = p.pending;
}

-- a bearer comes or is replaced: no other of its session has its identity, and what waits for it is about its session
module _ (node : Node) (key : ℕ) (b : Bearer)
    (unused : (t : ℕ) (a : Bearer) (identity : ℕ) → get node.bearers t ≡ Some a → t ≢ key → a.session ≡ b.session → a.identity ≡ Some identity
    → b.identity ≡ Some identity → ⊥) where
  apart_after : AreApart node.bearers → AreApart (insert node.bearers key b)
  apart_after apart s t x y identity ex ey same ix iy = elim (found-insert node.bearers key b s x ex) [
    | inl first ↦ elim (found-insert node.bearers key b t y ey) [
      | inl second ↦ first.0 ∙ sym second.0
      | inr second ↦ absurd (unused t y identity second.1 second.0 (sym same ∙ sym (ap (λ (k : Bearer). k.session) first.1)) iy (ap (λ (k : Bearer). k.identity) first.1 ∙ ix))
    ]
    | inr first ↦ elim (found-insert node.bearers key b t y ey) [
      | inl second ↦ absurd (unused s x identity first.1 first.0 (same ∙ sym (ap (λ (k : Bearer). k.session) second.1)) ix (ap (λ (k : Bearer). k.identity) second.1 ∙ iy))
      | inr second ↦ apart s t x y identity first.1 second.1 same ix iy
    ]
  ]

  bearer_placed : Among key node.drawn → Among b.session node.drawn
      → ((number : ℕ) (q : PendingRequest) (session : ℕ) → get node.pending number ≡ Some q → q.session ≡ Some session → q.bearer ≡ Some key
      → b.session ≡ session) → IsPlaced node → IsPlaced (record node { bearers = insert node.bearers key b })
  bearer_placed own of waits p = record {
    sessions = p.sessions;
    bearers =
        λ t x e. ⊎_elim (λ same. (subst (λ k. Among k node.drawn) (sym same.0) own, subst (λ (k : Bearer). Among k.session node.drawn) same.1 of))
        (λ other. p.bearers t x other.1) (found-insert node.bearers key b t x e);
    apart = apart_after p.apart;
    pending = λ n q e. let is = p.pending n q e in record {
      drawn_once = is.drawn_once;
      of = λ session k x about names stands. ⊎_elim
          (λ same. ap (λ (y : Bearer). y.session) (sym same.1) ∙ waits n q session e about (names ∙ ap (λ y. Some y) same.0))
          (λ other. is.of session k x about names other.1)
          (found-insert node.bearers key b k x stands);
      brings = is.brings;
    };
  }

-- a request waits
asks_placed : (node : Node) (number : ℕ) (q : PendingRequest) → IsOf node.drawn node.bearers q → IsPlaced node → IsPlaced (record node { pending = insert node.pending number q })
asks_placed node number q is p = record {
  sessions = p.sessions;
  bearers = p.bearers;
  apart = p.apart;
  pending = λ n x e. ⊎_elim (λ same. subst (λ k. IsOf node.drawn node.bearers k) same.1 is) (λ other. p.pending n x other.1) (found-insert node.pending number q n x e);
}

-- a request waits no more
answered_placed : (node : Node) (number : ℕ) → IsPlaced node → IsPlaced (record node { pending = remove node.pending number })
answered_placed node number p = record { sessions = p.sessions; bearers = p.bearers; apart = p.apart; pending = λ n x e. p.pending n x (found-remove node.pending number n x e).1 }

-- other answers are held
held_placed : (node : Node) (held : List Held) → IsPlaced node → IsPlaced (record node { held = held })
held_placed node held p = record { sessions = p.sessions; bearers = p.bearers; apart = p.apart; pending = p.pending }

-- another counter is known
known_placed : (node : Node) (known : Option ℕ) → IsPlaced node → IsPlaced (record node { known = known })
known_placed node known p = record { sessions = p.sessions; bearers = p.bearers; apart = p.apart; pending = p.pending }

-- a new session comes with its default bearer
module _ (node : Node) (control user : ℕ) (s : Session) (b : Bearer) (control_free : IsFree node control) (user_free : IsFree node user) (of : b.session ≡ control) (p : IsPlaced node) where
  pub session_comes : IsPlaced (record node { drawn = user ∷ control ∷ node.drawn; sessions = insert node.sessions control s; bearers = insert node.bearers user b })
  session_comes =
      bearer_placed (record node { drawn = user ∷ control ∷ node.drawn; sessions = insert node.sessions control s }) user b
      (λ t a identity stands other same has also. control_free.undrawn (subst (λ k. Among k node.drawn) (same ∙ of) (p.bearers t a stands).1))
      (inl refl)
      (inr (inl of))
      (λ number q session waits about names. absurd (user_free.undrawn ((p.pending number q waits).drawn_once user names)))
      (session_placed (record node { drawn = user ∷ control ∷ node.drawn }) control s (inr (inl refl))
      (drawn_placed node (user ∷ control ∷ node.drawn) (λ t among. inr (inr among)) p))

-- a new bearer of a session
module _ (node : Node) (user : ℕ) (b : Bearer) (free : IsFree node user) (of : Among b.session node.drawn)
    (unused : (t : ℕ) (a : Bearer) (identity : ℕ) → get node.bearers t ≡ Some a → a.session ≡ b.session → a.identity ≡ Some identity
    → b.identity ≡ Some identity → ⊥) (p : IsPlaced node) where
  pub bearer_comes : IsPlaced (record node { drawn = user ∷ node.drawn; bearers = insert node.bearers user b })
  bearer_comes =
      bearer_placed (record node { drawn = user ∷ node.drawn }) user b
      (λ t a identity stands other same has also. unused t a identity stands same has also)
      (inl refl)
      (inr of)
      (λ number q session waits about names. absurd (free.undrawn ((p.pending number q waits).drawn_once user names)))
      (drawn_placed node (user ∷ node.drawn) (λ t among. inr among) p)

-- ---- rules

-- each effect of the rule leaves its node so
abbrev Leaves : (Effect → Type 0) → Type 0
Leaves Rule = (e : Effect) → Rule e → IsPlaced e.node

module _ {P : Type 0} {Fails : Effect → Type 0} where
  unless : {Next : P → Effect → Type 0} → Leaves Fails → ((p : P) → Leaves (Next p)) → Leaves (λ e. Unless P (Fails e) (λ p. Next p e))
  unless fails next e (inl f) = fails e f.1
  unless fails next e (inr n) = next n.0 e n.1

says : {f : Effect} → IsPlaced f.node → Leaves (λ e. e ≡ f)
says {f} placed e is = subst (λ (k : Effect). IsPlaced k.node) (sym is) placed

-- a request that asks for no bearer
abbrev AsksNone : Message → Type 0
AsksNone (Create_bearer_request r) = ⊥
AsksNone m = Unit {0}

asks_none : (m : Message) (r : CreateBearerRequest) → AsksNone m → m ≡ Create_bearer_request r → ⊥
asks_none m r none is = subst AsksNone is none

-- a request that is about no bearer
of_none : (drawn : List ℕ) (bearers : FiniteMap Bearer) (q : PendingRequest) → AsksNone q.request → q.bearer ≡ None → IsOf drawn bearers q
of_none drawn bearers q asks none = record {
  drawn_once = λ key is. absurd (none_some key (sym none ∙ is));
  of = λ session key b about is stands. absurd (none_some key (sym none ∙ is));
  brings = λ r is. absurd (asks_none q.request r asks is);
}

-- a request that is about this bearer of this session
of_one : (drawn : List ℕ) (bearers : FiniteMap Bearer) (session key : ℕ) (request : Message)
    → ((r : CreateBearerRequest) → request ≡ Create_bearer_request r → Among r.context.user.teid drawn) → Among key drawn
    → ((b : Bearer) → get bearers key ≡ Some b → b.session ≡ session)
    → IsOf drawn bearers (record { session = Some session; bearer = Some key; request = request })
of_one drawn bearers session key request brings own of = record {
  drawn_once = λ k is. subst (λ n. Among n drawn) (same_Some key k is) own;
  of = λ s k b about is stands. of b (ap (λ n. get bearers n) (same_Some key k is) ∙ stands) ∙ same_Some session s about;
  brings = brings;
}

-- a new dedicated bearer comes, and the request for it waits
module _ (node : Node) (session user : ℕ) (r : CreateBearerRequest) (free : IsFree node user) (of : Among session node.drawn) (named : r.context.user.teid ≡ user) (p : IsPlaced node) where
  -- the new bearer is of its session
  of_new : (b : Bearer) → get (insert node.bearers user (pending_dedicated session)) user ≡ Some b → b.session ≡ session
  of_new b stands = ⊎_elim (λ same. ap (λ (k : Bearer). k.session) (sym same.1)) (λ other. absurd (other.0 refl)) (found-insert node.bearers user (pending_dedicated session) user b stands)

  bearer_begun : IsPlaced (node_asked node session r user)
  bearer_begun =
      asks_placed _ r.number _
      (of_one _ _ session user _ (λ x is. let same : r ≡ x = cc is in inl (ap (λ (k : CreateBearerRequest). k.context.user.teid) (sym same) ∙ named)) (inl refl) of_new)
      (bearer_comes node user (pending_dedicated session) free of (λ t a identity stands same has also. none_some identity also) p)

module _ (old : Node) (p : IsPlaced old) where
  -- ---- commands

  begins_session : (spec : Specification) → Leaves (BeginsSession old spec)
  begins_session spec e r =
      let q = session_request old spec r.control r.user r.number in
      says (asks_placed _ r.number _ (of_none _ _ _ tt refl) (session_comes old r.control r.user (pending_session q) (pending_bearer r.control q) r.control_free r.user_free refl p)) e r.gives

  begins_bearer : (session : ℕ) (at : HasSession old session) (tft : List ℕ) (qos : Qos) → Leaves (BeginsBearer old session at.session tft qos)
  begins_bearer session at tft qos e r =
      says (bearer_begun old session r.user (bearer_request old at.session tft qos r.user r.number) r.user_free (p.sessions session at.session at.stands) refl p) e r.gives

  closing_placed : (session : ℕ) (at : HasSession old session) → at.session.state ≡ Active → IsPlaced (session_closing old session at.session)
  closing_placed session at active = shrunk_placed old (session_closing old session at.session) (Shrunk-closing old session at.session at.stands active) p

  closes_session : (session : ℕ) (at : HasSession old session) → at.session.state ≡ Active → Leaves (ClosesSession old session at.session)
  closes_session session at active e r = says (asks_placed _ r.number _ (of_none _ _ _ tt refl) (closing_placed session at active)) e r.gives

  releases_session : (session : ℕ) (at : HasSession old session) → at.session.state ≡ Active → Leaves (ReleasesSession old session at.session)
  releases_session session at active e r = says (asks_placed _ r.number _ (of_none _ _ _ tt refl) (closing_placed session at active)) e r.gives

  -- a bearer changes, but stays the same
  closes_bearer : (session : ℕ) (at : Session) (identity : ℕ) (named : NamesBearer old session identity) → Leaves (ClosesBearer old session at identity named.key named.at.bearer)
  closes_bearer session at identity named e r =
      let closed : Bearer = record named.at.bearer { state = Closing } in
      says (asks_placed _ r.number _
      (of_one _ _ session named.key _ (λ x is. absurd (cc is)) (p.bearers named.key named.at.bearer named.at.stands).0
      (λ b stands. ⊎_elim (λ same. ap (λ (k : Bearer). k.session) (sym same.1) ∙ named.of) (λ other. absurd (other.0 refl)) (found-insert old.bearers named.key closed named.key b stands)))
      (shrunk_placed old _ (Shrunk-bearer old named.key named.at.bearer closed named.at.stands (closing_same named.at.bearer)) p)) e r.gives

  ends_placed : (key : ℕ) (at : HasBearer old key) → IsPlaced (record old { bearers = insert old.bearers key (ended_bearer at.bearer) })
  ends_placed key at = shrunk_placed old _ (Shrunk-bearer old key at.bearer (ended_bearer at.bearer) at.stands (ended_same at.bearer)) p

  sends_echo : Leaves (SendsEcho old)
  sends_echo e r = says (asks_placed old r.number _ (of_none _ _ _ tt refl) p) e r.gives

  sends_packet : (at : Bearer) (payload : List ℕ) → Leaves (SendsPacket old at payload)
  sends_packet at payload e r = says p e r.gives

  command : (role : Role) (c : Command) → Leaves (CommandStep role c old)
  command Packet (Create_session spec) = says p
  command Serving (Create_session spec) = unless (says p) (λ room. unless (says p) (λ draws. unless (says p) (λ few. begins_session spec)))
  command Packet (Delete_session session) = says p
  command Serving (Delete_session session) = unless (says p) (λ at. unless (says p) (λ active. unless (says p) (λ few. closes_session session at active)))
  command Serving (Create_bearer session tft qos) = says p
  command Packet (Create_bearer session tft qos) = unless (says p) (λ at. unless (says p) (λ active. unless (says p) (λ draws. unless (says p) (λ few. begins_bearer session at tft qos))))
  command Serving (Delete_bearer session identity) = says p
  command Packet (Delete_bearer session identity) =
      unless (says p)
      (λ at. unless (says p) (λ named. unless (says p) (λ active. unless (says p) (λ few. closes_bearer session at.session identity named))))
  command Serving (Release_session session) = says p
  command Packet (Release_session session) = unless (says p) (λ at. unless (says p) (λ active. unless (says p) (λ few. releases_session session at active)))
  command Serving (Mark_end bearer) = says p
  command Packet (Mark_end bearer) = unless (says p) (λ at. unless (says p) (λ active. unless (says p) (λ before. says (ends_placed bearer at))))
  command role Send_echo = unless (says p) (λ few. sends_echo)
  command role (Send_user bearer payload) = unless (says p) (λ at. unless (says p) (λ active. unless (says p) (λ goes. unless (says p) (λ short. sends_packet at.bearer payload))))

  -- ---- the user plane

  accepts : (target : ℕ) (payload : List ℕ) (at : Bearer) → Leaves (Accepts old target payload at)
  accepts target payload at e r = says p e r.gives

  end_came : (role : Role) (target : ℕ) → Leaves (EndCame role target old)
  end_came Serving target = unless (says p) (λ at. unless (says p) (λ active. says (ends_placed target at)))
  end_came Packet target = says p

  user_taken : (role : Role) (source : Endpoint) (m : Message) → Leaves (UserTaken role source m old)
  user_taken role source (Packet_data target payload) = unless (says p) (λ at. unless (says p) (λ active. unless (says p) (λ comes. accepts target payload at.bearer)))
  user_taken role source (End_marker target) = end_came role target
  user_taken role source (Error_indication remote address) =
      unless (says p)
      (λ named. says (shrunk_placed old _ (Shrunk-without (λ t. default_among remote t old.bearers) (λ t. names remote (get old.bearers t)) old) p))
  user_taken role source (User_echo_request number) = says p
  user_taken role source m = says p

  user_read : (role : Role) (source : Endpoint) (reading : UserReading) → Leaves (UserRead role source reading old)
  user_read role source (User_message m) = user_taken role source m
  user_read role source Extension_needed = says p
  user_read role source (User_fault fault) = says p

  user_step : (role : Role) (source : Endpoint) (reading : UserReading) → Leaves (UserStep role source reading old)
  user_step role source reading = unless (says p) (λ peer. user_read role source reading)

  -- ---- moves

  finished_placed : (number : ℕ) (q : PendingRequest) → IsPlaced (finished old number q)
  finished_placed number q = shrunk_placed old (finished old number q) (Shrunk-finished old number q.session q.bearer) p

  move : (m : Move) → Leaves (MoveStep old m)
  move (Resend number) e r = says p e r.gives
  move (Give_up number) e r = says (finished_placed number r.at.pending) e r.gives
  move (Forget request) e r = says (held_placed old r.rest p) e r.gives

  -- ---- responses

  echo_answered : (a : Echo) → Leaves (EchoAnswered a old)
  echo_answered a = unless (says p) (λ at. unless (says p) (λ fits. says (finished_placed a.number at.pending)))

  opens_session : (a : CreateSessionResponse) (q : CreateSessionRequest) (session : ℕ) (at : HasSession old session) (address : PdnAddress) → Leaves (OpensSession old a q session at.session address)
  opens_session a q session at address e r =
      let key = q.context.user.teid in
      let b = r.default.bearer in
      let drawn = p.bearers key b r.default.stands in
      says (answered_placed _ a.number (bearer_placed (record old { sessions = insert old.sessions session (opened_session at.session a address) }) key (opened_bearer b a)
      (λ t x identity stands other same has also. other (p.apart t key x b identity stands r.default.stands same has also))
      drawn.0
      drawn.1
      (λ number w about waits names is. (p.pending number w waits).of about key b names is r.default.stands)
      (session_placed old session (opened_session at.session a address) (p.sessions session at.session at.stands) p))) e r.gives

  create_session_answered : (a : CreateSessionResponse) → Leaves (CreateSessionAnswered a old)
  create_session_answered a =
      unless (says p) (λ at.
      unless (says p) (λ fits.
      unless (says (finished_placed a.number at.pending)) (λ accepts.
      unless (says p) (λ new.
      unless (says (finished_placed a.number at.pending)) (λ both.
      opens_session a fits.request fits.session new.at new.address)))))

  delete_session_answered : (d : DeleteSessionResponse) → Leaves (DeleteSessionAnswered d old)
  delete_session_answered d = unless (says p) (λ at. unless (says p) (λ fits. says (finished_placed d.number at.pending)))

  delete_bearer_answered : (d : DeleteBearerResponse) → Leaves (DeleteBearerAnswered d old)
  delete_bearer_answered d = unless (says p) (λ at. unless (says p) (λ fits. says (finished_placed d.number at.pending)))

  opens_bearer : (x : CreateBearerResponse) (at : HasPending old x.number) (fits : FitsCreateBearer at.pending x) (new : DescribesBearer x)
      → CanOpen old fits.session new.context.identity → Leaves (OpensBearer old x fits.bearer)
  opens_bearer x at fits new can e r =
      let b = r.at.bearer in
      let drawn = p.bearers fits.bearer b r.at.stands in
      let of : b.session ≡ fits.session = (p.pending x.number at.pending at.waits).of fits.session fits.bearer b fits.about fits.about_bearer r.at.stands in
      let identity : first_identity x.contexts ≡ Some new.context.identity = ap first_identity new.alone in
      says (answered_placed _ x.number (bearer_placed old fits.bearer (opened_dedicated b x)
      (λ t a i stands other same has also. can.unused t a stands (same ∙ of) (has ∙ (sym also ∙ identity)))
      drawn.0
      drawn.1
      (λ number w about waits names is. (p.pending number w waits).of about fits.bearer b names is r.at.stands)
      p)) e r.gives

  create_bearer_answered : (x : CreateBearerResponse) → Leaves (CreateBearerAnswered x old)
  create_bearer_answered x =
      unless (says p) (λ at.
      unless (says p) (λ fits.
      unless (says (finished_placed x.number at.pending)) (λ accepts.
      unless (says p) (λ new.
      unless (says (finished_placed x.number at.pending)) (λ both.
      unless (says p) (λ returned.
      unless (says (finished_placed x.number at.pending)) (λ can.
      opens_bearer x at fits new can)))))))

  -- ---- requests

  module _ (request : Arrival) where
    makes_bearer : (q : CreateBearerRequest) (at : HasSession old q.header) → Leaves (MakesBearer request old q at.session)
    makes_bearer q at e r =
        says (held_placed _ _ (bearer_comes old r.user (granted_bearer q r.identity) r.user_free (p.sessions q.header at.session at.stands)
        (λ t a identity stands same has also. r.identity_free.unused t a stands same (has ∙ sym also)) p)) e r.gives

    create_bearer_asked : (q : CreateBearerRequest) → Leaves (CreateBearerAsked request q old)
    create_bearer_asked q =
        unless (says p) (λ room.
        unless (says (held_placed old _ p)) (λ at.
        unless (says p) (λ active.
        unless (says (held_placed old _ p)) (λ one.
        unless (says (held_placed old _ p)) (λ linked.
        unless (says (held_placed old _ p)) (λ free.
        makes_bearer q at))))))

    without_placed : (session : ℕ) → IsPlaced (without_session old session)
    without_placed session = shrunk_placed old _ (Shrunk-without (λ t. eqb t session) (λ t. false) old) p

    removes_bearers : (d : DeleteBearerRequest) (s : Session) → Leaves (RemovesBearers request d old s)
    removes_bearers d s e r = says (held_placed r.left _ (shrunk_placed old r.left (removes_each d.header d.identities old r.contexts r.left r.removes) p)) e r.gives

    delete_bearer_taken : (d : DeleteBearerRequest) (linked : Option ℕ) (s : Session) → Leaves (DeleteBearerTaken request d linked old s)
    delete_bearer_taken d (Some identity) s = unless (says (held_placed old _ p)) (λ linked. says (held_placed _ _ (without_placed d.header)))
    delete_bearer_taken d None s = unless (says (held_placed old _ p)) (λ few. removes_bearers d s)

    delete_bearer_asked : (d : DeleteBearerRequest) → Leaves (DeleteBearerAsked request d old)
    delete_bearer_asked d = unless (says p) (λ room. unless (says (held_placed old _ p)) (λ at. unless (says p) (λ opened. delete_bearer_taken d d.linked at.session)))

    -- the answer to a session that is made, alone or with the request for the template's bearer
    answers_with : (template : Option Template) (a : CreateSessionResponse) (cause session : ℕ) (s : Session) (made : Node) → Among session made.drawn
        → IsPlaced made → Leaves (AnswersWith template request a cause session s made)
    answers_with None a cause session s made own placed = says (held_placed made _ placed)
    answers_with (Some t) a cause session s made own placed = unless (says (held_placed made _ placed)) (λ can e r.
        says (held_placed _ _ (bearer_begun made session r.user (bearer_request made s t.tft t.qos r.user r.number) r.user_free own refl placed)) e r.gives)

    makes_session : (q : CreateSessionRequest) → Leaves (MakesSession request old q)
    makes_session q e r =
        answers_with (template_asked old.config q.access_point) _ _ r.control _ _ (inr (inl refl))
        (session_comes old r.control r.user (made_session q r.address) (made_bearer q r.control) r.control_free r.user_free refl p) e r.gives

    create_session_asked : (q : CreateSessionRequest) → Leaves (CreateSessionAsked request q old)
    create_session_asked q =
        unless (says p) (λ room.
        unless (says (held_placed old _ p)) (λ one.
        unless (says (held_placed old _ p)) (λ identity.
        unless (says (held_placed old _ p)) (λ configured.
        unless (says (held_placed old _ p)) (λ pdn.
        unless (says (held_placed old _ p)) (λ few.
        unless (says (held_placed old _ p)) (λ address.
        makes_session q)))))))

    delete_session_asked : (d : DeleteSessionRequest) → Leaves (DeleteSessionAsked request d old)
    delete_session_asked d = unless (says p) (λ room. unless (says (held_placed old _ p)) (λ at. unless (says (held_placed old _ p)) (λ linked. says (held_placed _ _ (without_placed d.header)))))

    serving_takes : (m : Message) → Leaves (ServingTakes request m old)
    serving_takes (Echo_request q) = says p
    serving_takes (Echo_response a) = echo_answered a
    serving_takes (Create_session_response a) = create_session_answered a
    serving_takes (Delete_session_response d) = delete_session_answered d
    serving_takes (Create_bearer_request q) = create_bearer_asked q
    serving_takes (Delete_bearer_request d) = delete_bearer_asked d
    serving_takes m = says p

    packet_takes : (m : Message) → Leaves (PacketTakes request m old)
    packet_takes (Echo_request q) = says p
    packet_takes (Echo_response a) = echo_answered a
    packet_takes (Create_session_request q) = create_session_asked q
    packet_takes (Delete_session_request d) = delete_session_asked d
    packet_takes (Create_bearer_response x) = create_bearer_answered x
    packet_takes (Delete_bearer_response d) = delete_bearer_answered d
    packet_takes m = says p

-- ---- the peer's counter

module _ (Takes : Node → Effect → Type 0) (takes : (node : Node) → IsPlaced node → Leaves (Takes node)) (old : Node) (p : IsPlaced old) where
  restarted_placed : (counter : ℕ) → IsPlaced (peer_restarted old counter)
  restarted_placed counter = shrunk_placed _ _ (Shrunk-without (λ t. is_opened (get old.sessions t)) (λ t. false) (record old { known = Some counter })) (known_placed old (Some counter) p)

  judges : (counter : ℕ) (age : Age) → Leaves (Judges Takes old counter age)
  judges counter Same = takes old p
  judges counter Later = takes (peer_restarted old counter) (restarted_placed counter)
  judges counter Earlier = says p

  weighs : (counter : ℕ) (known : Option ℕ) → Leaves (Weighs Takes old counter known)
  weighs counter None = takes (record old { known = Some counter }) (known_placed old (Some counter) p)
  weighs counter (Some known) = judges counter (age_of known counter)

  hears : (told : Option ℕ) → Leaves (Hears Takes old told)
  hears None e r = takes old p e r
  hears (Some counter) e (x, taken, is) = says (weighs counter old.known x taken) e is

module _ (role : Role) (Takes : Arrival → Message → Node → Effect → Type 0) (request : Arrival)
    (rows : (m : Message) (node : Node) → IsPlaced node → Leaves (Takes request m node)) (old : Node) (p : IsPlaced old) where
  reads : (reading : ControlReading) → Leaves (TakesReading role Takes reading request old)
  reads (Control_message m) e r = unless (says p) (λ taken. hears (Takes request m) (rows m) old p (recovery_of m)) e r
  reads (Faulty f) e r = subst (λ n. IsPlaced n) (sym (faulted_leaves (answers_type role f.kind) request f old e r)) p
  reads (Control_fault fault) e r = says (subst (λ n. IsPlaced n) (sym (undecoded_leaves fault request old)) p) e r

  control : (reading : ControlReading) → Leaves (ControlStep (TakesReading role Takes reading) request old)
  control reading = unless (says p) (λ peer e r. ⊎_elim (λ again. says p e again.gives) (λ new. reads reading e new.1) r)

-- ---- all together

step_placed : (role : Role) (old : Node) (input : Input) → IsPlaced old → Leaves (Step role old input)
step_placed role old (Commanded c) p = command old p role c
step_placed Serving old (Control_came request reading) p = control Serving ServingTakes request (λ m node s. serving_takes node s request m) old p reading
step_placed Packet old (Control_came request reading) p = control Packet PacketTakes request (λ m node s. packet_takes node s request m) old p reading
step_placed role old (User_came source reading) p = user_step old p role source reading
step_placed role old (Moves_on m) p = move old p m

placed_from : (role : Role) (old : Node) (log : List Done) (new : Node) → IsPlaced old → Steps role old log new → IsPlaced new
placed_from role old [] new p is = subst (λ n. IsPlaced n) (sym is) p
placed_from role old (done ∷ log) new p steps = placed_from role done.effect.node log new (step_placed role old done.input p done.effect steps.1) steps.2

pub reached_placed : (role : Role) (config : Config) (counter : ℕ) (log : List Done) (node : Node) → Steps role (fresh_node config counter) log node → IsPlaced node
reached_placed role config counter log node steps = placed_from role (fresh_node config counter) log node (fresh_placed config counter) steps

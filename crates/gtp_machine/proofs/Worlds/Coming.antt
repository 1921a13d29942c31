-- How a datagram of one message comes to a gateway, how one of two does, and what a property must be kept by to hold in each run.
use Rattle.std.proofs.Common.{◌≡◌, ◌⊎◌, inl, inr, ⊎_elim, ℕ, ◌<◌, List, [], ◌∷◌, ◌++◌, Some, slice_get, refl, sym, ap, subst}
use Rattle.gtp_values.specs.FiniteMap.{Among}
use Rattle.gtp_machine.specs.Config.{Addresses, Config}
use Rattle.gtp_machine.specs.Message.{CreateSessionResponse, CreateBearerRequest, Message, Create_session_response, Create_bearer_request, Other_control, Plane, Control, plane_of}
use Rattle.gtp_machine.specs.Node.{Role, Serving, Packet, Arrival, Node}
use Rattle.gtp_machine.specs.Step.{TakesPair, Step, Done}
use Rattle.gtp_machine.specs.Input.{Input, Command, Commanded, Control_came, Control_message, Effect, messages, datagrams}
use Rattle.gtp_machine.specs.Tick.{ticked}
use Rattle.gtp_machine.specs.Exchange.{CameTo}
use Rattle.gtp_machine.specs.Reading.{Alone, Both}
use Rattle.gtp_machine.specs.Spelling.{spelled_all, datagram_plane}
use Rattle.gtp_machine.specs.World.{World, signed, Note, SentDatagram, HasSent, Event, Does, Tick, Deliver, Cut, Restart, Happens, Run, TicksOn}
use Rattle.gtp_machine.specs.World.{with_side, with_steps, restarted, marked_late, arrival, cut_on, Moves, MovesTwice, ComesTo, Delivers, IsLateOn}
use Rattle.gtp_machine.specs.World.{other, side_of, come_from, delivered_on, first_came, second_came, logged, noted, moved, note_of}
use Rattle.gtp_machine.specs.Ordered.{Unless}
use Rattle.gtp_machine.proofs.Basics.Datagrams.{IsFew, IsSentWhole}
use Rattle.gtp_machine.proofs.Basics.Facts.{one_more}

-- what holds of each datagram of one message and of each pair holds of those that are sent
pub by_few : (P : List Message → Type 0) → ((m : Message) → P (m ∷ []))
    → ((a : CreateSessionResponse) (r : CreateBearerRequest) → P (Create_session_response a ∷ Create_bearer_request r ∷ []))
    → (datagram : List Message) → IsFew datagram → P datagram
by_few P one two [] few = absurd few
by_few P one two (m ∷ []) few = one m
by_few P one two (m ∷ n ∷ []) few = subst P (λ i. sym few.first i ∷ sym few.second i ∷ []) (two few.answer few.request)
by_few P one two (m ∷ n ∷ k ∷ rest) few = absurd few

-- a pair comes message by message
pub record ComesApart (old : World) (role : Role) (from : Addresses) (a : CreateSessionResponse) (r : CreateBearerRequest) (new : World) : Type 0 where
  pub by : role ≡ Serving
  pub peer : from.control ≡ (side_of old role).node.config.peer.control
  pub moves : MovesTwice old role (first_came from (Create_session_response a)) (second_came from (Create_bearer_request r)) new

-- a pair comes as a whole
abbrev pub ComesWhole : World → Role → Addresses → CreateSessionResponse → CreateBearerRequest → World → Type 0
ComesWhole old role from a r new = Moves old role (Control_came (come_from from (spelled_all (Create_session_response a ∷ Create_bearer_request r ∷ []))) (Control_message (Other_control 0))) new

module _ (old : World) (role : Role) (from : Addresses) (new : World) where
  pub alone_comes : (m : Message) → ComesTo old role from (m ∷ []) new → Moves old role (delivered_on (plane_of m) from (m ∷ [])) new
  alone_comes m (inl d) = d.1
  alone_comes m (inr d) = absurd (cc d.0.is)

  module _ (a : CreateSessionResponse) (r : CreateBearerRequest) where
    taken_apart : (pair : TakesPair role (side_of old role).node.config
        (come_from from (spelled_all (Create_session_response a ∷ Create_bearer_request r ∷ [])))
        (Both (Create_session_response a) (Create_bearer_request r)))
        → MovesTwice old role (first_came from (Create_session_response pair.answer)) (second_came from (Create_bearer_request pair.asked)) new
        → ComesApart old role from a r new
    taken_apart pair moves =
        let answer : pair.answer ≡ a = cc pair.is in
        let asked : pair.asked ≡ r = cc pair.is in
        record {
          by = pair.by;
          peer = pair.peer;
          moves =
              subst (λ k. MovesTwice old role (first_came from (Create_session_response a)) (second_came from (Create_bearer_request k)) new) asked
              (subst
              (λ k. MovesTwice old role (first_came from (Create_session_response k)) (second_came from (Create_bearer_request pair.asked)) new)
              answer moves);
        }

    pub pair_comes : ComesTo old role from (Create_session_response a ∷ Create_bearer_request r ∷ []) new → ComesWhole old role from a r new ⊎ ComesApart old role from a r new
    pair_comes (inl d) = inl d.1
    pair_comes (inr d) = inr (taken_apart d.0 d.1)

    -- from the peer it comes so to the serving gateway
    pub peer_comes : role ≡ Serving → from.control ≡ (side_of old role).node.config.peer.control
        → ComesTo old role from (Create_session_response a ∷ Create_bearer_request r ∷ []) new → ComesApart old role from a r new
    peer_comes by peer (inl d) = absurd (d.0 (record { by = by; peer = peer; answer = a; asked = r; is = refl }))
    peer_comes by peer (inr d) = taken_apart d.0 d.1

-- a pair never comes to the packet gateway message by message
pub to_packet : (w : World) (from : Addresses) (a : CreateSessionResponse) (r : CreateBearerRequest) (new : World)
    → ComesTo w Packet from (Create_session_response a ∷ Create_bearer_request r ∷ []) new → ComesWhole w Packet from a r new
to_packet w from a r new c = ⊎_elim (λ whole. whole) (λ apart. absurd (cc apart.by)) (pair_comes w Packet from new a r c)

-- the steps in which a gateway takes two messages
abbrev pub both_steps : Node → Input → Input → Effect → Effect → List Done
both_steps node first second e next = record { before = node; input = first; effect = e } ∷ record { before = e.node; input = second; effect = next } ∷ []

-- one message is no pair
pub no_pair : (role : Role) (config : Config) (request : Arrival) (m : Message) → TakesPair role config request (Alone (Control_message m)) → ⊥
no_pair role config request m pair = cc pair.is

-- ---- what a step does with the world

-- the datagrams that were sent, and both gateways
pub record Grown (old : World) (role : Role) (e : Effect) (new : World) : Type 0 where
  pub listed : new.datagrams ≡ old.datagrams ++ signed role (datagrams e.out.sent)
  pub node : (side_of new role).node ≡ e.node
  pub elsewhere : (side_of new (other role)).node ≡ (side_of old (other role)).node

-- and the other logs
pub record IsMoved (old : World) (role : Role) (e : Effect) (new : World) : Type 0 where
  pub grown : Grown old role e new
  pub history : new.history ≡ old.history ++ signed role (messages e.out.sent)
  pub handed : new.handed ≡ old.handed ++ signed role e.out.handed
  pub accepted : new.accepted ≡ old.accepted ++ signed role e.out.accepted
  pub note : CameTo new e.outcome

moved_on_time : (old : World) (role : Role) (e : Effect) (steps : List Done) → IsMoved old role e (logged (noted (moved old role e) (note_of e.outcome e.out)) role steps)
moved_on_time old Serving e steps =
    record {
      grown = record { listed = refl; node = refl; elsewhere = refl };
      history = refl;
      handed = refl;
      accepted = refl;
      note = record { note = _; before = _; notes = refl; is = refl };
    }
moved_on_time old Packet e steps =
    record {
      grown = record { listed = refl; node = refl; elsewhere = refl };
      history = refl;
      handed = refl;
      accepted = refl;
      note = record { note = _; before = _; notes = refl; is = refl };
    }

moved_late : (old : World) (role : Role) (request : Arrival) (e : Effect) (new : World) → IsMoved (marked_late old role request) role e new → IsMoved old role e new
moved_late old Serving request e new m =
    record {
      grown = record { listed = m.grown.listed; node = m.grown.node; elsewhere = m.grown.elsewhere };
      history = m.history;
      handed = m.handed;
      accepted = m.accepted;
      note = m.note;
    }
moved_late old Packet request e new m =
    record {
      grown = record { listed = m.grown.listed; node = m.grown.node; elsewhere = m.grown.elsewhere };
      history = m.history;
      handed = m.handed;
      accepted = m.accepted;
      note = m.note;
    }

pub ticks_moved : (old : World) (role : Role) (new : World) (t : TicksOn old role new) → IsMoved old role (ticked t.out t.after) new
ticks_moved old role new t = subst (IsMoved old role (ticked t.out t.after)) (sym t.becomes) (moved_on_time old role (ticked t.out t.after) _)

-- a gateway takes an input, on time or late
pub record Took (old : World) (role : Role) (input : Input) (new : World) : Type 0 where
  pub effect : Effect
  pub step : Step role (side_of old role).node input effect
  pub moved : IsMoved old role effect new

pub moved_so : (old : World) (role : Role) (input : Input) (new : World) (m : Moves old role input new) → IsMoved old role m.effect new
moved_so old role input new m = subst (IsMoved old role m.effect) (sym m.becomes) (moved_on_time old role m.effect _)

pub took : (old : World) (role : Role) (input : Input) (new : World) → Moves old role input new → Took old role input new
took old role input new m = record { effect = m.effect; step = m.step; moved = moved_so old role input new m }

pub took_late : (old : World) (role : Role) (request : Arrival) (input : Input) (new : World) → Moves (marked_late old role request) role input new → Took old role input new
took_late old Serving request input new m =
    let t = took (marked_late old Serving request) Serving input new m in
    record { effect = t.effect; step = t.step; moved = moved_late old Serving request t.effect new t.moved }
took_late old Packet request input new m =
    let t = took (marked_late old Packet request) Packet input new m in
    record { effect = t.effect; step = t.step; moved = moved_late old Packet request t.effect new t.moved }

-- a datagram of one message comes
pub took_datagram : (old : World) (sender : Role) (m : Message) (new : World) → Delivers old sender (m ∷ []) new
    → Took old (other sender) (delivered_on (plane_of m) (side_of old sender).node.config.own (m ∷ [])) new
took_datagram old sender m new (inl d) = took old (other sender) _ new (alone_comes old (other sender) _ new m d.1)
took_datagram old Serving m new (inr d) = took_late old Packet _ _ new (alone_comes (marked_late old Packet (arrival old.serving.node.config.own m)) Packet _ new m d.1)
took_datagram old Packet m new (inr d) = took_late old Serving _ _ new (alone_comes (marked_late old Serving (arrival old.packet.node.config.own m)) Serving _ new m d.1)

-- the serving gateway takes the messages of a pair, one after the other
pub record TookBoth (old : World) (a : CreateSessionResponse) (r : CreateBearerRequest) (new : World) : Type 0 where
  pub effect : Effect
  pub step : Step Serving old.serving.node (first_came old.packet.node.config.own (Create_session_response a)) effect
  pub next : Effect
  pub follows : Step Serving effect.node (second_came old.packet.node.config.own (Create_bearer_request r)) next
  pub listed : new.datagrams ≡ (old.datagrams ++ signed Serving (datagrams effect.out.sent)) ++ signed Serving (datagrams next.out.sent)
  pub history : new.history ≡ (old.history ++ signed Serving (messages effect.out.sent)) ++ signed Serving (messages next.out.sent)
  pub node : new.serving.node ≡ next.node
  pub elsewhere : new.packet.node ≡ old.packet.node
  pub note : CameTo new effect.outcome

pub took_both : (old : World) (a : CreateSessionResponse) (r : CreateBearerRequest) (new : World)
    → MovesTwice old Serving (first_came old.packet.node.config.own (Create_session_response a)) (second_came old.packet.node.config.own (Create_bearer_request r)) new → TookBoth old a r new
took_both old a r new m = record {
  effect = m.effect;
  step = m.step;
  next = m.next;
  follows = m.follows;
  listed = ap (λ (w : World). w.datagrams) m.becomes;
  history = ap (λ (w : World). w.history) m.becomes;
  node = ap (λ (w : World). w.serving.node) m.becomes;
  elsewhere = ap (λ (w : World). w.packet.node) m.becomes;
  note = record { note = _; before = _; notes = ap (λ (w : World). w.notes) m.becomes; is = refl };
}

pub took_both_late : (old : World) (request : Arrival) (a : CreateSessionResponse) (r : CreateBearerRequest) (new : World)
    → MovesTwice (marked_late old Serving request) Serving (first_came old.packet.node.config.own (Create_session_response a))
    (second_came old.packet.node.config.own (Create_bearer_request r)) new → TookBoth old a r new
took_both_late old request a r new m =
    let t = took_both (marked_late old Serving request) a r new m in
    record {
      effect = t.effect;
      step = t.step;
      next = t.next;
      follows = t.follows;
      listed = t.listed;
      history = t.history;
      node = t.node;
      elsewhere = t.elsewhere;
      note = t.note;
    }

-- the world after a step, with its note and the step
abbrev pub after : World → Role → Input → Effect → World
after w role input e = logged (noted (moved w role e) (note_of e.outcome e.out)) role (record { before = (side_of w role).node; input = input; effect = e } ∷ [])

-- a datagram of one message comes on time, and this is what it gives
module _ (old : World) (sender : Role) (m : Message) (e : Effect) where
  abbrev arriving : Input
  arriving = delivered_on (plane_of m) (side_of old sender).node.config.own (m ∷ [])

  pub arrives : (number : ℕ) → slice_get old.datagrams number ≡ Some (record { role = sender; what = m ∷ [] })
      → (IsLateOn (plane_of m) (side_of old sender).node.config.own (side_of old (other sender)) (m ∷ []) → ⊥)
      → Step (other sender) (side_of old (other sender)).node arriving e → Happens old (Deliver number) (after old (other sender) arriving e)
  arrives number stands timely step =
      inr (
        record { sent = _; is = stands },
        inl (timely, inl (no_pair (other sender) (side_of old (other sender)).node.config _ m, record { effect = e; step = step; becomes = refl })),
      )

infixr 10 ◌⨾◌
-- a rule applies, and then the next one
abbrev pub ◌⨾◌ : {P Fails : Type 0} {Next : P → Type 0} (holds : P) → Next holds → Unless P Fails Next
◌⨾◌ holds next = inr (holds, next)

-- ---- what holds in each run

-- a request whose answer was given up is marked late, and none comes where no delivery was late
pub record IsTimely (w : World) (role : Role) (request : Arrival) : Type 0 where
  pub on_time : w.late ≡ 0 → Among request (side_of w role).forgotten → ⊥
  pub marked : Among request (side_of w role).forgotten → Among request (side_of w role).late_requests

-- what comes to a gateway: a command, a message that the other one sent, a pair as a whole, or first octets of a datagram
pub data Brings (w : World) (role : Role) : Input → Type 0 where
  Orders : (command : Command) → Brings w role (Commanded command)
  Sends : (m : Message) → HasSent w.history (other role) m → (plane_of m ≡ Control → IsTimely w role (arrival (side_of w (other role)).node.config.own m))
      → Brings w role (delivered_on (plane_of m) (side_of w (other role)).node.config.own (m ∷ []))
  Joins : (request : Arrival) → Brings w role (Control_came request (Control_message (Other_control 0)))
  Begins : (plane : Plane) (from : Addresses) (datagram : List Message) (count : ℕ) → Brings w role (cut_on plane from datagram count)

-- P is kept by all that happens where I holds
pub record Walks (I P : World → Type 0) : Type 0 where
  pub notes : (w : World) (note : Note) → P w → P (noted w note)
  pub late : (w : World) (role : Role) (request : Arrival) → I w → P w → P (marked_late w role request)
  pub restarts : (w : World) (role : Role) (note : Note) → I w → P w → (side_of w role).restarts < 127 → P (with_steps (noted (with_side w role (restarted (side_of w role))) note) role [])
  pub ticks : (w : World) (role : Role) (new : World) → I w → P w → TicksOn w role new → P new
  pub moves : (w : World) (role : Role) (input : Input) (new : World) → I w → P w → Brings w role input → Moves w role input new → P new
  pub pairs : (w : World) (a : CreateSessionResponse) (r : CreateBearerRequest) (new : World) → I w → P w → HasSent w.history Packet (Create_session_response a)
      → HasSent w.history Packet (Create_bearer_request r) → IsTimely w Serving (arrival w.packet.node.config.own (Create_bearer_request r))
      → MovesTwice w Serving (first_came w.packet.node.config.own (Create_session_response a)) (second_came w.packet.node.config.own (Create_bearer_request r)) new → P new

timely : (w : World) (role : Role) (from : Addresses) (m : Message) → (IsLateOn (plane_of m) from (side_of w role) (m ∷ []) → ⊥) → plane_of m ≡ Control → IsTimely w role (arrival from m)
timely w role from m on_time control = record { on_time = λ z. in_time; marked = λ gone. absurd (in_time gone) }
  where
    in_time : Among (arrival from m) (side_of w role).forgotten → ⊥
    in_time gone = on_time (subst (λ p. IsLateOn p from (side_of w role) (m ∷ [])) (sym control) gone)

lately : (w : World) (role : Role) (request : Arrival) → IsTimely (marked_late w role request) role request
lately w Serving request = record { on_time = λ z. absurd (one_more w.late z); marked = λ gone. inl refl }
lately w Packet request = record { on_time = λ z. absurd (one_more w.late z); marked = λ gone. inl refl }

module _ (I P : World → Type 0) (late : (w : World) (role : Role) (request : Arrival) → I w → I (marked_late w role request))
    (found : (w : World) → I w → (number : ℕ) (s : SentDatagram) → slice_get w.datagrams number ≡ Some s → IsSentWhole w.history s.role s.what)
    (k : Walks I P) where
  delivers : (w : World) → I w → P w → (sender : Role) (m : Message) → HasSent w.history sender m → (new : World) → Delivers w sender (m ∷ []) new → P new
  delivers w i p Packet m sent new (inl d) = k.moves w Serving _ new i p (Sends m sent (timely w Serving _ m d.0)) (alone_comes w Serving _ new m d.1)
  delivers w i p Packet m sent new (inr d) =
      let a = arrival w.packet.node.config.own m in
      k.moves (marked_late w Serving a) Serving _ new (late w Serving a i) (k.late w Serving a i p) (Sends m sent (λ control. lately w Serving a))
      (alone_comes (marked_late w Serving a) Serving _ new m d.1)
  delivers w i p Serving m sent new (inl d) = k.moves w Packet _ new i p (Sends m sent (timely w Packet _ m d.0)) (alone_comes w Packet _ new m d.1)
  delivers w i p Serving m sent new (inr d) =
      let a = arrival w.serving.node.config.own m in
      k.moves (marked_late w Packet a) Packet _ new (late w Packet a i) (k.late w Packet a i p) (Sends m sent (λ control. lately w Packet a)) (alone_comes (marked_late w Packet a) Packet _ new m d.1)

  pair_to_serving : (w : World) → I w → P w → (a : CreateSessionResponse) (r : CreateBearerRequest) → HasSent w.history Packet (Create_session_response a)
      → HasSent w.history Packet (Create_bearer_request r) → IsTimely w Serving (arrival w.packet.node.config.own (Create_bearer_request r))
      → (new : World) → ComesTo w Serving w.packet.node.config.own (Create_session_response a ∷ Create_bearer_request r ∷ []) new → P new
  pair_to_serving w i p a r a_sent r_sent is_timely new c =
      ⊎_elim
      (λ whole. k.moves w Serving _ new i p (Joins _) whole)
      (λ apart. k.pairs w a r new i p a_sent r_sent is_timely apart.moves)
      (pair_comes w Serving w.packet.node.config.own new a r c)

  delivers_pair : (w : World) → I w → P w → (sender : Role) (a : CreateSessionResponse) (r : CreateBearerRequest) → HasSent w.history sender (Create_session_response a)
      → HasSent w.history sender (Create_bearer_request r) → (new : World) → Delivers w sender (Create_session_response a ∷ Create_bearer_request r ∷ []) new → P new
  delivers_pair w i p Packet a r a_sent r_sent new (inl d) = pair_to_serving w i p a r a_sent r_sent (record { on_time = λ z gone. d.0 gone; marked = λ gone. absurd (d.0 gone) }) new d.1
  delivers_pair w i p Packet a r a_sent r_sent new (inr d) =
      let x = arrival w.packet.node.config.own (Create_bearer_request r) in
      pair_to_serving (marked_late w Serving x) (late w Serving x i) (k.late w Serving x i p) a r a_sent r_sent (lately w Serving x) new d.1
  delivers_pair w i p Serving a r a_sent r_sent new (inl d) = k.moves w Packet _ new i p (Joins _) (to_packet w w.serving.node.config.own a r new d.1)
  delivers_pair w i p Serving a r a_sent r_sent new (inr d) =
      let x = arrival w.serving.node.config.own (Create_bearer_request r) in
      k.moves (marked_late w Packet x) Packet _ new (late w Packet x i) (k.late w Packet x i p) (Joins _) (to_packet (marked_late w Packet x) w.serving.node.config.own a r new d.1)

  delivers_few : (w : World) → I w → P w → (sender : Role) (datagram : List Message) → IsFew datagram → ((m : Message) → Among m datagram → HasSent w.history sender m) → (new : World)
      → Delivers w sender datagram new → P new
  delivers_few w i p sender =
      by_few (λ datagram. ((m : Message) → Among m datagram → HasSent w.history sender m) → (new : World) → Delivers w sender datagram new → P new)
      (λ m sent new d. delivers w i p sender m (sent m (inl refl)) new d)
      (λ a r sent new d. delivers_pair w i p sender a r (sent (Create_session_response a) (inl refl)) (sent (Create_bearer_request r) (inr (inl refl))) new d)

  stays : (w : World) (note : Note) (new : World) → P w → new ≡ noted w note → P new
  stays w note new p is = subst P (sym is) (k.notes w note p)

  pub one_event : (w : World) → I w → P w → (event : Event) (new : World) → Happens w event new → P new
  one_event w i p (Does role command) new m = k.moves w role (Commanded command) new i p (Orders command) m
  one_event w i p (Tick role) new t = k.ticks w role new i p t
  one_event w i p (Deliver number) new (inl none) = stays w _ new p none.1
  one_event w i p (Deliver number) new (inr (there, d)) = let sent = found w i number there.sent there.is in delivers_few w i p there.sent.role there.sent.what sent.few sent.each new d
  one_event w i p (Cut number count) new (inl none) = stays w _ new p none.1
  one_event w i p (Cut number count) new (inr (there, inl long)) = stays w _ new p long.1
  one_event w i p (Cut number count) new (inr (there, inr (short, c))) = k.moves w (other there.sent.role) _ new i p (Begins (datagram_plane there.sent.what) _ there.sent.what count) c
  one_event w i p (Restart role) new (inl used) = stays w _ new p used.1
  one_event w i p (Restart role) new (inr (few, is)) = subst P (sym is) (k.restarts w role _ i p few)

  pub each_event : ((w : World) → I w → (event : Event) (new : World) → Happens w event new → I new) → (w : World) → I w → P w → (events : List Event) (new : World) → Run w events new → P new
  each_event goes w i p [] new is = subst P (sym is) p
  each_event goes w i p (event ∷ events) new r = each_event goes r.0 (goes w i event r.0 r.1) (one_event w i p event r.0 r.1) events new r.2

-- The laws that hold at the end of each run.
use Rattle.std.proofs.Common.{◌≡◌, ⊎_elim, ℕ, ◌≤◌, List, Option, Some, sym, ◌∙◌, ap, arith}
use Rattle.std.specs.FinMap.{get}
use Rattle.gtp_machine.specs.Element.{Subscriber, address_of, teid_in}
use Rattle.gtp_machine.specs.Message.{Control, User, CreateSessionRequest, CreateSessionResponse, CreateBearerResponse, Message}
use Rattle.gtp_machine.specs.Message.{Create_session_request, Create_session_response, Create_bearer_response, Owns, subscriber_of, first_identity}
use Rattle.gtp_machine.specs.Node.{Role, Serving, Packet, Session, Bearer}
use Rattle.gtp_machine.specs.Config.{Addresses}
use Rattle.gtp_machine.specs.Choice.{counter_of}
use Rattle.gtp_machine.specs.World.{World, Side, Sent, HasSent, side_of, other}
use Rattle.gtp_machine.specs.Safety.{Agree, SessionsAgree, MutualBearers, AgreeBearers, BearersAgree, OutlivesRestart, NoneOutlivesRestart, EachOwed}
use Rattle.gtp_machine.specs.Laws.{Always, MessagesOfDatagrams, OneMessage, OwnsOn, PlanesApart, ContextTeidsWereDrawn, NamedTeidsWereDrawn}
use Rattle.gtp_machine.specs.Laws.{IsOfStart, NoneAhead, IsLatestHeard, KnownIsLatest, OneResponsePerBearerRequest, EachOpened, EachClosesWhole}
use Rattle.gtp_machine.specs.Laws.{OneContextPerRequest, AnsweredByTaker}
use Rattle.gtp_machine.proofs.Origins.Drawing.{Drawing}
use Rattle.gtp_machine.proofs.Origins.Contexts.{IsAskedWith, IsGranted, IsMadeWith, IsWanted}
use Rattle.gtp_machine.proofs.Origins.Entries.{Once, same_request, same_user_request, same_answer, same_user_answer, same_bearer_answer, answer_not_request}
use Rattle.gtp_machine.proofs.Worlds.Hearing.{Hearing, none_later}
use Rattle.gtp_machine.proofs.Origins.Naming.{session_goes_back, bearer_goes_back}
use Rattle.gtp_machine.proofs.Worlds.Runs.{SideInvariant, Invariant, side_in, always}
use Rattle.gtp_machine.proofs.Basics.Facts.{one_value}

module _ (own : Addresses) (w : World) (inv : Invariant own w) where
  so : Once w.history Serving
  so = inv.serving.draws.once

  po : Once w.history Packet
  po = inv.packet.draws.once

  same_subscriber : (c d : Session) (q k : CreateSessionRequest) → c.subscriber ≡ subscriber_of q → d.subscriber ≡ subscriber_of k → q ≡ k → c.address ≡ d.address → Agree c d
  same_subscriber c d q k x y same address =
      let s : c.subscriber ≡ d.subscriber = x ∙ ap (λ k. subscriber_of k) same ∙ sym y in
      record { imsi = ap (λ (k : Subscriber). k.imsi) s; access_point = ap (λ (k : Subscriber). k.access_point) s; identity = ap (λ (k : Subscriber). k.identity) s; address = address }

  -- Sessions agree where that of the serving gateway has that of the packet gateway as its remote, opened by the answer that made it.
  linked : (c d : ℕ) (s n : Session) → get w.serving.node.sessions c ≡ Some s → get w.packet.node.sessions d ≡ Some n → s.remote ≡ Some d → Agree s n
  linked c d s n s_stands n_stands there =
      let asked = inv.serving.knows.contexts.sessions_asked c s s_stands in
      let opened = asked.opened d there in
      let made = inv.packet.knows.contexts.sessions_made d n n_stands in
      let answers = same_answer w.history po opened.answer made.answer opened.sent made.answered d (sym opened.remote ∙ there) made.control in
      let requests =
      same_request w.history so asked.request made.request asked.sent made.asked
      (asked.control ∙ sym opened.header ∙ ap (λ (a : CreateSessionResponse). a.header) answers ∙ made.header) in
      same_subscriber s n asked.request made.request asked.subscriber made.subscriber requests (opened.address ∙ ap (λ (a : CreateSessionResponse). address_of a.address) answers ∙ sym made.address)

  sessions_agree : SessionsAgree w.serving.node w.packet.node
  sessions_agree c d s n m = linked c d s n m.serving m.packet m.there

  -- Bearers that name each other agree, and so do their sessions.
  module _ (c d : ℕ) (b e : Bearer) (m : MutualBearers w.serving.node w.packet.node c d b e) where
    both_default : (s n : Session) → get w.serving.node.sessions b.session ≡ Some s → get w.packet.node.sessions e.session ≡ Some n → IsAskedWith w.history c b s
        → IsMadeWith w.history d e → AgreeBearers w.serving.node w.packet.node b e
    both_default s n s_stands n_stands o p =
        let opened = o.opened d m.there in
        let answers = same_user_answer w.history po opened.answer p.answer opened.sent p.answered d (sym opened.user ∙ m.there) p.user in
        let requests = same_user_request w.history so o.request p.request o.sent p.asked (o.user ∙ one_value e.remote c p.request.context.user.teid m.back p.remote) in
        record {
          identity = o.identity ∙ ap (λ (q : CreateSessionRequest). Some q.context.identity) requests ∙ sym p.identity;
          at_serving = s;
          at_packet = n;
          here = s_stands;
          there = n_stands;
          sessions = linked b.session e.session s n s_stands n_stands (opened.control ∙ ap (λ (a : CreateSessionResponse). teid_in a.control) answers ∙ p.control);
        }

    both_dedicated : (s n : Session) → get w.serving.node.sessions b.session ≡ Some s → get w.packet.node.sessions e.session ≡ Some n → IsGranted w.history c b s
        → IsWanted w.history d e → AgreeBearers w.serving.node w.packet.node b e
    both_dedicated s n s_stands n_stands g p =
        let given = p.opened c m.back in
        let answers = same_bearer_answer w.history so g.answer given.answer g.answered given.sent c g.user (sym given.remote ∙ m.back) in
        record {
          identity = g.identity ∙ ap (λ (x : CreateBearerResponse). first_identity x.contexts) answers ∙ sym given.identity;
          at_serving = s;
          at_packet = n;
          here = s_stands;
          there = n_stands;
          sessions = linked b.session e.session s n s_stands n_stands (g.header ∙ ap (λ (x : CreateBearerResponse). Some x.header) answers ∙ ap (λ k. Some k) given.header);
        }

    bearers_agree : AgreeBearers w.serving.node w.packet.node b e
    bearers_agree =
        let at = inv.serving.knows.contexts.bearers_asked c b m.serving in
        let there = inv.packet.knows.contexts.bearers_made d e m.packet in
        ⊎_elim
        (λ o. ⊎_elim
        (λ p. both_default at.session there.session at.stands there.stands o p)
        (λ p. let opened = o.opened d m.there in absurd (answer_not_request w.history po opened.answer p.request opened.sent p.asked (sym opened.user ∙ m.there ∙ ap (λ k. Some k) (sym p.user))))
        there.origin)
        (λ g. ⊎_elim
        (λ p. absurd (answer_not_request w.history po p.answer g.request p.answered g.asked (p.user ∙ sym m.there ∙ g.remote)))
        (λ p. both_dedicated at.session there.session at.stands there.stands g p)
        there.origin)
        at.origin

-- no session of a gateway is over
none_over : (history : List Sent) (role : Role) (side peer : Side) → SideInvariant history role side peer → peer.restarts ≤ 127 → (t : ℕ) (s : Session)
    → get side.node.sessions t ≡ Some s → OutlivesRestart side.seen s → ⊥
none_over history role side peer inv few t s stands over =
    let k = counter_of over.remote in
    none_later peer few side.seen k over.counter (inv.hearing.latest k ((inv.knows.standing t s stands).current over.remote over.has)) over.was_heard over.heard_is_later

drawn_of_start : (side : Side) (role : Role) (history : List Sent) → Drawing side role history → (m : Message) (t : ℕ) → HasSent history role m → Owns m t → IsOfStart side (counter_of t)
drawn_of_start side role history drawing m t has owns = ⊎_elim
    (λ now. record { start = side.restarts; by_now = omega arith; is = drawing.present t now ∙ drawing.counter })
    (λ earlier. record { start = earlier.start; by_now = omega (arith, earlier.before); is = earlier.is })
    (drawing.drawn m t has owns)

latest_heard : (peer : Side) (known : Option ℕ) (seen : List ℕ) → peer.restarts ≤ 127 → Hearing peer known seen → IsLatestHeard known seen
latest_heard peer known seen few h = record {
  none = h.none;
  heard = λ k e. (h.latest k e).heard;
  latest = λ k c e among later. none_later peer few seen k c (h.latest k e) among later;
}

pub always_sessions : Always (λ w. SessionsAgree w.serving.node w.packet.node)
always_sessions serving packet sc pc events w r = sessions_agree packet.own w (always serving packet sc pc events w r)

pub always_bearers : Always (λ w. BearersAgree w.serving.node w.packet.node)
always_bearers serving packet sc pc events w r c d b e m = bearers_agree packet.own w (always serving packet sc pc events w r) c d b e m

pub always_none_over : Always (λ w. (role : Role) → NoneOutlivesRestart (side_of w role).node (side_of w role).seen)
always_none_over serving packet sc pc events w r role t s =
    let inv = always serving packet sc pc events w r in
    none_over w.history role (side_of w role) (side_of w (other role)) (side_in w inv role) (side_in w inv (other role)).draws.few t s

pub always_owed : Always (λ w. EachOwed w.late w.handed w.accepted)
always_owed serving packet sc pc events w r = (always serving packet sc pc events w r).logs.owed

pub always_of_datagrams : Always MessagesOfDatagrams
always_of_datagrams serving packet sc pc events w r = (always serving packet sc pc events w r).kept

pub always_one_message : Always OneMessage
always_one_message serving packet sc pc events w r role = (side_in w (always serving packet sc pc events w r) role).draws.once

pub always_names_back : Always NamedTeidsWereDrawn
always_names_back serving packet sc pc events w r = (always serving packet sc pc events w r).logs.named

-- what a gateway draws for the control plane it does not draw for the user plane
planes_apart : (side : Side) (role : Role) (history : List Sent) → Drawing side role history → (m : Message) (t : ℕ) → HasSent history role m → OwnsOn Control m t → OwnsOn User m t → ⊥
planes_apart side role history drawing (Create_session_request q) t has control user = drawing.proper (Create_session_request q) has (sym control ∙ user)
planes_apart side role history drawing (Create_session_response a) t has control user = (drawing.proper (Create_session_response a) has).1.apart t control user
planes_apart side role history drawing _ t has control user = control

pub always_planes_apart : Always PlanesApart
always_planes_apart serving packet sc pc events w r role = planes_apart (side_of w role) role w.history (side_in w (always serving packet sc pc events w r) role).draws

pub always_answered_by_taker : Always AnsweredByTaker
always_answered_by_taker serving packet sc pc events w r =
    let inv = always serving packet sc pc events w r in
    record {
      sessions = λ a has. let by = (inv.serving.draws.proper (Create_session_response a) has).0 in cc by;
      bearers = λ x has. let by = (inv.packet.draws.proper (Create_bearer_response x) has).0 in cc by;
    }

pub always_goes_back : Always ContextTeidsWereDrawn
always_goes_back serving packet sc pc events w r =
    let inv = always serving packet sc pc events w r in
    record {
      sessions = λ role. session_goes_back w.history role (side_of w role).node (side_in w inv role).knows;
      bearers = λ role. bearer_goes_back w.history role (side_of w role).node (side_in w inv role).knows;
    }

pub always_none_ahead : Always NoneAhead
always_none_ahead serving packet sc pc events w r =
    let draws = λ (role : Role). (side_in w (always serving packet sc pc events w r) role).draws in
    record { told = λ role m c. (draws role).told m c; drawn = λ role. drawn_of_start (side_of w role) role w.history (draws role) }

pub always_known : Always KnownIsLatest
always_known serving packet sc pc events w r role =
    let inv = always serving packet sc pc events w r in
    latest_heard (side_of w (other role)) (side_of w role).node.known (side_of w role).seen (side_in w inv (other role)).draws.few
    (side_in w inv role).hearing

pub always_once : Always OneResponsePerBearerRequest
always_once serving packet sc pc events w r = (always serving packet sc pc events w r).logs.once

pub always_opened : Always EachOpened
always_opened serving packet sc pc events w r =
    let knows = λ (role : Role). (side_in w (always serving packet sc pc events w r) role).knows in
    record { named = λ role t s stands. ((knows role).standing t s stands).named; blank = λ role t s stands. ((knows role).standing t s stands).blank; bearers = λ role. (knows role).ready }

pub always_closes_whole : Always EachClosesWhole
always_closes_whole serving packet sc pc events w r role = (side_in w (always serving packet sc pc events w r) role).knows.closed

pub always_made_once : Always OneContextPerRequest
always_made_once serving packet sc pc events w r role = (side_in w (always serving packet sc pc events w r) role).making.once

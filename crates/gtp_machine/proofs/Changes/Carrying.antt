-- What a packet that leaves or comes to an active bearer names.
use Rattle.std.proofs.Common.{◌≡◌, inl, inr, ⊎_elim, ℕ, List, Some, sym, ◌∙◌, ap}
use Rattle.std.specs.FinMap.{get}
use Rattle.gtp_values.specs.FiniteMap.{FiniteMap}
use Rattle.gtp_machine.specs.Message.{CreateSessionResponse, subscriber_of}
use Rattle.gtp_machine.specs.Node.{Role, Serving, Packet, Session, Bearer}
use Rattle.gtp_machine.specs.Input.{Entry, entry_for}
use Rattle.gtp_machine.specs.World.{other, Sent}
use Rattle.gtp_machine.proofs.Origins.Contexts.{IsAskedWith, IsGranted, IsMadeWith, IsWanted, ServingContexts, PacketContexts}
use Rattle.gtp_machine.proofs.Origins.Entries.{Once, same_request, same_answer, names_in, ForDedicated, IsFor}
use Rattle.gtp_machine.proofs.Changes.After.{Contexts}
use Rattle.gtp_machine.proofs.Basics.Facts.{one_value}

-- the entry of a packet on a bearer
abbrev packet_of : ℕ → List ℕ → Bearer → Session → Entry
packet_of target payload b s = entry_for target payload s.subscriber b.identity

module _ (history : List Sent) (serving_once : Once history Serving) (packet_once : Once history Packet) (sessions : FiniteMap Session) (bearers : FiniteMap Bearer) where
  -- a default bearer of the serving gateway and its session go back to one request
  asked_alike : ServingContexts history sessions bearers → (t : ℕ) (b : Bearer) (s : Session) → get sessions b.session ≡ Some s
      → (n : Session) (o : IsAskedWith history t b n) → s.subscriber ≡ subscriber_of o.request
  asked_alike c t b s stands n o =
      let asked = c.sessions_asked b.session s stands in
      let same = same_request history serving_once asked.request o.request asked.sent o.sent (asked.control ∙ sym o.control) in
      asked.subscriber ∙ ap (λ k. subscriber_of k) same

  -- a default bearer of the packet gateway and its session go back to one request
  made_alike : PacketContexts history sessions bearers → (t : ℕ) (b : Bearer) (s : Session) → get sessions b.session ≡ Some s → (o : IsMadeWith history t b) → s.subscriber ≡ subscriber_of o.request
  made_alike c t b s stands o =
      let made = c.sessions_made b.session s stands in
      let answers = same_answer history packet_once made.answer o.answer made.answered o.answered b.session made.control o.control in
      let same = same_request history serving_once made.request o.request made.asked o.asked (sym made.header ∙ ap (λ (k : CreateSessionResponse). k.header) answers ∙ o.header) in
      made.subscriber ∙ ap (λ k. subscriber_of k) same

  -- a dedicated bearer of the serving gateway, and of the packet gateway
  abbrev granted_for : ServingContexts history sessions bearers → (t : ℕ) (b : Bearer) (s n : Session) (target : ℕ) (payload : List ℕ) → get sessions b.session ≡ Some s → IsGranted history t b n
      → ForDedicated history (packet_of target payload b s)
  granted_for c t b s n target payload stands g =
      let asked = c.sessions_asked b.session s stands in
      record {
        answer = g.answer;
        answered = g.answered;
        wanted = g.request;
        sent = g.asked;
        echoed = g.echoed;
        identity = g.identity;
        request = asked.request;
        asked = asked.sent;
        header = g.to_session ∙ sym asked.control;
        subscriber = ap names_in asked.subscriber;
      }

  abbrev wanted_for : PacketContexts history sessions bearers → (t : ℕ) (b : Bearer) (s : Session) (r target : ℕ) (payload : List ℕ) → get sessions b.session ≡ Some s → b.remote ≡ Some r
      → IsWanted history t b → ForDedicated history (packet_of target payload b s)
  wanted_for c t b s r target payload stands named w =
      let made = c.sessions_made b.session s stands in
      let given = w.opened r named in
      let answers = same_answer history packet_once w.made made.answer w.answered made.answered b.session w.control made.control in
      record {
        answer = given.answer;
        answered = given.sent;
        wanted = w.request;
        sent = w.asked;
        echoed = given.echoed ∙ ap (λ k. Some k) (sym w.user);
        identity = given.identity;
        request = made.request;
        asked = made.asked;
        header = w.header ∙ ap (λ (k : CreateSessionResponse). k.header) answers ∙ made.header;
        subscriber = ap names_in made.subscriber;
      }

  pub leaves_for : (role : Role) → Contexts role history sessions bearers → (t : ℕ) (payload : List ℕ) (b : Bearer) (s : Session) (r : ℕ) → get bearers t ≡ Some b
      → b.remote ≡ Some r → get sessions b.session ≡ Some s → IsFor history (other role) (packet_of r payload b s)
  leaves_for Serving c t payload b s r stands named session_stands =
      let at = c.bearers_asked t b stands in
      ⊎_elim
      (λ o.
      let with_answer = o.opened r named in
      inl (record {
        of = record {
          request = o.request;
          asked = o.sent;
          subscriber = ap names_in (asked_alike c t b s session_stands at.session o);
          identity = o.identity;
        };
        answer = with_answer.answer;
        answered = with_answer.sent;
        target = sym with_answer.user ∙ named;
        header =
            with_answer.header ∙ sym o.control;
      }))
      (λ g. inr (record { of = granted_for c t b s at.session r payload session_stands g; target = one_value b.remote r g.request.context.user.teid named g.remote; given = t; gives = g.user }))
      at.origin
  leaves_for Packet c t payload b s r stands named session_stands =
      ⊎_elim
      (λ o. inl (record {
        of = record { request = o.request; asked = o.asked; subscriber = ap names_in (made_alike c t b s session_stands o); identity = o.identity };
        target = one_value b.remote r o.request.context.user.teid named o.remote;
      }))
      (λ w. inr (record { of = wanted_for c t b s r r payload session_stands named w; target = sym (w.opened r named).remote ∙ named }))
      (c.bearers_made t b stands).origin

  pub comes_for : (role : Role) → Contexts role history sessions bearers → (t : ℕ) (payload : List ℕ) (b : Bearer) (s : Session) (r : ℕ) → get bearers t ≡ Some b
      → b.remote ≡ Some r → get sessions b.session ≡ Some s → IsFor history role (packet_of t payload b s)
  comes_for Serving c t payload b s r stands named session_stands =
      let at = c.bearers_asked t b stands in
      ⊎_elim
      (λ o. inl (record {
        of = record
            { request = o.request; asked = o.sent; subscriber = ap names_in (asked_alike c t b s session_stands at.session o); identity = o.identity };
        target = sym o.user;
      }))
      (λ g. inr (record { of = granted_for c t b s at.session t payload session_stands g; target = g.user }))
      at.origin
  comes_for Packet c t payload b s r stands named session_stands =
      ⊎_elim
      (λ o. inl (record {
        of = record { request = o.request; asked = o.asked; subscriber = ap names_in (made_alike c t b s session_stands o); identity = o.identity };
        answer = o.answer;
        answered = o.answered;
        target = o.user;
        header = o.header;
      }))
      (λ w. inr (record { of = wanted_for c t b s r t payload session_stands named w; target = sym w.user; given = r; gives = sym (w.opened r named).remote ∙ named }))
      (c.bearers_made t b stands).origin

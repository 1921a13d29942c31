-- A TEID stands for one subscriber and one bearer.
use Rattle.std.proofs.Common.{◌≡◌, ◌⊎◌, inl, inr, ℕ, List, Some, refl, sym, ◌∙◌, ap}
use Rattle.gtp_machine.specs.Element.{Subscriber, teid_in}
use Rattle.gtp_machine.specs.Message.{CreateSessionRequest, CreateSessionResponse, CreateBearerRequest, CreateBearerResponse, Message}
use Rattle.gtp_machine.specs.Message.{Create_session_request, Create_session_response, Create_bearer_request, Create_bearer_response, Owns}
use Rattle.gtp_machine.specs.Message.{subscriber_of, first_created, first_given, first_returned, first_identity}
use Rattle.gtp_machine.specs.Node.{Role, Serving, Packet}
use Rattle.gtp_machine.specs.Input.{Entry}
use Rattle.gtp_machine.specs.World.{Sent, HasSent}
use Rattle.gtp_machine.proofs.Origins.Drawing.{Extends}
use Rattle.gtp_machine.proofs.Basics.Facts.{one_value}

-- each TEID stands as the sender's own in one message and its repeats
abbrev pub Once : List Sent → Role → Type 0
Once history role = (m n : Message) (t : ℕ) → HasSent history role m → HasSent history role n → Owns m t → Owns n t → m ≡ n

-- each Create Bearer Request has one response that gives a TEID
abbrev pub AnsweredOnce : List Sent → Type 0
AnsweredOnce history =
    (x y : CreateBearerResponse) (s t : ℕ) → HasSent history Serving (Create_bearer_response x) → HasSent history Serving (Create_bearer_response y)
    → first_given x.contexts ≡ Some s → first_given y.contexts ≡ Some t → first_returned x.contexts ≡ first_returned y.contexts → x ≡ y

pub same_request : (history : List Sent) → Once history Serving → (q p : CreateSessionRequest) → HasSent history Serving (Create_session_request q)
    → HasSent history Serving (Create_session_request p) → q.control.teid ≡ p.control.teid → q ≡ p
same_request history once q p q_sent p_sent e =
    let same : Create_session_request q ≡ Create_session_request p = once (Create_session_request q) (Create_session_request p) q.control.teid q_sent p_sent (inl refl) (inl e) in
    cc same

pub same_user_request : (history : List Sent) → Once history Serving → (q p : CreateSessionRequest) → HasSent history Serving (Create_session_request q)
    → HasSent history Serving (Create_session_request p) → q.context.user.teid ≡ p.context.user.teid → q ≡ p
same_user_request history once q p q_sent p_sent e =
    let same : Create_session_request q ≡ Create_session_request p = once (Create_session_request q) (Create_session_request p) q.context.user.teid q_sent p_sent (inr refl) (inr e) in
    cc same

pub same_answer : (history : List Sent) → Once history Packet → (a b : CreateSessionResponse) → HasSent history Packet (Create_session_response a)
    → HasSent history Packet (Create_session_response b) → (t : ℕ) → teid_in a.control ≡ Some t → teid_in b.control ≡ Some t → a ≡ b
same_answer history once a b a_sent b_sent t x y =
    let same : Create_session_response a ≡ Create_session_response b = once (Create_session_response a) (Create_session_response b) t a_sent b_sent (inl x) (inl y) in
    cc same

pub same_user_answer : (history : List Sent) → Once history Packet → (a b : CreateSessionResponse) → HasSent history Packet (Create_session_response a)
    → HasSent history Packet (Create_session_response b) → (t : ℕ) → first_created a.contexts ≡ Some t → first_created b.contexts ≡ Some t → a ≡ b
same_user_answer history once a b a_sent b_sent t x y =
    let same : Create_session_response a ≡ Create_session_response b = once (Create_session_response a) (Create_session_response b) t a_sent b_sent (inr x) (inr y) in
    cc same

pub same_create_bearer_request : (history : List Sent) → Once history Packet → (r p : CreateBearerRequest) → HasSent history Packet (Create_bearer_request r)
    → HasSent history Packet (Create_bearer_request p) → r.context.user.teid ≡ p.context.user.teid → r ≡ p
same_create_bearer_request history once r p r_sent p_sent e =
    let same : Create_bearer_request r ≡ Create_bearer_request p = once (Create_bearer_request r) (Create_bearer_request p) r.context.user.teid r_sent p_sent refl e in
    cc same

pub same_bearer_answer : (history : List Sent) → Once history Serving → (x y : CreateBearerResponse) → HasSent history Serving (Create_bearer_response x)
    → HasSent history Serving (Create_bearer_response y) → (t : ℕ) → first_given x.contexts ≡ Some t → first_given y.contexts ≡ Some t → x ≡ y
same_bearer_answer history once x y x_sent y_sent t g h =
    let same : Create_bearer_response x ≡ Create_bearer_response y = once (Create_bearer_response x) (Create_bearer_response y) t x_sent y_sent g h in
    cc same

-- a user TEID of a Create Session Request is none of a Create Bearer Response
pub request_not_answer : (history : List Sent) → Once history Serving → (q : CreateSessionRequest) (x : CreateBearerResponse)
    → HasSent history Serving (Create_session_request q) → HasSent history Serving (Create_bearer_response x)
    → first_given x.contexts ≡ Some q.context.user.teid → ⊥
request_not_answer history once q x q_sent x_sent e =
    let same : Create_session_request q ≡ Create_bearer_response x = once (Create_session_request q) (Create_bearer_response x) q.context.user.teid q_sent x_sent (inr refl) e in
    cc same

-- a user TEID of a Create Session Response is none of a Create Bearer Request
pub answer_not_request : (history : List Sent) → Once history Packet → (a : CreateSessionResponse) (r : CreateBearerRequest)
    → HasSent history Packet (Create_session_response a) → HasSent history Packet (Create_bearer_request r)
    → first_created a.contexts ≡ Some r.context.user.teid → ⊥
answer_not_request history once a r a_sent r_sent e =
    let same : Create_session_response a ≡ Create_bearer_request r = once (Create_session_response a) (Create_bearer_request r) r.context.user.teid a_sent r_sent (inr e) refl in
    cc same

-- the IMSI and the access point of an entry
abbrev pub names_of : Entry → List ℕ × List ℕ
names_of e = (e.imsi, e.access_point)

-- the IMSI and the access point that a session is for
abbrev pub names_in : Subscriber → List ℕ × List ℕ
names_in s = (s.imsi, s.access_point)

-- a packet for the subscriber of a Create Session Request, with the identity that it asks for
pub record ForDefault (history : List Sent) (e : Entry) : Type 0 where
  pub request : CreateSessionRequest
  pub asked : HasSent history Serving (Create_session_request request)
  pub subscriber : names_of e ≡ names_in (subscriber_of request)
  pub identity : e.identity ≡ Some request.context.identity

-- a packet for the session of a Create Bearer Request, with the identity that its answer gives
pub record ForDedicated (history : List Sent) (e : Entry) : Type 0 where
  pub answer : CreateBearerResponse
  pub answered : HasSent history Serving (Create_bearer_response answer)
  pub wanted : CreateBearerRequest
  pub sent : HasSent history Packet (Create_bearer_request wanted)
  pub echoed : first_returned answer.contexts ≡ Some wanted.context.user.teid
  pub identity : e.identity ≡ first_identity answer.contexts
  pub request : CreateSessionRequest
  pub asked : HasSent history Serving (Create_session_request request)
  pub header : wanted.header ≡ request.control.teid
  pub subscriber : names_of e ≡ names_in (subscriber_of request)

-- the target is the serving gateway's TEID of a default bearer
pub record ToServingDefault (history : List Sent) (e : Entry) : Type 0 where
  pub of : ForDefault history e
  pub target : e.target ≡ of.request.context.user.teid

-- the target is the serving gateway's TEID of a dedicated bearer
pub record ToServingDedicated (history : List Sent) (e : Entry) : Type 0 where
  pub of : ForDedicated history e
  pub target : first_given of.answer.contexts ≡ Some e.target

-- the target is the packet gateway's TEID of a default bearer
pub record ToPacketDefault (history : List Sent) (e : Entry) : Type 0 where
  pub of : ForDefault history e
  pub answer : CreateSessionResponse
  pub answered : HasSent history Packet (Create_session_response answer)
  pub target : first_created answer.contexts ≡ Some e.target
  pub header : answer.header ≡ of.request.control.teid

-- the target is the packet gateway's TEID of a dedicated bearer
pub record ToPacketDedicated (history : List Sent) (e : Entry) : Type 0 where
  pub of : ForDedicated history e
  pub target : e.target ≡ of.wanted.context.user.teid
  pub given : ℕ
  pub gives : first_given of.answer.contexts ≡ Some given

-- the packet is for a bearer of this gateway
abbrev pub IsFor : List Sent → Role → Entry → Type 0
IsFor history Serving e = ToServingDefault history e ⊎ ToServingDedicated history e
IsFor history Packet e = ToPacketDefault history e ⊎ ToPacketDedicated history e

module _ (before after : List Sent) (extends : Extends before after) where
  abbrev default_later : (e : Entry) → ForDefault before e → ForDefault after e
  default_later e d = record { request = d.request; asked = extends.keeps Serving _ d.asked; subscriber = d.subscriber; identity = d.identity }

  abbrev dedicated_later : (e : Entry) → ForDedicated before e → ForDedicated after e
  dedicated_later e d =
      record {
        answer = d.answer;
        answered = extends.keeps Serving _ d.answered;
        wanted = d.wanted;
        sent = extends.keeps Packet _ d.sent;
        echoed = d.echoed;
        identity = d.identity;
        request = d.request;
        asked = extends.keeps Serving _ d.asked;
        header = d.header;
        subscriber = d.subscriber;
      }

  pub IsFor-later : (role : Role) (e : Entry) → IsFor before role e → IsFor after role e
  IsFor-later Serving e (inl d) = inl (record { of = default_later e d.of; target = d.target })
  IsFor-later Serving e (inr d) = inr (record { of = dedicated_later e d.of; target = d.target })
  IsFor-later Packet e (inl d) = inl (record { of = default_later e d.of; answer = d.answer; answered = extends.keeps Packet _ d.answered; target = d.target; header = d.header })
  IsFor-later Packet e (inr d) = inr (record { of = dedicated_later e d.of; target = d.target; given = d.given; gives = d.gives })

-- the same subscriber and the same identity
abbrev IsAlike : Entry → Entry → Type 0
IsAlike d e = (names_of d ≡ names_of e) × (d.identity ≡ e.identity)

module _ (history : List Sent) (serving_once : Once history Serving) (packet_once : Once history Packet) (answered_once : AnsweredOnce history) where
  default_alike : (d e : Entry) (f : ForDefault history d) (g : ForDefault history e) → f.request ≡ g.request → IsAlike d e
  default_alike d e f g same = (
    f.subscriber ∙ ap (λ q. names_in (subscriber_of q)) same ∙ sym g.subscriber,
    f.identity ∙ ap (λ (q : CreateSessionRequest). Some q.context.identity) same ∙ sym g.identity,
  )

  dedicated_alike : (d e : Entry) (f : ForDedicated history d) (g : ForDedicated history e) → f.answer ≡ g.answer → f.wanted ≡ g.wanted → IsAlike d e
  dedicated_alike d e f g answers wanted =
      let same = same_request history serving_once f.request g.request f.asked g.asked (sym f.header ∙ ap (λ (k : CreateBearerRequest). k.header) wanted ∙ g.header) in
      (f.subscriber ∙ ap (λ q. names_in (subscriber_of q)) same ∙ sym g.subscriber, f.identity ∙ ap (λ (k : CreateBearerResponse). first_identity k.contexts) answers ∙ sym g.identity)

  -- what names the same TEID is for the same subscriber and bearer
  alike : (role : Role) (d e : Entry) → d.target ≡ e.target → IsFor history role d → IsFor history role e → IsAlike d e
  alike Serving d e target (inl f) (inl g) = default_alike d e f.of g.of (same_user_request history serving_once f.of.request g.of.request f.of.asked g.of.asked (sym f.target ∙ target ∙ g.target))
  alike Serving d e target (inl f) (inr g) = absurd (request_not_answer history serving_once f.of.request g.of.answer f.of.asked g.of.answered (g.target ∙ ap (λ k. Some k) (sym target ∙ f.target)))
  alike Serving d e target (inr f) (inl g) = absurd (request_not_answer history serving_once g.of.request f.of.answer g.of.asked f.of.answered (f.target ∙ ap (λ k. Some k) (target ∙ g.target)))
  alike Serving d e target (inr f) (inr g) =
      let answers = same_bearer_answer history serving_once f.of.answer g.of.answer f.of.answered g.of.answered e.target (f.target ∙ ap (λ k. Some k) target) g.target in
      let echoed =
      one_value (first_returned g.of.answer.contexts) f.of.wanted.context.user.teid g.of.wanted.context.user.teid
      (ap (λ (k : CreateBearerResponse). first_returned k.contexts) (sym answers) ∙ f.of.echoed) g.of.echoed in
      dedicated_alike d e f.of g.of answers (same_create_bearer_request history packet_once f.of.wanted g.of.wanted f.of.sent g.of.sent echoed)
  alike Packet d e target (inl f) (inl g) =
      let answers = same_user_answer history packet_once f.answer g.answer f.answered g.answered e.target (f.target ∙ ap (λ k. Some k) target) g.target in
      default_alike d e f.of g.of (same_request history serving_once f.of.request g.of.request f.of.asked g.of.asked (sym f.header ∙ ap (λ (k : CreateSessionResponse). k.header) answers ∙ g.header))
  alike Packet d e target (inl f) (inr g) = absurd (answer_not_request history packet_once f.answer g.of.wanted f.answered g.of.sent (f.target ∙ ap (λ k. Some k) (target ∙ g.target)))
  alike Packet d e target (inr f) (inl g) = absurd (answer_not_request history packet_once g.answer f.of.wanted g.answered f.of.sent (g.target ∙ ap (λ k. Some k) (sym target ∙ f.target)))
  alike Packet d e target (inr f) (inr g) =
      let wanted = same_create_bearer_request history packet_once f.of.wanted g.of.wanted f.of.sent g.of.sent (sym f.target ∙ target ∙ g.target) in
      let answers =
      answered_once f.of.answer g.of.answer f.given g.given f.of.answered g.of.answered f.gives g.gives
      (f.of.echoed ∙ ap (λ (k : CreateBearerRequest). Some k.context.user.teid) wanted ∙ sym g.of.echoed) in
      dedicated_alike d e f.of g.of answers wanted

  pub same_entry : (role : Role) (d e : Entry) → d.target ≡ e.target → d.payload ≡ e.payload → IsFor history role d → IsFor history role e → d ≡ e
  same_entry role d e target payload f g =
      let same = alike role d e target f g in
      λ i. record { target = target i; payload = payload i; imsi = (same.0 i).0; access_point = (same.0 i).1; identity = same.1 i }

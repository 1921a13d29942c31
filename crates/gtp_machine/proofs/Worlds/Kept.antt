-- What the world keeps of each gateway: packets, and answers to requests for bearers.
use Rattle.std.proofs.Common.{◌≡◌, ◌⊎◌, inl, inr, ⊎_elim, ℕ, true, List, [], ◌∷◌, ◌++◌, Some, refl, sym, ◌∙◌, ap, subst, arith}
use Rattle.std.proofs.lemmas.Option.{same_Some}
use Rattle.gtp_values.specs.FiniteMap.{Each, Among}
use Rattle.gtp_machine.specs.Message.{Message, CreateBearerRequest, CreateBearerResponse, Create_bearer_request, Create_bearer_response, Packet_data, first_given, first_returned}
use Rattle.gtp_machine.specs.Node.{Role, Serving, Packet, Session, Arrival, Node}
use Rattle.gtp_machine.specs.Input.{Entry, Effect, messages}
use Rattle.gtp_machine.specs.Choice.{counter_of}
use Rattle.gtp_machine.specs.Answer.{IsNew}
use Rattle.gtp_machine.specs.World.{other, Side, By, HasBy, Sent, HasSent, signed, stepped, restarted}
use Rattle.gtp_machine.specs.Laws.{AtMostOnce}
use Rattle.gtp_machine.proofs.Basics.FiniteMaps.{Among-left, Among-right}
use Rattle.gtp_machine.proofs.Basics.Kinds.{creates}
use Rattle.gtp_machine.proofs.Origins.Drawing.{Drawing, Draws, IsEarlier, Extends, Extends-signed, by_before, by_now, by_cases, by_other, starts_apart}
use Rattle.gtp_machine.proofs.Origins.Entries.{Once, AnsweredOnce, same_create_bearer_request, IsFor, IsFor-later}
use Rattle.gtp_machine.proofs.Changes.Steps.{IsAnsweredNow, MakesFor, Logs}

-- a packet that was handed in at this gateway
pub record IsHanded (handed : List (By Entry)) (role : Role) (target : ℕ) (payload : List ℕ) : Type 0 where
  pub entry : Entry
  pub among : HasBy handed role entry
  pub names : entry.target ≡ target
  pub carries : entry.payload ≡ payload

-- each packet that the gateway sent was handed in there, for a bearer that names its target
pub record Packets (history : List Sent) (handed : List (By Entry)) (role : Role) : Type 0 where
  pub sent : (target : ℕ) (payload : List ℕ) → HasSent history role (Packet_data target payload) → IsHanded handed role target payload
  pub each : (e : Entry) → HasBy handed role e → IsFor history (other role) e

handed_before : (handed : List (By Entry)) (role by : Role) (now : List Entry) (target : ℕ) (payload : List ℕ) → IsHanded handed role target payload
    → IsHanded (handed ++ signed by now) role target payload
handed_before handed role by now target payload h = record { entry = h.entry; among = by_before handed role by now h.entry h.among; names = h.names; carries = h.carries }

pub Packets-step : (history : List Sent) (handed : List (By Entry)) (role : Role) (node : Node) (taken : Arrival → Message → Type 0) (e : Effect)
    → Packets history handed role → Logs history role taken node e
    → Packets (history ++ signed role (messages e.out.sent)) (handed ++ signed role e.out.handed) role
Packets-step history handed role node taken e p logs = record {
  sent = λ t payload has. elim (by_cases history role role (messages e.out.sent) (Packet_data t payload) has) [
    | inl was ↦ old t payload was
    | inr now ↦ ⊎_elim (λ was. old t payload was)
        (λ is. record { entry = is.entry; among = by_now handed role e.out.handed is.entry is.handed; names = is.names; carries = is.carries })
        (logs.packets t payload now.1)
  ];
  each =
      λ n among. IsFor-later history (history ++ signed role (messages e.out.sent)) (Extends-signed history role (messages e.out.sent)) (other role) n
      (⊎_elim (λ was. p.each n was) (λ now. logs.handed n now.1) (by_cases handed role role e.out.handed n among));
}
  where
    old : (t : ℕ) (payload : List ℕ) → HasSent history role (Packet_data t payload) → IsHanded (handed ++ signed role e.out.handed) role t payload
    old t payload was = handed_before handed role role e.out.handed t payload (p.sent t payload was)

pub Packets-elsewhere : (history : List Sent) (handed : List (By Entry)) (role : Role) (sent : List Message) (now : List Entry) → Packets history handed role
    → Packets (history ++ signed (other role) sent) (handed ++ signed (other role) now) role
Packets-elsewhere history handed role sent now p = record {
  sent = λ t payload has. handed_before handed role (other role) now t payload (p.sent t payload (by_other history role sent (Packet_data t payload) has));
  each = λ e among. IsFor-later history (history ++ signed (other role) sent) (Extends-signed history (other role) sent) (other role) e (p.each e (by_other handed role now e among));
}

-- a response that gives a bearer is held, or was given up, or its request is of an earlier start; `key` says how a request comes
pub record IsRemembered (history : List Sent) (key : Message → Arrival) (side : Side) (x : CreateBearerResponse) : Type 0 where
  pub request : CreateBearerRequest
  pub sent : HasSent history Packet (Create_bearer_request request)
  pub echoed : first_returned x.contexts ≡ Some request.context.user.teid
  pub where_now : ((counter_of request.header ≡ side.node.counter)
      × (Among (record { request = key (Create_bearer_request request); answer = Create_bearer_response x ∷ [] }) side.node.held
      ⊎ Among (key (Create_bearer_request request)) side.forgotten)) ⊎ IsEarlier side (counter_of request.header)

abbrev pub Remembers : List Sent → (Message → Arrival) → Side → Type 0
Remembers history key side = (x : CreateBearerResponse) (t : ℕ) → HasSent history Serving (Create_bearer_response x) → first_given x.contexts ≡ Some t → IsRemembered history key side x

remembered_later : (before after : List Sent) → Extends before after → (key : Message → Arrival) (side : Side) (x : CreateBearerResponse)
    → IsRemembered before key side x → IsRemembered after key side x
remembered_later before after extends key side x r = record { request = r.request; sent = extends.keeps Packet (Create_bearer_request r.request) r.sent; echoed = r.echoed; where_now = r.where_now }

pub Remembers-elsewhere : (history : List Sent) (key : Message → Arrival) (side : Side) (sent : List Message) → Remembers history key side → Remembers (history ++ signed Packet sent) key side
Remembers-elsewhere history key side sent r x t has gives =
    remembered_later history (history ++ signed Packet sent) (Extends-signed history Packet sent) key side x
    (r x t (by_other history Serving sent (Create_bearer_response x) has) gives)

pub Remembers-restart : (history : List Sent) (key : Message → Arrival) (side : Side) → Drawing side Serving history → Remembers history key side → Remembers history key (restarted side)
Remembers-restart history key side drawing r x t has gives =
    let i = r x t has gives in
    record {
      request = i.request;
      sent = i.sent;
      echoed = i.echoed;
      where_now =
          inr (⊎_elim (λ here. record { start = side.restarts; before = omega arith; is = here.0 ∙ drawing.counter })
          (λ earlier. record { start = earlier.start; before = omega (arith, earlier.before); is = earlier.is }) i.where_now);
    }

module _ (history : List Sent) (key : Message → Arrival) (side : Side) (taken : Arrival → Message → Type 0) (e : Effect)
    (drawing : Drawing side Serving history) (drawn : Each (λ t (s : Session). Among t side.node.drawn) side.node.sessions)
    (draws : Draws history Serving side.node e.node (messages e.out.sent)) (remembers : Remembers history key side)
    (logs : Logs history Serving taken side.node e) (keyed : (a : Arrival) (m : Message) → creates Serving m ≡ true → taken a m → a ≡ key m) where
  -- a request that is answered now names a session of the present start
  answered_counter : (x : CreateBearerResponse) → (is : IsAnsweredNow history side.node e.node taken x) → counter_of is.request.header ≡ side.node.counter
  answered_counter x is = drawing.present is.request.header (drawn is.request.header is.session is.stands)

  pub Remembers-step : Remembers (history ++ signed Serving (messages e.out.sent)) key (stepped side e)
  Remembers-step x t has gives =
      remembered_later history (history ++ signed Serving (messages e.out.sent)) (Extends-signed history Serving (messages e.out.sent)) key
      (stepped side e) x (elim (by_cases history Serving Serving (messages e.out.sent) (Create_bearer_response x) has) [
        | inl was ↦ old was
        | inr now ↦ ⊎_elim old fresh (logs.answers x t now.1 gives)
      ])
    where
      still : (q : CreateBearerRequest)
          → Among (record { request = key (Create_bearer_request q); answer = Create_bearer_response x ∷ [] }) side.node.held
          ⊎ Among (key (Create_bearer_request q)) side.forgotten
          → Among (record { request = key (Create_bearer_request q); answer = Create_bearer_response x ∷ [] }) e.node.held
          ⊎ Among (key (Create_bearer_request q)) (side.forgotten ++ e.out.forgot)
      still q (inl held) =
          ⊎_elim (λ stays. inl stays) (λ gone. inr (Among-right (key (Create_bearer_request q)) side.forgotten e.out.forgot gone))
          (logs.held_stays (record { request = key (Create_bearer_request q); answer = Create_bearer_response x ∷ [] }) held)
      still q (inr gone) = inr (Among-left (key (Create_bearer_request q)) side.forgotten e.out.forgot gone)

      old : HasSent history Serving (Create_bearer_response x) → IsRemembered history key (stepped side e) x
      old was = let i = remembers x t was gives in record {
        request = i.request;
        sent = i.sent;
        echoed = i.echoed;
        where_now = ⊎_elim (λ here. inl (here.0 ∙ sym draws.counter, still i.request here.1)) (λ earlier. inr (record { start = earlier.start; before = earlier.before; is = earlier.is })) i.where_now;
      }

      fresh : IsAnsweredNow history side.node e.node taken x → IsRemembered history key (stepped side e) x
      fresh is = record {
        request = is.request;
        sent = is.sent;
        echoed = is.echoed;
        where_now =
            inl (
              answered_counter x is ∙ sym draws.counter,
              inl (subst (λ a. Among (record { request = a; answer = Create_bearer_response x ∷ [] }) e.node.held)
                  (keyed is.arrival (Create_bearer_request is.request) refl is.came) is.held),
            );
      }

  module _ (packet_once : Once history Packet) (is_new : (a : Arrival) (m : Message) → taken a m → IsNew side.node a)
      (on_time : (a : Arrival) (m : Message) → creates Serving m ≡ true → taken a m → Among a side.forgotten → ⊥) (once : AnsweredOnce history) where
    -- a request that is answered now was not answered before
    unanswered : (x y : CreateBearerResponse) (t : ℕ) → IsAnsweredNow history side.node e.node taken x → HasSent history Serving (Create_bearer_response y)
        → first_given y.contexts ≡ Some t → first_returned x.contexts ≡ first_returned y.contexts → ⊥
    unanswered x y t is was gives same_echo =
        let i = remembers y t was gives in
        let same =
        same_create_bearer_request history packet_once i.request is.request i.sent is.sent
        (same_Some i.request.context.user.teid is.request.context.user.teid (sym i.echoed ∙ sym same_echo ∙ is.echoed)) in
        let counter = answered_counter x is in
        let here : key (Create_bearer_request i.request) ≡ is.arrival = ap (λ q. key (Create_bearer_request q)) same ∙ sym (keyed is.arrival (Create_bearer_request is.request) refl is.came) in
        elim i.where_now [
          | inl now ↦ ⊎_elim
              (λ held. is_new is.arrival (Create_bearer_request is.request) is.came (record { request = key (Create_bearer_request i.request); answer = Create_bearer_response y ∷ [] }) held here)
              (λ gone. on_time is.arrival (Create_bearer_request is.request) refl is.came (subst (λ a. Among a side.forgotten) here gone))
              now.1
          | inr earlier ↦ starts_apart side.first earlier.start side.restarts earlier.before drawing.few
              (sym earlier.is ∙ ap (λ (q : CreateBearerRequest). counter_of q.header) same ∙ counter ∙ drawing.counter)
        ]

    cases : (x : CreateBearerResponse) (t : ℕ) → first_given x.contexts ≡ Some t
        → HasSent (history ++ signed Serving (messages e.out.sent)) Serving (Create_bearer_response x)
        → HasSent history Serving (Create_bearer_response x)
        ⊎ (Among (Create_bearer_response x) (messages e.out.sent) × IsAnsweredNow history side.node e.node taken x)
    cases x t gives has = elim (by_cases history Serving Serving (messages e.out.sent) (Create_bearer_response x) has) [
      | inl was ↦ inl was
      | inr now ↦ ⊎_elim (λ was. inl was) (λ is. inr (now.1, is)) (logs.answers x t now.1 gives)
    ]

    pub AnsweredOnce-step : AnsweredOnce (history ++ signed Serving (messages e.out.sent))
    AnsweredOnce-step x y s t x_has y_has x_gives y_gives same = both (cases x s x_gives x_has) (cases y t y_gives y_has)
      where
        both : HasSent history Serving (Create_bearer_response x)
            ⊎ (Among (Create_bearer_response x) (messages e.out.sent) × IsAnsweredNow history side.node e.node taken x)
            → HasSent history Serving (Create_bearer_response y)
            ⊎ (Among (Create_bearer_response y) (messages e.out.sent) × IsAnsweredNow history side.node e.node taken y) → x ≡ y
        both (inl x_was) (inl y_was) = once x y s t x_was y_was x_gives y_gives same
        both (inl x_was) (inr y_now) = absurd (unanswered y x s y_now.1 x_was x_gives (sym same))
        both (inr x_now) (inl y_was) = absurd (unanswered x y t x_now.1 y_was y_gives same)
        both (inr x_now) (inr y_now) =
            ⊎_elim (λ (is : Create_bearer_response x ≡ Create_bearer_response y). cc is) (λ apart. absurd (apart.no_grant x refl))
            (draws.one (Create_bearer_response x) (Create_bearer_response y) x_now.0 y_now.0)

-- each context that was made since the start has its answer held or given up, and was made once unless its request came late
pub record Making (side : Side) : Type 0 where
  pub kept : (a : Arrival) → Among a side.made → ((answer : List Message) × Among (record { request = a; answer = answer }) side.node.held) ⊎ Among a side.forgotten
  pub once : (a : Arrival) → (Among a side.late_requests → ⊥) → AtMostOnce a side.made

module _ (history : List Sent) (role : Role) (side : Side) (taken : Arrival → Message → Type 0) (e : Effect) (m : Making side)
    (logs : Logs history role taken side.node e) (is_new : (a : Arrival) (n : Message) → taken a n → IsNew side.node a)
    (marked : (a : Arrival) (n : Message) → creates role n ≡ true → taken a n → Among a side.forgotten → Among a side.late_requests) where
  still : (a : Arrival) → ((answer : List Message) × Among (record { request = a; answer = answer }) side.node.held) ⊎ Among a side.forgotten
      → ((answer : List Message) × Among (record { request = a; answer = answer }) e.node.held) ⊎ Among a (side.forgotten ++ e.out.forgot)
  still a (inl held) = ⊎_elim (λ stays. inl (held.0, stays)) (λ gone. inr (Among-right a side.forgotten e.out.forgot gone)) (logs.held_stays (record { request = a; answer = held.0 }) held.1)
  still a (inr gone) = inr (Among-left a side.forgotten e.out.forgot gone)

  -- a context that is made now was not made before, unless its request comes late
  first_made : (a : Arrival) (n : Message) → creates role n ≡ true → taken a n → (Among a side.late_requests → ⊥) → Among a side.made → ⊥
  first_made a n create came on_time before = ⊎_elim
      (λ held. is_new a n came (record { request = a; answer = held.0 }) held.1 refl)
      (λ gone. on_time (marked a n create came gone))
      (m.kept a before)

  same_list : (made : List Arrival) → made ≡ [] → (a : Arrival) → Among a (made ++ side.made) → Among a side.made
  same_list made none a among = subst (λ (l : List Arrival). Among a (l ++ side.made)) none among

  pub Making-step : Making (stepped side e)
  Making-step = ⊎_elim quietly newly logs.made
    where
      quietly : e.out.made ≡ [] → Making (stepped side e)
      quietly none = record {
        kept = λ a among. still a (m.kept a (same_list e.out.made none a among));
        once = λ a on_time. subst (λ (l : List Arrival). AtMostOnce a (l ++ side.made)) (sym none) (m.once a on_time);
      }

      newly : MakesFor role taken e.out.made e.node → Making (stepped side e)
      newly x = record {
        kept = λ a among. kept a (subst (λ (l : List Arrival). Among a (l ++ side.made)) x.is among);
        once =
            λ a on_time. subst (λ (l : List Arrival). AtMostOnce a (l ++ side.made)) (sym x.is) (
              λ same before. first_made x.arrival x.message x.creates x.came (λ late. on_time (subst (λ k. Among k side.late_requests) same late))
                  (subst (λ k. Among k side.made) (sym same) before),
              m.once a on_time,
            );
      }
        where
          kept : (a : Arrival) → Among a (x.arrival ∷ side.made) → ((answer : List Message) × Among (record { request = a; answer = answer }) e.node.held) ⊎ Among a (side.forgotten ++ e.out.forgot)
          kept a (inl same) = inl (x.answer, subst (λ k. Among (record { request = k; answer = x.answer }) e.node.held) (sym same) x.held)
          kept a (inr before) = still a (m.kept a before)

pub Making-fresh : (side : Side) → Making (restarted side)
Making-fresh side = record { kept = λ a none. absurd none; once = λ a on_time. tt }

-- one more late delivery
pub Making-late : (side : Side) (a : Arrival) → Making side → Making (record side { late_requests = a ∷ side.late_requests })
Making-late side a m = record { kept = m.kept; once = λ b on_time. m.once b (λ late. on_time (inr late)) }

-- What a step of either gateway leaves, besides its sessions and bearers.
use Rattle.std.proofs.Common.{◌≡◌, ◌⊎◌, inl, inr, ⊎_elim, ℕ, true, List, [], ◌∷◌, Option, Some, None, refl, sym, ◌∙◌, subst}
use Rattle.std.specs.FinMap.{get}
use Rattle.gtp_values.specs.declared.address.Endpoint.{Endpoint}
use Rattle.gtp_values.specs.FiniteMap.{Among}
use Rattle.gtp_machine.specs.Message.{Message, CreateBearerRequest, CreateBearerResponse, Create_bearer_request, Create_bearer_response, Packet_data, Owns, recovery_of, first_given, first_returned}
use Rattle.gtp_machine.specs.Node.{Role, Packet, Session, Arrival, Held, Node, holding}
use Rattle.gtp_machine.specs.Input.{Sending, EventOutcome, Entry, Out, Effect, nothing, says_all, says, messages}
use Rattle.gtp_machine.specs.Choice.{IsFree}
use Rattle.gtp_machine.specs.World.{other, Sent, HasSent}
use Rattle.gtp_machine.proofs.Basics.FiniteMaps.{Among-only, Among-left, Among-last}
use Rattle.gtp_machine.proofs.Origins.Drawing.{Draws, IsMadeNow}
use Rattle.gtp_machine.proofs.Origins.Entries.{IsFor}
use Rattle.gtp_machine.proofs.Basics.Kinds.{creates}
use Rattle.gtp_machine.specs.Answer.{making}
use Rattle.gtp_values.proofs.Outcomes.{none_some}

-- a packet that was handed in in this step
pub record IsHandedNow (out : Out) (target : ℕ) (payload : List ℕ) : Type 0 where
  pub entry : Entry
  pub handed : Among entry out.handed
  pub names : entry.target ≡ target
  pub carries : entry.payload ≡ payload

-- a response that gives a bearer and is made in this step
pub record IsAnsweredNow (history : List Sent) (old new : Node) (taken : Arrival → Message → Type 0) (x : CreateBearerResponse) : Type 0 where
  pub request : CreateBearerRequest
  pub sent : HasSent history Packet (Create_bearer_request request)
  pub echoed : first_returned x.contexts ≡ Some request.context.user.teid
  pub arrival : Arrival
  pub came : taken arrival (Create_bearer_request request)
  pub session : Session
  pub stands : get old.sessions request.header ≡ Some session
  pub held : Among (record { request = arrival; answer = Create_bearer_response x ∷ [] }) new.held

-- a context was made for a create request, and its answer is held
pub record MakesFor (role : Role) (taken : Arrival → Message → Type 0) (made : List Arrival) (new : Node) : Type 0 where
  pub arrival : Arrival
  pub is : made ≡ arrival ∷ []
  pub message : Message
  pub creates : creates role message ≡ true
  pub came : taken arrival message
  pub answer : List Message
  pub held : Among (record { request = arrival; answer = answer }) new.held

-- what a step leaves in the logs; `taken` holds of the message that came, and of how it came
pub record Logs (history : List Sent) (role : Role) (taken : Arrival → Message → Type 0) (old : Node) (e : Effect) : Type 0 where
  pub held_stays : (h : Held) → Among h old.held → Among h e.node.held ⊎ Among h.request e.out.forgot
  pub packets : (target : ℕ) (payload : List ℕ) → Among (Packet_data target payload) (messages e.out.sent) → HasSent history role (Packet_data target payload) ⊎ IsHandedNow e.out target payload
  pub handed : (entry : Entry) → Among entry e.out.handed → IsFor history (other role) entry
  pub accepted : (entry : Entry) → Among entry e.out.accepted → HasSent history (other role) (Packet_data entry.target entry.payload) × IsFor history role entry
  pub answers : (x : CreateBearerResponse) (t : ℕ) → Among (Create_bearer_response x) (messages e.out.sent) → first_given x.contexts ≡ Some t
      → HasSent history role (Create_bearer_response x) ⊎ IsAnsweredNow history old e.node taken x
  pub made : (e.out.made ≡ []) ⊎ MakesFor role taken e.out.made e.node

-- the message is no packet and gives no bearer
abbrev pub IsPlain : Message → Type 0
IsPlain (Packet_data target payload) = ⊥
IsPlain (Create_bearer_response x) = first_given x.contexts ≡ None
IsPlain _ = Unit {0}

module _ (history : List Sent) (role : Role) (taken : Arrival → Message → Type 0) (old new : Node) (outcome : EventOutcome) (held : (h : Held) → Among h old.held → Among h new.held) where
  -- no packet is handed in or accepted, and no context is made
  Logs-said : (sent : List Sending) (gave_up : List ℕ)
      → ((target : ℕ) (payload : List ℕ) → Among (Packet_data target payload) (messages sent) → HasSent history role (Packet_data target payload))
      → ((x : CreateBearerResponse) (t : ℕ) → Among (Create_bearer_response x) (messages sent) → first_given x.contexts ≡ Some t → HasSent history role (Create_bearer_response x))
      → Logs history role taken old (record { out = record nothing { sent = sent; gave_up = gave_up }; outcome = outcome; node = new })
  Logs-said sent gave_up packets answers = record {
    held_stays = λ h was. inl (held h was);
    packets = λ target payload among. inl (packets target payload among);
    handed = λ e none. absurd none;
    accepted = λ e none. absurd none;
    answers = λ x t among gives. inl (answers x t among gives);
    made = inl refl;
  }

  pub Logs-silent : (gave_up : List ℕ) → Logs history role taken old (record { out = record nothing { gave_up = gave_up }; outcome = outcome; node = new })
  Logs-silent gave_up = Logs-said [] gave_up (λ target payload none. absurd none) (λ x t none. absurd none)

  -- one message is said, which is no packet and gives no bearer, or was said before
  pub Logs-plain : (destination : Endpoint) (m : Message) → IsPlain m → Logs history role taken old (record { out = says destination m; outcome = outcome; node = new })
  Logs-plain destination m plain =
      Logs-said (says destination m).sent []
      (λ target payload among. absurd (subst IsPlain (sym (Among-only _ m among)) plain))
      (λ x t among gives. absurd (none_some t (sym (subst IsPlain (sym (Among-only _ m among)) plain) ∙ gives)))

  -- messages that were sent before are sent again
  pub Logs-again : (destination : Endpoint) (datagram : List Message)
      → ((m : Message) → Among m (messages (says_all destination datagram).sent) → HasSent history role m)
      → Logs history role taken old (record { out = says_all destination datagram; outcome = outcome; node = new })
  Logs-again destination datagram was =
      Logs-said (says_all destination datagram).sent []
      (λ target payload among. was (Packet_data target payload) among)
      (λ x t among gives. was (Create_bearer_response x) among)

  pub Logs-repeat : (destination : Endpoint) (m : Message) → HasSent history role m → Logs history role taken old (record { out = says destination m; outcome = outcome; node = new })
  Logs-repeat destination m was = Logs-again destination (m ∷ []) (λ n among. subst (λ k. HasSent history role k) (sym (Among-only n m among)) was)

-- a context is made, and the answer that is held from now on says no packet
pub Logs-made : (history : List Sent) (role : Role) (taken : Arrival → Message → Type 0) (old : Node) (request : Arrival) (answer : List Message) (cause : ℕ)
    (new : Node) (m : Message) → creates role m ≡ true → taken request m → new.held ≡ old.held
    → ((target : ℕ) (payload : List ℕ) → Among (Packet_data target payload) (messages (making request answer cause new).out.sent) → ⊥)
    → ((x : CreateBearerResponse) (t : ℕ) → Among (Create_bearer_response x) (messages (making request answer cause new).out.sent)
    → first_given x.contexts ≡ Some t
    → HasSent history role (Create_bearer_response x) ⊎ IsAnsweredNow history old (holding request answer new) taken x)
    → Logs history role taken old (making request answer cause new)
Logs-made history role taken old request answer cause new m creates came same packets answers = record {
  held_stays = λ h stood. inl (Among-left h new.held _ (subst (Among h) (sym same) stood));
  packets = λ target payload among. absurd (packets target payload among);
  handed = λ e none. absurd none;
  accepted = λ e none. absurd none;
  answers = answers;
  made =
      inr (record {
        arrival = request;
        is = refl;
        message = m;
        creates = creates;
        came = came;
        answer = answer;
        held = Among-last {X = Held} (record { request = request; answer = answer }) new.held;
      });
}

-- a result of a row, from what the row says of it
pub at_result : (P : Effect → Type 0) (e f : Effect) → e ≡ f → P f → P e
at_result P e f gives h = subst P (sym gives) h

-- a node that differs from old only in what it has heard, and in sessions and bearers that went
pub record IsHeardFrom (old mid : Node) : Type 0 where
  pub config : mid.config ≡ old.config
  pub counter : mid.counter ≡ old.counter
  pub drawn : mid.drawn ≡ old.drawn
  pub held : mid.held ≡ old.held
  pub sessions : (t : ℕ) (s : Session) → get mid.sessions t ≡ Some s → (o : Session) × (get old.sessions t ≡ Some o)

-- what came before the step changes nothing of what it leaves
pub Draws-from : (history : List Sent) (role : Role) (old mid new : Node) (sent : List Message) → IsHeardFrom old mid → Draws history role mid new sent → Draws history role old new sent
Draws-from history role old mid new sent from d = record {
  config = d.config ∙ from.config;
  counter = d.counter ∙ from.counter;
  extends = λ t was. d.extends t (subst (Among t) (sym from.drawn) was);
  present = λ t now. ⊎_elim (λ was. inl (subst (Among t) from.drawn was)) (λ is. inr (is ∙ from.counter)) (d.present t now);
  each = λ m among. ⊎_elim (λ was. inl was) (λ is. inr (made m is)) (d.each m among);
  one = d.one;
}
  where
    made : (m : Message) → IsMadeNow history role mid new m → IsMadeNow history role old new m
    made m is = record {
      free = λ t owns. let f = is.free t owns in record { counted = f.counted ∙ from.counter; numbered = f.numbered; undrawn = λ was. f.undrawn (subst (Among t) (sym from.drawn) was) };
      drawn = is.drawn;
      told = λ r tells. is.told r tells ∙ from.counter;
      tells = λ t tells owns. subst (λ c. recovery_of m ≡ Some c) from.counter (is.tells t tells owns);
      proper = is.proper;
    }

pub Logs-from : (history : List Sent) (role : Role) (taken : Arrival → Message → Type 0) (old mid : Node) (e : Effect) (heard learned : Option ℕ)
    → IsHeardFrom old mid → Logs history role taken mid e
    → Logs history role taken old (record e { out = record e.out { heard = heard; learned = learned } })
Logs-from history role taken old mid e heard learned from l = record {
  held_stays = λ h was. l.held_stays h (subst (Among h) (sym from.held) was);
  packets = λ t p among. ⊎_elim (λ was. inl was) (λ is. inr (record { entry = is.entry; handed = is.handed; names = is.names; carries = is.carries })) (l.packets t p among);
  handed = l.handed;
  accepted = l.accepted;
  answers = λ x t among gives. ⊎_elim (λ was. inl was) (λ is. inr (answered x is)) (l.answers x t among gives);
  made = l.made;
}
  where
    answered : (x : CreateBearerResponse) → IsAnsweredNow history mid e.node taken x → IsAnsweredNow history old e.node taken x
    answered x is =
        let stood = from.sessions is.request.header is.session is.stands in
        record {
          request = is.request;
          sent = is.sent;
          echoed = is.echoed;
          arrival = is.arrival;
          came = is.came;
          session = stood.0;
          stands = stood.1;
          held = is.held;
        }

pub Heard-itself : (old : Node) → IsHeardFrom old old
Heard-itself old = record { config = refl; counter = refl; drawn = refl; held = refl; sessions = λ t s e. (s, e) }

-- nothing that the gateway sent owns what it may draw now
abbrev pub NothingOwns : List Sent → Role → Node → Type 0
NothingOwns history role node = (m : Message) (t : ℕ) → HasSent history role m → Owns m t → IsFree node t → ⊥

pub NothingOwns-from : (history : List Sent) (role : Role) (old mid : Node) → IsHeardFrom old mid → NothingOwns history role old → NothingOwns history role mid
NothingOwns-from history role old mid from unowned m t has owns free =
    unowned m t has owns
    (record { counted = free.counted ∙ from.counter; numbered = free.numbered; undrawn = λ was. free.undrawn (subst (Among t) (sym from.drawn) was) })

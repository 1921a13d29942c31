-- The rules of commands, of packets and of control messages by what they give: an outcome alone, the end of a request, a refusal, or all that the rule is for.
use Rattle.std.proofs.Common.{◌≡◌, inl, inr, ℕ, ◌≤◌, List, [], ◌∷◌, Option, None, Some, refl, sym, subst, arith, Bool, true, false, cond, ⊎_elim, ◌⊎◌}
use Rattle.std.specs.FinMap.{insert}
use Rattle.gtp_values.specs.Counter.{age_of}
use Rattle.gtp_values.specs.declared.counter.Age.{Age}
use Rattle.gtp_values.specs.declared.counter.Age.TheVariants.{Same, Later, Earlier}
use Rattle.gtp_machine.specs.Recovery.{peer_restarted, learned_by, Judges, Weighs, Hears}
use Rattle.gtp_values.specs.declared.address.Endpoint.{Endpoint}
use Rattle.gtp_values.specs.declared.cause.Cause.{Cause}
use Rattle.gtp_values.specs.declared.qos.Qos.{Qos}
use Rattle.gtp_machine.specs.Ordered.{Unless}
use Rattle.gtp_machine.specs.Config.{user_end}
use Rattle.gtp_machine.specs.Element.{IsAccepting, teid_in, cause_of, cause_at}
use Rattle.gtp_machine.specs.Message.{Message, CreateSessionRequest, CreateSessionResponse, CreateBearerRequest, CreateBearerResponse, Control}
use Rattle.gtp_machine.specs.Message.{Create_bearer_response, End_marker, Supported_extensions, recovery_of}
use Rattle.gtp_machine.specs.Node.{Role, Serving, Packet, Active, Arrival, Node, written}
use Rattle.gtp_machine.specs.Input.{Effect, UserReading, User_message, Extension_needed, User_fault, Dropped, UnknownExtension, EventOutcome, Came_to}
use Rattle.gtp_machine.specs.Input.{Outcome, Specification, GoneOut, Ended, Broken, nothing, says, ControlReading, Control_message, Faulty}
use Rattle.gtp_machine.specs.Input.{Control_fault, FaultyRequest, NotPeer, dropped, undecodable, DropReason}
use Rattle.gtp_machine.specs.Choice.{HasPending, HasSession, HasBearer, HasSessionRoom, HasPendingRoom, HasHeldRoom, HasDraws, IsIdentity}
use Rattle.gtp_machine.specs.Response.{EndsRequest, finishing}
use Rattle.gtp_machine.specs.Answer.{answered, Repeats, IsNew, Faulted, faulted, tells_version, version_told, TakesReading}
use Rattle.gtp_machine.specs.Command.{SessionBegun, BeginsSession, SessionDeleted, ClosesSession, BearerBegun, BeginsBearer, BearerDeleted}
use Rattle.gtp_machine.specs.Command.{NamesBearer, ClosesBearer, SessionReleased, ReleasesSession, EndMarked, EchoBegun, SendsEcho, PacketSent}
use Rattle.gtp_machine.specs.Command.{SendsPacket}
use Rattle.gtp_machine.specs.User.{UserTaken, UserStep, udp_port, PacketCame, Accepts, indicated, EndCame, ErrorCame, ended_bearer, broken}
use Rattle.gtp_machine.specs.Serving.{CreateBearerAsked, MakesBearer, CreateSessionAnswered, FitsCreateSession, DescribesSession, OpensSession}
use Rattle.gtp_machine.specs.MessageType.{takes_message, answers_type}
use Rattle.gtp_machine.specs.Packet.{CreateSessionAsked, session_refused, MakesSession, CreateBearerAnswered, FitsCreateBearer, DescribesBearer, CanOpen, OpensBearer}

-- nothing changes, and this is told
abbrev pub quietly : Node → EventOutcome → Effect
quietly old outcome = record { out = nothing; outcome = outcome; node = old }

-- what follows from a refusal, and from all that comes next, follows from a rule
pub by_rule : {G P Fails : Type 0} {Next : P → Type 0} → (Fails → G) → ((p : P) → Next p → G) → Unless P Fails Next → G
by_rule fails next (inl f) = fails f.1
by_rule fails next (inr (p, r)) = next p r

-- what follows from an outcome alone, and from what a rule is for, follows from the rule
module _ {G : Type 0} (old : Node) (e : Effect) (quiet : (outcome : EventOutcome) → e ≡ quietly old outcome → G) where
  pub on_session_begun : (by : Role) (spec : Specification) → (HasSessionRoom old → HasDraws old 2 → HasPendingRoom old → BeginsSession old spec e → G) → SessionBegun by spec old e → G
  on_session_begun Packet spec begins r = quiet _ r
  on_session_begun Serving spec begins r = by_rule (quiet _) (λ room. by_rule (quiet _) (λ draws. by_rule (quiet _) (begins room draws))) r

  pub on_session_deleted : (by : Role) (session : ℕ) → ((at : HasSession old session) → at.session.state ≡ Active → HasPendingRoom old → ClosesSession old session at.session e → G)
      → SessionDeleted by session old e → G
  on_session_deleted Packet session closes r = quiet _ r
  on_session_deleted Serving session closes r = by_rule (quiet _) (λ at. by_rule (quiet _) (λ active. by_rule (quiet _) (closes at active))) r

  pub on_bearer_begun : (by : Role) (session : ℕ) (tft : List ℕ) (qos : Qos)
      → ((at : HasSession old session) → at.session.state ≡ Active → HasDraws old 1 → HasPendingRoom old → BeginsBearer old session at.session tft qos e → G) → BearerBegun by session tft qos old e → G
  on_bearer_begun Serving session tft qos begins r = quiet _ r
  on_bearer_begun Packet session tft qos begins r = by_rule (quiet _) (λ at. by_rule (quiet _) (λ active. by_rule (quiet _) (λ draws. by_rule (quiet _) (begins at active draws)))) r

  pub on_bearer_deleted : (by : Role) (session identity : ℕ)
      → ((at : HasSession old session) (named : NamesBearer old session identity) → named.at.bearer.state ≡ Active → HasPendingRoom old
      → ClosesBearer old session at.session identity named.key named.at.bearer e → G) → BearerDeleted by session identity old e → G
  on_bearer_deleted Serving session identity closes r = quiet _ r
  on_bearer_deleted Packet session identity closes r = by_rule (quiet _) (λ at. by_rule (quiet _) (λ named. by_rule (quiet _) (λ active. by_rule (quiet _) (closes at named active.1)))) r

  pub on_session_released : (by : Role) (session : ℕ) → ((at : HasSession old session) → at.session.state ≡ Active → HasPendingRoom old → ReleasesSession old session at.session e → G)
      → SessionReleased by session old e → G
  on_session_released Serving session closes r = quiet _ r
  on_session_released Packet session closes r = by_rule (quiet _) (λ at. by_rule (quiet _) (λ active. by_rule (quiet _) (closes at active))) r

  pub on_end_marked : (by : Role) (bearer : ℕ)
      → ((at : HasBearer old bearer) → at.bearer.state ≡ Active
      → e ≡ record {
        out = says (user_end old.config.peer.user) (End_marker (written at.bearer.remote));
        outcome = Came_to GoneOut;
        node = record old { bearers = insert old.bearers bearer (ended_bearer at.bearer) };
      } → G) → EndMarked by bearer old e → G
  on_end_marked Serving bearer marks r = quiet _ r
  on_end_marked Packet bearer marks r = by_rule (quiet _) (λ at. by_rule (quiet _) (λ active. by_rule (quiet _) (λ before. marks at active))) r

  pub on_echo_begun : (HasPendingRoom old → SendsEcho old e → G) → EchoBegun old e → G
  on_echo_begun sends r = by_rule (quiet _) sends r

  pub on_packet_sent : (by : Role) (bearer : ℕ) (payload : List ℕ) → ((at : HasBearer old bearer) → at.bearer.state ≡ Active → SendsPacket old at.bearer payload e → G)
      → PacketSent by bearer payload old e → G
  on_packet_sent by bearer payload sends r = by_rule (quiet _) (λ at. by_rule (quiet _) (λ active. by_rule (quiet _) (λ goes. by_rule (quiet _) (λ short. sends at active)))) r

  pub on_packet_came : (by : Role) (target : ℕ) (payload : List ℕ) → (e ≡ indicated target old → G)
      → ((at : HasBearer old target) → at.bearer.state ≡ Active → Accepts old target payload at.bearer e → G) → PacketCame by target payload old e → G
  on_packet_came by target payload unknown accepts r = by_rule unknown (λ at. by_rule (quiet _) (λ active. by_rule (quiet _) (λ comes. accepts at active))) r

  pub on_end_came : (by : Role) (target : ℕ)
      → ((at : HasBearer old target) → at.bearer.state ≡ Active
      → e ≡ quietly (record old { bearers = insert old.bearers target (ended_bearer at.bearer) }) (Came_to Ended) → G) → EndCame by target old e → G
  on_end_came Packet target marks r = quiet _ r
  on_end_came Serving target marks r = by_rule (quiet _) (λ at. by_rule (quiet _) (marks at)) r

  pub on_error_came : (remote : ℕ) → (e ≡ quietly (broken old remote) (Came_to Broken) → G) → ErrorCame remote old e → G
  on_error_came remote breaks r = by_rule (quiet _) (λ named. breaks) r

  pub on_user_step : (by : Role) (source : Endpoint) (reading : UserReading) → ((m : Message) → reading ≡ User_message m → UserTaken by source m old e → G)
      → (e ≡ record {
        out = says (user_end old.config.peer.user) (Supported_extensions (udp_port ∷ []));
        outcome = Came_to (Dropped UnknownExtension);
        node = old;
      } → G) → UserStep by source reading old e → G
  on_user_step by source reading taken needed (inl f) = quiet _ f.1
  on_user_step by source (User_message m) taken needed (inr (peer, r)) = taken m refl r
  on_user_step by source Extension_needed taken needed (inr (peer, r)) = needed r
  on_user_step by source (User_fault fault) taken needed (inr (peer, r)) = quiet _ r

  -- a datagram of the control plane
  pub on_control : {X : Type 0} (request : Arrival) → (Repeats old request e → G) → (IsNew old request → X → G)
      → Unless (request.source.ip ≡ old.config.peer.control) (e ≡ dropped old NotPeer) (λ peer. Repeats old request e ⊎ (IsNew old request × X)) → G
  on_control request again reads r = by_rule (quiet _) (λ peer. ⊎_elim again (λ x. reads x.0 x.1)) r

  on_faulty : (answered : Bool) (request : Arrival) (f : FaultyRequest) → (e ≡ faulted request f old → G) → Faulted answered request f old e → G
  on_faulty true request f answers r = answers r
  on_faulty false request f answers r = quiet _ r

  on_undecoded : (tells : Bool) (request : Arrival) (why : DropReason) → (tells ≡ true → e ≡ version_told request old → G)
      → e ≡ cond tells (version_told request old) (dropped old why) → G
  on_undecoded true request why answers r = answers refl r
  on_undecoded false request why answers r = quiet _ r

  -- and what was read of it
  pub on_read : (by : Role) (Takes : Arrival → Message → Node → Effect → Type 0) (request : Arrival) (reading : ControlReading)
      → ((m : Message) → reading ≡ Control_message m → takes_message by m ≡ true → Hears (Takes request m) old (recovery_of m) e → G)
      → ((f : FaultyRequest) → reading ≡ Faulty f → e ≡ faulted request f old → G)
      → ((fault : ℕ) → reading ≡ Control_fault fault → tells_version old.config request.octets fault ≡ true → e ≡ version_told request old → G)
      → TakesReading by Takes reading request old e → G
  on_read by Takes request (Control_message m) takes answers tells r = by_rule (quiet _) (takes m refl) r
  on_read by Takes request (Faulty f) takes answers tells r = on_faulty (answers_type by f.kind) request f (answers f refl) r
  on_read by Takes request (Control_fault fault) takes answers tells r =
      on_undecoded (tells_version old.config request.octets fault) request (undecodable Control fault) (tells fault refl) r

  -- a response that only ends its request, as a Delete Bearer Response
  pub on_finish : {number : ℕ} {Fits : HasPending old number → Type 0} {outcome : Outcome} → ((at : HasPending old number) → e ≡ finishing old number at.pending outcome → G)
      → EndsRequest old number Fits outcome e → G
  on_finish ends r = by_rule (quiet _) (λ at. by_rule (quiet _) (λ fits. ends at)) r

  pub on_session_answered : (a : CreateSessionResponse) → ((at : HasPending old a.number) (outcome : Outcome) → e ≡ finishing old a.number at.pending outcome → G)
      → ((at : HasPending old a.number) (fits : FitsCreateSession at.pending a) → IsAccepting a.cause → (new : DescribesSession old fits.session a)
      → IsAccepting new.context.cause → OpensSession old a fits.request fits.session new.at.session new.address e → G)
      → CreateSessionAnswered a old e → G
  on_session_answered a ends opens r =
      by_rule (quiet _) (λ at. by_rule (quiet _) (λ fits. by_rule (ends at _) (λ accepts. by_rule (quiet _) (λ new. by_rule (ends at _) (opens at fits accepts new))))) r

  pub on_bearer_answered : (x : CreateBearerResponse) → ((at : HasPending old x.number) (outcome : Outcome) → e ≡ finishing old x.number at.pending outcome → G)
      → ((at : HasPending old x.number) (fits : FitsCreateBearer at.pending x) → IsAccepting x.cause → (new : DescribesBearer x)
      → IsAccepting new.context.cause → teid_in new.context.packet_user ≡ Some fits.bearer → CanOpen old fits.session new.context.identity
      → OpensBearer old x fits.bearer e → G)
      → CreateBearerAnswered x old e → G
  on_bearer_answered x ends opens r =
      by_rule (quiet _) (λ at. by_rule (quiet _) (λ fits. by_rule (ends at _) (λ accepts. by_rule (quiet _)
      (λ new. by_rule (ends at _) (λ both. by_rule (quiet _) (λ returned. by_rule (ends at _) (opens at fits accepts new both returned))))))) r

  pub on_bearer_asked : (request : Arrival) (q : CreateBearerRequest) → (HasHeldRoom old → (x : CreateBearerResponse) (cause : ℕ) → e ≡ answered request (Create_bearer_response x) cause old → G)
      → (HasHeldRoom old → (at : HasSession old q.header) → HasDraws old 1 → MakesBearer request old q at.session e → G) → CreateBearerAsked request q old e → G
  on_bearer_asked request q refuses makes r =
      by_rule (quiet _) (λ room.
      by_rule (refuses room _ _) (λ at.
      by_rule (quiet _) (λ active. by_rule (refuses room _ _) (λ one. by_rule (refuses room _ _) (λ linked. by_rule (refuses room _ _) (λ free. makes room at free.1)))))) r

  pub on_session_asked : (request : Arrival) (q : CreateSessionRequest) → (HasHeldRoom old → (cause : Cause) → 64 ≤ cause.value → e ≡ session_refused request q cause old → G)
      → (HasHeldRoom old → IsIdentity q.context.identity → HasSessionRoom old → HasDraws old 2 → MakesSession request old q e → G) → CreateSessionAsked request q old e → G
  on_session_asked request q refuses makes r =
      by_rule (quiet _) (λ room.
      by_rule (refuses room (cause_of 94) (omega arith)) (λ one.
      by_rule (refuses room (cause_at 69 73 0) (omega arith)) (λ identity.
      by_rule (refuses room (cause_of 78) (omega arith)) (λ configured.
      by_rule (refuses room (cause_of 83) (omega arith)) (λ served.
      by_rule (refuses room (cause_of 73) (omega arith)) (λ few.
      by_rule (refuses room (cause_of 84) (omega arith)) (λ can. makes room identity few.0 few.1))))))) r

-- a message is taken once its counter is heard: by the gateway as it is, once the counter is known, or once the peer has restarted
module _ (G : Effect → Type 0) (Takes : Node → Effect → Type 0) (old : Node) (same : (e : Effect) → Takes old e → G e)
    (first : (c : ℕ) (e : Effect) → Takes (record old { known = Some c }) e → G e)
    (restarted : (c : ℕ) (e : Effect) → Takes (peer_restarted old c) e → G e)
    (quiet : (e : Effect) (outcome : EventOutcome) → e ≡ quietly old outcome → G e)
    (told : (taken : Effect) (heard learned : Option ℕ) → G taken → G (record taken { out = record taken.out { heard = heard; learned = learned } })) where
  on_age : (c : ℕ) (age : Age) (e : Effect) → Judges Takes old c age e → G e
  on_age c Same e r = same e r
  on_age c Later e r = restarted c e r
  on_age c Earlier e r = quiet e _ r

  on_known : (c : ℕ) (known : Option ℕ) (e : Effect) → Weighs Takes old c known e → G e
  on_known c None e r = first c e r
  on_known c (Some k) e r = on_age c (age_of k c) e r

  pub on_hears : (o : Option ℕ) (e : Effect) → Hears Takes old o e → G e
  on_hears None e r = same e r
  on_hears (Some c) e r = subst G (sym r.2) (told r.0 (Some c) (learned_by old.known c) (on_known c old.known r.0 r.1))

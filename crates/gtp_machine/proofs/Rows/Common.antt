-- The steps that both gateways have keep what each knows.
use Rattle.std.proofs.Common.{◌≡◌, ◌⊎◌, inl, inr, ⊎_elim, ℕ, List, [], ◌∷◌, Option, Some, None, false, refl, sym, ◌∙◌, ap, subst}
use Rattle.std.specs.FinMap.{get, insert}
use Rattle.gtp_values.specs.Counter.{age_of}
use Rattle.gtp_values.specs.declared.counter.Age.{Age}
use Rattle.gtp_values.specs.declared.counter.Age.TheVariants.{Same, Later, Earlier}
use Rattle.gtp_values.specs.declared.address.Endpoint.{Endpoint}
use Rattle.gtp_values.specs.FiniteMap.{Among}
use Rattle.gtp_tables.specs.Index.{names}
use Rattle.gtp_machine.specs.Config.{control_end, user_end}
use Rattle.gtp_machine.specs.Message.{CreateSessionRequest, DeleteSessionRequest, CreateBearerRequest, DeleteBearerRequest, CreateBearerResponse}
use Rattle.gtp_machine.specs.Message.{Message, Create_session_request, Delete_session_request, Create_bearer_request, Create_bearer_response}
use Rattle.gtp_machine.specs.Message.{Delete_bearer_request, Packet_data, End_marker, Error_indication, User_echo_request, User_echo_response}
use Rattle.gtp_machine.specs.Message.{Supported_extensions, Owns, recovery_of, first_given}
use Rattle.gtp_machine.specs.Node.{Role, Serving, Packet, Active, Closing, Bearer, PendingRequest, Arrival, Node, written}
use Rattle.gtp_machine.specs.Input.{UserReading, User_message, Extension_needed, User_fault, Move, Resend, Give_up, Forget, Entry, entry_for, Ticked}
use Rattle.gtp_machine.specs.Input.{Came_to, EventOutcome, GoneOut, Dropped, UnknownContext, UnknownExtension, Echoed, Repeated, Effect, nothing}
use Rattle.gtp_machine.specs.Input.{says, messages, Command, Create_session, Delete_session, Create_bearer, Delete_bearer, Release_session, Mark_end}
use Rattle.gtp_machine.specs.Input.{Send_echo, Send_user, Specification}
use Rattle.gtp_machine.specs.Removal.{finished}
use Rattle.gtp_machine.specs.Recovery.{peer_restarted, Judges, Weighs, Hears, learned_by}
use Rattle.gtp_machine.specs.Move.{MoveStep, Forgets}
use Rattle.gtp_machine.specs.User.{Accepts, ended_bearer, default_among, UserTaken, UserStep}
use Rattle.gtp_machine.specs.Command.{SendsPacket, SessionBegun, BearerBegun, CommandStep, asks}
use Rattle.gtp_machine.specs.Answer.{Repeats}
use Rattle.gtp_machine.specs.World.{other, Sent, HasSent}
use Rattle.gtp_machine.proofs.Basics.Finishing.{on_session_deleted, on_bearer_deleted, on_session_released, on_end_marked, on_echo_begun}
use Rattle.gtp_machine.proofs.Basics.Finishing.{on_packet_sent, on_packet_came, on_end_came, on_error_came, on_user_step}
use Rattle.gtp_machine.proofs.Basics.Kinds.{is_create_answer}
use Rattle.gtp_machine.proofs.Origins.Drawing.{Draws-nothing, Draws-one, Made-plain, IsProper}
use Rattle.gtp_machine.proofs.Origins.Contexts.{closes-shrinks}
use Rattle.gtp_machine.proofs.Changes.Shrinking.{Shrunk, Shrunk-itself, Shrunk-without, Shrunk-finished, Shrunk-bearer, Shrunk-closing}
use Rattle.gtp_machine.proofs.Changes.Shrinking.{Shrinks-restart, restart_pending, restart_leaves_pending, closing_same, ended_same}
use Rattle.gtp_machine.proofs.Changes.Matching.{IsMatched-shrinks}
use Rattle.gtp_machine.proofs.Origins.Entries.{Once, IsFor}
use Rattle.gtp_machine.proofs.Changes.Steps.{IsHandedNow, IsAnsweredNow, at_result, IsPlain, IsHeardFrom, Draws-from, Logs-from, Heard-itself}
use Rattle.gtp_machine.proofs.Changes.After.{Contexts-shrinks, Knows, KnownBy, KnownAfter, IsTold, nothing_told, After, drawn-shrinks}
use Rattle.gtp_machine.proofs.Changes.After.{standing-shrinks, ready-shrinks, later, shrunk, stays, speaks, asks_plain, repeated, repeated_whole}
use Rattle.gtp_machine.proofs.Changes.Carrying.{leaves_for, comes_for}
use Rattle.gtp_values.specs.declared.qos.Qos.{Qos}
use Rattle.gtp_machine.proofs.Changes.Forgetting.{leaves}

-- a request that asks for no session and no bearer, owns no TEID, and tells no counter but this
record IsLesser (counter : ℕ) (m : Message) : Type 0 where
  plain : IsPlain m
  no_session : (q : CreateSessionRequest) → m ≡ Create_session_request q → ⊥
  no_bearer : (r : CreateBearerRequest) → m ≡ Create_bearer_request r → ⊥
  no_answer : is_create_answer m ≡ false
  none : (t : ℕ) → Owns m t → ⊥
  told : (r : ℕ) → recovery_of m ≡ Some r → r ≡ counter
  proper : (role : Role) → IsProper role m

deletes_session : (counter : ℕ) (d : DeleteSessionRequest) → IsLesser counter (Delete_session_request d)
deletes_session counter d = record { plain = tt; no_session = λ q e. cc e; no_bearer = λ r e. cc e; no_answer = refl; none = λ t none. none; told = λ r e. absurd (cc e); proper = λ role. tt }

deletes_bearer : (counter : ℕ) (d : DeleteBearerRequest) → IsLesser counter (Delete_bearer_request d)
deletes_bearer counter d = record { plain = tt; no_session = λ q e. cc e; no_bearer = λ r e. cc e; no_answer = refl; none = λ t none. none; told = λ r e. absurd (cc e); proper = λ role. tt }

-- what was read on the user plane was sent
abbrev pub UserCarried : Role → List Sent → UserReading → Type 0
UserCarried role history (User_message m) = HasSent history (other role) m
UserCarried role history Extension_needed = Unit {0}
UserCarried role history (User_fault fault) = Unit {0}

module _ (role : Role) (history : List Sent) (taken : Arrival → Message → Type 0) (serving_once : Once history Serving)
    (packet_once : Once history Packet) (old : Node) (knows : Knows role history old) where
  -- a command or a datagram that leaves everything as it is
  pub unchanged : (outcome : EventOutcome) (e : Effect) → e ≡ record { out = nothing; outcome = outcome; node = old } → After role history taken old e
  unchanged outcome e gives = at_result (After role history taken old) e _ gives (stays role history taken old knows outcome)

  -- a message that is made now, owns no TEID and changes nothing
  tells_plain : (destination : Endpoint) (m : Message) (outcome : EventOutcome) (new : Node) → Shrunk old new → IsPlain m → ((t : ℕ) → Owns m t → ⊥)
      → ((r : ℕ) → recovery_of m ≡ Some r → r ≡ old.counter) → IsProper role m
      → After role history taken old (record { out = says destination m; outcome = outcome; node = new })
  tells_plain destination m outcome new s plain none told proper = speaks role history taken old knows destination m outcome new s plain (Made-plain history role old new m none told proper)

  -- a request that makes nothing is sent, and what it is about closes or stays
  asks_lesser : (number : ℕ) (p : PendingRequest) (teid : Option ℕ) (new : Node) → Shrunk old new → IsLesser old.counter p.request → (e : Effect)
      → e ≡ asks old number p teid new → After role history taken old e
  asks_lesser number p teid new s is e gives =
      at_result (After role history taken old) e _ gives (asks_plain role history taken old knows number p teid new s is.plain
      (Made-plain history role old (record new { pending = insert old.pending number p }) p.request is.none is.told (is.proper role))
      (record {
        waits = λ q e. absurd (is.no_session q e);
        numbered = λ q e. absurd (is.no_session q e);
        names_bearer = λ r e. absurd (is.no_bearer r e);
        of_session = λ r e. absurd (is.no_bearer r e);
      })
      (λ q e. absurd (is.no_session q e))
      is.no_answer)

  -- a packet that is handed in on an active bearer
  pub sends : (bearer : ℕ) (payload : List ℕ) (b : Bearer) (e : Effect) → get old.bearers bearer ≡ Some b → b.state ≡ Active → SendsPacket old b payload e → After role history taken old e
  sends bearer payload b e stands active r =
      let remote = knows.ready bearer b stands active in
      let same : written b.remote ≡ remote.0 = ap written remote.1 in
      let m = Packet_data (written b.remote) payload in
      let entry : Entry = entry_for (written b.remote) payload r.of.session.subscriber b.identity in
      at_result (After role history taken old) e _ r.gives (record {
        knows = later role history taken old knows (m ∷ []);
        known = refl;
        told = nothing_told history (other role);
        draws = Draws-one history role old old m refl refl refl (inr (Made-plain history role old old m (λ t none. none) (λ c e. absurd (cc e)) tt));
        logs = record {
          held_stays = λ h was. inl was;
          packets = packets entry refl refl;
          handed =
              handed entry (subst (λ t. IsFor history (other role) (entry_for t payload r.of.session.subscriber b.identity)) (sym same)
              (leaves_for history serving_once packet_once old.sessions old.bearers role knows.contexts bearer payload b r.of.session remote.0 stands
              remote.1 r.of.stands));
          accepted = λ e none. absurd none;
          answers = answers;
          made = inl refl;
        };
        few = (tt, tt);
      })
    where
      packets : (entry : Entry) → entry.target ≡ written b.remote → entry.payload ≡ payload → (t : ℕ) (p : List ℕ)
          → Among (Packet_data t p) (Packet_data (written b.remote) payload ∷ []) → HasSent history role (Packet_data t p)
          ⊎ IsHandedNow (record (says (user_end old.config.peer.user) (Packet_data (written b.remote) payload)) { handed = entry ∷ [] }) t p
      packets entry target carries t p (inl is) = inr (record { entry = entry; handed = inl refl; names = cc; carries = cc })
      packets entry target carries t p (inr none) = absurd none

      handed : (entry : Entry) → IsFor history (other role) entry → (e : Entry) → Among e (entry ∷ []) → IsFor history (other role) e
      handed entry is e (inl same) = subst (IsFor history (other role)) (sym same) is
      handed entry is e (inr none) = absurd none

      answers : (x : CreateBearerResponse) (t : ℕ) → Among (Create_bearer_response x) (Packet_data (written b.remote) payload ∷ [])
          → first_given x.contexts ≡ Some t → HasSent history role (Create_bearer_response x) ⊎ IsAnsweredNow history old old taken x
      answers x t (inl is) gives = absurd (cc is)
      answers x t (inr none) gives = absurd none

  -- a command, where this is so of the two that one gateway has and the other has not
  pub commanded : (by : Role) (command : Command) (e : Effect) → ((spec : Specification) → SessionBegun by spec old e → After role history taken old e)
      → ((session : ℕ) (tft : List ℕ) (qos : Qos) → BearerBegun by session tft qos old e → After role history taken old e)
      → CommandStep by command old e → After role history taken old e
  commanded by (Create_session spec) e sessions bearers r = sessions spec r
  commanded by (Delete_session session) e sessions bearers r =
      on_session_deleted old e (λ outcome f. unchanged outcome e f) by session
      (λ at active few r. asks_lesser r.number _ _ _ (Shrunk-closing old session at.session at.stands active) (deletes_session old.counter _) e r.gives)
      r
  commanded by (Create_bearer session tft qos) e sessions bearers r = bearers session tft qos r
  commanded by (Delete_bearer session identity) e sessions bearers r =
      on_bearer_deleted old e (λ outcome f. unchanged outcome e f) by session identity
      (λ at named active few r. asks_lesser r.number _ _ _
      (Shrunk-bearer old named.key named.at.bearer (record named.at.bearer { state = Closing }) named.at.stands (closing_same named.at.bearer))
      (deletes_bearer old.counter _) e r.gives)
      r
  commanded by (Release_session session) e sessions bearers r =
      on_session_released old e (λ outcome f. unchanged outcome e f) by session
      (λ at active few r. asks_lesser r.number _ _ _ (Shrunk-closing old session at.session at.stands active) (deletes_bearer old.counter _) e r.gives)
      r
  commanded by (Mark_end bearer) e sessions bearers r =
      on_end_marked old e (λ outcome f. unchanged outcome e f) by bearer
      (λ at active gives. at_result (After role history taken old) e _ gives (tells_plain _ (End_marker (written at.bearer.remote)) (Came_to GoneOut)
      (record old { bearers = insert old.bearers bearer (ended_bearer at.bearer) })
      (Shrunk-bearer old bearer at.bearer (ended_bearer at.bearer) at.stands (ended_same at.bearer)) tt (λ t none. none) (λ c e. absurd (cc e)) tt))
      r
  commanded by Send_echo e sessions bearers r =
      on_echo_begun old e (λ outcome f. unchanged outcome e f)
      (λ few r. asks_lesser r.number _ _ old (Shrunk-itself old)
      (record {
        plain = tt;
        no_session = λ q e. cc e;
        no_bearer = λ r e. cc e;
        no_answer = refl;
        none = λ t none. none;
        told = λ r e. cc e;
        proper = λ role. tt;
      }) e r.gives)
      r
  commanded by (Send_user bearer payload) e sessions bearers r =
      on_packet_sent old e (λ outcome f. unchanged outcome e f) by bearer payload (λ at active r. sends bearer payload at.bearer e at.stands active r)
      r

  once_of : (by : Role) → Once history by
  once_of Serving = serving_once
  once_of Packet = packet_once

  pub repeats : (request : Arrival) (e : Effect) → Repeats old request e → After role history taken old e
  repeats request e r =
      at_result (After role history taken old) e _ r.gives (repeated_whole role history taken old knows request.source r.held.answer (Came_to Repeated) (once_of role) (knows.held r.held r.stands))

  forgets : (request : Arrival) (e : Effect) → Forgets old request e → After role history taken old e
  forgets request e r =
      let k = later role history taken old knows [] in
      let l = leaves request old.held r.rest r.left in
      at_result (After role history taken old) e _ r.gives (record {
        knows =
            record {
              contexts = k.contexts;
              matched = k.matched;
              drawn = k.drawn;
              standing = k.standing;
              ready = k.ready;
              closed = k.closed;
              pending = k.pending;
              held = λ h among. k.held h (l.only h among);
            };
        known = refl;
        told = nothing_told history (other role);
        draws = Draws-nothing history role old (record old { held = r.rest }) refl refl refl;
        logs = record {
          held_stays = λ h was. ⊎_elim (λ stays. inl stays) (λ same. inr (inl same)) (l.others h was);
          packets = λ target payload none. absurd none;
          handed = λ e none. absurd none;
          accepted = λ e none. absurd none;
          answers = λ x t none. absurd none;
          made = inl refl;
        };
        few = tt;
      })

  pub moves : (move : Move) (e : Effect) → MoveStep old move e → After role history taken old e
  moves (Resend number) e r =
      at_result (After role history taken old) e _ r.gives
      (repeated role history taken old knows (control_end old.config.peer.control) r.at.pending.request Ticked
      (knows.pending number r.at.pending r.at.waits).sent)
  moves (Give_up number) e r =
      at_result (After role history taken old) e _ r.gives
      (shrunk role history taken old knows (finished old number r.at.pending) (Shrunk-finished old number r.at.pending.session r.at.pending.bearer)
      (number ∷ []) Ticked)
  moves (Forget request) e r = forgets request e r

  accepts : (target : ℕ) (payload : List ℕ) (b : Bearer) (e : Effect) → get old.bearers target ≡ Some b → b.state ≡ Active
      → HasSent history (other role) (Packet_data target payload) → Accepts old target payload b e → After role history taken old e
  accepts target payload b e stands active came r =
      let remote = knows.ready target b stands active in
      let entry : Entry = entry_for target payload r.of.session.subscriber b.identity in
      at_result (After role history taken old) e _ r.gives (record {
        knows = later role history taken old knows [];
        known = refl;
        told = nothing_told history (other role);
        draws = Draws-nothing history role old old refl refl refl;
        logs = record {
          held_stays = λ h was. inl was;
          packets = λ t p none. absurd none;
          handed = λ e none. absurd none;
          accepted = accepted entry came (comes_for history serving_once packet_once old.sessions old.bearers role knows.contexts target payload b r.of.session remote.0 stands remote.1 r.of.stands);
          answers = λ x t none. absurd none;
          made = inl refl;
        };
        few = tt;
      })
    where
      accepted : (entry : Entry) → HasSent history (other role) (Packet_data entry.target entry.payload) → IsFor history role entry → (e : Entry)
          → Among e (entry ∷ []) → HasSent history (other role) (Packet_data e.target e.payload) × IsFor history role e
      accepted entry delivered is e (inl same) = subst (λ (k : Entry). HasSent history (other role) (Packet_data k.target k.payload) × IsFor history role k) (sym same) (delivered, is)
      accepted entry delivered is e (inr none) = absurd none

  user_taken : (by : Role) (source : Endpoint) (m : Message) (e : Effect) → HasSent history (other role) m → UserTaken by source m old e → After role history taken old e
  user_taken by source (Packet_data target payload) e came r =
      on_packet_came old e (λ outcome f. unchanged outcome e f) by target payload
      (λ f. at_result (After role history taken old) e _ f
      (tells_plain (user_end old.config.peer.user) (Error_indication target old.config.own.user) (Came_to (Dropped UnknownContext)) old
      (Shrunk-itself old) tt (λ t none. none) (λ c e. absurd (cc e)) tt))
      (λ at active r. accepts target payload at.bearer e at.stands active came r)
      r
  user_taken by source (End_marker target) e came r =
      on_end_came old e (λ outcome f. unchanged outcome e f) by target
      (λ at active gives. at_result (After role history taken old) e _ gives
      (shrunk role history taken old knows (record old { bearers = insert old.bearers target (ended_bearer at.bearer) })
      (Shrunk-bearer old target at.bearer (ended_bearer at.bearer) at.stands (ended_same at.bearer)) [] _))
      r
  user_taken by source (Error_indication remote address) e came r =
      on_error_came old e (λ outcome f. unchanged outcome e f) remote
      (λ gives. at_result (After role history taken old) e _ gives
      (shrunk role history taken old knows _ (Shrunk-without (λ t. default_among remote t old.bearers) (λ t. names remote (get old.bearers t)) old)
      [] _))
      r
  user_taken by source (User_echo_request number) e came r =
      at_result (After role history taken old) e _ r
      (tells_plain source (User_echo_response number) (Came_to Echoed) old (Shrunk-itself old) tt (λ t none. none) (λ c e. absurd (cc e)) tt)
  user_taken by source _ e came r = unchanged _ e r

  pub user_step : (by : Role) (source : Endpoint) (reading : UserReading) (e : Effect) → UserCarried role history reading → UserStep by source reading old e → After role history taken old e
  user_step by source reading e came r =
      on_user_step old e (λ outcome f. unchanged outcome e f) by source reading
      (λ m is r. user_taken by source m e (subst (UserCarried role history) is came) r)
      (λ f. at_result (After role history taken old) e _ f
      (tells_plain (user_end old.config.peer.user) (Supported_extensions (64 ∷ [])) (Came_to (Dropped UnknownExtension)) old (Shrunk-itself old) tt
      (λ t none. none) (λ c e. absurd (cc e)) tt))
      r

-- the first counter that is heard
knows_first : (role : Role) (history : List Sent) (old : Node) (c : ℕ) → old.known ≡ None → Knows role history old → Knows role history (record old { known = Some c })
knows_first role history old c none knows =
    record {
      matched = knows.matched;
      contexts = knows.contexts;
      drawn = knows.drawn;
      standing =
          λ t s e. let at = knows.standing t s e in record { current = λ r is. absurd (cc (none, at.current r is)); blank = at.blank; named = at.named };
      ready = knows.ready;
      closed = knows.closed;
      pending = knows.pending;
      held = knows.held;
    }

-- a later counter that is heard
knows_restart : (role : Role) (history : List Sent) (old : Node) (c : ℕ) → Knows role history old → Knows role history (peer_restarted old c)
knows_restart role history old c knows = record {
  contexts = Contexts-shrinks role history old (peer_restarted old c) (Shrinks-restart old c) knows.contexts;
  drawn = drawn-shrinks old (peer_restarted old c) (Shrinks-restart old c) knows.drawn;
  matched = λ number p e. IsMatched-shrinks old (peer_restarted old c) (Shrinks-restart old c) number p (knows.matched number p (restart_pending old c number p e));
  standing = λ t s e.
      let waits = restart_leaves_pending old c t s e in
      let at = standing-shrinks old (peer_restarted old c) (Shrinks-restart old c) knows.standing t s e in
      record { current = λ r is. absurd (cc (at.blank waits, is)); blank = at.blank; named = at.named };
  ready = ready-shrinks old (peer_restarted old c) (Shrinks-restart old c) knows.ready;
  closed = closes-shrinks old.sessions old.bearers (peer_restarted old c).sessions (peer_restarted old c).bearers (Shrinks-restart old c) knows.closed;
  pending = λ number p e. knows.pending number p (restart_pending old c number p e);
  held = knows.held;
}

pub Heard-restart : (old : Node) (c : ℕ) → IsHeardFrom old (peer_restarted old c)
Heard-restart old c = record { config = refl; counter = refl; drawn = refl; held = refl; sessions = λ t s e. let was = (Shrinks-restart old c).sessions t s e in (was.before, was.stood) }

Heard-first : (old : Node) (c : ℕ) → IsHeardFrom old (record old { known = Some c })
Heard-first old c = record { config = refl; counter = refl; drawn = refl; held = refl; sessions = λ t s e. (s, e) }

-- what the message leaves, once its counter is heard
from_mid : (role : Role) (history : List Sent) (taken : Arrival → Message → Type 0) (old mid : Node) (e : Effect) (heard : ℕ) (learned : Option ℕ)
    → IsHeardFrom old mid → IsTold history (other role) heard → KnownAfter old.known (Some heard) e.node.known → After role history taken mid e
    → After role history taken old (record e { out = record e.out { heard = Some heard; learned = learned } })
from_mid role history taken old mid e heard learned from told known after = record {
  knows = after.knows;
  draws = Draws-from history role old mid e.node (messages e.out.sent) from after.draws;
  known = known;
  told = λ c is. subst (IsTold history (other role)) (let same : heard ≡ c = cc is in same) told;
  logs = Logs-from history role taken old mid e (Some heard) learned from after.logs;
  few = after.few;
}

-- equal ages are equal counters
abbrev pub SameIs : Node → Message → Type 0
SameIs old m = (k c : ℕ) → recovery_of m ≡ Some c → old.known ≡ Some k → age_of k c ≡ Same → k ≡ c

-- where no counter is heard, the same is known
same_known : (old new heard : Option ℕ) → heard ≡ None → KnownAfter old heard new → new ≡ old
same_known old new heard none known = subst (λ h. KnownAfter old h new) none known

-- what is known after a counter of that age
known_by : (old : Option ℕ) (k c : ℕ) (a : Age) (new : Option ℕ) → old ≡ Some k → age_of k c ≡ a → KnownBy a k c new → KnownAfter old (Some c) new
known_by old k c a new known age_is by = subst (λ o. KnownAfter o (Some c) new) (sym known) (subst (λ x. KnownBy x k c new) (sym age_is) by)

module _ (role : Role) (history : List Sent) (taken : Arrival → Message → Type 0) (serving_once : Once history Serving)
    (packet_once : Once history Packet) (m : Message) (came : HasSent history (other role) m) (Takes : Node → Effect → Type 0) (old : Node)
    (takes : (mid : Node) → IsHeardFrom old mid → Knows role history mid → ((c : ℕ) → recovery_of m ≡ Some c → mid.known ≡ Some c) → (e : Effect)
    → Takes mid e → After role history taken mid e × (e.out.heard ≡ None))
    (knows : Knows role history old) where
  is_told : (c : ℕ) → recovery_of m ≡ Some c → IsTold history (other role) c
  is_told c tells = record { message = m; sent = came; tells = tells }

  judges : (c k : ℕ) (learned : Option ℕ) (e : Effect) → recovery_of m ≡ Some c → old.known ≡ Some k → (a : Age) → age_of k c ≡ a → SameIs old m
      → Judges Takes old c a e → After role history taken old (record e { out = record e.out { heard = Some c; learned = learned } })
  judges c k learned e tells known Same age_is same r =
      let told : (d : ℕ) → recovery_of m ≡ Some d → old.known ≡ Some d = λ d e. (let k_is : k ≡ c = same k c tells known age_is in cc) in
      let t = takes old (Heard-itself old) knows told e r in
      from_mid role history taken old old e c learned (Heard-itself old) (is_told c tells)
      (known_by old.known k c Same e.node.known known age_is (same_known old.known e.node.known e.out.heard t.1 t.0.known ∙ known)) t.0
  judges c k learned e tells known Later age_is same r =
      let told : (d : ℕ) → recovery_of m ≡ Some d → Some c ≡ Some d = λ d e. sym tells ∙ e in
      let t = takes (peer_restarted old c) (Heard-restart old c) (knows_restart role history old c knows) told e r in
      from_mid role history taken old (peer_restarted old c) e c learned (Heard-restart old c) (is_told c tells)
      (known_by old.known k c Later e.node.known known age_is (same_known (Some c) e.node.known e.out.heard t.1 t.0.known)) t.0
  judges c k learned e tells known Earlier age_is same r =
      from_mid role history taken old old e c learned (Heard-itself old) (is_told c tells)
      (known_by old.known k c Earlier e.node.known known age_is (ap (λ (f : Effect). f.node.known) r ∙ known))
      (unchanged role history taken serving_once packet_once old knows _ e r)

  weighs : (c : ℕ) (learned : Option ℕ) (e : Effect) → recovery_of m ≡ Some c → (known : Option ℕ) → old.known ≡ known → SameIs old m
      → Weighs Takes old c known e → After role history taken old (record e { out = record e.out { heard = Some c; learned = learned } })
  weighs c learned e tells None known same r =
      let mid = record old { known = Some c } in
      let told : (d : ℕ) → recovery_of m ≡ Some d → Some c ≡ Some d = λ d e. sym tells ∙ e in
      let t = takes mid (Heard-first old c) (knows_first role history old c known knows) told e r in
      from_mid role history taken old mid e c learned (Heard-first old c) (is_told c tells)
      (subst (λ o. KnownAfter o (Some c) e.node.known) (sym known) (same_known (Some c) e.node.known e.out.heard t.1 t.0.known)) t.0
  weighs c learned e tells (Some k) known same r = judges c k learned e tells known (age_of k c) refl same r

  pub hears : (o : Option ℕ) (e : Effect) → recovery_of m ≡ o → SameIs old m → Hears Takes old o e → After role history taken old e
  hears None e tells same r = (takes old (Heard-itself old) knows (λ c some. absurd (cc (tells, some))) e r).0
  hears (Some c) e tells same r = at_result (After role history taken old) e _ r.2 (weighs c (learned_by old.known c) r.0 tells old.known refl same r.1)

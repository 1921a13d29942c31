-- Each row leaves a sound node sound.
use Rattle.std.proofs.Common.{◌≡◌, inl, inr, ⊎_elim, ℕ, ◌+◌, ◌≤◌, ◌<◌, Bool, false, List, [], ◌∷◌, length, Option, Some, None, refl, sym, ◌∙◌, ap, subst, arith}
use Rattle.std.specs.FinMap.{get, insert, remove, len}
use Rattle.gtp_values.specs.declared.qos.Qos.{Qos}
use Rattle.gtp_values.specs.declared.address.Endpoint.{Endpoint}
use Rattle.gtp_values.specs.FiniteMap.{Among}
use Rattle.gtp_values.specs.Number.{is_number}
use Rattle.gtp_tables.specs.Index.{names}
use Rattle.gtp_machine.specs.Step.{Done, Steps}
use Rattle.gtp_machine.specs.Element.{IsAccepting}
use Rattle.gtp_machine.specs.Message.{CreateSessionRequest, CreateSessionResponse, DeleteSessionRequest, CreateBearerRequest, CreateBearerResponse}
use Rattle.gtp_machine.specs.Message.{DeleteBearerRequest, RemovedBearer, Message, Create_session_response, Create_bearer_request}
use Rattle.gtp_machine.specs.Message.{Create_bearer_response, Packet_data, End_marker, Error_indication, recovery_of, first_created, first_given}
use Rattle.gtp_machine.specs.Message.{first_identity}
use Rattle.gtp_machine.specs.Node.{Role, Serving, Packet, Pending, Active, Closing, Default, Dedicated, Session, Bearer, Arrival, Held, Node, fresh_node}
use Rattle.gtp_machine.specs.Input.{EventOutcome, Outcome, Specification, ControlReading, UserReading, Command, Create_session, Delete_session}
use Rattle.gtp_machine.specs.Input.{Create_bearer, Delete_bearer, Release_session, Mark_end, Send_echo, Send_user, Move, Resend, Give_up, Forget}
use Rattle.gtp_machine.specs.Input.{Commanded, Control_came, User_came, Moves_on, Effect, Came_to, Begun, says}
use Rattle.gtp_machine.specs.Choice.{IsFreeNumber, HasPending, IsIdentity, HasHeldRoom, HasSessionRoom, HasDraws}
use Rattle.gtp_machine.specs.Response.{EndsRequest}
use Rattle.gtp_machine.specs.Removal.{without, finished, without_session, without_bearer, session_closing, closing_session, is_opened}
use Rattle.gtp_machine.specs.Recovery.{peer_restarted, Hears}
use Rattle.gtp_machine.specs.Move.{MoveStep}
use Rattle.gtp_machine.specs.User.{UserTaken, UserStep, ended_bearer, default_among}
use Rattle.gtp_machine.specs.Command.{asks, session_request, pending_session, pending_bearer, session_begun, BeginsSession, bearer_request}
use Rattle.gtp_machine.specs.Command.{create_bearer_asked as begun_bearer, pending_dedicated, BeginsBearer, ClosesBearer, CommandStep}
use Rattle.gtp_machine.specs.Answer.{TakesReading, ControlStep}
use Rattle.gtp_machine.specs.Serving.{FitsCreateSession, DescribesSession, opened_session, opened_bearer, OpensSession, CreateSessionAnswered}
use Rattle.gtp_machine.specs.Serving.{granted_bearer, CreateBearerAsked, RemovesEach, DeleteBearerTaken, DeleteBearerAsked, ServingTakes}
use Rattle.gtp_machine.specs.Config.{control_end, template_asked}
use Rattle.gtp_machine.proofs.Basics.Finishing.{quietly, on_session_begun, on_session_deleted, on_bearer_begun, on_bearer_deleted}
use Rattle.gtp_machine.proofs.Basics.Finishing.{on_session_released, on_end_marked, on_echo_begun, on_packet_sent, on_packet_came, on_end_came}
use Rattle.gtp_machine.proofs.Basics.Finishing.{on_error_came, on_user_step, on_finish, on_session_answered, on_bearer_answered, on_bearer_asked}
use Rattle.gtp_machine.proofs.Basics.Finishing.{on_session_asked, on_hears, on_control, on_read}
use Rattle.gtp_machine.proofs.Basics.Templates.{goes}
use Rattle.gtp_machine.specs.Packet.{session_cause, session_response, made_session, made_bearer, session_made, MakesSession, CreateSessionAsked}
use Rattle.gtp_machine.specs.Packet.{DeleteSessionAsked, FitsCreateBearer, DescribesBearer, CanOpen, opened_dedicated, OpensBearer}
use Rattle.gtp_machine.specs.Packet.{CreateBearerAnswered, PacketTakes}
use Rattle.gtp_machine.specs.Sound.{At, IsInState, IsBearerOf, DeletesSession, IsSound, NamesItsEnds, IsWellFormed, AreWellFormed, StaysSound, ReachedIsSound, GivesEachAddressOnce}
use Rattle.gtp_machine.proofs.Basics.FiniteMaps.{get-insert_same}
use Rattle.gtp_machine.proofs.Sound.Parts.{at_here, no_delete_session}
use Rattle.gtp_machine.proofs.Sound.Changes.{fresh, without_sound, without_session_sound, without_bearer_sound, finished_sound, holding_sound}
use Rattle.gtp_machine.proofs.Sound.Changes.{known_sound, asks_sound, free_opened, session_comes, bearer_comes, bearer_changes, closing_sound}
use Rattle.gtp_machine.proofs.Sound.Changes.{is_session, is_bearer, session_opens, bearer_opens}
use Rattle.gtp_machine.proofs.Sound.Addresses.{serving_not_packet, given_is_new}
use Rattle.gtp_machine.proofs.Changes.Forgetting.{leaves}
use Rattle.std.proofs.lemmas.Option.{same_Some as some_is}
use Rattle.gtp_values.proofs.Outcomes.{none_some}
use Rattle.gtp_machine.proofs.Basics.Kinds.{by_serving, by_packet}
use Rattle.gtp_machine.proofs.Basics.Facts.{one_value, pending_active}

module _ (role : Role) where
  -- what a row says of its effect
  by_row : (e f : Effect) → e ≡ f → IsSound role f.node → IsSound role e.node
  by_row e f gives s = subst (λ (k : Effect). IsSound role k.node) (sym gives) s

  -- nothing changes
  quiet : (old : Node) → IsSound role old → (e : Effect) (outcome : EventOutcome) → e ≡ quietly old outcome → IsSound role e.node
  quiet old sound e outcome gives = by_row e _ gives sound

-- a bearer is begun
begins_bearer : (old : Node) → IsSound Packet old → (session : ℕ) (at : Session) (tft : List ℕ) (qos : Qos) (e : Effect) → get old.sessions session ≡ Some at
    → length old.drawn + 1 ≤ 16777215 → len old.pending < 256 → BeginsBearer old session at tft qos e → IsSound Packet e.node
begins_bearer old sound session at tft qos e stands draws few r =
    by_row Packet e _ r.gives
    (asks_sound Packet old sound (record old { drawn = r.user ∷ old.drawn; bearers = insert old.bearers r.user (pending_dedicated session) }) r.number _
    (bearer_comes Packet old sound r.user (pending_dedicated session) r.user_free draws
    (record { own = inl refl; of = (at, stands); named = λ a. absurd (cc a); blank = λ w. refl; range = λ i e. absurd (none_some i e) })
    (λ t a i e same ia ib. none_some i ib))
    refl few r.number_free.small
    (inr (inr (inr (inl (record {
      by = refl;
      request = bearer_request old at tft qos r.user r.number;
      asked = refl;
      numbered = refl;
      about = session;
      session = refl;
      bearer = refl;
      wanted = inl (at_here old.bearers r.user (pending_dedicated session) (IsBearerOf session Dedicated Pending) r.user refl (record { of = refl; is_kind = refl; in_state = refl }));
    })))))
    (λ m p t at o same. free_opened Packet old sound r.user m p t r.user_free at o (sym (some_is r.user t same))))

module _ (old : Node) where
  begins : IsSound Serving old → (spec : Specification) → IsIdentity spec.subscriber.identity → (e : Effect) → len old.sessions < 1000
      → length old.drawn + 2 ≤ 16777215 → len old.pending < 256 → BeginsSession old spec e → IsSound Serving e.node
  begins sound spec identity e room draws few r =
      let q = session_request old spec r.control r.user r.number in
      by_row Serving e _ r.gives (asks_sound Serving old sound (session_begun old r.control r.user q) r.number _
      (session_comes Serving old sound r.control r.user (pending_session q) (pending_bearer r.control q) r.control_free r.user_free refl room draws
      (record { own = inr (inl refl); named = λ n. absurd (n refl); blank = λ w. refl })
      (record {
        own = inl refl;
        of = (pending_session q, get-insert_same old.sessions r.control (pending_session q));
        named = λ a. absurd (cc a);
        blank = λ w. refl;
        range = λ i e. subst IsIdentity (some_is spec.subscriber.identity i e) identity;
      })
      (λ packet. absurd (serving_not_packet packet)))
      refl few r.number_free.small
      (inr (inl (record {
        by = refl;
        request = q;
        asked = refl;
        numbered = refl;
        session = refl;
        bearer = refl;
        waits = at_here old.sessions r.control (pending_session q) (IsInState Pending) r.control refl refl;
        default = at_here old.bearers r.user (pending_bearer r.control q) (IsBearerOf r.control Default Pending) r.user refl (record { of = refl; is_kind = refl; in_state = refl });
      })))
      (λ m p t at o same. free_opened Serving old sound r.control m p t r.control_free at o (sym (some_is r.control t same))))

  -- a session is closing, and a request to delete it is sent
  closes : (role : Role) → IsSound role old → (session : ℕ) (at : Session) (number : ℕ) (request : Message) (e : Effect)
      → get old.sessions session ≡ Some at → at.state ≡ Active → len old.pending < 256 → IsFreeNumber old number → DeletesSession role number request
      → e ≡ asks old number (record { session = Some session; bearer = None; request = request }) (Some session) (session_closing old session at)
      → IsSound role e.node
  closes role sound session at number request e stands active few free deletes gives =
      by_row role e _ gives
      (asks_sound role old sound (session_closing old session at) number _ (closing_sound role old sound session at stands active) refl few free.small
      (inr (inr (inl (record { asked = deletes; about = session; session = refl; bearer = refl; closes = at_here old.sessions session (closing_session at) (IsInState Closing) session refl refl }))))
      (λ m p t at o same. no_delete_session role number request t deletes same))

  closes_bearer : IsSound Packet old → (session : ℕ) (at : Session) (identity bearer : ℕ) (b : Bearer) (e : Effect) → get old.bearers bearer ≡ Some b
      → b.state ≡ Active → b.session ≡ session → b.kind ≡ Dedicated → len old.pending < 256 → ClosesBearer old session at identity bearer b e
      → IsSound Packet e.node
  closes_bearer sound session at identity bearer b e stands active of dedicated few r =
      by_row Packet e _ r.gives
      (asks_sound Packet old sound (record old { bearers = insert old.bearers bearer (record b { state = Closing }) }) r.number _
      (bearer_changes Packet old sound bearer b (record b { state = Closing }) stands active refl refl refl refl (λ w. cc w))
      refl few r.number_free.small
      (inr (inr (inr (inr (record {
        by = refl;
        request = _;
        asked = refl;
        numbered = refl;
        unlinked = refl;
        about = session;
        session = refl;
        key = bearer;
        bearer = refl;
        closes = at_here old.bearers bearer (record b { state = Closing }) (IsBearerOf session Dedicated Closing) bearer refl (record { of = of; is_kind = dedicated; in_state = refl });
      })))))
      (λ m p t at o same. none_some t same))

  ends_bearer : (role : Role) → IsSound role old → (key : ℕ) (b : Bearer) → get old.bearers key ≡ Some b → b.state ≡ Active
      → IsSound role (record old { bearers = insert old.bearers key (ended_bearer b) })
  ends_bearer role sound key b stands active = bearer_changes role old sound key b (ended_bearer b) stands active refl refl refl refl (λ w. pending_active b.state w active)

  command : (role : Role) → IsSound role old → (c : Command) → IsWellFormed (Commanded c) → (e : Effect) → CommandStep role c old e → IsSound role e.node
  command Packet sound (Create_session spec) formed e r = by_row Packet e _ r sound
  command Serving sound (Create_session spec) formed e r =
      on_session_begun old e (quiet Serving old sound e) Serving spec
      (λ room draws few r. begins sound spec formed e room.few draws.left few.few r)
      r
  command Packet sound (Delete_session session) formed e r = by_row Packet e _ r sound
  command Serving sound (Delete_session session) formed e r =
      on_session_deleted old e (quiet Serving old sound e) Serving session
      (λ at active few r. closes Serving sound session at.session r.number _ e at.stands active few.few r.number_free (_, refl, refl) r.gives)
      r
  command Serving sound (Create_bearer session tft qos) formed e r = by_row Serving e _ r sound
  command Packet sound (Create_bearer session tft qos) formed e r =
      on_bearer_begun old e (quiet Packet old sound e) Packet session tft qos
      (λ at active draws few r. begins_bearer old sound session at.session tft qos e at.stands draws.left few.few r)
      r
  command Serving sound (Delete_bearer session identity) formed e r = by_row Serving e _ r sound
  command Packet sound (Delete_bearer session identity) formed e r =
      on_bearer_deleted old e (quiet Packet old sound e) Packet session identity
      (λ at named active few r. closes_bearer sound session at.session identity named.key named.at.bearer e named.at.stands active named.of named.dedicated few.few r)
      r
  command Serving sound (Release_session session) formed e r = by_row Serving e _ r sound
  command Packet sound (Release_session session) formed e r =
      on_session_released old e (quiet Packet old sound e) Packet session
      (λ at active few r. closes Packet sound session at.session r.number _ e at.stands active few.few r.number_free (_, refl, refl, refl) r.gives)
      r
  command role sound (Mark_end bearer) formed e r =
      on_end_marked old e (quiet role old sound e) role bearer
      (λ at active gives. by_row role e _ gives (ends_bearer role sound bearer at.bearer at.stands active))
      r
  command role sound Send_echo formed e r = on_echo_begun old e (quiet role old sound e)
      (λ few r. by_row role e _ r.gives (asks_sound role old sound old r.number _ sound refl few.few r.number_free.small
      (inl (record { request = _; asked = refl; numbered = refl; session = refl; bearer = refl })) (λ m p t at o same. none_some t same)))
      r
  command role sound (Send_user bearer payload) formed e r = on_packet_sent old e (quiet role old sound e) role bearer payload (λ at active r. by_row role e _ r.gives sound) r

  -- bearers with that remote go, and no pending one has it
  broken_sound : (role : Role) → IsSound role old → (remote : ℕ) → (session_goes : ℕ → Bool) → IsSound role (without session_goes (λ t. names remote (get old.bearers t)) old)
  broken_sound role sound remote session_goes =
      without_sound role old sound session_goes (λ t. names remote (get old.bearers t))
      (λ t b e kind waits. ap (names remote) e ∙ ap (is_number remote) ((sound.contexts.each_bearer t b e).blank waits))

  user_taken : (role : Role) → IsSound role old → (source : Endpoint) (m : Message) (e : Effect) → UserTaken role source m old e → IsSound role e.node
  user_taken role sound source (Packet_data t p) e r = on_packet_came old e (quiet role old sound e) role t p (λ f. by_row role e _ f sound) (λ at active r. by_row role e _ r.gives sound) r
  user_taken role sound source (End_marker t) e r = on_end_came old e (quiet role old sound e) role t (λ at active gives. by_row role e _ gives (ends_bearer role sound t at.bearer at.stands active)) r
  user_taken role sound source (Error_indication t address) e r =
      on_error_came old e (quiet role old sound e) t
      (λ gives. by_row role e _ gives (broken_sound role sound t (λ s. default_among t s old.bearers)))
      r
  user_taken role sound source _ e r = by_row role e _ r sound

  user_step : (role : Role) → IsSound role old → (source : Endpoint) (reading : UserReading) (e : Effect) → UserStep role source reading old e → IsSound role e.node
  user_step role sound source reading e r = on_user_step old e (quiet role old sound e) role source reading (λ m is r. user_taken role sound source m e r) (λ f. by_row role e _ f sound) r

  moves : (role : Role) → IsSound role old → (move : Move) (e : Effect) → MoveStep old move e → IsSound role e.node
  moves role sound (Resend number) e r = by_row role e _ r.gives sound
  moves role sound (Give_up number) e r = by_row role e _ r.gives (finished_sound role old sound number r.at.pending r.at.waits)
  moves role sound (Forget request) e r = by_row role e _ r.gives (record {
    contexts = sound.contexts;
    requests = sound.requests;
    within =
        record {
          sessions_few = sound.within.sessions_few;
          pending_few = sound.within.pending_few;
          numbers = sound.within.numbers;
          held_few = omega (arith, (leaves request old.held r.rest r.left).fewer, sound.within.held_few);
          drawn_few = sound.within.drawn_few;
        };
    addresses = sound.addresses;
  })

  pub restarted_sound : (role : Role) → IsSound role old → (counter : ℕ) → IsSound role (peer_restarted old counter)
  restarted_sound role sound counter =
      without_sound role (record old { known = Some counter }) (known_sound role old sound (Some counter)) (λ t. is_opened (get old.sessions t))
      (λ t. false) (λ t b e k w. refl)

  ends : (role : Role) → IsSound role old → (number : ℕ) (at : HasPending old number) → IsSound role (finished old number at.pending)
  ends role sound number at = finished_sound role old sound number at.pending at.waits

  response_finishes : (role : Role) → IsSound role old → {number : ℕ} {Fits : HasPending old number → Type 0} {outcome : Outcome} (e : Effect)
      → EndsRequest old number Fits outcome e → IsSound role e.node
  response_finishes role sound e r = on_finish old e (quiet role old sound e) (λ at f. by_row role e _ f (ends role sound _ at)) r

  module _ (sound : IsSound Serving old) where
    opens : (a : CreateSessionResponse) → NamesItsEnds (Create_session_response a)
        → (at : HasPending old a.number) (fits : FitsCreateSession at.pending a) → IsAccepting a.cause → (new : DescribesSession old fits.session a)
        → IsAccepting new.context.cause → (e : Effect) → OpensSession old a fits.request fits.session new.at.session new.address e
        → IsSound Serving e.node
    opens a whole at fits accepts new both e r =
        let is = is_session Serving old sound a.number at.pending fits.request at.waits fits.asked in
        let ask = is.0 in
        let now = opened_session new.at.session a new.address in
        let opened = opened_bearer r.default.bearer a in
        let control : ask.request.control.teid ≡ fits.session = some_is ask.request.control.teid fits.session (sym ask.session ∙ fits.about) in
        let user : ask.request.context.user.teid ≡ fits.request.context.user.teid = ap (λ (k : CreateSessionRequest). k.context.user.teid) is.1 in
        let same : r.default.bearer ≡ ask.default.0 =
        one_value (get old.bearers fits.request.context.user.teid) r.default.bearer ask.default.0 r.default.stands
        (ap (λ k. get old.bearers k) (sym user) ∙ ask.default.1) in
        let given = whole accepts in
        let context = given.1 new.context (subst (λ k. Among new.context k) (sym new.alone) (inl refl)) both in
        by_row Serving e _ r.gives
        (subst (λ k. IsSound Serving (record old {
          sessions = insert old.sessions k now;
          bearers = insert old.bearers fits.request.context.user.teid
              opened;
          pending = remove old.pending a.number;
        })) control
        (subst (λ k. IsSound Serving (record old { sessions = insert old.sessions ask.request.control.teid now; bearers = insert old.bearers k opened; pending = remove old.pending a.number })) user
        (session_opens Serving old sound a.number at.pending ask at.waits now opened refl given.0
        (ap (λ (k : Bearer). k.session) same) (ap (λ (k : Bearer). k.identity) same) (ap (λ (k : Bearer). k.kind) same) refl
        (context.0, ap first_created new.alone ∙ context.1))))

    create_session_answered : (a : CreateSessionResponse) → NamesItsEnds (Create_session_response a) → (e : Effect) → CreateSessionAnswered a old e → IsSound Serving e.node
    create_session_answered a whole e r =
        on_session_answered old e (quiet Serving old sound e) a
        (λ at outcome f. by_row Serving e _ f (ends Serving sound a.number at))
        (λ at fits accepts new both r. opens a whole at fits accepts new both e r)
        r

    create_bearer_asked : (request : Arrival) (q : CreateBearerRequest) (e : Effect) → CreateBearerAsked request q old e → IsSound Serving e.node
    create_bearer_asked request q e r =
        on_bearer_asked old e (quiet Serving old sound e) request q
        (λ room x cause f. by_row Serving e _ f (holding_sound Serving old sound request _ room.few))
        (λ room at draws r.
        by_row Serving e _ r.gives (holding_sound Serving (record old { drawn = r.user ∷ old.drawn; bearers = insert old.bearers r.user (granted_bearer q r.identity) })
        (bearer_comes Serving old sound r.user (granted_bearer q r.identity) r.user_free draws.left
        (record {
          own = inl refl;
          of = (at.session, at.stands);
          named = λ a. (q.context.user.teid, refl);
          blank = λ w. absurd (cc w);
          range = λ i e. subst IsIdentity (some_is r.identity i e) r.identity_free.range;
        })
        (λ t a i e same ia ib. r.identity_free.unused t a e same (ia ∙ sym ib)))
        request _ room.few))
        r

  removes_each : (session : ℕ) (identities : List ℕ) (from : Node) (contexts : List RemovedBearer) (new : Node) → IsSound Serving from
      → RemovesEach session identities from contexts new → IsSound Serving new × (new.held ≡ from.held)
  removes_each session [] from contexts new s r = (subst (λ n. IsSound Serving n) (sym r.1) s, ap (λ (n : Node). n.held) r.1)
  removes_each session (identity ∷ rest) from contexts new s (others, inl f) = removes_each session rest from others new s f.1.1
  removes_each session (identity ∷ rest) from contexts new s (others, inr (named, h)) =
      removes_each session rest (without_bearer from named.key) others new
      (without_bearer_sound Serving from s named.key named.at.bearer named.at.stands named.dedicated) h.1

  module _ (sound : IsSound Serving old) where
    delete_bearer_taken : (request : Arrival) (d : DeleteBearerRequest) (linked : Option ℕ) (s : Session) (e : Effect) → length old.held < 4096
        → DeleteBearerTaken request d linked old s e → IsSound Serving e.node
    delete_bearer_taken request d (Some identity) s e room (inl f) = by_row Serving e _ f.1 (holding_sound Serving old sound request _ room)
    delete_bearer_taken request d (Some identity) s e room (inr (linked, gives)) =
        by_row Serving e _ gives
        (holding_sound Serving (without_session old d.header) (without_session_sound Serving old sound d.header) request _ room)
    delete_bearer_taken request d None s e room (inl f) = by_row Serving e _ f.1 (holding_sound Serving old sound request _ room)
    delete_bearer_taken request d None s e room (inr (few, r)) =
        let left = removes_each d.header d.identities old r.contexts r.left sound r.removes in
        by_row Serving e _ r.gives (holding_sound Serving r.left left.0 request _ (subst (λ (h : List Held). length h < 4096) (sym left.1) room))

    delete_bearer_asked : (request : Arrival) (d : DeleteBearerRequest) (e : Effect) → DeleteBearerAsked request d old e → IsSound Serving e.node
    delete_bearer_asked request d e (inl f) = by_row Serving e _ f.1 sound
    delete_bearer_asked request d e (inr (room, inl f)) = by_row Serving e _ f.1 (holding_sound Serving old sound request _ room.few)
    delete_bearer_asked request d e (inr (room, inr (at, inl f))) = by_row Serving e _ f.1 sound
    delete_bearer_asked request d e (inr (room, inr (at, inr (opened, r)))) = delete_bearer_taken request d d.linked at.session e room.few r

    serving_takes : (request : Arrival) (m : Message) → NamesItsEnds m → (e : Effect) → ServingTakes request m old e → IsSound Serving e.node
    serving_takes request =
        by_serving (λ m. NamesItsEnds m → (e : Effect) → ServingTakes request m old e → IsSound Serving e.node)
        (λ q whole e r. by_row Serving e _ r sound)
        (λ a whole e r. response_finishes Serving sound e r)
        (λ a whole e r. create_session_answered sound a whole e r)
        (λ d whole e r. response_finishes Serving sound e r)
        (λ q whole e r. create_bearer_asked sound request q e r)
        (λ d whole e r. delete_bearer_asked request d e r)
        (λ m drops whole e r. by_row Serving e _ (drops.only request old e r) sound)

  module _ (sound : IsSound Packet old) where
    -- a session is made, and the answer is held
    makes : (request : Arrival) (q : CreateSessionRequest) → HasHeldRoom old → IsIdentity q.context.identity → HasSessionRoom old → HasDraws old 2 → (e : Effect) → MakesSession request old q e
        → IsSound Packet e.node
    makes request q room identity few draws e r =
        let made = session_made old q r.control r.user r.address in
        let made_sound : IsSound Packet made =
        session_comes Packet old sound r.control r.user (made_session q r.address) (made_bearer q r.control) r.control_free r.user_free refl few.few draws.left
        (record { own = inr (inl refl); named = λ n. (q.control.teid, refl); blank = λ w. absurd (cc w) })
        (record {
          own = inl refl;
          of = (made_session q r.address, get-insert_same old.sessions r.control (made_session q r.address));
          named = λ a. (q.context.user.teid, refl);
          blank = λ w. absurd (cc w);
          range = λ i e. subst IsIdentity (some_is q.context.identity i e) identity;
        })
        (λ packet. given_is_new old q.pdn (made_session q r.address) r.address refl r.given) in
        ⊎_elim
        (λ alone. by_row Packet e _ alone (holding_sound Packet made made_sound request _ room.few))
        (λ x.
        let wanted = bearer_request made (made_session q r.address) x.template.tft x.template.qos x.adds.user x.adds.number in
        let begun : Effect =
        record {
          out = says (control_end made.config.peer.control) (Create_bearer_request wanted);
          outcome = Came_to (Begun (Some x.adds.user));
          node = begun_bearer made r.control wanted x.adds.user;
        } in
        by_row Packet e _ x.adds.gives (holding_sound Packet begun.node
        (begins_bearer made made_sound r.control (made_session q r.address) x.template.tft x.template.qos begun
        (get-insert_same old.sessions r.control (made_session q r.address)) x.draws.left x.room.few
        (record { user = x.adds.user; number = x.adds.number; user_free = x.adds.user_free; number_free = x.adds.number_free; gives = refl }))
        request _ room.few))
        (goes request (session_response old q r.control r.user r.address) (session_cause q.pdn r.address) r.control (made_session q r.address) made e
        (template_asked old.config q.access_point) r.gives)

    create_session_asked : (request : Arrival) (q : CreateSessionRequest) (e : Effect) → CreateSessionAsked request q old e → IsSound Packet e.node
    create_session_asked request q e r =
        on_session_asked old e (quiet Packet old sound e) request q
        (λ room cause high f. by_row Packet e _ f (holding_sound Packet old sound request _ room.few))
        (λ room identity few draws r. makes request q room identity few draws e r)
        r

    delete_session_asked : (request : Arrival) (d : DeleteSessionRequest) (e : Effect) → DeleteSessionAsked request d old e → IsSound Packet e.node
    delete_session_asked request d e (inl f) = by_row Packet e _ f.1 sound
    delete_session_asked request d e (inr (room, inl f)) = by_row Packet e _ f.1 (holding_sound Packet old sound request _ room.few)
    delete_session_asked request d e (inr (room, inr (at, inl f))) = by_row Packet e _ f.1 (holding_sound Packet old sound request _ room.few)
    delete_session_asked request d e (inr (room, inr (at, inr (linked, gives)))) =
        by_row Packet e _ gives
        (holding_sound Packet (without_session old d.header) (without_session_sound Packet old sound d.header) request _ room.few)

    opens_bearer : (x : CreateBearerResponse) → NamesItsEnds (Create_bearer_response x) → (at : HasPending old x.number) (fits : FitsCreateBearer at.pending x)
        → IsAccepting x.cause → (new : DescribesBearer x) → IsAccepting new.context.cause → CanOpen old fits.session new.context.identity
        → (e : Effect) → OpensBearer old x fits.bearer e → IsSound Packet e.node
    opens_bearer x whole at fits accepts new both can e r =
        let is = is_bearer Packet old sound x.number at.pending fits.request at.waits fits.asked in
        let ask = is.0 in
        let key : ask.request.context.user.teid ≡ fits.bearer = some_is ask.request.context.user.teid fits.bearer (sym ask.bearer ∙ fits.about_bearer) in
        let about : ask.about ≡ fits.session = some_is ask.about fits.session (sym ask.session ∙ fits.about) in
        let opened = opened_dedicated r.at.bearer x in
        let context = whole accepts new.context (subst (λ k. Among new.context k) (sym new.alone) (inl refl)) both in
        let identity : opened.identity ≡ Some new.context.identity = ap first_identity new.alone in
        let waits : At old.bearers ask.request.context.user.teid (IsBearerOf ask.about Dedicated Pending) =
        ⊎_elim (λ w. w) (λ c. absurd (can.not_closing (ap (λ (k : Session). k.state)
        (one_value (get old.sessions fits.session) can.at.session c.1.0 can.at.stands (ap (λ k. get old.sessions k) (sym about) ∙ c.1.1)) ∙ c.1.2)))
        ask.wanted in
        let same : r.at.bearer ≡ waits.0 = one_value (get old.bearers fits.bearer) r.at.bearer waits.0 r.at.stands (ap (λ k. get old.bearers k) (sym key) ∙ waits.1) in
        by_row Packet e _ r.gives
        (subst (λ k. IsSound Packet (record old { bearers = insert old.bearers k opened; pending = remove old.pending x.number })) key
        (bearer_opens Packet old sound x.number at.pending ask.request r.at.bearer opened at.waits ask.asked
        (ap (λ k. get old.bearers k) key ∙ r.at.stands)
        (ap (λ (k : Bearer). k.kind) same ∙ waits.2.is_kind) (ap (λ (k : Bearer). k.state) same ∙ waits.2.in_state)
        refl refl refl (context.0, ap first_given new.alone ∙ context.1)
        (λ i e. subst IsIdentity (some_is new.context.identity i (sym identity ∙ e)) can.range)
        (λ t a i e of ia ib. can.unused t a e (of ∙ (ap (λ (k : Bearer). k.session) same ∙ (waits.2.of ∙ about))) (ia ∙ (sym ib ∙ identity)))))

    create_bearer_answered : (x : CreateBearerResponse) → NamesItsEnds (Create_bearer_response x) → (e : Effect) → CreateBearerAnswered x old e → IsSound Packet e.node
    create_bearer_answered x whole e r =
        on_bearer_answered old e (quiet Packet old sound e) x
        (λ at outcome f. by_row Packet e _ f (ends Packet sound x.number at))
        (λ at fits accepts new both returned can r. opens_bearer x whole at fits accepts new both can e r)
        r

    packet_takes : (request : Arrival) (m : Message) → NamesItsEnds m → (e : Effect) → PacketTakes request m old e → IsSound Packet e.node
    packet_takes request =
        by_packet (λ m. NamesItsEnds m → (e : Effect) → PacketTakes request m old e → IsSound Packet e.node)
        (λ q whole e r. by_row Packet e _ r sound)
        (λ a whole e r. response_finishes Packet sound e r)
        (λ q whole e r. create_session_asked request q e r)
        (λ d whole e r. delete_session_asked request d e r)
        (λ x whole e r. create_bearer_answered x whole e r)
        (λ d whole e r. response_finishes Packet sound e r)
        (λ m drops whole e r. by_row Packet e _ (drops.only request old e r) sound)

-- a counter is heard, and then the message is taken
module _ (role : Role) (Takes : Node → Effect → Type 0) (takes : (node : Node) → IsSound role node → (e : Effect) → Takes node e → IsSound role e.node) (old : Node) (sound : IsSound role old) where
  hears : (heard : Option ℕ) (e : Effect) → Hears Takes old heard e → IsSound role e.node
  hears =
      on_hears (λ e. IsSound role e.node) Takes old (takes old sound)
      (λ counter. takes (record old { known = Some counter }) (known_sound role old sound (Some counter)))
      (λ counter. takes (peer_restarted old counter) (restarted_sound old role sound counter))
      (quiet role old sound) (λ taken heard learned s. s)

-- and so does what was read, at either gateway
module _ (role : Role) (Takes : Arrival → Message → Node → Effect → Type 0)
    (rows : (node : Node) → IsSound role node → (request : Arrival) (m : Message) → NamesItsEnds m → (e : Effect) → Takes request m node e
    → IsSound role e.node) (old : Node) (sound : IsSound role old) (request : Arrival) where
  control : (reading : ControlReading) → IsWellFormed (Control_came request reading) → (e : Effect) → ControlStep (TakesReading role Takes reading) request old e → IsSound role e.node
  control reading whole e =
      on_control old e (quiet role old sound e) request (λ r. by_row role e _ r.gives sound) (λ new.
      on_read old e (quiet role old sound e) role Takes request reading
      (λ m is taken. hears role (Takes request m) (λ node s. rows node s request m (subst (λ k. IsWellFormed (Control_came request k)) is whole)) old sound (recovery_of m) e)
      (λ f is gives. by_row role e _ gives sound)
      (λ fault is tells gives. by_row role e _ gives sound))

pub stays_sound : StaysSound
stays_sound role old (Commanded c) e sound read r = command old role sound c read e r
stays_sound Serving old (Control_came request reading) e sound read r = control Serving ServingTakes serving_takes old sound request reading read e r
stays_sound Packet old (Control_came request reading) e sound read r = control Packet PacketTakes packet_takes old sound request reading read e r
stays_sound role old (User_came source reading) e sound read r = user_step old role sound source reading e r
stays_sound role old (Moves_on move) e sound read r = moves old role sound move e r

reached_from : (role : Role) (old : Node) (log : List Done) (node : Node) → IsSound role old → Steps role old log node → AreWellFormed log → IsSound role node
reached_from role old [] node sound steps read = subst (λ n. IsSound role n) (sym steps) sound
reached_from role old (done ∷ log) node sound steps read = reached_from role done.effect.node log node (stays_sound role old done.input done.effect sound read.0 steps.1) steps.2 read.1

pub reached_sound : ReachedIsSound
reached_sound role config counter log node steps read = reached_from role (fresh_node config counter) log node (fresh role config counter) steps read

pub gives_each_address_once : GivesEachAddressOnce
gives_each_address_once config counter log node steps read = (reached_sound Packet config counter log node steps read).addresses refl

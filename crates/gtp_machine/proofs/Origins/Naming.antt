-- The TEIDs that messages name go back to draws.
use Rattle.std.proofs.Common.{◌≡◌, ◌≢◌, ◌⊎◌, inl, inr, ⊎_elim, ℕ, true, List, [], ◌∷◌, ◌++◌, Option, Some, None, refl, sym, ◌∙◌, ap, subst}
use Rattle.gtp_values.specs.declared.address.Endpoint.{Endpoint}
use Rattle.gtp_values.specs.FiniteMap.{Each, Among}
use Rattle.std.specs.FinMap.{get}
use Rattle.gtp_machine.specs.Choice.{HasPending}
use Rattle.gtp_machine.specs.Response.{EndsRequest}
use Rattle.gtp_machine.specs.Step.{Step}
use Rattle.gtp_machine.specs.Message.{Message, CreateSessionRequest, CreateBearerRequest, DeleteBearerRequest, DeleteSessionRequest}
use Rattle.gtp_machine.specs.Message.{Create_session_request, Create_session_response, Create_bearer_request, Create_bearer_response, Other_control}
use Rattle.gtp_machine.specs.Message.{Packet_data, End_marker, Error_indication, User_echo_request, recovery_of, Plane, Control, User}
use Rattle.gtp_machine.specs.Node.{Role, Serving, Packet, Session, Bearer, PendingRequest, Arrival, Held, Node, written}
use Rattle.gtp_machine.specs.Input.{EventOutcome, Outcome, Command, Create_session, Delete_session, Create_bearer, Delete_bearer, Release_session}
use Rattle.gtp_machine.specs.Input.{Mark_end, Send_echo, Send_user, ControlReading, UserReading, User_message, Extension_needed, User_fault, Move}
use Rattle.gtp_machine.specs.Input.{Resend, Give_up, Forget, Input, Commanded, Control_came, User_came, Moves_on, Effect, messages}
use Rattle.gtp_machine.specs.Recovery.{Hears, peer_restarted}
use Rattle.gtp_machine.specs.User.{UserTaken, UserStep}
use Rattle.gtp_machine.specs.Command.{CommandStep}
use Rattle.gtp_machine.specs.MessageType.{takes_message}
use Rattle.gtp_machine.specs.Answer.{TakesReading, ControlStep}
use Rattle.gtp_machine.specs.Move.{MoveStep}
use Rattle.gtp_machine.specs.Serving.{CreateSessionAnswered, CreateBearerAsked, DeleteBearerTaken, DeleteBearerAsked, ServingTakes}
use Rattle.gtp_machine.specs.Config.{template_asked}
use Rattle.gtp_machine.proofs.Basics.Finishing.{quietly, on_session_begun, on_session_deleted, on_bearer_begun, on_bearer_deleted}
use Rattle.gtp_machine.proofs.Basics.Finishing.{on_session_released, on_end_marked, on_echo_begun, on_packet_sent, on_packet_came, on_end_came}
use Rattle.gtp_machine.proofs.Basics.Finishing.{on_error_came, on_user_step, on_finish, on_session_answered, on_bearer_answered, on_session_asked}
use Rattle.gtp_machine.proofs.Basics.Finishing.{on_hears, on_control, on_read}
use Rattle.gtp_machine.proofs.Basics.Versions.{told_of}
use Rattle.gtp_machine.proofs.Basics.Templates.{goes}
use Rattle.gtp_machine.specs.Packet.{session_cause, session_response, made_session, session_made, CreateSessionAsked, DeleteSessionAsked, CreateBearerAnswered, PacketTakes}
use Rattle.gtp_machine.specs.World.{other, Sent, HasSent, signed}
use Rattle.gtp_machine.specs.Laws.{TeidWasDrawn, TeidsWereDrawn, NamedTeidWasDrawn, EachNamedTeidWasDrawn}
use Rattle.gtp_machine.proofs.Basics.FiniteMaps.{Among-cases}
use Rattle.gtp_machine.proofs.Origins.Drawing.{Extends, Extends-signed, signed_among}
use Rattle.gtp_machine.proofs.Changes.After.{Knows}
use Rattle.gtp_machine.proofs.Basics.Datagrams.{IsSentWhole}
use Rattle.gtp_machine.proofs.Changes.Shrinking.{Shrinks-restart, restart_pending}
use Rattle.gtp_machine.proofs.Rows.Stepping.{Carried}
use Rattle.gtp_machine.proofs.Rows.Control.{ControlCarried}
use Rattle.gtp_machine.proofs.Basics.Kinds.{by_serving, by_packet}
use Rattle.gtp_machine.proofs.Basics.Facts.{one_value}

-- a remote TEID goes back to a draw by the other gateway
abbrev pub IsThere : Plane → List Sent → Role → Option ℕ → Type 0
IsThere plane history role remote = (r : ℕ) → remote ≡ Some r → TeidWasDrawn plane history (other role) r

-- what a gateway sends goes by what it has
pub record Back (history : List Sent) (role : Role) (node : Node) : Type 0 where
  pub sessions : Each (λ t (s : Session). IsThere Control history role s.remote) node.sessions
  pub bearers : Each (λ t (b : Bearer). IsThere User history role b.remote) node.bearers
  pub pending : Each (λ number (p : PendingRequest). HasSent history role p.request) node.pending
  pub held : (h : Held) → Among h node.held → IsSentWhole history role h.answer

-- what a step sends was sent before, or names what goes back
abbrev pub Told : List Sent → Role → Effect → Type 0
Told history role e = (m : Message) → Among m (messages e.out.sent) → HasSent history role m ⊎ NamedTeidWasDrawn history role m

twice : (history : List Sent) (role : Role) (t : ℕ) → TeidWasDrawn User history (other (other role)) t → TeidWasDrawn User history role t
twice history Serving t from = from
twice history Packet t from = from

module _ (history : List Sent) (role : Role) where
  at : (e f : Effect) → e ≡ f → Told history role f → Told history role e
  at e f gives told = subst (λ k. Told history role k) (sym gives) told

  silent : (m : Message) → Among m [] → HasSent history role m ⊎ NamedTeidWasDrawn history role m
  silent m none = absurd none

  quiet : (old : Node) (e : Effect) (outcome : EventOutcome) → e ≡ quietly old outcome → Told history role e
  quiet old e outcome gives = at e _ gives silent

  one : (m : Message) → NamedTeidWasDrawn history role m → (k : Message) → Among k (m ∷ []) → HasSent history role k ⊎ NamedTeidWasDrawn history role k
  one m back k (inl same) = inr (subst (λ x. NamedTeidWasDrawn history role x) (sym same) back)
  one m back k (inr none) = absurd none

  two : (m n : Message) → NamedTeidWasDrawn history role m → NamedTeidWasDrawn history role n → (k : Message) → Among k (m ∷ n ∷ []) → HasSent history role k ⊎ NamedTeidWasDrawn history role k
  two m n first second k (inl same) = inr (subst (λ x. NamedTeidWasDrawn history role x) (sym same) first)
  two m n first second k (inr (inl same)) = inr (subst (λ x. NamedTeidWasDrawn history role x) (sym same) second)
  two m n first second k (inr (inr none)) = absurd none

  again : (m : Message) → HasSent history role m → (k : Message) → Among k (m ∷ []) → HasSent history role k ⊎ NamedTeidWasDrawn history role k
  again m was k (inl same) = inl (subst (λ x. HasSent history role x) (sym same) was)
  again m was k (inr none) = absurd none

  none_named : ◌≢◌ {A = ℕ} 0 0 → TeidWasDrawn Control history (other role) 0
  none_named not = absurd (not refl)

  there : {plane : Plane} (remote : Option ℕ) → IsThere plane history role remote → written remote ≢ 0 → TeidWasDrawn plane history (other role) (written remote)
  there None is not = absurd (not refl)
  there (Some r) is not = is r refl

  module _ (old : Node) (back : Back history role old) where
    command : (by : Role) (c : Command) (e : Effect) → CommandStep by c old e → Told history role e
    command by (Create_session spec) e r = on_session_begun old e (quiet old e) by spec (λ room draws few r. at e _ r.gives (one _ none_named)) r
    command by (Delete_session session) e r =
        on_session_deleted old e (quiet old e) by session
        (λ a active few r. at e _ r.gives (one _ (there a.session.remote (back.sessions session a.session a.stands))))
        r
    command by (Create_bearer session tft qos) e r =
        on_bearer_begun old e (quiet old e) by session tft qos
        (λ a active draws few r. at e _ r.gives (one _ (there a.session.remote (back.sessions session a.session a.stands))))
        r
    command by (Delete_bearer session identity) e r =
        on_bearer_deleted old e (quiet old e) by session identity
        (λ a named active few r. at e _ r.gives (one _ (there a.session.remote (back.sessions session a.session a.stands))))
        r
    command by (Release_session session) e r =
        on_session_released old e (quiet old e) by session
        (λ a active few r. at e _ r.gives (one _ (there a.session.remote (back.sessions session a.session a.stands))))
        r
    command by (Mark_end bearer) e r = on_end_marked old e (quiet old e) by bearer (λ a active gives. at e _ gives (one _ (there a.bearer.remote (back.bearers bearer a.bearer a.stands)))) r
    command by Send_echo e r = on_echo_begun old e (quiet old e) (λ few r. at e _ r.gives (one _ none_named)) r
    command by (Send_user bearer payload) e r =
        on_packet_sent old e (quiet old e) by bearer payload
        (λ a active r. at e _ r.gives (one _ (there a.bearer.remote (back.bearers bearer a.bearer a.stands))))
        r

    moves : (move : Move) (e : Effect) → MoveStep old move e → Told history role e
    moves (Resend number) e r = at e _ r.gives (again r.at.pending.request (back.pending number r.at.pending r.at.waits))
    moves (Give_up number) e r = at e _ r.gives silent
    moves (Forget request) e r = at e _ r.gives silent

    response_finishes : {number : ℕ} {Fits : HasPending old number → Type 0} {outcome : Outcome} (e : Effect) → EndsRequest old number Fits outcome e → Told history role e
    response_finishes e r = on_finish old e (quiet old e) (λ here f. at e _ f silent) r

    user_taken : (by : Role) (source : Endpoint) (m : Message) (e : Effect) → NamedTeidWasDrawn history (other role) m → UserTaken by source m old e → Told history role e
    user_taken by source (Packet_data target payload) e named r =
        on_packet_came old e (quiet old e) by target payload
        (λ f. at e _ f (one _ (λ not. twice history role target (named not))))
        (λ a active r. at e _ r.gives silent)
        r
    user_taken by source (End_marker target) e named r = on_end_came old e (quiet old e) by target (λ a active gives. at e _ gives silent) r
    user_taken by source (Error_indication remote address) e named r = on_error_came old e (quiet old e) remote (λ gives. at e _ gives silent) r
    user_taken by source (User_echo_request number) e named r = at e _ r (one _ none_named)
    user_taken by source _ e named r = at e _ r silent

    user_step : (by : Role) (source : Endpoint) (reading : UserReading) (e : Effect)
        → ((m : Message) → reading ≡ User_message m → NamedTeidWasDrawn history (other role) m) → UserStep by source reading old e
        → Told history role e
    user_step by source reading e named r = on_user_step old e (quiet old e) by source reading (λ m is r. user_taken by source m e (named m is) r) (λ f. at e _ f (one _ none_named)) r

    back_known : (known : Option ℕ) → Back history role (record old { known = known })
    back_known known = record { sessions = back.sessions; bearers = back.bearers; pending = back.pending; held = back.held }

    back_restart : (c : ℕ) → Back history role (peer_restarted old c)
    back_restart c = record {
      sessions = λ t s e r is. let was = (Shrinks-restart old c).sessions t s e in back.sessions t was.before was.stood r (sym was.same.remote ∙ is);
      bearers = λ t b e r is. let was = (Shrinks-restart old c).bearers t b e in back.bearers t was.before was.stood r (sym was.same.remote ∙ is);
      pending = λ number p e. back.pending number p (restart_pending old c number p e);
      held = back.held;
    }

  module _ (Takes : Node → Effect → Type 0) (takes : (node : Node) → Back history role node → (e : Effect) → Takes node e → Told history role e) (old : Node) (back : Back history role old) where
    hears : (counter : Option ℕ) (e : Effect) → Hears Takes old counter e → Told history role e
    hears =
        on_hears (Told history role) Takes old (takes old back)
        (λ c. takes (record old { known = Some c }) (back_known old back (Some c)))
        (λ c. takes (peer_restarted old c) (back_restart old back c))
        (quiet old) (λ taken heard learned told. told)

module _ (history : List Sent) where
  module _ (old : Node) (back : Back history Serving old) where
    create_session_answered : (a : _) (e : Effect) → CreateSessionAnswered a old e → Told history Serving e
    create_session_answered a e r =
        on_session_answered old e (quiet history Serving old e) a
        (λ here outcome f. at history Serving e _ f (silent history Serving))
        (λ here fits accepts new both r. at history Serving e _ r.gives (silent history Serving))
        r

    create_bearer_asked : (request : Arrival) (q : CreateBearerRequest) (e : Effect) → CreateBearerAsked request q old e → Told history Serving e
    create_bearer_asked request q e (inl f) = at history Serving e _ f.1 (silent history Serving)
    create_bearer_asked request q e (inr (a, inl f)) = at history Serving e _ f.1 (one history Serving _ (none_named history Serving))
    create_bearer_asked request q e (inr (a, inr (b, inl f))) = at history Serving e _ f.1 (silent history Serving)
    create_bearer_asked request q e (inr (a, inr (b, inr (c, inl f)))) =
        at history Serving e _ f.1 (one history Serving _ (there history Serving b.session.remote (back.sessions q.header b.session b.stands)))
    create_bearer_asked request q e (inr (a, inr (b, inr (c, inr (d, inl f))))) =
        at history Serving e _ f.1 (one history Serving _ (there history Serving b.session.remote (back.sessions q.header b.session b.stands)))
    create_bearer_asked request q e (inr (a, inr (b, inr (c, inr (d, inr (g, inl f)))))) =
        at history Serving e _ f.1 (one history Serving _ (there history Serving b.session.remote (back.sessions q.header b.session b.stands)))
    create_bearer_asked request q e (inr (a, inr (b, inr (c, inr (d, inr (g, inr (h, r))))))) =
        at history Serving e _ r.gives (one history Serving _ (there history Serving b.session.remote (back.sessions q.header b.session b.stands)))

    delete_bearer_taken : (request : Arrival) (d : DeleteBearerRequest) (linked : Option ℕ) (s : Session) → IsThere Control history Serving s.remote → (e : Effect)
        → DeleteBearerTaken request d linked old s e → Told history Serving e
    delete_bearer_taken request d (Some identity) s is e (inl f) = at history Serving e _ f.1 (one history Serving _ (there history Serving s.remote is))
    delete_bearer_taken request d (Some identity) s is e (inr (a, r)) = at history Serving e _ r (one history Serving _ (there history Serving s.remote is))
    delete_bearer_taken request d None s is e (inl f) = at history Serving e _ f.1 (one history Serving _ (there history Serving s.remote is))
    delete_bearer_taken request d None s is e (inr (a, r)) = at history Serving e _ r.gives (one history Serving _ (there history Serving s.remote is))

    delete_bearer_asked : (request : Arrival) (d : DeleteBearerRequest) (e : Effect) → DeleteBearerAsked request d old e → Told history Serving e
    delete_bearer_asked request d e (inl f) = at history Serving e _ f.1 (silent history Serving)
    delete_bearer_asked request d e (inr (a, inl f)) = at history Serving e _ f.1 (one history Serving _ (none_named history Serving))
    delete_bearer_asked request d e (inr (a, inr (b, inl f))) = at history Serving e _ f.1 (silent history Serving)
    delete_bearer_asked request d e (inr (a, inr (b, inr (c, r)))) = delete_bearer_taken request d d.linked b.session (back.sessions d.header b.session b.stands) e r

  serving_takes : (request : Arrival) (m : Message) (old : Node) → Back history Serving old → (e : Effect) → ServingTakes request m old e → Told history Serving e
  serving_takes request =
      by_serving (λ m. (old : Node) → Back history Serving old → (e : Effect) → ServingTakes request m old e → Told history Serving e)
      (λ q old back e r. at history Serving e _ r (one history Serving _ (none_named history Serving)))
      (λ a old back e r. response_finishes history Serving old back e r)
      (λ a old back e r. create_session_answered old back a e r)
      (λ d old back e r. response_finishes history Serving old back e r)
      (λ q old back e r. create_bearer_asked old back request q e r)
      (λ d old back e r. delete_bearer_asked old back request d e r)
      (λ m drops old back e r. at history Serving e _ (drops.only request old e r) (silent history Serving))

  module _ (old : Node) (back : Back history Packet old) where
    create_session_asked : (request : Arrival) (q : CreateSessionRequest) → HasSent history Serving (Create_session_request q) → (e : Effect)
        → CreateSessionAsked request q old e → Told history Packet e
    create_session_asked request q came e r =
        let back : (n : ℕ) → n ≢ 0 → TeidWasDrawn Control history Serving q.control.teid = λ n not. record { message = Create_session_request q; sent = came; owns = refl } in
        on_session_asked old e (quiet history Packet old e) request q
        (λ room cause high f. at history Packet e _ f (one history Packet _ (back _)))
        (λ room identity few draws r. ⊎_elim
        (λ alone. at history Packet e _ alone (one history Packet _ (back _)))
        (λ x. at history Packet e _ x.adds.gives (two history Packet _ _ (back _) (back _)))
        (goes request (session_response old q r.control r.user r.address) (session_cause q.pdn r.address) r.control (made_session q r.address)
        (session_made old q r.control r.user r.address) e (template_asked old.config q.access_point) r.gives))
        r

    delete_session_asked : (request : Arrival) (d : DeleteSessionRequest) (e : Effect) → DeleteSessionAsked request d old e → Told history Packet e
    delete_session_asked request d e (inl f) = at history Packet e _ f.1 (silent history Packet)
    delete_session_asked request d e (inr (a, inl f)) = at history Packet e _ f.1 (one history Packet _ (none_named history Packet))
    delete_session_asked request d e (inr (a, inr (b, inl f))) = at history Packet e _ f.1 (one history Packet _ (there history Packet b.session.remote (back.sessions d.header b.session b.stands)))
    delete_session_asked request d e (inr (a, inr (b, inr (c, r)))) = at history Packet e _ r (one history Packet _ (there history Packet b.session.remote (back.sessions d.header b.session b.stands)))

    create_bearer_answered : (x : _) (e : Effect) → CreateBearerAnswered x old e → Told history Packet e
    create_bearer_answered x e r =
        on_bearer_answered old e (quiet history Packet old e) x
        (λ here outcome f. at history Packet e _ f (silent history Packet))
        (λ here fits accepts new both returned can r. at history Packet e _ r.gives (silent history Packet))
        r

  packet_takes : (request : Arrival) (m : Message) → HasSent history Serving m → (old : Node) → Back history Packet old → (e : Effect) → PacketTakes request m old e → Told history Packet e
  packet_takes request =
      by_packet (λ m. HasSent history Serving m → (old : Node) → Back history Packet old → (e : Effect) → PacketTakes request m old e → Told history Packet e)
      (λ q came old back e r. at history Packet e _ r (one history Packet _ (none_named history Packet)))
      (λ a came old back e r. response_finishes history Packet old back e r)
      (λ q came old back e r. create_session_asked old back request q came e r)
      (λ d came old back e r. delete_session_asked old back request d e r)
      (λ x came old back e r. create_bearer_answered old back x e r)
      (λ d came old back e r. response_finishes history Packet old back e r)
      (λ m drops came old back e r. at history Packet e _ (drops.only request old e r) (silent history Packet))

  -- what was read, at either gateway
  module _ (role : Role) (Takes : Arrival → Message → Node → Effect → Type 0)
      (rows : (request : Arrival) (m : Message) → HasSent history (other role) m → (old : Node) → Back history role old → (e : Effect)
      → Takes request m old e → Told history role e) where
    control : (reading : ControlReading) (request : Arrival) (old : Node) → Back history role old → (e : Effect) → ControlCarried role history old reading
        → ControlStep (TakesReading role Takes reading) request old e → Told history role e
    control reading request old back e came =
        on_control old e (quiet history role old e) request
        (λ r. at history role e _ r.gives (λ m among. ⊎_elim (λ has. inl ((back.held r.held r.stands).each m has)) (λ none. absurd none) (Among-cases m r.held.answer [] among))) (λ new.
        on_read old e (quiet history role old e) role Takes request reading
        (λ m is taken. ⊎_elim
        (λ sent. hears history role (Takes request m) (rows request m sent.0) old back (recovery_of m) e)
        (λ o. absurd (let other : takes_message role (Other_control o.kind) ≡ true = ap (takes_message role) (sym o.is) ∙ taken in cc))
        (subst (ControlCarried role history old) is came))
        (λ f is. absurd (subst (ControlCarried role history old) is came))
        (λ fault is tells. absurd (subst (ControlCarried role history old) is came (told_of old.config request.octets fault tells))))

  user_named : EachNamedTeidWasDrawn history → (role : Role) (reading : UserReading)
      → ((m : Message) → reading ≡ User_message m → HasSent history (other role) m) → (m : Message) → reading ≡ User_message m
      → NamedTeidWasDrawn history (other role) m
  user_named named role reading came m is = named (other role) m (came m is)

  user_came : (role : Role) (source : Endpoint) (reading : UserReading) (old : Node) → Carried role history old (User_came source reading) → (m : Message)
      → reading ≡ User_message m → HasSent history (other role) m
  user_came role source (User_message n) old came m is = let same : n ≡ m = cc is in subst (λ k. HasSent history (other role) k) same came
  user_came role source Extension_needed old came m is = absurd (cc is)
  user_came role source (User_fault fault) old came m is = absurd (cc is)

  pub step_told : EachNamedTeidWasDrawn history → (role : Role) (old : Node) → Back history role old → (input : Input) (e : Effect)
      → Carried role history old input → Step role old input e → Told history role e
  step_told named role old back (Commanded c) e came r = command history role old back role c e r
  step_told named Serving old back (Control_came request reading) e came r = control Serving ServingTakes (λ request m came. serving_takes request m) reading request old back e came r
  step_told named Packet old back (Control_came request reading) e came r = control Packet PacketTakes packet_takes reading request old back e came r
  step_told named role old back (User_came source reading) e came r = user_step history role old back role source reading e (user_named named role reading (user_came role source reading old came)) r
  step_told named role old back (Moves_on move) e came r = moves history role old back move e r

-- the TEIDs of a session go back to messages
pub session_goes_back : (history : List Sent) (role : Role) (node : Node) → Knows role history node → (t : ℕ) (s : Session) → get node.sessions t ≡ Some s
    → TeidsWereDrawn Control history role t s.remote
session_goes_back history Serving node knows t s stands =
    let asked = knows.contexts.sessions_asked t s stands in
    record {
      here = record { message = Create_session_request asked.request; sent = asked.sent; owns = sym asked.control };
      there = λ r e. let opened = asked.opened r e in record { message = Create_session_response opened.answer; sent = opened.sent; owns = sym opened.remote ∙ e };
    }
session_goes_back history Packet node knows t s stands =
    let made = knows.contexts.sessions_made t s stands in
    record {
      here = record { message = Create_session_response made.answer; sent = made.answered; owns = made.control };
      there = λ r e. record { message = Create_session_request made.request; sent = made.asked; owns = one_value s.remote r made.request.control.teid e made.remote };
    }

pub bearer_goes_back : (history : List Sent) (role : Role) (node : Node) → Knows role history node → (t : ℕ) (b : Bearer) → get node.bearers t ≡ Some b → TeidsWereDrawn User history role t b.remote
bearer_goes_back history Serving node knows t b stands =
    ⊎_elim
    (λ o. record {
      here = record { message = Create_session_request o.request; sent = o.sent; owns = sym o.user };
      there = λ r e. let opened = o.opened r e in record { message = Create_session_response opened.answer; sent = opened.sent; owns = sym opened.user ∙ e };
    })
    (λ g. record {
      here = record { message = Create_bearer_response g.answer; sent = g.answered; owns = g.user };
      there = λ r e. record { message = Create_bearer_request g.request; sent = g.asked; owns = one_value b.remote r g.request.context.user.teid e g.remote };
    })
    (knows.contexts.bearers_asked t b stands).origin
bearer_goes_back history Packet node knows t b stands =
    ⊎_elim
    (λ o. record {
      here = record { message = Create_session_response o.answer; sent = o.answered; owns = o.user };
      there = λ r e. record { message = Create_session_request o.request; sent = o.asked; owns = one_value b.remote r o.request.context.user.teid e o.remote };
    })
    (λ p. record {
      here = record { message = Create_bearer_request p.request; sent = p.asked; owns = sym p.user };
      there = λ r e. let given = p.opened r e in record { message = Create_bearer_response given.answer; sent = given.sent; owns = sym given.remote ∙ e };
    })
    (knows.contexts.bearers_made t b stands).origin

-- what a gateway has goes back to messages
pub back_of : (history : List Sent) (role : Role) (node : Node) → Knows role history node → Back history role node
back_of history role node knows = record {
  sessions = λ t s stands. (session_goes_back history role node knows t s stands).there;
  bearers = λ t b stands. (bearer_goes_back history role node knows t b stands).there;
  pending = λ number p e. (knows.pending number p e).sent;
  held = knows.held;
}

module _ (before after : List Sent) (extends : Extends before after) where
  from_later : {plane : Plane} (role : Role) (t : ℕ) → TeidWasDrawn plane before role t → TeidWasDrawn plane after role t
  from_later role t from = record { message = from.message; sent = extends.keeps role from.message from.sent; owns = from.owns }

  names_later : (role : Role) (m : Message) → NamedTeidWasDrawn before role m → NamedTeidWasDrawn after role m
  names_later role (Packet_data target payload) back = λ not. from_later (other role) target (back not)
  names_later role (End_marker target) back = λ not. from_later (other role) target (back not)
  names_later role (Error_indication target address) back = λ not. from_later role target (back not)
  names_later role _ back = λ not. from_later (other role) _ (back not)

-- what a step sends names what goes back too
pub Names-step : (history : List Sent) (role : Role) (e : Effect) → EachNamedTeidWasDrawn history → Told history role e → EachNamedTeidWasDrawn (history ++ signed role (messages e.out.sent))
Names-step history role e named told by m has =
    let extends = Extends-signed history role (messages e.out.sent) in
    ⊎_elim
    (λ was. names_later history _ extends by m (named by m was))
    (λ now.
    let is = signed_among by role (messages e.out.sent) m now in
    subst (λ k. NamedTeidWasDrawn (history ++ signed role (messages e.out.sent)) k m) (sym is.0) (names_later history _ extends role m (⊎_elim (λ was. named role m was) (λ back. back) (told m is.1))))
    (Among-cases (record { role = by; what = m }) history (signed role (messages e.out.sent)) has)

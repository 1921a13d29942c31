-- Each response to a create request goes back to the moment at which its gateway gave it.
use Rattle.std.proofs.Common.{◌≡◌, ◌⊎◌, inl, inr, ⊎_elim, ℕ, zero, suc, ◌+◌, ◌≤◌, true, false, not, List, [], ◌∷◌, ◌++◌, length, length-append, take}
use Rattle.std.proofs.Common.{Option, Some, refl, sym, ◌∙◌, ap, subst, append_assoc, append-nil, arith, slice_get}
use Rattle.std.proofs.lemmas.Bool.{not-true}
use Rattle.gtp_values.proofs.Allocations.{address_back}
use Rattle.gtp_values.specs.FiniteMap.{Among}
use Rattle.std.specs.FinMap.{get, insert}
use Rattle.gtp_machine.specs.Config.{Addresses, Config, template_asked, user_end}
use Rattle.gtp_values.specs.declared.cause.Cause.{Cause}
use Rattle.gtp_machine.specs.Element.{IsAccepting}
use Rattle.gtp_machine.specs.Message.{CreateSessionRequest, CreateSessionResponse, CreateBearerRequest, CreateBearerResponse, Message}
use Rattle.gtp_machine.specs.Message.{Create_session_request, Create_session_response, Create_bearer_request, Create_bearer_response, Other_control}
use Rattle.gtp_machine.specs.Message.{Plane, Control, User, plane_of, first_returned}
use Rattle.gtp_machine.specs.Node.{Role, Serving, Packet, Arrival, Held, Node}
use Rattle.gtp_machine.specs.Input.{Commanded, Control_came, Control_message, User_message, User_fault, Sending, Effect, messages, datagrams}
use Rattle.gtp_machine.specs.Recovery.{peer_restarted, Hears}
use Rattle.gtp_machine.specs.Tick.{ticked}
use Rattle.gtp_machine.specs.Reading.{user_cut_fault}
use Rattle.gtp_machine.specs.Spelling.{spelled, announcing, datagram_plane, spelled_all}
use Rattle.gtp_machine.specs.Serving.{granted_bearer, CreateBearerAsked}
use Rattle.gtp_machine.specs.Command.{pending_dedicated}
use Rattle.gtp_machine.specs.Packet.{session_cause, session_response, made_session, made_bearer, session_made, session_refused, MakesSession, CreateSessionAsked}
use Rattle.gtp_machine.specs.World.{World, SentDatagram, other, side_of, signed, with_side, with_steps, noted, Note, Moves, Delivers, marked_late}
use Rattle.gtp_machine.specs.World.{come_from, arrival, fault_of_cut, delivered_on, cut_on, restarted, Event, Does, Tick, Deliver, Cut, Restart}
use Rattle.gtp_machine.specs.World.{Happens, Run, start}
use Rattle.gtp_machine.specs.Laws.{OfEachRun, Moment, ComesLast, IssuedAnswer, BringsOctets, AnswersRequest, IsMadeFor, IsGrantedFor, AnswersSessionRequest, AnswersBearerRequest, EachResponseAnswers}
use Rattle.gtp_machine.proofs.Basics.Facts.{false_true}
use Rattle.gtp_machine.proofs.Basics.Finishing.{on_session_asked, on_hears}
use Rattle.gtp_machine.proofs.Basics.FiniteMaps.{get-insert_same, get-insert_other, Among-one_more, among_at}
use Rattle.gtp_machine.proofs.Basics.Datagrams.{IsFew}
use Rattle.gtp_machine.proofs.Basics.Templates.{goes as goes_out}
use Rattle.gtp_machine.proofs.Requests.Opening.{Trace, IsMute, opening, foreign, same_held}
use Rattle.gtp_machine.proofs.Worlds.Coming.{by_few, pair_comes, to_packet, Grown, ticks_moved, Took, took, took_late, took_datagram, TookBoth, took_both, took_both_late}
use Rattle.gtp_machine.proofs.Exchange.Held.{HeldOfSent, not_announcing, always_held}
use Rattle.gtp_machine.proofs.Basics.Kinds.{is_create_answer}
use Rattle.gtp_machine.proofs.Requests.Holding.{are_plain, command_calm, user_calm}
use Rattle.gtp_machine.proofs.Requests.Replying.{IsLesser, IsRepeated, IsReplied, AllAsk, lesser_calm, message_replies, fault_replies, tick_lesser}
use Rattle.gtp_machine.proofs.Exchange.Made.{accepts_cause}
use Rattle.gtp_values.proofs.Outcomes.{none_some}
use Rattle.gtp_values.proofs.Tests.{both}
use Rattle.gtp_machine.proofs.Worlds.Runs.{Invariant, side_in, found_whole, always, Run-push}

-- a pair comes as a whole
abbrev TookWhole : World → Role → CreateSessionResponse → CreateBearerRequest → World → Type 0
TookWhole old role a r new =
    Took old role
    (Control_came (come_from (side_of old (other role)).node.config.own (spelled_all (Create_session_response a ∷ Create_bearer_request r ∷ [])))
    (Control_message (Other_control 0))) new

pair_to_serving : (old : World) (a : CreateSessionResponse) (r : CreateBearerRequest) (new : World)
    → Delivers old Packet (Create_session_response a ∷ Create_bearer_request r ∷ []) new → TookWhole old Serving a r new ⊎ TookBoth old a r new
pair_to_serving old a r new (inl d) =
    ⊎_elim (λ whole. inl (took old Serving _ new whole)) (λ apart. inr (took_both old a r new apart.moves))
    (pair_comes old Serving old.packet.node.config.own new a r d.1)
pair_to_serving old a r new (inr d) =
    let x = arrival old.packet.node.config.own (Create_bearer_request r) in
    ⊎_elim (λ whole. inl (took_late old Serving x _ new whole)) (λ apart. inr (took_both_late old x a r new apart.moves))
    (pair_comes (marked_late old Serving x) Serving old.packet.node.config.own new a r d.1)

pair_to_packet : (old : World) (a : CreateSessionResponse) (r : CreateBearerRequest) (new : World) → Delivers old Serving (Create_session_response a ∷ Create_bearer_request r ∷ []) new
    → TookWhole old Packet a r new
pair_to_packet old a r new (inl d) = took old Packet _ new (to_packet old old.serving.node.config.own a r new d.1)
pair_to_packet old a r new (inr d) =
    let x = arrival old.serving.node.config.own (Create_bearer_request r) in
    took_late old Packet x _ new (to_packet (marked_late old Packet x) old.serving.node.config.own a r new d.1)

one_of_both : (role by : Role) → (by ≡ role) ⊎ (by ≡ other role)
one_of_both Serving Serving = inl refl
one_of_both Serving Packet = inr refl
one_of_both Packet Serving = inr refl
one_of_both Packet Packet = inl refl

-- a place of two lists is one of the first, or one of the second
slice_cases : (xs ys : List SentDatagram) (n : ℕ) (s : SentDatagram) → slice_get (xs ++ ys) n ≡ Some s → (slice_get xs n ≡ Some s) ⊎ ((k : ℕ) × (length xs + k ≡ n) × (slice_get ys k ≡ Some s))
slice_cases [] ys n s e = inr (n, omega arith, e)
slice_cases (x ∷ xs) ys zero s e = inl e
slice_cases (x ∷ xs) ys (suc n) s e = ⊎_elim (λ first. inl first) (λ later. inr (later.0, omega (arith, later.1), later.2)) (slice_cases xs ys n s e)

-- the one place of a list of one
only_place : (x s : SentDatagram) (k : ℕ) → slice_get (x ∷ []) k ≡ Some s → (k ≡ 0) × (x ≡ s)
only_place x s zero e = (refl, cc)
only_place x s (suc k) e = absurd (cc e)

plain_rest : (first rest : List Message) → are_plain (first ++ rest) ≡ true → are_plain rest ≡ true
plain_rest [] rest plain = plain
plain_rest (m ∷ first) rest plain = plain_rest first rest (both (not (is_create_answer m)) (are_plain (first ++ rest)) plain).right

plain_first : (m : Message) (more : List Message) → are_plain (m ∷ more) ≡ true → is_create_answer m ≡ false
plain_first m more plain = not-true (is_create_answer m) (both (not (is_create_answer m)) (are_plain more) plain).left

-- no datagram of plain messages begins with such a response
plain_signed : (role : Role) (sent : List Sending) → are_plain (messages sent) ≡ true → (k : ℕ) (by : Role) (m : Message) (more : List Message)
    → slice_get (signed role (datagrams sent)) k ≡ Some (record { role = by; what = m ∷ more }) → is_create_answer m ≡ false
plain_signed role [] plain k by m more e = absurd (cc e)
plain_signed role (s ∷ sent) plain zero by m more e =
    let at : ◌≡◌ {A = SentDatagram} (record { role = role; what = s.messages }) (record { role = by; what = m ∷ more }) = cc e in
    let is = ap (λ (x : SentDatagram). x.what) at in
    plain_first m (more ++ messages sent) (ap (λ (l : List Message). are_plain (l ++ messages sent)) (sym is) ∙ plain)
plain_signed role (s ∷ sent) plain (suc k) by m more e = plain_signed role sent (plain_rest s.messages (messages sent) plain) k by m more e

-- where nothing is sent, and what is held stays
mute_lesser : (old : Node) (e : Effect) → IsMute old e → IsLesser old e
mute_lesser old e mute = record {
  plain = ap (λ (t : Trace). are_plain (messages t.sent)) mute;
  held = λ h among. inl (subst (Among h) (ap (λ (t : Trace). t.held) mute) among);
}

-- a moment of a run comes before its end
until_now : (first : World) (events : List Event) (last : World) (m : Moment first events last) → length m.earlier ≤ length events
until_now first events last m = let long : length events ≡ length m.earlier + length (m.event ∷ m.later) = ap length m.are ∙ length-append m.earlier (m.event ∷ m.later) in omega (arith, long)

-- a datagram that is held, and begins with this answer, was given at some moment, for the request for which it is held
record IsHeldFor (first : World) (events : List Event) (w : World) (role : Role) (h : Held) (answer : Message) : Type 0 where
  pub request : Message
  pub issued : IssuedAnswer first events w role request answer
  pub same : arrival (side_of issued.moment.before (other role)).node.config.own request ≡ h.request
  pub whole : h.answer ≡ answer ∷ issued.more

-- a datagram that was sent, and begins with this response, goes back to a request
record IsBacked (first : World) (events : List Event) (w : World) (number : ℕ) (role : Role) (answer : Message) : Type 0 where
  pub request : Message
  pub back : AnswersRequest first events w number role request answer

-- each datagram that was sent, and each that is held, goes back to a request where it begins with such a response
record Backs (first : World) (events : List Event) (w : World) : Type 0 where
  pub sent : (number : ℕ) (role : Role) (m : Message) (more : List Message) → slice_get w.datagrams number ≡ Some (record { role = role; what = m ∷ more })
      → is_create_answer m ≡ true → IsBacked first events w number role m
  pub held : (role : Role) (h : Held) (m : Message) (more : List Message) → Among h (side_of w role).node.held → h.answer ≡ m ∷ more → is_create_answer m ≡ true → IsHeldFor first events w role h m

module _ (first : World) (done : List Event) (mid : World) (reached : Run first done mid) (backs : Backs first done mid) (event : Event) (new : World) (happens : Happens mid event new) where
  abbrev events : List Event
  events = done ++ event ∷ []

  abbrev now : Moment first events new
  now = record { before = mid; event = event; after = new; happens = happens; earlier = done; reached = reached; later = []; goes_on = refl; are = refl }

  abbrev moment_later : Moment first done mid → Moment first events new
  moment_later m = record {
    before = m.before;
    event = m.event;
    after = m.after;
    happens = m.happens;
    earlier = m.earlier;
    reached = m.reached;
    later = m.later ++ event ∷ [];
    goes_on = Run-push m.after m.later mid event new m.goes_on happens;
    are = ap (λ k. k ++ event ∷ []) m.are ∙ append_assoc m.earlier (m.event ∷ m.later) (event ∷ []);
  }

  abbrev gave_later : (role : Role) (request answer : Message) → IssuedAnswer first done mid role request answer → IssuedAnswer first events new role request answer
  gave_later role request answer g =
      record {
        moment = moment_later g.moment;
        number = g.number;
        came = g.came;
        datagram = g.datagram;
        sent = g.sent;
        at = g.at;
        comes = g.comes;
        effect = g.effect;
        asked = g.asked;
        becomes = g.becomes;
        more = g.more;
        says = g.says;
      }

  held_later : (role : Role) (h : Held) (m : Message) → IsHeldFor first done mid role h m → IsHeldFor first events new role h m
  held_later role h m f = record { request = f.request; issued = gave_later role f.request m f.issued; same = f.same; whole = f.whole }

  backed_later : (number : ℕ) (role : Role) (m : Message) → IsBacked first done mid number role m → IsBacked first events new number role m
  backed_later number role m b = record {
    request = b.request;
    back = record { issued = gave_later role b.request m b.back.issued; moment = moment_later b.back.moment; again = b.back.again; sent = b.back.sent; place = b.back.place; since = b.back.since };
  }

  -- nothing is sent, and nothing comes to be held
  stays : new.datagrams ≡ mid.datagrams → ((role : Role) (h : Held) → Among h (side_of new role).node.held → Among h (side_of mid role).node.held) → Backs first events new
  stays same kept = record {
    sent =
        λ number role m more at is. backed_later number role m (backs.sent number role m more
        (subst (λ (k : List SentDatagram). slice_get k number ≡ Some (record { role = role; what = m ∷ more })) same at) is);
    held = λ role h m more among whole is. held_later role h m (backs.held role h m more (kept role h among) whole is);
  }

  -- a step of one gateway
  grows : (role : Role) (e : Effect) → Grown mid role e new → ((k : ℕ) (by : Role) (m : Message) (more : List Message)
      → slice_get (signed role (datagrams e.out.sent)) k ≡ Some (record { role = by; what = m ∷ more }) → is_create_answer m ≡ true
      → IsBacked first events new (length mid.datagrams + k) by m)
      → ((h : Held) (m : Message) (more : List Message) → Among h e.node.held → h.answer ≡ m ∷ more → is_create_answer m ≡ true
      → IsHeldFor first events new role h m) → Backs first events new
  grows role e g sends holds = record { sent = sent; held = held }
    where
      sent : (number : ℕ) (by : Role) (m : Message) (more : List Message) → slice_get new.datagrams number ≡ Some (record { role = by; what = m ∷ more })
          → is_create_answer m ≡ true → IsBacked first events new number by m
      sent number by m more at is = ⊎_elim
          (λ was. backed_later number by m (backs.sent number by m more was is))
          (λ now. subst (λ n. IsBacked first events new n by m) now.1 (sends now.0 by m more now.2 is))
          (slice_cases mid.datagrams (signed role (datagrams e.out.sent)) number (record { role = by; what = m ∷ more })
          (subst (λ (k : List SentDatagram). slice_get k number ≡ Some (record { role = by; what = m ∷ more })) g.listed at))

      elsewhere : (h : Held) (m : Message) (more : List Message) → Among h (side_of new (other role)).node.held → h.answer ≡ m ∷ more
          → is_create_answer m ≡ true → IsHeldFor first events new (other role) h m
      elsewhere h m more among whole is = held_later (other role) h m (backs.held (other role) h m more (subst (λ (n : Node). Among h n.held) g.elsewhere among) whole is)

      here : (h : Held) (m : Message) (more : List Message) → Among h (side_of new role).node.held → h.answer ≡ m ∷ more → is_create_answer m ≡ true → IsHeldFor first events new role h m
      here h m more among whole is = holds h m more (subst (λ (n : Node). Among h n.held) g.node among) whole is

      held : (by : Role) (h : Held) (m : Message) (more : List Message) → Among h (side_of new by).node.held → h.answer ≡ m ∷ more → is_create_answer m ≡ true → IsHeldFor first events new by h m
      held by h m more among whole is = ⊎_elim
          (λ same. subst (λ r. IsHeldFor first events new r h m) (sym same) (here h m more (subst (λ r. Among h (side_of new r).node.held) same among) whole is))
          (λ same. subst (λ r. IsHeldFor first events new r h m) (sym same) (elsewhere h m more (subst (λ r. Among h (side_of new r).node.held) same among) whole is))
          (one_of_both role by)

  lesser : (role : Role) (e : Effect) → Grown mid role e new → IsLesser (side_of mid role).node e → Backs first events new
  lesser role e g l = grows role e g
      (λ k by m more at is. absurd (false_true _ (plain_signed role e.out.sent l.plain k by m more at) is))
      (λ h m more among whole is. ⊎_elim (λ was. held_later role h m (backs.held role h m more was whole is))
      (λ plain. absurd (false_true _ (plain_first m more (ap are_plain (sym whole) ∙ plain)) is)) (l.held h among))

  -- what is said is the one datagram that comes to the list
  one_said : (role : Role) (e : Effect) (answer : List Message) → datagrams e.out.sent ≡ answer ∷ [] → (k : ℕ) (s : SentDatagram)
      → slice_get (signed role (datagrams e.out.sent)) k ≡ Some s → (k ≡ 0) × (record { role = role; what = answer } ≡ s)
  one_said role e answer says k s at = only_place (record { role = role; what = answer }) s k (subst (λ (l : List (List Message)). slice_get (signed role l) k ≡ Some s) says at)

  said_now : (role : Role) (e : Effect) (answer : List Message) → Grown mid role e new → datagrams e.out.sent ≡ answer ∷ [] → new.datagrams ≡ mid.datagrams ++ signed role (answer ∷ [])
  said_now role e answer g says = g.listed ∙ ap (λ (l : List (List Message)). mid.datagrams ++ signed role l) says

  repeated : (role : Role) (request : Arrival) (e : Effect) → Grown mid role e new → BringsOctets mid event role request → IsRepeated request (side_of mid role).node e → Backs first events new
  repeated role request e g brings r = grows role e g
      (λ k by m more at is.
      let one = one_said role e r.held.answer r.says k (record { role = by; what = m ∷ more }) at in
      subst (λ b. IsBacked first events new (length mid.datagrams + k) b m) (ap (λ (x : SentDatagram). x.role) one.1) (backed k one.0 m more (ap (λ (x : SentDatagram). x.what) one.1) is))
      (λ h m more among whole is. held_later role h m (backs.held role h m more (subst (λ (hs : List Held). Among h hs) r.stays among) whole is))
    where
      backed : (k : ℕ) → k ≡ 0 → (m : Message) (more : List Message) → r.held.answer ≡ m ∷ more → is_create_answer m ≡ true → IsBacked first events new (length mid.datagrams + k) role m
      backed k zero_is m more whole is =
          let f = backs.held role r.held m more r.stands whole is in
          record {
            request = f.request;
            back = record {
              issued = gave_later role f.request m f.issued;
              moment = now;
              again = subst (BringsOctets mid event role) (sym (f.same ∙ r.same)) brings;
              sent = said_now role e (m ∷ f.issued.more) g (r.says ∙ ap (λ (l : List Message). l ∷ []) f.whole);
              place = omega (arith, zero_is);
              since = until_now first done mid f.issued.moment;
            };
          }

  -- the last message of a datagram is a request that is answered now, by the gateway as it takes that
  replied : (role : Role) (number : ℕ) (datagram : List Message) (m : Message) (at : Node) (e : Effect) → event ≡ Deliver number
      → slice_get mid.datagrams number ≡ Some (record { role = other role; what = datagram })
      → ComesLast role (side_of mid (other role)).node.config.own (side_of mid role).node datagram m at → at.held ≡ (side_of mid role).node.held
      → Grown mid role e new → BringsOctets mid event role (arrival (side_of mid (other role)).node.config.own m)
      → IsReplied role m (arrival (side_of mid (other role)).node.config.own m) at e → Backs first events new
  replied role number datagram m at e came sent comes same_held g brings r = grows role e g
      (λ k by n more found is.
      let one = one_said role e (r.answer ∷ r.more) r.says k (record { role = by; what = n ∷ more }) found in
      let same : r.answer ≡ n = cc (ap (λ (x : SentDatagram). x.what) one.1) in
      subst (λ b. IsBacked first events new (length mid.datagrams + k) b n) (ap (λ (x : SentDatagram). x.role) one.1)
      (subst (λ a. IsBacked first events new (length mid.datagrams + k) role a) same (backed k one.0)))
      (λ h n more among whole is. ⊎_elim
      (λ was. held_later role h n (backs.held role h n more (subst (λ (hs : List Held). Among h hs) same_held was) whole is))
      (λ same.
      let answer : r.answer ≡ n = cc (sym (ap (λ (x : Held). x.answer) same) ∙ whole) in
      subst (λ x. IsHeldFor first events new role x n) (sym same)
      (subst (λ a. IsHeldFor first events new role (record
      { request = arrival (side_of mid (other role)).node.config.own m; answer = r.answer ∷ r.more }) a) answer
      (record { request = m; issued = issued; same = refl; whole = refl })))
      (Among-one_more h (record { request = arrival (side_of mid (other role)).node.config.own m; answer = r.answer ∷ r.more }) at.held (subst (λ (hs : List Held). Among h hs) r.held among)))
    where
      issued : IssuedAnswer first events new role m r.answer
      issued =
          record {
            moment = now;
            number = number;
            came = came;
            datagram = datagram;
            sent = sent;
            at = at;
            comes = comes;
            effect = e;
            asked = r.asked;
            becomes = g.node;
            more = r.more;
            says = r.says;
          }

      backed : (k : ℕ) → k ≡ 0 → IsBacked first events new (length mid.datagrams + k) role r.answer
      backed k zero_is =
          record {
            request = m;
            back = record {
              issued = issued;
              moment = now;
              again = brings;
              sent = said_now role e (r.answer ∷ r.more) g r.says;
              place = omega (arith, zero_is);
              since = omega arith;
            };
          }

  -- a datagram of one message comes, by its plane
  datagram : (role : Role) (number : ℕ) (m : Message) (plane : Plane) → event ≡ Deliver number
      → slice_get mid.datagrams number ≡ Some (record { role = other role; what = m ∷ [] })
      → BringsOctets mid event role (arrival (side_of mid (other role)).node.config.own m)
      → Took mid role (delivered_on plane (side_of mid (other role)).node.config.own (m ∷ [])) new → Backs first events new
  datagram role number m User came at brings t =
      lesser role t.effect t.moved.grown (lesser_calm _ t.effect
      (user_calm role (user_end (side_of mid (other role)).node.config.own.user) (User_message m) (side_of mid role).node t.effect t.step))
  datagram role number m Control came at brings t = ⊎_elim
      (λ l. lesser role t.effect t.moved.grown l)
      (λ others. ⊎_elim (λ r. repeated role (arrival (side_of mid (other role)).node.config.own m) t.effect t.moved.grown brings r)
      (λ r. replied role number (m ∷ []) m (side_of mid role).node t.effect came at (refl, refl) refl t.moved.grown brings r) others)
      (message_replies role m (arrival (side_of mid (other role)).node.config.own m) (side_of mid role).node t.effect t.step)

  -- a pair comes as a whole
  whole_pair : (role : Role) (a : CreateSessionResponse) (r : CreateBearerRequest) → BringsOctets mid event role
      (come_from (side_of mid (other role)).node.config.own (spelled_all (Create_session_response a ∷ Create_bearer_request r ∷ [])))
      → TookWhole mid role a r new → Backs first events new
  whole_pair role a r brings t = ⊎_elim
      (λ mute. lesser role t.effect t.moved.grown (mute_lesser (side_of mid role).node t.effect mute))
      (λ again. repeated role _ t.effect t.moved.grown brings (record {
        held =
            again.held;
        stands = again.stands;
        same = again.same;
        says = ap
            (λ (f : Effect). datagrams f.out.sent)
            again.gives;
        stays = ap
            (λ (f : Effect). f.node.held)
            again.gives;
      }))
      (foreign role _ 0 (side_of mid role).node t.effect t.step)

  -- the messages of a pair come, one after the other: the first gets nothing, since no answer is held for octets that announce a message
  both_messages : (held_of : HeldOfSent mid) (number : ℕ) (a : CreateSessionResponse) (r : CreateBearerRequest) → event ≡ Deliver number
      → slice_get mid.datagrams number ≡ Some (record { role = Packet; what = Create_session_response a ∷ Create_bearer_request r ∷ [] })
      → BringsOctets mid event Serving (arrival mid.packet.node.config.own (Create_bearer_request r)) → TookBoth mid a r new → Backs first events new
  both_messages held_of number a r came at brings t = ⊎_elim
      taken
      (λ again.
      let s = held_of Serving again.held again.stands in
      absurd (not_announcing s.message a s.control (ap (λ (k : Arrival). k.octets) (sym s.is ∙ again.same))))
      (opening _ a mid.serving.node t.effect t.step)
    where
      taken : IsMute mid.serving.node t.effect → Backs first events new
      taken mute =
          let silent : t.effect.out.sent ≡ [] = ap (λ (x : Trace). x.sent) mute in
          let same = same_held mid.serving.node (come_from mid.packet.node.config.own (announcing (Create_session_response a))) t.effect (inl mute) in
          let g : Grown mid Serving t.next new =
          record {
            listed = t.listed ∙ ap (λ l. (mid.datagrams ++ signed Serving (datagrams l)) ++ signed Serving (datagrams t.next.out.sent)) silent
                ∙ ap (λ l. l ++ signed Serving (datagrams t.next.out.sent)) (append-nil mid.datagrams);
            node = t.node;
            elsewhere = t.elsewhere;
          } in
          ⊎_elim
          (λ l. lesser Serving t.next g (record { plain = l.plain; held = λ h among. ⊎_elim (λ was. inl (subst (Among h) same was)) (λ plain. inr plain) (l.held h among) }))
          (λ others. ⊎_elim
          (λ x. repeated Serving (arrival mid.packet.node.config.own (Create_bearer_request r)) t.next g brings
          (record { held = x.held; stands = subst (Among x.held) same x.stands; same = x.same; says = x.says; stays = x.stays ∙ same }))
          (λ x.
          replied Serving number (Create_session_response a ∷ Create_bearer_request r ∷ []) (Create_bearer_request r) t.effect.node t.next came at
          (refl, (t.effect, t.step, silent, refl)) same g brings x)
          others)
          (message_replies Serving (Create_bearer_request r) (arrival mid.packet.node.config.own (Create_bearer_request r)) t.effect.node t.next t.follows)

  -- first octets of a datagram come, by its plane
  cut : (role : Role) (whole : List Message) (count : ℕ) (plane : Plane)
      → BringsOctets mid event role (come_from (side_of mid (other role)).node.config.own (take count (spelled_all whole)))
      → Took mid role (cut_on plane (side_of mid (other role)).node.config.own whole count) new → Backs first events new
  cut role whole count User brings t =
      lesser role t.effect t.moved.grown (lesser_calm _ t.effect
      (user_calm role (user_end (side_of mid (other role)).node.config.own.user) (User_fault (user_cut_fault count)) (side_of mid role).node t.effect
      t.step))
  cut role whole count Control brings t = ⊎_elim
      (λ l. lesser role t.effect t.moved.grown l)
      (λ others. ⊎_elim (λ r. repeated role (come_from (side_of mid (other role)).node.config.own (take count (spelled_all whole))) t.effect t.moved.grown brings r) (λ none. absurd none) others)
      (fault_replies role (fault_of_cut whole count) (come_from (side_of mid (other role)).node.config.own (take count (spelled_all whole))) (side_of mid role).node t.effect t.step)

asks_in : (own : Addresses) (w : World) → Invariant own w → (role : Role) → AllAsk (side_of w role).node.pending
asks_in own w inv role number p stands = ((side_in w inv role).knows.pending number p stands).asks

restart_keeps : (mid : World) (role : Role) (note : Note) (by : Role) (h : Held)
    → Among h (side_of (with_steps (noted (with_side mid role (restarted (side_of mid role))) note) role []) by).node.held
    → Among h (side_of mid by).node.held
restart_keeps mid Serving note Serving h none = absurd none
restart_keeps mid Serving note Packet h among = among
restart_keeps mid Packet note Serving h among = among
restart_keeps mid Packet note Packet h none = absurd none

restart_list : (mid : World) (role : Role) (note : Note) → (with_steps (noted (with_side mid role (restarted (side_of mid role))) note) role []).datagrams ≡ mid.datagrams
restart_list mid Serving note = refl
restart_list mid Packet note = refl

-- the same world with a note
noted_keeps : (mid : World) (note : Note) (by : Role) (h : Held) → Among h (side_of (noted mid note) by).node.held → Among h (side_of mid by).node.held
noted_keeps mid note Serving h among = among
noted_keeps mid note Packet h among = among

module _ (first : World) (done : List Event) (mid : World) (reached : Run first done mid) (own : Addresses) (inv : Invariant own mid) (held_of : HeldOfSent mid) (backs : Backs first done mid) where
  same_world : (event : Event) (note : Note) (new : World) → Happens mid event new → new ≡ noted mid note → Backs first (done ++ event ∷ []) new
  same_world event note new happens is =
      stays first done mid reached backs event new happens (ap (λ (w : World). w.datagrams) is)
      (λ by h among. noted_keeps mid note by h (subst (λ (w : World). Among h (side_of w by).node.held) is among))

  -- a datagram of this gateway comes to the other
  delivered : (sender : Role) (number : ℕ) (m : Message) (new : World) → Happens mid (Deliver number) new
      → slice_get mid.datagrams number ≡ Some (record { role = sender; what = m ∷ [] }) → Delivers mid sender (m ∷ []) new
      → Backs first (done ++ Deliver number ∷ []) new
  delivered Serving number m new happens at d =
      datagram first done mid reached backs (Deliver number) new happens Packet number m (plane_of m) refl at
      (m ∷ [], at, (spelled m, inl refl, refl)) (took_datagram mid Serving m new d)
  delivered Packet number m new happens at d =
      datagram first done mid reached backs (Deliver number) new happens Serving number m (plane_of m) refl at
      (m ∷ [], at, (spelled m, inl refl, refl)) (took_datagram mid Packet m new d)

  -- a pair of this gateway comes to the other
  delivered_pair : (sender : Role) (number : ℕ) (a : CreateSessionResponse) (r : CreateBearerRequest) (new : World) → Happens mid (Deliver number) new
      → slice_get mid.datagrams number ≡ Some (record { role = sender; what = Create_session_response a ∷ Create_bearer_request r ∷ [] })
      → Delivers mid sender (Create_session_response a ∷ Create_bearer_request r ∷ []) new → Backs first (done ++ Deliver number ∷ []) new
  delivered_pair Serving number a r new happens at d =
      whole_pair first done mid reached backs (Deliver number) new happens Packet a r
      (Create_session_response a ∷ Create_bearer_request r ∷ [], at, (_, inl refl, refl)) (pair_to_packet mid a r new d)
  delivered_pair Packet number a r new happens at d = ⊎_elim
      (λ whole. whole_pair first done mid reached backs (Deliver number) new happens Serving a r (Create_session_response a ∷ Create_bearer_request r ∷ [], at, (_, inl refl, refl)) whole)
      (λ t. both_messages first done mid reached backs (Deliver number) new happens held_of number a r refl at
      (Create_session_response a ∷ Create_bearer_request r ∷ [], at, (spelled (Create_bearer_request r), inr refl, refl)) t)
      (pair_to_serving mid a r new d)

  delivered_few : (sender : Role) (number : ℕ) (whole : List Message) → IsFew whole → (new : World) → Happens mid (Deliver number) new
      → slice_get mid.datagrams number ≡ Some (record { role = sender; what = whole }) → Delivers mid sender whole new
      → Backs first (done ++ Deliver number ∷ []) new
  delivered_few sender number =
      by_few
      (λ whole. (new : World) → Happens mid (Deliver number) new → slice_get mid.datagrams number ≡ Some (record { role = sender; what = whole })
      → Delivers mid sender whole new → Backs first (done ++ Deliver number ∷ []) new)
      (λ m new happens at d. delivered sender number m new happens at d)
      (λ a r new happens at d. delivered_pair sender number a r new happens at d)

  cut_short : (sender : Role) (number count : ℕ) (whole : List Message) (new : World) → Happens mid (Cut number count) new
      → slice_get mid.datagrams number ≡ Some (record { role = sender; what = whole })
      → Moves mid (other sender) (cut_on (datagram_plane whole) (side_of mid sender).node.config.own whole count) new
      → Backs first (done ++ Cut number count ∷ []) new
  cut_short Serving number count whole new happens at c =
      cut first done mid reached backs (Cut number count) new happens Packet whole count (datagram_plane whole) (whole, at, refl)
      (took mid Packet _ new c)
  cut_short Packet number count whole new happens at c =
      cut first done mid reached backs (Cut number count) new happens Serving whole count (datagram_plane whole) (whole, at, refl)
      (took mid Serving _ new c)

  next : (event : Event) (new : World) → Happens mid event new → Backs first (done ++ event ∷ []) new
  next (Does role command) new m =
      let t = took mid role (Commanded command) new m in
      lesser first done mid reached backs (Does role command) new m role t.effect t.moved.grown
      (lesser_calm (side_of mid role).node t.effect (command_calm role command (side_of mid role).node t.effect t.step))
  next (Tick role) new t =
      lesser first done mid reached backs (Tick role) new t role (ticked t.out t.after) (ticks_moved mid role new t).grown
      (tick_lesser t.moves (side_of mid role).node (asks_in own mid inv role) t.out t.after t.tick)
  next (Deliver number) new (inl none) = same_world (Deliver number) _ new (inl none) none.1
  next (Deliver number) new (inr (found, d)) =
      delivered_few found.sent.role number found.sent.what (found_whole own mid inv number found.sent found.is).few new (inr (found, d)) found.is d
  next (Cut number count) new (inl none) = same_world (Cut number count) _ new (inl none) none.1
  next (Cut number count) new (inr (found, inl long)) = same_world (Cut number count) _ new (inr (found, inl long)) long.1
  next (Cut number count) new (inr (found, inr (short, c))) = cut_short found.sent.role number count found.sent.what new (inr (found, inr (short, c))) found.is c
  next (Restart role) new (inl used) = same_world (Restart role) _ new (inl used) used.1
  next (Restart role) new (inr (few, is)) =
      stays first done mid reached backs (Restart role) new (inr (few, is)) (ap (λ (w : World). w.datagrams) is ∙ restart_list mid role _)
      (λ by h among. restart_keeps mid role _ by h (subst (λ (w : World). Among h (side_of w by).node.held) is among))

module _ (serving packet : Config) (serving_counter packet_counter : ℕ) where
  abbrev first : World
  first = start serving packet serving_counter packet_counter

  begins : Backs first [] first
  begins = record { sent = λ number role m more e. absurd (cc e); held = held }
    where
      held : (role : Role) (h : Held) (m : Message) (more : List Message) → Among h (side_of first role).node.held → h.answer ≡ m ∷ more → is_create_answer m ≡ true → IsHeldFor first [] first role h m
      held Serving h m more none = absurd none
      held Packet h m more none = absurd none

  goes : (done : List Event) (mid : World) → Run first done mid → Backs first done mid → (events : List Event) (new : World) → Run mid events new → Backs first (done ++ events) new
  goes done mid reached backs [] new is = subst (λ (es : List Event). Backs first es new) (sym (append-nil done)) (subst (λ (w : World). Backs first done w) (sym is) backs)
  goes done mid reached backs (event ∷ events) new r =
      subst (λ (es : List Event). Backs first es new) (append_assoc done (event ∷ []) events)
      (goes (done ++ event ∷ []) r.0 (Run-push first done mid event r.0 reached r.1)
      (next first done mid reached packet.own (always serving packet serving_counter packet_counter done mid reached)
      (always_held serving packet serving_counter packet_counter done mid reached) backs event r.0 r.1) events new r.2)

  backs_in : (events : List Event) (w : World) → Run first events w → Backs first events w
  backs_in events w r = goes [] first refl begins events w r

-- ---- what the rules give is for the request

-- the response has the request's number and gives back its TEID alone, and where it accepts a bearer was made for the request
record NamesBearer (request : Arrival) (r : CreateBearerRequest) (e : Effect) (x : CreateBearerResponse) : Type 0 where
  pub number : x.number ≡ r.number
  pub returned : (t : ℕ) → first_returned x.contexts ≡ Some t → t ≡ r.context.user.teid
  pub made : IsAccepting x.cause → e.out.made ≡ request ∷ []
  pub accepted : IsAccepting x.cause → IsGrantedFor e.node r x
  pub refused : (IsAccepting x.cause → ⊥) → e.out.made ≡ []

record NamesSession (request : Arrival) (q : CreateSessionRequest) (e : Effect) (a : CreateSessionResponse) : Type 0 where
  pub number : a.number ≡ q.number
  pub header : a.header ≡ q.control.teid
  pub made : IsAccepting a.cause → e.out.made ≡ request ∷ []
  pub accepted : IsAccepting a.cause → IsMadeFor e.node q a
  pub refused : (IsAccepting a.cause → ⊥) → e.out.made ≡ []

-- a cause from 64 on refuses
refuses : (cause : Cause) → 64 ≤ cause.value → IsAccepting cause → ⊥
refuses cause high accepts = omega (arith, high, accepts.high)

module _ (request : Arrival) (r : CreateBearerRequest) (e : Effect) (x : CreateBearerResponse) (more : List Message) (says : datagrams e.out.sent ≡ (Create_bearer_response x ∷ more) ∷ []) where
  silent : (f : Effect) → e ≡ f → datagrams f.out.sent ≡ [] → NamesBearer request r e x
  silent f gives none = absurd (cc (sym none ∙ ap (λ (k : Effect). datagrams k.out.sent) (sym gives) ∙ says))

  named : (y : CreateBearerResponse) (f : Effect) → e ≡ f → datagrams f.out.sent ≡ (Create_bearer_response y ∷ []) ∷ [] → NamesBearer request r f y → NamesBearer request r e x
  named y f gives said names = subst (λ k. NamesBearer request r k x) (sym gives) (subst (NamesBearer request r f) (cc (sym said ∙ ap (λ (k : Effect). datagrams k.out.sent) (sym gives) ∙ says)) names)

  -- a refusal
  refusal : (y : CreateBearerResponse) (f : Effect) → e ≡ f → datagrams f.out.sent ≡ (Create_bearer_response y ∷ []) ∷ [] → f.out.made ≡ []
      → 64 ≤ y.cause.value → y.number ≡ r.number → ((t : ℕ) → first_returned y.contexts ≡ Some t → t ≡ r.context.user.teid)
      → NamesBearer request r e x
  refusal y f gives said none high number returned =
      named y f gives said (record {
        number = number;
        returned = returned;
        made = λ accepts. absurd (refuses y.cause high accepts);
        accepted = λ accepts. absurd (refuses y.cause high accepts);
        refused = λ no. none;
      })

  bearer_named : (old : Node) → CreateBearerAsked request r old e → NamesBearer request r e x
  bearer_named old (inl f) = silent _ f.1 refl
  bearer_named old (inr (a, inl f)) = refusal _ _ f.1 refl refl (omega arith) refl (λ t none. absurd (none_some t none))
  bearer_named old (inr (a, inr (b, inl f))) = silent _ f.1 refl
  bearer_named old (inr (a, inr (b, inr (c, inl f)))) = refusal _ _ f.1 refl refl (omega arith) refl (λ t none. absurd (none_some t none))
  bearer_named old (inr (a, inr (b, inr (c, inr (d, inl f))))) = refusal _ _ f.1 refl refl (omega arith) refl (λ t none. absurd (none_some t none))
  bearer_named old (inr (a, inr (b, inr (c, inr (d, inr (g, inl f)))))) = refusal _ _ f.1 refl refl (omega arith) refl (λ t is. cc is)
  bearer_named old (inr (a, inr (b, inr (c, inr (d, inr (g, inr (h, k))))))) = named _ _ k.gives refl (record {
    number = refl;
    returned = λ t is. cc is;
    made = λ accepts. refl;
    accepted = λ accepts. record { user = k.user; identity = k.identity; names_user = refl; names_identity = refl; bearer = get-insert_same old.bearers k.user (granted_bearer r k.identity) };
    refused = λ no. absurd (no (record { low = omega arith; high = omega arith }));
  })

module _ (request : Arrival) (q : CreateSessionRequest) (a : CreateSessionResponse) (more : List Message) where
  silent_session : (e f : Effect) → datagrams e.out.sent ≡ (Create_session_response a ∷ more) ∷ [] → e ≡ f → datagrams f.out.sent ≡ [] → NamesSession request q e a
  silent_session e f says gives none = absurd (cc (sym none ∙ ap (λ (k : Effect). datagrams k.out.sent) (sym gives) ∙ says))

  named_session : (e f : Effect) (b : CreateSessionResponse) (others : List Message) → datagrams e.out.sent ≡ (Create_session_response a ∷ more) ∷ [] → e ≡ f
      → datagrams f.out.sent ≡ (Create_session_response b ∷ others) ∷ [] → NamesSession request q f b → NamesSession request q e a
  named_session e f b others says gives said names =
      subst (λ k. NamesSession request q k a) (sym gives)
      (subst (NamesSession request q f) (cc (sym said ∙ ap (λ (k : Effect). datagrams k.out.sent) (sym gives) ∙ says)) names)

  refused_session : (old : Node) (e : Effect) (cause : Cause) → datagrams e.out.sent ≡ (Create_session_response a ∷ more) ∷ []
      → e ≡ session_refused request q cause old → 64 ≤ cause.value → NamesSession request q e a
  refused_session old e cause says gives high =
      named_session e (session_refused request q cause old) _ _ says gives refl
      (record {
        number = refl;
        header = refl;
        made = λ accepts. absurd (refuses cause high accepts);
        accepted = λ accepts. absurd (refuses cause high accepts);
        refused = λ no. refl;
      })

  made_session_named : (old : Node) (e : Effect) → datagrams e.out.sent ≡ (Create_session_response a ∷ more) ∷ [] → MakesSession request old q e → NamesSession request q e a
  made_session_named old e says r = ⊎_elim
      (λ alone. named_session e _ _ _ says alone refl (made_so _ refl session_stands bearer_stands))
      (λ x. named_session e _ _ _ says x.adds.gives refl (made_so _ refl session_stands
      (get-insert_other (insert old.bearers r.user (made_bearer q r.control)) x.adds.user (pending_dedicated r.control) r.user
      (λ same. x.adds.user_free.undrawn (inl (sym same))) ∙ bearer_stands)))
      (goes_out request (session_response old q r.control r.user r.address) (session_cause q.pdn r.address) r.control (made_session q r.address)
      (session_made old q r.control r.user r.address) e (template_asked old.config q.access_point) r.gives)
    where
      session_stands : get (insert old.sessions r.control (made_session q r.address)) r.control ≡ Some (made_session q r.address)
      session_stands = get-insert_same old.sessions r.control (made_session q r.address)

      bearer_stands : get (insert old.bearers r.user (made_bearer q r.control)) r.user ≡ Some (made_bearer q r.control)
      bearer_stands = get-insert_same old.bearers r.user (made_bearer q r.control)

      made_so : (f : Effect) → f.out.made ≡ request ∷ [] → get f.node.sessions r.control ≡ Some (made_session q r.address) → get f.node.bearers r.user ≡ Some (made_bearer q r.control)
          → NamesSession request q f (session_response old q r.control r.user r.address)
      made_so f made session bearer = record {
        number = refl;
        header = refl;
        made = λ accepts. made;
        accepted = λ accepts. record {
          control = r.control;
          user = r.user;
          address = r.address;
          names_control = refl;
          names_user = refl;
          names_address = address_back 64 r.address r.given.some_part;
          names_identity = refl;
          session = session;
          bearer = bearer;
        };
        refused = λ no. absurd (no (accepts_cause q.pdn r.address));
      }

  session_named : (old : Node) (e : Effect) → datagrams e.out.sent ≡ (Create_session_response a ∷ more) ∷ [] → CreateSessionAsked request q old e → NamesSession request q e a
  session_named old e says r =
      on_session_asked old e (λ outcome f. silent_session e _ says f refl) request q
      (λ room cause high f. refused_session old e cause says f high)
      (λ room identity few draws r. made_session_named old e says r)
      r

  -- what is heard changes neither
  with_heard : (taken : Effect) (h learned : Option ℕ) → NamesSession request q taken a → NamesSession request q (record taken { out = record taken.out { heard = h; learned = learned } }) a
  with_heard taken h learned n = record { number = n.number; header = n.header; made = n.made; accepted = n.accepted; refused = n.refused }

  -- whatever counter is heard first
  abbrev IsNamed : Effect → Type 0
  IsNamed e = datagrams e.out.sent ≡ (Create_session_response a ∷ more) ∷ [] → NamesSession request q e a

  heard : (old : Node) (o : Option ℕ) (e : Effect) → Hears (CreateSessionAsked request q) old o e → IsNamed e
  heard old =
      on_hears IsNamed (CreateSessionAsked request q) old (λ e r says. session_named old e says r)
      (λ c e r says. session_named (record old { known = Some c }) e says r)
      (λ c e r says. session_named (peer_restarted old c) e says r)
      (λ e outcome gives says. silent_session e _ says gives refl)
      (λ taken heard learned names says. with_heard taken heard learned (names says))

module _ (first : World) (events : List Event) (last : World) (number : ℕ) where
  session_back : (a : CreateSessionResponse) (m : Message) → AnswersRequest first events last number Packet m (Create_session_response a) → AnswersSessionRequest first events last number a
  session_back a (Create_session_request q) b =
      let n = heard _ q a b.issued.more _ q.recovery b.issued.effect b.issued.asked b.issued.says in
      record { request = q; back = b; numbered = n.number; header = n.header; made = n.made; accepted = n.accepted; refused = n.refused }
  session_back a m b = absurd b.issued.asked

  bearer_back : (x : CreateBearerResponse) (m : Message) → AnswersRequest first events last number Serving m (Create_bearer_response x) → AnswersBearerRequest first events last number x
  bearer_back x (Create_bearer_request r) b =
      let n = bearer_named _ r b.issued.effect x b.issued.more b.issued.says _ b.issued.asked in
      record { request = r; back = b; numbered = n.number; returned = n.returned; made = n.made; accepted = n.accepted; refused = n.refused }
  bearer_back x m b = absurd b.issued.asked

-- a datagram that has such a response begins with it
begins_with : (datagram : List Message) (m : Message) → IsFew datagram → Among m datagram → is_create_answer m ≡ true → (more : List Message) × (datagram ≡ m ∷ more)
begins_with [] m few among is = absurd few
begins_with (n ∷ []) m few (inl same) is = ([], ap (λ k. k ∷ []) (sym same))
begins_with (n ∷ []) m few (inr none) is = absurd none
begins_with (n ∷ k ∷ []) m few (inl same) is = (k ∷ [], ap (λ l. l ∷ k ∷ []) (sym same))
begins_with (n ∷ k ∷ []) m few (inr (inl same)) is = absurd (false_true _ (ap is_create_answer (same ∙ few.second)) is)
begins_with (n ∷ k ∷ []) m few (inr (inr none)) is = absurd none
begins_with (n ∷ k ∷ l ∷ rest) m few among is = absurd few

pub each_response : OfEachRun EachResponseAnswers
each_response serving packet sc pc events w r = record {
  sessions = λ number datagram a at has. let k = backed number Packet datagram (Create_session_response a) at has refl in session_back _ events w number a k.request k.back;
  bearers = λ number datagram x at has. let k = backed number Serving datagram (Create_bearer_response x) at has refl in bearer_back _ events w number x k.request k.back;
}
  where
    backed : (number : ℕ) (role : Role) (datagram : List Message) (m : Message)
        → slice_get w.datagrams number ≡ Some (record { role = role; what = datagram }) → Among m datagram → is_create_answer m ≡ true
        → IsBacked (start serving packet sc pc) events w number role m
    backed number role datagram m at has is =
        let few = (always serving packet sc pc events w r).few (record { role = role; what = datagram }) (among_at w.datagrams number _ at) in
        let split = begins_with datagram m few has is in
        (backs_in serving packet sc pc events w r).sent number role m split.0 (at ∙ ap (λ (k : List Message). Some (record { role = role; what = k })) split.1) is

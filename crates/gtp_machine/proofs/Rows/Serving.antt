-- Each step of the serving gateway keeps what it knows.
use Rattle.std.proofs.Common.{◌≡◌, ◌≢◌, ◌⊎◌, inl, inr, ⊎_elim, ℕ, eqb, false, List, [], ◌∷◌, ◌++◌, Option, Some, None, refl, sym, ◌∙◌, ap, subst, arith}
use Rattle.std.proofs.lemmas.Bool.{cases_eq}
use Rattle.std.specs.FinMap.{get, insert, remove}
use Rattle.gtp_values.specs.FiniteMap.{Each, Among}
use Rattle.gtp_machine.specs.Element.{IsAccepting}
use Rattle.gtp_machine.specs.Message.{CreateSessionRequest, CreateSessionResponse, CreateBearerRequest, CreateBearerResponse, DeleteBearerRequest}
use Rattle.gtp_machine.specs.Message.{DeleteBearerResponse, Message, Create_session_request, Create_session_response, Create_bearer_request}
use Rattle.gtp_machine.specs.Message.{Create_bearer_response, Delete_bearer_response, Owns, recovery_of, first_given}
use Rattle.gtp_machine.specs.Node.{Serving, Packet, Pending, Active, Closing, Session, Bearer, PendingRequest, Arrival, Held, Node, holding, written}
use Rattle.gtp_machine.specs.Input.{Came_to, Specification, Begun, Opened, Effect}
use Rattle.gtp_machine.specs.Choice.{IsFree, HasPending, HasSession, counter_of}
use Rattle.gtp_machine.specs.Removal.{without_session}
use Rattle.gtp_machine.specs.Command.{session_request, pending_session, pending_bearer, session_begun, BeginsSession, SessionBegun}
use Rattle.gtp_machine.specs.Answer.{answered}
use Rattle.gtp_machine.specs.Serving.{FitsCreateSession, DescribesSession, opened_session, opened_bearer, OpensSession, CreateSessionAnswered}
use Rattle.gtp_machine.specs.Serving.{bearer_response, granted_bearer, MakesBearer, no_resources, bearer_refused, CreateBearerAsked}
use Rattle.gtp_machine.specs.Serving.{DeleteBearerTaken, DeleteBearerAsked, ServingTakes, delete_bearer_cause}
use Rattle.gtp_machine.specs.World.{Sent, HasSent, signed}
use Rattle.gtp_machine.proofs.Basics.Finishing.{on_session_begun, on_session_answered}
use Rattle.gtp_machine.proofs.Basics.FiniteMaps.{Each-insert, Each-remove, found-remove, get-insert_same, get-insert_other, Among-last, Among-only}
use Rattle.gtp_machine.proofs.Origins.Drawing.{Draws-nothing, Draws-new, one_more_drawn, two_more_drawn, TellsStart, IsProper, by_before, by_now}
use Rattle.gtp_machine.proofs.Origins.Contexts.{IsAsked, IsAtServing, closes-session, closes-bearer}
use Rattle.gtp_machine.proofs.Changes.Shrinking.{Shrunk, Shrunk-itself, Shrunk-without, removes_each}
use Rattle.gtp_machine.proofs.Changes.Matching.{IsMatched, IsMatched-session, IsMatched-bearer}
use Rattle.gtp_machine.proofs.Origins.Entries.{Once, same_request, same_user_request, request_not_answer}
use Rattle.gtp_machine.proofs.Changes.Steps.{IsAnsweredNow, Logs-silent, Logs-plain, at_result, NothingOwns, Logs-made}
use Rattle.gtp_machine.proofs.Changes.After.{IsPending, IsStanding, IsReady, Knows, After, nothing_told, later, held_now, matched_session, matched_bearer, with_new_session}
use Rattle.gtp_machine.proofs.Rows.Common.{unchanged}
use Rattle.gtp_machine.proofs.Rows.Taking.{active_not_closing, Took, took, drops, ends, gives_answer, takes_echo, takes_response, named_written}
use Rattle.gtp_values.proofs.Outcomes.{none_some}
use Rattle.gtp_machine.proofs.Basics.Options.{not_below}
use Rattle.gtp_machine.proofs.Basics.Kinds.{by_serving}
use Rattle.gtp_machine.proofs.Basics.Facts.{one_value, pending_not_active, active_not_pending, pending_active}

module _ (history : List Sent) (taken : Arrival → Message → Type 0) (serving_once : Once history Serving) (packet_once : Once history Packet) (old : Node) (knows : Knows Serving history old) where
  begins : (unowned : NothingOwns history Serving old) (spec : Specification) (e : Effect) → BeginsSession old spec e → After Serving history taken old e
  begins unowned spec e r =
      let q = session_request old spec r.control r.user r.number in
      let p : PendingRequest = record { session = Some r.control; bearer = None; request = Create_session_request q } in
      let m = Create_session_request q in
      let after = history ++ signed Serving (m ∷ []) in
      let was = later Serving history taken old knows (m ∷ []) in
      let now : HasSent after Serving m = by_now history Serving (m ∷ []) m (inl refl) in
      let new_node = record (session_begun old r.control r.user q) { pending = insert old.pending r.number p } in
      at_result (After Serving history taken old) e _ r.gives (record {
        knows = record {
          contexts = record {
            sessions_asked =
                Each-insert (IsAsked after) old.sessions r.control (pending_session q)
                (record { request = q; sent = now; control = refl; subscriber = refl; opened = λ x none. absurd (none_some x none) })
                was.contexts.sessions_asked;
            bearers_asked = Each-insert (IsAtServing after (insert old.sessions r.control (pending_session q))) old.bearers r.user (pending_bearer r.control q)
                (record {
                  session = pending_session q;
                  stands = get-insert_same old.sessions r.control (pending_session q);
                  origin = inl (record { kind = refl; request = q; sent = now; user = refl; control = refl; identity = refl; opened = λ x none. absurd (none_some x none) });
                })
                (with_new_session history Serving old knows _ r.control (pending_session q) r.control_free.undrawn was.contexts.bearers_asked);
          };
          matched = Each-insert (IsMatched (insert old.sessions r.control (pending_session q)) (insert old.bearers r.user (pending_bearer r.control q))) old.pending r.number p
              (record {
                waits = λ k e s stands. waits q k (let same : q ≡ k = cc e in same) s stands;
                numbered = λ k e. let same : q ≡ k = cc e in ap (λ (k : CreateSessionRequest). k.number) (sym same);
                names_bearer = λ b e. absurd (cc e);
                of_session = λ b e. absurd (cc e);
              })
              (matched_bearer history Serving old unowned knows.pending (insert old.sessions r.control (pending_session q)) r.user
              (pending_bearer r.control q) r.user_free
              (matched_session history Serving old unowned knows.pending r.control (pending_session q) r.control_free knows.matched));
          drawn = Each-insert (λ t (s : Session). Among t (r.user ∷ r.control ∷ old.drawn)) old.sessions r.control (pending_session q) (inr (inl refl)) (λ t s e. inr (inr (knows.drawn t s e)));
          standing =
              Each-insert (IsStanding old.known) old.sessions r.control (pending_session q)
              (record { current = λ x none. absurd (none_some x none); blank = λ w. refl; named = λ h. absurd (h refl) }) knows.standing;
          ready = Each-insert IsReady old.bearers r.user (pending_bearer r.control q) (λ a. absurd (pending_not_active a)) knows.ready;
          closed =
              closes-bearer (insert old.sessions r.control (pending_session q)) old.bearers r.user (pending_bearer r.control q)
              (λ s stands closing. not_closing q s stands closing)
              (closes-session old.sessions old.bearers r.control (pending_session q) pending_not_closing knows.closed);
          pending =
              Each-insert (IsPending after Serving) old.pending r.number p (record
              { sent = now; names = λ k e. let same : q ≡ k = cc e in ap (λ (k : CreateSessionRequest). Some k.control.teid) same; asks = refl })
              was.pending;
          held = was.held;
        };
        known = refl;
        told = nothing_told history Packet;
        draws =
            Draws-new history Serving old new_node m refl refl (λ t stood. inr (inr stood))
            (two_more_drawn old.counter r.user r.control old.drawn r.user_free.counted r.control_free.counted)
            (inr (record { free = free; drawn = drawn; told = λ c e. cc e; tells = λ t is owns. refl; proper = r.apart }));
        logs = Logs-plain history Serving taken old new_node (Came_to (Begun (Some r.control))) (λ h stood. stood) _ m tt;
        few = (tt, tt);
      })
    where
      pending_not_closing : Pending ≡ Closing → ⊥
      pending_not_closing e = cc

      not_closing : (q : CreateSessionRequest) (s : Session) → get (insert old.sessions r.control (pending_session q)) r.control ≡ Some s → s.state ≡ Closing → ⊥
      not_closing q s stands closing =
          let is : pending_session q ≡ s = cc (get-insert_same old.sessions r.control (pending_session q), stands) in
          pending_not_closing (ap (λ (k : Session). k.state) is ∙ closing)

      waits : (q k : CreateSessionRequest) → q ≡ k → (s : Session) → get (insert old.sessions q.control.teid (pending_session q)) k.control.teid ≡ Some s → s.state ≡ Pending
      waits q k same s stands =
          let here : get (insert old.sessions q.control.teid (pending_session q)) k.control.teid ≡ Some (pending_session q) =
          ap (λ (k : CreateSessionRequest). get (insert old.sessions q.control.teid (pending_session q)) k.control.teid) (sym same)
          ∙ get-insert_same old.sessions q.control.teid (pending_session q) in
          let is : pending_session q ≡ s = cc (here, stands) in
          ap (λ (k : Session). k.state) (sym is)

      free : (t : ℕ) → (t ≡ r.control) ⊎ (t ≡ r.user) → IsFree old t
      free t (inl is) = subst (IsFree old) (sym is) r.control_free
      free t (inr is) = subst (IsFree old) (sym is) r.user_free

      drawn : (t : ℕ) → (t ≡ r.control) ⊎ (t ≡ r.user) → Among t (r.user ∷ r.control ∷ old.drawn)
      drawn t (inl is) = inr (inl is)
      drawn t (inr is) = inl is

  pub session_begun_here : (unowned : NothingOwns history Serving old) (spec : Specification) (e : Effect) → SessionBegun Serving spec old e → After Serving history taken old e
  session_begun_here unowned spec e r =
      on_session_begun old e
      (λ outcome f. unchanged Serving history taken serving_once packet_once old knows outcome e f)
      Serving spec
      (λ room draws few r. begins unowned spec e r)
      r

  module _ (dated : (m : Message) (t : ℕ) → HasSent history Packet m → TellsStart m → Owns m t → recovery_of m ≡ Some (counter_of t))
      (proper : (m : Message) → HasSent history Packet m → IsProper Packet m) where
    module _ (a : CreateSessionResponse) (came : HasSent history Packet (Create_session_response a))
        (told : (c : ℕ) → a.recovery ≡ Some c → old.known ≡ Some c) (at : HasPending old a.number) (fits : FitsCreateSession at.pending a)
        (accepts : IsAccepting a.cause) (new : DescribesSession old fits.session a) where
      q_sent : HasSent history Serving (Create_session_request fits.request)
      q_sent = subst (λ m. HasSent history Serving m) fits.asked (knows.pending a.number at.pending at.waits).sent

      -- an accepting response names the session in its header
      header : a.header ≡ fits.session
      header = ⊎_elim (λ is. one_value at.pending.session a.header fits.session is fits.about) (λ zero. absurd (not_below zero.1 accepts.high)) fits.named

      control : fits.request.control.teid ≡ fits.session
      control = one_value at.pending.session fits.request.control.teid fits.session ((knows.pending a.number at.pending at.waits).names fits.request fits.asked) fits.about

      -- its pending request says that the session is pending
      session_pending : new.at.session.state ≡ Pending
      session_pending = (knows.matched a.number at.pending at.waits).waits fits.request fits.asked new.at.session (ap (λ k. get old.sessions k) control ∙ new.at.stands)

      abbrev now : Session
      now = opened_session new.at.session a new.address

      at_new : (t : ℕ) → t ≡ fits.session → get (insert old.sessions fits.session now) t ≡ Some now
      at_new t is = ap (λ k. get (insert old.sessions fits.session now) k) is ∙ get-insert_same old.sessions fits.session now

      -- each other bearer of the session is pending
      rest : (t : ℕ) (b : Bearer) (was : IsAtServing (history ++ []) old.sessions t b) → (b.session ≡ fits.session) ⊎ (b.session ≢ fits.session)
          → IsAtServing (history ++ []) (insert old.sessions fits.session now) t b
      rest t b was (inr elsewhere) = record { session = was.session; stands = get-insert_other old.sessions fits.session now b.session elsewhere ∙ was.stands; origin = was.origin }
      rest t b was (inl here) =
          let session : was.session ≡ new.at.session = cc (ap (λ k. get old.sessions k) here, new.at.stands, was.stands) in
          let waits : was.session.state ≡ Pending = ap (λ (k : Session). k.state) session ∙ session_pending in
          record {
            session = now;
            stands = at_new b.session here;
            origin = ⊎_elim
                (λ o. inl (record {
                  kind = o.kind;
                  request = o.request;
                  sent = o.sent;
                  user = o.user;
                  control = o.control;
                  identity = o.identity;
                  opened = λ r e. absurd ((o.opened r e).not_pending waits);
                }))
                (λ g. absurd (g.not_pending waits))
                was.origin;
          }

      rest_bearers : Each (IsAtServing (history ++ []) (insert old.sessions fits.session now)) old.bearers
      rest_bearers t b e = rest t b ((later Serving history taken old knows []).contexts.bearers_asked t b e) (cases_eq b.session fits.session)

      opens : (e : Effect) → OpensSession old a fits.request fits.session new.at.session new.address e → Took Serving history taken old e
      opens e r =
          let after = history ++ signed Serving [] in
          let was = later Serving history taken old knows [] in
          let q = fits.request in
          let asked = was.contexts.sessions_asked fits.session new.at.session new.at.stands in
          let came_after : HasSent after Packet (Create_session_response a) = by_before history Packet Serving [] (Create_session_response a) came in
          let opened : Bearer = opened_bearer r.default.bearer a in
          let new_node : Node = record old { sessions = insert old.sessions fits.session now; bearers = insert old.bearers q.context.user.teid opened; pending = remove old.pending a.number } in
          took Serving history taken old knows e _ r.gives refl (record {
            knows = record {
              contexts = record {
                sessions_asked = Each-insert (IsAsked after) old.sessions fits.session now
                    (record {
                      request = asked.request;
                      sent = asked.sent;
                      control = asked.control;
                      subscriber = asked.subscriber;
                      opened = λ x is. record { answer = a; sent = came_after; header = header; remote = refl; address = sym new.given };
                    })
                    was.contexts.sessions_asked;
                bearers_asked = Each-insert (IsAtServing after (insert old.sessions fits.session now)) old.bearers q.context.user.teid opened (first_bearer came_after) rest_bearers;
              };
              matched = matched;
              drawn = Each-insert (λ t (s : Session). Among t old.drawn) old.sessions fits.session now (knows.drawn fits.session new.at.session new.at.stands) knows.drawn;
              standing =
                  Each-insert (IsStanding old.known) old.sessions fits.session now
                  (record {
                    current = λ x is. told (counter_of x) (dated (Create_session_response a) x came tt (inl is));
                    blank = λ w. absurd (active_not_pending w);
                    named = λ h. (proper (Create_session_response a) came).1.control accepts;
                  })
                  knows.standing;
              ready = Each-insert IsReady old.bearers q.context.user.teid opened (λ active. (proper (Create_session_response a) came).1.user accepts) knows.ready;
              closed =
                  closes-bearer (insert old.sessions fits.session now) old.bearers q.context.user.teid opened not_closing
                  (closes-session old.sessions old.bearers fits.session now (active_not_closing Active refl) knows.closed);
              pending = Each-remove (IsPending after Serving) old.pending a.number was.pending;
              held = was.held;
            };
            known = refl;
            told = nothing_told history Packet;
            draws = Draws-nothing history Serving old new_node refl refl refl;
            logs = Logs-silent history Serving taken old new_node (Came_to Opened) (λ h stood. stood) [];
            few = tt;
          })
        where
          -- no other pending request is for this session
          matched : Each (IsMatched (insert old.sessions fits.session now) (insert old.bearers fits.request.context.user.teid (opened_bearer r.default.bearer a))) (remove old.pending a.number)
          matched number p e =
              let found = found-remove old.pending a.number number p e in
              let was = knows.matched number p found.1 in
              let pending = knows.pending number p found.1 in
              IsMatched-bearer (insert old.sessions fits.session now) old.bearers fits.request.context.user.teid (opened_bearer r.default.bearer a) number p
              (λ b is same. was.of_session b is r.default.bearer (ap (λ k. get old.bearers k) same ∙ r.default.stands))
              (IsMatched-session old.sessions old.bearers fits.session now number p
              (λ q is same.
              let one = same_request history serving_once q fits.request (subst (λ m. HasSent history Serving m) is pending.sent) q_sent (same ∙ sym control) in
              found.0 (sym (was.numbered q is) ∙ ap (λ (k : CreateSessionRequest). k.number) one ∙ (knows.matched a.number at.pending at.waits).numbered fits.request fits.asked))
              was)

          -- its default bearer is of this session
          of_session : r.default.bearer.session ≡ fits.session
          of_session =
              let was = knows.contexts.bearers_asked fits.request.context.user.teid r.default.bearer r.default.stands in
              ⊎_elim
              (λ o. sym o.control ∙ ap (λ (k : CreateSessionRequest). k.control.teid) (same_user_request history serving_once o.request fits.request o.sent q_sent o.user) ∙ control)
              (λ g. absurd (request_not_answer history serving_once fits.request g.answer q_sent g.answered g.user))
              was.origin

          not_closing : (s : Session) → get (insert old.sessions fits.session now) r.default.bearer.session ≡ Some s → s.state ≡ Closing → ⊥
          not_closing s stands closing =
              let is : now ≡ s = cc (at_new r.default.bearer.session of_session, stands) in
              active_not_closing Active refl (ap (λ (k : Session). k.state) is ∙ closing)

          -- its default bearer opens with it
          first_bearer : HasSent (history ++ []) Packet (Create_session_response a)
              → IsAtServing (history ++ []) (insert old.sessions fits.session now) fits.request.context.user.teid (opened_bearer r.default.bearer a)
          first_bearer came_after =
              let was = knows.contexts.bearers_asked fits.request.context.user.teid r.default.bearer r.default.stands in
              ⊎_elim
              (λ o.
              let same : o.request ≡ fits.request = same_user_request history serving_once o.request fits.request o.sent q_sent o.user in
              let session_is : r.default.bearer.session ≡ fits.session = sym o.control ∙ ap (λ (k : CreateSessionRequest). k.control.teid) same ∙ control in
              record {
                session = now;
                stands = at_new r.default.bearer.session session_is;
                origin = inl (record {
                  kind = o.kind;
                  request = o.request;
                  sent = by_before history Serving Serving [] (Create_session_request o.request) o.sent;
                  user = o.user;
                  control = o.control;
                  identity = o.identity;
                  opened = λ x is. record { answer = a; sent = came_after; header = header ∙ sym session_is; control = refl; user = refl; not_pending = active_not_pending };
                });
              })
              (λ g. absurd (request_not_answer history serving_once fits.request g.answer q_sent g.answered g.user))
              was.origin

    create_session_answered : (a : CreateSessionResponse) (e : Effect) → HasSent history Packet (Create_session_response a)
        → ((c : ℕ) → a.recovery ≡ Some c → old.known ≡ Some c) → CreateSessionAnswered a old e → Took Serving history taken old e
    create_session_answered a e came told r =
        on_session_answered old e (λ outcome f. drops Serving history taken old knows outcome e f) a
        (λ at outcome f. ends Serving history taken old knows a.number at.pending outcome e f)
        (λ at fits accepts new both r. opens a came told at fits accepts new e r)
        r

    makes : (unowned : NothingOwns history Serving old) (request : Arrival) (q : CreateBearerRequest) (at : HasSession old q.header) (e : Effect)
        → at.session.state ≡ Active → HasSent history Packet (Create_bearer_request q) → taken request (Create_bearer_request q)
        → MakesBearer request old q at.session e → Took Serving history taken old e
    makes unowned request q at e active came is_taken r =
        let x = bearer_response old q at.session r.user r.identity in
        let m = Create_bearer_response x in
        let after = history ++ signed Serving (m ∷ []) in
        let was = later Serving history taken old knows (m ∷ []) in
        let now : HasSent after Serving m = by_now history Serving (m ∷ []) m (inl refl) in
        let new : Node = record old { drawn = r.user ∷ old.drawn; bearers = insert old.bearers r.user (granted_bearer q r.identity) } in
        let remote = (knows.standing q.header at.session at.stands).named (λ waits. pending_active at.session.state waits active) in
        took Serving history taken old knows e _ r.gives refl (record {
          knows = held_now Serving history taken old knows request (m ∷ []) new tt (record {
            contexts = record {
              sessions_asked = was.contexts.sessions_asked;
              bearers_asked = Each-insert (IsAtServing after old.sessions) old.bearers r.user (granted_bearer q r.identity)
                  (record {
                    session = at.session;
                    stands = at.stands;
                    origin = inr (record {
                      kind = refl;
                      request = q;
                      asked = by_before history Packet Serving (m ∷ []) (Create_bearer_request q) came;
                      remote = refl;
                      to_session = refl;
                      answer = x;
                      answered = now;
                      user = refl;
                      echoed = refl;
                      identity = refl;
                      header = named_written at.session.remote remote.0 remote.1;
                      not_pending = (λ waits. pending_active at.session.state waits active);
                    });
                  })
                  was.contexts.bearers_asked;
            };
            matched = matched_bearer history Serving old unowned knows.pending old.sessions r.user (granted_bearer q r.identity) r.user_free knows.matched;
            drawn = λ t s e. inr (knows.drawn t s e);
            standing = knows.standing;
            ready = Each-insert IsReady old.bearers r.user (granted_bearer q r.identity) (λ a. (q.context.user.teid, refl)) knows.ready;
            closed = closes-bearer old.sessions old.bearers r.user (granted_bearer q r.identity) not_closing knows.closed;
            pending = was.pending;
            held = was.held;
          });
          known = refl;
          told = nothing_told history Packet;
          draws = Draws-new history Serving old (holding request (m ∷ []) new) m refl refl (λ t stood. inr stood) (one_more_drawn old.counter r.user old.drawn r.user_free.counted) (inr (record {
            free = λ t is. subst (IsFree old) (let same : r.user ≡ t = cc is in same) r.user_free;
            drawn = λ t is. inl (let same : t ≡ r.user = cc is in same);
            told = λ c e. cc e;
            tells = λ t none. absurd none;
            proper = (refl, record { user = λ c is low high. (r.user, refl) });
          }));
          logs = Logs-made history Serving taken old request (m ∷ []) 16 new (Create_bearer_request q) refl is_taken refl (λ t p among. cc (Among-only _ m among))
              (answers x (holding request (m ∷ []) new)
              (record {
                request = q;
                sent = came;
                echoed = refl;
                arrival = request;
                came = is_taken;
                session = at.session;
                stands = at.stands;
                held = Among-last {X = Held} (record { request = request; answer = m ∷ [] }) old.held;
              }));
          few = (tt, tt);
        })
      where
        not_closing : (s : Session) → get old.sessions q.header ≡ Some s → s.state ≡ Closing → ⊥
        not_closing s stands closing =
            let is : at.session ≡ s = cc (at.stands, stands) in
            active_not_closing at.session.state active (ap (λ (k : Session). k.state) is ∙ closing)

        answers : (x : CreateBearerResponse) (new : Node) → IsAnsweredNow history old new taken x → (y : CreateBearerResponse) (t : ℕ)
            → Among (Create_bearer_response y) (Create_bearer_response x ∷ []) → first_given y.contexts ≡ Some t
            → HasSent history Serving (Create_bearer_response y) ⊎ IsAnsweredNow history old new taken y
        answers x new here y t (inl is) gives = let same : x ≡ y = cc is in inr (subst (IsAnsweredNow history old new taken) same here)
        answers x new here y t (inr none) gives = absurd none

    -- a refusal of a Create Bearer Request with no bearer context
    refuses : (request : Arrival) (q : CreateBearerRequest) (header cause : ℕ) (e : Effect) → e ≡ bearer_refused request q header cause old → Took Serving history taken old e
    refuses request q header cause e gives = gives_answer Serving history taken old knows request _ cause old e gives (Shrunk-itself old) refl (λ t none. none_some t none) (λ c e. cc e)
        (refl, record { user = λ c is low high. absurd (cc is) })

    lacks : (request : Arrival) (q : CreateBearerRequest) (header : ℕ) (e : Effect)
        → e ≡ answered request (Create_bearer_response (no_resources old q header)) 73 old → Took Serving history taken old e
    lacks request q header e gives = gives_answer Serving history taken old knows request _ 73 old e gives (Shrunk-itself old) refl (λ t none. none_some t none) (λ c e. cc e)
        (refl, record { user = λ c is both all. absurd (omega (arith, both.high)) })

    create_bearer_asked : (unowned : NothingOwns history Serving old) (request : Arrival) (q : CreateBearerRequest) (e : Effect)
        → HasSent history Packet (Create_bearer_request q) → taken request (Create_bearer_request q) → CreateBearerAsked request q old e
        → Took Serving history taken old e
    create_bearer_asked unowned request q e came is (inl f) = drops Serving history taken old knows _ e f.1
    create_bearer_asked unowned request q e came is (inr (room, inl f)) = refuses request q 0 64 e f.1
    create_bearer_asked unowned request q e came is (inr (room, inr (at, inl f))) = drops Serving history taken old knows _ e f.1
    create_bearer_asked unowned request q e came is (inr (room, inr (at, inr (active, inl f)))) = refuses request q (written at.session.remote) 94 e f.1
    create_bearer_asked unowned request q e came is (inr (room, inr (at, inr (active, inr (one, inl f))))) = refuses request q (written at.session.remote) 64 e f.1
    create_bearer_asked unowned request q e came is (inr (room, inr (at, inr (active, inr (one, inr (linked, inl f)))))) = lacks request q (written at.session.remote) e f.1
    create_bearer_asked unowned request q e came is (inr (room, inr (at, inr (active, inr (one, inr (linked, inr (free, r))))))) = makes unowned request q at e active came is r

    -- an answer to a Delete Bearer Request
    says_removed : (request : Arrival) (cause : ℕ) (new : Node) (d : DeleteBearerResponse) (e : Effect)
        → e ≡ answered request (Delete_bearer_response d) cause new → Shrunk old new → ((r : ℕ) → d.recovery ≡ Some r → r ≡ old.counter)
        → Took Serving history taken old e
    says_removed request cause new d e gives s told = gives_answer Serving history taken old knows request (Delete_bearer_response d) cause new e gives s tt (λ t none. none) told tt

    delete_bearer_taken : (request : Arrival) (d : DeleteBearerRequest) (linked : Option ℕ) (s : Session) (e : Effect) → DeleteBearerTaken request d linked old s e → Took Serving history taken old e
    delete_bearer_taken request d (Some identity) s e (inl f) = says_removed request 64 old _ e f.1 (Shrunk-itself old) (λ c e. cc e)
    delete_bearer_taken request d (Some identity) s e (inr (linked, gives)) =
        says_removed request 16 (without_session old d.header) _ e gives (Shrunk-without (λ t. eqb t d.header) (λ t. false) old) (λ c e. cc e)
    delete_bearer_taken request d None s e (inl f) = says_removed request 94 old _ e f.1 (Shrunk-itself old) (λ c e. cc e)
    delete_bearer_taken request d None s e (inr (few, r)) =
        says_removed request (delete_bearer_cause r.contexts) r.left _ e r.gives (removes_each d.header d.identities old r.contexts r.left r.removes)
        (λ c e. cc e)

    delete_bearer_asked : (request : Arrival) (d : DeleteBearerRequest) (e : Effect) → DeleteBearerAsked request d old e → Took Serving history taken old e
    delete_bearer_asked request d e (inl f) = drops Serving history taken old knows _ e f.1
    delete_bearer_asked request d e (inr (room, inl f)) = says_removed request 64 old _ e f.1 (Shrunk-itself old) (λ c e. cc e)
    delete_bearer_asked request d e (inr (room, inr (at, inl f))) = drops Serving history taken old knows _ e f.1
    delete_bearer_asked request d e (inr (room, inr (at, inr (opened, r)))) = delete_bearer_taken request d d.linked at.session e r

    pub serving_taken : (unowned : NothingOwns history Serving old) (request : Arrival) (m : Message) (e : Effect) → HasSent history Packet m → taken request m
        → ((c : ℕ) → recovery_of m ≡ Some c → old.known ≡ Some c) → ServingTakes request m old e → Took Serving history taken old e
    serving_taken unowned request =
        by_serving (λ m. (e : Effect) → HasSent history Packet m → taken request m → ((c : ℕ) → recovery_of m ≡ Some c → old.known ≡ Some c)
        → ServingTakes request m old e → Took Serving history taken old e)
        (λ q e came is told r. takes_echo Serving history taken old knows request q e r)
        (λ a e came is told r. takes_response Serving history taken old knows e r)
        (λ a e came is told r. create_session_answered a e came told r)
        (λ d e came is told r. takes_response Serving history taken old knows e r)
        (λ q e came is told r. create_bearer_asked unowned request q e came is r)
        (λ d e came is told r. delete_bearer_asked request d e r)
        (λ m dropped e came is told r. drops Serving history taken old knows _ e (dropped.only request old e r))

-- Each step of the packet gateway keeps what it knows.
use Rattle.std.proofs.Common.{◌≡◌, ◌⊎◌, inl, inr, ⊎_elim, ℕ, ◌≤◌, eqb, false, List, [], ◌∷◌, ◌++◌, Some, None, refl, sym, ◌∙◌, ap, subst, arith}
use Rattle.std.specs.FinMap.{get, insert, remove}
use Rattle.std.proofs.lemmas.Option.{same_Some}
use Rattle.gtp_values.specs.declared.cause.Cause.{Cause}
use Rattle.gtp_values.specs.declared.qos.Qos.{Qos}
use Rattle.gtp_values.specs.FiniteMap.{FiniteMap, Each, Among}
use Rattle.gtp_machine.specs.Element.{IsAccepting, teid_in}
use Rattle.gtp_machine.specs.Message.{CreateSessionRequest, CreateSessionResponse, DeleteSessionRequest, DeleteSessionResponse, CreateBearerRequest}
use Rattle.gtp_machine.specs.Message.{CreateBearerResponse, Message, Create_session_request, Create_session_response, Delete_session_response}
use Rattle.gtp_machine.specs.Message.{Create_bearer_request, Create_bearer_response, Packet_data, Owns, recovery_of, first_returned}
use Rattle.gtp_machine.specs.Node.{Serving, Packet, Active, Closing, Session, Bearer, PendingRequest, Arrival, Node, holding, written}
use Rattle.gtp_machine.specs.Input.{Came_to, Begun, Opened, Effect}
use Rattle.gtp_machine.specs.Choice.{IsFree, HasPending, counter_of}
use Rattle.gtp_machine.specs.Removal.{without_session}
use Rattle.gtp_machine.specs.Config.{template_asked}
use Rattle.gtp_machine.specs.Command.{bearer_request, create_bearer_asked, pending_dedicated, BeginsBearer, BearerBegun}
use Rattle.gtp_machine.specs.Answer.{answered, making}
use Rattle.gtp_values.proofs.Allocations.{address_back}
use Rattle.gtp_machine.specs.Packet.{session_cause, session_response, made_session, made_bearer, session_made, MakesSession, session_refused}
use Rattle.gtp_machine.specs.Packet.{CreateSessionAsked, DeleteSessionAsked, FitsCreateBearer, DescribesBearer, CanOpen, opened_dedicated}
use Rattle.gtp_machine.specs.Packet.{OpensBearer, CreateBearerAnswered, PacketTakes}
use Rattle.gtp_machine.specs.World.{Sent, HasSent, signed}
use Rattle.gtp_machine.proofs.Basics.Finishing.{on_bearer_begun, on_session_asked, on_bearer_answered}
use Rattle.gtp_machine.proofs.Basics.FiniteMaps.{Each-insert, Each-remove, found-remove, get-insert_same, Among-left, Among-right, Among-cases, Among-only}
use Rattle.gtp_machine.proofs.Origins.Drawing.{Extends, Extends-signed, Draws-nothing, Draws-new, pair_apart, one_more_drawn, two_more_drawn}
use Rattle.gtp_machine.proofs.Origins.Drawing.{TellsStart, IsProper, IsMadeNow, by_before, by_now, by_cases}
use Rattle.gtp_machine.proofs.Origins.Contexts.{IsMade, IsWanted, IsAtPacket, closes-session, closes-bearer}
use Rattle.gtp_machine.proofs.Changes.Shrinking.{Shrunk, Shrunk-itself, Shrunk-without}
use Rattle.gtp_machine.proofs.Changes.Matching.{IsMatched, IsMatched-bearer}
use Rattle.gtp_machine.proofs.Origins.Entries.{Once, answer_not_request}
use Rattle.gtp_machine.proofs.Changes.Steps.{Logs-silent, Logs-plain, at_result, NothingOwns, Logs-made, IsPlain}
use Rattle.gtp_machine.proofs.Changes.After.{IsPending, IsStanding, IsReady, Knows, After, Knows-later, nothing_told, later, held_now, matched_session, matched_bearer, with_new_session}
use Rattle.gtp_machine.proofs.Rows.Common.{unchanged}
use Rattle.gtp_machine.proofs.Rows.Taking.{active_not_closing, Took, took, drops, ends, gives_answer, takes_echo, takes_response}
use Rattle.gtp_values.proofs.Outcomes.{none_some}
use Rattle.gtp_machine.proofs.Basics.Options.{not_below}
use Rattle.gtp_machine.proofs.Basics.Kinds.{by_packet}
use Rattle.gtp_machine.proofs.Basics.Datagrams.{ArePair}
use Rattle.gtp_machine.proofs.Basics.Templates.{IsAdded, goes}
use Rattle.gtp_machine.proofs.Basics.Facts.{one_value, active_not_pending, pending_not_active}

-- a session that stands there and is active is not closing
stands_active : (sessions : FiniteMap Session) (key : ℕ) (at : Session) → get sessions key ≡ Some at → at.state ≡ Active → (s : Session) → get sessions key ≡ Some s → s.state ≡ Closing → ⊥
stands_active sessions key at at_stands active s s_stands closing =
    let is : at ≡ s = cc (at_stands, s_stands) in
    active_not_closing at.state active (ap (λ (k : Session). k.state) is ∙ closing)

-- the request for a bearer that is begun is made now
begun_now : (history : List Sent) (old new : Node) (session : ℕ) (at : Session) (tft : List ℕ) (qos : Qos) (user number : ℕ) → IsFree old user
    → Among user new.drawn → IsMadeNow history Packet old new (Create_bearer_request (bearer_request old at tft qos user number))
begun_now history old new session at tft qos user number free drawn =
    record {
      free = λ t is. subst (IsFree old) (sym is) free;
      drawn = λ t is. subst (λ k. Among k new.drawn) (sym is) drawn;
      told = λ c e. absurd (none_some c e);
      tells = λ t none. absurd none;
      proper = tt;
    }

-- what is known once a bearer was begun and its request was sent
begun_known : (history after : List Sent) → Extends history after → (old : Node) → Knows Packet history old → NothingOwns history Packet old
    → (session : ℕ) (at : Session) (tft : List ℕ) (qos : Qos) (user number : ℕ) → IsFree old user → get old.sessions session ≡ Some at
    → at.state ≡ Active
    → HasSent after Packet (Create_bearer_request (bearer_request old at tft qos user number)) → Knows Packet after (create_bearer_asked old session (bearer_request old at tft qos user number) user)
begun_known history after extends old knows unowned session at tft qos user number free stands active now =
    let q = bearer_request old at tft qos user number in
    let p : PendingRequest = record { session = Some session; bearer = Some user; request = Create_bearer_request q } in
    let was = Knows-later Packet history after extends old knows in
    let made = was.contexts.sessions_made session at stands in
    record {
      contexts = record {
        sessions_made = was.contexts.sessions_made;
        bearers_made = Each-insert (IsAtPacket after old.sessions) old.bearers user (pending_dedicated session)
            (record {
              session = at;
              stands = stands;
              origin =
                  inr
                  (record {
                    kind = refl;
                    request = q;
                    asked = now;
                    user = refl;
                    made = made.answer;
                    answered = made.answered;
                    control = made.control;
                    header = ap written made.remote ∙ sym made.header;
                    opened = λ x none. absurd (none_some x none);
                  });
            })
            was.contexts.bearers_made;
      };
      matched = Each-insert (IsMatched old.sessions (insert old.bearers user (pending_dedicated session))) old.pending number p
          (record {
            waits = λ k e. absurd (cc e);
            numbered = λ k e. absurd (cc e);
            names_bearer = λ k e. let same : q ≡ k = cc e in ap (λ (k : CreateBearerRequest). Some k.context.user.teid) same;
            of_session = of_session q;
          })
          (matched_bearer history Packet old unowned knows.pending old.sessions user (pending_dedicated session) free knows.matched);
      drawn = λ t s e. inr (knows.drawn t s e);
      standing = knows.standing;
      ready = Each-insert IsReady old.bearers user (pending_dedicated session) (λ a. absurd (pending_not_active a)) knows.ready;
      closed = closes-bearer old.sessions old.bearers user (pending_dedicated session) (stands_active old.sessions session at stands active) knows.closed;
      pending = Each-insert (IsPending after Packet) old.pending number p (record { sent = now; names = λ k e. absurd (cc e); asks = refl }) was.pending;
      held = was.held;
    }
  where
    of_session : (q k : CreateBearerRequest) → Create_bearer_request q ≡ Create_bearer_request k → (b : Bearer)
        → get (insert old.bearers q.context.user.teid (pending_dedicated session)) k.context.user.teid ≡ Some b → Some session ≡ Some b.session
    of_session q k e b stands =
        let same : q ≡ k = cc e in
        let here : get (insert old.bearers q.context.user.teid (pending_dedicated session)) k.context.user.teid ≡ Some (pending_dedicated session) =
        ap (λ (k : CreateBearerRequest). get (insert old.bearers q.context.user.teid (pending_dedicated session)) k.context.user.teid) (sym same)
        ∙ get-insert_same old.bearers q.context.user.teid (pending_dedicated session) in
        let is : pending_dedicated session ≡ b = cc (here, stands) in
        ap (λ (k : Bearer). Some k.session) is

module _ (history : List Sent) (taken : Arrival → Message → Type 0) (serving_once : Once history Serving) (packet_once : Once history Packet) (old : Node) (knows : Knows Packet history old) where
  begins : (unowned : NothingOwns history Packet old) (session : ℕ) (at : Session) (tft : List ℕ) (qos : Qos) (e : Effect)
      → get old.sessions session ≡ Some at → at.state ≡ Active → BeginsBearer old session at tft qos e → After Packet history taken old e
  begins unowned session at tft qos e stands active r =
      let q = bearer_request old at tft qos r.user r.number in
      let m = Create_bearer_request q in
      let new_node : Node = create_bearer_asked old session q r.user in
      at_result (After Packet history taken old) e _ r.gives (record {
        knows =
            begun_known history (history ++ signed Packet (m ∷ [])) (Extends-signed history Packet (m ∷ [])) old knows unowned session at tft qos
            r.user r.number r.user_free stands active (by_now history Packet (m ∷ []) m (inl refl));
        known = refl;
        told = nothing_told history Serving;
        draws =
            Draws-new history Packet old new_node m refl refl (λ t stood. inr stood) (one_more_drawn old.counter r.user old.drawn r.user_free.counted)
            (inr (begun_now history old new_node session at tft qos r.user r.number r.user_free (inl refl)));
        logs = Logs-plain history Packet taken old new_node (Came_to (Begun (Some r.user))) (λ h stood. stood) _ m tt;
        few = (tt, tt);
      })

  pub bearer_begun_here : (unowned : NothingOwns history Packet old) (session : ℕ) (tft : List ℕ) (qos : Qos) (e : Effect) → BearerBegun Packet session tft qos old e → After Packet history taken old e
  bearer_begun_here unowned session tft qos e r =
      on_bearer_begun old e (λ outcome f. unchanged Packet history taken serving_once packet_once old knows outcome e f) Packet session tft qos
      (λ at active draws few r. begins unowned session at.session tft qos e at.stands active r)
      r

  module _ (dated : (m : Message) (t : ℕ) → HasSent history Serving m → TellsStart m → Owns m t → recovery_of m ≡ Some (counter_of t))
      (proper : (m : Message) → HasSent history Serving m → IsProper Serving m) where
    module _ (unowned : NothingOwns history Packet old) (request : Arrival) (q : CreateSessionRequest) (e : Effect)
        (came : HasSent history Serving (Create_session_request q)) (is_taken : taken request (Create_session_request q))
        (told : (c : ℕ) → q.recovery ≡ Some c → old.known ≡ Some c) (r : MakesSession request old q e) where
      abbrev answer : CreateSessionResponse
      answer = session_response old q r.control r.user r.address

      abbrev session : Session
      session = made_session q r.address

      abbrev made : Node
      made = session_made old q r.control r.user r.address

      session_stands : get made.sessions r.control ≡ Some session
      session_stands = get-insert_same old.sessions r.control session

      -- what is known once the session was made and its answer was sent
      made_known : (after : List Sent) → Extends history after → HasSent after Packet (Create_session_response answer) → Knows Packet after made
      made_known after extends now =
          let was = Knows-later Packet history after extends old knows in
          let asked = extends.keeps Serving (Create_session_request q) came in
          let b = made_bearer q r.control in
          record {
            contexts = record {
              sessions_made =
                  Each-insert (IsMade after) old.sessions r.control session (record {
                    request = q;
                    asked = asked;
                    answer = answer;
                    answered = now;
                    control = refl;
                    header = refl;
                    remote = refl;
                    subscriber = refl;
                    address = sym (address_back 64 r.address r.given.some_part);
                  }) was.contexts.sessions_made;
              bearers_made = Each-insert (IsAtPacket after (insert old.sessions r.control session)) old.bearers r.user b
                  (record {
                    session = session;
                    stands = session_stands;
                    origin = inl
                        (record {
                          kind = refl;
                          request = q;
                          asked = asked;
                          answer = answer;
                          answered = now;
                          user = refl;
                          control = refl;
                          header = refl;
                          remote = refl;
                          identity = refl;
                        });
                  })
                  (with_new_session history Packet old knows _ r.control session r.control_free.undrawn was.contexts.bearers_made);
            };
            matched =
                matched_bearer history Packet old unowned knows.pending (insert old.sessions r.control session) r.user b r.user_free
                (matched_session history Packet old unowned knows.pending r.control session r.control_free knows.matched);
            drawn = Each-insert (λ t (x : Session). Among t (r.user ∷ r.control ∷ old.drawn)) old.sessions r.control session (inr (inl refl)) (λ t x e. inr (inr (knows.drawn t x e)));
            standing =
                Each-insert (IsStanding old.known) old.sessions r.control session (record {
                  current =
                      λ x is. told (counter_of x) (dated (Create_session_request q) x came tt (inl (let same : x ≡ q.control.teid = cc is in same)));
                  blank = λ w. absurd (active_not_pending w);
                  named = λ h. (q.control.teid, refl);
                }) knows.standing;
            ready = Each-insert IsReady old.bearers r.user b (λ active. (q.context.user.teid, refl)) knows.ready;
            closed =
                closes-bearer (insert old.sessions r.control session) old.bearers r.user b
                (stands_active (insert old.sessions r.control session) r.control session session_stands refl)
                (closes-session old.sessions old.bearers r.control session (active_not_closing Active refl) knows.closed);
            pending = was.pending;
            held = was.held;
          }

      -- the answer owns the two TEIDs that are drawn for the session
      owned : (P : ℕ → Type 0) → P r.control → P r.user → (t : ℕ) → (Some r.control ≡ Some t) ⊎ (Some r.user ≡ Some t) → P t
      owned P control user t (inl is) = subst P (same_Some r.control t is) control
      owned P control user t (inr is) = subst P (same_Some r.user t is) user

      answer_now : (new : Node) → Among r.control new.drawn → Among r.user new.drawn → IsMadeNow history Packet old new (Create_session_response answer)
      answer_now new control user = record {
        free = owned (IsFree old) r.control_free r.user_free;
        drawn = owned (λ t. Among t new.drawn) control user;
        told = λ c e. cc e;
        tells = λ t is owns. refl;
        proper = (
          refl,
          record {
            control = λ accepts. (r.control, refl);
            user = λ accepts. (r.user, refl);
            apart = λ t control user. r.apart (same_Some r.control t control ∙ sym (same_Some r.user t user));
          },
        );
      }

      -- the answer goes alone
      makes_alone : e ≡ making request (Create_session_response answer ∷ []) (session_cause q.pdn r.address) made → Took Packet history taken old e
      makes_alone gives =
          let m = Create_session_response answer in
          took Packet history taken old knows e _ gives refl (record {
            knows =
                held_now Packet history taken old knows request (m ∷ []) made tt
                (made_known (history ++ signed Packet (m ∷ [])) (Extends-signed history Packet (m ∷ [])) (by_now history Packet (m ∷ []) m (inl refl)));
            known = refl;
            told = nothing_told history Serving;
            draws =
                Draws-new history Packet old (holding request (m ∷ []) made) m refl refl (λ t stood. inr (inr stood))
                (two_more_drawn old.counter r.user r.control old.drawn r.user_free.counted r.control_free.counted)
                (inr (answer_now (holding request (m ∷ []) made) (inr (inl refl)) (inl refl)));
            logs = Logs-made history Packet taken old request (m ∷ []) (session_cause q.pdn r.address) made (Create_session_request q) refl is_taken refl
                (λ t p among. absurd (subst IsPlain (sym (Among-only _ m among)) tt))
                (λ y t among gives. absurd (none_some t (sym (subst IsPlain (sym (Among-only _ m among)) tt) ∙ gives)));
            few = (tt, tt);
          })

      -- nothing that was sent, nor the answer, owns what may be drawn once the session was made
      unowned_made : NothingOwns (history ++ signed Packet (Create_session_response answer ∷ [])) Packet made
      unowned_made m t has owns free = ⊎_elim
          (λ was. unowned m t was owns (record { counted = free.counted; numbered = free.numbered; undrawn = λ stood. free.undrawn (inr (inr stood)) }))
          (λ now. owned (λ k. IsFree made k → ⊥) (λ f. f.undrawn (inr (inl refl))) (λ f. f.undrawn (inl refl)) t (subst (λ k. Owns k t) (Among-only m _ now.1) owns) free)
          (by_cases history Packet Packet (Create_session_response answer ∷ []) m has)

      -- it goes with the request of the template's bearer
      module _ (x : IsAdded (template_asked old.config q.access_point) request answer (session_cause q.pdn r.address) r.control session made e) where
        abbrev wanted : CreateBearerRequest
        wanted = bearer_request made session x.template.tft x.template.qos x.adds.user x.adds.number

        abbrev sent_together : List Message
        sent_together = Create_session_response answer ∷ Create_bearer_request wanted ∷ []

        abbrev left : Node
        left = holding request sent_together (create_bearer_asked made r.control wanted x.adds.user)

        pair : ArePair (Create_session_response answer) (Create_bearer_request wanted)
        pair = record { answer = answer; request = wanted; first = refl; second = refl }

        none_shared : (t : ℕ) → Owns (Create_session_response answer) t → Owns (Create_bearer_request wanted) t → ⊥
        none_shared t owns is = owned (λ k. k ≡ x.adds.user → ⊥) (λ same. x.adds.user_free.undrawn (inr (inl (sym same)))) (λ same. x.adds.user_free.undrawn (inl (sym same))) t owns is

        free_before : IsFree old x.adds.user
        free_before = record { counted = x.adds.user_free.counted; numbered = x.adds.user_free.numbered; undrawn = λ stood. x.adds.user_free.undrawn (inr (inr stood)) }

        present : (t : ℕ) → Among t left.drawn → Among t old.drawn ⊎ (counter_of t ≡ old.counter)
        present t (inl is) = inr (ap counter_of is ∙ x.adds.user_free.counted)
        present t (inr others) = two_more_drawn old.counter r.user r.control old.drawn r.user_free.counted r.control_free.counted t others

        each : (m : Message) → Among m sent_together → HasSent history Packet m ⊎ IsMadeNow history Packet old left m
        each m (inl is) = inr (subst (IsMadeNow history Packet old left) (sym is) (answer_now left (inr (inr (inl refl))) (inr (inl refl))))
        each m (inr (inl is)) =
            inr (subst (IsMadeNow history Packet old left) (sym is)
            (record {
              free = λ t is. subst (IsFree old) (sym is) free_before;
              drawn = λ t is. inl is;
              told = λ c e. absurd (none_some c e);
              tells = λ t none. absurd none;
              proper = tt;
            }))
        each m (inr (inr none)) = absurd none

        plain : (m : Message) → Among m sent_together → IsPlain m
        plain m (inl is) = subst IsPlain (sym is) tt
        plain m (inr (inl is)) = subst IsPlain (sym is) tt
        plain m (inr (inr none)) = absurd none

        longer : Extends (history ++ signed Packet (Create_session_response answer ∷ [])) (history ++ signed Packet sent_together)
        longer = record {
          keeps = λ by m has. ⊎_elim
              (λ was. Among-left _ history (signed Packet sent_together) was)
              (λ now. Among-right _ history (signed Packet sent_together) (⊎_elim (λ is. inl is) (λ none. absurd none) now))
              (Among-cases _ history (signed Packet (Create_session_response answer ∷ [])) has);
        }

        makes_both : Took Packet history taken old e
        makes_both =
            let alone = Create_session_response answer ∷ [] in
            took Packet history taken old knows e _ x.adds.gives refl (record {
              knows = held_now Packet history taken old knows request sent_together (create_bearer_asked made r.control wanted x.adds.user) pair
                  (begun_known (history ++ signed Packet alone) (history ++ signed Packet sent_together) longer made
                  (made_known (history ++ signed Packet alone) (Extends-signed history Packet alone)
                  (by_now history Packet alone (Create_session_response answer) (inl refl))) unowned_made r.control session x.template.tft
                  x.template.qos x.adds.user x.adds.number x.adds.user_free session_stands refl
                  (by_now history Packet sent_together (Create_bearer_request wanted) (inr (inl refl))));
              known = refl;
              told = nothing_told history Serving;
              draws =
                  record {
                    config = refl;
                    counter = refl;
                    extends = λ t stood. inr (inr (inr stood));
                    present = present;
                    each = each;
                    one = pair_apart (Create_session_response answer) (Create_bearer_request wanted) pair none_shared;
                  };
              logs =
                  Logs-made history Packet taken old request sent_together (session_cause q.pdn r.address)
                  (create_bearer_asked made r.control wanted x.adds.user) (Create_session_request q) refl is_taken refl
                  (λ t p among. absurd (plain (Packet_data t p) among))
                  (λ y t among gives. absurd (none_some t (sym (plain (Create_bearer_response y) among) ∙ gives)));
              few = (pair, tt);
            })

      makes : Took Packet history taken old e
      makes = ⊎_elim makes_alone makes_both (goes request answer (session_cause q.pdn r.address) r.control session made e (template_asked old.config q.access_point) r.gives)

    refuses : (request : Arrival) (q : CreateSessionRequest) (cause : Cause) (e : Effect) → 64 ≤ cause.value → e ≡ session_refused request q cause old → Took Packet history taken old e
    refuses request q cause e high gives = gives_answer Packet history taken old knows request _ cause.value old e gives (Shrunk-itself old) tt none (λ c e. cc e)
        (refl, record { control = λ accepts. absurd (omega (arith, high, accepts.high)); user = λ accepts. absurd (omega (arith, high, accepts.high)); apart = λ t control user. none_some t control })
      where
        none : (t : ℕ) → (None ≡ Some t) ⊎ (None ≡ Some t) → ⊥
        none t (inl e) = none_some t e
        none t (inr e) = none_some t e

    create_session_asked : (unowned : NothingOwns history Packet old) (request : Arrival) (q : CreateSessionRequest) (e : Effect)
        → HasSent history Serving (Create_session_request q) → taken request (Create_session_request q)
        → ((c : ℕ) → q.recovery ≡ Some c → old.known ≡ Some c) → CreateSessionAsked request q old e → Took Packet history taken old e
    create_session_asked unowned request q e came is told r =
        on_session_asked old e (λ outcome f. drops Packet history taken old knows outcome e f) request q
        (λ room cause high f. refuses request q cause e high f)
        (λ room identity few draws r. makes unowned request q e came is told r)
        r

    -- an answer to a Delete Session Request
    says_deleted : (request : Arrival) (cause : ℕ) (new : Node) (d : DeleteSessionResponse) (e : Effect)
        → e ≡ answered request (Delete_session_response d) cause new → Shrunk old new → ((r : ℕ) → d.recovery ≡ Some r → r ≡ old.counter)
        → Took Packet history taken old e
    says_deleted request cause new d e gives s told = gives_answer Packet history taken old knows request (Delete_session_response d) cause new e gives s tt (λ t none. none) told tt

    delete_session_asked : (request : Arrival) (d : DeleteSessionRequest) (e : Effect) → DeleteSessionAsked request d old e → Took Packet history taken old e
    delete_session_asked request d e (inl f) = drops Packet history taken old knows _ e f.1
    delete_session_asked request d e (inr (room, inl f)) = says_deleted request 64 old _ e f.1 (Shrunk-itself old) (λ c e. cc e)
    delete_session_asked request d e (inr (room, inr (at, inl f))) = says_deleted request 64 old _ e f.1 (Shrunk-itself old) (λ c e. cc e)
    delete_session_asked request d e (inr (room, inr (at, inr (linked, gives)))) =
        says_deleted request 16 (without_session old d.header) _ e gives (Shrunk-without (λ t. eqb t d.header) (λ t. false) old) (λ c e. cc e)

    module _ (x : CreateBearerResponse) (came : HasSent history Serving (Create_bearer_response x)) (at : HasPending old x.number)
        (fits : FitsCreateBearer at.pending x) (accepts : IsAccepting x.cause) (new : DescribesBearer x) (both : IsAccepting new.context.cause)
        (returned : teid_in new.context.packet_user ≡ Some fits.bearer) (can : CanOpen old fits.session new.context.identity) where
      pending : IsPending history Packet x.number at.pending
      pending = knows.pending x.number at.pending at.waits

      matched_now : IsMatched old.sessions old.bearers x.number at.pending
      matched_now = knows.matched x.number at.pending at.waits

      -- the request that it answers is for this bearer
      user_is : fits.request.context.user.teid ≡ fits.bearer
      user_is = one_value at.pending.bearer fits.request.context.user.teid fits.bearer (matched_now.names_bearer fits.request fits.asked) fits.about_bearer

      request_sent : HasSent (history ++ []) Packet (Create_bearer_request fits.request)
      request_sent = by_before history Packet Packet [] (Create_bearer_request fits.request) (subst (λ m. HasSent history Packet m) fits.asked pending.sent)

      later_once : Once (history ++ []) Packet
      later_once m n t m_has n_has = packet_once m n t (before m m_has) (before n n_has)
        where
          before : (m : Message) → HasSent (history ++ []) Packet m → HasSent history Packet m
          before m has = ⊎_elim (λ was. was) (λ now. absurd now.1) (by_cases history Packet Packet [] m has)

      opens : (e : Effect) → OpensBearer old x fits.bearer e → Took Packet history taken old e
      opens e r =
          let after = history ++ signed Packet [] in
          let was = later Packet history taken old knows [] in
          let stood = was.contexts.bearers_made fits.bearer r.at.bearer r.at.stands in
          let opened = opened_dedicated r.at.bearer x in
          let new_node : Node = record old { bearers = insert old.bearers fits.bearer opened; pending = remove old.pending x.number } in
          took Packet history taken old knows e _ r.gives refl (record {
            knows = record {
              contexts = record {
                sessions_made = was.contexts.sessions_made;
                bearers_made = Each-insert (IsAtPacket after old.sessions) old.bearers fits.bearer opened
                    (record {
                      session = stood.session;
                      stands = stood.stands;
                      origin = ⊎_elim (λ o. absurd (answer_not_request (history ++ []) later_once o.answer fits.request o.answered request_sent
                          (o.user ∙ ap (λ k. Some k) (sym user_is)))) (λ w. inr (opened_origin w)) stood.origin;
                    })
                    was.contexts.bearers_made;
              };
              drawn = knows.drawn;
              standing = knows.standing;
              ready = Each-insert IsReady old.bearers fits.bearer opened (λ active. (proper (Create_bearer_response x) came).1.user new.context new.alone accepts both) knows.ready;
              closed = closes-bearer old.sessions old.bearers fits.bearer opened not_closing knows.closed;
              matched = matched;
              pending = Each-remove (IsPending after Packet) old.pending x.number was.pending;
              held = was.held;
            };
            known = refl;
            told = nothing_told history Serving;
            draws = Draws-nothing history Packet old new_node refl refl refl;
            logs = Logs-silent history Packet taken old new_node (Came_to Opened) (λ h stood. stood) [];
            few = tt;
          })
        where
          session_is : x.header ≡ r.at.bearer.session
          session_is =
              ⊎_elim (λ is. one_value at.pending.session x.header r.at.bearer.session is
              (matched_now.of_session fits.request fits.asked r.at.bearer (ap (λ k. get old.bearers k) user_is ∙ r.at.stands)))
              (λ zero. absurd (not_below zero.1 accepts.high)) fits.named

          -- the bearer is of the session that the request is about
          of_session : r.at.bearer.session ≡ fits.session
          of_session =
              one_value at.pending.session r.at.bearer.session fits.session
              (matched_now.of_session fits.request fits.asked r.at.bearer (ap (λ k. get old.bearers k) user_is ∙ r.at.stands)) fits.about

          not_closing : (s : Session) → get old.sessions r.at.bearer.session ≡ Some s → s.state ≡ Closing → ⊥
          not_closing s stands closing =
              let is : can.at.session ≡ s = cc (can.at.stands, ap (λ k. get old.sessions k) (sym of_session) ∙ stands) in
              can.not_closing (ap (λ (k : Session). k.state) is ∙ closing)

          matched : Each (IsMatched old.sessions (insert old.bearers fits.bearer (opened_dedicated r.at.bearer x))) (remove old.pending x.number)
          matched number p e =
              let found = found-remove old.pending x.number number p e in
              let was = knows.matched number p found.1 in
              IsMatched-bearer old.sessions old.bearers fits.bearer (opened_dedicated r.at.bearer x) number p
              (λ b is same. was.of_session b is r.at.bearer (ap (λ k. get old.bearers k) same ∙ r.at.stands)) was

          opened_origin : IsWanted (history ++ []) fits.bearer r.at.bearer → IsWanted (history ++ []) fits.bearer (opened_dedicated r.at.bearer x)
          opened_origin w = record {
            kind = w.kind;
            request = w.request;
            asked = w.asked;
            user = w.user;
            made = w.made;
            answered = w.answered;
            control = w.control;
            header = w.header;
            opened =
                λ t is. record {
                  answer = x;
                  sent = by_before history Serving Packet [] (Create_bearer_response x) came;
                  header = session_is;
                  echoed = ap first_returned new.alone ∙ returned;
                  remote = refl;
                  identity = refl;
                };
          }

    create_bearer_answered : (x : CreateBearerResponse) (e : Effect) → HasSent history Serving (Create_bearer_response x) → CreateBearerAnswered x old e → Took Packet history taken old e
    create_bearer_answered x e came r =
        on_bearer_answered old e (λ outcome f. drops Packet history taken old knows outcome e f) x
        (λ at outcome f. ends Packet history taken old knows x.number at.pending outcome e f)
        (λ at fits accepts new both returned can r. opens x came at fits accepts new both returned can e r)
        r

    pub packet_taken : (unowned : NothingOwns history Packet old) (request : Arrival) (m : Message) (e : Effect) → HasSent history Serving m → taken request m
        → ((c : ℕ) → recovery_of m ≡ Some c → old.known ≡ Some c) → PacketTakes request m old e → Took Packet history taken old e
    packet_taken unowned request =
        by_packet (λ m. (e : Effect) → HasSent history Serving m → taken request m → ((c : ℕ) → recovery_of m ≡ Some c → old.known ≡ Some c)
        → PacketTakes request m old e → Took Packet history taken old e)
        (λ q e came is told r. takes_echo Packet history taken old knows request q e r)
        (λ a e came is told r. takes_response Packet history taken old knows e r)
        (λ q e came is told r. create_session_asked unowned request q e came is told r)
        (λ d e came is told r. delete_session_asked request d e r)
        (λ x e came is told r. create_bearer_answered x e came r)
        (λ d e came is told r. takes_response Packet history taken old knows e r)
        (λ m dropped e came is told r. drops Packet history taken old knows _ e (dropped.only request old e r))

-- The bearer of a template, which is begun with a session, as the machine's row.
use Rattle.std.proofs.Common.{◌≡◌, ◌≢◌, inl, inr, ◌<◌, ◌≤◌, ℕ, Bool, false, List, ◌∷◌, length, Option, Some, refl, sym, ◌∙◌, ap, subst, arith}
use Rattle.std.specs.FinMap.{get, len}
use Rattle.gtp_values.specs.FiniteMap.{FiniteMap, Among, kept}
use Rattle.gtp_reliable.specs.Pending.{AreDistinct, IsNextFree}
use Rattle.gtp_reliable.proofs.Requests.{distinct_filter}
use Rattle.gtp_reliable.specs.Waiting.{Waiting}
use mathlib.Core.Logic.{∥∥₁_elim}
use Rattle.std.specs.Prelude.{not, ◌||◌, All, option_and_then}
use Rattle.gtp_machine.specs.Choice.{IsFree, HasDraws, IsFreeNumber, HasPendingRoom}
use Rattle.gtp_machine.specs.Config as machine
use Rattle.gtp_machine.specs.Config.{template_for, access_point_for, template_asked}
use Rattle.gtp_machine.specs.Input.{Effect}
use Rattle.gtp_machine.specs.Message.{CreateSessionRequest, CreateBearerRequest, Create_bearer_request}
use Rattle.gtp_machine.specs.Node.{PendingRequest, Arrival, Node}
use Rattle.gtp_machine.specs.Removal.{on}
use Rattle.gtp_tables.specs.Contexts.{is_opened}
use Rattle.gtp_machine.specs.Packet.{AnswersWith, session_cause, session_response, made_session, session_made}
use Rattle.gtp_gateway.specs.declared.config.access_points.Template.{Template}
use Rattle.gtp_gateway.specs.declared.receive.restart_counter.Heard.{Heard}
use Rattle.gtp_gateway.specs.declared.receive.restart_counter.Heard.TheVariants as heards
use Rattle.gtp_gateway.specs.declared.command.purpose.Purpose.{Purpose}
use Rattle.gtp_gateway.specs.declared.receive.create_session_request.judge.AddedBearer.{AddedBearer}
use Rattle.gtp_gateway.specs.declared.receive.create_session_request.judge.SessionGrant.{SessionGrant}
use Rattle.gtp_gateway.specs.declared.receive.create_session_request.judge.CreateSessionVerdict.TheVariants.{Granted, GrantedWith}
use Rattle.gtp_gateway.specs.declared.tables.teids.TwoDrawn.{TwoDrawn}
use Rattle.gtp_gateway.specs.tables.Teids.{AreTwoDrawn}
use Rattle.gtp_gateway.specs.receive.CreateSessionRequest.{CanAdd, JudgesAdded, create_session_effect}
use Rattle.gtp_gateway.specs.receive.RestartCounter.{node_heard}
use Rattle.gtp_gateway.specs.Parts.{pending_of, pending_in}
use Rattle.gtp_gateway.specs.Settings.{template_of}
use Rattle.gtp_gateway.specs.tables.Opening.{goes_after, waiting_heard}
use Rattle.gtp_gateway.specs.messages.Spelled.{message_in}
use Rattle.gtp_gateway.specs.GatewayState.{GatewayState, IsSoundState}
use Rattle.gtp_gateway.proofs.Removed.{pending_kept}
use Rattle.gtp_machine.proofs.Determined.Steps.{drawn_before}
use Rattle.gtp_gateway.proofs.Requests.{none_pending, len_pending, small_number, each_found}
use Rattle.gtp_gateway.proofs.UserRows.{all_stay}
use Rattle.gtp_gateway.proofs.RestartCounters.{config_stays, counter_stays, drawn_stays}

-- ---- the requests that wait once the counter was heard

-- they are what the node keeps then
pub pending_heard : (heard : Heard) (n : Node) (waiting : List (Waiting Purpose)) → AreDistinct waiting → n.pending ≡ pending_in waiting
    → (node_heard heard n).pending ≡ pending_in (waiting_heard heard n.sessions waiting)
pending_heard (heards.Later counter) n waiting distinct is =
    let stays : PendingRequest → Bool = λ p. not (on (λ t. is_opened (get n.sessions t)) p.session || on (λ t. false) p.bearer) in
    ap (λ (m : FiniteMap PendingRequest). kept (λ _ p. stays p) m) is ∙ sym (pending_kept stays waiting distinct)
pending_heard heard n waiting distinct is = is ∙ ap pending_in (all_stay waiting)

distinct_heard : (heard : Heard) (sessions : _) (waiting : List (Waiting Purpose)) → AreDistinct waiting → AreDistinct (waiting_heard heard sessions waiting)
distinct_heard heard sessions waiting distinct = distinct_filter (λ (w : Waiting Purpose). not (goes_after heard sessions w.purpose)) waiting distinct

below : (n m : ℕ) → 256 ≤ n → m ≡ n → m < 256 → ⊥
below n m many same few = omega (arith, many, same, few)

-- ---- the last rule

module _ (name : List ℕ) (g : SessionGrant) (heard : Heard) (s : GatewayState) (drawn : AreTwoDrawn g.drawn s.node) where
  left : Node
  left = node_heard heard s.node

  abbrev made : CreateSessionRequest → Node
  made q = session_made (node_heard heard s.node) q g.drawn.control g.drawn.user g.address

  -- the rule by the template of the access point
  abbrev Answers : Arrival → CreateSessionRequest → Option machine.Template → Effect → Type 0
  Answers request q template e =
      AnswersWith template request (session_response (node_heard heard s.node) q g.drawn.control g.drawn.user g.address)
      (session_cause q.pdn g.address) g.drawn.control (made_session q g.address) (made q) e

  by_name : (request : Arrival) (q : CreateSessionRequest) (e : Effect) (template : Option machine.Template)
      → template ≡ template_for name s.node.config.templates → access_point_for s.node.config q.access_point ≡ Some name → Answers request q template e
      → Answers request q (template_asked (node_heard heard s.node).config q.access_point) e
  by_name request q e template is of answers =
      subst (λ (t : Option machine.Template). Answers request q t e)
      (is ∙ ap (option_and_then (λ own. template_for own s.node.config.templates)) (sym of)
      ∙ (λ i. template_asked (sym (config_stays heard s.node) i) q.access_point)) answers

  few_left : HasDraws s.node 3 → (q : CreateSessionRequest) → HasDraws (made q) 1
  few_left has q = record { left = let few = has.left in let same = ap length (drawn_stays heard s.node) in omega (arith, few, same) }

  module _ (template : Template) (is : Some (template_of name template) ≡ template_for name s.node.config.templates) where
    module _ (waiting : List (Waiting Purpose)) (distinct : AreDistinct waiting) (pending : s.node.pending ≡ pending_in waiting) where
      few_wait : (q : CreateSessionRequest) → len (made q).pending ≡ length (waiting_heard heard s.node.sessions waiting)
      few_wait q =
          ap (λ (m : FiniteMap PendingRequest). len m) (pending_heard heard s.node waiting distinct pending)
          ∙ len_pending (waiting_heard heard s.node.sessions waiting) (distinct_heard heard s.node.sessions waiting distinct)

      -- 256 requests wait
      pub added_full : 256 ≤ length (waiting_heard heard s.node.sessions waiting) → JudgesAdded name g heard s (Granted g)
      added_full many = record {
        judged =
            λ request q of.
            by_name request q (create_session_effect request q (Granted g) (node_heard heard s.node)) (Some (template_of name template)) is of
            (inl (λ can. below _ _ many (few_wait q) can.1.few, refl));
        is = λ identity pdn chooses. chooses;
      }

      module _ (a : AddedBearer) (of_template : a.template ≡ template) (can : CanAdd g.drawn a heard s) (queues : s.queues.waiting ≡ waiting) where
        free_number : IsNextFree s.queues.next (waiting_heard heard s.node.sessions waiting) a.seq
        free_number = subst (λ (ws : List (Waiting Purpose)). IsNextFree s.queues.next (waiting_heard heard s.node.sessions ws) a.seq) queues can.number

        few : length (waiting_heard heard s.node.sessions waiting) < 256
        few = subst (λ (ws : List (Waiting Purpose)). length (waiting_heard heard s.node.sessions ws) < 256) queues can.few

        room : (q : CreateSessionRequest) → HasPendingRoom (made q)
        room q = record { few = let less = few in let same = few_wait q in omega (arith, less, same) }

        free_user : (q : CreateSessionRequest) → IsFree (made q) a.drawn.teid
        free_user q = record {
          counted = can.third.free.counted ∙ sym (counter_stays heard s.node);
          numbered = can.third.free.numbered;
          undrawn = λ among. undrawn among;
        }
          where
            undrawn : Among a.drawn.teid (g.drawn.user ∷ g.drawn.control ∷ (node_heard heard s.node).drawn) → ⊥
            undrawn (inl same) = can.third.user_apart same
            undrawn (inr (inl same)) = can.third.control_apart same
            undrawn (inr (inr there)) = can.third.free.undrawn (subst (λ (ts : List ℕ). Among a.drawn.teid ts) (drawn_stays heard s.node) there)

        number_free : (q : CreateSessionRequest) → IsFreeNumber (made q) a.seq
        number_free q = record {
          unused =
              ap (λ (m : FiniteMap PendingRequest). get m a.seq) (pending_heard heard s.node waiting distinct pending)
              ∙ none_pending (waiting_heard heard s.node.sessions waiting) a.seq free_number.free;
          small = small_number s.queues.next (waiting_heard heard s.node.sessions waiting) a.seq free_number;
        }

        -- the bearer is begun
        pub added_some : JudgesAdded name g heard s (GrantedWith g a)
        added_some = record {
          judged =
              λ request q of.
              by_name request q (create_session_effect request q (GrantedWith g a) (node_heard heard s.node)) (Some (template_of name a.template))
              (ap (λ (t : Template). Some (template_of name t)) of_template ∙ is) of (inr (
                (few_left can.third.left q, room q),
                record {
                  user = a.drawn.teid;
                  number = a.seq;
                  user_free = free_user q;
                  number_free = number_free q;
                  gives = refl;
                },
              ));
          is = λ identity pdn chooses. (chooses, can);
        }

-- ---- a new request

-- the request of the template's bearer is none of those that wait
pub new_request : (old : GatewayState) (two : TwoDrawn) (a : AddedBearer) (heard : Heard) → IsSoundState old → CanAdd two a heard old
    → old.node.pending ≡ pending_in old.queues.waiting → (octets : List ℕ) (r : CreateBearerRequest) → r.context.user.teid ≡ a.drawn.teid
    → message_in octets ≡ Create_bearer_request r → All (λ (w : Waiting Purpose). message_in w.octets ≢ message_in octets) old.queues.waiting
new_request old two a heard whole can pending octets r named reads =
    each_found {P = λ w. message_in w.octets ≢ message_in octets} old.queues.waiting can.distinct (λ w found same. ∥∥₁_elim whole (hlevel) (λ sound.
    can.third.free.undrawn (subst (λ (t : ℕ). Among t old.node.drawn) named
    (drawn_before old.role old.node sound w.seq (pending_of w).1 r (ap (λ (k : FiniteMap PendingRequest). get k w.seq) pending ∙ found)
    (same ∙ reads)))))

-- A run in which both gateways come to have sessions and dedicated bearers that name each other, and a packet is accepted.
use Rattle.std.proofs.Common.{◌≡◌, ◌⊎◌, inl, inr, ⊎_elim, ℕ, List, [], ◌∷◌, Option, Some, refl, sym, ◌∙◌, ap, subst, arith}
use Rattle.std.specs.FinMap.{get, insert, remove, empty, get-empty}
use Rattle.std.specs.Ordering.{nat_cmp}
use Rattle.gtp_values.specs.FiniteMap.{Among, FiniteMap}
use Rattle.gtp_machine.specs.Config.{user_end}
use Rattle.gtp_machine.specs.Element.{cause_of, tunnel_end}
use Rattle.gtp_machine.specs.Message.{CreateSessionRequest, CreateSessionResponse, CreateBearerRequest, CreateBearerResponse, Create_session_response}
use Rattle.gtp_machine.specs.Message.{Create_bearer_request, Create_bearer_response, Packet_data, subscriber_of, Message}
use Rattle.gtp_machine.specs.Node.{Serving, Packet, Session, Bearer, PendingRequest, Arrival, Held, Node}
use Rattle.gtp_machine.specs.Input.{Came_to, Specification, Create_session, Create_bearer, Send_user, Commanded, User_message, Opened, Accepted, GoneOut, Entry, Effect, entry_for, nothing, says}
use Rattle.gtp_machine.specs.Choice.{IsFreeIdentity, IsUnused}
use Rattle.gtp_machine.specs.Command.{CommandStep, asks, pending_session, pending_bearer, bearer_request, pending_dedicated}
use Rattle.gtp_machine.specs.Answer.{making, IsNew}
use Rattle.gtp_machine.specs.Serving.{opened_bearer, bearer_response, granted_bearer, CreateBearerAsked}
use Rattle.gtp_machine.specs.Packet.{made_session, made_bearer, opened_dedicated, CanOpen, CreateBearerAnswered}
use Rattle.gtp_machine.specs.User.{UserStep}
use Rattle.gtp_machine.specs.World.{World, Deliver, Happens, Moves, arrival}
use Rattle.gtp_machine.proofs.Worlds.Coming.{after, arrives, ◌⨾◌}
use Rattle.gtp_machine.proofs.Basics.FiniteMaps.{get-insert_same, found-insert, found-empty}
use Rattle.gtp_machine.proofs.Worlds.Beginning as first
use Rattle.gtp_machine.proofs.Worlds.Beginning.{serving_ip, packet_ip, serving_config, packet_config, plain_qos, control, user, none_pending, from_serving, from_packet, heard, w0, only_v4, gives_v4}

-- the exchange for an address of IPv4
abbrev pub spec : Specification
spec = first.spec 1

abbrev pub q : CreateSessionRequest
q = first.q 1 0 only_v4

abbrev pub w1 : World
w1 = first.w1 1 0 only_v4

abbrev pub a : CreateSessionResponse
a = first.a 1 0 only_v4

abbrev pub asked : Arrival
asked = first.asked 1 0 only_v4

abbrev pub w2 : World
w2 = first.w2 1 0 only_v4

abbrev pub at_serving : Session
at_serving = first.at_serving 1 0 only_v4

abbrev pub w3 : World
w3 = first.w3 1 0 only_v4

abbrev pub dedicated : ℕ
dedicated = 16777219

pub dedicated_undrawn : (dedicated ≡ user) ⊎ ((dedicated ≡ control) ⊎ ⊥) → ⊥
dedicated_undrawn (inl e) = omega (arith, e)
dedicated_undrawn (inr (inl e)) = omega (arith, e)
dedicated_undrawn (inr (inr none)) = none

five_not_six : ◌≡◌ {A = Option ℕ} (Some 5) (Some 6) → ⊥
five_not_six e = let same : ◌≡◌ {A = ℕ} 5 6 = cc e in omega (arith, same)

-- create_bearer
abbrev pub at_packet : Session
at_packet = made_session q only_v4

abbrev pub r : CreateBearerRequest
r = bearer_request w3.packet.node at_packet (33 ∷ []) plain_qos dedicated 0

abbrev pub e4 : Effect
e4 =
    asks w3.packet.node 0 (record { session = Some control; bearer = Some dedicated; request = Create_bearer_request r }) (Some dedicated)
    (record w3.packet.node { drawn = dedicated ∷ w3.packet.node.drawn; bearers = insert w3.packet.node.bearers dedicated (pending_dedicated control) })

abbrev pub w4 : World
w4 = after w3 Packet (Commanded (Create_bearer control (33 ∷ []) plain_qos)) e4

-- the Create Bearer Request comes
abbrev pub x : CreateBearerResponse
x = bearer_response w4.serving.node r at_serving dedicated 6

abbrev pub wanted : Arrival
wanted = arrival (packet_config 0).own (Create_bearer_request r)

abbrev pub e5 : Effect
e5 = making wanted (Create_bearer_response x ∷ []) 16 (record w4.serving.node { drawn = dedicated ∷ w4.serving.node.drawn; bearers = insert w4.serving.node.bearers dedicated (granted_bearer r 6) })

abbrev pub w5 : World
w5 = after w4 Serving (from_packet (Create_bearer_request r)) e5

-- the Create Bearer Response comes
abbrev pub at_packet_bearer : Bearer
at_packet_bearer = opened_dedicated (pending_dedicated control) x

abbrev pub awaited : PendingRequest
awaited = record { session = Some control; bearer = Some dedicated; request = Create_bearer_request r }

abbrev pub opens_bearer : Node → Effect
opens_bearer n = record { out = nothing; outcome = Came_to Opened; node = record n { bearers = insert n.bearers dedicated at_packet_bearer; pending = remove n.pending 0 } }

abbrev pub given : Effect
given = opens_bearer w5.packet.node

abbrev pub w6 : World
w6 = after w5 Packet (from_serving (Create_bearer_response x)) (heard given)

-- a packet of one octet is handed in, and comes
abbrev pub entry_with : ℕ → Entry
entry_with octet = entry_for dedicated (octet ∷ []) (subscriber_of q) (Some 6)

abbrev pub sent_with : ℕ → Effect
sent_with octet = record { out = record (says (user_end packet_ip) (Packet_data dedicated (octet ∷ []))) { handed = entry_with octet ∷ [] }; outcome = Came_to GoneOut; node = w6.serving.node }

abbrev pub w7 : World
w7 = after w6 Serving (Commanded (Send_user dedicated (120 ∷ []))) (sent_with 120)

abbrev pub taken_with : ℕ → Effect
taken_with octet = record { out = record nothing { accepted = entry_with octet ∷ [] }; outcome = Came_to Accepted; node = w7.packet.node }

abbrev pub w8 : World
w8 = after w7 Packet (from_serving (Packet_data dedicated (120 ∷ []))) (taken_with 120)

pub step1 : Moves (w0 0) Serving (Commanded (Create_session spec)) w1
step1 = first.step1 1 0 only_v4

pub step2 : Happens w1 (Deliver 0) w2
step2 = first.step2 1 0 only_v4 (gives_v4 [])

pub step3 : Happens w2 (Deliver 1) w3
step3 = first.step3 1 0 only_v4 (gives_v4 [])

pub step4 : Moves w3 Packet (Commanded (Create_bearer control (33 ∷ []) plain_qos)) w4
step4 = record {
  effect = e4;
  step =
      record { session = at_packet; stands = get-insert_same empty control at_packet }
      ⨾ refl
      ⨾ record { left = omega arith }
      ⨾ record { few = none_pending }
      ⨾ record {
        user = dedicated;
        number = 0;
        user_free = record { counted = refl; numbered = omega arith; undrawn = dedicated_undrawn };
        number_free = record { unused = get-empty nat_cmp 0; small = omega arith };
        gives = refl;
      };
  becomes = refl;
}

-- the session at the serving gateway
pub serving_stands : get w4.serving.node.sessions control ≡ Some at_serving
serving_stands = get-insert_same (insert empty control (pending_session q)) control at_serving

free_identity : IsFreeIdentity w4.serving.node control 6
free_identity = record { range = record { low = omega arith; high = omega arith }; unused = unused }
  where
    unused : IsUnused w4.serving.node control 6
    unused t b stands of is = elim (found-insert (insert empty user (pending_bearer control q)) user (opened_bearer (pending_bearer control q) a) t b stands) [
      | inl same ↦ five_not_six (ap (λ (k : Bearer). k.identity) same.1 ∙ is)
      | inr old ↦ elim (found-insert empty user (pending_bearer control q) t b old.1) [
        | inl same ↦ five_not_six (ap (λ (k : Bearer). k.identity) same.1 ∙ is)
        | inr older ↦ found-empty t b older.1
      ]
    ]

-- the request is granted
pub bearer_granted : CreateBearerAsked wanted r w4.serving.node e5
bearer_granted =
    record { few = omega arith }
    ⨾ record { session = at_serving; stands = serving_stands }
    ⨾ refl
    ⨾ refl
    ⨾ refl
    ⨾ (record { identity = 6; free = free_identity }, record { left = omega arith })
    ⨾ record {
      user = dedicated;
      identity = 6;
      user_free = record { counted = refl; numbered = omega arith; undrawn = dedicated_undrawn };
      identity_free = free_identity;
      gives = refl;
    }

pub step5 : Happens w4 (Deliver 2) w5
step5 = arrives w4 Packet (Create_bearer_request r) e5 2 refl (λ none. none) (refl ⨾ inr (λ held none. absurd none, refl ⨾ bearer_granted))

-- the type of a control message
abbrev pub second : List ℕ → ℕ
second (first ∷ kind ∷ rest) = kind
second octets = 0

-- where one answer is held, for a request of another type, the request is new
pub new_of_type : (n : Node) (h : Held) (request : Arrival) → n.held ≡ h ∷ [] → (second h.request.octets ≡ second request.octets → ⊥) → IsNew n request
new_of_type n h request only apart held stands same = ⊎_elim
    (λ is. apart (ap second (ap (λ (k : Held). k.request.octets) (sym is) ∙ ap (λ (k : Arrival). k.octets) same)))
    (λ none. absurd none)
    (subst (λ hs. Among held hs) only stands)

-- the answer to the Create Session Request alone is held, and the Create Bearer Response is new
pub new_beside : (n : Node) (answer : List Message) → n.held ≡ record { request = asked; answer = answer } ∷ [] → IsNew n (arrival serving_config.own (Create_bearer_response x))
new_beside n answer only = new_of_type n _ _ only (λ e. let kind : ◌≡◌ {A = ℕ} 32 96 = e in omega (arith, kind))

-- a node with the new session, its bearer and the dedicated one, which waits for the response
module _ (n : Node) (sessions : n.sessions ≡ insert empty control at_packet) (bearers : n.bearers ≡ insert (insert empty user (made_bearer q control)) dedicated (pending_dedicated control)) where
  can_open : CanOpen n control 6
  can_open = record {
    range = record { low = omega arith; high = omega arith };
    unused = unused;
    at = record { session = at_packet; stands = ap (λ (ss : FiniteMap Session). get ss control) sessions ∙ get-insert_same empty control at_packet };
    not_closing = λ e. cc e;
  }
    where
      unused : IsUnused n control 6
      unused t b stands of is =
          elim (found-insert (insert empty user (made_bearer q control)) dedicated (pending_dedicated control) t b
          (ap (λ (bs : FiniteMap Bearer). get bs t) (sym bearers) ∙ stands)) [
            | inl same ↦ cc (ap (λ (k : Bearer). k.identity) same.1 ∙ is)
            | inr old ↦ elim (found-insert empty user (made_bearer q control) t b old.1) [
              | inl same ↦ five_not_six (ap (λ (k : Bearer). k.identity) same.1 ∙ is)
              | inr older ↦ found-empty t b older.1
            ]
          ]

  pub bearer_answered : get n.pending 0 ≡ Some awaited → CreateBearerAnswered x n (opens_bearer n)
  bearer_answered waits =
      record { pending = awaited; waits = waits }
      ⨾ record { request = r; asked = refl; session = control; about = refl; bearer = dedicated; about_bearer = refl; named = inl refl }
      ⨾ record { low = omega arith; high = omega arith }
      ⨾ record { context = record { identity = 6; cause = cause_of 16; serving_user = Some (tunnel_end 4 dedicated serving_ip); packet_user = Some r.context.user }; alone = refl }
      ⨾ record { low = omega arith; high = omega arith }
      ⨾ refl
      ⨾ can_open
      ⨾ record {
        at =
            record {
              bearer = pending_dedicated control;
              stands = ap (λ (bs : FiniteMap Bearer). get bs dedicated) bearers
                  ∙ get-insert_same (insert empty user (made_bearer q control)) dedicated (pending_dedicated control);
            };
        gives = refl;
      }

pub step6 : Happens w5 (Deliver 3) w6
step6 =
    arrives w5 Serving (Create_bearer_response x) (heard given) 3 refl (λ none. none)
    (refl ⨾ inr (new_beside w5.packet.node (Create_session_response a ∷ []) refl, refl ⨾ (given, bearer_answered w5.packet.node refl refl (get-insert_same empty 0 awaited), refl)))

-- a packet is sent on the dedicated bearer, and is taken
pub sends_with : (octet : ℕ) → CommandStep Serving (Send_user dedicated (octet ∷ [])) w6.serving.node (sent_with octet)
sends_with octet =
    record { bearer = granted_bearer r 6; stands = get-insert_same w4.serving.node.bearers dedicated (granted_bearer r 6) }
    ⨾ refl
    ⨾ tt
    ⨾ omega arith
    ⨾ record { of = record { session = at_serving; stands = serving_stands }; gives = refl }

pub takes_with : (octet : ℕ) → UserStep Packet (user_end serving_ip) (User_message (Packet_data dedicated (octet ∷ []))) w7.packet.node (taken_with octet)
takes_with octet =
    refl
    ⨾ record { bearer = at_packet_bearer; stands = get-insert_same w5.packet.node.bearers dedicated at_packet_bearer }
    ⨾ refl
    ⨾ tt
    ⨾ record { of = record { session = at_packet; stands = get-insert_same empty control at_packet }; gives = refl }

pub step7 : Moves w6 Serving (Commanded (Send_user dedicated (120 ∷ []))) w7
step7 = record { effect = sent_with 120; step = sends_with 120; becomes = refl }

pub step8 : Happens w7 (Deliver 4) w8
step8 = arrives w7 Serving (Packet_data dedicated (120 ∷ [])) (taken_with 120) 4 refl (λ none. none) (takes_with 120)

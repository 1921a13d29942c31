-- A run in which both gateways come to have the bearer of a template: its request comes with the answer that makes the session.
use Rattle.std.proofs.Common.{inl, inr, List, [], ◌∷◌, Some, refl, arith}
use Rattle.std.specs.FinMap.{empty, get-empty}
use Rattle.std.specs.Ordering.{nat_cmp}
use Rattle.gtp_machine.specs.Config.{Template, Config}
use Rattle.gtp_machine.specs.Message.{Create_session_request, Create_session_response, Create_bearer_request, Create_bearer_response, Message}
use Rattle.gtp_machine.specs.Node.{Serving, Packet, Node}
use Rattle.gtp_machine.specs.Input.{Create_session, Commanded, Repeated, Effect, says_all}
use Rattle.gtp_machine.specs.Command.{create_bearer_asked}
use Rattle.gtp_machine.specs.Answer.{making}
use Rattle.gtp_machine.specs.Serving.{granted_bearer}
use Rattle.gtp_machine.specs.Packet.{session_made, AnswersWith}
use Rattle.gtp_machine.specs.World.{World, Deliver, Happens, Moves, Delivers, logged, noted, moved, note_of, note_of_both, first_came, second_came, Came_to, start}
use Rattle.gtp_machine.specs.Laws.{ATemplateIsPossible}
use Rattle.gtp_machine.proofs.Basics.FiniteMaps.{get-insert_same}
use Rattle.gtp_machine.proofs.Basics.Facts.{◌⊗◌}
use Rattle.gtp_machine.proofs.Worlds.Coming.{after, arrives, ◌⨾◌}
use Rattle.gtp_machine.proofs.Worlds.Beginning as first
use Rattle.gtp_machine.proofs.Worlds.Beginning.{serving_config, packet_config, plain_qos, control, user, none_pending, from_serving, heard, only_v4}
use Rattle.gtp_machine.proofs.Worlds.Possible as exchange
use Rattle.gtp_machine.proofs.Worlds.Possible.{spec, q, a, asked, at_packet, at_serving, r, x, e5 as grants, dedicated, dedicated_undrawn}
use Rattle.gtp_machine.proofs.Worlds.Sendable.{session_request as request_sendable, session_response as response_sendable}
use Rattle.gtp_machine.proofs.Worlds.Sendable.{bearer_request as wanted_sendable, bearer_response as granted_sendable, AllSendable, among_sendable}

-- the packet gateway has a template for its access point
abbrev template : Template
template = record { access_point = 1 ∷ 97 ∷ []; tft = 33 ∷ []; qos = plain_qos }

abbrev there : Config
there = record (packet_config 0) { templates = template ∷ [] }

abbrev w0 : World
w0 = start serving_config there 1 1

-- create_session
abbrev w1 : World
w1 = after w0 Serving (Commanded (Create_session spec)) (first.e1 1 0 only_v4)

-- the Create Session Request comes
abbrev packet_heard : Node
packet_heard = record w1.packet.node { known = Some 1 }

abbrev made : Node
made = session_made packet_heard q control user only_v4

abbrev both : List Message
both = Create_session_response a ∷ Create_bearer_request r ∷ []

abbrev e2 : Effect
e2 = making asked both 16 (create_bearer_asked made control r dedicated)

abbrev w2 : World
w2 = after w1 Packet (from_serving (Create_session_request q)) (heard e2)

-- the answer and the request for the bearer come
abbrev opens : Effect
opens = first.opened 1 0 only_v4

abbrev w3 : World
w3 =
    logged (noted (moved (moved w2 Serving (heard opens)) Serving grants) (note_of_both (heard opens) grants)) Serving
    (record { before = w2.serving.node; input = first_came there.own (Create_session_response a); effect = heard opens } ∷ record
    { before = opens.node; input = second_came there.own (Create_bearer_request r); effect = grants } ∷ [])

-- the Create Bearer Response comes
abbrev given : Effect
given = exchange.opens_bearer w3.packet.node

abbrev w4 : World
w4 = after w3 Packet (from_serving (Create_bearer_response x)) (heard given)

-- the Create Session Request comes again
abbrev repeats : Effect
repeats = record { out = says_all asked.source both; outcome = Came_to Repeated; node = w4.packet.node }

abbrev w5 : World
w5 = after w4 Packet (from_serving (Create_session_request q)) repeats

-- ---- the steps

step1 : Moves w0 Serving (Commanded (Create_session spec)) w1
step1 = record { effect = _; step = first.session_asked 1 0 only_v4; becomes = refl }

-- the request of the template's bearer goes with the answer
added : AnswersWith (Some template) asked a 16 control at_packet made e2
added =
    (record { left = omega arith }, record { few = none_pending })
    ⨾ record {
      user = dedicated;
      number = 0;
      user_free = record { counted = refl; numbered = omega arith; undrawn = dedicated_undrawn };
      number_free = record { unused = get-empty nat_cmp 0; small = omega arith };
      gives = refl;
    }

step2 : Happens w1 (Deliver 0) w2
step2 =
    arrives w1 Serving (Create_session_request q) (heard e2) 0 refl (λ none. none)
    (refl ⨾ inr (λ held none. absurd none, refl ⨾ (e2, first.session_granted 1 0 only_v4 (template ∷ []) e2 (first.gives_v4 (template ∷ [])) added, refl)))

step3 : Delivers w2 Packet both w3
step3 = inl (
  λ none. none,
  record { by = refl; peer = refl; answer = a; asked = r; is = refl }
      ⨾ record {
        effect = heard opens;
        step = refl ⨾ inr (λ held none. absurd none, refl ⨾ (opens, first.session_answered 1 0 only_v4 (first.gives_v4 []), refl));
        next = grants;
        follows = refl ⨾ inr (λ held none. absurd none, refl ⨾ exchange.bearer_granted);
        becomes = refl;
      },
)

step4 : Happens w3 (Deliver 2) w4
step4 =
    arrives w3 Serving (Create_bearer_response x) (heard given) 2 refl (λ none. none)
    (refl ⨾ inr (exchange.new_beside w3.packet.node both refl, refl ⨾ (given, exchange.bearer_answered w3.packet.node refl refl (get-insert_same empty 0 exchange.awaited), refl)))

step5 : Happens w4 (Deliver 0) w5
step5 =
    arrives w4 Serving (Create_session_request q) repeats 0 refl (λ none. none)
    (refl ⨾ inl (record { held = record { request = asked; answer = both }; stands = inl refl; same = refl; gives = refl }))

all : AllSendable w5.history
all =
    request_sendable 1 0 only_v4 (omega arith) (first.gives_v4 [])
    ⊗ response_sendable 1 0 only_v4 (omega arith) (first.gives_v4 [])
    ⊗ wanted_sendable
    ⊗ granted_sendable
    ⊗ response_sendable 1 0 only_v4 (omega arith) (first.gives_v4 [])
    ⊗ wanted_sendable
    ⊗ tt

pub a_template_is_possible : ATemplateIsPossible
a_template_is_possible = record {
  serving = serving_config;
  packet = there;
  spec = spec;
  opened = w3;
  run = (w1, step1, (w2, step2, (w3, inr (record { sent = _; is = refl }, step3), refl)));
  answer = a;
  request = r;
  together = refl;
  note = note_of_both (heard opens) grants;
  before = _;
  notes = refl;
  first = refl;
  second = refl;
  world = w4;
  agrees = step4;
  session = control;
  session_there = control;
  at_serving = at_serving;
  at_packet = at_packet;
  sessions = record { serving = exchange.serving_stands; packet = get-insert_same empty control at_packet; serving_active = refl; packet_active = refl; there = refl; back = refl };
  bearer = dedicated;
  bearer_there = dedicated;
  bearer_at_serving = granted_bearer r 6;
  bearer_at_packet = exchange.at_packet_bearer;
  bearers =
      record {
        serving = get-insert_same opens.node.bearers dedicated (granted_bearer r 6);
        packet = get-insert_same w3.packet.node.bearers dedicated exchange.at_packet_bearer;
        serving_active = refl;
        packet_active = refl;
        there = refl;
        back = refl;
      };
  dedicated = refl;
  of_session = refl;
  of_session_there = refl;
  again = w5;
  repeats = record {
    number = 0;
    comes = step5;
    note = note_of (Came_to Repeated) repeats.out;
    notes = refl;
    repeated = refl;
    answer = record { role = Packet; what = both };
    sent = refl;
    held = inr (inl refl);
  };
  whole = refl;
  on_time = refl;
  sendable = among_sendable w5.history all;
}

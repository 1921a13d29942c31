-- The exchange that makes a session, from a start, for a type of which an address can be had.
use Rattle.std.proofs.Common.{◌≢◌, ◌<◌, inl, inr, ℕ, List, [], ◌∷◌, Some, None, false, refl, sym, subst, arith}
use Rattle.std.proofs.Math.ListN.{replicate}
use Rattle.std.specs.FinMap.{insert, remove, empty, get-empty, len, len-empty}
use Rattle.std.specs.Ordering.{nat_cmp}
use Rattle.gtp_values.specs.declared.address.Ip.{Ip}
use Rattle.gtp_values.specs.declared.address.Ip.TheVariants.{V4}
use Rattle.gtp_values.specs.declared.qos.Qos.{Qos}
use Rattle.gtp_values.specs.declared.qos.Rates.{Rates}
use Rattle.gtp_values.proofs.Allocations.{address_back}
use Rattle.gtp_tables.specs.declared.pool.IpVersion.TheVariants.{V4 as Version_4, V6 as Version_6}
use Rattle.gtp_tables.specs.Free.{address_at}
use Rattle.gtp_tables.specs.Pool.{no_prefixes}
use Rattle.gtp_machine.specs.Config.{Template, Config, template_for, no_switches}
use Rattle.gtp_machine.specs.Element.{PdnAddress, cause_of, tunnel_end}
use Rattle.gtp_machine.specs.Message.{Message, plane_of, CreateSessionRequest, CreateSessionResponse, Create_session_request, Create_session_response}
use Rattle.gtp_machine.specs.Node.{Serving, Packet, Session, PendingRequest, Arrival, Node, fresh_node}
use Rattle.gtp_machine.specs.Input.{Input, Specification, Create_session, Commanded, Opened, Effect, nothing}
use Rattle.gtp_machine.specs.Choice.{IsFreeAddress, HasFreeAddress, IsGiven}
use Rattle.gtp_machine.specs.Command.{CommandStep, asks, session_request, session_begun, pending_session, pending_bearer}
use Rattle.gtp_machine.specs.Answer.{making}
use Rattle.gtp_machine.specs.Serving.{opened_session, opened_bearer, CreateSessionAnswered}
use Rattle.gtp_machine.specs.Packet.{session_cause, session_response, made_session, session_made, AnswersWith, CreateSessionAsked}
use Rattle.gtp_machine.specs.World.{delivered_on, World, Deliver, Happens, Moves, Came_to, start, arrival}
use Rattle.gtp_machine.proofs.Basics.Facts.{false_true}
use Rattle.gtp_machine.proofs.Worlds.Coming.{after, arrives, ◌⨾◌}
use Rattle.gtp_machine.proofs.Exchange.Nodes.{can_be_had, served}
use Rattle.gtp_machine.proofs.Exchange.Made.{accepts_cause}
use Rattle.gtp_machine.proofs.Basics.FiniteMaps.{get-insert_same, found-empty}

abbrev pub serving_ip : Ip
serving_ip = V4 (10 ∷ 0 ∷ 0 ∷ 1 ∷ [])

abbrev pub packet_ip : Ip
packet_ip = V4 (10 ∷ 0 ∷ 0 ∷ 2 ∷ [])

abbrev pub serving_config : Config
serving_config =
    record {
      own = record { control = serving_ip; user = serving_ip };
      peer = record { control = packet_ip; user = packet_ip };
      access_points = [];
      switches = no_switches;
      pools = record { v4 = record { start = 0; count = 0 }; v6 = no_prefixes };
      templates = [];
    }

-- a packet gateway with one address of version 4, and so many of version 6
abbrev pub packet_config : ℕ → Config
packet_config count =
    record {
      own = record { control = packet_ip; user = packet_ip };
      peer = record { control = serving_ip; user = serving_ip };
      access_points = (1 ∷ 97 ∷ []) ∷ [];
      switches = no_switches;
      pools = record { v4 = record { start = 7; count = 1 }; v6 = record { start = replicate 16 0; count = count } };
      templates = [];
    }

-- its addresses
abbrev pub first_v4 : List ℕ
first_v4 = address_at (packet_config 1).pools Version_4 0

abbrev pub first_v6 : List ℕ
first_v6 = address_at (packet_config 1).pools Version_6 0

abbrev pub only_v4 : PdnAddress
only_v4 = record { v4 = Some first_v4; v6 = None }

abbrev pub only_v6 : PdnAddress
only_v6 = record { v4 = None; v6 = Some first_v6 }

abbrev pub both_versions : PdnAddress
both_versions = record { v4 = Some first_v4; v6 = Some first_v6 }

abbrev pub no_rates : Rates
no_rates = record { up = 0; down = 0 }

abbrev pub plain_qos : Qos
plain_qos = record { pci = false; pl = 8; pvi = false; qci = 9; mbr = no_rates; gbr = no_rates }

abbrev pub control : ℕ
control = 16777217

abbrev pub user : ℕ
user = 16777218

pub no_sessions : len (empty {X = Session} {R = nat_cmp}) < 1000
no_sessions = subst (λ k. k < 1000) (sym (len-empty nat_cmp Session)) (omega arith)

pub none_pending : len (empty {X = PendingRequest} {R = nat_cmp}) < 256
none_pending = subst (λ k. k < 256) (sym (len-empty nat_cmp PendingRequest)) (omega arith)

pub control_not_user : control ≢ user
control_not_user e = omega arith

-- a message as it comes from the serving gateway, and from the packet gateway
abbrev pub from_serving : Message → Input
from_serving m = delivered_on (plane_of m) serving_config.own (m ∷ [])

abbrev pub from_packet : Message → Input
from_packet m = delivered_on (plane_of m) (packet_config 0).own (m ∷ [])

-- an effect, once the first counter was heard, and once the same was heard again
abbrev pub heard : Effect → Effect
heard e = record e { out = record e.out { heard = Some 1; learned = None } }

abbrev pub w0 : ℕ → World
w0 count = start serving_config (packet_config count) 1 1

-- a packet gateway with these templates after a start, once it has heard the other's counter
abbrev pub at_start : ℕ → List Template → Node
at_start count templates = record (fresh_node (record (packet_config count) { templates = templates }) 1) { known = Some 1 }

-- what is given for each type: type 3 has both parts, or that of version 4 where there is no other
free_v4 : (count : ℕ) (templates : List Template) → IsFreeAddress (at_start count templates) Version_4 first_v4
free_v4 count templates = record { place = 0; in_pool = omega arith; is = refl; unused = λ t s e. absurd (found-empty t s e) }

free_v6 : IsFreeAddress (at_start 1 []) Version_6 first_v6
free_v6 = record { place = 0; in_pool = omega arith; is = refl; unused = λ t s e. absurd (found-empty t s e) }

no_v6 : HasFreeAddress (at_start 0 []) Version_6 → ⊥
no_v6 has = omega (arith, has.free.in_pool)

pub gives_v4 : (templates : List Template) → IsGiven (at_start 0 templates) 1 only_v4
gives_v4 templates = record { v4 = (refl, free_v4 0 templates); v6 = λ h. false_true _ refl h.0; some_part = refl }

pub gives_v6 : IsGiven (at_start 1 []) 2 only_v6
gives_v6 = record { v4 = λ h. false_true _ refl h.0; v6 = (refl, free_v6); some_part = refl }

pub gives_both : IsGiven (at_start 1 []) 3 both_versions
gives_both = record { v4 = (refl, free_v4 1 []); v6 = (refl, free_v6); some_part = refl }

pub gives_one_of_both : IsGiven (at_start 0 []) 3 only_v4
gives_one_of_both = record { v4 = (refl, free_v4 0 []); v6 = λ h. no_v6 h.1; some_part = refl }

abbrev pub spec : ℕ → Specification
spec pdn =
    record {
      subscriber = record { imsi = 0 ∷ 0 ∷ 1 ∷ 0 ∷ 1 ∷ 1 ∷ []; access_point = 1 ∷ 97 ∷ []; identity = 5 };
      rat = 6;
      network = record { mcc = 0 ∷ 0 ∷ 1 ∷ []; mnc = 0 ∷ 1 ∷ [] };
      selection = 0;
      pdn = pdn;
      ambr = record { up = 1000; down = 1000 };
      qos = plain_qos;
    }

module _ (pdn count : ℕ) (address : PdnAddress) where
  -- create_session
  abbrev pub q : CreateSessionRequest
  q = session_request (w0 count).serving.node (spec pdn) control user 0

  abbrev pub e1 : Effect
  e1 = asks (w0 count).serving.node 0 (record { session = Some control; bearer = None; request = Create_session_request q }) (Some control) (session_begun (w0 count).serving.node control user q)

  abbrev pub w1 : World
  w1 = after (w0 count) Serving (Commanded (Create_session (spec pdn))) e1

  -- the Create Session Request comes
  abbrev pub packet_heard : Node
  packet_heard = record w1.packet.node { known = Some 1 }

  abbrev pub a : CreateSessionResponse
  a = session_response packet_heard q control user address

  abbrev pub asked : Arrival
  asked = arrival serving_config.own (Create_session_request q)

  abbrev pub made : Effect
  made = making asked (Create_session_response a ∷ []) (session_cause pdn address) (session_made packet_heard q control user address)

  abbrev pub w2 : World
  w2 = after w1 Packet (from_serving (Create_session_request q)) (heard made)

  -- the Create Session Response comes
  abbrev pub serving_heard : Node
  serving_heard = record w2.serving.node { known = Some 1 }

  abbrev pub at_serving : Session
  at_serving = opened_session (pending_session q) a address

  abbrev pub opened : Effect
  opened =
      record {
        out = nothing;
        outcome = Came_to Opened;
        node = record serving_heard {
          sessions = insert serving_heard.sessions control at_serving;
          bearers = insert serving_heard.bearers user (opened_bearer (pending_bearer control q) a);
          pending = remove serving_heard.pending 0;
        };
      }

  abbrev pub w3 : World
  w3 = after w2 Serving (from_packet (Create_session_response a)) (heard opened)

  pub session_asked : CommandStep Serving (Create_session (spec pdn)) (w0 count).serving.node e1
  session_asked =
      record { few = no_sessions }
      ⨾ record { left = omega arith }
      ⨾ record { few = none_pending }
      ⨾ record {
        control = control;
        user = user;
        number = 0;
        control_free = record { counted = refl; numbered = omega arith; undrawn = λ none. none };
        user_free = record { counted = refl; numbered = omega arith; undrawn = λ none. none };
        apart = control_not_user;
        number_free = record { unused = get-empty nat_cmp 0; small = omega arith };
        gives = refl;
      }

  pub step1 : Moves (w0 count) Serving (Commanded (Create_session (spec pdn))) w1
  step1 = record { effect = e1; step = session_asked; becomes = refl }

  -- a packet gateway makes the session, whatever its templates
  abbrev GrantsWith : List Template → Effect → Type 0
  GrantsWith templates e =
      AnswersWith (template_for q.access_point templates) asked a (session_cause pdn address) control (made_session q address)
      (session_made (at_start count templates) q control user address) e

  pub session_granted : (templates : List Template) (e : Effect) → IsGiven (at_start count templates) pdn address → GrantsWith templates e → CreateSessionAsked asked q (at_start count templates) e
  session_granted templates e given gives =
      let can = can_be_had (at_start count templates) pdn address given in
      record { few = omega arith }
      ⨾ refl
      ⨾ record { low = omega arith; high = omega arith }
      ⨾ refl
      ⨾ served (at_start count templates) pdn can
      ⨾ (record { few = no_sessions }, record { left = omega arith })
      ⨾ can
      ⨾ record {
        control = control;
        user = user;
        address = address;
        control_free = record { counted = refl; numbered = omega arith; undrawn = λ none. none };
        user_free = record { counted = refl; numbered = omega arith; undrawn = λ none. none };
        apart = control_not_user;
        given = given;
        gives = gives;
      }

  module _ (given : IsGiven packet_heard pdn address) where
    pub step2 : Happens w1 (Deliver 0) w2
    step2 =
        arrives w1 Serving (Create_session_request q) (heard made) 0 refl (λ none. none)
        (refl ⨾ inr (λ held none. absurd none, refl ⨾ (made, session_granted [] made given refl, refl)))

    pub session_answered : CreateSessionAnswered a serving_heard opened
    session_answered =
        record { pending = record { session = Some control; bearer = None; request = Create_session_request q }; waits = get-insert_same empty 0 _ }
        ⨾ record { request = q; asked = refl; session = control; about = refl; named = inl refl }
        ⨾ accepts_cause pdn address
        ⨾ record {
          at = record { session = pending_session q; stands = get-insert_same empty control (pending_session q) };
          context = record { identity = 5; cause = cause_of 16; user = Some (tunnel_end 5 user packet_ip); qos = Some plain_qos; charging = Some user };
          alone = refl;
          default = refl;
          address = address;
          given = address_back 64 address given.some_part;
        }
        ⨾ record { low = omega arith; high = omega arith }
        ⨾ record {
          default = record { bearer = pending_bearer control q; stands = get-insert_same empty user (pending_bearer control q) };
          gives = refl;
        }

    pub step3 : Happens w2 (Deliver 1) w3
    step3 =
        arrives w2 Packet (Create_session_response a) (heard opened) 1 refl (λ none. none)
        (refl ⨾ inr (λ held none. absurd none, refl ⨾ (opened, session_answered, refl)))

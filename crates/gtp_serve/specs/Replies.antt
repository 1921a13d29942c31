-- What a gateway answers, as JSON.
use Rattle.std.specs.Prelude.{ℕ, List, [], ◌∷◌, ◌++◌, map, Option, None, option_map, codes}
use Rattle.json.specs.Json.{Json}
use Rattle.gtp_machine.specs.Node.{Arrival, Node}
use Rattle.gtp_machine.specs.Spelling.{Datagram}
use Rattle.gtp_machine.specs.World.{EventOutcome, Came_to, Ticked}
use Rattle.gtp_machine.specs.Input.{Command}
use Rattle.gtp_machine.specs.declared.outcome.Outcome.{Outcome}
use Rattle.gtp_machine.specs.declared.outcome.Outcome.TheVariants.{Refused}
use Rattle.gtp_machine.specs.declared.outcome.Refusal.{Refusal}
use Rattle.gtp_machine.specs.declared.role.Role.{Role}
use Rattle.gtp_gateway.specs.command.Command.{outcome_by}
use Rattle.gtp_gateway.specs.messages.Sent.{datagram_by}
use Rattle.gtp_gateway.specs.receive.Taken.{datagrams}
use Rattle.gtp_gateway.specs.Tick.{arrivals_of}
use Rattle.gtp_gateway.specs.declared.sent.Begun.{Begun}
use Rattle.gtp_gateway.specs.user.Accepted.{Accepted}
use Rattle.gtp_gateway.specs.declared.step.Step.{Step}
use Rattle.gtp_gateway.specs.declared.tick.Ticked.{Ticked as TickedOnce}
use Rattle.gtp_outcomes.specs.Outcomes.{plane_word}
use Rattle.gtp_json.specs.Frames.{end_members}
use Rattle.gtp_json.specs.Tree.{member, object_of, array_of}
use Rattle.gtp_json.specs.Values.{octets_members, hexadecimal}
use Rattle.gtp_run_json.specs.Contexts.{sessions_of, bearers_of}
use Rattle.gtp_run_json.specs.Happened.{came_members, second_members, learned_members, gave_up_members, forgot_members}
use Rattle.gtp_run_json.specs.Members.{where_some, number_member, word_member, teid_member}

-- what a request came to: the outcome, that of a second message where a datagram had two, the restart counter of the peer that was learned, what is to be sent,
-- the packet that was accepted, on the bearer with this TEID, the requests that were given up, and those whose answers were forgotten
pub record Reply : Type 0 where
  pub outcome : EventOutcome
  pub second : Option Outcome
  pub learned : Option ℕ
  pub sent : List Datagram
  pub accepted : Option (ℕ × List ℕ)
  pub gave_up : List ℕ
  pub forgot : List Arrival

-- nothing but an outcome
abbrev pub plain : EventOutcome → Reply
plain outcome = record { outcome = outcome; second = None; learned = None; sent = []; accepted = None; gave_up = []; forgot = [] }

-- ---- what is told of each answer of a gateway

-- a command that was carried out
abbrev pub of_begun : Command → Begun → Reply
of_begun command begun = record (plain (Came_to (outcome_by command begun.teid))) { sent = datagram_by begun.out ∷ [] }

-- a command that was refused
abbrev pub of_refusal : Refusal → Reply
of_refusal why = plain (Came_to (Refused why))

abbrev pub packet_of : Accepted → ℕ × List ℕ
packet_of accepted = (accepted.bearer, accepted.payload)

-- a datagram that was received
abbrev pub of_step : Step → Reply
of_step step =
    record (plain (Came_to step.report.outcome)) {
      second = step.report.second;
      learned = option_map (λ c. c.0) step.report.restart;
      sent = datagrams step.out;
      accepted = option_map packet_of step.accepted;
    }

-- a tick that passed
abbrev pub of_tick : TickedOnce → Reply
of_tick ticked =
    record (plain Ticked) {
      sent = map datagram_by ticked.resent.items;
      gave_up = ticked.gave_up.items;
      forgot = arrivals_of ticked.forgotten.items;
    }

-- ---- as JSON

-- a datagram that is to be sent: its plane, its ends and its octets
abbrev pub sent_json : Datagram → Json
sent_json d =
    object_of (word_member (codes "plane") (plane_word d.plane) ++ (member (codes "from") (object_of (end_members d.from))
    ++ (member (codes "to") (object_of (end_members d.to)) ++ octets_members d.octets)))

abbrev pub sent_members : List Datagram → List (List ℕ × Json)
sent_members sent = member (codes "sent") (array_of (map sent_json sent))

-- a packet: its bearer, and its octets
abbrev pub packet_members : ℕ × List ℕ → List (List ℕ × Json)
packet_members packet = teid_member (codes "teid") packet.0 ++ member (codes "payload") (hexadecimal packet.1)

-- the packet that was accepted, where there is one
abbrev pub accepted_json : ℕ × List ℕ → Json
accepted_json packet = object_of (packet_members packet)

abbrev pub accepted_members : Option (ℕ × List ℕ) → List (List ℕ × Json)
accepted_members packet = where_some (λ p. member (codes "accepted") (accepted_json p)) packet

abbrev pub told_members : Reply → List (List ℕ × Json)
told_members reply = came_members reply.outcome ++ (second_members reply.second ++ learned_members reply.learned)

abbrev pub left_members : Reply → List (List ℕ × Json)
left_members reply = sent_members reply.sent ++ (accepted_members reply.accepted ++ (gave_up_members reply.gave_up ++ forgot_members reply.forgot))

-- the place of the peer, where a node answers
abbrev pub peer_members : Option ℕ → List (List ℕ × Json)
peer_members peer = where_some (λ place. number_member (codes "peer") place) peer

abbrev pub reply_json : Option ℕ → Reply → Json
reply_json peer reply = object_of (peer_members peer ++ (told_members reply ++ left_members reply))

-- an answer that has a word for its outcome, and nothing else
abbrev pub word_json : Option ℕ → List ℕ → Json
word_json peer word = object_of (peer_members peer ++ word_member (codes "outcome") word)

-- the contexts of a gateway: its sessions and its bearers, in order of its own TEIDs
abbrev pub contexts_json : Option ℕ → Role → Node → Json
contexts_json peer role node =
    object_of (peer_members peer ++ (word_member (codes "outcome") (codes "listed")
    ++ (member (codes "sessions") (array_of (sessions_of role node)) ++ member (codes "bearers") (array_of (bearers_of role node)))))

-- Events as JSON: the reading of reports, by members of objects.
use Rattle.std.specs.Prelude.{ℕ, ◌+◌, List, [], ◌∷◌, ◌++◌, map, take, drop, Option, codes}
use Rattle.std.specs.List.{enumerate_from}
use Rattle.json.specs.Json.{Json}
use Rattle.gtp_machine.specs.Node.{Arrival}
use Rattle.gtp_machine.specs.Spelling.{Datagram}
use Rattle.gtp_machine.specs.declared.outcome.DropReason.{DropReason}
use Rattle.gtp_machine.specs.declared.outcome.DropReason.TheVariants.{Undecodable}
use Rattle.gtp_machine.specs.declared.outcome.Outcome.{Outcome}
use Rattle.gtp_machine.specs.declared.outcome.Outcome.TheVariants.{Begun, Refused, Answered, Rejected, Dropped}
use Rattle.gtp_machine.specs.World.{By, Event, EventOutcome, Came_to, Restarted}
use Rattle.gtp_world.specs.Record.{EventRecord}
use Rattle.gtp_scenario.specs.Words.{word_of}
use Rattle.gtp_outcomes.specs.Outcomes.{plane_word, limit_word, fault_word, outcome_word, first_word}
use Rattle.gtp_json.specs.Tree.{member, object_of, array_of, number_of}
use Rattle.gtp_json.specs.Values.{hexadecimal, octets_members}
use Rattle.gtp_run_json.specs.Members.{where_some, word_member, number_member, teid_member}

-- the fault of a datagram that is no message
abbrev pub drop_members : DropReason → List (List ℕ × Json)
drop_members (Undecodable name) = word_member (codes "fault") (fault_word name)
drop_members reason = []

-- what follows the first word of the outcome of a step: the TEID of the context that a request is about, the limit that is reached, a cause value, or a fault
abbrev pub outcome_details : Outcome → List (List ℕ × Json)
outcome_details (Begun teid) = where_some (teid_member (codes "teid")) teid
outcome_details (Refused refusal) = where_some (word_member (codes "limit")) (limit_word refusal)
outcome_details (Answered cause) = number_member (codes "cause") cause
outcome_details (Rejected cause) = number_member (codes "cause") cause
outcome_details (Dropped reason) = drop_members reason
outcome_details outcome = []

abbrev pub outcome_members : Outcome → List (List ℕ × Json)
outcome_members outcome = word_member (codes "outcome") (outcome_word outcome) ++ outcome_details outcome

-- what follows the first word of the outcome of an event
abbrev pub event_details : EventOutcome → List (List ℕ × Json)
event_details (Came_to outcome) = outcome_details outcome
event_details (Restarted counter) = number_member (codes "counter") counter
event_details outcome = []

abbrev pub came_members : EventOutcome → List (List ℕ × Json)
came_members outcome = word_member (codes "outcome") (first_word outcome) ++ event_details outcome

-- what the second of two messages came to, where there was one
abbrev pub second_members : Option Outcome → List (List ℕ × Json)
second_members second = where_some (λ outcome. member (codes "then") (object_of (outcome_members outcome))) second

-- the counter of a restart of the peer that was learned, if one was
abbrev pub learned_members : Option ℕ → List (List ℕ × Json)
learned_members counter = where_some (number_member (codes "restart")) counter

abbrev pub told_members : EventRecord → List (List ℕ × Json)
told_members told = came_members told.outcome ++ (second_members told.second ++ learned_members told.learned)

-- a datagram that was sent, under its number
abbrev pub sent_json : ℕ × By Datagram → Json
sent_json d = object_of (number_member (codes "datagram") d.0 ++ (word_member (codes "plane") (plane_word d.1.what.plane) ++ octets_members d.1.what.octets))

abbrev pub sent_members : List (ℕ × By Datagram) → List (List ℕ × Json)
sent_members sent = member (codes "sent") (array_of (map sent_json sent))

-- the requests that were given up, by their sequence numbers
abbrev pub gave_up_members : List ℕ → List (List ℕ × Json)
gave_up_members numbers = member (codes "gave_up") (array_of (map number_of numbers))

-- a request whose answer was forgotten
abbrev pub forgot_json : Arrival → Json
forgot_json request = hexadecimal request.octets

abbrev pub forgot_members : List Arrival → List (List ℕ × Json)
forgot_members requests = member (codes "forgot") (array_of (map forgot_json requests))

-- what happened, and what it came to
abbrev pub head_members : ℕ → Event → EventRecord → List (List ℕ × Json)
head_members place event told = number_member (codes "event") place ++ (word_member (codes "do") (word_of event) ++ told_members told)

-- what it left: what was sent, given up and forgotten
abbrev pub left_members : List (ℕ × By Datagram) → EventRecord → List (List ℕ × Json)
left_members sent told = sent_members sent ++ (gave_up_members told.gave_up ++ forgot_members told.forgot)

-- an event at this place, and the datagrams that it sent, each with its number
abbrev pub event_json : ℕ → List (ℕ × By Datagram) → Event → EventRecord → Json
event_json place sent event told = object_of (head_members place event told ++ left_members sent told)

-- events from this place on, what is told of each, and the datagrams that they sent
abbrev pub events_from : ℕ → List (ℕ × By Datagram) → List Event → List EventRecord → List Json
events_from place sent [] notes = []
events_from place sent (event ∷ events) [] = []
events_from place sent (event ∷ events) (told ∷ notes) = event_json place (take told.sent sent) event told ∷ events_from (place + 1) (drop told.sent sent) events notes

-- all events, and all datagrams, both numbered from 0
abbrev pub events_json : List Event → List (By Datagram) → List EventRecord → List Json
events_json events datagrams notes = events_from 0 (enumerate_from 0 datagrams) events notes

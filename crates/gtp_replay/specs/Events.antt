-- The lines of events.
use Rattle.std.specs.Prelude.{ℕ, ◌+◌, List, [], ◌∷◌, ◌++◌, Option, Some, None, codes, decimal, take, drop}
use Rattle.std.specs.List.{flat_map, enumerate_from}
use Rattle.gtp_machine.specs.Node.{Arrival}
use Rattle.gtp_machine.specs.Spelling.{Datagram}
use Rattle.gtp_machine.specs.World.{By, Event}
use Rattle.gtp_machine.specs.declared.outcome.Outcome.{Outcome}
use Rattle.gtp_world.specs.Record.{EventRecord}
use Rattle.gtp_lines.specs.Text.{octets_text}
use Rattle.gtp_scenario.specs.Words.{word_of}
use Rattle.gtp_outcomes.specs.Outcomes.{plane_word, outcome_word, outcome_detail, first_word, detail}

-- the counter of a restart of the peer that was learned, if one was
abbrev pub learned_text : Option ℕ → List ℕ
learned_text None = []
learned_text (Some counter) = codes " restart " ++ decimal counter

-- what the second of two messages came to
abbrev pub second_text : Option Outcome → List ℕ
second_text None = []
second_text (Some outcome) = codes " then " ++ outcome_word outcome ++ outcome_detail outcome

-- what an event came to
abbrev pub told_words : EventRecord → List ℕ
told_words told = first_word told.outcome ++ detail told.outcome ++ second_text told.second ++ learned_text told.learned

abbrev pub told_text : EventRecord → List ℕ
told_text told = told_words told ++ codes "\n"

-- what happened, and what it came to
abbrev pub head_line : ℕ → Event → EventRecord → List ℕ
head_line place event told = codes "event " ++ decimal place ++ codes " " ++ word_of event ++ codes " " ++ told_text told

-- a datagram that was sent, under its number
abbrev pub sent_line : ℕ × By Datagram → List ℕ
sent_line d = codes "  sent " ++ decimal d.0 ++ codes " " ++ plane_word d.1.what.plane ++ codes " " ++ octets_text d.1.what.octets ++ codes "\n"

-- a request that was given up, by its sequence number
abbrev pub gave_up_line : ℕ → List ℕ
gave_up_line number = codes "  gave-up " ++ decimal number ++ codes "\n"

-- a request whose answer was forgotten
abbrev pub forgot_line : Arrival → List ℕ
forgot_line request = codes "  forgot " ++ octets_text request.octets ++ codes "\n"

-- an event at this place, and the datagrams that it sent, each with its number
abbrev pub event_lines : ℕ → List (ℕ × By Datagram) → Event → EventRecord → List ℕ
event_lines place sent event told = head_line place event told ++ flat_map sent_line sent ++ flat_map gave_up_line told.gave_up ++ flat_map forgot_line told.forgot

-- events from this place on, what is told of each, and the datagrams that they sent, one after the other
abbrev pub lines_from : ℕ → List (ℕ × By Datagram) → List Event → List EventRecord → List ℕ
lines_from place sent [] notes = []
lines_from place sent (event ∷ events) [] = []
lines_from place sent (event ∷ events) (told ∷ notes) = event_lines place (take told.sent sent) event told ++ lines_from (place + 1) (drop told.sent sent) events notes

-- all events, and all datagrams, both numbered from 0
abbrev pub events_text : List Event → List (By Datagram) → List EventRecord → List ℕ
events_text events datagrams notes = lines_from 0 (enumerate_from 0 datagrams) events notes

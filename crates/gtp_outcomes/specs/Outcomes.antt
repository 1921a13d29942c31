-- What events come to, in words and codes.
use Rattle.std.specs.Prelude.{ℕ, List, [], ◌++◌, Bool, true, false, Option, Some, None, codes, decimal}
use Rattle.gtp_values.specs.Teid.{teid_text}
use Rattle.gtp_values.specs.declared.plane.Plane.{Plane}
use Rattle.gtp_values.specs.declared.plane.Plane.TheVariants as planes
use Rattle.gtp_machine.specs.declared.outcome.FaultName.{FaultName}
use Rattle.gtp_machine.specs.declared.outcome.Refusal.{Refusal}
use Rattle.gtp_machine.specs.declared.outcome.Refusal.TheVariants.{NoSuchContext, NotActive, WrongRole, SessionsFull, TeidsUsed, PendingFull, BearerEnded, PacketTooLong}
use Rattle.gtp_machine.specs.declared.outcome.DropReason.{DropReason}
use Rattle.gtp_machine.specs.declared.outcome.DropReason.TheVariants.{Undecodable, OldCounter, NoPending, Mismatch, ContextNotActive, UnknownContext, AfterEnd, HeldFull, Unexpected, UnknownExtension, NotPeer, OtherVersion}
use Rattle.gtp_machine.specs.declared.outcome.Outcome.{Outcome}
use Rattle.gtp_machine.specs.declared.outcome.Outcome.TheVariants.{Begun, GoneOut, Refused, Answered, Echoed, Repeated, Opened, Closed, Clash, Rejected, Alive, Accepted, Ended, Broken, Dropped}
use Rattle.gtp_machine.specs.World.{EventOutcome, Came_to, Ticked, Restarted, No_such_datagram, Restarts_used, Cut_too_long}

-- the code of a refused command
abbrev pub refusal_word : Refusal → List ℕ
refusal_word NoSuchContext = codes "G1"
refusal_word NotActive = codes "G2"
refusal_word WrongRole = codes "G3"
refusal_word SessionsFull = codes "G4"
refusal_word TeidsUsed = codes "G4"
refusal_word PendingFull = codes "G4"
refusal_word BearerEnded = codes "G5"
refusal_word PacketTooLong = codes "G7"

-- which limit is reached, where one is
abbrev pub limit_word : Refusal → Option (List ℕ)
limit_word SessionsFull = Some (codes "S1")
limit_word TeidsUsed = Some (codes "S4")
limit_word PendingFull = Some (codes "B1")
limit_word refusal = None

-- a word after a blank, where there is one
abbrev pub spaced : Option (List ℕ) → List ℕ
spaced None = []
spaced (Some word) = codes " " ++ word

-- the code of a dropped datagram
abbrev pub drop_word : DropReason → List ℕ
drop_word (Undecodable name) = codes "X1"
drop_word OldCounter = codes "X2"
drop_word NoPending = codes "X3"
drop_word Mismatch = codes "X4"
drop_word ContextNotActive = codes "X5"
drop_word UnknownContext = codes "X6"
drop_word AfterEnd = codes "X7"
drop_word HeldFull = codes "X8"
drop_word Unexpected = codes "X9"
drop_word UnknownExtension = codes "X10"
drop_word NotPeer = codes "X11"
drop_word OtherVersion = codes "X12"

abbrev pub plane_word : Plane → List ℕ
plane_word planes.Control = codes "control"
plane_word planes.User = codes "user"

-- the letter of a plane's faults
abbrev pub plane_letter : Plane → List ℕ
plane_letter planes.Control = codes "H"
plane_letter planes.User = codes "U"

-- the code of a fault
abbrev pub fault_word : FaultName → List ℕ
fault_word name = plane_letter name.plane ++ decimal name.number

-- the fault of a datagram that is no message
abbrev pub drop_detail : DropReason → List ℕ
drop_detail (Undecodable name) = codes " " ++ fault_word name
drop_detail reason = []

-- the first word of what a step of a gateway comes to
abbrev pub outcome_word : Outcome → List ℕ
outcome_word (Begun teid) = codes "begun"
outcome_word GoneOut = codes "sent"
outcome_word (Refused refusal) = refusal_word refusal
outcome_word (Answered cause) = codes "answered"
outcome_word Echoed = codes "echoed"
outcome_word Repeated = codes "repeated"
outcome_word Opened = codes "opened"
outcome_word Closed = codes "closed"
outcome_word Clash = codes "clash"
outcome_word (Rejected cause) = codes "rejected"
outcome_word Alive = codes "alive"
outcome_word Accepted = codes "accepted"
outcome_word Ended = codes "ended"
outcome_word Broken = codes "broken"
outcome_word (Dropped reason) = drop_word reason

-- a number after a word
abbrev pub after : ℕ → List ℕ
after number = codes " " ++ decimal number

-- what follows the first word: the TEID of the context that a request is about, a cause value, or more of a code
abbrev pub outcome_detail : Outcome → List ℕ
outcome_detail (Begun (Some teid)) = codes " " ++ teid_text teid
outcome_detail (Refused refusal) = spaced (limit_word refusal)
outcome_detail (Answered cause) = after cause
outcome_detail (Rejected cause) = after cause
outcome_detail (Dropped reason) = drop_detail reason
outcome_detail outcome = []

-- the first word of what an event comes to
abbrev pub first_word : EventOutcome → List ℕ
first_word (Came_to outcome) = outcome_word outcome
first_word Ticked = codes "ticked"
first_word (Restarted counter) = codes "restarted"
first_word No_such_datagram = codes "N1"
first_word Restarts_used = codes "N2"
first_word Cut_too_long = codes "N3"

-- what follows it
abbrev pub detail : EventOutcome → List ℕ
detail (Came_to outcome) = outcome_detail outcome
detail (Restarted counter) = after counter
detail outcome = []

-- a refused command, a dropped datagram, or an event that cannot happen
abbrev pub is_refused : EventOutcome → Bool
is_refused (Came_to (Refused refusal)) = true
is_refused (Came_to (Dropped reason)) = true
is_refused No_such_datagram = true
is_refused Restarts_used = true
is_refused Cut_too_long = true
is_refused outcome = false

-- What C is told of a step, in numbers.
use Rattle.std.specs.Prelude.{ℕ, Option, Some, None, is_some, length}
use Rattle.gtp_machine.specs.declared.outcome.Refusal.{Refusal}
use Rattle.gtp_machine.specs.declared.outcome.DropReason.{DropReason}
use Rattle.gtp_machine.specs.declared.outcome.Outcome.{Outcome}
use Rattle.gtp_machine.specs.declared.outcome.Refusal.TheVariants.{NoSuchContext, NotActive, WrongRole, SessionsFull, TeidsUsed, PendingFull, BearerEnded, PacketTooLong}
use Rattle.gtp_machine.specs.declared.outcome.DropReason.TheVariants.{Undecodable, OldCounter, NoPending, Mismatch, ContextNotActive, UnknownContext, AfterEnd, HeldFull, Unexpected, UnknownExtension, NotPeer, OtherVersion}
use Rattle.gtp_machine.specs.declared.outcome.Outcome.TheVariants.{Begun, GoneOut, Refused, Answered, Echoed, Repeated, Opened, Closed, Clash, Rejected, Alive, Accepted, Ended, Broken, Dropped}
use Rattle.gtp_values.specs.declared.counter.Counter.{Counter}
use Rattle.gtp_values.specs.declared.identifiers.Teid.{Teid}
use Rattle.gtp_gateway.specs.declared.sent.Begun as commands
use Rattle.gtp_gateway.specs.user.Accepted as packets
use Rattle.gtp_gateway.specs.declared.step.Step.{Step}
use Rattle.gtp_c.specs.Common.{flag}
use Rattle.gtp_c.specs.declared.outcome.ToldOutcome.{ToldOutcome}
use Rattle.gtp_c.specs.declared.told.Told.{Told}

-- the number of a refusal: G1, G2, G3, G4 S1, G4 S4, G4 B1, G5, G7
abbrev pub refusal_number : Refusal → ℕ
refusal_number NoSuchContext = 1
refusal_number NotActive = 2
refusal_number WrongRole = 3
refusal_number SessionsFull = 4
refusal_number TeidsUsed = 5
refusal_number PendingFull = 6
refusal_number BearerEnded = 7
refusal_number PacketTooLong = 8

-- the number of a reason, as in its code: X1 to X12
abbrev pub reason_number : DropReason → ℕ
reason_number (Undecodable name) = 1
reason_number OldCounter = 2
reason_number NoPending = 3
reason_number Mismatch = 4
reason_number ContextNotActive = 5
reason_number UnknownContext = 6
reason_number AfterEnd = 7
reason_number HeldFull = 8
reason_number Unexpected = 9
reason_number UnknownExtension = 10
reason_number NotPeer = 11
reason_number OtherVersion = 12

-- the number of an outcome
abbrev pub outcome_number : Outcome → ℕ
outcome_number (Begun teid) = 1
outcome_number GoneOut = 2
outcome_number (Refused why) = 3
outcome_number (Answered cause) = 4
outcome_number Echoed = 5
outcome_number Repeated = 6
outcome_number Opened = 7
outcome_number Closed = 8
outcome_number Clash = 9
outcome_number (Rejected cause) = 10
outcome_number Alive = 11
outcome_number Accepted = 12
outcome_number Ended = 13
outcome_number Broken = 14
outcome_number (Dropped reason) = 15

-- what belongs to an outcome: the cause of an answer, or the number of a rule
abbrev pub cause_number : Outcome → ℕ
cause_number (Refused why) = refusal_number why
cause_number (Answered cause) = cause
cause_number (Rejected cause) = cause
cause_number (Dropped reason) = reason_number reason
cause_number outcome = 0

-- the printed number of the fault of what is undecodable
abbrev pub fault_number : Outcome → ℕ
fault_number (Dropped (Undecodable name)) = name.number
fault_number outcome = 0

abbrev pub outcome_told : Outcome → ToldOutcome
outcome_told o = record { kind = outcome_number o; cause = cause_number o; fault = fault_number o }

-- of a message that may be missing
abbrev pub second_told : Option Outcome → ToldOutcome
second_told None = record { kind = 0; cause = 0; fault = 0 }
second_told (Some o) = outcome_told o

abbrev pub bearer_in : Option packets.Accepted → ℕ
bearer_in None = 0
bearer_in (Some packet) = packet.bearer

abbrev pub length_in : Option packets.Accepted → ℕ
length_in None = 0
length_in (Some packet) = length packet.payload

abbrev pub counter_in : Option Counter → ℕ
counter_in None = 0
counter_in (Some counter) = counter.0

abbrev pub teid_in : Option Teid → ℕ
teid_in None = 0
teid_in (Some teid) = teid

-- nothing but what it came to and a TEID, with so many datagrams that wait
abbrev pub plain_told : ToldOutcome → ℕ → ℕ → Told
plain_told outcome teid waiting =
    record {
      waiting = waiting;
      payload_len = 0;
      gave_up = 0;
      forgot = 0;
      teid = teid;
      outcome = outcome;
      second = record { kind = 0; cause = 0; fault = 0 };
      made = 0;
      counted = 0;
      counter = 0;
      restarted = 0;
    }

-- a datagram came
abbrev pub step_told : Step → ℕ → Told
step_told step waiting =
    record {
      waiting = waiting;
      payload_len = length_in step.accepted;
      gave_up = 0;
      forgot = 0;
      teid = bearer_in step.accepted;
      outcome = outcome_told step.report.outcome;
      second = second_told step.report.second;
      made = flag step.report.made;
      counted = flag (is_some step.report.heard);
      counter = counter_in step.report.heard;
      restarted = flag (is_some step.report.restart);
    }

-- a command was carried out, whose outcome has this number
abbrev pub begun_told : ℕ → commands.Begun → ℕ → Told
begun_told number begun waiting = plain_told (record { kind = number; cause = 0; fault = 0 }) (teid_in begun.teid) waiting

-- a command was refused
abbrev pub refused_told : Refusal → ℕ → Told
refused_told why waiting = plain_told (outcome_told (Refused why)) 0 waiting

-- a tick passed, which gave up so many requests and forgot so many answers
abbrev pub tick_told : ℕ → ℕ → ℕ → Told
tick_told gave_up forgot waiting = record (plain_told (record { kind = 16; cause = 0; fault = 0 }) 0 waiting) { gave_up = gave_up; forgot = forgot }

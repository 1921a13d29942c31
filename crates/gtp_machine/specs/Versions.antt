-- What tells which version a gateway supports is not answered (TS 29.274, 7.7.2).
use Rattle.std.specs.Prelude.{◌≡◌, ◌⊎◌, List, [], ℕ, true}
use Rattle.gtp_v2.specs.VersionNotSupported.{version_not_supported}
use Rattle.gtp_machine.specs.Message.{Other_control, Control}
use Rattle.gtp_machine.specs.Node.{Role, Arrival, Node}
use Rattle.gtp_machine.specs.Input.{ControlReading, Control_message, Faulty, Control_fault, Control_came, Effect}
use Rattle.gtp_machine.specs.Answer.{Repeats, IsNew, version_number, states_type, tells_version, version_told}
use Rattle.gtp_machine.specs.Spelling.{ReadsAs, spelled}
use Rattle.gtp_machine.specs.Step.{Step}

-- octets tell the version that their sender supports: they are a Version Not Supported Indication, or are no message and state its type
abbrev pub TellsVersion : List ℕ → ControlReading → Type 0
TellsVersion octets (Control_message message) = message ≡ Other_control version_not_supported.kind
TellsVersion octets (Faulty f) = ⊥
TellsVersion octets (Control_fault fault) = states_type octets version_not_supported.kind ≡ true

-- Nothing is sent for them, but an answer that is held for the same octets.
abbrev pub TellingIsNotAnswered : Type 0
TellingIsNotAnswered =
    (role : Role) (old : Node) (request : Arrival) (reading : ControlReading) (e : Effect) → TellsVersion request.octets reading →
    Step role old (Control_came request reading) e → (e.out.sent ≡ []) ⊎ Repeats old request e

-- Octets of the peer that are of another version, for which no answer is held, are answered where the gateway does so.
abbrev pub VersionIsTold : Type 0
VersionIsTold =
    (role : Role) (old : Node) (request : Arrival) (e : Effect) → request.source.ip ≡ old.config.peer.control → IsNew old request →
    tells_version old.config request.octets version_number ≡ true → Step role old (Control_came request (Control_fault version_number)) e →
    e ≡ version_told request old

-- What is sent then reads as a Version Not Supported Indication.
abbrev pub ToldVersionReads : Type 0
ToldVersionReads = ReadsAs Control (spelled (Other_control version_not_supported.kind)) (Other_control version_not_supported.kind)

-- The octets of the last message of a datagram: a request is known by its own.
use Rattle.std.specs.Prelude.{◌≡◌, ℕ, List, drop, if◌then◌else◌}
use Rattle.gtp_v2.specs.Message.{MessageValue}
use Rattle.gtp_v2.specs.Datagram.{IsMessage}
use Rattle.gtp_machine.specs.Reading.{announces}
use Rattle.gtp_gateway.specs.receive.TwoMessages.{second_part, IsSecondAt}

-- those after a first message that announces another (TS 29.274 5.5.1), as its header states where it ends; else all
unfoldable pub last_octets : List ℕ → List ℕ
last_octets octets = if announces octets then second_part octets else octets

-- Of two messages in one datagram the last octets are those from the place on at which the second message lies.
abbrev pub LastIsSecond : Type 0
LastIsSecond = (octets : List ℕ) (place : ℕ) → IsSecondAt octets place → last_octets octets ≡ drop place octets

-- Of one message they are all.
abbrev pub LastIsWhole : Type 0
LastIsWhole = (octets : List ℕ) (m : MessageValue) → IsMessage octets m → last_octets octets ≡ octets

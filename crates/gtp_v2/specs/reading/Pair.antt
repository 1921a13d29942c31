-- Reading functions, for private contracts and proofs: what a datagram of one or two messages says, or its first fault.
use Rattle.std.specs.Prelude.{ℕ, ◌+◌, ◌-◌, ◌*◌, ◌/◌, ◌==◌, nat_le, List, [], ◌∷◌, length, take, drop, Option, Result, Ok, Err, if◌then◌else◌}
use Rattle.gtp_values.specs.Steps.{◌>>=◌}
use Rattle.gtp_v2.specs.declared.fault.V2Fault.{V2Fault}
use Rattle.gtp_v2.specs.declared.fault.V2Fault.TheVariants as faults
use Rattle.gtp_v2.specs.Message.{MessageValue}
use Rattle.gtp_v2.specs.Pair.{DatagramValue, alone, both, moved}
use Rattle.gtp_v2.specs.Asks.{Asks}
use Rattle.gtp_v2.specs.reading.Message.{message_at, message_by}
use Rattle.gtp_v2.specs.reading.Rows.{fault_as}

-- a reading, its fault counted from so many octets earlier
abbrev pub placed : {X : Type 0} → ℕ → Result X V2Fault → Result X V2Fault
placed place = fault_as (moved place)

-- the second message, at a place
unfoldable pub second_at : ℕ → List ℕ → Result MessageValue V2Fault
second_at place [] = Err (faults.BadPiggyback place)
second_at place (x ∷ xs) = placed place (message_at (x ∷ xs))

-- two messages, of which the first has these octets, without its announcement
unfoldable pub pair_at : List ℕ → ℕ → List ℕ → Result DatagramValue V2Fault
pair_at front place back = message_at front >>= λ a. second_at place back >>= λ b. Ok (both a b)

-- a first message that announces another, after its first four octets
unfoldable pub announced_at : ℕ → ℕ → ℕ → ℕ → List ℕ → Result DatagramValue V2Fault
announced_at first kind high low held =
    if nat_le (256 * high + low) (length held)
    then pair_at ((first - 16) ∷ kind ∷ high ∷ low ∷ take (256 * high + low) held) (4 + (256 * high + low)) (drop (256 * high + low) held)
    else Err (faults.Length (256 * high + low) (length held))

-- one message alone
unfoldable pub alone_at : List ℕ → Result DatagramValue V2Fault
alone_at octets = message_at octets >>= λ m. Ok (alone m)

-- the messages that a datagram spells
unfoldable pub datagram_at : List ℕ → Result DatagramValue V2Fault
datagram_at (first ∷ kind ∷ high ∷ low ∷ held) = if first / 16 == 5 then announced_at first kind high low held else alone_at (first ∷ kind ∷ high ∷ low ∷ held)
datagram_at octets = alone_at octets

-- ---- by what is asked of each type

-- the second message, at a place
unfoldable pub second_by : (ℕ → Option Asks) → ℕ → List ℕ → Result MessageValue V2Fault
second_by asked place [] = Err (faults.BadPiggyback place)
second_by asked place (x ∷ xs) = placed place (message_by asked (x ∷ xs))

-- two messages, of which the first has these octets, without its announcement
unfoldable pub pair_by : (ℕ → Option Asks) → List ℕ → ℕ → List ℕ → Result DatagramValue V2Fault
pair_by asked front place back = message_by asked front >>= λ a. second_by asked place back >>= λ b. Ok (both a b)

-- a first message that announces another, after its first four octets
unfoldable pub announced_by : (ℕ → Option Asks) → ℕ → ℕ → ℕ → ℕ → List ℕ → Result DatagramValue V2Fault
announced_by asked first kind high low held =
    if nat_le (256 * high + low) (length held)
    then pair_by asked ((first - 16) ∷ kind ∷ high ∷ low ∷ take (256 * high + low) held) (4 + (256 * high + low)) (drop (256 * high + low) held)
    else Err (faults.Length (256 * high + low) (length held))

-- one message alone
unfoldable pub alone_by : (ℕ → Option Asks) → List ℕ → Result DatagramValue V2Fault
alone_by asked octets = message_by asked octets >>= λ m. Ok (alone m)

-- the messages that a datagram spells
unfoldable pub datagram_by : (ℕ → Option Asks) → List ℕ → Result DatagramValue V2Fault
datagram_by asked (first ∷ kind ∷ high ∷ low ∷ held) =
    if first / 16 == 5 then announced_by asked first kind high low held else alone_by asked (first ∷ kind ∷ high ∷ low ∷ held)
datagram_by asked octets = alone_by asked octets

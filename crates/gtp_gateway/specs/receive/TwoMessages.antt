-- Two messages in one datagram (TS 29.274 5.5.1), where they lie.
use Rattle.std.specs.Prelude.{◌≡◌, ℕ, ◌+◌, ◌*◌, List, ◌∷◌, length, take, drop}
use Rattle.gtp_v2.specs.Message.{MessageValue}
use Rattle.gtp_v2.specs.Datagram.{IsMessage}
use Rattle.gtp_v2.specs.Pair.{Announces}
use Rattle.gtp_machine.specs.Node.{Arrival}

-- the length of the first message, as its header states it
abbrev pub first_length : List ℕ → ℕ
first_length (first ∷ kind ∷ high ∷ low ∷ held) = 4 + (256 * high + low)
first_length octets = length octets

-- the octets of the first message as they lie: in them the second is announced
abbrev pub first_part : List ℕ → List ℕ
first_part octets = take (first_length octets) octets

-- the octets after it, which are those of the second message
abbrev pub second_part : List ℕ → List ℕ
second_part octets = drop (first_length octets) octets

-- the first message as it comes, by the octets in which it lies, and the second by its own
abbrev pub first_arrival : Arrival → Arrival
first_arrival arrival = record arrival { octets = first_part arrival.octets }

abbrev pub second_arrival : Arrival → Arrival
second_arrival arrival = record arrival { octets = second_part arrival.octets }

-- the octets read as two messages, of which the second begins at this place
pub record IsSecondAt (octets : List ℕ) (place : ℕ) : Type 0 where
  pub front : List ℕ
  pub back : List ℕ
  pub announced : Announces octets front back
  pub first : MessageValue
  pub spells_first : IsMessage front first
  pub second : MessageValue
  pub spells_second : IsMessage back second
  pub place_is : place ≡ length front
  pub rest : drop place octets ≡ back

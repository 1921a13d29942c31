-- Where the parts of an element's body stand, as the figures of TS 29.274 clause 8 count them: octets from 5 on, after the
-- four of the element's own header; bits from 8, the highest, to 1.
use Rattle.std.specs.Prelude.{ℕ, ◌+◌, ◌-◌, ◌/◌, ◌%◌, ◌^◌, Bool, ◌==◌, List, drop, slice_index}
use Rattle.byteorder.specs.Endian.{big_number}

-- the octet of this number
abbrev pub octet : ℕ → List ℕ → ℕ
octet n body = slice_index body (n - 5)

-- the octets from this one on
abbrev pub octets_from : ℕ → List ℕ → List ℕ
octets_from n body = drop (n - 5) body

-- the number in so many octets from this one on, the highest first
abbrev pub number_in : ℕ → ℕ → List ℕ → ℕ
number_in count n body = big_number count (octets_from n body)

-- the number in the bits of an octet from a high one to a low one
abbrev pub bits : ℕ → ℕ → ℕ → ℕ
bits high low n = (n / 2 ^ (low - 1)) % 2 ^ (high + 1 - low)

-- whether a bit of an octet is set
abbrev pub is_set : ℕ → ℕ → Bool
is_set bit n = bits bit bit n == 1

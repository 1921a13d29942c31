-- The options of a block (draft-ietf-opsawg-pcapng, 3.5).
use Rattle.std.specs.Prelude.{ℕ, zero, suc, ◌+◌, ◌*◌, ◌/◌, Bool, ◌&&◌, not, ◌==◌, nat_le, List, length, take, drop, slice_index, Option, Some, None, if◌then◌else◌}
use Rattle.gtp_capture.specs.Octets.{pair_at, eight_at}
use Rattle.gtp_capture.specs.declared.octets.Order.{Order}

-- Whether an option stands at the front: two octets of its code, which is not 0, two that say how many octets it has, and these.
abbrev pub has_option : Order → List ℕ → Bool
has_option order octets = nat_le 4 (length octets) && (not (pair_at order 0 octets == 0) && nat_le (4 + pair_at order 2 octets) (length octets))

-- the next multiple of four
abbrev pub padded : ℕ → ℕ
padded n = (n + 3) / 4 * 4

-- whether it has this code, and so many octets
abbrev pub is_option : Order → ℕ → ℕ → List ℕ → Bool
is_option order code size octets = (pair_at order 0 octets == code) && (pair_at order 2 octets == size)

-- The octets of the first such option of some, at most so many, one after the other up to where none stands. Each is filled up to a multiple of four.
abbrev pub first_option : ℕ → Order → ℕ → ℕ → List ℕ → Option (List ℕ)
first_option zero order code size octets = None
first_option (suc most) order code size octets =
    if has_option order octets
    then (if is_option order code size octets then Some (take size (drop 4 octets))
    else first_option most order code size (drop (4 + padded (pair_at order 2 octets)) octets))
    else None

-- of any number: there are fewer than octets
unfoldable pub option_in : Order → ℕ → ℕ → List ℕ → Option (List ℕ)
option_in order code size octets = first_option (length octets) order code size octets

abbrev pub octet_or : ℕ → Option (List ℕ) → ℕ
octet_or other None = other
octet_or other (Some octets) = slice_index octets 0

abbrev pub number_or_none : Order → Option (List ℕ) → ℕ
number_or_none order None = 0
number_or_none order (Some octets) = eight_at order 0 octets

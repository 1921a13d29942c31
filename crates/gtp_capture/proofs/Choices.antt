-- Options, one after the other.
use Rattle.std.proofs.Common.{◌≡◌, ℕ, zero, suc, ◌+◌, ◌≤◌, List, length, take, drop, Some, None, true, false, refl, arith, length-drop}
use Rattle.gtp_capture.specs.Octets.{pair_at}
use Rattle.gtp_capture.specs.Options.{has_option, is_option, first_option, padded}
use Rattle.gtp_capture.specs.declared.octets.Order.{Order}

-- none stands there
pub no_option : (most : ℕ) (order : Order) (code size : ℕ) (octets : List ℕ) → has_option order octets ≡ false → first_option most order code size octets ≡ None
no_option zero order code size octets none = refl
no_option (suc most) order code size octets none = rw none refl

-- it is the one that is looked for
pub this_option : (most : ℕ) (order : Order) (code size : ℕ) (octets : List ℕ) → has_option order octets ≡ true → is_option order code size octets ≡ true
    → 4 ≤ length octets → length octets ≤ most → first_option most order code size octets ≡ Some (take size (drop 4 octets))
this_option zero order code size octets has is some room = absurd (omega (arith, some, room))
this_option (suc most) order code size octets has is some room = rw (has, is) refl

-- it is another one
pub other_option : (most : ℕ) (order : Order) (code size : ℕ) (octets : List ℕ) → has_option order octets ≡ true → is_option order code size octets ≡ false → 4 ≤ length octets → length octets ≤ most
    → (less : ℕ) × (length (drop (4 + padded (pair_at order 2 octets)) octets) ≤ less)
    × (first_option most order code size octets ≡ first_option less order code size (drop (4 + padded (pair_at order 2 octets)) octets))
other_option zero order code size octets has is some room = absurd (omega (arith, some, room))
other_option (suc most) order code size octets has is some room = (most, omega (arith, some, room, length-drop (4 + padded (pair_at order 2 octets)) octets), rw (has, is) refl)

-- The first octet of a message (TS 29.281 5.1): version 1 in its three highest bits, the protocol type of GTP, a spare bit, and three flags.
use Rattle.std.specs.Prelude.{ℕ, ◌+◌, ◌*◌, Bool}
use Rattle.gtp_values.specs.Bit.{bit}

abbrev pub version_1 : ℕ
version_1 = 32

-- PT: it is GTP, and not GTP'
abbrev pub protocol_type : ℕ
protocol_type = 16

-- the place of the spare bit
abbrev pub spare_bit : ℕ
spare_bit = 8

-- an extension header (E), a sequence number (S), an N-PDU number (PN)
pub record Flags : Type 0 where
  pub chain : Bool
  pub seq : Bool
  pub npdu : Bool

-- the three lowest bits
abbrev pub bits : Flags → ℕ
bits flags = 4 * bit flags.chain + 2 * bit flags.seq + bit flags.npdu

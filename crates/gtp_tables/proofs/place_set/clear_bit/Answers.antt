use Rattle.std.proofs.Common.{false, arith, ap, ℕ}
use Rattle.std.specs.Prelude.{◌==◌, slice_index, bit_and, ◌*◌, ◌/◌, ◌%◌, ◌^◌}
use Rattle.std.specs.Int.{w64, bit_not}
use Rattle.std.proofs.lemmas.Nat.Bits.{bit_at_clear_same, bit_at_clear_other}
use Rattle.gtp_tables.proofs.PlaceBits.{written}
use Rattle.gtp_tables.proofs.place_set.clear_bit.Goals as goal

pub returns : goal.returns
returns c =
    let words = c.args.words.now in
    let place = c.args.place in
    let old = slice_index words (place / 64) in
    written words place (bit_and old (bit_not w64 (1 * 2 ^ (place % 64) % 2 ^ 64))) false c.requires
    (ap (λ (n : ℕ). n == 1) (bit_at_clear_same w64 old (place % 64) (omega arith)))
    (λ i lt other. bit_at_clear_other w64 old (place % 64) (omega arith) i lt other)

use Rattle.std.proofs.Common.{true, arith, ap, ℕ}
use Rattle.std.specs.Prelude.{◌==◌, slice_index, bit_or, ◌*◌, ◌/◌, ◌%◌, ◌^◌}
use Rattle.std.specs.Int.{w64}
use Rattle.std.proofs.lemmas.Nat.Bits.{bit_at_set_same, bit_at_set_other}
use Rattle.gtp_tables.proofs.PlaceBits.{written}
use Rattle.gtp_tables.proofs.place_set.set_bit.Goals as goal

pub returns : goal.returns
returns c =
    let words = c.args.words.now in
    let place = c.args.place in
    let old = slice_index words (place / 64) in
    written words place (bit_or old (1 * 2 ^ (place % 64) % 2 ^ 64)) true c.requires
    (ap (λ (n : ℕ). n == 1) (bit_at_set_same w64 old (place % 64) (omega arith)))
    (λ i lt other. bit_at_set_other w64 old (place % 64) (omega arith) i other)

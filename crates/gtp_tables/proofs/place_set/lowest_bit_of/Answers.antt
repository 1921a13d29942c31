use Rattle.std.proofs.Common.{◌<◌, ◌^◌, arith}
use Rattle.std.specs.Prelude.{slice_index}
use Rattle.gtp_tables.proofs.PlaceBits.{lowest_in}
use Rattle.gtp_tables.proofs.place_set.lowest_bit_of.Goals as goal

pub returns : goal.returns
returns c =
    let fits : slice_index c.args.words.now c.args.word < 2 ^ 64 = omega (arith, c.type_inv.words c.args.word) in
    lowest_in c.args.words.now c.args.word c.requires.first fits

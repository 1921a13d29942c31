use Rattle.std.proofs.Common.{◌+◌, ◌<◌, ◌^◌, [], length, arith, rules}
use Rattle.gtp_lines.proofs.Counted.{few}
use Rattle.gtp_lines.proofs.contexts.context_in.Goals as goal

pub context_among-requires : goal.context_among-requires
context_among-requires c =
    let are = c.in-Ok.ensures.elements.found in
    let count = few c.place.result c.args.header.now.rest.now c.in-Ok.elements [] are.0 are.1 in
    let fits : c.place.result + length c.args.header.now.rest.now < 2 ^ 64 = search rules in
    omega (arith, count, fits)

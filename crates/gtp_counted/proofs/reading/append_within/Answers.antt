use Rattle.std.proofs.Common.{rules}
use Rattle.gtp_counted.proofs.Held.{held_within}
use Rattle.gtp_counted.proofs.reading.append_within.Goals as goal

pub returns : goal.returns
returns c = let within = held_within c.args.most c.args.held.now.items c.args.octets.now c.requires in search (rules, within)

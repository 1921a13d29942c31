use Rattle.std.proofs.Common.{[]}
use Rattle.std.proofs.lemmas.Grind.{merely}
use Rattle.gtp_world.proofs.Begin.{run_begins}
use Rattle.gtp_world.proofs.world.World.start.Goals as goal

pub returns-clause-run : goal.returns-clause-run
returns-clause-run c = let s = c.in_ok-start.ensures in run_begins c.args.config.now _ s.begun s.serving s.packet

pub invariant_of-result : goal.invariant_of-result
invariant_of-result c = let s = c.in_ok-start.ensures in merely (record { setup = c.args.config.now; facing = s.facing; events = []; run = run_begins c.args.config.now _ s.begun s.serving s.packet })

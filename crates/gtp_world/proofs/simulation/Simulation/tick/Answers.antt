use Rattle.gtp_world.proofs.Sidewise.{ticks_at}
use Rattle.gtp_world.proofs.simulation.Simulation.tick.Goals as goal

pub returns-clause-ticks : goal.returns-clause-ticks
returns-clause-ticks c =
    ticks_at c.args.self.now c.args.node c.get_mut.result.now c.tick.new.self c.get_mut.ensures.value c.make_room.new.self c.record_tick.new.self c.in_ok-make_room.ensures.same
    c.in_ok-ticked.ticked c.in_ok-ticked.ensures.ticked c.record_tick.ensures.log

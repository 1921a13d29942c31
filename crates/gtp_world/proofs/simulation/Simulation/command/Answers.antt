use Rattle.std.proofs.Common.{false}
use Rattle.gtp_machine.specs.Input.{Commanded}
use Rattle.gtp_world.specs.Commands.{command_of}
use Rattle.gtp_world.specs.Stepped.{AsksFor}
use Rattle.gtp_world.proofs.Sidewise.{takes_at}
use Rattle.gtp_world.proofs.simulation.Simulation.command.Goals as goal

pub returns-clause-takes : goal.returns-clause-takes
returns-clause-takes c =
    takes_at c.args.self.now c.args.node c.get_mut.result.now c.command.new.self c.get_mut.ensures.value c.make_room.new.self c.record_step.new.self c.in_ok-make_room.ensures.same
    (Commanded (command_of c.args.event.now)) AsksFor c.in_ok-came.came false c.in_ok-came.ensures.done c.record_step.ensures.log

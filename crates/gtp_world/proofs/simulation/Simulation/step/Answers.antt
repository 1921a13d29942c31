use Rattle.std.proofs.Common.{sym, subst, OnOk}
use Rattle.gtp_world.specs.Events.{event_of}
use Rattle.gtp_world.specs.Record.{world_record_of}
use Rattle.gtp_world.specs.Stepped.{EventLeaves}
use Rattle.gtp_world.specs.declared.event.Event.{Event}
use Rattle.gtp_world.proofs.simulation.Simulation.step.Goals as goal

pub returns-in-Cut-clause-comes : goal.returns-in-Cut-clause-comes
returns-in-Cut-clause-comes c =
    subst (λ (e : Event). OnOk c.cut.result (EventLeaves (world_record_of c.args.self.now) (event_of e) (world_record_of c.cut.new.self)))
    (sym c.in-Cut.is) c.cut.ensures.comes

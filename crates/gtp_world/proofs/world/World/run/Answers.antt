-- A run is a start that goes on.
use Rattle.std.proofs.Common.{◌≡◌, List, [], map, take}
use Rattle.std.proofs.lemmas.Result.{IfOk-weaker, IfErr-weaker}
use Rattle.gtp_machine.specs.World.{Event}
use Rattle.gtp_world.specs.Ends.{IsCutShort, IsStoppedIn}
use Rattle.gtp_world.specs.Events.{event_of}
use Rattle.gtp_world.specs.Record.{WorldRecord}
use Rattle.gtp_world.specs.Runs.{Setup, begun, LeftByRun, ContinuesRun, IsSafe}
use Rattle.gtp_world.specs.declared.run.RunFault.{RunFault}
use Rattle.gtp_world.specs.declared.run.RunFault.TheVariants.{Start, At}
use Rattle.gtp_world.proofs.Running.{begun_whole}
use Rattle.gtp_world.proofs.Safe.{run_safe}
use Rattle.gtp_world.proofs.world.World.run.Goals as goal

-- a fault of the world that goes on is one of the run
as_run : (setup : Setup) (first : WorldRecord) (events : List Event) (fault : RunFault) → first ≡ begun setup → LeftByRun setup [] first
    → IsStoppedIn first events fault → IsCutShort setup events fault
as_run setup first events Start is run stopped = absurd stopped
as_run setup first events (At count world) is run stopped = (stopped.0, begun_whole setup first (take count events) world is run stopped.1)

pub returns-in-Ok-clause-run : goal.returns-in-Ok-clause-run
returns-in-Ok-clause-run c =
    let setup = c.args.config.now in
    let events = map event_of c.args.events.now in
    IfOk-weaker c.resume.result (λ (world : WorldRecord). ContinuesRun c.in-Ok.world events world)
    (λ (world : WorldRecord). LeftByRun setup events world) (λ world on. (on setup [] c.in-Ok.ensures.run).whole) c.resume.ensures.run

pub returns-in-Ok-clause-safe : goal.returns-in-Ok-clause-safe
returns-in-Ok-clause-safe c =
    let setup = c.args.config.now in
    let events = map event_of c.args.events.now in
    IfOk-weaker c.resume.result (λ (world : WorldRecord). LeftByRun setup events world) (λ (world : WorldRecord). IsSafe world)
    (λ world run. run_safe setup events world run) (returns-in-Ok-clause-run c)

pub returns-in-Ok-clause-fault : goal.returns-in-Ok-clause-fault
returns-in-Ok-clause-fault c =
    let setup = c.args.config.now in
    let events = map event_of c.args.events.now in
    IfErr-weaker c.resume.result (λ (fault : RunFault). IsStoppedIn c.in-Ok.world events fault) (λ (fault : RunFault). IsCutShort setup events fault)
    (λ fault stopped. as_run setup c.in-Ok.world events fault c.in-Ok.ensures.begun c.in-Ok.ensures.run stopped) c.resume.ensures.fault

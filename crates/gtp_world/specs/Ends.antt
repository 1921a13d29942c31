-- Runs that end early.
use Rattle.std.specs.Prelude.{◌<◌, List, length, take}
use Rattle.gtp_machine.specs.World.{Event}
use Rattle.gtp_world.specs.Record.{WorldRecord}
use Rattle.gtp_world.specs.Runs.{Setup, ContinuesRun, RanWhole}
use Rattle.gtp_world.specs.Stepped.{EventsLeave}
use Rattle.gtp_world.specs.declared.run.RunFault.{RunFault}
use Rattle.gtp_world.specs.declared.run.RunFault.TheVariants.{Start, At}

-- Memory ran out in a run of these events. At an event: the count of those before it is below that of all, and what `run` promises holds of those before.
-- Before the gateways were made: nothing is said.
abbrev pub IsCutShort : Setup → List Event → RunFault → Type 0
IsCutShort setup events Start = Unit {0}
IsCutShort setup events (At count world) = (count < length events) × RanWhole setup (take count events) world

-- what `resume` promises of a world after these events
pub record HasGone (old : WorldRecord) (events : List Event) (new : WorldRecord) : Type 0 where
  pub comes : EventsLeave old events new
  pub run : ContinuesRun old events new

-- Memory ran out at one of these events. The count of those before it is below that of all, and what `resume` promises holds of those before.
abbrev pub IsStoppedIn : WorldRecord → List Event → RunFault → Type 0
IsStoppedIn old events Start = ⊥
IsStoppedIn old events (At count world) = (count < length events) × HasGone old (take count events) world

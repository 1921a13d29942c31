-- What running a scenario gives.
use Rattle.std.specs.Prelude.{◌≡◌, map}
use Rattle.gtp_world.specs.Events.{event_of}
use Rattle.gtp_world.specs.Runs.{RanWhole}
use Rattle.gtp_scenario.specs.Scenarios.{Scenario}
use Rattle.gtp_replay.specs.declared.replaying.Ran.{Ran}
use Rattle.gtp_replay.specs.Told.{events_of}

-- the events of the scenario, and the world that a run of them leaves
pub record IsRan (scenario : Scenario) (ran : Ran) : Type 0 where
  pub events : map event_of ran.events.items ≡ events_of scenario
  pub run : RanWhole scenario.setup (events_of scenario) ran.world

-- The exchange that makes a session (TS 29.274, 7.2.1 and 7.2.2).
use Rattle.std.specs.Prelude.{◌≡◌, ◌<◌, ℕ, ◌+◌, List, [], ◌∷◌, Some, length, take}
use Rattle.gtp_machine.specs.Exchange.{Exchanged}
use Rattle.gtp_machine.specs.Input.{Specification, Create_session}
use Rattle.gtp_machine.specs.declared.outcome.Outcome.TheVariants.{Begun, Answered, Opened}
use Rattle.gtp_machine.specs.declared.role.Role.TheVariants.{Serving}
use Rattle.gtp_machine.specs.World.{World, Event, Does, Deliver, EventOutcome, Came_to, Happens}
use Rattle.gtp_world.specs.Record.{WorldRecord}
use Rattle.gtp_world.specs.Runs.{ContinuesRun, LeftBySomeRun, StandsFor}
use Rattle.gtp_world.specs.Stepped.{EventsLeave}

-- the command, and the deliveries of its request, the datagram of this number, and of the answer, the next
abbrev pub exchange_events : Specification → ℕ → List Event
exchange_events spec next = Does Serving (Create_session spec) ∷ Deliver next ∷ Deliver (next + 1) ∷ []

-- Not all of the events have come to what they come to, but the first of them; a run goes on by those.
pub record CameSoFar (old : WorldRecord) (events : List Event) (new : WorldRecord) : Type 0 where
  pub count : ℕ
  pub few : count < 3
  pub comes : EventsLeave old (take count events) new
  pub run : ContinuesRun old (take count events) new

-- After a run, the three events make a session. From the world of the machine that the run has reached they lead to three worlds, and the last is what is left. Their
-- outcomes are begun, answered with cause 18 if both IP versions were asked for and one is given, else 16, and opened; the session is new at both gateways, and carries
-- packets in both directions.
pub record IsExchanged (spec : Specification) (old : WorldRecord) (r : LeftBySomeRun old) (outcomes : List EventOutcome) (new : WorldRecord) : Type 0 where
  pub begun : World
  pub answered : World
  pub opened : World
  pub begins : Happens r.run.world (Does Serving (Create_session spec)) begun
  pub answers : Happens begun (Deliver (length old.log.datagrams)) answered
  pub opens : Happens answered (Deliver (length old.log.datagrams + 1)) opened
  pub exchanged : Exchanged spec r.run.world begun answered opened
  pub outcomes_are : outcomes ≡ Came_to (Begun (Some exchanged.made.session)) ∷ Came_to (Answered exchanged.cause) ∷ Came_to Opened ∷ []
  pub stands : StandsFor r.setup new opened

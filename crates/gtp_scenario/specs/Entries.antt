-- Entries of the list of events.
use Rattle.std.specs.Prelude.{ℕ, List, codes, Option, Some, replicate}
use Rattle.serde_json.specs.Data.{Data}
use Rattle.serde_json.specs.Find.{get}
use Rattle.gtp_machine.specs.World.{Event}
use Rattle.gtp_scenario.specs.Steps.{◌>>=◌}
use Rattle.gtp_scenario.specs.Json.{text_at, text_if, number_or, within}
use Rattle.gtp_scenario.specs.Events.{event_named}

-- an event, how often it happens, and the first word of what it has to come to, if that is said
pub record Entry : Type 0 where
  pub event : Event
  pub times : ℕ
  pub expect : Option (List ℕ)

-- no event but a tick has the key `times`
unfoldable pub entry_of : Data → Option Entry
entry_of d = do
  word ← text_at (codes "do") d
  event ← event_named word d
  times ← number_or 1 (get (codes "times") d) >>= within 1 1000
  expect ← text_if (get (codes "expect") d)
  Some (record { event = event; times = times; expect = expect })

-- the events of an entry
abbrev pub events_in : Entry → List Event
events_in entry = replicate entry.times entry.event

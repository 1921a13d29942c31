-- Where reading data stops; for private clauses.
use Rattle.std.specs.Prelude.{◌≡◌, Some, Err}
use Rattle.serde_json.specs.Data.{Data, Items}
use Rattle.gtp_world.specs.Runs.{Setup}
use Rattle.gtp_scenario.specs.declared.halt.Halt.{Halt}
use Rattle.gtp_scenario.specs.declared.halt.Halt.TheVariants as halts
use Rattle.gtp_scenario.specs.declared.halt.Halted.{Halted}
use Rattle.gtp_scenario.specs.declared.reason.event.EventFlaw.{EventFlaw}
use Rattle.gtp_scenario.specs.declared.reason.event.EventFlaw.TheVariants as event
use Rattle.gtp_scenario.specs.Heads.{setup_of, events_at}
use Rattle.gtp_scenario.specs.Named.{name_of}
use Rattle.gtp_scenario.specs.Reasons.{IsEntryFlaw}
use Rattle.gtp_scenario.specs.Scenarios.{IsListRead}

-- the head is one, and reading its list of events stops so
pub record IsHaltedIn (d : Data) (halted : Halted) : Type 0 where
  pub setup : Setup
  pub head : setup_of d ≡ Some setup
  pub items : Items
  pub list : events_at d ≡ Some items
  pub halts : IsListRead setup items (Err halted)

-- it names this, and that is not there
abbrev pub IsNothing : Data → EventFlaw → Type 0
IsNothing d (event.Nothing name) = name_of d ≡ Some name
IsNothing d flaw = ⊥

abbrev pub IsTooMany : EventFlaw → Type 0
IsTooMany event.TooMany = Unit {0}
IsTooMany flaw = ⊥

-- what is wrong with an entry at which reading stops so
abbrev pub IsFlawFor : Halt → Data → EventFlaw → Type 0
IsFlawFor halts.Nothing d flaw = IsNothing d flaw
IsFlawFor halts.Wrong d flaw = IsEntryFlaw d flaw
IsFlawFor halts.TooMany d flaw = IsTooMany flaw

-- What is written for octets is determined.
use Rattle.std.specs.Prelude.{◌≡◌, ℕ, List, Result, MatchResult}
use Rattle.gtp_machine.specs.World.{Event}
use Rattle.gtp_world.specs.Determined.{WorldsAlike}
use Rattle.gtp_world.specs.Record.{WorldRecord}
use Rattle.gtp_scenario.specs.declared.fault.Refusal.{Refusal}
use Rattle.gtp_scenario.specs.Scenarios.{Scenario, IsReading}
use Rattle.gtp_replay.specs.Told.{Tells, IsText, events_of}
use Rattle.gtp_replay.specs.declared.replaying.Form.{Form}
use Rattle.gtp_replay.specs.declared.verdict.Verdict.{Verdict}

-- Worlds that are alike have one text in each form: one report, one diagram, one picture, one capture and one JSON.
abbrev pub WorldsHaveOneText : Type 0
WorldsHaveOneText =
    (form : Form) (events : List Event) (one other : WorldRecord) (text other_text : List ℕ)
    → WorldsAlike one other
    → IsText form events one text
    → IsText form events other other_text
    → text ≡ other_text

-- Whatever octets come, there is one text of them in each form, or one line of a refusal, and one verdict.
abbrev pub OctetsHaveOneText : Type 0
OctetsHaveOneText =
    (form : Form) (octets text other_text : List ℕ) (verdict other_verdict : Verdict)
    → Tells form octets text verdict
    → Tells form octets other_text other_verdict
    → (text ≡ other_text) × (verdict ≡ other_verdict)

-- What is written of a scenario in two forms is of worlds that are alike.
pub record OfOneRun (form other : Form) (scenario : Scenario) (text other_text : List ℕ) : Type 0 where
  pub world : WorldRecord
  pub other_world : WorldRecord
  pub alike : WorldsAlike world other_world
  pub text_is : IsText form (events_of scenario) world text
  pub other_is : IsText other (events_of scenario) other_world other_text

-- Whatever octets come, what is told of them in two forms has one verdict, and is of one run, or is one line of a refusal.
abbrev pub FormsAreOfOneRun : Type 0
FormsAreOfOneRun =
    (form other : Form) (octets text other_text : List ℕ) (verdict other_verdict : Verdict)
    → Tells form octets text verdict
    → Tells other octets other_text other_verdict
    → (verdict ≡ other_verdict) × ((reading : Result Scenario Refusal) → IsReading octets reading → MatchResult reading (λ s. OfOneRun form other s text other_text) (λ _. text ≡ other_text))

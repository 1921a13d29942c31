-- What is written for what was read.
use Rattle.std.specs.Prelude.{◌≡◌, ℕ, List, ◌++◌, Result, Ok, MatchResult, codes, decimal, Option, Some, None}
use Rattle.std.specs.Io.KnownBytes.{Appends}
use Rattle.std.specs.List.{flat_map}
use Rattle.gtp_machine.specs.Config.{Addresses}
use Rattle.gtp_machine.specs.World.{Event}
use Rattle.gtp_machine.specs.declared.role.Role.{Role}
use Rattle.gtp_machine.specs.declared.role.Role.TheVariants.{Serving, Packet}
use Rattle.gtp_world.specs.Record.{WorldRecord, gateway_in}
use Rattle.gtp_world.specs.Runs.{RanWhole}
use Rattle.gtp_scenario.specs.declared.fault.Refusal.{Refusal}
use Rattle.gtp_scenario.specs.declared.fault.Refusal.TheVariants as refusals
use Rattle.gtp_scenario.specs.Entries.{events_in}
use Rattle.gtp_scenario.specs.Scenarios.{Scenario, IsReading}
use Rattle.gtp_replay.specs.Captures.{IsCaptureOf, IsFirstWithoutPacket}
use Rattle.gtp_replay.specs.Report.{IsReport}
use Rattle.gtp_replay.specs.Rows.{Row, rows_of}
use Rattle.gtp_replay.specs.Diagram.{IsDiagram}
use Rattle.gtp_replay.specs.Svg.{IsSvg}
use Rattle.gtp_run_json.specs.Run.{IsRunJson}
use Rattle.gtp_replay.specs.declared.replaying.Form.{Form}
use Rattle.gtp_replay.specs.declared.replaying.Form.TheVariants.{Report, Diagram, Svg, Capture, Json}
use Rattle.gtp_replay.specs.declared.verdict.Verdict.{Verdict}
use Rattle.gtp_replay.specs.declared.verdict.Verdict.TheVariants.{Expected, Unexpected, Bad}
use Rattle.gtp_replay.specs.Expected.{first_unmet}
use Rattle.gtp_counted.specs.Streams.{WritesFront}

-- the events of a scenario, each as often as its entry says
abbrev pub events_of : Scenario → List Event
events_of scenario = flat_map events_in scenario.entries

-- the verdict, by the first event that did not come to what is expected
abbrev pub verdict_by : Option ℕ → Verdict
verdict_by None = Expected
verdict_by (Some event) = Unexpected event

-- whether each event came to what is expected, in this world
abbrev pub verdict_on : Scenario → WorldRecord → Verdict
verdict_on scenario world = verdict_by (first_unmet scenario.entries world.log.notes)

-- the rows of a diagram of a world in which these events happened
abbrev pub rows_in : List Event → WorldRecord → List Row
rows_in events world = rows_of events world.log.datagrams world.log.notes

-- the addresses of a gateway of a world
abbrev pub own_in : WorldRecord → Role → Addresses
own_in world role = (gateway_in world role).settings.config.own

-- a text of a world in which these events happened, in a form
abbrev pub IsText : Form → List Event → WorldRecord → List ℕ → Type 0
IsText Report events world text = IsReport events world text
IsText Diagram events world text = IsDiagram (rows_in events world) text
IsText Svg events world text = IsSvg (own_in world Serving) (own_in world Packet) (rows_in events world) text
IsText Capture events world text = IsCaptureOf world text
IsText Json events world text = IsRunJson events world text

-- In a world that a run of the scenario's events leaves, the text is one of it in this form, and the verdict says whether each event came to what is expected.
pub record TellsScenario (form : Form) (scenario : Scenario) (text : List ℕ) (verdict : Verdict) : Type 0 where
  pub world : WorldRecord
  pub run : RanWhole scenario.setup (events_of scenario) world
  pub text_is : IsText form (events_of scenario) world text
  pub verdict_is : verdict ≡ verdict_on scenario world

-- the line of a refusal
abbrev pub refusal_line : Refusal → List ℕ
refusal_line refusals.Json = codes "bad json\n"
refusal_line refusals.Head = codes "bad scenario head\n"
refusal_line (refusals.Event place) = codes "bad scenario event " ++ decimal place ++ codes "\n"

-- the text is that line
pub record TellsRefusal (refusal : Refusal) (text : List ℕ) (verdict : Verdict) : Type 0 where
  pub line : text ≡ refusal_line refusal
  pub verdict_is : verdict ≡ Bad

-- the text and the verdict of a reading: by the scenario, or by the first thing that is wrong
abbrev pub TellsReading : Form → Result Scenario Refusal → List ℕ → Verdict → Type 0
TellsReading form reading text verdict = MatchResult reading (λ scenario. TellsScenario form scenario text verdict) (λ refusal. TellsRefusal refusal text verdict)

-- the text and the verdict for these octets, in this form
pub record Tells (form : Form) (octets : List ℕ) (text : List ℕ) (verdict : Verdict) : Type 0 where
  pub reading : Result Scenario Refusal
  pub of : IsReading octets reading
  pub tells : TellsReading form reading text verdict

-- a capture is wanted, and this is the number of the first datagram that no packet carries, in a world that a run of the scenario leaves
pub record LacksPacket (form : Form) (scenario : Scenario) (number : ℕ) : Type 0 where
  pub wanted : form ≡ Capture
  pub world : WorldRecord
  pub run : RanWhole scenario.setup (events_of scenario) world
  pub first : IsFirstWithoutPacket world.log.datagrams number

-- of octets that are a scenario
pub record HasNoCapture (form : Form) (octets : List ℕ) (number : ℕ) : Type 0 where
  pub scenario : Scenario
  pub of : IsReading octets (Ok scenario)
  pub lacks : LacksPacket form scenario number

-- a writer whose contents are known has such a text after what it had
abbrev pub Told : Form → List ℕ → Verdict → Option (List ℕ) → Option (List ℕ) → Type 0
Told form octets verdict before now = (text : List ℕ) × Tells form octets text verdict × Appends before now text

-- or a beginning of one
abbrev pub ToldFront : Form → List ℕ → Option (List ℕ) → Option (List ℕ) → Type 0
ToldFront form octets before now = (text : List ℕ) × (verdict : Verdict) × Tells form octets text verdict × WritesFront before now text

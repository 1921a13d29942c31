-- One text in each form for the octets of a scenario.
use Rattle.std.proofs.Common.{◌≡◌, ℕ, List, Result, Ok, Err, sym, subst, ◌∙◌, ap}
use Rattle.gtp_world.specs.Record.{Log}
use Rattle.gtp_world.proofs.Determined.Runs.{follow_one}
use Rattle.gtp_scenario.specs.declared.fault.Refusal.{Refusal}
use Rattle.gtp_scenario.specs.Scenarios.{Scenario}
use Rattle.gtp_scenario.proofs.OneReading.{one_reading}
use Rattle.gtp_replay.specs.Determined.{WorldsHaveOneText, OctetsHaveOneText}
use Rattle.gtp_replay.specs.Expected.{first_unmet}
use Rattle.gtp_replay.specs.Told.{TellsScenario, TellsRefusal, TellsReading, events_of, verdict_by}
use Rattle.gtp_replay.specs.declared.replaying.Form.{Form}
use Rattle.gtp_replay.specs.declared.replaying.Form.TheVariants.{Report, Diagram, Svg, Capture, Json}
use Rattle.gtp_replay.specs.declared.verdict.Verdict.{Verdict}
use Rattle.gtp_replay.proofs.Determined.{report_one}
use Rattle.gtp_replay.proofs.OneText.{diagram_one, svg_one, capture_one, json_one}

pub text_one : WorldsHaveOneText
text_one Report events one other text other_text alike r s = report_one events one other text other_text alike r s
text_one Diagram events one other text other_text alike r s = diagram_one events one other text other_text alike r s
text_one Svg events one other text other_text alike r s = svg_one events one other text other_text alike r s
text_one Capture events one other text other_text alike r s = capture_one one other text other_text alike r s
text_one Json events one other text other_text alike r s = json_one events one other text other_text alike r s

scenario_one : (form : Form) (scenario : Scenario) (text other_text : List ℕ) (verdict other_verdict : Verdict) → TellsScenario form scenario text verdict
    → TellsScenario form scenario other_text other_verdict → (text ≡ other_text) × (verdict ≡ other_verdict)
scenario_one form scenario text other_text verdict other_verdict r s =
    let alike = follow_one scenario.setup (events_of scenario) r.world s.world r.run.comes s.run.comes in (
      text_one form (events_of scenario) r.world s.world text other_text alike r.text_is s.text_is,
      r.verdict_is ∙ (ap (λ (l : Log). verdict_by (first_unmet scenario.entries l.notes)) alike.log ∙ sym s.verdict_is),
    )

refusal_one : (refusal : Refusal) (text other_text : List ℕ) (verdict other_verdict : Verdict) → TellsRefusal refusal text verdict
    → TellsRefusal refusal other_text other_verdict → (text ≡ other_text) × (verdict ≡ other_verdict)
refusal_one refusal text other_text verdict other_verdict r s = (r.line ∙ sym s.line, r.verdict_is ∙ sym s.verdict_is)

tell_by : (form : Form) (text other_text : List ℕ) (verdict other_verdict : Verdict) (reading : Result Scenario Refusal)
    → TellsReading form reading text verdict → TellsReading form reading other_text other_verdict → (text ≡ other_text) × (verdict ≡ other_verdict)
tell_by form text other_text verdict other_verdict (Ok scenario) p q = scenario_one form scenario text other_text verdict other_verdict p q
tell_by form text other_text verdict other_verdict (Err refusal) p q = refusal_one refusal text other_text verdict other_verdict p q

pub tell_one : OctetsHaveOneText
tell_one form octets text other_text verdict other_verdict r s =
    tell_by form text other_text verdict other_verdict r.reading r.tells
    (subst (λ (o : Result Scenario Refusal). TellsReading form o other_text other_verdict) (one_reading octets s.reading r.reading s.of r.of) s.tells)

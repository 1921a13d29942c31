-- What is told of a scenario is told of its octets.
use Rattle.std.proofs.Common.{◌≡◌, ℕ, List, Result, Ok, Err, IfOk, IfErr}
use Rattle.gtp_scenario.specs.Scenarios.{Scenario, IsReading}
use Rattle.gtp_replay.specs.Faults.{IsMemoryOr}
use Rattle.gtp_replay.specs.Told.{TellsScenario, Tells, LacksPacket, HasNoCapture}
use Rattle.gtp_replay.specs.declared.replaying.Form.{Form}
use Rattle.gtp_replay.specs.declared.verdict.Verdict.{Verdict}
use Rattle.gtp_replay.specs.declared.verdict.ReplayFault.{ReplayFault}
use Rattle.gtp_replay.specs.declared.verdict.ReplayFault.TheVariants as faults

pub tells_octets : {X : Type 0} (text : X → List ℕ) (verdict : X → Verdict) (form : Form) (octets : List ℕ) (scenario : Scenario) (r : Result X ReplayFault)
    → IsReading octets (Ok scenario) → IfOk r (λ p. TellsScenario form scenario (text p) (verdict p))
    → IfOk r (λ p. Tells form octets (text p) (verdict p))
tells_octets text verdict form octets scenario (Ok p) of tells = record { reading = Ok scenario; of = of; tells = tells }
tells_octets text verdict form octets scenario (Err e) of tells = tt

lacks_by : (form : Form) (octets : List ℕ) (scenario : Scenario) (e : ReplayFault) → IsReading octets (Ok scenario) → IsMemoryOr e (LacksPacket form scenario) → IsMemoryOr e (HasNoCapture form octets)
lacks_by form octets scenario faults.Read of lacks = absurd lacks
lacks_by form octets scenario faults.Write of lacks = absurd lacks
lacks_by form octets scenario faults.Memory of lacks = tt
lacks_by form octets scenario (faults.NoPacket number) of lacks = record { scenario = scenario; of = of; lacks = lacks }

pub lacks_octets : {X : Type 0} (form : Form) (octets : List ℕ) (scenario : Scenario) (r : Result X ReplayFault) → IsReading octets (Ok scenario)
    → IfErr r (λ e. IsMemoryOr e (LacksPacket form scenario)) → IfErr r (λ e. IsMemoryOr e (HasNoCapture form octets))
lacks_octets form octets scenario (Ok p) of lacks = tt
lacks_octets form octets scenario (Err e) of lacks = lacks_by form octets scenario e of lacks

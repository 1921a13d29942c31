-- Why a line says no gateway.
use Rattle.std.specs.Prelude.{◌≡◌, ℕ, ◌<◌, ◌≤◌, List, length, Some, IsSome}
use Rattle.serde_json.specs.Data.{Data}
use Rattle.gtp_scenario.specs.Reasons.{IsJsonFlaw, IsGatewayFlaw}
use Rattle.gtp_scenario.specs.Scenarios.{json_of}
use Rattle.gtp_serve.specs.declared.reason.HeadReason.{HeadReason}
use Rattle.gtp_serve.specs.declared.reason.HeadReason.TheVariants as reasons
use Rattle.gtp_serve.specs.Served.{most_octets}
use Rattle.gtp_serve.specs.Heads.{head_in}

-- the line says a gateway
abbrev pub SaysGateway : List ℕ → Type 0
SaysGateway line = (length line ≤ most_octets) × IsSome (head_in line)

-- what is said of the line is so
abbrev pub IsWhy : List ℕ → HeadReason → Type 0
IsWhy line reasons.TooLong = most_octets < length line
IsWhy line (reasons.Json flaw) = IsJsonFlaw line flaw
IsWhy line (reasons.Gateway flaw) = (d : Data) × (json_of line ≡ Some d) × IsGatewayFlaw d flaw

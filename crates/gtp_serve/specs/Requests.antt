-- Which JSON data ask what of a gateway.
use Rattle.std.specs.Prelude.{ℕ, List, [], ◌∷◌, codes, if◌then◌else◌, bytes_eq, is_some, Option, Some, None}
use Rattle.serde_json.specs.Data.{Data}
use Rattle.serde_json.specs.Find.{get}
use Rattle.gtp_values.specs.declared.address.Endpoint.{Endpoint}
use Rattle.gtp_values.specs.declared.plane.Plane.{Plane}
use Rattle.gtp_values.specs.declared.plane.Plane.TheVariants.{Control, User}
use Rattle.gtp_machine.specs.Input.{Command, Send_echo, Send_user}
use Rattle.gtp_machine.specs.World.{Event, Does}
use Rattle.gtp_scenario.specs.Events.{teid_at, payload_at, event_named}
use Rattle.gtp_scenario.specs.Json.{text_at, number_at, within, has_only}
use Rattle.gtp_scenario.specs.Scenarios.{json_of}
use Rattle.gtp_scenario.specs.Steps.{◌>>=◌}
use Rattle.gtp_scenario.specs.Texts.{octets_of}
use Rattle.gtp_serve.specs.Heads.{ip_at}

-- what is asked of a gateway: to do what a command says, to take a datagram from somewhere, to let a tick pass, or to list its contexts
pub data Request : Type 0 where
  Commands : Command → Request
  Receives : Plane → Endpoint → List ℕ → Request
  Ticks : Request
  Lists : Request

-- ---- values of keys

abbrev pub plane_of : List ℕ → Option Plane
plane_of text = if bytes_eq text (codes "control") then Some Control else if bytes_eq text (codes "user") then Some User else None

unfoldable pub plane_at : Data → Option Plane
plane_at d = text_at (codes "plane") d >>= plane_of

-- an address and a port: 0 to 65,535
unfoldable pub endpoint_of : Data → Option Endpoint
endpoint_of d =
    if has_only (codes "address" ∷ codes "port" ∷ []) d
    then (do
      ip ← ip_at (codes "address") d
      port ← number_at (codes "port") d >>= within 0 65535
      Some (record { ip = ip; port = port }))
    else None

unfoldable pub source_at : Data → Option Endpoint
source_at d = get (codes "from") d >>= endpoint_of

unfoldable pub octets_at : Data → Option (List ℕ)
octets_at d = text_at (codes "octets") d >>= octets_of

-- ---- requests, by the word of `do`: each has these keys and no others

unfoldable pub receive_of : Data → Option Request
receive_of d =
    if has_only (codes "do" ∷ codes "plane" ∷ codes "from" ∷ codes "octets" ∷ []) d
    then (do
      plane ← plane_at d
      source ← source_at d
      octets ← octets_at d
      Some (Receives plane source octets))
    else None

-- a request that has no key of its own
abbrev pub lone : Request → Data → Option Request
lone request d = if has_only (codes "do" ∷ []) d then Some request else None

unfoldable pub send_of : Data → Option Request
send_of d =
    if has_only (codes "do" ∷ codes "teid" ∷ codes "payload" ∷ []) d
    then (do
      teid ← teid_at d
      payload ← payload_at d
      Some (Commands (Send_user teid payload)))
    else None

-- the command of an event
abbrev pub commanded : Event → Option Request
commanded (Does role command) = Some (Commands command)
commanded event = None

-- a command as an event of a scenario says it, which expects nothing
unfoldable pub command_named : List ℕ → Data → Option Request
command_named word d = if is_some (get (codes "expect") d) then None else event_named word d >>= commanded

unfoldable pub request_named : List ℕ → Data → Option Request
request_named word d =
    if bytes_eq word (codes "receive") then receive_of d
    else if bytes_eq word (codes "tick") then lone Ticks d
    else if bytes_eq word (codes "contexts") then lone Lists d
    else if bytes_eq word (codes "echo") then lone (Commands Send_echo) d
    else if bytes_eq word (codes "send") then send_of d
    else command_named word d

unfoldable pub request_of : Data → Option Request
request_of d = do
  word ← text_at (codes "do") d
  request_named word d

-- what a line asks
unfoldable pub request_in : List ℕ → Option Request
request_in line = json_of line >>= request_of

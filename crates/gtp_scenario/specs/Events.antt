-- Which JSON data are which events.
use Rattle.std.specs.Prelude.{ℕ, List, [], ◌∷◌, length, false, nat_le, codes, if◌then◌else◌, bytes_eq, Option, Some, None}
use Rattle.serde_json.specs.Data.{Data}
use Rattle.serde_json.specs.Find.{get}
use Rattle.gtp_values.specs.Plmn.{Network}
use Rattle.gtp_values.specs.declared.qos.Ambr.{Ambr}
use Rattle.gtp_values.specs.declared.qos.Rates.{Rates}
use Rattle.gtp_values.specs.declared.qos.Qos.{Qos}
use Rattle.gtp_machine.specs.declared.role.Role.{Role}
use Rattle.gtp_machine.specs.declared.role.Role.TheVariants.{Serving, Packet}
use Rattle.gtp_machine.specs.Element.{Subscriber}
use Rattle.gtp_machine.specs.Input.{Specification, Create_session, Delete_session, Create_bearer, Delete_bearer, Release_session, Mark_end, Send_echo, Send_user}
use Rattle.gtp_machine.specs.World.{Event, Does, Tick, Deliver, Cut, Restart}
use Rattle.gtp_scenario.specs.Steps.{◌>>=◌}
use Rattle.gtp_scenario.specs.Json.{text_at, number_at, number_or, within, has_only}
use Rattle.gtp_scenario.specs.Texts.{imsi_of, apn_of, teid_of, octets_of}

-- ---- what all scenarios have in common

-- the test network: MCC 001, MNC 01
abbrev pub network : Network
network = record { mcc = 0 ∷ 0 ∷ 1 ∷ []; mnc = 0 ∷ 1 ∷ [] }

-- no bit rate
abbrev pub no_rates : Rates
no_rates = record { up = 0; down = 0 }

-- class 9, with priority level 8
abbrev pub qos : Qos
qos = record { pci = false; pl = 8; pvi = false; qci = 9; mbr = no_rates; gbr = no_rates }

-- 1,000 kilobits a second both ways
abbrev pub ambr : Ambr
ambr = record { up = 1000; down = 1000 }

-- a session over E-UTRAN (RAT type 6)
abbrev pub session_for : Subscriber → ℕ → Specification
session_for subscriber pdn = record { subscriber = subscriber; rat = 6; network = network; selection = 0; pdn = pdn; ambr = ambr; qos = qos }

-- ---- values of keys

-- a gateway, by its name
abbrev pub role_of : List ℕ → Option Role
role_of text = if bytes_eq text (codes "serving") then Some Serving else if bytes_eq text (codes "packet") then Some Packet else None

unfoldable pub node_at : Data → Option Role
node_at d = text_at (codes "node") d >>= role_of

unfoldable pub teid_at : Data → Option ℕ
teid_at d = text_at (codes "teid") d >>= teid_of

-- the identity of a bearer: 5 to 15
unfoldable pub ebi_at : Data → Option ℕ
ebi_at d = number_at (codes "ebi") d >>= within 5 15

-- a PDN type: 0 to 7, and IPv4 where there is none
unfoldable pub pdn_at : Data → Option ℕ
pdn_at d = number_or 1 (get (codes "pdn") d) >>= within 0 7

unfoldable pub subscriber_at : Data → Option Subscriber
subscriber_at d = do
  imsi ← text_at (codes "imsi") d >>= imsi_of
  apn ← text_at (codes "apn") d >>= apn_of
  ebi ← ebi_at d
  Some (record { imsi = imsi; access_point = apn; identity = ebi })

-- a traffic flow template: at most 255 octets
unfoldable pub tft_at : Data → Option (List ℕ)
tft_at d = do
  octets ← text_at (codes "tft") d >>= octets_of
  if nat_le (length octets) 255 then Some octets else None

unfoldable pub payload_at : Data → Option (List ℕ)
payload_at d = text_at (codes "payload") d >>= octets_of

-- ---- events, by the word of `do`: each has these keys and no others

unfoldable pub create_session_of : Data → Option Event
create_session_of d =
    if has_only (codes "do" ∷ codes "expect" ∷ codes "imsi" ∷ codes "apn" ∷ codes "ebi" ∷ codes "pdn" ∷ []) d
    then (do
      subscriber ← subscriber_at d
      pdn ← pdn_at d
      Some (Does Serving (Create_session (session_for subscriber pdn))))
    else None

-- the TEID of an event that has no key of its own beside it
unfoldable pub lone_teid_of : Data → Option ℕ
lone_teid_of d = if has_only (codes "do" ∷ codes "expect" ∷ codes "teid" ∷ []) d then teid_at d else None

unfoldable pub delete_session_of : Data → Option Event
delete_session_of d = do
  teid ← lone_teid_of d
  Some (Does Serving (Delete_session teid))

unfoldable pub release_session_of : Data → Option Event
release_session_of d = do
  teid ← lone_teid_of d
  Some (Does Packet (Release_session teid))

unfoldable pub end_marker_of : Data → Option Event
end_marker_of d = do
  teid ← lone_teid_of d
  Some (Does Packet (Mark_end teid))

unfoldable pub create_bearer_of : Data → Option Event
create_bearer_of d =
    if has_only (codes "do" ∷ codes "expect" ∷ codes "teid" ∷ codes "tft" ∷ []) d
    then (do
      teid ← teid_at d
      tft ← tft_at d
      Some (Does Packet (Create_bearer teid tft qos)))
    else None

unfoldable pub delete_bearer_of : Data → Option Event
delete_bearer_of d =
    if has_only (codes "do" ∷ codes "expect" ∷ codes "teid" ∷ codes "ebi" ∷ []) d
    then (do
      teid ← teid_at d
      ebi ← ebi_at d
      Some (Does Packet (Delete_bearer teid ebi)))
    else None

-- the gateway of an event that has no key of its own beside it
unfoldable pub lone_node_of : Data → Option Role
lone_node_of d = if has_only (codes "do" ∷ codes "expect" ∷ codes "node" ∷ []) d then node_at d else None

unfoldable pub echo_of : Data → Option Event
echo_of d = do
  node ← lone_node_of d
  Some (Does node Send_echo)

unfoldable pub restart_of : Data → Option Event
restart_of d = do
  node ← lone_node_of d
  Some (Restart node)

unfoldable pub tick_of : Data → Option Event
tick_of d =
    if has_only (codes "do" ∷ codes "expect" ∷ codes "node" ∷ codes "times" ∷ []) d
    then (do
      node ← node_at d
      Some (Tick node))
    else None

unfoldable pub send_of : Data → Option Event
send_of d =
    if has_only (codes "do" ∷ codes "expect" ∷ codes "node" ∷ codes "teid" ∷ codes "payload" ∷ []) d
    then (do
      node ← node_at d
      teid ← teid_at d
      payload ← payload_at d
      Some (Does node (Send_user teid payload)))
    else None

unfoldable pub deliver_of : Data → Option Event
deliver_of d =
    if has_only (codes "do" ∷ codes "expect" ∷ codes "datagram" ∷ []) d
    then (do
      datagram ← number_at (codes "datagram") d
      Some (Deliver datagram))
    else None

unfoldable pub cut_of : Data → Option Event
cut_of d =
    if has_only (codes "do" ∷ codes "expect" ∷ codes "datagram" ∷ codes "length" ∷ []) d
    then (do
      datagram ← number_at (codes "datagram") d
      length ← number_at (codes "length") d
      Some (Cut datagram length))
    else None

unfoldable pub event_named : List ℕ → Data → Option Event
event_named word d =
    if bytes_eq word (codes "create_session") then create_session_of d
    else if bytes_eq word (codes "delete_session") then delete_session_of d
    else if bytes_eq word (codes "release_session") then release_session_of d
    else if bytes_eq word (codes "end_marker") then end_marker_of d
    else if bytes_eq word (codes "create_bearer") then create_bearer_of d
    else if bytes_eq word (codes "delete_bearer") then delete_bearer_of d
    else if bytes_eq word (codes "echo") then echo_of d
    else if bytes_eq word (codes "restart") then restart_of d
    else if bytes_eq word (codes "tick") then tick_of d
    else if bytes_eq word (codes "send") then send_of d
    else if bytes_eq word (codes "deliver") then deliver_of d
    else if bytes_eq word (codes "cut") then cut_of d
    else None

-- How entries are written in JSON.
use Rattle.std.specs.Prelude.{◌≡◌, ℕ, ◌≤◌, ◌<◌, ◌^◌, List, length, codes, Option, Some, None}
use Rattle.hex.specs.Hex.{encode_lower, IsBytes}
use Rattle.serde_json.specs.Data.{Data, string, number, unsigned, object, Members, no_members, put}
use Rattle.gtp_values.specs.Imsi.{IsImsi, digits_text}
use Rattle.gtp_values.specs.Apn.{IsApn, apn_text}
use Rattle.gtp_values.specs.Ebi.{IsEbi}
use Rattle.gtp_values.specs.Teid.{teid_text}
use Rattle.gtp_machine.specs.declared.role.Role.{Role}
use Rattle.gtp_machine.specs.declared.role.Role.TheVariants.{Serving, Packet}
use Rattle.gtp_machine.specs.Input.{Specification, Command, Create_session, Delete_session, Create_bearer, Delete_bearer, Release_session, Mark_end, Send_echo, Send_user}
use Rattle.gtp_machine.specs.World.{Event, Does, Tick, Deliver, Cut, Restart}
use Rattle.gtp_scenario.specs.Events.{qos, session_for}
use Rattle.gtp_scenario.specs.Words.{role_text, word_of}
use Rattle.gtp_scenario.specs.Entries.{Entry}

-- ---- members of an object

-- the key with this text, and these members
abbrev pub with_text : List ℕ → List ℕ → Members → Members
with_text key text members = put key (string text) members

-- the key with this number, and these members
abbrev pub with_number : List ℕ → ℕ → Members → Members
with_number key n members = put key (number (unsigned n)) members

abbrev pub with_node : Role → Members → Members
with_node node members = with_text (codes "node") (role_text node) members

abbrev pub with_teid : ℕ → Members → Members
with_teid teid members = with_text (codes "teid") (teid_text teid) members

-- ---- entries

abbrev pub session_members : Specification → Members
session_members s =
    with_text (codes "imsi") (digits_text s.subscriber.imsi)
    (with_text (codes "apn") (apn_text s.subscriber.access_point)
    (with_number (codes "ebi") s.subscriber.identity
    (with_number (codes "pdn") s.pdn no_members)))

-- what a command says beside its word
abbrev pub command_members : Role → Command → Members
command_members node (Create_session spec) = session_members spec
command_members node (Delete_session teid) = with_teid teid no_members
command_members node (Create_bearer teid tft of) = with_teid teid (with_text (codes "tft") (encode_lower tft) no_members)
command_members node (Delete_bearer teid ebi) = with_teid teid (with_number (codes "ebi") ebi no_members)
command_members node (Release_session teid) = with_teid teid no_members
command_members node (Mark_end teid) = with_teid teid no_members
command_members node Send_echo = with_node node no_members
command_members node (Send_user teid payload) = with_node node (with_teid teid (with_text (codes "payload") (encode_lower payload) no_members))

-- what an event says beside its word, and how often it happens where that may be said
abbrev pub event_members : Event → ℕ → Members
event_members (Does node command) times = command_members node command
event_members (Tick node) times = with_node node (with_number (codes "times") times no_members)
event_members (Deliver datagram) times = with_number (codes "datagram") datagram no_members
event_members (Cut datagram size) times = with_number (codes "datagram") datagram (with_number (codes "length") size no_members)
event_members (Restart node) times = with_node node no_members

-- the event, by its word
abbrev pub named_members : Event → ℕ → Members
named_members event times = with_text (codes "do") (word_of event) (event_members event times)

-- what it has to come to, where that is said
abbrev pub expecting : Option (List ℕ) → Members → Members
expecting None members = members
expecting (Some word) members = with_text (codes "expect") word members

abbrev pub spelling : Entry → Data
spelling entry = object (expecting entry.expect (named_members entry.event entry.times))

-- ---- what may be written

-- a session of a scenario
pub record IsSession (s : Specification) : Type 0 where
  pub imsi : IsImsi s.subscriber.imsi
  pub access_point : IsApn s.subscriber.access_point
  pub identity : IsEbi s.subscriber.identity
  pub pdn : s.pdn ≤ 7
  pub rest : s ≡ session_for s.subscriber s.pdn

-- a command of a scenario: each at the gateway that takes it, with values in their ranges
abbrev pub IsCommand : Role → Command → Type 0
IsCommand node (Create_session s) = (node ≡ Serving) × IsSession s
IsCommand node (Delete_session teid) = (node ≡ Serving) × (teid < 2 ^ 32)
IsCommand node (Create_bearer teid tft of) = (node ≡ Packet) × (teid < 2 ^ 32) × (length tft ≤ 255) × IsBytes tft × (of ≡ qos)
IsCommand node (Delete_bearer teid ebi) = (node ≡ Packet) × (teid < 2 ^ 32) × IsEbi ebi
IsCommand node (Release_session teid) = (node ≡ Packet) × (teid < 2 ^ 32)
IsCommand node (Mark_end teid) = (node ≡ Packet) × (teid < 2 ^ 32)
IsCommand node Send_echo = Unit {0}
IsCommand node (Send_user teid payload) = (teid < 2 ^ 32) × IsBytes payload

-- an event of a scenario, which happens so often
abbrev pub IsEvent : Event → ℕ → Type 0
IsEvent (Does node command) times = (times ≡ 1) × IsCommand node command
IsEvent (Tick node) times = (1 ≤ times) × (times ≤ 1000)
IsEvent (Deliver datagram) times = times ≡ 1
IsEvent (Cut datagram size) times = times ≡ 1
IsEvent (Restart node) times = times ≡ 1

-- the numbers of an event that may be any have 64 bits, as those of the program
abbrev pub FitsIn64Bits : Event → Type 0
FitsIn64Bits (Deliver datagram) = datagram < 2 ^ 64
FitsIn64Bits (Cut datagram size) = (datagram < 2 ^ 64) × (size < 2 ^ 64)
FitsIn64Bits event = Unit {0}

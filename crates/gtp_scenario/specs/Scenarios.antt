-- Which octets are which scenario, and why others are none.
use Rattle.std.specs.Prelude.{◌≡◌, ◌≢◌, ◌≤◌, ℕ, ◌+◌, ◌-◌, List, [], ◌∷◌, ◌++◌, ◌&&◌, length, map, nat_le, if◌then◌else◌, Option, Some, None, option_map, MatchOption, MatchResult, Result, Ok, Err}
use Rattle.std.specs.List.{flat_map}
use Rattle.std.specs.Str.{is_utf8}
use Rattle.serde_json.specs.Data.{Data, Items, no_items, item}
use Rattle.serde_json.specs.Read.{read}
use Rattle.gtp_scenario.specs.Steps.{◌>>=◌}
use Rattle.gtp_world.specs.Runs.{Setup}
use Rattle.gtp_scenario.specs.declared.fault.Refusal.{Refusal}
use Rattle.gtp_scenario.specs.declared.fault.Refusal.TheVariants as refusals
use Rattle.gtp_scenario.specs.declared.halt.Halt.{Halt}
use Rattle.gtp_scenario.specs.declared.halt.Halt.TheVariants as halts
use Rattle.gtp_scenario.specs.declared.halt.Halted.{Halted}
use Rattle.gtp_scenario.specs.declared.name.Name.{Name}
use Rattle.gtp_scenario.specs.declared.name.Name.TheVariants.{Newest, All, Session, Bearer}
use Rattle.gtp_scenario.specs.Entries.{Entry, entry_of, events_in}
use Rattle.gtp_scenario.specs.Heads.{setup_of, events_at}
use Rattle.gtp_scenario.specs.Named.{name_of, entry_about, delivery, expected_of}
use Rattle.gtp_scenario.specs.Past.{Past, just_begun, Happen, newest, session_named, bearer_named, node_in, DeliversFirst}

-- how both gateways are set up, and what happens to them
pub record Scenario : Type 0 where
  pub setup : Setup
  pub entries : List Entry

abbrev pub most_octets : ℕ
most_octets = 16777216

abbrev pub most_events : ℕ
most_events = 100000

-- JSON is text in UTF-8, and not too long
unfoldable pub json_of : List ℕ → Option Data
json_of octets = if nat_le (length octets) most_octets && is_utf8 octets then read octets else None

-- ---- entries

-- how many events entries have
abbrev pub count_in : List Entry → ℕ
count_in entries = length (flat_map events_in entries)

-- these entries have happened
abbrev pub Follow : Past → List Entry → Past → Type 0
Follow old entries new = Happen old (flat_map events_in entries) new

-- they have happened from the beginning
abbrev pub HasHappened : Setup → List Entry → Past → Type 0
HasHappened setup before past = Follow (just_begun setup) before past

-- one entry, where there is room for its events
abbrev pub one_within : ℕ → Entry → Result (List Entry) Halt
one_within room entry = if nat_le entry.times room then Ok (entry ∷ []) else Err halts.TooMany

-- an entry, if it is one
abbrev pub entry_or : Option Entry → ℕ → Result (List Entry) Halt
entry_or None room = Err halts.Wrong
entry_or (Some entry) room = one_within room entry

-- an entry that has all of its numbers
unfoldable pub whole_entry : ℕ → Data → Result (List Entry) Halt
whole_entry room d = entry_or (entry_of d) room

-- an entry that names something, with the number of that if it is there
unfoldable pub named_entry : ℕ → Option ℕ → (ℕ → Option Entry) → Result (List Entry) Halt
named_entry room None entry = Err halts.Nothing
named_entry room (Some number) entry = entry_or (entry number) room

-- the delivery of the datagram that was sent last
abbrev pub delivery_of : Data → ℕ → Option Entry
delivery_of d number = option_map (λ expect. delivery expect number) (expected_of d)

-- All that wait are delivered, each as the first of those that wait then, until none waits; or there is no room for all.
abbrev pub AreDelivered : ℕ → Option (List ℕ) → Past → Result (List Entry) Halt → Type 0
AreDelivered room expect past (Ok entries) =
    (numbers : List ℕ) × (end : Past) × DeliversFirst past numbers end × (end.waiting ≡ []) × (length numbers ≤ room) × (entries ≡ map (delivery expect) numbers)
AreDelivered room expect past (Err halt) =
    (numbers : List ℕ) × (end : Past) × DeliversFirst past numbers end × (end.waiting ≢ []) × (length numbers ≡ room) × (halt ≡ halts.TooMany)

-- What an entry comes to by its name, where what happened before it leaves such a past, and there is room for so many events.
abbrev pub IsReadBy : Option Name → (Past → Type 0) → ℕ → Data → Result (List Entry) Halt → Type 0
IsReadBy None IsPast room d reading = reading ≡ whole_entry room d
IsReadBy (Some Newest) IsPast room d reading =
    (past : Past) × IsPast past × (reading ≡ named_entry room (newest past) (delivery_of d))
IsReadBy (Some All) IsPast room d reading =
    MatchOption (expected_of d) (reading ≡ Err halts.Wrong) (λ expect.
    (past : Past) × IsPast past × AreDelivered room expect past reading)
IsReadBy (Some (Session node name)) IsPast room d reading =
    (past : Past) × IsPast past × (reading ≡ named_entry room (session_named name (node_in past node)) (λ teid. entry_about teid d))
IsReadBy (Some (Bearer node name)) IsPast room d reading =
    (past : Past) × IsPast past × (reading ≡ named_entry room (bearer_named name (node_in past node)) (λ teid. entry_about teid d))

-- what an entry comes to after these
abbrev pub IsRead : Setup → List Entry → ℕ → Data → Result (List Entry) Halt → Type 0
IsRead setup before room d reading = IsReadBy (name_of d) (HasHappened setup before) room d reading

-- What a list comes to from this place on, where these entries are before it and there is room for so many events: to these entries and those of each item, up to
-- the first item that is none.
abbrev pub AreRead : Setup → ℕ → List Entry → ℕ → Items → Result (List Entry) Halted → Type 0
AreRead setup place before room no_items reading = reading ≡ Ok before
AreRead setup place before room (item d items) reading =
    (first : Result (List Entry) Halt) × IsRead setup before room d first × MatchResult first
    (λ entries. AreRead setup (place + 1) (before ++ entries) (room - count_in entries) items reading)
    (λ halt. reading ≡ Err (record { place = place; halt = halt }))

-- what all items of a list of events come to
abbrev pub IsListRead : Setup → Items → Result (List Entry) Halted → Type 0
IsListRead setup items reading = AreRead setup 0 [] most_events items reading

-- ---- octets

-- what is set up, and the list of events
pub record Head : Type 0 where
  pub setup : Setup
  pub items : Items

unfoldable pub head_in : Data → Option Head
head_in d = do
  setup ← setup_of d
  items ← events_at d
  Some (record { setup = setup; items = items })

-- a scenario, if its list of events is one
abbrev pub scenario_by : Setup → Result (List Entry) Halted → Result Scenario Refusal
scenario_by setup (Ok entries) = Ok (record { setup = setup; entries = entries })
scenario_by setup (Err halted) = Err (refusals.Event halted.place)

-- what is read after a head
pub record IsReadOn (head : Head) (reading : Result Scenario Refusal) : Type 0 where
  pub list : Result (List Entry) Halted
  pub read : IsListRead head.setup head.items list
  pub is : reading ≡ scenario_by head.setup list

-- what is read of data
abbrev pub IsReadIn : Option Head → Result Scenario Refusal → Type 0
IsReadIn (Some head) reading = IsReadOn head reading
IsReadIn None reading = reading ≡ Err refusals.Head

abbrev pub IsReadFrom : Option Data → Result Scenario Refusal → Type 0
IsReadFrom (Some d) reading = IsReadIn (head_in d) reading
IsReadFrom None reading = reading ≡ Err refusals.Json

-- What the octets say, or the first thing that is wrong with them: there is one such reading.
abbrev pub IsReading : List ℕ → Result Scenario Refusal → Type 0
IsReading octets reading = IsReadFrom (json_of octets) reading

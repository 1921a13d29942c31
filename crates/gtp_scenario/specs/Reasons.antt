-- When what is said of refused octets is so.
use Rattle.std.specs.Prelude.{◌≡◌, ℕ, ◌<◌, List, length, Bool, true, false, ◌&&◌, find, map, codes, string_bytes, Option, Some, None, option_map, is_some, Result, Err}
use Rattle.std.specs.List.{list_all}
use Rattle.std.specs.Option.{option_map_or}
use Rattle.std.specs.Result.{result_err}
use Rattle.std.specs.Str.{IsUtf8, IsValidUpTo}
use Rattle.gtp_machine.specs.declared.role.Role.{Role}
use Rattle.gtp_machine.specs.declared.role.Role.TheVariants.{Serving, Packet}
use Rattle.serde_json.specs.Data.{Data, Items}
use Rattle.serde_json.specs.Find.{get, get_item, as_array, as_object}
use Rattle.serde_json.specs.Read.{read}
use Rattle.gtp_world.specs.Runs.{Setup}
use Rattle.gtp_scenario.specs.declared.fault.Refusal.{Refusal}
use Rattle.gtp_scenario.specs.declared.fault.Refusal.TheVariants as refusals
use Rattle.gtp_scenario.specs.declared.halt.Halt.{Halt}
use Rattle.gtp_scenario.specs.declared.halt.Halt.TheVariants as halts
use Rattle.gtp_scenario.specs.declared.reason.key.Key.{Key}
use Rattle.gtp_scenario.specs.declared.reason.key.Key.TheVariants as keys
use Rattle.gtp_scenario.specs.declared.reason.flaw.ObjectFlaw.{ObjectFlaw}
use Rattle.gtp_scenario.specs.declared.reason.flaw.ObjectFlaw.TheVariants as flaws
use Rattle.gtp_scenario.specs.declared.reason.template.TemplateFlaw.{TemplateFlaw}
use Rattle.gtp_scenario.specs.declared.reason.template.TemplateFlaw.TheVariants as templates
use Rattle.gtp_scenario.specs.declared.reason.packet.PacketFlaw.{PacketFlaw}
use Rattle.gtp_scenario.specs.declared.reason.packet.PacketFlaw.TheVariants as packet
use Rattle.gtp_scenario.specs.declared.reason.head.HeadFlaw.{HeadFlaw}
use Rattle.gtp_scenario.specs.declared.reason.head.HeadFlaw.TheVariants as head
use Rattle.gtp_scenario.specs.declared.reason.gateway.GatewayFlaw.{GatewayFlaw}
use Rattle.gtp_scenario.specs.declared.reason.gateway.GatewayFlaw.TheVariants as gateway
use Rattle.gtp_scenario.specs.declared.reason.kind.EventKind.{EventKind}
use Rattle.gtp_scenario.specs.declared.reason.event.EventFlaw.{EventFlaw}
use Rattle.gtp_scenario.specs.declared.reason.event.EventFlaw.TheVariants as event
use Rattle.gtp_scenario.specs.declared.reason.not_json.JsonFlaw.{JsonFlaw}
use Rattle.gtp_scenario.specs.declared.reason.not_json.JsonFlaw.TheVariants as json
use Rattle.gtp_scenario.specs.declared.reason.Reason.{Reason}
use Rattle.gtp_scenario.specs.declared.reason.Reason.TheVariants as reasons
use Rattle.gtp_scenario.specs.Steps.{◌>>=◌}
use Rattle.gtp_scenario.specs.Json.{text_at, is_among, has_only}
use Rattle.gtp_scenario.specs.Texts.{apn_of}
use Rattle.gtp_scenario.specs.Events.{role_of}
use Rattle.gtp_scenario.specs.Heads.{setup_of, access_points_at, pool_at, prefixes_at, events_at}
use Rattle.gtp_scenario.specs.Keys.{key_text, wanted_of, is_good, may_be_absent, is_met, is_unmet, kind_of, keys_in, name_key, member_keys, scenario_keys, serving_keys, packet_keys, template_keys, serving_gateway_keys, packet_gateway_keys, peer_keys}
use Rattle.gtp_scenario.specs.Named.{name_of}
use Rattle.gtp_scenario.specs.Scenarios.{Scenario, json_of, most_octets, IsListRead}

-- ---- objects

-- the object has this key, and it is none of its keys
pub record IsUnknown (known : List Key) (d : Data) (text : List ℕ) : Type 0 where
  pub there : is_some (get text d) ≡ true
  pub unknown : is_among (map key_text known) text ≡ false

-- the object needs this key and has none
pub record IsMissing (d : Data) (key : Key) : Type 0 where
  pub absent : get (key_text key) d ≡ None
  pub needed : may_be_absent d key ≡ false

-- the value of this key is not as it has to be
pub record IsBad (d : Data) (key : Key) : Type 0 where
  pub value : Data
  pub there : get (key_text key) d ≡ Some value
  pub bad : is_good (wanted_of key) value ≡ false

-- of these keys it is the first at which something is wrong
abbrev pub IsFirst : List Key → Data → Key → Type 0
IsFirst known d key = find (is_unmet d) known ≡ Some key

-- what is wrong with an object that is to have these keys
abbrev pub IsFlaw : List Key → Data → ObjectFlaw → Type 0
IsFlaw known d flaws.NoObject = as_object d ≡ None
IsFlaw known d (flaws.Unknown text) = IsUnknown known d (string_bytes text)
IsFlaw known d (flaws.Missing key) = IsFirst known d key × IsMissing d key
IsFlaw known d (flaws.Bad key) = IsFirst known d key × IsBad d key

-- what is wrong with an object at this key, whatever its other keys are
abbrev pub IsFlawOfKey : Key → Data → ObjectFlaw → Type 0
IsFlawOfKey one d flaws.NoObject = as_object d ≡ None
IsFlawOfKey one d (flaws.Unknown text) = ⊥
IsFlawOfKey one d (flaws.Missing key) = (key ≡ one) × IsMissing d key
IsFlawOfKey one d (flaws.Bad key) = (key ≡ one) × IsBad d key

-- an object with no keys but these, and nothing is wrong at one of them
abbrev pub fits : List Key → Data → Bool
fits known d = has_only (map key_text known) d && list_all (is_met d) known

-- ---- gateways

-- the access point that a template names is one of these
abbrev pub names_one_of : List (List ℕ) → Data → Bool
names_one_of names d = option_map_or (is_among names) (text_at (codes "apn") d >>= apn_of) false

abbrev pub IsTemplateFlaw : List (List ℕ) → Data → TemplateFlaw → Type 0
IsTemplateFlaw names d (templates.Keys flaw) = IsFlaw template_keys d flaw
IsTemplateFlaw names d templates.NoAccessPoint = (name : List ℕ) × ((text_at (codes "apn") d >>= apn_of) ≡ Some name) × (is_among names name ≡ false)

-- the template at this place of the list
pub record IsTemplateAt (names : List (List ℕ)) (items : Items) (place : ℕ) (flaw : TemplateFlaw) : Type 0 where
  pub template : Data
  pub there : get_item place items ≡ Some template
  pub flawed : IsTemplateFlaw names template flaw

-- the template at this place of the packet gateway's
pub record IsTemplateOf (d : Data) (place : ℕ) (flaw : TemplateFlaw) : Type 0 where
  pub names : List (List ℕ)
  pub of : access_points_at d ≡ Some names
  pub items : Items
  pub list : (get (codes "templates") d >>= as_array) ≡ Some items
  pub at : IsTemplateAt names items place flaw

-- what is wrong with a packet gateway that is to have these keys; a pool is looked at where nothing is wrong with them
abbrev pub IsPacketFlaw : List Key → Data → PacketFlaw → Type 0
IsPacketFlaw known d (packet.Keys flaw) = IsFlaw known d flaw
IsPacketFlaw known d packet.PastLastAddress = (fits known d ≡ true) × (pool_at d ≡ None)
IsPacketFlaw known d packet.PastLastPrefix = (fits known d ≡ true) × (prefixes_at d ≡ None)
IsPacketFlaw known d (packet.Template place flaw) = IsTemplateOf d place flaw

-- what is wrong with the object that is the value of a key
abbrev pub IsFlawAt : {F : Type 0} → (Data → F → Type 0) → List ℕ → Data → F → Type 0
IsFlawAt IsFlawIn key d flaw = (e : Data) × (get key d ≡ Some e) × IsFlawIn e flaw

abbrev pub IsHeadFlaw : Data → HeadFlaw → Type 0
IsHeadFlaw d (head.Scenario flaw) = IsFlaw scenario_keys d flaw
IsHeadFlaw d (head.Serving flaw) = IsFlawAt (IsFlaw serving_keys) (codes "serving") d flaw
IsHeadFlaw d (head.Packet flaw) = IsFlawAt (IsPacketFlaw packet_keys) (codes "packet") d flaw

-- ---- a gateway by itself

-- the gateway that a head says to be
abbrev pub role_at : Data → Option Role
role_at d = text_at (codes "role") d >>= role_of

abbrev pub IsGatewayFlaw : Data → GatewayFlaw → Type 0
IsGatewayFlaw d (gateway.Role flaw) = IsFlawOfKey keys.Role d flaw
IsGatewayFlaw d (gateway.Serving flaw) = (role_at d ≡ Some Serving) × IsFlaw serving_gateway_keys d flaw
IsGatewayFlaw d (gateway.Packet flaw) = (role_at d ≡ Some Packet) × IsPacketFlaw packet_gateway_keys d flaw
IsGatewayFlaw d (gateway.Peer flaw) = IsFlawAt (IsFlaw peer_keys) (codes "peer") d flaw

-- ---- events

-- its word is that of an event of this kind
abbrev pub IsOfKind : Data → EventKind → Type 0
IsOfKind d kind = (text_at (codes "do") d >>= kind_of) ≡ Some kind

-- what is wrong with an entry that has no word
abbrev pub IsWordless : Data → ObjectFlaw → Type 0
IsWordless d flaw = IsFlawOfKey keys.Do d flaw

-- what is wrong with the session or bearer that is named at this key
abbrev pub IsNameFlaw : Data → Option Key → ObjectFlaw → Type 0
IsNameFlaw d None flaw = ⊥
IsNameFlaw d (Some key) flaw = IsFlawAt (IsFlaw (member_keys key)) (key_text key) d flaw

-- what is wrong with an entry itself
abbrev pub IsEntryFlaw : Data → EventFlaw → Type 0
IsEntryFlaw d (event.Entry flaw) = IsWordless d flaw
IsEntryFlaw d (event.NoEvent word) = (text_at (codes "do") d ≡ Some (string_bytes word)) × (kind_of (string_bytes word) ≡ None)
IsEntryFlaw d (event.Keys kind flaw) = IsOfKind d kind × IsFlaw (keys_in d kind) d flaw
IsEntryFlaw d (event.Named kind flaw) = IsOfKind d kind × IsNameFlaw d (name_key kind) flaw
IsEntryFlaw d (event.Nothing name) = ⊥
IsEntryFlaw d event.TooMany = ⊥

-- reading a list of events stops at this place, for this
abbrev pub IsHaltedAt : Setup → Items → ℕ → Halt → Type 0
IsHaltedAt setup items place halt = IsListRead setup items (Err (record { place = place; halt = halt }))

-- what is wrong with the entry at a place of the list
abbrev pub IsEventFlaw : Setup → Items → ℕ → Data → EventFlaw → Type 0
IsEventFlaw setup items place d (event.Nothing name) = (name_of d ≡ Some name) × IsHaltedAt setup items place halts.Nothing
IsEventFlaw setup items place d event.TooMany = IsHaltedAt setup items place halts.TooMany
IsEventFlaw setup items place d flaw = IsEntryFlaw d flaw

pub record IsEventAt (d : Data) (place : ℕ) (flaw : EventFlaw) : Type 0 where
  pub setup : Setup
  pub head : setup_of d ≡ Some setup
  pub items : Items
  pub list : events_at d ≡ Some items
  pub entry : Data
  pub there : get_item place items ≡ Some entry
  pub flawed : IsEventFlaw setup items place entry flaw

-- ---- octets

-- what is said of data is so
abbrev pub IsSaid : Data → Reason → Type 0
IsSaid d (reasons.Json flaw) = ⊥
IsSaid d (reasons.Head flaw) = IsHeadFlaw d flaw
IsSaid d (reasons.Event place flaw) = IsEventAt d place flaw

-- why octets are no JSON
abbrev pub IsJsonFlaw : List ℕ → JsonFlaw → Type 0
IsJsonFlaw octets json.TooLong = most_octets < length octets
IsJsonFlaw octets (json.NotText valid) = (¬ IsUtf8 octets) × IsValidUpTo octets valid
IsJsonFlaw octets (json.NotJson line column) = IsUtf8 octets × (read octets ≡ None)

-- what is said of octets is so
abbrev pub IsSo : List ℕ → Reason → Type 0
IsSo octets (reasons.Json flaw) = IsJsonFlaw octets flaw
IsSo octets (reasons.Head flaw) = (d : Data) × (json_of octets ≡ Some d) × IsHeadFlaw d flaw
IsSo octets (reasons.Event place flaw) = (d : Data) × (json_of octets ≡ Some d) × IsEventAt d place flaw

-- the refusal that a reason explains
abbrev pub refusal_of : Reason → Refusal
refusal_of (reasons.Json flaw) = refusals.Json
refusal_of (reasons.Head flaw) = refusals.Head
refusal_of (reasons.Event place flaw) = refusals.Event place

-- the refusal of a reading is the one that is explained, if it is refused
abbrev pub IsExplained : (Result Scenario Refusal → Type 0) → Option Reason → Type 0
IsExplained IsReadSo reason = (reading : Result Scenario Refusal) × IsReadSo reading × (option_map refusal_of reason ≡ result_err reading)

-- The keys of the objects of a scenario, and what stands at them.
use Rattle.std.specs.Prelude.{ℕ, List, [], ◌∷◌, length, Bool, true, false, not, nat_le, codes, bytes_eq, ◌||◌, if◌then◌else◌, Option, Some, None, is_some, is_none}
use Rattle.std.specs.Option.{option_map_or}
use Rattle.serde_json.specs.Data.{Data}
use Rattle.serde_json.specs.Find.{get, as_str, as_array, as_object}
use Rattle.gtp_scenario.specs.declared.reason.key.Key.{Key}
use Rattle.gtp_scenario.specs.declared.reason.key.Key.TheVariants as keys
use Rattle.gtp_scenario.specs.declared.reason.wanted.Wanted.{Wanted}
use Rattle.gtp_scenario.specs.declared.reason.wanted.Wanted.TheVariants as wanted
use Rattle.gtp_scenario.specs.declared.reason.kind.EventKind.{EventKind}
use Rattle.gtp_scenario.specs.declared.reason.kind.EventKind.TheVariants as kinds
use Rattle.gtp_scenario.specs.Steps.{◌>>=◌}
use Rattle.gtp_scenario.specs.Json.{whole_number, within, count_of}
use Rattle.gtp_scenario.specs.Texts.{imsi_of, apn_of, teid_of, octets_of, address_of, ipv6_of}
use Rattle.gtp_scenario.specs.Events.{role_of}
use Rattle.gtp_machine.specs.Config.{no_switches}
use Rattle.gtp_scenario.specs.Heads.{access_points_in, switches_in}
use Rattle.gtp_scenario.specs.Names.{session_name_of, bearer_name_of}

-- ---- keys

abbrev pub key_text : Key → List ℕ
key_text keys.T3Response = codes "t3"
key_text keys.N3Requests = codes "n3"
key_text keys.Hold = codes "hold"
key_text keys.Serving = codes "serving"
key_text keys.Packet = codes "packet"
key_text keys.Events = codes "events"
key_text keys.Control = codes "control"
key_text keys.User = codes "user"
key_text keys.Counter = codes "counter"
key_text keys.Apns = codes "apns"
key_text keys.Pool = codes "pool"
key_text keys.Count = codes "count"
key_text keys.Pool6 = codes "pool6"
key_text keys.Count6 = codes "count6"
key_text keys.Templates = codes "templates"
key_text keys.Switches = codes "switches"
key_text keys.Apn = codes "apn"
key_text keys.Tft = codes "tft"
key_text keys.Do = codes "do"
key_text keys.Expect = codes "expect"
key_text keys.Times = codes "times"
key_text keys.Imsi = codes "imsi"
key_text keys.Ebi = codes "ebi"
key_text keys.Pdn = codes "pdn"
key_text keys.Teid = codes "teid"
key_text keys.Node = codes "node"
key_text keys.Payload = codes "payload"
key_text keys.Datagram = codes "datagram"
key_text keys.DatagramOrAll = codes "datagram"
key_text keys.Length = codes "length"
key_text keys.Session = codes "session"
key_text keys.Bearer = codes "bearer"
key_text keys.Role = codes "role"
key_text keys.ControlAddress = codes "control"
key_text keys.UserAddress = codes "user"
key_text keys.Peer = codes "peer"

-- the keys of each object, in order
abbrev pub scenario_keys : List Key
scenario_keys = keys.T3Response ∷ keys.N3Requests ∷ keys.Hold ∷ keys.Serving ∷ keys.Packet ∷ keys.Events ∷ []

abbrev pub serving_keys : List Key
serving_keys = keys.Control ∷ keys.User ∷ keys.Counter ∷ keys.Switches ∷ []

abbrev pub packet_keys : List Key
packet_keys = keys.Control ∷ keys.User ∷ keys.Counter ∷ keys.Apns ∷ keys.Pool ∷ keys.Count ∷ keys.Pool6 ∷ keys.Count6 ∷ keys.Templates ∷ keys.Switches ∷ []

abbrev pub template_keys : List Key
template_keys = keys.Apn ∷ keys.Tft ∷ []

-- the keys of a gateway by itself
abbrev pub serving_gateway_keys : List Key
serving_gateway_keys =
    keys.Role ∷ keys.ControlAddress ∷ keys.UserAddress ∷ keys.Peer ∷ keys.Counter ∷ keys.T3Response ∷ keys.N3Requests ∷ keys.Hold ∷
    keys.Switches ∷ []

abbrev pub packet_gateway_keys : List Key
packet_gateway_keys =
    keys.Role ∷ keys.ControlAddress ∷ keys.UserAddress ∷ keys.Peer ∷ keys.Counter ∷ keys.T3Response ∷ keys.N3Requests ∷ keys.Hold ∷
    keys.Apns ∷ keys.Pool ∷ keys.Count ∷ keys.Pool6 ∷ keys.Count6 ∷ keys.Templates ∷ keys.Switches ∷ []

abbrev pub peer_keys : List Key
peer_keys = keys.ControlAddress ∷ keys.UserAddress ∷ []

abbrev pub event_keys : EventKind → List Key
event_keys kinds.CreateSession = keys.Do ∷ keys.Expect ∷ keys.Imsi ∷ keys.Apn ∷ keys.Ebi ∷ keys.Pdn ∷ []
event_keys kinds.DeleteSession = keys.Do ∷ keys.Expect ∷ keys.Teid ∷ []
event_keys kinds.ReleaseSession = keys.Do ∷ keys.Expect ∷ keys.Teid ∷ []
event_keys kinds.EndMarker = keys.Do ∷ keys.Expect ∷ keys.Teid ∷ []
event_keys kinds.CreateBearer = keys.Do ∷ keys.Expect ∷ keys.Teid ∷ keys.Tft ∷ []
event_keys kinds.DeleteBearer = keys.Do ∷ keys.Expect ∷ keys.Teid ∷ keys.Ebi ∷ []
event_keys kinds.Echo = keys.Do ∷ keys.Expect ∷ keys.Node ∷ []
event_keys kinds.Restart = keys.Do ∷ keys.Expect ∷ keys.Node ∷ []
event_keys kinds.Tick = keys.Do ∷ keys.Expect ∷ keys.Node ∷ keys.Times ∷ []
event_keys kinds.Send = keys.Do ∷ keys.Expect ∷ keys.Node ∷ keys.Teid ∷ keys.Payload ∷ []
event_keys kinds.Deliver = keys.Do ∷ keys.Expect ∷ keys.DatagramOrAll ∷ []
event_keys kinds.Cut = keys.Do ∷ keys.Expect ∷ keys.Datagram ∷ keys.Length ∷ []

-- the same where a session or bearer is named in place of its TEID
abbrev pub named_keys : EventKind → List Key
named_keys kinds.DeleteSession = keys.Do ∷ keys.Expect ∷ keys.Session ∷ []
named_keys kinds.ReleaseSession = keys.Do ∷ keys.Expect ∷ keys.Session ∷ []
named_keys kinds.CreateBearer = keys.Do ∷ keys.Expect ∷ keys.Session ∷ keys.Tft ∷ []
named_keys kinds.DeleteBearer = keys.Do ∷ keys.Expect ∷ keys.Session ∷ keys.Ebi ∷ []
named_keys kinds.EndMarker = keys.Do ∷ keys.Expect ∷ keys.Bearer ∷ []
named_keys kinds.Send = keys.Do ∷ keys.Expect ∷ keys.Node ∷ keys.Bearer ∷ keys.Payload ∷ []
named_keys kind = event_keys kind

-- the key at which an event of this kind may name a session or bearer
abbrev pub name_key : EventKind → Option Key
name_key kinds.DeleteSession = Some keys.Session
name_key kinds.ReleaseSession = Some keys.Session
name_key kinds.CreateBearer = Some keys.Session
name_key kinds.DeleteBearer = Some keys.Session
name_key kinds.EndMarker = Some keys.Bearer
name_key kinds.Send = Some keys.Bearer
name_key _ = None

-- something stands at that key
abbrev pub is_named_at : Data → Option Key → Bool
is_named_at d None = false
is_named_at d (Some key) = is_some (get (key_text key) d)

-- the object has a name where an event of this kind may have one
abbrev pub has_name : Data → EventKind → Bool
has_name d kind = is_named_at d (name_key kind)

-- the keys of the name of a session or bearer
abbrev pub member_keys : Key → List Key
member_keys keys.Session = keys.Imsi ∷ keys.Apn ∷ []
member_keys keys.Bearer = keys.Imsi ∷ keys.Apn ∷ keys.Ebi ∷ []
member_keys _ = []

-- the keys that an object is to have as an event of this kind
abbrev pub keys_in : Data → EventKind → List Key
keys_in d kind = if has_name d kind then named_keys kind else event_keys kind

-- the event that a word names
abbrev pub kind_of : List ℕ → Option EventKind
kind_of word =
    if bytes_eq word (codes "create_session") then Some kinds.CreateSession
    else if bytes_eq word (codes "delete_session") then Some kinds.DeleteSession
    else if bytes_eq word (codes "release_session") then Some kinds.ReleaseSession
    else if bytes_eq word (codes "end_marker") then Some kinds.EndMarker
    else if bytes_eq word (codes "create_bearer") then Some kinds.CreateBearer
    else if bytes_eq word (codes "delete_bearer") then Some kinds.DeleteBearer
    else if bytes_eq word (codes "echo") then Some kinds.Echo
    else if bytes_eq word (codes "restart") then Some kinds.Restart
    else if bytes_eq word (codes "tick") then Some kinds.Tick
    else if bytes_eq word (codes "send") then Some kinds.Send
    else if bytes_eq word (codes "deliver") then Some kinds.Deliver
    else if bytes_eq word (codes "cut") then Some kinds.Cut
    else None

-- ---- what stands at a key

abbrev pub wanted_of : Key → Wanted
wanted_of keys.T3Response = wanted.Within 1 1000
wanted_of keys.N3Requests = wanted.Within 0 100
wanted_of keys.Hold = wanted.Within 1 100000
wanted_of keys.Serving = wanted.Object
wanted_of keys.Packet = wanted.Object
wanted_of keys.Events = wanted.List
wanted_of keys.Control = wanted.Address
wanted_of keys.User = wanted.Address
wanted_of keys.Counter = wanted.Within 0 255
wanted_of keys.Apns = wanted.AccessPoints
wanted_of keys.Pool = wanted.Address
wanted_of keys.Count = wanted.Within 0 65536
wanted_of keys.Pool6 = wanted.Address6
wanted_of keys.Count6 = wanted.Within 0 65536
wanted_of keys.Templates = wanted.List
wanted_of keys.Switches = wanted.Switches
wanted_of keys.Apn = wanted.AccessPoint
wanted_of keys.Tft = wanted.Tft
wanted_of keys.Do = wanted.Text
wanted_of keys.Expect = wanted.Text
wanted_of keys.Times = wanted.Within 1 1000
wanted_of keys.Imsi = wanted.Imsi
wanted_of keys.Ebi = wanted.Within 5 15
wanted_of keys.Pdn = wanted.Within 0 7
wanted_of keys.Teid = wanted.Teid
wanted_of keys.Node = wanted.Gateway
wanted_of keys.Payload = wanted.Octets
wanted_of keys.Datagram = wanted.Number
wanted_of keys.DatagramOrAll = wanted.NumberOrAll
wanted_of keys.Length = wanted.Number
wanted_of keys.Session = wanted.Session
wanted_of keys.Bearer = wanted.Bearer
wanted_of keys.Role = wanted.Gateway
wanted_of keys.ControlAddress = wanted.AddressOfEither
wanted_of keys.UserAddress = wanted.AddressOfEither
wanted_of keys.Peer = wanted.Object

-- a text is such a value
abbrev pub is_good_text : Wanted → List ℕ → Bool
is_good_text wanted.Text text = true
is_good_text wanted.Address text = is_some (address_of text)
is_good_text wanted.Address6 text = is_some (ipv6_of text)
is_good_text wanted.AddressOfEither text = is_some (address_of text) || is_some (ipv6_of text)
is_good_text wanted.AccessPoint text = is_some (apn_of text)
is_good_text wanted.Imsi text = is_some (imsi_of text)
is_good_text wanted.Teid text = is_some (teid_of text)
is_good_text wanted.Gateway text = is_some (role_of text)
is_good_text wanted.NumberOrAll text = bytes_eq text (codes "all")
is_good_text _ text = false

-- the octets that a value is in hexadecimal digits
abbrev pub octets_in : Data → Option (List ℕ)
octets_in d = as_str d >>= octets_of

-- a value is as it has to be
abbrev pub is_good : Wanted → Data → Bool
is_good wanted.Object d = is_some (as_object d)
is_good wanted.List d = is_some (as_array d)
is_good wanted.Number d = is_some (whole_number d)
is_good wanted.NumberOrAll d = is_some (whole_number d) || option_map_or (is_good_text wanted.NumberOrAll) (as_str d) false
is_good (wanted.Within low high) d = is_some (whole_number d >>= within low high)
is_good wanted.AccessPoints d = is_some (as_array d >>= λ items. if nat_le (count_of items) 16 then access_points_in items else None)
is_good wanted.Switches d = is_some (as_array d >>= λ items. switches_in items no_switches)
is_good wanted.Octets d = is_some (octets_in d)
is_good wanted.Tft d = is_some (octets_in d >>= λ octets. if nat_le (length octets) 255 then Some octets else None)
is_good wanted.Session d = is_some (session_name_of d)
is_good wanted.Bearer d = is_some (bearer_name_of d)
is_good kind d = option_map_or (is_good_text kind) (as_str d) false

-- the object may do without the key: a pool of IPv6 addresses has both of its keys or none, and an event without `datagram` is about the one that was sent last
abbrev pub may_be_absent : Data → Key → Bool
may_be_absent d keys.T3Response = true
may_be_absent d keys.N3Requests = true
may_be_absent d keys.Hold = true
may_be_absent d keys.Templates = true
may_be_absent d keys.Switches = true
may_be_absent d keys.Expect = true
may_be_absent d keys.Times = true
may_be_absent d keys.Pdn = true
may_be_absent d keys.DatagramOrAll = true
may_be_absent d keys.Pool6 = is_none (get (codes "count6") d)
may_be_absent d keys.Count6 = is_none (get (codes "pool6") d)
may_be_absent d _ = false

abbrev pub is_met_by : Data → Key → Option Data → Bool
is_met_by d key None = may_be_absent d key
is_met_by d key (Some value) = is_good (wanted_of key) value

-- what stands at the key is as it has to be
abbrev pub is_met : Data → Key → Bool
is_met d key = is_met_by d key (get (key_text key) d)

abbrev pub is_unmet : Data → Key → Bool
is_unmet d key = not (is_met d key)

-- What elements say, as JSON.
use Rattle.std.specs.Prelude.{ℕ, List, [], ◌++◌, Option, Some, None, Result, Ok, Err, codes}
use Rattle.std.specs.Net.Text.{ipv4_text}
use Rattle.hex.specs.Hex.{encode_lower}
use Rattle.json.specs.Json.{Json, string}
use Rattle.gtp_values.specs.declared.cause.Cause.{Cause}
use Rattle.gtp_values.specs.declared.cause.Offending.{Offending}
use Rattle.gtp_values.specs.declared.paa.Paa.{Paa}
use Rattle.gtp_values.specs.declared.paa.Paa.TheVariants as paas
use Rattle.gtp_values.specs.declared.qos.Qos.{Qos}
use Rattle.gtp_values.specs.declared.qos.Rates.{Rates}
use Rattle.gtp_values.specs.Apn.{apn_text}
use Rattle.gtp_values.specs.Bit.{bit}
use Rattle.gtp_values.specs.Imsi.{digits_text}
use Rattle.gtp_values.specs.Plmn.{Network}
use Rattle.gtp_values.specs.Teid.{teid_text}
use Rattle.gtp_values.specs.TunnelEnd.{TunnelEnd}
use Rattle.gtp_ie.specs.declared.fault.ReadFault.{ReadFault}
use Rattle.gtp_ie.specs.declared.form.Form.{Form}
use Rattle.gtp_ie.specs.Form.{name_of, form_of}
use Rattle.gtp_ie.specs.Value.{Value, OfImsi, OfCause, OfRecovery, OfApn, OfAmbr, OfEbi, OfPaa, OfQos, OfRat, OfPlmn, OfTft, OfFTeid, OfChargingId, OfPdnType, OfPti, OfSelection, value_at}
use Rattle.gtp_ie.specs.declared.form.Form.TheVariants as forms
use Rattle.gtp_codes.specs.Words.{word_in, cause_words, interface_type_words, pdn_type_words}
use Rattle.gtp_lines.specs.Words.{read_word}
use Rattle.gtp_json.specs.Tree.{member, object_of, number_of}

-- octets in lower case hexadecimal
abbrev pub hexadecimal : List ℕ → Json
hexadecimal octets = string (encode_lower octets)

abbrev pub teid_value : ℕ → Json
teid_value teid = string (teid_text teid)

-- an address of version 4, in dotted decimal
abbrev pub v4_member : List ℕ → List (List ℕ × Json)
v4_member v4 = member (codes "v4") (string (ipv4_text v4))

abbrev pub v6_member : List ℕ → List (List ℕ × Json)
v6_member v6 = member (codes "v6") (hexadecimal v6)

-- the word of a number, where it has one
abbrev pub word_members : List ℕ → Option (List ℕ) → List (List ℕ × Json)
word_members name None = []
word_members name (Some word) = member name (string word)

-- the element at fault, where there is one
abbrev pub offending_members : Option Offending → List (List ℕ × Json)
offending_members None = []
offending_members (Some o) = member (codes "offending") (object_of (member (codes "type") (number_of o.kind) ++ member (codes "instance") (number_of o.instance)))

abbrev pub cause_members : Cause → List (List ℕ × Json)
cause_members c = member (codes "cause") (number_of c.value) ++ (word_members (codes "cause_name") (word_in cause_words c.value) ++ offending_members c.offending)

-- both directions, in kilobits a second
abbrev pub both_ways : ℕ → ℕ → Json
both_ways up down = object_of (member (codes "uplink") (number_of up) ++ member (codes "downlink") (number_of down))

abbrev pub paa_members : Paa → List (List ℕ × Json)
paa_members (paas.V4 v4) = member (codes "kind") (string (codes "ipv4")) ++ v4_member v4
paa_members (paas.V6 prefix v6) = member (codes "kind") (string (codes "ipv6")) ++ (member (codes "prefix") (number_of prefix) ++ v6_member v6)
paa_members (paas.V4V6 prefix v6 v4) = member (codes "kind") (string (codes "ipv4v6")) ++ (member (codes "prefix") (number_of prefix) ++ (v6_member v6 ++ v4_member v4))
paa_members (paas.Other pdn) =
    member (codes "kind") (string (codes "other")) ++ (member (codes "pdn_type") (number_of pdn) ++ word_members (codes "pdn_type_name") (word_in pdn_type_words pdn))

abbrev pub rates_value : Rates → Json
rates_value r = both_ways r.up r.down

abbrev pub level_member : Qos → List (List ℕ × Json)
level_member q = member (codes "priority_level") (number_of q.pl)

-- the allocation and retention priority of a bearer (TS 29.274 8.15), then its class, and its rates
abbrev pub retention_members : Qos → List (List ℕ × Json)
retention_members q = member (codes "preemption_capability") (number_of (bit q.pci)) ++ (level_member q ++ member (codes "preemption_vulnerability") (number_of (bit q.pvi)))

abbrev pub rates_members : Qos → List (List ℕ × Json)
rates_members q = member (codes "maximum") (rates_value q.mbr) ++ member (codes "guaranteed") (rates_value q.gbr)

abbrev pub qos_members : Qos → List (List ℕ × Json)
qos_members q = retention_members q ++ (member (codes "class") (number_of q.qci) ++ rates_members q)

abbrev pub network_members : Network → List (List ℕ × Json)
network_members n = member (codes "mcc") (string (digits_text n.mcc)) ++ member (codes "mnc") (string (digits_text n.mnc))

-- the addresses of a tunnel end
abbrev pub v4_members : Option (List ℕ) → List (List ℕ × Json)
v4_members None = []
v4_members (Some v4) = v4_member v4

abbrev pub v6_members : Option (List ℕ) → List (List ℕ × Json)
v6_members None = []
v6_members (Some v6) = v6_member v6

abbrev pub interface_members : ℕ → List (List ℕ × Json)
interface_members n = member (codes "interface") (number_of n) ++ word_members (codes "interface_name") (word_in interface_type_words n)

abbrev pub end_members : TunnelEnd → List (List ℕ × Json)
end_members e = interface_members e.interface ++ (member (codes "teid") (teid_value e.teid) ++ (v4_members e.v4 ++ v6_members e.v6))

-- a value
unfoldable pub value_json : Value → Json
value_json (OfImsi digits) = string (digits_text digits)
value_json (OfCause c) = object_of (cause_members c)
value_json (OfRecovery n) = number_of n
value_json (OfApn octets) = string (apn_text octets)
value_json (OfAmbr a) = both_ways a.up a.down
value_json (OfEbi n) = number_of n
value_json (OfPaa p) = object_of (paa_members p)
value_json (OfQos q) = object_of (qos_members q)
value_json (OfRat n) = number_of n
value_json (OfPlmn n) = object_of (network_members n)
value_json (OfTft octets) = hexadecimal octets
value_json (OfFTeid e) = object_of (end_members e)
value_json (OfChargingId n) = number_of n
value_json (OfPdnType n) = number_of n
value_json (OfPti n) = number_of n
value_json (OfSelection n) = number_of n

abbrev pub octets_members : List ℕ → List (List ℕ × Json)
octets_members octets = member (codes "octets") (hexadecimal octets)

-- what was read of a body, by name; or its octets
abbrev pub named_members : List ℕ → List ℕ → Result Value ReadFault → List (List ℕ × Json)
named_members name body (Ok v) = member (codes "name") (string name) ++ member (codes "value") (value_json v)
named_members name body (Err f) = octets_members body

-- beside a value that is a number its word, where it has one
abbrev pub beside : Form → Result Value ReadFault → List (List ℕ × Json)
beside forms.Rat read = word_members (codes "value_name") (read_word read)
beside forms.PdnType read = word_members (codes "value_name") (read_word read)
beside form read = []

-- what a body of a form says; of another type its octets
abbrev pub form_members : Option Form → ℕ → List ℕ → List (List ℕ × Json)
form_members None kind body = octets_members body
form_members (Some form) kind body = named_members (name_of form) body (value_at kind body) ++ beside form (value_at kind body)

unfoldable pub body_members : ℕ → List ℕ → List (List ℕ × Json)
body_members kind body = form_members (form_of kind) kind body

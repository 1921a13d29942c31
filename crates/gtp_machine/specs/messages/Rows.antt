-- How the values in the rows of a message read, and how they are written. What octets spell has a value in each row that its
-- table needs; in lists that no octets spell, a number that is not there is 0, and so on.
use Rattle.std.specs.Prelude.{ℕ, zero, suc, ◌==◌, ◌&&◌, List, [], ◌∷◌, Option, Some, None, false, unwrap_or, option_map, option_to_list, if◌then◌else◌}
use Rattle.gtp_values.specs.Plmn.{Network}
use Rattle.gtp_values.specs.TunnelEnd.{TunnelEnd}
use Rattle.gtp_values.specs.declared.cause.Cause.{Cause}
use Rattle.gtp_values.specs.declared.qos.Ambr.{Ambr}
use Rattle.gtp_values.specs.declared.qos.Qos.{Qos}
use Rattle.gtp_values.specs.declared.qos.Rates.{Rates}
use Rattle.gtp_values.specs.declared.paa.Paa.{Paa}
use Rattle.gtp_ie.specs.Form.{number_of as number_of_form}
use Rattle.gtp_ie.specs.declared.form.Form.{Form}
use Rattle.gtp_ie.specs.Value.{Value, OfImsi, OfCause, OfRecovery, OfApn, OfAmbr, OfEbi, OfPaa, OfQos, OfRat, OfPlmn, OfTft, OfFTeid}
use Rattle.gtp_ie.specs.Value.{OfChargingId, OfPdnType, OfPti, OfSelection}
use Rattle.gtp_v2.specs.declared.table.Row.{Row}
use Rattle.gtp_v2.specs.Table.{kind_of, instance_of, Field, Plain, Groups}
use Rattle.gtp_v2.specs.Viewed.{row_of, several_of, contexts_of}
use Rattle.gtp_v2.specs.Message.{Fields, MessageValue}
use Rattle.gtp_machine.specs.Element.{cause_of}

-- ---- how they read

-- the number that a value is
abbrev pub number_of : Value → Option ℕ
number_of (OfRecovery n) = Some n
number_of (OfEbi n) = Some n
number_of (OfRat n) = Some n
number_of (OfChargingId n) = Some n
number_of (OfPdnType n) = Some n
number_of (OfPti n) = Some n
number_of (OfSelection n) = Some n
number_of _ = None

-- the digits of an IMSI, the octets of an access point name or of a TFT
abbrev pub octets_of : Value → Option (List ℕ)
octets_of (OfImsi digits) = Some digits
octets_of (OfApn octets) = Some octets
octets_of (OfTft octets) = Some octets
octets_of _ = None

-- the Cause (8.4) that a value is
abbrev pub cause_in : Value → Option Cause
cause_in (OfCause cause) = Some cause
cause_in _ = None

-- the F-TEID (8.22) that a value is
abbrev pub end_in : Value → Option TunnelEnd
end_in (OfFTeid end) = Some end
end_in _ = None

-- the Bearer QoS (8.15) that a value is
abbrev pub qos_in : Value → Option Qos
qos_in (OfQos qos) = Some qos
qos_in _ = None

-- the AMBR (8.7) that a value is
abbrev pub ambr_in : Value → Option Ambr
ambr_in (OfAmbr ambr) = Some ambr
ambr_in _ = None

-- the Serving Network (8.18) that a value is
abbrev pub network_in : Value → Option Network
network_in (OfPlmn network) = Some network
network_in _ = None

-- the PDN Address Allocation that a value is
abbrev pub paa_in : Value → Option Paa
paa_in (OfPaa paa) = Some paa
paa_in _ = None

-- what a row has, where it has a value
abbrev pub first_in : {X : Type 0} → (Value → Option X) → List Value → Option X
first_in is [] = None
first_in is (value ∷ values) = is value

-- the number of a row that is needed
abbrev pub number_at : List Value → ℕ
number_at values = unwrap_or (first_in number_of values) 0

-- the octets of a row that is needed
abbrev pub octets_at : List Value → List ℕ
octets_at values = unwrap_or (first_in octets_of values) []

-- the Cause of a row that is needed
abbrev pub cause_at : List Value → Cause
cause_at values = unwrap_or (first_in cause_in values) (cause_of 0)

-- the F-TEID of a row that is needed
abbrev pub end_at : List Value → TunnelEnd
end_at values = unwrap_or (first_in end_in values) (record { interface = 0; teid = 0; v4 = None; v6 = None })

-- no rates
abbrev pub no_rates : Rates
no_rates = record { up = 0; down = 0 }

-- the Bearer QoS of a row that is needed
abbrev pub qos_at : List Value → Qos
qos_at values = unwrap_or (first_in qos_in values) (record { pci = false; pl = 0; pvi = false; qci = 0; mbr = no_rates; gbr = no_rates })

-- the row of a bearer context with this place, the first being 0
abbrev pub row : ℕ → List (List Value) → List Value
row n [] = []
row zero (values ∷ rows) = values
row (suc n) (values ∷ rows) = row n rows

-- the place of the row of a type and instance in the table of a bearer context
abbrev pub place_in : List Row → ℕ → ℕ → ℕ
place_in [] kind instance = 0
place_in (r ∷ rows) kind instance = if (kind_of r == kind) && (instance_of r == instance) then 0 else suc (place_in rows kind instance)

-- the values in the row of a form and instance, of a bearer context with this table
abbrev pub context_row : List Row → Form → ℕ → List (List Value) → List Value
context_row table form instance rows = row (place_in table (number_of_form form) instance) rows

-- the values of a field
abbrev pub values_in : Field → List Value
values_in (Plain values) = values
values_in (Groups groups) = []

-- the bearer contexts of a field
abbrev pub groups_in : Field → List (List (List Value))
groups_in (Plain values) = []
groups_in (Groups groups) = groups

-- the values in the row of a form and instance
unfoldable pub row_in : Form → ℕ → MessageValue → List Value
row_in form instance m = row_of (number_of_form form) instance m

-- the values in the list of a form and instance
unfoldable pub list_in : Form → ℕ → MessageValue → List Value
list_in form instance m = several_of (number_of_form form) instance m

-- the bearer contexts
unfoldable pub contexts_in : MessageValue → List (List (List Value))
contexts_in m = contexts_of m

-- ---- how they are written

-- the value of a row that may be absent
abbrev pub where_there : {X : Type 0} → (X → Value) → Option X → List Value
where_there is value = option_to_list (option_map is value)

-- a message of this type, with this TEID and sequence number in its header, no priority, and these fields
abbrev pub typed : ℕ → Option ℕ → ℕ → List Field → MessageValue
typed kind teid number fields = record { kind = kind; teid = teid; seq = number; priority = None; content = Fields fields }

-- The values that elements have, what a body says, and the one body that is written for a value.
use Rattle.std.specs.Prelude.{ℕ, ◌+◌, ◌*◌, ◌^◌, ◌<◌, Bool, ◌&&◌, ◌||◌, List, [], ◌∷◌, ◌++◌, length, take, Option, Some, None, is_some, Result, Ok, Err, nat_lt, nat_le, ◌==◌, if◌then◌else◌}
use Rattle.byteorder.specs.Endian.{big_bytes}
use Rattle.gtp_values.specs.Steps.{◌>>=◌}
use Rattle.gtp_values.specs.declared.cause.Cause.{Cause}
use Rattle.gtp_values.specs.declared.cause.Offending.{Offending}
use Rattle.gtp_values.specs.declared.qos.Ambr.{Ambr}
use Rattle.gtp_values.specs.declared.qos.Qos.{Qos}
use Rattle.gtp_values.specs.declared.qos.Rates.{Rates}
use Rattle.gtp_values.specs.declared.paa.Paa.{Paa}
use Rattle.gtp_values.specs.declared.paa.Paa.TheVariants as paas
use Rattle.gtp_values.specs.Apn.{are_labels_from}
use Rattle.gtp_values.specs.Bit.{bit}
use Rattle.gtp_values.specs.TunnelEnd.{TunnelEnd}
use Rattle.gtp_values.specs.Plmn.{Network}
use Rattle.gtp_ie.specs.declared.fault.ReadFault.{ReadFault}
use Rattle.gtp_ie.specs.declared.fault.ReadFault.TheVariants.{Short, Bad}
use Rattle.gtp_ie.specs.declared.form.Form.{Form}
use Rattle.gtp_ie.specs.declared.form.Form.TheVariants as forms
use Rattle.gtp_ie.specs.Form.{form_of}
use Rattle.gtp_ie.specs.Layout.{octet, octets_from, number_in, bits, is_set}
use Rattle.gtp_ie.specs.Digits.{digits_in, packed, are_imsi_digits, are_network_digits, network_encoding}

-- a value of any type of element
pub data Value : Type 0 where
  OfImsi : List ℕ → Value
  OfCause : Cause → Value
  OfRecovery : ℕ → Value
  OfApn : List ℕ → Value
  OfAmbr : Ambr → Value
  OfEbi : ℕ → Value
  OfPaa : Paa → Value
  OfQos : Qos → Value
  OfRat : ℕ → Value
  OfPlmn : Network → Value
  OfTft : List ℕ → Value
  OfFTeid : TunnelEnd → Value
  OfChargingId : ℕ → Value
  OfPdnType : ℕ → Value
  OfPti : ℕ → Value
  OfSelection : ℕ → Value

-- ---- the forms of bodies, with the figures of TS 29.274; the fifth octet is the first of a body

-- 8.3, International mobile subscriber identity: two digits an octet, as many as there are; 15 fills the last half of an odd count
--          8     7     6     5     4     3     2     1
--      5 |        digit 2        |        digit 1        |
--     .. |        digit 2n       |      digit 2n - 1     |
-- `digits_in` of Digits reads it

-- 8.4, Cause: the element at fault stands in four further octets, where there are so many; of its length nothing is looked at
--          8     7     6     5     4     3     2     1
--      5 |                  cause value                  |
--      6 |            spare            | PCE | BCE |  CS |
--      7 |          type of the element at fault         |
--    8-9 |                   its length                  |
--     10 |         spare         |      its instance     |
abbrev pub offending_in : List ℕ → Option Offending
offending_in body = if nat_lt (length body) 6 then None else Some (record { kind = octet 7 body; instance = bits 4 1 (octet 10 body) })

abbrev pub cause_in : List ℕ → Cause
cause_in body =
    record { value = octet 5 body; pce = is_set 3 (octet 6 body); bce = is_set 2 (octet 6 body); cs = is_set 1 (octet 6 body); offending = offending_in body }

-- 8.5, Recovery
--          8     7     6     5     4     3     2     1
--      5 |                restart counter                |
abbrev pub recovery_in : List ℕ → ℕ
recovery_in body = octet 5 body

-- 8.6, Access point name: labels, each after an octet with its length
--          8     7     6     5     4     3     2     1
--    5.. |               access point name               |
-- `are_labels_from` of Apn in gtp_values reads it

-- 8.7, Aggregate maximum bit rate, in kilobits a second
--          8     7     6     5     4     3     2     1
--    5-8 |                     uplink                    |
--   9-12 |                    downlink                   |
abbrev pub ambr_in : List ℕ → Ambr
ambr_in body = record { up = number_in 4 5 body; down = number_in 4 9 body }

-- 8.8, EPS bearer identity
--          8     7     6     5     4     3     2     1
--      5 |         spare         |  EPS bearer identity  |
abbrev pub ebi_in : List ℕ → ℕ
ebi_in body = bits 4 1 (octet 5 body)

-- 8.14, PDN address allocation: after the type an IPv4 address (1), or a prefix length and an IPv6 address (2), or all three (3)
--          8     7     6     5     4     3     2     1
--      5 |            spare            |     PDN type    |
--    6.. |          prefix length and addresses          |
abbrev pub pdn_type_in : List ℕ → ℕ
pdn_type_in body = bits 3 1 (octet 5 body)

abbrev pub paa_in : List ℕ → Paa
paa_in body =
    if pdn_type_in body == 1 then paas.V4 (take 4 (octets_from 6 body))
    else (if pdn_type_in body == 2 then paas.V6 (octet 6 body) (take 16 (octets_from 7 body))
    else (if pdn_type_in body == 3 then paas.V4V6 (octet 6 body) (take 16 (octets_from 7 body)) (take 4 (octets_from 23 body))
    else paas.Other (pdn_type_in body)))

-- 8.15, Bearer quality of service: rates in five octets each, in kilobits a second
--          8     7     6     5     4     3     2     1
--      5 |spare| PCI |     priority level    |spare| PVI |
--      6 |                  class (QCI)                  |
--   7-11 |              maximum rate, uplink             |
--  12-16 |             maximum rate, downlink            |
--  17-21 |            guaranteed rate, uplink            |
--  22-26 |           guaranteed rate, downlink           |
abbrev pub rates_in : ℕ → List ℕ → Rates
rates_in n body = record { up = number_in 5 n body; down = number_in 5 (n + 5) body }

abbrev pub qos_in : List ℕ → Qos
qos_in body =
    record { pci = is_set 7 (octet 5 body); pl = bits 6 3 (octet 5 body); pvi = is_set 1 (octet 5 body); qci = octet 6 body; mbr = rates_in 7 body; gbr = rates_in 17 body }

-- 8.17, Radio access technology type
--          8     7     6     5     4     3     2     1
--      5 |                    RAT type                   |
abbrev pub rat_in : List ℕ → ℕ
rat_in body = octet 5 body

-- 8.18, Serving network: the third digit of the network code is 15 where the code has two
--          8     7     6     5     4     3     2     1
--      5 |    country digit 2    |    country digit 1    |
--      6 |    network digit 3    |    country digit 3    |
--      7 |    network digit 2    |    network digit 1    |
abbrev pub third_digit : ℕ → List ℕ
third_digit digit = if digit == 15 then [] else digit ∷ []

abbrev pub network_in : List ℕ → Network
network_in body =
    record {
      mcc = bits 4 1 (octet 5 body) ∷ bits 8 5 (octet 5 body) ∷ bits 4 1 (octet 6 body) ∷ [];
      mnc = bits 4 1 (octet 7 body) ∷ bits 8 5 (octet 7 body) ∷ third_digit (bits 8 5 (octet 6 body));
    }

-- 8.19, Bearer traffic flow template: octets that are not looked into
--          8     7     6     5     4     3     2     1
--    5.. |             traffic flow template             |
-- the octets are the value

-- 8.22, Fully qualified tunnel endpoint identifier: an IPv4 address stands before an IPv6 one
--          8     7     6     5     4     3     2     1
--      5 |  V4 |  V6 |           interface type          |
--    6-9 |                      TEID                     |
--   10.. |      IPv4 and IPv6 address, by their flags     |
abbrev pub has_v4 : List ℕ → Bool
has_v4 body = is_set 8 (octet 5 body)

abbrev pub has_v6 : List ℕ → Bool
has_v6 body = is_set 7 (octet 5 body)

-- how many octets an address takes, where it is there
abbrev pub room : Bool → ℕ → ℕ
room there n = if there then n else 0

abbrev pub fteid_in : List ℕ → TunnelEnd
fteid_in body =
    record {
      interface = bits 6 1 (octet 5 body);
      teid = number_in 4 6 body;
      v4 = if has_v4 body then Some (take 4 (octets_from 10 body)) else None;
      v6 = if has_v6 body then Some (take 16 (octets_from (10 + room (has_v4 body) 4) body)) else None;
    }

-- 8.29, Charging identifier
--          8     7     6     5     4     3     2     1
--    5-8 |              charging identifier              |
abbrev pub charging_id_in : List ℕ → ℕ
charging_id_in body = number_in 4 5 body

-- 8.34, PDN type: the one that is asked for
--          8     7     6     5     4     3     2     1
--      5 |            spare            |     PDN type    |
abbrev pub asked_pdn_type_in : List ℕ → ℕ
asked_pdn_type_in body = bits 3 1 (octet 5 body)

-- 8.35, Procedure transaction identity
--          8     7     6     5     4     3     2     1
--      5 |         procedure transaction identity        |
abbrev pub pti_in : List ℕ → ℕ
pti_in body = octet 5 body

-- 8.58, Selection mode: how the access point name was selected
--          8     7     6     5     4     3     2     1
--      5 |               spare               |    mode   |
abbrev pub selection_in : List ℕ → ℕ
selection_in body = bits 2 1 (octet 5 body)

-- the least length of a PDN address allocation, by the PDN type
abbrev pub least_paa : ℕ → ℕ
least_paa pdn = if pdn == 1 then 5 else (if pdn == 2 then 18 else (if pdn == 3 then 22 else 1))

-- ---- reading

-- the least length of a body, by its form
abbrev pub least_of : Form → List ℕ → ℕ
least_of forms.Imsi body = 3
least_of forms.Cause body = 2
least_of forms.Recovery body = 1
least_of forms.Apn body = 1
least_of forms.Ambr body = 8
least_of forms.Ebi body = 1
least_of forms.Paa body = least_paa (pdn_type_in body)
least_of forms.Qos body = 22
least_of forms.Rat body = 1
least_of forms.Plmn body = 3
least_of forms.Tft body = 0
least_of forms.FTeid body = 5 + room (has_v4 body) 4 + room (has_v6 body) 16
least_of forms.ChargingId body = 4
least_of forms.PdnType body = 1
least_of forms.Pti body = 1
least_of forms.Selection body = 1

abbrev pub least_by : Option Form → List ℕ → ℕ
least_by None body = 0
least_by (Some form) body = least_of form body

-- the least length of a body, by the type of the element
abbrev pub least : ℕ → List ℕ → ℕ
least kind body = least_by (form_of kind) body

-- a value, where a test lets it stand
abbrev pub only_if : Bool → Value → Option Value
only_if good v = if good then Some v else None

-- what a body that is long enough says, by its form
abbrev pub said_of : Form → List ℕ → Option Value
said_of forms.Imsi body = only_if (are_imsi_digits (digits_in body)) (OfImsi (digits_in body))
said_of forms.Cause body = Some (OfCause (cause_in body))
said_of forms.Recovery body = Some (OfRecovery (recovery_in body))
said_of forms.Apn body = only_if (nat_le (length body) 100 && are_labels_from 0 body) (OfApn body)
said_of forms.Ambr body = Some (OfAmbr (ambr_in body))
said_of forms.Ebi body = Some (OfEbi (ebi_in body))
said_of forms.Paa body = Some (OfPaa (paa_in body))
said_of forms.Qos body = Some (OfQos (qos_in body))
said_of forms.Rat body = Some (OfRat (rat_in body))
said_of forms.Plmn body = only_if (are_network_digits (network_in body)) (OfPlmn (network_in body))
said_of forms.Tft body = only_if (nat_le (length body) 255) (OfTft body)
said_of forms.FTeid body = only_if (has_v4 body || has_v6 body) (OfFTeid (fteid_in body))
said_of forms.ChargingId body = Some (OfChargingId (charging_id_in body))
said_of forms.PdnType body = Some (OfPdnType (asked_pdn_type_in body))
said_of forms.Pti body = Some (OfPti (pti_in body))
said_of forms.Selection body = Some (OfSelection (selection_in body))

abbrev pub said_by : Option Form → List ℕ → Option Value
said_by None body = None
said_by (Some form) body = said_of form body

-- what a body that is long enough says, by the type of the element
abbrev pub said : ℕ → List ℕ → Option Value
said kind body = said_by (form_of kind) body

-- a value, or that there is none
abbrev pub or_bad : Option Value → Result Value ReadFault
or_bad None = Err Bad
or_bad (Some v) = Ok v

-- the value of a body, by the type of the element: too short below the least length, and bad where it says nothing
unfoldable pub value_at : ℕ → List ℕ → Result Value ReadFault
value_at kind body = if nat_lt (length body) (least kind body) then Err Short else or_bad (said kind body)

-- that a body spells a value, by the type of the element: the fault of reading, or none
abbrev pub checked_at : ℕ → List ℕ → Result (Unit {0}) ReadFault
checked_at kind body = value_at kind body >>= λ v. Ok tt

-- ---- writing

-- rates below their bound
pub record AreRates (r : Rates) : Type 0 where
  pub up : r.up < 2 ^ 40
  pub down : r.down < 2 ^ 40

abbrev pub offending_encoding : Option Offending → List ℕ
offending_encoding None = []
offending_encoding (Some o) = o.kind ∷ 0 ∷ 0 ∷ o.instance ∷ []

abbrev pub address_encoding : Option (List ℕ) → List ℕ
address_encoding None = []
address_encoding (Some octets) = octets

abbrev pub paa_encoding : Paa → List ℕ
paa_encoding (paas.V4 v4) = 1 ∷ v4
paa_encoding (paas.V6 prefix v6) = 2 ∷ prefix ∷ v6
paa_encoding (paas.V4V6 prefix v6 v4) = 3 ∷ prefix ∷ (v6 ++ v4)
paa_encoding (paas.Other pdn) = pdn ∷ []

abbrev pub rates_encoding : Rates → List ℕ
rates_encoding r = big_bytes 5 r.up ++ big_bytes 5 r.down

-- the one body that is written for a value: spare bits 0, no octets after the form
unfoldable pub encoding_of : Value → List ℕ
encoding_of (OfImsi digits) = packed digits
encoding_of (OfCause c) = c.value ∷ (4 * bit c.pce + 2 * bit c.bce + bit c.cs) ∷ offending_encoding c.offending
encoding_of (OfRecovery counter) = counter ∷ []
encoding_of (OfApn octets) = octets
encoding_of (OfAmbr a) = big_bytes 4 a.up ++ big_bytes 4 a.down
encoding_of (OfEbi n) = n ∷ []
encoding_of (OfPaa p) = paa_encoding p
encoding_of (OfQos q) = (64 * bit q.pci + 4 * q.pl + bit q.pvi) ∷ q.qci ∷ (rates_encoding q.mbr ++ rates_encoding q.gbr)
encoding_of (OfRat n) = n ∷ []
encoding_of (OfPlmn n) = network_encoding n
encoding_of (OfTft octets) = octets
encoding_of (OfFTeid f) = (128 * bit (is_some f.v4) + 64 * bit (is_some f.v6) + f.interface) ∷ (big_bytes 4 f.teid ++ address_encoding f.v4 ++ address_encoding f.v6)
encoding_of (OfChargingId n) = big_bytes 4 n
encoding_of (OfPdnType n) = n ∷ []
encoding_of (OfPti n) = n ∷ []
encoding_of (OfSelection n) = n ∷ []

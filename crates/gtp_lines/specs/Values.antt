-- What elements say, as text.
use Rattle.std.specs.Prelude.{ℕ, List, [], ◌++◌, Option, Some, None, Result, Ok, Err, codes, decimal}
use Rattle.hex.specs.Hex.{encode_lower}
use Rattle.gtp_values.specs.declared.cause.Offending.{Offending}
use Rattle.gtp_values.specs.declared.paa.Paa.{Paa}
use Rattle.gtp_values.specs.declared.paa.Paa.TheVariants as paas
use Rattle.gtp_values.specs.declared.qos.Qos.{Qos}
use Rattle.gtp_values.specs.declared.qos.Rates.{Rates}
use Rattle.gtp_ie.specs.declared.fault.ReadFault.{ReadFault}
use Rattle.gtp_ie.specs.declared.form.Form.{Form}
use Rattle.gtp_ie.specs.Form.{name_of, form_of}
use Rattle.gtp_ie.specs.Value.{Value, OfImsi, OfCause, OfRecovery, OfApn, OfAmbr, OfEbi, OfPaa, OfQos, OfRat, OfPlmn, OfTft, OfFTeid, OfChargingId, OfPdnType, OfPti, OfSelection, value_at}
use Rattle.std.specs.Net.Text.{ipv4_text}
use Rattle.gtp_values.specs.Apn.{apn_text}
use Rattle.gtp_values.specs.Bit.{bit}
use Rattle.gtp_values.specs.Imsi.{digits_text}
use Rattle.gtp_values.specs.Teid.{teid_text}
use Rattle.gtp_lines.specs.Text.{octets_text}

-- a mark and a number
abbrev pub field_shown : List ℕ → ℕ → List ℕ
field_shown mark number = mark ++ decimal number

-- the element at fault, where there is one
abbrev pub offending_shown : Option Offending → List ℕ
offending_shown None = []
offending_shown (Some o) = codes " offending " ++ (decimal o.kind ++ (codes " " ++ decimal o.instance))

abbrev pub paa_shown : Paa → List ℕ
paa_shown (paas.V4 v4) = codes "ipv4 " ++ ipv4_text v4
paa_shown (paas.V6 prefix v6) = codes "ipv6 " ++ (decimal prefix ++ (codes " " ++ encode_lower v6))
paa_shown (paas.V4V6 prefix v6 v4) = codes "ipv4v6 " ++ (decimal prefix ++ (codes " " ++ (encode_lower v6 ++ (codes " " ++ ipv4_text v4))))
paa_shown (paas.Other pdn) = codes "other " ++ decimal pdn

abbrev pub rates_shown : Rates → List ℕ
rates_shown r = decimal r.up ++ (codes " " ++ decimal r.down)

-- the priority and the class of a bearer's quality
abbrev pub class_shown : Qos → List ℕ
class_shown q =
    field_shown (codes "pci ") (bit q.pci) ++ (field_shown (codes " pl ") q.pl ++ (field_shown (codes " pvi ") (bit q.pvi) ++ field_shown (codes " qci ") q.qci))

abbrev pub qos_shown : Qos → List ℕ
qos_shown q = class_shown q ++ (codes " mbr " ++ (rates_shown q.mbr ++ (codes " gbr " ++ rates_shown q.gbr)))

-- the addresses of a tunnel end
abbrev pub v4_shown : Option (List ℕ) → List ℕ
v4_shown None = []
v4_shown (Some v4) = codes " v4 " ++ ipv4_text v4

abbrev pub v6_shown : Option (List ℕ) → List ℕ
v6_shown None = []
v6_shown (Some v6) = codes " v6 " ++ encode_lower v6

-- a value
unfoldable pub shown : Value → List ℕ
shown (OfImsi digits) = digits_text digits
shown (OfCause c) = decimal c.value ++ offending_shown c.offending
shown (OfRecovery n) = decimal n
shown (OfApn octets) = apn_text octets
shown (OfAmbr a) = decimal a.up ++ (codes " " ++ decimal a.down)
shown (OfEbi n) = decimal n
shown (OfPaa p) = paa_shown p
shown (OfQos q) = qos_shown q
shown (OfRat n) = decimal n
shown (OfPlmn n) = digits_text n.mcc ++ (codes " " ++ digits_text n.mnc)
shown (OfTft octets) = octets_text octets
shown (OfFTeid e) = decimal e.interface ++ (codes " " ++ (teid_text e.teid ++ (v4_shown e.v4 ++ v6_shown e.v6)))
shown (OfChargingId n) = decimal n
shown (OfPdnType n) = decimal n
shown (OfPti n) = decimal n
shown (OfSelection n) = decimal n

-- the octets of a body
abbrev pub raw_shown : List ℕ → List ℕ
raw_shown body = codes "octets " ++ octets_text body

-- what was read of a body, by name; or its octets
abbrev pub named_shown : List ℕ → List ℕ → Result Value ReadFault → List ℕ
named_shown name body (Ok v) = name ++ (codes " " ++ shown v)
named_shown name body (Err f) = raw_shown body

-- what a body of a form says; of another type its octets
abbrev pub form_shown : Option Form → ℕ → List ℕ → List ℕ
form_shown None kind body = raw_shown body
form_shown (Some form) kind body = named_shown (name_of form) body (value_at kind body)

unfoldable pub body_shown : ℕ → List ℕ → List ℕ
body_shown kind body = form_shown (form_of kind) kind body

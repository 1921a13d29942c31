-- Which bodies spell which values, one case for each type of element, and which spell none. Spare bits and, but for names
-- and templates that are the whole body, octets after the form stand in no case: they are free.
use Rattle.std.specs.Prelude.{◌≡◌, ◌||◌, IsTrue, ℕ, ◌≤◌, ◌<◌, List, length, Option, Some, None}
use Rattle.gtp_values.specs.Apn.{IsApn}
use Rattle.gtp_values.specs.Imsi.{IsImsi}
use Rattle.gtp_values.specs.Plmn.{IsNetwork}
use Rattle.gtp_ie.specs.declared.form.Form.{Form}
use Rattle.gtp_ie.specs.declared.form.Form.TheVariants as forms
use Rattle.gtp_ie.specs.Form.{form_of}
use Rattle.gtp_ie.specs.Digits.{packed}
use Rattle.gtp_ie.specs.Value.{Value, OfImsi, OfCause, OfRecovery, OfApn, OfAmbr, OfEbi, OfPaa, OfQos, OfRat, OfPlmn, OfTft, OfFTeid, OfChargingId, OfPdnType, OfPti, OfSelection, cause_in, recovery_in, ambr_in, ebi_in, paa_in, qos_in, rat_in, network_in, fteid_in, charging_id_in, asked_pdn_type_in, pti_in, selection_in, has_v4, has_v6, least}

-- TS 29.274 8.3: the digits in the halves of the octets are the whole body
abbrev pub SpellsImsi : List ℕ → Value → Type 0
SpellsImsi body v = (digits : List ℕ) × IsImsi digits × (body ≡ packed digits) × (v ≡ OfImsi digits)

-- TS 29.274 8.6: the labels are the whole body
abbrev pub SpellsApn : List ℕ → Value → Type 0
SpellsApn body v = IsApn body × (v ≡ OfApn body)

-- TS 29.274 8.18: each half is a digit, but for a third one of the network code that isn't there
abbrev pub SpellsPlmn : List ℕ → Value → Type 0
SpellsPlmn body v = IsNetwork (network_in body) × (v ≡ OfPlmn (network_in body))

-- TS 29.274 8.19: the octets of the template are the whole body
abbrev pub SpellsTft : List ℕ → Value → Type 0
SpellsTft body v = (length body ≤ 255) × (v ≡ OfTft body)

-- TS 29.274 8.22: there is at least one address
abbrev pub SpellsFTeid : List ℕ → Value → Type 0
SpellsFTeid body v = IsTrue (has_v4 body || has_v6 body) × (v ≡ OfFTeid (fteid_in body))

-- what a body that is long enough says, by its form (TS 29.274 8.1)
abbrev pub SaysOf : Form → List ℕ → Value → Type 0
SaysOf forms.Imsi body v = SpellsImsi body v
SaysOf forms.Cause body v = v ≡ OfCause (cause_in body)
SaysOf forms.Recovery body v = v ≡ OfRecovery (recovery_in body)
SaysOf forms.Apn body v = SpellsApn body v
SaysOf forms.Ambr body v = v ≡ OfAmbr (ambr_in body)
SaysOf forms.Ebi body v = v ≡ OfEbi (ebi_in body)
SaysOf forms.Paa body v = v ≡ OfPaa (paa_in body)
SaysOf forms.Qos body v = v ≡ OfQos (qos_in body)
SaysOf forms.Rat body v = v ≡ OfRat (rat_in body)
SaysOf forms.Plmn body v = SpellsPlmn body v
SaysOf forms.Tft body v = SpellsTft body v
SaysOf forms.FTeid body v = SpellsFTeid body v
SaysOf forms.ChargingId body v = v ≡ OfChargingId (charging_id_in body)
SaysOf forms.PdnType body v = v ≡ OfPdnType (asked_pdn_type_in body)
SaysOf forms.Pti body v = v ≡ OfPti (pti_in body)
SaysOf forms.Selection body v = v ≡ OfSelection (selection_in body)

abbrev pub SaysBy : Option Form → List ℕ → Value → Type 0
SaysBy None body v = ⊥
SaysBy (Some form) body v = SaysOf form body v

-- what a body that is long enough says, by the type of the element
unfoldable pub Says : ℕ → List ℕ → Value → Type 0
Says kind body v = SaysBy (form_of kind) body v

-- the body is below the least length of its type
abbrev pub IsShort : ℕ → List ℕ → Type 0
IsShort kind body = length body < least kind body

-- the body spells the value: it is long enough, and says it
pub record Spells (kind : ℕ) (body : List ℕ) (v : Value) : Type 0 where
  pub long_enough : least kind body ≤ length body
  pub says : Says kind body v

-- the body is long enough, and spells no value
pub record IsBad (kind : ℕ) (body : List ℕ) : Type 0 where
  pub long_enough : least kind body ≤ length body
  pub silent : (v : Value) → Says kind body v → ⊥

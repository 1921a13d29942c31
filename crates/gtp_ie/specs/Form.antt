-- The types of elements that have a form (TS 29.274 table 8.1-1).
use Rattle.std.specs.Prelude.{ℕ, List, [], ◌∷◌, Option, Some, None, ◌==◌, if◌then◌else◌, codes}
use Rattle.gtp_ie.specs.declared.form.Form.{Form}
use Rattle.gtp_ie.specs.declared.form.Form.TheVariants.{Imsi, Cause, Recovery, Apn, Ambr, Ebi, Paa, Qos, Rat, Plmn, Tft, FTeid, ChargingId, PdnType, Pti, Selection}

-- the number of a type
abbrev pub number_of : Form → ℕ
number_of Imsi = 1
number_of Cause = 2
number_of Recovery = 3
number_of Apn = 71
number_of Ambr = 72
number_of Ebi = 73
number_of Paa = 79
number_of Qos = 80
number_of Rat = 82
number_of Plmn = 83
number_of Tft = 84
number_of FTeid = 87
number_of ChargingId = 94
number_of PdnType = 99
number_of Pti = 100
number_of Selection = 128

-- its name, in lower case and with hyphens
abbrev pub name_of : Form → List ℕ
name_of Imsi = codes "imsi"
name_of Cause = codes "cause"
name_of Recovery = codes "recovery"
name_of Apn = codes "apn"
name_of Ambr = codes "ambr"
name_of Ebi = codes "ebi"
name_of Paa = codes "paa"
name_of Qos = codes "qos"
name_of Rat = codes "rat"
name_of Plmn = codes "serving-network"
name_of Tft = codes "tft"
name_of FTeid = codes "fteid"
name_of ChargingId = codes "charging-id"
name_of PdnType = codes "pdn-type"
name_of Pti = codes "pti"
name_of Selection = codes "selection"

-- all of them
abbrev pub forms : List Form
forms = Imsi ∷ Cause ∷ Recovery ∷ Apn ∷ Ambr ∷ Ebi ∷ Paa ∷ Qos ∷ Rat ∷ Plmn ∷ Tft ∷ FTeid ∷ ChargingId ∷ PdnType ∷ Pti ∷ Selection ∷ []

-- the form with a number
abbrev pub form_among : List Form → ℕ → Option Form
form_among [] kind = None
form_among (f ∷ fs) kind = if kind == number_of f then Some f else form_among fs kind

abbrev pub form_of : ℕ → Option Form
form_of kind = form_among forms kind

-- the number of the type that holds a group (TS 29.274 8.28)
abbrev pub bearer_context : ℕ
bearer_context = 93

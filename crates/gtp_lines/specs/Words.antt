-- The words of the standard for what elements say.
use Rattle.std.specs.Prelude.{ℕ, List, [], ◌++◌, Option, Some, None, Result, Ok, Err, codes}
use Rattle.gtp_codes.specs.Words.{word_in, cause_words, rat_type_words, interface_type_words, pdn_type_words}
use Rattle.gtp_values.specs.declared.paa.Paa.{Paa}
use Rattle.gtp_values.specs.declared.paa.Paa.TheVariants as paas
use Rattle.gtp_ie.specs.declared.fault.ReadFault.{ReadFault}
use Rattle.gtp_ie.specs.declared.form.Form.{Form}
use Rattle.gtp_ie.specs.declared.form.Form.TheVariants as forms
use Rattle.gtp_ie.specs.Form.{form_of}
use Rattle.gtp_ie.specs.Value.{Value, OfCause, OfPaa, OfRat, OfFTeid, OfPdnType, value_at}
use Rattle.gtp_lines.specs.Values.{body_shown}

-- an allocation of addresses has a number where it is of another type
abbrev pub paa_word : Paa → Option (List ℕ)
paa_word (paas.Other pdn) = word_in pdn_type_words pdn
paa_word paa = None

-- the word of a value: of its cause, its RAT type, its interface type or its PDN type
abbrev pub value_word : Value → Option (List ℕ)
value_word (OfCause c) = word_in cause_words c.value
value_word (OfPaa p) = paa_word p
value_word (OfRat n) = word_in rat_type_words n
value_word (OfFTeid e) = word_in interface_type_words e.interface
value_word (OfPdnType n) = word_in pdn_type_words n
value_word value = None

abbrev pub read_word : Result Value ReadFault → Option (List ℕ)
read_word (Ok value) = value_word value
read_word (Err fault) = None

-- the forms whose values have words
abbrev pub form_word : Form → Result Value ReadFault → Option (List ℕ)
form_word forms.Cause read = read_word read
form_word forms.Paa read = read_word read
form_word forms.Rat read = read_word read
form_word forms.FTeid read = read_word read
form_word forms.PdnType read = read_word read
form_word form read = None

abbrev pub known_word : Option Form → ℕ → List ℕ → Option (List ℕ)
known_word None kind body = None
known_word (Some form) kind body = form_word form (value_at kind body)

-- the word of what a body of a type of element says, where it has one
unfoldable pub body_word : ℕ → List ℕ → Option (List ℕ)
body_word kind body = known_word (form_of kind) kind body

-- a word, after what it is the word of
abbrev pub word_shown : Option (List ℕ) → List ℕ
word_shown None = []
word_shown (Some word) = codes " (" ++ (word ++ codes ")")

-- what a body says, and then its word
abbrev pub said : ℕ → List ℕ → List ℕ
said kind body = body_shown kind body ++ word_shown (body_word kind body)

-- When another body says the same as a given one: the octets of its form are the same, but for spare bits, and after the
-- form there are any. Octets and bits are counted as the figures of TS 29.274 clause 8 count them: octet 5 is the first of
-- the body, bit 8 the highest.
use Rattle.std.specs.Prelude.{◌≡◌, ◌==◌, ◌&&◌, ℕ, ◌+◌, List, [], ◌∷◌, map, length, take, nat_lt, if◌then◌else◌, Option, Some, None}
use Rattle.gtp_ie.specs.declared.form.Form.{Form}
use Rattle.gtp_ie.specs.declared.form.Form.TheVariants as forms
use Rattle.gtp_ie.specs.Form.{number_of, form_of}
use Rattle.gtp_ie.specs.Layout.{bits}
use Rattle.gtp_ie.specs.Spelling.{Spells}
use Rattle.gtp_ie.specs.Value.{Value, least_of, encoding_of}

-- an octet of elements of a type, and the runs of its bits that count, each from a high bit to a low one; its other bits are
-- spare
pub record Line : Type 0 where
  pub kind : ℕ
  pub octet : ℕ
  pub runs : List (ℕ × ℕ)

abbrev pub line : ℕ → ℕ → List (ℕ × ℕ) → Line
line kind octet runs = record { kind = kind; octet = octet; runs = runs }

-- all octets that have spare bits, or of which no bit is looked at; every other octet of a form counts whole
abbrev pub spare_lines : List Line
spare_lines =
    -- 8.4, cause: its three flags; of the element at fault the length isn't looked at, and the instance is four bits
    line (number_of forms.Cause) 6 ((3, 1) ∷ [])
    ∷ line (number_of forms.Cause) 8 []
    ∷ line (number_of forms.Cause) 9 []
    ∷ line (number_of forms.Cause) 10 ((4, 1) ∷ [])
    -- 8.8, EPS bearer identity
    ∷ line (number_of forms.Ebi) 5 ((4, 1) ∷ [])
    -- 8.14, PDN address allocation: the PDN type
    ∷ line (number_of forms.Paa) 5 ((3, 1) ∷ [])
    -- 8.15, bearer quality of service: PCI and PL, and PVI
    ∷ line (number_of forms.Qos) 5 ((7, 3) ∷ (1, 1) ∷ [])
    -- 8.34, PDN type
    ∷ line (number_of forms.PdnType) 5 ((3, 1) ∷ [])
    -- 8.58, selection mode
    ∷ line (number_of forms.Selection) 5 ((2, 1) ∷ [])
    ∷ []

-- what counts of an octet: the numbers in its runs of bits, by the line that is of it, or all of it where none is
abbrev pub counted_by : List Line → ℕ → ℕ → ℕ → List ℕ
counted_by [] kind n octet = octet ∷ []
counted_by (l ∷ lines) kind n octet =
    if (l.kind == kind) && (l.octet == n) then map (λ run. bits run.0 run.1 octet) l.runs else counted_by lines kind n octet

-- what counts of each octet from the one of this number on
abbrev pub counted_from : ℕ → ℕ → List ℕ → List (List ℕ)
counted_from kind n [] = []
counted_from kind n (octet ∷ octets) = counted_by spare_lines kind n octet ∷ counted_from kind (n + 1) octets

-- how many octets a form has: of IMSI, access point name and traffic flow template those of the body, of a cause two, or six
-- where there are so many, and else the least that the body may have
abbrev pub length_of : Form → List ℕ → ℕ
length_of forms.Imsi body = length body
length_of forms.Apn body = length body
length_of forms.Tft body = length body
length_of forms.Cause body = if nat_lt (length body) 6 then 2 else 6
length_of form body = least_of form body

abbrev pub length_by : Option Form → List ℕ → ℕ
length_by None body = 0
length_by (Some form) body = length_of form body

abbrev pub form_length : ℕ → List ℕ → ℕ
form_length kind body = length_by (form_of kind) body

-- what counts of a body, octet by octet
abbrev pub counted : ℕ → List ℕ → List (List ℕ)
counted kind body = counted_from kind 5 (take (form_length kind body) body)

-- the other body says the same: the same counts of it
pub record SaysTheSame (kind : ℕ) (body other : List ℕ) : Type 0 where
  pub same : counted kind body ≡ counted kind other

-- each body that says the same as the text of the value spells the value
pub record SpellsFreely (kind : ℕ) (v : Value) : Type 0 where
  pub free : (body : List ℕ) → SaysTheSame kind (encoding_of v) body → Spells kind body v

-- Subscribers (TS 29.274 8.3).
use Rattle.std.specs.Prelude.{◌≡◌, ◌↔◌, ℕ, ◌≤◌, ◌<◌, ◌+◌, ◌-◌, List, length, All, map, Result, IsOk, IfOk, IsErrOf}
use Rattle.gtp_values.specs.declared.fault.ValueFault.{ValueFault}
use Rattle.gtp_values.specs.declared.fault.ValueFault.TheVariants.{TooShort, TooLong, BadDigit}

-- 6 to 15 digits
pub record HasImsiLength (digits : List ℕ) : Type 0 where
  pub least : 6 ≤ length digits
  pub most : length digits ≤ 15

-- a subscriber's digits: at most 15 (TS 23.003 2.2), and at least 6 (a choice of this product)
pub record IsImsi (digits : List ℕ) : Type 0 where
  pub least : 6 ≤ length digits
  pub most : length digits ≤ 15
  pub decimal : All (λ digit. digit < 10) digits

-- the character of a decimal digit
pub record IsDigitCode (octet : ℕ) : Type 0 where
  pub least : 48 ≤ octet
  pub most : octet ≤ 57

-- the digit that a character stands for
abbrev pub value_of_digit : ℕ → ℕ
value_of_digit octet = octet - 48

-- 6 to 15 characters of digits
pub record IsImsiText (text : List ℕ) : Type 0 where
  pub least : 6 ≤ length text
  pub most : length text ≤ 15
  pub decimal : All IsDigitCode text

-- digits as a text, a character each
abbrev pub digits_text : List ℕ → List ℕ
digits_text digits = map (λ digit. 48 + digit) digits

-- what reading a text answers: the subscriber of its digits, or the first refusal
pub record ReadsImsi (text : List ℕ) (result : Result (List ℕ) ValueFault) : Type 0 where
  pub ok : IsOk result ↔ IsImsiText text
  pub value : IfOk result (λ imsi. imsi ≡ map value_of_digit text)
  pub short : IsErrOf result TooShort ↔ (length text < 6)
  pub long : IsErrOf result TooLong ↔ (15 < length text)
  pub digit : IsErrOf result BadDigit ↔ (HasImsiLength text × ¬ All IsDigitCode text)

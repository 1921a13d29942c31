-- Tunnel endpoint identifiers as texts.
use Rattle.std.specs.Prelude.{◌≡◌, ◌↔◌, ◌<◌, ℕ, List, length, Result, Ok, IsOk, IfOk, IsErrOf}
use Rattle.std.specs.Int.{w32, to_be_bytes, from_be_bytes}
use Rattle.std.specs.List.{AllPass}
use Rattle.hex.specs.Hex.{decode_of, encode_lower, is_hex_digit}
use Rattle.gtp_values.specs.declared.fault.ValueFault.{ValueFault}
use Rattle.gtp_values.specs.declared.fault.ValueFault.TheVariants.{TooShort, TooLong, BadDigit}
use Rattle.gtp_values.specs.declared.identifiers.Teid.{Teid}

-- eight hexadecimal digits of either case
abbrev pub IsTeidText : List ℕ → Type 0
IsTeidText text = (length text ≡ 8) × AllPass is_hex_digit text

-- the text writes this identifier by its four octets, the highest first
abbrev pub WritesTeid : List ℕ → ℕ → Type 0
WritesTeid text teid = (octets : List ℕ) × (decode_of text ≡ Ok octets) × (teid ≡ from_be_bytes w32 octets)

-- eight hexadecimal digits in lower case
abbrev pub teid_text : ℕ → List ℕ
teid_text teid = encode_lower (to_be_bytes w32 teid)

-- what reading a text answers: the identifier that it writes, or the first refusal
pub record ReadsTeid (text : List ℕ) (result : Result Teid ValueFault) : Type 0 where
  pub ok : IsOk result ↔ IsTeidText text
  pub value : IfOk result (λ teid. WritesTeid text teid)
  pub short : IsErrOf result TooShort ↔ (length text < 8)
  pub long : IsErrOf result TooLong ↔ (8 < length text)
  pub digit : IsErrOf result BadDigit ↔ ((length text ≡ 8) × ¬ IsTeidText text)

-- Addresses as texts.
use Rattle.std.specs.Prelude.{◌≡◌, ◌↔◌, ℕ, ◌≤◌, ◌<◌, List, length, All, Result, Ok, IsOk, IfOk, IsErrOf}
use Rattle.std.specs.Net.Grammar.{IsDotted}
use Rattle.std.specs.Net.Text.{ipv4_text}
use Rattle.hex.specs.Hex.{decode_of, encode_lower}
use Rattle.gtp_values.specs.declared.fault.ValueFault.{ValueFault}
use Rattle.gtp_values.specs.declared.fault.ValueFault.TheVariants.{TooShort, TooLong, BadDigit}
use Rattle.gtp_values.specs.declared.address.Ip.{Ip}
use Rattle.gtp_values.specs.declared.address.Ip.TheVariants as TheIp

-- an address: four octets or sixteen
abbrev pub IsIp : Ip → Type 0
IsIp (TheIp.V4 octets) = (length octets ≡ 4) × All (λ octet. octet < 256) octets
IsIp (TheIp.V6 octets) = (length octets ≡ 16) × All (λ octet. octet < 256) octets

-- dotted decimal for version 4, 32 hexadecimal digits for version 6
abbrev pub ip_text : Ip → List ℕ
ip_text (TheIp.V4 octets) = ipv4_text octets
ip_text (TheIp.V6 octets) = encode_lower octets

-- the text writes this address: dotted decimal, or 32 hexadecimal digits of either case
abbrev pub IsIpText : List ℕ → Ip → Type 0
IsIpText text (TheIp.V4 octets) = IsDotted text octets
IsIpText text (TheIp.V6 octets) = (length text ≡ 32) × (decode_of text ≡ Ok octets)

-- the text writes an address
abbrev pub SomeIpText : List ℕ → Type 0
SomeIpText text = (ip : Ip) × IsIpText text ip

-- 7 to 32 characters
pub record HasIpTextLength (text : List ℕ) : Type 0 where
  pub least : 7 ≤ length text
  pub most : length text ≤ 32

-- what reading a text answers: the address that it writes, or the first refusal
pub record ReadsIp (text : List ℕ) (result : Result Ip ValueFault) : Type 0 where
  pub ok : IsOk result ↔ SomeIpText text
  pub value : IfOk result (IsIpText text)
  pub short : IsErrOf result TooShort ↔ (length text < 7)
  pub long : IsErrOf result TooLong ↔ (32 < length text)
  pub digit : IsErrOf result BadDigit ↔ (HasIpTextLength text × ¬ SomeIpText text)

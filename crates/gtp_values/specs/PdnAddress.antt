-- The address of a subscriber's session (TS 23.401 5.3.1.1), and what a PDN Address Allocation says of it (TS 29.274 8.14).
use Rattle.std.specs.Prelude.{◌≡◌, ◌||◌, ◌++◌, ℕ, List, [], length, codes, Option, Some, None, is_some, IfSome, IsTrue}
use Rattle.gtp_values.specs.Address.{ip_text}
use Rattle.gtp_values.specs.declared.address.Ip.TheVariants as ips
use Rattle.gtp_values.specs.declared.paa.Paa.{Paa}
use Rattle.gtp_values.specs.declared.paa.Paa.TheVariants as paas

-- an address of each version, where there is one
pub record PdnAddress : Type 0 where
  pub v4 : Option (List ℕ)
  pub v6 : Option (List ℕ)

-- the lengths of the parts, of which one is there
pub record IsPdnAddress (a : PdnAddress) : Type 0 where
  pub v4 : IfSome a.v4 (λ octets. length octets ≡ 4)
  pub v6 : IfSome a.v6 (λ octets. length octets ≡ 16)
  pub some_part : IsTrue (is_some a.v4 || is_some a.v6)

-- the parts as an allocation, that of version 6 under a prefix of this length
abbrev pub allocation_of : ℕ → Option (List ℕ) → Option (List ℕ) → Paa
allocation_of prefix (Some v4) None = paas.V4 v4
allocation_of prefix None (Some v6) = paas.V6 prefix v6
allocation_of prefix (Some v4) (Some v6) = paas.V4V6 prefix v6 v4
allocation_of prefix None None = paas.Other 0

abbrev pub allocation : ℕ → PdnAddress → Paa
allocation prefix a = allocation_of prefix a.v4 a.v6

-- the address that an allocation says, whatever the length of its prefix
abbrev pub address_in : Paa → Option PdnAddress
address_in (paas.V4 v4) = Some (record { v4 = Some v4; v6 = None })
address_in (paas.V6 prefix v6) = Some (record { v4 = None; v6 = Some v6 })
address_in (paas.V4V6 prefix v6 v4) = Some (record { v4 = Some v4; v6 = Some v6 })
address_in (paas.Other kind) = None

-- dotted decimal, 32 hexadecimal digits, or both with a plus between them
abbrev pub parts_text : Option (List ℕ) → Option (List ℕ) → List ℕ
parts_text (Some v4) None = ip_text (ips.V4 v4)
parts_text None (Some v6) = ip_text (ips.V6 v6)
parts_text (Some v4) (Some v6) = ip_text (ips.V4 v4) ++ codes "+" ++ ip_text (ips.V6 v6)
parts_text None None = []

abbrev pub address_text : PdnAddress → List ℕ
address_text a = parts_text a.v4 a.v6

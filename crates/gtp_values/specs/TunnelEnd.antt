-- Tunnel ends (TS 29.274 8.22).
use Rattle.std.specs.Prelude.{◌≡◌, ℕ, ◌<◌, ◌^◌, ◌||◌, List, length, Option, Some, None, is_some, IfSome, IsTrue}
use Rattle.gtp_values.specs.declared.address.Ip.{Ip}
use Rattle.gtp_values.specs.declared.address.Ip.TheVariants.{V4, V6}

-- a tunnel end, without how it is kept
pub record TunnelEnd : Type 0 where
  pub interface : ℕ
  pub teid : ℕ
  pub v4 : Option (List ℕ)
  pub v6 : Option (List ℕ)

-- the ranges of the parts, and at least one address
pub record IsTunnelEnd (e : TunnelEnd) : Type 0 where
  pub interface : e.interface < 64
  pub teid : e.teid < 2 ^ 32
  pub v4 : IfSome e.v4 (λ address. length address ≡ 4)
  pub v6 : IfSome e.v6 (λ address. length address ≡ 16)
  pub some_address : IsTrue (is_some e.v4 || is_some e.v6)

-- the tunnel end has this address and no other
abbrev pub HasAddress : TunnelEnd → Ip → Type 0
HasAddress e (V4 octets) = (e.v4 ≡ Some octets) × (e.v6 ≡ None)
HasAddress e (V6 octets) = (e.v4 ≡ None) × (e.v6 ≡ Some octets)

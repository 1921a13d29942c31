-- The values that messages carry, in the terms of TS 29.274, clause 8.
use Rattle.std.specs.Prelude.{ℕ, ◌≤◌, ◌<◌, List, Option, Some, None, false}
use Rattle.gtp_values.specs.TunnelEnd.{TunnelEnd}
use Rattle.gtp_values.specs.declared.address.Ip.{Ip}
use Rattle.gtp_values.specs.declared.address.Ip.TheVariants.{V4, V6}
use Rattle.gtp_values.specs.declared.cause.Cause.{Cause}
use Rattle.gtp_values.specs.declared.paa.Paa.{Paa}
use Rattle.gtp_values.specs.PdnAddress.{address_in}
pub use Rattle.gtp_values.specs.PdnAddress.{PdnAddress}
pub use Rattle.gtp_tables.specs.declared.context.Subscriber.{Subscriber}

-- the address that a PDN Address Allocation (8.14) says, where there is one that says any
abbrev pub address_of : Option Paa → Option PdnAddress
address_of None = None
address_of (Some paa) = address_in paa

-- a Cause (8.4) accepts where its value is 16 to 63
pub record IsAccepting (cause : Cause) : Type 0 where
  pub low : 16 ≤ cause.value
  pub high : cause.value < 64

-- a Cause with no element at fault
abbrev pub cause_of : ℕ → Cause
cause_of value = record { value = value; pce = false; bce = false; cs = false; offending = None }

-- a Cause that names the type and instance of the element at fault
abbrev pub cause_at : ℕ → ℕ → ℕ → Cause
cause_at value kind instance =
    record { value = value; pce = false; bce = false; cs = false; offending = Some (record { kind = kind; instance = instance }) }

-- the octets of an IPv4 address
abbrev pub v4_of : Ip → Option (List ℕ)
v4_of (V4 octets) = Some octets
v4_of (V6 octets) = None

-- the octets of an IPv6 address
abbrev pub v6_of : Ip → Option (List ℕ)
v6_of (V4 octets) = None
v6_of (V6 octets) = Some octets

-- an F-TEID (8.22) that a gateway gives: interface type, TEID and its own address
abbrev pub tunnel_end : ℕ → ℕ → Ip → TunnelEnd
tunnel_end interface teid ip = record { interface = interface; teid = teid; v4 = v4_of ip; v6 = v6_of ip }

-- the TEID of an F-TEID that may be absent
abbrev pub teid_in : Option TunnelEnd → Option ℕ
teid_in None = None
teid_in (Some end) = Some end.teid

-- a TEID that may be absent, as it is written: 0 for none
abbrev pub written : Option ℕ → ℕ
written None = 0
written (Some teid) = teid

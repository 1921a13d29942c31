-- Which values C's structs are, and the bodies of elements that are written for them.
use Rattle.std.specs.Prelude.{◌≡◌, ◌≢◌, ◌↔◌, ◌<◌, ◌≤◌, ◌==◌, ◌||◌, ℕ, not, IsTrue, List, [], ◌∷◌, if◌then◌else◌, length, take, Option, Some, None, is_some}
use Rattle.gtp_ie.specs.Value.{Value, encoding_of}
use Rattle.gtp_values.specs.Apn.{IsApn}
use Rattle.gtp_values.specs.Imsi.{IsImsi}
use Rattle.gtp_values.specs.TunnelEnd.{TunnelEnd}
use Rattle.gtp_values.specs.declared.cause.Cause.{Cause}
use Rattle.gtp_values.specs.declared.cause.Offending.{Offending}
use Rattle.gtp_values.specs.declared.paa.Paa.{Paa}
use Rattle.gtp_values.specs.declared.paa.Paa.TheVariants.{V4, V6, V4V6, Other}
use Rattle.gtp_values.specs.declared.qos.Ambr.{Ambr}
use Rattle.gtp_c.specs.Writing.{IsTextWritten}
use Rattle.gtp_c.specs.declared.values.Allocation.{Allocation}
use Rattle.gtp_c.specs.declared.values.CauseSaid.{CauseSaid}
use Rattle.gtp_c.specs.declared.values.Identity.{Identity}
use Rattle.gtp_c.specs.declared.values.Name.{Name}
use Rattle.gtp_c.specs.declared.values.TotalRates.{TotalRates}
use Rattle.gtp_c.specs.declared.values.Tunnel.{Tunnel}

-- the body of a value is to be written at the front of a buffer, by a value of C's that may be bad
abbrev pub IsBodyWritten : Type 0 → Value → List ℕ → List ℕ → ℕ → ℕ → ℕ → Type 0
IsBodyWritten Bad value old new before size status = IsTextWritten Bad (encoding_of value) old new before size status

-- what is there, where C says so
abbrev pub where_set : {X : Type 0} → ℕ → X → Option X
where_set has value = if has == 0 then None else Some value

-- the first digits, as many as C counts
abbrev pub digits_at : Identity → List ℕ
digits_at t = take t.count t.digits

pub record IsGoodIdentity (t : Identity) : Type 0 where
  pub few : t.count ≤ 15
  pub digits : IsImsi (digits_at t)

-- the first octets, as many as C counts
abbrev pub labels_at : Name → List ℕ
labels_at t = take t.len t.octets

pub record IsGoodName (t : Name) : Type 0 where
  pub few : t.len ≤ 100
  pub labels : IsApn (labels_at t)

abbrev pub offending_at : CauseSaid → Option Offending
offending_at t = where_set t.has_offending (record { kind = t.offending; instance = t.instance })

-- a flag is set where C's is not 0
abbrev pub cause_at : CauseSaid → Cause
cause_at t = record { value = t.value; pce = not (t.pce == 0); bce = not (t.bce == 0); cs = not (t.cs == 0); offending = offending_at t }

-- the instance of the element at fault, where there is one, is below 16
abbrev pub IsGoodCause : CauseSaid → Type 0
IsGoodCause t = t.has_offending ≢ 0 → t.instance < 16

abbrev pub total_at : TotalRates → Ambr
total_at t = record { up = t.up; down = t.down }

abbrev pub allocation_at : Allocation → Paa
allocation_at t = if t.pdn == 1 then V4 t.v4 else (if t.pdn == 2 then V6 t.prefix t.v6 else (if t.pdn == 3 then V4V6 t.prefix t.v6 t.v4 else Other t.pdn))

abbrev pub tunnel_at : Tunnel → TunnelEnd
tunnel_at t = record { interface = t.interface; teid = t.teid; v4 = where_set t.has_v4 t.v4; v6 = where_set t.has_v6 t.v6 }

-- the interface type is below 64, and there is an address
pub record IsGoodTunnel (t : Tunnel) : Type 0 where
  pub interface : t.interface < 64
  pub address : IsTrue (is_some (where_set t.has_v4 t.v4) || is_some (where_set t.has_v6 t.v6))

-- What C is told of the values of elements.
use Rattle.std.specs.Prelude.{◌≡◌, ◌≢◌, ◌↔◌, ℕ, List, [], ◌∷◌, length, take, Option, Some, None}
use Rattle.gtp_ie.specs.Spelling.{Spells, IsShort, IsBad}
use Rattle.gtp_ie.specs.Value.{Value, OfRecovery, OfEbi, OfRat, OfChargingId, OfPdnType, OfPti, OfSelection}
use Rattle.gtp_values.specs.Plmn.{Network}
use Rattle.gtp_values.specs.TunnelEnd.{TunnelEnd}
use Rattle.gtp_values.specs.declared.cause.Cause.{Cause}
use Rattle.gtp_values.specs.declared.cause.Offending.{Offending}
use Rattle.gtp_values.specs.declared.paa.Paa.{Paa}
use Rattle.gtp_values.specs.declared.paa.Paa.TheVariants.{V4, V6, V4V6, Other}
use Rattle.gtp_values.specs.declared.qos.Ambr.{Ambr}
use Rattle.gtp_values.specs.declared.qos.Qos.{Qos}
use Rattle.gtp_c.specs.Common.{flag, IsOneOf}
use Rattle.gtp_c.specs.Sessions.{network_in, quality_at}
use Rattle.gtp_c.specs.declared.session.Quality.{Quality}
use Rattle.gtp_c.specs.declared.values.Allocation.{Allocation}
use Rattle.gtp_c.specs.declared.values.CauseSaid.{CauseSaid}
use Rattle.gtp_c.specs.declared.values.Identity.{Identity}
use Rattle.gtp_c.specs.declared.values.Name.{Name}
use Rattle.gtp_c.specs.declared.values.NetworkCodes.{NetworkCodes}
use Rattle.gtp_c.specs.declared.values.TotalRates.{TotalRates}
use Rattle.gtp_c.specs.declared.values.Tunnel.{Tunnel}

-- the body of an element of this type spells a value, and C is told that one
pub record Says {X Y : Type 0} (kind : ℕ) (of : X → Value) (Is : X → Y → Type 0) (body : List ℕ) (told : Y) : Type 0 where
  pub value : X
  pub spelled : Spells kind body (of value)
  pub is : Is value told

-- A reading of the body of an element of this type: 0 where C is told what it spells; 10 exactly where it is below the least length, and 11 exactly where it is
-- long enough and spells nothing, and then C's struct is as it was; and no other status.
pub record IsTold {X Y : Type 0} (kind : ℕ) (of : X → Value) (Is : X → Y → Type 0) (body : List ℕ) (old new : Y) (status : ℕ) : Type 0 where
  pub value : status ≡ 0 → Says kind of Is body new
  pub kept : status ≢ 0 → new ≡ old
  pub short : (status ≡ 10) ↔ IsShort kind body
  pub bad : (status ≡ 11) ↔ IsBad kind body
  pub known : IsOneOf (0 ∷ 10 ∷ 11 ∷ []) status

-- the digits, as many as there are
pub record IdentityIs (digits : List ℕ) (told : Identity) : Type 0 where
  pub count : told.count ≡ length digits
  pub all : take (length digits) told.digits ≡ digits

-- the octets of the labels, as many as there are
pub record NameIs (octets : List ℕ) (told : Name) : Type 0 where
  pub len : told.len ≡ length octets
  pub all : take (length octets) told.octets ≡ octets

abbrev pub offending_told : ℕ → Option Offending → CauseSaid → Type 0
offending_told value None told = told.has_offending ≡ 0
offending_told value (Some o) told = (told.has_offending ≡ 1) × (told.offending ≡ o.kind) × (told.instance ≡ o.instance)

pub record CauseIs (c : Cause) (told : CauseSaid) : Type 0 where
  pub value : told.value ≡ c.value
  pub pce : told.pce ≡ flag c.pce
  pub bce : told.bce ≡ flag c.bce
  pub cs : told.cs ≡ flag c.cs
  pub offending : offending_told c.value c.offending told

pub record RatesAre (a : Ambr) (told : TotalRates) : Type 0 where
  pub up : told.up ≡ a.up
  pub down : told.down ≡ a.down

abbrev pub QualityIs : Qos → Quality → Type 0
QualityIs qos told = quality_at told ≡ qos

-- the six digits are the network's
abbrev pub NetworkIs : Network → NetworkCodes → Type 0
NetworkIs network told = network_in told.digits ≡ network

abbrev pub AllocationIs : Paa → Allocation → Type 0
AllocationIs (V4 v4) told = (told.pdn ≡ 1) × (told.v4 ≡ v4)
AllocationIs (V6 prefix v6) told = (told.pdn ≡ 2) × (told.prefix ≡ prefix) × (told.v6 ≡ v6)
AllocationIs (V4V6 prefix v6 v4) told = (told.pdn ≡ 3) × (told.prefix ≡ prefix) × (told.v6 ≡ v6) × (told.v4 ≡ v4)
AllocationIs (Other pdn) told = told.pdn ≡ pdn

-- an address that may be missing
abbrev pub AddressIs : Option (List ℕ) → ℕ → List ℕ → Type 0
AddressIs None has octets = has ≡ 0
AddressIs (Some address) has octets = (has ≡ 1) × (octets ≡ address)

pub record TunnelIs (end : TunnelEnd) (told : Tunnel) : Type 0 where
  pub teid : told.teid ≡ end.teid
  pub interface : told.interface ≡ end.interface
  pub v4 : AddressIs end.v4 told.has_v4 told.v4
  pub v6 : AddressIs end.v6 told.has_v6 told.v6

-- a value that is one number
abbrev pub NumberIs : Value → ℕ → Type 0
NumberIs (OfRecovery n) told = told ≡ n
NumberIs (OfEbi n) told = told ≡ n
NumberIs (OfRat n) told = told ≡ n
NumberIs (OfChargingId n) told = told ≡ n
NumberIs (OfPdnType n) told = told ≡ n
NumberIs (OfPti n) told = told ≡ n
NumberIs (OfSelection n) told = told ≡ n
NumberIs value told = ⊥

-- a reading of the body of an element of this type, which spells a number
abbrev pub IsNumberTold : ℕ → List ℕ → ℕ → ℕ → ℕ → Type 0
IsNumberTold kind body old new status = IsTold kind (λ v. v) NumberIs body old new status

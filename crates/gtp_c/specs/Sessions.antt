-- Which session or bearer C's values ask for.
use Rattle.std.specs.Prelude.{◌≡◌, ◌≢◌, ℕ, ◌==◌, ◌<◌, ◌^◌, List, Option, IsSomeAnd, if◌then◌else◌, drop, get_or, take}
use Rattle.gtp_values.specs.Apn.{apn_text, IsApnText}
use Rattle.gtp_values.specs.Ebi.{IsEbi}
use Rattle.gtp_values.specs.Plmn.{Network, IsNetwork}
use Rattle.gtp_values.specs.declared.qos.Qos.{Qos}
use Rattle.gtp_values.specs.declared.qos.Rates.{Rates}
use Rattle.gtp_tables.specs.declared.context.Subscriber.{Subscriber}
use Rattle.gtp_gateway.specs.declared.command.create_session.SessionSpec.{SessionSpec}
use Rattle.gtp_machine.specs.Input.{Create_session}
use Rattle.gtp_gateway.specs.command.CreateSession.{specification}
use Rattle.gtp_c.specs.Bodies.{digits_at, IsGoodIdentity}
use Rattle.gtp_c.specs.declared.values.Identity.{Identity}
use Rattle.gtp_c.specs.Handles.{Goes, Stays}
use Rattle.gtp_c.specs.Statuses.{HasStatus, command_statuses, CommandMayRunOut}
use Rattle.gtp_c.specs.Steps.{HasBegun, IsRefused}
use Rattle.gtp_c.specs.declared.gateway_with_queue.GatewayWithQueue.{GatewayWithQueue}
use Rattle.gtp_c.specs.declared.told.Told.{Told}
use Rattle.gtp_c.specs.declared.session.Quality.{Quality}
use Rattle.gtp_c.specs.declared.session.Session.{Session}

abbrev pub rates_at : ℕ → ℕ → Rates
rates_at up down = record { up = up; down = down }

abbrev pub quality_at : Quality → Qos
quality_at q = record { pci = q.pci; pl = q.pl; pvi = q.pvi; qci = q.qci; mbr = rates_at q.mbr_up q.mbr_down; gbr = rates_at q.gbr_up q.gbr_down }

-- the second code has two digits where the last of the six is 15
abbrev pub code_length : ℕ → ℕ
code_length last = if last == 15 then 2 else 3

-- the network with these six digits
abbrev pub network_in : List ℕ → Network
network_in digits = record { mcc = take 3 digits; mnc = take (code_length (get_or digits 5 0)) (drop 3 digits) }

-- each rate is below 2^40 kilobits a second, and the priority level below 16
pub record IsGoodQuality (q : Quality) : Type 0 where
  pub mbr_up : q.mbr_up < 2 ^ 40
  pub mbr_down : q.mbr_down < 2 ^ 40
  pub gbr_up : q.gbr_up < 2 ^ 40
  pub gbr_down : q.gbr_down < 2 ^ 40
  pub pl : q.pl < 16

-- the digits are those of an IMSI, the text is that of an access point, and each number is in its range
pub record IsGoodSession (c : Session) (imsi : Identity) (access_point : List ℕ) : Type 0 where
  pub imsi_is : IsGoodIdentity imsi
  pub access_point_is : IsApnText access_point
  pub identity : IsEbi c.identity
  pub network : IsNetwork (network_in c.network)
  pub quality : IsGoodQuality c.quality
  pub selection : c.selection < 4
  pub pdn : c.pdn < 8

-- the identity is this number, the IMSI has these digits, and the text writes the access point
pub record IsSubscriber (identity : ℕ) (imsi : Identity) (access_point : List ℕ) (s : Subscriber) : Type 0 where
  pub identity_is : s.identity ≡ identity
  pub imsi_reads : s.imsi ≡ digits_at imsi
  pub access_point_reads : apn_text s.access_point ≡ access_point

-- the session is asked for with C's values
pub record IsSpecified (c : Session) (imsi : Identity) (access_point : List ℕ) (s : SessionSpec) : Type 0 where
  pub subscriber : IsSubscriber c.identity imsi access_point s.subscriber
  pub network : s.plmn ≡ network_in c.network
  pub rat : s.rat.0 ≡ c.rat
  pub selection : s.selection.0 ≡ c.selection
  pub pdn : s.pdn.0 ≡ c.pdn
  pub ambr_up : s.ambr.up ≡ c.ambr_up
  pub ambr_down : s.ambr.down ≡ c.ambr_down
  pub quality : s.qos ≡ quality_at c.quality

-- a session was begun, as C's values ask
pub record Creates (c : Session) (imsi : Identity) (access_point : List ℕ) (told : Told) (old new : GatewayWithQueue) : Type 0 where
  pub spec : SessionSpec
  pub is : IsSpecified c imsi access_point spec
  pub begun : HasBegun (Create_session (specification spec)) told old new

-- a session that C's values ask for was refused
pub record IsCreationRefused (c : Session) (imsi : Identity) (access_point : List ℕ) (told : Told) (old new : GatewayWithQueue) : Type 0 where
  pub spec : SessionSpec
  pub is : IsSpecified c imsi access_point spec
  pub refused : IsRefused (Create_session (specification spec)) told old new

-- memory may run out over a session that C's values ask for
pub record CreationMayRunOut (c : Session) (imsi : Identity) (access_point : List ℕ) (d : GatewayWithQueue) : Type 0 where
  pub spec : SessionSpec
  pub is : IsSpecified c imsi access_point spec
  pub may : CommandMayRunOut (Create_session (specification spec)) d

-- A session is asked for with C's values, which may be bad: as of any command (`IsCommanded`).
pub record IsSessionAsked (c : Session) (imsi : Identity) (access_point : List ℕ) (before told : Told) (old new : Option GatewayWithQueue) (status : ℕ) : Type 0 where
  pub done : status ≡ 0 → Goes (Creates c imsi access_point told) old new
  pub refused : status ≡ 6 → Goes (IsCreationRefused c imsi access_point told) old new
  pub kept : status ≢ 0 → Stays old new
  pub untold : status ≢ 0 → status ≢ 6 → told ≡ before
  pub has : HasStatus command_statuses (¬ IsGoodSession c imsi access_point) old status
  pub memory : status ≡ 2 → IsSomeAnd old (CreationMayRunOut c imsi access_point)

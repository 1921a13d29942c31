-- What a gateway chooses for what it makes on a request: of what is free, the lowest.
use Rattle.std.specs.Prelude.{◌≡◌, ℕ, List, Bool, true, false, Some, None}
use Rattle.std.specs.FinMap.{get, insert}
use Rattle.gtp_values.specs.FiniteMap.{FiniteMap}
use Rattle.gtp_values.specs.PdnAddress.{PdnAddress}
use Rattle.gtp_tables.specs.declared.pool.IpVersion.{IpVersion}
use Rattle.gtp_tables.specs.Free.{IsLowestFree}
use Rattle.gtp_tables.specs.Identity.{IsLowestUnused}
use Rattle.gtp_tables.specs.Part.{part_of}
use Rattle.gtp_machine.specs.Node.{Session, Bearer, Node}
use Rattle.gtp_machine.specs.declared.role.Role.{Role}
use Rattle.gtp_machine.specs.declared.role.Role.TheVariants.{Serving, Packet}
use Rattle.gtp_gateway.specs.declared.receive.BeforeReading.{BeforeReading}
use Rattle.gtp_gateway.specs.declared.receive.BeforeReading.TheVariants.{Settled, New}

-- a session was made, beside all the others: it has an address, and of each version that this has, the lowest address of the pool that none of them has
pub record MakesLowestSession (old new : Node) : Type 0 where
  pub teid : ℕ
  pub session : Session
  pub others : FiniteMap Session
  pub address : PdnAddress
  pub sessions : new.sessions ≡ insert others teid session
  pub beside : get others teid ≡ None
  pub before : get old.sessions teid ≡ None
  pub has : session.address ≡ Some address
  pub lowest : (version : IpVersion) (part : List ℕ) → part_of version session.address ≡ Some part → IsLowestFree version others old.config.pools part

-- a bearer was made, beside all the others: it has the lowest identity that none of its session has
pub record MakesLowestBearer (old new : Node) : Type 0 where
  pub teid : ℕ
  pub bearer : Bearer
  pub others : FiniteMap Bearer
  pub identity : ℕ
  pub bearers : new.bearers ≡ insert others teid bearer
  pub beside : get others teid ≡ None
  pub before : get old.bearers teid ≡ None
  pub has : bearer.identity ≡ Some identity
  pub lowest : IsLowestUnused others bearer.session identity

-- what is made on a request: by the packet gateway a session, and by the serving gateway a bearer
abbrev pub MakesLowest : Role → Node → Node → Type 0
MakesLowest Packet old new = MakesLowestSession old new
MakesLowest Serving old new = MakesLowestBearer old new

-- where something was made
abbrev pub ChoosesLowest : Bool → Role → Node → Node → Type 0
ChoosesLowest made role old new = made ≡ true → MakesLowest role old new

-- nothing was made before the datagram is read
abbrev pub MadeNothing : BeforeReading → Type 0
MadeNothing (Settled step) = step.report.made ≡ false
MadeNothing New = Unit {0}

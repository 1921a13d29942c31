-- What is free to be chosen, and what is full.
use Rattle.std.specs.Prelude.{◌≡◌, ◌≢◌, ◌⊎◌, ℕ, ◌+◌, ◌/◌, ◌%◌, ◌^◌, ◌<◌, ◌≤◌, ◌==◌, ◌||◌, List, true, Option, Some, None, is_some, IsTrue, length}
use Rattle.std.specs.FinMap.{get, len}
use Rattle.gtp_values.specs.FiniteMap.{Among}
use Rattle.gtp_tables.specs.declared.pool.Asked.{Asked}
use Rattle.gtp_tables.specs.declared.pool.IpVersion.{IpVersion}
use Rattle.gtp_tables.specs.declared.pool.IpVersion.TheVariants.{V4, V6}
use Rattle.gtp_tables.specs.Free.{count_of, address_at, IsUnusedAddress, asks_for}
use Rattle.gtp_machine.specs.Config.{Config}
use Rattle.gtp_machine.specs.Element.{PdnAddress}
use Rattle.gtp_machine.specs.Node.{Session, Bearer, PendingRequest, Node}

-- the restart counter in a TEID, its first octet
abbrev pub counter_of : ℕ → ℕ
counter_of t = t / 2 ^ 24

-- t may be drawn: its first octet is the counter, the rest is not 0, and it was not drawn since the start
pub record IsFree (node : Node) (t : ℕ) : Type 0 where
  pub counted : counter_of t ≡ node.counter
  pub numbered : 0 < t % 2 ^ 24
  pub undrawn : Among t node.drawn → ⊥

-- so many TEIDs may still be drawn
pub record HasDraws (node : Node) (n : ℕ) : Type 0 where
  pub left : length node.drawn + n ≤ 16777215

-- no pending request has this sequence number (7.6), which a gateway takes from 0 to 8,388,607
pub record IsFreeNumber (node : Node) (number : ℕ) : Type 0 where
  pub unused : get node.pending number ≡ None
  pub small : number ≤ 8388607

-- an address of the pool of this version that no session has
pub record IsFreeAddress (node : Node) (version : IpVersion) (address : List ℕ) : Type 0 where
  pub place : ℕ
  pub in_pool : place < count_of node.config.pools version
  pub is : address ≡ address_at node.config.pools version place
  pub unused : IsUnusedAddress version node.sessions address

-- the pool of this version has a free address
pub record HasFreeAddress (node : Node) (version : IpVersion) : Type 0 where
  pub address : List ℕ
  pub free : IsFreeAddress node version address

-- what a PDN type (8.34) asks for: 1 and 3 an address of version 4, 2 and 3 one of version 6
abbrev pub asked_by : ℕ → Asked
asked_by pdn = record { v4 = (pdn == 1) || (pdn == 3); v6 = (pdn == 2) || (pdn == 3) }

-- the PDN type asks for an address of this version
abbrev pub AsksFor : ℕ → IpVersion → Type 0
AsksFor pdn version = asks_for (asked_by pdn) version ≡ true

-- What is given of this version (TS 23.401, 5.3.1.1): a free address where it is asked for and there is one, and else none.
abbrev pub IsPart : Node → ℕ → IpVersion → Option (List ℕ) → Type 0
IsPart node pdn version None = AsksFor pdn version × HasFreeAddress node version → ⊥
IsPart node pdn version (Some address) = AsksFor pdn version × IsFreeAddress node version address

-- The address of a session of this PDN type: any free one of each version that is asked for and can be had; one can.
pub record IsGiven (node : Node) (pdn : ℕ) (address : PdnAddress) : Type 0 where
  pub v4 : IsPart node pdn V4 address.v4
  pub v6 : IsPart node pdn V6 address.v6
  pub some_part : IsTrue (is_some address.v4 || is_some address.v6)

-- an address of the PDN type can be had
pub record CanGive (node : Node) (pdn : ℕ) : Type 0 where
  pub version : IpVersion
  pub asked : AsksFor pdn version
  pub free : HasFreeAddress node version

-- the PDN types that are served: IPv4, IPv4v6, and IPv6 where the gateway has addresses of it
abbrev pub IsServed : Config → ℕ → Type 0
IsServed config pdn = (pdn ≡ 1) ⊎ ((pdn ≡ 3) ⊎ ((pdn ≡ 2) × (0 < config.pools.v6.count)))

-- an EPS bearer identity that bearers have here: 5 to 15
pub record IsIdentity (identity : ℕ) : Type 0 where
  pub low : 5 ≤ identity
  pub high : identity ≤ 15

-- no bearer of the session has the identity
abbrev pub IsUnused : Node → ℕ → ℕ → Type 0
IsUnused node session identity = (t : ℕ) (b : Bearer) → get node.bearers t ≡ Some b → b.session ≡ session → b.identity ≢ Some identity

-- an identity that a new bearer of the session may have
pub record IsFreeIdentity (node : Node) (session identity : ℕ) : Type 0 where
  pub range : IsIdentity identity
  pub unused : IsUnused node session identity

-- the session has a free identity
pub record HasFreeIdentity (node : Node) (session : ℕ) : Type 0 where
  pub identity : ℕ
  pub free : IsFreeIdentity node session identity

-- one more session may be made: at most 1,000
pub record HasSessionRoom (node : Node) : Type 0 where
  pub few : len node.sessions < 1000

-- one more request may wait: at most 256
pub record HasPendingRoom (node : Node) : Type 0 where
  pub few : len node.pending < 256

-- one more answer may be held: at most 4,096
pub record HasHeldRoom (node : Node) : Type 0 where
  pub few : length node.held < 4096

-- the gateway has a session under this TEID
pub record HasSession (node : Node) (t : ℕ) : Type 0 where
  pub session : Session
  pub stands : get node.sessions t ≡ Some session

-- the gateway has a bearer under this TEID
pub record HasBearer (node : Node) (t : ℕ) : Type 0 where
  pub bearer : Bearer
  pub stands : get node.bearers t ≡ Some bearer

-- a request waits under this number
pub record HasPending (node : Node) (number : ℕ) : Type 0 where
  pub pending : PendingRequest
  pub waits : get node.pending number ≡ Some pending

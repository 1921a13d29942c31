-- One gateway as it stands.
use Rattle.std.specs.Prelude.{ℕ, List, [], ◌∷◌, ◌++◌, Option, None}
use Rattle.std.specs.FinMap.{empty}
use Rattle.gtp_values.specs.declared.address.Endpoint.{Endpoint}
use Rattle.gtp_values.specs.FiniteMap.{FiniteMap}
use Rattle.gtp_machine.specs.Message.{Message}
use Rattle.gtp_machine.specs.Config.{Config}
pub use Rattle.gtp_machine.specs.Element.{written}
pub use Rattle.gtp_machine.specs.declared.role.Role.{Role}
pub use Rattle.gtp_machine.specs.declared.role.Role.TheVariants.{Serving, Packet}
pub use Rattle.gtp_tables.specs.declared.context.State.{State}
pub use Rattle.gtp_tables.specs.declared.context.State.TheVariants.{Pending, Active, Closing}
pub use Rattle.gtp_tables.specs.declared.context.Session.{Session}
pub use Rattle.gtp_tables.specs.declared.context.Kind.{Kind}
pub use Rattle.gtp_tables.specs.declared.context.Kind.TheVariants.{Default, Dedicated}
pub use Rattle.gtp_tables.specs.declared.context.Bearer.{Bearer}

-- sessions and bearers are those of the tables, each under the gateway's own TEID

-- a request that waits for its answer, and the session and bearer that it is about; an Echo Request is about none
pub record PendingRequest : Type 0 where
  pub session : Option ℕ
  pub bearer : Option ℕ
  pub request : Message

-- a request as it came: from where, and its octets
pub record Arrival : Type 0 where
  pub source : Endpoint
  pub octets : List ℕ

-- an answer that was given, as one datagram, with the request that it answers
pub record Held : Type 0 where
  pub request : Arrival
  pub answer : List Message

-- a gateway: what it keeps
pub record Node : Type 0 where
  pub config : Config
  pub counter : ℕ  -- its restart counter, one more with each start, modulo 256
  pub drawn : List ℕ  -- the TEIDs drawn since it started
  pub known : Option ℕ  -- the latest restart counter heard from the peer
  pub sessions : FiniteMap Session  -- by own TEID
  pub bearers : FiniteMap Bearer  -- by own TEID
  pub pending : FiniteMap PendingRequest  -- by sequence number
  pub held : List Held  -- in the order in which they were given

-- a gateway that has just started
abbrev pub fresh_node : Config → ℕ → Node
fresh_node config counter =
    record { config = config; counter = counter; drawn = []; known = None; sessions = empty; bearers = empty; pending = empty; held = [] }

-- a gateway that holds one more answer, after the others
abbrev pub holding : Arrival → List Message → Node → Node
holding request answer node = record node { held = node.held ++ (record { request = request; answer = answer } ∷ []) }

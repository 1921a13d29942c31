-- Contexts of both gateways that name each other.
use Rattle.std.specs.Prelude.{◌≡◌, ℕ, nat_eq, if◌then◌else◌, List, ◌++◌, Option, Some, None, option_map, option_and_then}
use Rattle.std.specs.FinMap.{get, entries}
use Rattle.std.specs.List.{filter_map}
use Rattle.gtp_values.specs.FiniteMap.{FiniteMap}
use Rattle.gtp_tables.specs.declared.context.State.{State}
use Rattle.gtp_machine.specs.Node.{Node, Session, Bearer, Active}
use Rattle.gtp_machine.specs.Safety.{MutualSessions, MutualBearers, Agree}
use Rattle.gtp_world.specs.Record.{WorldRecord}
use Rattle.gtp_world.specs.declared.mutual.Mutual.{Mutual}
use Rattle.gtp_world.specs.declared.mutual.Mutual.TheVariants as kinds

-- a session of each gateway, or a bearer of each, by own TEIDs: the serving gateway's first
pub data Pair : Type 0 where
  Sessions : ℕ → ℕ → Pair
  Bearers : ℕ → ℕ → Pair

abbrev pub pair_of : Mutual → Pair
pair_of (kinds.Session serving packet) = Sessions serving packet
pair_of (kinds.Bearer serving packet) = Bearers serving packet

-- the TEID that an active context has for its peer's
abbrev pub leads_to : State → Option ℕ → Option ℕ
leads_to Active remote = remote
leads_to state remote = None

-- that TEID, where the context under it leads back
abbrev pub back_from : ℕ → ℕ → Option ℕ → Option ℕ
back_from own there None = None
back_from own there (Some back) = if nat_eq back own then Some there else None

-- the TEID of the other gateway's context that this one leads to, and that leads back
abbrev pub partner : {X : Type 0} → (X → Option ℕ) → FiniteMap X → ℕ → X → Option ℕ
partner leads others own x = option_and_then (λ there. back_from own there (option_and_then leads (get others there))) (leads x)

abbrev pub session_leads : Session → Option ℕ
session_leads s = leads_to s.state s.remote

abbrev pub bearer_leads : Bearer → Option ℕ
bearer_leads b = leads_to b.state b.remote

-- the pairs of one kind, of contexts that lead to each other
abbrev pub pairs_of : {X : Type 0} → (X → Option ℕ) → (ℕ → ℕ → Pair) → FiniteMap X → List (ℕ × X) → List Pair
pairs_of leads pair others es = filter_map (λ e. option_map (pair e.0) (partner leads others e.0 e.1)) es

abbrev pub session_pairs : FiniteMap Session → List (ℕ × Session) → List Pair
session_pairs others sessions = pairs_of session_leads Sessions others sessions

abbrev pub bearer_pairs : FiniteMap Bearer → List (ℕ × Bearer) → List Pair
bearer_pairs others bearers = pairs_of bearer_leads Bearers others bearers

-- sessions before bearers, each in order of the serving gateway's TEIDs
abbrev pub mutual_pairs : WorldRecord → List Pair
mutual_pairs v = session_pairs v.packet.state.node.sessions (entries v.serving.state.node.sessions) ++ bearer_pairs v.packet.state.node.bearers (entries v.serving.state.node.bearers)

-- the contexts are there, active, and name each other
abbrev pub NameEachOther : WorldRecord → Pair → Type 0
NameEachOther v (Sessions c d) = (s p : Session) × MutualSessions v.serving.state.node v.packet.state.node c d s p
NameEachOther v (Bearers c d) = (s p : Bearer) × MutualBearers v.serving.state.node v.packet.state.node c d s p

-- a session of each gateway, with the same subscriber, access point, default identity and address
pub record AgreeingSessions (serving packet : Node) (c d : ℕ) : Type 0 where
  pub at_serving : Session
  pub at_packet : Session
  pub here : get serving.sessions c ≡ Some at_serving
  pub there : get packet.sessions d ≡ Some at_packet
  pub agree : Agree at_serving at_packet

-- a bearer of each gateway, with the same identity, and of sessions that agree
pub record AgreeingBearers (serving packet : Node) (c d : ℕ) : Type 0 where
  pub at_serving : Bearer
  pub at_packet : Bearer
  pub here : get serving.bearers c ≡ Some at_serving
  pub there : get packet.bearers d ≡ Some at_packet
  pub identity : at_serving.identity ≡ at_packet.identity
  pub sessions : AgreeingSessions serving packet at_serving.session at_packet.session

-- the contexts are there, and agree
abbrev pub AgreeAt : Node → Node → Pair → Type 0
AgreeAt serving packet (Sessions c d) = AgreeingSessions serving packet c d
AgreeAt serving packet (Bearers c d) = AgreeingBearers serving packet c d

abbrev pub DoAgree : WorldRecord → Pair → Type 0
DoAgree v pair = AgreeAt v.serving.state.node v.packet.state.node pair

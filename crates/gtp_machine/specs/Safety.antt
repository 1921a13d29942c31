-- Tunnel safety, of what a world shows: the node of each gateway and the counters that it has heard since it started; the packets
-- that were handed in and those that were accepted, and by which gateway; and how many deliveries were late.
use Rattle.std.specs.Prelude.{◌≡◌, ℕ, List, Some}
use Rattle.std.specs.FinMap.{get}
use Rattle.gtp_values.specs.Counter.{age_of}
use Rattle.gtp_values.specs.declared.counter.Age.TheVariants.{Later}
use Rattle.gtp_values.specs.FiniteMap.{Among}
use Rattle.gtp_machine.specs.Choice.{counter_of}
use Rattle.gtp_machine.specs.Input.{Entry}
use Rattle.gtp_machine.specs.Node.{Node, Role, Active, Session, Bearer}
use Rattle.gtp_machine.specs.World.{By, HasBy, other}

-- a session of each gateway, both active, each under the TEID that the other has for it
pub record MutualSessions (serving_node packet_node : Node) (c d : ℕ) (at_serving at_packet : Session) : Type 0 where
  pub serving : get serving_node.sessions c ≡ Some at_serving
  pub packet : get packet_node.sessions d ≡ Some at_packet
  pub serving_active : at_serving.state ≡ Active
  pub packet_active : at_packet.state ≡ Active
  pub there : at_serving.remote ≡ Some d
  pub back : at_packet.remote ≡ Some c

-- the same subscriber, access point, default identity and address
pub record Agree (c d : Session) : Type 0 where
  pub imsi : c.subscriber.imsi ≡ d.subscriber.imsi
  pub access_point : c.subscriber.access_point ≡ d.subscriber.access_point
  pub identity : c.subscriber.identity ≡ d.subscriber.identity
  pub address : c.address ≡ d.address

-- sessions that name each other agree
abbrev pub SessionsAgree : Node → Node → Type 0
SessionsAgree serving packet =
    (c d : ℕ) (at_serving at_packet : Session) → MutualSessions serving packet c d at_serving at_packet →
    Agree at_serving at_packet

-- a bearer of each gateway, both active, each under the TEID that the other has for it
pub record MutualBearers (serving_node packet_node : Node) (c d : ℕ) (at_serving at_packet : Bearer) : Type 0 where
  pub serving : get serving_node.bearers c ≡ Some at_serving
  pub packet : get packet_node.bearers d ≡ Some at_packet
  pub serving_active : at_serving.state ≡ Active
  pub packet_active : at_packet.state ≡ Active
  pub there : at_serving.remote ≡ Some d
  pub back : at_packet.remote ≡ Some c

-- the same identity, and sessions that agree
pub record AgreeBearers (serving packet : Node) (c d : Bearer) : Type 0 where
  pub identity : c.identity ≡ d.identity
  pub at_serving : Session
  pub at_packet : Session
  pub here : get serving.sessions c.session ≡ Some at_serving
  pub there : get packet.sessions d.session ≡ Some at_packet
  pub sessions : Agree at_serving at_packet

-- bearers that name each other agree
abbrev pub BearersAgree : Node → Node → Type 0
BearersAgree serving packet =
    (c d : ℕ) (at_serving at_packet : Bearer) → MutualBearers serving packet c d at_serving at_packet →
    AgreeBearers serving packet at_serving at_packet

-- an accepted packet is owed: it was handed in at the other gateway, octet for octet, for the same target, subscriber, access point and identity
abbrev pub IsOwed : List (By Entry) → Role → Entry → Type 0
IsOwed handed role entry = HasBy handed (other role) entry

-- where no delivery was late, each packet that was accepted is owed
abbrev pub EachOwed : ℕ → List (By Entry) → List (By Entry) → Type 0
EachOwed late handed accepted = late ≡ 0 → (role : Role) (entry : Entry) → HasBy accepted role entry → IsOwed handed role entry

-- the session has a remote whose counter is earlier than one of those that its gateway has heard
pub record OutlivesRestart (heard : List ℕ) (s : Session) : Type 0 where
  pub remote : ℕ
  pub has : s.remote ≡ Some remote
  pub counter : ℕ
  pub was_heard : Among counter heard
  pub heard_is_later : age_of (counter_of remote) counter ≡ Later

-- no session outlives a restart of the peer that its gateway has heard of
abbrev pub NoneOutlivesRestart : Node → List ℕ → Type 0
NoneOutlivesRestart node heard = (t : ℕ) (s : Session) → get node.sessions t ≡ Some s → OutlivesRestart heard s → ⊥
